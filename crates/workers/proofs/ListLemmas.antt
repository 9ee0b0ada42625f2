-- Lists of actions, one by one.
-- A list of those that are allowed is allowed (`list_at`), and once all have been looked at all are (`all_looked_at`).
use Rattle.std.proofs.Common.{◌≡◌, ℕ, ◌<◌, ◌≤◌, List, length, sym, ◌∙◌, ap, subst, take}
use Rattle.std.proofs.lemmas.List.{get_or-map, length-map, take_all}
use Rattle.std.specs.Prelude.{All, get_or}
use Rattle.std.specs.declared.alloc.Global.{Global}
use Rattle.std.specs.declared.vec.Vec.{Vec}
use Rattle.vac_model.specs.declared.action.Action.{Action}
use Rattle.vac_model.specs.Actions.{IsAllowed}
use Rattle.job_workers.specs.Reports.{jobs_of}
use Rattle.workers.specs.Serving.{AreAllowed}

abbrev Actions : Type 0
Actions = Vec Action Global

pub list_at : (lists : List Actions) (i : ℕ) (list : Actions) → i < length lists → list ≡ get_or lists i list → AreAllowed (jobs_of lists)
    → All IsAllowed list.items
list_at lists i list lt at all =
    let items : Actions → List Action = λ l. l.items in
    subst (λ (xs : List Action). All IsAllowed xs) (get_or-map items lists i list list.items lt ∙ ap items (sym at))
    (all i list.items (subst (λ n. i < n) (sym (length-map lists items)) lt))

pub all_looked_at : (lists : List Actions) (n : ℕ) → length lists ≤ n → AreAllowed (jobs_of (take n lists)) → AreAllowed (jobs_of lists)
all_looked_at lists n most all = subst (λ (ls : List Actions). AreAllowed (jobs_of ls)) (take_all n lists most) all

-- lists with the same jobs are as many
pub as_many : {J : Type 0} (xs ys : List (Vec J Global)) → jobs_of xs ≡ jobs_of ys → length xs ≡ length ys
as_many {J} xs ys same =
    sym (length-map xs (λ (list : Vec J Global). list.items)) ∙ (ap length same ∙ length-map ys (λ (list : Vec J Global). list.items))
