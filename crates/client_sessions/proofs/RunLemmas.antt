-- A run of sessions is their actions, one after another. By induction on the records: the first session, from the state of balanced tables,
-- answered what its action answers and left the state of the action's tables, which are balanced again. The records up to a number are the
-- first ones of a run in commit order: where a record has a greater number, so have all after it.
use Rattle.std.proofs.Common.{◌≡◌, ℕ, ◌<◌, ◌≤◌, Bool, true, false, cond, List, [], ◌∷◌, refl, sym, ◌∙◌, ap, subst, arith}
use Rattle.std.specs.Prelude.{filter, nat_le}
use Rattle.std.proofs.lemmas.Bool.Decides.{nat_tests}
use Rattle.seq_model.specs.declared.call.Call.{Call}
use Rattle.seq_model.specs.declared.call.Reply.{Reply}
use Rattle.seq_model.specs.declared.record.Record.{Record}
use Rattle.seq_model.specs.Contents.{Contents}
use Rattle.seq_model.specs.Runs.{IsLegal, IsRun, NoneComesBefore, after_calls, after_run, comes_before}
use Rattle.vac_model.specs.Actions.{action_of}
use Rattle.vac_model.specs.Balanced.{IsBalanced}
use Rattle.vac_model.specs.Holdings.{Holdings}
use Rattle.vac_model.proofs.UpdateLemmas.{actions_keep_balance}
use Rattle.client_sessions.specs.declared.entry.Entry.{Entry}
use Rattle.client_sessions.specs.Holding.{state_of}
use Rattle.client_sessions.specs.Runs.{AreActions, Deal, EachNumberHoldsTables, HoldsBalanced, IsSession, NoneGivesUp, RunsAreActions}
use Rattle.client_sessions.proofs.SessionLemmas.{ends_as_action, never_gives_up}

-- one session, and the tables after it
session_done : (d : Deal) (calls : List (Call Entry × Reply Entry)) (s : Holdings) → IsBalanced s → IsSession d calls
    → IsLegal calls (state_of s)
    → (d.1 ≡ (action_of d.0 s).0) × (after_calls calls (state_of s) ≡ state_of (action_of d.0 s).1)
session_done d calls s b is legal = ends_as_action d.0 s calls d.1 is.allowed b (is.whole, legal)

pub runs_are_actions : RunsAreActions
runs_are_actions [] [] s b are run = record { done = tt; left = refl; balanced = b }
runs_are_actions [] (r ∷ rs) s b are run = absurd are
runs_are_actions (d ∷ ds) [] s b are run = absurd are
runs_are_actions (d ∷ ds) (r ∷ rs) s b are run =
    let first = session_done d r.1.calls s b are.0 run.0 in
    let kept : IsBalanced (action_of d.0 s).1 = actions_keep_balance d.0 s are.0.allowed b in
    let rest : AreActions ds rs (action_of d.0 s).1 =
    runs_are_actions ds rs (action_of d.0 s).1 kept are.1 (subst (IsRun rs) first.1 run.1) in
    record { done = (first.0, rest.done); left = ap (after_run rs) first.1 ∙ rest.left; balanced = rest.balanced }

-- ---- the records up to a number

abbrev pub up_to : ℕ → List (ℕ × Record Entry) → List (ℕ × Record Entry)
up_to n rs = filter (λ r. nat_le r.1.number n) rs

not_below : (x r : ℕ × Record Entry) → comes_before x r ≡ false → r.1.number ≤ x.1.number
not_below x r h = grind (arith, nat_tests)

none_up_to : (n : ℕ) (r : ℕ × Record Entry) (rs : List (ℕ × Record Entry)) → NoneComesBefore r rs → n < r.1.number → up_to n rs ≡ []
none_up_to n r [] none above = refl
none_up_to n r (x ∷ xs) none above =
    let later : r.1.number ≤ x.1.number = not_below x r none.0 in
    let beyond : nat_le x.1.number n ≡ false = grind (arith, nat_tests) in
    ap (λ c. cond c (x ∷ up_to n xs) (up_to n xs)) beyond ∙ none_up_to n r xs none.1 above

holds_both : (c : Bool) (one other : List (ℕ × Record Entry)) (s : Contents Entry) → (c ≡ true → HoldsBalanced (after_run one s))
    → (c ≡ false → HoldsBalanced (after_run other s)) → HoldsBalanced (after_run (cond c one other) s)
holds_both true one other s here there = here refl
holds_both false one other s here there = there refl

pub each_number_holds_tables : EachNumberHoldsTables
each_number_holds_tables [] [] s n b are ordered run = record { tables = s; balanced = b; are = refl }
each_number_holds_tables [] (r ∷ rs) s n b are ordered run = absurd are
each_number_holds_tables (d ∷ ds) [] s n b are ordered run = absurd are
each_number_holds_tables (d ∷ ds) (r ∷ rs) s n b are ordered run =
    let first = session_done d r.1.calls s b are.0 run.0 in
    let kept : IsBalanced (action_of d.0 s).1 = actions_keep_balance d.0 s are.0.allowed b in
    let behind : HoldsBalanced (after_run (up_to n rs) (state_of (action_of d.0 s).1)) =
    each_number_holds_tables ds rs (action_of d.0 s).1 n kept are.1 ordered.1 (subst (IsRun rs) first.1 run.1) in
    holds_both (nat_le r.1.number n) (r ∷ up_to n rs) (up_to n rs) (state_of s)
    (λ _. subst (λ t. HoldsBalanced (after_run (up_to n rs) t)) (sym first.1) behind)
    (λ late.
    let above : n < r.1.number = grind (arith, nat_tests) in
    subst (λ qs. HoldsBalanced (after_run qs (state_of s))) (sym (none_up_to n r rs ordered.0 above))
    (record { tables = s; balanced = b; are = refl }))

pub none_gives_up : NoneGivesUp
none_gives_up deals records s n action calls b are ordered run under =
    let at = each_number_holds_tables deals records s n b are ordered run in
    never_gives_up action at.tables calls under.allowed at.balanced (under.follows, subst (IsLegal calls) at.are under.saw)
