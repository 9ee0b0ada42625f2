use Rattle.std.proofs.Common.{◌≡◌, ◌++◌, ◌∷◌, [], true, ap, ◌∙◌, sym}
use Rattle.std.specs.declared.alloc.Global.{Global}
use Rattle.std.specs.declared.vec.Vec.{Vec}
use Rattle.tx_actor.specs.Running.{stage_of}
use Rattle.shared_table.specs.Seated.{actor, view}
use Rattle.tx_actor.proofs.StepLemmas.{first_is}
use Rattle.tx_turns.proofs.FirstLemmas.{first_commits}
use Rattle.tx_turns.proofs.words.commit.Goals as goal

pub returns-clause-gains : goal.returns-clause-gains
returns-clause-gains g c =
    let a = actor c.args.seat.now in
    let r = c.args.actor.now in
    let first = first_is (stage_of r.stage) c.requires.due in
    let e = first_commits a r r.stage first.0 first.1 in
    let made : c.from_vec-calls.result ≡ r.calls.items =
    c.from_vec-calls.ensures ∙ (ap (λ (v : Vec _ Global). v.items) c.replace.ensures.value ∙ c.in_ok-told.ensures.made) in
    c.in_ok-told.ensures.turned.gains
    ∙ (λ i. (view c.args.seat.now).receipts ++ e i)
    ∙ (λ i. (view c.args.seat.now).receipts ++ (a, record { number = r.wv; writes = true; calls = sym made i }) ∷ [])
