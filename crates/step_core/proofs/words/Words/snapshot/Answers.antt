use Rattle.std.proofs.Common.{ℕ, Option, sym, subst}
use Rattle.std.specs.Prelude.{IfSome}
use Rattle.step_core.specs.Shown.{Shown, shown, actor_in}
use Rattle.step_core.specs.Opaque.{Saw}
use Rattle.step_core.proofs.Laws.{snapshot_saw}
use Rattle.step_core.proofs.words.Words.snapshot.Goals as goal

pub returns-then-a-len-clause-saw : goal.returns-then-a-len-clause-saw
returns-then-a-len-clause-saw c =
    let v : Shown = shown c.self.inside.machine in
    subst (λ (z : Shown). IfSome c.snapshot.result (λ rv. Saw z c.args.actor rv)) c.self.view_is
    (subst (λ (o : Option ℕ). IfSome o (λ rv. Saw v c.args.actor rv)) (sym c.snapshot.ensures)
    (snapshot_saw v c.args.actor (actor_in v c.args.actor).place))
