use Rattle.std.proofs.Common.{true, false, subst}
use Rattle.std.proofs.lemmas.Result.{IfOk-weaker}
use Rattle.vacation_core.specs.Running.{Abandons}
use Rattle.vacation_core.proofs.NextSessionLemmas.{ends_then, gives_up_then, refusing_of}
use Rattle.vacation_core.proofs.world.VacWorld.hear_mistake.Goals as goal

pub returns-then-gives_up : goal.returns-then-gives_up
returns-then-gives_up c = λ p x.
    let u = c.give_up.new.self in
    let g : Abandons c.args.i c.args.cause p true u =
    subst (λ b. Abandons c.args.i c.args.cause p b u) c.if-gives_up.true
    (c.in_ok-gives_up.ensures.ok p (refusing_of c.args.i c.args.actor c.args.cause c.args.self.now p x)) in
    gives_up_then c.args.i c.args.actor c.args.cause u p g

pub returns : goal.returns
returns c =
    let u = c.give_up.new.self in
    IfOk-weaker c.end_refused.result _ _ (λ _ h p x.
    let g : Abandons c.args.i c.args.cause p false u =
    subst (λ b. Abandons c.args.i c.args.cause p b u) c.if-gives_up.false
    (c.in_ok-gives_up.ensures.ok p (refusing_of c.args.i c.args.actor c.args.cause c.args.self.now p x)) in
    ends_then c.args.i c.args.actor c.args.cause c.end_refused.new.self p g.0 (h p g.0 g.1)) c.end_refused.ensures
