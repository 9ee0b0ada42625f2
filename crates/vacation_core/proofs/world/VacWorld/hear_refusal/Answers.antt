use Rattle.std.proofs.Common.{subst}
use Rattle.std.proofs.lemmas.Result.{IfOk-weaker}
use Rattle.vacation_core.specs.Running.{Mistaken}
use Rattle.vacation_core.proofs.NextSessionLemmas.{ends_then, refusing_of, unmistaken_rests}
use Rattle.vacation_core.proofs.TurnLemmas.{client_at}
use Rattle.vacation_core.proofs.world.VacWorld.hear_refusal.Goals as goal

pub returns : goal.returns
returns c =
    let v = c.args.self.now in
    let d = client_at c.args.i v c.requires in
    IfOk-weaker c.end_refused.result _ _ (λ _ h p x.
    let rests = unmistaken_rests c.args.i c.args.actor c.args.cause v d.0 p d.1
    (subst (Mistaken c.args.cause) c.if-is_mistaken.false c.is_mistaken.ensures) x in
    ends_then c.args.i c.args.actor c.args.cause c.end_refused.new.self p rests
    (h p rests (refusing_of c.args.i c.args.actor c.args.cause v p x))) c.end_refused.ensures
