use Rattle.std.proofs.Common.{rules, OnOk, Option, sym, subst}
use Rattle.replay_log.specs.Base.{IsPreparedFor}
use Rattle.actor_parts.specs.declared.copies.PrivateCopy.{PrivateCopy}
use Rattle.actor_parts.specs.Footprints.{IsPositionOf}
use Rattle.actor_parts.specs.Logs.{changes_had}
use Rattle.actor_parts.proofs.LogLemmas.{found_at}
use Rattle.tx_actor.proofs.actor.TxActor.prepares_base.Goals as goal

pub returns-in-Some-clause-ok : goal.returns-in-Some-clause-ok
returns-in-Some-clause-ok g c =
    let cs = c.args.self.now.copies.items in
    let at : IsPositionOf cs c.args.collection c.position_of.result = search rules in
    let z = found_at cs c.in-Some.place c.args.collection c.index.result.now _ c.in-Some.is at c.index.ensures in
    subst (λ (o : Option (PrivateCopy g.row.V.Denot)). OnOk c.prepare.result (IsPreparedFor (changes_had o) c.prepare.new.base)) (sym z.2)
    c.prepare.ensures.ok
