use Rattle.std.specs.Global.{Vec}
use Rattle.seq_model.specs.declared.call.Call.{Call}
use Rattle.seq_model.specs.declared.call.Reply.{Reply}
use Rattle.std.proofs.Common.{ap, refl, sym, ◌∙◌}
use Rattle.tx_machine.proofs.Sets.{put-same}
use Rattle.tx_actor.specs.Running.{is_recorded, at}
use Rattle.tx_actor.proofs.RunsLemmas.{seat_as}
use Rattle.tx_actor.proofs.ActorBoundsLemmas.{keeps_plain}
use Rattle.tx_actor.specs.declared.actor.Stage.TheVariants as stage
use Rattle.tx_actor.proofs.CopiesByStageLemmas.{copies_to}
use Rattle.tx_actor.proofs.actor.TxActor.finish_reading.Goals as goal

pub returns-clause-does : goal.returns-clause-does
returns-clause-does g c a w s = (
  (
    seat_as c.clear.new.self _ _ (ap is_recorded c.clear.ensures.stage) (put-same w.seats a _) c.clear.ensures.seat,
    s ∙ sym
        c.clear.ensures.words,
    c.clear.ensures.knows _ tt,
  ),
  refl,
)

pub returns-clause-keeps : goal.returns-clause-keeps
returns-clause-keeps g c v =
    keeps_plain v c.args.self.now c.clear.new.self stage.Idle stage.Idle c.clear.ensures.rest c.clear.ensures.stage (λ n h. tt) (λ z. tt)

pub returns-clause-made : goal.returns-clause-made
returns-clause-made g c =
    ap (λ (v : Vec (Call g.row.V.Denot × Reply g.row.V.Denot)). v.items) (c.clear.ensures.made ∙ c.swap.ensures.x_after)

pub returns-clause-leaves : goal.returns-clause-leaves
returns-clause-leaves g c =
    copies_to (at c.args.self.now stage.Idle) c.clear.new.self stage.Idle c.clear.ensures.stage tt
