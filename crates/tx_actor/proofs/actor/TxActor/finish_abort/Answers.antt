use Rattle.std.specs.Global.{Vec}
use Rattle.seq_model.specs.declared.call.Call.{Call}
use Rattle.seq_model.specs.declared.call.Reply.{Reply}
use Rattle.std.proofs.Common.{Option, sym, ap, ◌∙◌}
use Rattle.tx_machine.proofs.Sets.{put-same}
use Rattle.seq_model.specs.declared.refusal.Refusal.{Refusal}
use Rattle.replay_log.specs.Worlds.{why}
use Rattle.tx_actor.specs.Running.{is_recorded, at}
use Rattle.tx_actor.proofs.RunsLemmas.{seat_as}
use Rattle.tx_actor.proofs.ActorBoundsLemmas.{keeps_plain}
use Rattle.tx_actor.specs.declared.actor.Stage.TheVariants as stage
use Rattle.tx_actor.proofs.CopiesByStageLemmas.{copies_to}
use Rattle.tx_actor.proofs.actor.TxActor.finish_abort.Goals as goal

pub returns-in-None-clause-does : goal.returns-in-None-clause-does
returns-in-None-clause-does g c a w s = (
  (
    seat_as c.clear.new.self _ _ (ap is_recorded c.clear.ensures.stage) (put-same w.seats a _) c.clear.ensures.seat,
    s ∙ sym
        c.clear.ensures.words,
    c.clear.ensures.knows _ tt,
  ),
  sym (ap (λ (q : Option Refusal). why a q) c.in-None.is),
)

pub returns-in-Some-clause-does : goal.returns-in-Some-clause-does
returns-in-Some-clause-does g c a w s = (
  (
    seat_as c.clear.new.self _ _ (ap is_recorded c.clear.ensures.stage) (put-same w.seats a _) c.clear.ensures.seat,
    s ∙ sym
        c.clear.ensures.words,
    c.clear.ensures.knows _ tt,
  ),
  sym (ap (λ (q : Option Refusal). why a q) c.in-Some.is),
)

pub returns-in-None-clause-keeps : goal.returns-in-None-clause-keeps
returns-in-None-clause-keeps g c v =
    keeps_plain v c.args.self.now c.clear.new.self stage.Idle stage.Idle c.clear.ensures.rest c.clear.ensures.stage (λ n h. tt) (λ z. tt)

pub returns-in-Some-clause-keeps : goal.returns-in-Some-clause-keeps
returns-in-Some-clause-keeps g c v =
    keeps_plain v c.args.self.now c.clear.new.self stage.Idle stage.Idle c.clear.ensures.rest c.clear.ensures.stage (λ n h. tt) (λ z. tt)

pub returns-in-None-clause-made : goal.returns-in-None-clause-made
returns-in-None-clause-made g c =
    ap (λ (v : Vec (Call g.row.V.Denot × Reply g.row.V.Denot)). v.items) (c.clear.ensures.made ∙ c.swap.ensures.x_after)

pub returns-in-Some-clause-made : goal.returns-in-Some-clause-made
returns-in-Some-clause-made g c =
    ap (λ (v : Vec (Call g.row.V.Denot × Reply g.row.V.Denot)). v.items) (c.clear.ensures.made ∙ c.swap.ensures.x_after)

pub returns-in-None-clause-leaves : goal.returns-in-None-clause-leaves
returns-in-None-clause-leaves g c =
    copies_to (at c.args.self.now stage.Idle) c.clear.new.self stage.Idle c.clear.ensures.stage tt

pub returns-in-Some-clause-leaves : goal.returns-in-Some-clause-leaves
returns-in-Some-clause-leaves g c =
    copies_to (at c.args.self.now stage.Idle) c.clear.new.self stage.Idle c.clear.ensures.stage tt
