use Rattle.replay_log.specs.WorldProgress.{left_of}
use Rattle.tx_actor.specs.declared.actor.ActorNotice.TheVariants as told
use Rattle.shared_table.specs.Seated.{actor, acts, opening_of}
use Rattle.tx_turns.specs.Straight.{LeadsBy}
use Rattle.tx_turns.specs.Ties.{Ties}
use Rattle.tx_turns.specs.Own.{HasOwn}
use Rattle.tx_turns.proofs.driving.advance.Given as goal

abbrev pub invariant-turns : goal.invariant-turns
invariant-turns g l =
    Ties l.table l.seat l.actor × HasOwn l.table l.seat l.actor l.bases.items
    × LeadsBy (opening_of l.table) l.initial.seat l.seat told.Quiet l.initial.kept l.kept

abbrev pub decreases-turns : goal.decreases-turns
decreases-turns g l = left_of (acts (opening_of l.table) l.seat) (actor l.seat)
