use Rattle.replay_log.specs.WorldProgress.{left_of}
use Rattle.tx_actor.specs.declared.actor.ActorNotice.TheVariants as told
use Rattle.shared_table.specs.Seated.{actor, acts, opening_of}
use Rattle.tx_turns.specs.Straight.{LeadsAll}
use Rattle.tx_turns.specs.Ties.{Ties}
use Rattle.tx_turns.specs.Own.{HasOwn}
use Rattle.tx_turns.proofs.commits.homes_on.Given as goal

abbrev pub invariant-loop-k : goal.invariant-loop-k
invariant-loop-k g l =
    Ties l.table l.seat l.actor × HasOwn l.table l.seat l.actor l.bases.items
    × LeadsAll (opening_of l.table) l.initial.seat l.seat told.Quiet

abbrev pub decreases-loop-k : goal.decreases-loop-k
decreases-loop-k g l = left_of (acts (opening_of l.table) l.seat) (actor l.seat)
