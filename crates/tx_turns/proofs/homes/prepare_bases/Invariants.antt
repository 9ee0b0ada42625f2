use Rattle.tx_turns.specs.Bases.{AreAlike}
use Rattle.tx_turns.proofs.HomeLemmas.{PreparedTo}
use Rattle.tx_turns.proofs.homes.prepare_bases.Given as goal

abbrev pub invariant-loop-i : goal.invariant-loop-i
invariant-loop-i g l =
    AreAlike l.initial.bases.items l.bases.items × PreparedTo l.i l.actor.copies.items l.homes.items l.bases.items
