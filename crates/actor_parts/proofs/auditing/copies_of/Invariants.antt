use Rattle.std.proofs.Common.{◌≡◌, take}
use Rattle.actor_parts.specs.Audits.{without_actors}
use Rattle.actor_parts.proofs.auditing.copies_of.Given as goal

abbrev pub invariant-loop-entry : goal.invariant-loop-entry
invariant-loop-entry g l = l.copies.items ≡ without_actors (take l.entry-index l.records)
