-- What a call on a copied collection reads and writes.
use Rattle.std.specs.Prelude.{◌≡◌, ℕ, Bool, true}
use Rattle.tx_sets.specs.Entries.{Entries}
use Rattle.conflict.specs.declared.outcome.Outcome.{Outcome}
use Rattle.tx_machine.specs.Actor.{Actor}
use Rattle.replay_log.specs.Contents.{shifted}
use Rattle.replay_log.specs.Worlds as worlds
use Rattle.actor_parts.specs.declared.copies.PrivateCopy.{PrivateCopy}
use Rattle.actor_parts.specs.Footprints.{reads_in, with_known, writes_in}
use Rattle.actor_parts.specs.Writes.{with_next}

-- b says whether what the outcome reads and writes of a copied collection that begins at location f fits the sets; where it does, the
-- lists say what that is.
pub record IsWeighed {V : Type 0} (x : Actor) (c : PrivateCopy V) (f : ℕ) (o : Outcome V) (ls ds : Entries) (b : Bool) : Type 0 where
  pub left : b ≡ true → ls ≡ with_known c f (reads_in c o)
  pub writes : b ≡ true → ds ≡ with_next c f (writes_in c o)
  pub fits : b ≡ worlds.has_room x (shifted f (reads_in c o)) (shifted f (writes_in c o))
