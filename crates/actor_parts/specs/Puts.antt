-- A put on a key of a map that a transaction has.
use Rattle.std.specs.Prelude.{◌≡◌, ℕ, [], ◌∷◌, Some, None}
use Rattle.conflict.specs.declared.outcome.Outcome.{Outcome}
use Rattle.shadow.specs.Memo.{entry_outcome, known_entry, put_of}
use Rattle.actor_parts.specs.declared.copies.PrivateCopy.{PrivateCopy}
use Rattle.actor_parts.specs.declared.copies.PrivateCopy.TheVariants.{Keys, Whole}
use Rattle.actor_parts.specs.PrivateCopy.{answer_of}
use Rattle.actor_parts.specs.Footprints.{known_edition, reads_in, writes_in}

-- its outcome, by what is kept of the key
abbrev pub put_on : {V : Type 0} → PrivateCopy V → ℕ → V → Outcome V
put_on (Keys m es) k v = entry_outcome (put_of k v) (known_entry m.entries k)
put_on (Whole s) k v = entry_outcome (put_of k v) None

-- The put has that outcome, and reads and writes this location alone, which was copied with this edition.
pub record IsPutAt {V : Type 0} (c : PrivateCopy V) (k : ℕ) (v : V) (at : ℕ × ℕ) : Type 0 where
  pub answer : answer_of c (put_of k v) ≡ Some (put_on c k v)
  pub reads : reads_in c (put_on c k v) ≡ at.0 ∷ []
  pub writes : writes_in c (put_on c k v) ≡ at.0 ∷ []
  pub edition : known_edition c at.0 ≡ at.1
