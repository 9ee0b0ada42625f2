-- What an event leaves that does no atomic step, and what one leaves that changes nothing.
use Rattle.std.specs.Prelude.{◌≡◌, ◌≢◌, ℕ}
use Rattle.tx_machine.specs.Boosted.{Boosted}
use Rattle.replay_log.specs.Worlds.{World}

-- t is as s, but for the records of actors, and the shadow of a
pub record Still {X Out : Type 0} (a : ℕ) (s t : Boosted X Out) : Type 0 where
  pub clock : t.words.clock ≡ s.words.clock
  pub locks : t.words.locks ≡ s.words.locks
  pub values : t.words.values ≡ s.words.values
  pub gates : t.gates ≡ s.gates
  pub parts : t.parts ≡ s.parts
  pub editions : t.editions ≡ s.editions
  pub shadows : (b : ℕ) → b ≢ a → t.shadows b ≡ s.shadows b

-- u is w
pub record Same {V : Type 0} (w u : World V) : Type 0 where
  pub words : u.words ≡ w.words
  pub blocks : u.blocks ≡ w.blocks
  pub boosted : u.boosted ≡ w.boosted
  pub seats : (b : ℕ) → u.seats b ≡ w.seats b
  pub records : u.records ≡ w.records
  pub aborted : u.aborted ≡ w.aborted
