-- What a request of a word actor asks of its sets, and what it keeps of the actor.
use Rattle.std.specs.Prelude.{◌≡◌, ℕ, ◌||◌, ◌≤◌, Bool, true, not, [], ◌∷◌, Option, Some, None}
use Rattle.tx_sets.specs.Entries.{lookup}
use Rattle.tx_machine.specs.Actor as machine
use Rattle.tx_machine.specs.Notices as notice
use Rattle.step_core.specs.Sound.{Fits, due, owed}
use Rattle.step_core.specs.declared.actor.Actor.{Actor}
use Rattle.tx_machine.specs.Boosted.{is_none}
use Rattle.replay_log.specs.Worlds.{fits}

-- a location that is in no set and finds no room in the read set is not read; a declared reader has no sets
abbrev pub may_read : machine.Actor → ℕ → Bool
may_read y l = y.declared || (not (is_none (lookup y.writes l)) || fits y.reads (l ∷ []))

-- what a set has of a location
abbrev pub number_told : Option ℕ → notice.Notice
number_told None = notice.Quiet
number_told (Some v) = notice.Number v

-- with n locations, like `Keeps` with any number of them
pub record KeepsAt (n : ℕ) (x y : Actor) : Type 0 where
  pub fits : Fits n x → Fits n y
  pub owed : owed y.place ≤ owed x.place
  pub due : due y.place ≤ due x.place

-- a declared reader has no read set
abbrev pub HasNoReads : Actor → Type 0
HasNoReads x = x.declared ≡ true → x.reads.entries ≡ []
