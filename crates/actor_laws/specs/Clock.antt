-- How often an actor may still advance the clock.
use Rattle.std.specs.Prelude.{◌≡◌, ◌⊎◌, ℕ, ◌+◌, ◌≤◌, ◌<◌}
use Rattle.tx_machine.specs.Actor.{Place, Open, Look, Fetch, Again, Lock, Take, clock_limit}
use Rattle.replay_log.specs.Seats.{World, actor_of}

-- once, from its begin to the number of its commit
abbrev pub stamps_left : Place → ℕ
stamps_left Open = 1
stamps_left (Look l) = 1
stamps_left (Fetch l k) = 1
stamps_left (Again l k v) = 1
stamps_left (Lock ls) = 1
stamps_left (Take l k ls) = 1
stamps_left p = 0

-- From v to u the clock does not fall, and a advances it no further than it may; or it stands, below the limit, and a has begun.
pub record Grows {V : Type 0} (a : ℕ) (v u : World V) : Type 0 where
  pub rises : v.boosted.words.clock ≤ u.boosted.words.clock
  pub pays : (u.boosted.words.clock + stamps_left (actor_of u a).place ≤ v.boosted.words.clock + stamps_left (actor_of v a).place)
      ⊎ ((u.boosted.words.clock ≡ v.boosted.words.clock) × (v.boosted.words.clock < clock_limit))
