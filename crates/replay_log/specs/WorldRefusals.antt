-- When a refusal that a step finds is true.
use Rattle.std.specs.Prelude.{◌≡◌, ◌≢◌, ℕ, Bool, true, false, ◌∷◌, Some, Contains}
use Rattle.vlock_word.specs.LockWord.{bits}
use Rattle.tx_machine.specs.Actor.{Read}
use Rattle.tx_machine.specs.World.{plan}
use Rattle.tx_machine.specs.Cells.{LockCell, word_of}
use Rattle.tx_machine.specs.Refusals.{StopsRead, StopsLock, StopsCheck}
use Rattle.seq_model.specs.declared.refusal.Refusal.{Refusal}
use Rattle.seq_model.specs.declared.refusal.Refusal.TheVariants.{Moved, Busy, Stale, GateBusy, Invalid}
use Rattle.replay_log.specs.Worlds.{World, Stage, Open, Trying, Copying, Loading, Gating, Cancelling, Leaving, Returning, actor_of}

module _ {V : Type 0} where
  -- the transaction is being aborted
  abbrev pub is_ending : Stage V → Bool
  is_ending Cancelling = true
  is_ending Leaving = true
  is_ending (Returning ks) = true
  is_ending stage = false

  -- the transaction makes calls, and none of them is being judged
  abbrev pub is_calling : Stage V → Bool
  is_calling Open = true
  is_calling (Trying asked tries) = true
  is_calling (Copying asked) = true
  is_calling stage = false

  -- at this stage the last try on the gate of k is next
  abbrev pub IsLastTry : Stage V → ℕ → Type 0
  IsLastTry (Trying asked tries) k = (asked.collection ≡ k) × (tries ≡ 0)
  IsLastTry (Gating got (i ∷ ks) tries) k = (i ≡ k) × (tries ≡ 0)
  IsLastTry stage k = ⊥

  -- the call that is made at this stage copies l, or has copied it, with this edition
  abbrev pub IsCopied : World V → Stage V → (l edition : ℕ) → Type 0
  IsCopied w (Copying asked) l edition = w.boosted.editions l ≡ edition
  IsCopied w (Loading o es) l edition = Contains es (l, edition)
  IsCopied w stage l edition = ⊥

  -- the step of a that is next touches the lock word of l, and finds it so
  abbrev pub IsFound : World V → ℕ → (l word : ℕ) → Type 0
  IsFound w a l word = (word_of (plan (actor_of w a) (actor_of w a).place) ≡ Some (LockCell l)) × (word ≡ bits (w.boosted.words.locks l))

  -- The step of a at this stage, which leads from the world w to u, finds this cause: it loads the word that is named, which stops its
  -- request; or the edition that was copied is not the one that the transaction has read; or it is the last try on a gate, which another
  -- holds.
  abbrev pub IsCause : World V → ℕ → Stage V → World V → Refusal → Type 0
  IsCause w a stage u (Moved l word) = IsFound w a l word × StopsRead (actor_of w a) (actor_of w a).place (w.boosted.words.locks l)
  IsCause w a stage u (Busy l word) = IsFound w a l word × StopsLock (actor_of w a).place (w.boosted.words.locks l)
  IsCause w a stage u (Invalid l word) = IsFound w a l word × StopsCheck (actor_of w a) (actor_of w a).place l (w.boosted.words.locks l)
  IsCause w a stage u (Stale l base word) = (base ≢ word) × IsCopied w stage l base × Contains (actor_of u a).calls (Read l word)
  IsCause w a stage u (GateBusy k) = IsLastTry stage k × ((b : ℕ) × (w.boosted.gates k ≡ Some b) × (b ≢ a))
  IsCause w a stage u cause = ⊥

  -- where a's step from w to u begins to abort its transaction, the cause that it notes is true
  abbrev pub HasCause : World V → ℕ → Stage V → World V → Type 0
  HasCause w a stage u = is_ending (u.seats a).stage ≡ true → (cause : Refusal) × ((u.seats a).cause ≡ Some cause)
      × IsCause w a stage u cause
