-- The step of the definitions is the atomic action that is next, and then what is made of it: stage by stage both compute to the same, and
-- where another action is next there is nothing to show.
use Rattle.std.proofs.Common.{◌≡◌, ℕ, false, true≢false, List, [], ◌∷◌, refl, ap}
use Rattle.tx_machine.specs.Notices as notice
use Rattle.tx_machine.specs.Requests.{AskStore}
use Rattle.tx_machine.specs.Boosted.{TakeGate, PutGate, GoHome, is_none}
use Rattle.replay_log.specs.Guards.{step_action}
use Rattle.replay_log.specs.Pieces.{covers_at}
use Rattle.replay_log.specs.Worlds.{World, Seat, Stage, Idle, Beginning, Open, Locking, Releasing, Closing, Cancelling, Leaving, Reading}
use Rattle.replay_log.specs.Worlds.{Trying, Copying, Loading, Gating, Ready, Storing, Homing, Returning, acted, asks, moves, word_notice}
use Rattle.replay_log.specs.Worlds.{step_at}
use Rattle.step_core.specs.Answers.{result_of}
use Rattle.actor_parts.specs.declared.next.Next.TheVariants as next
use Rattle.actor_parts.specs.Dispatch.{AreSteps, IsDue, after_home, after_put, after_try, after_word, is_loading, next_of, notice_told}

module _ {V : Type 0} where
  words : (w : World V) (a : ℕ) (x : Seat V) (s : Stage V) → next_of s ≡ next.Word → is_loading s ≡ false
      → step_at w a x s ≡ after_word (acted w (moves a ∷ [])) a x s (word_notice w a)
  words w a x Idle e f = let h : ⊥ = cc in absurd h
  words w a x Open e f = let h : ⊥ = cc in absurd h
  words w a x (Trying asked n) e f = let h : ⊥ = cc in absurd h
  words w a x (Copying asked) e f = let h : ⊥ = cc in absurd h
  words w a x (Loading o es) e f = absurd (true≢false f)
  words w a x (Gating got [] n) e f = let h : ⊥ = cc in absurd h
  words w a x (Gating got (k ∷ ks) n) e f = let h : ⊥ = cc in absurd h
  words w a x (Ready ks) e f = let h : ⊥ = cc in absurd h
  words w a x (Homing []) e f = let h : ⊥ = cc in absurd h
  words w a x (Homing (k ∷ ks)) e f = let h : ⊥ = cc in absurd h
  words w a x (Returning []) e f = let h : ⊥ = cc in absurd h
  words w a x (Returning (k ∷ ks)) e f = let h : ⊥ = cc in absurd h
  words w a x Beginning e f = refl
  words w a x (Reading l) e f = refl
  words w a x Locking e f = refl
  words w a x (Storing ks) e f = refl
  words w a x Releasing e f = refl
  words w a x Closing e f = refl
  words w a x Cancelling e f = refl
  words w a x Leaving e f = refl

  first : (w : World V) (a : ℕ) (x : Seat V) (ks : List ℕ) → let ready = acted w (asks a AskStore ∷ []) in
      step_at w a x (Ready ks) ≡ after_word (acted ready (moves a ∷ [])) a x (Ready ks) (word_notice ready a)
  first w a x ks = refl

  tries : (w : World V) (a : ℕ) (x : Seat V) (s : Stage V) (k : ℕ) → next_of s ≡ next.TryGate k
      → step_at w a x s ≡ after_try (acted w (TakeGate a k ∷ [])) a x s (is_none (w.boosted.gates k))
  tries w a x (Trying asked n) k e =
      let i : asked.collection ≡ k = cc in
      ap (λ (j : ℕ). after_try (acted w (TakeGate a j ∷ [])) a x (Trying asked n) (is_none (w.boosted.gates j))) i
  tries w a x (Gating got (j ∷ ks) n) k e =
      let i : j ≡ k = cc in
      ap (λ (m : ℕ). after_try (acted w (TakeGate a m ∷ [])) a x (Gating got (j ∷ ks) n) (is_none (w.boosted.gates m))) i
  tries w a x (Gating got [] n) k e = let h : ⊥ = cc in absurd h
  tries w a x (Loading o []) k e = let h : ⊥ = cc in absurd h
  tries w a x (Loading o (d ∷ es)) k e = let h : ⊥ = cc in absurd h
  tries w a x (Homing []) k e = let h : ⊥ = cc in absurd h
  tries w a x (Homing (j ∷ ks)) k e = let h : ⊥ = cc in absurd h
  tries w a x (Returning []) k e = let h : ⊥ = cc in absurd h
  tries w a x (Returning (j ∷ ks)) k e = let h : ⊥ = cc in absurd h
  tries w a x Idle k e = let h : ⊥ = cc in absurd h
  tries w a x Open k e = let h : ⊥ = cc in absurd h
  tries w a x (Copying asked) k e = let h : ⊥ = cc in absurd h
  tries w a x (Ready ks) k e = let h : ⊥ = cc in absurd h
  tries w a x Beginning k e = let h : ⊥ = cc in absurd h
  tries w a x (Reading l) k e = let h : ⊥ = cc in absurd h
  tries w a x Locking k e = let h : ⊥ = cc in absurd h
  tries w a x (Storing ks) k e = let h : ⊥ = cc in absurd h
  tries w a x Releasing k e = let h : ⊥ = cc in absurd h
  tries w a x Closing k e = let h : ⊥ = cc in absurd h
  tries w a x Cancelling k e = let h : ⊥ = cc in absurd h
  tries w a x Leaving k e = let h : ⊥ = cc in absurd h

  puts : (w : World V) (a : ℕ) (x : Seat V) (s : Stage V) (k : ℕ) → next_of s ≡ next.PutGate k
      → step_at w a x s ≡ after_put (acted w (PutGate a k (λ l. false) ∷ [])) a x s
  puts w a x (Returning (j ∷ ks)) k e =
      let i : j ≡ k = cc in
      ap (λ (m : ℕ). after_put (acted w (PutGate a m (λ l. false) ∷ [])) a x (Returning (j ∷ ks))) i
  puts w a x (Returning []) k e = let h : ⊥ = cc in absurd h
  puts w a x (Gating got [] n) k e = let h : ⊥ = cc in absurd h
  puts w a x (Gating got (j ∷ ks) n) k e = let h : ⊥ = cc in absurd h
  puts w a x (Loading o []) k e = let h : ⊥ = cc in absurd h
  puts w a x (Loading o (d ∷ es)) k e = let h : ⊥ = cc in absurd h
  puts w a x (Homing []) k e = let h : ⊥ = cc in absurd h
  puts w a x (Homing (j ∷ ks)) k e = let h : ⊥ = cc in absurd h
  puts w a x (Trying asked n) k e = let h : ⊥ = cc in absurd h
  puts w a x Idle k e = let h : ⊥ = cc in absurd h
  puts w a x Open k e = let h : ⊥ = cc in absurd h
  puts w a x (Copying asked) k e = let h : ⊥ = cc in absurd h
  puts w a x (Ready ks) k e = let h : ⊥ = cc in absurd h
  puts w a x Beginning k e = let h : ⊥ = cc in absurd h
  puts w a x (Reading l) k e = let h : ⊥ = cc in absurd h
  puts w a x Locking k e = let h : ⊥ = cc in absurd h
  puts w a x (Storing ks) k e = let h : ⊥ = cc in absurd h
  puts w a x Releasing k e = let h : ⊥ = cc in absurd h
  puts w a x Closing k e = let h : ⊥ = cc in absurd h
  puts w a x Cancelling k e = let h : ⊥ = cc in absurd h
  puts w a x Leaving k e = let h : ⊥ = cc in absurd h

  homes : (w : World V) (a : ℕ) (x : Seat V) (s : Stage V) (k : ℕ) → next_of s ≡ next.GoHome k
      → step_at w a x s ≡ after_home (acted w (GoHome a k ∷ [])) a x s
  homes w a x (Homing (j ∷ ks)) k e =
      let i : j ≡ k = cc in
      ap (λ (m : ℕ). after_home (acted w (GoHome a m ∷ [])) a x (Homing (j ∷ ks))) i
  homes w a x (Homing []) k e = let h : ⊥ = cc in absurd h
  homes w a x (Returning []) k e = let h : ⊥ = cc in absurd h
  homes w a x (Returning (j ∷ ks)) k e = let h : ⊥ = cc in absurd h
  homes w a x (Gating got [] n) k e = let h : ⊥ = cc in absurd h
  homes w a x (Gating got (j ∷ ks) n) k e = let h : ⊥ = cc in absurd h
  homes w a x (Loading o []) k e = let h : ⊥ = cc in absurd h
  homes w a x (Loading o (d ∷ es)) k e = let h : ⊥ = cc in absurd h
  homes w a x (Trying asked n) k e = let h : ⊥ = cc in absurd h
  homes w a x Idle k e = let h : ⊥ = cc in absurd h
  homes w a x Open k e = let h : ⊥ = cc in absurd h
  homes w a x (Copying asked) k e = let h : ⊥ = cc in absurd h
  homes w a x (Ready ks) k e = let h : ⊥ = cc in absurd h
  homes w a x Beginning k e = let h : ⊥ = cc in absurd h
  homes w a x (Reading l) k e = let h : ⊥ = cc in absurd h
  homes w a x Locking k e = let h : ⊥ = cc in absurd h
  homes w a x (Storing ks) k e = let h : ⊥ = cc in absurd h
  homes w a x Releasing k e = let h : ⊥ = cc in absurd h
  homes w a x Closing k e = let h : ⊥ = cc in absurd h
  homes w a x Cancelling k e = let h : ⊥ = cc in absurd h
  homes w a x Leaving k e = let h : ⊥ = cc in absurd h

  due : (w : World V) (a : ℕ) (s : Stage V) → IsDue a (next_of s) (step_action w a s)
  due w a Idle = tt
  due w a Open = tt
  due w a (Trying asked n) = refl
  due w a (Copying asked) = (covers_at w.words w.blocks asked, refl)
  due w a (Loading o []) = tt
  due w a (Loading o (d ∷ es)) = refl
  due w a (Gating got [] n) = tt
  due w a (Gating got (k ∷ ks) n) = refl
  due w a (Ready ks) = refl
  due w a (Homing []) = tt
  due w a (Homing (k ∷ ks)) = refl
  due w a (Returning []) = tt
  due w a (Returning (k ∷ ks)) = refl
  due w a Beginning = refl
  due w a (Reading l) = refl
  due w a Locking = refl
  due w a (Storing ks) = refl
  due w a Releasing = refl
  due w a Closing = refl
  due w a Cancelling = refl
  due w a Leaving = refl

told : (n : notice.Notice) → notice_told (result_of n) ≡ n
told notice.Quiet = refl
told notice.NoTransaction = refl
told (notice.Begun rv) = refl
told (notice.Number v) = refl
told notice.Written = refl
told (notice.LockedAt wv) = refl
told notice.Stored = refl
told notice.Released = refl
told notice.Cancelled = refl
told notice.Closed = refl
told (notice.Moved l w) = refl
told (notice.Busy l w) = refl
told (notice.Invalid l w) = refl
told (notice.Exhausted clock) = refl

module _ {V : Type 0} where
  pub are_steps : AreSteps V
  are_steps = record { words = words; first = first; tries = tries; puts = puts; homes = homes; told = told; due = due }
