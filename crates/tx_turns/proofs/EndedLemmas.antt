-- What a turn adds to the aborted transactions of the world with its actor alone.
--
-- Only the last step of a transaction that is aborted adds one, and answers why; there is none after it. It is answered nowhere else: a
-- request under way that ends so was being aborted (`steps_move`), and every other step of that answers nothing.
use Rattle.std.proofs.Common.{◌≡◌, ℕ, Bool, true, false, List, [], ◌∷◌, ◌++◌, Option, Some}
use Rattle.std.proofs.Common.{None, inl, inr, refl, sym, ap, ◌∙◌, subst, true≢false, append-nil}
use Rattle.tx_machine.specs.Notices as told
use Rattle.tx_machine.proofs.Sets.{put-same}
use Rattle.seq_model.specs.declared.event.Answer.TheVariants as answer
use Rattle.seq_model.specs.declared.event.Event.TheVariants.{Step}
use Rattle.seq_model.specs.declared.event.Notice.TheVariants.{Answered, Quiet}
use Rattle.seq_model.specs.declared.refusal.Refusal.{Refusal}
use Rattle.tx_machine.specs.Boosted.{PutGate}
use Rattle.replay_log.specs.Seats.{Ended, Seat, Stage, World}
use Rattle.replay_log.specs.WorldRefusals.{is_ending}
use Rattle.replay_log.specs.WorldTraces.{ended_by}
use Rattle.replay_log.specs.Worlds.{Beginning, Cancelling, Leaving, Returning, acted, gives_up}
use Rattle.replay_log.specs.Worlds.{happens, has_cancelled, moves, no_one, step_at, why}
use Rattle.replay_log.specs.Worlds.{word_notice}
use Rattle.replay_log.specs.declared.base.Base.{Base}
use Rattle.actor_laws.proofs.Alike.{alike_same}
use Rattle.actor_laws.specs.KnownStages.{Begins, Calls, Commits, Committed, Ends, KnownStage, Rests, Stands, StepMoves, known_stage}
use Rattle.shared_table.specs.Turns.{found_at, moved, spot, stage_of}
use Rattle.shared_table.proofs.Turned.{aborted_grow, found_alike, planted_notes}

module _ {V : Type 0} where
  -- ---- what is answered as a transaction ends
  pub why_told : (a : ℕ) (cause : Option Refusal) → why {V = V} a cause ≡ Quiet → ⊥
  why_told a None e = cc
  why_told a (Some cause) e = cc

  why_same : (a : ℕ) (c d : Option Refusal) → why {V = V} a c ≡ why a d → c ≡ d
  why_same a None None e = refl
  why_same a None (Some d) e = absurd (let z : ⊥ = cc in z)
  why_same a (Some c) None e = absurd (let z : ⊥ = cc in z)
  why_same a (Some c) (Some d) e = (let f : c ≡ d = cc in ap (λ (k : Refusal). Some k) f)

  cancelled_quiet : (u : World V) (a : ℕ) (x : Seat V) (n : told.Notice) → (has_cancelled u a x n).1 ≡ Quiet
  cancelled_quiet u a x told.Cancelled = refl
  cancelled_quiet u a x n = refl

  back_quiet : (u : World V) (a : ℕ) (x : Seat V) (ks : List ℕ) → (gives_up u a x ks).1 ≡ Quiet
  back_quiet u a x [] = refl
  back_quiet u a x (k ∷ ks) = refl

  -- of the steps of one that is aborted the last one answers why
  is_last : (v : World V) (a : ℕ) (x : Seat V) (st : Stage V) (cause : Option Refusal) → is_ending st ≡ true
      → (step_at v a x st).1 ≡ why a cause → st ≡ Leaving
  is_last v a x Leaving cause h e = refl
  is_last v a x Cancelling cause h e =
      absurd (why_told a cause (sym e ∙ cancelled_quiet (acted v (moves a ∷ [])) a x (word_notice v a)))
  is_last v a x (Returning []) cause h e = absurd (why_told a cause (sym e))
  is_last v a x (Returning (k ∷ ks)) cause h e =
      absurd (why_told a cause (sym e ∙ back_quiet (acted v (PutGate a k (λ l. false) ∷ [])) a x ks))
  is_last v a x st cause h e = absurd (true≢false (sym h))

  -- a request that has ended so was being aborted
  pub ends_from : (p : KnownStage V) (b : Bool) (a : ℕ) (cause : Option Refusal) (later : KnownStage V) → StepMoves p b (why a cause) later
      → later ≡ Rests
      → (p ≡ Begins → ⊥) → (p ≡ Rests → ⊥) → p ≡ Ends
  ends_from Ends b a cause later h rests begins idle = refl
  ends_from Rests b a cause later h rests begins idle = absurd (idle refl)
  ends_from Begins b a cause later h rests begins idle = absurd (begins refl)
  ends_from (Stands calls) true a None later h rests begins idle = absurd h
  ends_from (Stands calls) false a None later h rests begins idle = absurd h
  ends_from (Stands calls) true a (Some cause) later h rests begins idle = absurd h
  ends_from (Stands calls) false a (Some cause) later h rests begins idle = absurd (let e : Stands calls ≡ Rests = sym h ∙ rests in cc)
  ends_from (Calls calls call) true a None later h rests begins idle = absurd h
  ends_from (Calls calls call) false a None later h rests begins idle = absurd h
  ends_from (Calls calls call) true a (Some cause) later h rests begins idle = absurd h
  ends_from (Calls calls call) false a (Some cause) later h rests begins idle =
      absurd (let e : Stands calls ≡ Rests = sym h.0 ∙ rests in cc)
  ends_from (Commits calls) true a None later h rests begins idle = absurd h
  ends_from (Commits calls) false a None later h rests begins idle = absurd h
  ends_from (Commits calls) true a (Some cause) later h rests begins idle = absurd h
  ends_from (Commits calls) false a (Some cause) later h rests begins idle = absurd h
  ends_from Committed true a None later h rests begins idle = absurd h
  ends_from Committed false a None later h rests begins idle = absurd h
  ends_from Committed true a (Some cause) later h rests begins idle = absurd h
  ends_from Committed false a (Some cause) later h rests begins idle = absurd h

  -- a request that is under way continues where nothing is answered
  abbrev pub IsGoing : KnownStage V → Type 0
  IsGoing Rests = ⊥
  IsGoing Begins = ⊥
  IsGoing (Stands calls) = ⊥
  IsGoing p = Unit {0}

  pub quiet_going : (p : KnownStage V) (b : Bool) (later : KnownStage V) → StepMoves p b Quiet later → (p ≡ Begins → ⊥) → (p ≡ Rests → ⊥)
      → IsGoing later
  quiet_going Rests b later h begins idle = absurd (idle refl)
  quiet_going Begins b later h begins idle = absurd (begins refl)
  quiet_going (Stands calls) true later h begins idle = absurd h
  quiet_going (Stands calls) false later h begins idle = absurd h
  quiet_going (Calls calls call) true later h begins idle = absurd h
  quiet_going (Calls calls call) false later (inl h) begins idle = subst IsGoing (sym h) tt
  quiet_going (Calls calls call) false later (inr h) begins idle = subst IsGoing (sym h) tt
  quiet_going (Commits calls) true later h begins idle = subst IsGoing (sym h) tt
  quiet_going (Commits calls) false later (inl h) begins idle = subst IsGoing (sym h) tt
  quiet_going (Commits calls) false later (inr h) begins idle = subst IsGoing (sym h) tt
  quiet_going Committed true later h begins idle = absurd h
  quiet_going Committed false later h begins idle = subst IsGoing (sym h) tt
  quiet_going Ends true later h begins idle = absurd h
  quiet_going Ends false later h begins idle = subst IsGoing (sym h) tt

  -- ---- what is added
  why_done : (a k : ℕ) (cause : Option Refusal) → why {V = V} a cause ≡ Answered a (answer.Committed k) → ⊥
  why_done a k None e = cc
  why_done a k (Some cause) e = cc

  done_none : (v : World V) (a k : ℕ) (x : Seat V) (st : Stage V) → (step_at v a x st).1 ≡ Answered a (answer.Committed k)
      → ended_by a x st ≡ []
  done_none v a k x Leaving e = absurd (why_done a k x.cause e)
  done_none v a k x st e = refl

  going_none : (v : World V) (a : ℕ) (x : Seat V) (st : Stage V) → (known_stage ((step_at v a x st).0.seats a) ≡ Rests → ⊥)
      → ended_by a x st ≡ []
  going_none v a x Leaving going = absurd (going (ap known_stage (put-same v.seats a no_one)))
  going_none v a x st going = refl

  quiet_none : (v : World V) (a : ℕ) (x : Seat V) (st : Stage V) → (step_at v a x st).1 ≡ Quiet → ended_by a x st ≡ []
  quiet_none v a x Leaving e = absurd (why_told a x.cause e)
  quiet_none v a x st e = refl

  last_one : (v : World V) (a : ℕ) (x : Seat V) (st : Stage V) (cause : Option Refusal) → is_ending st ≡ true
      → (step_at v a x st).1 ≡ why a cause
      → ended_by a x st ≡ record { actor = a; rv = x.rv; calls = x.calls; cause = cause } ∷ []
  last_one v a x st cause ending e =
      let at = is_last v a x st cause ending e in
      let same : x.cause ≡ cause = why_same a x.cause cause (subst (λ (p : Stage V). (step_at v a x p).1 ≡ why a cause) at e) in
      ap (ended_by a x) at ∙ (λ i. record { actor = a; rv = x.rv; calls = x.calls; cause = same i } ∷ [])

  -- by a turn in the world with its actor alone
  pub moved_aborted : (a : ℕ) (w : World V) (found : ℕ) (base : Option (Base V))
      → (moved a w found base).0.aborted ≡ w.aborted ++ ended_by a (w.seats a) (stage_of w a)
  moved_aborted a w found base =
      let p = found_at a w (spot a w) found base in
      aborted_grow a p
      ∙ ((λ i. (planted_notes a w (spot a w) found base).1 i
      ++ (ap (λ (x : Seat V). ended_by a x x.stage) (sym (found_alike a w w (spot a w) found base (alike_same a w)).seat)) i))

  none_by : (v w : World V) (a : ℕ) (found : ℕ) (base : Option (Base V)) → v.seats a ≡ w.seats a
      → ended_by a (v.seats a) (stage_of v a) ≡ [] → (moved a w found base).0.aborted ≡ w.aborted
  none_by v w a found base seat none =
      moved_aborted a w found base
      ∙ (ap (λ (es : List (Ended V)). w.aborted ++ es) (ap (λ (x : Seat V). ended_by a x x.stage) (sym seat) ∙ none)
      ∙ append-nil w.aborted)

  pub none_added : (v w : World V) (a : ℕ) (found : ℕ) (base : Option (Base V)) → v.seats a ≡ w.seats a
      → (happens v (Step a)).1 ≡ Quiet → (moved a w found base).0.aborted ≡ w.aborted
  none_added v w a found base seat quiet = none_by v w a found base seat (quiet_none v a (v.seats a) (stage_of v a) quiet)

  pub going_added : (v w : World V) (a : ℕ) (found : ℕ) (base : Option (Base V)) → v.seats a ≡ w.seats a
      → (known_stage ((happens v (Step a)).0.seats a) ≡ Rests → ⊥) → (moved a w found base).0.aborted ≡ w.aborted
  going_added v w a found base seat going = none_by v w a found base seat (going_none v a (v.seats a) (stage_of v a) going)

  pub done_added : (v w : World V) (a : ℕ) (found : ℕ) (base : Option (Base V)) (k : ℕ) → v.seats a ≡ w.seats a
      → (happens v (Step a)).1 ≡ Answered a (answer.Committed k) → (moved a w found base).0.aborted ≡ w.aborted
  done_added v w a found base k seat done = none_by v w a found base seat (done_none v a k (v.seats a) (stage_of v a) done)

  pub begin_added : (w : World V) (a : ℕ) (found : ℕ) (base : Option (Base V)) → stage_of w a ≡ Beginning
      → (moved a w found base).0.aborted ≡ w.aborted
  begin_added w a found base at =
      moved_aborted a w found base
      ∙ (ap (λ (st : Stage V). w.aborted ++ ended_by a (w.seats a) st) at ∙ append-nil w.aborted)

  pub one_added : (v w : World V) (a : ℕ) (found : ℕ) (base : Option (Base V)) (cause : Option Refusal) → v.seats a ≡ w.seats a
      → is_ending (stage_of v a) ≡ true → (happens v (Step a)).1 ≡ why a cause
      → (moved a w found base).0.aborted
      ≡ w.aborted ++ record { actor = a; rv = (w.seats a).rv; calls = (w.seats a).calls; cause = cause } ∷ []
  one_added v w a found base cause seat ending told =
      moved_aborted a w found base
      ∙ ap (λ (es : List (Ended V)). w.aborted ++ es)
      (ap (λ (x : Seat V). ended_by a x x.stage) (sym seat)
      ∙ (last_one v a (v.seats a) (stage_of v a) cause ending told
      ∙ (λ i. record { actor = a; rv = (seat i).rv; calls = (seat i).calls; cause = cause } ∷ [])))
