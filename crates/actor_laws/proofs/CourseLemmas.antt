-- What a request results in. Where a transaction stands, and what is answered, say where it stands next (`KnownStageLemmas`). Besides, a
-- commit answers the number of its record, which remains its seat's until its last release; and a transaction that is aborted has noted its
-- cause, and answers it last.
use Rattle.std.proofs.Common.{◌≡◌, ◌⊎◌, ℕ, Bool, true, false, true≢false, ◌||◌, List, [], ◌∷◌, Option, Some, None, inl, inr, refl, sym, ◌∙◌}
use Rattle.std.proofs.Common.{ap, subst}
use Rattle.std.specs.Prelude.{is_some}
use Rattle.tx_machine.specs.Requests as word
use Rattle.tx_machine.specs.Notices as told
use Rattle.tx_machine.proofs.Sets.{put-same}
use Rattle.seq_model.specs.declared.call.Call.{Call}
use Rattle.seq_model.specs.declared.call.Reply.{Reply}
use Rattle.seq_model.specs.declared.event.Answer.TheVariants as answer
use Rattle.seq_model.specs.declared.event.Event.TheVariants.{Step}
use Rattle.seq_model.specs.declared.event.Notice.{Notice}
use Rattle.seq_model.specs.declared.event.Notice.TheVariants.{Quiet, Answered, Refused}
use Rattle.seq_model.specs.declared.record.Record.{Record}
use Rattle.seq_model.specs.declared.refusal.Refusal.{Refusal}
use Rattle.tx_machine.specs.Boosted.{GoHome}
use Rattle.replay_log.proofs.RefusalLemmas.{keeps_cause, world_causes}
use Rattle.replay_log.proofs.ReplyLemmas.{stepped_kept}
use Rattle.replay_log.specs.Worlds.{World, Seat, Stage, Reading, Trying, Copying, Loading, Ready, Storing, Homing, Releasing, Closing}
use Rattle.replay_log.specs.Worlds.{Returning}
use Rattle.replay_log.specs.Worlds.{Cancelling, Leaving, After, acted, asks, at_stage, gives_up, goes_home, happens, has_cancelled}
use Rattle.replay_log.specs.Worlds.{has_stored, has_released}
use Rattle.replay_log.specs.Worlds.{moves, opened, recorded, run, step_at, why, word_notice}
use Rattle.replay_log.specs.WorldRefusals.{is_ending}
use Rattle.replay_log.specs.WorldReplies.{IsKept, call_at, number_at}
use Rattle.replay_log.specs.WorldTraces.{committed_by}
use Rattle.actor_laws.proofs.KnownStageLemmas.{steps_move}
use Rattle.actor_laws.specs.Courses.{ComesTo, EndsFrom, IsGivenUp, IsRecordOf, IsUnderWayFrom, StepsComeTo, latest}
use Rattle.actor_laws.specs.KnownStages.{KnownStage, Rests, Begins, Stands, Calls, Commits}
use Rattle.actor_laws.specs.KnownStages.{Committed, Ends, StepMoves, known_stage, known_stage_at}

module _ {V : Type 0} where
  -- ---- what a phase says of its stage
  is_call : KnownStage V → Bool
  is_call (Calls calls call) = true
  is_call p = false

  is_done : KnownStage V → Bool
  is_done Committed = true
  is_done p = false

  is_end : KnownStage V → Bool
  is_end Ends = true
  is_end p = false

  calls_in : KnownStage V → List (Call V × Reply V)
  calls_in (Commits calls) = calls
  calls_in p = []

  no_call : (calls : List (Call V × Reply V)) (st : Stage V) → is_call (known_stage_at calls st) ≡ false → call_at st ≡ None
  unfolding is_call
  no_call calls (Reading l) h = absurd (true≢false h)
  no_call calls (Trying asked tries) h = absurd (true≢false h)
  no_call calls (Copying asked) h = absurd (true≢false h)
  no_call calls (Loading o left) h = absurd (true≢false h)
  no_call calls st h = refl

  ends_as : (calls : List (Call V × Reply V)) (st : Stage V) → is_end (known_stage_at calls st) ≡ is_ending st
  unfolding is_end
  ends_as calls Leaving = refl
  ends_as calls st = refl

  -- a transaction is being aborted, or is not
  pub ends_at : (x : Seat V) → known_stage x ≡ Ends → is_ending x.stage ≡ true
  unfolding is_end
  ends_at x e = sym (ends_as x.calls x.stage) ∙ ap is_end e

  pub on_call : (x : Seat V) (calls : List (Call V × Reply V)) (call : Call V) → known_stage x ≡ Calls calls call
      → is_ending x.stage ≡ false
  unfolding is_end
  on_call x calls call e = sym (ends_as x.calls x.stage) ∙ ap is_end e

  pub on_commit : (x : Seat V) (calls : List (Call V × Reply V)) → known_stage x ≡ Commits calls → is_ending x.stage ≡ false
  unfolding is_end
  on_commit x calls e = sym (ends_as x.calls x.stage) ∙ ap is_end e

  pub on_done : (x : Seat V) → known_stage x ≡ Committed → is_ending x.stage ≡ false
  unfolding is_end
  on_done x e = sym (ends_as x.calls x.stage) ∙ ap is_end e

  -- ---- the number of a commit remains
  abbrev is_late : Seat V → Stage V → Bool
  is_late x st = is_done (known_stage_at x.calls st) || is_some (committed_by x st)

  home_wv : (u : World V) (a : ℕ) (x : Seat V) (ks : List ℕ) → ((goes_home u a x ks).0.seats a).wv ≡ x.wv
  home_wv u a x [] = ap (λ (z : Seat V). z.wv) (put-same u.seats a (at_stage x Releasing))
  home_wv u a x (k ∷ ks) = ap (λ (z : Seat V). z.wv) (put-same u.seats a (at_stage x (Homing (k ∷ ks))))

  stored_wv : (u : World V) (a : ℕ) (x : Seat V) (ks : List ℕ) (n : told.Notice) → ((has_stored u a x ks n).0.seats a).wv ≡ x.wv
  stored_wv u a x ks told.Stored = home_wv u a x ks
  stored_wv u a x ks n = ap (λ (z : Seat V). z.wv) (put-same u.seats a (at_stage x (Storing ks)))

  released_wv : (u : World V) (a : ℕ) (x : Seat V) (n : told.Notice) → u.seats a ≡ x → (has_released u a x n).1 ≡ Quiet
      → ((has_released u a x n).0.seats a).wv ≡ x.wv
  released_wv u a x told.Released seat h = absurd (let z : ⊥ = cc in z)
  released_wv u a x n seat h = ap (λ (z : Seat V). z.wv) seat

  late_wv : (w : World V) (a : ℕ) (x : Seat V) (st : Stage V) → w.seats a ≡ x → is_late x st ≡ true → (step_at w a x st).1 ≡ Quiet
      → ((step_at w a x st).0.seats a).wv ≡ x.wv
  unfolding is_done
  late_wv w a x (Ready ks) seat l h =
      let ready = acted w (asks a word.AskStore ∷ []) in
      stored_wv (recorded (acted ready (moves a ∷ [])) a x true x.wv) a x ks (word_notice ready a)
  late_wv w a x (Storing ks) seat l h = stored_wv (acted w (moves a ∷ [])) a x ks (word_notice w a)
  late_wv w a x (Homing []) seat l h = ap (λ (z : Seat V). z.wv) seat
  late_wv w a x (Homing (k ∷ ks)) seat l h = home_wv (acted w (GoHome a k ∷ [])) a x ks
  late_wv w a x Releasing seat l h = released_wv (acted w (moves a ∷ [])) a x (word_notice w a) seat h
  late_wv w a x Closing seat l h = absurd (let z : ⊥ = cc in z)
  late_wv w a x st seat l h = absurd (true≢false (sym l))

  -- ---- the record that a step makes
  abbrev IsMadeAt : Seat V → Stage V → Notice V → Option (Record V) → Type 0
  IsMadeAt x st n None = Unit {0}
  IsMadeAt x st n (Some r) =
      (r.calls ≡ calls_in (known_stage_at x.calls st)) × (r.number ≡ number_at x st) × (n ≡ Quiet → r.number ≡ x.wv)

  made_at : (w : World V) (a : ℕ) (x : Seat V) (st : Stage V) → IsMadeAt x st (step_at w a x st).1 (committed_by x st)
  unfolding calls_in
  made_at w a x (Ready ks) = (refl, refl, λ _. refl)
  made_at w a x Closing = (refl, refl, λ h. absurd (let z : ⊥ = cc in z))
  made_at w a x st = tt

  -- ---- what is answered of a transaction that is being aborted
  cancelled_tells : (u : World V) (a : ℕ) (x : Seat V) (n : told.Notice) → (has_cancelled u a x n).1 ≡ Quiet
  cancelled_tells u a x told.Cancelled = refl
  cancelled_tells u a x n = refl

  back_tells : (u : World V) (a : ℕ) (x : Seat V) (ks : List ℕ) → (gives_up u a x ks).1 ≡ Quiet
  back_tells u a x [] = refl
  back_tells u a x (k ∷ ks) = refl

  ending_tells : (w : World V) (a : ℕ) (x : Seat V) (st : Stage V) → is_ending st ≡ true
      → ((step_at w a x st).1 ≡ Quiet) ⊎ ((step_at w a x st).1 ≡ why a x.cause)
  ending_tells w a x Cancelling h = inl (cancelled_tells _ a x _)
  ending_tells w a x (Returning []) h = inl refl
  ending_tells w a x (Returning (k ∷ ks)) h = inl (back_tells _ a x ks)
  ending_tells w a x Leaving h = inr refl
  ending_tells w a x st h = absurd (true≢false (sym h))

  -- ---- one step
  -- what is known of a step of a from the seat x at this stage to y, which answers n and makes the record o
  record Facts (a : ℕ) (x : Seat V) (st : Stage V) (n : Notice V) (y : Seat V) (o : Option (Record V)) : Type 0 where
    moves : StepMoves (known_stage_at x.calls st) (is_some o) n (known_stage y)
    kept : is_call (known_stage_at x.calls st) ≡ false → IsKept a st x y n
    wv : (is_done (known_stage_at x.calls st) || is_some o) ≡ true → n ≡ Quiet → y.wv ≡ x.wv
    made : IsMadeAt x st n o
    noted : is_end (known_stage_at x.calls st) ≡ false → known_stage y ≡ Ends → IsGivenUp y
    keeps : is_end (known_stage_at x.calls st) ≡ true → known_stage y ≡ Ends → y.cause ≡ x.cause
    tells : is_end (known_stage_at x.calls st) ≡ true → (n ≡ Quiet) ⊎ (n ≡ why a x.cause)

  -- a begin
  begins_on : (a : ℕ) (s x : Seat V) (st : Stage V) (n : Notice V) (y : Seat V) (o d : Option (Record V))
      → known_stage_at x.calls st ≡ Begins
      → IsKept a st x y n → d ≡ None → StepMoves Begins (is_some o) n (known_stage y) → known_stage s ≡ Begins
      → ComesTo a s n y (latest o d)
  begins_on a s x st Quiet y None d at kept none h on = subst (λ p. IsUnderWayFrom s p y d) (sym on) (h, none)
  begins_on a s x st (Answered b (answer.Begun rv)) y None d at kept none h on =
      subst (λ p. EndsFrom a s p (Answered b (answer.Begun rv)) y d) (sym on) (h, kept.2, none)
  begins_on a s x st (Answered b q) y None d at kept none h on = absurd h
  begins_on a s x st (Refused b cause) y None d at kept none h on =
      subst (λ p. EndsFrom a s p (Refused b cause) y d) (sym on) (h, none)
  begins_on a s x st n y (Some r) d at kept none h on = absurd h

  -- a call
  call_on : (a : ℕ) (s : Seat V) (calls : List (Call V × Reply V)) (call : Call V) (n : Notice V) (y : Seat V) (o d : Option (Record V))
      → (known_stage y ≡ Ends → IsGivenUp y) → d ≡ None → StepMoves (Calls calls call) (is_some o) n (known_stage y)
      → known_stage s ≡ Calls calls call
      → ComesTo a s n y (latest o d)
  call_on a s calls call Quiet y None d noted none (inl same) on = subst (λ p. IsUnderWayFrom s p y d) (sym on) (inl same, none)
  call_on a s calls call Quiet y None d noted none (inr ends) on = subst (λ p. IsUnderWayFrom s p y d) (sym on) (inr (noted ends), none)
  call_on a s calls call (Answered b (answer.Replied r)) y None d noted none h on =
      subst (λ p. EndsFrom a s p (Answered b (answer.Replied r)) y d) (sym on) (h, none)
  call_on a s calls call (Answered b q) y None d noted none h on = absurd h
  call_on a s calls call (Refused b cause) y None d noted none h on =
      subst (λ p. EndsFrom a s p (Refused b cause) y d) (sym on) (inl h, none)
  call_on a s calls call n y (Some r) d noted none h on = absurd h

  -- a transaction that is being aborted, for a cause that was noted since, or before
  up_calls : (a : ℕ) (s : Seat V) (calls : List (Call V × Reply V)) (call : Call V) (x : Seat V) (n : Notice V) (y : Seat V)
      (o d : Option (Record V)) (cause : Refusal) → x.cause ≡ Some cause → (known_stage y ≡ Ends → y.cause ≡ x.cause)
      → (n ≡ Quiet) ⊎ (n ≡ why a x.cause) → d ≡ None → StepMoves Ends (is_some o) n (known_stage y) → known_stage s ≡ Calls calls call
      → ComesTo a s n y (latest o d)
  up_calls a s calls call x Quiet y None d cause is keeps tells none h on =
      subst (λ p. IsUnderWayFrom s p y d) (sym on) (inr (h, (cause, keeps h ∙ is)), none)
  up_calls a s calls call x (Answered b q) y None d cause is keeps (inl e) none h on = absurd (let z : ⊥ = cc in z)
  up_calls a s calls call x (Answered b q) y None d cause is keeps (inr e) none h on =
      absurd (let f = e ∙ ap (why a) is in let z : ⊥ = cc in z)
  up_calls a s calls call x (Refused b c) y None d cause is keeps tells none h on =
      subst (λ p. EndsFrom a s p (Refused b c) y d) (sym on) (inr h, none)
  up_calls a s calls call x n y (Some r) d cause is keeps tells none h on = absurd h

  up_commits : (a : ℕ) (s : Seat V) (calls : List (Call V × Reply V)) (x : Seat V) (n : Notice V) (y : Seat V)
      (o d : Option (Record V)) (cause : Refusal) → x.cause ≡ Some cause → (known_stage y ≡ Ends → y.cause ≡ x.cause)
      → (n ≡ Quiet) ⊎ (n ≡ why a x.cause) → d ≡ None → StepMoves Ends (is_some o) n (known_stage y) → known_stage s ≡ Commits calls
      → ComesTo a s n y (latest o d)
  up_commits a s calls x Quiet y None d cause is keeps tells none h on =
      subst (λ p. IsUnderWayFrom s p y d) (sym on) (inl (inr (h, (cause, keeps h ∙ is)), none))
  up_commits a s calls x (Answered b q) y None d cause is keeps (inl e) none h on = absurd (let z : ⊥ = cc in z)
  up_commits a s calls x (Answered b q) y None d cause is keeps (inr e) none h on =
      absurd (let f = e ∙ ap (why a) is in let z : ⊥ = cc in z)
  up_commits a s calls x (Refused b c) y None d cause is keeps tells none h on =
      subst (λ p. EndsFrom a s p (Refused b c) y d) (sym on) (h, none)
  up_commits a s calls x n y (Some r) d cause is keeps tells none h on = absurd h

  up_ends : (a : ℕ) (s x : Seat V) (n : Notice V) (y : Seat V) (o d : Option (Record V)) → x.cause ≡ s.cause
      → (known_stage y ≡ Ends → y.cause ≡ x.cause) → (n ≡ Quiet) ⊎ (n ≡ why a x.cause) → d ≡ None
      → StepMoves Ends (is_some o) n (known_stage y)
      → known_stage s ≡ Ends → ComesTo a s n y (latest o d)
  up_ends a s x Quiet y None d is keeps tells none h on =
      subst (λ p. IsUnderWayFrom s p y d) (sym on) (h, keeps h ∙ is, none)
  up_ends a s x (Answered b q) y None d is keeps (inl e) none h on = absurd (let z : ⊥ = cc in z)
  up_ends a s x (Answered b answer.Aborted) y None d is keeps (inr e) none h on =
      subst (λ p. EndsFrom a s p (Answered b answer.Aborted) y d) (sym on) (h, e ∙ ap (why a) is, none)
  up_ends a s x (Answered b q) y None d is keeps (inr e) none h on = absurd h
  up_ends a s x (Refused b c) y None d is keeps (inl e) none h on = absurd (let z : ⊥ = cc in z)
  up_ends a s x (Refused b c) y None d is keeps (inr e) none h on =
      subst (λ p. EndsFrom a s p (Refused b c) y d) (sym on) (h, e ∙ ap (why a) is, none)
  up_ends a s x n y (Some r) d is keeps tells none h on = absurd h

  -- a commit, before its record is made
  commit_on : (a : ℕ) (s : Seat V) (calls : List (Call V × Reply V)) (x : Seat V) (st : Stage V) (n : Notice V) (y : Seat V)
      (o d : Option (Record V)) → known_stage_at x.calls st ≡ Commits calls → IsKept a st x y n → IsMadeAt x st n o
      → (is_some o ≡ true → n ≡ Quiet → y.wv ≡ x.wv) → (known_stage y ≡ Ends → IsGivenUp y) → d ≡ None
      → StepMoves (Commits calls) (is_some o) n (known_stage y) → known_stage s ≡ Commits calls → ComesTo a s n y (latest o d)
  unfolding calls_in
  commit_on a s calls x st Quiet y None d at kept made wv noted none (inl same) on =
      subst (λ p. IsUnderWayFrom s p y d) (sym on) (inl (inl same, none))
  commit_on a s calls x st Quiet y None d at kept made wv noted none (inr ends) on =
      subst (λ p. IsUnderWayFrom s p y d) (sym on) (inl (inr (noted ends), none))
  commit_on a s calls x st Quiet y (Some r) d at kept made wv noted none h on =
      subst (λ p. IsUnderWayFrom s p y (Some r)) (sym on)
      (inr (h, (made.0 ∙ ap calls_in at, made.2 refl ∙ sym (wv refl refl))))
  commit_on a s calls x st (Answered b (answer.Committed k)) y (Some r) d at kept made wv noted none h on =
      subst (λ p. EndsFrom a s p (Answered b (answer.Committed k)) y (Some r)) (sym on)
      (h, (made.0 ∙ ap calls_in at, made.1 ∙ sym kept.2))
  commit_on a s calls x st (Answered b q) y (Some r) d at kept made wv noted none h on = absurd h
  commit_on a s calls x st (Answered b q) y None d at kept made wv noted none h on = absurd h
  commit_on a s calls x st (Refused b c) y o d at kept made wv noted none h on = absurd (refused o h)
    where
      refused : (o : Option (Record V)) → StepMoves (Commits calls) (is_some o) (Refused b c) (known_stage y) → ⊥
      refused None h = h
      refused (Some r) h = h

  -- and once it is made
  number_late : (x : Seat V) (st : Stage V) → is_done (known_stage_at x.calls st) ≡ true → number_at x st ≡ x.wv
  unfolding is_done
  number_late x Closing h = absurd (true≢false (sym h))
  number_late x st h = refl

  same_record : (calls : List (Call V × Reply V)) (k n : ℕ) (d : Option (Record V)) → k ≡ n → IsRecordOf calls k d → IsRecordOf calls n d
  same_record calls k n None e h = h
  same_record calls k n (Some r) e h = (h.0, h.1 ∙ e)

  done_on : (a : ℕ) (s : Seat V) (calls : List (Call V × Reply V)) (x : Seat V) (st : Stage V) (n : Notice V) (y : Seat V)
      (o d : Option (Record V)) → known_stage_at x.calls st ≡ Committed → IsKept a st x y n → (n ≡ Quiet → y.wv ≡ x.wv)
      → IsRecordOf calls x.wv d
      → StepMoves Committed (is_some o) n (known_stage y) → known_stage s ≡ Commits calls → ComesTo a s n y (latest o d)
  unfolding is_done
  done_on a s calls x st Quiet y None d at kept wv has h on =
      subst (λ p. IsUnderWayFrom s p y d) (sym on) (inr (h, same_record calls x.wv y.wv d (sym (wv refl)) has))
  done_on a s calls x st (Answered b (answer.Committed k)) y None d at kept wv has h on =
      subst (λ p. EndsFrom a s p (Answered b (answer.Committed k)) y d) (sym on)
      (h, same_record calls x.wv k d (sym (kept.2 ∙ number_late x st (ap is_done at))) has)
  done_on a s calls x st (Answered b q) y None d at kept wv has h on = absurd h
  done_on a s calls x st (Refused b c) y None d at kept wv has h on = absurd h
  done_on a s calls x st n y (Some r) d at kept wv has h on = absurd h

  goes_on : (a : ℕ) (s x : Seat V) (n : Notice V) (y : Seat V) (o d : Option (Record V)) (p : KnownStage V) → Facts a x x.stage n y o
      → known_stage s ≡ p → IsUnderWayFrom s p x d → ComesTo a s n y (latest o d)
  unfolding is_call is_done is_end
  goes_on a s x n y o d Begins f on h =
      begins_on a s x x.stage n y o d h.0 (f.kept (ap is_call h.0)) h.1
      (subst (λ p. StepMoves p (is_some o) n (known_stage y)) h.0 f.moves) on
  goes_on a s x n y o d (Calls calls call) f on (inl same, none) =
      call_on a s calls call n y o d (f.noted (ap is_end same)) none (subst (λ p. StepMoves p (is_some o) n (known_stage y)) same f.moves)
      on
  goes_on a s x n y o d (Calls calls call) f on (inr up, none) =
      up_calls a s calls call x n y o d up.1.0 up.1.1 (f.keeps (ap is_end up.0)) (f.tells (ap is_end up.0)) none
      (subst (λ p. StepMoves p (is_some o) n (known_stage y)) up.0 f.moves) on
  goes_on a s x n y o d (Commits calls) f on (inl (inl same, none)) =
      commit_on a s calls x x.stage n y o d same (f.kept (ap is_call same)) f.made (λ made q. f.wv (either made) q)
      (f.noted (ap is_end same))
      none (subst (λ p. StepMoves p (is_some o) n (known_stage y)) same f.moves) on
    where
      either : is_some o ≡ true → (is_done (known_stage x) || is_some o) ≡ true
      either e = ap (λ b. b || is_some o) (ap is_done same) ∙ e
  goes_on a s x n y o d (Commits calls) f on (inl (inr up, none)) =
      up_commits a s calls x n y o d up.1.0 up.1.1 (f.keeps (ap is_end up.0)) (f.tells (ap is_end up.0)) none
      (subst (λ p. StepMoves p (is_some o) n (known_stage y)) up.0 f.moves) on
  goes_on a s x n y o d (Commits calls) f on (inr has) =
      done_on a s calls x x.stage n y o d has.0 (f.kept (ap is_call has.0)) (f.wv (ap (λ b. b || is_some o) (ap is_done has.0))) has.1
      (subst (λ p. StepMoves p (is_some o) n (known_stage y)) has.0 f.moves) on
  goes_on a s x n y o d Ends f on h =
      up_ends a s x n y o d h.1 (f.keeps (ap is_end h.0)) (f.tells (ap is_end h.0)) h.2
      (subst (λ p. StepMoves p (is_some o) n (known_stage y)) h.0 f.moves) on
  goes_on a s x n y o d Rests f on h = absurd h
  goes_on a s x n y o d (Stands calls) f on h = absurd h
  goes_on a s x n y o d Committed f on h = absurd h

  pub steps_come : StepsComeTo V
  unfolding is_call is_done is_end calls_in
  steps_come blocks clock values held events a s d stripes under =
      goes_on a s x r.1 (r.0.seats a) (committed_by x x.stage) d (known_stage s) facts refl under
    where
      w : World V
      w = run (opened blocks clock values held) events

      x : Seat V
      x = w.seats a

      r : After V
      r = happens w (Step a)

      ending : is_end (known_stage x) ≡ is_ending x.stage
      ending = ends_as x.calls x.stage

      later : known_stage (r.0.seats a) ≡ Ends → is_ending (r.0.seats a).stage ≡ true
      later e = ends_at (r.0.seats a) e

      facts : Facts a x x.stage r.1 (r.0.seats a) (committed_by x x.stage)
      facts = record {
        moves = steps_move w a;
        kept = λ e. stepped_kept w a (no_call x.calls x.stage e);
        wv = λ l q. late_wv w a x x.stage refl l q;
        made = made_at w a x x.stage;
        noted = λ e q. (
            let c = world_causes blocks clock values held events a stripes (sym ending ∙ e) (later q) in (q, (c.0, c.1)));
        keeps = λ e q. keeps_cause w a (sym ending ∙ e) (later q);
        tells = λ e. ending_tells w a x x.stage (sym ending ∙ e);
      }
