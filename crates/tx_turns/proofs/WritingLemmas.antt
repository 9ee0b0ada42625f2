-- Whether a commit has written. A commit with writes never stands at the load of the clock that ends one without, and only a commit under
-- way is one after the next step: so its record says what was asked.
use Rattle.std.proofs.Common.{◌≡◌, ℕ, zero, suc, Bool, true, false, true≢false, cond, List, [], ◌∷◌, ◌++◌, Option, Some, None, inl, inr}
use Rattle.std.proofs.Common.{refl, sym, ap, ◌∙◌}
use Rattle.std.specs.Prelude.{is_some, not}
use Rattle.tx_machine.specs.Requests as word
use Rattle.tx_machine.specs.Notices as told
use Rattle.tx_machine.proofs.Sets.{put-same}
use Rattle.seq_model.specs.declared.call.Call.{Call}
use Rattle.seq_model.specs.declared.call.Reply.{Reply}
use Rattle.seq_model.specs.declared.event.Answer.TheVariants as answer
use Rattle.seq_model.specs.declared.event.Notice.{Notice}
use Rattle.seq_model.specs.declared.event.Notice.TheVariants.{Quiet, Answered, Refused}
use Rattle.seq_model.specs.declared.record.Record.{Record}
use Rattle.seq_model.specs.declared.refusal.Refusal.TheVariants as refusal
use Rattle.tx_machine.specs.Boosted.{TakeGate, is_none}
use Rattle.replay_log.specs.Worlds.{World, Seat, Stage, Locking, Gating, Ready, Closing, Cancelling, Leaving, Returning, acted, actor_of}
use Rattle.replay_log.specs.Worlds.{asks, at_stage, because, gives_up, has_locked, has_tried, is_leaving, moves, seated, step_at}
use Rattle.replay_log.specs.Worlds.{takes_gates}
use Rattle.replay_log.specs.Worlds.{word_notice, written_homes}
use Rattle.replay_log.specs.WorldTraces.{committed_by}
use Rattle.actor_laws.specs.Courses.{latest}
use Rattle.actor_laws.specs.KnownStages.{KnownStage, Rests, Begins, Stands, Calls, Commits}
use Rattle.actor_laws.specs.KnownStages.{Committed, Ends, StepMoves, known_stage, known_stage_at}
use Rattle.tx_turns.specs.Driven.{IsWritten, is_closing}

takes_open : (V : Type 0) (got ks : List ℕ) → is_closing {V = V} (takes_gates got ks) ≡ false
takes_open V got [] = refl
takes_open V got (k ∷ ks) = refl

module _ {V : Type 0} where
  unfoldable pub is_commit : KnownStage V → Bool
  is_commit (Commits calls) = true
  is_commit p = false

  pub is_one : (calls : List (Call V × Reply V)) (st : Stage V) → is_commit (known_stage_at calls st) ≡ true
      → known_stage_at calls st ≡ Commits calls
  unfolding is_commit
  is_one calls Locking c = refl
  is_one calls (Gating got ks tries) c = refl
  is_one calls (Ready ks) c = refl
  is_one calls Closing c = refl
  is_one calls st c = absurd (true≢false (sym c))

  -- only a transaction that is to commit makes a record
  pub commits_first : (x : Seat V) (st : Stage V) (r : Record V) → committed_by x st ≡ Some r → is_commit (known_stage_at x.calls st) ≡ true
  unfolding is_commit
  commits_first x (Ready ks) r h = refl
  commits_first x Closing r h = refl
  commits_first x st r h = absurd (let z : ⊥ = cc in z)

  writes_in : Option (Record V) → Bool
  writes_in (Some q) = q.writes
  writes_in None = true

  -- only a commit under way is one after the next step
  pub was_commit : (p : KnownStage V) (b : Bool) (n : Notice V) (q : KnownStage V) → StepMoves p b n q → is_commit q ≡ true
      → is_commit p ≡ true
  unfolding is_commit
  was_commit (Commits calls) b n q h e = refl
  was_commit Rests false (Refused b cause) q h e = absurd (true≢false (sym e ∙ ap is_commit h))
  was_commit Begins false (Answered b (answer.Begun rv)) q h e = absurd (true≢false (sym e ∙ ap is_commit h))
  was_commit Begins false (Refused b cause) q h e = absurd (true≢false (sym e ∙ ap is_commit h))
  was_commit Begins false Quiet q h e = absurd (true≢false (sym e ∙ ap is_commit h))
  was_commit (Stands calls) false (Refused b cause) q h e = absurd (true≢false (sym e ∙ ap is_commit h))
  was_commit (Calls calls call) false (Answered b (answer.Replied r)) q h e = absurd (true≢false (sym e ∙ ap is_commit h))
  was_commit (Calls calls call) false (Refused b cause) q h e = absurd (true≢false (sym e ∙ ap is_commit h.0))
  was_commit (Calls calls call) false Quiet q (inl h) e = absurd (true≢false (sym e ∙ ap is_commit h))
  was_commit (Calls calls call) false Quiet q (inr h) e = absurd (true≢false (sym e ∙ ap is_commit h))
  was_commit Committed false Quiet q h e = absurd (true≢false (sym e ∙ ap is_commit h))
  was_commit Committed false (Answered b (answer.Committed n)) q h e = absurd (true≢false (sym e ∙ ap is_commit h))
  was_commit Ends false Quiet q h e = absurd (true≢false (sym e ∙ ap is_commit h))
  was_commit Ends false (Answered b answer.Aborted) q h e = absurd (true≢false (sym e ∙ ap is_commit h))
  was_commit Ends false (Refused b cause) q h e = absurd (true≢false (sym e ∙ ap is_commit h))
  was_commit p b n q h e = absurd h

  -- ---- one with writes doesn't reach that load
  seated_open : (u : World V) (a : ℕ) (x : Seat V) → is_closing x.stage ≡ false → is_closing ((seated u a x).seats a).stage ≡ false
  seated_open u a x h = ap (λ (y : Seat V). is_closing y.stage) (put-same u.seats a x) ∙ h

  given_up_open : (u : World V) (a : ℕ) (x : Seat V) (ks : List ℕ) → is_closing ((gives_up u a x ks).0.seats a).stage ≡ false
  given_up_open u a x [] =
      let t = acted u (asks a word.AskCancel ∷ asks a word.AskAbort ∷ []) in
      let b = is_leaving (actor_of t a).place in
      seated_open t a (at_stage x (cond b Leaving Cancelling)) (by b)
    where
      by : (b : Bool) → is_closing {V = V} (cond b Leaving Cancelling) ≡ false
      by true = refl
      by false = refl
  given_up_open u a x (k ∷ ks) = seated_open u a (at_stage x (Returning (k ∷ ks))) refl

  locked_open : (u : World V) (a : ℕ) (x : Seat V) (n : told.Notice) → u.seats a ≡ x → x.stage ≡ Locking
      → is_closing ((has_locked u a x n).0.seats a).stage ≡ false
  locked_open u a x (told.LockedAt wv) seat at =
      seated_open u a (record x { stage = takes_gates [] (written_homes u a); wv = wv }) (takes_open V [] (written_homes u a))
  locked_open u a x (told.Busy l found) seat at = given_up_open u a (because x (refusal.Busy l found)) []
  locked_open u a x (told.Invalid l found) seat at = given_up_open u a (because x (refusal.Invalid l found)) []
  locked_open u a x n seat at = ap (λ (y : Seat V). is_closing y.stage) seat ∙ ap is_closing at

  tried_open : (u : World V) (a : ℕ) (x : Seat V) (free : Bool) (k : ℕ) (got : List ℕ) (again : ℕ → Stage V) (next : Stage V) (tries : ℕ)
      → is_closing next ≡ false → ((n : ℕ) → is_closing (again n) ≡ false)
      → is_closing ((has_tried u a x free k got again next tries).0.seats a).stage ≡ false
  tried_open u a x true k got again next zero f g = seated_open u a (at_stage x next) f
  tried_open u a x true k got again next (suc n) f g = seated_open u a (at_stage x next) f
  tried_open u a x false k got again next zero f g = given_up_open u a (because x (refusal.GateBusy k)) got
  tried_open u a x false k got again next (suc n) f g = seated_open u a (at_stage x (again n)) (g n)

  -- ---- one step
  module _ (w : World V) (a : ℕ) (x : Seat V) (from : Stage V) where
    -- by a step at this stage, which makes no record
    stays : (st : Stage V) → w.seats a ≡ x → x.stage ≡ st → is_closing st ≡ is_closing from → is_commit (known_stage_at x.calls st) ≡ true
        → committed_by x st ≡ None → is_closing ((step_at w a x st).0.seats a).stage ≡ is_closing from
    unfolding is_commit
    stays Locking seat at was c none = locked_open (acted w (moves a ∷ [])) a x (word_notice w a) seat at ∙ was
    stays (Gating got [] tries) seat at was c none = ap (λ (y : Seat V). is_closing y.stage) seat ∙ (ap is_closing at ∙ was)
    stays (Gating got (k ∷ ks) tries) seat at was c none =
        tried_open (acted w (TakeGate a k ∷ [])) a x (is_none (w.boosted.gates k)) k got (λ n. Gating got (k ∷ ks) n)
        (takes_gates (got ++ k ∷ []) ks) tries (takes_open V (got ++ k ∷ []) ks) (λ n. refl)
        ∙ was
    stays (Ready ks) seat at was c none = absurd (let z : ⊥ = cc in z)
    stays Closing seat at was c none = absurd (let z : ⊥ = cc in z)
    stays st seat at was c none = absurd (true≢false (sym c))

    -- the record says it
    makes : (st : Stage V) (r : Record V) → is_closing st ≡ is_closing from → committed_by x st ≡ Some r → r.writes ≡ not (is_closing from)
    unfolding writes_in
    makes (Ready ks) r was e = ap writes_in (sym e) ∙ ap not was
    makes Closing r was e = ap writes_in (sym e) ∙ ap not was
    makes st r was e = absurd (let z : ⊥ = cc in z)

    closing_at : (st : Stage V) → x.stage ≡ st → is_commit (known_stage_at x.calls st) ≡ true → IsWritten from x None
        → is_closing st ≡ is_closing from
    closing_at st at c was = ap is_closing (sym at) ∙ was x.calls (ap (known_stage_at x.calls) at ∙ is_one x.calls st c)

    pub written_on : (st : Stage V) (e d : Option (Record V)) → w.seats a ≡ x → x.stage ≡ st
        → StepMoves (known_stage_at x.calls st) (is_some (committed_by x st)) (step_at w a x st).1
        (known_stage ((step_at w a x st).0.seats a))
        → committed_by x st ≡ e → ((r : Record V) → e ≡ Some r → d ≡ None) → IsWritten from x d
        → IsWritten from ((step_at w a x st).0.seats a) (latest e d)
    unfolding is_commit
    written_on st (Some r) None seat at moves made new was = makes st r (closing_at st at (commits_first x st r made) was) made
    written_on st (Some r) (Some q) seat at moves made new was = absurd (let f = new r refl in let z : ⊥ = cc in z)
    written_on st None (Some q) seat at moves made new was = was
    written_on st None None seat at moves made new was = λ calls e.
        let c = was_commit (known_stage_at x.calls st) (is_some (committed_by x st)) (step_at w a x st).1
        (known_stage ((step_at w a x st).0.seats a)) moves
        (ap is_commit e) in
        stays st seat at (closing_at st at c was) c made
