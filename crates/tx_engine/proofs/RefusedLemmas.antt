-- What the turns of an aborted transaction leave.
--
-- From its first value store on a commit continues, by its own turns, until its actor is idle, and what is asked meanwhile is refused. So
-- where a turn answers a cause, as only the last step of an aborted transaction does, no turn of this transaction stored a value or put a
-- base back with changes: its actor would have been idle in between. And of steps before a commit the lemmas on worlds say what they leave
-- (`steps_untouched`, `locks_held`, `keeps_locks`).
use Rattle.std.proofs.Common.{◌≡◌, ◌⊎◌, ℕ, Bool, true, false, List, [], ◌∷◌, ◌++◌, inl, inr, refl, sym, ap, ◌∙◌, subst, append_assoc}
use Rattle.std.proofs.Common.{◌<◌, true≢false, arith}
use Rattle.std.specs.Prelude.{is_some}
use Rattle.std.proofs.lemmas.Bool.{cases_eq}
use Rattle.std.proofs.lemmas.List.{append-nil}
use Rattle.tx_machine.specs.Notices as told
use Rattle.tx_machine.specs.Requests as word
use Rattle.tx_machine.proofs.Sets.{put-same}
use Rattle.seq_model.specs.declared.event.Answer.TheVariants as answer
use Rattle.seq_model.specs.declared.event.Event.{Event}
use Rattle.seq_model.specs.declared.event.Event.TheVariants.{Ask, Step, Starve}
use Rattle.seq_model.specs.declared.event.Notice.{Notice}
use Rattle.seq_model.specs.declared.event.Notice.TheVariants as notice
use Rattle.seq_model.specs.declared.event.Request.{Request}
use Rattle.seq_model.specs.declared.event.Request.TheVariants as request
use Rattle.seq_model.specs.declared.refusal.Refusal.{Refusal}
use Rattle.tx_machine.specs.Boosted.{GoHome, PutGate}
use Rattle.replay_log.specs.WorldAnswers.{IsRefusedAt, RefusedBy, changes_at}
use Rattle.replay_log.specs.WorldRefusals.{is_ending}
use Rattle.replay_log.specs.WorldTraces.{committed_by, is_half_done}
use Rattle.replay_log.specs.Worlds.{World, Seat, Stage, Idle, Open, Beginning, Copying, Ready, Storing, Homing, Releasing, Returning}
use Rattle.replay_log.specs.Worlds.{Cancelling, Leaving, acted, ask_at, asks, at_stage, gives_up, goes_home, happens, has_cancelled}
use Rattle.replay_log.specs.Worlds.{has_released, has_stored, moves}
use Rattle.replay_log.specs.Worlds.{no_one, recorded, run, seated, starve_at, step_at, word_notice}
use Rattle.replay_log.proofs.AnswerLemmas.{refused_step}
use Rattle.replay_log.proofs.EndingLemmas.{locks_held, steps_untouched}
use Rattle.replay_log.proofs.EventLemmas.{run_linked}
use Rattle.replay_log.proofs.RecordLemmas.{IsCommitting}
use Rattle.replay_log.proofs.SeatLemmas.{Linked}
use Rattle.actor_laws.proofs.Alike.{alike_same}
use Rattle.tx_actor.specs.Running.{notice_of}
use Rattle.tx_actor.specs.declared.actor.ActorNotice.{ActorNotice}
use Rattle.tx_actor.specs.declared.actor.ActorNotice.TheVariants as said
use Rattle.actor_laws.proofs.CourseLemmas.{ends_at}
use Rattle.actor_laws.proofs.KnownStageLemmas.{steps_move}
use Rattle.actor_laws.specs.KnownStages.{Ends, KnownStage, StepMoves, known_stage}
use Rattle.shared_table.specs.Seated as seats
use Rattle.shared_table.specs.Seated.{view}
use Rattle.shared_table.specs.Turns.{asked_all, found_at, lone, own, spot, stage_of, took}
use Rattle.shared_table.specs.declared.view.Turn.{Turn}
use Rattle.shared_table.specs.declared.seat.Seat as table
use Rattle.shared_table.proofs.Turned.{found_alike, lone_snoc}
use Rattle.tx_turns.proofs.RequestHistoryLemmas.{first_begins}
use Rattle.tx_turns.specs.Begins.{begins_asked, begins_taken}
use Rattle.tx_turns.specs.Driven.{HasTold}
use Rattle.tx_engine.proofs.HeldLemmas.{keeps_locks, leaves_bare}
use Rattle.tx_engine.proofs.TurnLemmas.{lone_append}
use Rattle.tx_engine.specs.Refused.{AllGiveBack, GaveUp, GivesBack, IsEndTold, IsGivenUpFor}

module _ {V : Type 0} where
  abbrev IsHalf : World V → ℕ → Type 0
  IsHalf u a = is_half_done (stage_of u a) ≡ true

  -- ---- a commit continues until its actor is idle
  sits_half : (u : World V) (a : ℕ) (x : Seat V) → is_half_done x.stage ≡ true → IsHalf (seated u a x) a
  sits_half u a x h = ap (λ (y : Seat V). is_half_done y.stage) (put-same u.seats a x) ∙ h

  home_half : (u : World V) (a : ℕ) (x : Seat V) (ks : List ℕ) → IsHalf (goes_home u a x ks).0 a
  home_half u a x [] = sits_half (acted u (asks a word.AskRelease ∷ [])) a (at_stage x Releasing) refl
  home_half u a x (k ∷ ks) = sits_half u a (at_stage x (Homing (k ∷ ks))) refl

  stored_half : (u : World V) (a : ℕ) (x : Seat V) (ks : List ℕ) (n : told.Notice) → IsHalf (has_stored u a x ks n).0 a
  stored_half u a x ks told.Stored = home_half u a x ks
  stored_half u a x ks n = sits_half u a (at_stage x (Storing ks)) refl

  abbrev GoesOn : World V → ℕ → Type 0
  GoesOn u a = IsHalf u a ⊎ (stage_of u a ≡ Idle)

  released_on : (u : World V) (a : ℕ) (x : Seat V) (n : told.Notice) → stage_of u a ≡ Releasing → GoesOn (has_released u a x n).0 a
  released_on u a x told.Released e = inr (ap (λ (y : Seat V). y.stage) (put-same u.seats a no_one))
  released_on u a x n e = inl (ap is_half_done e)

  step_on : (p : World V) (a : ℕ) (x : Seat V) (st : Stage V) → stage_of p a ≡ st → IsCommitting st → GoesOn (step_at p a x st).0 a
  step_on p a x (Ready ks) e h =
      let ready = acted p (asks a word.AskStore ∷ []) in
      inl (stored_half (recorded (acted ready (moves a ∷ [])) a x true x.wv) a x ks (word_notice ready a))
  step_on p a x (Storing ks) e h = inl (stored_half (acted p (moves a ∷ [])) a x ks (word_notice p a))
  step_on p a x (Homing []) e h = inl (ap is_half_done e)
  step_on p a x (Homing (k ∷ ks)) e h = inl (home_half (acted p (GoHome a k ∷ [])) a x ks)
  step_on p a x Releasing e h = released_on (acted p (moves a ∷ [])) a x (word_notice p a) e
  step_on p a x st e h = absurd h

  asked_half : (u : World V) (a : ℕ) (q : Request V) (st : Stage V) → stage_of u a ≡ st → is_half_done st ≡ true
      → IsHalf (ask_at u a (u.seats a) st q).0 a
  asked_half u a q (Storing ks) e h = ap is_half_done e
  asked_half u a q (Homing ks) e h = ap is_half_done e
  asked_half u a q Releasing e h = ap is_half_done e
  asked_half u a q st e h = absurd (true≢false (sym h))

  starved_half : (u : World V) (a : ℕ) (st : Stage V) → stage_of u a ≡ st → is_half_done st ≡ true
      → IsHalf (starve_at u a (u.seats a) st).0 a
  starved_half u a (Storing ks) e h = ap is_half_done e
  starved_half u a (Homing ks) e h = ap is_half_done e
  starved_half u a Releasing e h = ap is_half_done e
  starved_half u a st e h = absurd (true≢false (sym h))

  one_half : (u : World V) (a : ℕ) (e : Event V) → IsHalf u a → IsHalf (happens u (own a e)).0 a
  one_half u a (Ask b q) h = asked_half u a q (stage_of u a) refl h
  one_half u a (Step b) h = starved_half u a (stage_of u a) refl h
  one_half u a (Starve b) h = starved_half u a (stage_of u a) refl h

  all_half : (a : ℕ) (es : List (Event V)) (u : World V) → IsHalf u a → IsHalf (asked_all a u es) a
  all_half a [] u h = h
  all_half a (e ∷ es) u h = all_half a es (happens u (own a e)).0 (one_half u a e h)

  -- ---- the turns since the actor was idle, or from the first on
  either_way : (st : Stage V) → IsCommitting st ⊎ (IsCommitting st → ⊥)
  either_way (Ready ks) = inl tt
  either_way (Storing ks) = inl tt
  either_way (Homing ks) = inl tt
  either_way Releasing = inl tt
  either_way st = inr (λ h. h)

  half_commits : (st : Stage V) → is_half_done st ≡ true → IsCommitting st
  half_commits (Storing ks) h = tt
  half_commits (Homing ks) h = tt
  half_commits Releasing h = tt
  half_commits st h = absurd (true≢false (sym h))

  abbrev IsBefore : ℕ → World V → Turn V → Type 0
  IsBefore a w i = IsCommitting (stage_of (asked_all a w i.asks) a) → ⊥

  abbrev AreBefore : ℕ → World V → List (Turn V) → Type 0
  AreBefore a w [] = Unit {0}
  AreBefore a w (i ∷ is) = IsBefore a w i × AreBefore a (took a w i) is

  before_more : (a : ℕ) (is : List (Turn V)) (i : Turn V) (w : World V) → AreBefore a w is → IsBefore a (lone a w is) i
      → AreBefore a w (is ++ i ∷ [])
  before_more a [] i w h g = (g, tt)
  before_more a (j ∷ is) i w h g = (h.0, before_more a is i (took a w j) h.1 g)

  record Since (a : ℕ) (w : World V) (all : List (Turn V)) : Type 0 where
    pub earlier : List (Turn V)
    pub turns : List (Turn V)
    pub split : all ≡ earlier ++ turns
    pub since : (earlier ≡ []) ⊎ (stage_of (lone a w earlier) a ≡ Idle)
    pub before : AreBefore a (lone a w earlier) turns

  since_more : (a : ℕ) (w : World V) (is : List (Turn V)) (i : Turn V) → Since a w is → IsBefore a (lone a w is) i
      → Since a w (is ++ i ∷ [])
  since_more a w is i h g = record {
    earlier = h.earlier;
    turns = h.turns ++ i ∷ [];
    split = ap (λ (js : List (Turn V)). js ++ i ∷ []) h.split ∙ append_assoc h.earlier h.turns (i ∷ []);
    since = h.since;
    before = before_more a h.turns i (lone a w h.earlier) h.before
        (subst (λ (u : World V). IsBefore a u i) (ap (lone a w) h.split ∙ lone_append a h.earlier h.turns w) g);
  }

  abbrev Goes : ℕ → World V → List (Turn V) → World V → Type 0
  Goes a w is u = IsHalf u a ⊎ Since a w is

  took_goes : (w : World V) (is : List (Turn V)) (a : ℕ) (i : Turn V) → Goes a w is (lone a w is)
      → Goes a w (is ++ i ∷ []) (lone a w (is ++ i ∷ []))
  took_goes w is a i old =
      let u = lone a w is in
      let v = asked_all a u i.asks in
      let p = found_at a v (spot a v) i.found i.base in
      let at : stage_of p a ≡ stage_of v a =
      ap (λ (x : Seat V). x.stage) (sym (found_alike a v v (spot a v) i.found i.base (alike_same a v)).seat) in
      elim (either_way (stage_of v a)) [
        | inl commits ↦ elim (step_on p a (p.seats a) (stage_of p a) refl (subst IsCommitting (sym at) commits)) [
          | inl half ↦ inl (subst (λ (t : World V). IsHalf t a) (sym (lone_snoc a is w i)) half)
          | inr idle ↦ inr (record {
            earlier = is ++ i ∷ [];
            turns = [];
            split = sym (append-nil (is ++ i ∷ []));
            since = inr (subst (λ (t : World V). stage_of t a ≡ Idle) (sym (lone_snoc a is w i)) idle);
            before = tt;
          })
        ]
        | inr apart ↦ elim old [
          | inl half ↦ absurd (apart (half_commits (stage_of v a) (all_half a i.asks u half)))
          | inr since ↦ inr (since_more a w is i since apart)
        ]
      ]

  run_goes : (later is : List (Turn V)) (w : World V) (a : ℕ) → Goes a w is (lone a w is) → Goes a w (is ++ later) (lone a w (is ++ later))
  run_goes [] is w a old = subst (λ (js : List (Turn V)). Goes a w js (lone a w js)) (sym (append-nil is)) old
  run_goes (i ∷ later) is w a old =
      subst (λ (js : List (Turn V)). Goes a w js (lone a w js)) (append_assoc is (i ∷ []) later)
      (run_goes later (is ++ i ∷ []) w a (took_goes w is a i old))

  -- ---- an idle actor remains idle until it asks to begin
  asked_idle : (u : World V) (a : ℕ) (q : Request V) → begins_asked (Ask a q ∷ []) ≡ 0 → stage_of u a ≡ Idle
      → stage_of (happens u (Ask a q)).0 a ≡ Idle
  asked_idle u a q none e =
      subst (λ (st : Stage V). stage_of (ask_at u a (u.seats a) st q).0 a ≡ Idle) (sym e) (by q none)
    where
      by : (q : Request V) → begins_asked (Ask a q ∷ []) ≡ 0 → stage_of (ask_at u a (u.seats a) Idle q).0 a ≡ Idle
      by request.Begin none = absurd (omega (arith, none))
      by request.BeginRead none = absurd (omega (arith, none))
      by q none = e

  starved_idle : (u : World V) (a : ℕ) → stage_of u a ≡ Idle → stage_of (happens u (Starve a)).0 a ≡ Idle
  starved_idle u a e = subst (λ (st : Stage V). stage_of (starve_at u a (u.seats a) st).0 a ≡ Idle) (sym e) e

  all_idle : (a : ℕ) (es : List (Event V)) (u : World V) → begins_asked es ≡ 0 → stage_of u a ≡ Idle → stage_of (asked_all a u es) a ≡ Idle
  all_idle a [] u none e = e
  all_idle a (Ask b request.Begin ∷ es) u none e = absurd (omega (arith, none))
  all_idle a (Ask b request.BeginRead ∷ es) u none e = absurd (omega (arith, none))
  all_idle a (Ask b q ∷ es) u none e = all_idle a es (happens u (Ask a q)).0 none (asked_idle u a q refl e)
  all_idle a (Step b ∷ es) u none e = all_idle a es (happens u (Starve a)).0 none (starved_idle u a e)
  all_idle a (Starve b ∷ es) u none e = all_idle a es (happens u (Starve a)).0 none (starved_idle u a e)

  took_idle : (w : World V) (a : ℕ) (i : Turn V) → begins_asked i.asks ≡ 0 → stage_of w a ≡ Idle → stage_of (took a w i) a ≡ Idle
  took_idle w a i none e =
      let v = asked_all a w i.asks in
      let p = found_at a v (spot a v) i.found i.base in
      let at : stage_of p a ≡ Idle =
      ap (λ (x : Seat V). x.stage) (sym (found_alike a v v (spot a v) i.found i.base (alike_same a v)).seat)
      ∙ all_idle a i.asks w none e in
      subst (λ (st : Stage V). stage_of (step_at p a (p.seats a) st).0 a ≡ Idle) (sym at) at

  rests_on : (a : ℕ) (is : List (Turn V)) (i : Turn V) (w : World V) → begins_taken (is ++ i ∷ []) ≡ 0 → stage_of w a ≡ Idle
      → stage_of (asked_all a (lone a w is) i.asks) a ≡ Idle
  rests_on a [] i w none e = (let all = first_begins i [] in all_idle a i.asks w (omega (arith, none, all)) e)
  rests_on a (j ∷ is) i w none e =
      let all = first_begins j (is ++ i ∷ []) in
      rests_on a is i (took a w j) (omega (arith, none, all)) (took_idle w a j (omega (arith, none, all)) e)

  has_begun : (a : ℕ) (is : List (Turn V)) (i : Turn V) (w : World V) → stage_of w a ≡ Idle
      → stage_of (asked_all a (lone a w is) i.asks) a ≡ Leaving → 0 < begins_taken (is ++ i ∷ [])
  has_begun a is i w e at = elim (cases_eq (begins_taken (is ++ i ∷ [])) 0) [
    | inl none ↦ absurd (let z = sym (rests_on a is i w none e) ∙ at in let b : ⊥ = cc in b)
    | inr some ↦ omega (arith, some)
  ]

  -- ---- what such a turn leaves
  unchanging : (st : Stage V) → (IsCommitting st → ⊥) → changes_at st ≡ false
  unchanging (Ready ks) apart = absurd (apart tt)
  unchanging (Storing ks) apart = absurd (apart tt)
  unchanging (Homing ks) apart = absurd (apart tt)
  unchanging st apart = refl

  gives_back : (v : World V) (a : ℕ) → Linked v → (IsCommitting (stage_of v a) → ⊥) → GivesBack a v
  gives_back v a linked apart = record {
    untouched = steps_untouched v a linked (unchanging (stage_of v a) apart);
    locked = λ l k h. locks_held v a l k linked h;
    back = keeps_locks v a linked apart;
  }

  all_give_back : (o : World V) (a : ℕ) → Linked o → (is : List (Turn V)) (w : World V) → AreBefore a w is → AllGiveBack o a w is
  all_give_back o a linked [] w h = tt
  all_give_back o a linked (i ∷ is) w h = (
    λ events alike. gives_back (run o events) a (run_linked events o linked)
        (λ on. h.0 (subst IsCommitting (ap (λ (x : Seat V). x.stage) alike.seat) on)),
    all_give_back o a linked is (took a w i) h.1,
  )

  -- ---- where a cause is answered, or that the transaction was aborted
  leaving_at : (v u : World V) (a : ℕ) (st : Stage V) (cause : Refusal) → IsGivenUpFor cause → IsRefusedAt v a st u cause → st ≡ Leaving
  leaving_at v u a Leaving cause up h = refl
  leaving_at v u a Idle cause up h = absurd (subst IsGivenUpFor h.0 up)
  leaving_at v u a Open cause up h = absurd (subst IsGivenUpFor h.0 up)
  leaving_at v u a Beginning cause up h = absurd (subst IsGivenUpFor h.0 up)
  leaving_at v u a (Copying asked) cause up h = absurd (subst IsGivenUpFor h.0 up)
  leaving_at v u a st cause up h = absurd h

  aborted_ends : (p : KnownStage V) (commits : Bool) (a : ℕ) (later : KnownStage V)
      → StepMoves p commits (notice.Answered a answer.Aborted) later
      → p ≡ Ends
  aborted_ends Ends commits a later h = refl
  aborted_ends p true a later h = absurd h
  aborted_ends p false a later h = absurd h

  cancelled_quiet : (u : World V) (a : ℕ) (x : Seat V) (n : told.Notice) → (has_cancelled u a x n).1 ≡ notice.Quiet
  cancelled_quiet u a x told.Cancelled = refl
  cancelled_quiet u a x n = refl

  back_quiet : (u : World V) (a : ℕ) (x : Seat V) (ks : List ℕ) → (gives_up u a x ks).1 ≡ notice.Quiet
  back_quiet u a x [] = refl
  back_quiet u a x (k ∷ ks) = refl

  unsaid : (a : ℕ) (n : Notice V) → n ≡ notice.Quiet → n ≡ notice.Answered a answer.Aborted → ⊥
  unsaid a n quiet e = (let f : notice.Quiet ≡ notice.Answered a answer.Aborted = sym quiet ∙ e in cc)

  aborted_leaving : (v : World V) (a : ℕ) (x : Seat V) (st : Stage V) → is_ending st ≡ true
      → (step_at v a x st).1 ≡ notice.Answered a answer.Aborted → st ≡ Leaving
  aborted_leaving v a x Leaving h e = refl
  aborted_leaving v a x Cancelling h e =
      absurd (unsaid a _ (cancelled_quiet (acted v (moves a ∷ [])) a x (word_notice v a)) e)
  aborted_leaving v a x (Returning []) h e = absurd (unsaid a _ refl e)
  aborted_leaving v a x (Returning (k ∷ ks)) h e =
      absurd (unsaid a _ (back_quiet (acted v (PutGate a k (λ l. false) ∷ [])) a x ks) e)
  aborted_leaving v a x st h e = absurd (true≢false (sym h))

  aborted_at : (v : World V) (a : ℕ) → (happens v (Step a)).1 ≡ notice.Answered a answer.Aborted → stage_of v a ≡ Leaving
  aborted_at v a e =
      let x = v.seats a in
      let later = known_stage ((happens v (Step a)).0.seats a) in
      let commits = is_some (committed_by x x.stage) in
      let moved = subst (λ (n : Notice V). StepMoves (known_stage x) commits n later) e (steps_move v a) in
      aborted_leaving v a x x.stage (ends_at x (aborted_ends (known_stage x) commits a later moved)) e

  told_at : (v : World V) (a : ℕ) (n : ActorNotice V) → Linked v → IsEndTold n → (happens v (Step a)).1 ≡ notice_of a n
      → stage_of v a ≡ Leaving
  told_at v a (said.Refused cause) linked up is =
      let u = (happens v (Step a)).0 in
      leaving_at v u a (stage_of v a) cause up
      (subst (λ (n : Notice V). RefusedBy a (IsRefusedAt v a (stage_of v a) u) n) is (refused_step v a linked)).1
  told_at v a (said.Answered answer.Aborted) linked up is = aborted_at v a is
  told_at v a n linked up is = absurd up

  pub gave_up : (o : World V) (s u : table.Seat V) (n : ActorNotice V) → Linked o → IsEndTold n → HasTold o s u n → GaveUp o s u n
  gave_up o s u n linked up (v, turn, told_here) =
      let a = seats.actor s in
      let ts = (view s).turns in
      let w = lone a o ts in
      let there : Linked v = subst Linked turn.reached (run_linked turn.events o linked) in
      let leaving : stage_of v a ≡ Leaving = told_at v a n there up told_here in
      let here = lone a o (ts ++ turn.before) in
      let asked : World V = asked_all a here turn.turn.asks in
      let at : stage_of asked a ≡ Leaving = ap (λ (x : Seat V). x.stage) (sym turn.alike.seat) ∙ leaving in
      let first : Since a w [] = record { earlier = []; turns = []; split = refl; since = inl refl; before = tt } in
      let goes : Goes a w turn.before here =
      subst (Goes a w turn.before) (sym (lone_append a ts turn.before o)) (run_goes turn.before [] w a (inr first)) in
      elim goes [
        | inl half ↦ absurd (true≢false (sym (all_half a turn.turn.asks here half) ∙ ap is_half_done at))
        | inr h ↦
            let start : lone a o (ts ++ h.earlier) ≡ lone a w h.earlier = lone_append a ts h.earlier o in
            let ends : stage_of (asked_all a (lone a (lone a w h.earlier) h.turns) turn.turn.asks) a ≡ Leaving =
            subst (λ (t : World V). stage_of (asked_all a t turn.turn.asks) a ≡ Leaving)
            (lone_append a ts turn.before o ∙ ap (lone a w) h.split ∙ lone_append a h.earlier h.turns w) at in
            record {
              world = v;
              last = turn;
              told = told_here;
              bare = leaves_bare v a there leaving;
              earlier = h.earlier;
              turns = h.turns;
              before = h.split;
              since = elim h.since [
                | inl none ↦ inl none
                | inr idle ↦ inr (
                  subst (λ (t : World V). stage_of t a ≡ Idle) (sym start) idle,
                  has_begun a h.turns turn.turn (lone a w h.earlier) idle ends,
                )
              ];
              gave_back = subst (λ (t : World V). AllGiveBack o a t (h.turns ++ turn.turn ∷ [])) (sym start)
                  (all_give_back o a linked (h.turns ++ turn.turn ∷ []) (lone a w h.earlier)
                  (before_more a h.turns turn.turn (lone a w h.earlier) h.before
                  (λ on. subst IsCommitting ends on)));
            }
      ]
