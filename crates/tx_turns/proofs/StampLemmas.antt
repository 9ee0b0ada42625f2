-- Numbers, and the clock that a seat knows.
--
-- The step that gives a commit its number is one on the clock, which the seat knows from then on; no other step changes the number until
-- the record is made. What an actor's place says of its numbers holds in every world that events have reached, and the world with it alone
-- is one to it. A begin answers the clock that its own step loaded.
use Rattle.std.proofs.Common.{◌≡◌, ◌⊎◌, ℕ, zero, suc, ◌+◌, ◌<◌, ◌≤◌, Bool, true, false, true≢false, cond, ◌&&◌, not, eqb, List, [], ◌∷◌}
use Rattle.std.proofs.Common.{◌++◌, Option, Some, None, inl, inr, refl, sym, ap, ◌∙◌, subst, arith}
use Rattle.std.specs.Prelude.{is_some, nat_le, nat_lt}
use Rattle.tx_sets.specs.Entries.{lookup}
use Rattle.vlock_word.specs.declared.lock_word.LockWord.{LockWord}
use Rattle.vlock_word.specs.declared.lock_word.LockWord.TheVariants.{Free, Locked}
use Rattle.vlock_word.specs.LockWord.{bits, unbits}
use Rattle.tx_machine.specs.Actor as machine
use Rattle.tx_machine.specs.Actor.{Actor, Place, clock_limit, goes, seen_in_check, seen_to_lock, taken}
use Rattle.tx_machine.specs.Cells.{Cell, ClockCell, LockCell, becomes, learns, word_of}
use Rattle.tx_machine.specs.Notices as notice
use Rattle.tx_machine.specs.Requests as word
use Rattle.tx_machine.specs.World as world
use Rattle.tx_machine.specs.World.{plan, put}
use Rattle.tx_machine.proofs.Invariant.{PlaceOk}
use Rattle.tx_machine.proofs.Sets.{put-same}
use Rattle.seq_model.specs.declared.call.Call.{Call}
use Rattle.seq_model.specs.declared.call.Reply.{Reply}
use Rattle.seq_model.specs.declared.event.Answer.TheVariants as answer
use Rattle.seq_model.specs.declared.event.Event.TheVariants.{Step}
use Rattle.seq_model.specs.declared.event.Notice.{Notice}
use Rattle.seq_model.specs.declared.event.Notice.TheVariants.{Quiet, Answered, Refused}
use Rattle.seq_model.specs.declared.record.Record.{Record}
use Rattle.seq_model.specs.declared.refusal.Refusal.{Refusal}
use Rattle.seq_model.specs.declared.refusal.Refusal.TheVariants as refusal
use Rattle.tx_machine.specs.Boosted.{Boosted, TakeGate, gated, is_committing, is_none}
use Rattle.replay_log.proofs.EventLemmas.{opened_linked, run_linked}
use Rattle.replay_log.proofs.SeatLemmas.{AtLocking, StageOk}
use Rattle.replay_log.specs.declared.base.Base.{Base}
use Rattle.replay_log.specs.Base.{Shown}
use Rattle.replay_log.specs.Contents.{CallWithOutcome as Outcomes}
use Rattle.replay_log.specs.Worlds.{World, Seat, Stage, Beginning, Locking, Gating, Ready, Closing, Cancelling, Leaving, Returning, After}
use Rattle.replay_log.specs.Worlds.{acted, actor_of, asks, at_stage, because, gives_up, happens, has_begun, has_locked, has_tried}
use Rattle.replay_log.specs.Worlds.{is_leaving}
use Rattle.replay_log.specs.Worlds.{moves, run, step_at, takes_gates, word_notice}
use Rattle.replay_log.specs.WorldTraces.{committed_by}
use Rattle.actor_laws.proofs.Alone.{same_actors}
use Rattle.actor_laws.specs.StepTargets.{Spot, Nowhere, Word, Gate, deed_of, spot_at, spot_of}
use Rattle.actor_laws.specs.Steps.{ready_at}
use Rattle.actor_laws.specs.StepAnswers.{tells}
use Rattle.shared_table.specs.declared.view.Opening.{Opening}
use Rattle.shared_table.specs.Opening.{blocks_at, world_at}
use Rattle.shared_table.specs.Seated.{turned}
use Rattle.shared_table.specs.Shown.{IsReached}
use Rattle.shared_table.specs.Turns.{found_at, moved, spot}
use Rattle.actor_laws.proofs.KnownStageLemmas.{steps_move}
use Rattle.actor_laws.specs.KnownStages.{KnownStage, Commits, Ends, StepMoves, known_stage, known_stage_at}
use Rattle.tx_turns.proofs.WritingLemmas.{is_commit, was_commit}
use Rattle.tx_turns.specs.Driven.{IsNumberOf, IsStamped, IsStampedAt}
use Rattle.tx_turns.proofs.FoundLemmas.{found_cell, step_learns_cell, step_tells_cell}

-- ---- what a word actor that locks learns
raised : (k j : ℕ) (y : Actor) (p : Place) → k ≤ j → IsStampedAt k y p → IsStampedAt j y p
raised k j y (machine.Check ls) le h = omega (arith, le, h)
raised k j y p le h = tt

checked : (j : ℕ) (y : Actor) (ls : List ℕ) (w : LockWord) (own : Option ℕ) → y.wv ≤ j → IsStamped j (seen_in_check y ls w own)
checked j y ls (Free i) own h = both (nat_le i y.rv)
  where
    both : (b : Bool) → IsStamped j (cond b (goes y (machine.Check ls)) (goes y machine.Broken))
    both true = h
    both false = tt
checked j y ls (Locked i) (Some v) h = both (nat_le i y.rv)
  where
    both : (b : Bool) → IsStamped j (cond b (goes y (machine.Check ls)) (goes y machine.Broken))
    both true = h
    both false = tt
checked j y ls (Locked i) None h = tt

seen_locked : (j : ℕ) (y : Actor) (l : ℕ) (ls : List ℕ) (w : LockWord) → IsStamped j (seen_to_lock y l ls w)
seen_locked j y l ls (Free i) = tt
seen_locked j y l ls (Locked i) = tt

exchanged : (j : ℕ) (y : Actor) (l i : ℕ) (ls : List ℕ) (b : Bool) → IsStamped j (cond b (taken y l i ls) (goes y machine.Broken))
exchanged j y l i ls true = tt
exchanged j y l i ls false = tt

learnt : (y : Actor) (p : Place) (n k j : ℕ) → AtLocking p → IsStampedAt k y p → k ≤ j
    → (word_of (plan y p) ≡ Some ClockCell → j ≡ becomes (plan y p) n) → IsStamped j (learns (plan y p) y n)
learnt y (machine.Lock []) n k j h was le clock = (let e : j ≡ n + 1 = clock refl in omega (arith, e))
learnt y (machine.Lock (l ∷ ls)) n k j h was le clock = seen_locked j y l ls (unbits n)
learnt y (machine.Take l i ls) n k j h was le clock = exchanged j y l i ls (eqb n (bits (Free i)))
learnt y (machine.Check (l ∷ ls)) n k j h was le clock = checked j y ls (unbits n) (lookup y.writes l) (omega (arith, was, le))
learnt y (machine.Check []) n k j h was le clock = absurd h
learnt y p n k j h was le clock = absurd h

-- its word
locking_word : (y : Actor) (p : Place) → AtLocking p → (c : Cell) × (word_of (plan y p) ≡ Some c)
locking_word y (machine.Lock []) h = (ClockCell, refl)
locking_word y (machine.Lock (l ∷ ls)) h = (LockCell l, refl)
locking_word y (machine.Take l i ls) h = (LockCell l, refl)
locking_word y (machine.Check (l ∷ ls)) h = (LockCell l, refl)
locking_word y (machine.Check []) h = absurd h
locking_word y p h = absurd h

module _ {V : Type 0} where
  -- ---- what the definitions make of it
  over : (u : World V) (a : ℕ) (x : Seat V) (ks : List ℕ) → known_stage ((gives_up u a x ks).0.seats a) ≡ Ends
  over u a x [] =
      let t = acted u (asks a word.AskCancel ∷ asks a word.AskAbort ∷ []) in
      let b = is_leaving (actor_of t a).place in
      ap known_stage (put-same t.seats a (at_stage x (cond b Leaving Cancelling))) ∙ by b
    where
      by : (b : Bool) → known_stage_at x.calls (cond b Leaving Cancelling) ≡ Ends
      by true = refl
      by false = refl
  over u a x (k ∷ ks) = ap known_stage (put-same u.seats a (at_stage x (Returning (k ∷ ks))))

  -- it is aborted, or its word actor stands
  abbrev Stays : ℕ → World V → After V → Type 0
  Stays a u r = (known_stage (r.0.seats a) ≡ Ends) ⊎ (actor_of r.0 a ≡ actor_of u a)

  locked_stays : (u : World V) (a : ℕ) (x : Seat V) (n : notice.Notice) → Stays a u (has_locked u a x n)
  locked_stays u a x (notice.LockedAt wv) = inr refl
  locked_stays u a x (notice.Busy l found) = inl (over u a (because x (refusal.Busy l found)) [])
  locked_stays u a x (notice.Invalid l found) = inl (over u a (because x (refusal.Invalid l found)) [])
  locked_stays u a x n = inr refl

  tried_stays : (u : World V) (a : ℕ) (x : Seat V) (free : Bool) (k : ℕ) (got : List ℕ) (again : ℕ → Stage V) (next : Stage V) (tries : ℕ)
      → Stays a u (has_tried u a x free k got again next tries)
  tried_stays u a x true k got again next zero = inr refl
  tried_stays u a x true k got again next (suc n) = inr refl
  tried_stays u a x false k got again next zero = inl (over u a (because x (refusal.GateBusy k)) got)
  tried_stays u a x false k got again next (suc n) = inr refl

  cond_words : (b : Bool) (s t : Boosted (Shown V) (Outcomes V)) → t.words ≡ s.words → (cond b t s).words ≡ s.words
  cond_words true s t e = e
  cond_words false s t e = refl

  gate_stands : (u : World V) (a k : ℕ) → actor_of (acted u (TakeGate a k ∷ [])) a ≡ actor_of u a
  gate_stands u a k =
      let s = u.boosted in
      ap (λ (t : world.World). t.actors a)
      (cond_words (is_none (s.gates k) && not (is_committing (s.words.actors a).place)) s (gated s (put s.gates k (Some a)) s.shadows) refl)

  pub planted_seats : (w : World V) (a n : ℕ) (b : Option (Base V)) (s : Spot) → (found_at a w s n b).seats a ≡ w.seats a
  planted_seats w a n b Nowhere = refl
  planted_seats w a n b (Word c) = refl
  planted_seats w a n b (Gate k) = refl

  pub planted_actor : (w : World V) (a n : ℕ) (b : Option (Base V)) (s : Spot) → actor_of (found_at a w s n b) a ≡ actor_of w a
  planted_actor w a n b Nowhere = refl
  planted_actor w a n b (Word c) = same_actors w.boosted.words c n a
  planted_actor w a n b (Gate k) = refl

  -- ---- a commit under way knows its number
  module _ (w : World V) (a n : ℕ) (b : Option (Base V)) (k j : ℕ) (le : k ≤ j)
      (clock : spot a w ≡ Word ClockCell → j ≡ turned a w n) where
    abbrev x : Seat V
    x = w.seats a

    abbrev y : Actor
    y = actor_of w a

    abbrev Later : World V → Stage V → Type 0
    Later p st = is_commit (known_stage ((step_at p a x st).0.seats a)) ≡ true → IsStamped j (actor_of (step_at p a x st).0 a)

    not_over : (r : After V) (z : Actor) → (known_stage (r.0.seats a) ≡ Ends) ⊎ (actor_of r.0 a ≡ z)
        → is_commit (known_stage (r.0.seats a)) ≡ true
        → IsStamped j z → IsStamped j (actor_of r.0 a)
    unfolding is_commit
    not_over r z (inl ends) c h = absurd (true≢false (sym c ∙ ap is_commit ends))
    not_over r z (inr same) c h = subst (IsStamped j) (sym same) h

    at_locking : x.stage ≡ Locking → AtLocking y.place → IsStamped k y → Later (found_at a w (spot a w) n b) Locking
    at_locking at locks was =
        let touched = locking_word y y.place locks in
        let spot_is : spot a w ≡ Word touched.0 = ap (λ (st : Stage V). spot_at a w st) at ∙ ap spot_of touched.1 in
        subst (λ (s : Spot). Later (found_at a w s n b) Locking) (sym spot_is) (λ c.
        let p = found_at a w (Word touched.0) n b in
        let is : actor_of p a ≡ y = same_actors w.boosted.words touched.0 n a in
        let u = acted p (moves a ∷ []) in
        let learns_it : actor_of u a ≡ learns (plan y y.place) y n =
        step_learns_cell p a y touched.0 is touched.1 ∙ ap (learns (plan y y.place) y) (found_cell w.boosted.words touched.0 n) in
        not_over (has_locked u a x (word_notice p a)) (actor_of u a) (locked_stays u a x (word_notice p a)) c
        (subst (IsStamped j) (sym learns_it) (learnt y y.place n k j locks was le
        (λ e. clock (spot_is ∙ ap Word (let q : Some touched.0 ≡ Some ClockCell = sym touched.1 ∙ e in cc))
        ∙ ap (λ (st : Stage V). becomes (deed_of (ready_at a w st) a) n) at))))

    at_gating : (got : List ℕ) (i : ℕ) (ks : List ℕ) (tries : ℕ) → IsStamped k y
        → Later (found_at a w (spot a w) n b) (Gating got (i ∷ ks) tries)
    at_gating got i ks tries was c =
        let p = found_at a w (spot a w) n b in
        let u = acted p (TakeGate a i ∷ []) in
        not_over (step_at p a x (Gating got (i ∷ ks) tries)) (actor_of u a)
        (tried_stays u a x (is_none (p.boosted.gates i)) i got (λ m. Gating got (i ∷ ks) m) (takes_gates (got ++ i ∷ []) ks) tries) c
        (subst (IsStamped j) (sym (gate_stands p a i ∙ planted_actor w a n b (spot a w))) (raised k j y y.place le was))

    -- a record was made
    made_over : (calls : List (Call V × Reply V)) (m : Notice V) (q : KnownStage V) → StepMoves (Commits calls) true m q
        → is_commit q ≡ true → ⊥
    unfolding is_commit
    made_over calls Quiet q h c = true≢false (sym c ∙ ap is_commit h)
    made_over calls (Answered d (answer.Committed i)) q h c = true≢false (sym c ∙ ap is_commit h)
    made_over calls m q h c = h

    by_stage : (st : Stage V) → x.stage ≡ st → StageOk w.words w.blocks x y (w.boosted.shadows a) st y.place
        → (is_commit (known_stage_at x.calls st) ≡ true → IsStamped k y)
        → let r = step_at (found_at a w (spot a w) n b) a x st in
        StepMoves (known_stage_at x.calls st) (is_some (committed_by x st)) r.1 (known_stage (r.0.seats a))
        → Later (found_at a w (spot a w) n b) st
    unfolding is_commit
    by_stage Locking at ok was moves = at_locking at ok.0 (was refl)
    by_stage (Gating got [] tries) at ok was moves = absurd ok
    by_stage (Gating got (i ∷ ks) tries) at ok was moves = at_gating got i ks tries (was refl)
    by_stage (Ready ks) at ok was moves = λ c.
        let r = step_at (found_at a w (spot a w) n b) a x (Ready ks) in absurd (made_over x.calls r.1 (known_stage (r.0.seats a)) moves c)
    by_stage Closing at ok was moves = λ c.
        let r = step_at (found_at a w (spot a w) n b) a x Closing in absurd (made_over x.calls r.1 (known_stage (r.0.seats a)) moves c)
    by_stage st at ok was moves = λ c.
        let r = step_at (found_at a w (spot a w) n b) a x st in
        absurd (true≢false (sym (was_commit (known_stage_at x.calls st) (is_some (committed_by x st)) r.1 (known_stage (r.0.seats a))
        moves c)))

    pub stamped_step : StageOk w.words w.blocks x y (w.boosted.shadows a) x.stage y.place
        → (is_commit (known_stage x) ≡ true → IsStamped k y)
        → let r = (moved a w n b).0 in is_commit (known_stage (r.seats a)) ≡ true → IsStamped j (actor_of r a)
    stamped_step ok was =
        let p = found_at a w (spot a w) n b in
        subst (λ (s : Seat V). is_commit (known_stage ((step_at p a s s.stage).0.seats a)) ≡ true
        → IsStamped j (actor_of (step_at p a s s.stage).0 a))
        (sym (planted_seats w a n b (spot a w)))
        (by_stage x.stage refl ok was
        (subst (λ (s : Seat V). let r = step_at p a s s.stage in
        StepMoves (known_stage s) (is_some (committed_by s s.stage)) r.1 (known_stage (r.0.seats a))) (planted_seats w a n b (spot a w))
        (steps_move p a)))

  -- ---- its record
  abbrev IsNumberIn : ℕ → ℕ → Option (Record V) → Type 0
  IsNumberIn rv k (Some q) = IsNumberOf rv k q
  IsNumberIn rv k None = Unit {0}

  module _ (key : Opening V) (a : ℕ) (u : World V) (h : IsReached (world_at key) a u) where
    abbrev there : World V
    there = run (world_at key) h.events

    -- its number is above the one at which it has begun
    above : (actor_of u a).place ≡ machine.Check [] → (actor_of u a).rv < (actor_of u a).wv
    above at =
        let linked = run_linked h.events (world_at key)
        (opened_linked (blocks_at key) key.shape.value.clock key.state.value.words key.state.value.held h.stripes) in
        let own : actor_of there a ≡ actor_of u a = h.alike.boosted.actor in
        let v = actor_of there a in
        let at_v : v.place ≡ machine.Check [] = ap (λ (y : Actor). y.place) own ∙ at in
        let ok = subst (PlaceOk there.boosted.words v) at_v (linked.base.inv.machine.actors a).place in
        subst (λ (y : Actor). y.rv < y.wv) own ok.0.after_rv

    number_at_stage : (k : ℕ) (st : Stage V)
        → StageOk u.words u.blocks (u.seats a) (actor_of u a) (u.boosted.shadows a) st (actor_of u a).place
        → (is_commit (known_stage_at (u.seats a).calls st) ≡ true → IsStamped k (actor_of u a))
        → IsNumberIn (u.seats a).rv k (committed_by (u.seats a) st)
    unfolding is_commit
    number_at_stage k (Ready ks) ok was =
        let x = u.seats a in
        let y = actor_of u a in
        let known : y.wv ≤ k = subst (IsStampedAt k y) ok.0 (was refl) in
        let low : y.rv < y.wv = above ok.0 in
        let e : x.wv ≡ y.wv = ok.1.wv in
        let f : x.rv ≡ y.rv = ok.1.tx.0 in
        record {
          writer = λ _. (omega (arith, low, e, f), omega (arith, known, e));
          reader = λ isnt. absurd (true≢false isnt);
        }
    number_at_stage k Closing ok was = record { writer = λ yes. absurd (true≢false (sym yes)); reader = λ _. refl }
    number_at_stage k st ok was = tt

    pub numbered : (k : ℕ) (q : Record V)
        → StageOk u.words u.blocks (u.seats a) (actor_of u a) (u.boosted.shadows a) (u.seats a).stage (actor_of u a).place
        → (is_commit (known_stage (u.seats a)) ≡ true → IsStamped k (actor_of u a))
        → committed_by (u.seats a) (u.seats a).stage ≡ Some q → IsNumberOf (u.seats a).rv k q
    numbered k q ok was made = subst (IsNumberIn (u.seats a).rv k) made (number_at_stage k (u.seats a).stage ok was)

  -- ---- a begin
  begun_is : (u : World V) (a : ℕ) (x : Seat V) (n rv : ℕ) → (has_begun u a x (notice.begin_notice n)).1 ≡ Answered a (answer.Begun rv)
      → rv ≡ n
  begun_is u a x n rv = by (nat_lt n clock_limit)
    where
      by : (b : Bool) → (has_begun u a x (cond b (notice.Begun n) (notice.Exhausted n))).1 ≡ Answered a (answer.Begun rv) → rv ≡ n
      by true e = cc
      by false e = absurd (let z : ⊥ = cc in z)

  exhausted_is : (u : World V) (a : ℕ) (x : Seat V) (n : ℕ) (cause : Refusal)
      → (has_begun u a x (notice.begin_notice n)).1 ≡ Refused a cause → cause ≡ refusal.Exhausted n
  exhausted_is u a x n cause = by (nat_lt n clock_limit)
    where
      by : (b : Bool) → (has_begun u a x (cond b (notice.Begun n) (notice.Exhausted n))).1 ≡ Refused a cause
          → cause ≡ refusal.Exhausted n
      by true e = absurd (let z : ⊥ = cc in z)
      by false e = cc

  -- what it answers is as the clock was, which its seat knows from then on
  begin_turn : (w : World V) (a n : ℕ) (b : Option (Base V)) (j : ℕ) (m : Notice V) → (w.seats a).stage ≡ Beginning
      → (actor_of w a).place ≡ machine.Begin → (spot a w ≡ Word ClockCell → j ≡ turned a w n) → (moved a w n b).1 ≡ m
      → ((has_begun (acted (found_at a w (Word ClockCell) n b) (moves a ∷ [])) a (w.seats a) (notice.begin_notice n)).1 ≡ m) × (j ≡ n)
  begin_turn w a n b j m at begins clock told =
      let x = w.seats a in
      let y = actor_of w a in
      let spot_is : spot a w ≡ Word ClockCell =
      ap (λ (st : Stage V). spot_at a w st) at ∙ ap (λ (p : Place). spot_of (word_of (plan y p))) begins in
      let left : turned a w n ≡ n =
      ap (λ (st : Stage V). becomes (deed_of (ready_at a w st) a) n) at ∙ ap (λ (p : Place). becomes (plan y p) n) begins in
      let p = found_at a w (Word ClockCell) n b in
      let tells_it : word_notice p a ≡ notice.begin_notice n =
      step_tells_cell p a y ClockCell refl (ap (λ (q : Place). word_of (plan y q)) begins) ∙ ap (λ (q : Place). tells y q n) begins in
      let said : (step_at p a x Beginning).1 ≡ m =
      ap (λ (st : Stage V). (step_at p a x st).1) (sym at)
      ∙ (ap (λ (s : Spot). (happens (found_at a w s n b) (Step a)).1) (sym spot_is) ∙ told) in (
        ap (λ (k : notice.Notice). (has_begun (acted p (moves a ∷ [])) a x k).1) (sym tells_it) ∙ said,
        clock spot_is ∙ left,
      )

  pub begun_clock : (w : World V) (a n : ℕ) (b : Option (Base V)) (j rv : ℕ) → (w.seats a).stage ≡ Beginning
      → (actor_of w a).place ≡ machine.Begin → (spot a w ≡ Word ClockCell → j ≡ turned a w n)
      → (moved a w n b).1 ≡ Answered a (answer.Begun rv) → rv ≡ j
  begun_clock w a n b j rv at begins clock told =
      let h = begin_turn w a n b j (Answered a (answer.Begun rv)) at begins clock told in
      begun_is (acted (found_at a w (Word ClockCell) n b) (moves a ∷ [])) a (w.seats a) n rv h.0 ∙ sym h.1

  pub exhausted_clock : (w : World V) (a n : ℕ) (b : Option (Base V)) (j : ℕ) (cause : Refusal) → (w.seats a).stage ≡ Beginning
      → (actor_of w a).place ≡ machine.Begin → (spot a w ≡ Word ClockCell → j ≡ turned a w n)
      → (moved a w n b).1 ≡ Refused a cause → cause ≡ refusal.Exhausted j
  exhausted_clock w a n b j cause at begins clock told =
      let h = begin_turn w a n b j (Refused a cause) at begins clock told in
      exhausted_is (acted (found_at a w (Word ClockCell) n b) (moves a ∷ [])) a (w.seats a) n cause h.0
      ∙ ap refusal.Exhausted (sym h.1)
