-- A world that has what its machine has is serial. The machine's history is a run of the words and of the collections; the world's
-- records are that history with each transaction's calls in the order in which they were made, so the records are a run of both
-- together, and what they leave, after all or up to a number, is what the words and the collections leave.
use Rattle.std.proofs.Common.{◌≡◌, ℕ, zero, suc, ◌<◌, max, Some, inl, inr, arith, true, false, List, [], ◌∷◌, length, refl, sym, ◌∙◌, ap}
use Rattle.std.proofs.Common.{subst, true≢false}
use Rattle.std.specs.Prelude.{get_or}
use Rattle.tx_machine.specs.Actor as machine
use Rattle.tx_machine.specs.Actor.{Place, Actor}
use Rattle.tx_machine.specs.World as world
use Rattle.tx_machine.specs.World.{Memory}
use Rattle.tx_machine.specs.Opacity.{IsLegal, IsRun, IsInOrder, IsHalfDone, IsNoneHalfDone, AllEnded, memory_at}
use Rattle.tx_machine.specs.Opacity.{memory_after, upto}
use Rattle.tx_machine.proofs.Schedules.{legal_of, actor_saw, words_at_rest}
use Rattle.std.proofs.lemmas.Bool.{cases_eq, cases_lt, cases_Bool, cond-true, cond-false}
use Rattle.tx_sets.specs.Entries.{Entries, lookup}
use Rattle.tx_machine.proofs.Calls.{touched}
use Rattle.tx_machine.proofs.Records.{stamp, AllRecords, AllRecords_map}
use Rattle.tx_machine.proofs.Sets.{lookup-head}
use Rattle.tx_machine.proofs.Invariant.{IsSomeEntry, Done, PlaceOk, RecordOk}
use Rattle.tx_machine.proofs.Schedules as word_schedules
use Rattle.seq_model.specs.declared.held.Held.{Held}
use Rattle.seq_model.specs.declared.record.Record.{Record}
use Rattle.seq_model.specs.declared.event.Event.{Event}
use Rattle.seq_model.specs.Contents.{Contents}
use Rattle.seq_model.specs.Runs.{after_run, state_at}
use Rattle.seq_model.specs.Runs.{IsLegal as AreLegal}
use Rattle.tx_machine.specs.Boosted.{Committed, Aborted, Boosted, Action, act_all, opens}
use Rattle.tx_machine.specs.Serial.{AllAborted, after_actions, ended}
use Rattle.tx_machine.specs.Serial as serial
use Rattle.tx_machine.proofs.BoostedInvariant.{Inv}
use Rattle.tx_machine.proofs.States.{Model}
use Rattle.tx_machine.proofs.SequentialRuns.{states_serial, states_left, states_saw, states_aborted}
use Rattle.tx_machine.proofs.Models.{fits_all}
use Rattle.tx_machine.proofs.BoostedSchedules.{edition_few, all_ok, all-opening, all_words_saw, opens_ok}
use Rattle.replay_log.specs.Base.{Shown}
use Rattle.replay_log.specs.Contents.{Block, CollectionCall, CallWithOutcome, HaveStripes, is_plain, content}
use Rattle.replay_log.proofs.CollectionRuns as runs_on
use Rattle.replay_log.specs.Collections.{Suit, shown_at}
use Rattle.replay_log.proofs.CollectionRuns.{AreReplies, IsRunOn, held_at, sequential}
use Rattle.replay_log.specs.Worlds.{is_half_done, World, Seat, Stage, Idle, Beginning, Open, Locking, Releasing, Closing, Cancelling}
use Rattle.replay_log.specs.Worlds.{Leaving, Reading, Trying, Copying, Loading, Gating, Ready, Storing, Homing, Returning, Ended, run}
use Rattle.replay_log.specs.Worlds.{opened}
use Rattle.std.proofs.Common.{◌≤◌, cond, Bool}
use Rattle.std.specs.Prelude.{nat_lt}
use Rattle.tx_machine.specs.Notices as told
use Rattle.tx_machine.specs.Notices.{begin_notice}
use Rattle.seq_model.specs.declared.event.Event.TheVariants.{Step}
use Rattle.seq_model.specs.declared.event.Answer.TheVariants as answer
use Rattle.seq_model.specs.declared.event.Notice.TheVariants as note
use Rattle.replay_log.specs.Worlds.{acted, moves, has_begun, step_at, happens}
use Rattle.replay_log.proofs.ActionLemmas.{mine}
use Rattle.replay_log.proofs.SeatLemmas.{at_of}
use Rattle.replay_log.proofs.StageLemmas.{tells}
use Rattle.replay_log.specs.WorldTraces.{state}
use Rattle.replay_log.proofs.TraceLemmas.{shows_state}
use Rattle.replay_log.specs.WorldSerial.{AreUpTo, Holds, SawAt, AllSaw, HasWritten, IsSerial, commits_at}
use Rattle.replay_log.proofs.ContentLemmas.{content_frame}
use Rattle.std.proofs.lemmas.Bool.Decides.{nat_tests}
use Rattle.seq_model.proofs.LogicLemmas.{nat_lt-false}
use Rattle.replay_log.proofs.CallLemmas.{no_word_at}
use Rattle.replay_log.proofs.CollectionLemmas.{collections}
use Rattle.replay_log.proofs.RequestLemmas.{run_by, actions_of, later_actions}
use Rattle.replay_log.proofs.MixedLemmas.{Agrees, SameRecords, both_legal, runs_agree, run_too, at_number, order_too, HasNumber}
use Rattle.replay_log.proofs.MixedLemmas.{written_too}
use Rattle.replay_log.proofs.SeatLemmas.{Copy, AtReading, AtLocking, AtStoring, CanLeave, InTx, StageOk, SameEnded, Linked}
use Rattle.replay_log.proofs.EventLemmas.{run_linked, opened_linked}

-- ---- stages and places
reading_none : (l : ℕ) (p : Place) → AtReading l p → IsHalfDone p → ⊥
reading_none l (machine.Store ls) h g = h
reading_none l machine.Release h g = h
reading_none l p h g = g

locking_none : (p : Place) → AtLocking p → IsHalfDone p → ⊥
locking_none (machine.Store ls) h g = h
locking_none machine.Release h g = h
locking_none p h g = g

leaving_none : (p : Place) → CanLeave p → IsHalfDone p → ⊥
leaving_none (machine.Store ls) h g = h
leaving_none machine.Release h g = h
leaving_none p h g = g

not_half : (p q : Place) → p ≡ q → (IsHalfDone q → ⊥) → IsHalfDone p → ⊥
not_half p q e none h = none (subst IsHalfDone e h)

-- the memory at a number, by the memory at the opening and the history
at_memory : (u : world.World) (m : Memory) (h : List world.Record) (k : ℕ) (cs : List machine.Call) → u.opening ≡ m → h ≡ u.history
    → IsLegal (memory_at u k) cs → IsLegal (memory_after m (upto k h)) cs
unfolding memory_at
at_memory u m h k cs e same g =
    subst (λ (z : List world.Record). IsLegal (memory_after m (upto k z)) cs) (sym same)
    (subst (λ (z : Memory). IsLegal (memory_after z (upto k u.history)) cs) e g)

-- both hold of each aborted transaction
both_aborted : {Out : Type 0} (P : world.Ended → Type 0) (Q : Aborted Out → Type 0) (es : List (Aborted Out)) → AllEnded P (ended es)
    → AllAborted Q es
    → AllAborted (λ e. P e.word × Q e) es
both_aborted P Q [] h g = tt
both_aborted P Q (e ∷ es) h g = ((h.0, g.0), both_aborted P Q es h.1 g.1)

all_ended : (P Q : world.Ended → Type 0) (es : List world.Ended) → ((e : world.Ended) → P e → Q e) → AllEnded P es → AllEnded Q es
all_ended P Q [] f h = tt
all_ended P Q (e ∷ es) f h = (f e h.0, all_ended P Q es f h.1)

-- ---- half-done commits
-- the stamp of a location is the number of a writer
stamped_in : (h : List world.Record) (l k : ℕ) → stamp h l ≡ k → 0 < k
    → AllRecords (λ r. (r.writer ≡ false → (i : ℕ) → touched r.calls i ≡ false)) h
    → HasNumber k h
stamped_in [] l k e pos g = absurd (omega (arith, e, pos))
stamped_in (r ∷ rs) l k e pos g =
    elim (cases_Bool (touched r.calls l)) [
      | inr out ↦ inr (stamped_in rs l k (sym (cond-false (touched r.calls l) (max r.number (stamp rs l)) (stamp rs l) out) ∙ e) pos g.1)
      | inl in_it ↦
          (let top : max r.number (stamp rs l) ≡ k = sym (cond-true (touched r.calls l) (max r.number (stamp rs l)) (stamp rs l) in_it)
          ∙ e in
          elim (cases_eq r.number k) [
            | inl same ↦ inl (
              same,
              elim (cases_Bool r.writer) [ inl yes_it ↦ yes_it | inr reader ↦ absurd (true≢false (sym in_it ∙ g.0 reader l)) ],
            )
            | inr other ↦ inr (stamped_in rs l k (below_top r.number (stamp rs l) k top other) pos g.1)
          ])
    ]
  where
    ne_max : (i j k : ℕ) → max i j ≡ k → (i ≡ k → ⊥) → (j ≡ k → ⊥) → ⊥
    ne_max i j k e ne other = elim (cases_lt i j) [ inl lt ↦ other (omega (arith, e, lt)) | inr ge ↦ ne (omega (arith, e, ge)) ]

    below_top : (i j k : ℕ) → max i j ≡ k → (i ≡ k → ⊥) → j ≡ k
    below_top i j k e ne = elim (cases_eq j k) [ inl same ↦ same | inr other ↦ absurd (ne_max i j k e ne other) ]

done_in : (s : world.World) (y : Actor) (ls : List ℕ) (h : Entries) → Done s y.wv y.writes y.held ls → y.held ≡ h
    → AllRecords (λ r. (r.writer ≡ false → (i : ℕ) → touched r.calls i ≡ false)) s.history
    → HasNumber y.wv s.history
done_in s y ls [] d e g = absurd (subst IsSomeEntry e d.some)
done_in s y ls (b ∷ es) d e g =
    let at : lookup y.held b.0 ≡ Some b.1 = ap (λ (z : Entries). lookup z b.0) e ∙ lookup-head b es in
    let pos = d.newer b.0 b.1 at in
    stamped_in s.history b.0 y.wv (d.last b.0 b.1 at) (omega (arith, pos)) g

storing_in : (s : world.World) (y : Actor) (p : Place) → AtStoring p → PlaceOk s y p → (ls : List ℕ) × Done s y.wv y.writes y.held ls
storing_in s y (machine.Store (l ∷ ls)) h pl = (l ∷ ls, pl.0)
storing_in s y p h pl = absurd h

get_or-none : (xs : List ℕ) (i : ℕ) → length xs ≤ i → get_or xs i 0 ≡ 0
get_or-none [] i h = refl
get_or-none (x ∷ xs) zero h = absurd (omega (arith, h))
get_or-none (x ∷ xs) (suc i) h = get_or-none xs i (omega (arith, h))

module _ {V : Type 0} where
  half_too : (n : ℕ) (bs : List Block) (x : Seat V) (y : Actor) (z : Copy V) (st : Stage V) (p : Place) → StageOk n bs x y z st p
      → IsHalfDone p
      → is_half_done st ≡ true
  half_too n bs x y z Idle p h g = absurd (not_half p machine.Idle h (λ q. q) g)
  half_too n bs x y z Beginning p h g = absurd (not_half p machine.Begin h (λ q. q) g)
  half_too n bs x y z Open p h g = absurd (not_half p machine.Open h.0 (λ q. q) g)
  half_too n bs x y z (Reading l) p h g = absurd (reading_none l p h.0 g)
  half_too n bs x y z (Trying asked tries) p h g = absurd (not_half p machine.Open h.0 (λ q. q) g)
  half_too n bs x y z (Copying asked) p h g = absurd (not_half p machine.Open h.0 (λ q. q) g)
  half_too n bs x y z (Loading o []) p h g = absurd h
  half_too n bs x y z (Loading o (d ∷ es)) p h g = absurd (reading_none d.0 p h.0 g)
  half_too n bs x y z Locking p h g = absurd (locking_none p h.0 g)
  half_too n bs x y z (Gating got [] tries) p h g = absurd h
  half_too n bs x y z (Gating got (k ∷ ks) tries) p h g = absurd (not_half p (machine.Check []) h.0 (λ q. q) g)
  half_too n bs x y z (Ready ks) p h g = absurd (not_half p (machine.Check []) h.0 (λ q. q) g)
  half_too n bs x y z (Storing ks) p h g = refl
  half_too n bs x y z (Homing ks) p h g = refl
  half_too n bs x y z Releasing p h g = refl
  half_too n bs x y z Closing p h g = absurd (not_half p machine.Close h.0 (λ q. q) g)
  half_too n bs x y z (Returning []) p h g = absurd h
  half_too n bs x y z (Returning (k ∷ ks)) p h g = absurd (leaving_none p h.0 g)
  half_too n bs x y z Cancelling p h g = absurd (not_half p machine.Undo h.0 (λ q. q) g)
  half_too n bs x y z Leaving p h g = absurd (not_half p machine.Leave h.0 (λ q. q) g)

  -- what every transaction saw, where its clock and its calls are the machine's
  abbrev SawIn : Contents V → List (ℕ × Record V) → Seat V → Type 0
  SawIn s records x = AreLegal x.calls (state_at x.rv records s)

  stage_saw : (n : ℕ) (bs : List Block) (x : Seat V) (y : Actor) (z : Copy V) (st : Stage V) (p : Place) (s : Contents V)
      (records : List (ℕ × Record V))
      → (InTx n x y z → SawIn s records x)
      → StageOk n bs x y z st p → SawAt s records x st
  stage_saw n bs x y z Idle p s rs f h = tt
  stage_saw n bs x y z Beginning p s rs f h = tt
  stage_saw n bs x y z Open p s rs f h = f h.1.tx
  stage_saw n bs x y z (Reading l) p s rs f h = f h.2.tx
  stage_saw n bs x y z (Trying asked tries) p s rs f h = f h.1.tx
  stage_saw n bs x y z (Copying asked) p s rs f h = f h.1.tx
  stage_saw n bs x y z (Loading o []) p s rs f h = absurd h
  stage_saw n bs x y z (Loading o (d ∷ es)) p s rs f h = f h.1.tx
  stage_saw n bs x y z Locking p s rs f h = f h.1
  stage_saw n bs x y z (Gating got [] tries) p s rs f h = absurd h
  stage_saw n bs x y z (Gating got (k ∷ ks) tries) p s rs f h = f h.1.tx
  stage_saw n bs x y z (Ready ks) p s rs f h = f h.1.tx
  stage_saw n bs x y z (Storing ks) p s rs f h = tt
  stage_saw n bs x y z (Homing ks) p s rs f h = tt
  stage_saw n bs x y z Releasing p s rs f h = tt
  stage_saw n bs x y z Closing p s rs f h = f h.1
  stage_saw n bs x y z (Returning []) p s rs f h = absurd h
  stage_saw n bs x y z (Returning (k ∷ ks)) p s rs f h = f h.2
  stage_saw n bs x y z Cancelling p s rs f h = f h.2
  stage_saw n bs x y z Leaving p s rs f h = f h.1

  done_of : (s : world.World) (n : ℕ) (bs : List Block) (x : Seat V) (y : Actor) (z : Copy V) (st : Stage V) (p : Place)
      → StageOk n bs x y z st p
      → is_half_done st ≡ true → PlaceOk s y p
      → (ls : List ℕ) × (x.wv ≡ y.wv) × Done s y.wv y.writes y.held ls
  done_of s n bs x y z (Storing ks) p h half pl = let q = storing_in s y p h.0 pl in (q.0, h.1, q.1)
  done_of s n bs x y z (Homing []) p h half pl = absurd h
  done_of s n bs x y z (Homing (k ∷ ks)) p h half pl = let q = subst (PlaceOk s y) h.0 pl in ([], h.1, q.0)
  done_of s n bs x y z Releasing p h half pl = ([], h.1, subst (PlaceOk s y) h.0 pl)
  done_of s n bs x y z st p h half pl = absurd (true≢false (sym half))

  -- What the machine promises, by its words and its collections.
  record Facts (n : ℕ) (bs : List Block) (m : Memory) (hs : List (Held V)) (s : Boosted (Shown V) (CallWithOutcome V)) : Type 0 where
    order : IsInOrder (serial.words s.history)
    run_words : IsRun m (serial.words s.history)
    run_held : IsRunOn hs s.history
    suit : Suit bs (runs_on.after_run hs s.history)
    left_words : IsNoneHalfDone s.words → (l : ℕ) → s.words.values l ≡ memory_after m (serial.words s.history) l
    left_held : IsNoneHalfDone s.words → (l : ℕ) → is_plain n bs l ≡ false → s.parts l
        ≡ shown_at n bs (runs_on.after_run hs s.history) l
    aborted : AllAborted (λ e. IsLegal (memory_after m (upto e.word.rv (serial.words s.history))) e.word.calls
        × AreReplies (held_at s.history e.word.rv hs) e.outcomes) s.aborted

  -- what the open transaction of a in s saw, seen from t
  abbrev SawFrom : Memory → List (Held V) → Boosted (Shown V) (CallWithOutcome V) → Boosted (Shown V) (CallWithOutcome V) → ℕ → Type 0
  SawFrom m hs s t a =
      IsLegal (memory_after m (upto (s.words.actors a).rv (serial.words t.history))) (s.words.actors a).calls
      × AreReplies (held_at t.history (s.words.actors a).rv hs) (s.shadows a).outcomes

  module _ (n : ℕ) (bs : List Block) (stripes : HaveStripes bs) (clock : ℕ) (m : Memory) (hs : List (Held V)) (suit : Suit bs hs)
      (actions : List (Action (CollectionCall V))) where
    abbrev after_them : Boosted (Shown V) (CallWithOutcome V)
    after_them = after_actions (content n bs) clock m (shown_at n bs hs) actions

    abbrev model : Model (content {V = V} n bs) sequential (Suit bs)
    model = collections V n bs stripes

    ok : Inv (content n bs) after_them
    ok = all_ok (content n bs) (content_frame n bs stripes) actions (opens clock m (shown_at n bs hs))
        (opens_ok (content n bs) (content_frame n bs stripes) clock m (shown_at n bs hs))

    memory_is : after_them.words.opening ≡ m
    memory_is = ok.first ∙ (all-opening (content n bs) (content_frame n bs stripes) actions (opens clock m (shown_at n bs hs))
        (opens_ok (content n bs) (content_frame n bs stripes) clock m (shown_at n bs hs))).1

    facts : Facts n bs m hs after_them
    facts =
        let s = after_them in
        let v = ok in record {
          order = subst IsInOrder (sym v.same) v.machine.ordered;
          run_words = subst (IsRun m) (sym v.same)
              (subst (λ (z : Memory). IsRun z s.words.history) memory_is (word_schedules.serial s.words v.machine));
          run_held = states_serial (content n bs) (content_frame n bs stripes) sequential (Suit bs) model clock m hs suit actions;
          suit = fits_all (content n bs) (content_frame n bs stripes) sequential (Suit bs) model s.history hs suit;
          left_words = λ none l.
              words_at_rest s.words v.machine none l ∙ ap (λ (z : Memory). memory_after z s.words.history l) memory_is
              ∙ ap (λ (h : List world.Record). memory_after m h l) (sym v.same);
          left_held = states_left (content n bs) (content_frame n bs stripes) sequential (Suit bs) model clock m hs suit actions;
          aborted =
              both_aborted (λ e. IsLegal (memory_after m (upto e.rv (serial.words s.history))) e.calls)
              (λ e. AreReplies (held_at s.history e.word.rv hs) e.outcomes) s.aborted
              (subst (AllEnded (λ e. IsLegal (memory_after m (upto e.rv (serial.words s.history))) e.calls)) (sym v.ends)
              (all_ended (λ e. IsLegal (memory_at s.words e.rv) e.calls)
              (λ e. IsLegal (memory_after m (upto e.rv (serial.words s.history))) e.calls) s.words.aborted
              (λ e h. at_memory s.words m (serial.words s.history) e.rv e.calls memory_is v.same h)
              (word_schedules.all_aborted s.words v.machine)))
              (states_aborted (content n bs) (content_frame n bs stripes) sequential (Suit bs) model clock m hs suit actions);
        }

    -- and what an open transaction saw, whatever happens later
    saw : (later : List (Action (CollectionCall V))) (a : ℕ) → SawFrom m hs after_them (act_all (content n bs) later after_them) a
    saw later a =
        let s = after_them in
        let c = content n bs in
        let f = content_frame {V = V} n bs stripes in
        let t = act_all c later s in
        let v = all_ok c f later s ok in (
          at_memory t.words m (serial.words t.history) (s.words.actors a).rv (s.words.actors a).calls
              (v.first ∙ (all-opening c f later s ok).1
              ∙ sym ok.first ∙ memory_is) v.same
              (legal_of t.words (s.words.actors a).rv (s.words.actors a).calls
              (all_words_saw c f later s (s.words.actors a).rv (s.words.actors a).calls ok (actor_saw s.words a ok.machine))),
          states_saw (content n bs) (content_frame n bs stripes) sequential (Suit bs) model clock m hs suit actions later a,
        )

  -- ---- the world
  module _ (bs : List Block) (stripes : HaveStripes bs) (clock : ℕ) (values : List ℕ) (hs : List (Held V)) (suit : Suit bs hs)
      (events : List (Event V)) where
    abbrev n : ℕ
    n = length values

    abbrev m : Memory
    m = λ l. get_or values l 0

    abbrev opening : Contents V
    opening = record { words = values; held = hs }

    abbrev w : World V
    w = run (opened bs clock values hs) events

    agrees : Agrees n hs m opening
    agrees = record { count = refl; same = λ l lt. refl; held = refl }

    linked : Linked w
    linked = run_linked events (opened bs clock values hs) (opened_linked bs clock values hs stripes)

    words_are : w.words ≡ n
    words_are = (run_by events (opened bs clock values hs)).words

    blocks_are : w.blocks ≡ bs
    blocks_are = (run_by events (opened bs clock values hs)).blocks

    world_facts : Facts n bs m hs w.boosted
    world_facts =
        let z = actions_of bs clock values hs events in
        subst (λ (s : Boosted (Shown V) (CallWithOutcome V)). Facts n bs m hs s) (sym z.1) (facts n bs stripes clock m hs suit z.0)

    same_records : SameRecords n w.records w.boosted.history
    same_records = subst (λ i. SameRecords i w.records w.boosted.history) words_are linked.base.records

    same_ended : SameEnded n w.aborted w.boosted.aborted
    same_ended = subst (λ i. SameEnded i w.aborted w.boosted.aborted) words_are linked.base.aborted

    stage_of : (a : ℕ) → StageOk n bs (w.seats a) (w.boosted.words.actors a) (w.boosted.shadows a) (w.seats a).stage
        (w.boosted.words.actors a).place
    stage_of a =
        subst (λ i. StageOk i bs (w.seats a) (w.boosted.words.actors a) (w.boosted.shadows a) (w.seats a).stage
        (w.boosted.words.actors a).place) words_are
        (subst (λ (cs : List Block). StageOk w.words cs (w.seats a) (w.boosted.words.actors a) (w.boosted.shadows a) (w.seats a).stage
        (w.boosted.words.actors a).place) blocks_are (linked.seats a).stage)

    ended_saw : (es : List (Ended V)) (fs : List (Aborted (CallWithOutcome V))) → SameEnded n es fs
        → AllAborted (λ e. IsLegal (memory_after m (upto e.word.rv (serial.words w.boosted.history))) e.word.calls
        × AreReplies (held_at w.boosted.history e.word.rv hs) e.outcomes) fs → AllSaw opening w.records es
    ended_saw [] fs h g = tt
    ended_saw (e ∷ es) [] h g = absurd h
    ended_saw (e ∷ es) (f ∷ fs) h g =
        let k = f.word.rv in
        let q = w.boosted.history in (
          subst (λ i. AreLegal e.calls (state_at i w.records opening)) (sym h.0)
              (both_legal n e.calls f.word.calls f.outcomes (held_at q k hs) (memory_after m (upto k (serial.words q)))
              (state_at k w.records opening)
              (at_number n k w.records q hs m opening agrees same_records) h.1 g.0.0 g.0.1),
          ended_saw es fs h.2 g.1,
        )

    left : ((a : ℕ) → is_half_done (w.seats a).stage ≡ false) → Holds w (after_run w.records opening)
    left none =
        let s = w.boosted in
        let f = world_facts in
        let rest : IsNoneHalfDone s.words = λ a h.
        true≢false (sym (half_too n bs (w.seats a) (s.words.actors a) (s.shadows a) (w.seats a).stage (s.words.actors a).place
        (stage_of a) h) ∙ none a) in
        let g = runs_agree n w.records s.history hs m opening agrees same_records in
        let t = after_run w.records opening in record {
          count = g.count ∙ sym words_are;
          words = λ l lt. f.left_words rest l ∙ sym (g.same l (subst (λ i. l < i) words_are lt));
          suit = subst (λ (cs : List Block). Suit cs t.held) (sym blocks_are)
              (subst (Suit bs) (sym g.held) f.suit);
          held = λ l pl.
              f.left_held rest l (subst (λ (cs : List Block). is_plain n cs l ≡ false) blocks_are
              (subst (λ i. is_plain i w.blocks l ≡ false) words_are pl))
              ∙ ap (λ (gs : List (Held V)). shown_at n bs gs l) (sym g.held) ∙ ap (λ (cs : List Block). shown_at n cs t.held l)
              (sym blocks_are)
              ∙ ap (λ i. shown_at i w.blocks t.held l) (sym words_are);
        }

    -- so what it shows is the state that its records leave
    pub shown_state : ((a : ℕ) → is_half_done (w.seats a).stage ≡ false) → state w ≡ after_run w.records opening
    shown_state none = shows_state w (after_run w.records opening) (subst HaveStripes (sym blocks_are) stripes) (left none)

    -- what the open transactions of this world saw, now and at every later moment
    pub saw_later : (later : List (Event V)) (a : ℕ) → SawAt opening (run w later).records (w.seats a) (w.seats a).stage
    saw_later later a =
        let t = run w later in
        let s = w.boosted in
        let q = t.boosted.history in
        let x = w.seats a in
        let y = s.words.actors a in
        let z = s.shadows a in
        let k = run_linked later w linked in
        let o = run_by later w in
        let same : SameRecords n t.records q = subst (λ i. SameRecords i t.records q) (o.words ∙ words_are) k.base.records in
        let ac = actions_of bs clock values hs events in
        let lt = later_actions bs clock values hs events later in
        let seen : SawFrom m hs s t.boosted a =
        subst (λ (u : Boosted (Shown V) (CallWithOutcome V)). SawFrom m hs s u a) (sym lt.1)
        (subst (λ (u : Boosted (Shown V) (CallWithOutcome V)). SawFrom m hs u (act_all (content n bs) lt.0 u) a) (sym ac.1)
        (saw n bs stripes clock m hs suit ac.0 lt.0 a)) in
        stage_saw n bs x y z x.stage y.place opening t.records
        (λ tx. subst (λ i. AreLegal x.calls (state_at i t.records opening)) (sym tx.0)
        (both_legal n x.calls y.calls z.outcomes (held_at q y.rv hs) (memory_after m (upto y.rv (serial.words q)))
        (state_at y.rv t.records opening)
        (at_number n y.rv t.records q hs m opening agrees same) tx.1 seen.0 seen.1)) (stage_of a)

    half_in : (x : Seat V) (y : Actor) (z : Copy V) (st : Stage V) (p : Place) → StageOk n bs x y z st p → is_half_done st ≡ true
        → PlaceOk w.boosted.words y p → HasWritten x.wv w.records
    half_in x y z st p h half pl =
        let d = done_of w.boosted.words n bs x y z st p h half pl in
        let v = linked.base.inv in
        let readers = AllRecords_map (RecordOk w.boosted.words)
        (λ r. (r.writer ≡ false → (i : ℕ) → touched r.calls i ≡ false)) w.boosted.words.history
        (λ r q. q.reader) v.machine.records in
        subst (λ i. HasWritten i w.records) (sym d.1)
        (written_too n y.wv w.records w.boosted.history same_records (subst (HasNumber y.wv) (sym v.same)
        (done_in w.boosted.words y d.0 y.held d.2 refl readers)))

    pub serial_world : IsSerial opening w
    serial_world =
        let f = world_facts in record {
          ordered = order_too n w.records w.boosted.history same_records f.order;
          run = run_too n w.records w.boosted.history hs m opening agrees same_records f.run_words f.run_held;
          left = left;
          open_saw = λ a. saw_later [] a;
          aborted_saw = ended_saw w.aborted w.boosted.aborted same_ended f.aborted;
          half = λ a h. half_in (w.seats a) (w.boosted.words.actors a) (w.boosted.shadows a) (w.seats a).stage
              (w.boosted.words.actors a).place
              (stage_of a) h (linked.base.inv.machine.actors a).place;
        }

    -- ---- what began later has a number that is at least each one before
    up_to : (k : ℕ) (rs : List (ℕ × Record V)) (qs : List (Committed (CallWithOutcome V))) → SameRecords n rs qs
        → AllRecords (λ r. r.number ≤ k)
        (serial.words qs) → AreUpTo k rs
    up_to k [] qs g h = tt
    up_to k (r ∷ rs) [] g h = absurd g
    up_to k (r ∷ rs) (q ∷ qs) g h = (subst (λ i. i ≤ k) (sym g.0.number) h.0, up_to k rs qs g.1 h.1)

    pub numbers_past : AreUpTo w.boosted.words.clock w.records
    numbers_past =
        let s = w.boosted.words in
        let v = linked.base.inv in
        let past = AllRecords_map (RecordOk s) (λ r. r.number ≤ s.clock) s.history (λ r q. q.past) v.machine.records in
        up_to s.clock w.records w.boosted.history same_records (subst (AllRecords (λ r. r.number ≤ s.clock)) (sym v.same) past)

    -- an edition opens as 0, and has risen at most once for each number
    pub editions_past : (l : ℕ) → is_plain n bs l ≡ false → w.boosted.editions l ≤ w.boosted.words.clock
    editions_past l pl =
        let c = content {V = V} n bs in
        let f = content_frame {V = V} n bs stripes in
        let ac = actions_of bs clock values hs events in
        let o = opens clock m (shown_at n bs hs) in
        let first_ok = opens_ok c f clock m (shown_at n bs hs) in
        let few = edition_few c f (act_all c ac.0 o) l (all_ok c f ac.0 o first_ok) pl in
        let first = ap (λ (z : Memory). z l) (all-opening c f ac.0 o first_ok).1 in
        let none = get_or-none values l (nat_lt-false l n (no_word_at n bs l pl)) in
        subst (λ (t : Boosted (Shown V) (CallWithOutcome V)). t.editions l ≤ t.words.clock) (sym ac.1) (omega (arith, few, first, none))

    pub begins_above : (a rv : ℕ) → (w.seats a).stage ≡ Beginning → (happens w (Step a)).1 ≡ note.Answered a (answer.Begun rv)
        → AreUpTo rv w.records
    begins_above a rv st e =
        let s = w.boosted.words in
        let u = acted w (moves a ∷ []) in
        let x = w.seats a in
        let y = s.actors a in
        let at_begin : y.place ≡ machine.Begin = subst (λ q. StageOk n bs x y (w.boosted.shadows a) q y.place) st (stage_of a) in
        let said : (has_begun u a x (begin_notice s.clock)).1 ≡ note.Answered a (answer.Begun rv) =
        ap (λ k. (has_begun u a x k).1)
        (sym (tells w a y (w.boosted.shadows a) (mine w.boosted a) machine.Begin (at_of w a linked) at_begin))
        ∙ ap (λ q. (step_at w a x q).1) (sym st) ∙ e in
        let is : s.clock ≡ rv = by_clock u x s.clock (nat_lt s.clock machine.clock_limit) said in
        subst (λ i. AreUpTo i w.records) is numbers_past
      where
        by_clock : (u : World V) (x : Seat V) (clock : ℕ) (b : Bool)
            → (has_begun u a x (cond b (told.Begun clock) (told.Exhausted clock))).1 ≡ note.Answered a (answer.Begun rv) → clock ≡ rv
        by_clock u x clock true h = cc
        by_clock u x clock false h = cc

  -- a transaction that commits has seen what an open one has
  pub committed_saw : (first : Contents V) (rs : List (ℕ × Record V)) (x : Seat V) (st : Stage V) → commits_at st ≡ true
      → SawAt first rs x st
      → AreLegal x.calls (state_at x.rv rs first)
  committed_saw first rs x (Ready ks) h saw = saw
  committed_saw first rs x Closing h saw = saw
  committed_saw first rs x st h saw = absurd (true≢false (sym h))
