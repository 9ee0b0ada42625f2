-- Editions, as the records have them. The machine counts the commits of its history whose outcomes write a location, and knows a part by
-- its edition. A record has the same transaction: its calls on collections are the machine's outcomes, in order, and those on words touch
-- no location of a collection. So one walk along both, through the states of the run, finds that they write the same locations, and by
-- that the machine's editions are those of the records, and its view at a number is what the state at that number shows.
use Rattle.std.proofs.Common.{◌≡◌, ℕ, ◌+◌, ◌≤◌, Bool, true, false, cond, ◌&&◌, ◌||◌, List, [], ◌∷◌, length, Option, Some, None, refl, sym}
use Rattle.std.proofs.Common.{◌∙◌, ap, subst, arith, inl, inr, true≢false, get_or}
use Rattle.std.specs.Prelude.{nat_le, nat_lt, not, option_map, slice_get, slice_set, if◌then◌else◌}
use Rattle.std.specs.Option.{option_map_or}
use Rattle.std.proofs.lemmas.Bool.{cases_Bool}
use Rattle.std.proofs.lemmas.Bool.Decides.{nat_tests}
use Rattle.std.proofs.lemmas.List.{get_or_past}
use Rattle.tx_machine.specs.Actor.{Place, Actor}
use Rattle.tx_machine.specs.World.{Memory, Record as WordRecord}
use Rattle.tx_machine.specs.Opacity.{IsInOrder, first_read}
use Rattle.tx_machine.proofs.Invariant.{Good}
use Rattle.tx_machine.proofs.Records.{settled}
use Rattle.tx_machine.proofs.Saw.{first_read_good}
use Rattle.seq_model.specs.declared.call.Op.{Op}
use Rattle.seq_model.specs.declared.call.Op.TheVariants.{Read, Write}
use Rattle.seq_model.specs.declared.call.Call.{Call}
use Rattle.seq_model.specs.declared.call.Reply.{Reply}
use Rattle.seq_model.specs.declared.call.Reply.TheVariants.{Done, Number}
use Rattle.seq_model.specs.declared.held.Held.{Held}
use Rattle.seq_model.specs.declared.record.Record.{Record}
use Rattle.seq_model.specs.declared.event.Event.{Event}
use Rattle.seq_model.specs.Contents.{Contents}
use Rattle.seq_model.specs.Runs.{after_call, after_calls, state_at}
use Rattle.seq_model.proofs.LogicLemmas.{nat_lt-false}
use Rattle.tx_machine.specs.Content.{Content, Frame, IsIn, has}
use Rattle.tx_machine.specs.Boosted.{Committed, Boosted, Action, act_all, changes, opens}
use Rattle.tx_machine.specs.Serial as serial
use Rattle.tx_machine.specs.Serial.{AreLegal, AreRun, IsRead, after_actions, does_write, view, words}
use Rattle.tx_machine.proofs.States.{Model}
use Rattle.tx_machine.proofs.Models.{fits_after, replies_of, view_state}
use Rattle.tx_machine.proofs.SequentialRuns.{Opened, reached}
use Rattle.tx_machine.proofs.BoostedQuiet.{saw_open}
use Rattle.tx_machine.proofs.BoostedSchedules.{all_keeps, all_ok, all_saw, all-opening, edition_read, legal_parts, opens_ok}
use Rattle.tx_machine.proofs.SequentialRuns as stated
use Rattle.replay_log.specs.Base.{Shown, OfMap, OfBag, OfPq, OfQueue, outcome_of}
use Rattle.replay_log.specs.Contents.{Block, CollectionCall, CallWithOutcome, HaveStripes, answer, block_of}
use Rattle.replay_log.specs.Contents.{content, first_of, is_plain, reads_in, writes_in}
use Rattle.replay_log.specs.Collections.{Suit, shown_at}
use Rattle.replay_log.specs.Worlds.{World, Seat, Stage, Open, Locking, Closing, Cancelling, Leaving, Reading}
use Rattle.replay_log.specs.Worlds.{Trying, Copying, Loading, Gating, Ready, Returning, run, opened}
use Rattle.replay_log.specs.WorldEditions.{IsReadBy, edition_at, is_undecided, is_written_by, outcome_in, part_at}
use Rattle.replay_log.proofs.CallLemmas.{no_word_at}
use Rattle.replay_log.proofs.CollectionLemmas.{collections, suit_after}
use Rattle.replay_log.proofs.CollectionRuns as runs_on
use Rattle.replay_log.proofs.CollectionRuns.{held_at, sequential}
use Rattle.replay_log.proofs.ContentLemmas.{content_frame}
use Rattle.replay_log.proofs.EventLemmas.{opened_linked, run_linked}
use Rattle.replay_log.proofs.MixedLemmas.{SameRecords, Told, at_number, is_on_word, is_word_op, on_collection, on_held}
use Rattle.replay_log.proofs.RequestLemmas.{actions_of, later_actions, run_by}
use Rattle.replay_log.proofs.SeatLemmas.{Copy, InTx, StageOk}

-- a count of one, by the two tests in either order
abbrev one_if : Bool → ℕ
one_if b = if b then 1 else 0

counted_once : (b d : Bool) → one_if (b && d) ≡ cond d (one_if b) 0
counted_once true true = refl
counted_once true false = refl
counted_once false true = refl
counted_once false false = refl

or_cond : (b d : Bool) → (b || d) ≡ cond b true d
or_cond true d = refl
or_cond false d = refl

reads_none : (V : Type 0) (b : Option Block) (f : ℕ) → reads_in {V = V} b f None ≡ []
reads_none V None f = refl
reads_none V (Some b) f = refl

writes_none : (V : Type 0) (b : Option Block) (f : ℕ) → writes_in {V = V} b f None ≡ []
writes_none V None f = refl
writes_none V (Some b) f = refl

module _ {V : Type 0} where
  -- ---- a call on a word touches no location of a collection, and leaves the collections
  no_outcome : (op : Op V) (s : Shown V) → is_word_op op ≡ true → outcome_of op s ≡ None
  no_outcome Read (OfMap m) h = refl
  no_outcome Read (OfBag m) h = refl
  no_outcome Read (OfPq m) h = refl
  no_outcome Read (OfQueue m) h = refl
  no_outcome (Write v) (OfMap m) h = refl
  no_outcome (Write v) (OfBag m) h = refl
  no_outcome (Write v) (OfPq m) h = refl
  no_outcome (Write v) (OfQueue m) h = refl
  no_outcome op s h = absurd (true≢false (sym h))

  no_answer : (b : Option Block) (f : ℕ) (v : ℕ → Shown V) (op : Op V) → is_word_op op ≡ true → answer b f v op ≡ None
  no_answer None f v op h = refl
  no_answer (Some b) f v op h = no_outcome op _ h

  word_apart : (n : ℕ) (bs : List Block) (s : Contents V) (call : Call V) → is_word_op call.op ≡ true
      → ((content n bs).reads (outcome_in n bs s call) ≡ []) × ((content n bs).writes (outcome_in n bs s call) ≡ [])
  word_apart n bs s call h =
      let b = block_of bs call.target in
      let f = first_of n bs call.target in
      let none = no_answer b f (part_at n bs s) call.op h in
      (ap (reads_in b f) none ∙ reads_none V b f, ap (writes_in b f) none ∙ writes_none V b f)

  word_stays : (op : Op V) (t : ℕ) (s : Contents V) → is_word_op op ≡ true
      → (after_call (record { target = t; op = op }) s).held ≡ s.held
  word_stays Read t s h = by (slice_get s.words t)
    where
      by : (o : Option ℕ) → (option_map_or (λ (r : Reply V × Contents V). r.1) (option_map (λ w. (Number w, s)) o) s).held ≡ s.held
      by None = refl
      by (Some v) = refl
  word_stays (Write v) t s h = by (nat_lt t (length s.words))
    where
      by : (b : Bool) → (option_map_or (λ (r : Reply V × Contents V). r.1)
          (cond b (Some (Done, record s { words = slice_set s.words t v })) None) s).held ≡ s.held
      by true = refl
      by false = refl
  word_stays op t s h = absurd (true≢false (sym h))

  -- ---- a transaction, along its calls and along the machine's outcomes
  record Along (n : ℕ) (bs : List Block) (l : ℕ) (done : List (Call V × Reply V)) (os : List (CallWithOutcome V)) (s : Contents V) : Type
      0 where
    writes : is_written_by n bs l done s ≡ does_write (content n bs) l os
    reads : IsReadBy n bs l done s → IsRead (content n bs) l os
    held : (after_calls done s).held ≡ runs_on.after_calls s.held os

  module _ (n : ℕ) (bs : List Block) (stripes : HaveStripes bs) where
    abbrev c : Content (Shown V) (CollectionCall V) (CallWithOutcome V)
    c = content n bs

    frame : Frame (content {V = V} n bs)
    frame = content_frame n bs stripes

    abbrev model : Model (content {V = V} n bs) sequential (Suit bs)
    model = collections V n bs stripes

    abbrev Shows : (ℕ → Shown V) → List (Held V) → Type 0
    Shows v hs = (l : ℕ) → v l ≡ shown_at n bs hs l

    shows_same : (v : ℕ → Shown V) (hs gs : List (Held V)) → gs ≡ hs → Shows v hs → Shows v gs
    shows_same v hs gs e h l = h l ∙ ap (λ (fs : List (Held V)). shown_at n bs fs l) (sym e)

    abbrev Goes : ℕ → List (Call V × Reply V) → Type 0
    Goes l done = (os : List (CallWithOutcome V)) (s : Contents V) (v : ℕ → Shown V) → Told (on_held done) os → Suit bs s.held
        → Shows v s.held
        → AreLegal c v os → Along n bs l done os s

    on_word : (l : ℕ) (d : Call V × Reply V) (done : List (Call V × Reply V)) (os : List (CallWithOutcome V)) (s : Contents V) (v : ℕ
        → Shown V)
        → Goes l done → is_on_word d ≡ true → Told (on_held done) os → Suit bs s.held → Shows v s.held → AreLegal c v os
        → Along n bs l (d ∷ done) os s
    on_word l d done os s v go is t fit h g =
        let apart = word_apart n bs s d.0 is in
        let stays = word_stays d.0.op d.0.target s is in
        let u = after_call d.0 s in
        let rest = go os u v t (subst (Suit bs) (sym stays) fit) (shows_same v s.held u.held stays h) g in
        record {
          writes = ap (λ ls. has ls l || is_written_by n bs l done u) apart.1 ∙ rest.writes;
          reads = λ q. elim q [ inl m ↦ absurd (subst (IsIn l) apart.0 m) | inr r ↦ rest.reads r ];
          held = rest.held ∙ ap (λ (hs : List (Held V)). runs_on.after_calls hs os) stays;
        }

    on_one : (l : ℕ) (d : Call V × Reply V) (done : List (Call V × Reply V)) (os : List (CallWithOutcome V)) (s : Contents V) (v : ℕ
        → Shown V)
        → Goes l done → is_on_word d ≡ false → Told (d ∷ on_held done) os → Suit bs s.held → Shows v s.held → AreLegal c v os
        → Along n bs l (d ∷ done) os s
    on_one l d done [] s v go isnt t fit h g = absurd t
    on_one l d done (o ∷ ps) s v go isnt t fit h g =
        let is : outcome_in n bs s d.0 ≡ o =
        ap (outcome_in n bs s) t.0 ∙ frame.legal v (part_at n bs s) o.asked (λ i _. h i) ∙ g.0 in
        let u = after_call d.0 s in
        let next = runs_on.after_call s.held o.asked.collection o.asked.op in
        let stays : u.held ≡ next =
        ap (λ (z : Contents V). z.held) (on_collection d.0.op d.0.target s isnt).1
        ∙ ap (λ (z : Call V). runs_on.after_call s.held z.target z.op) t.0 in
        let shows = (replies_of c frame sequential (Suit bs) model (o ∷ []) v s.held fit h (g.0, tt)).1 in
        let rest = go ps u (c.change o v) t.2 (subst (Suit bs) (sym stays) (suit_after bs s.held o.asked.collection o.asked.op fit))
        (shows_same (c.change o v) next u.held stays shows) g.1 in
        record {
          writes = ap (λ (z : CallWithOutcome V). has (c.writes z) l || is_written_by n bs l done u) is
              ∙ ap (λ b. has (c.writes o) l || b) rest.writes ∙ or_cond (has (c.writes o) l) (does_write c l ps);
          reads = λ q. elim q [
            | inl m ↦ inl (subst (λ (z : CallWithOutcome V). IsIn l (c.reads z)) is m)
            | inr r ↦ inr (rest.reads r)
          ];
          held = rest.held ∙ ap (λ (hs : List (Held V)). runs_on.after_calls hs ps) stays;
        }

    along : (l : ℕ) (done : List (Call V × Reply V)) → Goes l done
    along l [] [] s v t fit h g = record { writes = refl; reads = λ q. q; held = refl }
    along l [] (o ∷ os) s v t fit h g = absurd t
    along l (d ∷ done) os s v t fit h g =
        elim (cases_Bool (is_on_word d)) [
          | inl is ↦ on_word l d done os s v (along l done) is
              (subst (λ b. Told (cond (not b) (d ∷ on_held done) (on_held done)) os) is t) fit h g
          | inr isnt ↦ on_one l d done os s v (along l done) isnt
              (subst (λ b. Told (cond (not b) (d ∷ on_held done) (on_held done)) os) isnt t) fit h g
        ]

    -- ---- the records
    editions_are : (k l : ℕ) (rs : List (ℕ × Record V)) (qs : List (Committed (CallWithOutcome V))) (s : Contents V) (v : ℕ → Shown V)
        → SameRecords n rs qs → Suit bs s.held → Shows v s.held → AreRun c v qs
        → edition_at n bs k l rs s ≡ serial.edition_at c qs k l
    editions_are k l [] [] s v e fit h g = refl
    editions_are k l [] (q ∷ qs) s v e fit h g = absurd e
    editions_are k l (r ∷ rs) [] s v e fit h g = absurd e
    editions_are k l (r ∷ rs) (q ∷ qs) s v e fit h g =
        let a = along l r.1.calls q.outcomes s v e.0.parts.held fit h g.0 in
        let u = after_calls r.1.calls s in
        let next = runs_on.after_calls s.held q.outcomes in
        let shows = (replies_of c frame sequential (Suit bs) model q.outcomes v s.held fit h g.0).1 in
        let rest = editions_are k l rs qs u (changes c q.outcomes v) e.1
        (subst (Suit bs) (sym a.held) (fits_after c frame sequential (Suit bs) model q.outcomes s.held fit))
        (shows_same (changes c q.outcomes v) next u.held a.held shows) g.1 in
        ap (λ i. one_if (i && is_written_by n bs l r.1.calls s) + edition_at n bs k l rs u) (ap (λ i. nat_le i k) e.0.number)
        ∙ ap (λ b. one_if (nat_le q.word.number k && b) + edition_at n bs k l rs u) a.writes
        ∙ ap (λ i. i + edition_at n bs k l rs u) (counted_once (nat_le q.word.number k) (does_write c l q.outcomes))
        ∙ ap (λ i. cond (does_write c l q.outcomes) (one_if (nat_le q.word.number k)) 0 + i) rest

    suit_at : (qs : List (Committed (CallWithOutcome V))) (k : ℕ) (hs : List (Held V)) → Suit bs hs → Suit bs (held_at qs k hs)
    suit_at [] k hs fit = fit
    suit_at (q ∷ qs) k hs fit =
        elim (nat_le q.word.number k) as (λ b. Suit bs (held_at qs k (cond b (runs_on.after_calls hs q.outcomes) hs))) [
          | true ↦ suit_at qs k (runs_on.after_calls hs q.outcomes) (fits_after c frame sequential (Suit bs) model q.outcomes hs fit)
          | false ↦ suit_at qs k hs fit
        ]

  -- ---- the machine's world: what a's transaction in s has read, seen from t
  record HasRead (n : ℕ) (bs : List Block) (hs : List (Held V)) (a : ℕ) (s t : Boosted (Shown V) (CallWithOutcome V)) : Type 0 where
    counted : (l e : ℕ) → is_plain n bs l ≡ false → first_read (s.words.actors a).calls l ≡ Some e
        → e ≡ serial.edition_at (content n bs) t.history (s.words.actors a).rv l
    part : (l e : ℕ) → is_plain n bs l ≡ false → first_read (s.words.actors a).calls l ≡ Some e → t.editions l ≡ e
        → t.parts l ≡ view (content n bs) t.history (s.words.actors a).rv (shown_at n bs hs) l
    accepted : (l : ℕ) → IsRead (content n bs) l (s.shadows a).outcomes
        → first_read (s.words.actors a).calls l ≡ Some ((s.shadows a).editions l)
    copied : (l : ℕ) → IsRead (content n bs) l (s.shadows a).outcomes
        → (s.shadows a).parts l ≡ view (content n bs) t.history (s.words.actors a).rv (shown_at n bs hs) l
    plain : (l : ℕ) → IsRead (content n bs) l (s.shadows a).outcomes → is_plain n bs l ≡ false
    legal : AreLegal (content n bs) (view (content n bs) t.history (s.words.actors a).rv (shown_at n bs hs)) (s.shadows a).outcomes
    runs : AreRun (content n bs) (shown_at n bs hs) t.history
    order : IsInOrder (words t.history)

  module _ (n : ℕ) (bs : List Block) (stripes : HaveStripes bs) (clock : ℕ) (m : Memory) (hs : List (Held V))
      (none : (l : ℕ) → is_plain n bs l ≡ false → m l ≡ 0) (actions later : List (Action (CollectionCall V))) (a : ℕ) where
    has_read : let s = after_actions (content n bs) clock m (shown_at n bs hs) actions in
        HasRead n bs hs a s (act_all (content n bs) later s)
    has_read =
        let c = content {V = V} n bs in
        let f = content_frame {V = V} n bs stripes in
        let parts = shown_at n bs hs in
        let start = opens clock m parts in
        let start_ok = opens_ok c f clock m parts in
        let s = act_all c actions start in
        let v = all_ok c f actions start start_ok in
        let t = act_all c later s in
        let u = all_ok c f later s v in
        let keeps = all_keeps c f later s v in
        let rv = (s.words.actors a).rv in
        let first = all-opening c f actions start start_ok in
        let then_first = all-opening c f later s v in
        let first_is : t.first ≡ m = then_first.1 ∙ first.1 in
        let opening_is : t.opening ≡ parts = then_first.0 ∙ first.0 in
        let z = stated.opened c f parts t u opening_is in
        let good : (l e : ℕ) → first_read (s.words.actors a).calls l ≡ Some e → Good t.words rv l e =
        λ l e h. keeps.good rv l e (first_read_good s.words rv (s.words.actors a).calls l e (v.machine.actors a).saw h) in
        record {
          counted = λ l e pl h. (
              let q = (edition_read c f t rv l e u pl (good l e h)).0 in
              let zero_is = ap (λ (w : ℕ → ℕ). w l) first_is ∙ none l pl in omega (arith, q, zero_is));
          part = λ l e pl h same.
              (edition_read c f t rv l e u pl (good l e h)).1 same ∙ ap (λ (w : ℕ → Shown V). view c t.history rv w l) opening_is;
          accepted = λ l r. ((v.shadows a).sets l r).1;
          copied = λ l r. (
              let q = (v.shadows a).sets l r in
              let e = (s.shadows a).editions l in
              let known = keeps.known l e ((s.shadows a).parts l) ((v.shadows a).known l q.0) in
              let is : settled (words t.history) rv l (t.first l) ≡ e =
              ap (λ (w : List WordRecord). settled w rv l (t.first l)) u.same
              ∙ ap (λ (w : ℕ → ℕ). settled t.words.history rv l (w l)) (sym u.first) ∙ (good l e q.1).value in
              sym (known.knows rv is) ∙ ap (λ (w : ℕ → Shown V). view c t.history rv w l) opening_is);
          plain = λ l r. ((v.shadows a).known l ((v.shadows a).sets l r).0).plain;
          legal = subst (λ (w : ℕ → Shown V). AreLegal c (view c t.history rv w) (s.shadows a).outcomes) opening_is
              (legal_parts c f t rv (s.shadows a).outcomes u (all_saw c f later s rv (s.shadows a).outcomes v (saw_open c s a v)));
          runs = z.runs;
          order = z.order;
        }

  -- ---- the transaction of a seat
  in_tx : (n : ℕ) (bs : List Block) (x : Seat V) (y : Actor) (z : Copy V) (st : Stage V) (p : Place) → StageOk n bs x y z st p
      → is_undecided st ≡ true → InTx n x y z
  in_tx n bs x y z Open p h u = h.1.tx
  in_tx n bs x y z (Reading l) p h u = h.2.tx
  in_tx n bs x y z (Trying asked tries) p h u = h.1.tx
  in_tx n bs x y z (Copying asked) p h u = h.1.tx
  in_tx n bs x y z (Loading o []) p h u = absurd h
  in_tx n bs x y z (Loading o (d ∷ es)) p h u = h.1.tx
  in_tx n bs x y z Locking p h u = h.1
  in_tx n bs x y z (Gating got [] tries) p h u = absurd h
  in_tx n bs x y z (Gating got (k ∷ ks) tries) p h u = h.1.tx
  in_tx n bs x y z (Ready ks) p h u = h.1.tx
  in_tx n bs x y z Closing p h u = h.1
  in_tx n bs x y z (Returning []) p h u = absurd h
  in_tx n bs x y z (Returning (k ∷ ks)) p h u = h.2
  in_tx n bs x y z Cancelling p h u = h.2
  in_tx n bs x y z Leaving p h u = h.1
  in_tx n bs x y z st p h u = absurd (true≢false (sym u))

  -- ---- a world
  module _ (bs : List Block) (stripes : HaveStripes bs) (clock : ℕ) (values : List ℕ) (hs : List (Held V)) (suit : Suit bs hs)
      (events later : List (Event V)) (a : ℕ) where
    abbrev n : ℕ
    n = length values

    abbrev m : Memory
    m = λ l. get_or values l 0

    abbrev opening : Contents V
    opening = record { words = values; held = hs }

    abbrev w : World V
    w = run (opened bs clock values hs) events

    abbrev u : World V
    u = run w later

    abbrev x : Seat V
    x = w.seats a

    abbrev y : Actor
    y = w.boosted.words.actors a

    abbrev seen : Contents V
    seen = state_at x.rv u.records opening

    read_there : HasRead n bs hs a w.boosted u.boosted
    read_there =
        let c = content {V = V} n bs in
        let ac = actions_of bs clock values hs events in
        let lt = later_actions bs clock values hs events later in
        let none : (l : ℕ) → is_plain n bs l ≡ false → m l ≡ 0 = λ l pl. get_or_past values l 0 (nat_lt-false l n (no_word_at n bs l pl)) in
        subst (λ (t : Boosted (Shown V) (CallWithOutcome V)). HasRead n bs hs a w.boosted t) (sym lt.1)
        (subst (λ (s : Boosted (Shown V) (CallWithOutcome V)). HasRead n bs hs a s (act_all c lt.0 s)) (sym ac.1)
        (has_read n bs stripes clock m hs none ac.0 lt.0 a))

    same_records : SameRecords n u.records u.boosted.history
    same_records =
        let o = opened bs clock values hs in
        let k = run_linked later w (run_linked events o (opened_linked bs clock values hs stripes)) in
        subst (λ i. SameRecords i u.records u.boosted.history) ((run_by later w).words ∙ (run_by events o).words) k.base.records

    -- what the machine has at a number
    shown_then : (k l : ℕ) → view (content n bs) u.boosted.history k (shown_at n bs hs) l ≡ part_at n bs (state_at k u.records opening) l
    shown_then k l =
        let q = u.boosted.history in
        view_state (content n bs) (content_frame n bs stripes) sequential (Suit bs) (collections V n bs stripes) q k
        (shown_at n bs hs) hs suit
        (λ i. refl) read_there.runs read_there.order l
        ∙ ap (λ (gs : List (Held V)). shown_at n bs gs l) (sym
        (at_number n k u.records q hs m opening (record { count = refl; same = λ i lt. refl; held = refl }) same_records).held)

    suit_then : (k : ℕ) → Suit bs (state_at k u.records opening).held
    suit_then k =
        subst (Suit bs) (sym
        (at_number n k u.records u.boosted.history hs m opening (record { count = refl; same = λ i lt. refl; held = refl })
        same_records).held)
        (suit_at n bs stripes u.boosted.history k hs suit)

    edition_is : (k l : ℕ) → serial.edition_at (content n bs) u.boosted.history k l ≡ edition_at n bs k l u.records opening
    edition_is k l =
        sym (editions_are n bs stripes k l u.records u.boosted.history opening (shown_at n bs hs) same_records suit (λ i. refl)
        read_there.runs)

    module _ (undecided : is_undecided x.stage ≡ true) where
      tx : InTx n x y (w.boosted.shadows a)
      tx =
          let o = opened bs clock values hs in
          let by = run_by events o in
          let k = (run_linked events o (opened_linked bs clock values hs stripes)).seats a in
          in_tx n bs x y (w.boosted.shadows a) x.stage y.place
          (subst (λ i. StageOk i bs x y (w.boosted.shadows a) x.stage y.place) by.words
          (subst (λ (cs : List Block). StageOk w.words cs x y (w.boosted.shadows a) x.stage y.place) by.blocks k.stage)) undecided

      -- what a call reads there, its outcome reads
      reads_too : (l : ℕ) → IsReadBy n bs l x.calls seen → IsRead (content n bs) l (w.boosted.shadows a).outcomes
      reads_too l r =
          (along n bs stripes l x.calls (w.boosted.shadows a).outcomes seen
          (view (content n bs) u.boosted.history y.rv (shown_at n bs hs)) tx.1.held (suit_then x.rv)
          (λ i. shown_then y.rv i ∙ ap (λ k. part_at n bs (state_at k u.records opening) i) (sym tx.0)) read_there.legal).reads r

      pub edition_counted : (l e : ℕ) → is_plain n bs l ≡ false → first_read y.calls l ≡ Some e
          → e ≡ edition_at n bs x.rv l u.records opening
      edition_counted l e pl h =
          read_there.counted l e pl h ∙ edition_is y.rv l ∙ ap (λ k. edition_at n bs k l u.records opening) (sym tx.0)

      pub edition_read_by : (l : ℕ) → IsReadBy n bs l x.calls seen
          → first_read y.calls l ≡ Some (edition_at n bs x.rv l u.records opening)
      edition_read_by l r =
          let q = reads_too l r in
          let h = read_there.accepted l q in
          h ∙ ap Some (edition_counted l ((w.boosted.shadows a).editions l) (read_there.plain l q) h)

      pub part_known : (l e : ℕ) → is_plain n bs l ≡ false → first_read y.calls l ≡ Some e → u.boosted.editions l ≡ e
          → u.boosted.parts l ≡ part_at n bs seen l
      part_known l e pl h same =
          read_there.part l e pl h same ∙ shown_then y.rv l ∙ ap (λ k. part_at n bs (state_at k u.records opening) l) (sym tx.0)

      pub part_copied : (l : ℕ) → IsReadBy n bs l x.calls seen → (w.boosted.shadows a).parts l ≡ part_at n bs seen l
      part_copied l r =
          read_there.copied l (reads_too l r) ∙ shown_then y.rv l
          ∙ ap (λ k. part_at n bs (state_at k u.records opening) l) (sym tx.0)
