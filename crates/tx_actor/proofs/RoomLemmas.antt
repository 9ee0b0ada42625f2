-- The room that a call finds as it continues. Its writes keep the bounds of the word actor (`fits_written`): they are locations of the
-- world, and they fit the write set. Judging its locations leaves an end of them, so what there was room for is left; the first that is not
-- read is not in the read set, so that one more fits (`fits_look`). What is made ready has the room for all its reads (`can_go_on`).
use Rattle.std.proofs.Common.{◌≡◌, ◌+◌, ◌<◌, ◌≤◌, ◌==◌, ◌||◌, ◌&&◌, ◌^◌, ℕ, zero, suc, Bool, true, false, true≢false, cond, length, List}
use Rattle.std.proofs.Common.{[], ◌∷◌, Option, Some, None, refl, sym, ap, subst, ◌∙◌, arith}
use Rattle.std.specs.List.{All}
use Rattle.std.specs.Vec.{vec_capacity, vec_len}
use Rattle.tx_sets.specs.Entries.{Entries, IsRising, locations, lookup, with_entry}
use Rattle.tx_sets.proofs.EntryLemmas.{All-with_entry, IsRising-with_entry, length-with_entry_new, length-with_entry_there}
use Rattle.tx_machine.specs.Actor as machine
use Rattle.tx_machine.specs.Requests.{ask, wrote, write}
use Rattle.tx_machine.specs.Requests as word
use Rattle.tx_machine.specs.Boosted.{is_none}
use Rattle.seq_model.specs.declared.call.Op.{Op}
use Rattle.conflict.specs.declared.outcome.Outcome.{Outcome}
use Rattle.replay_log.specs.Base.{shown_of, stripes_of}
use Rattle.replay_log.specs.Contents.{Block, block_of, end_of, first_of, shifted, size}
use Rattle.replay_log.specs.Worlds as worlds
use Rattle.replay_log.specs.Worlds.{new_in}
use Rattle.replay_log.proofs.ContentLemmas.{end_above}
use Rattle.replay_log.proofs.CountLemmas.{locations-cons, new_fewer}
use Rattle.step_core.specs.Shown as words
use Rattle.step_core.specs.Shown.{actor_of}
use Rattle.step_core.specs.Sound.{Fits, FitsPlace, due, owed}
use Rattle.step_core.specs.declared.actor.Actor.{Actor}
use Rattle.step_core.specs.declared.actor.Place.{Place}
use Rattle.step_core.specs.declared.actor.Place.TheVariants as place
use Rattle.std.specs.declared.alloc.Global.{Global}
use Rattle.std.specs.declared.collections.VecDeque.{VecDeque}
use Rattle.actor_parts.specs.declared.judged.Judged.{Judged}
use Rattle.actor_parts.specs.declared.judged.Judged.TheVariants as judged_as
use Rattle.actor_parts.specs.Blocks.{BlocksView}
use Rattle.actor_parts.specs.Dispatch.{is_loading}
use Rattle.actor_parts.specs.Judged.{judged, judged_one, left_after, left_one}
use Rattle.actor_parts.specs.Requests.{HasNoReads, KeepsAt}
use Rattle.actor_parts.proofs.BlocksLemmas.{up_to}
use Rattle.actor_parts.specs.declared.copies.PrivateCopy.{PrivateCopy}
use Rattle.actor_parts.specs.PrivateCopy.{answer_of, holds_call}
use Rattle.actor_parts.specs.Footprints.{base_in, known_edition, location_count, reads_in, with_known, writes_in}
use Rattle.actor_parts.specs.CopyList.{copy_of}
use Rattle.actor_parts.specs.Owns.{AreOfBlocks}
use Rattle.actor_parts.specs.Writes.{MayWrite, with_next, written_as}
use Rattle.actor_parts.proofs.CallingLemmas.{not_read}
use Rattle.actor_parts.proofs.FootprintLemmas.{reads_below, sized, writes_below}
use Rattle.tx_actor.specs.declared.actor.CallWithOutcome as running
use Rattle.tx_actor.specs.declared.actor.Stage.{Stage}
use Rattle.tx_actor.specs.declared.actor.Stage.TheVariants as stage
use Rattle.tx_actor.specs.declared.actor.TxActor.{TxActor}
use Rattle.tx_actor.specs.declared.prepares.Prepared.{Prepared}
use Rattle.tx_actor.specs.Answers.{CanAccept, HasRoomToLoad, IsLoadOf, at_rest}
use Rattle.tx_actor.specs.Dispatch.{HasRoom}
use Rattle.tx_actor.specs.ActorBounds.{CanGoOn, KeepsIn, NamesAmong}
use Rattle.tx_actor.specs.Prepares.{IsAlike, IsHeldAt, IsReadyCall}
use Rattle.tx_actor.specs.Running.{at, stage_of}
use Rattle.tx_actor.proofs.ActorBoundsLemmas.{keeps_asked}
use Rattle.actor_parts.proofs.AlikeLemmas.{kept_answers, kept_holds, writes_kept}
use Rattle.tx_actor.proofs.PreparesLemmas.{reads_there, there_kept}

-- ---- writes
abbrev with_entries : Entries → Entries → Entries
with_entries es [] = es
with_entries es (d ∷ ds) = with_entries (with_entry es d.0 d.1) ds

all_head : {X : Type 0} → (P : X → Type 0) (x : X) (xs : List X) → All P (x ∷ xs) → P x
all_head P x xs all = all 0 x (omega arith)

all_tail : {X : Type 0} → (P : X → Type 0) (x : X) (xs : List X) → All P (x ∷ xs) → All P xs
all_tail P x xs all k d lt = all (suc k) d (omega (arith, lt))

all_entries : (n : ℕ) (es ds : Entries) → All (λ e. e.0 < n) ds → All (λ e. e.0 < n) es → All (λ e. e.0 < n) (with_entries es ds)
all_entries n es [] more all = all
all_entries n es (d ∷ ds) more all =
    all_entries n (with_entry es d.0 d.1) ds (all_tail (λ (e : ℕ × ℕ). e.0 < n) d ds more)
    (All-with_entry (λ (e : ℕ × ℕ). e.0 < n) es d.0 d.1 (all_head (λ (e : ℕ × ℕ). e.0 < n) d ds more) all)

rising_entries : (es ds : Entries) → IsRising es → IsRising (with_entries es ds)
rising_entries es [] h = h
rising_entries es (d ∷ ds) h = rising_entries (with_entry es d.0 d.1) ds (IsRising-with_entry es d.0 d.1 h)

-- an entry more takes no more than was left for it
pub one_more : (es : Entries) (l v : ℕ) (ls : List ℕ) → IsRising es
    → length (with_entry es l v) + length (new_in (with_entry es l v) ls) ≤ length es + length (new_in es (l ∷ ls))
one_more es l v ls rising = by (lookup es l) refl
  where
    fewer : length (new_in (with_entry es l v) ls) ≤ length (new_in es ls)
    fewer = new_fewer es l v ls

    by : (o : Option ℕ) → lookup es l ≡ o → length (with_entry es l v) + length (new_in (with_entry es l v) ls)
        ≤ length es + length (cond (is_none o) (l ∷ new_in es ls) (new_in es ls))
    by None e = (let grown = length-with_entry_new es l v e in omega (arith, fewer, grown))
    by (Some u) e =
        let same = length-with_entry_there es l v rising (λ none. let h : Some u ≡ None = sym e ∙ none in let z : ⊥ = cc in z) in
        omega (arith, fewer, same)

few_entries : (es ds : Entries) → IsRising es → length es + length (new_in es (locations ds)) ≤ 4096 → length (with_entries es ds) ≤ 4096
few_entries es [] rising le = omega (arith, le)
few_entries es (d ∷ ds) rising le =
    let le_more : length es + length (new_in es (d.0 ∷ locations ds)) ≤ 4096 =
    subst (λ (ls : List ℕ). length es + length (new_in es ls) ≤ 4096) (locations-cons d ds) le in
    let fewer = one_more es d.0 d.1 (locations ds) rising in
    few_entries (with_entry es d.0 d.1) ds (IsRising-with_entry es d.0 d.1 rising) (omega (arith, fewer, le_more))

-- the machine's record after writes of an idle actor
record IsWritten (m q : machine.Actor) (ds : Entries) : Type 0 where
  pub reads : q.reads ≡ m.reads
  pub writes : q.writes ≡ with_entries m.writes ds
  pub held : q.held ≡ m.held
  pub wv : q.wv ≡ m.wv

written_is : (m : machine.Actor) (ds : Entries) → m.place ≡ machine.Open → (0 < length ds → m.declared ≡ false)
    → IsWritten m (written_as m ds) ds
written_is m [] rests undeclared = record { reads = refl; writes = refl; held = refl; wv = refl }
written_is m (d ∷ ds) rests undeclared =
    let none : m.declared ≡ false = undeclared (omega arith) in
    let e : ask m m.place (word.AskWrite d.0 d.1) ≡ wrote m d.0 d.1 =
    ap (λ (p : machine.Place). ask m p (word.AskWrite d.0 d.1)) rests ∙ ap (λ (b : Bool). write m b d.0 d.1) none in
    let rest = written_is (wrote m d.0 d.1) ds refl (λ lt. none) in
    subst (λ (z : machine.Actor). IsWritten m (written_as z ds) (d ∷ ds)) (sym e)
    (record { reads = rest.reads; writes = rest.writes; held = rest.held; wv = rest.wv })

pub fits_written : (n : ℕ) (x y : Actor) (ds : Entries) → MayWrite x ds → All (λ d. d.0 < n) ds
    → actor_of y ≡ written_as (actor_of x) ds → y.place ≡ x.place → Fits n x → Fits n y
fits_written n x y ds may below is same f =
    let rests : (actor_of x).place ≡ machine.Open =
    ap (λ (p : Place). words.place_of x.reads.entries x.writes.entries p) may.0 in
    let w = written_is (actor_of x) ds rests may.1 in
    let reads : y.reads.entries ≡ x.reads.entries = ap (λ (q : machine.Actor). q.reads) is ∙ w.reads in
    let writes : y.writes.entries ≡ with_entries x.writes.entries ds = ap (λ (q : machine.Actor). q.writes) is ∙ w.writes in
    let held : y.held.items ≡ x.held.items = ap (λ (q : machine.Actor). q.held) is ∙ w.held in
    let wv : y.wv ≡ x.wv = ap (λ (q : machine.Actor). q.wv) is ∙ w.wv in
    let fx = f.wv in
    record {
      reads = subst (All (λ (e : ℕ × ℕ). e.0 < n)) (sym reads) f.reads;
      writes = subst (All (λ (e : ℕ × ℕ). e.0 < n)) (sym writes) (all_entries n x.writes.entries ds below f.writes);
      reads_rise = subst IsRising (sym reads) f.reads_rise;
      writes_rise = subst IsRising (sym writes) (rising_entries x.writes.entries ds f.writes_rise);
      reads_few = subst (λ (es : Entries). length es ≤ 4096) (sym reads) f.reads_few;
      writes_few = subst (λ (es : Entries). length es ≤ 4096) (sym writes) (few_entries x.writes.entries ds f.writes_rise may.4);
      held = subst (All (λ (e : ℕ × ℕ). (e.0 < n) × (e.1 < 2 ^ 63))) (sym held) f.held;
      wv = omega (arith, fx, wv);
      place = subst (λ (p : Place). FitsPlace n y p) (sym (same ∙ may.0)) tt;
    }

-- ---- the location that is read next
one_next : (d : ℕ × ℕ) (rest : Judged) (es fs : Entries) (o : Option ℕ) (l : ℕ) → judged_one d rest o ≡ judged_as.Next l
    → (rest ≡ judged_as.Next l → (c : ℕ × ℕ) × (gs : Entries) × (fs ≡ c ∷ gs) × (c.0 ≡ l))
    → (c : ℕ × ℕ) × (gs : Entries) × (left_one d es fs o ≡ c ∷ gs) × (c.0 ≡ l)
one_next d rest es fs None l e more = (let q : d.0 ≡ l = cc in (d, es, refl, q))
one_next d rest es fs (Some v) l e more = by (d.1 == v) e
  where
    by : (b : Bool) → cond b rest (judged_as.Stale d.0 d.1 v) ≡ judged_as.Next l
        → (c : ℕ × ℕ) × (gs : Entries) × (cond b fs (d ∷ es) ≡ c ∷ gs) × (c.0 ≡ l)
    by true e = more e
    by false e = absurd (let h : ⊥ = cc in h)

next_left : (reads es : Entries) (l : ℕ) → judged reads es ≡ judged_as.Next l
    → (c : ℕ × ℕ) × (gs : Entries) × (left_after reads es ≡ c ∷ gs) × (c.0 ≡ l)
next_left reads [] l e = absurd (let h : ⊥ = cc in h)
next_left reads (d ∷ es) l e =
    one_next d (judged reads es) es (left_after reads es) (lookup reads d.0) l e (next_left reads es l)

-- what is left is no more than there was
left_all : (P : ℕ × ℕ → Type 0) (reads es : Entries) → All P es → All P (left_after reads es)
left_all P reads [] all = all
left_all P reads (d ∷ es) all = by (lookup reads d.0) (left_all P reads es (all_tail P d es all))
  where
    either : (b : Bool) → All P (left_after reads es) → All P (cond b (left_after reads es) (d ∷ es))
    either true rest = rest
    either false rest = all

    by : (o : Option ℕ) → All P (left_after reads es) → All P (left_one d es (left_after reads es) o)
    by None rest = all
    by (Some v) rest = either (d.1 == v) rest

left_short : (reads es : Entries) → length (left_after reads es) ≤ length es
left_short reads [] = omega arith
left_short reads (d ∷ es) = by (lookup reads d.0) (left_short reads es)
  where
    either : (b : Bool) → length (left_after reads es) ≤ length es → length (cond b (left_after reads es) (d ∷ es)) ≤ suc (length es)
    either true h = omega (arith, h)
    either false h = omega arith

    by : (o : Option ℕ) → length (left_after reads es) ≤ length es → length (left_one d es (left_after reads es) o) ≤ suc (length es)
    by None h = omega arith
    by (Some v) h = either (d.1 == v) h

new_more : (reads es : Entries) (d : ℕ × ℕ) → length (new_in reads (locations es)) ≤ length (new_in reads (locations (d ∷ es)))
new_more reads es d =
    subst (λ (ls : List ℕ). length (new_in reads (locations es)) ≤ length (new_in reads ls)) (sym (locations-cons d es))
    (by (is_none (lookup reads d.0)))
  where
    by : (b : Bool) → length (new_in reads (locations es)) ≤ length
        (cond b (d.0 ∷ new_in reads (locations es)) (new_in reads (locations es)))
    by true = omega arith
    by false = omega arith

abbrev IsFewer : (reads es fs : Entries) → Type 0
IsFewer reads es fs = length (new_in reads (locations fs)) ≤ length (new_in reads (locations es))

left_new : (reads es : Entries) → length (new_in reads (locations (left_after reads es))) ≤ length (new_in reads (locations es))
left_new reads [] = omega arith
left_new reads (d ∷ es) =
    let h = left_new reads es in
    let g = new_more reads es d in
    by (lookup reads d.0) (omega (arith, h, g))
  where
    either : (b : Bool) → IsFewer reads (d ∷ es) (left_after reads es) → IsFewer reads (d ∷ es) (cond b (left_after reads es) (d ∷ es))
    either true more = more
    either false more = omega arith

    by : (o : Option ℕ) → IsFewer reads (d ∷ es) (left_after reads es) → IsFewer reads (d ∷ es) (left_one d es (left_after reads es) o)
    by None more = omega arith
    by (Some v) more = either (d.1 == v) more

room_left : (x : Actor) (es : Entries) (m : ℕ) → HasRoomToLoad x es m → HasRoomToLoad x (left_after x.reads.entries es) m
room_left x es m h =
    let short = left_short x.reads.entries es in
    let fewer = left_new x.reads.entries es in
    let calls = h.calls in
    record {
      calls = omega (arith, short, calls);
      reads = λ declared. (let r = h.reads declared in omega (arith, short, r));
      few = λ declared. (let r = h.few declared in omega (arith, fewer, r));
      none = h.none;
    }

-- the first is not in the set, so it fits
one_fits : (es : Entries) (c : ℕ × ℕ) (gs : Entries) → lookup es c.0 ≡ None
    → length es + length (new_in es (locations (c ∷ gs))) ≤ 4096 → length es < 4096
one_fits es c gs none le =
    by (is_none (lookup es c.0)) (ap (λ (o : Option ℕ). is_none o) none)
    (subst (λ (ls : List ℕ). length es + length (new_in es ls) ≤ 4096) (locations-cons c gs) le)
  where
    by : (b : Bool) → b ≡ true → length es + length (cond b (c.0 ∷ new_in es (locations gs)) (new_in es (locations gs))) ≤ 4096
        → length es < 4096
    by true e h = (let z : length es + suc (length (new_in es (locations gs))) ≤ 4096 = h in omega (arith, z))
    by false e h = absurd (true≢false (sym e))

few_reads : (x : Actor) (c : ℕ × ℕ) (gs : Entries) (m : ℕ) → HasRoomToLoad x (c ∷ gs) m → lookup x.reads.entries c.0 ≡ None
    → length x.reads.entries < 4096
few_reads x c gs m h none = by x.declared refl
  where
    by : (b : Bool) → x.declared ≡ b → length x.reads.entries < 4096
    by true e = (let z : length x.reads.entries ≡ 0 = ap (λ (es : Entries). length es) (h.none e) in omega (arith, z))
    by false e = one_fits x.reads.entries c gs none (h.few e)

fits_look : (n : ℕ) (x : Actor) (c : ℕ × ℕ) (gs : Entries) (m l : ℕ) → HasRoomToLoad x (c ∷ gs) m → lookup x.reads.entries c.0 ≡ None
    → c.0 ≡ l → c.0 < n → Fits n x → Fits n (record x { place = place.Look l })
fits_look n x c gs m l h none is below f =
    let calls : vec_len x.calls + (suc (length gs) + m) ≤ vec_capacity x.calls = h.calls in record {
      reads = f.reads;
      writes = f.writes;
      reads_rise = f.reads_rise;
      writes_rise = f.writes_rise;
      reads_few = f.reads_few;
      writes_few = f.writes_few;
      held = f.held;
      wv = f.wv;
      place = (
        omega (arith, is, below),
        λ (declared : x.declared ≡ false). (let r : suc (length gs) ≤ x.reads.room = h.reads declared in omega (arith, r)),
        few_reads x c gs m h none,
        omega (arith, calls),
      );
    }

-- ---- the locations of a block, and what fits the sets
first_inside : (w : ℕ) (bs : List Block) (k : ℕ) (b : Block) → block_of bs k ≡ Some b → first_of w bs k + size b ≤ end_of w bs
first_inside w [] k b e = let h : ⊥ = cc in absurd h
first_inside w (d ∷ bs) zero b e =
    let same : d ≡ b = cc in
    let h = end_above (w + size d) bs in
    let g : size d ≡ size b = ap size same in
    omega (arith, h, g)
first_inside w (d ∷ bs) (suc k) b e = first_inside (w + size d) bs k b e

first_fits : (d p q : Bool) → (d || (p && q)) ≡ true → d ≡ false → p ≡ true
first_fits true p q h e = absurd (true≢false e)
first_fits false true q h e = refl
first_fits false false q h e = absurd (true≢false (sym h))

-- ---- a word actor that shows the same
pub same_keeps : (n : ℕ) (x y : Actor) → x.place ≡ place.Open → words.actor_of y ≡ words.actor_of x → y.place ≡ x.place → KeepsAt n x y
same_keeps n x y rests same placed =
    let reads : y.reads.entries ≡ x.reads.entries = ap (λ (q : machine.Actor). q.reads) same in
    let writes : y.writes.entries ≡ x.writes.entries = ap (λ (q : machine.Actor). q.writes) same in
    let held : y.held.items ≡ x.held.items = ap (λ (q : machine.Actor). q.held) same in
    let wv : y.wv ≡ x.wv = ap (λ (q : machine.Actor). q.wv) same in
    record {
      fits = λ f. (let fx = f.wv in record {
        reads = subst (All (λ (e : ℕ × ℕ). e.0 < n)) (sym reads) f.reads;
        writes = subst (All (λ (e : ℕ × ℕ). e.0 < n)) (sym writes) f.writes;
        reads_rise = subst IsRising (sym reads) f.reads_rise;
        writes_rise = subst IsRising (sym writes) f.writes_rise;
        reads_few = subst (λ (es : Entries). length es ≤ 4096) (sym reads) f.reads_few;
        writes_few = subst (λ (es : Entries). length es ≤ 4096) (sym writes) f.writes_few;
        held = subst (All (λ (e : ℕ × ℕ). (e.0 < n) × (e.1 < 2 ^ 63))) (sym held) f.held;
        wv = omega (arith, fx, wv);
        place = subst (λ (p : Place). FitsPlace n y p) (sym (placed ∙ rests)) tt;
      });
      owed = subst (λ (p : Place). owed p ≤ owed x.place) (sym placed) (omega arith);
      due = subst (λ (p : Place). due p ≤ due x.place) (sym placed) (omega arith);
    }

module _ {V : Type 0} where
  -- the same of an actor that is at another stage, or whose word actor is idle
  accept_look : (r : TxActor V) (t : Stage V) (l : ℕ) (o : running.CallWithOutcome V) → CanAccept r o
      → (let n : TxActor V = record r { words = record r.words { place = place.Look l }; stage = t } in CanAccept (at_rest n) o)
  accept_look r t l o p = record {
    writes = (refl, p.writes.1, p.writes.2, p.writes.3, p.writes.4);
    calls = p.calls;
    place = p.place;
    ready = p.ready;
    kept = p.kept;
    told = p.told;
    own = p.own;
  }

  -- the first location that is not read is read next
  pub goes_on_next : (v : BlocksView) (r : TxActor V) (o : running.CallWithOutcome V) (es : Entries) (l : ℕ)
      (left : VecDeque (ℕ × ℕ) Global)
      → judged r.words.reads.entries es ≡ judged_as.Next l → left.items ≡ left_after r.words.reads.entries es → CanAccept r o
      → CanGoOn v r o es
      → KeepsIn v (at r stage.Idle) (record r { words = record r.words { place = place.Look l }; stage = stage.Loading o left })
  goes_on_next v r o es l left next is accept can =
      let rs = r.words.reads.entries in
      let end = end_of v.words v.blocks in
      let first = next_left rs es l next in
      let c = first.0 in
      let gs = first.1 in
      let items : left.items ≡ c ∷ gs = is ∙ first.2 in
      let none : lookup rs c.0 ≡ None = subst (λ (i : ℕ). lookup rs i ≡ None) (sym first.3) (not_read rs es l next) in
      let room : HasRoomToLoad r.words left.items (length o.writes.items) =
      subst (λ (fs : Entries). HasRoomToLoad r.words fs (length o.writes.items)) (sym is) (room_left r.words es _ can.room) in
      let here = subst (λ (fs : Entries). HasRoomToLoad r.words fs (length o.writes.items)) items room in
      let below : All (λ (d : ℕ × ℕ). d.0 < end) left.items =
      subst (All (λ (d : ℕ × ℕ). d.0 < end)) (sym is) (left_all (λ (d : ℕ × ℕ). d.0 < end) rs es can.call.reads) in
      let low : c.0 < end = all_head (λ (d : ℕ × ℕ). d.0 < end) c gs (subst (All (λ (d : ℕ × ℕ). d.0 < end)) items below) in
      record {
        running = λ i. record {
          fits = fits_look end r.words c gs (length o.writes.items) l here none first.3 low i.fits;
          room = record {
            place = subst (λ (fs : Entries). IsLoadOf (place.Look l) fs) (sym items) (sym first.3);
            room = record { calls = room.calls; reads = room.reads; few = room.few; none = room.none };
            accept = accept_look r (stage.Loading o left) l o accept;
          };
          names = can.named;
          call = record {
            reads = below;
            writes = can.call.writes;
            copy = can.call.copy;
            at = can.call.at;
            answer = can.call.answer;
            call_on = can.call.call_on;
          };
        };
        owed = subst (λ (p : Place). 1 ≤ owed p) (sym accept.writes.0) (omega arith);
      }

  -- ---- an actor that is alike
  pub alike_keeps : (n : ℕ) (r u : TxActor V) → r.words.place ≡ place.Open → IsAlike r u → KeepsAt n r.words u.words
  alike_keeps n r u rests h = same_keeps n r.words u.words rests h.words h.place

  pub alike_in : (v : BlocksView) (r u : TxActor V) → r.stage ≡ stage.Open → r.words.place ≡ place.Open → IsAlike r u → KeepsIn v r u
  alike_in v r u at_rest rests h =
      let now : u.stage ≡ stage.Open = h.stage ∙ at_rest in
      keeps_asked v r u (alike_keeps (end_of v.words v.blocks) r u rests h) (λ i. subst (HasRoom u) (sym now) tt)
      (λ i. subst (NamesAmong (length v.blocks)) (sym now) tt) (ap (λ (s : Stage V). is_loading (stage_of s)) now)

  -- ---- what is made ready
  known_below : (c : PrivateCopy V) (f end : ℕ) (ls : List ℕ) → f + location_count c ≤ end → All (λ l. l < location_count c) ls
      → All (λ d. d.0 < end) (with_known c f ls)
  known_below c f end [] le all k d lt = absurd (omega (arith, lt))
  known_below c f end (l ∷ ls) le all zero d lt =
      let low : l < location_count c = all_head (λ (i : ℕ). i < location_count c) l ls all in
      omega (arith, low, le)
  known_below c f end (l ∷ ls) le all (suc k) d lt =
      known_below c f end ls le (all_tail (λ (i : ℕ). i < location_count c) l ls all) k d (omega (arith, lt))

  next_below : (c : PrivateCopy V) (f end : ℕ) (ls : List ℕ) → f + location_count c ≤ end → All (λ l. l < location_count c) ls
      → All (λ d. d.0 < end) (with_next c f ls)
  next_below c f end [] le all k d lt = absurd (omega (arith, lt))
  next_below c f end (l ∷ ls) le all zero d lt =
      let low : l < location_count c = all_head (λ (i : ℕ). i < location_count c) l ls all in
      omega (arith, low, le)
  next_below c f end (l ∷ ls) le all (suc k) d lt =
      next_below c f end ls le (all_tail (λ (i : ℕ). i < location_count c) l ls all) k d (omega (arith, lt))

  known_locations : (c : PrivateCopy V) (f : ℕ) (ls : List ℕ) → locations (with_known c f ls) ≡ shifted f ls
  unfolding locations
  known_locations c f [] = refl
  known_locations c f (l ∷ ls) =
      locations-cons (f + l, known_edition c l) (with_known c f ls) ∙ ap (λ (is : List ℕ). (f + l) ∷ is) (known_locations c f ls)

  -- what a call on a held copy writes is in its collection
  pub next_within : (v : BlocksView) (r : TxActor V) (i f k : ℕ) (op : Op V) (h : IsHeldAt r.copies.items i k op) (o : Outcome V)
      → AreOfBlocks v r.copies.items → f ≡ first_of v.words v.blocks k
      → All (λ d. d.0 < end_of v.words v.blocks) (with_next h.copy.copied f (writes_in h.copy.copied o))
  next_within v r i f k op h o blocks first =
      let c = h.copy.copied in
      let b = blocks k c h.of in
      let some : 0 < stripes_of (base_in c) = subst (λ (n : ℕ). 0 < n) (sym b.stripes) b.some in
      let places : size b.block ≡ location_count c =
      (λ j. size (record { kind = sym b.kind j; stripes = sym b.stripes j })) ∙ sized (stripes_of (base_in c)) (shown_of (base_in c)) in
      let behind = first_inside v.words v.blocks k b.block b.there in
      let le : f + location_count c ≤ end_of v.words v.blocks = omega (arith, behind, places, first) in
      next_below c f (end_of v.words v.blocks) (writes_in c o) le (writes_below c o some)

  pub can_go_on : (v : BlocksView) (r u : TxActor V) (i f k : ℕ) (op : Op V) (h : IsHeldAt r.copies.items i k op) (p : Prepared V)
      → AreOfBlocks v r.copies.items → HasNoReads r.words → f ≡ first_of v.words v.blocks k → k < length v.blocks → IsAlike r u
      → IsReadyCall r u i f op h.copy p → CanGoOn v u p.call p.left.items
  can_go_on v r u i f k op h p blocks noreads first inside alike ready =
      let c = h.copy.copied in
      let o = ready.outcome in
      let end = end_of v.words v.blocks in
      let b = blocks k c h.of in
      let some : 0 < stripes_of (base_in c) = subst (λ (n : ℕ). 0 < n) (sym b.stripes) b.some in
      let places : size b.block ≡ location_count c =
      (λ j. size (record { kind = sym b.kind j; stripes = sym b.stripes j })) ∙ sized (stripes_of (base_in c)) (shown_of (base_in c)) in
      let behind = first_inside v.words v.blocks k b.block b.there in
      let le : f + location_count c ≤ end = omega (arith, behind, places, first) in
      let kept = there_kept r u k c alike h.of in
      let d = kept.0 in
      let named : p.call.asked.collection ≡ k = ready.collection ∙ h.collection in
      let there = reads_there r u i f op h.copy p h.at alike ready in
      let declared : u.words.declared ≡ r.words.declared = ap (λ (q : machine.Actor). q.declared) alike.words in
      let entries : u.words.reads.entries ≡ r.words.reads.entries = ap (λ (q : machine.Actor). q.reads) alike.words in
      record {
        named = subst (λ (j : ℕ). j < length v.blocks) (sym named) inside;
        call = record {
          reads = subst (All (λ (e : ℕ × ℕ). e.0 < end)) (sym ready.left) (known_below c f end (reads_in c o) le (reads_below c o some));
          writes = subst (All (λ (e : ℕ × ℕ). e.0 < end)) (sym ready.writes)
              (next_below c f end (writes_in c o) le (writes_below c o some));
          copy = d;
          at = ap (copy_of u.copies.items) named ∙ kept.1;
          answer = o;
          call_on = record {
            outcome = ready.is;
            holds = ap (holds_call d) ready.asked ∙ (kept_holds c d op kept.2 ∙ h.holds);
            answer = ap (answer_of d) ready.asked ∙ (kept_answers c d op kept.2 ∙ ready.answer);
            writes = ready.writes
                ∙ (sym (writes_kept c d f o kept.2)
                ∙ ap (λ (g : ℕ). with_next d g (writes_in d o)) (first ∙ ap (first_of v.words v.blocks) (sym named)));
          };
        };
        room = record {
          calls = there.0;
          reads = there.1;
          few = λ plain. (
              let both : worlds.fits r.words.reads.entries (shifted f (reads_in c o)) ≡ true =
              first_fits r.words.declared (worlds.fits r.words.reads.entries (shifted f (reads_in c o))) _ ready.fits (sym declared
              ∙ plain) in
              let within = up_to _ 4096 both in
              subst (λ (es : Entries). length es + length (new_in es (locations p.left.items)) ≤ 4096) (sym entries)
              (subst (λ (ls : List ℕ). length r.words.reads.entries + length (new_in r.words.reads.entries ls) ≤ 4096)
              (sym (ap (λ (es : Entries). locations es) ready.left ∙ known_locations c f (reads_in c o))) within));
          none = λ is. entries ∙ noreads (sym declared ∙ is);
        };
      }
