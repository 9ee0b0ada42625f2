-- A call on a collection keeps what a world has of its machine: what it touches is copied, each location that it reads is judged, and
-- then the machine accepts it, since all that it reads was read with the edition that was copied.
use Rattle.std.proofs.Common.{◌≡◌, ℕ, ◌+◌, Bool, true, false, cond, not, ◌&&◌, ◌||◌, List, [], ◌∷◌, ◌++◌, map, Option, Some, None, Contains}
use Rattle.std.proofs.Common.{◌⊎◌, inl, inr, refl, sym, ◌∙◌, ap, subst, true≢false, eqb, eq-eqb, eqb-true}
use Rattle.std.specs.Prelude.{nat_lt, option_map, if◌then◌else◌, ◌==◌}
use Rattle.std.specs.Ordering.{nat_cmp}
use Rattle.std.specs.FinMap.{FinMap, empty}
use Rattle.std.proofs.lemmas.Bool.{cases_eq, cases_Bool, cond_both, cond-true, cond-false, and_parts}
use Rattle.std.proofs.lemmas.Option.{none-some, same_Some}
use Rattle.tx_sets.specs.Entries.{Entries, lookup}
use Rattle.tx_machine.specs.Actor as machine
use Rattle.tx_machine.specs.Actor.{Place, Actor, goes}
use Rattle.tx_machine.specs.Requests as word
use Rattle.tx_machine.specs.Requests.{ask}
use Rattle.tx_machine.specs.World.{World as Words, put}
use Rattle.tx_machine.specs.Notices as told
use Rattle.tx_machine.proofs.Quiet.{none_if, lookup-none}
use Rattle.tx_machine.specs.Opacity.{first_read}
use Rattle.tx_machine.proofs.Calls.{touched, first_read-more}
use Rattle.tx_machine.proofs.Invariant.{PlaceOk, HasBegun, IsKept}
use Rattle.seq_model.specs.declared.call.Op.{Op}
use Rattle.seq_model.specs.declared.call.Op.TheVariants.{Get, Put, Remove, Len, Count, Add, Take, Least, Insert, TakeLeast, Enqueue}
use Rattle.seq_model.specs.declared.call.Op.TheVariants.{Dequeue, Peek}
use Rattle.seq_model.specs.declared.call.Call.{Call}
use Rattle.seq_model.specs.declared.call.Reply.{Reply}
use Rattle.seq_model.specs.declared.refusal.Refusal.TheVariants as refusal
use Rattle.seq_model.specs.declared.event.Notice.TheVariants.{Refused}
use Rattle.conflict.specs.declared.outcome.Outcome.{Outcome}
use Rattle.seq_model.specs.Counts.{Multiset}
use Rattle.seq_model.proofs.LogicLemmas.{none_or_some, some-none}
use Rattle.conflict.specs.Footprints.{key_location, map_reads, multiset_reads}
use Rattle.conflict.specs.Places.{of_single}
use Rattle.base_map.specs.Conflicts as map_rules
use Rattle.base_bag.specs.Conflicts as bag_rules
use Rattle.base_pq.specs.Conflicts as pq_rules
use Rattle.base_queue.specs.Conflicts as queue_rules
use Rattle.tx_machine.specs.Content.{IsIn, has}
use Rattle.tx_machine.specs.Boosted.{Boosted, PutGate, Accept, is_open, is_committing, is_actor, is_edition, is_sound, is_none}
use Rattle.tx_machine.specs.Boosted.{is_copied, may_write, copied, gated, longer, accepted, changes, acts}
use Rattle.replay_log.specs.Base.{Shown, OfMap, outcome_of, reads_of, writes_of}
use Rattle.replay_log.specs.Parts.{Kind, MapKind, BagKind, PqKind, QueueKind, whole}
use Rattle.replay_log.specs.Contents.{Block, CollectionCall, CallWithOutcome, block_of, first_of, end_of}
use Rattle.replay_log.specs.Contents.{home_of, is_plain, HaveStripes, shifted, blank}
use Rattle.replay_log.specs.Contents.{seen, answer, reads_in, writes_in, content}
use Rattle.replay_log.specs.Pieces.{Piece, Entry, Counts, Whole, is_piece, piece_of, piece_in, covers, covers_in, piece_at, covers_at}
use Rattle.replay_log.specs.Worlds.{World, Seat, Open, Trying, Loading, After, has_room, is_change, with_editions, at_stage, because}
use Rattle.replay_log.specs.Worlds.{seated, acted, asks, actor_of, outcome_at, reply_of, call_of, with_call, is_missing, is_known, is_fresh}
use Rattle.replay_log.specs.Worlds.{judges, loads, answers, calls_on, with_piece, sized_by, has_copied, has_loaded, more_tries}
use Rattle.replay_log.proofs.PartLemmas.{knows_its_calls}
use Rattle.replay_log.proofs.ReadLemmas.{first_read-other, first_read-new, in_set, kept_at}
use Rattle.replay_log.proofs.ContentLemmas.{in_shifted, read_at, home_is, positive_at, content_frame}
use Rattle.replay_log.proofs.ActionLemmas.{Accepts, mine, without_gate, accept_goes}
use Rattle.replay_log.proofs.MixedLemmas.{is_of_word, word_calls, pair_of, Parts}
use Rattle.replay_log.proofs.PlaceLemmas.{SameTx, AfterRead}
use Rattle.replay_log.proofs.SeatLemmas.{Copy, AtReading, CanLeave, InTx, Sound, Kept, HasPieces, Live, KnownAsk, IsLeft, Left, LoadOk}
use Rattle.replay_log.proofs.SeatLemmas.{SeatOk, Linked, At, linked_seated, at_by, at_ask, cancels_linked, edition_joins, held_joins}
use Rattle.replay_log.proofs.StageLemmas.{choose, every_read, same_seat, same_live, refused_linked, gate_put, pop_has, first_has}

-- ---- booleans
and_true : (a b c d : Bool) → a ≡ true → b ≡ false → c ≡ true → d ≡ true → (a && (not b && (c && d))) ≡ true
and_true a b c d e f g h = ap (λ q. q && (not b && (c && d))) e ∙ ap (λ q. not q && (c && d)) f ∙ ap (λ q. q && d) g ∙ h

and_false : (a b c d : Bool) → d ≡ false → (a && (not b && (c && d))) ≡ false
and_false a b c d e = ap (λ q. a && (not b && (c && q))) e ∙ all a b c
  where
    all : (a b c : Bool) → (a && (not b && (c && false))) ≡ false
    all true true true = refl
    all true true false = refl
    all true false true = refl
    all true false false = refl
    all false b c = refl

if_copied : (b c : Bool) → c ≡ true → (if b then true else c) ≡ true
if_copied true c h = refl
if_copied false c h = h

same_piece : (p q : Piece) → is_piece p q ≡ true → p ≡ q
same_piece (Entry k) (Entry j) h = ap Entry (eqb-true k j h)
same_piece Counts Counts h = refl
same_piece Whole Whole h = refl
same_piece p q h = absurd (true≢false (sym h))

-- a location of a collection is no word's
pub no_word_at : (n : ℕ) (bs : List Block) (l : ℕ) → is_plain n bs l ≡ false → nat_lt l n ≡ false
no_word_at n bs l pl = left (nat_lt l n) (not (nat_lt l (end_of n bs))) pl
  where
    left : (a b : Bool) → (a || b) ≡ false → a ≡ false
    left true b h = absurd (true≢false h)
    left false b h = refl

-- what is read for the first time has not been read yet
pub reading_unwritten : (s : Words) (y : Actor) (l : ℕ) (p : Place) → AtReading l p → PlaceOk s y p → lookup y.writes l ≡ None
reading_unwritten s y l (machine.Look k) h pl = ap (lookup y.writes) (sym h) ∙ pl.1
reading_unwritten s y l (machine.Fetch k j) h pl = ap (lookup y.writes) (sym h) ∙ pl.0.1
reading_unwritten s y l (machine.Again k j v) h pl = ap (lookup y.writes) (sym h) ∙ pl.0.1
reading_unwritten s y l p h pl = absurd h

pub reading_none : (s : Words) (y : Actor) (l : ℕ) (p : Place) → AtReading l p → PlaceOk s y p → lookup y.reads l ≡ None
reading_none s y l (machine.Look k) h pl = ap (lookup y.reads) (sym h) ∙ pl.2
reading_none s y l (machine.Fetch k j) h pl = ap (lookup y.reads) (sym h) ∙ pl.0.2
reading_none s y l (machine.Again k j v) h pl = ap (lookup y.reads) (sym h) ∙ pl.0.2
reading_none s y l p h pl = absurd h

at_key : (f n q i : ℕ) → Contains (key_location n q ∷ []) i → (f + i == f + key_location n q) ≡ true
at_key f n q i c = eq-eqb (f + i) (f + key_location n q) (ap (λ j. f + j) (of_single (key_location n q) i c))

all_left : (editions : ℕ → ℕ) (ls : List ℕ) (l : ℕ) → IsIn l ls → IsLeft l (with_editions editions ls)
all_left editions [] l m = absurd m
all_left editions (k ∷ ls) l m = elim m [ inl e ↦ inl e | inr r ↦ inr (all_left editions ls l r) ]

-- a declared reader may be accepted what writes nothing
pub may_if : (declared change : Bool) (ls : List ℕ) → not (declared && change) ≡ true → (change ≡ false → ls ≡ []) → may_write declared ls
    ≡ true
may_if false change [] h none = refl
may_if false change (l ∷ ls) h none = refl
may_if true true ls h none = absurd (true≢false (sym h))
may_if true false ls h none = ap (may_write true) (none refl)

pub in_set_some : (declared : Bool) (o : Option ℕ) (v : ℕ) → in_set declared o ≡ Some v → o ≡ Some v
in_set_some true o v e = absurd (none-some v e)
in_set_some false o v e = e

with_piece_cases : (j k : ℕ) (q p : Piece) (old : Bool) → (if j == k && is_piece p q then true else old) ≡ true → ((j ≡ k) × (p ≡ q))
    ⊎ (old ≡ true)
with_piece_cases j k q p old h =
    elim (cases_Bool (eqb j k && is_piece p q)) [
      | inl e ↦ (let b = and_parts (eqb j k) (is_piece p q) e in inl (eqb-true j k b.0, same_piece p q b.1))
      | inr e ↦ inr (sym (cond-false (eqb j k && is_piece p q) true old e) ∙ h)
    ]

module _ {V : Type 0} where
  -- ---- what an outcome reads
  map_op : (op : Op V) (m : FinMap nat_cmp V) (r : Outcome V) → map_rules.outcome_of op m ≡ Some r → r.op ≡ op
  map_op (Get k) m r e = ap (λ (o : Outcome V). o.op) (sym (same_Some _ r e))
  map_op (Put k v) m r e = ap (λ (o : Outcome V). o.op) (sym (same_Some _ r e))
  map_op (Remove k) m r e = ap (λ (o : Outcome V). o.op) (sym (same_Some _ r e))
  map_op Len m r e = ap (λ (o : Outcome V). o.op) (sym (same_Some _ r e))
  map_op _ m r e = absurd (none-some r e)

  bag_op : (op : Op V) (m : Multiset) (r : Outcome V) → bag_rules.outcome_of op m ≡ Some r → r.op ≡ op
  bag_op (Count x) m r e = ap (λ (o : Outcome V). o.op) (sym (same_Some _ r e))
  bag_op (Add x) m r e = ap (λ (o : Outcome V). o.op) (sym (same_Some _ r e))
  bag_op (Take x) m r e = ap (λ (o : Outcome V). o.op) (sym (same_Some _ r e))
  bag_op _ m r e = absurd (none-some r e)

  map_covered : (n f : ℕ) (op : Op V) (r : Outcome V) (i : ℕ) → r.op ≡ op → Contains (map_reads n r.op) i
      → covers n f (piece_of MapKind op) (f + i) ≡ true
  map_covered n f (Get k) r i e c = at_key f n k i (subst (λ o. Contains (map_reads n o) i) e c)
  map_covered n f (Put k v) r i e c = at_key f n k i (subst (λ o. Contains (map_reads n o) i) e c)
  map_covered n f (Remove k) r i e c = at_key f n k i (subst (λ o. Contains (map_reads n o) i) e c)
  map_covered n f op r i e c = refl

  bag_covered : (n f : ℕ) (op : Op V) (r : Outcome V) (i : ℕ) → r.op ≡ op → Contains (multiset_reads n r.op) i
      → covers n f (piece_of BagKind op) (f + i) ≡ true
  bag_covered n f (Count x) r i e c = at_key f n x i (subst (λ o. Contains (multiset_reads n o) i) e c)
  bag_covered n f (Add x) r i e c = at_key f n x i (subst (λ o. Contains (multiset_reads n o) i) e c)
  bag_covered n f (Take x) r i e c = at_key f n x i (subst (λ o. Contains (multiset_reads n o) i) e c)
  bag_covered n f op r i e c = refl

  covered : (n f : ℕ) (k : Kind) (v w : ℕ → Shown V) (op : Op V) (r : Outcome V) (i : ℕ) → outcome_of op (whole n k v) ≡ Some r
      → Contains (reads_of n r (whole n k w)) i
      → covers n f (piece_of k op) (f + i) ≡ true
  covered n f MapKind v w op r i e c = map_covered n f op r i (map_op op _ r e) c
  covered n f BagKind v w op r i e c = bag_covered n f op r i (bag_op op _ r e) c
  covered n f PqKind v w op r i e c = refl
  covered n f QueueKind v w op r i e c = refl

  covered_in : (b : Option Block) (f : ℕ) (v : ℕ → Shown V) (op : Op V) (r : Outcome V) (l : ℕ) → answer b f v op ≡ Some r
      → IsIn l (reads_in b f (Some r))
      → covers_in b f (piece_in b op) l ≡ true
  covered_in None f v op r l e m = absurd m
  covered_in (Some b) f v op r l e m =
      let z = in_shifted f l (reads_of b.stripes r (blank b)) m in
      ap (covers b.stripes f (piece_of b.kind op)) z.1 ∙ covered b.stripes f b.kind (λ i. v (f + i)) (λ i. OfMap empty) op r z.0 e z.2

  pub known_some : (b : Option Block) (f : ℕ) (v : ℕ → Shown V) (op : Op V) → is_known b op ≡ true → (r : Outcome V)
      × (answer b f v op ≡ Some r)
  known_some None f v op h = absurd (true≢false (sym h))
  known_some (Some b) f v op h = by (outcome_of op (seen b f v)) refl
    where
      by : (o : Option (Outcome V)) → outcome_of op (seen b f v) ≡ o → (r : Outcome V) × (outcome_of op (seen b f v) ≡ Some r)
      by None e = absurd (true≢false
          (sym h ∙ ap (λ q. not (is_missing q)) (knows_its_calls b.stripes b.kind op (λ i. v (f + i)) (λ i. OfMap empty) e)))
      by (Some r) e = (r, e)

  -- what a call reads is in its collection, and is covered by what it touches
  pub record ReadsOk (n : ℕ) (bs : List Block) (asked : CollectionCall V) (l : ℕ) : Type 0 where
    pub plain : is_plain n bs l ≡ false
    pub home : home_of n bs l ≡ asked.collection
    pub covered : covers_at n bs asked l ≡ true

  pub reads_ok : (n : ℕ) (bs : List Block) (v : ℕ → Shown V) (asked : CollectionCall V) (r : Outcome V) (l : ℕ) → HaveStripes bs
      → ((content n bs).outcome v asked).outcome ≡ Some r
      → IsIn l ((content n bs).reads ((content n bs).outcome v asked)) → ReadsOk n bs asked l
  reads_ok n bs v asked r l stripes e m =
      let k = asked.collection in
      let b = block_of bs k in
      let f = first_of n bs k in
      let z = read_at b f (answer b f v asked.op) l (λ c q. positive_at bs k c stripes q) m in record {
        plain = (content_frame n bs stripes).no_word ((content n bs).outcome v asked) l m;
        home = ap (home_of n bs) z.3 ∙ home_is n bs k z.1 z.0 z.2 z.4;
        covered = covered_in b f v asked.op r l e (subst (λ o. IsIn l (reads_in b f o)) e m);
      }

  -- what changes nothing writes nothing
  map_still : (n : ℕ) (op : Op V) (m : FinMap nat_cmp V) (r : Outcome V) → is_change op ≡ false → map_rules.outcome_of op m ≡ Some r
      → map_rules.writes_of n r ≡ []
  map_still n (Get k) m r h e = ap (λ (o : Outcome V). map_rules.writes_of n o) (sym (same_Some _ r e))
  map_still n Len m r h e = ap (λ (o : Outcome V). map_rules.writes_of n o) (sym (same_Some _ r e))
  map_still n (Put k v) m r h e = absurd (true≢false h)
  map_still n (Remove k) m r h e = absurd (true≢false h)
  map_still n _ m r h e = absurd (none-some r e)

  bag_still : (n : ℕ) (op : Op V) (m : Multiset) (r : Outcome V) → is_change op ≡ false → bag_rules.outcome_of op m ≡ Some r
      → bag_rules.writes_of n r ≡ []
  bag_still n (Count x) m r h e = ap (λ (o : Outcome V). bag_rules.writes_of n o) (sym (same_Some _ r e))
  bag_still n (Add x) m r h e = absurd (true≢false h)
  bag_still n (Take x) m r h e = absurd (true≢false h)
  bag_still n _ m r h e = absurd (none-some r e)

  pq_still : (n : ℕ) (op : Op V) (m : pq_rules.Shown) (r : Outcome V) → is_change op ≡ false → pq_rules.outcome_of op m ≡ Some r
      → pq_rules.writes_of n r ≡ []
  pq_still n Least m r h e = ap (λ (o : Outcome V). pq_rules.writes_of n o) (sym (same_Some _ r e))
  pq_still n (Insert x) m r h e = absurd (true≢false h)
  pq_still n TakeLeast m r h e = absurd (true≢false h)
  pq_still n _ m r h e = absurd (none-some r e)

  queue_still : (n : ℕ) (op : Op V) (m : queue_rules.Shown) (r : Outcome V) → is_change op ≡ false → queue_rules.outcome_of op m ≡ Some r
      → queue_rules.writes_of n r ≡ []
  queue_still n Peek m r h e = ap (λ (o : Outcome V). queue_rules.writes_of n o) (sym (same_Some _ r e))
  queue_still n Len m r h e = ap (λ (o : Outcome V). queue_rules.writes_of n o) (sym (same_Some _ r e))
  queue_still n (Enqueue x) m r h e = absurd (true≢false h)
  queue_still n Dequeue m r h e = absurd (true≢false h)
  queue_still n _ m r h e = absurd (none-some r e)

  still : (n : ℕ) (k : Kind) (v w : ℕ → Shown V) (op : Op V) (r : Outcome V) → is_change op ≡ false → outcome_of op (whole n k v) ≡ Some r
      → writes_of n r (whole n k w) ≡ []
  still n MapKind v w op r h e = map_still n op _ r h e
  still n BagKind v w op r h e = bag_still n op _ r h e
  still n PqKind v w op r h e = pq_still n op _ r h e
  still n QueueKind v w op r h e = queue_still n op _ r h e

  still_in : (b : Option Block) (f : ℕ) (v : ℕ → Shown V) (op : Op V) (r : Outcome V) → is_change op ≡ false → answer b f v op ≡ Some r
      → writes_in b f (Some r) ≡ []
  still_in None f v op r h e = refl
  still_in (Some b) f v op r h e = ap (shifted f) (still b.stripes b.kind (λ i. v (f + i)) (λ i. OfMap empty) op r h e)

  writes_none : (n : ℕ) (bs : List Block) (o : CallWithOutcome V) (v : ℕ → Shown V) (r : Outcome V) → is_change o.asked.op ≡ false → o
      ≡ (content n bs).outcome v o.asked → o.outcome ≡ Some r → (content n bs).writes o ≡ []
  writes_none n bs o v r h is e =
      let b = block_of bs o.asked.collection in
      let f = first_of n bs o.asked.collection in
      ap (writes_in b f) e ∙ still_in b f v o.asked.op r h (sym (ap (λ (q : CallWithOutcome V). q.outcome) is) ∙ e)

  -- ---- the call is accepted
  parts_calls : (n : ℕ) (done : List (Call V × Reply V)) (cs ds : List machine.Call) (os : List (CallWithOutcome V)) → word_calls n ds
      ≡ word_calls n cs
      → Parts n done cs os → Parts n done ds os
  parts_calls n done cs ds os e p = record { words = p.words ∙ ap (map pair_of) (sym e); held = p.held }

  replied_known : (o : CallWithOutcome V) (r : Outcome V) → o.outcome ≡ Some r → option_map (λ q. q.reply) o.outcome ≡ Some (reply_of o)
  replied_known o r e = ap (option_map (λ q. q.reply)) e ∙ ap Some (sym
      (ap (λ out. reply_of (let p : CallWithOutcome V = record { asked = o.asked; outcome = out } in p)) e))

  accept_linked : (u : World V) (a : ℕ) (x : Seat V) (y : Actor) (z : Copy V) (g : ℕ → Bool) (o : CallWithOutcome V) → At u a y z g
      → ((k : ℕ) → g k ≡ false)
      → y.place ≡ machine.Open
      → Live u.words u.blocks x y z → LoadOk u.words u.blocks y z o [] → Linked
      (seated (acted u (Accept a o.asked ∷ [])) a (with_call x (call_of o) (reply_of o)))
  accept_linked u a x y z g o k none e live h =
      let s = u.boosted in
      let n = u.words in
      let bs = u.blocks in
      let c = content n bs in
      let f = content_frame {V = V} n bs k.base.stripes in
      let same : c.outcome (changes c (s.shadows a).outcomes (s.shadows a).parts) o.asked ≡ o = ap
      (λ (q : Copy V). c.outcome (changes c q.outcomes q.parts) o.asked) k.own.shadow ∙ sym h.is in
      let sound : (l : ℕ) → IsIn l (c.reads o) → is_sound c s a l ≡ true = λ l m. (
      let r : (v : ℕ) × (first_read y.calls l ≡ Some v) = elim (h.rest l m) [ inl no_left ↦ absurd no_left | inr q ↦ q ] in
      let q = live.sound l r.0 (f.no_word o l m) r.1 in
      ap (λ (w : Copy V). w.copied l && is_edition (w.editions l) (first_read (s.words.actors a).calls l)) k.own.shadow
      ∙ ap (λ (v : Actor). z.copied l && is_edition (z.editions l) (first_read v.calls l)) k.own.actor
      ∙ ap (λ b. b && is_edition (z.editions l) (first_read y.calls l)) q.0 ∙ ap (is_edition (z.editions l)) r.1
      ∙ eq-eqb (z.editions l) r.0 q.1) in
      let may : may_write (s.words.actors a).declared (c.writes o) ≡ true =
      ap (λ (v : Actor). may_write v.declared (c.writes o)) k.own.actor ∙ may_if y.declared (is_change o.asked.op) (c.writes o) h.may
      (λ q. writes_none n bs o (changes c z.outcomes z.parts) h.known.0 q h.is h.known.1) in
      let acc : Accepts c s (acts c s (Accept a o.asked)) a o =
      subst (λ q. Accepts c s (accepted c s a q) a o) (sym same)
      (accept_goes c s a o (ap (λ (v : Actor). v.place) k.own.actor ∙ e) may (every_read (is_sound c s a) (c.reads o) sound)) in
      let t = acts c s (Accept a o.asked) in
      let y2 = t.words.actors a in
      let at : At (acted u (Accept a o.asked ∷ [])) a y2 (longer z o) g =
      at_by u a y y2 y2 z (longer (s.shadows a) o) (longer z o) g (mine s a) g (Accept a o.asked) k acc.goes refl
      (ap (λ (q : Copy V). longer q o) k.own.shadow) k.own.gates in
      let calls : word_calls n y2.calls ≡ word_calls n y.calls =
      acc.wrote.calls (is_of_word n) (λ l v m. no_word_at n bs l (f.no_word o l (f.read o l m)))
      ∙ ap (λ (v : Actor). word_calls n v.calls) k.own.actor in
      let first : (l : ℕ) → first_read y2.calls l ≡ first_read y.calls l = λ l. acc.wrote.first l
      ∙ ap (λ (v : Actor). first_read v.calls l) k.own.actor in
      let declared : y2.declared ≡ y.declared = acc.wrote.declared ∙ ap (λ (v : Actor). v.declared) k.own.actor in
      let reads : y2.reads ≡ y.reads = acc.wrote.reads ∙ ap (λ (v : Actor). v.reads) k.own.actor in
      linked_seated (acted u (Accept a o.asked ∷ [])) a (with_call x (call_of o) (reply_of o)) y2 (longer z o) g at (record {
        gates = none;
        stage = (
          acc.wrote.place,
          record {
            tx = (
              live.tx.0 ∙ sym (acc.wrote.rv ∙ ap (λ (v : Actor). v.rv) k.own.actor),
              parts_calls n (x.calls ++ (call_of o, reply_of o) ∷ []) y.calls y2.calls (z.outcomes ++ o ∷ []) calls
                  (held_joins n x.calls y.calls z.outcomes (call_of o, reply_of o) o h.kind refl
                  (replied_known o h.known.0 h.known.1) live.tx.1),
            );
            sound = λ l v pl m. live.sound l v pl (sym (first l) ∙ m);
            kept = λ l pl.
                ap (λ (es : Entries). lookup es l) reads ∙ live.kept l pl
                ∙ sym (ap (λ b. in_set b (first_read y2.calls l)) declared ∙ ap (in_set y.declared) (first l));
            pieces = live.pieces;
          },
        );
      })

  -- ---- the locations are judged
  -- what is in no read set, of a transaction that keeps one, is in no write set; a declared reader has none
  no_write : (u : World V) (a : ℕ) (y : Actor) (z : Copy V) (g : ℕ → Bool) (l : ℕ) → At u a y z g → y.place ≡ machine.Open
      → is_plain u.words u.blocks l ≡ false → Kept u.words u.blocks y
      → lookup y.reads l ≡ None → lookup y.writes l ≡ None
  no_write u a y z g l k e pl kept none = none_if (lookup y.writes l) (λ v h. by v h y.declared refl)
    where
      by : (v : ℕ) → lookup y.writes l ≡ Some v → (b : Bool) → y.declared ≡ b → ⊥
      by v h true is =
          let ok = (k.base.inv.machine.actors a) in
          let sets = ok.kept (subst HasBegun (sym (ap (λ (q : Actor). q.place) k.own.actor ∙ e)) tt) in
          let none_kept = subst (λ b. IsKept b (u.boosted.words.actors a).reads (u.boosted.words.actors a).writes ok.saw.reads)
          (ap (λ (q : Actor). q.declared) k.own.actor ∙ is) sets in
          lookup-none y.writes l v (ap (λ (q : Actor). q.writes) (sym k.own.actor) ∙ none_kept.1) h
      by v h false is =
          let w = (k.base.inv.shadows a).wrote l v pl (ap (λ (q : Actor). lookup q.writes l) k.own.actor ∙ h) in
          let r = (k.base.inv.shadows a).sets l w.1 in
          some-none ((u.boosted.shadows a).editions l)
          (sym r.1 ∙ ap (λ (q : Actor). first_read q.calls l) k.own.actor ∙ sym (kept l pl ∙ ap (λ b. in_set b (first_read y.calls l)) is)
          ∙ none)

  fresh_linked : (u : World V) (a : ℕ) (x : Seat V) (y : Actor) (z : Copy V) (g : ℕ → Bool) (d : ℕ × ℕ) (v : ℕ) (next : After V)
      → At u a y z g
      → ((k : ℕ) → g k ≡ false) → y.place ≡ machine.Open
      → InTx u.words x y z → (d.1 ≡ v → Linked next.0) → Linked (is_fresh u a x d v next).0
  fresh_linked u a x y z g d v next k none e tx h =
      choose (eqb d.1 v) next _ (λ q. h (eqb-true d.1 v q)) (λ _. cancels_linked u a (because x (refusal.Stale d.0 d.1 v)) y z g k none
      (subst CanLeave (sym e) tt) tx)

  judges_linked : (u : World V) (a : ℕ) (x : Seat V) (y : Actor) (z : Copy V) (g : ℕ
      → Bool) (o : CallWithOutcome V) (d : ℕ × ℕ) (es : Entries)
      (next : After V)
      (r : Option ℕ) → At u a y z g → ((k : ℕ) → g k ≡ false)
      → y.place ≡ machine.Open → Live u.words u.blocks x y z → LoadOk u.words u.blocks y z o (d ∷ es) → lookup y.reads d.0 ≡ r
      → ((v : ℕ) → lookup y.reads d.0 ≡ Some v → Linked next.0) → Linked (judges u a x o d es next r).0
  judges_linked u a x y z g o d es next None k none e live h is next_ok =
      let y2 = goes y (machine.Look d.0) in
      let asked : ask y machine.Open (word.AskRead d.0) ≡ y2 =
      ap (λ q. word.read y d.0 q (lookup y.reads d.0)) (no_write u a y z g d.0 k e h.left.0 live.kept is) ∙ ap (word.read y d.0 None) is in
      linked_seated (acted u (asks a (word.AskRead d.0) ∷ [])) a (at_stage x (Loading o (d ∷ es)))
      (ask y machine.Open (word.AskRead d.0)) z g (at_ask u a y z g machine.Open (word.AskRead d.0) k e tt)
      (subst (λ (q : Actor). SeatOk u.words u.blocks (at_stage x (Loading o (d ∷ es))) q z g) (sym asked) (record {
        gates = none;
        stage = (
          refl,
          record { tx = live.tx; sound = live.sound; kept = live.kept; pieces = live.pieces },
          record { is = h.is; kind = h.kind; known = h.known; may = h.may; left = h.left; rest = h.rest },
        );
      }))
  judges_linked u a x y z g o d es next (Some v) k none e live h is next_ok = fresh_linked u a x y z g d v next k none e live.tx
      (λ _. next_ok v is)

  one_less : (n : ℕ) (bs : List Block) (y : Actor) (z : Copy V) (o : CallWithOutcome V) (d : ℕ × ℕ) (es : Entries) (v : ℕ)
      → first_read y.calls d.0 ≡ Some v → LoadOk n bs y z o (d ∷ es) → LoadOk n bs y z o es
  one_less n bs y z o d es v e h = record {
    is = h.is;
    kind = h.kind;
    known = h.known;
    may = h.may;
    left = h.left.3;
    rest = λ l m. elim (h.rest l m) [
      | inl q ↦ elim q [ inl same ↦ inr (v, ap (first_read y.calls) same ∙ e) | inr r ↦ inl r ]
      | inr q ↦ inr q
    ];
  }

  pub loads_linked : (es : Entries) (u : World V) (a : ℕ) (x : Seat V) (y : Actor) (z : Copy V) (g : ℕ → Bool) (o : CallWithOutcome V)
      → At u a y z g
      → ((k : ℕ) → g k ≡ false) → y.place ≡ machine.Open
      → Live u.words u.blocks x y z → LoadOk u.words u.blocks y z o es → Linked (loads u a x o es).0
  loads_linked [] u a x y z g o k none e live h = accept_linked u a x y z g o k none e live h
  loads_linked (d ∷ es) u a x y z g o k none e live h =
      judges_linked u a x y z g o d es (loads u a x o es) (lookup (actor_of u a).reads d.0) k none e live h
      (ap (λ (q : Actor). lookup q.reads d.0) (sym k.own.actor))
      (λ v is. loads_linked es u a x y z g o k none e live
      (one_less u.words u.blocks y z o d es v
      (in_set_some y.declared (first_read y.calls d.0) v (sym (live.kept d.0 h.left.0) ∙ is)) h))

  left_same : (n : ℕ) (bs : List Block) (y y2 : Actor) (z : Copy V) → SameTx y y2 → (es : Entries) → Left n bs y z es → Left n bs y2 z es
  left_same n bs y y2 z t [] h = tt
  left_same n bs y y2 z t (d ∷ es) h = (
    h.0,
    h.1,
    λ none. h.2 (sym (ap (λ (cs : List machine.Call). first_read cs d.0) t.calls) ∙ none),
    left_same n bs y y2 z t es h.3,
  )

  -- a location was read, with the edition that was copied
  left_read : (n : ℕ) (bs : List Block) (y : Actor) (z : Copy V) (l v : ℕ) (es : Entries) → Left n bs y z es
      → Left n bs (machine.has_read y l v) z es
  left_read n bs y z l v [] h = tt
  left_read n bs y z l v (d ∷ es) h = (
    h.0,
    h.1,
    λ none. elim (none_or_some (first_read y.calls d.0)) [
      | inl new ↦ h.2 new
      | inr e ↦ absurd (some-none e.0 (sym (first_read-more y.calls (machine.Read l v ∷ []) d.0 e.0 e.1) ∙ none))
    ],
    left_read n bs y z l v es h.3,
  )

  load_read : (n : ℕ) (bs : List Block) (y : Actor) (z : Copy V) (o : CallWithOutcome V) (d : ℕ × ℕ) (es : Entries) (v : ℕ)
      → touched y.calls d.0
      ≡ false → LoadOk n bs y z o (d ∷ es) → LoadOk n bs (machine.has_read y d.0 v) z o es
  load_read n bs y z o d es v un h = record {
    is = h.is;
    kind = h.kind;
    known = h.known;
    may = h.may;
    left = left_read n bs y z d.0 v es h.left.3;
    rest = λ l m. elim (h.rest l m) [
      | inl q ↦ elim q [
        | inl same ↦ elim (none_or_some (first_read y.calls d.0)) [
          | inl new ↦ inr (v, ap (first_read (y.calls ++ machine.Read d.0 v ∷ [])) same ∙ first_read-new y.calls d.0 v new un)
          | inr e ↦ inr (
            e.0,
            ap (first_read (y.calls ++ machine.Read d.0 v ∷ [])) same ∙ first_read-more y.calls
                (machine.Read d.0 v ∷ []) d.0 e.0 e.1,
          )
        ]
        | inr r ↦ inl r
      ]
      | inr q ↦ inr (q.0, first_read-more y.calls (machine.Read d.0 v ∷ []) l q.0 q.1)
    ];
  }

  live_read : (n : ℕ) (bs : List Block) (x : Seat V) (y : Actor) (z : Copy V) (d : ℕ × ℕ) (v : ℕ) → is_plain n bs d.0 ≡ false
      → z.copied d.0 ≡ true → (first_read y.calls d.0 ≡ None → z.editions d.0 ≡ v)
      → lookup y.reads d.0 ≡ None → touched y.calls d.0 ≡ false → Live n bs x y z → Live n bs x (machine.has_read y d.0 v) z
  live_read n bs x y z d v pl cp ed none un h = record {
    tx = (h.tx.0, edition_joins n x.calls y.calls z.outcomes (machine.Read d.0 v) (no_word_at n bs d.0 pl) h.tx.1);
    sound = λ l i p m. elim (cases_eq l d.0) [
      | inl same ↦ elim (none_or_some (first_read y.calls d.0)) [
        | inl new ↦ (
          ap z.copied same ∙ cp,
          ap z.editions same ∙ ed new
              ∙ same_Some v i (sym (first_read-new y.calls d.0 v new un) ∙ ap (first_read (y.calls ++ machine.Read d.0 v ∷ [])) (sym same)
              ∙ m),
        )
        | inr e ↦ h.sound l i p
            (ap (first_read y.calls) same ∙ e.1 ∙ sym (first_read-more y.calls (machine.Read d.0 v ∷ []) d.0 e.0 e.1)
            ∙ ap (first_read (y.calls ++ machine.Read d.0 v ∷ [])) (sym same) ∙ m)
      ]
      | inr other ↦ h.sound l i p (sym (first_read-other y.calls d.0 v l other) ∙ m)
    ];
    kept = λ l p. kept_at y.declared y.reads y.calls d.0 v l (h.kept l p) (λ same. none) (λ same new. un);
    pieces = h.pieces;
  }

  pub has_loaded_linked : (u : World V) (a : ℕ) (x : Seat V) (y y2 : Actor) (z : Copy V) (g : ℕ → Bool) (o : CallWithOutcome V) (d : ℕ × ℕ)
      (es : Entries) (n : told.Notice) → At u a y2 z g → ((k : ℕ) → g k ≡ false)
      → u.seats a ≡ x → x.stage ≡ Loading o (d ∷ es) → Live u.words u.blocks x y z → LoadOk u.words u.blocks y z o (d ∷ es)
      → lookup y.reads d.0 ≡ None → touched y.calls d.0 ≡ false → AfterRead d.0 y y2 n → Linked (has_loaded u a x o d es n).0
  has_loaded_linked u a x y y2 z g o d es told.Quiet k none seat st live h new un after =
      let t : SameTx y y2 = after.1 in
      same_seat u a x y2 z g (Loading o (d ∷ es)) k seat st none (
        after.0,
        same_live u.words u.blocks x y y2 z t live,
        record {
          is = h.is;
          kind = h.kind;
          known = h.known;
          may = ap (λ b. not (b && is_change o.asked.op)) t.declared ∙ h.may;
          left = left_same u.words u.blocks y y2 z t (d ∷ es) h.left;
          rest = λ l m. subst (λ (q : List machine.Call). IsLeft l (d ∷ es) ⊎ ((v : ℕ) × (first_read q l ≡ Some v))) (sym t.calls)
              (h.rest l m);
        },
      )
  has_loaded_linked u a x y y2 z g o d es (told.Number v) k none seat st live h new un after =
      let y3 = machine.has_read y d.0 v in
      let k3 : At u a y3 z g = subst (λ (q : Actor). At u a q z g) after k in
      let tx3 : InTx u.words x y3 z = (
        live.tx.0,
        edition_joins u.words x.calls y.calls z.outcomes (machine.Read d.0 v)
            (no_word_at u.words u.blocks d.0 h.left.0) live.tx.1,
      ) in
      fresh_linked u a x y3 z g d v (loads u a x o es) k3 none refl tx3
      (λ same. loads_linked es u a x y3 z g o k3 none refl
      (live_read u.words u.blocks x y z d v h.left.0 h.left.1 (λ none. h.left.2 none ∙ same) new un live)
      (load_read u.words u.blocks y z o d es v un h))
  has_loaded_linked u a x y y2 z g o d es (told.Moved i found) k none seat st live h new un after = refused_linked u a x y y2 z g
      (refusal.Moved i found) machine.Undo k none after tt live.tx
  has_loaded_linked u a x y y2 z g o d es n k none seat st live h new un after = absurd after

  -- ---- the outcome is taken
  left_all : (n : ℕ) (bs : List Block) (y : Actor) (z : Copy V) (editions : ℕ → ℕ) (ls : List ℕ)
      → ((l : ℕ) → IsIn l ls → (is_plain n bs l ≡ false) × (z.copied l ≡ true)
      × (first_read y.calls l ≡ None → z.editions l ≡ editions l)) → Left n bs y z (with_editions editions ls)
  left_all n bs y z editions [] h = tt
  left_all n bs y z editions (l ∷ ls) h = let q = h l (inl refl) in (q.0, q.1, q.2, left_all n bs y z editions ls (λ i m. h i (inr m)))

  answers_linked : (u : World V) (a : ℕ) (before x : Seat V) (y : Actor) (z : Copy V) (g : ℕ → Bool) (asked : CollectionCall V)
      (sized : CallWithOutcome V) (editions : ℕ → ℕ) → At u a y z g → ((k : ℕ) → g k ≡ false) → y.place ≡ machine.Open
      → Live u.words u.blocks before y z → Live u.words u.blocks x y z → KnownAsk u.blocks y asked
      → ((l : ℕ) → ReadsOk u.words u.blocks asked l → (z.copied l ≡ true) × (first_read y.calls l ≡ None → z.editions l ≡ editions l))
      → Linked (answers u a before x sized (outcome_at u a asked) editions).0
  answers_linked u a before x y z g asked sized editions k none e old live known cop =
      let c = content u.words u.blocks in
      let s = u.boosted in
      let o = outcome_at u a asked in
      let r = known_some (block_of u.blocks asked.collection) (first_of u.words u.blocks asked.collection)
      (changes c (s.shadows a).outcomes (s.shadows a).parts) asked.op known.1 in
      choose (has_room (actor_of u a) (c.reads sized) (c.writes sized)) (loads u a x o (with_editions editions (c.reads o)))
      (seated u a (at_stage before Open), Refused a refusal.TooLong)
      (λ _. loads_linked (with_editions editions (c.reads o)) u a x y z g o k none e live (record {
        is = ap (λ (q : Copy V). c.outcome (changes c q.outcomes q.parts) asked) k.own.shadow;
        kind = known.0;
        known = r;
        may = known.2;
        left = left_all u.words u.blocks y z editions (c.reads o) (λ l m. (
            let q = reads_ok u.words u.blocks (changes c (s.shadows a).outcomes (s.shadows a).parts) asked r.0 l k.base.stripes r.1 m in
            let p = cop l q in (q.plain, p.0, p.1)));
        rest = λ l m. inl (all_left editions (c.reads o) l m);
      }))
      (λ _. linked_seated u a (at_stage before Open) y z g k
      (record { gates = none; stage = (e, record { tx = old.tx; sound = old.sound; kept = old.kept; pieces = old.pieces }) }))

  pub calls_on_linked : (w : World V) (a : ℕ) (x : Seat V) (y : Actor) (z : Copy V) (g : ℕ → Bool) (asked : CollectionCall V) → At w a y z g
      → ((k : ℕ) → g k ≡ false) → y.place ≡ machine.Open
      → Live w.words w.blocks x y z → KnownAsk w.blocks y asked → Linked (calls_on w a x asked).0
  calls_on_linked w a x y z g asked k none e live known =
      choose (x.copied asked.collection (piece_at w.blocks asked)) _ _
      (λ has_it. answers_linked w a x x y z g asked (outcome_at w a asked) (w.boosted.shadows a).editions k none e live live known
      (λ l r. (
        live.pieces asked.collection (piece_at w.blocks asked) has_it l r.plain r.home r.covered,
        λ _. ap (λ (q : Copy V). q.editions l) (sym k.own.shadow),
      )))
      (λ _. linked_seated w a (at_stage x (Trying asked more_tries)) y z g k (record {
        gates = none;
        stage = (e, record { tx = live.tx; sound = live.sound; kept = live.kept; pieces = live.pieces }, known);
      }))

  -- ---- what the call touches is copied
  module _ (w : World V) (y : Actor) (z : Copy V) (k : ℕ) (which : ℕ → Bool) where
    abbrev copy : Copy V
    copy = copied (content w.words w.blocks) w.boosted y.calls z k which

    kept_read : (l e : ℕ) → first_read y.calls l ≡ Some e → is_copied (content {V = V} w.words w.blocks) y.calls k which l ≡ false
    kept_read l e h = and_false (which l) (is_plain w.words w.blocks l) (home_of w.words w.blocks l == k) (is_none (first_read y.calls l))
        (ap is_none h)

    copy_sound : Sound w.words w.blocks y z → Sound w.words w.blocks y copy
    copy_sound s l e pl h =
        let b = is_copied (content {V = V} w.words w.blocks) y.calls k which l in
        let q = s l e pl h in (
          if_copied b (z.copied l) q.0,
          cond-false b (w.boosted.editions l) (z.editions l) (kept_read l e h) ∙ q.1,
        )

    -- what is covered and was not read is the base's
    copied_now : (l : ℕ) → Sound w.words w.blocks y z → which l ≡ true → is_plain w.words w.blocks l ≡ false → home_of w.words w.blocks l
        ≡ k
        → (copy.copied l ≡ true) × (first_read y.calls l ≡ None → copy.editions l ≡ w.boosted.editions l)
    copied_now l s cov pl home =
        let b = is_copied (content {V = V} w.words w.blocks) y.calls k which l in
        let new : first_read y.calls l ≡ None → b ≡ true = λ none.
        and_true (which l) (is_plain w.words w.blocks l) (home_of w.words w.blocks l == k) (is_none (first_read y.calls l)) cov pl
        (eq-eqb (home_of w.words w.blocks l) k home) (ap is_none none) in (
          elim (none_or_some (first_read y.calls l)) [
            | inl none ↦ cond-true b true (z.copied l) (new none)
            | inr e ↦ if_copied b (z.copied l) (s l e.0 pl e.1).0
          ],
          λ none. cond-true b (w.boosted.editions l) (z.editions l) (new none),
        )

  pub put_editions : (w : World V) (a k : ℕ) (which : ℕ → Bool) → (acted w (PutGate a k which ∷ [])).boosted.editions ≡ w.boosted.editions
  put_editions w a k which =
      let c = content w.words w.blocks in
      let s = w.boosted in
      cond_both (is_actor a (s.gates k) && not (is_committing (s.words.actors a).place))
      (gated s (put s.gates k None)
      (if is_open (s.words.actors a).place then put s.shadows a
      (copied c s (s.words.actors a).calls (s.shadows a) k which) else s.shadows)) s
      (λ (t : Boosted (Shown V) (CallWithOutcome V)). t.editions ≡ s.editions) (λ _. refl) (λ _. refl)

  pub copying_step : (w : World V) (a : ℕ) (x : Seat V) (y : Actor) (z : Copy V) (g : ℕ → Bool) (asked : CollectionCall V) → At w a y z g
      → ((k : ℕ) → g k ≡ has (asked.collection ∷ []) k) → y.place ≡ machine.Open
      → Live w.words w.blocks x y z → KnownAsk w.blocks y asked
      → Linked (has_copied (acted w (PutGate a asked.collection (covers_at w.words w.blocks asked) ∷ [])) a x asked).0
  copying_step w a x y z g asked k held e live known =
      let i = asked.collection in
      let p = piece_at w.blocks asked in
      let which = covers_at w.words w.blocks asked in
      let u = acted w (PutGate a i which ∷ []) in
      let zc = copied (content w.words w.blocks) w.boosted y.calls z i which in
      let x2 = with_piece x i p in
      let none : (j : ℕ) → without_gate g i j ≡ false = λ j. ap (λ b. cond (eqb j i) false b) (held j) ∙ pop_has [] i j refl in
      let at : At u a y zc (without_gate g i) =
      subst (λ (q : Copy V). At u a y q (without_gate g i)) (cond-true (is_open y.place) zc z (ap is_open e))
      (gate_put w a i which y z g k (held i ∙ first_has i []) (ap is_committing e)) in
      let sound : Sound w.words w.blocks y zc = copy_sound w y z i which live.sound in
      let old : HasPieces w.words w.blocks x zc = λ j q h l pl home cov. if_copied
      (is_copied (content {V = V} w.words w.blocks) y.calls i which l) (z.copied l) (live.pieces j q h l pl home cov) in
      let new : HasPieces w.words w.blocks x2 zc = λ j q h l pl home cov. elim (with_piece_cases j i q p (x.copied j q) h) [
        | inl same ↦
            (let home2 : home_of w.words w.blocks l ≡ i = home ∙ same.0 in
            let cov2 : which l ≡ true =
            subst (λ (m : ℕ). covers_in (block_of w.blocks m) (first_of w.words w.blocks m) p l ≡ true) same.0
            (subst (λ (r : Piece). covers_in (block_of w.blocks j) (first_of w.words w.blocks j) r l ≡ true) (sym same.1) cov) in
            (copied_now w y z i which l live.sound cov2 pl home2).0)
        | inr was ↦ old j q was l pl home cov
      ] in
      answers_linked u a x x2 y zc (without_gate g i) asked (sized_by u a asked (outcome_at u a asked)) u.boosted.editions at none e
      (record { tx = live.tx; sound = sound; kept = live.kept; pieces = old })
      (record { tx = live.tx; sound = sound; kept = live.kept; pieces = new }) known
      (λ l r. (
      let q = copied_now w y z i which l live.sound r.covered r.plain r.home in (
        q.0,
        λ m. q.1 m ∙ ap (λ (f : ℕ → ℕ). f l) (sym (put_editions w a i which)),
      )))
