-- Locations of which there are few fit the sets, whichever they are; and a call on a collection reads at most its stripes and two
-- locations more, and writes at most two, one on a key of a map or a multiset one of each.
use Rattle.std.proofs.Common.{◌≡◌, ℕ, suc, ◌+◌, ◌≤◌, Bool, true, false, true≢false, ◌&&◌, ◌||◌, List, Option, Some, None, length, refl}
use Rattle.std.proofs.Common.{sym, ap, subst, arith}
use Rattle.std.specs.Prelude.{option_map}
use Rattle.std.specs.Ordering.{nat_cmp}
use Rattle.std.specs.FinMap.{FinMap}
use Rattle.std.proofs.lemmas.Bool.{leb-true, le-leb, and_parts}
use Rattle.std.proofs.lemmas.List.FromFn.{length-range_with_len}
use Rattle.tx_sets.specs.Entries.{Entries, lookup}
use Rattle.tx_machine.specs.Actor.{Actor}
use Rattle.seq_model.specs.declared.call.Op.{Op}
use Rattle.seq_model.specs.declared.call.Op.TheVariants.{Get, Put, Remove, Len, Count, Add, Take, Least, Insert, TakeLeast}
use Rattle.seq_model.specs.declared.call.Op.TheVariants.{Enqueue, Dequeue, Peek}
use Rattle.seq_model.specs.Calls.{map_call}
use Rattle.seq_model.specs.declared.call.Reply.{Reply}
use Rattle.seq_model.specs.declared.call.Reply.TheVariants.{Done, Found, Value, Yes}
use Rattle.conflict.specs.declared.outcome.Note.{Note}
use Rattle.conflict.specs.declared.outcome.Note.TheVariants as note
use Rattle.conflict.specs.declared.outcome.Outcome.{Outcome}
use Rattle.conflict.specs.Footprints.{map_reads, map_writes, multiset_reads, multiset_writes, priority_queue_reads, priority_queue_writes}
use Rattle.conflict.specs.Footprints.{all_below, queue_reads, queue_writes}
use Rattle.tx_machine.specs.Boosted.{is_none}
use Rattle.replay_log.specs.declared.base.Base.{Base}
use Rattle.replay_log.specs.Base.{Shown, OfMap, OfBag, OfPq, OfQueue, outcome_of, reads_of, shown_of, stripes_of, writes_of}
use Rattle.replay_log.specs.Contents.{shifted}
use Rattle.replay_log.specs.Worlds as worlds
use Rattle.replay_log.proofs.CountLemmas.{filter_shorter, length-shifted}
use Rattle.actor_parts.specs.Room.{surely_fits, takes_more}
use Rattle.actor_parts.specs.Sizes.{HasAtMost, base_reads, base_writes, is_on_key}

-- ---- few locations
pub few_fit : (set : Entries) (ls : List ℕ) (n : ℕ) → takes_more set n ≡ true → length ls ≤ n → worlds.fits set ls ≡ true
few_fit set ls n room few =
    let new = filter_shorter (λ l. is_none (lookup set l)) ls in
    let le = leb-true _ _ room in
    le-leb _ _ (omega (arith, new, le, few))

pub surely_room : (x : Actor) (n m : ℕ) (rs ws : List ℕ) → surely_fits x n m ≡ true → length rs ≤ n → length ws ≤ m
    → worlds.has_room x rs ws ≡ true
surely_room x n m rs ws sure few_reads few_writes = by x.declared sure
  where
    by : (b : Bool) → (b || (takes_more x.reads n && takes_more x.writes m)) ≡ true
        → (b || (worlds.fits x.reads rs && worlds.fits x.writes ws)) ≡ true
    by true sure = refl
    by false sure =
        let both = and_parts (takes_more x.reads n) (takes_more x.writes m) sure in
        λ j. few_fit x.reads rs n both.0 few_reads j && few_fit x.writes ws m both.1 few_writes j

-- so the locations of a collection that begins at f
pub surely_shifted : (x : Actor) (f n m : ℕ) (rs ws : List ℕ) → surely_fits x n m ≡ true → length rs ≤ n → length ws ≤ m
    → worlds.has_room x (shifted f rs) (shifted f ws) ≡ true
surely_shifted x f n m rs ws sure few_reads few_writes =
    let reads = length-shifted f rs in
    let writes = length-shifted f ws in
    surely_room x n m (shifted f rs) (shifted f ws) sure (omega (arith, reads, few_reads)) (omega (arith, writes, few_writes))

-- ---- how many locations a call has
pub all_few : (n : ℕ) → length (all_below n) ≤ n
all_few n = let e = length-range_with_len 0 n in omega (arith, e)

module _ (V : Type 0) where
  map_few : (n : ℕ) (op : Op V) → length (map_reads n op) ≤ n + 2
  map_few n (Get k) = omega arith
  map_few n (Put k v) = omega arith
  map_few n (Remove k) = omega arith
  map_few n Len = let e = all_few n in omega (arith, e)
  map_few n _ = omega arith

  bag_few : (n : ℕ) (op : Op V) → length (multiset_reads n op) ≤ n + 2
  bag_few n (Count x) = omega arith
  bag_few n (Add x) = omega arith
  bag_few n (Take x) = omega arith
  bag_few n _ = omega arith

  pq_few : (n : ℕ) (op : Op V) (r : Reply V) → length (priority_queue_reads n op r) ≤ n + 2
  pq_few n Least r = omega arith
  pq_few n (Insert x) r = omega arith
  pq_few n TakeLeast (Found x) = let e = all_few (suc n) in omega (arith, e)
  pq_few n TakeLeast r = omega arith
  pq_few n _ r = omega arith

  queue_few : (n : ℕ) (op : Op V) (i : Note) → length (queue_reads n op i) ≤ n + 2
  queue_few n (Enqueue x) (note.Index t) = omega arith
  queue_few n (Enqueue x) i = omega arith
  queue_few n Dequeue (note.Index t) = omega arith
  queue_few n Dequeue i = omega arith
  queue_few n Peek (note.Index t) = omega arith
  queue_few n Peek i = omega arith
  queue_few n Len i = omega arith
  queue_few n _ i = omega arith

  map_writes_few : (n : ℕ) (op : Op V) (r : Reply V) → length (map_writes n op r) ≤ 2
  map_writes_few n (Put k v) r = omega arith
  map_writes_few n (Remove k) (Value old) = omega arith
  map_writes_few n (Remove k) r = omega arith
  map_writes_few n _ r = omega arith

  bag_writes_few : (n : ℕ) (op : Op V) (r : Reply V) → length (multiset_writes n op r) ≤ 2
  bag_writes_few n (Add x) Done = omega arith
  bag_writes_few n (Add x) r = omega arith
  bag_writes_few n (Take x) Yes = omega arith
  bag_writes_few n (Take x) r = omega arith
  bag_writes_few n _ r = omega arith

  pq_writes_few : (n : ℕ) (op : Op V) (r : Reply V) (i : Note) → length (priority_queue_writes n op r i) ≤ 2
  pq_writes_few n (Insert x) Done (note.Least first) = omega arith
  pq_writes_few n (Insert x) Done i = omega arith
  pq_writes_few n (Insert x) r i = omega arith
  pq_writes_few n TakeLeast (Found x) i = omega arith
  pq_writes_few n TakeLeast r i = omega arith
  pq_writes_few n _ r i = omega arith

  queue_writes_few : (n : ℕ) (op : Op V) (r : Reply V) (i : Note) → length (queue_writes n op r i) ≤ 2
  queue_writes_few n (Enqueue x) Done (note.Index t) = omega arith
  queue_writes_few n (Enqueue x) Done i = omega arith
  queue_writes_few n (Enqueue x) r i = omega arith
  queue_writes_few n Dequeue (Found x) (note.Index h) = omega arith
  queue_writes_few n Dequeue (Found x) i = omega arith
  queue_writes_few n Dequeue r i = omega arith
  queue_writes_few n _ r i = omega arith

  reads_few : (n : ℕ) (o : Outcome V) (s : Shown V) → length (reads_of n o s) ≤ n + 2
  reads_few n o (OfMap s) = map_few n o.op
  reads_few n o (OfBag s) = bag_few n o.op
  reads_few n o (OfPq s) = pq_few n o.op o.reply
  reads_few n o (OfQueue s) = queue_few n o.op o.note

  writes_few : (n : ℕ) (o : Outcome V) (s : Shown V) → length (writes_of n o s) ≤ 2
  writes_few n o (OfMap s) = map_writes_few n o.op o.reply
  writes_few n o (OfBag s) = bag_writes_few n o.op o.reply
  writes_few n o (OfPq s) = pq_writes_few n o.op o.reply o.note
  writes_few n o (OfQueue s) = queue_writes_few n o.op o.reply o.note

  -- ---- a call on a key
  map_key_reads : (n : ℕ) (s : FinMap nat_cmp V) (op : Op V) → is_on_key (OfMap s) op ≡ true → length (map_reads n op) ≤ 1
  map_key_reads n s (Get k) key = omega arith
  map_key_reads n s (Put k v) key = omega arith
  map_key_reads n s (Remove k) key = omega arith
  map_key_reads n s Len key = absurd (true≢false (sym key))
  map_key_reads n s _ key = omega arith

  map_key_writes : (n : ℕ) (op : Op V) (r : Reply V) → length (map_writes n op r) ≤ 1
  map_key_writes n (Put k v) r = omega arith
  map_key_writes n (Remove k) (Value old) = omega arith
  map_key_writes n (Remove k) r = omega arith
  map_key_writes n _ r = omega arith

  bag_key_reads : (n : ℕ) (op : Op V) → length (multiset_reads n op) ≤ 1
  bag_key_reads n (Count x) = omega arith
  bag_key_reads n (Add x) = omega arith
  bag_key_reads n (Take x) = omega arith
  bag_key_reads n _ = omega arith

  bag_key_writes : (n : ℕ) (op : Op V) (r : Reply V) → length (multiset_writes n op r) ≤ 1
  bag_key_writes n (Add x) Done = omega arith
  bag_key_writes n (Add x) r = omega arith
  bag_key_writes n (Take x) Yes = omega arith
  bag_key_writes n (Take x) r = omega arith
  bag_key_writes n _ r = omega arith

  -- the outcome of a call on a map is one of this call
  map_op : (op : Op V) (p : Option (Reply V × FinMap nat_cmp V)) (o : Outcome V)
      → option_map (λ r. record { op = op; reply = r.0; note = note.Plain }) p ≡ Some o → op ≡ o.op
  map_op op None o e = let h : ⊥ = cc in absurd h
  map_op op (Some r) o e = ap (λ (x : Outcome V). x.op) (let h : record { op = op; reply = r.0; note = note.Plain } ≡ o = cc in h)

  key_few : (n : ℕ) (s : Shown V) (op : Op V) (o : Outcome V) → is_on_key s op ≡ true → outcome_of op s ≡ Some o
      → (length (reads_of n o s) ≤ 1) × (length (writes_of n o s) ≤ 1)
  key_few n (OfMap s) op o key is = (
    subst (λ (p : Op V). length (map_reads n p) ≤ 1) (map_op op (map_call op s) o is) (map_key_reads n s op key),
    map_key_writes n o.op o.reply,
  )
  key_few n (OfBag s) op o key is = (bag_key_reads n o.op, bag_key_writes n o.op o.reply)
  key_few n (OfPq s) op o key is = absurd (true≢false (sym key))
  key_few n (OfQueue s) op o key is = absurd (true≢false (sym key))

-- so many each call on a base reads and writes at most
pub any_most : {V : Type 0} (base : Base V) (op : Op V) → HasAtMost base op (stripes_of base + 2) 2
any_most {V} base op o is =
    (reads_few V (stripes_of base) o (shown_of base), writes_few V (stripes_of base) o (shown_of base))

pub key_most : {V : Type 0} (base : Base V) (op : Op V) → is_on_key (shown_of base) op ≡ true → HasAtMost base op 1 1
key_most {V} base op key o is = key_few V (stripes_of base) (shown_of base) op o key is

-- so those of the call fit
pub base_fits : {V : Type 0} (x : Actor) (base : Base V) (f : ℕ) (op : Op V) (n m : ℕ) (o : Outcome V) → HasAtMost base op n m
    → outcome_of op (shown_of base) ≡ Some o → surely_fits x n m ≡ true
    → worlds.has_room x (shifted f (base_reads base o)) (shifted f (base_writes base o)) ≡ true
base_fits x base f op n m o most is sure =
    surely_shifted x f n m (base_reads base o) (base_writes base o) sure (most o is).0 (most o is).1
