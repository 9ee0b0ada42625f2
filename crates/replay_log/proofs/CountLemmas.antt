-- How many locations there are: in a set that takes one more, among the homes of a write set, and of a call, which reads at most those of
-- its collection.
use Rattle.std.proofs.Common.{◌≡◌, ℕ, zero, suc, ◌+◌, ◌<◌, ◌≤◌, Bool, true, false, cond, List, [], ◌∷◌, length, filter, Option, Some, None}
use Rattle.std.proofs.Common.{inl, inr, refl, sym, ◌∙◌, ap, subst, arith}
use Rattle.std.proofs.lemmas.Bool.{cases_eq, cond-false, cond_both}
use Rattle.std.proofs.lemmas.List.FromFn.{length-range_with_len}
use Rattle.std.specs.FinMap.{empty}
use Rattle.std.proofs.lemmas.Option.{none-some, same_Some}
use Rattle.tx_sets.specs.Entries.{Entries, lookup, with_entry, locations}
use Rattle.tx_machine.specs.Actor as machine
use Rattle.tx_machine.proofs.Sets.{lookup-with_entry_same, lookup-with_entry_other}
use Rattle.seq_model.specs.declared.call.Op.{Op}
use Rattle.seq_model.specs.declared.call.Op.TheVariants.{Get, Put, Remove, Len, Count, Add, Take, Least, Insert, TakeLeast}
use Rattle.seq_model.specs.declared.call.Op.TheVariants.{Enqueue, Dequeue, Peek}
use Rattle.seq_model.specs.declared.call.Reply.{Reply}
use Rattle.seq_model.specs.declared.call.Reply.TheVariants.{Found}
use Rattle.conflict.specs.declared.outcome.Outcome.{Outcome}
use Rattle.conflict.specs.declared.outcome.Note.{Note}
use Rattle.conflict.specs.declared.outcome.Note.TheVariants.{Index}
use Rattle.conflict.specs.Footprints.{all_below, map_reads, multiset_reads, priority_queue_reads, queue_reads}
use Rattle.tx_machine.specs.Content.{has}
use Rattle.tx_machine.specs.Boosted.{is_none}
use Rattle.replay_log.specs.Base.{Shown, OfMap, reads_of}
use Rattle.replay_log.specs.Parts.{Kind, MapKind, BagKind, PqKind, QueueKind, whole}
use Rattle.replay_log.specs.Contents.{Block, CallWithOutcome, HaveStripes, block_of, first_of, blank, shifted, reads_in, content}
use Rattle.replay_log.specs.Worlds.{new_in, with_editions, all_of, distinct, with_new}
use Rattle.replay_log.specs.WorldProgress.{most_by, AreSmall}

pub length-locations : (es : Entries) → length (locations es) ≡ length es
unfolding locations
length-locations [] = refl
length-locations (e ∷ es) = ap suc (length-locations es)

pub new_fewer : (es : Entries) (l v : ℕ) (ls : List ℕ) → length (new_in (with_entry es l v) ls) ≤ length (new_in es ls)
new_fewer es l v [] = omega arith
new_fewer es l v (k ∷ ls) =
    let rest = new_fewer es l v ls in
    elim (cases_eq k l) [
      | inl same ↦
          (let old : is_none (lookup (with_entry es l v) k) ≡ false = ap is_none
          (ap (lookup (with_entry es l v)) same ∙ lookup-with_entry_same es l v) in
          let e = ap length (cond-false (is_none (lookup (with_entry es l v) k)) (k ∷ new_in (with_entry es l v) ls)
          (new_in (with_entry es l v) ls) old) in
          cond_both (is_none (lookup es k)) (k ∷ new_in es ls) (new_in es ls)
          (λ zs. length (new_in (with_entry es l v) (k ∷ ls)) ≤ length zs)
          (λ _. omega (arith, rest, e)) (λ _. omega (arith, rest, e)))
      | inr other ↦
          subst (λ o. length (cond (is_none o) (k ∷ new_in (with_entry es l v) ls) (new_in (with_entry es l v) ls)) ≤ length
          (new_in es (k ∷ ls)))
          (sym (lookup-with_entry_other es l v k other))
          (elim (is_none (lookup es k)) as
          (λ b. length (cond b (k ∷ new_in (with_entry es l v) ls) (new_in (with_entry es l v) ls)) ≤ length
          (cond b (k ∷ new_in es ls) (new_in es ls))) [
            | true ↦ omega (arith, rest)
            | false ↦ rest
          ])
    ]

pub read_fewer : (declared : Bool) (es : Entries) (l v : ℕ) (ls : List ℕ)
    → length (new_in (machine.with_read declared es l v) ls) ≤ length (new_in es ls)
read_fewer true es l v ls = omega arith
read_fewer false es l v ls = new_fewer es l v ls

pub filter_shorter : (test : ℕ → Bool) (ls : List ℕ) → length (filter test ls) ≤ length ls
filter_shorter test [] = omega arith
filter_shorter test (l ∷ ls) =
    let rest = filter_shorter test ls in
    elim (test l) as (λ b. length (cond b (l ∷ filter test ls) (filter test ls)) ≤ length (l ∷ ls)) [
      | true ↦ omega (arith, rest)
      | false ↦ omega
          (arith, rest)
    ]

all_as_long : (f : ℕ → ℕ) (ls : List ℕ) → length (all_of f ls) ≡ length ls
all_as_long f [] = refl
all_as_long f (l ∷ ls) = ap suc (all_as_long f ls)

with_new_short : (x : ℕ) (xs : List ℕ) → length (with_new x xs) ≤ length xs + 1
with_new_short x xs = cond_both (has xs x) xs (x ∷ xs) (λ zs. length zs ≤ length xs + 1) (λ _. omega arith) (λ _. omega arith)

distinct_shorter : (xs : List ℕ) → length (distinct xs) ≤ length xs
distinct_shorter [] = omega arith
distinct_shorter (x ∷ xs) = let a = with_new_short x (distinct xs) in let b = distinct_shorter xs in omega (arith, a, b)

pub homes_few : (f : ℕ → ℕ) (test : ℕ → Bool) (es : Entries) → length (distinct (all_of f (filter test (locations es)))) ≤ length es
homes_few f test es =
    let a = distinct_shorter (all_of f (filter test (locations es))) in
    let b = all_as_long f (filter test (locations es)) in
    let c = filter_shorter test (locations es) in
    let d = length-locations es in omega (arith, a, b, c, d)

pub locations_of : (f : ℕ → ℕ) (ls : List ℕ) → locations (with_editions f ls) ≡ ls
unfolding locations
locations_of f [] = refl
locations_of f (l ∷ ls) = ap (λ ks. l ∷ ks) (locations_of f ls)

pub locations-cons : (d : ℕ × ℕ) (es : Entries) → locations (d ∷ es) ≡ d.0 ∷ locations es
unfolding locations
locations-cons d es = refl

-- how many locations a call reads
pub length-shifted : (f : ℕ) (is : List ℕ) → length (shifted f is) ≡ length is
length-shifted f [] = refl
length-shifted f (i ∷ is) = ap suc (length-shifted f is)

all_few : (n : ℕ) → length (all_below n) ≤ n
all_few n = let e = length-range_with_len 0 n in omega (arith, e)

map_few : (V : Type 0) (n : ℕ) (op : Op V) → 0 < n → length (map_reads n op) ≤ n
map_few V n (Get k) h = omega (arith, h)
map_few V n (Put k v) h = omega (arith, h)
map_few V n (Remove k) h = omega (arith, h)
map_few V n Len h = all_few n
map_few V n _ h = omega arith

bag_few : (V : Type 0) (n : ℕ) (op : Op V) → 0 < n → length (multiset_reads n op) ≤ n
bag_few V n (Count x) h = omega (arith, h)
bag_few V n (Add x) h = omega (arith, h)
bag_few V n (Take x) h = omega (arith, h)
bag_few V n _ h = omega arith

pq_few : (V : Type 0) (n : ℕ) (op : Op V) (r : Reply V) → 0 < n → length (priority_queue_reads n op r) ≤ n + 1
pq_few V n Least r h = omega arith
pq_few V n (Insert x) r h = omega (arith, h)
pq_few V n TakeLeast (Found x) h = let e = all_few (suc n) in omega (arith, e)
pq_few V n TakeLeast r h = omega arith
pq_few V n _ r h = omega arith

queue_few : (V : Type 0) (n : ℕ) (op : Op V) (i : Note) → length (queue_reads n op i) ≤ 2
queue_few V n (Enqueue x) (Index t) = omega arith
queue_few V n (Enqueue x) i = omega arith
queue_few V n Dequeue (Index t) = omega arith
queue_few V n Dequeue i = omega arith
queue_few V n Peek (Index t) = omega arith
queue_few V n Peek i = omega arith
queue_few V n Len i = omega arith
queue_few V n _ i = omega arith

kind_few : (V : Type 0) (n : ℕ) (k : Kind) (w : ℕ → Shown V) (r : Outcome V) → 0 < n → length (reads_of n r (whole n k w)) ≤ most_by k n
kind_few V n MapKind w r h = map_few V n r.op h
kind_few V n BagKind w r h = bag_few V n r.op h
kind_few V n PqKind w r h = pq_few V n r.op r.reply h
kind_few V n QueueKind w r h = queue_few V n r.op r.note

small_at : (bs : List Block) (k : ℕ) (b : Block) → AreSmall bs → HaveStripes bs → block_of bs k ≡ Some b
    → (most_by b.kind b.stripes ≤ 4096) × (0 < b.stripes)
small_at [] k b few stripes e = (let no : None ≡ Some b = e in absurd (none-some b no))
small_at (c ∷ bs) zero b few stripes e = let is : c ≡ b = same_Some c b e in
    subst (λ (d : Block). (most_by d.kind d.stripes ≤ 4096) × (0 < d.stripes)) is (few.0, stripes.0)
small_at (c ∷ bs) (suc k) b few stripes e = small_at bs k b few.1 stripes.1 e

pub call_few : (V : Type 0) (n : ℕ) (bs : List Block) (o : CallWithOutcome V) → AreSmall bs → HaveStripes bs
    → length ((content n bs).reads o) ≤ 4096
call_few V n bs o few stripes = by (block_of bs o.asked.collection) refl o.outcome
  where
    by : (b : Option Block) → block_of bs o.asked.collection ≡ b → (r : Option (Outcome V))
        → length (reads_in (block_of bs o.asked.collection) (first_of n bs o.asked.collection) r) ≤ 4096
    by None e r = subst (λ b. length (reads_in b (first_of n bs o.asked.collection) r) ≤ 4096) (sym e) (none_read r)
      where
        none_read : (r : Option (Outcome V)) → length (reads_in None (first_of n bs o.asked.collection) r) ≤ 4096
        none_read None = omega arith
        none_read (Some q) = omega arith
    by (Some b) e None = subst (λ b. length (reads_in {V = V} b (first_of n bs o.asked.collection) None) ≤ 4096) (sym e) (omega arith)
    by (Some b) e (Some r) =
        let f = first_of n bs o.asked.collection in
        let s = small_at bs o.asked.collection b few stripes e in
        let q = kind_few V b.stripes b.kind (λ i. OfMap empty) r s.1 in
        let t = length-shifted f (reads_of b.stripes r (blank b)) in
        let m = s.0 in
        subst (λ c. length (reads_in c f (Some r)) ≤ 4096) (sym e) (omega (arith, q, t, m))
