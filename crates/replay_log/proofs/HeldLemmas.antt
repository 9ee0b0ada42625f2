-- A sequential call on a collection, seen through its view. For each kind the frame law `follows` ties the outcome at a view
-- to the sequential call; here the four kinds are one, and a call keeps its collection's kind and limits.
use Rattle.std.proofs.Common.{◌≡◌, ℕ, ◌+◌, ◌-◌, ◌≤◌, ltb, eqb, List, [], ◌∷◌, ◌++◌, length, Option, Some, None, refl, ap, arith, ltb-true}
use Rattle.std.proofs.lemmas.Bool.{cond_both}
use Rattle.std.specs.Ordering.{nat_cmp}
use Rattle.std.specs.FinMap.{FinMap}
use Rattle.seq_model.specs.declared.call.Op.{Op}
use Rattle.seq_model.specs.declared.call.Op.TheVariants.{Get, Put, Remove, Len, Count, Add, Take, Least, Insert, TakeLeast, Enqueue}
use Rattle.seq_model.specs.declared.call.Op.TheVariants.{Dequeue, Peek}
use Rattle.seq_model.specs.declared.call.Reply.{Reply}
use Rattle.seq_model.specs.declared.call.Reply.TheVariants.{Done, Full, Yes, No}
use Rattle.seq_model.specs.declared.held.Held.{Held}
use Rattle.seq_model.specs.declared.held.Held.TheVariants.{Map, Bag, Pq, Queue}
use Rattle.seq_model.specs.declared.limits.TheConstants.{COPY_LIMIT, INDEX_LIMIT}
use Rattle.seq_model.specs.Calls.{held_call, IsWithinLimits, add_call, take_call, take_least_call, enqueue_call, dequeue_call}
use Rattle.seq_model.specs.Counts.{Multiset, copies, with_copies, least, HasFewCopies}
use Rattle.seq_model.proofs.CountsLemmas.{few_copies_with}
use Rattle.conflict.specs.declared.outcome.Outcome.{Outcome}
use Rattle.base_map.specs.Conflicts as map
use Rattle.base_map.specs.FrameLemmas as map_laws
use Rattle.base_bag.specs.Conflicts as bag
use Rattle.base_bag.specs.FrameLemmas as bag_laws
use Rattle.base_pq.specs.Conflicts as pq
use Rattle.base_pq.specs.FrameLemmas as pq_laws
use Rattle.base_queue.specs.Conflicts as queue
use Rattle.base_queue.specs.FrameLemmas as queue_laws
use Rattle.replay_log.specs.Base.{OfMap, OfBag, OfPq, OfQueue, after, changes_of, outcome_of}
use Rattle.replay_log.specs.Collections.{kind_of_held, viewed}

module _ {V : Type 0} where
  of_map : (h : Held V) (x : FinMap nat_cmp V) → map.view_of h ≡ Some x → viewed h ≡ OfMap x
  of_map (Map m) x e = (let q : m ≡ x = cc in ap OfMap q)
  of_map (Bag m) x e = absurd (let b : ⊥ = cc in b)
  of_map (Pq m) x e = absurd (let b : ⊥ = cc in b)
  of_map (Queue head items) x e = absurd (let b : ⊥ = cc in b)

  of_bag : (h : Held V) (x : Multiset) → bag.view_of h ≡ Some x → viewed h ≡ OfBag x
  of_bag (Map m) x e = absurd (let b : ⊥ = cc in b)
  of_bag (Bag m) x e = (let q : m ≡ x = cc in ap OfBag q)
  of_bag (Pq m) x e = absurd (let b : ⊥ = cc in b)
  of_bag (Queue head items) x e = absurd (let b : ⊥ = cc in b)

  of_pq : (h : Held V) (x : pq.Shown) → pq.view_of h ≡ Some x → viewed h ≡ OfPq x
  of_pq (Map m) x e = absurd (let b : ⊥ = cc in b)
  of_pq (Bag m) x e = absurd (let b : ⊥ = cc in b)
  of_pq (Pq m) x e = (let s : pq.Shown = record { elements = m; least = least m } in let q : s ≡ x = cc in ap OfPq q)
  of_pq (Queue head items) x e = absurd (let b : ⊥ = cc in b)

  of_queue : (h : Held V) (x : queue.Shown) → queue.view_of h ≡ Some x → viewed h ≡ OfQueue x
  of_queue (Map m) x e = absurd (let b : ⊥ = cc in b)
  of_queue (Bag m) x e = absurd (let b : ⊥ = cc in b)
  of_queue (Pq m) x e = absurd (let b : ⊥ = cc in b)
  of_queue (Queue head items) x e = (let s = queue.queue_view head items in let q : s ≡ x = cc in ap OfQueue q)

  -- an outcome at the view of a collection is the sequential call's
  pub follows : (op : Op V) (h : Held V) (o : Outcome V) → IsWithinLimits h → outcome_of op (viewed h) ≡ Some o → (g : Held V)
      × (held_call op h ≡ Some (o.reply, g)) × (viewed g ≡ after (changes_of o (viewed h)) (viewed h))
  follows op (Map m) o fit e = (let z = map_laws.laws.follows op (Map m) m o fit refl e in (z.0, z.1.0, of_map z.0 _ z.1.1))
  follows op (Bag m) o fit e = (let z = bag_laws.laws.follows op (Bag m) m o fit refl e in (z.0, z.1.0, of_bag z.0 _ z.1.1))
  follows op (Pq m) o fit e = (let z = pq_laws.laws.follows op (Pq m) (record { elements = m; least = least m }) o fit refl e in
      (z.0, z.1.0, of_pq z.0 _ z.1.1))
  follows op (Queue head items) o fit e = (let z = queue_laws.laws.follows op (Queue head items)
      (queue.queue_view head items) o fit refl e in (z.0, z.1.0, of_queue z.0 _ z.1.1))

  pub unknown : (op : Op V) (h : Held V) → outcome_of op (viewed h) ≡ None → held_call op h ≡ None
  unknown op (Map m) e = map_laws.laws.answers op (Map m) m refl e
  unknown op (Bag m) e = bag_laws.laws.answers op (Bag m) m refl e
  unknown op (Pq m) e = pq_laws.laws.answers op (Pq m) (record { elements = m; least = least m }) refl e
  unknown op (Queue head items) e = queue_laws.laws.answers op (Queue head items) (queue.queue_view head items) refl e

-- a call keeps the kind and the limits
abbrev pub Keeps : {V : Type 0} → Held V → Option (Reply V × Held V) → Type 0
Keeps h None = Unit {0}
Keeps h (Some r) = (kind_of_held r.1 ≡ kind_of_held h) × IsWithinLimits r.1

few_added : (V : Type 0) (x : ℕ) (m : Multiset) → HasFewCopies m → HasFewCopies (add_call {V = V} x m).1
few_added V x m few =
    cond_both {A = Reply V × Multiset} (ltb (copies m x) COPY_LIMIT) (Done, with_copies m x (copies m x + 1)) (Full, m)
    (λ r. HasFewCopies r.1)
    (λ t. few_copies_with m x (copies m x + 1) few (let lt = ltb-true (copies m x) COPY_LIMIT t in omega (arith, lt)))
    (λ _. few)

few_taken : (V : Type 0) (x : ℕ) (m : Multiset) → HasFewCopies m → HasFewCopies (take_call {V = V} x m).1
few_taken V x m few =
    cond_both {A = Reply V × Multiset} (eqb (copies m x) 0) (No, m) (Yes, with_copies m x (copies m x - 1)) (λ r. HasFewCopies r.1)
    (λ _. few)
    (λ _. few_copies_with m x (copies m x - 1) few (let le = few x in omega (arith, le)))

few_left : (V : Type 0) (first : Option ℕ) (m : Multiset) → HasFewCopies m → HasFewCopies (take_least_call {V = V} first m).1
few_left V None m few = few
few_left V (Some x) m few = few_copies_with m x (copies m x - 1) few (let le = few x in omega (arith, le))

enqueued : (V : Type 0) (x head : ℕ) (items : List ℕ) → head + length items ≤ INDEX_LIMIT → (enqueue_call {V = V} x head items).1 + length
    (enqueue_call {V = V} x head items).2 ≤ INDEX_LIMIT
enqueued V x head items le =
    cond_both {A = Reply V × ℕ × List ℕ} (ltb (head + length items) INDEX_LIMIT) (Done, head, items ++ x ∷ []) (Full, head, items)
    (λ r. r.1 + length r.2 ≤ INDEX_LIMIT)
    (λ t. (let lt = ltb-true (head + length items) INDEX_LIMIT t in let len = pushed items in omega (arith, lt, len)))
    (λ _. le)
  where
    pushed : (xs : List ℕ) → length (xs ++ x ∷ []) ≡ length xs + 1
    pushed [] = refl
    pushed (y ∷ xs) = (let z = pushed xs in omega (arith, z))

dequeued : (V : Type 0) (head : ℕ) (items : List ℕ) → head + length items ≤ INDEX_LIMIT → (dequeue_call {V = V} head items).1 + length
    (dequeue_call {V = V} head items).2 ≤ INDEX_LIMIT
dequeued V head [] le = le
dequeued V head (x ∷ items) le = omega (arith, le)

module _ {V : Type 0} where
  map_keeps : (op : Op V) (m : FinMap nat_cmp V) → Keeps (Map m) (held_call op (Map m))
  map_keeps (Get k) m = (refl, tt)
  map_keeps (Put k v) m = (refl, tt)
  map_keeps (Remove k) m = (refl, tt)
  map_keeps Len m = (refl, tt)
  map_keeps _ m = tt

  bag_keeps : (op : Op V) (m : Multiset) → HasFewCopies m → Keeps {V = V} (Bag m) (held_call op (Bag m))
  bag_keeps (Count x) m few = (refl, few)
  bag_keeps (Add x) m few = (refl, few_added V x m few)
  bag_keeps (Take x) m few = (refl, few_taken V x m few)
  bag_keeps _ m few = tt

  pq_keeps : (op : Op V) (m : Multiset) → HasFewCopies m → Keeps {V = V} (Pq m) (held_call op (Pq m))
  pq_keeps Least m few = (refl, few)
  pq_keeps (Insert x) m few = (refl, few_added V x m few)
  pq_keeps TakeLeast m few = (refl, few_left V (least m) m few)
  pq_keeps _ m few = tt

  queue_keeps : (op : Op V) (head : ℕ) (items : List ℕ) → head + length items ≤ INDEX_LIMIT → Keeps {V = V} (Queue head items)
      (held_call op (Queue head items))
  queue_keeps (Enqueue x) head items le = (refl, enqueued V x head items le)
  queue_keeps Dequeue head items le = (refl, dequeued V head items le)
  queue_keeps Peek head items le = (refl, le)
  queue_keeps Len head items le = (refl, le)
  queue_keeps _ head items le = tt

  pub keeps : (op : Op V) (h : Held V) → IsWithinLimits h → Keeps h (held_call op h)
  keeps op (Map m) fit = map_keeps op m
  keeps op (Bag m) fit = bag_keeps op m fit
  keeps op (Pq m) fit = pq_keeps op m fit
  keeps op (Queue head items) fit = queue_keeps op head items fit
