-- Parts and wholes, for each kind, from what they show at each point. A part shows a collection's answers at the points that are on its
-- location and nothing elsewhere, the whole of parts at each point what the part of its location shows. Collections that show the same at
-- all points are the same, so all that is said of parts and wholes follows point by point.
use Rattle.std.proofs.Common.{◌≡◌, ℕ, zero, suc, ◌<◌, Bool, true, false, cond, eqb, List, Option, Some, None, Contains, inl, inr, refl, sym}
use Rattle.std.proofs.Common.{ap, ◌∙◌, arith, eq-eqb, ne_eqb}
use Rattle.std.proofs.Math.Nat.{mod-lt}
use Rattle.std.proofs.lemmas.Bool.{cases_eq, cond-true, cond-false}
use Rattle.std.specs.Ordering.{nat_cmp}
use Rattle.std.specs.FinMap.{FinMap}
use Rattle.seq_model.specs.declared.call.Op.{Op}
use Rattle.seq_model.specs.declared.call.Op.TheVariants.{Get, Put, Remove, Len, Count, Add, Take, Least, Insert, TakeLeast, Enqueue}
use Rattle.seq_model.specs.declared.call.Op.TheVariants.{Dequeue, Peek}
use Rattle.seq_model.specs.Counts.{Multiset}
use Rattle.seq_model.proofs.LogicLemmas.{some-none}
use Rattle.conflict.specs.declared.change.Change.{Change}
use Rattle.conflict.specs.declared.outcome.Outcome.{Outcome}
use Rattle.conflict.specs.Rules.{Rules, FrameLaws, SamePart, applied}
use Rattle.conflict.specs.Commute.{changes_by_part, disjoint_changes_commute}
use Rattle.conflict.specs.Footprints.{key_location, least_location, stripe_location, head_location, tail_location, cell_location}
use Rattle.base_map.specs.Conflicts as map
use Rattle.base_map.specs.FrameLemmas as map_laws
use Rattle.base_bag.specs.Conflicts as bag
use Rattle.base_bag.specs.FrameLemmas as bag_laws
use Rattle.base_pq.specs.Conflicts as pq
use Rattle.base_pq.specs.FrameLemmas as pq_laws
use Rattle.base_queue.specs.Conflicts as queue
use Rattle.base_queue.specs.FrameLemmas as queue_laws
use Rattle.replay_log.specs.Base.{Shown, OfMap, OfBag, OfPq, OfQueue}
use Rattle.replay_log.specs.Parts.{kept, joined, MapKind, BagKind, PqKind, QueueKind, Kind, as_map, as_bag, as_pq, as_queue, whole, IsWhole}
use Rattle.replay_log.specs.Parts.{AnswersByParts, KnowsItsCalls, LeavesOtherParts}
use Rattle.replay_log.specs.Parts.{ChangesByPart, DisjointChangesCommute, ChangesAreWithinWrites}
use Rattle.replay_log.specs.Contents.{size_by}
use Rattle.replay_log.proofs.JoinLemmas.{get_kept, get_joined}

-- How a collection falls into parts: what a part and a whole show at each point.
pub record Parting {V C Q A : Type 0} (r : Rules V C Q A) : Type 0 where
  pub one : ℕ → ℕ → C → C
  pub all : ℕ → (ℕ → C) → C
  pub none : Q → A
  pub look_one : (n l : ℕ) (s : C) (q : Q) → r.look (one n l s) q ≡ cond (eqb (r.location n q) l) (r.look s q) (none q)
  pub look_all : (n : ℕ) (v : ℕ → C) (q : Q) → 0 < n → r.look (all n v) q ≡ r.look (v (r.location n q)) q

module _ {V C Q A : Type 0} (r : Rules V C Q A) (laws : FrameLaws r) (p : Parting r) where
  look_here : (n l : ℕ) (s : C) (q : Q) → r.location n q ≡ l → r.look (p.one n l s) q ≡ r.look s q
  look_here n l s q on = p.look_one n l s q ∙ cond-true (eqb (r.location n q) l) (r.look s q) (p.none q) (eq-eqb (r.location n q) l on)

  same_one : (n l : ℕ) (s t : C) → ((q : Q) → r.location n q ≡ l → r.look s q ≡ r.look t q) → p.one n l s ≡ p.one n l t
  same_one n l s t same =
      laws.parts_decide _ _ (λ q. p.look_one n l s q ∙ elim (cases_eq (r.location n q) l) [
        | inl on ↦ ap (λ x. cond (eqb (r.location n q) l) x (p.none q)) (same q on)
        | inr off ↦ cond-false (eqb (r.location n q) l) (r.look s q) (p.none q) (ne_eqb (r.location n q) l off)
            ∙ sym (cond-false (eqb (r.location n q) l) (r.look t q) (p.none q) (ne_eqb (r.location n q) l off))
      ] ∙ sym (p.look_one n l t q))

  -- what is one part shows the same on its location
  pub one_same : (n l : ℕ) (s t : C) → p.one n l s ≡ p.one n l t → SamePart r n l s t
  one_same n l s t same q on = sym (look_here n l s q on) ∙ ap (λ (z : C). r.look z q) same ∙ look_here n l t q on

  pub whole_of_parts : (n : ℕ) (s : C) → 0 < n → p.all n (λ l. p.one n l s) ≡ s
  whole_of_parts n s pos = laws.parts_decide _ _ (λ q. p.look_all n (λ l. p.one n l s) q pos ∙ look_here n (r.location n q) s q refl)

  same_at : (n l : ℕ) (v w : ℕ → C) → 0 < n → v l ≡ w l → (q : Q) → r.location n q ≡ l → r.look (p.all n v) q ≡ r.look (p.all n w) q
  same_at n l v w pos same q on =
      p.look_all n v q pos ∙ ap (λ i. r.look (v i) q) on ∙ ap (λ s. r.look s q) same ∙ ap (λ i. r.look (w i) q) (sym on)
      ∙ sym (p.look_all n w q pos)

  pub answers : (n : ℕ) (op : Op V) (v w : ℕ → C) (o : Outcome V) → 0 < n → r.outcome op (p.all n v) ≡ Some o
      → ((l : ℕ) → Contains (r.reads n o) l → v l ≡ w l) → r.outcome op (p.all n w) ≡ Some o
  answers n op v w o pos is same = laws.legal n op (p.all n v) (p.all n w) o pos is (λ l c. same_at n l v w pos (same l c))

  -- a whole depends on the parts of its locations
  pub all_local : (n : ℕ) (v w : ℕ → C) → 0 < n → ((l : ℕ) → l < r.locations n → v l ≡ w l) → p.all n v ≡ p.all n w
  all_local n v w pos same =
      laws.parts_decide _ _ (λ q. p.look_all n v q pos ∙ ap (λ s. r.look s q) (same (r.location n q) (laws.points_below n q pos))
      ∙ sym (p.look_all n w q pos))

  pub leaves : (n l : ℕ) (o : Outcome V) (s : C) → ¬ Contains (r.writes n o) l → p.one n l (applied r (r.changes o) s) ≡ p.one n l s
  leaves n l o s other = sym (same_one n l s (applied r (r.changes o) s) (laws.untouched n l o s other))

  pub by_part : (n l : ℕ) (changes : List (Change V)) (v w : ℕ → C) → 0 < n → v l ≡ w l → p.one n l (applied r changes (p.all n v))
      ≡ p.one n l (applied r changes (p.all n w))
  by_part n l changes v w pos same =
      same_one n l (applied r changes (p.all n v)) (applied r changes (p.all n w))
      (changes_by_part r laws n l changes (p.all n v) (p.all n w) (same_at n l v w pos same))

some_if : (b : Bool) (x y : ℕ) → Some (cond b x y) ≡ cond b (Some x) (Some y)
some_if true x y = refl
some_if false x y = refl

abbrev map_parting : (V : Type 0) → Parting (map.rules V)
map_parting V = record {
  one = λ n l s. kept (key_location n) l s;
  all = λ n v. joined (key_location n) n v;
  none = λ q. None;
  look_one = λ n l s q. get_kept (key_location n) l s q;
  look_all = λ n v q pos. get_joined (key_location n) n v q (mod-lt q pos);
}

abbrev bag_parting : (V : Type 0) → Parting (bag.rules V)
bag_parting V = record {
  one = λ n l s. kept (key_location n) l s;
  all = λ n v. joined (key_location n) n v;
  none = λ q. None;
  look_one = λ n l s q. get_kept (key_location n) l s q;
  look_all = λ n v q pos. get_joined (key_location n) n v q (mod-lt q pos);
}

abbrev pq_one : ℕ → ℕ → pq.Shown → pq.Shown
pq_one n l s = record { elements = kept (stripe_location n) l s.elements; least = cond (eqb least_location l) s.least None }

abbrev pq_all : ℕ → (ℕ → pq.Shown) → pq.Shown
pq_all n v = record { elements = joined (stripe_location n) (suc n) (λ l. (v l).elements); least = (v least_location).least }

pq_look_one : (n l : ℕ) (s : pq.Shown) (q : Option ℕ) → pq.look (pq_one n l s) q ≡ cond (eqb (pq.point_location n q) l) (pq.look s q) None
pq_look_one n l s None = refl
pq_look_one n l s (Some x) = get_kept (stripe_location n) l s.elements x

pq_look_all : (n : ℕ) (v : ℕ → pq.Shown) (q : Option ℕ) → 0 < n → pq.look (pq_all n v) q ≡ pq.look (v (pq.point_location n q)) q
pq_look_all n v None pos = refl
pq_look_all n v (Some x) pos = get_joined (stripe_location n) (suc n) (λ l. (v l).elements) x (let lt = mod-lt x pos in omega (arith, lt))

abbrev pq_parting : (V : Type 0) → Parting (pq.rules V)
pq_parting V = record { one = pq_one; all = pq_all; none = λ q. None; look_one = pq_look_one; look_all = pq_look_all }

abbrev queue_one : ℕ → ℕ → queue.Shown → queue.Shown
queue_one n l s = record {
  cells = kept (cell_location n) l s.cells;
  head = cond (eqb head_location l) s.head 0;
  tail = cond (eqb tail_location l) s.tail 0;
}

abbrev queue_all : ℕ → (ℕ → queue.Shown) → queue.Shown
queue_all n v = record {
  cells = joined (cell_location n) (suc (suc n)) (λ l. (v l).cells);
  head = (v head_location).head;
  tail = (v tail_location).tail;
}

abbrev queue_none : ℕ → Option ℕ
queue_none zero = Some 0
queue_none (suc zero) = Some 0
queue_none (suc (suc index)) = None

queue_look_one : (n l : ℕ) (s : queue.Shown) (q : ℕ)
    → queue.look (queue_one n l s) q ≡ cond (eqb (queue.point_location n q) l) (queue.look s q)
    (queue_none q)
queue_look_one n l s zero = some_if (eqb head_location l) s.head 0
queue_look_one n l s (suc zero) = some_if (eqb tail_location l) s.tail 0
queue_look_one n l s (suc (suc index)) = get_kept (cell_location n) l s.cells index

queue_look_all : (n : ℕ) (v : ℕ → queue.Shown) (q : ℕ) → 0 < n → queue.look (queue_all n v) q ≡ queue.look (v (queue.point_location n q)) q
queue_look_all n v zero pos = refl
queue_look_all n v (suc zero) pos = refl
queue_look_all n v (suc (suc index)) pos = get_joined (cell_location n) (suc (suc n)) (λ l. (v l).cells) index
    (let lt = mod-lt index pos in omega (arith, lt))

abbrev queue_parting : (V : Type 0) → Parting (queue.rules V)
queue_parting V = record { one = queue_one; all = queue_all; none = queue_none; look_one = queue_look_one; look_all = queue_look_all }

no_bag_map : BagKind ≡ MapKind → ⊥
no_bag_map e = cc

no_pq_map : PqKind ≡ MapKind → ⊥
no_pq_map e = cc

no_queue_map : QueueKind ≡ MapKind → ⊥
no_queue_map e = cc

no_pq_bag : PqKind ≡ BagKind → ⊥
no_pq_bag e = cc

no_queue_bag : QueueKind ≡ BagKind → ⊥
no_queue_bag e = cc

no_queue_pq : QueueKind ≡ PqKind → ⊥
no_queue_pq e = cc

module _ {V : Type 0} where
  knows_map : (op : Op V) (s t : FinMap nat_cmp V) → map.outcome_of op s ≡ None → map.outcome_of op t ≡ None
  knows_map (Get k) s t e = absurd (some-none _ e)
  knows_map (Put k v) s t e = absurd (some-none _ e)
  knows_map (Remove k) s t e = absurd (some-none _ e)
  knows_map Len s t e = absurd (some-none _ e)
  knows_map _ s t e = refl

  knows_bag : (op : Op V) (s t : Multiset) → bag.outcome_of op s ≡ None → bag.outcome_of op t ≡ None
  knows_bag (Count x) s t e = absurd (some-none _ e)
  knows_bag (Add x) s t e = absurd (some-none _ e)
  knows_bag (Take x) s t e = absurd (some-none _ e)
  knows_bag _ s t e = refl

  knows_pq : (op : Op V) (s t : pq.Shown) → pq.outcome_of op s ≡ None → pq.outcome_of op t ≡ None
  knows_pq Least s t e = absurd (some-none _ e)
  knows_pq (Insert x) s t e = absurd (some-none _ e)
  knows_pq TakeLeast s t e = absurd (some-none _ e)
  knows_pq _ s t e = refl

  knows_queue : (op : Op V) (s t : queue.Shown) → queue.outcome_of op s ≡ None → queue.outcome_of op t ≡ None
  knows_queue (Enqueue x) s t e = absurd (some-none _ e)
  knows_queue Dequeue s t e = absurd (some-none _ e)
  knows_queue Peek s t e = absurd (some-none _ e)
  knows_queue Len s t e = absurd (some-none _ e)
  knows_queue _ s t e = refl

  pub knows_its_calls : KnowsItsCalls V
  knows_its_calls n MapKind op v w e = knows_map op _ _ e
  knows_its_calls n BagKind op v w e = knows_bag op _ _ e
  knows_its_calls n PqKind op v w e = knows_pq op _ _ e
  knows_its_calls n QueueKind op v w e = knows_queue op _ _ e

  pub is_whole : IsWhole V
  is_whole n (OfMap s) pos = ap OfMap (whole_of_parts (map.rules V) map_laws.laws (map_parting V) n s pos)
  is_whole n (OfBag s) pos = ap OfBag (whole_of_parts (bag.rules V) bag_laws.laws (bag_parting V) n s pos)
  is_whole n (OfPq s) pos = ap OfPq (whole_of_parts (pq.rules V) pq_laws.laws (pq_parting V) n s pos)
  is_whole n (OfQueue s) pos = ap OfQueue (whole_of_parts (queue.rules V) queue_laws.laws (queue_parting V) n s pos)

  pub answers_by_parts : AnswersByParts V
  answers_by_parts n MapKind op v w o pos is same = answers (map.rules V) map_laws.laws (map_parting V) n op (λ l. as_map (v l))
      (λ l. as_map (w l)) o pos is (λ l c. ap as_map (same l c))
  answers_by_parts n BagKind op v w o pos is same = answers (bag.rules V) bag_laws.laws (bag_parting V) n op (λ l. as_bag (v l))
      (λ l. as_bag (w l)) o pos is (λ l c. ap as_bag (same l c))
  answers_by_parts n PqKind op v w o pos is same = answers (pq.rules V) pq_laws.laws (pq_parting V) n op (λ l. as_pq (v l))
      (λ l. as_pq (w l)) o pos is (λ l c. ap as_pq (same l c))
  answers_by_parts n QueueKind op v w o pos is same = answers (queue.rules V) queue_laws.laws (queue_parting V) n op (λ l. as_queue (v l))
      (λ l. as_queue (w l)) o pos is (λ l c. ap as_queue (same l c))

  pub leaves_other_parts : LeavesOtherParts V
  leaves_other_parts n l o (OfMap s) other = ap OfMap (leaves (map.rules V) map_laws.laws (map_parting V) n l o s other)
  leaves_other_parts n l o (OfBag s) other = ap OfBag (leaves (bag.rules V) bag_laws.laws (bag_parting V) n l o s other)
  leaves_other_parts n l o (OfPq s) other = ap OfPq (leaves (pq.rules V) pq_laws.laws (pq_parting V) n l o s other)
  leaves_other_parts n l o (OfQueue s) other = ap OfQueue (leaves (queue.rules V) queue_laws.laws (queue_parting V) n l o s other)

  pub parts_by_part : ChangesByPart V
  parts_by_part n l MapKind cs v w pos same = ap OfMap
      (by_part (map.rules V) map_laws.laws (map_parting V) n l cs (λ i. as_map (v i)) (λ i. as_map (w i)) pos (ap as_map same))
  parts_by_part n l BagKind cs v w pos same = ap OfBag
      (by_part (bag.rules V) bag_laws.laws (bag_parting V) n l cs (λ i. as_bag (v i)) (λ i. as_bag (w i)) pos (ap as_bag same))
  parts_by_part n l PqKind cs v w pos same = ap OfPq
      (by_part (pq.rules V) pq_laws.laws (pq_parting V) n l cs (λ i. as_pq (v i)) (λ i. as_pq (w i)) pos (ap as_pq same))
  parts_by_part n l QueueKind cs v w pos same = ap OfQueue
      (by_part (queue.rules V) queue_laws.laws (queue_parting V) n l cs (λ i. as_queue (v i)) (λ i. as_queue (w i)) pos (ap as_queue same))

  pub whole_local : (n : ℕ) (k : Kind) (v w : ℕ → Shown V) → 0 < n → ((l : ℕ) → l < size_by k n → v l ≡ w l) → whole n k v ≡ whole n k w
  whole_local n MapKind v w pos same = ap OfMap
      (all_local (map.rules V) map_laws.laws (map_parting V) n (λ l. as_map (v l)) (λ l. as_map (w l)) pos (λ l lt. ap as_map (same l lt)))
  whole_local n BagKind v w pos same = ap OfBag
      (all_local (bag.rules V) bag_laws.laws (bag_parting V) n (λ l. as_bag (v l)) (λ l. as_bag (w l)) pos (λ l lt. ap as_bag (same l lt)))
  whole_local n PqKind v w pos same = ap OfPq
      (all_local (pq.rules V) pq_laws.laws (pq_parting V) n (λ l. as_pq (v l)) (λ l. as_pq (w l)) pos
      (λ l lt. ap as_pq (same l (omega (arith, lt)))))
  whole_local n QueueKind v w pos same = ap OfQueue
      (all_local (queue.rules V) queue_laws.laws (queue_parting V) n (λ l. as_queue (v l)) (λ l. as_queue (w l)) pos
      (λ l lt. ap as_queue (same l (omega (arith, lt)))))

  pub disjoint_commute : DisjointChangesCommute V
  disjoint_commute n ws vs cs ds (OfMap s) in_ws in_vs apart =
      ap OfMap
      (disjoint_changes_commute (map.rules V) map_laws.laws n ws vs cs ds s
      (λ l t out. one_same (map.rules V) map_laws.laws (map_parting V) n l t _ (sym (ap as_map (in_ws l (OfMap t) refl out))))
      (λ l t out. one_same (map.rules V) map_laws.laws (map_parting V) n l t _ (sym (ap as_map (in_vs l (OfMap t) refl out)))) apart)
  disjoint_commute n ws vs cs ds (OfBag s) in_ws in_vs apart =
      ap OfBag
      (disjoint_changes_commute (bag.rules V) bag_laws.laws n ws vs cs ds s
      (λ l t out. one_same (bag.rules V) bag_laws.laws (bag_parting V) n l t _ (sym (ap as_bag (in_ws l (OfBag t) refl out))))
      (λ l t out. one_same (bag.rules V) bag_laws.laws (bag_parting V) n l t _ (sym (ap as_bag (in_vs l (OfBag t) refl out)))) apart)
  disjoint_commute n ws vs cs ds (OfPq s) in_ws in_vs apart =
      ap OfPq
      (disjoint_changes_commute (pq.rules V) pq_laws.laws n ws vs cs ds s
      (λ l t out. one_same (pq.rules V) pq_laws.laws (pq_parting V) n l t _ (sym (ap as_pq (in_ws l (OfPq t) refl out))))
      (λ l t out. one_same (pq.rules V) pq_laws.laws (pq_parting V) n l t _ (sym (ap as_pq (in_vs l (OfPq t) refl out)))) apart)
  disjoint_commute n ws vs cs ds (OfQueue s) in_ws in_vs apart =
      ap OfQueue
      (disjoint_changes_commute (queue.rules V) queue_laws.laws n ws vs cs ds s
      (λ l t out. one_same (queue.rules V) queue_laws.laws (queue_parting V) n l t _ (sym (ap as_queue (in_ws l (OfQueue t) refl out))))
      (λ l t out. one_same (queue.rules V) queue_laws.laws (queue_parting V) n l t _ (sym (ap as_queue (in_vs l (OfQueue t) refl out))))
      apart)

  pub changes_within : ChangesAreWithinWrites V
  changes_within n o (OfMap s) l (OfMap t) e out = leaves_other_parts n l o (OfMap t) out
  changes_within n o (OfBag s) l (OfBag t) e out = leaves_other_parts n l o (OfBag t) out
  changes_within n o (OfPq s) l (OfPq t) e out = leaves_other_parts n l o (OfPq t) out
  changes_within n o (OfQueue s) l (OfQueue t) e out = leaves_other_parts n l o (OfQueue t) out
  changes_within n o (OfMap s) l (OfBag t) e out = absurd (no_bag_map e)
  changes_within n o (OfMap s) l (OfPq t) e out = absurd (no_pq_map e)
  changes_within n o (OfMap s) l (OfQueue t) e out = absurd (no_queue_map e)
  changes_within n o (OfBag s) l (OfMap t) e out = absurd (no_bag_map (sym e))
  changes_within n o (OfBag s) l (OfPq t) e out = absurd (no_pq_bag e)
  changes_within n o (OfBag s) l (OfQueue t) e out = absurd (no_queue_bag e)
  changes_within n o (OfPq s) l (OfMap t) e out = absurd (no_pq_map (sym e))
  changes_within n o (OfPq s) l (OfBag t) e out = absurd (no_pq_bag (sym e))
  changes_within n o (OfPq s) l (OfQueue t) e out = absurd (no_queue_pq e)
  changes_within n o (OfQueue s) l (OfMap t) e out = absurd (no_queue_map (sym e))
  changes_within n o (OfQueue s) l (OfBag t) e out = absurd (no_queue_bag (sym e))
  changes_within n o (OfQueue s) l (OfPq t) e out = absurd (no_queue_pq (sym e))
