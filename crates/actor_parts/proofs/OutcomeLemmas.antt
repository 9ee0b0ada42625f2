-- Of an outcome, row by row: it is of the call that was answered, a call that changes nothing writes nothing, and no collection answers a
-- call on a word.
use Rattle.std.proofs.Common.{◌≡◌, ℕ, Bool, true, false, true≢false, cond, [], Option, Some, None, refl, sym, ap}
use Rattle.std.specs.Ordering.{nat_cmp}
use Rattle.std.specs.FinMap.{FinMap}
use Rattle.std.proofs.lemmas.Option.{none-some}
use Rattle.seq_model.specs.declared.call.Op.{Op}
use Rattle.seq_model.specs.declared.call.Op.TheVariants.{Get, Put, Remove, Len, Count, Add, Take, Least, Insert, TakeLeast, Enqueue}
use Rattle.seq_model.specs.declared.call.Op.TheVariants.{Dequeue, Peek}
use Rattle.seq_model.specs.declared.call.Reply.{Reply}
use Rattle.seq_model.specs.Counts.{Multiset}
use Rattle.conflict.specs.declared.outcome.Note.{Note}
use Rattle.conflict.specs.declared.outcome.Outcome.{Outcome}
use Rattle.conflict.specs.Footprints.{map_writes, multiset_writes, priority_queue_writes, queue_writes}
use Rattle.base_map.specs.Conflicts as map
use Rattle.base_bag.specs.Conflicts as bag
use Rattle.base_pq.specs.Conflicts as pq
use Rattle.base_queue.specs.Conflicts as queue
use Rattle.replay_log.specs.Base.{Shown, OfMap, OfBag, OfPq, OfQueue, outcome_of, shown_of, writes_of}
use Rattle.replay_log.specs.Worlds.{is_change}
use Rattle.shadow.specs.Memo.{MemoView, answer_with}
use Rattle.actor_parts.specs.declared.copies.PrivateCopy.{PrivateCopy}
use Rattle.actor_parts.specs.declared.copies.PrivateCopy.TheVariants.{Keys, Whole}
use Rattle.actor_parts.specs.PrivateCopy.{answer_of}

module _ {V : Type 0} where
  same_op : (op : Op V) (p r : Outcome V) → Some p ≡ Some r → p.op ≡ op → r.op ≡ op
  same_op op p r e is = let same : p ≡ r = cc in let back : r.op ≡ p.op = ap (λ (o : Outcome V). o.op) (sym same) in cc

  either_op : (op : Op V) (b : Bool) (p q : Outcome V) → p.op ≡ op → q.op ≡ op → (cond b p q).op ≡ op
  either_op op true p q e f = e
  either_op op false p q e f = f

  least_op : (o : Option ℕ) (m : Multiset) → (pq.take_outcome {V = V} o m).op ≡ TakeLeast
  least_op None m = refl
  least_op (Some x) m = refl

  map_op : (op : Op V) (m : FinMap nat_cmp V) (r : Outcome V) → map.outcome_of op m ≡ Some r → r.op ≡ op
  map_op (Get k) m r e = same_op (Get k) _ r e refl
  map_op (Put k v) m r e = same_op (Put k v) _ r e refl
  map_op (Remove k) m r e = same_op (Remove k) _ r e refl
  map_op Len m r e = same_op Len _ r e refl
  map_op _ m r e = absurd (none-some r e)

  bag_op : (op : Op V) (m : Multiset) (r : Outcome V) → bag.outcome_of op m ≡ Some r → r.op ≡ op
  bag_op (Count x) m r e = same_op (Count x) _ r e refl
  bag_op (Add x) m r e = same_op (Add x) _ r e refl
  bag_op (Take x) m r e = same_op (Take x) _ r e refl
  bag_op _ m r e = absurd (none-some r e)

  pq_op : (op : Op V) (s : pq.Shown) (r : Outcome V) → pq.outcome_of op s ≡ Some r → r.op ≡ op
  pq_op Least s r e = same_op Least _ r e refl
  pq_op (Insert x) s r e = same_op (Insert x) _ r e (either_op (Insert x) _ _ _ refl refl)
  pq_op TakeLeast s r e = same_op TakeLeast _ r e (least_op s.least s.elements)
  pq_op _ s r e = absurd (none-some r e)

  queue_op : (op : Op V) (s : queue.Shown) (r : Outcome V) → queue.outcome_of op s ≡ Some r → r.op ≡ op
  queue_op (Enqueue x) s r e = same_op (Enqueue x) _ r e (either_op (Enqueue x) _ _ _ refl refl)
  queue_op Dequeue s r e = same_op Dequeue _ r e refl
  queue_op Peek s r e = same_op Peek _ r e refl
  queue_op Len s r e = same_op Len _ r e refl
  queue_op _ s r e = absurd (none-some r e)

  pub outcome_op : (s : Shown V) (op : Op V) (r : Outcome V) → outcome_of op s ≡ Some r → r.op ≡ op
  outcome_op (OfMap m) op r e = map_op op m r e
  outcome_op (OfBag m) op r e = bag_op op m r e
  outcome_op (OfPq s) op r e = pq_op op s r e
  outcome_op (OfQueue s) op r e = queue_op op s r e

  memo_op : (s : Shown V) (m : MemoView V) (op : Op V) (r : Outcome V)
      → answer_with s m.entries m.copies m.total m.grown m.shrunk op ≡ Some r → r.op ≡ op
  memo_op (OfMap b) m (Get k) r e = same_op (Get k) _ r e refl
  memo_op (OfMap b) m (Put k v) r e = same_op (Put k v) _ r e refl
  memo_op (OfMap b) m (Remove k) r e = same_op (Remove k) _ r e refl
  memo_op (OfMap b) m Len r e = same_op Len _ r e refl
  memo_op (OfMap b) m _ r e = absurd (none-some r e)
  memo_op (OfBag b) m op r e = bag_op op m.copies r e
  memo_op (OfPq b) m op r e = absurd (none-some r e)
  memo_op (OfQueue b) m op r e = absurd (none-some r e)

  pub answered_op : (c : PrivateCopy V) (op : Op V) (r : Outcome V) → answer_of c op ≡ Some r → r.op ≡ op
  answered_op (Keys m es) op r e = memo_op (shown_of m.blank) m op r e
  answered_op (Whole t) op r e = outcome_op (shown_of t.base) op r e

  -- ---- what changes nothing writes nothing
  map_still : (n : ℕ) (op : Op V) (r : Reply V) → is_change op ≡ false → map_writes n op r ≡ []
  map_still n (Put k v) r h = absurd (true≢false h)
  map_still n (Remove k) r h = absurd (true≢false h)
  map_still n _ r h = refl

  bag_still : (n : ℕ) (op : Op V) (r : Reply V) → is_change op ≡ false → multiset_writes n op r ≡ []
  bag_still n (Add x) r h = absurd (true≢false h)
  bag_still n (Take x) r h = absurd (true≢false h)
  bag_still n _ r h = refl

  pq_still : (n : ℕ) (op : Op V) (r : Reply V) (i : Note) → is_change op ≡ false → priority_queue_writes n op r i ≡ []
  pq_still n (Insert x) r i h = absurd (true≢false h)
  pq_still n TakeLeast r i h = absurd (true≢false h)
  pq_still n _ r i h = refl

  queue_still : (n : ℕ) (op : Op V) (r : Reply V) (i : Note) → is_change op ≡ false → queue_writes n op r i ≡ []
  queue_still n (Enqueue x) r i h = absurd (true≢false h)
  queue_still n Dequeue r i h = absurd (true≢false h)
  queue_still n _ r i h = refl

  pub writes_nothing : (n : ℕ) (o : Outcome V) (s : Shown V) → is_change o.op ≡ false → writes_of n o s ≡ []
  writes_nothing n o (OfMap m) h = map_still n o.op o.reply h
  writes_nothing n o (OfBag m) h = bag_still n o.op o.reply h
  writes_nothing n o (OfPq s) h = pq_still n o.op o.reply o.note h
  writes_nothing n o (OfQueue s) h = queue_still n o.op o.reply o.note h
