-- What a memo keeps of the keys that it holds is what the collection of which they were touched shows there after the accepted
-- changes. A change is of one key, so it leaves what is known of the others; and a key that isn't held was changed by none of them,
-- so that what is touched of it later is what the collection still shows there.
use Rattle.std.proofs.Common.{◌≡◌, ℕ, suc, ◌+◌, ◌-◌, ◌++◌, ◌==◌, true, false, cond, List, [], Option, Some, None, is_some, nat_lt}
use Rattle.std.proofs.Common.{unwrap_or, refl, sym, ap, subst, ◌∙◌, arith, true≢false}
use Rattle.std.specs.Cmp.{nat_cmp_total}
use Rattle.std.specs.Ordering.{nat_cmp, eq_by_cmp}
use Rattle.std.specs.FinMap.{FinMap, empty, get, get-empty, insert, get-insert, get-remove}
use Rattle.std.proofs.lemmas.Bool.Decides.{nat_tests}
use Rattle.std.proofs.lemmas.List.Sums.{fold-append}
use Rattle.std.proofs.lemmas.Option.{same_Some, none-some}
use Rattle.seq_model.specs.declared.call.Op.{Op}
use Rattle.seq_model.specs.declared.call.Op.TheVariants.{Get, Put, Remove, Len, Count, Add, Take}
use Rattle.seq_model.specs.declared.call.Reply.{Reply}
use Rattle.seq_model.specs.declared.call.Reply.TheVariants.{Done, Full, Value, Number, Yes, No}
use Rattle.seq_model.specs.declared.limits.TheConstants.{COPY_LIMIT}
use Rattle.seq_model.specs.Counts.{Multiset, copies}
use Rattle.seq_model.proofs.LogicLemmas.{some-none}
use Rattle.conflict.specs.declared.change.Change.{Change}
use Rattle.conflict.specs.declared.change.Change.TheVariants as change
use Rattle.conflict.specs.declared.outcome.Outcome.{Outcome}
use Rattle.conflict.specs.declared.outcome.Note.TheVariants.{Plain}
use Rattle.conflict.specs.Multisets as multisets
use Rattle.conflict.specs.Places.{same_key}
use Rattle.conflict.specs.Rules.{applied}
use Rattle.base_map.specs.Conflicts as map
use Rattle.base_bag.specs.Conflicts as bag
use Rattle.base_pq.specs.Conflicts as pq
use Rattle.base_queue.specs.Conflicts as queue
use Rattle.replay_log.specs.Base.{Shown, OfMap, OfBag, OfPq, OfQueue, after, changes_of, outcome_of}
use Rattle.replay_log.specs.declared.touch.TouchedKey.{TouchedKey}
use Rattle.replay_log.specs.declared.touch.TouchedKey.TheVariants.{Entry, Copies, Counts, Total}
use Rattle.replay_log.specs.Touches.{summed_by, touched_by}
use Rattle.shadow.specs.Memo.{IsKnown, IsOfBy, IsShown, has_key, with_key, with_entry, with_count, holds_by, entry_outcome, known_entry}
use Rattle.shadow.specs.Memo.{map_answer, counted_up, copies_after, entries_after, answer_by, entries_kept, copies_kept}

-- ---- what is known of keys, for any collection
module _ {C A : Type 0} (look : C → ℕ → A) where
  abbrev Known : FinMap nat_cmp A → C → C → Type 0
  Known known before now = IsKnown look known before now

  pub nothing_known : (s : C) → Known empty s s
  nothing_known s = (λ k a e. absurd (none-some a (sym (get-empty {X = A} nat_cmp k) ∙ e)), λ k e. refl)

  -- a key of which something else is known
  known_there : (known : FinMap nat_cmp A) (k q : ℕ) (a b : A) → eq_by_cmp nat_cmp q k ≡ true → get (insert known k a) q ≡ Some b → a ≡ b
  known_there known k q a b same e =
      same_Some a b (sym (get-insert nat_cmp_total known k a q ∙ ap (λ t. cond t (Some a) (get known q)) same) ∙ e)

  known_elsewhere : (known : FinMap nat_cmp A) (k q : ℕ) (a : A) (o : Option A) → eq_by_cmp nat_cmp q k ≡ false
      → get (insert known k a) q ≡ o → get known q ≡ o
  known_elsewhere known k q a o other e =
      sym (get-insert nat_cmp_total known k a q ∙ ap (λ t. cond t (Some a) (get known q)) other) ∙ e

  none_there : (known : FinMap nat_cmp A) (k q : ℕ) (a : A) → eq_by_cmp nat_cmp q k ≡ true → get (insert known k a) q ≡ None → ⊥
  none_there known k q a same e =
      some-none a (sym (get-insert nat_cmp_total known k a q ∙ ap (λ t. cond t (Some a) (get known q)) same) ∙ e)

  -- the collection shows something else at one key
  pub changed_known : (known : FinMap nat_cmp A) (s now after : C) (k : ℕ) (a : A)
      → ((q : ℕ) → look after q ≡ cond (eq_by_cmp nat_cmp q k) a (look now q)) → Known known s now → Known (insert known k a) s after
  changed_known known s now after k a at is = (
    λ q b e. elim (eq_by_cmp nat_cmp q k) as (λ t. eq_by_cmp nat_cmp q k ≡ t → look after q ≡ b) [
      | true ↦ λ same. at q ∙ ap (λ t. cond t a (look now q)) same ∙ known_there known k q a b same e
      | false ↦ λ other. at q ∙ ap (λ t. cond t a (look now q)) other ∙ is.0 q b (known_elsewhere known k q a (Some b) other e)
    ] refl,
    λ q e. elim (eq_by_cmp nat_cmp q k) as (λ t. eq_by_cmp nat_cmp q k ≡ t → look after q ≡ look s q) [
      | true ↦ λ same. absurd (none_there known k q a same e)
      | false ↦ λ other. at q ∙ ap (λ t. cond t a (look now q)) other ∙ is.1 q (known_elsewhere known k q a None other e)
    ] refl,
  )

  -- one more key is known
  pub learnt_known : (known : FinMap nat_cmp A) (s now : C) (k : ℕ) (a : A) → get known k ≡ None → look s k ≡ a → Known known s now
      → Known (insert known k a) s now
  learnt_known known s now k a new shown is = (
    λ q b e. elim (eq_by_cmp nat_cmp q k) as (λ t. eq_by_cmp nat_cmp q k ≡ t → look now q ≡ b) [
      | true ↦ λ same. ap (look now) (same_key q k same) ∙ is.1 k new ∙ shown ∙ known_there known k q a b same e
      | false ↦ λ other. is.0 q b (known_elsewhere known k q a (Some b) other e)
    ] refl,
    λ q e. elim (eq_by_cmp nat_cmp q k) as (λ t. eq_by_cmp nat_cmp q k ≡ t → look now q ≡ look s q) [
      | true ↦ λ same. absurd (none_there known k q a same e)
      | false ↦ λ other. is.1 q (known_elsewhere known k q a None other e)
    ] refl,
  )

-- a key that is held has something known
pub held_some : {A : Type 0} (o : Option A) → is_some o ≡ true → (a : A) × (o ≡ Some a)
held_some None h = absurd (true≢false (sym h))
held_some (Some a) h = (a, refl)

-- giving a key that is held something else holds the same keys
pub holds_same : {A : Type 0} (known : FinMap nat_cmp A) (k : ℕ) (a : A) (q : ℕ) → has_key known k ≡ true
    → has_key (insert known k a) q ≡ has_key known q
holds_same known k a q held =
    ap is_some (get-insert nat_cmp_total known k a q)
    ∙ elim (eq_by_cmp nat_cmp q k) as (λ t. eq_by_cmp nat_cmp q k ≡ t → is_some (cond t (Some a) (get known q)) ≡ has_key known q) [
      | true ↦ λ same. sym (ap (has_key known) (same_key q k same) ∙ held)
      | false ↦ λ other. refl
    ] refl

pub learnt : {C A : Type 0} (look : C → ℕ → A) (known : FinMap nat_cmp A) (s now : C) (k : ℕ) (a : A) → look s k ≡ a
    → IsKnown look known s now
    → IsKnown look (with_key known k a) s now
learnt look known s now k a shown is =
    elim (has_key known k) as (λ b. has_key known k ≡ b → IsKnown look (cond b known (insert known k a)) s now) [
      | true ↦ λ held. is
      | false ↦ λ new. learnt_known look known s now k a (none_held (get known k) new) shown is
    ] refl
  where
    none_held : {B : Type 0} (o : Option B) → is_some o ≡ false → o ≡ None
    none_held None h = refl
    none_held (Some b) h = absurd (true≢false h)

-- ---- a map
module _ {V : Type 0} where
  pub map_next : (changes more : List (Change V)) (m : FinMap nat_cmp V)
      → applied (map.rules V) (changes ++ more) m ≡ applied (map.rules V) more (applied (map.rules V) changes m)
  map_next changes more m = fold-append map.change_map m changes more

  abbrev OfMap-known : FinMap nat_cmp (Option V) → FinMap nat_cmp V → FinMap nat_cmp V → Type 0
  OfMap-known es m now = IsKnown get es m now

  entry_kept : (op : Op V) (r : Reply V) (es : FinMap nat_cmp (Option V)) (m now : FinMap nat_cmp V) → OfMap-known es m now
      → OfMap-known (entries_after op r es) m (applied (map.rules V) (map.changes_by op r) now)
  entry_kept (Put k v) r es m now is =
      changed_known get es m now (insert now k v) k (Some v) (λ q. get-insert nat_cmp_total now k v q) is
  entry_kept (Remove k) (Value old) es m now is =
      changed_known get es m now (map.change_map now (change.Remove k)) k None (λ q. get-remove nat_cmp_total now k q) is
  entry_kept (Remove k) _ es m now is = is
  entry_kept _ r es m now is = is

  pub entry_accepted : (op : Op V) (r : Reply V) (es : FinMap nat_cmp (Option V)) (changes : List (Change V)) (m : FinMap nat_cmp V)
      → IsKnown get es m (applied (map.rules V) changes m)
      → IsKnown get (entries_after op r es) m (applied (map.rules V) (changes ++ map.changes_by op r) m)
  entry_accepted op r es changes m is =
      subst (OfMap-known (entries_after op r es) m) (sym (map_next changes (map.changes_by op r) m))
      (entry_kept op r es m (applied (map.rules V) changes m) is)

-- ---- a multiset
is_zero : (c : ℕ) → (c == 0) ≡ true → 0 ≡ c
is_zero c is = grind (arith, nat_tests)

counted : (c : ℕ) → unwrap_or (multisets.some_copies c) 0 ≡ c
counted c =
    elim (c == 0) as (λ b. (c == 0) ≡ b → unwrap_or (cond b None (Some c)) 0 ≡ c) [ true ↦ λ is. is_zero c is | false ↦ λ _. refl ] refl

more_counted : (o : Option ℕ) → unwrap_or (multisets.more o) 0 ≡ counted_up (unwrap_or o 0)
more_counted o =
    elim (nat_lt (unwrap_or o 0) COPY_LIMIT) as (λ b. unwrap_or (cond b (multisets.some_copies (unwrap_or o 0 + 1)) o) 0 ≡ cond b
    (suc (unwrap_or o 0)) (unwrap_or o 0)) [
      | true ↦ counted (unwrap_or o 0 + 1) ∙ omega arith
      | false ↦ refl
    ]

-- the copies of an element after a change of one element
copies_at : (x q : ℕ) (g : Option ℕ → Option ℕ) (f : Multiset → Multiset) (m : Multiset) (n : ℕ) → multisets.IsChangeAt x g f
    → unwrap_or (g (get m x)) 0 ≡ n → copies (f m) q ≡ cond (eq_by_cmp nat_cmp q x) n (copies m q)
copies_at x q g f m n at is =
    ap (λ o. unwrap_or o 0) (at m q)
    ∙ elim (eq_by_cmp nat_cmp q x) as (λ t. unwrap_or (cond t (g (get m x)) (get m q)) 0 ≡ cond t n
    (copies m q)) [ true ↦ is | false ↦ refl ]

abbrev OfBag-known : FinMap nat_cmp ℕ → Multiset → Multiset → Type 0
OfBag-known cs m now = IsKnown copies cs m now

-- what is held of an element is what there is
held_copies : (cs m now : Multiset) (x : ℕ) → has_key cs x ≡ true → OfBag-known cs m now → copies now x ≡ copies cs x
held_copies cs m now x held is =
    let h = held_some (get cs x) held in is.0 x h.0 h.1 ∙ sym (ap (λ o. unwrap_or o 0) h.1)

module _ {V : Type 0} where
  bag_next : (changes more : List (Change V)) (m : Multiset)
      → applied (bag.rules V) (changes ++ more) m ≡ applied (bag.rules V) more (applied (bag.rules V) changes m)
  bag_next changes more m = fold-append bag.change_multiset m changes more

  count_kept : (op : Op V) (r : Reply V) (b : Multiset) (es : FinMap nat_cmp (Option V)) (cs m now : Multiset)
      → holds_by (OfBag b) es cs op ≡ true → OfBag-known cs m now
      → OfBag-known (copies_after op r cs) m (applied (bag.rules V) (bag.changes_by op r) now)
  count_kept (Add x) Done b es cs m now held is =
      changed_known copies cs m now (multisets.one_more now x) x (counted_up (copies cs x))
      (λ q. copies_at x q multisets.more (λ s. multisets.one_more s x) now (counted_up (copies cs x)) (multisets.more_at x)
      (more_counted (get now x) ∙ ap counted_up (held_copies cs m now x held is))) is
  count_kept (Take x) Yes b es cs m now held is =
      changed_known copies cs m now (multisets.one_fewer now x) x (copies cs x - 1)
      (λ q. copies_at x q multisets.fewer (λ s. multisets.one_fewer s x) now (copies cs x - 1) (multisets.fewer_at x)
      (counted (copies now x - 1) ∙ ap (λ n. n - 1) (held_copies cs m now x held is))) is
  count_kept (Add x) _ b es cs m now held is = is
  count_kept (Take x) _ b es cs m now held is = is
  count_kept _ r b es cs m now held is = is

-- ---- answers
module _ {V : Type 0} where
  abbrev Given : Option (Outcome V) → Outcome V → Type 0
  Given a out = (o : Outcome V) → a ≡ Some o → out ≡ o

  known_now : (es : FinMap nat_cmp (Option V)) (m now : FinMap nat_cmp V) (k : ℕ) → has_key es k ≡ true → IsKnown get es m now
      → get now k ≡ known_entry es k
  known_now es m now k held is = let h = held_some (get es k) held in is.0 k h.0 h.1 ∙ sym (ap (λ o. unwrap_or o None) h.1)

  entry_answered : (op : Op V) (b : FinMap nat_cmp V) (es : FinMap nat_cmp (Option V)) (cs : FinMap nat_cmp ℕ) (m now : FinMap nat_cmp V)
      (out : Outcome V)
      → holds_by (OfMap b) es cs op ≡ true → IsKnown get es m now → Given (map_answer op es) out → map.outcome_of op now ≡ Some out
  entry_answered (Get k) b es cs m now out held is given =
      ap (λ a. Some (entry_outcome (Get k) a)) (known_now es m now k held is)
      ∙ ap Some (sym (given (entry_outcome (Get k) (known_entry es k)) refl))
  entry_answered (Put k v) b es cs m now out held is given =
      ap (λ a. Some (entry_outcome (Put k v) a)) (known_now es m now k held is)
      ∙ ap Some (sym (given (entry_outcome (Put k v) (known_entry es k)) refl))
  entry_answered (Remove k) b es cs m now out held is given =
      ap (λ a. Some (entry_outcome (Remove k) a)) (known_now es m now k held is)
      ∙ ap Some (sym (given (entry_outcome (Remove k) (known_entry es k)) refl))
  entry_answered _ b es cs m now out held is given = absurd (true≢false (sym held))

  abbrev counted_outcome : Op V → Reply V → Outcome V
  counted_outcome op r = record { op = op; reply = r; note = Plain }

  count_answered : (op : Op V) (b : Multiset) (es : FinMap nat_cmp (Option V)) (cs m now : Multiset) (out : Outcome V)
      → holds_by (OfBag b) es cs op ≡ true → IsKnown copies cs m now → Given (bag.outcome_of op cs) out → bag.outcome_of op now ≡ Some out
  count_answered (Count x) b es cs m now out held is given =
      ap (λ c. Some (counted_outcome (Count x) (Number c))) (held_copies cs m now x held is)
      ∙ ap Some (sym (given (counted_outcome (Count x) (Number (copies cs x))) refl))
  count_answered (Add x) b es cs m now out held is given =
      ap (λ c. Some (counted_outcome (Add x) (cond (nat_lt c COPY_LIMIT) Done Full))) (held_copies cs m now x held is)
      ∙ ap Some (sym (given (counted_outcome (Add x) (cond (nat_lt (copies cs x) COPY_LIMIT) Done Full)) refl))
  count_answered (Take x) b es cs m now out held is given =
      ap (λ c. Some (counted_outcome (Take x) (cond (c == 0) No Yes))) (held_copies cs m now x held is)
      ∙ ap Some (sym (given (counted_outcome (Take x) (cond (copies cs x == 0) No Yes)) refl))
  count_answered _ b es cs m now out held is given = absurd (true≢false (sym held))

  -- what the memo answers is what the collection answers after the accepted changes
  pub answered : (op : Op V) (b s : Shown V) (es : FinMap nat_cmp (Option V)) (cs : FinMap nat_cmp ℕ) (changes : List (Change V))
      (out : Outcome V)
      → holds_by b es cs op ≡ true → IsOfBy b es cs changes s → answer_by b es cs op ≡ Some out → outcome_of op (after changes s) ≡ Some out
  answered op (OfMap b) (OfMap m) es cs changes out held is given =
      entry_answered op b es cs m (applied (map.rules V) changes m) out held is (λ o e. same_Some out o (sym given ∙ e))
  answered op (OfBag b) (OfBag m) es cs changes out held is given =
      count_answered op b es cs m (applied (bag.rules V) changes m) out held is (λ o e. same_Some out o (sym given ∙ e))
  answered op (OfMap b) (OfBag m) es cs changes out held is given = absurd is
  answered op (OfMap b) (OfPq m) es cs changes out held is given = absurd is
  answered op (OfMap b) (OfQueue m) es cs changes out held is given = absurd is
  answered op (OfBag b) (OfMap m) es cs changes out held is given = absurd is
  answered op (OfBag b) (OfPq m) es cs changes out held is given = absurd is
  answered op (OfBag b) (OfQueue m) es cs changes out held is given = absurd is
  answered op (OfPq b) s es cs changes out held is given = absurd is
  answered op (OfQueue b) s es cs changes out held is given = absurd is

  -- ---- acceptance
  pub count_accepted : (op : Op V) (r : Reply V) (b : Multiset) (es : FinMap nat_cmp (Option V)) (cs : FinMap nat_cmp ℕ)
      (changes : List (Change V)) (m : Multiset)
      → holds_by (OfBag b) es cs op ≡ true → IsKnown copies cs m (applied (bag.rules V) changes m)
      → IsKnown copies (copies_after op r cs) m (applied (bag.rules V) (changes ++ bag.changes_by op r) m)
  count_accepted op r b es cs changes m held is =
      subst (IsKnown copies (copies_after op r cs) m) (sym (bag_next changes (bag.changes_by op r) m))
      (count_kept op r b es cs m (applied (bag.rules V) changes m) held is)

  pub accepted : (o : Outcome V) (b s : Shown V) (es : FinMap nat_cmp (Option V)) (cs : FinMap nat_cmp ℕ) (changes : List (Change V))
      → holds_by b es cs o.op ≡ true → IsOfBy b es cs changes s
      → IsOfBy b (entries_kept b o es) (copies_kept b o cs) (changes ++ changes_of o b) s
  accepted o (OfMap b) (OfMap m) es cs changes held is = entry_accepted o.op o.reply es changes m is
  accepted o (OfBag b) (OfBag m) es cs changes held is = count_accepted o.op o.reply b es cs changes m held is
  accepted o (OfMap b) (OfBag m) es cs changes held is = absurd is
  accepted o (OfMap b) (OfPq m) es cs changes held is = absurd is
  accepted o (OfMap b) (OfQueue m) es cs changes held is = absurd is
  accepted o (OfBag b) (OfMap m) es cs changes held is = absurd is
  accepted o (OfBag b) (OfPq m) es cs changes held is = absurd is
  accepted o (OfBag b) (OfQueue m) es cs changes held is = absurd is
  accepted o (OfPq b) s es cs changes held is = absurd is
  accepted o (OfQueue b) s es cs changes held is = absurd is

  -- and the same keys are held as before
  pub entries_same : (op : Op V) (r : Reply V) (b : FinMap nat_cmp V) (es : FinMap nat_cmp (Option V)) (cs : FinMap nat_cmp ℕ) (q : ℕ)
      → holds_by (OfMap b) es cs op ≡ true → has_key (entries_after op r es) q ≡ has_key es q
  entries_same (Put k v) r b es cs q held = holds_same es k (Some v) q held
  entries_same (Remove k) (Value old) b es cs q held = holds_same es k None q held
  entries_same (Remove k) _ b es cs q held = refl
  entries_same _ r b es cs q held = refl

  copies_same : (op : Op V) (r : Reply V) (b : Multiset) (es : FinMap nat_cmp (Option V)) (cs : FinMap nat_cmp ℕ) (q : ℕ)
      → holds_by (OfBag b) es cs op ≡ true → has_key (copies_after op r cs) q ≡ has_key cs q
  copies_same (Add x) Done b es cs q held = holds_same cs x (counted_up (copies cs x)) q held
  copies_same (Take x) Yes b es cs q held = holds_same cs x (copies cs x - 1) q held
  copies_same (Add x) _ b es cs q held = refl
  copies_same (Take x) _ b es cs q held = refl
  copies_same _ r b es cs q held = refl

  map_holds_same : (op : Op V) (b : FinMap nat_cmp V) (es fs : FinMap nat_cmp (Option V)) (cs : FinMap nat_cmp ℕ)
      → ((q : ℕ) → has_key fs q ≡ has_key es q)
      → holds_by (OfMap b) fs cs op ≡ holds_by (OfMap b) es cs op
  map_holds_same (Get k) b es fs cs same = same k
  map_holds_same (Put k v) b es fs cs same = same k
  map_holds_same (Remove k) b es fs cs same = same k
  map_holds_same _ b es fs cs same = refl

  bag_holds_same : (op : Op V) (b : Multiset) (es : FinMap nat_cmp (Option V)) (cs ds : FinMap nat_cmp ℕ)
      → ((q : ℕ) → has_key ds q ≡ has_key cs q)
      → holds_by (OfBag b) es ds op ≡ holds_by (OfBag b) es cs op
  bag_holds_same (Count x) b es cs ds same = same x
  bag_holds_same (Add x) b es cs ds same = same x
  bag_holds_same (Take x) b es cs ds same = same x
  bag_holds_same _ b es cs ds same = refl

  pub accepted_holds : (o : Outcome V) (b : Shown V) (es : FinMap nat_cmp (Option V)) (cs : FinMap nat_cmp ℕ) (op : Op V)
      → holds_by b es cs o.op ≡ true
      → holds_by b (entries_kept b o es) (copies_kept b o cs) op ≡ holds_by b es cs op
  accepted_holds o (OfMap b) es cs op held = map_holds_same op b es (entries_after o.op o.reply es) cs
      (λ q. entries_same o.op o.reply b es cs q held)
  accepted_holds o (OfBag b) es cs op held = bag_holds_same op b es cs (copies_after o.op o.reply cs)
      (λ q. copies_same o.op o.reply b es cs q held)
  accepted_holds o (OfPq b) es cs op held = refl
  accepted_holds o (OfQueue b) es cs op held = refl

  -- ---- one key more
  pub added : (n : ℕ) (t : TouchedKey V) (b s : Shown V) (es : FinMap nat_cmp (Option V)) (cs : FinMap nat_cmp ℕ)
      (changes : List (Change V))
      → IsOfBy b es cs changes s → IsShown n t s → IsOfBy b (with_entry t es) (with_count t cs) changes s
  added n (Entry k o) (OfMap b) (OfMap m) es cs changes is shown = learnt get es m (applied (map.rules V) changes m) k o shown is
  added n (Copies x c) (OfBag b) (OfBag m) es cs changes is shown = learnt copies cs m (applied (bag.rules V) changes m) x c shown is
  added n (Entry k o) (OfMap b) (OfBag m) es cs changes is shown = absurd is
  added n (Entry k o) (OfMap b) (OfPq m) es cs changes is shown = absurd is
  added n (Entry k o) (OfMap b) (OfQueue m) es cs changes is shown = absurd is
  added n (Entry k o) (OfBag b) s es cs changes is shown = is
  added n (Entry k o) (OfPq b) s es cs changes is shown = absurd is
  added n (Entry k o) (OfQueue b) s es cs changes is shown = absurd is
  added n (Copies x c) (OfBag b) (OfMap m) es cs changes is shown = absurd is
  added n (Copies x c) (OfBag b) (OfPq m) es cs changes is shown = absurd is
  added n (Copies x c) (OfBag b) (OfQueue m) es cs changes is shown = absurd is
  added n (Copies x c) (OfMap b) s es cs changes is shown = is
  added n (Copies x c) (OfPq b) s es cs changes is shown = absurd is
  added n (Copies x c) (OfQueue b) s es cs changes is shown = absurd is
  added n (Counts ns) b s es cs changes is shown = is
  added n (Total t) b s es cs changes is shown = is

  -- ---- what a base gives to be held
  shown_map : (n : ℕ) (op : Op V) (m : FinMap nat_cmp V) (t : TouchedKey V) → touched_by n op (OfMap m) ≡ Some t → IsShown n t (OfMap m)
  shown_map n (Get k) m t e = subst (λ x. IsShown n x (OfMap m)) (same_Some _ _ e) refl
  shown_map n (Put k v) m t e = subst (λ x. IsShown n x (OfMap m)) (same_Some _ _ e) refl
  shown_map n (Remove k) m t e = subst (λ x. IsShown n x (OfMap m)) (same_Some _ _ e) refl
  shown_map n Len m t e = subst (λ x. IsShown n x (OfMap m)) (same_Some _ _ e) refl
  shown_map n _ m t e = absurd (none-some t e)

  shown_bag : (n : ℕ) (op : Op V) (m : Multiset) (t : TouchedKey V) → touched_by n op (OfBag m) ≡ Some t → IsShown n t (OfBag m)
  shown_bag n (Count x) m t e = subst (λ y. IsShown n y (OfBag m)) (same_Some _ _ e) refl
  shown_bag n (Add x) m t e = subst (λ y. IsShown n y (OfBag m)) (same_Some _ _ e) refl
  shown_bag n (Take x) m t e = subst (λ y. IsShown n y (OfBag m)) (same_Some _ _ e) refl
  shown_bag n _ m t e = absurd (none-some t e)

  no_pq : (n : ℕ) (op : Op V) (m : pq.Shown) → touched_by n op (OfPq m) ≡ None
  no_pq n (Get k) m = refl
  no_pq n _ m = refl

  no_queue : (n : ℕ) (op : Op V) (m : queue.Shown) → touched_by n op (OfQueue m) ≡ None
  no_queue n (Get k) m = refl
  no_queue n _ m = refl

  pub is_shown : (n : ℕ) (op : Op V) (s : Shown V) (t : TouchedKey V) → touched_by n op s ≡ Some t → IsShown n t s
  is_shown n op (OfMap m) t e = shown_map n op m t e
  is_shown n op (OfBag m) t e = shown_bag n op m t e
  is_shown n op (OfPq m) t e = absurd (none-some t (sym (no_pq n op m) ∙ e))
  is_shown n op (OfQueue m) t e = absurd (none-some t (sym (no_queue n op m) ∙ e))

  summed_map : (n : ℕ) (op : Op V) (m : FinMap nat_cmp V) (t : TouchedKey V) → summed_by n op (OfMap m) ≡ Some t → IsShown n t (OfMap m)
  summed_map n (Get k) m t e = shown_map n (Get k) m t e
  summed_map n (Put k v) m t e = shown_map n (Put k v) m t e
  summed_map n (Remove k) m t e = shown_map n (Remove k) m t e
  summed_map n Len m t e = subst (λ x. IsShown n x (OfMap m)) (same_Some _ _ e) refl
  summed_map n _ m t e = absurd (none-some t e)

  pub is_shown_summed : (n : ℕ) (op : Op V) (s : Shown V) (t : TouchedKey V) → summed_by n op s ≡ Some t → IsShown n t s
  is_shown_summed n op (OfMap m) t e = summed_map n op m t e
  is_shown_summed n op (OfBag m) t e = is_shown n op (OfBag m) t e
  is_shown_summed n op (OfPq m) t e = is_shown n op (OfPq m) t e
  is_shown_summed n op (OfQueue m) t e = is_shown n op (OfQueue m) t e

  pub new_map : (s : FinMap nat_cmp V) → IsOfBy (OfMap empty) empty empty [] (OfMap s)
  new_map s = nothing_known get s
