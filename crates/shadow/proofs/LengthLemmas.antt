-- The number of keys of a map after the accepted changes: each change makes one key new to it, takes one out, or neither, and the reply
-- of its call says which. With the number that there was before, which the counts of its stripes add
-- up to, that is its length.
use Rattle.std.proofs.Common.{◌≡◌, ℕ, zero, suc, ◌+◌, ◌-◌, ◌++◌, ◌<◌, true, cond, List, Option, Some, None, is_some, unwrap_or, refl, sym}
use Rattle.std.proofs.Common.{ap, subst, ◌∙◌, arith, true≢false}
use Rattle.std.specs.Cmp.{nat_cmp_total}
use Rattle.std.specs.Ordering.{nat_cmp}
use Rattle.std.specs.List.{sum}
use Rattle.std.specs.FinMap.{FinMap, empty_of_len, get, get-empty, insert, len, len-insert, len-remove, remove}
use Rattle.std.proofs.lemmas.Option.{same_Some, none-some}
use Rattle.seq_model.specs.declared.call.Op.{Op}
use Rattle.seq_model.specs.declared.call.Op.TheVariants.{Put, Remove, Len}
use Rattle.seq_model.specs.declared.call.Reply.{Reply}
use Rattle.seq_model.specs.declared.call.Reply.TheVariants.{Number}
use Rattle.seq_model.specs.Calls.{value_reply}
use Rattle.conflict.specs.declared.change.Change.{Change}
use Rattle.conflict.specs.declared.outcome.Outcome.{Outcome}
use Rattle.conflict.specs.declared.outcome.Note.TheVariants.{Plain}
use Rattle.conflict.proofs.CountLemmas.{counts_all}
use Rattle.conflict.specs.Rules.{applied}
use Rattle.base_map.specs.Conflicts as map
use Rattle.replay_log.specs.Base.{Shown, OfMap, OfBag, OfPq, OfQueue, after, changes_of, outcome_of}
use Rattle.replay_log.specs.declared.touch.TouchedKey.{TouchedKey}
use Rattle.replay_log.specs.declared.touch.TouchedKey.TheVariants.{Entry, Copies, Counts, Total}
use Rattle.shadow.specs.Memo.{IsCounted, IsCountedBy, IsShown, answer_with, grown_after, grown_kept, holds_with, len_outcome, shrunk_after}
use Rattle.shadow.specs.Memo.{shrunk_kept, with_number, with_total}
use Rattle.shadow.proofs.MemoLemmas.{held_some, map_next}

one_more : (a n h before g : ℕ) → a ≡ n + 1 → n + h ≡ before + g → a + h ≡ before + suc g
one_more a n h before g e is = omega arith

none_more : (a n h before g : ℕ) → a ≡ n → n + h ≡ before + g → a + h ≡ before + g
none_more a n h before g e is = omega arith

one_fewer : (a n h before g : ℕ) → a ≡ n - 1 → 0 < n → n + h ≡ before + g → a + suc h ≡ before + g
one_fewer a n h before g e some is = omega arith

left_now : (a h m g t u : ℕ) → a + h ≡ m + g → m ≡ t → u ≡ t → a ≡ u + g - h
left_now a h m g t u is there read = omega arith

-- ---- one key more or fewer
module _ {V : Type 0} (now : FinMap nat_cmp V) (k : ℕ) where
  -- a map with a key has one at least
  has_one : (v : V) → get now k ≡ Some v → 0 < len now
  has_one v there = at (len now) refl
    where
      at : (n : ℕ) → len now ≡ n → 0 < n
      at zero e = absurd (none-some v (sym (ap (λ m. get m k) (empty_of_len now e) ∙ get-empty {X = V} nat_cmp k) ∙ there))
      at (suc n) e = omega arith

  put_counted : (v : V) (o : Option V) (g h before : ℕ) → get now k ≡ o → len now + h ≡ before + g
      → len (insert now k v) + h ≡ before + grown_after (Put k v) (value_reply o) g
  put_counted v None g h before new is =
      one_more (len (insert now k v)) (len now) h before g
      (len-insert nat_cmp_total now k v ∙ ap (λ o. cond (is_some o) (len now) (len now + 1)) new) is
  put_counted v (Some old) g h before there is =
      none_more (len (insert now k v)) (len now) h before g
      (len-insert nat_cmp_total now k v ∙ ap (λ o. cond (is_some o) (len now) (len now + 1)) there) is

  remove_counted : (o : Option V) (g h before : ℕ) → get now k ≡ o → len now + h ≡ before + g
      → len (applied (map.rules V) (map.changes_by (Remove k) (value_reply o)) now) + shrunk_after (Remove k) (value_reply o) h
      ≡ before + g
  remove_counted None g h before new is = is
  remove_counted (Some old) g h before there is =
      one_fewer (len (remove now k)) (len now) h before g
      (len-remove nat_cmp_total now k ∙ ap (λ o. cond (is_some o) (len now - 1) (len now)) there) (has_one old there) is

module _ {V : Type 0} where
  -- an outcome with its reply
  abbrev plain : Op V → Reply V → Outcome V
  plain op s = record { op = op; reply = s; note = Plain }

  reply_is : (op : Op V) (r : Reply V) (o : Outcome V) (s : Reply V) → Some (plain op s) ≡ Some o → o.reply ≡ r → s ≡ r
  reply_is op r o s e is = ap (λ (x : Outcome V). x.reply) (same_Some _ _ e) ∙ is

  len_kept : (op : Op V) (r : Reply V) (o : Outcome V) (total : Option ℕ) (g h : ℕ) (m now : FinMap nat_cmp V)
      → map.outcome_of op now ≡ Some o → o.reply ≡ r → IsCounted total g h m now
      → IsCounted total (grown_after op r g) (shrunk_after op r h) m (applied (map.rules V) (map.changes_by op r) now)
  len_kept (Put k v) r o total g h m now e is counted = (
    subst (λ x. len (insert now k v) + h ≡ len m + grown_after (Put k v) x g) (reply_is (Put k v) r o (value_reply (get now k)) e is)
        (put_counted now k v (get now k) g h (len m) refl counted.0),
    counted.1,
  )
  len_kept (Remove k) r o total g h m now e is counted = (
    subst (λ x. len (applied (map.rules V) (map.changes_by (Remove k) x) now) + shrunk_after (Remove k) x h ≡ len m + g)
        (reply_is (Remove k) r o (value_reply (get now k)) e is)
        (remove_counted now k (get now k) g h (len m) refl counted.0),
    counted.1,
  )
  len_kept _ r o total g h m now e is counted = counted

  pub counted_accepted : (o : Outcome V) (b s : Shown V) (total : Option ℕ) (g h : ℕ) (changes : List (Change V))
      → outcome_of o.op (after changes s) ≡ Some o → IsCountedBy b total g h changes s
      → IsCountedBy b total (grown_kept b o g) (shrunk_kept b o h) (changes ++ changes_of o b) s
  counted_accepted o (OfMap b) (OfMap m) total g h changes e is =
      subst (IsCounted total (grown_after o.op o.reply g) (shrunk_after o.op o.reply h) m)
      (sym (map_next changes (map.changes_by o.op o.reply) m))
      (len_kept o.op o.reply o total g h m (applied (map.rules V) changes m) e refl is)
  counted_accepted o (OfMap b) (OfBag m) total g h changes e is = absurd is
  counted_accepted o (OfMap b) (OfPq m) total g h changes e is = absurd is
  counted_accepted o (OfMap b) (OfQueue m) total g h changes e is = absurd is
  counted_accepted o (OfBag b) s total g h changes e is = tt
  counted_accepted o (OfPq b) s total g h changes e is = tt
  counted_accepted o (OfQueue b) s total g h changes e is = tt

  -- ---- the number of all keys
  pub totalled : (n : ℕ) (total : Option ℕ) (g h : ℕ) (m now : FinMap nat_cmp V) → len m ≡ n → IsCounted total g h m now
      → IsCounted (with_number n total) g h m now
  totalled n None g h m now e is = (is.0, λ t given. e ∙ same_Some _ t given)
  totalled n (Some t) g h m now e is = is

  pub counted_added : (n : ℕ) (t : TouchedKey V) (b s : Shown V) (total : Option ℕ) (g h : ℕ) (changes : List (Change V))
      → 0 < n → IsCountedBy b total g h changes s → IsShown n t s → IsCountedBy b (with_total t total) g h changes s
  counted_added n (Counts cs) (OfMap b) (OfMap m) total g h changes pos is shown =
      totalled (sum cs) total g h m (applied (map.rules V) changes m) (sym (ap sum shown ∙ counts_all n pos m)) is
  counted_added n (Total t) (OfMap b) (OfMap m) total g h changes pos is shown =
      totalled t total g h m (applied (map.rules V) changes m) shown is
  counted_added n (Entry k o) (OfMap b) (OfMap m) total g h changes pos is shown = is
  counted_added n (Copies x c) (OfMap b) (OfMap m) total g h changes pos is shown = is
  counted_added n t (OfMap b) (OfBag m) total g h changes pos is shown = absurd is
  counted_added n t (OfMap b) (OfPq m) total g h changes pos is shown = absurd is
  counted_added n t (OfMap b) (OfQueue m) total g h changes pos is shown = absurd is
  counted_added n t (OfBag b) s total g h changes pos is shown = tt
  counted_added n t (OfPq b) s total g h changes pos is shown = tt
  counted_added n t (OfQueue b) s total g h changes pos is shown = tt

  -- ---- the answer
  told : (total : Option ℕ) (g h : ℕ) (m now : FinMap nat_cmp V) (o : Outcome V) → is_some total ≡ true → IsCounted total g h m now
      → Some (len_outcome {V = V} total g h) ≡ Some o → map.outcome_of Len now ≡ Some o
  told total g h m now o held is e =
      let t = held_some total held in
      let there = left_now (len now) h (len m) g t.0 (unwrap_or total 0) is.0 (is.1 t.0 t.1) (ap (λ x. unwrap_or x 0) t.1) in
      ap (λ c. Some (plain Len (Number c))) there ∙ e

  pub len_answered : (b s : Shown V) (es : FinMap nat_cmp (Option V)) (cs : FinMap nat_cmp ℕ) (total : Option ℕ) (g h : ℕ)
      (changes : List (Change V)) (o : Outcome V)
      → holds_with b es cs total Len ≡ true → IsCountedBy b total g h changes s → answer_with b es cs total g h Len ≡ Some o
      → outcome_of Len (after changes s) ≡ Some o
  len_answered (OfMap b) (OfMap m) es cs total g h changes o held is e = told total g h m (applied (map.rules V) changes m) o held is e
  len_answered (OfMap b) (OfBag m) es cs total g h changes o held is e = absurd is
  len_answered (OfMap b) (OfPq m) es cs total g h changes o held is e = absurd is
  len_answered (OfMap b) (OfQueue m) es cs total g h changes o held is e = absurd is
  len_answered (OfBag b) s es cs total g h changes o held is e = absurd (true≢false (sym held))
  len_answered (OfPq b) s es cs total g h changes o held is e = absurd (true≢false (sym held))
  len_answered (OfQueue b) s es cs total g h changes o held is e = absurd (true≢false (sym held))
