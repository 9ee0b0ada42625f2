-- The editions of all locations, one after another; and the counts of all stripes, which add up to the number of all keys.
use Rattle.std.proofs.Common.{◌≡◌, ℕ, zero, suc, ◌+◌, ◌<◌, List, [], ◌∷◌, ◌++◌, Some, slice_index, refl, sym, ap, ◌∙◌, add-one, arith}
use Rattle.std.specs.Prelude.{option_map}
use Rattle.std.specs.Ordering.{nat_cmp}
use Rattle.std.specs.FinMap.{FinMap}
use Rattle.std.specs.List.{range_with_len}
use Rattle.conflict.specs.Footprints.{all_below}
use Rattle.conflict.proofs.CountLemmas.{counts_all}
use Rattle.seq_model.specs.declared.call.Op.{Op}
use Rattle.seq_model.specs.declared.call.Op.TheVariants.{Get, Put, Remove, Len, Count, Add, Take}
use Rattle.seq_model.specs.Counts.{Multiset}
use Rattle.base_pq.specs.Conflicts as pq
use Rattle.base_queue.specs.Conflicts as queue
use Rattle.replay_log.specs.Base.{Shown, OfMap, OfBag, OfPq, OfQueue}
use Rattle.replay_log.specs.declared.touch.TouchedKey.TheVariants.{Total}
use Rattle.replay_log.specs.Touches.{editions_at, map_summed_by, summed, summed_by, touched_by}

module _ (es : List ℕ) where
  editions_more : (a n : ℕ)
      → editions_at (range_with_len a (suc n)) es ≡ editions_at (range_with_len a n) es ++ (a + n, slice_index es (a + n)) ∷ []
  editions_more a zero = let e : a ≡ a + 0 = omega arith in ap (λ l. (l, slice_index es l) ∷ []) e
  editions_more a (suc n) =
      let e : (a + 1) + n ≡ a + suc n = omega arith in
      ap (λ xs. (a, slice_index es a) ∷ xs)
      (editions_more (a + 1) n ∙ ap (λ l. editions_at (range_with_len (a + 1) n) es ++ (l, slice_index es l) ∷ []) e)

  pub editions_next : (n : ℕ) → editions_at (all_below n) es ++ (n, slice_index es n) ∷ [] ≡ editions_at (all_below (n + 1)) es
  editions_next n =
      let e : 0 + n ≡ n = omega arith in
      rw add-one (sym (editions_more 0 n ∙ ap (λ l. editions_at (range_with_len 0 n) es ++ (l, slice_index es l) ∷ []) e))

module _ {V : Type 0} (n : ℕ) where
  map_summed : (op : Op V) (m : FinMap nat_cmp V) → 0 < n → map_summed_by n op m ≡ option_map summed (touched_by n op (OfMap m))
  map_summed (Get k) m pos = refl
  map_summed (Put k v) m pos = refl
  map_summed (Remove k) m pos = refl
  map_summed Len m pos = ap (λ k. Some (Total k)) (sym (counts_all n pos m))
  map_summed _ m pos = refl

  bag_summed : (op : Op V) (m : Multiset) → touched_by n op (OfBag m) ≡ option_map summed (touched_by n op (OfBag m))
  bag_summed (Count x) m = refl
  bag_summed (Add x) m = refl
  bag_summed (Take x) m = refl
  bag_summed _ m = refl

  pq_summed : (op : Op V) (m : pq.Shown) → touched_by n op (OfPq m) ≡ option_map summed (touched_by n op (OfPq m))
  pq_summed (Get k) m = refl
  pq_summed _ m = refl

  queue_summed : (op : Op V) (m : queue.Shown) → touched_by n op (OfQueue m) ≡ option_map summed (touched_by n op (OfQueue m))
  queue_summed (Get k) m = refl
  queue_summed _ m = refl

  pub summed_touch : (op : Op V) (s : Shown V) → 0 < n → summed_by n op s ≡ option_map summed (touched_by n op s)
  summed_touch op (OfMap m) pos = map_summed op m pos
  summed_touch op (OfBag m) pos = bag_summed op m
  summed_touch op (OfPq m) pos = pq_summed op m
  summed_touch op (OfQueue m) pos = queue_summed op m
