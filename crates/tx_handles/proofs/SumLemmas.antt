-- The numbers of keys of all collections that a map lies over: they add up to that of the map.
use Rattle.std.proofs.Common.{◌≡◌, ℕ, zero, suc, ◌+◌, ◌<◌, ◌≤◌, ◌==◌, Bool, true, false}
use Rattle.std.proofs.Common.{cond, List, [], ◌∷◌, ◌++◌, length, Some, refl, sym, ap, subst}
use Rattle.std.proofs.Common.{◌∙◌, append-nil, append_assoc, arith, eqb-true, sum}
use Rattle.std.specs.Prelude.{Option, option_and_then, option_map, slice_get, slice_set}
use Rattle.std.proofs.lemmas.List.{length_push}
use Rattle.std.proofs.lemmas.List.Sums.{sum_by-append, sum_by-cons}
use Rattle.std.specs.Cmp.{nat_cmp_total}
use Rattle.std.specs.Ordering.{nat_cmp}
use Rattle.std.specs.FinMap.{FinMap, entries, entries_sorted, from_entries, get-entries}
use Rattle.std.specs.FinMap.{get-from_entries, len, len-entries, nat_cmp-IsAntisymmetric}
use Rattle.std.specs.FinMap.{retain_keys, same_map}
use Rattle.std.proofs.lemmas.Bool.Decides.{nat_tests}
use Rattle.conflict.proofs.CountLemmas.{found, kept_len}
use Rattle.seq_model.proofs.EntryLemmas.{fresh_rising}
use Rattle.seq_model.specs.declared.call.Call.{Call}
use Rattle.seq_model.specs.declared.call.Op.TheVariants as ops
use Rattle.seq_model.specs.declared.call.Reply.{Reply}
use Rattle.seq_model.specs.declared.call.Reply.TheVariants as replies
use Rattle.seq_model.specs.declared.held.Held.{Held}
use Rattle.seq_model.specs.declared.held.Held.TheVariants as held
use Rattle.seq_model.specs.Calls.{held_call, map_call}
use Rattle.seq_model.specs.Contents.{Contents}
use Rattle.seq_model.specs.Runs.{IsLegal, after_call, after_calls, is_writer, reply_of}
use Rattle.seq_model.proofs.ChangeLemmas.{unchanged}
use Rattle.seq_model.proofs.RunLemmas.{after_reads}
use Rattle.tx_handles.specs.declared.gates.Gates.{Gates}
use Rattle.tx_handles.specs.declared.maps.Map.{Map}
use Rattle.tx_handles.specs.HandleCalls.{AreOneCall, AreSummed, HasSummed, IsCallOn, MapCounts, len_calls}
use Rattle.tx_handles.specs.Gates.{LieOver, place_of}
use Rattle.tx_handles.specs.MadeCall.{HasMade, TransactionShown}
use Rattle.tx_handles.proofs.GateLemmas.{place_within}

-- ---- sums below a number
abbrev pub below : (ℕ → ℕ) → ℕ → ℕ
below f zero = 0
below f (suc n) = below f n + f n

pub below_same : (f h : ℕ → ℕ) (n : ℕ) → ((i : ℕ) → i < n → f i ≡ h i) → below f n ≡ below h n
below_same f h zero same = refl
below_same f h (suc n) same =
    let rest = below_same f h n (λ i lt. same i (omega (arith, lt))) in
    let last = same n (omega arith) in
    omega (arith, rest, last)

below_none : (f : ℕ → ℕ) (p n : ℕ) → n ≤ p → below (λ l. cond (p == l) (suc (f l)) (f l)) n ≡ below f n
below_none f p zero le = refl
below_none f p (suc n) le =
    let rest = below_none f p n (omega (arith, le)) in
    let last = at (p == n) refl in
    omega (arith, rest, last)
  where
    at : (b : Bool) → (p == n) ≡ b → cond b (suc (f n)) (f n) ≡ f n
    at true is = let e = eqb-true p n is in absurd (omega (arith, e, le))
    at false other = refl

below_one : (f : ℕ → ℕ) (p n : ℕ) → p < n → below (λ l. cond (p == l) (suc (f l)) (f l)) n ≡ suc (below f n)
below_one f p zero lt = absurd (omega (arith, lt))
below_one f p (suc n) lt = at (p == n) refl (λ lower. below_one f p n lower)
  where
    at : (b : Bool) → (p == n) ≡ b → (p < n → below (λ l. cond (p == l) (suc (f l)) (f l)) n ≡ suc (below f n))
        → below (λ l. cond (p == l) (suc (f l)) (f l)) n + cond b (suc (f n)) (f n) ≡ suc (below f n + f n)
    at true is others =
        let e = eqb-true p n is in
        let rest = below_none f p n (omega (arith, e)) in
        omega (arith, rest)
    at false other others =
        let apart : p ≡ n → ⊥ = λ e. grind (arith, nat_tests) in
        let rest = others (omega (arith, lt, apart)) in
        omega (arith, rest)

zeros : (n : ℕ) → below (λ l. 0) n ≡ 0
zeros zero = refl
zeros (suc n) = let rest = zeros n in omega (arith, rest)

-- the first one, and the others
pub below_first : (f : ℕ → ℕ) (n : ℕ) → below f (suc n) ≡ f 0 + below (λ i. f (i + 1)) n
below_first f zero = omega arith
below_first f (suc n) =
    let rest = below_first f n in
    let same : f (suc n) ≡ f (n + 1) = ap f (omega arith) in
    omega (arith, rest, same)

-- the entries of a map make it
pub entries_make : {A : Type 0} (m : FinMap nat_cmp A) → from_entries (entries m) ≡ m
entries_make m =
    same_map nat_cmp_total nat_cmp-IsAntisymmetric _ _ (λ q. get-from_entries nat_cmp_total (entries m) q ∙ sym (get-entries m q))

-- one place more
pub then_below : (f : ℕ → ℕ) (i : ℕ) → below f (i + 1) ≡ below f i + f i
then_below f i = let e : i + 1 ≡ suc i = omega arith in ap (below f) e

-- ---- each entry is in one place
module _ {A : Type 0} (place : ℕ → ℕ) (n : ℕ) (within : (k : ℕ) → place k < n) where
  all_found : (es : List (ℕ × A)) → below (λ l. found {A = A} (λ k. place k == l) es) n ≡ length es
  all_found [] = zeros n
  all_found (e ∷ es) =
      below_one (λ l. found {A = A} (λ k. place k == l) es) (place e.0) n (within e.0) ∙ ap suc (all_found es)

  pub lens_add_up : (m : FinMap nat_cmp A) → below (λ l. len (retain_keys m (λ k. place k == l))) n ≡ len m
  lens_add_up m =
      let fresh = fresh_rising (entries m) (entries_sorted m) in
      let same = entries_make m in
      let each : (l : ℕ) → len (retain_keys m (λ k. place k == l)) ≡ found {A = A} (λ k. place k == l) (entries m) =
      λ l. ap (λ (x : FinMap nat_cmp A). len (retain_keys x (λ k. place k == l))) (sym same)
      ∙ kept_len (λ k. place k == l) (entries m) fresh in
      below_same (λ l. len (retain_keys m (λ k. place k == l))) (λ l. found {A = A} (λ k. place k == l) (entries m)) n (λ l lt. each l)
      ∙ all_found (entries m) ∙ sym (len-entries m)

-- ---- the calls
reads : (V : Type 0) (first : ℕ) (counts : List ℕ) → is_writer (len_calls {V = V} first counts) ≡ false
reads V first [] = refl
reads V first (n ∷ ns) = reads V (first + 1) ns

sum_with : (xs : List ℕ) (x : ℕ) → sum (xs ++ x ∷ []) ≡ sum xs + x
sum_with xs x =
    let parts = sum_by-append (λ y. y) xs (x ∷ []) in
    let one = sum_by-cons (λ y. y) x [] in
    omega (arith, parts, one)

module _ {V : Type 0} where
  -- so the state is as it was
  pub lens_leave : (first : ℕ) (counts : List ℕ) (s : Contents V) → IsLegal (len_calls first counts) s
      → after_calls (len_calls first counts) s ≡ s
  lens_leave first counts s legal = after_reads (len_calls first counts) s (reads V first counts) legal

  -- so many keys or items the collection with this number has
  abbrev pub HasLen : Contents V → ℕ → ℕ → Type 0
  HasLen s c n = reply_of (record { target = c; op = ops.Len }) s ≡ Some (replies.Number n)

  same_number : (n m : ℕ) → ◌≡◌ {A = Option (Reply V)} (Some (replies.Number n)) (Some (replies.Number m)) → n ≡ m
  same_number n m e = cc

  pub counts_sum : (first : ℕ) (counts : List ℕ) (s : Contents V) (f : ℕ → ℕ) → ((i : ℕ) → i < length counts → HasLen s (first + i) (f i))
      → IsLegal (len_calls first counts) s → sum counts ≡ below f (length counts)
  counts_sum first [] s f at legal = refl
  counts_sum first (n ∷ ns) s f at legal =
      let zero_there : first + 0 ≡ first = omega arith in
      let here : f 0 ≡ n = same_number _ _ (sym (subst (λ c. HasLen s c (f 0)) zero_there (at 0 (omega arith))) ∙ legal.0) in
      let same : after_call (record { target = first; op = ops.Len }) s ≡ s =
      unchanged (record { target = first; op = ops.Len }) (replies.Number n) s legal.0 refl in
      let rest = counts_sum (first + 1) ns s (λ i. f (i + 1))
      (λ i lt. subst (λ c. HasLen s c (f (i + 1))) (next i) (at (i + 1) (omega (arith, lt))))
      (subst (IsLegal (len_calls (first + 1) ns)) same legal.1) in
      let whole = sum_by-cons (λ x. x) n ns in
      let parts = below_first f (length ns) in
      omega (arith, here, rest, whole, parts)
    where
      next : (i : ℕ) → first + (i + 1) ≡ first + 1 + i
      next i = omega arith

  -- ---- one after another
  pub record IsSummedTo (before now : TransactionShown V) (store first i total : ℕ) : Type 0 where
    pub own : 0 < i → before.store ≡ store
    pub counts : List ℕ
    pub many : length counts ≡ i
    pub is_sum : total ≡ sum counts
    pub made : now ≡ record { store = before.store; calls = before.calls ++ len_calls first counts }

  calls_with : (first : ℕ) (counts : List ℕ) (n : ℕ)
      → len_calls {V = V} first (counts ++ n ∷ [])
      ≡ len_calls first counts ++ (record { target = first + length counts; op = ops.Len }, replies.Number n) ∷ []
  calls_with first [] n =
      let there : first ≡ first + 0 = omega arith in
      ap (λ t. (record { target = t; op = ops.Len }, replies.Number n) ∷ []) there
  calls_with first (m ∷ ms) n =
      let there : first + 1 + length ms ≡ first + suc (length ms) = omega arith in
      ap (λ (cs : List (Call V × Reply V)). (record { target = first; op = ops.Len }, replies.Number m) ∷ cs)
      (calls_with (first + 1) ms n
      ∙ ap (λ t. len_calls (first + 1) ms ++ (record { target = t; op = ops.Len }, replies.Number n) ∷ []) there)

  pub summed_none : (before : TransactionShown V) (store first : ℕ) → IsSummedTo before before store first 0 0
  summed_none before store first = record {
    own = λ lt. absurd (omega (arith, lt));
    counts = [];
    many = refl;
    is_sum = refl;
    made = ap (λ (cs : List (Call V × Reply V)). record { store = before.store; calls = cs }) (sym (append-nil before.calls));
  }

  pub then_summed : (before mid now : TransactionShown V) (store first i total number count more : ℕ) (r : Reply V)
      → IsSummedTo before mid store first i total → HasMade mid store number ops.Len r now → number ≡ first + i → r ≡ replies.Number count
      → more ≡ total + count → IsSummedTo before now store first (i + 1) more
  then_summed before mid now store first i total number count more r so has there is adds = record {
    own = λ lt. sym (ap (λ (t : TransactionShown V). t.store) so.made) ∙ has.0;
    counts = so.counts ++ count ∷ [];
    many = (let e = length_push so.counts count in omega (arith, e, so.many));
    is_sum = (let e = sum_with so.counts count in omega (arith, e, so.is_sum, adds));
    made = has.1
        ∙ (λ j. record { store = (so.made j).store; calls = (so.made j).calls ++ (record { target = number; op = ops.Len }, is j) ∷ [] })
        ∙ ap (λ t. record {
          store = before.store;
          calls = (before.calls ++ len_calls first so.counts) ++ (record { target = t; op = ops.Len }, replies.Number count) ∷ [];
        }) at_end
        ∙ ap (λ (cs : List (Call V × Reply V)). record { store = before.store; calls = cs })
        (append_assoc before.calls (len_calls first so.counts) _
        ∙ ap (λ (cs : List (Call V × Reply V)). before.calls ++ cs) (sym (calls_with first so.counts count)));
  }
    where
      at_end : number ≡ first + length so.counts
      at_end = omega (arith, there, so.many)

  pub summed_all : (before now : TransactionShown V) (store i total : ℕ) (g : Gates) → IsSummedTo before now store g.first i total
      → i ≡ g.others + 1 → HasSummed before store g total now
  summed_all before now store i total g so all = record {
    own = so.own (omega (arith, all));
    more = len_calls g.first so.counts;
    made = so.made;
    are = record { counts = so.counts; all = so.many ∙ all; is_sum = so.is_sum; made = refl };
  }

  -- ---- of a map
  map_has_len : (s : Contents V) (c : ℕ) (m : FinMap nat_cmp V) → slice_get s.held c ≡ Some (held.Map m) → HasLen s c (len m)
  map_has_len s c m at =
      ap (λ o. option_map (λ (r : Reply V × Contents V). r.0) (option_and_then (λ (h : Held V).
      option_map (λ (r : Reply V × Held V). (r.0, record s { held = slice_set s.held c r.1 })) (held_call ops.Len h)) o)) at

  module _ (g : Gates) (total : ℕ) (calls : List (Call V × Reply V)) (are : AreSummed g total calls) where
    total_is : (s : Contents V) (u : FinMap nat_cmp V) → LieOver held.Map g u s.held → IsLegal calls s → total ≡ len u
    total_is s u lie legal =
        let so = counts_sum g.first are.counts s (λ l. len (retain_keys u (λ k. place_of g k == l)))
        (λ i lt. map_has_len s (g.first + i) _ (lie i (omega (arith, lt, are.all))))
        (subst (λ cs. IsLegal cs s) are.made legal) in
        let many = ap (below (λ l. len (retain_keys u (λ k. place_of g k == l)))) are.all in
        let all = lens_add_up (place_of g) (g.others + 1) (λ k. let h = place_within g k in omega (arith, h)) u in
        are.is_sum ∙ so ∙ many ∙ all

    pub summed_map : AreOneCall held.Map (map_call ops.Len) g (replies.Number total) calls
    summed_map s u lie legal =
        let same : after_calls calls s ≡ s =
        ap (λ cs. after_calls cs s) are.made ∙ lens_leave g.first are.counts s (subst (λ cs. IsLegal cs s) are.made legal) in
        subst (IsCallOn held.Map (map_call ops.Len) g u (replies.Number total) s) (sym same) (record {
          after = u;
          answers = ap (λ n. Some (replies.Number n, u)) (sym (total_is s u lie legal));
          lie = lie;
          same = record { words = refl; others = λ c beside. refl };
        })

  pub map_len : (before now : TransactionShown V) (m : Map V) (total : ℕ) → HasSummed before m.store m.gates total now
      → MapCounts before m total now
  map_len before now m total has = record { made = has; means = summed_map m.gates total has.more has.are }
