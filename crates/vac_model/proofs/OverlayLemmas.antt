-- A map with changes made has, at each key, what the changes have there, and else what the map has. All else follows
-- from this: a further change is made on top, no change leaves the map, and what stands at other keys is all that the
-- changes need of the map below them.
use Rattle.std.proofs.Common.{Bor, ◌≡◌, ◌≢◌, ℕ, zero, suc, ◌<◌, Bool, true, false, not, cond, List, [], ◌∷◌, ◌++◌, ◌⊎◌, inl, inr, Option}
use Rattle.std.proofs.Common.{Some, None, refl, sym, ◌∙◌, ap, subst, arith, length, drop, append-nil, ◌+◌}
use Rattle.std.specs.Ordering.{nat_cmp, is_eq}
use Rattle.std.specs.Option.{option_copied, is_some}
use Rattle.std.specs.Cmp.{nat_cmp_total}
use Rattle.std.specs.FinMap.{FinMap, get, insert, remove, entries, empty, find, get-empty, get-entries, entries_sorted, same_map}
use Rattle.std.specs.FinMap.{nat_cmp-IsAntisymmetric}
use Rattle.seq_model.specs.Entries.{IsRising}
use Rattle.seq_model.proofs.EntryLemmas.{by_cases, both_true, below_at, find_below}
use Rattle.vac_model.specs.declared.queue.Queue.{Queue}
use Rattle.vac_model.specs.Holdings.{Holdings}
use Rattle.vac_model.specs.Overlays.{placed, laid_by, laid, without, AreElsewhereAlike, moved, no_moves, no_changes, with_changes}
use Rattle.vac_model.proofs.MapLemmas.{insert_both, remove_both}
use Rattle.std.proofs.lemmas.List.{drop_more}
use Rattle.std.proofs.lemmas.Option.{same_Some}
use Rattle.seq_model.specs.Queues.{first_of, rest_of}

-- what is found at a key where the changes have the first, and the map the second
abbrev pub over : {V : Type 0} → Option (Option V) → Option V → Option V
over None x = x
over (Some y) x = y

module _ {V : Type 0} where
  pub placed_both : (m : FinMap nat_cmp V) (k : ℕ) (o : Option V) (q : ℕ) (P : Option V → Type 0) → (k ≡ q → P o)
      → (¬ (k ≡ q) → P (get m q)) → P (get (placed m k o) q)
  placed_both m k None q P same other = remove_both m k q P same other
  placed_both m k (Some v) q P same other = insert_both m k v q P same other

  get-laid_by : (m : FinMap nat_cmp V) (es : List (ℕ × Option V)) → IsRising es → (q : ℕ) → get (laid_by m es) q
      ≡ over (find nat_cmp q es) (get m q)
  get-laid_by m [] s q = refl
  get-laid_by m (e ∷ es) s q =
      let n : FinMap nat_cmp V = placed m e.0 e.1 in
      let ih : get (laid_by n es) q ≡ over (find nat_cmp q es) (get n q) = get-laid_by n es (both_true _ _ s).1 q in
      let other : ¬ (e.0 ≡ q) → over (find nat_cmp q es) (get n q) ≡ over (find nat_cmp q es) (get m q) =
      λ ne. placed_both m e.0 e.1 q (λ o. over (find nat_cmp q es) o ≡ over (find nat_cmp q es) (get m q)) (λ same. absurd (ne same))
      (λ _. refl) in
      ih ∙ by_cases q e.0 (λ r. over (find nat_cmp q es) (get n q) ≡ over (cond (is_eq r) (Some e.1) (find nat_cmp q es)) (get m q))
      (λ lt. other (λ same. omega (arith, same, lt)))
      (λ same.
      let none : find nat_cmp q es ≡ None = find_below q es (λ j d l. omega (arith, below_at e.0 es (both_true _ _ s).0 j d l, same)) in
      ap (λ o. over o (get n q)) none ∙ placed_both m e.0 e.1 q (λ o. o ≡ e.1) (λ _. refl) (λ ne. absurd (ne (sym same))))
      (λ gt. other (λ same. omega (arith, same, gt)))

  pub get-laid : (m : FinMap nat_cmp V) (c : FinMap nat_cmp (Option V)) (q : ℕ) → get (laid m c) q ≡ over (get c q) (get m q)
  get-laid m c q = get-laid_by m (entries c) (entries_sorted c) q ∙ ap (λ o. over o (get m q)) (sym (get-entries c q))

  -- a further change is made on top of the others
  pub laid-insert : (m : FinMap nat_cmp V) (c : FinMap nat_cmp (Option V)) (k : ℕ) (o : Option V) → laid m (insert c k o)
      ≡ placed (laid m c) k o
  laid-insert m c k o =
      same_map nat_cmp_total nat_cmp-IsAntisymmetric _ _ (λ q. get-laid m (insert c k o) q
      ∙ insert_both c k o q (λ z. over z (get m q) ≡ get (placed (laid m c) k o) q)
      (λ same. placed_both (laid m c) k o q (λ z. o ≡ z) (λ _. refl) (λ ne. absurd (ne same)))
      (λ ne. placed_both (laid m c) k o q (λ z. over (get c q) (get m q) ≡ z) (λ same. absurd (ne same)) (λ _. sym (get-laid m c q))))

  pub laid-empty : (m : FinMap nat_cmp V) → laid m empty ≡ m
  laid-empty m = same_map nat_cmp_total nat_cmp-IsAntisymmetric _ _
      (λ q. get-laid m empty q ∙ ap (λ o. over o (get m q)) (get-empty nat_cmp q))

  over_alike : (c : Option (Option V)) (x y : Option V) → (c ≡ None → y ≡ x) → over c y ≡ over c x
  over_alike None x y e = e refl
  over_alike (Some o) x y e = refl

  -- the changes need of the map below them what stands at other keys
  pub laid_alike : (m n : FinMap nat_cmp V) (c : FinMap nat_cmp (Option V)) → AreElsewhereAlike c m n → laid n c ≡ laid m c
  laid_alike m n c e =
      same_map nat_cmp_total nat_cmp-IsAntisymmetric _ _
      (λ q. get-laid n c q ∙ over_alike (get c q) (get m q) (get n q) (e q) ∙ sym (get-laid m c q))

  -- what is found where a key is changed, and where it is not
  pub laid_at : (m : FinMap nat_cmp V) (c : FinMap nat_cmp (Option V)) (q : ℕ) (o : Option V) → get c q ≡ Some o → get (laid m c) q ≡ o
  laid_at m c q o e = get-laid m c q ∙ ap (λ z. over z (get m q)) e

  pub laid_below : (m : FinMap nat_cmp V) (c : FinMap nat_cmp (Option V)) (q : ℕ) → get c q ≡ None → get (laid m c) q ≡ get m q
  laid_below m c q e = get-laid m c q ∙ ap (λ z. over z (get m q)) e

  -- ---- keys that were added are taken out again
  without-push : (m : FinMap nat_cmp V) (ks : List ℕ) (k : ℕ) → without m (ks ++ k ∷ []) ≡ remove (without m ks) k
  without-push m [] k = refl
  without-push m (j ∷ ks) k = without-push (remove m j) ks k

  -- at another key or where it was nothing before, a change below is not seen
  without_found : (m n : FinMap nat_cmp V) (ks : List ℕ) (q : ℕ) → get n q ≡ get m q → get (without n ks) q ≡ get (without m ks) q
  without_found m n [] q e = e
  without_found m n (k ∷ ks) q e =
      without_found (remove m k) (remove n k) ks q
      (remove_both n k q (λ o. o ≡ get (remove m k) q)
      (λ same. remove_both m k q (λ o. None ≡ o) (λ _. refl) (λ ne. absurd (ne same)))
      (λ ne. remove_both m k q (λ o. get n q ≡ o) (λ same. absurd (ne same)) (λ _. e)))

  without_none : (m : FinMap nat_cmp V) (ks : List ℕ) (q : ℕ) → get m q ≡ None → get (without m ks) q ≡ None
  without_none m [] q e = e
  without_none m (k ∷ ks) q e = without_none (remove m k) ks q (remove_both m k q (λ o. o ≡ None) (λ _. refl) (λ _. e))

  -- n has at other keys what m has, which has nothing at k
  pub back_by : (m n : FinMap nat_cmp V) (ks : List ℕ) (k : ℕ) → get m k ≡ None → ((q : ℕ) → q ≢ k → get n q ≡ get m q)
      → without n (ks ++ k ∷ []) ≡ without m ks
  back_by m n ks k none other =
      without-push n ks k
      ∙ same_map nat_cmp_total nat_cmp-IsAntisymmetric _ _ (λ q. remove_both (without n ks) k q (λ o. o ≡ get (without m ks) q)
      (λ same. sym (without_none m ks q (ap (get m) (sym same) ∙ none)))
      (λ ne. without_found m n ks q (other q (λ same. ne (sym same)))))

  -- ---- the changes that are still to be gone through
  pub left_after : (q k : ℕ) (o : Option V) (es : List (ℕ × Option V)) → find nat_cmp q ((k, o) ∷ es) ≡ None → (q ≢ k)
      × (find nat_cmp q es ≡ None)
  left_after q k o es =
      by_cases q k (λ r. cond (is_eq r) (Some o) (find nat_cmp q es) ≡ None → (q ≢ k) × (find nat_cmp q es ≡ None))
      (λ lt e. (λ same. omega (arith, same, lt), e))
      (λ same e. absurd (let f : Some o ≡ None = e in cc))
      (λ gt e. (λ same. omega (arith, same, gt), e))

  pub either : (q k : ℕ) (o r : Option V) (es : List (ℕ × Option V)) → find nat_cmp q ((k, o) ∷ es) ≡ Some r → ((q ≡ k) × (o ≡ r))
      ⊎ ((q ≢ k) × (find nat_cmp q es ≡ Some r))
  either q k o r es =
      by_cases q k (λ c. cond (is_eq c) (Some o) (find nat_cmp q es) ≡ Some r → ((q ≡ k) × (o ≡ r))
      ⊎ ((q ≢ k) × (find nat_cmp q es ≡ Some r)))
      (λ lt e. inr (λ same. omega (arith, same, lt), e))
      (λ same e. inl (same, same_Some _ _ e))
      (λ gt e. inr (λ same. omega (arith, same, gt), e))

  pub found_first : (k : ℕ) (o : Option V) (es : List (ℕ × Option V)) → find nat_cmp k ((k, o) ∷ es) ≡ Some o
  found_first k o es =
      by_cases k k (λ c. cond (is_eq c) (Some o) (find nat_cmp k es) ≡ Some o) (λ lt. absurd (omega (arith, lt))) (λ _. refl)
      (λ gt. absurd (omega (arith, gt)))

  -- ---- an entry is added
  pub added_elsewhere : (m n : FinMap nat_cmp V) (k : ℕ) (v : V) → n ≡ insert m k v → (q : ℕ) → q ≢ k → get n q ≡ get m q
  added_elsewhere m n k v e q ne = ap (λ t. get t q) e ∙ insert_both m k v q (λ o. o ≡ get m q) (λ same. absurd (ne (sym same))) (λ _. refl)

  pub added_there : (m n : FinMap nat_cmp V) (k : ℕ) (v : V) → n ≡ insert m k v → get n k ≡ None → ⊥
  added_there m n k v e none = insert_both m k v k (λ o. o ≡ None → ⊥) (λ _ f. cc) (λ ne. absurd (ne refl))
      (ap (λ t. get t k) (sym e) ∙ none)

  pub added_stays : (m n : FinMap nat_cmp V) (k : ℕ) (v : V) → n ≡ insert m k v → (q : ℕ) → get m q ≢ None → get n q ≡ None → ⊥
  added_stays m n k v e q some none = insert_both m k v q (λ o. o ≡ None → ⊥) (λ _ f. cc) (λ _ f. some f) (ap (λ t. get t q) (sym e) ∙ none)

  -- a look that found nothing
  pub copied_none : (r : Option (Bor V)) (o : Option V) (b : Bool) → option_copied r ≡ o → is_some r ≡ not b → b ≡ true → o ≡ None
  copied_none None o b e n t = sym e
  copied_none (Some x) o b e n t = absurd (let f : true ≡ false = n ∙ ap not t in cc)

  -- ---- the changes one after another
  placed_elsewhere : (m : FinMap nat_cmp V) (k : ℕ) (o : Option V) (q : ℕ) → q ≢ k → get (placed m k o) q ≡ get m q
  placed_elsewhere m k o q ne = placed_both m k o q (λ z. z ≡ get m q) (λ same. absurd (ne (sym same))) (λ _. refl)

  -- each later change has its place still
  pub places_after : (m : FinMap nat_cmp V) (k : ℕ) (o : Option V) (es : List (ℕ × Option V)) → IsRising ((k, o) ∷ es) →
      ((q : ℕ) (v : V) → find nat_cmp q ((k, o) ∷ es) ≡ Some (Some v) → get m q ≢ None) →
      (q : ℕ) (v : V) → find nat_cmp q es ≡ Some (Some v) → get (placed m k o) q ≢ None
  places_after m k o es s places q v e none =
      let ne : q ≢ k = λ same.
      let gone : find nat_cmp q es ≡ None = find_below q es (λ j d l. omega (arith, below_at k es (both_true _ _ s).0 j d l, same)) in
      absurd (let f : Some (Some v) ≡ None = sym e ∙ gone in cc) in
      let here : find nat_cmp q ((k, o) ∷ es) ≡ Some (Some v) =
      by_cases q k (λ c. cond (is_eq c) (Some o) (find nat_cmp q es) ≡ Some (Some v)) (λ _. e) (λ same. absurd (ne same)) (λ _. e) in
      places q v here (sym (placed_elsewhere m k o q ne) ∙ none)

  pub nothing_in : (q k : ℕ) (o : Option V) (es : List (ℕ × Option V)) → find nat_cmp q ((k, o) ∷ es) ≡ None → q ≢ k
  nothing_in q k o es none = (left_after q k o es none).0

  pub found_in : (q : ℕ) (v : V) (m : FinMap nat_cmp V) (es : List (ℕ × Option V)) → es ≡ [] →
      (find nat_cmp q es ≡ Some (Some v)) ⊎ (get m q ≢ None) → get m q ≢ None
  found_in q v m es none (inl e) = absurd (let f : None ≡ Some (Some v) = sym (ap (find nat_cmp q) none) ∙ e in cc)
  found_in q v m es none (inr there) = there

  -- an entry that is to have a value was admitted, and the others are still to come
  pub admits_next : (c : FinMap nat_cmp (Option V)) (first m n : FinMap nat_cmp V) (k : ℕ) (v : V) (all es : List (ℕ × Option V)) →
      all ≡ (k, Some v) ∷ es → AreElsewhereAlike c first m →
      ((q : ℕ) → get c q ≡ None → find nat_cmp q all ≡ None) →
      ((q : ℕ) (w : V) → get c q ≡ Some (Some w) → (find nat_cmp q all ≡ Some (Some w)) ⊎ (get m q ≢ None)) →
      ((q : ℕ) → q ≢ k → get n q ≡ get m q) → ((q : ℕ) → get m q ≢ None → get n q ≢ None) → get n k ≢ None →
      AreElsewhereAlike c first n × ((q : ℕ) → get c q ≡ None → find nat_cmp q es ≡ None) ×
      ((q : ℕ) (w : V) → get c q ≡ Some (Some w) → (find nat_cmp q es ≡ Some (Some w)) ⊎ (get n q ≢ None))
  admits_next c first m n k v all es steps alike rest places other stays there =
      let after : (q : ℕ) → get c q ≡ None → (q ≢ k) × (find nat_cmp q es ≡ None) =
      λ q none. left_after q k (Some v) es (sym (ap (find nat_cmp q) steps) ∙ rest q none) in
      (λ q none. other q (after q none).0 ∙ alike q none, λ q none. (after q none).1, λ q w some. next_place q w (places q w some))
    where
      by_key : (q : ℕ) (w : V) → ((q ≡ k) × (Some v ≡ Some w)) ⊎ ((q ≢ k) × (find nat_cmp q es ≡ Some (Some w))) →
          (find nat_cmp q es ≡ Some (Some w)) ⊎ (get n q ≢ None)
      by_key q w (inl same) = inr (λ none. there (sym (ap (get n) same.0) ∙ none))
      by_key q w (inr later) = inl later.1

      next_place : (q : ℕ) (w : V) → (find nat_cmp q all ≡ Some (Some w)) ⊎ (get m q ≢ None) → (find nat_cmp q es ≡ Some (Some w))
          ⊎ (get n q ≢ None)
      next_place q w (inl e) = by_key q w (either q k (Some v) (Some w) es (sym (ap (find nat_cmp q) steps) ∙ e))
      next_place q w (inr some) = inr (stays q some)

  -- an entry that is to have nothing was passed by
  pub passes_next : (c : FinMap nat_cmp (Option V)) (m : FinMap nat_cmp V) (k : ℕ) (all es : List (ℕ × Option V)) →
      all ≡ (k, None) ∷ es →
      ((q : ℕ) → get c q ≡ None → find nat_cmp q all ≡ None) →
      ((q : ℕ) (w : V) → get c q ≡ Some (Some w) → (find nat_cmp q all ≡ Some (Some w)) ⊎ (get m q ≢ None)) →
      ((q : ℕ) → get c q ≡ None → find nat_cmp q es ≡ None) ×
      ((q : ℕ) (w : V) → get c q ≡ Some (Some w) → (find nat_cmp q es ≡ Some (Some w)) ⊎ (get m q ≢ None))
  passes_next c m k all es steps rest places =
      (λ q none. (left_after q k None es (sym (ap (find nat_cmp q) steps) ∙ rest q none)).1, λ q w some. next_place q w (places q w some))
    where
      by_key : (q : ℕ) (w : V) → ((q ≡ k) × (None ≡ Some w)) ⊎ ((q ≢ k) × (find nat_cmp q es ≡ Some (Some w))) →
          (find nat_cmp q es ≡ Some (Some w)) ⊎ (get m q ≢ None)
      by_key q w (inl same) = absurd (let f : None ≡ Some w = same.1 in cc)
      by_key q w (inr later) = inl later.1

      next_place : (q : ℕ) (w : V) → (find nat_cmp q all ≡ Some (Some w)) ⊎ (get m q ≢ None) → (find nat_cmp q es ≡ Some (Some w))
          ⊎ (get m q ≢ None)
      next_place q w (inl e) = by_key q w (either q k None (Some w) es (sym (ap (find nat_cmp q) steps) ∙ e))
      next_place q w (inr some) = inr some

  -- one change was made, and each other has its place still
  pub settles_next : (m n : FinMap nat_cmp V) (k : ℕ) (o : Option V) (all es : List (ℕ × Option V)) (end : FinMap nat_cmp V) →
      all ≡ (k, o) ∷ es → IsRising all → ((q : ℕ) (v : V) → find nat_cmp q all ≡ Some (Some v) → get m q ≢ None) →
      laid_by m all ≡ end → n ≡ placed m k o →
      IsRising es × ((q : ℕ) (v : V) → find nat_cmp q es ≡ Some (Some v) → get n q ≢ None) × (laid_by n es ≡ end)
  settles_next m n k o all es end steps rising places rest is =
      let s : IsRising ((k, o) ∷ es) = subst IsRising steps rising in (
        (both_true _ _ s).1,
        λ q v e none. places_after m k o es s (λ p w f. places p w (ap (find nat_cmp p) steps ∙ f)) q v e
            (sym (ap (λ t. get t q) is) ∙ none),
        ap (λ t. laid_by t es) is ∙ sym (ap (laid_by m) steps) ∙ rest,
      )

-- ---- queues
first_more : (xs ys : List ℕ) (x : ℕ) (rest : List ℕ) → xs ≡ x ∷ rest → first_of (xs ++ ys) ≡ first_of xs
first_more xs ys x rest e = ap (λ l. first_of (l ++ ys)) e ∙ sym (ap first_of e)

pub first_within : (xs ys : List ℕ) (n : ℕ) → n < length xs → first_of (drop n xs ++ ys) ≡ first_of (drop n xs)
first_within xs ys n lt = first_more (drop n xs) ys _ _ (drop_more xs n 0 lt)

pub taken_within : (xs ys : List ℕ) (n : ℕ) → n < length xs → drop (n + 1) xs ++ ys ≡ rest_of (drop n xs ++ ys)
taken_within xs ys n lt = sym (ap (λ l. rest_of (l ++ ys)) (drop_more xs n 0 lt))

rest_drop_suc : (n : ℕ) (xs : List ℕ) → rest_of (drop n xs) ≡ drop (suc n) xs
rest_drop_suc zero [] = refl
rest_drop_suc zero (x ∷ xs) = refl
rest_drop_suc (suc n) [] = refl
rest_drop_suc (suc n) (x ∷ xs) = rest_drop_suc n xs

pub rest_drop : (n : ℕ) (xs : List ℕ) → rest_of (drop n xs) ≡ drop (n + 1) xs
rest_drop n xs = rest_drop_suc n xs ∙ ap (λ k. drop k xs) (let e : suc n ≡ n + 1 = omega arith in e)

-- ---- no changes
unmoved : (q : Queue) → moved q no_moves ≡ q
unmoved q =
    let head : q.head + 0 ≡ q.head = omega arith in
    let tickets : q.tickets ++ [] ≡ q.tickets = append-nil q.tickets in
    (λ i. record { head = head i; tickets = tickets i })

pub without_changes : (s : Holdings) → with_changes s (no_changes s.next) ≡ s
without_changes s =
    let car = laid-empty s.items.car in
    let flight = laid-empty s.items.flight in
    let room = laid-empty s.items.room in
    let customers = laid-empty s.customers in
    let tickets = laid-empty s.tickets in
    let cars = unmoved s.waiting.car in
    let flights = unmoved s.waiting.flight in
    let rooms = unmoved s.waiting.room in
    (λ i. record {
      items = record { car = car i; flight = flight i; room = room i };
      customers = customers i;
      tickets = tickets i;
      waiting = record { car = cars i; flight = flights i; room = rooms i };
      next = s.next;
    })
