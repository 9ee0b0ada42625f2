-- Items are dealt out, or gathered, one after another.
-- How long a list waits for its next item shows whether the next one is its own: each item shortens the wait by one, and the list that got
-- one waits for all others (`waits_on`). So one item more is one more for the list whose turn it is, and leaves the others as they were.
use Rattle.std.proofs.Common.{◌≡◌, ◌≢◌, ◌∙◌, refl, sym, ap, subst, ℕ, zero, suc, ◌+◌, ◌-◌, ◌<◌, ◌≤◌, ◌⊎◌, inl, inr, List, [], ◌∷◌, ◌++◌}
use Rattle.std.proofs.Common.{length, get_or, set, arith}
use Rattle.std.proofs.lemmas.List.{append_assoc, append-nil, length-append, length-map, length-set, get_or-set_other, get_or-set_same}
use Rattle.std.proofs.lemmas.List.{map-set}
use Rattle.std.specs.declared.alloc.Global.{Global}
use Rattle.std.specs.declared.collections.vec_deque.VecDeque.{VecDeque}
use Rattle.workers.specs.Deals.{AreDealt, AreDealtLike, IsNext, every, in_queues, shares}

-- how many items a list lets pass, that lets k pass at first, once so many have gone
abbrev pub wait : ℕ → ℕ → ℕ → ℕ
wait n k zero = k
wait n zero (suc more) = wait n (n - 1) more
wait n (suc k) (suc more) = wait n k more

-- k comes so many turns after this one
abbrev pub Comes : ℕ → ℕ → ℕ → ℕ → Type 0
Comes n turn k m = (m < n) × ((turn + m ≡ k) ⊎ (turn + m ≡ k + n))

-- so many items have gone, and it is this one's turn
abbrev pub IsTurn : ℕ → ℕ → ℕ → Type 0
IsTurn n turn gone = (turn < n) × ((k : ℕ) → k < n → Comes n turn k (wait n k gone))

pub first_turn : (n : ℕ) → 1 ≤ n → IsTurn n 0 0
first_turn n some = (some, λ k lt. (lt, inl (let e : 0 + k ≡ k = omega arith in e)))

wait_more : (n k gone more : ℕ) → wait n k (gone + more) ≡ wait n (wait n k gone) more
wait_more n k zero more = ap (wait n k) (let e : zero + more ≡ more = omega arith in e)
wait_more n zero (suc gone) more =
    ap (wait n zero) (let e : suc gone + more ≡ suc (gone + more) = omega arith in e) ∙ wait_more n (n - 1) gone more
wait_more n (suc k) (suc gone) more =
    ap (wait n (suc k)) (let e : suc gone + more ≡ suc (gone + more) = omega arith in e) ∙ wait_more n k gone more

-- one item goes
comes_on : (n turn next k m : ℕ) → turn < n → k < n → IsNext n turn next → Comes n turn k m → Comes n next k (wait n m 1)
comes_on n turn next k zero lt within (inl going) (few, inl at) = (omega arith, inr (omega (arith, going.0, going.1)))
comes_on n turn next k zero lt within (inl going) (few, inr at) = absurd (omega arith)
comes_on n turn next k zero lt within (inr going) (few, inl at) = (omega arith, inl (omega (arith, going.0, going.1)))
comes_on n turn next k zero lt within (inr going) (few, inr at) = absurd (omega arith)
comes_on n turn next k (suc m) lt within (inl going) (few, inl at) = (omega arith, inl (omega (arith, going.0, going.1)))
comes_on n turn next k (suc m) lt within (inl going) (few, inr at) = (omega arith, inr (omega (arith, going.0, going.1)))
comes_on n turn next k (suc m) lt within (inr going) (few, inl at) = absurd (omega (arith, going.0))
comes_on n turn next k (suc m) lt within (inr going) (few, inr at) = (omega arith, inl (omega (arith, going.0, going.1)))

pub waits_on : (n turn next gone : ℕ) → next < n → IsNext n turn next → IsTurn n turn gone → IsTurn n next (gone + 1)
waits_on n turn next gone few going is = (
  few,
  λ k lt. subst (Comes n next k) (sym (wait_more n k gone 1))
      (comes_on n turn next k (wait n k gone) is.0 lt going (is.1 k lt)),
)

-- who waits for nothing has the turn, and only that one
own_turn : (n turn m : ℕ) → turn < n → Comes n turn turn m → m ≡ 0
own_turn n turn m lt (few, inl at) = omega arith
own_turn n turn m lt (few, inr at) = absurd (omega arith)

waits : (n turn k m : ℕ) → k ≢ turn → turn < n → Comes n turn k m → (p : ℕ) × (m ≡ suc p)
waits n turn k zero other lt (few, inl at) = absurd (other (omega arith))
waits n turn k zero other lt (few, inr at) = absurd (omega arith)
waits n turn k (suc m) other lt comes = (m, refl)

same_or_not : (a b : ℕ) → (a ≡ b) ⊎ (a ≢ b)
same_or_not zero zero = inl refl
same_or_not zero (suc b) = inr (λ e. omega (arith, e))
same_or_not (suc a) zero = inr (λ e. omega (arith, e))
same_or_not (suc a) (suc b) = again (same_or_not a b)
  where
    again : (a ≡ b) ⊎ (a ≢ b) → (suc a ≡ suc b) ⊎ (suc a ≢ suc b)
    again (inl e) = inl (ap suc e)
    again (inr other) = inr (λ e. other (omega (arith, e)))

-- ---- how many items a list has
shares_more : (n k gone more : ℕ) → shares n k (gone + more) ≡ shares n k gone + shares n (wait n k gone) more
shares_more n k zero more =
    let e : shares n k more ≡ 0 + shares n k more = omega arith in
    ap (shares n k) (let e : zero + more ≡ more = omega arith in e) ∙ e
shares_more n zero (suc gone) more =
    ap (shares n zero) (let e : suc gone + more ≡ suc (gone + more) = omega arith in e)
    ∙ ap suc (shares_more n (n - 1) gone more)
    ∙ (let e : suc (shares n (n - 1) gone + shares n (wait n (n - 1) gone) more) ≡
    suc (shares n (n - 1) gone) + shares n (wait n (n - 1) gone) more =
    omega arith in e)
shares_more n (suc k) (suc gone) more =
    ap (shares n (suc k)) (let e : suc gone + more ≡ suc (gone + more) = omega arith in e) ∙ shares_more n k gone more

-- whose turn it is has an item less than in the end
pub fewer : (n turn gone total : ℕ) → IsTurn n turn gone → gone < total → shares n turn gone < shares n turn total
fewer n turn gone total is lt =
    let more : gone + suc (total - gone - 1) ≡ total = omega arith in
    let sum : shares n turn total ≡ shares n turn gone + shares n (wait n turn gone) (suc (total - gone - 1)) =
    ap (shares n turn) (sym more) ∙ shares_more n turn gone (suc (total - gone - 1)) in
    let own : shares n (wait n turn gone) (suc (total - gone - 1)) ≡ suc (shares n (n - 1) (total - gone - 1)) =
    ap (λ m. shares n m (suc (total - gone - 1))) (own_turn n turn (wait n turn gone) is.0 (is.1 turn is.0)) in
    omega (arith, sum, own)

module _ {A : Type 0} where
  pub counted : (n k : ℕ) (xs : List A) → length (every n k xs) ≡ shares n k (length xs)
  counted n k [] = refl
  counted n zero (x ∷ xs) = ap suc (counted n (n - 1) xs)
  counted n (suc k) (x ∷ xs) = counted n k xs

  every_more : (n k : ℕ) (xs ys : List A) → every n k (xs ++ ys) ≡ every n k xs ++ every n (wait n k (length xs)) ys
  every_more n k [] ys = refl
  every_more n zero (x ∷ xs) ys = ap (λ zs. x ∷ zs) (every_more n (n - 1) xs ys)
  every_more n (suc k) (x ∷ xs) ys = every_more n k xs ys

  -- the list whose turn it is has one item more
  pub own_more : (n turn : ℕ) (xs : List A) (x : A) → IsTurn n turn (length xs) → every n turn (xs ++ x ∷ []) ≡ every n turn xs ++ x ∷ []
  own_more n turn xs x is =
      every_more n turn xs (x ∷ [])
      ∙ ap (λ m. every n turn xs ++ every n m (x ∷ [])) (own_turn n turn (wait n turn (length xs)) is.0 (is.1 turn is.0))

  -- and the others have none
  pub others_keep : (n turn k : ℕ) (xs : List A) (x : A) → k < n → k ≢ turn → IsTurn n turn (length xs)
      → every n k (xs ++ x ∷ []) ≡ every n k xs
  others_keep n turn k xs x lt other is =
      let w = waits n turn k (wait n k (length xs)) other is.0 (is.1 k lt) in
      every_more n k xs (x ∷ []) ∙ ap (λ m. every n k xs ++ every n m (x ∷ [])) w.1 ∙ append-nil (every n k xs)

  -- ---- dealing
  pub dealt_more : (n turn : ℕ) (xs : List A) (x : A) (lists : List (List A)) → IsTurn n turn (length xs) → AreDealt n xs lists
      → AreDealt n (xs ++ x ∷ []) (set lists turn (get_or lists turn [] ++ x ∷ []))
  dealt_more n turn xs x lists is dealt = record {
    many = length-set lists turn (get_or lists turn [] ++ x ∷ []) ∙ dealt.many;
    each = λ k lt. by_turn k lt (same_or_not k turn);
  }
    where
      by_turn : (k : ℕ) → k < n → (k ≡ turn) ⊎ (k ≢ turn)
          → get_or (set lists turn (get_or lists turn [] ++ x ∷ [])) k [] ≡ every n k (xs ++ x ∷ [])
      by_turn k lt (inl same) =
          subst (λ j. get_or (set lists turn (get_or lists turn [] ++ x ∷ [])) j [] ≡ every n j (xs ++ x ∷ [])) (sym same)
          (get_or-set_same lists turn (get_or lists turn [] ++ x ∷ []) [] (subst (λ m. turn < m) (sym dealt.many) is.0)
          ∙ ap (λ ys. ys ++ x ∷ []) (dealt.each turn is.0) ∙ sym (own_more n turn xs x is))
      by_turn k lt (inr other) =
          get_or-set_other lists turn k (get_or lists turn [] ++ x ∷ []) [] other ∙ dealt.each k lt
          ∙ sym (others_keep n turn k xs x lt other is)

  -- none are left to be dealt out
  pub dealt_all : (n : ℕ) (xs rest items : List A) (lists : List (List A)) → xs ++ rest ≡ items → length rest ≡ 0 → AreDealt n xs lists
      → AreDealt n items lists
  dealt_all n xs [] items lists all none dealt = subst (λ ys. AreDealt n ys lists) (sym (append-nil xs) ∙ all) dealt
  dealt_all n xs (y ∷ ys) items lists all none dealt = absurd (omega (arith, none))

  -- lists of nothing, and one more of them
  pub record AreEmpty (n : ℕ) (lists : List (List A)) : Type 0 where
    pub many : length lists ≡ n
    pub none : (k : ℕ) → get_or lists k [] ≡ []

  pub no_lists : AreEmpty 0 []
  no_lists = record { many = refl; none = λ k. refl }

  nothing_more : (lists : List (List A)) (k : ℕ) → get_or (lists ++ [] ∷ []) k [] ≡ get_or lists k []
  nothing_more [] zero = refl
  nothing_more [] (suc k) = refl
  nothing_more (l ∷ ls) zero = refl
  nothing_more (l ∷ ls) (suc k) = nothing_more ls k

  pub empty_more : (n : ℕ) (lists : List (List A)) → AreEmpty n lists → AreEmpty (n + 1) (lists ++ [] ∷ [])
  empty_more n lists are = record {
    many = length-append lists ([] ∷ []) ∙ ap (λ m. m + 1) are.many;
    none = λ k. nothing_more lists k ∙ are.none k;
  }

  pub none_dealt : (n : ℕ) (lists : List (List A)) → AreEmpty n lists → AreDealt n [] lists
  none_dealt n lists are = record { many = are.many; each = λ k lt. are.none k }

  pub dealt_like : (n : ℕ) (xs : List A) (lists : List (List A)) → AreDealt n xs lists → AreDealtLike n (length xs) lists
  dealt_like n xs lists dealt = record { many = dealt.many; each = λ k lt. ap (λ ys. length ys) (dealt.each k lt) ∙ counted n k xs }

  -- ---- gathering
  -- These items were taken from the lists in turn, and those are left in them.
  pub record AreTaken (n turn : ℕ) (xs : List A) (lists left : List (List A)) : Type 0 where
    pub is : IsTurn n turn (length xs)
    pub many : length left ≡ n
    pub each : (k : ℕ) → k < n → get_or lists k [] ≡ every n k xs ++ get_or left k []

  pub none_taken : (n : ℕ) (lists : List (List A)) → 1 ≤ n → length lists ≡ n → AreTaken n 0 [] lists lists
  none_taken n lists some many = record { is = first_turn n some; many = many; each = λ k lt. refl }

  -- a queue that was put in the place of another has its own items
  pub queue_now : (queues : List (VecDeque A Global)) (turn : ℕ) (queue : VecDeque A Global) → turn < length queues
      → get_or (in_queues (set queues turn queue)) turn [] ≡ queue.items
  queue_now queues turn queue lt =
      ap (λ lists. get_or lists turn []) (map-set (λ q. q.items) queues turn queue)
      ∙ get_or-set_same (in_queues queues) turn queue.items []
      (subst (λ n. turn < n) (sym (length-map queues (λ q. q.items))) lt)

  -- whose turn it is has one
  pub has_one : (n turn total : ℕ) (xs : List A) (lists left : List (List A)) → AreDealtLike n total lists → AreTaken n turn xs lists left
      → length xs < total → 1 ≤ length (get_or left turn [])
  has_one n turn total xs lists left like taken lt =
      let few = fewer n turn (length xs) total taken.is lt in
      let sum : length (get_or lists turn []) ≡ length (every n turn xs) + length (get_or left turn []) =
      ap (λ ys. length ys) (taken.each turn taken.is.0) ∙ length-append (every n turn xs) (get_or left turn []) in
      let all : length (get_or lists turn []) ≡ shares n turn total = like.each turn taken.is.0 in
      let so_far : length (every n turn xs) ≡ shares n turn (length xs) = counted n turn xs in
      omega (arith, few, sum, all, so_far)

  -- one item is taken
  pub taken_more : (n turn next : ℕ) (xs : List A) (x : A) (lists left rest : List (List A)) → AreTaken n turn xs lists left → next < n
      → IsNext n turn next → length rest ≡ length left → get_or left turn [] ≡ x ∷ get_or rest turn []
      → rest ≡ set left turn (get_or rest turn []) → AreTaken n next (xs ++ x ∷ []) lists rest
  taken_more n turn next xs x lists left rest taken few going same own kept = record {
    is = subst (IsTurn n next) (sym (length-append xs (x ∷ []))) (waits_on n turn next (length xs) few going taken.is);
    many = same ∙ taken.many;
    each = λ k lt. by_turn k lt (same_or_not k turn);
  }
    where
      by_turn : (k : ℕ) → k < n → (k ≡ turn) ⊎ (k ≢ turn) → get_or lists k [] ≡ every n k (xs ++ x ∷ []) ++ get_or rest k []
      by_turn k lt (inl at) =
          subst (λ j. get_or lists j [] ≡ every n j (xs ++ x ∷ []) ++ get_or rest j []) (sym at)
          (taken.each turn taken.is.0
          ∙ ap (λ ys. every n turn xs ++ ys) own
          ∙ sym (append_assoc (every n turn xs) (x ∷ []) (get_or rest turn []))
          ∙ ap (λ ys. ys ++ get_or rest turn []) (sym (own_more n turn xs x taken.is)))
      by_turn k lt (inr other) =
          taken.each k lt
          ∙ ap (λ ys. every n k xs ++ ys)
          (sym (ap (λ ls. get_or ls k []) kept ∙ get_or-set_other left turn k (get_or rest turn []) [] other))
          ∙ ap (λ ys. ys ++ get_or rest k []) (sym (others_keep n turn k xs x lt other taken.is))

  nothing_left : (xs ys : List A) → length (xs ++ ys) ≡ length xs → xs ++ ys ≡ xs
  nothing_left [] [] e = refl
  nothing_left [] (y ∷ ys) e = absurd (omega (arith, e))
  nothing_left (x ∷ xs) ys e = ap (λ zs. x ∷ zs) (nothing_left xs ys (omega (arith, e)))

  -- all were taken, so they are those that were dealt out
  pub all_taken : (n turn total : ℕ) (xs : List A) (lists left : List (List A)) → AreDealtLike n total lists → AreTaken n turn xs lists left
      → length xs ≡ total → AreDealt n xs lists
  all_taken n turn total xs lists left like taken all = record {
    many = like.many;
    each = λ k lt. taken.each k lt ∙ nothing_left (every n k xs) (get_or left k [])
        (ap (λ ys. length ys) (sym (taken.each k lt)) ∙ like.each k lt ∙ ap (shares n k) (sym all) ∙ sym (counted n k xs));
  }
