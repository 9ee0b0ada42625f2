-- Collections over several gates, as they are laid out: each entry in the part that has its key.
use Rattle.std.proofs.Common.{◌≡◌, ℕ, zero, suc, ◌+◌, ◌<◌, ◌≤◌, ◌==◌, Bool, true, false}
use Rattle.std.proofs.Common.{cond, List, [], ◌∷◌, ◌++◌, length, map, Some, None, Option}
use Rattle.std.proofs.Common.{refl, sym, ap, subst, ◌∙◌, arith, eqb-true, get_or, replicate}
use Rattle.std.specs.Prelude.{All, option_map, slice_get, slice_set, if◌then◌else◌}
use Rattle.std.specs.Cmp.{nat_cmp_total}
use Rattle.std.specs.Ordering.{nat_cmp}
use Rattle.std.specs.FinMap.{FinMap, empty, get, get-empty, insert, nat_cmp-IsAntisymmetric, retain_keys, same_map}
use Rattle.std.proofs.lemmas.Bool.Decides.{nat_tests}
use Rattle.std.proofs.lemmas.Option.{get_or_from_slice_get, slice_get-map, slice_get_read}
use Rattle.std.proofs.lemmas.List.Sums.{fold_push}
use Rattle.std.proofs.lemmas.List.{length-map, length-replicate, length-set, replicate_more}
use Rattle.seq_model.specs.declared.held.Held.{Held}
use Rattle.seq_model.specs.declared.held.Held.TheVariants as held
use Rattle.seq_model.specs.Counts.{HasNoZero, Multiset}
use Rattle.seq_model.specs.Entries.{inserts}
use Rattle.tx_handles.specs.declared.gates.Gates.{Gates}
use Rattle.tx_handles.specs.Gates.{AreParts, LieOver, place_of}
use Rattle.tx_handles.specs.Lanes.{AreFirstOf, AreLanes, first_lane}
use Rattle.tx_handles.proofs.GateLemmas.{equal, kept_get, kept_insert, left_insert, place_of_one}
use Rattle.tx_handles.proofs.GateLemmas.{place_within, set_here, set_there, unequal}

-- ---- lists, one after another
past : {A : Type 0} (xs ys : List A) (i : ℕ) → slice_get (xs ++ ys) (length xs + i) ≡ slice_get ys i
past [] ys i = let e : 0 + i ≡ i = omega arith in ap (slice_get ys) e
past (x ∷ xs) ys i =
    let e : suc (length xs) + i ≡ suc (length xs + i) = omega arith in
    ap (slice_get (x ∷ xs ++ ys)) e ∙ past xs ys i

in_replicate : {A : Type 0} (n i : ℕ) (x : A) → i < n → slice_get (replicate n x) i ≡ Some x
in_replicate zero i x lt = absurd (omega (arith, lt))
in_replicate (suc n) zero x lt = refl
in_replicate (suc n) (suc i) x lt = in_replicate n i x (omega (arith, lt))

pub one_more : {A : Type 0} (n : ℕ) (x : A) → replicate n x ++ x ∷ [] ≡ replicate (n + 1) x
one_more n x = replicate_more n x

-- ---- one gate
all_kept : {X : Type 0} (g : Gates) (u : FinMap nat_cmp X) → g.others ≡ 0 → retain_keys u (λ k. place_of g k == 0) ≡ u
all_kept g u one = same_map nat_cmp_total nat_cmp-IsAntisymmetric _ _ (λ q.
    kept_get (λ k. place_of g k == 0) u q ∙ ap (λ b. cond b (get u q) None) (ap (λ p. p == 0) (place_of_one g q one)))

module _ {V X : Type 0} (kind : FinMap nat_cmp X → Held V) where
  one_lies : (g : Gates) (u : FinMap nat_cmp X) (hs : List (Held V)) → g.others ≡ 0 → slice_get hs g.first ≡ Some (kind u)
      → LieOver kind g u hs
  one_lies g u hs one at i le =
      let none : 0 ≡ i = omega (arith, one, le) in
      let there : g.first ≡ g.first + 0 = omega arith in
      subst (λ j. slice_get hs (g.first + j) ≡ Some (kind (retain_keys u (λ k. place_of g k == j)))) none
      (ap (slice_get hs) (sym there) ∙ at ∙ ap (λ m. Some (kind m)) (sym (all_kept g u one)))

  -- ---- parts, added after what there was
  laid : {A : Type 0} (held_of : A → Held V) (g : Gates) (u : FinMap nat_cmp X) (olds : List A) (parts : List (FinMap nat_cmp X))
      (all now : List (Held V)) → g.first ≡ length olds → AreParts g u parts → all ≡ map kind parts → now ≡ map held_of olds ++ all
      → LieOver kind g u now
  laid held_of g u olds parts all now first are each after i le =
      let there : g.first + i ≡ length (map held_of olds) + i = ap (λ n. n + i) (first ∙ sym (length-map olds held_of)) in
      (λ j. slice_get (after j) (there j)) ∙ past (map held_of olds) all i ∙ ap (λ hs. slice_get hs i) each ∙ slice_get-map kind parts i
      ∙ ap (option_map kind) (are.1 i le)

module _ {V A : Type 0} (held_of : A → Held V) (g : Gates) (olds : List A) (all now : List (Held V)) (first : g.first ≡ length olds)
    (after : now ≡ map held_of olds ++ all) where
  pub laid_map : (u : FinMap nat_cmp V) (parts : List (FinMap nat_cmp V)) → AreParts g u parts → all ≡ map held.Map parts
      → LieOver held.Map g u now
  laid_map u parts are each = laid held.Map held_of g u olds parts all now first are each after

  pub laid_bag : (u : Multiset) (parts : List Multiset) → AreParts g u parts → all ≡ map held.Bag parts → LieOver held.Bag g u now
  laid_bag u parts are each = laid held.Bag held_of g u olds parts all now first are each after

  pub laid_lanes : (items : List ℕ) → AreFirstOf g items all → AreLanes g (first_lane items) now
  laid_lanes items are i le =
      let there : g.first + i ≡ length (map held_of olds) + i = ap (λ n. n + i) (first ∙ sym (length-map olds held_of)) in
      (0, (λ j. slice_get (after j) (there j)) ∙ past (map held_of olds) all i ∙ are.1 i le)

-- ---- the items are in the first lane
first_at : (V : Type 0) (n : ℕ) (items : List ℕ) (i : ℕ) → i ≤ n
    → let queues : List (Held V) = held.Queue 0 items ∷ replicate n (held.Queue 0 []) in slice_get queues i ≡ Some
    (held.Queue 0 (first_lane items i))
first_at V n items zero le = refl
first_at V n items (suc i) le =
    let none : Held V = held.Queue 0 [] in
    let other : (suc i == 0) ≡ false = grind (arith, nat_tests) in
    in_replicate n i none (omega (arith, le)) ∙ ap (λ b. Some (held.Queue 0 (if b then items else []))) (sym other)

pub first_lanes : {V : Type 0} (g : Gates) (items : List ℕ) (hs : List (Held V))
    → hs ≡ held.Queue 0 items ∷ replicate g.others (held.Queue 0 []) → AreFirstOf g items hs
first_lanes {V} g items hs are =
    let none : Held V = held.Queue 0 [] in
    let many = ap length are in
    let others = length-replicate g.others none in
    (omega (arith, many, others), λ i le. ap (λ qs. slice_get qs i) are ∙ first_at V g.others items i le)

pub one_map : {V : Type 0} (g : Gates) (u : FinMap nat_cmp V) (hs : List (Held V)) → g.others ≡ 0 → slice_get hs g.first ≡ Some (held.Map u)
    → LieOver held.Map g u hs
one_map g u hs one at = one_lies held.Map g u hs one at

pub one_bag : {V : Type 0} (g : Gates) (u : Multiset) (hs : List (Held V)) → g.others ≡ 0 → slice_get hs g.first ≡ Some (held.Bag u)
    → LieOver held.Bag g u hs
one_bag g u hs one at = one_lies held.Bag g u hs one at

-- ---- one entry more
module _ {X : Type 0} (g : Gates) where
  none_kept : (p : ℕ → Bool) → retain_keys (empty {X = X} {R = nat_cmp}) p ≡ empty
  none_kept p = same_map nat_cmp_total nat_cmp-IsAntisymmetric _ _ (λ q.
      kept_get p empty q ∙ ap (λ o. cond (p q) o None) (get-empty {X = X} nat_cmp q) ∙ none (p q) ∙ sym (get-empty {X = X} nat_cmp q))
    where
      none : (b : Bool) → ◌≡◌ {A = Option X} (cond b None None) None
      none true = refl
      none false = refl

  pub no_parts : (parts : List (FinMap nat_cmp X)) → parts ≡ replicate (g.others + 1) empty → AreParts g empty parts
  no_parts parts are = (
    ap length are ∙ length-replicate (g.others + 1) empty,
    λ i le. ap (λ ps. slice_get ps i) are ∙ in_replicate (g.others + 1) i empty (omega (arith, le))
        ∙ ap Some (sym (none_kept (λ k. place_of g k == i))),
  )

  pub with_entry : (u : FinMap nat_cmp X) (parts : List (FinMap nat_cmp X)) (k : ℕ) (v : X) (part : FinMap nat_cmp X) → AreParts g u parts
      → slice_get parts (place_of g k) ≡ Some part → AreParts g (insert u k v) (slice_set parts (place_of g k) (insert part k v))
  with_entry u parts k v part are at = (length-set parts (place_of g k) (insert part k v) ∙ are.0, λ i le. by i le (place_of g k == i) refl)
    where
      by : (i : ℕ) → i ≤ g.others → (b : Bool) → (place_of g k == i) ≡ b
          → slice_get (slice_set parts (place_of g k) (insert part k v)) i ≡ Some (retain_keys (insert u k v) (λ q. place_of g q == i))
      by i le true is =
          let same : place_of g k ≡ i = eqb-true (place_of g k) i is in
          let e : Some part ≡ Some (retain_keys u (λ q. place_of g q == place_of g k)) = sym at ∙ are.1 (place_of g k) (place_within g k) in
          let own : part ≡ retain_keys u (λ q. place_of g q == place_of g k) = cc in
          subst (λ j. slice_get (slice_set parts (place_of g k) (insert part k v)) j ≡ Some
          (retain_keys (insert u k v) (λ q. place_of g q == j))) same
          (set_here parts (place_of g k) part (insert part k v) at
          ∙ ap (λ m. Some (insert m k v)) own
          ∙ ap Some (kept_insert (λ q. place_of g q == place_of g k) u k v (equal (place_of g k))))
      by i le false other =
          set_there parts (place_of g k) i (insert part k v) (unequal (place_of g k) i other)
          ∙ are.1 i le ∙ ap Some (sym (left_insert (λ q. place_of g q == i) u k v other))

  pub then_entry : (es : List (ℕ × X)) (k : ℕ) (v : X) (parts : List (FinMap nat_cmp X)) (place : ℕ) (part next : FinMap nat_cmp X)
      → AreParts g (inserts empty es) parts → place ≡ place_of g k → part ≡ get_or parts place part → next ≡ insert part k v
      → AreParts g (inserts empty (es ++ (k, v) ∷ [])) (slice_set parts place next)
  then_entry es k v parts place part next are there is put =
      let within = place_within g k in
      let at : slice_get parts place ≡ Some part =
      slice_get_read parts (g.others + 1) place part (sym are.0) (omega (arith, there, within)) is in
      let more : insert (inserts empty es) k v ≡ inserts empty (es ++ (k, v) ∷ []) =
      sym (fold_push (λ m e. insert m e.0 e.1) empty es (k, v)) in
      let with_it = with_entry (inserts empty es) parts k v part are (subst (λ p. slice_get parts p ≡ Some part) there at) in
      subst (λ u. AreParts g u (slice_set parts place next)) more
      (subst (λ p. AreParts g (insert (inserts empty es) k v) (slice_set parts p next)) (sym there)
      (subst (λ m. AreParts g (insert (inserts empty es) k v) (slice_set parts (place_of g k) m)) (sym put) with_it))

-- ---- the parts of a multiset have no zero
kept_no_zero : (u : Multiset) (p : ℕ → Bool) → HasNoZero u → HasNoZero (retain_keys u p)
kept_no_zero u p none x e = by (p x) (sym (kept_get p u x) ∙ e)
  where
    by : (b : Bool) → cond b (get u x) None ≡ Some 0 → ⊥
    by true h = none x h
    by false h = absurd (let z : ◌≡◌ {A = Option ℕ} None (Some 0) = h in cc)

pub parts_no_zero : (g : Gates) (u : Multiset) (parts : List Multiset) → AreParts g u parts → HasNoZero u → All HasNoZero parts
parts_no_zero g u parts are none k d lt =
    subst HasNoZero (sym (get_or_from_slice_get parts k _ d (are.1 k (omega (arith, lt, are.0)))))
    (kept_no_zero u (λ q. place_of g q == k) none)
