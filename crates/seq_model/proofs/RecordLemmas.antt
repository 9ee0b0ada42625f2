-- A record goes to its place in commit order.
use Rattle.std.proofs.Common.{◌≡◌, ℕ, zero, suc, ◌<◌, ◌≤◌, Bool, true, false, cond, not, List, [], ◌∷◌, length, get_or, refl, sym, ◌∙◌, ap}
use Rattle.std.proofs.Common.{arith}
use Rattle.std.specs.Prelude.{nat_lt}
use Rattle.std.specs.List.{insert}
use Rattle.std.proofs.lemmas.Bool.Decides.{nat_tests}
use Rattle.std.proofs.lemmas.Bool.{false≢true}
use Rattle.seq_model.specs.declared.record.Record.{Record}
use Rattle.seq_model.specs.Runs.{comes_before, insert_record, IsInCommitOrder}

-- the numbers and flags that decide
abbrev pub before : ℕ → Bool → ℕ → ℕ → Bool → ℕ → Bool
before n w a m v b = cond (nat_lt n m) true (cond (nat_lt m n) false (cond w true (cond v false (nat_lt a b))))

-- what comes before x comes before all that does not come before x
before_later : (n m k : ℕ) (w v u : Bool) (a b c : ℕ) → before n w a m v b ≡ true → before k u c m v b ≡ false → before n w a k u c ≡ true
before_later n m k true v u a b c h g = grind (arith, nat_tests)
before_later n m k false true u a b c h g = grind (arith, nat_tests)
before_later n m k false false true a b c h g = grind (arith, nat_tests)
before_later n m k false false false a b c h g = grind (arith, nat_tests)

module _ {V : Type 0} where
  abbrev pub stays : ℕ × Record V → ℕ × Record V → Bool
  stays r x = not (comes_before r x)

  not_before : (r x : ℕ × Record V) → stays r x ≡ true → comes_before r x ≡ false
  not_before r x h = elim (comes_before r x) as (λ b. not b ≡ true → b ≡ false) [ true ↦ λ e. sym e | false ↦ λ e. refl ] h

  pub later : (r x y : ℕ × Record V) → comes_before r x ≡ true → comes_before y x ≡ false → comes_before r y ≡ true
  later r x y h g = before_later r.1.number x.1.number y.1.number r.1.writes x.1.writes y.1.writes r.0 x.0 y.0 h g

  -- every place after one that the record comes before is one too
  after_first : (r x : ℕ × Record V) (xs : List (ℕ × Record V)) → comes_before r x ≡ true → IsInCommitOrder (x ∷ xs)
      → (j : ℕ) (d : ℕ × Record V) → j < length xs → comes_before r (get_or xs j d) ≡ true
  after_first r x [] h ordered j d lt = absurd (omega arith)
  after_first r x (y ∷ ys) h ordered zero d lt = later r x y h ordered.0.0
  after_first r x (y ∷ ys) h ordered (suc j) d lt = after_first r x ys h (ordered.0.1, ordered.1.1) j d (omega arith)

  pub parted : (r : ℕ × Record V) (xs : List (ℕ × Record V)) → IsInCommitOrder xs → (i j : ℕ) (d : ℕ × Record V) → i ≤ j → j < length xs
      → stays r (get_or xs j d) ≡ true → stays r (get_or xs i d) ≡ true
  parted r [] ordered i j d le lt h = absurd (omega arith)
  parted r (x ∷ xs) ordered zero zero d le lt h = h
  parted r (x ∷ xs) ordered zero (suc j) d le lt h =
      elim (comes_before r x) as (λ b. comes_before r x ≡ b → not b ≡ true) [
        | true ↦ λ e. absurd (false≢true (sym (not_before r (get_or xs j d) h) ∙ after_first r x xs e ordered j d (omega arith)))
        | false ↦ λ e. refl
      ] refl
  parted r (x ∷ xs) ordered (suc i) zero d le lt h = absurd (omega arith)
  parted r (x ∷ xs) ordered (suc i) (suc j) d le lt h = parted r xs ordered.1 i j d (omega arith) (omega arith) h

  pub inserted : (r : ℕ × Record V) (xs : List (ℕ × Record V)) (i : ℕ) → i ≤ length xs
      → ((j : ℕ) (d : ℕ × Record V) → j < i → stays r (get_or xs j d) ≡ true)
      → ((j : ℕ) (d : ℕ × Record V) → i ≤ j → j < length xs → stays r (get_or xs j d) ≡ false)
      → insert xs i r ≡ insert_record r xs
  inserted r [] zero le low high = refl
  inserted r [] (suc i) le low high = absurd (omega arith)
  inserted r (x ∷ xs) zero le low high =
      elim (comes_before r x) as (λ b. not b ≡ false → r ∷ x ∷ xs ≡ cond b (r ∷ x ∷ xs) (x ∷ insert_record r xs))
      [ true ↦ λ e. refl | false ↦ λ e. cc ] (high 0 x (omega arith) (omega arith))
  inserted r (x ∷ xs) (suc i) le low high =
      let rest = inserted r xs i (omega arith) (λ j d lt. low (suc j) d (omega arith))
      (λ j d ge lt. high (suc j) d (omega arith) (omega arith)) in
      elim (comes_before r x) as (λ b. not b ≡ true → x ∷ insert xs i r ≡ cond b (r ∷ x ∷ xs) (x ∷ insert_record r xs))
      [ true ↦ λ e. cc | false ↦ λ e. ap (λ l. x ∷ l) rest ] (low 0 x (omega arith))
