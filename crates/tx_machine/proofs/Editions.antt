-- A value that each writer raises by one counts the writers. So between two numbers at which a location has one edition
-- nobody wrote it; and as the numbers of writers rise in commit order, there are no more writers than numbers.
use Rattle.std.proofs.Common.{◌≡◌, ℕ, ◌+◌, ◌<◌, ◌≤◌, true, false, leb, List, [], ◌∷◌, inl, inr, refl, sym, ◌∙◌, arith, le-leb, max}
use Rattle.std.proofs.Common.{true≢false}
use Rattle.std.specs.Prelude.{nat_le, if◌then◌else◌}
use Rattle.std.proofs.lemmas.Bool.{lt-leb, cond_both, cond-true, cond-false, cases_Bool, cases_lt}
use Rattle.tx_machine.specs.World.{Record, insert, comes_before}
use Rattle.tx_machine.specs.Opacity.{AllFrom, IsInOrder}
use Rattle.tx_machine.proofs.Calls.{touched, final}
use Rattle.tx_machine.proofs.Records.{settled, finals, stamp, settled_all, settled_later, settled_untouched, stamp_touched}
use Rattle.tx_machine.proofs.Records.{finals_touched, IsNew, AllRecords}

-- 1 where r writes l and has a number of at most n
abbrev pub one : Record → ℕ → ℕ → ℕ
one r n l = if touched r.calls l then (if nat_le r.number n then 1 else 0) else 0

-- how many records with a number of at most n write l
abbrev pub count : List Record → ℕ → ℕ → ℕ
count [] n l = 0
count (r ∷ rs) n l = one r n l + count rs n l

pub count-insert : (r : Record) (h : List Record) (n l : ℕ) → count (insert r h) n l ≡ one r n l + count h n l
unfolding insert
count-insert r [] n l = refl
count-insert r (x ∷ xs) n l =
    cond_both (comes_before r x) (r ∷ (x ∷ xs)) (x ∷ insert r xs) (λ (z : List Record). count z n l ≡ one r n l + count (x ∷ xs) n l)
    (λ _. refl)
    (λ _. omega (arith, count-insert r xs n l))

one_untouched : (r : Record) (n l : ℕ) → touched r.calls l ≡ false → one r n l ≡ 0
one_untouched r n l f = cond-false (touched r.calls l) (if nat_le r.number n then 1 else 0) 0 f

one_later : (r : Record) (n l : ℕ) → n < r.number → one r n l ≡ 0
one_later r n l h = cond_both (touched r.calls l) (if nat_le r.number n then 1 else 0) 0 (λ z. z ≡ 0)
    (λ _. cond-false (leb r.number n) 1 0 (lt-leb r.number n h)) (λ _. refl)

pub one_here : (r : Record) (n l : ℕ) → touched r.calls l ≡ true → r.number ≤ n → one r n l ≡ 1
one_here r n l t h = cond-true (touched r.calls l) (if nat_le r.number n then 1 else 0) 0 t ∙ cond-true (leb r.number n) 1 0
    (le-leb r.number n h)

-- the edition of l, at each number, is the count of its writers
abbrev pub IsEdition : List Record → ℕ → ℕ → Type 0
IsEdition h l o = (n : ℕ) → settled h n l o ≡ o + count h n l

pub IsEdition-other : (r : Record) (h : List Record) (l o : ℕ) → touched r.calls l ≡ false → IsEdition h l o → IsEdition (insert r h) l o
IsEdition-other r h l o f e n = settled_untouched r h n l o f ∙ e n
    ∙ (let a = count-insert r h n l in let b = one_untouched r n l f in omega (arith, a, b))

-- a commit that writes the next edition keeps this
pub IsEdition-next : (r : Record) (h : List Record) (l o : ℕ) → IsInOrder h → IsNew r h → touched r.calls l ≡ true → stamp h l < r.number
    → final r.calls l 0 ≡ finals h l o + 1 → IsEdition h l o → IsEdition (insert r h) l o
IsEdition-next r h l o ord new t last next e n =
    elim (cases_lt n r.number) [
      | inl lt ↦ settled_later r h n l o lt ∙ e n ∙ (let a = count-insert r h n l in let b = one_later r n l lt in omega (arith, a, b))
      | inr ge ↦
          let top : stamp (insert r h) l ≤ n = omega (arith, stamp_touched r h l t, last, ge) in
          let below : stamp h l ≤ n = omega (arith, last, ge) in
          settled_all (insert r h) n l o top ∙ finals_touched r h l o ord new t last ∙ next
          ∙ (let a = count-insert r h n l in let b = one_here r n l t ge in let c = sym (settled_all h n l o below) ∙ e n in
          omega (arith, a, b, c))
    ]

one_more : (r : Record) (n m l : ℕ) → n ≤ m → one r n l ≤ one r m l
one_more r n m l h =
    elim (cases_lt n r.number) [
      | inl lt ↦ (let a = one_later r n l lt in omega (arith, a))
      | inr ge ↦ elim (cases_Bool (touched r.calls l)) [
        | inl t ↦ (let a = one_here r n l t ge in let b = one_here r m l t (omega (arith, ge, h)) in omega (arith, a, b))
        | inr f ↦ (let a = one_untouched r n l f in omega (arith, a))
      ]
    ]

count_more : (h : List Record) (n m l : ℕ) → n ≤ m → count h n l ≤ count h m l
count_more [] n m l q = omega arith
count_more (r ∷ rs) n m l q = omega (arith, one_more r n m l q, count_more rs n m l q)

-- equal counts: no writer of l comes between
pub no_writer : (h : List Record) (n m l : ℕ) → n ≤ m → AllRecords (λ r. r.number ≤ m) h → count h n l ≡ count h m l
    → AllRecords (λ r. (n < r.number → touched r.calls l ≡ false)) h
no_writer [] n m l q a e = tt
no_writer (r ∷ rs) n m l q a e =
    let x = one_more r n m l q in
    let y = count_more rs n m l q in (
      (λ lt. elim (cases_Bool (touched r.calls l)) [
        | inr f ↦ f
        | inl t ↦ (let b = one_later r n l lt in let c = one_here r m l t a.0 in absurd (omega (arith, x, y, e, b, c)))
      ]),
      no_writer rs n m l q a.1 (omega (arith, x, y, e)),
    )

-- ---- no more writers than numbers
abbrev pub AreWriters : ℕ → List Record → Type 0
AreWriters l h = AllRecords (λ r. (touched r.calls l ≡ true → r.writer ≡ true)) h

abbrev pub AreAbove : ℕ → ℕ → List Record → Type 0
AreAbove m l h = AllRecords (λ r. (touched r.calls l ≡ true → m < r.number)) h

-- after a record in commit order the numbers of writers are greater
above_rest : (r : Record) (h : List Record) (l : ℕ) → AllFrom r h → AreWriters l h → AreAbove r.number l h
above_rest r [] l a w = tt
above_rest r (x ∷ xs) l a w = (
  λ t. elim (cases_lt r.number x.number) [
    | inl lt ↦ lt
    | inr ge ↦ (let b = a.0.0 in let same : r.number ≡ x.number = omega (arith, b, ge) in absurd (true≢false (sym (w.0 t) ∙ a.0.1 same)))
  ],
  above_rest r xs l a.1 w.1,
)

pub count_few : (h : List Record) (n m l : ℕ) → IsInOrder h → AreWriters l h → AreAbove m l h → m ≤ n → count h n l + m ≤ n
count_few [] n m l o w a le = omega (arith, le)
count_few (r ∷ rs) n m l o w a le =
    let rest = count_few rs n m l o.1 w.1 a.1 le in
    elim (cases_lt n r.number) [
      | inl lt ↦ (let b = one_later r n l lt in omega (arith, b, rest))
      | inr ge ↦ elim (cases_Bool (touched r.calls l)) [
        | inl t ↦
            (let b = one_here r n l t ge in
            let more = a.0 t in
            let c = count_few rs n r.number l o.1 w.1 (above_rest r rs l o.0 w.1) ge in omega (arith, b, more, c))
        | inr f ↦ (let b = one_untouched r n l f in omega (arith, b, rest))
      ]
    ]

pub stamp_few : (h : List Record) (k l : ℕ) → AllRecords (λ r. r.number ≤ k) h → stamp h l ≤ k
stamp_few [] k l a = omega arith
stamp_few (r ∷ rs) k l a =
    let rest = stamp_few rs k l a.1 in
    let here = a.0 in
    cond_both (touched r.calls l) (max r.number (stamp rs l)) (stamp rs l) (λ z. z ≤ k) (λ _. omega (arith, rest, here)) (λ _. rest)
