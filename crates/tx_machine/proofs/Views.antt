-- What a history leaves of parts, and a commit put in its place. In the middle of the order a record changes the parts that it writes, and
-- no later record writes these; other parts it leaves. So what was known of a part by its edition remains known.
use Rattle.std.proofs.Common.{◌≡◌, ℕ, ◌-◌, ◌<◌, ◌≤◌, true, false, leb, List, [], ◌∷◌, inl, inr, refl, sym, ap, ◌∙◌, arith, true≢false}
use Rattle.std.proofs.Common.{leb-false, leb-true, le-leb}
use Rattle.std.specs.Prelude.{nat_le, if◌then◌else◌}
use Rattle.std.proofs.lemmas.Bool.{lt-leb, cond_both, cond-true, cond-false, cases_Bool, cases_lt}
use Rattle.tx_machine.specs.World.{Record, insert, comes_before}
use Rattle.tx_machine.specs.Opacity.{AllFrom, IsInOrder}
use Rattle.tx_machine.proofs.Calls.{touched}
use Rattle.tx_machine.proofs.Editions.{IsEdition, count, no_writer}
use Rattle.tx_machine.proofs.Records.{AllRecords, AllRecords_map, settled, finals, stamp, settled_all, settled_later, settled_untouched}
use Rattle.tx_machine.proofs.Records.{stamp_head, stamp_rest, stamp_touched, IsNew, in_order-before, in_order-after, AllFrom_through}
use Rattle.tx_machine.specs.Content.{Content, Frame}
use Rattle.tx_machine.specs.Boosted.{Committed, changes, insert_commit}
use Rattle.tx_machine.specs.Serial.{words, view, views}
use Rattle.tx_machine.proofs.Parts.{Fits, AllFit, only, local}

pub words-insert : {Out : Type 0} → (r : Committed Out) (h : List (Committed Out)) → words (insert_commit r h) ≡ insert r.word (words h)
unfolding insert_commit insert
words-insert r [] = refl
words-insert r (x ∷ xs) =
    elim (cases_Bool (comes_before r.word x.word)) [
      | inl e ↦ ap words (cond-true (comes_before r.word x.word) (r ∷ (x ∷ xs)) (x ∷ insert_commit r xs) e)
          ∙ sym (cond-true (comes_before r.word x.word) (r.word ∷ (x.word ∷ words xs)) (x.word ∷ insert r.word (words xs)) e)
      | inr e ↦ ap words (cond-false (comes_before r.word x.word) (r ∷ (x ∷ xs)) (x ∷ insert_commit r xs) e)
          ∙ ap (λ (z : List Record). x.word ∷ z) (words-insert r xs)
          ∙ sym (cond-false (comes_before r.word x.word) (r.word ∷ (x.word ∷ words xs)) (x.word ∷ insert r.word (words xs)) e)
    ]

-- no record of h writes what r writes
abbrev pub Apart : {Out : Type 0} → Committed Out → List (Committed Out) → Type 0
Apart r [] = Unit {0}
Apart r (x ∷ xs) = ((l : ℕ) → touched r.word.calls l ≡ true → touched x.word.calls l ≡ false) × Apart r xs

-- r is numbered above all that write what it writes
abbrev pub IsLast : {Out : Type 0} → Committed Out → List (Committed Out) → Type 0
IsLast r h = (l : ℕ) → touched r.word.calls l ≡ true → stamp (words h) l < r.word.number

module _ {X Op Out : Type 0} (c : Content X Op Out) where
  -- the part of l with this edition, at whatever number l has it
  abbrev pub Knows : List (Committed Out) → (ℕ → ℕ) → (ℕ → X) → ℕ → ℕ → X → Type 0
  Knows h opening parts l edition part = (m : ℕ) → settled (words h) m l (opening l) ≡ edition → view c h m parts l ≡ part

  pub AllFit-insert : (r : Committed Out) (h : List (Committed Out)) → Fits c r → AllFit c h → AllFit c (insert_commit r h)
  unfolding insert_commit
  AllFit-insert r [] p a = (p, tt)
  AllFit-insert r (x ∷ xs) p a = cond_both (comes_before r.word x.word) (r ∷ (x ∷ xs)) (x ∷ insert_commit r xs) (AllFit c) (λ _. (p, a))
      (λ _. (a.0, AllFit-insert r xs p a.1))

module _ {X Op Out : Type 0} (c : Content X Op Out) (f : Frame c) where
  effect_apart : (r x : Committed Out) (v w : ℕ → X) → Fits c x
      → ((l : ℕ) → touched r.word.calls l ≡ true → touched x.word.calls l ≡ false)
      → ((l : ℕ) → touched r.word.calls l ≡ false → v l ≡ w l) → (l : ℕ) → touched r.word.calls l ≡ false → changes c x.outcomes v l
      ≡ changes c x.outcomes w l
  effect_apart r x v w fx d same l u =
      elim (cases_Bool (touched x.word.calls l)) [
        | inl t ↦ local c f x v w l fx t (λ i _ ti. elim (cases_Bool (touched r.word.calls i)) [
          | inl b ↦ absurd (true≢false (sym ti ∙ d i b))
          | inr b ↦ same i b
        ])
        | inr n ↦ only c f x v l fx n ∙ same l u ∙ sym (only c f x w l fx n)
      ]

  -- parts that differ only where r writes remain so, under records that don't write there
  view_apart : (r : Committed Out) (xs : List (Committed Out)) (n : ℕ) (v w : ℕ → X) → AllFit c xs → Apart r xs
      → ((l : ℕ) → touched r.word.calls l ≡ false → v l ≡ w l) → (l : ℕ) → touched r.word.calls l ≡ false → view c xs n v l
      ≡ view c xs n w l
  view_apart r [] n v w fs d same l u = same l u
  view_apart r (x ∷ xs) n v w fs d same l u =
      view_apart r xs n (if nat_le x.word.number n then changes c x.outcomes v else v)
      (if nat_le x.word.number n then changes c x.outcomes w else w) fs.1 d.1
      (λ i g. elim (cases_Bool (leb x.word.number n)) [
        | inl t ↦ ap (λ (z : ℕ → X). z i) (cond-true (leb x.word.number n) (changes c x.outcomes v) v t)
            ∙ effect_apart r x v w fs.0 d.0 same i g ∙ ap (λ (z : ℕ → X). z i)
            (sym (cond-true (leb x.word.number n) (changes c x.outcomes w) w t))
        | inr t ↦ ap (λ (z : ℕ → X). z i) (cond-false (leb x.word.number n) (changes c x.outcomes v) v t) ∙ same i g
            ∙ ap (λ (z : ℕ → X). z i) (sym (cond-false (leb x.word.number n) (changes c x.outcomes w) w t))
      ]) l u

  -- where r writes, records that don't write there change nothing
  view_own : (r : Committed Out) (xs : List (Committed Out)) (n : ℕ) (v : ℕ → X) → AllFit c xs → Apart r xs → (l : ℕ)
      → touched r.word.calls l ≡ true → view c xs n v l ≡ v l
  view_own r [] n v fs d l t = refl
  view_own r (x ∷ xs) n v fs d l t =
      view_own r xs n (if nat_le x.word.number n then changes c x.outcomes v else v) fs.1 d.1 l t
      ∙ cond_both (leb x.word.number n) (changes c x.outcomes v) v (λ (z : ℕ → X). z l ≡ v l) (λ _. only c f x v l fs.0 (d.0 l t))
      (λ _. refl)

  -- records up to n that write nothing at l leave it
  pub view_still : (xs : List (Committed Out)) (n : ℕ) (v : ℕ → X) (l : ℕ) → AllFit c xs
      → AllRecords (λ x. (x.number ≤ n → touched x.calls l ≡ false)) (words xs) → view c xs n v l ≡ v l
  view_still [] n v l fs a = refl
  view_still (x ∷ xs) n v l fs a =
      view_still xs n (if nat_le x.word.number n then changes c x.outcomes v else v) l fs.1 a.1
      ∙ cond_both (leb x.word.number n) (changes c x.outcomes v) v (λ (z : ℕ → X). z l ≡ v l)
      (λ t. only c f x v l fs.0 (a.0 (leb-true x.word.number n t))) (λ _. refl)

  -- records above n are nothing up to n
  pub view_above : (r : Committed Out) (xs : List (Committed Out)) (n : ℕ) (v : ℕ → X) → AllFrom r.word (words xs) → n < r.word.number
      → (l : ℕ) → view c xs n v l ≡ v l
  view_above r [] n v a h l = refl
  view_above r (x ∷ xs) n v a h l =
      ap (λ (z : ℕ → X). view c xs n z l)
      (cond-false (leb x.word.number n) (changes c x.outcomes v) v (lt-leb x.word.number n (omega (arith, h, a.0.0))))
      ∙ view_above r xs n v a.1 h l

  last_rest : (r x : Committed Out) (xs : List (Committed Out)) → IsLast r (x ∷ xs) → IsLast r xs
  last_rest r x xs h l t = omega (arith, h l t, stamp_rest x.word (words xs) l)

  apart_from : (r : Committed Out) (xs : List (Committed Out)) → AllFrom r.word (words xs) → IsLast r xs → Apart r xs
  apart_from r [] a h = tt
  apart_from r (x ∷ xs) a h = (
    (λ l t. elim (cases_Bool (touched x.word.calls l)) [
      | inl u ↦ absurd
          (omega (arith, stamp_head x.word (words xs) l u, h l t, a.0.0))
      | inr u ↦ u
    ]),
    apart_from r xs a.1 (last_rest r x xs h),
  )

  -- a commit in the middle changes nothing where it doesn't write
  pub view_insert_other : (r : Committed Out) (h : List (Committed Out)) (n : ℕ) (v : ℕ → X) → Fits c r → AllFit c h → IsInOrder (words h)
      → IsNew r.word (words h) → IsLast r h → (l : ℕ) → touched r.word.calls l ≡ false → view c (insert_commit r h) n v l ≡ view c h n v l
  unfolding insert_commit
  view_insert_other r [] n v fr fs o new lst l u = cond_both (leb r.word.number n) (changes c r.outcomes v) v (λ (z : ℕ → X). z l ≡ v l)
      (λ _. only c f r v l fr u) (λ _. refl)
  view_insert_other r (x ∷ xs) n v fr fs o new lst l u =
      cond_both (comes_before r.word x.word) (r ∷ (x ∷ xs)) (x ∷ insert_commit r xs)
      (λ (z : List (Committed Out)). view c z n v l ≡ view c (x ∷ xs) n v l)
      (λ b. let p = in_order-before r.word x.word b new.0 in
      view_apart r (x ∷ xs) n (if nat_le r.word.number n then changes c r.outcomes v else v) v fs
      (apart_from r (x ∷ xs) (p, AllFrom_through r.word x.word (words xs) p o.0) lst)
      (λ i g. cond_both (leb r.word.number n) (changes c r.outcomes v) v (λ (z : ℕ → X). z i ≡ v i) (λ _. only c f r v i fr g)
      (λ _. refl)) l u)
      (λ b. view_insert_other r xs n (if nat_le x.word.number n then changes c x.outcomes v else v) fr fs.1 o.1 new.1
      (last_rest r x xs lst) l u)

  -- where it writes, it leaves its changes of the parts just below its number
  pub view_insert_own : (r : Committed Out) (h : List (Committed Out)) (n : ℕ) (v : ℕ → X) → Fits c r → AllFit c h → IsInOrder (words h)
      → IsNew r.word (words h) → IsLast r h → r.word.writer ≡ true → 0 < r.word.number → r.word.number ≤ n
      → (l : ℕ) → touched r.word.calls l ≡ true → view c (insert_commit r h) n v l ≡ changes c r.outcomes (view c h (r.word.number - 1) v) l
  unfolding insert_commit
  view_insert_own r [] n v fr fs o new lst w pos le l t = ap (λ (z : ℕ → X). z l)
      (cond-true (leb r.word.number n) (changes c r.outcomes v) v (le-leb r.word.number n le))
  view_insert_own r (x ∷ xs) n v fr fs o new lst w pos le l t =
      cond_both (comes_before r.word x.word) (r ∷ (x ∷ xs)) (x ∷ insert_commit r xs)
      (λ (z : List (Committed Out)). view c z n v l ≡ changes c r.outcomes (view c (x ∷ xs) (r.word.number - 1) v) l)
      (λ b. let p = in_order-before r.word x.word b new.0 in
      let a : AllFrom r.word (words (x ∷ xs)) = (p, AllFrom_through r.word x.word (words xs) p o.0) in
      ap (λ (z : ℕ → X). view c (x ∷ xs) n z l) (cond-true (leb r.word.number n) (changes c r.outcomes v) v (le-leb r.word.number n le))
      ∙ view_own r (x ∷ xs) n (changes c r.outcomes v) fs (apart_from r (x ∷ xs) a lst) l t
      ∙ local c f r v (view c (x ∷ xs) (r.word.number - 1) v) l fr t
      (λ i _ _. sym (view_above r (x ∷ xs) (r.word.number - 1) v a (omega (arith, pos)) i)))
      (λ b. let p = in_order-after r.word x.word b in
      let below : x.word.number ≤ r.word.number - 1 = elim (cases_lt x.word.number r.word.number) [
        | inl lt ↦ omega (arith, lt)
        | inr ge ↦ absurd (true≢false (sym w ∙ p.1 (omega (arith, ge, p.0))))
      ] in
      ap (λ (z : ℕ → X). view c (insert_commit r xs) n z l)
      (cond-true (leb x.word.number n) (changes c x.outcomes v) v (le-leb x.word.number n (omega (arith, below, le))))
      ∙ view_insert_own r xs n (changes c x.outcomes v) fr fs.1 o.1 new.1 (last_rest r x xs lst) w pos le l t
      ∙ ap (λ (z : ℕ → X). changes c r.outcomes (view c xs (r.word.number - 1) z) l)
      (sym (cond-true (leb x.word.number (r.word.number - 1)) (changes c x.outcomes v) v
      (le-leb x.word.number (r.word.number - 1) below))))

  below_number : (r : Committed Out) (h : List (Committed Out)) (m : ℕ) (v : ℕ → X) → m < r.word.number → (l : ℕ)
      → view c (insert_commit r h) m v l ≡ view c h m v l
  unfolding insert_commit
  below_number r [] m v lt l = ap (λ (z : ℕ → X). z l)
      (cond-false (leb r.word.number m) (changes c r.outcomes v) v (lt-leb r.word.number m lt))
  below_number r (x ∷ xs) m v lt l =
      cond_both (comes_before r.word x.word) (r ∷ (x ∷ xs)) (x ∷ insert_commit r xs)
      (λ (z : List (Committed Out)). view c z m v l ≡ view c (x ∷ xs) m v l)
      (λ _. ap (λ (z : ℕ → X). view c (x ∷ xs) m z l)
      (cond-false (leb r.word.number m) (changes c r.outcomes v) v (lt-leb r.word.number m lt)))
      (λ _. below_number r xs m (if nat_le x.word.number m then changes c x.outcomes v else v) lt l)

  -- a copied part remains the part of its edition: a commit that writes l gives it another edition
  pub Knows-insert : (r : Committed Out) (h : List (Committed Out)) (opening : ℕ → ℕ) (parts : ℕ → X) (l edition : ℕ) (part : X)
      → Fits c r → AllFit c h → IsInOrder (words h) → IsNew r.word (words h) → IsLast r h
      → (touched r.word.calls l ≡ true → finals (insert r.word (words h)) l (opening l) ≡ edition → ⊥)
      → Knows c h opening parts l edition part → Knows c (insert_commit r h) opening parts l edition part
  Knows-insert r h opening parts l edition part fr fs o new lst other k m at_new =
      let is : settled (insert r.word (words h)) m l (opening l) ≡ edition = ap (λ (z : List Record). settled z m l (opening l))
      (sym (words-insert r h)) ∙ at_new in
      elim (cases_Bool (touched r.word.calls l)) [
        | inr u ↦ view_insert_other r h m parts fr fs o new lst l u ∙ k m (sym (settled_untouched r.word (words h) m l (opening l) u) ∙ is)
        | inl t ↦ elim (cases_lt m r.word.number) [
          | inl lt ↦ below_number r h m parts lt l ∙ k m (sym (settled_later r.word (words h) m l (opening l) lt) ∙ is)
          | inr ge ↦
              let top : stamp (insert r.word (words h)) l ≤ m = omega (arith, stamp_touched r.word (words h) l t, lst l t, ge) in
              absurd (other t (sym (settled_all (insert r.word (words h)) m l (opening l) top) ∙ is))
        ]
      ]

  view_ahead : (r : Committed Out) (xs : List (Committed Out)) (n : ℕ) (v : ℕ → X) (l : ℕ) → AllFit c xs → AllFrom r.word (words xs)
      → n < r.word.number → AllRecords (λ r. (n < r.number → touched r.calls l ≡ false)) (words xs) → views c xs v l ≡ v l
  view_ahead r [] n v l fs a lt u = refl
  view_ahead r (x ∷ xs) n v l fs a lt u =
      view_ahead r xs n (changes c x.outcomes v) l fs.1 a.1 lt u.1 ∙ only c f x v l fs.0 (u.0 (omega (arith, lt, a.0.0)))

  -- with no writer of l above n, l holds what it does at n
  pub views_at : (h : List (Committed Out)) (n : ℕ) (v : ℕ → X) (l : ℕ) → AllFit c h → IsInOrder (words h)
      → AllRecords (λ r. (n < r.number → touched r.calls l ≡ false)) (words h) → views c h v l ≡ view c h n v l
  views_at [] n v l fs o u = refl
  views_at (x ∷ xs) n v l fs o u =
      elim (cases_Bool (leb x.word.number n)) [
        | inl t ↦ views_at xs n (changes c x.outcomes v) l fs.1 o.1 u.1 ∙ ap (λ (z : ℕ → X). view c xs n z l)
            (sym (cond-true (leb x.word.number n) (changes c x.outcomes v) v t))
        | inr t ↦
            let lt : n < x.word.number = leb-false x.word.number n t in
            view_ahead x xs n (changes c x.outcomes v) l fs.1 o.0 lt u.1 ∙ only c f x v l fs.0 (u.0 lt)
            ∙ sym (ap (λ (z : ℕ → X). view c xs n z l) (cond-false (leb x.word.number n) (changes c x.outcomes v) v t)
            ∙ view_above x xs n v o.0 lt l)
      ]

  -- what a base holds is known by its edition
  pub Knows-now : (h : List (Committed Out)) (opening : ℕ → ℕ) (parts : ℕ → X) (top l : ℕ) → AllFit c h → IsInOrder (words h)
      → AllRecords (λ r. r.number ≤ top) (words h) → IsEdition (words h) l (opening l)
      → Knows c h opening parts l (settled (words h) top l (opening l)) (views c h parts l)
  Knows-now h opening parts top l fs o all e m is =
      let same : count (words h) m l ≡ count (words h) top l = (let a = e m in let b = e top in omega (arith, a, b, is)) in
      elim (cases_lt top m) [
        | inl lt ↦ sym (views_at h m parts l fs o
            (AllRecords_map (λ r. r.number ≤ top) (λ r. (m < r.number → touched r.calls l ≡ false)) (words h)
            (λ r q g. absurd (omega (arith, q, g, lt))) all))
        | inr ge ↦ sym (views_at h m parts l fs o (no_writer (words h) m top l ge all same))
      ]

  pub views_all : (h : List (Committed Out)) (top : ℕ) (v : ℕ → X) (l : ℕ) → AllRecords (λ r. r.number ≤ top) (words h) → views c h v l
      ≡ view c h top v l
  views_all [] top v l a = refl
  views_all (x ∷ xs) top v l a =
      views_all xs top (changes c x.outcomes v) l a.1
      ∙ ap (λ (z : ℕ → X). view c xs top z l)
      (sym (cond-true (leb x.word.number top) (changes c x.outcomes v) v (le-leb x.word.number top a.0)))

  -- above its stamp nobody writes l
  pub quiet_above : (h : List (Committed Out)) (l n : ℕ) → stamp (words h) l ≤ n
      → AllRecords (λ r. (n < r.number → touched r.calls l ≡ false)) (words h)
  quiet_above [] l n s = tt
  quiet_above (x ∷ xs) l n s = (
    (λ lt. elim (cases_Bool (touched x.word.calls l)) [
      | inr u ↦ u
      | inl t ↦ absurd
          (omega (arith, stamp_head x.word (words xs) l t, s, lt))
    ]),
    quiet_above xs l n (omega (arith, stamp_rest x.word (words xs) l, s)),
  )
