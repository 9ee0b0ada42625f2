-- A history in the order of its numbers: what each location holds, and a record put in its place.
use Rattle.std.proofs.Common.{◌≡◌, ℕ, ◌-◌, ◌<◌, ◌≤◌, max, Bool, true, false, ltb, leb, List, [], ◌∷◌, ◌⊎◌, inl, inr, refl, sym, ap, ◌∙◌}
use Rattle.std.proofs.Common.{arith, true≢false, ltb-false, ltb-true, le-leb, leb-true}
use Rattle.std.specs.Prelude.{nat_le, if◌then◌else◌}
use Rattle.std.proofs.lemmas.Bool.{lt-leb, cond_both, cond-true, cond-false, cases_Bool, cases_lt}
use Rattle.tx_machine.specs.World.{Memory, Record, insert, comes_before}
use Rattle.tx_machine.specs.Opacity.{after, memory_after, upto, IsLegal, IsRun, InOrder, AllFrom, IsInOrder}
use Rattle.tx_machine.proofs.Calls.{touched, final, after-final, final_untouched, final_touched, IsLegal-same}

-- what l holds, from d, after the records with a number of at most n
abbrev pub settled : List Record → ℕ → ℕ → ℕ → ℕ
settled [] n l d = d
settled (r ∷ rs) n l d = settled rs n l (if nat_le r.number n then final r.calls l d else d)

-- the same after all of them
abbrev pub finals : List Record → ℕ → ℕ → ℕ
finals [] l d = d
finals (r ∷ rs) l d = finals rs l (final r.calls l d)

-- the greatest number of a record that writes l, 0 where there is none
abbrev pub stamp : List Record → ℕ → ℕ
stamp [] l = 0
stamp (r ∷ rs) l = if touched r.calls l then max r.number (stamp rs l) else stamp rs l

pub memory_after-upto : (h : List Record) (m : Memory) (n l : ℕ) → memory_after m (upto n h) l ≡ settled h n l (m l)
unfolding memory_after upto
memory_after-upto [] m n l = refl
memory_after-upto (r ∷ rs) m n l =
    elim (cases_Bool (leb r.number n)) [
      | inl e ↦ ap (λ (z : List Record). memory_after m z l) (cond-true (leb r.number n) (r ∷ upto n rs) (upto n rs) e)
          ∙ memory_after-upto rs (after m r.calls) n l
          ∙ ap (settled rs n l) (after-final r.calls m l ∙ sym (cond-true (leb r.number n) (final r.calls l (m l)) (m l) e))
      | inr e ↦ ap (λ (z : List Record). memory_after m z l) (cond-false (leb r.number n) (r ∷ upto n rs) (upto n rs) e)
          ∙ memory_after-upto rs m n l
          ∙ ap (settled rs n l) (sym (cond-false (leb r.number n) (final r.calls l (m l)) (m l) e))
    ]

pub memory_after-finals : (h : List Record) (m : Memory) (l : ℕ) → memory_after m h l ≡ finals h l (m l)
unfolding memory_after
memory_after-finals [] m l = refl
memory_after-finals (r ∷ rs) m l = memory_after-finals rs (after m r.calls) l ∙ ap (finals rs l) (after-final r.calls m l)

-- the stamp of a list by its parts
pub stamp_rest : (r : Record) (rs : List Record) (l : ℕ) → stamp rs l ≤ stamp (r ∷ rs) l
stamp_rest r rs l = cond_both (touched r.calls l) (max r.number (stamp rs l)) (stamp rs l) (λ z. stamp rs l ≤ z) (λ _. omega arith)
    (λ _. omega arith)

pub stamp_head : (r : Record) (rs : List Record) (l : ℕ) → touched r.calls l ≡ true → r.number ≤ stamp (r ∷ rs) l
stamp_head r rs l h = let e = cond-true (touched r.calls l) (max r.number (stamp rs l)) (stamp rs l) h in omega (arith, e)

-- records above the stamp don't write l
pub settled_all : (h : List Record) (n l d : ℕ) → stamp h l ≤ n → settled h n l d ≡ finals h l d
settled_all [] n l d b = refl
settled_all (r ∷ rs) n l d b =
    let rest : stamp rs l ≤ n = omega (arith, stamp_rest r rs l) in
    settled_all rs n l (if nat_le r.number n then final r.calls l d else d) rest
    ∙ ap (finals rs l) (elim (cases_Bool (touched r.calls l)) [
      | inl t ↦ cond-true (leb r.number n) (final r.calls l d) d (le-leb r.number n (omega (arith, stamp_head r rs l t)))
      | inr f ↦ cond_both (leb r.number n) (final r.calls l d) d (λ z. z ≡ final r.calls l d) (λ _. refl)
          (λ _. sym (final_untouched r.calls l d f))
    ])

-- a record that doesn't write l, put in its place
pub stamp_untouched : (r : Record) (h : List Record) (l : ℕ) → touched r.calls l ≡ false → stamp (insert r h) l ≡ stamp h l
unfolding insert
stamp_untouched r [] l f = cond-false (touched r.calls l) (max r.number 0) 0 f
stamp_untouched r (x ∷ xs) l f =
    cond_both (comes_before r x) (r ∷ (x ∷ xs)) (x ∷ insert r xs) (λ z. stamp z l ≡ stamp (x ∷ xs) l)
    (λ _. cond-false (touched r.calls l) (max r.number (stamp (x ∷ xs) l)) (stamp (x ∷ xs) l) f)
    (λ _. ap (λ (z : ℕ). if touched x.calls l then max x.number z else z) (stamp_untouched r xs l f))

pub stamp_touched : (r : Record) (h : List Record) (l : ℕ) → touched r.calls l ≡ true → stamp (insert r h) l ≡ max r.number (stamp h l)
unfolding insert
stamp_touched r [] l f = cond-true (touched r.calls l) (max r.number 0) 0 f
stamp_touched r (x ∷ xs) l f =
    cond_both (comes_before r x) (r ∷ (x ∷ xs)) (x ∷ insert r xs) (λ z. stamp z l ≡ max r.number (stamp (x ∷ xs) l))
    (λ _. cond-true (touched r.calls l) (max r.number (stamp (x ∷ xs) l)) (stamp (x ∷ xs) l) f)
    (λ _. ap (λ (z : ℕ). if touched x.calls l then max x.number z else z) (stamp_touched r xs l f)
    ∙ elim (cases_Bool (touched x.calls l)) [
      | inl t ↦ cond-true (touched x.calls l) (max x.number (max r.number (stamp xs l))) (max r.number (stamp xs l)) t
          ∙ (let e : max x.number (max r.number (stamp xs l)) ≡ max r.number (max x.number (stamp xs l)) = omega arith in e)
          ∙ ap (max r.number) (sym (cond-true (touched x.calls l) (max x.number (stamp xs l)) (stamp xs l) t))
      | inr t ↦ cond-false (touched x.calls l) (max x.number (max r.number (stamp xs l))) (max r.number (stamp xs l)) t
          ∙ ap (max r.number) (sym (cond-false (touched x.calls l) (max x.number (stamp xs l)) (stamp xs l) t))
    ])

pub settled_untouched : (r : Record) (h : List Record) (n l d : ℕ) → touched r.calls l ≡ false → settled (insert r h) n l d
    ≡ settled h n l d
unfolding insert
settled_untouched r [] n l d f = cond_both (leb r.number n) (final r.calls l d) d (λ z. z ≡ d) (λ _. final_untouched r.calls l d f)
    (λ _. refl)
settled_untouched r (x ∷ xs) n l d f =
    cond_both (comes_before r x) (r ∷ (x ∷ xs)) (x ∷ insert r xs) (λ z. settled z n l d ≡ settled (x ∷ xs) n l d)
    (λ _. ap (settled (x ∷ xs) n l) (cond_both (leb r.number n) (final r.calls l d) d (λ z. z ≡ d) (λ _. final_untouched r.calls l d f)
    (λ _. refl)))
    (λ _. settled_untouched r xs n l (if nat_le x.number n then final x.calls l d else d) f)

pub settled_later : (r : Record) (h : List Record) (n l d : ℕ) → n < r.number → settled (insert r h) n l d ≡ settled h n l d
unfolding insert
settled_later r [] n l d f = cond-false (leb r.number n) (final r.calls l d) d (lt-leb r.number n f)
settled_later r (x ∷ xs) n l d f =
    cond_both (comes_before r x) (r ∷ (x ∷ xs)) (x ∷ insert r xs) (λ z. settled z n l d ≡ settled (x ∷ xs) n l d)
    (λ _. ap (settled (x ∷ xs) n l) (cond-false (leb r.number n) (final r.calls l d) d (lt-leb r.number n f)))
    (λ _. settled_later r xs n l (if nat_le x.number n then final x.calls l d else d) f)

pub finals_untouched : (r : Record) (h : List Record) (l d : ℕ) → touched r.calls l ≡ false → finals (insert r h) l d ≡ finals h l d
unfolding insert
finals_untouched r [] l d f = final_untouched r.calls l d f
finals_untouched r (x ∷ xs) l d f =
    cond_both (comes_before r x) (r ∷ (x ∷ xs)) (x ∷ insert r xs) (λ z. finals z l d ≡ finals (x ∷ xs) l d)
    (λ _. ap (finals (x ∷ xs) l) (final_untouched r.calls l d f))
    (λ _. finals_untouched r xs l (final x.calls l d) f)

-- order
pub AllFrom_through : (r x : Record) (xs : List Record) → InOrder r x → AllFrom x xs → AllFrom r xs
AllFrom_through r x [] o a = tt
AllFrom_through r x (y ∷ ys) o a = (
  (
    omega (arith, o.0, a.0.0),
    λ e. a.0.1 (omega (arith, o.0, a.0.0, e)),
    λ e w.
        let same : r.number ≡ x.number = omega (arith, o.0, a.0.0, e) in
        omega (arith, o.2 same w, a.0.2 (omega (arith, o.0, a.0.0, e)) (o.1 same)),
  ),
  AllFrom_through r x ys o a.1,
)

-- no writer of h has r's number, if r is one
abbrev pub IsNew : Record → List Record → Type 0
IsNew r [] = Unit {0}
IsNew r (x ∷ xs) = (r.writer ≡ true → x.writer ≡ true → r.number ≡ x.number → ⊥) × IsNew r xs

pub in_order-before : (r x : Record) → comes_before r x ≡ true → (r.writer ≡ true → x.writer ≡ true → r.number ≡ x.number → ⊥) → InOrder r x
unfolding comes_before
in_order-before r x c new =
    elim (cases_Bool (ltb r.number x.number)) [
      | inl t ↦ let h = ltb-true r.number x.number t in
          (omega (arith, h), λ e. absurd (omega (arith, h, e)), λ e w. absurd (omega (arith, h, e)))
      | inr t ↦
          let h = ltb-false r.number x.number t in
          let c2 = sym (cond-false (ltb r.number x.number) true
          (if ltb x.number r.number then false
          else (if r.writer then true else (if x.writer then false else ltb r.actor x.actor))) t) ∙ c in
          elim (cases_Bool (ltb x.number r.number)) [
            | inl u ↦ absurd (true≢false (sym c2
                ∙ cond-true (ltb x.number r.number) false (if r.writer then true else (if x.writer then false else ltb r.actor x.actor)) u))
            | inr u ↦
                let g = ltb-false x.number r.number u in
                let c3 = sym (cond-false (ltb x.number r.number) false
                (if r.writer then true else (if x.writer then false else ltb r.actor x.actor)) u) ∙ c2 in (
                  omega (arith, g),
                  λ e. elim (cases_Bool x.writer) [
                    | inr f ↦ f
                    | inl w ↦ elim (cases_Bool r.writer) [
                      | inl v ↦ absurd (new v w e)
                      | inr v ↦ absurd (true≢false
                          (sym c3 ∙ cond-false r.writer true (if x.writer then false else ltb r.actor x.actor) v
                          ∙ cond-true x.writer false (ltb r.actor x.actor) w))
                    ]
                  ],
                  λ e v.
                      let c4 = sym (cond-false r.writer true (if x.writer then false else ltb r.actor x.actor) v) ∙ c3 in
                      elim (cases_Bool x.writer) [
                        | inl w ↦ absurd (true≢false (sym c4 ∙ cond-true x.writer false (ltb r.actor x.actor) w))
                        | inr w ↦ let less = ltb-true r.actor x.actor
                            (sym (cond-false x.writer false (ltb r.actor x.actor) w) ∙ c4) in omega (arith, less)
                      ],
                )
          ]
    ]

pub in_order-after : (r x : Record) → comes_before r x ≡ false → InOrder x r
unfolding comes_before
in_order-after r x c =
    elim (cases_Bool (ltb r.number x.number)) [
      | inl t ↦ absurd (true≢false (sym (cond-true (ltb r.number x.number) true
          (if ltb x.number r.number then false else (if r.writer then true else (if x.writer then false else ltb r.actor x.actor))) t) ∙ c))
      | inr t ↦
          let h = ltb-false r.number x.number t in
          let c2 = sym (cond-false (ltb r.number x.number) true
          (if ltb x.number r.number then false
          else (if r.writer then true else (if x.writer then false else ltb r.actor x.actor))) t) ∙ c in
          elim (cases_Bool (ltb x.number r.number)) [
            | inl u ↦ let k = ltb-true x.number r.number u in
                (omega (arith, h), λ e. absurd (omega (arith, k, e)), λ e w. absurd (omega (arith, k, e)))
            | inr u ↦
                let c3 = sym (cond-false (ltb x.number r.number) false
                (if r.writer then true else (if x.writer then false else ltb r.actor x.actor)) u) ∙ c2 in (
                  omega (arith, h),
                  λ e. elim (cases_Bool r.writer) [
                    | inr v ↦ v
                    | inl v ↦ absurd (true≢false (sym (cond-true r.writer true (if x.writer then false else ltb r.actor x.actor) v) ∙ c3))
                  ],
                  λ e w. elim (cases_Bool r.writer) [
                    | inl v ↦ absurd (true≢false (sym (cond-true r.writer true (if x.writer then false else ltb r.actor x.actor) v) ∙ c3))
                    | inr v ↦
                        let c4 = sym (cond-false x.writer false (ltb r.actor x.actor) w)
                        ∙ sym (cond-false r.writer true (if x.writer then false else ltb r.actor x.actor) v) ∙ c3 in
                        let most = ltb-false r.actor x.actor c4 in omega (arith, most)
                  ],
                )
          ]
    ]

AllFrom-insert : (x r : Record) (xs : List Record) → InOrder x r → AllFrom x xs → AllFrom x (insert r xs)
unfolding insert
AllFrom-insert x r [] o a = (o, tt)
AllFrom-insert x r (y ∷ ys) o a =
    cond_both (comes_before r y) (r ∷ (y ∷ ys)) (y ∷ insert r ys) (AllFrom x)
    (λ _. (o, a)) (λ _. (a.0, AllFrom-insert x r ys o a.1))

pub IsInOrder-insert : (r : Record) (h : List Record) → IsInOrder h → IsNew r h → IsInOrder (insert r h)
unfolding insert
IsInOrder-insert r [] s n = (tt, tt)
IsInOrder-insert r (x ∷ xs) s n =
    cond_both (comes_before r x) (r ∷ (x ∷ xs)) (x ∷ insert r xs) IsInOrder
    (λ c. let o = in_order-before r x c n.0 in ((o, AllFrom_through r x xs o s.0), s))
    (λ c. (AllFrom-insert x r xs (in_order-after r x c) s.0, IsInOrder-insert r xs s.1 n.1))

-- records from a number on, all above the stamp of l, don't write l
finals_above : (r : Record) (h : List Record) (l d : ℕ) → AllFrom r h → stamp h l < r.number → finals h l d ≡ d
finals_above r [] l d a s = refl
finals_above r (x ∷ xs) l d a s =
    elim (cases_Bool (touched x.calls l)) [
      | inl t ↦ absurd (omega (arith, stamp_head x xs l t, a.0.0, s))
      | inr f ↦ finals_above r xs l (final x.calls l d) a.1 (omega (arith, stamp_rest x xs l, s)) ∙ final_untouched x.calls l d f
    ]

-- a record that writes l, with a greater number than all that do, is the last to write it
pub finals_touched : (r : Record) (h : List Record) (l d : ℕ) → IsInOrder h → IsNew r h → touched r.calls l ≡ true → stamp h l < r.number
    → finals (insert r h) l d ≡ final r.calls l 0
unfolding insert
finals_touched r [] l d s n t b = final_touched r.calls l d 0 t
finals_touched r (x ∷ xs) l d s n t b =
    cond_both (comes_before r x) (r ∷ (x ∷ xs)) (x ∷ insert r xs) (λ z. finals z l d ≡ final r.calls l 0)
    (λ c. let o = in_order-before r x c n.0 in
    finals_above r (x ∷ xs) l (final r.calls l d) (o, AllFrom_through r x xs o s.0) b ∙ final_touched r.calls l d 0 t)
    (λ c. finals_touched r xs l (final x.calls l d) s.1 n.1 t (omega (arith, stamp_rest x xs l, b)))

-- What holds of each record.
abbrev pub AllRecords : (Record → Type 0) → List Record → Type 0
AllRecords P [] = Unit {0}
AllRecords P (r ∷ rs) = P r × AllRecords P rs

pub AllRecords_map : (P Q : Record → Type 0) (h : List Record) → ((r : Record) → P r → Q r) → AllRecords P h → AllRecords Q h
AllRecords_map P Q [] f a = tt
AllRecords_map P Q (r ∷ rs) f a = (f r a.0, AllRecords_map P Q rs f a.1)

pub AllRecords-insert : (P : Record → Type 0) (r : Record) (h : List Record) → P r → AllRecords P h → AllRecords P (insert r h)
unfolding insert
AllRecords-insert P r [] p a = (p, tt)
AllRecords-insert P r (x ∷ xs) p a =
    cond_both (comes_before r x) (r ∷ (x ∷ xs)) (x ∷ insert r xs) (AllRecords P)
    (λ _. (p, a)) (λ _. (a.0, AllRecords-insert P r xs p a.1))

-- the number whose memory a record's calls saw
abbrev pub base : Bool → ℕ → ℕ
base true n = n - 1
base false n = n

-- each record is legal at the memory of its base
pub record LegalAt (h : List Record) (m : Memory) (r : Record) : Type 0 where
  pub legal : IsLegal (λ l. settled h (base r.writer r.number) l (m l)) r.calls
  pub positive : r.writer ≡ true → 0 < r.number
  pub reader : r.writer ≡ false → (l : ℕ) → touched r.calls l ≡ false

-- readers and later records are nothing to the memory before them
settled_from : (n : ℕ) (rs : List Record) (h : List Record) (m : Memory) (l d : ℕ)
    → AllRecords (λ x. (x.number ≤ n → touched x.calls l ≡ false)) rs → settled rs n l d ≡ d
settled_from n [] h m l d a = refl
settled_from n (x ∷ xs) h m l d a =
    elim (cases_Bool (leb x.number n)) [
      | inl t ↦ ap (settled xs n l) (cond-true (leb x.number n) (final x.calls l d) d t
          ∙ final_untouched x.calls l d (a.0 (leb-true x.number n t))) ∙ settled_from n xs h m l d a.1
      | inr f ↦ ap (settled xs n l) (cond-false (leb x.number n) (final x.calls l d) d f) ∙ settled_from n xs h m l d a.1
    ]

-- the records from r on, by r's order
no_write : (r : Record) (h : List Record) (m : Memory) (rs : List Record) (l n : ℕ) → AllFrom r rs → AllRecords (LegalAt h m) rs
    → (n < r.number) ⊎ ((n ≡ r.number) × (r.writer ≡ false)) → AllRecords (λ x. (x.number ≤ n → touched x.calls l ≡ false)) rs
no_write r h m [] l n a g c = tt
no_write r h m (x ∷ xs) l n a g c = (
  (λ q. elim c [
    | inl lt ↦ absurd (omega (arith, lt, q, a.0.0))
    | inr e ↦ (g.0).reader (a.0.1 (omega (arith, e.0, q, a.0.0))) l
  ]),
  no_write r h m xs l n a.1 g.1 c,
)

head_memory : (r : Record) (rs : List Record) (m : Memory) (l : ℕ) (w : Bool) → r.writer ≡ w → AllFrom r rs
    → AllRecords (LegalAt (r ∷ rs) m) rs → LegalAt (r ∷ rs) m r → settled (r ∷ rs) (base w r.number) l (m l) ≡ m l
head_memory r rs m l true e a g h =
    let p : 0 < r.number = h.positive e in
    let b : r.number - 1 < r.number = omega arith in
    ap (settled rs (r.number - 1) l) (cond-false (leb r.number (r.number - 1)) (final r.calls l (m l)) (m l)
    (lt-leb r.number (r.number - 1) b))
    ∙ settled_from (r.number - 1) rs (r ∷ rs) m l (m l) (no_write r (r ∷ rs) m rs l (r.number - 1) a g (inl b))
head_memory r rs m l false e a g h =
    ap (settled rs r.number l) (cond_both (leb r.number r.number) (final r.calls l (m l)) (m l) (λ z. z ≡ m l)
    (λ _. final_untouched r.calls l (m l) (h.reader e l)) (λ _. refl))
    ∙ settled_from r.number rs (r ∷ rs) m l (m l) (no_write r (r ∷ rs) m rs l r.number a g (inr (refl, e)))

-- what a later record saw, from after the first one
base_from : (r x : Record) (w : Bool) → x.writer ≡ w → InOrder r x → (x.writer ≡ true → 0 < x.number) → r.number ≤ base w x.number
base_from r x true e o p =
    elim (cases_lt r.number x.number) [
      | inl lt ↦ omega (arith, lt)
      | inr ge ↦ absurd (true≢false (sym e ∙ o.1 (omega (arith, ge, o.0))))
    ]
base_from r x false e o p = o.0

behind : (r : Record) (rs : List Record) (m : Memory) (x : Record) → InOrder r x → LegalAt (r ∷ rs) m x → LegalAt rs (after m r.calls) x
behind r rs m x o h =
    let b : r.number ≤ base x.writer x.number = base_from r x x.writer refl o h.positive in
    record {
      legal = IsLegal-same x.calls (λ l. settled (r ∷ rs) (base x.writer x.number) l (m l))
          (λ l. settled rs (base x.writer x.number) l (after m r.calls l))
          (λ l. ap (settled rs (base x.writer x.number) l)
          (cond-true (leb r.number (base x.writer x.number)) (final r.calls l (m l)) (m l)
          (le-leb r.number (base x.writer x.number) b) ∙ sym (after-final r.calls m l)))
          h.legal;
      positive = h.positive;
      reader = h.reader;
    }

all_behind : (r : Record) (rs : List Record) (m : Memory) (xs : List Record) → AllFrom r xs → AllRecords (LegalAt (r ∷ rs) m) xs
    → AllRecords (LegalAt rs (after m r.calls)) xs
all_behind r rs m [] a g = tt
all_behind r rs m (x ∷ xs) a g = (behind r rs m x a.0 g.0, all_behind r rs m xs a.1 g.1)

-- records that are each legal at their base are a run
pub IsRun-records : (h : List Record) (m : Memory) → IsInOrder h → AllRecords (LegalAt h m) h → IsRun m h
unfolding IsRun
IsRun-records [] m o g = tt
IsRun-records (r ∷ rs) m o g = (
  IsLegal-same r.calls (λ l. settled (r ∷ rs) (base r.writer r.number) l (m l)) m
      (λ l. head_memory r rs m l r.writer refl o.0 g.1 g.0) (g.0).legal,
  IsRun-records rs (after m r.calls) o.1 (all_behind r rs m rs o.0 g.1),
)
