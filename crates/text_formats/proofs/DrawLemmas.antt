-- Draws, one after another: one more at the end, and how many there are.
use Rattle.std.proofs.Common.{◌≡◌, ℕ, zero, suc, ◌+◌, List, [], ◌∷◌, ◌++◌, length, refl, ap, ◌∙◌, sym, subst, arith}
use Rattle.rand_core.specs.Stream.{Stream}
use Rattle.rand.specs.Draw.{Gives}
use Rattle.text_formats.specs.Draws.{Draw, times}

module _ {A : Type 0} (draw : Draw A) where
  more : (n : ℕ) (s : Stream)
      → times (suc n) draw s ≡ ((times n draw s).0 ++ (draw (times n draw s).1).0 ∷ [], (draw (times n draw s).1).1)
  more zero s = refl
  more (suc n) s = ap (λ d. ((draw s).0 ∷ d.0, d.1)) (more n (draw s).1)

  -- n draws and then another are one draw more
  pub one_more : (n : ℕ) (s t u : Stream) (xs : List A) (x : A) → Gives (times n draw) s xs t → Gives draw t x u
      → Gives (times (suc n) draw) s (xs ++ x ∷ []) u
  one_more n s t u xs x before then =
      let xs_are : xs ≡ (times n draw s).0 = ap (λ d. d.0) before in
      let t_is : t ≡ (times n draw s).1 = ap (λ d. d.1) before in
      let last : (x, u) ≡ draw (times n draw s).1 = then ∙ ap draw t_is in
      (λ i. (xs_are i ++ (last i).0 ∷ [], (last i).1)) ∙ sym (more n s)

  pub as_many : (n : ℕ) (s : Stream) → length (times n draw s).0 ≡ n
  as_many zero s = refl
  as_many (suc n) s = ap suc (as_many n (draw s).1)

  pub drawn_on : (n : ℕ) (s t u : Stream) (xs ys : List A) (x : A) → Gives (times n draw) s xs t → Gives draw t x u → ys ≡ xs ++ x ∷ []
      → Gives (times (n + 1) draw) s ys u
  drawn_on n s t u xs ys x before then are =
      let next : suc n ≡ n + 1 = omega arith in
      subst (λ zs. Gives (times (n + 1) draw) s zs u) (sym are)
      (subst (λ k. Gives (times k draw) s (xs ++ x ∷ []) u) next (one_more n s t u xs x before then))

  pub counted : (n : ℕ) (s t : Stream) (xs : List A) → Gives (times n draw) s xs t → length xs ≡ n
  counted n s t xs drawn = ap (λ d. length d.0) drawn ∙ as_many n s
