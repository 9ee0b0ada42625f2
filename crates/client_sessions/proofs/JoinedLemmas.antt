-- Two lists one after the other: two others of the same lengths make the same list only where each is the same.
use Rattle.std.proofs.Common.{◌≡◌, List, ◌++◌, length, take, drop, refl, sym, ◌∙◌, ap}
use Rattle.std.proofs.lemmas.List.{append_assoc, take_at, drop_at}

module _ {X : Type 0} where
  pub same_parts : (xs ys zs ws : List X) → length xs ≡ length zs → xs ++ ys ≡ zs ++ ws → (xs ≡ zs) × (ys ≡ ws)
  same_parts xs ys zs ws n e = (
    sym (take_at xs ys (length xs) refl) ∙ ap (take (length xs)) e ∙ take_at zs ws (length xs) (sym n),
    sym (drop_at xs ys (length xs) refl) ∙ ap (drop (length xs)) e ∙ drop_at zs ws (length xs) (sym n),
  )

  -- one list is cut where the other's first part ends
  module _ (first then begins ends whole other : List X) (n : length begins ≡ length first) (cut : whole ≡ begins ++ ends) where
    pub same_to : first ++ then ≡ whole ++ other → (first ≡ begins) × (then ≡ ends ++ other)
    same_to e = same_parts first then begins (ends ++ other) (sym n) (e ∙ ap (λ l. l ++ other) cut ∙ append_assoc begins ends other)

    pub same_from : first ≡ begins → then ≡ ends ++ other → first ++ then ≡ whole ++ other
    same_from same rest =
        ap (λ l. l ++ then) same ∙ ap (λ l. begins ++ l) rest ∙ sym (append_assoc begins ends other) ∙ ap (λ l. l ++ other) (sym cut)
