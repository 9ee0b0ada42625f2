-- One more has been printed of a list, item by item.
use Rattle.std.proofs.Common.{◌≡◌, ◌∙◌, sym, ap, ℕ, suc, ◌+◌, ◌<◌, List, [], ◌∷◌, ◌++◌}
use Rattle.std.proofs.Common.{append_assoc, append-nil, arith, get_or, length, take}
use Rattle.std.specs.List.{flat_map}
use Rattle.std.proofs.Math.Seq.{take-suc}
use Rattle.std.proofs.lemmas.Grind.{flat_map-append}

pub printed_on : {X : Type 0} (f : X → List ℕ) (xs : List X) (i : ℕ) (x : X) (before now after : List ℕ) → i < length xs
    → x ≡ get_or xs i x → now ≡ before ++ flat_map f (take i xs) → after ≡ now ++ f x → after ≡ before ++ flat_map f (take (i + 1) xs)
printed_on {X} f xs i x before now after inside is so_far more =
    let next : suc i ≡ i + 1 = omega arith in
    let taken : take (i + 1) xs ≡ take i xs ++ x ∷ [] =
    ap (λ k. take k xs) (sym next) ∙ (take-suc xs i x inside ∙ ap (λ (y : X). take i xs ++ y ∷ []) (sym is)) in
    let all : flat_map f (take (i + 1) xs) ≡ flat_map f (take i xs) ++ f x =
    ap (λ (ys : List X). flat_map f ys) taken ∙ (flat_map-append f (take i xs) (x ∷ [])
    ∙ ap (λ (z : List ℕ). flat_map f (take i xs) ++ z) (append-nil (f x))) in
    more ∙ (ap (λ (z : List ℕ). z ++ f x) so_far ∙ (append_assoc before (flat_map f (take i xs)) (f x)
    ∙ ap (λ (z : List ℕ). before ++ z) (sym all)))
