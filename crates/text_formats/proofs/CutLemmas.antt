-- Cutting a text into lines. The place of the first line feed, as it is searched for, is that of the first cut of the definition: what
-- stands before it is the first piece, and what stands after it has the other pieces.
use Rattle.std.proofs.Common.{rules, arith, refl, sym, ap, ◌∙◌, ◌≡◌, ℕ, ◌+◌, ◌-◌, ◌<◌, ◌≤◌, true, false, cond, List, [], ◌∷◌, length, take}
use Rattle.std.proofs.Common.{take_all, drop, drop-drop, length-drop, Option, Some, None}
use Rattle.std.specs.Prelude.{◌==◌}
use Rattle.std.specs.List.{onto_first, position_or_len}
use Rattle.std.proofs.lemmas.List.Splits.{slice_split_none, slice_split_first}
use Rattle.std.proofs.lemmas.List.Elements.{All-from_get_or}
use Rattle.std.proofs.lemmas.List.Sums.{fails_before_first}
use Rattle.std.proofs.lemmas.Bool.Decides.{nat_tests}
use lib.Dec.{ltb}
use Rattle.text_formats.specs.Cuts.{pieces}

-- ---- the place of the first line feed, as it is searched for
abbrev pub feed_or_end : List ℕ → ℕ
feed_or_end text = position_or_len (λ byte. byte == 10) text

abbrev pub first_feed : List ℕ → Option ℕ
first_feed text = cond (ltb (feed_or_end text) (length text)) (Some (feed_or_end text)) None

past : (place end : ℕ) → None ≡ cond (ltb place end) (Some place) None → end ≤ place
past place end e = elim (ltb place end) as (λ b. ltb place end ≡ b → None ≡ cond b (Some place) None → end ≤ place) [
  | true ↦ λ _ f. search (rules, f)
  | false ↦ λ t f. grind (arith, nat_tests)
] refl e

within : (place end at : ℕ) → Some at ≡ cond (ltb place end) (Some place) None → (place < end) × (at ≡ place)
within place end at e =
    elim (ltb place end) as (λ b. ltb place end ≡ b → Some at ≡ cond b (Some place) None → (place < end) × (at ≡ place)) [
      | true ↦ λ t f. (grind (arith, nat_tests), search (rules, f))
      | false ↦ λ _ f. search (rules, f)
    ] refl e

no_feed : (text : List ℕ) → length text ≤ feed_or_end text → pieces text ≡ text ∷ []
no_feed text le = slice_split_none (λ byte. byte == 10) text
    (All-from_get_or (λ byte. (byte == 10) ≡ false) text 0
    (λ i lt. fails_before_first (λ byte. byte == 10) text i 0 (omega (arith, lt, le))))

pub uncut : (text : List ℕ) (r : Option ℕ) → r ≡ first_feed text → r ≡ None → pieces text ≡ text ∷ []
uncut text r is none = no_feed text (past _ _ (sym none ∙ is))

pub cut_at : (text : List ℕ) (r : Option ℕ) (end : ℕ) → r ≡ first_feed text → r ≡ Some end
    → pieces text ≡ take end text ∷ pieces (drop (end + 1) text)
cut_at text r end is some =
    let found = within _ _ end (sym some ∙ is) in
    rw found.1 (slice_split_first (λ byte. byte == 10) text 0 found.0)

-- ---- there is always a piece
abbrev pub HasPiece : List (List ℕ) → Type 0
HasPiece parts = (piece : List ℕ) × (more : List (List ℕ)) × (parts ≡ piece ∷ more)

longer : (byte : ℕ) (parts : List (List ℕ)) → HasPiece parts → HasPiece (onto_first byte parts)
longer byte parts p = (byte ∷ p.0, p.1, ap (onto_first byte) p.2)

pub a_piece : (text : List ℕ) → HasPiece (pieces text)
a_piece [] = ([], [], refl)
a_piece (byte ∷ text) = elim (byte == 10) as (λ b. HasPiece (cond b ([] ∷ pieces text) (onto_first byte (pieces text)))) [
  | true ↦ ([], pieces text, refl)
  | false ↦ longer byte (pieces text) (a_piece text)
]

-- ---- the two parts of a text that is cut at its first line feed
all_of : (xs : List ℕ) (n : ℕ) → length xs ≡ n → take n xs ≡ xs
all_of xs n e = take_all n xs (omega (arith, e))

pub cut_parts : (text front back : List ℕ) (end : ℕ) → front ≡ take end text → back ≡ drop end text
    → pieces text ≡ take end text ∷ pieces (drop (end + 1) text)
    → pieces text ≡ front ∷ pieces (take (length back - 1) (drop 1 back))
cut_parts text front back end is-front is-back cut =
    let behind : take (length back - 1) (drop 1 back) ≡ drop (end + 1) text =
    all_of (drop 1 back) (length back - 1) (length-drop 1 back) ∙ ap (drop 1) is-back ∙ drop-drop 1 end text in
    rw (is-front, behind) cut
