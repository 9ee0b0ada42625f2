-- The blocks of the first collections, and the block of the next one, are those of one collection more.
use Rattle.std.proofs.Common.{◌≡◌, ℕ, zero, suc, ◌+◌, ◌<◌, List, [], ◌∷◌, ◌++◌, length, get_or, take}
use Rattle.std.proofs.Common.{sym, ap, ◌∙◌, arith}
use Rattle.seq_model.specs.declared.held.Held.{Held}
use Rattle.replay_log.specs.Collections.{kind_of_held}
use Rattle.replay_log.specs.Contents.{Block}
use Rattle.replay_log.specs.Parts as parts
use Rattle.step_core.proofs.Lists.{get_or_same}
use Rattle.actor_parts.specs.Blocks.{kind_of}
use Rattle.seq_model.specs.declared.kind.Kind.{Kind}
use Rattle.actor_parts.specs.Openings.{blocks_of}

module _ {V : Type 0} where
  laid_next : (ns : List ℕ) (hs : List (Held V)) (i n : ℕ) (h : Held V) → i < length ns → i < length hs → get_or ns i n ≡ n
      → get_or hs i h ≡ h
      → let b : Block = record { kind = kind_of_held h; stripes = n } in
      blocks_of (take (suc i) ns) (take (suc i) hs) ≡ blocks_of (take i ns) (take i hs) ++ b ∷ []
  laid_next [] hs i n h low inn at is = absurd (omega (arith, low))
  laid_next (m ∷ ns) [] i n h low inn at is = absurd (omega (arith, inn))
  laid_next (m ∷ ns) (g ∷ hs) zero n h low inn at is =
      let block = λ (k : ℕ) (x : Held V). let b : Block = record { kind = kind_of_held x; stripes = k } in b in
      ap (λ (k : ℕ). block k g ∷ []) at ∙ ap (λ (x : Held V). block n x ∷ []) is
  laid_next (m ∷ ns) (g ∷ hs) (suc i) n h low inn at is =
      let b : Block = record { kind = kind_of_held g; stripes = m } in
      ap (λ (bs : List Block). b ∷ bs) (laid_next ns hs i n h (omega (arith, low)) (omega (arith, inn)) at is)

  pub laid_more : (ns : List ℕ) (hs : List (Held V)) (i n : ℕ) (h : Held V) (bs : List Block) (b : Block) → i < length ns
      → length ns ≡ length hs → get_or ns i 0 ≡ n → get_or hs i h ≡ h → b ≡ record { kind = kind_of_held h; stripes = n }
      → bs ≡ blocks_of (take i ns) (take i hs) → bs ++ b ∷ [] ≡ blocks_of (take (i + 1) ns) (take (i + 1) hs)
  laid_more ns hs i n h bs b low same at is eb e =
      let more : suc i ≡ i + 1 = omega arith in
      ap (λ (x : List Block). x ++ b ∷ []) e ∙ (ap (λ (x : Block). blocks_of (take i ns) (take i hs) ++ x ∷ []) eb
      ∙ (sym (laid_next ns hs i n h low (omega (arith, low, same)) (get_or_same ns i n 0 low ∙ at) is)
      ∙ ap (λ (k : ℕ). blocks_of (take k ns) (take k hs)) more))

  pub kind_laid : (k : Kind) (h : Held V) (n : ℕ) → kind_of k ≡ kind_of_held h → let b : Block = record { kind = kind_of k; stripes = n } in
      let d : Block = record { kind = kind_of_held h; stripes = n } in b ≡ d
  kind_laid k h n e = ap (λ (x : parts.Kind). record { kind = x; stripes = n }) e
