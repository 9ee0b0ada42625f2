-- The one location that a call on a key reads is in its collection. What a copy holds it answers, where the call is of its block's kind; so
-- it refuses the call for memory alone.
use Rattle.std.proofs.Common.{◌≡◌, ℕ, ◌<◌, true, true≢false, Option, Some, None, [], ◌∷◌, refl, sym, ap, ◌∙◌, arith}
use Rattle.std.specs.Prelude.{IsSome, is_some}
use Rattle.std.specs.Ordering.{nat_cmp}
use Rattle.std.specs.FinMap.{FinMap}
use Rattle.seq_model.specs.Calls.{IsRefusal}
use Rattle.seq_model.specs.declared.call.Op.{Op}
use Rattle.seq_model.specs.declared.call.Op.TheVariants.{Get, Put, Remove, Len, Count, Add, Take}
use Rattle.seq_model.specs.declared.refusal.Refusal.{Refusal}
use Rattle.seq_model.specs.declared.refusal.Refusal.TheVariants.{NoSuch, Memory as OutOfMemory}
use Rattle.conflict.specs.declared.outcome.Outcome.{Outcome}
use Rattle.replay_log.specs.Base.{Shown, OfMap, OfBag, shown_of, stripes_of}
use Rattle.replay_log.specs.Contents.{Block}
use Rattle.replay_log.specs.Parts.{kind_of}
use Rattle.replay_log.specs.Worlds.{is_known}
use Rattle.shadow.specs.Memo.{answer_with, holds_with}
use Rattle.actor_parts.specs.declared.copies.PrivateCopy.{PrivateCopy}
use Rattle.actor_parts.specs.declared.copies.PrivateCopy.TheVariants.{Keys, Whole}
use Rattle.actor_parts.specs.PrivateCopy.{answer_of, holds_call}
use Rattle.actor_parts.specs.Footprints.{base_in, location_count, reads_in}
use Rattle.actor_parts.proofs.CopyAtGateLemmas.{known_at}
use Rattle.actor_parts.proofs.FootprintLemmas.{all_alike, reads_below}

pub only_memory : {A : Type 0} → (cause : Refusal) (o : Option A) → IsRefusal cause (o ≡ None) → IsSome o → (cause ≡ OutOfMemory → ⊥) → ⊥
only_memory NoSuch o refused some isnt = true≢false (sym some ∙ ap is_some refused)
only_memory OutOfMemory o refused some isnt = isnt refl
only_memory _ o refused some isnt = refused

module _ {V : Type 0} where
  pub key_below : (c : PrivateCopy V) (o : Outcome V) (l : ℕ) → 0 < stripes_of (base_in c) → reads_in c o ≡ l ∷ [] → l < location_count c
  key_below c o l pos e = all_alike (λ (i : ℕ). i < location_count c) (reads_in c o) (l ∷ []) e (reads_below c o pos) 0 l (omega arith)

  keys_answer : (s : Shown V) (es : FinMap nat_cmp (Option V)) (cs : FinMap nat_cmp ℕ) (total : Option ℕ) (grown shrunk : ℕ) (op : Op V)
      → holds_with s es cs total op ≡ true → IsSome (answer_with s es cs total grown shrunk op)
  keys_answer (OfMap b) es cs total grown shrunk Len h = refl
  keys_answer (OfMap b) es cs total grown shrunk (Get k) h = refl
  keys_answer (OfMap b) es cs total grown shrunk (Put k v) h = refl
  keys_answer (OfMap b) es cs total grown shrunk (Remove k) h = refl
  keys_answer (OfBag b) es cs total grown shrunk (Count x) h = refl
  keys_answer (OfBag b) es cs total grown shrunk (Add x) h = refl
  keys_answer (OfBag b) es cs total grown shrunk (Take x) h = refl
  keys_answer s es cs total grown shrunk op h = absurd (true≢false (sym h))

  -- a copy of a block answers what it holds
  pub held_answers : (b : Block) (c : PrivateCopy V) (op : Op V) → 0 < b.stripes → kind_of (shown_of (base_in c)) ≡ b.kind
      → is_known (Some b) op ≡ true → holds_call c op ≡ true → IsSome (answer_of c op)
  held_answers b (Keys m es) op pos kind known holds =
      keys_answer (shown_of m.blank) m.entries m.copies m.total m.grown m.shrunk op holds
  held_answers b (Whole s) op pos kind known holds = ap is_some (known_at b (shown_of s.base) op pos kind known).1
