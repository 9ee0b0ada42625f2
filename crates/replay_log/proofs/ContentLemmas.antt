-- The collections of a world keep the frame laws. A call reads and writes locations of its own collection's block, where they
-- are those of its base, shifted by the block's first location; blocks don't overlap. So each law is the law of the base's kind.
use Rattle.std.proofs.Common.{◌≡◌, ℕ, zero, suc, ◌+◌, ◌-◌, ◌<◌, ◌≤◌, false, ltb, List, [], ◌∷◌, Option, Some, None, Contains, inl, inr}
use Rattle.std.proofs.Common.{refl, sym, ap, ◌∙◌, subst, arith, lt-ltb, le-ltb}
use Rattle.std.specs.Prelude.{◌||◌, not}
use Rattle.std.proofs.lemmas.Bool.{cond-true, cond-false}
use Rattle.std.proofs.lemmas.Option.{same_Some, none-some}
use Rattle.seq_model.specs.declared.call.Op.{Op}
use Rattle.conflict.specs.declared.change.Change.{Change}
use Rattle.conflict.specs.declared.outcome.Outcome.{Outcome}
use Rattle.base_map.specs.FrameLemmas as map_laws
use Rattle.base_bag.specs.FrameLemmas as bag_laws
use Rattle.base_pq.specs.FrameLemmas as pq_laws
use Rattle.base_queue.specs.FrameLemmas as queue_laws
use Rattle.tx_machine.specs.Content.{Frame, IsIn, has}
use Rattle.tx_machine.proofs.Parts.{in_has, out_has}
use Rattle.replay_log.specs.Base.{Shown, after, changes_of, outcome_of, reads_of, writes_of}
use Rattle.replay_log.specs.Parts.{Kind, MapKind, BagKind, PqKind, QueueKind, part, whole}
use Rattle.replay_log.specs.Contents.{Block, size_by, size, block_of, first_of, end_of}
use Rattle.replay_log.specs.Contents.{home_of, is_plain, HaveStripes, shifted, CallWithOutcome}
use Rattle.replay_log.specs.Contents.{blank, seen, answer, reads_in, writes_in, changed, content}
use Rattle.replay_log.proofs.PartLemmas.{answers_by_parts, knows_its_calls, parts_by_part}

pub shifted_in : (f i : ℕ) (ls : List ℕ) → Contains ls i → IsIn (f + i) (shifted f ls)
shifted_in f i [] (k, lt, e) = absurd (omega (arith, lt))
shifted_in f i (x ∷ ls) (zero, lt, e) = inl (ap (λ y. f + y) (sym e))
shifted_in f i (x ∷ ls) (suc k, lt, e) = inr (shifted_in f i ls (k, omega (arith, lt), e))

pub in_shifted : (f l : ℕ) (ls : List ℕ) → IsIn l (shifted f ls) → (i : ℕ) × (l ≡ f + i) × Contains ls i
in_shifted f l [] h = absurd h
in_shifted f l (x ∷ ls) h =
    elim h [
      | inl e ↦ (x, e, (0, omega arith, refl))
      | inr m ↦ (let z = in_shifted f l ls m in (z.0, z.1, (suc z.2.0, omega (arith, z.2.1), z.2.2)))
    ]

-- where blocks are
pub first_above : (w : ℕ) (bs : List Block) (k : ℕ) → w ≤ first_of w bs k
first_above w [] k = omega arith
first_above w (b ∷ bs) zero = omega arith
first_above w (b ∷ bs) (suc k) = let z = first_above (w + size b) bs k in omega (arith, z)

pub end_above : (w : ℕ) (bs : List Block) → w ≤ end_of w bs
end_above w [] = omega arith
end_above w (b ∷ bs) = let z = end_above (w + size b) bs in omega (arith, z)

within_end : (w : ℕ) (bs : List Block) (k i : ℕ) (b : Block) → block_of bs k ≡ Some b → i < size b → first_of w bs k + i < end_of w bs
within_end w [] k i c e lt = absurd (none-some c e)
within_end w (b ∷ bs) zero i c e lt = let z = end_above (w + size b) bs in let s = ap size (same_Some b c e) in omega (arith, z, s, lt)
within_end w (b ∷ bs) (suc k) i c e lt = within_end (w + size b) bs k i c e lt

pub home_is : (w : ℕ) (bs : List Block) (k i : ℕ) (b : Block) → block_of bs k ≡ Some b → i < size b → home_of w bs (first_of w bs k + i) ≡ k
home_is w [] k i c e lt = absurd (none-some c e)
home_is w (b ∷ bs) zero i c e lt =
    cond-true (ltb (w + i) (w + size b)) 0 (suc (home_of (w + size b) bs (w + i)))
    (lt-ltb (w + i) (w + size b) (let s = ap size (same_Some b c e) in omega (arith, s, lt)))
home_is w (b ∷ bs) (suc k) i c e lt =
    let l = first_of (w + size b) bs k + i in
    cond-false (ltb l (w + size b)) 0 (suc (home_of (w + size b) bs l))
    (le-ltb l (w + size b) (let z = first_above (w + size b) bs k in omega (arith, z)))
    ∙ ap suc (home_is (w + size b) bs k i c e lt)

pub not_plain : (w : ℕ) (bs : List Block) (k i : ℕ) (b : Block) → block_of bs k ≡ Some b → i < size b
    → is_plain w bs (first_of w bs k + i) ≡ false
not_plain w bs k i b e lt =
    let l = first_of w bs k + i in
    ap (λ x. x || not (ltb l (end_of w bs))) (le-ltb l w (let z = first_above w bs k in omega (arith, z)))
    ∙ ap not (lt-ltb l (end_of w bs) (within_end w bs k i b e lt))

pub positive_at : (bs : List Block) (k : ℕ) (b : Block) → HaveStripes bs → block_of bs k ≡ Some b → 0 < b.stripes
positive_at [] k c h e = absurd (none-some c e)
positive_at (b ∷ bs) zero c h e = subst (λ (x : Block). 0 < x.stripes) (same_Some b c e) h.0
positive_at (b ∷ bs) (suc k) c h e = positive_at bs k c h.1 e

module _ {V : Type 0} where
  -- what is read, written and changed depends on the kind alone
  reads_by_kind : (n : ℕ) (k : Kind) (o : Outcome V) (v w : ℕ → Shown V) → reads_of n o (whole n k v) ≡ reads_of n o (whole n k w)
  reads_by_kind n MapKind o v w = refl
  reads_by_kind n BagKind o v w = refl
  reads_by_kind n PqKind o v w = refl
  reads_by_kind n QueueKind o v w = refl

  writes_read : (n : ℕ) (k : Kind) (o : Outcome V) (v : ℕ → Shown V) (i : ℕ) → 0 < n → Contains (writes_of n o (whole n k v)) i
      → Contains (reads_of n o (whole n k v)) i
  writes_read n MapKind o v i pos c = map_laws.laws.writes_read n i o pos c
  writes_read n BagKind o v i pos c = bag_laws.laws.writes_read n i o pos c
  writes_read n PqKind o v i pos c = pq_laws.laws.writes_read n i o pos c
  writes_read n QueueKind o v i pos c = queue_laws.laws.writes_read n i o pos c

  reads_below : (n : ℕ) (k : Kind) (o : Outcome V) (v : ℕ → Shown V) (i : ℕ) → 0 < n → Contains (reads_of n o (whole n k v)) i
      → i < size_by k n
  reads_below n MapKind o v i pos c = map_laws.laws.reads_below n i o pos c
  reads_below n BagKind o v i pos c = bag_laws.laws.reads_below n i o pos c
  reads_below n PqKind o v i pos c = (let z = pq_laws.laws.reads_below n i o pos c in omega (arith, z))
  reads_below n QueueKind o v i pos c = (let z = queue_laws.laws.reads_below n i o pos c in omega (arith, z))

  -- what a location in a footprint is: one of its block
  pub read_at : (b : Option Block) (f : ℕ) (o : Option (Outcome V)) (l : ℕ) → ((c : Block) → b ≡ Some c → 0 < c.stripes)
      → IsIn l (reads_in b f o) → (c : Block) × (i : ℕ) × (b ≡ Some c) × (l ≡ f + i) × (i < size c)
  read_at (Some b) f (Some o) l pos h =
      let z = in_shifted f l (reads_of b.stripes o (blank b)) h in
      (b, z.0, refl, z.1, reads_below b.stripes b.kind o _ z.0 (pos b refl) z.2)
  read_at (Some b) f None l pos h = absurd h
  read_at None f o l pos h = absurd h

  writes_within : (b : Option Block) (f : ℕ) (o : Option (Outcome V)) (l : ℕ) → ((c : Block) → b ≡ Some c → 0 < c.stripes)
      → IsIn l (writes_in b f o) → IsIn l (reads_in b f o)
  writes_within (Some b) f (Some o) l pos h =
      let z = in_shifted f l (writes_of b.stripes o (blank b)) h in
      subst (λ x. IsIn x (shifted f (reads_of b.stripes o (blank b)))) (sym z.1)
      (shifted_in f z.0 (reads_of b.stripes o (blank b)) (writes_read b.stripes b.kind o _ z.0 (pos b refl) z.2))
  writes_within (Some b) f None l pos h = absurd h
  writes_within None f o l pos h = absurd h

  pub written_at : (b : Block) (f : ℕ) (o : Outcome V) (l : ℕ) → 0 < b.stripes → IsIn l (shifted f (writes_of b.stripes o (blank b)))
      → (i : ℕ) × (l ≡ f + i) × (i < size b) × Contains (writes_of b.stripes o (blank b)) i
  written_at b f o l pos h =
      let z = in_shifted f l (writes_of b.stripes o (blank b)) h in
      (z.0, z.1, reads_below b.stripes b.kind o _ z.0 pos (writes_read b.stripes b.kind o _ z.0 pos z.2), z.2)

  same_answer : (b : Option Block) (f : ℕ) (v w : ℕ → Shown V) (op : Op V) → ((c : Block) → b ≡ Some c → 0 < c.stripes)
      → ((l : ℕ) → IsIn l (reads_in b f (answer b f v op)) → v l ≡ w l) → answer b f w op ≡ answer b f v op
  same_answer None f v w op pos agree = refl
  same_answer (Some b) f v w op pos agree = go (outcome_of op (seen b f v)) refl agree
    where
      go : (o : Option (Outcome V)) → outcome_of op (seen b f v) ≡ o → ((l : ℕ) → IsIn l (reads_in (Some b) f o) → v l ≡ w l)
          → outcome_of op (seen b f w) ≡ o
      go None e same = knows_its_calls b.stripes b.kind op (λ i. v (f + i)) (λ i. w (f + i)) e
      go (Some o) e same =
          answers_by_parts b.stripes b.kind op (λ i. v (f + i)) (λ i. w (f + i)) o (pos b refl) e
          (λ i c. same (f + i)
          (shifted_in f i (reads_of b.stripes o (blank b)) (subst (λ ls. Contains ls i) (reads_by_kind b.stripes b.kind o _ _) c)))

  changes_only : (b : Option Block) (f : ℕ) (o : Option (Outcome V)) (v : ℕ → Shown V) (l : ℕ) → (IsIn l (writes_in b f o) → ⊥)
      → changed b f o v l ≡ v l
  changes_only (Some b) f (Some o) v l other =
      cond-false (has (shifted f (writes_of b.stripes o (blank b))) l)
      (part b.stripes (l - f) (after (changes_of o (blank b)) (seen b f v))) (v l)
      (out_has (shifted f (writes_of b.stripes o (blank b))) l other)
  changes_only (Some b) f None v l other = refl
  changes_only None f o v l other = refl

  changes_local : (b : Option Block) (f : ℕ) (o : Option (Outcome V)) (v w : ℕ → Shown V) → ((c : Block) → b ≡ Some c → 0 < c.stripes)
      → ((i : ℕ) → IsIn i (writes_in b f o) → v i ≡ w i) → (l : ℕ) → IsIn l (writes_in b f o) → changed b f o v l ≡ changed b f o w l
  changes_local (Some b) f (Some o) v w pos same l m =
      let ls = shifted f (writes_of b.stripes o (blank b)) in
      let cs : List (Change V) = changes_of o (blank b) in
      let z = in_shifted f l (writes_of b.stripes o (blank b)) m in
      let back : f + (l - f) ≡ l = (let e = z.1 in omega (arith, e)) in
      cond-true (has ls l) (part b.stripes (l - f) (after cs (seen b f v))) (v l) (in_has ls l m)
      ∙ parts_by_part b.stripes (l - f) b.kind cs (λ i. v (f + i)) (λ i. w (f + i)) (pos b refl) (ap v back ∙ same l m ∙ ap w (sym back))
      ∙ sym (cond-true (has ls l) (part b.stripes (l - f) (after cs (seen b f w))) (w l) (in_has ls l m))
  changes_local (Some b) f None v w pos same l m = absurd m
  changes_local None f o v w pos same l m = absurd m

  pub content_frame : (w : ℕ) (bs : List Block) → HaveStripes bs → Frame (content {V = V} w bs)
  content_frame w bs h =
      let pos : (k : ℕ) (c : Block) → block_of bs k ≡ Some c → 0 < c.stripes = λ k c e. positive_at bs k c h e in
      let written : (o : CallWithOutcome V) (l : ℕ)
      → IsIn l (writes_in (block_of bs o.asked.collection) (first_of w bs o.asked.collection) o.outcome) → home_of w bs l
      ≡ o.asked.collection = λ o l m. (
      let k = o.asked.collection in
      let z = read_at (block_of bs k) (first_of w bs k) o.outcome l (pos k)
      (writes_within (block_of bs k) (first_of w bs k) o.outcome l (pos k) m) in
      ap (home_of w bs) z.3 ∙ home_is w bs k z.1 z.0 z.2 z.4) in
      record {
        asked = λ v a. refl;
        legal = λ v u a agree.
            ap (λ (x : Option (Outcome V)). record { asked = a; outcome = x })
            (same_answer (block_of bs a.collection) (first_of w bs a.collection) v u a.op (pos a.collection) agree);
        only = λ o v l other. changes_only (block_of bs o.asked.collection) (first_of w bs o.asked.collection) o.outcome v l other;
        local = λ o v u same l m. changes_local (block_of bs o.asked.collection) (first_of w bs o.asked.collection) o.outcome v u
            (pos o.asked.collection) same l m;
        read = λ o l m. writes_within (block_of bs o.asked.collection) (first_of w bs o.asked.collection) o.outcome l
            (pos o.asked.collection) m;
        one_home = λ o l i m n. written o i n ∙ sym (written o l m);
        no_word = λ o l m. (
            let k = o.asked.collection in
            let z = read_at (block_of bs k) (first_of w bs k) o.outcome l (pos k) m in
            ap (is_plain w bs) z.3 ∙ not_plain w bs k z.1 z.0 z.2 z.4);
      }
