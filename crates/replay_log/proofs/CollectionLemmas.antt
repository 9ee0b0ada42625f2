-- The sequential collections, as a model of the content of a world. The collection of a block is found by going along blocks and
-- collections together; a call changes that one alone, and what it shows is on the block's locations.
use Rattle.std.proofs.Common.{◌≡◌, ℕ, zero, suc, ◌+◌, ◌-◌, ◌<◌, ◌≤◌, ◌⊎◌, ltb, List, [], ◌∷◌, Option, Some, None, Contains, inl, inr, refl}
use Rattle.std.proofs.Common.{sym, ap, ◌∙◌, subst, arith, lt-ltb, le-ltb}
use Rattle.std.specs.Prelude.{option_map}
use Rattle.std.specs.FinMap.{empty}
use Rattle.std.proofs.lemmas.Bool.{cases_lt, cond-true, cond-false}
use Rattle.std.proofs.lemmas.Option.{same_Some, none-some}
use Rattle.seq_model.specs.declared.call.Op.{Op}
use Rattle.seq_model.specs.declared.call.Reply.{Reply}
use Rattle.seq_model.specs.declared.held.Held.{Held}
use Rattle.seq_model.specs.declared.held.Held.TheVariants.{Map, Bag, Pq, Queue}
use Rattle.seq_model.specs.Calls.{held_call, IsWithinLimits}
use Rattle.conflict.specs.declared.change.Change.{Change}
use Rattle.conflict.specs.declared.outcome.Outcome.{Outcome}
use Rattle.tx_machine.specs.Content.{IsIn, has}
use Rattle.tx_machine.proofs.States.{Model}
use Rattle.tx_machine.proofs.Parts.{is_in, in_has, out_has}
use Rattle.replay_log.specs.Base.{Shown, OfMap, after, changes_of, outcome_of, writes_of}
use Rattle.replay_log.specs.Parts.{Kind, MapKind, BagKind, PqKind, QueueKind, kind_of, part, whole}
use Rattle.replay_log.specs.Contents.{Block, size, block_of, first_of, HaveStripes, shifted, blank, seen, answer, changed, content}
use Rattle.replay_log.specs.Collections.{kind_of_held, viewed, Suit, shown_from, shown_at}
use Rattle.replay_log.proofs.CollectionRuns.{reply_at, called, after_call, sequential}
use Rattle.replay_log.proofs.PartLemmas.{is_whole, leaves_other_parts, whole_local}
use Rattle.replay_log.proofs.ContentLemmas.{shifted_in, written_at, first_above, positive_at}
use Rattle.replay_log.proofs.HeldLemmas.{Keeps, follows, unknown, keeps}

-- The collection of a block, and where it is shown.
pub record Found {V : Type 0} (w : ℕ) (bs : List Block) (hs : List (Held V)) (k : ℕ) (b : Block) : Type 0 where
  pub held : Held V
  pub kind : kind_of_held held ≡ b.kind
  pub fit : IsWithinLimits held
  pub reply : (op : Op V) → reply_at hs k op ≡ option_map (λ r. r.0) (held_call op held)
  pub stays : (op : Op V) → held_call op held ≡ None → after_call hs k op ≡ hs
  pub shown : (i : ℕ) → i < size b → shown_from w bs hs (first_of w bs k + i) ≡ part b.stripes i (viewed held)
  pub later : (op : Op V) (i : ℕ) → i < size b → shown_from w bs (after_call hs k op) (first_of w bs k + i) ≡ part b.stripes i
      (viewed (called (held_call op held) held))

module _ {V : Type 0} where
  pub here : (w : ℕ) (b c : Block) (bs : List Block) (h : Held V) (hs : List (Held V)) (i : ℕ) → b ≡ c → i < size c
      → shown_from w (b ∷ bs) (h ∷ hs) (w + i) ≡ part c.stripes i (viewed h)
  here w b c bs h hs i e lt =
      let inside : w + i < w + size b = (let s = ap size e in omega (arith, s, lt)) in
      let at : (w + i) - w ≡ i = omega arith in
      cond-true (ltb (w + i) (w + size b)) (part b.stripes ((w + i) - w) (viewed h)) (shown_from (w + size b) bs hs (w + i))
      (lt-ltb (w + i) (w + size b) inside)
      ∙ ap (λ j. part b.stripes j (viewed h)) at ∙ ap (λ (x : Block). part x.stripes i (viewed h)) e

  pub beyond : (w : ℕ) (b : Block) (bs : List Block) (h : Held V) (hs : List (Held V)) (l : ℕ) → w + size b ≤ l → shown_from w (b ∷ bs)
      (h ∷ hs) l ≡ shown_from (w + size b) bs hs l
  beyond w b bs h hs l le = cond-false (ltb l (w + size b)) (part b.stripes (l - w) (viewed h)) (shown_from (w + size b) bs hs l)
      (le-ltb l (w + size b) le)

  pub found : (w : ℕ) (bs : List Block) (hs : List (Held V)) (k : ℕ) (b : Block) → Suit bs hs → block_of bs k ≡ Some b → Found w bs hs k b
  found w [] hs k c s e = absurd (none-some c e)
  found w (b ∷ bs) [] k c s e = absurd s
  found w (b ∷ bs) (h ∷ hs) zero c s e = record {
    held = h;
    kind = s.0 ∙ ap (λ (x : Block). x.kind) (same_Some b c e);
    fit = s.1;
    reply = λ op. refl;
    stays = λ op none. ap (λ o. called o h ∷ hs) none;
    shown = λ i lt. here w b c bs h hs i (same_Some b c e) lt;
    later = λ op i lt. here w b c bs (called (held_call op h) h) hs i (same_Some b c e) lt;
  }
  found w (b ∷ bs) (h ∷ hs) (suc k) c s e =
      let f = found (w + size b) bs hs k c s.2 e in
      let above : (i : ℕ) → w + size b ≤ first_of
      (w + size b) bs k + i = λ i. (let z = first_above (w + size b) bs k in omega (arith, z)) in
      record {
        held = f.held;
        kind = f.kind;
        fit = f.fit;
        reply = f.reply;
        stays = λ op none. ap (λ (gs : List (Held V)). h ∷ gs) (f.stays op none);
        shown = λ i lt. beyond w b bs h hs (first_of (w + size b) bs k + i) (above i) ∙ f.shown i lt;
        later = λ op i lt. beyond w b bs h (after_call hs k op) (first_of (w + size b) bs k + i) (above i) ∙ f.later op i lt;
      }

  -- a location of no block that is called shows the same
  elsewhere : (w : ℕ) (bs : List Block) (hs : List (Held V)) (k : ℕ) (op : Op V) (l : ℕ) → Suit bs hs → w ≤ l
      → ((b : Block) → block_of bs k ≡ Some b → (l < first_of w bs k) ⊎ (first_of w bs k + size b ≤ l)) → shown_from w bs
      (after_call hs k op) l ≡ shown_from w bs hs l
  elsewhere w [] [] k op l s le away = refl
  elsewhere w [] (h ∷ hs) k op l s le away = absurd s
  elsewhere w (b ∷ bs) [] k op l s le away = absurd s
  elsewhere w (b ∷ bs) (h ∷ hs) zero op l s le away =
      elim (away b refl) [
        | inl lt ↦ absurd (omega (arith, lt, le))
        | inr ge ↦ beyond w b bs (called (held_call op h) h) hs l ge ∙ sym (beyond w b bs h hs l ge)
      ]
  elsewhere w (b ∷ bs) (h ∷ hs) (suc k) op l s le away =
      elim (cases_lt l (w + size b)) [
        | inl lt ↦
            cond-true (ltb l (w + size b)) (part b.stripes (l - w) (viewed h)) (shown_from (w + size b) bs (after_call hs k op) l)
            (lt-ltb l (w + size b) lt)
            ∙ sym (cond-true (ltb l (w + size b)) (part b.stripes (l - w) (viewed h)) (shown_from (w + size b) bs hs l)
            (lt-ltb l (w + size b) lt))
        | inr ge ↦
            beyond w b bs h (after_call hs k op) l ge ∙ elsewhere (w + size b) bs hs k op l s.2 ge away ∙ sym (beyond w b bs h hs l ge)
      ]

  none_there : (bs : List Block) (hs : List (Held V)) (k : ℕ) (op : Op V) → Suit bs hs → block_of bs k ≡ None → (reply_at hs k op ≡ None)
      × (after_call hs k op ≡ hs)
  none_there [] [] k op s e = (refl, refl)
  none_there [] (h ∷ hs) k op s e = absurd s
  none_there (b ∷ bs) [] k op s e = absurd s
  none_there (b ∷ bs) (h ∷ hs) zero op s e = absurd (none-some b (sym e))
  none_there (b ∷ bs) (h ∷ hs) (suc k) op s e = let z = none_there bs hs k op s.2 e in (z.0, ap (λ (gs : List (Held V)). h ∷ gs) z.1)

  called_keeps : (h : Held V) (o : Option (Reply V × Held V)) → IsWithinLimits h → Keeps h o
      → (kind_of_held (called o h) ≡ kind_of_held h) × IsWithinLimits (called o h)
  called_keeps h None fit z = (refl, fit)
  called_keeps h (Some r) fit z = z

  pub suit_after : (bs : List Block) (hs : List (Held V)) (k : ℕ) (op : Op V) → Suit bs hs → Suit bs (after_call hs k op)
  suit_after [] [] k op s = tt
  suit_after [] (h ∷ hs) k op s = absurd s
  suit_after (b ∷ bs) [] k op s = absurd s
  suit_after (b ∷ bs) (h ∷ hs) zero op s = let z = called_keeps h (held_call op h) s.1 (keeps op h s.1) in (z.0 ∙ s.0, z.1, s.2)
  suit_after (b ∷ bs) (h ∷ hs) (suc k) op s = (s.0, s.1, suit_after bs hs k op s.2)

  -- a view of a block that shows the parts of its collection is the collection's view
  pub kind_viewed : (h : Held V) (k : Kind) → kind_of_held h ≡ k → kind_of (viewed h) ≡ k
  kind_viewed (Map m) k e = e
  kind_viewed (Bag m) k e = e
  kind_viewed (Pq m) k e = e
  kind_viewed (Queue head items) k e = e

  changes_by_kind : (n : ℕ) (k : Kind) (o : Outcome V) (v w : ℕ → Shown V) → changes_of o (whole n k v) ≡ changes_of o (whole n k w)
  changes_by_kind n MapKind o v w = refl
  changes_by_kind n BagKind o v w = refl
  changes_by_kind n PqKind o v w = refl
  changes_by_kind n QueueKind o v w = refl

  writes_by_kind : (n : ℕ) (k : Kind) (o : Outcome V) (v w : ℕ → Shown V) → writes_of n o (whole n k v) ≡ writes_of n o (whole n k w)
  writes_by_kind n MapKind o v w = refl
  writes_by_kind n BagKind o v w = refl
  writes_by_kind n PqKind o v w = refl
  writes_by_kind n QueueKind o v w = refl

  pub behind : (w : ℕ) (bs : List Block) (hs : List (Held V)) (l : ℕ) → w ≤ l → shown_at w bs hs l ≡ shown_from w bs hs l
  behind w bs hs l le = cond-false (ltb l w) (OfMap empty) (shown_from w bs hs l) (le-ltb l w le)

  before : (w : ℕ) (bs : List Block) (hs : List (Held V)) (l : ℕ) → l < w → shown_at w bs hs l ≡ OfMap empty
  before w bs hs l lt = cond-true (ltb l w) (OfMap empty) (shown_from w bs hs l) (lt-ltb l w lt)

  at_block : (w : ℕ) (bs : List Block) (hs : List (Held V)) (k : ℕ) (b : Block) → 0 < b.stripes → (f : Found w bs hs k b)
      → seen b (first_of w bs k) (shown_at w bs hs) ≡ viewed f.held
  at_block w bs hs k b pos f =
      whole_local b.stripes b.kind (λ i. shown_at w bs hs (first_of w bs k + i)) (λ i. part b.stripes i (viewed f.held)) pos
      (λ i lt. behind w bs hs (first_of w bs k + i) (let z = first_above w bs k in omega (arith, z)) ∙ f.shown i lt)
      ∙ ap (λ x. whole b.stripes x (λ i. part b.stripes i (viewed f.held))) (sym (kind_viewed f.held b.kind f.kind))
      ∙ is_whole b.stripes (viewed f.held) pos

  -- ---- the model
  pub replied : (w : ℕ) (bs : List Block) (hs : List (Held V)) (k : ℕ) (op : Op V) → HaveStripes bs → Suit bs hs → (b : Option Block)
      → block_of bs k ≡ b
      → option_map (λ x. x.reply) (answer b (first_of w bs k) (shown_at w bs hs) op) ≡ reply_at hs k op
  replied w bs hs k op h s None e = sym (none_there bs hs k op s e).0
  replied w bs hs k op h s (Some b) e =
      let f = found w bs hs k b s e in
      let is = at_block w bs hs k b (positive_at bs k b h e) f in
      ap (λ x. option_map (λ y. y.reply) (outcome_of op x)) is ∙ by_outcome (outcome_of op (viewed f.held)) refl ∙ sym (f.reply op)
    where
      by_outcome : (o : Option (Outcome V)) → outcome_of op (viewed (found w bs hs k b s e).held) ≡ o → option_map (λ y. y.reply)
          (outcome_of op (viewed (found w bs hs k b s e).held)) ≡ option_map (λ r. r.0) (held_call op (found w bs hs k b s e).held)
      by_outcome None none = ap (option_map (λ y. y.reply)) none
          ∙ sym (ap (option_map (λ r. r.0)) (unknown op (found w bs hs k b s e).held none))
      by_outcome (Some o) some =
          ap (option_map (λ y. y.reply)) some
          ∙ sym (ap (option_map (λ r. r.0)) (follows op (found w bs hs k b s e).held o (found w bs hs k b s e).fit some).1)

  module _ (w : ℕ) (bs : List Block) (hs : List (Held V)) (k : ℕ) (op : Op V) (s : Suit bs hs) (b : Block) (e : block_of bs k ≡ Some b)
      (pos : 0 < b.stripes) (f : Found w bs hs k b) (o : Outcome V)
      (some : outcome_of op (seen b (first_of w bs k) (shown_at w bs hs)) ≡ Some o) where
    abbrev at : ℕ
    at = first_of w bs k

    abbrev v : ℕ → Shown V
    v = shown_at w bs hs

    is : seen b at v ≡ viewed f.held
    is = at_block w bs hs k b pos f

    goes : viewed (called (held_call op f.held) f.held) ≡ after (changes_of o (viewed f.held)) (viewed f.held)
    goes =
        let z = follows op f.held o f.fit (ap (outcome_of op) (sym is) ∙ some) in
        ap (λ r. viewed (called r f.held)) z.1 ∙ z.2

    low : w ≤ at
    low = first_above w bs k

    afterwards : (i : ℕ) → i < size b → shown_at w bs (after_call hs k op) (at + i) ≡ part b.stripes i
        (after (changes_of o (viewed f.held)) (viewed f.held))
    afterwards i lt = behind w bs (after_call hs k op) (at + i) (let z = low in omega (arith, z)) ∙ f.later op i lt
        ∙ ap (part b.stripes i) goes

    written : (l i : ℕ) → l ≡ at + i → i < size b → part b.stripes (l - at) (after (changes_of o (blank b)) (seen b at v))
        ≡ shown_at w bs (after_call hs k op) l
    written l i there lt =
        ap (λ j. part b.stripes j (after (changes_of o (blank b)) (seen b at v))) (let j : l - at ≡ i = omega (arith, there) in j)
        ∙ ap (λ (cs : List (Change V)). part b.stripes i (after cs (seen b at v)))
        (changes_by_kind b.stripes b.kind o (λ j. OfMap empty) (λ j. v (at + j)))
        ∙ ap (λ x. part b.stripes i (after (changes_of o x) x)) is
        ∙ sym (afterwards i lt) ∙ ap (shown_at w bs (after_call hs k op)) (sym there)

    unwritten : (l i : ℕ) → l ≡ at + i → i < size b → (IsIn l (shifted at (writes_of b.stripes o (blank b))) → ⊥) → v l
        ≡ shown_at w bs (after_call hs k op) l
    unwritten l i there lt out =
        let same : writes_of b.stripes o (viewed f.held) ≡ writes_of b.stripes o (blank b) = ap (writes_of b.stripes o) (sym is)
        ∙ writes_by_kind b.stripes b.kind o (λ j. v (at + j)) (λ j. OfMap empty) in
        ap v there ∙ behind w bs hs (at + i) (let z = low in omega (arith, z)) ∙ f.shown i lt
        ∙ sym (leaves_other_parts b.stripes i o (viewed f.held)
        (λ c. out (subst (λ x. IsIn x (shifted at (writes_of b.stripes o (blank b)))) (sym there)
        (shifted_in at i (writes_of b.stripes o (blank b)) (subst (λ ws. Contains ws i) same c)))))
        ∙ sym (afterwards i lt) ∙ ap (shown_at w bs (after_call hs k op)) (sym there)

    apart : (l : ℕ) → w ≤ l → (l < at) ⊎ (at + size b ≤ l) → v l ≡ shown_at w bs (after_call hs k op) l
    apart l le away =
        behind w bs hs l le
        ∙ sym (elsewhere w bs hs k op l s le
        (λ c there. subst (λ (x : Block). (l < at) ⊎ (at + size x ≤ l)) (same_Some b c (sym e ∙ there)) away))
        ∙ sym (behind w bs (after_call hs k op) l le)

    kept_there : (l : ℕ) → (IsIn l (shifted at (writes_of b.stripes o (blank b))) → ⊥) → v l ≡ shown_at w bs (after_call hs k op) l
    kept_there l out =
        elim (cases_lt l w) [
          | inl lt ↦ before w bs hs l lt ∙ sym (before w bs (after_call hs k op) l lt)
          | inr ge ↦ elim (cases_lt l at) [
            | inl lt ↦ apart l ge (inl lt)
            | inr above ↦ elim (cases_lt l (at + size b)) [
              | inl lt ↦ unwritten l (l - at) (omega (arith, above)) (omega (arith, lt, above)) out
              | inr past ↦ apart l ge (inr past)
            ]
          ]
        ]

    pub changed_is : (l : ℕ) → changed (Some b) at (Some o) v l ≡ shown_at w bs (after_call hs k op) l
    changed_is l =
        let ls = shifted at (writes_of b.stripes o (blank b)) in
        let X = part b.stripes (l - at) (after (changes_of o (blank b)) (seen b at v)) in
        elim (is_in l ls) [
          | inl m ↦ (let z = written_at b at o l pos m in cond-true (has ls l) X (v l) (in_has ls l m) ∙ written l z.0 z.1 z.2)
          | inr out ↦ cond-false (has ls l) X (v l) (out_has ls l out) ∙ kept_there l out
        ]

  pub moved : (w : ℕ) (bs : List Block) (hs : List (Held V)) (k : ℕ) (op : Op V) (l : ℕ) → HaveStripes bs → Suit bs hs
      → (b : Option Block) → block_of bs k ≡ b
      → changed b (first_of w bs k) (answer b (first_of w bs k) (shown_at w bs hs) op) (shown_at w bs hs) l
      ≡ shown_at w bs (after_call hs k op) l
  moved w bs hs k op l h s None e = ap (λ (gs : List (Held V)). shown_at w bs gs l) (sym (none_there bs hs k op s e).1)
  moved w bs hs k op l h s (Some b) e = by_outcome (outcome_of op (seen b (first_of w bs k) (shown_at w bs hs))) refl
    where
      by_outcome : (o : Option (Outcome V)) → outcome_of op (seen b (first_of w bs k) (shown_at w bs hs)) ≡ o
          → changed (Some b) (first_of w bs k) (outcome_of op (seen b (first_of w bs k) (shown_at w bs hs))) (shown_at w bs hs) l
          ≡ shown_at w bs (after_call hs k op) l
      by_outcome None none =
          let f = found w bs hs k b s e in
          let is = at_block w bs hs k b (positive_at bs k b h e) f in
          ap (λ o. changed (Some b) (first_of w bs k) o (shown_at w bs hs) l) none
          ∙ ap (λ (gs : List (Held V)). shown_at w bs gs l) (sym (f.stays op (unknown op f.held (ap (outcome_of op) (sym is) ∙ none))))
      by_outcome (Some o) some =
          ap (λ x. changed (Some b) (first_of w bs k) x (shown_at w bs hs) l) some
          ∙ changed_is w bs hs k op s b e (positive_at bs k b h e) (found w bs hs k b s e) o some l

-- the collections that suit the blocks
abbrev pub collections : (V : Type 0) (w : ℕ) (bs : List Block) → HaveStripes bs
    → Model (content {V = V} w bs) (sequential {V = V}) (Suit bs)
collections V w bs h = record {
  shown = λ hs. shown_at w bs hs;
  asked = λ o. refl;
  keeps = λ hs a s. suit_after bs hs a.collection a.op s;
  replies = λ hs a s. replied w bs hs a.collection a.op h s (block_of bs a.collection) refl;
  shows = λ hs a l s. moved w bs hs a.collection a.op l h s (block_of bs a.collection) refl;
}
