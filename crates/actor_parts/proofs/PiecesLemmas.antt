-- The pieces of a collection that there are once a call's was copied: those that there were, and the one that the call touches.
use Rattle.std.proofs.Common.{◌≡◌, ℕ, Bool, true, false, true≢false, cond, ◌==◌, eqb-true, eq-eqb, Option, Some, None, refl, sym, ap}
use Rattle.std.proofs.Common.{subst, ◌∙◌}
use Rattle.std.specs.Prelude.{is_some}
use Rattle.std.proofs.lemmas.Bool.{cond-false, cond-true}
use Rattle.std.specs.Cmp.{nat_cmp_total}
use Rattle.std.specs.Ordering.{nat_cmp, eq_by_cmp}
use Rattle.std.specs.FinMap.{FinMap, empty, get, get-empty, get-insert, insert, len}
use Rattle.std.proofs.lemmas.Option.{none-some, same_Some}
use Rattle.seq_model.specs.declared.call.Op.{Op}
use Rattle.seq_model.specs.declared.call.Op.TheVariants.{Get, Put, Remove, Len, Count, Add, Take}
use Rattle.seq_model.specs.Counts.{Multiset}
use Rattle.conflict.specs.Places.{key_itself, same_key}
use Rattle.replay_log.specs.declared.base.Base.{Base}
use Rattle.replay_log.specs.declared.touch.Touch.{Touch}
use Rattle.replay_log.specs.declared.touch.TouchedKey.{TouchedKey}
use Rattle.replay_log.specs.Base.{Shown, OfMap, OfBag, OfPq, OfQueue, shown_of, stripes_of}
use Rattle.replay_log.specs.Parts.{Kind, MapKind, BagKind, PqKind, QueueKind, kind_of}
use Rattle.replay_log.specs.Pieces as pieces
use Rattle.replay_log.specs.Pieces.{Piece, is_piece, piece_of}
use Rattle.replay_log.specs.Touches.{summed_by}
use Rattle.shadow.specs.Memo.{MemoView, has_key, with_count, with_entry, with_key, with_number, with_total}
use Rattle.actor_parts.specs.declared.copies.PrivateCopy.{PrivateCopy}
use Rattle.actor_parts.specs.declared.copies.PrivateCopy.TheVariants.{Keys, Whole}
use Rattle.actor_parts.specs.declared.copies.BaseExcerpt.{BaseExcerpt}
use Rattle.actor_parts.specs.declared.copies.BaseExcerpt.TheVariants as found
use Rattle.actor_parts.specs.PrivateCopy.{IsFound, IsLearnt, has_piece, is_copied_whole}
use Rattle.actor_parts.specs.First.{IsFirst}
use Rattle.actor_parts.proofs.FirstLemmas.{kind_touched}
use Rattle.actor_parts.proofs.ForgottenLemmas.{as_piece, piece_by}
use Rattle.actor_parts.proofs.AfterGateLemmas.{at_bag, at_map}

-- the keys that there are with one more
with_has : {A : Type 0} (known : FinMap nat_cmp A) (k j : ℕ) (a : A) → has_key (with_key known k a) j ≡ cond (k == j) true (has_key known j)
with_has {A} known k j a = by (k == j) refl (has_key known k) refl
  where
    other : (k == j) ≡ false → (b : Bool) → eq_by_cmp nat_cmp j k ≡ b → eq_by_cmp nat_cmp j k ≡ false
    other e false is = is
    other e true is = absurd (true≢false (sym (eq-eqb k j (sym (same_key j k is))) ∙ e))

    by : (b : Bool) → (k == j) ≡ b → (c : Bool) → has_key known k ≡ c → has_key (with_key known k a) j ≡ cond b true (has_key known j)
    by true e true is =
        ap (λ m. has_key m j) (cond-true (has_key known k) known (insert known k a) is)
        ∙ subst (λ i. has_key known i ≡ true) (eqb-true k j e) is
    by true e false is =
        ap (λ m. has_key m j) (cond-false (has_key known k) known (insert known k a) is)
        ∙ (ap is_some (get-insert nat_cmp_total known k a j)
        ∙ ap (λ t. is_some (cond t (Some a) (get known j))) (subst (λ i. eq_by_cmp nat_cmp i k ≡ true) (eqb-true k j e) (key_itself k)))
    by false e true is = ap (λ m. has_key m j) (cond-true (has_key known k) known (insert known k a) is)
    by false e false is =
        ap (λ m. has_key m j) (cond-false (has_key known k) known (insert known k a) is)
        ∙ (ap is_some (get-insert nat_cmp_total known k a j)
        ∙ ap (λ t. is_some (cond t (Some a) (get known j))) (other e (eq_by_cmp nat_cmp j k) refl))

either : (b : Bool) → b ≡ cond b true false
either true = refl
either false = refl

module _ {V : Type 0} where
  module _ (n : ℕ) (es : FinMap nat_cmp (Option V)) (cs : FinMap nat_cmp ℕ) (total : Option ℕ) where
    abbrev Takes : Op V → Piece → TouchedKey V → Shown V → Type 0
    Takes op q h z =
        piece_by z (with_entry h es) (with_count h cs) (with_total h total) q
        ≡ cond (is_piece (piece_of (kind_of z) op) q) true (piece_by z es cs total q)

    map_takes : (op : Op V) (q : Piece) (g h : TouchedKey V) → Some g ≡ Some h → ((m : FinMap nat_cmp V) → Takes op q g (OfMap m))
        → (z : Shown V) → kind_of z ≡ MapKind → Takes op q h z
    map_takes op q g h e each z kind =
        at_map (Takes op q h) (λ m. subst (λ t. Takes op q t (OfMap m)) (same_Some g h e) (each m)) z kind

    bag_takes : (op : Op V) (q : Piece) (g h : TouchedKey V) → Some g ≡ Some h → ((m : Multiset) → Takes op q g (OfBag m))
        → (z : Shown V) → kind_of z ≡ BagKind → Takes op q h z
    bag_takes op q g h e each z kind =
        at_bag (Takes op q h) (λ m. subst (λ t. Takes op q t (OfBag m)) (same_Some g h e) (each m)) z kind

    entry_takes : (k : ℕ) (v : Option V) (q : Piece) (m : FinMap nat_cmp V)
        → piece_by (OfMap m) (with_key es k v) cs total q ≡ cond (is_piece (pieces.Entry k) q) true (piece_by (OfMap m) es cs total q)
    entry_takes k v (pieces.Entry j) m = with_has es k j v
    entry_takes k v pieces.Counts m = refl
    entry_takes k v pieces.Whole m = refl

    count_takes : (x c : ℕ) (q : Piece) (m : Multiset)
        → piece_by (OfBag m) es (with_key cs x c) total q ≡ cond (is_piece (pieces.Entry x) q) true (piece_by (OfBag m) es cs total q)
    count_takes x c (pieces.Entry j) m = with_has cs x j c
    count_takes x c pieces.Counts m = refl
    count_takes x c pieces.Whole m = refl

    some_total : (k : ℕ) (o : Option ℕ) → is_some (with_number k o) ≡ true
    some_total k None = refl
    some_total k (Some t) = refl

    len_takes : (k : ℕ) (q : Piece) (m : FinMap nat_cmp V)
        → piece_by (OfMap m) es cs (with_number k total) q ≡ cond (is_piece pieces.Counts q) true (piece_by (OfMap m) es cs total q)
    len_takes k (pieces.Entry j) m = refl
    len_takes k pieces.Counts m = some_total k total
    len_takes k pieces.Whole m = refl

    takes : (op : Op V) (s : Shown V) (h : TouchedKey V) (q : Piece) → summed_by n op s ≡ Some h → (z : Shown V) → kind_of z ≡ kind_of s
        → Takes op q h z
    takes (Get k) (OfMap m) h q e z kind = map_takes (Get k) q _ h e (λ l. entry_takes k _ q l) z kind
    takes (Put k v) (OfMap m) h q e z kind = map_takes (Put k v) q _ h e (λ l. entry_takes k _ q l) z kind
    takes (Remove k) (OfMap m) h q e z kind = map_takes (Remove k) q _ h e (λ l. entry_takes k _ q l) z kind
    takes Len (OfMap m) h q e z kind = map_takes Len q _ h e (λ l. len_takes (len m) q l) z kind
    takes (Count i) (OfBag m) h q e z kind = bag_takes (Count i) q _ h e (λ l. count_takes i _ q l) z kind
    takes (Add i) (OfBag m) h q e z kind = bag_takes (Add i) q _ h e (λ l. count_takes i _ q l) z kind
    takes (Take i) (OfBag m) h q e z kind = bag_takes (Take i) q _ h e (λ l. count_takes i _ q l) z kind
    takes op (OfMap y) h q e z kind = absurd (none-some h e)
    takes op (OfBag y) h q e z kind = absurd (none-some h e)
    takes (Get i) (OfPq y) h q e z kind = absurd (none-some h e)
    takes op (OfPq y) h q e z kind = absurd (none-some h e)
    takes (Get i) (OfQueue y) h q e z kind = absurd (none-some h e)
    takes op (OfQueue y) h q e z kind = absurd (none-some h e)

  -- a memo that has learnt what the call touches
  pub learnt_pieces : (n : ℕ) (op : Op V) (s : Shown V) (t : Touch V) (m : MemoView V) (es : _) (d : PrivateCopy V) (q : Piece)
      → summed_by n op s ≡ Some t.held → kind_of (shown_of m.blank) ≡ kind_of s → IsLearnt t (Keys m es) d
      → has_piece d q ≡ cond (is_piece (piece_of (kind_of s) op) q) true (has_piece (Keys m es) q)
  learnt_pieces n op s t m es (Keys l fs) q touched kind now =
      as_piece (shown_of l.blank) l q
      ∙ ((λ j. piece_by (shown_of (now.0 j)) (now.1 j) (now.2 j) (now.3 j) q)
      ∙ (takes n m.entries m.copies m.total op s t.held q touched (shown_of m.blank) kind
      ∙ (λ j. cond (is_piece (piece_of (kind j) op) q) true (sym (as_piece (shown_of m.blank) m q) j))))
  learnt_pieces n op s t m es (Whole x) q touched kind now = absurd now

  no_piece : (s : Shown V) (q : Piece) → piece_by s empty empty None q ≡ false
  no_piece (OfMap m) (pieces.Entry k) = ap is_some (get-empty nat_cmp k)
  no_piece (OfMap m) pieces.Counts = refl
  no_piece (OfMap m) pieces.Whole = refl
  no_piece (OfBag m) (pieces.Entry x) = ap is_some (get-empty nat_cmp x)
  no_piece (OfBag m) pieces.Counts = refl
  no_piece (OfBag m) pieces.Whole = refl
  no_piece (OfPq m) q = refl
  no_piece (OfQueue m) q = refl

  whole_piece : (k : Kind) (op : Op V) → is_copied_whole k ≡ true → pieces.Whole ≡ piece_of k op
  whole_piece MapKind op e = absurd (true≢false (sym e))
  whole_piece BagKind op e = absurd (true≢false (sym e))
  whole_piece PqKind op e = refl
  whole_piece QueueKind op e = refl

  -- the first copy has the call's piece alone
  pub first_pieces : (base : Base V) (op : Op V) (x : BaseExcerpt V) (d : PrivateCopy V) (q : Piece) → IsFound base op x
      → IsFirst (stripes_of base) x d → has_piece d q ≡ cond (is_piece (piece_of (kind_of (shown_of base)) op) q) true false
  first_pieces base op (found.Keys t) d q here first =
      let m = first.memo in
      let blank = first.blank in
      let kind : kind_of (shown_of m.blank) ≡ kind_of (shown_of base) =
      ap kind_of blank.blank ∙ kind_touched (stripes_of base) op (shown_of base) t.held here.0 in
      learnt_pieces (stripes_of base) op (shown_of base) t m first.editions d q here.0 kind first.learnt
      ∙ ap (cond (is_piece (piece_of (kind_of (shown_of base)) op) q) true)
      (as_piece (shown_of m.blank) m q
      ∙ ((λ j. piece_by (shown_of m.blank) (blank.entries j) (blank.copies j) (blank.total j) q) ∙ no_piece (shown_of m.blank) q))
  first_pieces base op (found.Whole copy) (Whole t) q here first =
      ap (λ p. is_piece p q) (whole_piece (kind_of (shown_of base)) op here.3)
      ∙ either (is_piece (piece_of (kind_of (shown_of base)) op) q)
  first_pieces base op (found.Whole copy) (Keys m es) q here first = absurd first
