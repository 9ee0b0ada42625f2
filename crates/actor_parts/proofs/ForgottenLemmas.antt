-- What a memo learns for a call and then forgets: the key that the call touches was not held before and is not held afterwards, and the
-- others are held as they were.
use Rattle.std.proofs.Common.{◌≡◌, ℕ, Bool, true, false, true≢false, cond, Option, Some, None, refl, sym, ap, subst, ◌∙◌}
use Rattle.std.specs.Prelude.{is_some}
use Rattle.std.proofs.lemmas.Bool.{cond-false}
use Rattle.std.specs.Cmp.{nat_cmp_total}
use Rattle.std.specs.Ordering.{nat_cmp, eq_by_cmp}
use Rattle.std.specs.FinMap.{FinMap, get, get-insert, get-remove, insert, remove}
use Rattle.std.proofs.lemmas.Option.{none-some, same_Some}
use Rattle.seq_model.specs.declared.call.Op.{Op}
use Rattle.seq_model.specs.declared.call.Op.TheVariants.{Get, Put, Remove, Len, Count, Add, Take}
use Rattle.seq_model.specs.Counts.{Multiset}
use Rattle.conflict.specs.Places.{same_key}
use Rattle.replay_log.specs.declared.touch.TouchedKey.{TouchedKey}
use Rattle.replay_log.specs.Base.{Shown, OfMap, OfBag, OfPq, OfQueue, shown_of}
use Rattle.replay_log.specs.Parts.{MapKind, BagKind, kind_of}
use Rattle.replay_log.specs.Pieces as pieces
use Rattle.replay_log.specs.Pieces.{Piece}
use Rattle.replay_log.specs.Touches.{summed_by}
use Rattle.shadow.specs.Memo.{MemoView, copies_without, entries_without, has_key, holds_with, total_without, with_count, with_entry}
use Rattle.shadow.specs.Memo.{with_key, with_total}
use Rattle.actor_parts.specs.declared.copies.PrivateCopy.TheVariants.{Keys, Whole}
use Rattle.actor_parts.specs.CopyAtGate.{ForgetsPieces}
use Rattle.actor_parts.specs.PrivateCopy.{memo_piece}
use Rattle.actor_parts.proofs.AfterGateLemmas.{at_bag, at_map}

-- a key that was not held
back_again : {A : Type 0} (known : FinMap nat_cmp A) (k j : ℕ) (a : A) → has_key known k ≡ false
    → has_key (remove (with_key known k a) k) j ≡ has_key known j
back_again {A} known k j a none =
    ap (λ m. has_key (remove m k) j) (cond-false (has_key known k) known (insert known k a) none) ∙ by (eq_by_cmp nat_cmp j k) refl
  where
    by : (q : Bool) → eq_by_cmp nat_cmp j k ≡ q → has_key (remove (insert known k a) k) j ≡ has_key known j
    by true e =
        ap is_some (get-remove nat_cmp_total (insert known k a) k j ∙ ap (λ t. cond t None (get (insert known k a) j)) e)
        ∙ sym (ap (has_key known) (same_key j k e) ∙ none)
    by false e =
        ap is_some (get-remove nat_cmp_total (insert known k a) k j ∙ ap (λ t. cond t None (get (insert known k a) j)) e)
        ∙ ap is_some (get-insert nat_cmp_total known k a j ∙ ap (λ t. cond t (Some a) (get known j)) e)

module _ {V : Type 0} where
  -- the pieces of a memo, by what it has
  abbrev pub piece_by : Shown V → FinMap nat_cmp (Option V) → FinMap nat_cmp ℕ → Option ℕ → Piece → Bool
  piece_by (OfMap b) es cs total (pieces.Entry k) = has_key es k
  piece_by (OfMap b) es cs total pieces.Counts = is_some total
  piece_by (OfBag b) es cs total (pieces.Entry x) = has_key cs x
  piece_by s es cs total p = false

  module _ (n : ℕ) (es : FinMap nat_cmp (Option V)) (cs : FinMap nat_cmp ℕ) (total : Option ℕ) where
    abbrev Forgets : Op V → Piece → TouchedKey V → Shown V → Type 0
    Forgets op q h z =
        holds_with z es cs total op ≡ false
        → piece_by z (entries_without op (with_entry h es)) (copies_without op (with_count h cs)) (total_without op (with_total h total)) q
        ≡ piece_by z es cs total q

    map_forgets : (op : Op V) (q : Piece) (g h : TouchedKey V) → Some g ≡ Some h → ((m : FinMap nat_cmp V) → Forgets op q g (OfMap m))
        → (z : Shown V) → kind_of z ≡ MapKind → Forgets op q h z
    map_forgets op q g h e each z kind =
        at_map (Forgets op q h) (λ m. subst (λ t. Forgets op q t (OfMap m)) (same_Some g h e) (each m)) z kind

    bag_forgets : (op : Op V) (q : Piece) (g h : TouchedKey V) → Some g ≡ Some h → ((m : Multiset) → Forgets op q g (OfBag m))
        → (z : Shown V) → kind_of z ≡ BagKind → Forgets op q h z
    bag_forgets op q g h e each z kind =
        at_bag (Forgets op q h) (λ m. subst (λ t. Forgets op q t (OfBag m)) (same_Some g h e) (each m)) z kind

    entry_forgets : (k : ℕ) (v : Option V) (q : Piece) (m : FinMap nat_cmp V) → has_key es k ≡ false
        → piece_by (OfMap m) (remove (with_key es k v) k) cs total q ≡ piece_by (OfMap m) es cs total q
    entry_forgets k v (pieces.Entry j) m none = back_again es k j v none
    entry_forgets k v pieces.Counts m none = refl
    entry_forgets k v pieces.Whole m none = refl

    count_forgets : (x c : ℕ) (q : Piece) (m : Multiset) → has_key cs x ≡ false
        → piece_by (OfBag m) es (remove (with_key cs x c) x) total q ≡ piece_by (OfBag m) es cs total q
    count_forgets x c (pieces.Entry j) m none = back_again cs x j c none
    count_forgets x c pieces.Counts m none = refl
    count_forgets x c pieces.Whole m none = refl

    len_forgets : (q : Piece) (m : FinMap nat_cmp V) → is_some total ≡ false
        → piece_by (OfMap m) es cs None q ≡ piece_by (OfMap m) es cs total q
    len_forgets (pieces.Entry j) m none = refl
    len_forgets pieces.Counts m none = sym none
    len_forgets pieces.Whole m none = refl

    forgets : (op : Op V) (s : Shown V) (h : TouchedKey V) (q : Piece) → summed_by n op s ≡ Some h → (z : Shown V) → kind_of z ≡ kind_of s
        → Forgets op q h z
    forgets (Get k) (OfMap m) h q e z kind = map_forgets (Get k) q _ h e (λ l none. entry_forgets k _ q l none) z kind
    forgets (Put k v) (OfMap m) h q e z kind = map_forgets (Put k v) q _ h e (λ l none. entry_forgets k _ q l none) z kind
    forgets (Remove k) (OfMap m) h q e z kind = map_forgets (Remove k) q _ h e (λ l none. entry_forgets k _ q l none) z kind
    forgets Len (OfMap m) h q e z kind = map_forgets Len q _ h e (λ l none. len_forgets q l none) z kind
    forgets (Count i) (OfBag m) h q e z kind = bag_forgets (Count i) q _ h e (λ l none. count_forgets i _ q l none) z kind
    forgets (Add i) (OfBag m) h q e z kind = bag_forgets (Add i) q _ h e (λ l none. count_forgets i _ q l none) z kind
    forgets (Take i) (OfBag m) h q e z kind = bag_forgets (Take i) q _ h e (λ l none. count_forgets i _ q l none) z kind
    forgets op (OfMap y) h q e z kind = absurd (none-some h e)
    forgets op (OfBag y) h q e z kind = absurd (none-some h e)
    forgets (Get i) (OfPq y) h q e z kind = absurd (none-some h e)
    forgets op (OfPq y) h q e z kind = absurd (none-some h e)
    forgets (Get i) (OfQueue y) h q e z kind = absurd (none-some h e)
    forgets op (OfQueue y) h q e z kind = absurd (none-some h e)

  -- the pieces of a memo are those that it has by its keys
  pub as_piece : (z : Shown V) (m : MemoView V) (q : Piece) → memo_piece z m q ≡ piece_by z m.entries m.copies m.total q
  as_piece (OfMap b) m (pieces.Entry k) = refl
  as_piece (OfMap b) m pieces.Counts = refl
  as_piece (OfMap b) m pieces.Whole = refl
  as_piece (OfBag b) m (pieces.Entry x) = refl
  as_piece (OfBag b) m pieces.Counts = refl
  as_piece (OfBag b) m pieces.Whole = refl
  as_piece (OfPq b) m q = refl
  as_piece (OfQueue b) m q = refl

  pub forgets_pieces : ForgetsPieces V
  forgets_pieces n op s t (Keys m es) (Keys l fs) (Keys o gs) (Keys r hs) q touched kind unheld now kept forgot =
      as_piece (shown_of r.blank) r q
      ∙ ((λ j. piece_by (shown_of ((forgot.0 ∙ (kept.0 ∙ now.0)) j)) ((forgot.1 ∙ ap (entries_without op) (kept.1 ∙ now.1)) j)
      ((forgot.2 ∙ ap (copies_without op) (kept.2 ∙ now.2)) j) ((forgot.3 ∙ ap (total_without op) (kept.3 ∙ now.3)) j) q)
      ∙ (forgets n m.entries m.copies m.total op s t.held q touched (shown_of m.blank) kind unheld ∙ sym (as_piece (shown_of m.blank) m q)))
  forgets_pieces n op s t (Whole x) d e g q touched kind unheld now kept forgot = absurd (true≢false unheld)
  forgets_pieces n op s t (Keys m es) (Whole x) e g q touched kind unheld now kept forgot = absurd now
  forgets_pieces n op s t (Keys m es) (Keys l fs) (Whole x) g q touched kind unheld now kept forgot = absurd kept
  forgets_pieces n op s t (Keys m es) (Keys l fs) (Keys o gs) (Whole x) q touched kind unheld now kept forgot = absurd forgot
