-- What a transaction has of its collections, one after another: the first that is of a collection is what it has of it. An accepted
-- outcome leaves the pieces that there are (`copy_holds`).
use Rattle.std.proofs.Common.{◌≡◌, ◌≢◌, ◌<◌, ℕ, zero, suc, ◌==◌, Bool, true, false, cond, eq-eqb, eqb-true, length, List, [], ◌∷◌, Option}
use Rattle.std.proofs.Common.{Some, None, take, get_or, refl, sym, ap, ◌∙◌}
use Rattle.std.proofs.lemmas.Bool.{cond-true, cond-false}
use Rattle.std.proofs.lemmas.Option.{slice_get_read}
use Rattle.std.specs.Prelude.{slice_get}
use Rattle.actor_parts.specs.declared.copies.PrivateCopy.{PrivateCopy}
use Rattle.actor_parts.specs.declared.copies.CopyOfCollection.{CopyOfCollection}
use Rattle.std.specs.Ordering.{nat_cmp}
use Rattle.std.specs.FinMap.{FinMap}
use Rattle.std.specs.Prelude.{is_some}
use Rattle.seq_model.specs.declared.call.Op.TheVariants.{Get, Count}
use Rattle.conflict.specs.declared.outcome.Outcome.{Outcome}
use Rattle.replay_log.specs.declared.base.Base.{Base}
use Rattle.replay_log.specs.Base.{Shown, OfMap, OfBag, OfPq, OfQueue, shown_of}
use Rattle.replay_log.specs.Pieces.{Piece, Entry, Counts, Whole}
use Rattle.shadow.specs.Memo.{MemoView, copies_kept, entries_kept, has_key, holds_with}
use Rattle.shadow.proofs.CopyLemmas.{copy_holds}
use Rattle.actor_parts.specs.declared.copies.PrivateCopy.TheVariants as copied
use Rattle.actor_parts.specs.PrivateCopy.{IsAccepted, holds_call, memo_piece}
use Rattle.std.proofs.Math.ListN.{set}
use Rattle.actor_parts.specs.PrivateCopy as copies
use Rattle.actor_parts.specs.CopyList.{copy_of, has_piece}

apart : (j k : ℕ) → j ≢ k → (b : Bool) → (k == j) ≡ b → (k == j) ≡ false
apart j k other true is = absurd (other (sym (eqb-true k j is)))
apart j k other false is = is

module _ {V : Type 0} where
  -- one more that is of another collection
  pub none_more : (cs : List (CopyOfCollection V)) (i k : ℕ) (c : CopyOfCollection V) → slice_get cs i ≡ Some c → c.collection ≢ k
      → copy_of (take i cs) k ≡ None → copy_of (take (suc i) cs) k ≡ None
  none_more [] i k c at other none = refl
  none_more (d ∷ cs) zero k c at other none =
      let e : d ≡ c = cc in
      cond-false (k == d.collection) (Some d.copied) None (ap (λ (z : CopyOfCollection V). k == z.collection) e
      ∙ apart c.collection k other (k == c.collection) refl)
  none_more (d ∷ cs) (suc i) k c at other none = by (k == d.collection) (none_more cs i k c at other) none
    where
      by : (b : Bool) → (copy_of (take i cs) k ≡ None → copy_of (take (suc i) cs) k ≡ None)
          → cond b (Some d.copied) (copy_of (take i cs) k) ≡ None → cond b (Some d.copied) (copy_of (take (suc i) cs) k) ≡ None
      by true rest e = let h : ⊥ = cc in absurd h
      by false rest e = rest e

  pub none_here : (cs : List (CopyOfCollection V)) (i k : ℕ) (c : CopyOfCollection V) → i < length cs → c ≡ get_or cs i c
      → (get_or cs i c).collection ≢ k
      → copy_of (take i cs) k ≡ None → copy_of (take (suc i) cs) k ≡ None
  none_here cs i k c lt is other none =
      none_more cs i k c (slice_get_read cs (length cs) i c refl lt is)
      (λ (e : c.collection ≡ k). other (ap (λ (z : CopyOfCollection V). z.collection) (sym is) ∙ e)) none

  -- the first that is of the collection
  pub first_at : (cs : List (CopyOfCollection V)) (i k : ℕ) (c : CopyOfCollection V) → slice_get cs i ≡ Some c → k ≡ c.collection
      → copy_of (take i cs) k ≡ None → copy_of cs k ≡ Some c.copied
  first_at [] i k c at same none = let h : ⊥ = cc in absurd h
  first_at (d ∷ cs) zero k c at same none =
      let e : d ≡ c = cc in
      cond-true (k == d.collection) (Some d.copied) (copy_of cs k) (ap (λ (z : CopyOfCollection V). k == z.collection) e
      ∙ eq-eqb k c.collection same)
      ∙ ap (λ (z : CopyOfCollection V). Some z.copied) e
  first_at (d ∷ cs) (suc i) k c at same none = by (k == d.collection) (first_at cs i k c at same) none
    where
      by : (b : Bool) → (copy_of (take i cs) k ≡ None → copy_of cs k ≡ Some c.copied)
          → cond b (Some d.copied) (copy_of (take i cs) k) ≡ None → cond b (Some d.copied) (copy_of cs k) ≡ Some c.copied
      by true rest e = let h : ⊥ = cc in absurd h
      by false rest e = rest e

  -- with another in place of one, of the same collection and with the same pieces
  pub same_pieces : (cs : List (CopyOfCollection V)) (i : ℕ) (c d : CopyOfCollection V) → slice_get cs i ≡ Some c
      → d.collection ≡ c.collection
      → ((q : Piece) → copies.has_piece d.copied q ≡ copies.has_piece c.copied q) → (k : ℕ) (q : Piece)
      → has_piece (copy_of (set cs i d) k) q ≡ has_piece (copy_of cs k) q
  same_pieces [] i c d at same pieces k q = let h : ⊥ = cc in absurd h
  same_pieces (x ∷ cs) zero c d at same pieces k q =
      let e : x ≡ c = cc in
      let here : copies.has_piece d.copied q ≡ copies.has_piece x.copied q = pieces q
      ∙ ap (λ (z : CopyOfCollection V). copies.has_piece z.copied q) (sym e) in
      let named : d.collection ≡ x.collection = same ∙ ap (λ (z : CopyOfCollection V). z.collection) (sym e) in
      ap (λ (j : ℕ). has_piece (cond (k == j) (Some d.copied) (copy_of cs k)) q) named ∙ by (k == x.collection) here
    where
      by : (b : Bool) → copies.has_piece d.copied q ≡ copies.has_piece x.copied q
          → has_piece (cond b (Some d.copied) (copy_of cs k)) q ≡ has_piece (cond b (Some x.copied) (copy_of cs k)) q
      by true e = e
      by false e = refl
  same_pieces (x ∷ cs) (suc i) c d at same pieces k q = by (k == x.collection) (same_pieces cs i c d at same pieces k q)
    where
      by : (b : Bool) → has_piece (copy_of (set cs i d) k) q ≡ has_piece (copy_of cs k) q
          → has_piece (cond b (Some x.copied) (copy_of (set cs i d) k)) q ≡ has_piece (cond b (Some x.copied) (copy_of cs k)) q
      by true rest = refl
      by false rest = rest

  -- what an accepted outcome leaves of the pieces: all of them
  memo_same : (b : Shown V) (o : Outcome V) (m n : MemoView V) (q : Piece) → holds_with b m.entries m.copies m.total o.op ≡ true
      → n.entries ≡ entries_kept b o m.entries → n.copies ≡ copies_kept b o m.copies → n.total ≡ m.total
      → memo_piece b n q ≡ memo_piece b m q
  memo_same (OfMap b) o m n (Entry k) held e c t =
      ap (λ (es : FinMap nat_cmp (Option V)). has_key es k) e ∙ copy_holds o (OfMap b) m.entries m.copies m.total (Get k) held
  memo_same (OfMap b) o m n Counts held e c t = ap (λ (z : Option ℕ). is_some z) t
  memo_same (OfMap b) o m n Whole held e c t = refl
  memo_same (OfBag b) o m n (Entry x) held e c t =
      ap (λ (cs : FinMap nat_cmp ℕ). has_key cs x) c ∙ copy_holds o (OfBag b) m.entries m.copies m.total (Count x) held
  memo_same (OfBag b) o m n Counts held e c t = refl
  memo_same (OfBag b) o m n Whole held e c t = refl
  memo_same (OfPq b) o m n q held e c t = refl
  memo_same (OfQueue b) o m n q held e c t = refl

  pub accepted_pieces : (o : Outcome V) (c d : PrivateCopy V) (q : Piece) → holds_call c o.op ≡ true → IsAccepted o c d
      → copies.has_piece d q ≡ copies.has_piece c q
  accepted_pieces o (copied.Keys m es) (copied.Keys n fs) q held acc =
      ap (λ (b : Base V). memo_piece (shown_of b) n q) acc.0 ∙ memo_same (shown_of m.blank) o m n q held acc.1 acc.2 acc.3
  accepted_pieces o (copied.Whole s) (copied.Whole t) q held acc = refl
  accepted_pieces o (copied.Keys m es) (copied.Whole t) q held acc = absurd acc
  accepted_pieces o (copied.Whole s) (copied.Keys n fs) q held acc = absurd acc
