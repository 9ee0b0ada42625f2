-- The first copy of a collection: a blank memo is of every collection of its kind, by the law on copies, and remains so as it learns what
-- was touched; a whole copy without a change shows what was copied.
use Rattle.std.proofs.Common.{◌≡◌, ℕ, [], Some, None, sym, ap, ◌∙◌}
use Rattle.std.specs.FinMap.{empty}
use Rattle.std.proofs.lemmas.Option.{none-some, same_Some}
use Rattle.seq_model.specs.declared.call.Op.{Op}
use Rattle.seq_model.specs.declared.call.Op.TheVariants.{Get, Put, Remove, Len, Count, Add, Take}
use Rattle.conflict.specs.RoomMap.{Room}
use Rattle.replay_log.specs.declared.base.Base.{Base}
use Rattle.replay_log.specs.declared.touch.TouchedKey.{TouchedKey}
use Rattle.replay_log.specs.Base.{Shown, OfMap, OfBag, OfPq, OfQueue, after, shown_of, stripes_of}
use Rattle.replay_log.specs.Contents.{Block}
use Rattle.replay_log.specs.Parts.{MapKind, BagKind, PqKind, QueueKind, kind_of}
use Rattle.replay_log.specs.Touches.{summed_by}
use Rattle.shadow.specs.Memo.{IsCopyBy, MemoView, shape}
use Rattle.shadow.specs.declared.memo.MemoKind.{MemoKind}
use Rattle.shadow.specs.declared.memo.MemoKind.TheVariants as kind
use Rattle.shadow.proofs.CopyLemmas.{new_copy_bag, new_copy_map}
use Rattle.actor_parts.specs.declared.copies.PrivateCopy.TheVariants.{Keys, Whole}
use Rattle.actor_parts.specs.declared.copies.BaseExcerpt.TheVariants as found
use Rattle.actor_parts.specs.PrivateCopy.{IsOf}
use Rattle.actor_parts.specs.First.{FirstCopies, IsBlank, memo_kind}
use Rattle.actor_parts.proofs.PrivateCopyLemmas.{follows_learnt, same_copy}
use Rattle.actor_parts.proofs.CopyByPartsLemmas.{after_none}

module _ {V : Type 0} where
  blank_copy : (k : MemoKind) (s : Shown V) → kind_of {V = V} (shape k) ≡ kind_of s → IsCopyBy (shape k) empty empty None 0 0 [] s
  blank_copy kind.Map (OfMap m) e = new_copy_map m
  blank_copy kind.Bag (OfBag m) e = new_copy_bag m
  blank_copy kind.Map (OfBag m) e = absurd (let z : MapKind ≡ BagKind = e in let y : ⊥ = cc in y)
  blank_copy kind.Map (OfPq m) e = absurd (let z : MapKind ≡ PqKind = e in let y : ⊥ = cc in y)
  blank_copy kind.Map (OfQueue m) e = absurd (let z : MapKind ≡ QueueKind = e in let y : ⊥ = cc in y)
  blank_copy kind.Bag (OfMap m) e = absurd (let z : BagKind ≡ MapKind = e in let y : ⊥ = cc in y)
  blank_copy kind.Bag (OfPq m) e = absurd (let z : BagKind ≡ PqKind = e in let y : ⊥ = cc in y)
  blank_copy kind.Bag (OfQueue m) e = absurd (let z : BagKind ≡ QueueKind = e in let y : ⊥ = cc in y)

  same_kind : (h i : TouchedKey V) → h ≡ i → kind_of {V = V} (shape (memo_kind i)) ≡ kind_of {V = V} (shape (memo_kind h))
  same_kind h i e = ap (λ (z : TouchedKey V). kind_of {V = V} (shape (memo_kind z))) (sym e)

  -- what is touched is of the collection's kind
  pub kind_touched : (n : ℕ) (op : Op V) (s : Shown V) (h : TouchedKey V) → summed_by n op s ≡ Some h
      → kind_of {V = V} (shape (memo_kind h)) ≡ kind_of s
  kind_touched n (Get k) (OfMap m) h e = same_kind _ h (same_Some _ h e)
  kind_touched n (Put k v) (OfMap m) h e = same_kind _ h (same_Some _ h e)
  kind_touched n (Remove k) (OfMap m) h e = same_kind _ h (same_Some _ h e)
  kind_touched n Len (OfMap m) h e = same_kind _ h (same_Some _ h e)
  kind_touched n (Count x) (OfBag m) h e = same_kind _ h (same_Some _ h e)
  kind_touched n (Add x) (OfBag m) h e = same_kind _ h (same_Some _ h e)
  kind_touched n (Take x) (OfBag m) h e = same_kind _ h (same_Some _ h e)
  kind_touched n op (OfMap y) h e = absurd (none-some h e)
  kind_touched n op (OfBag y) h e = absurd (none-some h e)
  kind_touched n (Get q) (OfPq y) h e = absurd (none-some h e)
  kind_touched n op (OfPq y) h e = absurd (none-some h e)
  kind_touched n (Get q) (OfQueue y) h e = absurd (none-some h e)
  kind_touched n op (OfQueue y) h e = absurd (none-some h e)

  pub blank_of : (b : Block) (s : Shown V) (k : MemoKind) (m : MemoView V) (es : Room ℕ) → IsBlank b.stripes k m
      → kind_of {V = V} (shape k) ≡ kind_of s → kind_of s ≡ b.kind → IsOf b s [] [] (Keys m es)
  blank_of b s k m es blank same kind = (
    ap kind_of blank.blank ∙ (same ∙ kind),
    blank.stripes,
    blank.changes,
    blank.locations,
    same_copy (shape k) (shown_of m.blank) empty m.entries empty m.copies None m.total 0 m.grown 0 m.shrunk [] m.changes s
        blank.blank blank.entries blank.copies blank.total blank.grown blank.shrunk blank.changes (blank_copy k s same),
  )

  pub first_copies : FirstCopies V
  first_copies b base op (found.Keys t) c pos is here first =
      let s = shown_of base in
      let held : summed_by b.stripes op s ≡ Some t.held = ap (λ n. summed_by n op s) (sym is.stripes) ∙ here.0 in
      follows_learnt b s [] [] (Keys first.memo first.editions) c op t pos
      (blank_of b s (memo_kind t.held) first.memo first.editions first.blank
      (kind_touched b.stripes op s t.held held) is.kind) held first.learnt
  first_copies b base op (found.Whole copy) (Whole s) pos is here first = (
    ap (λ (z : Base V). kind_of (shown_of z)) first.0 ∙ (ap kind_of here.0 ∙ is.kind),
    ap stripes_of first.0 ∙ (here.1 ∙ is.stripes),
    first.1,
    first.2,
    ap shown_of first.0 ∙ (here.0 ∙ (sym (after_none (shown_of base)) ∙ ap (λ ds. after ds (shown_of base)) (sym first.1))),
  )
  first_copies b base op (found.Whole copy) (Keys m es) pos is here first = absurd first
