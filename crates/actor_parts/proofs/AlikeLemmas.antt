-- What is made ready in copies changes nothing that they show (`IsKept`): what they hold and answer, their pieces, their editions; and what
-- is a transaction's own remains its own.
use Rattle.std.proofs.Common.{◌≡◌, ◌==◌, ◌+◌, ℕ, zero, suc, Bool, true, false, cond, length, List, [], ◌∷◌, Option, Some, None, refl, sym}
use Rattle.std.proofs.Common.{ap, subst, ◌∙◌}
use Rattle.std.specs.Prelude.{Contains, is_some, slice_get, slice_index, unwrap_or}
use Rattle.std.specs.FinMap as map
use Rattle.std.proofs.Math.ListN.{set}
use Rattle.std.proofs.lemmas.Option.{same_Some}
use Rattle.seq_model.specs.declared.call.Op.{Op}
use Rattle.conflict.specs.declared.outcome.Outcome.{Outcome}
use Rattle.conflict.specs.declared.change.Change.{Change}
use Rattle.replay_log.specs.Base.{Shown, OfMap, OfBag, OfPq, OfQueue, after, outcome_of, reads_of, shown_of, stripes_of, writes_of}
use Rattle.replay_log.specs.Parts.{kind_of}
use Rattle.tx_machine.specs.Opacity.{first_read}
use Rattle.replay_log.specs.Contents.{Block, first_of}
use Rattle.replay_log.specs.Pieces.{Piece, Entry, Counts, piece_of}
use Rattle.replay_log.specs.Pieces as pieces
use Rattle.replay_log.specs.Worlds.{World, actor_of}
use Rattle.shadow.specs.Memo.{MemoView, answer_with, has_key, holds_with}
use Rattle.actor_parts.specs.declared.copies.CopyOfCollection.{CopyOfCollection}
use Rattle.actor_parts.specs.declared.copies.PrivateCopy.{PrivateCopy}
use Rattle.actor_parts.specs.declared.copies.PrivateCopy.TheVariants.{Keys, Whole}
use Rattle.actor_parts.specs.PrivateCopy as copies
use Rattle.actor_parts.specs.PrivateCopy.{IsKept, IsOf, answer_of, edition_at, holds_call, memo_piece}
use Rattle.actor_parts.specs.Footprints.{known_edition, reads_in, writes_in}
use Rattle.actor_parts.specs.CopyAtGate.{IsReadBy, IsReadOf}
use Rattle.actor_parts.specs.CopyInWorld.{Knows}
use Rattle.actor_parts.specs.Writes.{with_next}
use Rattle.actor_parts.specs.Owns.{AreOnce, IsOwn}
use Rattle.actor_parts.specs.CopyList.{AreKept, copy_of, has_piece}
use Rattle.actor_parts.proofs.PrivateCopyLemmas.{same_copy}

module _ {V : Type 0} where
  piece_by : (b : Shown V) (m n : MemoView V) (q : Piece) → n.entries ≡ m.entries → n.copies ≡ m.copies → n.total ≡ m.total
      → memo_piece b n q ≡ memo_piece b m q
  piece_by (OfMap b) m n (Entry k) e c t = ap (λ es. has_key es k) e
  piece_by (OfMap b) m n Counts e c t = ap (λ z. is_some z) t
  piece_by (OfMap b) m n pieces.Whole e c t = refl
  piece_by (OfBag b) m n (Entry x) e c t = ap (λ cs. has_key cs x) c
  piece_by (OfBag b) m n Counts e c t = refl
  piece_by (OfBag b) m n pieces.Whole e c t = refl
  piece_by (OfPq b) m n q e c t = refl
  piece_by (OfQueue b) m n q e c t = refl

  -- ---- what is kept
  pub kept_itself : (c : PrivateCopy V) → IsKept c c
  kept_itself (Keys m es) = (refl, refl, refl, refl, refl, refl, refl, refl, refl)
  kept_itself (Whole s) = (refl, refl, refl, refl, refl)

  pub all_kept : (cs : List (CopyOfCollection V)) → AreKept cs cs
  all_kept [] = tt
  all_kept (c ∷ cs) = (refl, kept_itself c.copied, all_kept cs)

  pub kept_set : (cs : List (CopyOfCollection V)) (i : ℕ) (c d : CopyOfCollection V) → slice_get cs i ≡ Some c → d.collection ≡ c.collection
      → IsKept c.copied d.copied → AreKept cs (set cs i d)
  kept_set [] i c d at same kept = let h : ⊥ = cc in absurd h
  kept_set (x ∷ cs) zero c d at same kept =
      let e : c ≡ x = cc in
      (same ∙ ap (λ (z : CopyOfCollection V). z.collection) e, subst (λ (z : CopyOfCollection V). IsKept z.copied d.copied) e kept, all_kept cs)
  kept_set (x ∷ cs) (suc i) c d at same kept = (refl, kept_itself x.copied, kept_set cs i c d at same kept)

  pub kept_length : (cs ds : List (CopyOfCollection V)) → AreKept cs ds → length ds ≡ length cs
  kept_length [] [] h = refl
  kept_length (c ∷ cs) (d ∷ ds) h = ap suc (kept_length cs ds h.2)
  kept_length [] (d ∷ ds) h = absurd h
  kept_length (c ∷ cs) [] h = absurd h

  pub kept_at : (cs ds : List (CopyOfCollection V)) (i : ℕ) (d : CopyOfCollection V) → AreKept cs ds → slice_get ds i ≡ Some d
      → (c : CopyOfCollection V) × (slice_get cs i ≡ Some c) × (d.collection ≡ c.collection) × IsKept c.copied d.copied
  kept_at [] [] i d h at = let z : ⊥ = cc in absurd z
  kept_at (c ∷ cs) (e ∷ ds) zero d h at =
      let same : e ≡ d = cc in
      (c, refl, subst (λ (z : CopyOfCollection V). z.collection ≡ c.collection) same h.0, subst (λ (z : CopyOfCollection V). IsKept c.copied z.copied) same h.1)
  kept_at (c ∷ cs) (e ∷ ds) (suc i) d h at = kept_at cs ds i d h.2 at
  kept_at [] (d ∷ ds) i e h at = absurd h
  kept_at (c ∷ cs) [] i e h at = absurd h

  abbrev pub KeptOf : Option (PrivateCopy V) → Option (PrivateCopy V) → Type 0
  KeptOf None None = Unit {0}
  KeptOf (Some c) (Some d) = IsKept c d
  KeptOf o p = ⊥

  either_kept : (b : Bool) (o p q s : Option (PrivateCopy V)) → KeptOf o p → KeptOf q s → KeptOf (cond b o q) (cond b p s)
  either_kept true o p q s here rest = here
  either_kept false o p q s here rest = rest

  pub kept_copy : (cs ds : List (CopyOfCollection V)) (k : ℕ) → AreKept cs ds → KeptOf (copy_of cs k) (copy_of ds k)
  kept_copy [] [] k h = tt
  kept_copy (c ∷ cs) (d ∷ ds) k h =
      subst (λ (j : ℕ). KeptOf (copy_of (c ∷ cs) k) (cond (k == j) (Some d.copied) (copy_of ds k))) (sym h.0)
      (either_kept (k == c.collection) (Some c.copied) (Some d.copied) (copy_of cs k) (copy_of ds k) h.1 (kept_copy cs ds k h.2))
  kept_copy [] (d ∷ ds) k h = absurd h
  kept_copy (c ∷ cs) [] k h = absurd h

  pub kept_none : (o p : Option (PrivateCopy V)) → KeptOf o p → o ≡ None → p ≡ None
  kept_none None None h e = refl
  kept_none (Some c) p h e = let z : ⊥ = cc in absurd z
  kept_none None (Some d) h e = absurd h

  pub kept_holds : (c d : PrivateCopy V) (op : Op V) → IsKept c d → holds_call d op ≡ holds_call c op
  kept_holds (Keys m es) (Keys n fs) op h = λ j. holds_with (shown_of (h.0 j)) (h.1 j) (h.2 j) (h.3 j) op
  kept_holds (Whole s) (Whole t) op h = refl
  kept_holds (Keys m es) (Whole t) op h = absurd h
  kept_holds (Whole s) (Keys n fs) op h = absurd h

  pub kept_answers : (c d : PrivateCopy V) (op : Op V) → IsKept c d → answer_of d op ≡ answer_of c op
  kept_answers (Keys m es) (Keys n fs) op h = λ j. answer_with (shown_of (h.0 j)) (h.1 j) (h.2 j) (h.3 j) (h.4 j) (h.5 j) op
  kept_answers (Whole s) (Whole t) op h = λ j. outcome_of op (h.0 j)
  kept_answers (Keys m es) (Whole t) op h = absurd h
  kept_answers (Whole s) (Keys n fs) op h = absurd h

  pub kept_pieces : (c d : PrivateCopy V) (q : Piece) → IsKept c d → copies.has_piece d q ≡ copies.has_piece c q
  kept_pieces (Keys m es) (Keys n fs) q h = by m n q h.0 h.1 h.2 h.3
    where
      by : (m n : MemoView V) (q : Piece) → n.blank ≡ m.blank → n.entries ≡ m.entries → n.copies ≡ m.copies → n.total ≡ m.total
          → memo_piece (shown_of n.blank) n q ≡ memo_piece (shown_of m.blank) m q
      by m n q e0 e1 e2 e3 = ap (λ b. memo_piece (shown_of b) n q) e0 ∙ piece_by (shown_of m.blank) m n q e1 e2 e3
  kept_pieces (Whole s) (Whole t) q h = refl
  kept_pieces (Keys m es) (Whole t) q h = absurd h
  kept_pieces (Whole s) (Keys n fs) q h = absurd h

  pub kept_reads : (c d : PrivateCopy V) (o : Outcome V) → IsKept c d → reads_in d o ≡ reads_in c o
  kept_reads (Keys m es) (Keys n fs) o h = λ j. reads_of (stripes_of (h.0 j)) o (shown_of (h.0 j))
  kept_reads (Whole s) (Whole t) o h = λ j. reads_of (h.1 j) o (h.0 j)
  kept_reads (Keys m es) (Whole t) o h = absurd h
  kept_reads (Whole s) (Keys n fs) o h = absurd h

  pub kept_editions : (c d : PrivateCopy V) (i : ℕ) → IsKept c d → edition_at d i ≡ edition_at c i
  kept_editions (Keys m es) (Keys n fs) i h = ap (λ z. map.get z i) h.8
  kept_editions (Whole s) (Whole t) i h = ap (λ z. slice_get z i) h.2
  kept_editions (Keys m es) (Whole t) i h = absurd h
  kept_editions (Whole s) (Keys n fs) i h = absurd h

  pub kept_of : (b : Block) (s : Shown V) (xs : List (Change V)) (ls : List ℕ) (c d : PrivateCopy V) → IsKept c d → IsOf b s xs ls c
      → IsOf b s xs ls d
  kept_of b s xs ls (Keys m es) (Keys n fs) h is = (
    ap (λ z. kind_of (shown_of z)) h.0 ∙ is.0,
    ap stripes_of h.0 ∙ is.1,
    h.6 ∙ is.2,
    h.7 ∙ is.3,
    same_copy (shown_of m.blank) (shown_of n.blank) m.entries n.entries m.copies n.copies m.total n.total m.grown n.grown m.shrunk n.shrunk
        m.changes n.changes s (ap shown_of h.0) h.1 h.2 h.3 h.4 h.5 h.6 is.4,
  )
  kept_of b s xs ls (Whole x) (Whole y) h is = (
    ap kind_of h.0 ∙ is.0,
    h.1 ∙ is.1,
    h.3 ∙ is.2,
    h.4 ∙ is.3,
    h.0 ∙ (is.4 ∙ ap (λ ds. after ds s) (sym h.3)),
  )
  kept_of b s xs ls (Keys m es) (Whole t) h is = absurd h
  kept_of b s xs ls (Whole t) (Keys n fs) h is = absurd h

  pub kept_own : (w : World V) (a k : ℕ) (o p : Option (PrivateCopy V)) → KeptOf o p → IsOwn w a k o → IsOwn w a k p
  kept_own w a k None None h is = is
  kept_own w a k (Some c) (Some d) h is =
      let b = is.0 in
      let own = is.1 in (
        b,
        record {
          stripes = own.stripes;
          block = own.block;
          first = own.first;
          copied = (
            (own.copied.0.0, own.copied.0.1, kept_of b own.copied.0.0 _ _ c d h own.copied.0.2),
            λ i e lt at. own.copied.1 i e lt (sym (kept_editions c d i h) ∙ at),
          );
          knows = λ o holds. (
              let before = own.knows o (sym (kept_holds c d o.op h) ∙ holds) in
              subst (Knows d) (sym (kept_reads c d o h))
              (λ i there. (let e = before i there in (e.0, kept_editions c d i h ∙ e.1))));
          pieces = λ op known. kept_holds c d op h ∙ (own.pieces op known ∙ sym (kept_pieces c d (piece_of b.kind op) h));
        },
      )
  kept_own w a k None (Some d) h is = absurd h
  kept_own w a k (Some c) None h is = absurd h

  pub kept_once : (cs ds : List (CopyOfCollection V)) → AreKept cs ds → AreOnce cs → AreOnce ds
  kept_once [] [] h once = tt
  kept_once (c ∷ cs) (d ∷ ds) h once = (
    kept_none (copy_of cs d.collection) (copy_of ds d.collection) (kept_copy cs ds d.collection h.2) (ap (copy_of cs) h.0 ∙ once.0),
    kept_once cs ds h.2 once.1,
  )
  kept_once [] (d ∷ ds) h once = absurd h
  kept_once (c ∷ cs) [] h once = absurd h

  pub kept_has : (o p : Option (PrivateCopy V)) (q : Piece) → KeptOf o p → has_piece p q ≡ has_piece o q
  kept_has None None q h = refl
  kept_has (Some c) (Some d) q h = kept_pieces c d q h
  kept_has None (Some d) q h = absurd h
  kept_has (Some c) None q h = absurd h

  -- ---- the locations and the reads of a copy
  pub kept_writes : (c d : PrivateCopy V) (o : Outcome V) → IsKept c d → writes_in d o ≡ writes_in c o
  kept_writes (Keys m es) (Keys n fs) o h = λ j. writes_of (stripes_of (h.0 j)) o (shown_of (h.0 j))
  kept_writes (Whole s) (Whole t) o h = λ j. writes_of (h.1 j) o (h.0 j)
  kept_writes (Keys m es) (Whole t) o h = absurd h
  kept_writes (Whole s) (Keys n fs) o h = absurd h

  pub kept_known : (c d : PrivateCopy V) (i : ℕ) → IsKept c d → known_edition d i ≡ known_edition c i
  kept_known (Keys m es) (Keys n fs) i h = ap (λ z. unwrap_or (map.get z i) 0) h.8
  kept_known (Whole s) (Whole t) i h = ap (λ z. slice_index z i) h.2
  kept_known (Keys m es) (Whole t) i h = absurd h
  kept_known (Whole s) (Keys n fs) i h = absurd h

  next_kept : (c d : PrivateCopy V) (f : ℕ) (ls : List ℕ) → IsKept c d → with_next d f ls ≡ with_next c f ls
  next_kept c d f [] h = refl
  next_kept c d f (l ∷ ls) h = λ j. (f + l, kept_known c d l h j + 1) ∷ next_kept c d f ls h j

  pub writes_kept : (c d : PrivateCopy V) (f : ℕ) (o : Outcome V) → IsKept c d
      → with_next d f (writes_in d o) ≡ with_next c f (writes_in c o)
  writes_kept c d f o h = ap (with_next d f) (kept_writes c d o h) ∙ next_kept c d f (writes_in c o) h

  pub read_kept : (read : ℕ → Option ℕ) (f : ℕ) (c d : PrivateCopy V) → IsKept c d → IsReadBy read f c → IsReadBy read f d
  read_kept read f (Keys m es) (Keys n fs) h is = (
    λ o held i there. is.0 o (sym (kept_holds (Keys m es) (Keys n fs) o.op h) ∙ held) i
        (subst (λ (ls : List ℕ). Contains ls i) (kept_reads (Keys m es) (Keys n fs) o h) there),
    λ i e at. is.1 i e (sym (kept_editions (Keys m es) (Keys n fs) i h) ∙ at),
  )
  read_kept read f (Whole s) (Whole t) h is = tt
  read_kept read f (Keys m es) (Whole t) h is = absurd h
  read_kept read f (Whole s) (Keys n fs) h is = absurd h

  pub read_of_kept : (w : World V) (a k : ℕ) (o p : Option (PrivateCopy V)) → KeptOf o p → IsReadOf w a k o → IsReadOf w a k p
  read_of_kept w a k None None h is = is
  read_of_kept w a k (Some c) (Some d) h is =
      read_kept (first_read (actor_of w a).calls) (first_of w.words w.blocks k) c d h is
  read_of_kept w a k None (Some d) h is = absurd h
  read_of_kept w a k (Some c) None h is = absurd h
