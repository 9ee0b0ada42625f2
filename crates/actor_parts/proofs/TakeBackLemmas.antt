-- What is taken back. A first copy stands after the others, which are as they were but for what is ready in them, so they show the pieces
-- that there were once it goes. A copy that learnt forgets what it learnt: it shows the pieces that it had (`ForgottenLemmas`), and stands
-- where it stood. One of a kind that is copied whole shows none as a memo. Once a copy is taken it is the one of its collection, and the
-- others are as they were.
use Rattle.std.proofs.Common.{◌≡◌, ◌<◌, ◌==◌, ◌++◌, ◌&&◌, eq-eqb, eqb-true, ℕ, zero, suc, Bool, true, false, true≢false, cond, length, take}
use Rattle.std.proofs.Common.{List, [], ◌∷◌, Option, Some, None, refl, sym, ap, subst, ◌∙◌, arith}
use Rattle.std.specs.Prelude.{slice_get}
use Rattle.std.proofs.Math.ListN.{set}
use Rattle.std.proofs.lemmas.Option.{same_Some}
use Rattle.seq_model.specs.declared.call.Op.{Op}
use Rattle.replay_log.specs.declared.base.Base.{Base}
use Rattle.replay_log.specs.Base.{Shown, OfMap, OfBag, OfPq, OfQueue, shown_of, stripes_of}
use Rattle.replay_log.specs.Parts.{kind_of}
use Rattle.replay_log.specs.Contents.{Block}
use Rattle.replay_log.specs.Pieces.{Piece, is_piece, piece_of}
use Rattle.replay_log.specs.declared.touch.Touch.{Touch}
use Rattle.actor_laws.specs.Bases.{IsBaseOf}
use Rattle.actor_parts.specs.First.{IsFirst}
use Rattle.shadow.specs.Memo.{MemoView}
use Rattle.actor_parts.specs.declared.copies.PrivateCopy.{PrivateCopy}
use Rattle.actor_parts.specs.declared.copies.PrivateCopy.TheVariants.{Keys, Whole}
use Rattle.actor_parts.specs.declared.copies.CopyOfCollection.{CopyOfCollection}
use Rattle.actor_parts.specs.declared.copies.BaseExcerpt.{BaseExcerpt}
use Rattle.actor_parts.specs.declared.copies.BaseExcerpt.TheVariants as found
use Rattle.actor_parts.specs.CopyAtGate.{IsTaken}
use Rattle.actor_parts.specs.PrivateCopy as copies
use Rattle.actor_parts.specs.PrivateCopy.{IsForgotten, IsFound, IsKept, IsLearnt, IsOf, holds_call, holds_of, is_copied_whole, memo_piece}
use Rattle.actor_parts.specs.Footprints.{IsPositionOf, base_in}
use Rattle.actor_parts.specs.CopyList.{AreKept, HaveSame, copy_of, has_piece}
use Rattle.actor_parts.specs.Taking.{IsAdded, IsPushed, IsPutAt, IsTakenAt, TakenBack, TakesBack, copy_with}
use Rattle.actor_parts.proofs.AlikeLemmas.{kept_at, kept_copy, kept_has}
use Rattle.actor_parts.proofs.ForgottenLemmas.{forgets_pieces}
use Rattle.actor_parts.proofs.FirstLemmas.{first_copies}
use Rattle.actor_parts.proofs.PiecesLemmas.{first_pieces, learnt_pieces}
use Rattle.actor_parts.proofs.CopyListLemmas.{first_at}

not_both : (j k l : ℕ) → (k == l) ≡ false → (j == l) ≡ true → (j == k) ≡ true → ⊥
not_both j k l other e f = true≢false (sym (eq-eqb k l (sym (eqb-true j k f) ∙ eqb-true j l e)) ∙ other)

module _ {V : Type 0} where
  -- ---- after the others
  kept_front : (cs : List (CopyOfCollection V)) (c : CopyOfCollection V) (es : List (CopyOfCollection V)) → AreKept (cs ++ c ∷ []) es
      → AreKept cs (take (length cs) es)
  kept_front [] c es h = tt
  kept_front (x ∷ cs) c (e ∷ es) h = (h.0, h.1, kept_front cs c es h.2)
  kept_front (x ∷ cs) c [] h = absurd h

  pub kept_same : (cs ds : List (CopyOfCollection V)) → AreKept cs ds → HaveSame cs ds
  kept_same cs ds h k q = kept_has (copy_of cs k) (copy_of ds k) q (kept_copy cs ds k h)

  -- ---- in the place of one
  either_same : (b : Bool) (c g : PrivateCopy V) (o p : Option (PrivateCopy V)) (q : Piece) → copies.has_piece g q ≡ copies.has_piece c q
      → has_piece p q ≡ has_piece o q → has_piece (cond b (Some g) p) q ≡ has_piece (cond b (Some c) o) q
  either_same true c g o p q here rest = here
  either_same false c g o p q here rest = rest

  pub some_kept : (c d : PrivateCopy V) (q : Piece) → IsKept c d → copies.has_piece d q ≡ copies.has_piece c q
  some_kept c d q h = kept_has (Some c) (Some d) q h

  set_same : (cs : List (CopyOfCollection V)) (i j k : ℕ) (c : CopyOfCollection V) (d g : PrivateCopy V) (es : List (CopyOfCollection V))
      → slice_get cs i ≡ Some c
      → c.collection ≡ k → j ≡ k → ((q : Piece) → copies.has_piece g q ≡ copies.has_piece c.copied q)
      → AreKept (set cs i (copy_with k d)) es → HaveSame cs (set es i (copy_with j g))
  set_same [] i j k c d g es at of same_place each kept l q = let h : ⊥ = cc in absurd h
  set_same (x ∷ cs) zero j k c d g (e ∷ es) at of same_place each kept l q =
      let same : x ≡ c = cc in
      let e0 : j ≡ x.collection = same_place ∙ (sym of ∙ ap (λ (z : CopyOfCollection V). z.collection) (sym same)) in
      let here : copies.has_piece g q ≡ copies.has_piece x.copied q =
      each q ∙ ap (λ (z : CopyOfCollection V). copies.has_piece z.copied q) (sym same) in
      ap (λ (m : ℕ). has_piece (cond (l == m) (Some g) (copy_of es l)) q) e0
      ∙ either_same (l == x.collection) x.copied g (copy_of cs l) (copy_of es l) q here (kept_same cs es kept.2 l q)
  set_same (x ∷ cs) (suc i) j k c d g (e ∷ es) at of same_place each kept l q =
      ap (λ (m : ℕ). has_piece (cond (l == m) (Some e.copied) (copy_of (set es i (copy_with j g)) l)) q) kept.0
      ∙ either_same (l == x.collection) x.copied e.copied (copy_of cs l) (copy_of (set es i (copy_with j g)) l) q
      (some_kept x.copied e.copied q kept.1)
      (set_same cs i j k c d g es at of same_place each kept.2 l q)
  set_same (x ∷ cs) zero j k c d g [] at of same_place each kept l q = absurd kept
  set_same (x ∷ cs) (suc i) j k c d g [] at of same_place each kept l q = absurd kept

  pub set_there : (cs : List (CopyOfCollection V)) (i : ℕ) (c d : CopyOfCollection V) → slice_get cs i ≡ Some c
      → slice_get (set cs i d) i ≡ Some d
  set_there [] i c d at = let h : ⊥ = cc in absurd h
  set_there (x ∷ cs) zero c d at = refl
  set_there (x ∷ cs) (suc i) c d at = set_there cs i c d at

  pub at_place : (cs : List (CopyOfCollection V)) (i : ℕ) → i < length cs → (c : CopyOfCollection V) × (slice_get cs i ≡ Some c)
  at_place [] i lt = absurd (omega (arith, lt))
  at_place (x ∷ cs) zero lt = (x, refl)
  at_place (x ∷ cs) (suc i) lt = at_place cs i (omega (arith, lt))

  -- ---- what is taken
  pub learnt_at : (n k i : ℕ) (x : BaseExcerpt V) (cs : List (CopyOfCollection V)) (here : CopyOfCollection V) (d : PrivateCopy V)
      → IsPositionOf cs k (Some i)
      → slice_get cs i ≡ Some here → IsAdded x here.copied d → IsTakenAt n k x i cs (set cs i (copy_with here.collection d))
  learnt_at n k i x cs here d place at added =
      let of : here.collection ≡ k = place.2 here at in
      let there : copy_of cs k ≡ Some here.copied = first_at cs i k here at (sym of) place.1 in
      record {
        copy = d;
        taken = subst (λ o. IsTaken n x o d) (sym there) (added n);
        put = subst (IsPutAt k d i cs (set cs i (copy_with here.collection d))) (sym there)
            (place, ap (λ j. set cs i (copy_with j d)) of);
      }

  pub pushed_at : (n k : ℕ) (x : BaseExcerpt V) (cs ds : List (CopyOfCollection V)) → copy_of cs k ≡ None → IsPushed n k x cs ds
      → IsTakenAt n k x (length cs) cs ds
  pushed_at n k x cs ds none pushed = record {
    copy = pushed.0;
    taken = subst (λ o. IsTaken n x o pushed.0) (sym none) pushed.1;
    put = subst (IsPutAt k pushed.0 (length cs) cs ds) (sym none) (refl, pushed.2);
  }

  -- ---- the pieces of a copy that learnt and forgot
  no_piece : (z : Shown V) (m : MemoView V) (q : Piece) → is_copied_whole (kind_of z) ≡ true → memo_piece z m q ≡ false
  no_piece (OfMap b) m q e = absurd (true≢false (sym e))
  no_piece (OfBag b) m q e = absurd (true≢false (sym e))
  no_piece (OfPq b) m q e = refl
  no_piece (OfQueue b) m q e = refl

  whole_back : (op : Op V) (c d g : PrivateCopy V) (q : Piece) → is_copied_whole (kind_of (shown_of (base_in c))) ≡ true
      → holds_call c op ≡ false → IsKept c d → IsForgotten op d g → copies.has_piece g q ≡ copies.has_piece c q
  whole_back op (Keys m es) (Keys n fs) (Keys o gs) q whole unheld kept forgot =
      let e : is_copied_whole (kind_of (shown_of o.blank)) ≡ true =
      ap (λ b. is_copied_whole (kind_of (shown_of b))) (forgot.0 ∙ kept.0) ∙ whole in
      no_piece (shown_of o.blank) o q e ∙ sym (no_piece (shown_of m.blank) m q whole)
  whole_back op (Whole s) d g q whole unheld kept forgot = absurd (true≢false unheld)
  whole_back op (Keys m es) (Whole s) g q whole unheld kept forgot = absurd kept
  whole_back op (Keys m es) (Keys n fs) (Whole s) q whole unheld kept forgot = absurd forgot

  forgot_back : (n : ℕ) (op : Op V) (base : Base V) (x : BaseExcerpt V) (c d e g : PrivateCopy V) (q : Piece) → IsFound base op x
      → kind_of (shown_of (base_in c)) ≡ kind_of (shown_of base) → holds_call c op ≡ false → IsTaken n x (Some c) d → IsKept d e
      → IsForgotten op e g → copies.has_piece g q ≡ copies.has_piece c q
  forgot_back n op base (found.Keys t) c d e g q is kind unheld taken kept forgot =
      forgets_pieces (stripes_of base) op (shown_of base) t c d e g q is.0 kind unheld taken kept forgot
  forgot_back n op base (found.Whole b) c d e g q is kind unheld taken kept forgot =
      whole_back op c e g q (ap is_copied_whole kind ∙ is.3) unheld (subst (λ z. IsKept z e) taken kept) forgot

  -- ---- both
  back_from : (n k i : ℕ) (op : Op V) (base : Base V) (x : BaseExcerpt V) (before now ready after : List (CopyOfCollection V))
      (copy : PrivateCopy V)
      (o : Option (PrivateCopy V)) → copy_of before k ≡ o → IsFound base op x
      → ((c : PrivateCopy V) → o ≡ Some c → kind_of (shown_of (base_in c)) ≡ kind_of (shown_of base)) → holds_of o op ≡ false
      → IsTaken n x o copy → IsPutAt k copy i before now o → AreKept now ready → TakesBack (length before) i op ready after
      → HaveSame before after
  back_from n k i op base x before now ready after copy None is found kind unheld taken put kept back =
      let gone = back.1 (omega (arith, put.0)) in
      let front = kept_front before (copy_with k copy) ready (subst (λ cs. AreKept cs ready) put.1 kept) in
      subst (HaveSame before) (sym gone) (kept_same before (take (length before) ready) front)
  back_from n k i op base x before now ready after copy (Some c) is found kind unheld taken put kept back =
      let there = at_place before i put.0.0 in
      let b = there.0 in
      let of : b.collection ≡ k = put.0.2 b there.1 in
      let same : c ≡ b.copied = same_Some c b.copied (sym is ∙ first_at before i k b there.1 (sym of) put.0.1) in
      let kept_now = subst (λ cs. AreKept cs ready) put.1 kept in
      let forgot = back.0 put.0.0 in
      let e = forgot.copy in
      let g = forgot.copied in
      let was = kept_at (set before i (copy_with k copy)) ready i e kept_now forgot.at in
      let was_with : was.0 ≡ copy_with k copy = same_Some was.0 (copy_with k copy)
      (sym was.1 ∙ set_there before i b (copy_with k copy) there.1) in
      let e_kept : IsKept copy e.copied = subst (λ (z : CopyOfCollection V). IsKept z.copied e.copied) was_with was.3 in
      let e_of : e.collection ≡ k = was.2 ∙ ap (λ (z : CopyOfCollection V). z.collection) was_with in
      let each : (q : Piece) → copies.has_piece g q ≡ copies.has_piece b.copied q = λ q.
      forgot_back n op base x c copy e.copied g q found (kind c refl) unheld taken e_kept forgot.forgot
      ∙ ap (λ z. copies.has_piece z q) same in
      subst (HaveSame before) (sym forgot.is) (set_same before i e.collection k b copy g ready there.1 of e_of each kept_now)

  pub taken_goes_back : TakenBack V
  taken_goes_back n k i op base x before now ready after found kind unheld at kept back =
      back_from n k i op base x before now ready after at.copy (copy_of before k) refl found kind unheld at.taken at.put kept back

  -- ---- the copies that there are once it is taken
  beside : (b p : Bool) (c d : PrivateCopy V) (o q : Option (PrivateCopy V)) → (b ≡ true → p ≡ true → ⊥) → q ≡ cond p (Some c) o
      → cond b (Some d) q ≡ cond p (Some c) (cond b (Some d) o)
  beside true true c d o q never e = absurd (never refl refl)
  beside true false c d o q never e = refl
  beside false p c d o q never e = e

  not_here : (b : Bool) (c : PrivateCopy V) (o : Option (PrivateCopy V)) → cond b (Some c) o ≡ None → (b ≡ false) × (o ≡ None)
  not_here true c o e = let h : ⊥ = cc in absurd h
  not_here false c o e = (refl, e)

  behind : (k : ℕ) (c : PrivateCopy V) (cs : List (CopyOfCollection V)) (j : ℕ) → copy_of cs k ≡ None
      → copy_of (cs ++ copy_with k c ∷ []) j ≡ cond (j == k) (Some c) (copy_of cs j)
  behind k c [] j none = refl
  behind k c (x ∷ cs) j none =
      let other = not_here (k == x.collection) x.copied (copy_of cs k) none in
      beside (j == x.collection) (j == k) c x.copied (copy_of cs j) (copy_of (cs ++ copy_with k c ∷ []) j)
      (not_both j k x.collection other.0) (behind k c cs j other.1)

  twice : (b : Bool) (c d : PrivateCopy V) (o : Option (PrivateCopy V)) → cond b (Some c) o ≡ cond b (Some c) (cond b (Some d) o)
  twice true c d o = refl
  twice false c d o = refl

  in_place : (k : ℕ) (c : PrivateCopy V) (cs : List (CopyOfCollection V)) (i j : ℕ) (d : CopyOfCollection V) → slice_get cs i ≡ Some d
      → d.collection ≡ k
      → copy_of (take i cs) k ≡ None → copy_of (set cs i (copy_with k c)) j ≡ cond (j == k) (Some c) (copy_of cs j)
  in_place k c [] i j d at of none = let h : ⊥ = cc in absurd h
  in_place k c (x ∷ cs) zero j d at of none =
      let same : x ≡ d = cc in
      let e : k ≡ x.collection = sym of ∙ ap (λ (z : CopyOfCollection V). z.collection) (sym same) in
      twice (j == k) c x.copied (copy_of cs j) ∙ ap (λ m. cond (j == k) (Some c) (cond (j == m) (Some x.copied) (copy_of cs j))) e
  in_place k c (x ∷ cs) (suc i) j d at of none =
      let other = not_here (k == x.collection) x.copied (copy_of (take i cs) k) none in
      beside (j == x.collection) (j == k) c x.copied (copy_of cs j) (copy_of (set cs i (copy_with k c)) j)
      (not_both j k x.collection other.0) (in_place k c cs i j d at of other.1)

  put_copy : (k : ℕ) (c : PrivateCopy V) (i : ℕ) (before now : List (CopyOfCollection V)) (o : Option (PrivateCopy V))
      → copy_of before k ≡ o
      → IsPutAt k c i before now o → (j : ℕ) → copy_of now j ≡ cond (j == k) (Some c) (copy_of before j)
  put_copy k c i before now None is put j = ap (λ cs. copy_of cs j) put.1 ∙ behind k c before j is
  put_copy k c i before now (Some d) is put j =
      let there = at_place before i put.0.0 in
      ap (λ cs. copy_of cs j) put.1 ∙ in_place k c before i j there.0 there.1 (put.0.2 there.0 there.1) put.0.1

  -- it stands at its place
  last_at : (cs : List (CopyOfCollection V)) (c : CopyOfCollection V) → slice_get (cs ++ c ∷ []) (length cs) ≡ Some c
  last_at [] c = refl
  last_at (x ∷ cs) c = last_at cs c

  set_length : (cs : List (CopyOfCollection V)) (i : ℕ) (c : CopyOfCollection V) → length (set cs i c) ≡ length cs
  set_length [] i c = refl
  set_length (x ∷ cs) zero c = refl
  set_length (x ∷ cs) (suc i) c = ap suc (set_length cs i c)

  push_length : (cs : List (CopyOfCollection V)) (c : CopyOfCollection V) → length cs < length (cs ++ c ∷ [])
  push_length [] c = omega (arith)
  push_length (x ∷ cs) c = let rest = push_length cs c in omega (arith, rest)

  put_at : (k : ℕ) (c : PrivateCopy V) (i : ℕ) (before now : List (CopyOfCollection V)) (o : Option (PrivateCopy V))
      → IsPutAt k c i before now o
      → (i < length now) × (slice_get now i ≡ Some (copy_with k c))
  put_at k c i before now None put = (
    subst (λ cs. i < length cs) (sym put.1)
        (subst (λ j. j < length (before ++ copy_with k c ∷ [])) (sym put.0) (push_length before (copy_with k c))),
    (λ j. slice_get (put.1 j) (put.0 j)) ∙ last_at before (copy_with k c),
  )
  put_at k c i before now (Some d) put =
      let there = at_place before i put.0.0 in (
        subst (λ cs. i < length cs) (sym put.1) (subst (λ n. i < n) (sym (set_length before i (copy_with k c))) put.0.0),
        ap (λ cs. slice_get cs i) put.1 ∙ set_there before i there.0 (copy_with k c) there.1,
      )

  pub taken_there : (n k i : ℕ) (x : BaseExcerpt V) (before now : List (CopyOfCollection V)) (t : IsTakenAt n k x i before now)
      → (i < length now) × (slice_get now i ≡ Some (copy_with k t.copy))
  taken_there n k i x before now t = put_at k t.copy i before now (copy_of before k) t.put

  pub taken_copies : (n k i : ℕ) (x : BaseExcerpt V) (before now : List (CopyOfCollection V)) (t : IsTakenAt n k x i before now) (j : ℕ)
      → copy_of now j ≡ cond (j == k) (Some t.copy) (copy_of before j)
  taken_copies n k i x before now t j = put_copy k t.copy i before now (copy_of before k) refl t.put j

  -- it is of its block
  of_block : (b : Block) (s : Shown V) (c : PrivateCopy V) → IsOf b s [] [] c
      → (kind_of (shown_of (base_in c)) ≡ b.kind) × (stripes_of (base_in c) ≡ b.stripes)
  of_block b s (Keys m es) h = (h.0, h.1)
  of_block b s (Whole t) h = (h.0, h.1)

  learnt_of : (b : Block) (t : Touch V) (c d : PrivateCopy V)
      → (kind_of (shown_of (base_in c)) ≡ b.kind) × (stripes_of (base_in c) ≡ b.stripes)
      → IsLearnt t c d → (kind_of (shown_of (base_in d)) ≡ b.kind) × (stripes_of (base_in d) ≡ b.stripes)
  learnt_of b t (Keys m es) (Keys n fs) of h = (ap (λ z. kind_of (shown_of z)) h.0 ∙ of.0, ap stripes_of h.0 ∙ of.1)
  learnt_of b t (Whole s) d of h =
      subst (λ z. (kind_of (shown_of (base_in z)) ≡ b.kind) × (stripes_of (base_in z) ≡ b.stripes)) (sym h) of
  learnt_of b t (Keys m es) (Whole s) of h = absurd h

  pub taken_in_block : (b : Block) (base : Base V) (op : Op V) (x : BaseExcerpt V) (o : Option (PrivateCopy V)) (d : PrivateCopy V)
      → 0 < b.stripes
      → IsBaseOf b base → IsFound base op x
      → ((c : PrivateCopy V) → o ≡ Some c → (kind_of (shown_of (base_in c)) ≡ b.kind) × (stripes_of (base_in c) ≡ b.stripes))
      → IsTaken b.stripes x o d → (kind_of (shown_of (base_in d)) ≡ b.kind) × (stripes_of (base_in d) ≡ b.stripes)
  taken_in_block b base op x None d pos is found of taken =
      of_block b (shown_of base) d (first_copies b base op x d pos is found taken)
  taken_in_block b base op (found.Keys t) (Some c) d pos is here of taken = learnt_of b t c d (of c refl) taken
  taken_in_block b base op (found.Whole y) (Some c) d pos is here of taken =
      subst (λ z. (kind_of (shown_of (base_in z)) ≡ b.kind) × (stripes_of (base_in z) ≡ b.stripes)) (sym taken) (of c refl)

  -- ---- its pieces
  copy_pieces : (b : Block) (base : Base V) (op : Op V) (x : BaseExcerpt V) (o : Option (PrivateCopy V)) (d : PrivateCopy V) (q : Piece)
      → IsBaseOf b base
      → IsFound base op x → ((c : PrivateCopy V) → o ≡ Some c → kind_of (shown_of (base_in c)) ≡ b.kind) → holds_of o op ≡ false
      → holds_call d op ≡ true → IsTaken b.stripes x o d
      → copies.has_piece d q ≡ cond (is_piece (piece_of (kind_of (shown_of base)) op) q) true (has_piece o q)
  copy_pieces b base op x None d q is found of unheld holds taken =
      first_pieces base op x d q found (subst (λ n. IsFirst n x d) (sym is.stripes) taken)
  copy_pieces b base op (found.Keys t) (Some (Keys m es)) d q is here of unheld holds taken =
      learnt_pieces (stripes_of base) op (shown_of base) t m es d q here.0 (of (Keys m es) refl ∙ sym is.kind) taken
  copy_pieces b base op (found.Keys t) (Some (Whole s)) d q is here of unheld holds taken = absurd (true≢false unheld)
  copy_pieces b base op (found.Whole y) (Some c) d q is here of unheld holds taken =
      absurd (true≢false (sym holds ∙ (ap (λ z. holds_call z op) taken ∙ unheld)))

  by_place : (b p : Bool) (c : PrivateCopy V) (o : Option (PrivateCopy V)) (q : Piece)
      → (b ≡ true → copies.has_piece c q ≡ cond p true (has_piece o q))
      → has_piece (cond b (Some c) o) q ≡ cond (b && p) true (has_piece o q)
  by_place true p c o q e = e refl
  by_place false p c o q e = refl

  pub taken_pieces : (b : Block) (base : Base V) (op : Op V) (x : BaseExcerpt V) (k i : ℕ) (before now : List (CopyOfCollection V))
      → IsBaseOf b base
      → IsFound base op x → ((c : PrivateCopy V) → copy_of before k ≡ Some c → kind_of (shown_of (base_in c)) ≡ b.kind)
      → holds_of (copy_of before k) op ≡ false → (t : IsTakenAt b.stripes k x i before now) → holds_call t.copy op ≡ true
      → (j : ℕ) (q : Piece)
      → has_piece (copy_of now j) q ≡ cond ((j == k) && is_piece (piece_of b.kind op) q) true (has_piece (copy_of before j) q)
  taken_pieces b base op x k i before now is found of unheld t holds j q =
      let p = is_piece (piece_of b.kind op) q in
      let here : copies.has_piece t.copy q ≡ cond p true (has_piece (copy_of before k) q) =
      copy_pieces b base op x (copy_of before k) t.copy q is found of unheld holds t.taken
      ∙ ap (λ z. cond (is_piece (piece_of z op) q) true (has_piece (copy_of before k) q)) is.kind in
      ap (λ o. has_piece o q) (taken_copies b.stripes k i x before now t j)
      ∙ by_place (j == k) p t.copy (copy_of before j) q
      (λ e. here ∙ ap (λ l. cond p true (has_piece (copy_of before l) q)) (sym (eqb-true j k e)))
