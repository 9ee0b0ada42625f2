-- What an actor has of all collections, and of which worlds that is its own: it depends on how the locations are laid out and on the
-- actor's own shadow (`owns_by`). An acceptance puts one outcome after those of the shadow, and into the copy of its collection, which
-- stands once among the copies: that copy follows by the law on copies, and the others leave out an outcome on another collection
-- (`OwnLemmas`).
use Rattle.std.proofs.Common.{◌≡◌, ◌≢◌, ℕ, zero, suc, ◌==◌, Bool, true, false, cond, true≢false, eqb-true, eq-eqb, List, [], ◌∷◌, Option}
use Rattle.std.proofs.Common.{Some, None, refl, sym, ap, subst, ◌∙◌}
use Rattle.std.specs.Prelude.{slice_get}
use Rattle.std.proofs.lemmas.Bool.{cond-true, cond-false}
use Rattle.std.proofs.Math.ListN.{set}
use Rattle.std.proofs.lemmas.Option.{none-some}
use Rattle.conflict.specs.declared.outcome.Outcome.{Outcome}
use Rattle.tx_machine.specs.Boosted.{Shadow as Part, longer}
use Rattle.replay_log.specs.Base.{Shown, shown_of, stripes_of}
use Rattle.replay_log.specs.Parts.{kind_of}
use Rattle.replay_log.specs.Contents.{CallWithOutcome, Block, HaveStripes, block_of, first_of}
use Rattle.replay_log.specs.Pieces.{piece_of}
use Rattle.replay_log.specs.Worlds.{World}
use Rattle.replay_log.proofs.ContentLemmas.{positive_at}
use Rattle.actor_laws.specs.Bases.{log_changes, log_locations}
use Rattle.actor_parts.specs.declared.copies.PrivateCopy.{PrivateCopy}
use Rattle.actor_parts.specs.declared.copies.PrivateCopy.TheVariants.{Keys, Whole}
use Rattle.actor_parts.specs.declared.copies.CopyOfCollection.{CopyOfCollection}
use Rattle.tx_actor.specs.declared.actor.TxActor.{TxActor}
use Rattle.tx_actor.specs.Answers.{IsAcceptedAt}
use Rattle.actor_parts.specs.Blocks.{BlocksView, IsLaid}
use Rattle.actor_parts.specs.PrivateCopy.{IsAccepted, IsCopied, IsOf, answer_of, answered_on, holds_call}
use Rattle.actor_parts.specs.Footprints.{base_in, reads_in}
use Rattle.actor_parts.specs.CopyInWorld.{IsOwnCopy, Knows}
use Rattle.actor_parts.specs.Owns.{AreOfBlocks, AreOnce, IsOfBlock, IsOwn}
use Rattle.tx_actor.specs.Owns.{OwnsCopies}
use Rattle.actor_parts.specs.CopyList.{copy_of}
use Rattle.actor_parts.proofs.PrivateCopyLemmas.{apart, editions_stay, follows_accepted}
use Rattle.actor_parts.proofs.CopyListLemmas.{accepted_pieces}
use Rattle.actor_parts.proofs.OwnLemmas.{own_joined, own_same}
use Rattle.actor_parts.proofs.ReadLemmas.{same_holds, same_reads}
use Rattle.actor_parts.proofs.TakeBackLemmas.{set_there}

differ : (j k : ℕ) → (j == k) ≡ false → j ≢ k
differ j k e same = true≢false (sym (eq-eqb j k same) ∙ e)

module _ {V : Type 0} where
  -- ---- each collection stands once
  pub copy_at : (cs : List (CopyOfCollection V)) (i : ℕ) (c : CopyOfCollection V) → AreOnce cs → slice_get cs i ≡ Some c
      → copy_of cs c.collection ≡ Some c.copied
  copy_at [] i c once at = let h : ⊥ = cc in absurd h
  copy_at (d ∷ cs) zero c once at =
      let e : d ≡ c = cc in
      cond-true (c.collection == d.collection) (Some d.copied) (copy_of cs c.collection)
      (eq-eqb c.collection d.collection (ap (λ (z : CopyOfCollection V). z.collection) (sym e)))
      ∙ ap (λ (z : CopyOfCollection V). Some z.copied) e
  copy_at (d ∷ cs) (suc i) c once at =
      let rest = copy_at cs i c once.1 at in
      let other : c.collection ≢ d.collection =
      λ e. none-some c.copied (sym once.0 ∙ (ap (copy_of cs) (sym e) ∙ rest)) in
      cond-false (c.collection == d.collection) (Some d.copied) (copy_of cs c.collection)
      (apart c.collection d.collection other (c.collection == d.collection) refl) ∙ rest

  set_other : (cs : List (CopyOfCollection V)) (i k : ℕ) (c d : CopyOfCollection V) → slice_get cs i ≡ Some c
      → d.collection ≡ c.collection → k ≢ c.collection
      → copy_of (set cs i d) k ≡ copy_of cs k
  set_other [] i k c d at same other = let h : ⊥ = cc in absurd h
  set_other (x ∷ cs) zero k c d at same other =
      let e : x ≡ c = cc in
      let not_d : k ≢ d.collection = λ h. other (h ∙ same) in
      let not_x : k ≢ x.collection = λ h. other (h ∙ ap (λ (z : CopyOfCollection V). z.collection) e) in
      cond-false (k == d.collection) (Some d.copied) (copy_of cs k) (apart k d.collection not_d (k == d.collection) refl)
      ∙ sym (cond-false (k == x.collection) (Some x.copied) (copy_of cs k) (apart k x.collection not_x (k == x.collection) refl))
  set_other (x ∷ cs) (suc i) k c d at same other =
      ap (λ (o : Option (PrivateCopy V)). cond (k == x.collection) (Some x.copied) o) (set_other cs i k c d at same other)

  pub once_set : (cs : List (CopyOfCollection V)) (i : ℕ) (c d : CopyOfCollection V) → AreOnce cs → slice_get cs i ≡ Some c
      → d.collection ≡ c.collection
      → AreOnce (set cs i d)
  once_set [] i c d once at same = let h : ⊥ = cc in absurd h
  once_set (x ∷ cs) zero c d once at same =
      let e : x ≡ c = cc in
      (ap (copy_of cs) (same ∙ ap (λ (z : CopyOfCollection V). z.collection) (sym e)) ∙ once.0, once.1)
  once_set (x ∷ cs) (suc i) c d once at same =
      let there = copy_at cs i c once.1 at in
      let other : x.collection ≢ c.collection = λ e. none-some c.copied (sym once.0 ∙ (ap (copy_of cs) e ∙ there)) in
      (set_other cs i x.collection c d at same other ∙ once.0, once_set cs i c d once.1 at same)

  -- ---- the world
  pub owns_by : (r u : TxActor V) (w v : World V) (a : ℕ) → u.copies.items ≡ r.copies.items → v.words ≡ w.words → v.blocks ≡ w.blocks
      → v.boosted.shadows a ≡ w.boosted.shadows a → OwnsCopies r w a → OwnsCopies u v a
  owns_by r u w v a ec ew eb es is = record {
    stripes = subst HaveStripes (sym eb) is.stripes;
    own = λ k. subst (λ cs. IsOwn v a k (copy_of cs k)) (sym ec) (own_same w v a k (copy_of r.copies.items k) ew eb es (is.own k));
    once = subst AreOnce (sym ec) is.once;
  }

  -- an actor that has nothing
  pub owns_nothing : (r : TxActor V) (w : World V) (a : ℕ) → r.copies.items ≡ [] → HaveStripes w.blocks → ((k : ℕ) → IsOwn w a k None)
      → OwnsCopies r w a
  owns_nothing r w a none stripes nothing = record {
    stripes = stripes;
    own = λ k. subst (λ cs. IsOwn w a k (copy_of cs k)) (sym none) (nothing k);
    once = subst AreOnce (sym none) tt;
  }

  -- ---- the kind and the stripes
  of_block : (b : Block) (s : Shown V) (k : ℕ) (x : Part (Shown V) (CallWithOutcome V)) (c : PrivateCopy V)
      → IsOf b s (log_changes k b x.outcomes) (log_locations k b x.outcomes) c
      → (kind_of (shown_of (base_in c)) ≡ b.kind) × (stripes_of (base_in c) ≡ b.stripes)
  of_block b s k x (Keys m es) is = (is.0, is.1)
  of_block b s k x (Whole t) is = (is.0, is.1)

  own_block : (v : BlocksView) (w : World V) (a k : ℕ) (o : Option (PrivateCopy V)) (c : PrivateCopy V) → IsLaid v w → o ≡ Some c
      → IsOwn w a k o
      → IsOfBlock v k c
  own_block v w a k None c laid e is = absurd (none-some c e)
  own_block v w a k (Some d) c laid e is =
      let b = is.0 in
      let same : d ≡ c = cc in
      let of = of_block b is.1.copied.0.0 k (w.boosted.shadows a) d is.1.copied.0.2 in
      subst (IsOfBlock v k) same (record {
        block = b;
        there = ap (λ bs. block_of bs k) (sym laid.1) ∙ is.1.block;
        kind = of.0;
        stripes = of.1;
        some = positive_at w.blocks k b is.1.stripes is.1.block;
      })

  pub of_blocks : (v : BlocksView) (r : TxActor V) (w : World V) (a : ℕ) → IsLaid v w → OwnsCopies r w a → AreOfBlocks v r.copies.items
  of_blocks v r w a laid is k c e = own_block v w a k (copy_of r.copies.items k) c laid e (is.own k)

  -- ---- an acceptance
  same_knows : (o q : Outcome V) (c d : PrivateCopy V) → holds_call c o.op ≡ true → IsAccepted o c d
      → ((q : Outcome V) → holds_call c q.op ≡ true → Knows c (reads_in c q)) → holds_call d q.op ≡ true → Knows d (reads_in d q)
  same_knows o q c d held acc knows here =
      let before = knows q (sym (same_holds o c d q.op held acc) ∙ here) in
      subst (Knows d) (sym (same_reads o q c d acc))
      (λ i in_reads. (let e = before i in_reads in (e.0, editions_stay o c d acc i ∙ e.1)))

  module _ (w v : World V) (a j : ℕ) (o : Outcome V) where
    -- the world after an outcome on collection j
    abbrev pub IsAfter : Type 0
    IsAfter = (v.words ≡ w.words) × (v.blocks ≡ w.blocks) × (v.boosted.shadows a ≡ longer (w.boosted.shadows a) (answered_on j o.op o))

    accepted_own : (c d : PrivateCopy V) → IsAfter → holds_call c o.op ≡ true → answer_of c o.op ≡ Some o → IsAccepted o c d
        → IsOwn w a j (Some c) → IsOwn v a j (Some d)
    accepted_own c d after held answer acc is =
        let b = is.0 in
        let first : first_of v.words v.blocks j ≡ first_of w.words w.blocks j = λ i. first_of (after.0 i) (after.1 i) j in
        let here : IsOwnCopy v a j b (first_of w.words w.blocks j) d = record {
          stripes = subst HaveStripes (sym after.1) is.1.stripes;
          block = ap (λ bs. block_of bs j) after.1 ∙ is.1.block;
          first = first;
          copied = subst (λ z. IsCopied b (first_of w.words w.blocks j) j z d) (sym after.2)
              (follows_accepted b (first_of w.words w.blocks j) j (w.boosted.shadows a) c d o is.1.copied held answer acc);
          knows = λ q here. same_knows o q c d held acc is.1.knows here;
          pieces = λ op known. same_holds o c d op held acc
              ∙ (is.1.pieces op known ∙ sym (accepted_pieces o c d (piece_of b.kind op) held acc));
        } in
        (b, subst (λ f. IsOwnCopy v a j b f d) (sym first) here)

    pub owns_accepted : (r u : TxActor V) (i : ℕ) (p : Option (Outcome V)) → IsAfter → p ≡ Some o
        → IsAcceptedAt i p r.copies.items u.copies.items
        → ((c : CopyOfCollection V) → slice_get r.copies.items i ≡ Some c → (c.collection ≡ j) × (answer_of c.copied o.op ≡ Some o))
        → OwnsCopies r w a → OwnsCopies u v a
    owns_accepted r u i p after some at of is =
        let cs = r.copies.items in
        let acc : IsAcceptedAt i (Some o) cs u.copies.items = subst (λ q. IsAcceptedAt i q cs u.copies.items) some at in
        let c = acc.0 in
        let d = acc.1 in
        let here = of c acc.2 in
        let there = copy_at cs i c is.once acc.2 in
        let own_c : IsOwn w a j (Some c.copied) = subst (λ q. IsOwn w a j q) (ap (copy_of cs) (sym here.0) ∙ there) (is.own j) in
        let own_d = accepted_own c.copied d.copied after acc.5 here.1 acc.4 own_c in
        let once_now = once_set cs i c d is.once acc.2 acc.3 in
        let at_d : copy_of (set cs i d) j ≡ Some d.copied =
        ap (copy_of (set cs i d)) (sym (acc.3 ∙ here.0)) ∙ copy_at (set cs i d) i d once_now (set_there cs i c d acc.2) in
        let each : (k : ℕ) (b : Bool) → (j == k) ≡ b → IsOwn v a k (copy_of (set cs i d) k) = λ k b. elim b as
        (λ (q : Bool). (j == k) ≡ q → IsOwn v a k (copy_of (set cs i d) k)) [
          | true ↦ λ e. subst (λ m. IsOwn v a m (copy_of (set cs i d) m)) (eqb-true j k e) (subst (λ q. IsOwn v a j q) (sym at_d) own_d)
          | false ↦ λ e. (
              let other : j ≢ k = differ j k e in
              subst (λ q. IsOwn v a k q)
              (sym (set_other cs i k c d acc.2 acc.3 (λ h. other (sym (h ∙ here.0)))))
              (own_joined w v a k (answered_on j o.op o) (copy_of cs k) after.0 after.1 after.2 other (is.own k)))
        ] in
        record {
          stripes = subst HaveStripes (sym after.1) is.stripes;
          own = λ k. subst (λ ds. IsOwn v a k (copy_of ds k)) (sym acc.6) (each k (j == k) refl);
          once = subst AreOnce (sym acc.6) once_now;
        }
