-- Two halves of the lists.
-- A seat is split for the second half, runs the first one, and the other is joined again: it has the receipts of both halves then. What
-- the first half had joined comes first, then the other seat's actor with its turns, which all were taken since it was split, and what the
-- second half had joined. Lists that came back as they went left their seat as it was split.
use Rattle.std.proofs.Common.{◌≡◌, ◌⊎◌, ℕ, List, [], ◌∷◌, ◌++◌, inl, inr, sym, ap, ◌∙◌, subst}
use Rattle.std.proofs.lemmas.List.{append_assoc}
use Rattle.seq_model.specs.declared.call.Reply.{Reply}
use Rattle.seq_model.specs.declared.job.Ask.{Ask}
use Rattle.shared_table.specs.Seated.{actor, view}
use Rattle.shared_table.specs.Shown.{both_of, left_of, right_of}
use Rattle.shared_table.specs.declared.table.TxTable.{TxTable}
use Rattle.shared_table.specs.declared.view.Turn.{Turn}
use Rattle.tx_engine.specs.declared.seats.TxSeat.{TxSeat}
use Rattle.tx_engine.specs.Ready.{IsReady}
use Rattle.job_workers.specs.declared.tree.Tree.{Tree}
use Rattle.tx_engine.specs.Tasks.{Gains, GetsJoined, Took}
use Rattle.job_workers.specs.Trees.{AreDone, AreLeft, ComesBack, gained, works}
use Rattle.tx_engine.proofs.TaskLemmas.{no_gain}

module _ {V J : Type 0} (asks : J → List (Reply V) → Ask V → Type 0) (t : TxTable V) (tries : ℕ) (o y : TxSeat V)
    (start tree : Tree V J) where
  pub back_ready : ComesBack asks t tries o y start tree → IsReady t y
  back_ready (inl ran) = ran.ready
  back_ready (inr back) = back.ready

  pub back_gains : ComesBack asks t tries o y start tree → Gains o y (gained tree)
  back_gains (inl ran) = ran.gains
  back_gains (inr back) = rw (back.none, back.same) (no_gain o)

  pub back_works : ComesBack asks t tries o y start tree → works tree ≡ works start
  back_works (inl ran) = ran.works_are
  back_works (inr back) = back.works_are

  -- by a seat that was split for these lists
  pub back_done : (view o.seat).turns ≡ [] → (view o.seat).joined ≡ [] → ComesBack asks t tries o y start tree
      → AreDone asks t tries tree (actor y.seat) [] (view y.seat).turns (view y.seat).joined
      ⊎ (AreLeft tree × ((view y.seat).turns ≡ []) × ((view y.seat).joined ≡ []))
  back_done turns none (inl ran) =
      let joined : (view y.seat).joined ≡ ran.others = ran.joined.joined ∙ ap (λ (xs : Took V). xs ++ ran.others) none in
      inl (subst (λ (k : ℕ × List (Turn V) × Took V). AreDone asks t tries tree k.0 k.1 (view y.seat).turns k.2)
      (λ i. (sym ran.joined.same i, turns i, sym joined i)) ran.done)
  back_done turns none (inr back) = inr (
    back.left,
    ap (λ (s : TxSeat V). (view s.seat).turns) back.same ∙ turns,
    ap (λ (s : TxSeat V). (view s.seat).joined) back.same ∙ none,
  )

-- s was split into m and o, these became x and y, and were joined into u
module _ {V : Type 0} (s m o x y u : TxSeat V) (n : ℕ) (same : actor m.seat ≡ actor s.seat) (left : view m.seat ≡ left_of n (view s.seat))
    (right : view o.seat ≡ right_of n (view s.seat)) (joins : actor u.seat ≡ actor x.seat)
    (both : view u.seat ≡ both_of (view x.seat) (actor y.seat) (view y.seat)) where
  pub both_joined : (others : Took V) → GetsJoined m x others
      → GetsJoined s u (others ++ (actor y.seat, (view y.seat).turns) ∷ (view y.seat).joined)
  both_joined others h = record {
    same = joins ∙ (h.same ∙ same);
    joined = (λ i. (both i).joined)
        ∙ (ap (λ (xs : Took V). xs ++ (actor y.seat, (view y.seat).turns) ∷ (view y.seat).joined)
        (h.joined ∙ ap (λ (xs : Took V). xs ++ others) (λ i. (left i).joined))
        ∙ append_assoc (view s.seat).joined others ((actor y.seat, (view y.seat).turns) ∷ (view y.seat).joined));
  }

  module _ {J : Type 0} (asks : J → List (Reply V) → Ask V → Type 0) (t : TxTable V) (tries : ℕ) where
    pub first_done : (tree : Tree V J) (others : Took V)
        → AreDone asks t tries tree (actor m.seat) (view m.seat).turns (view x.seat).turns others
        → AreDone asks t tries tree (actor s.seat) (view s.seat).turns (view u.seat).turns others
    first_done tree others done =
        subst (λ (k : ℕ × List (Turn V) × List (Turn V)). AreDone asks t tries tree k.0 k.1 k.2 others)
        (λ i. (same i, (left i).turns, sym (λ j. (both j).turns) i)) done

    pub second_done : (start tree : Tree V J) → ComesBack asks t tries o y start tree
        → AreDone asks t tries tree (actor y.seat) [] (view y.seat).turns (view y.seat).joined
        ⊎ (AreLeft tree × ((view y.seat).turns ≡ []) × ((view y.seat).joined ≡ []))
    second_done start tree = back_done asks t tries o y start tree (λ i. (right i).turns) (λ i. (right i).joined)
