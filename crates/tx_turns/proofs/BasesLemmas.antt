-- The bases that a seat has out, from one world to the next.
--
-- A step is on one word or one gate, so every other base stands in the world with this actor alone, and the gates that an actor holds are
-- each another one. The base that comes with a gate is what that world has then.
use Rattle.std.proofs.Common.{◌≡◌, ℕ, ◌-◌, Bool, true, false, List, [], ◌∷◌, ◌++◌, Option, Some, None, refl, sym, ap, ◌∙◌, subst}
use Rattle.std.proofs.Common.{◌<◌, arith, eq-eqb, length}
use Rattle.std.specs.Prelude.{◌==◌, remove, slice_index, slice_index_or}
use Rattle.std.proofs.lemmas.Bool.{cond_both, cond-true}
use Rattle.tx_machine.specs.Content.{has}
use Rattle.replay_log.specs.declared.base.Base.{Base}
use Rattle.replay_log.specs.Base.{Shown, editions_of, shown_of, stripes_of}
use Rattle.replay_log.specs.Parts.{part}
use Rattle.replay_log.specs.Contents.{Block, first_of, home_of, is_plain}
use Rattle.replay_log.specs.Seats.{World, Seat, Stage, Copying, Gating, Ready, Storing, Homing, Returning, actor_of}
use Rattle.replay_log.specs.Worlds.{happens}
use Rattle.replay_log.proofs.SeatLemmas.{Copy, Differ, Differ-front, StageOk, gates_of}
use Rattle.seq_model.specs.declared.event.Event.TheVariants.{Step}
use Rattle.tx_machine.specs.Actor.{Actor, Place}
use Rattle.tx_machine.specs.Boosted.{is_actor, is_committing}
use Rattle.actor_laws.specs.Bases.{ShowsBase}
use Rattle.actor_laws.specs.Gates.{Tries, Puts}
use Rattle.actor_laws.specs.Own.{Alike}
use Rattle.actor_laws.specs.StepTargets.{Gate, Nowhere, Spot, Word}
use Rattle.actor_laws.proofs.Alike.{action_same, alike_same, spot_same}
use Rattle.actor_laws.proofs.StepTargets.{one_spot}
use Rattle.actor_laws.proofs.StepResult.{put_turned, try_turned}
use Rattle.actor_parts.specs.declared.copies.CopyOfCollection.{CopyOfCollection}
use Rattle.tx_actor.specs.CopiesByStage.{KeepsFrom, IsWholeOf}
use Rattle.tx_actor.specs.Running.{stage_of}
use Rattle.actor_parts.specs.Dispatch.{next_of}
use Rattle.actor_parts.specs.declared.next.Next.TheVariants as next
use Rattle.tx_actor.proofs.GatesLemmas.{has_first}
use Rattle.tx_actor.specs.declared.actor.Stage as own
use Rattle.tx_actor.specs.declared.actor.Stage.TheVariants as stage
use Rattle.shared_table.specs.Turns.{editions_found, found_at, moved, parts_found, spot}
use Rattle.shared_table.specs.Shown.{OneBase, Slot}
use Rattle.shared_table.proofs.Gates.{found_base, none_base}
use Rattle.shared_table.proofs.Keeps.{base_trans, keeps_base}
use Rattle.shared_table.proofs.Turned.{found_alike}
use Rattle.tx_turns.specs.Bases.{AreBases, ArePrepared, ArePreparedAt, IsBaseIn, gates_at, slots_of}

-- ---- lists
-- what is taken from the front
pub front_removed : {A : Type 0} → (xs ys : List A) (x : A) → 0 < length xs → x ≡ slice_index_or xs 0 x → ys ≡ remove xs 0 → xs ≡ x ∷ ys
front_removed [] ys x low e f = let z : ⊥ = omega (arith, low) in absurd z
front_removed (d ∷ ds) ys x low e f = λ i. sym e i ∷ sym f i

has_tail : (j : ℕ) (ks : List ℕ) (i : ℕ) → has ks i ≡ true → has (j ∷ ks) i ≡ true
has_tail j ks i h = cond_both {A = Bool} (i == j) true (has ks i) (λ (z : Bool). z ≡ true) (λ _. refl) (λ _. h)

module _ {V : Type 0} where
  pub gates_is : (s : own.Stage V) → gates_at s ≡ gates_of (stage_of s)
  gates_is (stage.Copying asked) = refl
  gates_is s = refl

  -- an actor holds each of its gates once
  pub differ : (n : ℕ) (bs : List Block) (x : Seat V) (y : Actor) (z : Copy V) (s : Stage V) (p : Place) → StageOk n bs x y z s p
      → Differ (gates_of s)
  differ n bs x y z (Copying asked) p h = (refl, tt)
  differ n bs x y z (Gating got [] tries) p h = absurd h
  differ n bs x y z (Gating got (k ∷ ks) tries) p h = Differ-front got (k ∷ ks) h.1.differ
  differ n bs x y z (Ready ks) p h = h.1.differ
  differ n bs x y z (Storing ks) p h = h.2
  differ n bs x y z (Homing []) p h = absurd h
  differ n bs x y z (Homing (k ∷ ks)) p h = h.2
  differ n bs x y z (Returning []) p h = absurd h
  differ n bs x y z (Returning (k ∷ ks)) p h = h.1
  differ n bs x y z s p h = tt

  pub slots_more : (ks : List ℕ) (k : ℕ) → slots_of {V = V} (ks ++ k ∷ []) ≡ slots_of ks ++ (k, None) ∷ []
  slots_more [] k = refl
  slots_more (j ∷ ks) k = ap (λ (l : List (ℕ × Slot V)). (j, None) ∷ l) (slots_more ks k)

  -- ---- bases that stand
  pub shows_same : (o w u : World V) (k : ℕ) (b : Base V) → w.words ≡ o.words → w.blocks ≡ o.blocks → OneBase k w u
      → ShowsBase o.words o.blocks w k b → ShowsBase o.words o.blocks u k b
  shows_same o w u k b en eb one shows l p at =
      let q = one l ((λ i. is_plain (en i) (eb i) l) ∙ p) ((λ i. home_of (en i) (eb i) l) ∙ at) in
      (sym q.0 ∙ (shows l p at).0, sym q.1 ∙ (shows l p at).1)

  pub are_stay : (o w u : World V) (ks : List ℕ) (bs : List (Base V)) → w.words ≡ o.words → w.blocks ≡ o.blocks
      → ((j : ℕ) → has ks j ≡ true → OneBase j w u) → AreBases o w ks bs → AreBases o u ks bs
  are_stay o w u [] [] en eb same h = tt
  are_stay o w u (j ∷ ks) (b ∷ bs) en eb same h = (
    (h.0.0, shows_same o w u j b en eb (same j (has_first j ks)) h.0.1),
    are_stay o w u ks bs en eb (λ i there. same i (has_tail j ks i there)) h.1,
  )
  are_stay o w u [] (b ∷ bs) en eb same h = absurd h
  are_stay o w u (j ∷ ks) [] en eb same h = absurd h

  pub are_more : (o u : World V) (ks : List ℕ) (bs : List (Base V)) (k : ℕ) (b : Base V) → AreBases o u ks bs → IsBaseIn o u k b
      → AreBases o u (ks ++ k ∷ []) (bs ++ b ∷ [])
  are_more o u [] [] k b h is = (is, tt)
  are_more o u (j ∷ ks) (c ∷ bs) k b h is = (h.0, are_more o u ks bs k b h.1 is)
  are_more o u [] (c ∷ bs) k b h is = absurd h
  are_more o u (j ∷ ks) [] k b h is = absurd h

  -- none is out without a gate
  pub are_none : (o u : World V) (ks : List ℕ) (bs : List (Base V)) → ks ≡ [] → AreBases o u ks bs → bs ≡ []
  are_none o u [] [] e h = refl
  are_none o u [] (b ∷ bs) e h = absurd h
  are_none o u (k ∷ ks) bs e h = let z : ⊥ = cc in absurd z

  -- the first of them
  pub first_base : (o u : World V) (k : ℕ) (ks : List ℕ) (bs : List (Base V)) → AreBases o u (k ∷ ks) bs
      → (b : Base V) × (cs : List (Base V)) × (bs ≡ b ∷ cs) × IsBaseIn o u k b × AreBases o u ks cs
  first_base o u k ks [] h = absurd h
  first_base o u k ks (b ∷ cs) h = (b, cs, refl, h.0, h.1)

  -- what is found at a word, or at the gate of another collection, leaves a base
  planted_base : (a : ℕ) (w : World V) (sp : Spot) (n : ℕ) (b : Option (Base V)) (j : ℕ) → (sp ≡ Gate j → ⊥)
      → OneBase j w (found_at a w sp n b)
  planted_base a w Nowhere n b j ne l p at = (refl, refl)
  planted_base a w (Word c) n b j ne l p at = (refl, refl)
  planted_base a w (Gate k) n b j ne l p at = found_base a w k n b j (λ e. ne (ap Gate (sym e))) l p at

  -- and so does the step
  pub base_stays : (a : ℕ) (w : World V) (n : ℕ) (b : Option (Base V)) (j : ℕ) → (spot a w ≡ Gate j → ⊥)
      → OneBase j w (moved a w n b).0
  base_stays a w n b j ne =
      let v = found_at a w (spot a w) n b in
      let al : Alike a w v = found_alike a w w (spot a w) n b (alike_same a w) in
      let at : spot a v ≡ spot a w = sym (spot_same a w v al) in
      base_trans j w v (moved a w n b).0 (sym al.words) (sym al.blocks) (planted_base a w (spot a w) n b j ne)
      (keeps_base (spot a v) j v (moved a w n b).0 (one_spot v a) (λ q. ne (sym at ∙ q)))

  -- the base that came with a gate is what the world with this actor alone has after the try
  pub taken_shows : (o w : World V) (a k : ℕ) (b : Base V) → w.words ≡ o.words → w.blocks ≡ o.blocks → Tries w a k
      → is_committing (actor_of w a).place ≡ false
      → ShowsBase o.words o.blocks (happens (found_at a w (Gate k) 0 (Some b)) (Step a)).0 k b
  taken_shows o w a k b en eb tries calm l p at =
      let v = found_at a w (Gate k) 0 (Some b) in
      let al : Alike a w v = found_alike a w w (Gate k) 0 (Some b) (alike_same a w) in
      let gated = try_turned a v k (sym (action_same a w v al) ∙ tries) calm in
      let here : (home_of w.words w.blocks l == k) ≡ true = eq-eqb _ _ ((λ i. home_of (en i) (eb i) l) ∙ at) in
      let first = first_of w.words w.blocks k in (
        gated.parts l
            ∙ (cond-true {A = Shown V} (home_of w.words w.blocks l == k) (parts_found w first (Some b) l) (w.boosted.parts l) here
            ∙ (λ i. part (stripes_of b) (l - first_of (en i) (eb i) k) (shown_of b))),
        gated.editions l
            ∙ (cond-true {A = ℕ} (home_of w.words w.blocks l == k) (editions_found w first (Some b) l) (w.boosted.editions l) here
            ∙ (λ i. slice_index (editions_of b) (l - first_of (en i) (eb i) k))),
      )

  -- the one that is put back as it was is what the world with this actor alone has after the store
  pub put_shows : (o w : World V) (a k : ℕ) (b : Base V) → w.words ≡ o.words → w.blocks ≡ o.blocks → Puts w a k
      → is_actor a (w.boosted.gates k) ≡ true → is_committing (actor_of w a).place ≡ false → ShowsBase o.words o.blocks w k b
      → ShowsBase o.words o.blocks (happens (found_at a w (Gate k) 1 None) (Step a)).0 k b
  put_shows o w a k b en eb puts gate calm shows =
      let v = found_at a w (Gate k) 1 None in
      let u = (happens v (Step a)).0 in
      let al : Alike a w v = found_alike a w w (Gate k) 1 None (alike_same a w) in
      let gated = put_turned a v k (puts.0, sym (action_same a w v al) ∙ puts.1) (sym (al.boosted.gates k) ∙ gate) calm in
      shows_same o w u k b en eb
      (base_trans k w v u (sym al.words) (sym al.blocks) (none_base a w k 1 k)
      (λ l p at. (sym (gated.parts l), sym (gated.editions l)))) shows

  -- ---- bases that are prepared
  pub prepared_none : (cs : List (CopyOfCollection V)) (s : own.Stage V) → gates_at s ≡ [] → ArePreparedAt cs s []
  prepared_none cs (stage.Storing homes) e = subst (λ (ks : List ℕ). ArePrepared cs ks []) (sym e) tt
  prepared_none cs (stage.Homing homes) e = subst (λ (ks : List ℕ). ArePrepared cs ks []) (sym e) tt
  prepared_none cs s e = tt

  -- before the first value store, and in a transaction that ends, none has to be
  pub prepared_no : (cs : List (CopyOfCollection V)) (bs : List (Base V)) (t s : own.Stage V) (before now : List (CopyOfCollection V))
      → KeepsFrom t s before now
      → ((ks : List ℕ) → IsWholeOf s ks → ⊥) → ArePreparedAt cs t bs
  prepared_no cs bs (stage.Storing homes) s before now h none = absurd (none homes.items h.0)
  prepared_no cs bs (stage.Homing homes) s before now h none = absurd (none homes.items h.0)
  prepared_no cs bs t s before now h none = tt

  -- a step of the words leaves them prepared
  pub prepared_from : (t s : own.Stage V) (before now : List (CopyOfCollection V)) (bs : List (Base V)) → KeepsFrom t s before now
      → gates_at t ≡ gates_at s → ((ks : List ℕ) → IsWholeOf s ks → ArePrepared before (gates_at s) bs) → ArePreparedAt now t bs
  prepared_from (stage.Storing homes) s before now bs h e p =
      subst (λ (z : List (CopyOfCollection V) × List ℕ). ArePrepared z.0 z.1 bs) (λ i. (sym h.1 i, sym e i)) (p homes.items h.0)
  prepared_from (stage.Homing homes) s before now bs h e p =
      subst (λ (z : List (CopyOfCollection V) × List ℕ). ArePrepared z.0 z.1 bs) (λ i. (sym h.1 i, sym e i)) (p homes.items h.0)
  prepared_from t s before now bs h e p = tt

  pub prepared_of : (s : own.Stage V) (cs : List (CopyOfCollection V)) (bs : List (Base V)) → next_of (stage_of s) ≡ next.Word
      → ArePreparedAt cs s bs
      → (ks : List ℕ) → IsWholeOf s ks → ArePrepared cs (gates_at s) bs
  prepared_of (stage.Ready homes) cs bs e h ks is = let z : ⊥ = cc in absurd z
  prepared_of (stage.Storing homes) cs bs e h ks is = h
  prepared_of (stage.Homing homes) cs bs e h ks is = h
  prepared_of s cs bs e h ks is = absurd is
