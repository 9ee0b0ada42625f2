-- A call whose gate is held is copied: the step of its seat is the store of the gate on the table, and then what the actor makes of what it
-- took, as in each world that events have reached and whose base this is.
use Rattle.std.proofs.Common.{◌≡◌, ℕ, Bool, true, false, [], ◌∷◌, Option, Some, sym, ◌∙◌, subst}
use Rattle.std.specs.Prelude.{slice_get}
use Rattle.seq_model.specs.Contents.{Contents}
use Rattle.seq_model.specs.declared.event.Event.TheVariants.{Step}
use Rattle.tx_machine.specs.Boosted.{Action, PutGate, is_actor, is_committing}
use Rattle.replay_log.specs.declared.base.Base.{Base}
use Rattle.replay_log.specs.Contents as contents
use Rattle.replay_log.specs.Guards.{IsAllowed, step_action}
use Rattle.replay_log.specs.Worlds.{World, acted, actor_of, happens}
use Rattle.actor_laws.proofs.OneStep.{one_step}
use Rattle.actor_parts.specs.Blocks.{BlocksView, IsLaid}
use Rattle.actor_parts.specs.Dispatch.{AreSteps, next_of}
use Rattle.actor_parts.specs.Requests.{HasNoReads}
use Rattle.actor_parts.specs.declared.next.Next.TheVariants as next
use Rattle.actor_parts.specs.CopyAtGate.{CopiesFor, CopiesReached}
use Rattle.actor_parts.specs.Sizes.{SizesCopies}
use Rattle.tx_actor.specs.Copying.{CanCopyAt, HasTakenAt, StepsOnAt}
use Rattle.tx_actor.specs.CopiesByStage.{HasCopies}
use Rattle.tx_actor.specs.ActorBounds.{IsRunning}
use Rattle.tx_actor.specs.Running.{Runs, at, stage_of}
use Rattle.tx_actor.specs.CopiesAfterStep.{CopiesStayOwn}
use Rattle.tx_actor.specs.declared.actor.CollectionCall.{CollectionCall}
use Rattle.tx_actor.specs.declared.actor.ActorNotice.{ActorNotice}
use Rattle.tx_actor.specs.declared.actor.TxActor.{TxActor}
use Rattle.actor_parts.specs.Openings.{HasShape}
use Rattle.actor_parts.specs.Tables.{HasTable}
use Rattle.actor_parts.specs.declared.table.Table.{Table}
use Rattle.step_world.specs.Loading.{IsSeated}
use Rattle.step_world.specs.Reached.{IsReached}
use Rattle.step_world.specs.Turns.{IsTurn, KeepsOwn}
use Rattle.tx_actor.proofs.OwnLemmas.{BlocksLaw, OthersLaw, StandLaw, others_keep}
use Rattle.tx_actor.proofs.SeatLemmas.{next_as}
use Rattle.step_world.proofs.TurnLemmas.{action_has}
use Rattle.tx_actor.proofs.StepLemmas.{due_as, reached_allows}
use Rattle.tx_actor.proofs.CopyLemmas as there
use Rattle.tx_actor.proofs.CopyLemmas.{IsBaseIn, copy_keeps, copy_runs, due_copy}

module _ {V : Type 0} where
  -- the base of the table is that of the collection in its world
  base_in : (v : BlocksView) (t : Table V) (w : World V) (k : ℕ) (base : Base V) → HasTable t w → HasShape t v.words v.blocks
      → slice_get t.bases.items k ≡ Some base → IsBaseIn v w k base
  base_in v t w k base has shape at = record { shows = has.bases k base at; fit = λ b is. shape.fit k b base is at }

  -- the word actor is idle, and a declared reader keeps no reads
  pub rests_to_copy : CopiesReached V → (v : BlocksView) (k : ℕ) (t : Table V) (r : TxActor V) → next_of (stage_of r.stage) ≡ next.Copy k
      → IsSeated v t r → HasNoReads r.words
  rests_to_copy on v k t r due s = there.rests_to_copy on s.opening s.world s.actor k r due s.reached s.runs

  -- what is asked of the actor, at its stage
  pub can_copy : CopiesFor V → CopiesReached V → SizesCopies V → BlocksLaw V → (v : BlocksView) (o : Contents V) (w : World V) (a k : ℕ)
      (t : Table V) (r : TxActor V) (base : Base V) → next_of (stage_of r.stage) ≡ next.Copy k → IsReached o w → IsLaid v w → HasTable t w
      → HasShape t v.words v.blocks → IsRunning v r → Runs a r w → HasCopies r w a → slice_get t.bases.items k ≡ Some base
      → CanCopyAt v r base r.stage
  can_copy taken on sized of v o w a k t r base due h laid has shape running runs copies at =
      there.can_copy taken on sized of v o w a k r base due h laid running runs copies (base_in v t w k base has shape at)

  pub copy_turns : AreSteps V → CopiesFor V → CopiesReached V → SizesCopies V → (v : BlocksView) (a k : ℕ) (t u : Table V) (r s : TxActor V)
      (n : ActorNotice V) (base : Base V) → next_of (stage_of r.stage) ≡ next.Copy k → HasShape t v.words v.blocks → IsRunning v r
      → slice_get t.bases.items k ≡ Some base
      → ((w : World V) (which : ℕ → Bool) → HasTable t w → is_actor a (w.boosted.gates k) ≡ true
      → is_committing (actor_of w a).place ≡ false → HasTable u (acted w (PutGate a k which ∷ [])))
      → StepsOnAt v r s n base r.stage → IsTurn v (Step a) t r u s n
  copy_turns steps taken on sized v a k t u r s n base due shape running at puts does = record {
    turns = λ o w reached laid has runs copies. (
        let next_is : next_of (w.seats a).stage ≡ next.Copy k = next_as w a r runs ∙ due in
        let action = due_copy a k (step_action w a (w.seats a).stage) (due_as steps w a (w.seats a).stage (next.Copy k) next_is) in
        let calm : (is_actor a (w.boosted.gates k) ≡ true) × (is_committing (actor_of w a).place ≡ false) =
        subst (λ (q : Option (Action (contents.CollectionCall V))). IsAllowed w (w.seats a).stage q) action.1
        (reached_allows o w a reached) in
        let goes = copy_runs taken on sized v o w a k r s n base due running does reached laid runs copies
        (base_in v t w k base has shape at)
        in (
          action_has u w (happens w (Step a)).0 a (w.seats a) (w.seats a).stage (PutGate a k action.0)
              (λ q. let e : next.FirstStore ≡ next.Copy k = sym q ∙ next_is in let z : ⊥ = cc in z)
              action.1 (one_step w (Step a)) (puts w action.0 has calm.0 calm.1),
          goes.0,
          goes.1,
        ));
  }

  pub copy_own : CopiesStayOwn V → CopiesFor V → CopiesReached V → SizesCopies V → BlocksLaw V → StandLaw V → OthersLaw V → (v : BlocksView)
      (a k : ℕ) (t u : Table V) (r s : TxActor V) (n : ActorNotice V) (base : Base V) → next_of (stage_of r.stage) ≡ next.Copy k
      → HasShape t v.words v.blocks → IsRunning v r → slice_get t.bases.items k ≡ Some base → IsTurn v (Step a) t r u s n
      → HasTakenAt v r s n base r.stage → KeepsOwn v (Step a) t r s
  copy_own law taken on sized of stand other v a k t u r s n base due shape running at turn got = record {
    own = λ o w reached laid has runs after ready copies.
        copy_keeps law taken on sized of v o w a k r s n base due running got reached laid runs copies
        (base_in v t w k base has shape at) after
        (turn.turns o w reached laid has runs copies).2;
    others = others_keep stand other (Step a);
  }
