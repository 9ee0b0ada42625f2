-- A step of the words while the locations of a call are read: it is the machine's on the table, and then what the actor makes of the answer
-- to the load, as in each world that shows the actor.
use Rattle.std.proofs.Common.{◌≡◌, ℕ, true, Option, Result, sym, ◌∙◌}
use Rattle.seq_model.specs.declared.event.Event.TheVariants.{Step}
use Rattle.replay_log.specs.Worlds.{happens, moves}
use Rattle.actor_laws.proofs.OneStep.{one_step}
use Rattle.step_core.specs.Sound.{Fits, IsLoad, KeepsRoom}
use Rattle.step_core.specs.declared.actor.Actor as running
use Rattle.step_core.specs.declared.answer.WordAnswer.{WordAnswer}
use Rattle.step_core.specs.declared.answer.WordRefusal.{WordRefusal}
use Rattle.actor_parts.specs.Blocks.{BlocksView}
use Rattle.actor_parts.specs.Dispatch.{AreSteps, is_loading, notice_told}
use Rattle.actor_parts.specs.declared.next.Next.TheVariants as next
use Rattle.tx_actor.specs.CopiesByStage.{HasLoaded}
use Rattle.tx_actor.specs.ActorBounds.{HasHeard, IsRunning}
use Rattle.tx_actor.specs.LoadInWorld.{MayHear}
use Rattle.tx_actor.specs.LoadStep.{IsLoadable, IsToldLoad}
use Rattle.tx_actor.specs.Reading.{LoadsKeep}
use Rattle.tx_actor.specs.Running.{stage_of}
use Rattle.tx_actor.specs.CopiesAfterStep.{LoadsStayOwn}
use Rattle.tx_actor.specs.Seated.{SeatsActors}
use Rattle.tx_actor.specs.declared.actor.ActorNotice.{ActorNotice}
use Rattle.tx_actor.specs.declared.actor.TxActor.{TxActor}
use Rattle.actor_parts.specs.declared.table.Table.{Table}
use Rattle.step_world.specs.Loading.{IsSeated}
use Rattle.step_world.specs.Turns.{IsTurn, KeepsOwn}
use Rattle.tx_actor.proofs.OwnLemmas.{OthersLaw, StandLaw, others_keep}
use Rattle.step_world.proofs.TurnLemmas.{StepsWords, action_has}
use Rattle.tx_actor.proofs.StepLemmas.{due_as, due_word}
use Rattle.tx_actor.proofs.LoadStepLemmas as there
use Rattle.tx_actor.proofs.LoadStepLemmas.{load_keeps, load_next, load_runs}

module _ {V : Type 0} where
  -- the load may be heard, as it may in a world that shows the actor
  pub load_heard : AreSteps V → LoadsKeep V → (v : BlocksView) (t u : Table V) (r : TxActor V) (y : running.Actor)
      (told : Result (Option WordAnswer) WordRefusal) → is_loading (stage_of r.stage) ≡ true → IsRunning v r → IsSeated v t r
      → StepsWords t r.words u y told → (IsLoad r.words.place → KeepsRoom r.words y) → ((n : ℕ) → Fits n r.words → Fits n y)
      → let m : TxActor V = record r { words = y } in
      IsLoadable m m.stage (notice_told told) × HasHeard v m (notice_told told)
  load_heard steps keep v t u r y told loading running seen step room fits =
      there.load_heard steps keep v seen.world seen.actor r y told loading running seen.runs
      (let took = step seen.world seen.actor seen.table seen.runs.1 in (took.1, took.2)) room fits

  pub load_turns : AreSteps V → MayHear V → SeatsActors V → (b v : BlocksView) (a : ℕ) (t u : Table V) (r s : TxActor V)
      (y : running.Actor) (told : Result (Option WordAnswer) WordRefusal) (n : ActorNotice V) → is_loading (stage_of r.stage) ≡ true
      → IsRunning b r → StepsWords t r.words u y told → IsToldLoad (record r { words = y }) s n (notice_told told)
      → IsTurn v (Step a) t r u s n
  load_turns steps hear seats b v a t u r s y told n loading ready step heard = record {
    turns = λ o w reached laid has runs copies. (
        let took = step w a has runs.1 in
        let due = load_next b w a r loading ready runs in
        let goes = load_runs steps hear seats b o w a r s y told n loading ready heard reached runs copies (took.1, took.2) in (
          action_has u w (happens w (Step a)).0 a (w.seats a) (w.seats a).stage (moves a)
              (λ q. let e : next.FirstStore ≡ next.Word = sym q ∙ due in let z : ⊥ = cc in z)
              (due_word a _ (due_as steps w a (w.seats a).stage next.Word due)) (one_step w (Step a)) took.0,
          goes.0,
          goes.1,
        ));
  }

  pub load_own : AreSteps V → LoadsStayOwn V → StandLaw V → OthersLaw V → (v : BlocksView) (a : ℕ) (t u : Table V) (r s : TxActor V)
      (y : running.Actor) (told : Result (Option WordAnswer) WordRefusal) (n : ActorNotice V) → is_loading (stage_of r.stage) ≡ true
      → StepsWords t r.words u y told → IsTurn v (Step a) t r u s n
      → (let m : TxActor V = record r { words = y } in HasLoaded m s n m.stage (notice_told told)) → KeepsOwn v (Step a) t r s
  load_own steps law stand other v a t u r s y told n loading step turn got = record {
    own = λ o w reached laid has runs after ready copies.
        load_keeps steps law o w a r s y told n loading got reached runs copies
        (let took = step w a has runs.1 in (took.1, took.2)) after
        (turn.turns o w reached laid has runs copies).2;
    others = others_keep stand other (Step a);
  }
