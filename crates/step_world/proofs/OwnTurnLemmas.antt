-- What an event leaves of what its actor has of collections, and of what the others have, like the turns of a world.
use Rattle.std.proofs.Common.{◌≡◌, ℕ, false}
use Rattle.tx_machine.specs.Notices as told
use Rattle.seq_model.specs.declared.event.Event.TheVariants.{Ask, Starve, Step}
use Rattle.seq_model.specs.declared.event.Request.{Request}
use Rattle.replay_log.specs.Contents.{CollectionCall}
use Rattle.replay_log.specs.Worlds.{Copying, ask_at, happens}
use Rattle.actor_laws.proofs.Others.{others}
use Rattle.actor_parts.specs.Blocks.{BlocksView}
use Rattle.actor_parts.specs.Dispatch.{is_loading}
use Rattle.actor_laws.proofs.OneStep.{one_step}
use Rattle.actor_parts.specs.declared.table.Table.{Table}
use Rattle.actor_parts.proofs.TableLemmas.{still_has}
use Rattle.actor_parts.specs.CopyAtGate.{BeginsWithNothing}
use Rattle.actor_parts.specs.CopiesAfterEvent.{EventsStay}
use Rattle.tx_actor.specs.Calls.{AsksAt}
use Rattle.tx_actor.specs.CopiesByStage.{KeepsCopies, ReadsStill}
use Rattle.tx_actor.specs.Running.{seat_of, stage_of}
use Rattle.tx_actor.specs.declared.actor.ActorNotice.{ActorNotice}
use Rattle.tx_actor.specs.declared.actor.TxActor.{TxActor}
use Rattle.step_world.specs.Turns.{IsTurn, KeepsOwn}
use Rattle.tx_actor.proofs.OwnLemmas.{AllLaw, Apart, AskedLaw, BegunLaw, CallsLaw, JoinsLaw, OthersLaw, StandLaw, StaysLaw, StepsLaw}
use Rattle.tx_actor.proofs.OwnLemmas.{ask_keeps}
use Rattle.tx_actor.proofs.OwnLemmas.{ask_runs, others_keep, starve_keeps, step_keeps}

module _ {V : Type 0} where
  pub keeps_step : StepsLaw V → BegunLaw V → EventsStay V → BeginsWithNothing V → StandLaw V → OthersLaw V → (b : BlocksView) (a : ℕ)
      (t : Table V) (r s : TxActor V) → is_loading (stage_of r.stage) ≡ false
      → ((asked : CollectionCall V) → stage_of r.stage ≡ Copying asked → ⊥)
      → KeepsCopies r s → KeepsOwn b (Step a) t r s
  keeps_step steps begun stays begins stand law b a t r s quiet calm keep = record {
    own = λ o w reached laid has runs after running h. step_keeps steps begun stays begins o w a r s quiet calm keep reached runs after h;
    others = others_keep stand law (Step a);
  }

  pub keeps_starve : StepsLaw V → BegunLaw V → EventsStay V → StandLaw V → OthersLaw V
      → (b : BlocksView) (a : ℕ) (t : Table V) (r s : TxActor V)
      → KeepsCopies r s → KeepsOwn b (Starve a) t r s
  keeps_starve steps begun stays stand law b a t r s keep = record {
    own = λ o w reached laid has runs after running h. starve_keeps steps begun stays o w a r s keep reached runs after h;
    others = others_keep stand law (Starve a);
  }

  pub keeps_ask : EventsStay V → StaysLaw V → JoinsLaw V → AskedLaw V → AllLaw V → StandLaw V → OthersLaw V → CallsLaw V → (b : BlocksView)
      (a : ℕ) (q : Request V) (t : Table V) (r s : TxActor V) (n : ActorNotice V)
      → AsksAt b r s n (λ a w. ask_at w a (seat_of r) (stage_of r.stage) q) → ReadsStill r.copies.items s.copies.items → Apart r s
      → KeepsOwn b (Ask a q) t r s
  keeps_ask stays stay join asked all stand law calls b a q t r s n asks still apart = record {
    own = λ o w reached laid has runs after running h.
        ask_keeps stays stay join asked all calls b o w a q r s n asks still apart reached laid runs running h;
    others = others_keep stand law (Ask a q);
  }

  pub ask_turns : CallsLaw V → (v : BlocksView) (a : ℕ) (q : Request V) (t : Table V) (r s : TxActor V) (n : ActorNotice V)
      → AsksAt v r s n (λ a w. ask_at w a (seat_of r) (stage_of r.stage) q) → IsTurn v (Ask a q) t r t s n
  ask_turns calls v a q t r s n h = record {
    turns = λ o w reached laid has runs copies. (
        let told = ask_runs calls v o w a q r s n h reached laid runs copies in
        (still_has t a w (happens w (Ask a q)).0 (one_step w (Ask a q)) has, told.0, told.1));
  }
