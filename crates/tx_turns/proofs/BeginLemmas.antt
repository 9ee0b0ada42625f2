-- The load of the clock by which a transaction begins, in straight code.
--
-- A begin is this one step. It is next where the word actor stands at its begin (`begin_due`), and whatever it found is handed to the
-- actor: so what the actor makes of the clock is the turn, and its answer is the request's (`begin_heard`).
use Rattle.std.proofs.Common.{◌≡◌, ℕ, ◌≤◌, List, Option, None, Result, refl, sym, ap, ◌∙◌, subst}
use Rattle.tx_machine.specs.Actor as machine
use Rattle.tx_machine.specs.Actor.{begun}
use Rattle.tx_machine.specs.Cells.{ClockCell}
use Rattle.tx_machine.specs.Notices.{begin_notice}
use Rattle.replay_log.specs.declared.base.Base.{Base}
use Rattle.replay_log.specs.WorldProgress.{AreSmall}
use Rattle.step_core.specs.Answers.{result_of}
use Rattle.step_core.specs.Shown as words
use Rattle.step_core.specs.Sound.{Fits}
use Rattle.step_core.specs.declared.actor.Actor.{Actor}
use Rattle.step_core.specs.declared.actor.Place.TheVariants.{Begin}
use Rattle.step_core.specs.declared.answer.WordAnswer.{WordAnswer}
use Rattle.step_core.specs.declared.answer.WordRefusal.{WordRefusal}
use Rattle.actor_parts.specs.Dispatch.{AreSteps, is_loading, next_of, notice_told}
use Rattle.tx_actor.specs.Dispatch.{HasRoom, IsToldWord}
use Rattle.tx_actor.specs.CopiesByStage.{KeepsCopies}
use Rattle.tx_actor.specs.ActorBounds.{IsRunning}
use Rattle.tx_actor.specs.Running.{stage_of}
use Rattle.tx_actor.specs.declared.actor.Stage as own
use Rattle.tx_actor.specs.declared.actor.Stage.TheVariants as stage
use Rattle.tx_actor.specs.declared.actor.ActorNotice.{ActorNotice}
use Rattle.tx_actor.specs.declared.actor.TxActor.{TxActor}
use Rattle.tx_actor.proofs.StepLemmas.{running_moved}
use Rattle.shared_table.specs.declared.seat.Seat.{Seat}
use Rattle.shared_table.specs.declared.table.TxTable.{TxTable}
use Rattle.shared_table.specs.Seated.{Loads, Takes, acts, actor, blocks_in, opening_of, out, view}
use Rattle.tx_turns.proofs.NextStepLemmas.{at_place, learns_at}
use Rattle.tx_turns.specs.declared.due.NextStep.TheVariants as due
use Rattle.tx_turns.proofs.TurnLemmas.{word_is_next}
use Rattle.tx_turns.specs.Ties.{Ties, laid_in}
use Rattle.tx_turns.specs.Laws.{WordsKeep}
use Rattle.tx_turns.specs.Own.{HasOwn}
use Rattle.tx_turns.proofs.StraightLemmas.{led_last}
use Rattle.tx_turns.specs.Straight.{HasLed}

module _ {V : Type 0} where
  pub room_beginning : (p : TxActor V) (s : own.Stage V) → s ≡ stage.Beginning → HasRoom p s
  room_beginning p s e = subst (λ (k : own.Stage V). HasRoom p k) (sym e) tt

  pub begin_due : (t : TxTable V) (s : Seat V) (r : TxActor V) → r.stage ≡ stage.Beginning → r.words.place ≡ Begin → Ties t s r
      → Loads (actor s) (acts (opening_of t) s) ClockCell
  begin_due t s r begins place ties =
      let h = word_is_next t s r (ap (λ (k : own.Stage V). next_of (stage_of k)) begins) ties due.LoadClock
      (begun (words.actor_of r.words), at_place r.words Begin place) in
      (h.spot, h.becomes)

  pub begin_heard : AreSteps V → WordsKeep V → (t : TxTable V) (s u : Seat V) (r q : TxActor V) (y : Actor)
      (m : Result (Option WordAnswer) WordRefusal) (n : ActorNotice V) (clock : ℕ) (bs : List (Base V)) → r.stage ≡ stage.Beginning
      → r.words.place ≡ Begin → AreSmall (blocks_in t) → Ties t s r → HasOwn t s r bs → (view s).clock ≤ clock
      → Takes (opening_of t) s clock clock None (out s) u → words.actor_of y ≡ begun (words.actor_of r.words) clock
      → m ≡ result_of (begin_notice clock) → ((j : ℕ) → Fits j r.words → Fits j y)
      → IsToldWord (record r { words = y }) q n (notice_told m)
      → (IsRunning (laid_in t) (record r { words = y }) → IsRunning (laid_in t) q) → KeepsCopies r q → HasLed t s u q n bs
  begin_heard steps keep t s u r q y m n clock bs begins place small ties has rises step learnt says fits heard running leaves =
      let quiet = ap (λ (k : own.Stage V). is_loading (stage_of k)) begins in
      led_last steps keep t s u r q y m n bs quiet (ap (λ (k : own.Stage V). next_of (stage_of k)) begins)
      (λ f. (let z : stage.Beginning ≡ stage.Closing = sym begins ∙ f in let b : ⊥ = cc in b)) small ties has
      (record {
        due = due.LoadClock;
        number = clock;
        deed = (begun (words.actor_of r.words), at_place r.words Begin place);
        touches = record { clock = clock; found = clock; takes = step; finds = refl; rises = rises; clocks = refl };
        learns = learns_at r.words y Begin clock m place learnt says;
      })
      heard (running (running_moved (laid_in t) r y fits quiet ties.running)) leaves
