-- A turn on the words.
--
-- The world with one seat alone is, to its actor, one that events have reached: so the actor stands at a place that fits its stage, and
-- holds the gates that its stage says. The step on the table found a number, and leaves that world as the definitions' step does once that
-- number is planted there. In that world the step is the machine's, by what was found (`FoundLemmas`), and then what the stage makes of it,
-- which is what the running actor makes of itself.
use Rattle.std.proofs.Common.{◌≡◌, ℕ, ◌<◌, ◌≤◌, false, List, [], ◌∷◌, ◌++◌, Option, Some, None, Result, refl, sym, ap, ◌∙◌, subst}
use Rattle.tx_machine.specs.Actor as machine
use Rattle.tx_machine.specs.Actor.{Place}
use Rattle.tx_machine.specs.Cells.{Cell, ClockCell, LockCell, ValueCell, cell, learns, word_of}
use Rattle.tx_machine.specs.World.{Deed, Rests, LoadClock, AddToClock, LoadLock, LoadValue, ExchangeLock, StoreValue, StoreLock, plan}
use Rattle.std.specs.declared.alloc.Global.{Global}
use Rattle.std.specs.declared.vec.Vec.{Vec}
use Rattle.seq_model.specs.declared.call.Call.{Call}
use Rattle.seq_model.specs.declared.call.Reply.{Reply}
use Rattle.seq_model.specs.declared.event.Event.TheVariants.{Step}
use Rattle.seq_model.specs.declared.record.Record.{Record}
use Rattle.tx_machine.specs.Content.{has}
use Rattle.replay_log.proofs.ActionLemmas.{mine}
use Rattle.replay_log.proofs.SeatLemmas.{Copy, StageOk, gates_of}
use Rattle.replay_log.specs.declared.base.Base.{Base}
use Rattle.replay_log.specs.Contents.{Block}
use Rattle.replay_log.specs.Seats.{World, Seat, Stage, After, acted, actor_of, moves, word_notice}
use Rattle.replay_log.specs.Worlds.{happens, step_at}
use Rattle.step_core.specs.Answers.{result_of}
use Rattle.step_core.specs.Shown as words
use Rattle.step_core.specs.declared.actor.Actor.{Actor}
use Rattle.step_core.specs.declared.answer.WordAnswer.{WordAnswer}
use Rattle.step_core.specs.declared.answer.WordRefusal.{WordRefusal}
use Rattle.actor_parts.specs.Blocks.{BlocksView}
use Rattle.actor_parts.specs.Dispatch.{AreSteps, after_word, is_loading, next_of, notice_told}
use Rattle.actor_parts.specs.declared.next.Next.TheVariants as next
use Rattle.actor_laws.proofs.Alone.{same_actors}
use Rattle.actor_laws.specs.StepTargets.{Spot, Word, spot_of}
use Rattle.actor_laws.specs.StepAnswers.{tells}
use Rattle.tx_actor.specs.Dispatch.{IsToldWord}
use Rattle.tx_actor.specs.ActorBounds.{IsRunning}
use Rattle.tx_actor.specs.Running.{Runs, notice_of, seat_at, seat_of, stage_of}
use Rattle.tx_actor.specs.declared.actor.Stage as own
use Rattle.tx_actor.specs.declared.actor.Stage.TheVariants as stage
use Rattle.tx_actor.specs.declared.actor.ActorNotice.{ActorNotice}
use Rattle.tx_actor.specs.declared.actor.TxActor.{TxActor}
use Rattle.shared_table.specs.declared.seat.Seat as table
use Rattle.shared_table.specs.declared.table.TxTable.{TxTable}
use Rattle.shared_table.specs.Shown.{Slot}
use Rattle.shared_table.specs.declared.view.SeatKnowledge.{SeatKnowledge}
use Rattle.shared_table.specs.Seated.{Takes, acts, opening_of, view}
use Rattle.shared_table.specs.Seated as seated
use Rattle.shared_table.specs.Turns.{ends_of, found_at, moved, spot}
use Rattle.tx_turns.proofs.OwnLemmas.{own_due, own_gates, own_ok}
use Rattle.tx_turns.specs.NextStep.{IsDeed}
use Rattle.tx_turns.specs.Touches.{Finds, IsNext, StepsWords}
use Rattle.tx_turns.specs.declared.due.NextStep.{NextStep}
use Rattle.tx_actor.proofs.SeatLemmas.{next_as, seat_by, stage_by}
use Rattle.tx_turns.specs.Ties.{IsOnWord, Ties, Turned, commits, commits_at, laid_in}
use Rattle.tx_turns.proofs.TurnStepLemmas.{clock_left, next_is, word_spot}
use Rattle.tx_turns.proofs.FoundLemmas.{LocksAt, found_cell, knows_moved, learns_found, may_go_on, runs_found, step_gates, step_learns_cell}
use Rattle.tx_turns.proofs.FoundLemmas.{step_tells_cell, tells_found}
use Rattle.tx_actor.proofs.StepLemmas.{running_made}

-- a deed that does not rest is on a word
pub some_word : (e : Deed) → (e ≡ Rests → ⊥) → (c : Cell) × (word_of e ≡ Some c)
some_word Rests ne = absurd (ne refl)
some_word (LoadClock f) ne = (ClockCell, refl)
some_word (AddToClock f) ne = (ClockCell, refl)
some_word (LoadLock l f) ne = (LockCell l, refl)
some_word (LoadValue l f) ne = (ValueCell l, refl)
some_word (ExchangeLock l k won lost) ne = (LockCell l, refl)
some_word (StoreValue l v after) ne = (ValueCell l, refl)
some_word (StoreLock l w after) ne = (LockCell l, refl)

module _ {V : Type 0} where
  -- what it commits
  ends_at : (a : ℕ) (x : Seat V) (r : TxActor V) (t : own.Stage V)
      → ends_of a (seat_by x (seat_of r) t) (seat_by x (seat_of r) t).stage ≡ commits_at a r t
  ends_at a x r (stage.Storing homes) = refl
  ends_at a x r (stage.Homing homes) = refl
  ends_at a x r stage.Releasing = refl
  ends_at a x r t = refl

  pub ends_as : (u : World V) (a : ℕ) (r : TxActor V) → Runs a r u → ends_of a (u.seats a) (u.seats a).stage ≡ commits a r
  ends_as u a r runs = ap (λ (x : Seat V). ends_of a x x.stage) runs.0 ∙ ends_at a (u.seats a) r r.stage

  locks_at : (n : ℕ) (bs : List Block) (x : Seat V) (y : machine.Actor) (z : Copy V) (t : own.Stage V) (p : Place)
      → StageOk n bs x y z (stage_of t) p → LocksAt t p
  locks_at n bs x y z (stage.Locking homes) p h = h.0
  locks_at n bs x y z t p h = tt

  -- ---- the step of the definitions
  pub word_step : AreSteps V → (v : World V) (a : ℕ) (r q : TxActor V) (y : Actor) (told : Result (Option WordAnswer) WordRefusal)
      (n : ActorNotice V)
      → next_of (stage_of r.stage) ≡ next.Word → is_loading (stage_of r.stage) ≡ false → Runs a r v
      → LocksAt r.stage (actor_of v a).place → ((k : ℕ) → mine v.boosted a k ≡ has (gates_of (stage_of r.stage)) k)
      → actor_of (acted v (moves a ∷ [])) a ≡ words.actor_of y → told ≡ result_of (word_notice v a)
      → IsToldWord (record r { words = y }) q n (notice_told told)
      → Runs a q (happens v (Step a)).0 × (notice_of a n ≡ (happens v (Step a)).1)
  word_step steps v a r q y told n due quiet runs locks held own tells heard =
      let z = acted v (moves a ∷ []) in
      let st : (v.seats a).stage ≡ stage_of r.stage = stage_by (v.seats a) r quiet runs.0 in
      let here : Runs a (record r { words = y }) z = (runs.0, own, knows_moved v a r.stage locks runs.2) in
      let may = may_go_on z a (stage_of r.stage) due
      (λ k. ap (λ (g : ℕ → Option ℕ). mine (record z.boosted { gates = g }) a k) (step_gates v a) ∙ held k) in
      let after = heard a z may here in
      let e : step_at v a (v.seats a) (v.seats a).stage
      ≡ after_word z a (seat_at (v.seats a) r) (stage_of r.stage) (notice_told told) =
      ap (λ (k : Stage V). step_at v a (v.seats a) k) st
      ∙ (steps.words v a (v.seats a) (stage_of r.stage) due quiet
      ∙ (ap (λ (x : Seat V). after_word z a x (stage_of r.stage) (word_notice v a)) runs.0
      ∙ ap (after_word z a (seat_at (v.seats a) r) (stage_of r.stage))
      (sym (steps.told (word_notice v a)) ∙ ap notice_told (sym tells)))) in (
        subst (λ (p : After V). Runs a q p.0) (sym e) after.0,
        after.1 ∙ sym (ap (λ (p : After V). p.1) e),
      )

  planted_step : AreSteps V → (w : World V) (a : ℕ) (r q : TxActor V) (y : Actor) (told : Result (Option WordAnswer) WordRefusal)
      (n : ActorNotice V)
      (d : NextStep) (m f : ℕ) (c : Cell) → let x = words.actor_of r.words in
      next_of (stage_of r.stage) ≡ next.Word → is_loading (stage_of r.stage) ≡ false → Runs a r w
      → LocksAt r.stage (actor_of w a).place → ((k : ℕ) → mine w.boosted a k ≡ has (gates_of (stage_of r.stage)) k)
      → IsDeed d (plan x x.place) → word_of (plan x x.place) ≡ Some c → Finds d m f
      → words.actor_of y ≡ learns (plan x x.place) x m → told ≡ result_of (tells x x.place m)
      → IsToldWord (record r { words = y }) q n (notice_told told)
      → Runs a q (happens (found_at a w (Word c) f None) (Step a)).0 × (notice_of a n ≡ (happens (found_at a w (Word c) f None) (Step a)).1)
  planted_step steps w a r q y told n d m f c due quiet runs locks held deed touches finds own says heard =
      let x = words.actor_of r.words in
      let v = found_at a w (Word c) f None in
      let there : Runs a r v = runs_found w a r c f runs in
      let is : cell v.boosted.words c ≡ f = found_cell w.boosted.words c f in
      word_step steps v a r q y told n due quiet there
      (subst (λ (z : machine.Actor). LocksAt r.stage z.place) (sym (same_actors w.boosted.words c f a)) locks)
      held
      (step_learns_cell v a x c there.1 touches ∙ (ap (learns (plan x x.place) x) is
      ∙ (sym (learns_found d (plan x x.place) x m f deed finds) ∙ sym own)))
      (says ∙ ap result_of (tells_found d x x.place m f deed finds
      ∙ (sym (ap (tells x x.place) is) ∙ sym (step_tells_cell v a x c there.1 touches))))
      heard

  -- ---- the turn
  -- the turn of a seat whose step in the world with it alone answers this
  pub turned_by : (t : TxTable V) (s u : table.Seat V) (r : TxActor V) (n : ActorNotice V) (clock found : ℕ) (base : Option (Base V))
      (bases : List (ℕ × Slot V)) → Ties t s r → Takes (opening_of t) s clock found base bases u → (view s).clock ≤ clock
      → (spot (seated.actor s) (acts (opening_of t) s) ≡ Word ClockCell
      → clock ≡ seated.turned (seated.actor s) (acts (opening_of t) s) found)
      → (IsOnWord (next_of (stage_of r.stage)) → bases ≡ seated.out s)
      → notice_of (seated.actor s) n ≡ (moved (seated.actor s) (acts (opening_of t) s) found base).1 → Turned (opening_of t) s r u n
  turned_by t s u r n clock found base bases ties takes rises clocks outs tells = record {
    clock = clock;
    found = found;
    base = base;
    bases = bases;
    takes = takes;
    rises = rises;
    clocks = clocks;
    outs = λ on. takes.held ∙ outs on;
    gains = ap (λ (v : SeatKnowledge V). v.receipts) takes.turn
        ∙ ap (λ (rs : List (ℕ × Record V)). (view s).receipts ++ rs) (ends_as (acts (opening_of t) s) (seated.actor s) r ties.runs);
    tells = tells;
  }

  -- what the seat and its actor are after a step that is so in the world with the seat alone
  pub tied : (t : TxTable V) (s u : table.Seat V) (r q : TxActor V) (n : ActorNotice V) (clock found : ℕ) (base : Option (Base V))
      (bases : List (ℕ × Slot V)) → Ties t s r → Takes (opening_of t) s clock found base bases u → (view s).clock ≤ clock
      → (spot (seated.actor s) (acts (opening_of t) s) ≡ Word ClockCell
      → clock ≡ seated.turned (seated.actor s) (acts (opening_of t) s) found)
      → (IsOnWord (next_of (stage_of r.stage)) → bases ≡ seated.out s)
      → IsRunning (laid_in t) q
      → (let f = moved (seated.actor s) (acts (opening_of t) s) found base in
      Runs (seated.actor s) q f.0 × (notice_of (seated.actor s) n ≡ f.1))
      → Ties t u q × Turned (opening_of t) s r u n
  tied t s u r q n clock found base bases ties takes rises clocks outs running turn = (
    record {
      owns = takes.seat.0 ∙ ties.owns;
      live = subst (λ (k : ℕ). 0 < k) (sym (ap (λ (v : SeatKnowledge V). v.shares) takes.turn)) ties.live;
      reached = takes.reached;
      runs = subst (λ (z : ℕ × World V). Runs z.0 q z.1) (λ i. (sym takes.seat.1 i, sym takes.own i)) turn.0;
      running = running;
    },
    turned_by t s u r n clock found base bases ties takes rises clocks outs turn.1,
  )

  -- the stage of the world with the seat alone, with what fits it
  pub own_stage : (t : TxTable V) (s : table.Seat V) (r : TxActor V) → is_loading (stage_of r.stage) ≡ false → Ties t s r
      → let w = acts (opening_of t) s in (w.seats (seated.actor s)).stage ≡ stage_of r.stage
  own_stage t s r quiet ties = stage_by ((acts (opening_of t) s).seats (seated.actor s)) r quiet ties.runs.0

  pub own_place : (t : TxTable V) (s : table.Seat V) (r : TxActor V) → is_loading (stage_of r.stage) ≡ false → Ties t s r
      → let w = acts (opening_of t) s in let a = seated.actor s in
      StageOk w.words w.blocks (w.seats a) (actor_of w a) (w.boosted.shadows a) (stage_of r.stage) (actor_of w a).place
  own_place t s r quiet ties =
      let w = acts (opening_of t) s in
      let a = seated.actor s in
      subst (λ (k : Stage V). StageOk w.words w.blocks (w.seats a) (actor_of w a) (w.boosted.shadows a) k (actor_of w a).place)
      (own_stage t s r quiet ties) (own_ok t.whole.shared.key a w ties.reached)

  pub own_held : (t : TxTable V) (s : table.Seat V) (r : TxActor V) → is_loading (stage_of r.stage) ≡ false → Ties t s r
      → (k : ℕ) → mine (acts (opening_of t) s).boosted (seated.actor s) k ≡ has (gates_of (stage_of r.stage)) k
  own_held t s r quiet ties k =
      own_gates t.whole.shared.key (seated.actor s) (acts (opening_of t) s) ties.reached k
      ∙ ap (λ (p : Stage V). has (gates_of p) k) (own_stage t s r quiet ties)

  -- a step of the words is next for r, and it is what the world with its seat alone does next
  pub word_is_due : (t : TxTable V) (s : table.Seat V) (r : TxActor V) → next_of (stage_of r.stage) ≡ next.Word → Ties t s r
      → plan (words.actor_of r.words) (words.actor_of r.words).place ≡ Rests → ⊥
  word_is_due t s r due ties e =
      let a = seated.actor s in
      let w = acts (opening_of t) s in
      own_due t.whole.shared.key a w ties.reached (next_as w a r ties.runs ∙ due)
      (ap (λ (z : machine.Actor). plan z z.place) ties.runs.1 ∙ e)

  pub word_is_next : (t : TxTable V) (s : table.Seat V) (r : TxActor V) → next_of (stage_of r.stage) ≡ next.Word → Ties t s r
      → IsNext (opening_of t) s r.words
  word_is_next t s r due ties =
      next_is (opening_of t) s r.words (next_as (acts (opening_of t) s) (seated.actor s) r ties.runs ∙ due) ties.runs.1

  -- it is on this word
  pub spot_is_word : (t : TxTable V) (s : table.Seat V) (r : TxActor V) → next_of (stage_of r.stage) ≡ next.Word → Ties t s r
      → let x = words.actor_of r.words in
      (c : Cell) × (word_of (plan x x.place) ≡ Some c) × (spot (seated.actor s) (acts (opening_of t) s) ≡ Word c)
  spot_is_word t s r due ties =
      let a = seated.actor s in
      let w = acts (opening_of t) s in
      let x = words.actor_of r.words in
      let some = some_word (plan x x.place) (word_is_due t s r due ties) in (
        some.0,
        some.1,
        word_spot w a (w.seats a).stage (next_as w a r ties.runs ∙ due)
            ∙ (ap (λ (z : machine.Actor). spot_of (word_of (plan z z.place))) ties.runs.1 ∙ ap spot_of some.1),
      )

  pub word_turned : AreSteps V → (t : TxTable V) (s u : table.Seat V) (r q : TxActor V) (y : Actor)
      (told : Result (Option WordAnswer) WordRefusal) (n : ActorNotice V)
      → next_of (stage_of r.stage) ≡ next.Word → is_loading (stage_of r.stage) ≡ false → Ties t s r
      → StepsWords (opening_of t) s r.words u y told → IsToldWord (record r { words = y }) q n (notice_told told)
      → IsRunning (laid_in t) q → Ties t u q × Turned (opening_of t) s r u n
  word_turned steps t s u r q y told n due quiet ties step heard running =
      let a = seated.actor s in
      let w = acts (opening_of t) s in
      let x = words.actor_of r.words in
      let f = step.touches.found in
      let next_due = word_is_next t s r due ties in
      let some = spot_is_word t s r due ties in
      let here : spot a w ≡ Word some.0 = some.2 in
      let after = planted_step steps w a r q y told n step.due step.number f some.0 due quiet ties.runs
      (locks_at w.words w.blocks (w.seats a) (actor_of w a) (w.boosted.shadows a) r.stage (actor_of w a).place (own_place t s r quiet ties))
      (own_held t s r quiet ties) step.deed some.1 step.touches.finds step.learns.actor step.learns.told heard in
      tied t s u r q n step.touches.clock f None (seated.out s) ties step.touches.takes step.touches.rises
      (clock_left step.due (spot a w) step.number f step.touches.clock (seated.turned a w f) (next_due step.due step.deed).spot
      ((next_due step.due step.deed).becomes f) step.touches.finds step.touches.clocks)
      (λ _. refl) running
      (subst (λ (p : Spot). Runs a q (happens (found_at a w p f None) (Step a)).0
      × (notice_of a n ≡ (happens (found_at a w p f None) (Step a)).1)) (sym here) after)

  -- ---- an actor that has handed its calls out
  pub ties_made : (t : TxTable V) (u : table.Seat V) (s : TxActor V) (m : Vec (Call V × Reply V) Global) → Ties t u s
      → Ties t u (record s { made = m })
  ties_made t u s m h = record {
    owns = h.owns;
    live = h.live;
    reached = h.reached;
    runs = h.runs;
    running = running_made (laid_in t) s m h.running;
  }

  -- the receipt of a transaction without writes
  pub closing_gains : (a : ℕ) (r : TxActor V) (d : Record V) (before now : List (ℕ × Record V)) → r.stage ≡ stage.Closing
      → d.number ≡ r.rv → d.writes ≡ false → d.calls ≡ r.calls.items → now ≡ before ++ commits a r → now ≡ before ++ (a, d) ∷ []
  closing_gains a r d before now at number reads calls gains =
      gains ∙ ap (λ (rs : List (ℕ × Record V)). before ++ rs) (ap (λ (k : own.Stage V). commits_at a r k) at
      ∙ (λ i. (a, record { number = sym number i; writes = sym reads i; calls = sym calls i }) ∷ []))

  -- the locations of the table are laid out as the running table says
  pub laid_as : (t : TxTable V) (b : BlocksView) → b.words ≡ seated.words_in t → b.blocks ≡ seated.blocks_in t → b ≡ laid_in t
  laid_as t b e f i = record { words = e i; blocks = f i }
