-- A step of the words, a failed allocation and a load of a call's location, and the bases that the seat has out.
--
-- None of them is on a gate, so the actor holds the gates that it held, and each base stands; what the actor has of collections is stated
-- in the world in which the step has happened. While a call is read for no gate is held.
use Rattle.std.proofs.Common.{◌≡◌, ℕ, true, false, true≢false, List, [], Option, None, Result, refl, sym, ap, ◌∙◌, subst}
use Rattle.tx_machine.specs.World.{plan}
use Rattle.tx_machine.specs.Cells.{Cell, cell, learns, word_of}
use Rattle.replay_log.specs.declared.base.Base.{Base}
use Rattle.replay_log.specs.Contents.{CollectionCall}
use Rattle.replay_log.specs.Seats.{World, Copying, Ready, Stage}
use Rattle.replay_log.specs.Worlds.{run}
use Rattle.actor_laws.specs.StepTargets.{Gate, Spot, Word, deed_of, number_at, spot_at}
use Rattle.actor_laws.specs.Steps.{ready_at}
use Rattle.actor_laws.specs.StepAnswers.{tells}
use Rattle.step_core.specs.Answers.{result_of}
use Rattle.step_core.specs.Shown as words
use Rattle.step_core.specs.Sound.{Fits, IsLoad, KeepsRoom}
use Rattle.step_core.specs.declared.actor.Actor as running
use Rattle.step_core.specs.declared.answer.WordAnswer.{WordAnswer}
use Rattle.step_core.specs.declared.answer.WordRefusal.{WordRefusal}
use Rattle.actor_parts.specs.Dispatch.{AreSteps, is_loading, next_of, notice_told}
use Rattle.actor_parts.specs.declared.next.Next.{Next}
use Rattle.actor_parts.specs.declared.next.Next.TheVariants as next
use Rattle.tx_actor.specs.CopiesByStage.{HasLoaded, IsWholeOf, KeepsCopies}
use Rattle.tx_actor.specs.ActorBounds.{HasHeard, IsRunning}
use Rattle.tx_actor.specs.LoadInWorld.{MayHear}
use Rattle.tx_actor.specs.LoadStep.{IsLoadable, IsToldLoad}
use Rattle.tx_actor.specs.Reading.{LoadsKeep}
use Rattle.tx_actor.specs.Seated.{SeatsActors}
use Rattle.tx_actor.specs.CopiesAfterStep.{LoadsStayOwn}
use Rattle.tx_actor.specs.Running.{stage_of}
use Rattle.tx_actor.specs.declared.actor.Stage as own
use Rattle.tx_actor.specs.declared.actor.Stage.TheVariants as stage
use Rattle.tx_actor.specs.declared.actor.ActorNotice.{ActorNotice}
use Rattle.tx_actor.specs.declared.actor.TxActor.{TxActor}
use Rattle.tx_actor.specs.CopiesAfterEvent.{StepsKeep}
use Rattle.tx_actor.proofs.GatesLemmas.{no_word, step_first_gates, step_load_gates, step_word_gates}
use Rattle.tx_actor.proofs.LoadStepLemmas.{HasMoved, load_heard, load_keeps, load_runs, loads_word}
use Rattle.tx_actor.proofs.OwnLemmas.{OthersLaw}
use Rattle.tx_actor.proofs.SeatLemmas.{loading_as, next_as}
use Rattle.tx_actor.proofs.StepLemmas.{first_is, quiet_first}
use Rattle.shared_table.specs.declared.seat.Seat as table
use Rattle.shared_table.specs.declared.table.TxTable.{TxTable}
use Rattle.shared_table.specs.Seated as seated
use Rattle.shared_table.specs.Seated.{acts, opening_of, out}
use Rattle.shared_table.specs.Turns.{moved, spot}
use Rattle.tx_turns.specs.Touches.{StepsWords}
use Rattle.tx_turns.specs.Ties.{IsOnWord, Ties, Turned, laid_in}
use Rattle.tx_turns.proofs.TurnStepLemmas.{clock_left}
use Rattle.tx_turns.proofs.FoundLemmas.{learns_found, step_learns_cell, step_tells_cell, tells_found}
use Rattle.tx_turns.proofs.TurnLemmas.{spot_is_word, tied, word_is_next}
use Rattle.tx_turns.specs.Bases.{AreBases, ArePrepared, ArePreparedAt, gates_at, slots_of}
use Rattle.tx_turns.specs.Own.{HasOwn}
use Rattle.tx_turns.proofs.BasesLemmas.{are_none, are_stay, base_stays, prepared_from, prepared_none, prepared_of}
use Rattle.tx_turns.proofs.ThereLemmas.{start}
use Rattle.tx_turns.proofs.ThereLemmas.{own_after, there_copies, there_gates, there_next, there_reached, there_runs, turn_after}
use Rattle.tx_turns.proofs.ThereLemmas.{turn_gates, turn_runs}

pub word_gate : (p : Spot) (c : Cell) (k : ℕ) → p ≡ Word c → p ≡ Gate k → ⊥
word_gate p c k e f = (let z : Word c ≡ Gate k = sym e ∙ f in let y : ⊥ = cc in y)

module _ {V : Type 0} where
  -- a step of the words leaves what the seat has out
  calm_own : StepsKeep V → OthersLaw V → (t : TxTable V) (s u : table.Seat V) (r q : TxActor V) (n : ActorNotice V) (bs : List (Base V))
      (ties : Ties t s r) → HasOwn t s r bs → (turned : Turned (opening_of t) s r u n) → Ties t u q → KeepsCopies r q
      → is_loading (stage_of r.stage) ≡ false → ((asked : CollectionCall V) → stage_of r.stage ≡ Copying asked → ⊥)
      → IsOnWord (next_of (stage_of r.stage)) → ((k : ℕ) → spot (seated.actor s) (acts (opening_of t) s) ≡ Gate k → ⊥)
      → gates_at q.stage ≡ gates_at r.stage
      → ((ks : List ℕ) → IsWholeOf r.stage ks → ArePrepared r.copies.items (gates_at r.stage) bs) → HasOwn t u q bs
  calm_own keep law t s u r q n bs ties own turned tied keeps quiet calm on apart gates prepared =
      let a = seated.actor s in
      let o = opening_of t in
      let w = acts o s in
      let takes = turned.takes in
      let h = takes.happened in
      let x = (moved a w turned.found turned.base).0 in
      own_after t s u r turned.clock turned.found turned.base turned.bases ties takes q bs law
      (keep (start t s r ties) (run o h.events) a r q quiet calm keeps (there_reached t s r ties h.events h.alike)
      (there_runs t s r ties h.events h.alike)
      (turn_after t s u r turned.clock turned.found turned.base turned.bases ties takes q tied)
      (there_copies t s r ties h.events h.alike law own.copies))
      (turned.outs on ∙ (own.out ∙ ap slots_of (sym gates)))
      (subst (λ (ks : List ℕ). AreBases o x ks bs) (sym gates)
      (are_stay o w x (gates_at r.stage) bs ties.reached.shape.0 ties.reached.shape.1
      (λ j _. base_stays a w turned.found turned.base j (apart j)) own.bases))
      (prepared_from q.stage r.stage r.copies.items q.copies.items bs keeps gates prepared)

  pub no_copy : (s : own.Stage V) (m : Next) → next_of (stage_of s) ≡ m → ((k : ℕ) → m ≡ next.Copy k → ⊥) → (asked : CollectionCall V)
      → stage_of s ≡ Copying asked → ⊥
  no_copy s m e other asked is = other asked.collection (sym e ∙ ap next_of is)

  pub word_own : AreSteps V → StepsKeep V → OthersLaw V → (t : TxTable V) (s u : table.Seat V) (r q : TxActor V) (n : ActorNotice V)
      (bs : List (Base V)) → Ties t s r → HasOwn t s r bs → Turned (opening_of t) s r u n → Ties t u q → KeepsCopies r q
      → next_of (stage_of r.stage) ≡ next.Word → is_loading (stage_of r.stage) ≡ false → HasOwn t u q bs
  word_own steps keep law t s u r q n bs ties own turned tied keeps due quiet =
      let a = seated.actor s in
      let h = turned.takes.happened in
      let there = run (opening_of t) h.events in
      let next_is = there_next t s r ties h.events h.alike ∙ due in
      let quiet_is = loading_as there a r (there_runs t s r ties h.events h.alike) ∙ quiet in
      let gates : gates_at q.stage ≡ gates_at r.stage =
      sym (turn_gates t s u r turned.clock turned.found turned.base turned.bases ties turned.takes q tied)
      ∙ (step_word_gates steps there a next_is quiet_is ∙ there_gates t s r ties h.events h.alike) in
      let at = spot_is_word t s r due ties in
      calm_own keep law t s u r q n bs ties own turned tied keeps quiet
      (no_copy r.stage next.Word due (λ k e. let z : ⊥ = cc in z)) (subst IsOnWord (sym due) tt)
      (λ k e. word_gate (spot a (acts (opening_of t) s)) at.0 k at.2 e) gates (prepared_of r.stage r.copies.items bs due own.prepared)

  first_spot : (w : World V) (a : ℕ) (s : Stage V) (k : ℕ) → next_of s ≡ next.FirstStore → spot_at a w s ≡ Gate k → ⊥
  first_spot w a s k due e =
      let first = first_is s due in
      no_word (word_of (deed_of (ready_at a w (Ready first.0)) a)) k (sym (ap (λ (p : Stage V). spot_at a w p) first.1) ∙ e)

  -- the first value store, before which the bases were prepared
  pub first_own : AreSteps V → StepsKeep V → OthersLaw V → (t : TxTable V) (s u : table.Seat V) (r q : TxActor V) (n : ActorNotice V)
      (bs : List (Base V)) → Ties t s r → HasOwn t s r bs → Turned (opening_of t) s r u n → Ties t u q → KeepsCopies r q
      → next_of (stage_of r.stage) ≡ next.FirstStore → ArePrepared r.copies.items (gates_at r.stage) bs → HasOwn t u q bs
  first_own steps keep law t s u r q n bs ties own turned tied keeps due prepared =
      let a = seated.actor s in
      let w = acts (opening_of t) s in
      let h = turned.takes.happened in
      let there = run (opening_of t) h.events in
      let next_is = there_next t s r ties h.events h.alike ∙ due in
      let gates : gates_at q.stage ≡ gates_at r.stage =
      sym (turn_gates t s u r turned.clock turned.found turned.base turned.bases ties turned.takes q tied)
      ∙ (step_first_gates steps there a next_is ∙ there_gates t s r ties h.events h.alike) in
      calm_own keep law t s u r q n bs ties own turned tied keeps (quiet_first (stage_of r.stage) due)
      (no_copy r.stage next.FirstStore due (λ k e. let z : ⊥ = cc in z)) (subst IsOnWord (sym due) tt)
      (λ k e. first_spot w a (w.seats a).stage k (next_as w a r ties.runs ∙ due) e) gates (λ ks _. prepared)

  -- ---- a load of a call's location
  loading_none : (s : own.Stage V) → is_loading (stage_of s) ≡ true → gates_at s ≡ []
  loading_none (stage.Loading o left) e = refl
  loading_none s e = absurd (true≢false (sym e))

  -- the step of the words, in the world in which it has happened
  pub load_moved : (t : TxTable V) (s u : table.Seat V) (r : TxActor V) (y : running.Actor) (told : Result (Option WordAnswer) WordRefusal)
      (ties : Ties t s r) (step : StepsWords (opening_of t) s r.words u y told) → next_of (stage_of r.stage) ≡ next.Word
      → (let h = step.touches.takes.happened in HasMoved (run (opening_of t) h.events) (seated.actor s) y told)
  load_moved t s u r y told ties step due =
      let a = seated.actor s in
      let x = words.actor_of r.words in
      let h = step.touches.takes.happened in
      let w = run (opening_of t) h.events in
      let runs = there_runs t s r ties h.events h.alike in
      let at = spot_is_word t s r due ties in
      let c = at.0 in
      let f = step.touches.found in
      let is : cell w.boosted.words c ≡ f = sym (ap (number_at w) at.2) ∙ h.finds in (
        step_learns_cell w a x c runs.1 at.1 ∙ (ap (learns (plan x x.place) x) is
            ∙ (sym (learns_found step.due (plan x x.place) x step.number f step.deed step.touches.finds) ∙ sym step.learns.actor)),
        step.learns.told ∙ ap result_of (tells_found step.due x x.place step.number f step.deed step.touches.finds
            ∙ (sym (ap (tells x x.place) is) ∙ sym (step_tells_cell w a x c runs.1 at.1))),
      )

  -- so the load may be heard
  pub load_hears : AreSteps V → LoadsKeep V → (t : TxTable V) (s u : table.Seat V) (r : TxActor V) (y : running.Actor)
      (told : Result (Option WordAnswer) WordRefusal) → is_loading (stage_of r.stage) ≡ true → Ties t s r
      → StepsWords (opening_of t) s r.words u y told → (IsLoad r.words.place → KeepsRoom r.words y)
      → ((n : ℕ) → Fits n r.words → Fits n y)
      → let m : TxActor V = record r { words = y } in
      IsLoadable m m.stage (notice_told told) × HasHeard (laid_in t) m (notice_told told)
  load_hears steps keep t s u r y told loading ties step room fits =
      let h = step.touches.takes.happened in
      load_heard steps keep (laid_in t) (run (opening_of t) h.events) (seated.actor s) r y told loading ties.running
      (there_runs t s r ties h.events h.alike) (load_moved t s u r y told ties step (loads_word r r.stage loading ties.running.room)) room
      fits

  pub load_tied : AreSteps V → MayHear V → SeatsActors V → LoadsStayOwn V → OthersLaw V → (t : TxTable V) (s u : table.Seat V)
      (r q : TxActor V) (y : running.Actor) (told : Result (Option WordAnswer) WordRefusal) (n : ActorNotice V) (bs : List (Base V))
      → is_loading (stage_of r.stage) ≡ true → Ties t s r → HasOwn t s r bs → StepsWords (opening_of t) s r.words u y told
      → IsToldLoad (record r { words = y }) q n (notice_told told) → IsRunning (laid_in t) q
      → (let m : TxActor V = record r { words = y } in HasLoaded m q n m.stage (notice_told told))
      → Ties t u q × Turned (opening_of t) s r u n × HasOwn t u q bs
  load_tied steps hear seats stay law t s u r q y told n bs loading ties own step heard running loaded =
      let a = seated.actor s in
      let o = opening_of t in
      let w = acts o s in
      let due = loads_word r r.stage loading ties.running.room in
      let takes = step.touches.takes in
      let h = takes.happened in
      let there = run o h.events in
      let f = step.touches.found in
      let reached = there_reached t s r ties h.events h.alike in
      let runs = there_runs t s r ties h.events h.alike in
      let copies = there_copies t s r ties h.events h.alike law own.copies in
      let took = load_moved t s u r y told ties step due in
      let goes = load_runs steps hear seats (laid_in t)
      (start t s r ties) there a r q y told n loading ties.running heard reached runs copies took in
      let next_due = word_is_next t s r due ties in
      let turn = tied t s u r q n step.touches.clock f None (out s) ties takes step.touches.rises
      (clock_left step.due (spot a w) step.number f step.touches.clock (seated.turned a w f) (next_due step.due step.deed).spot
      ((next_due step.due step.deed).becomes f) step.touches.finds step.touches.clocks) (λ _. refl) running
      (turn_runs t s u r step.touches.clock f None (out s) ties takes q n goes) in
      let none : gates_at r.stage ≡ [] = loading_none r.stage loading in
      let empty : bs ≡ [] = are_none o w (gates_at r.stage) bs none own.bases in
      let gates : gates_at q.stage ≡ [] =
      sym (turn_gates t s u r step.touches.clock f None (out s) ties takes q turn.0)
      ∙ step_load_gates seats there a (there_next t s r ties h.events h.alike ∙ due) (loading_as there a r runs ∙ loading) in (
        turn.0,
        turn.1,
        own_after t s u r step.touches.clock f None (out s) ties takes q bs law
            (load_keeps steps stay (start t s r ties) there a r q y told n loading loaded reached runs copies took goes.0 goes.1)
            (takes.held ∙ (own.out ∙ ap slots_of (none ∙ sym gates)))
            (subst (λ (z : List ℕ × List (Base V)). AreBases o (moved a w f None).0 z.0 z.1) (λ i. (sym gates i, sym empty i)) tt)
            (subst (λ (cs : List (Base V)). ArePreparedAt q.copies.items q.stage cs) (sym empty)
            (prepared_none q.copies.items q.stage gates)),
      )
