-- What an event makes of the table and of its actor is what it makes of the world.
--
-- A request and a failed allocation change nothing that is shared, so the table stands. A step of the words is the machine's on the table,
-- and then what the actor makes of its answer: that changes nothing that is shared either. Between the two, the actor has its seat as
-- before, and its word actor after the step; the collections that it has written stand, since a step of a locking actor writes nothing.
use Rattle.std.proofs.Common.{◌≡◌, ℕ, Bool, true, false, [], ◌∷◌, Option, Some, Result, ◌≤◌, inl, inr}
use Rattle.std.proofs.Common.{sym, ap, ◌∙◌, subst, arith}
use Rattle.std.specs.declared.alloc.Global.{Global}
use Rattle.std.specs.declared.vec.Vec.{Vec}
use Rattle.tx_machine.specs.Actor.{Actor, goes}
use Rattle.tx_machine.specs.Requests.{AskStore}
use Rattle.seq_model.specs.declared.call.Call.{Call}
use Rattle.seq_model.specs.declared.call.Reply.{Reply}
use Rattle.seq_model.specs.declared.event.Event.{Event}
use Rattle.seq_model.specs.declared.event.Event.TheVariants.{Step, Starve}
use Rattle.tx_machine.specs.Boosted.{Action, TakeGate, PutGate, is_actor, is_committing, is_none}
use Rattle.replay_log.specs.Contents.{CollectionCall}
use Rattle.replay_log.specs.Guards.{IsAllowed, step_action}
use Rattle.replay_log.specs.Worlds.{World, Seat, Stage, After, Closing, Leaving}
use Rattle.replay_log.specs.Worlds.{Ready, acted, asks, actor_of}
use Rattle.replay_log.specs.Worlds.{moves, word_notice, step_at, happens, written_homes}
use Rattle.replay_log.proofs.SeatLemmas.{StageOk}
use Rattle.actor_laws.specs.Steps.{Does, atomic_action, ended_at, ready_at}
use Rattle.actor_laws.proofs.OneStep.{ask_calm, one_step}
use Rattle.step_core.specs.Answers.{result_of}
use Rattle.step_core.specs.CellSteps.{Grows}
use Rattle.step_core.specs.Shown as words
use Rattle.step_core.specs.Sound.{owed}
use Rattle.step_core.specs.declared.cells.Cells.{Cells}
use Rattle.step_core.specs.declared.actor.Actor as running
use Rattle.step_core.specs.declared.answer.WordAnswer.{WordAnswer}
use Rattle.step_core.specs.declared.answer.WordRefusal.{WordRefusal}
use Rattle.tx_actor.specs.Asks.{MayStore}
use Rattle.actor_parts.specs.Blocks.{BlocksView}
use Rattle.actor_parts.specs.Dispatch.{AreSteps, MayGoOn, after_put, after_try, after_word, first, is_loading}
use Rattle.actor_parts.specs.Dispatch.{next_of, notice_told}
use Rattle.actor_parts.specs.Guarded.{committed_at}
use Rattle.tx_actor.specs.Dispatch.{IsToldWord, Starves}
use Rattle.tx_actor.specs.Running as ran
use Rattle.tx_actor.specs.Running.{Runs, seat_at, seat_of, stage_of}
use Rattle.tx_actor.specs.declared.actor.ActorNotice.{ActorNotice}
use Rattle.tx_actor.specs.declared.actor.TxActor.{TxActor}
use Rattle.actor_parts.specs.declared.next.Next.TheVariants as next
use Rattle.actor_parts.specs.Tables.{HasTable}
use Rattle.actor_parts.specs.declared.table.Table.{Table}
use Rattle.actor_parts.proofs.TableLemmas.{still_has}
use Rattle.step_world.specs.Turns.{IsTurn}
use Rattle.tx_actor.proofs.SeatLemmas.{next_as, ready_as, stage_by, starved_as}
use Rattle.tx_actor.proofs.StepLemmas.{GoesOn, due_as, due_put, due_try, due_word, first_is, knows_moved, knows_ready, may_move}
use Rattle.tx_actor.proofs.StepLemmas.{put_runs}
use Rattle.tx_actor.proofs.StepLemmas.{reached_allows, reached_goes_on, reached_linked, same_action, same_world, try_runs}

-- an actor that owes less afterwards, and one that owed more before
pub grows_less : (t u : Cells) (x y z : running.Actor) → Grows t x u y → owed z.place ≤ owed y.place → Grows t x u z
grows_less t u x y z (inl h) less = inl (omega (arith, h, less))
grows_less t u x y z (inr h) less = inr h

pub grows_more : (t u : Cells) (x y z : running.Actor) → owed y.place ≤ owed x.place → Grows t y u z → Grows t x u z
grows_more t u x y z more (inl h) = inl (omega (arith, h, more))
grows_more t u x y z more (inr h) = inr h

module _ {V : Type 0} where
  -- taking note of what a step ends changes no word, gate or base
  ended_has : (t : Table V) (a : ℕ) (x : Seat V) (s : Stage V) (w : World V) → HasTable t w → HasTable t (ended_at a x s w)
  ended_has t a x (Ready ks) w h = record { cells = h.cells; gates = h.gates; bases = h.bases }
  ended_has t a x Closing w h = record { cells = h.cells; gates = h.gates; bases = h.bases }
  ended_has t a x Leaving w h = record { cells = h.cells; gates = h.gates; bases = h.bases }
  ended_has t a x s w h = h

  pub turns_made : (v : BlocksView) (e : Event V) (t u : Table V) (r s : TxActor V) (m : Vec (Call V × Reply V) Global) (n : ActorNotice V)
      → IsTurn v e t r u s n → IsTurn v e t r u (record s { made = m }) n
  turns_made v e t u r s m n h = record { turns = h.turns }

  -- ---- a failed allocation
  pub starve_turns : (v : BlocksView) (a : ℕ) (t : Table V) (r s : TxActor V) (n : ActorNotice V) → Starves r s n
      → IsTurn v (Starve a) t r t s n
  starve_turns v a t r s n h = record {
    turns = λ o w reached laid has runs copies. (
        let e = starved_as w a r runs in
        let told = h a w runs in (
          still_has t a w (happens w (Starve a)).0 (one_step w (Starve a)) has,
          subst (λ (z : After V). Runs a s z.0) (sym e) told.0,
          told.1 ∙ sym (ap (λ (z : After V). z.1) e),
        ));
  }

  pub action_has : (t : Table V) (w u : World V) (a : ℕ) (x : Seat V) (s : Stage V) (e : Action (CollectionCall V))
      → (next_of s ≡ next.FirstStore → ⊥) → step_action w a s ≡ Some e → Does a (ready_at a w s) x s (atomic_action a w s) u
      → HasTable t (acted w (e ∷ [])) → HasTable t u
  action_has t w u a x s e ne is d h =
      let there : Does a w x s (atomic_action a w s) u =
      subst (λ (z : World V). Does a z x s (atomic_action a w s) u) (same_world w a s ne) d in
      let does : Does a w x s (Some e) u =
      subst (λ (o : Option (Action (CollectionCall V))). Does a w x s o u) (same_action w a s ne ∙ is) there in
      still_has t a (ended_at a x s (acted w (e ∷ []))) u does.1 (ended_has t a x s (acted w (e ∷ [])) h)

  -- the words make this of the table t and of the word actor x: u and y, and answer n
  abbrev pub StepsWords : Table V → running.Actor → Table V → running.Actor → Result (Option WordAnswer) WordRefusal → Type 0
  StepsWords t x u y n =
      (w : World V) (a : ℕ) → HasTable t w → actor_of w a ≡ words.actor_of x
      → HasTable u (acted w (moves a ∷ [])) × (actor_of (acted w (moves a ∷ [])) a ≡ words.actor_of y) × (n ≡ result_of (word_notice w a))

  pub word_turns : AreSteps V → GoesOn V → (v : BlocksView) (a : ℕ) (t u : Table V) (r s : TxActor V) (y : running.Actor)
      (told : Result (Option WordAnswer) WordRefusal) (n : ActorNotice V)
      → next_of (stage_of r.stage) ≡ next.Word → is_loading (stage_of r.stage) ≡ false → StepsWords t r.words u y told
      → IsToldWord (record r { words = y }) s n (notice_told told) → IsTurn v (Step a) t r u s n
  word_turns steps goes v a t u r s y told n due quiet step heard = record {
    turns = λ o w reached laid has runs copies. (
        let linked = reached_linked o w reached in
        let z = acted w (moves a ∷ []) in
        let st : (w.seats a).stage ≡ stage_of r.stage = stage_by (w.seats a) r quiet runs.0 in
        let took = step w a has runs.1 in
        let ok = subst (λ (p : Stage V). StageOk w.words w.blocks (w.seats a) (actor_of w a) (w.boosted.shadows a) p (actor_of w a).place)
        st (linked.seats a).stage in
        let here : Runs a (record r { words = y }) z = (runs.0, took.1, knows_moved w a r.stage ok runs.2) in
        let may : MayGoOn a z (stage_of r.stage) =
        may_move w a (stage_of r.stage) due
        (subst (λ (p : Stage V). MayGoOn a (committed_at w a p) p) st (reached_goes_on goes o w a reached)) in
        let after = heard a z may here in
        let e : step_at w a (w.seats a) (w.seats a).stage
        ≡ after_word z a (seat_at (w.seats a) r) (stage_of r.stage) (notice_told told) =
        ap (λ (k : Stage V). step_at w a (w.seats a) k) st
        ∙ (steps.words w a (w.seats a) (stage_of r.stage) due quiet
        ∙ (ap (λ (x : Seat V). after_word z a x (stage_of r.stage) (word_notice w a)) runs.0
        ∙ ap (after_word z a (seat_at (w.seats a) r) (stage_of r.stage))
        (sym (steps.told (word_notice w a)) ∙ ap notice_told (sym took.2)))) in (
          action_has u w (happens w (Step a)).0 a (w.seats a) (w.seats a).stage (moves a)
              (λ q. let e : next.FirstStore ≡ next.Word = sym q ∙ (ap next_of st ∙ due) in let z : ⊥ = cc in z)
              (due_word a _ (due_as steps w a (w.seats a).stage next.Word (ap next_of st ∙ due))) (one_step w (Step a)) took.0,
          subst (λ (p : After V). Runs a s p.0) (sym e) after.0,
          after.1 ∙ sym (ap (λ (p : After V). p.1) e),
        ));
  }

  pub try_turns : AreSteps V → (v : BlocksView) (a k : ℕ) (t u : Table V) (r s : TxActor V) (free : Bool) (n : ActorNotice V)
      → next_of (stage_of r.stage) ≡ next.TryGate k
      → ((w : World V) → HasTable t w → is_committing (actor_of w a).place ≡ false
      → HasTable u (acted w (TakeGate a k ∷ [])) × (free ≡ is_none (w.boosted.gates k)))
      → ran.Does r s n (λ a w. after_try w a (seat_of r) (stage_of r.stage) free) → IsTurn v (Step a) t r u s n
  try_turns steps v a k t u r s free n due tries does = record {
    turns = λ o w reached laid has runs copies. (
        let next_is : next_of (w.seats a).stage ≡ next.TryGate k = next_as w a r runs ∙ due in
        let action : step_action w a (w.seats a).stage ≡ Some (TakeGate a k) =
        due_try a k _ (due_as steps w a (w.seats a).stage (next.TryGate k) next_is) in
        let calm : is_committing (actor_of w a).place ≡ false =
        subst (λ (q : Option (Action (CollectionCall V))). IsAllowed w (w.seats a).stage q) action (reached_allows o w a reached) in
        let took = tries w has calm in
        let goes = try_runs steps w a k r s free n due took.1 does runs in (
          action_has u w (happens w (Step a)).0 a (w.seats a) (w.seats a).stage (TakeGate a k)
              (λ q. let e : next.FirstStore ≡ next.TryGate k = sym q ∙ next_is in let z : ⊥ = cc in z)
              action (one_step w (Step a)) took.0,
          goes.0,
          goes.1,
        ));
  }

  pub put_turns : AreSteps V → (v : BlocksView) (a k : ℕ) (t u : Table V) (r s : TxActor V) (n : ActorNotice V)
      → next_of (stage_of r.stage) ≡ next.PutGate k
      → ((w : World V) (which : ℕ → Bool) → HasTable t w → is_actor a (w.boosted.gates k) ≡ true
      → is_committing (actor_of w a).place ≡ false → HasTable u (acted w (PutGate a k which ∷ [])))
      → ran.Does r s n (λ a w. after_put w a (seat_of r) (stage_of r.stage)) → IsTurn v (Step a) t r u s n
  put_turns steps v a k t u r s n due puts does = record {
    turns = λ o w reached laid has runs copies. (
        let none = λ (l : ℕ). false in
        let next_is : next_of (w.seats a).stage ≡ next.PutGate k = next_as w a r runs ∙ due in
        let action : step_action w a (w.seats a).stage ≡ Some (PutGate a k none) =
        due_put a k _ (due_as steps w a (w.seats a).stage (next.PutGate k) next_is) in
        let calm : (is_actor a (w.boosted.gates k) ≡ true) × (is_committing (actor_of w a).place ≡ false) =
        subst (λ (q : Option (Action (CollectionCall V))). IsAllowed w (w.seats a).stage q) action (reached_allows o w a reached) in
        let goes = put_runs steps w a k r s n due does runs in (
          action_has u w (happens w (Step a)).0 a (w.seats a) (w.seats a).stage (PutGate a k none)
              (λ q. let e : next.FirstStore ≡ next.PutGate k = sym q ∙ next_is in let z : ⊥ = cc in z)
              action (one_step w (Step a)) (puts w none has calm.0 calm.1),
          goes.0,
          goes.1,
        ));
  }

  -- ---- the first value store: its request, and then a step of the words
  pub first_turns : AreSteps V → GoesOn V → (v : BlocksView) (a : ℕ) (t u : Table V) (r p s : TxActor V) (y : running.Actor)
      (told : Result (Option WordAnswer) WordRefusal) (n : ActorNotice V)
      → next_of (stage_of r.stage) ≡ next.FirstStore → MayStore r p → StepsWords t p.words u y told
      → IsToldWord (record p { words = y }) s n (notice_told told) → IsTurn v (Step a) t r u s n
  first_turns steps goes v a t u r p s y told n due stores step heard = record {
    turns = λ o w reached laid has runs copies. (
        let first = first_is (stage_of r.stage) due in
        let ks = first.0 in
        let quiet : is_loading (stage_of r.stage) ≡ false = ap is_loading first.1 in
        let st : (w.seats a).stage ≡ Ready ks = stage_by (w.seats a) r quiet runs.0 ∙ first.1 in
        let ready = acted w (asks a AskStore ∷ []) in
        let z = acted ready (moves a ∷ []) in
        let may = subst (λ (k : Stage V). IsAllowed w k (step_action w a k)) st (reached_allows o w a reached) in
        let asked = stores a w may.1 runs in
        let there : HasTable t ready = still_has t a w ready (ask_calm a w AskStore) has in
        let took = step ready a there asked.1 in
        let own_stage : stage_of p.stage ≡ Ready ks = ready_as ready a p ks asked st in
        let here : Runs a (record p { words = y }) z = (asked.0, took.1, knows_ready p.stage ks (written_homes z a) own_stage) in
        let goes : MayGoOn a z (Ready ks) =
        subst (λ (k : Stage V). MayGoOn a (committed_at w a k) k) st (reached_goes_on goes o w a reached) in
        let after = heard a z (subst (λ (k : Stage V). MayGoOn a z k) (sym own_stage) goes) here in
        let e : step_at w a (w.seats a) (w.seats a).stage
        ≡ after_word z a (seat_at (w.seats a) p) (stage_of p.stage) (notice_told told) =
        ap (λ (k : Stage V). step_at w a (w.seats a) k) st
        ∙ (steps.first w a (w.seats a) ks
        ∙ (ap (λ (x : Seat V). after_word z a x (Ready ks) (word_notice ready a)) asked.0
        ∙ (ap (λ (k : Stage V). after_word z a (seat_at (w.seats a) p) k (word_notice ready a)) (sym own_stage)
        ∙ ap (after_word z a (seat_at (w.seats a) p) (stage_of p.stage))
        (sym (steps.told (word_notice ready a)) ∙ ap notice_told (sym took.2))))) in
        let does : Does a ready (w.seats a) (Ready ks) (Some (moves a)) (happens w (Step a)).0 =
        subst (λ (k : Stage V). Does a (ready_at a w k) (w.seats a) k (atomic_action a w k) (happens w (Step a)).0) st
        (one_step w (Step a)) in (
          still_has u a (ended_at a (w.seats a) (Ready ks) z) (happens w (Step a)).0 does.1
              (ended_has u a (w.seats a) (Ready ks) z took.0),
          subst (λ (q : After V). Runs a s q.0) (sym e) after.0,
          after.1 ∙ sym (ap (λ (q : After V). q.1) e),
        ));
  }
