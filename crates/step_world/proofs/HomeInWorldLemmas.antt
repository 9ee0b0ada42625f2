-- A base that is put back leaves its actor what is still left to it, and the other actors what they have.
--
-- It frees its gate, and who has a base left holds its gate: so the base is left to nobody afterwards, and the bases that are left stand,
-- with what their actors have of them. The event leaves all that its actor's transaction has, and takes its stage on by this base alone.
use Rattle.std.proofs.Common.{◌≡◌, ◌≢◌, ℕ, ◌+◌, ◌<◌, true≢false, List, ◌∷◌, Some, None, length, slice_get, refl, sym, ap, ◌∙◌, subst, arith}
use Rattle.std.specs.Prelude.{Contains}
use Rattle.std.specs.declared.alloc.Global.{Global}
use Rattle.std.specs.declared.collections.VecDeque.{VecDeque}
use Rattle.std.proofs.lemmas.List.Elements.{All-contains}
use Rattle.seq_model.specs.Contents.{Contents}
use Rattle.seq_model.specs.declared.event.Event.TheVariants.{Step}
use Rattle.tx_machine.specs.Boosted.{is_actor}
use Rattle.replay_log.specs.Worlds.{World, Stage, Homing, happens, opened, run}
use Rattle.actor_laws.specs.Gates.{GoesHome}
use Rattle.actor_laws.proofs.Alike.{alike_same}
use Rattle.actor_laws.proofs.Guards.{home_allowed}
use Rattle.actor_laws.proofs.StepResult.{home_turned}
use Rattle.actor_parts.specs.Blocks.{BlocksView}
use Rattle.actor_parts.specs.Dispatch.{AreSteps, next_of}
use Rattle.actor_parts.specs.declared.next.Next.TheVariants as next
use Rattle.actor_parts.specs.declared.copies.CopyOfCollection.{CopyOfCollection}
use Rattle.actor_parts.specs.CopyList.{copy_of}
use Rattle.actor_parts.specs.Logs.{OthersStand}
use Rattle.actor_parts.specs.Owns.{IsOwn}
use Rattle.actor_parts.specs.CopiesAfterEvent.{EventsStay, Stays, StepStays}
use Rattle.tx_actor.specs.CopiesByStage.{HasCopies, HasCopiesAt, KeepsFrom, OwnsHomes}
use Rattle.tx_actor.specs.Running.{Runs, stage_of}
use Rattle.tx_actor.specs.declared.actor.Stage as own
use Rattle.tx_actor.specs.declared.actor.Stage.TheVariants as stage
use Rattle.tx_actor.specs.declared.actor.ActorNotice.{ActorNotice}
use Rattle.tx_actor.specs.declared.actor.TxActor.{TxActor}
use Rattle.actor_parts.specs.Openings.{HasShape}
use Rattle.actor_parts.specs.declared.table.Table.{Table}
use Rattle.step_world.specs.declared.parts.Parts.{Parts}
use Rattle.step_world.specs.Homes.{HasRoomAt, IsHomeTurn, MayGoHome, homes_left}
use Rattle.step_world.specs.Parts.{HasWorld}
use Rattle.step_world.specs.Reached.{IsReached}
use Rattle.step_world.specs.Turns.{IsTurn, KeepsOwn, KeepsRoom}
use Rattle.tx_actor.proofs.CopyLemmas.{block_here}
use Rattle.tx_actor.proofs.HomeLemmas.{home_due, home_is, homing_is, quiet_home}
use Rattle.tx_actor.proofs.NameLemmas.{named_home}
use Rattle.tx_actor.proofs.OwnLemmas.{OthersLaw, StandLaw, StaysLaw, others_keep, reached_stays}
use Rattle.step_world.proofs.PartsLemmas.{EndsNone}
use Rattle.step_world.proofs.RoomLemmas.{gate_left, left_from, linked_after, not_first, of_each, room_at}
use Rattle.tx_actor.proofs.SeatLemmas.{stage_by}

module _ {V : Type 0} where
  -- ---- the actor, where a base of its commit is put back next
  is_left : (t : own.Stage V) (k : ℕ) → next_of (stage_of t) ≡ next.GoHome k → Contains (homes_left t) k
  is_left t k due =
      let at = homing_is t k due in
      subst (λ (p : own.Stage V). Contains (homes_left p) k) (sym at.1)
      (subst (λ (ks : List ℕ). Contains ks k) (sym at.3) (0, omega arith, refl))

  pub none_at_home : (s : Stage V) (k : ℕ) → next_of s ≡ next.GoHome k → EndsNone s
  none_at_home s k due =
      subst (λ (p : Stage V). EndsNone p) (sym (home_is s k due).1) (record { committed = λ x. refl; ended = λ a x. refl })

  -- what it has of what is left
  owns_left : (r : TxActor V) (w : World V) (a k j : ℕ) → next_of (stage_of r.stage) ≡ next.GoHome k → HasCopies r w a
      → Contains (homes_left r.stage) j → IsOwn w a j (copy_of r.copies.items j)
  owns_left r w a k j due h c =
      let at = homing_is r.stage k due in
      let has : OwnsHomes r w a at.0.items = subst (λ (p : own.Stage V). HasCopiesAt r w a p) at.1 h in
      has j (subst (λ (p : own.Stage V). Contains (homes_left p) j) at.1 c)

  -- ---- what may be put back
  pub may_go : (c : Parts V) (i k : ℕ) (r : TxActor V) → HasWorld c → slice_get c.actors.items i ≡ Some r
      → next_of (stage_of r.stage) ≡ next.GoHome k → MayGoHome k c.table r
  may_go c i k r has got due =
      let w = has.world in
      let h = has.parts in
      let seat = h.seats i r got in
      let named : k < length c.blocks.blocks = named_home r.stage k (length c.blocks.blocks) due seat.running.names in
      let block = block_here w.blocks k (omega (arith, named, ap length h.laid.1)) in
      record {
        opening = has.opening;
        world = w;
        actor = i + 1;
        reached = has.reached;
        table = h.table;
        shape = h.shape;
        block = block.0;
        there = block.1;
        own = owns_left r w (i + 1) k k due seat.copies (is_left r.stage k due);
        room = All-contains (HasRoomAt c.table r.copies.items) (homes_left r.stage) k (h.room i r got) (is_left r.stage k due);
        clock = omega (arith, h.clock);
      }

  pub turn_home : (v : BlocksView) (a k : ℕ) (t u : Table V) (r s : TxActor V) (n : ActorNotice V) → HasShape t v.words v.blocks
      → next_of (stage_of r.stage) ≡ next.GoHome k → IsHomeTurn k t r u s n → IsTurn v (Step a) t r u s n
  turn_home v a k t u r s n shape due h = record {
    turns = λ o w reached laid has runs copies. h.turns o w a reached has
        (subst (λ (m : ℕ). HasShape t m w.blocks) (sym laid.0) (subst (λ bs. HasShape t v.words bs) (sym laid.1) shape)) runs
        (owns_left r w a k k due copies (is_left r.stage k due));
  }

  -- ---- the gate is free afterwards
  home_frees : AreSteps V → (o : Contents V) (w : World V) (a k : ℕ) (r : TxActor V) → IsReached o w → Runs a r w
      → next_of (stage_of r.stage) ≡ next.GoHome k → (happens w (Step a)).0.boosted.gates k ≡ None
  home_frees steps o w a k r h runs due =
      subst (λ (z : World V). GoesHome z a k → (happens z (Step a)).0.boosted.gates k ≡ None) h.world
      (λ home. (
      let here : World V = run (opened h.blocks h.clock o.words o.held) h.events in
      let guard = home_allowed h.blocks h.clock o.words o.held h.events a k here h.stripes (alike_same a here) home in
      (home_turned a here k home guard.0 guard.1).gate))
      (home_due steps w a k r runs due)

  -- so it is left to nobody
  left_apart : AreSteps V → (o : Contents V) (w : World V) (a k : ℕ) (r : TxActor V) → IsReached o w → Runs a r w
      → next_of (stage_of r.stage) ≡ next.GoHome k → (b j : ℕ) (q : TxActor V) → Runs b q (happens w (Step a)).0
      → Contains (homes_left q.stage) j → j ≢ k
  left_apart steps o w a k r reached runs due b j q there c e =
      let v = (happens w (Step a)).0 in
      true≢false (sym (gate_left v b j q (linked_after o w (Step a) reached) there c)
      ∙ ap (λ (n : ℕ). is_actor b (v.boosted.gates n)) e ∙ ap (is_actor b) (home_frees steps o w a k r reached runs due))

  home_no_first : (s : Stage V) (k : ℕ) → next_of s ≡ next.GoHome k → next_of s ≢ next.FirstStore
  home_no_first s k due = not_first s (next.GoHome k) due (λ e. let z : ⊥ = cc in z)

  -- ---- the room
  pub room_home : AreSteps V → (a k : ℕ) (t u : Table V) (r s : TxActor V) → next_of (stage_of r.stage) ≡ next.GoHome k
      → ((j : ℕ) → j ≢ k → slice_get u.bases.items j ≡ slice_get t.bases.items j) → OthersStand k r.copies.items s.copies.items
      → KeepsFrom s.stage r.stage s.copies.items s.copies.items → KeepsRoom (Step a) t r u s
  room_home steps a k t u r s due bases copies keep = record {
    own = λ o w reached runs after h. of_each (HasRoomAt u s.copies.items) (homes_left s.stage) (λ j c. (
        let apart = left_apart steps o w a k r reached runs due a j s after c in
        let from = left_from r.stage s.stage s.copies.items s.copies.items j (home_no_first (stage_of r.stage) k due) keep c in
        room_at t u r.copies.items s.copies.items j (bases j apart) (copies j apart)
        (All-contains (HasRoomAt t r.copies.items) (homes_left r.stage) j h from.0)));
    others = λ o w b q reached runs there h. of_each (HasRoomAt u q.copies.items) (homes_left q.stage) (λ j c.
        room_at t u q.copies.items q.copies.items j (bases j (left_apart steps o w a k r reached runs due b j q there c)) refl
        (All-contains (HasRoomAt t q.copies.items) (homes_left q.stage) j h c));
  }

  -- ---- what the actor has of what is left to it
  has_left : (s : TxActor V) (v : World V) (a : ℕ) (homes : VecDeque ℕ Global) (t : own.Stage V) (cs : List (CopyOfCollection V))
      → KeepsFrom t (stage.Homing homes) cs cs → ((j : ℕ) → Contains (homes_left t) j → IsOwn v a j (copy_of s.copies.items j))
      → HasCopiesAt s v a t
  has_left s v a homes stage.Open cs keep own = absurd keep.0
  has_left s v a homes (stage.Reading l) cs keep own = absurd keep.0
  has_left s v a homes (stage.Trying asked tries) cs keep own = absurd keep.0
  has_left s v a homes (stage.Copying asked) cs keep own = absurd keep.0
  has_left s v a homes (stage.Loading o left) cs keep own = absurd keep
  has_left s v a homes (stage.Locking left) cs keep own = absurd keep.0
  has_left s v a homes (stage.Gating left got tries) cs keep own = absurd keep.0
  has_left s v a homes (stage.Ready left) cs keep own = absurd keep.0
  has_left s v a homes (stage.Storing left) cs keep own = own
  has_left s v a homes (stage.Homing left) cs keep own = own
  has_left s v a homes t cs keep own = tt

  pub keeps_home : AreSteps V → EventsStay V → StaysLaw V → StandLaw V → OthersLaw V
      → (b : BlocksView) (a k : ℕ) (t : Table V) (r s : TxActor V)
      → next_of (stage_of r.stage) ≡ next.GoHome k → OthersStand k r.copies.items s.copies.items
      → KeepsFrom s.stage r.stage s.copies.items s.copies.items → KeepsOwn b (Step a) t r s
  keeps_home steps stays stay stand law b a k t r s due copies keep = record {
    own = λ o w reached laid has runs after running h.
        let v = (happens w (Step a)).0 in
        let at = homing_is r.stage k due in
        let st : (w.seats a).stage ≡ Homing (k ∷ (home_is (stage_of r.stage) k due).0) =
        stage_by (w.seats a) r (quiet_home (stage_of r.stage) k due) runs.0 ∙ (home_is (stage_of r.stage) k due).1 in
        let same : Stays w v a =
        subst (λ (p : Stage V). StepStays w a p (happens w (Step a))) st (reached_stays stays o w reached (Step a)) in
        has_left s v a at.0 s.stage s.copies.items
        (subst (λ (p : own.Stage V). KeepsFrom s.stage p s.copies.items s.copies.items) at.1 keep)
        (λ j c. (
        let apart = left_apart steps o w a k r reached runs due a j s after c in
        let from = left_from r.stage s.stage s.copies.items s.copies.items j (home_no_first (stage_of r.stage) k due) keep c in
        subst (λ d. IsOwn v a j d) (sym (copies j apart))
        ((stay w v a j (copy_of r.copies.items j) same).0 (owns_left r w a k j due h from.0))));
    others = others_keep stand law (Step a);
  }
