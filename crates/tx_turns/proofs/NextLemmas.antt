-- Which turn is next.
--
-- Where a request is under way its actor is not idle, and the world with it alone has no stage with nothing left to try, to load, to take
-- home or to put back: so some step is next. One that takes memory is next for a call, or for a commit without a record.
use Rattle.std.proofs.Common.{◌≡◌, ℕ, true, false, true≢false, List, [], ◌∷◌, Option, inl, inr, refl, sym, ◌∙◌}
use Rattle.tx_machine.specs.Actor as machine
use Rattle.tx_machine.specs.Actor.{Place}
use Rattle.seq_model.specs.declared.call.Call.{Call}
use Rattle.seq_model.specs.declared.call.Reply.{Reply}
use Rattle.seq_model.specs.declared.record.Record.{Record}
use Rattle.replay_log.proofs.SeatLemmas.{Copy, StageOk}
use Rattle.replay_log.specs.Contents.{Block}
use Rattle.replay_log.specs.Guards.{IsAtRest}
use Rattle.replay_log.specs.Seats as worlds
use Rattle.replay_log.specs.Seats.{Seat, Stage}
use Rattle.actor_parts.specs.Dispatch.{is_loading, next_of}
use Rattle.actor_parts.specs.declared.next.Next.TheVariants as next
use Rattle.tx_actor.proofs.SeatLemmas.{next_as}
use Rattle.tx_actor.specs.Running.{stage_of}
use Rattle.tx_actor.proofs.StepLemmas.{first_is}
use Rattle.tx_actor.specs.declared.actor.Stage as own
use Rattle.tx_actor.specs.declared.actor.Stage.TheVariants as stage
use Rattle.tx_actor.specs.declared.actor.TxActor.{TxActor}
use Rattle.shared_table.specs.declared.seat.Seat as table
use Rattle.shared_table.specs.declared.table.TxTable.{TxTable}
use Rattle.shared_table.specs.Seated.{acts, opening_of}
use Rattle.shared_table.specs.Seated as seated
use Rattle.actor_laws.specs.Courses.{IsUnderWay, IsUnderWayFrom}
use Rattle.actor_laws.specs.KnownStages.{KnownStage, Rests, Begins, Stands, Calls, Commits, Committed, Ends, known_stage, known_stage_at}
use Rattle.tx_turns.proofs.OwnLemmas.{own_ok}
use Rattle.tx_turns.specs.Ties.{Ties, commits_at}
use Rattle.tx_turns.specs.Driven.{MayWant, WantsMemory, seat_in}

module _ {V : Type 0} where
  -- some step is next
  due_next : (n : ℕ) (bs : List Block) (x : Seat V) (y : machine.Actor) (z : Copy V) (st : Stage V) (p : Place)
      → StageOk n bs x y z st p → (IsAtRest st → ⊥) → next_of st ≡ next.Nothing → ⊥
  due_next n bs x y z worlds.Idle p ok busy e = busy tt
  due_next n bs x y z worlds.Open p ok busy e = busy tt
  due_next n bs x y z (worlds.Loading o []) p ok busy e = ok
  due_next n bs x y z (worlds.Loading o (d ∷ es)) p ok busy e = cc
  due_next n bs x y z (worlds.Gating got [] tries) p ok busy e = ok
  due_next n bs x y z (worlds.Gating got (k ∷ ks) tries) p ok busy e = cc
  due_next n bs x y z (worlds.Homing []) p ok busy e = ok
  due_next n bs x y z (worlds.Homing (k ∷ ks)) p ok busy e = cc
  due_next n bs x y z (worlds.Returning []) p ok busy e = ok
  due_next n bs x y z (worlds.Returning (k ∷ ks)) p ok busy e = cc
  due_next n bs x y z st p ok busy e = let z : ⊥ = cc in z

  -- a request under way is not idle
  busy : (p : KnownStage V) (calls : List (Call V × Reply V)) (st : Stage V) → known_stage_at calls st ≡ p → (p ≡ Rests → ⊥)
      → ((cs : List (Call V × Reply V)) → p ≡ Stands cs → ⊥) → IsAtRest st → ⊥
  busy p calls worlds.Idle e rests stands at = rests (sym e)
  busy p calls worlds.Open e rests stands at = stands calls (sym e)
  busy p calls st e rests stands at = at

  under_busy : (s x : Seat V) (d : Option (Record V)) (p : KnownStage V) → IsUnderWayFrom s p x d → IsAtRest x.stage → ⊥
  under_busy s x d Begins h = busy Begins x.calls x.stage h.0 (λ e. cc) (λ cs e. cc)
  under_busy s x d (Calls calls call) (inl same, none) = busy (Calls calls call) x.calls x.stage same (λ e. cc) (λ cs e. cc)
  under_busy s x d (Calls calls call) (inr up, none) = busy Ends x.calls x.stage up.0 (λ e. cc) (λ cs e. cc)
  under_busy s x d (Commits calls) (inl (inl same, none)) = busy (Commits calls) x.calls x.stage same (λ e. cc) (λ cs e. cc)
  under_busy s x d (Commits calls) (inl (inr up, none)) = busy Ends x.calls x.stage up.0 (λ e. cc) (λ cs e. cc)
  under_busy s x d (Commits calls) (inr has) = busy Committed x.calls x.stage has.0 (λ e. cc) (λ cs e. cc)
  under_busy s x d Ends h = busy Ends x.calls x.stage h.0 (λ e. cc) (λ cs e. cc)
  under_busy s x d Rests h = absurd h
  under_busy s x d (Stands calls) h = absurd h
  under_busy s x d Committed h = absurd h

  pub due_turn : (t : TxTable V) (s : table.Seat V) (r : TxActor V) (from : Seat V) (d : Option (Record V)) → Ties t s r
      → IsUnderWay from (seat_in (opening_of t) s) d → next_of (stage_of r.stage) ≡ next.Nothing → ⊥
  due_turn t s r from d ties under none =
      let a = seated.actor s in
      let w = acts (opening_of t) s in
      due_next _ _ _ _ _ (w.seats a).stage _ (own_ok t.whole.shared.key a w ties.reached)
      (under_busy from (w.seats a) d (known_stage from) under) (next_as w a r ties.runs ∙ none)

  -- ---- a turn that takes memory
  -- of a call, or of a commit without a record
  abbrev pub IsHalfway : KnownStage V → Type 0
  IsHalfway (Calls calls call) = Unit {0}
  IsHalfway (Commits calls) = Unit {0}
  IsHalfway p = ⊥

  pub wants_halfway : (calls : List (Call V × Reply V)) (st : Stage V) → MayWant st → IsHalfway (known_stage_at calls st)
  wants_halfway calls (worlds.Trying asked tries) h = tt
  wants_halfway calls (worlds.Copying asked) h = tt
  wants_halfway calls (worlds.Loading o left) h = tt
  wants_halfway calls (worlds.Gating got ks tries) h = tt
  wants_halfway calls (worlds.Ready ks) h = tt
  wants_halfway calls (worlds.Homing []) h = absurd h
  wants_halfway calls (worlds.Homing (k ∷ ks)) h = absurd h
  wants_halfway calls (worlds.Returning []) h = absurd h
  wants_halfway calls (worlds.Returning (k ∷ ks)) h = absurd h
  wants_halfway calls st h = absurd h

  pub turn_wants : (st : Stage V) → WantsMemory (next_of st) → MayWant st
  turn_wants (worlds.Loading o left) h = tt
  turn_wants st h = h

  pub load_wants : (st : Stage V) → is_loading st ≡ true → MayWant st
  load_wants (worlds.Loading o left) e = tt
  load_wants st e = absurd (true≢false (sym e))

  -- ---- what a turn makes
  pub not_loading : (t : own.Stage V) → ((o : _) (left : _) → t ≡ stage.Loading o left → ⊥) → is_loading (stage_of t) ≡ false
  not_loading (stage.Loading o left) isnt = absurd (isnt o left refl)
  not_loading t isnt = refl

  -- a step on the words makes no receipt, but for a reader's load of the clock
  pub makes_none : (a : ℕ) (r : TxActor V) (t : own.Stage V) → next_of (stage_of t) ≡ next.Word → (t ≡ stage.Closing → ⊥)
      → commits_at a r t ≡ []
  makes_none a r (stage.Ready homes) due isnt = absurd (let z : ⊥ = cc in z)
  makes_none a r stage.Closing due isnt = absurd (isnt refl)
  makes_none a r t due isnt = refl

  -- the first value store makes one
  pub makes_one : (a : ℕ) (r : TxActor V) (d : Record V) (t : own.Stage V) → next_of (stage_of t) ≡ next.FirstStore → d.number ≡ r.wv
      → d.writes ≡ true → d.calls ≡ r.calls.items → commits_at a r t ≡ (a, d) ∷ []
  makes_one a r d (stage.Ready homes) due number writes calls =
      (λ i. (a, record { number = sym number i; writes = sym writes i; calls = sym calls i }) ∷ [])
  makes_one a r d t due number writes calls = absurd (let f = (first_is (stage_of t) due).1 in let z : ⊥ = cc in z)
