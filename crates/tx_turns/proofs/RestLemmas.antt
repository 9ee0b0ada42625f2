-- Where a request is answered no gate is held, and no base is in hand.
--
-- The gates of an actor are those of its stage in the world with it alone: it has none where there is no transaction, or where it is open.
-- What is asked moves no gate, so there is none in hand as a request begins.
use Rattle.std.proofs.Common.{◌≡◌, ◌≢◌, ◌⊎◌, ℕ, List, [], ◌∷◌, Option, inl, inr, refl, sym, ap, ◌∙◌, subst}
use Rattle.seq_model.specs.declared.call.Call.{Call}
use Rattle.seq_model.specs.declared.call.Reply.{Reply}
use Rattle.seq_model.specs.declared.event.Answer.TheVariants as answer
use Rattle.seq_model.specs.declared.event.Event.{Event}
use Rattle.seq_model.specs.declared.event.Event.TheVariants.{Ask, Step, Starve}
use Rattle.seq_model.specs.declared.event.Notice.{Notice}
use Rattle.seq_model.specs.declared.event.Notice.TheVariants.{Answered, Refused}
use Rattle.seq_model.specs.declared.record.Record.{Record}
use Rattle.tx_machine.specs.Boosted.{is_actor}
use Rattle.tx_machine.specs.Content.{has}
use Rattle.replay_log.specs.declared.base.Base.{Base}
use Rattle.replay_log.proofs.SeatLemmas.{gates_of}
use Rattle.replay_log.specs.Seats as worlds
use Rattle.replay_log.specs.Seats.{World, Seat, Stage}
use Rattle.replay_log.specs.Worlds.{happens}
use Rattle.actor_laws.proofs.OneStep.{one_step}
use Rattle.tx_actor.proofs.GatesLemmas.{gates_as, none_has}
use Rattle.tx_actor.specs.CopiesByStage.{HasCopiesAt}
use Rattle.tx_actor.specs.Running.{notice_of}
use Rattle.tx_actor.specs.declared.actor.Stage as own
use Rattle.tx_actor.specs.declared.actor.Stage.TheVariants as stage
use Rattle.tx_actor.specs.declared.actor.ActorNotice.{ActorNotice}
use Rattle.tx_actor.specs.declared.actor.ActorNotice.TheVariants as told
use Rattle.tx_actor.specs.declared.actor.TxActor.{TxActor}
use Rattle.shared_table.specs.declared.seat.Seat as table
use Rattle.shared_table.specs.declared.table.TxTable.{TxTable}
use Rattle.shared_table.specs.Seated.{acts, opening_of, out}
use Rattle.shared_table.specs.Seated as seated
use Rattle.shared_table.specs.Turns as turns
use Rattle.actor_laws.specs.Courses.{ComesTo, EndsFrom}
use Rattle.actor_laws.specs.KnownStages.{KnownStage, Rests, Begins, Stands, Calls, Commits, Ends, known_stage, known_stage_at}
use Rattle.tx_turns.proofs.OwnLemmas.{own_gates}
use Rattle.tx_turns.proofs.LoneRequestLemmas.{acts_taken}
use Rattle.tx_turns.specs.RequestStep.{HasTaken}
use Rattle.tx_turns.specs.Ties.{Ties}
use Rattle.tx_turns.proofs.BasesLemmas.{are_none, gates_is, prepared_none}
use Rattle.tx_turns.specs.Bases.{AreBases, gates_at, slots_of}
use Rattle.tx_turns.specs.Own.{HasOwn}
use Rattle.tx_turns.specs.Driven.{Driven, seat_in, standing}

module _ {V : Type 0} where
  -- there is no transaction, or it is open
  abbrev pub IsCalm : KnownStage V → Type 0
  IsCalm Rests = Unit {0}
  IsCalm (Stands calls) = Unit {0}
  IsCalm p = ⊥

  calm_left : (calls : List (Call V × Reply V)) (p : KnownStage V) (A : Type 0) → ((p ≡ Stands calls) × A) ⊎ (p ≡ Rests) → IsCalm p
  calm_left calls p A (inl stays) = subst IsCalm (sym stays.0) tt
  calm_left calls p A (inr rests) = subst IsCalm (sym rests) tt

  calm_ends : (a : ℕ) (s x : Seat V) (p : KnownStage V) (n : Notice V) (d : Option (Record V)) → EndsFrom a s p n x d
      → IsCalm (known_stage x)
  calm_ends a s x Begins (Answered b (answer.Begun rv)) d h = subst IsCalm (sym h.0) tt
  calm_ends a s x Begins (Refused b cause) d h = subst IsCalm (sym h.0) tt
  calm_ends a s x (Calls calls call) (Answered b (answer.Replied r)) d h = subst IsCalm (sym h.0) tt
  calm_ends a s x (Calls calls call) (Refused b cause) d h = calm_left calls (known_stage x) _ h.0
  calm_ends a s x (Commits calls) (Answered b (answer.Committed n)) d h = subst IsCalm (sym h.0) tt
  calm_ends a s x (Commits calls) (Refused b cause) d h = subst IsCalm (sym h.0) tt
  calm_ends a s x Ends n d h = subst IsCalm (sym h.0) tt
  calm_ends a s x p n d h = absurd h

  calm_comes : (a : ℕ) (s x : Seat V) (n : ActorNotice V) (d : Option (Record V)) → n ≢ told.Quiet → ComesTo a s (notice_of a n) x d
      → IsCalm (known_stage x)
  calm_comes a s x told.Quiet d ne h = absurd (ne refl)
  calm_comes a s x (told.Answered q) d ne h = calm_ends a s x (known_stage s) (Answered a q) d h
  calm_comes a s x (told.Refused cause) d ne h = calm_ends a s x (known_stage s) (Refused a cause) d h

  calm_gates : (calls : List (Call V × Reply V)) (st : Stage V) → IsCalm (known_stage_at calls st) → gates_of st ≡ []
  calm_gates calls worlds.Idle h = refl
  calm_gates calls worlds.Open h = refl
  calm_gates calls st h = absurd h

  -- the gates of its actor, by the world with it alone
  pub gates_in_own : (t : TxTable V) (s : table.Seat V) (r : TxActor V) → Ties t s r
      → gates_at r.stage ≡ gates_of (seat_in (opening_of t) s).stage
  gates_in_own t s r ties = gates_is r.stage ∙ sym (gates_as (acts (opening_of t) s) (seated.actor s) r ties.runs)

  pub calm_bare : (t : TxTable V) (s : table.Seat V) (r : TxActor V) → Ties t s r → IsCalm (standing (opening_of t) s)
      → gates_at r.stage ≡ []
  calm_bare t s r ties calm =
      let x = seat_in (opening_of t) s in gates_in_own t s r ties ∙ calm_gates x.calls x.stage calm

  -- so there is no base in hand
  pub bare_own : (t : TxTable V) (s : table.Seat V) (r : TxActor V) (bs : List (Base V)) → gates_at r.stage ≡ [] → HasOwn t s r bs
      → HasOwn t s r []
  bare_own t s r bs none own =
      subst (HasOwn t s r) (are_none (opening_of t) (acts (opening_of t) s) (gates_at r.stage) bs none own.bases) own

  pub answered_own : (t : TxTable V) (s u : table.Seat V) (q : TxActor V) (bs : List (Base V)) (n : ActorNotice V) (d : Option (Record V))
      → n ≢ told.Quiet → Driven (opening_of t) s u n d → Ties t u q → HasOwn t u q bs → HasOwn t u q []
  answered_own t s u q bs n d ne D ties own =
      bare_own t u q bs
      (calm_bare t u q ties (calm_comes (seated.actor s) (seat_in (opening_of t) s) (seat_in (opening_of t) u) n d ne D.comes)) own

  pub bare_out : (t : TxTable V) (s : table.Seat V) (r : TxActor V) → HasOwn t s r [] → out s ≡ []
  bare_out t s r own = own.out ∙ ap slots_of (none_held (opening_of t) (acts (opening_of t) s) (gates_at r.stage) own.bases)
    where
      none_held : (o w : World V) (ks : List ℕ) → AreBases o w ks [] → ks ≡ []
      none_held o w [] h = refl
      none_held o w (k ∷ ks) h = absurd h

  -- ---- a stage at which nothing is asked of what the actor has of collections
  abbrev pub IsFree : own.Stage V → Type 0
  IsFree stage.Idle = Unit {0}
  IsFree stage.Beginning = Unit {0}
  IsFree (stage.Returning homes) = Unit {0}
  IsFree (stage.ReturningOne k) = Unit {0}
  IsFree stage.Cancelling = Unit {0}
  IsFree stage.Leaving = Unit {0}
  IsFree t = ⊥

  free_copies : (r : TxActor V) (w : World V) (a : ℕ) (t : own.Stage V) → IsFree t → HasCopiesAt r w a t
  free_copies r w a stage.Idle free = tt
  free_copies r w a stage.Beginning free = tt
  free_copies r w a (stage.Returning homes) free = tt
  free_copies r w a (stage.ReturningOne k) free = tt
  free_copies r w a stage.Cancelling free = tt
  free_copies r w a stage.Leaving free = tt
  free_copies r w a t free = absurd free

  pub free_own : (t : TxTable V) (s : table.Seat V) (r : TxActor V) → IsFree r.stage → gates_at r.stage ≡ [] → out s ≡ [] → HasOwn t s r []
  free_own t s r free none outs = record {
    copies = free_copies r (acts (opening_of t) s) (seated.actor s) r.stage free;
    out = outs ∙ ap slots_of (sym none);
    bases = subst (λ (ks : List ℕ). AreBases (opening_of t) (acts (opening_of t) s) ks []) (sym none) tt;
    prepared = prepared_none r.copies.items r.stage none;
  }

  -- what is asked moves no gate
  pub taken_bare : (t : TxTable V) (s u : table.Seat V) (r q : TxActor V) (e : Event V) → Ties t s r → Ties t u q → HasTaken s e u
      → gates_at r.stage ≡ [] → gates_at q.stage ≡ []
  taken_bare t s u r q e ties tied taken none =
      let key = t.whole.shared.key in
      let o = opening_of t in
      let a = seated.actor s in
      let w = acts o s in
      let bare : gates_of (w.seats a).stage ≡ [] = sym (gates_in_own t s r ties) ∙ none in
      let is = acts_taken o s u e taken in
      gates_in_own t u q tied
      ∙ none_has (gates_of (seat_in o u).stage) (λ k. sym (own_gates key (seated.actor u) (acts o u) tied.reached k)
      ∙ ((λ i. is_actor (taken.0.1 i) ((is i).boosted.gates k))
      ∙ (ap (is_actor a) (still w a e k) ∙ (own_gates key a w ties.reached k ∙ ap (λ (ks : List ℕ). has ks k) bare))))
    where
      still : (w : World V) (a : ℕ) (e : Event V) (k : ℕ) → (happens w (turns.own a e)).0.boosted.gates k ≡ w.boosted.gates k
      still w a (Ask b q) k = (one_step w (Ask a q)).gates k
      still w a (Step b) k = (one_step w (Starve a)).gates k
      still w a (Starve b) k = (one_step w (Starve a)).gates k
