-- A request of a seat's actor, on words and on collections.
--
-- It is what the actor made of itself in a world that events have reached and that is to it as the world with it alone, and so in that one.
-- No gate is taken or put back by it: where the actor is idle in its transaction it holds none, before and after, and elsewhere it begins
-- one, or is as it was.
use Rattle.std.proofs.Common.{◌≡◌, ℕ, ◌<◌, length, List, [], inl, inr, refl, sym, ap, ◌∙◌, subst}
use Rattle.seq_model.specs.declared.event.Event.{Event}
use Rattle.seq_model.specs.declared.event.Event.TheVariants.{Ask}
use Rattle.std.specs.Prelude.{OnErr, Result, Ok, Err}
use Rattle.seq_model.specs.declared.call.Call.{Call}
use Rattle.seq_model.specs.declared.call.Reply.{Reply}
use Rattle.seq_model.specs.declared.event.Request.{Request}
use Rattle.seq_model.specs.declared.event.Request.TheVariants as request
use Rattle.seq_model.specs.declared.limits.TheConstants.{CALL_LIMIT}
use Rattle.tx_machine.specs.Boosted.{is_actor}
use Rattle.tx_machine.specs.Content.{has}
use Rattle.replay_log.specs.declared.base.Base.{Base}
use Rattle.replay_log.specs.Seats as worlds
use Rattle.replay_log.specs.Seats.{Seat, World}
use Rattle.replay_log.specs.WorldAnswers.{IsAdmitted, IsCallAdmitted}
use Rattle.replay_log.specs.Worlds.{ask_at, happens, run}
use Rattle.actor_laws.proofs.OneStep.{one_step}
use Rattle.actor_laws.proofs.OwnEvents.{own_event}
use Rattle.actor_parts.specs.Requests.{HasNoReads}
use Rattle.tx_actor.specs.Asks.{Admits}
use Rattle.tx_actor.specs.Calls.{AsksAt, CanCall, StandsOwn}
use Rattle.tx_actor.specs.CopiesByStage.{ReadsStill}
use Rattle.tx_actor.specs.ActorBounds.{IsRunning, KeepsIn}
use Rattle.tx_actor.specs.Running.{Runs, seat_at, seat_of, stage_of}
use Rattle.tx_actor.specs.declared.actor.Stage.{Stage}
use Rattle.tx_actor.specs.declared.actor.Stage.TheVariants as stage
use Rattle.tx_actor.specs.declared.actor.ActorNotice.{ActorNotice}
use Rattle.tx_actor.specs.declared.actor.TxActor.{TxActor}
use Rattle.tx_actor.specs.CopiesAfterEvent.{AsksKeep}
use Rattle.tx_actor.proofs.GatesLemmas.{gates_as, none_has}
use Rattle.tx_actor.proofs.OwnLemmas.{AllLaw, Apart, BlocksLaw, CallsReached, OthersLaw, ask_runs, can_call, may_call, open_or}
use Rattle.tx_actor.proofs.OwnLemmas.{refused_ask}
use Rattle.tx_actor.proofs.SeatLemmas.{runs_stand}
use Rattle.shared_table.specs.declared.seat.Seat as table
use Rattle.shared_table.specs.declared.table.TxTable.{TxTable}
use Rattle.shared_table.specs.Seated as seated
use Rattle.shared_table.specs.Seated.{acts, opening_of}
use Rattle.tx_turns.proofs.OwnLemmas.{own_gates}
use Rattle.tx_turns.specs.RequestStep.{Answers, HasAsked}
use Rattle.tx_turns.specs.Ties.{Ties, laid_in}
use Rattle.tx_turns.proofs.LoneRequestLemmas.{acts_taken, no_reads, stays_tied, taken_tied}
use Rattle.tx_turns.specs.Bases.{AreBases, ArePreparedAt, gates_at, slots_of}
use Rattle.tx_turns.specs.Own.{HasOwn}
use Rattle.tx_turns.proofs.BasesLemmas.{are_none, gates_is, prepared_none}
use Rattle.tx_turns.proofs.EventLemmas.{event_own}
use Rattle.tx_turns.proofs.ThereLemmas.{start}
use Rattle.tx_turns.proofs.ThereLemmas.{there_copies, there_laid, there_reached, there_runs}

pub on_err : {T E P : Type 0} (r : Result T E) → P → OnErr r P
on_err (Ok x) p = tt
on_err (Err e) p = p

module _ {V : Type 0} where
  -- an event asks one request
  pub same_request : (q p : Request V) → (let e : Event V = Ask 0 q in e) ≡ Ask 0 p → p ≡ q
  same_request q p e = cc

  -- ---- what the actor is asked
  pub ask_can : CallsReached V → BlocksLaw V → OthersLaw V → (t : TxTable V) (s : table.Seat V) (r : TxActor V) (bs : List (Base V))
      → Ties t s r → HasOwn t s r bs → r.stage ≡ stage.Open → CanCall (laid_in t) r
  ask_can calls of law t s r bs ties own at =
      let h = ties.reached in
      can_call (may_call calls) of (laid_in t) r (start t s r ties) _ (seated.actor s) (there_reached t s r ties h.events h.alike)
      (there_laid t s r ties h.events h.alike) (there_runs t s r ties h.events h.alike)
      (there_copies t s r ties h.events h.alike law own.copies) at

  pub ask_running : (t : TxTable V) (s : table.Seat V) (r q : TxActor V) → Ties t s r
      → ((r.stage ≡ stage.Open → HasNoReads r.words) → KeepsIn (laid_in t) r q) → IsRunning (laid_in t) q
  ask_running t s r q ties keeps = (keeps (λ at. no_reads t s r ties at)).running ties.running

  -- idle in its transaction its seat is what it shows
  open_seat : (w : World V) (a : ℕ) (r : TxActor V) → Runs a r w → r.stage ≡ stage.Open
      → w.seats a ≡ record (seat_of r) { stage = worlds.Open }
  open_seat w a r runs rest = runs.0 ∙ at_rest (w.seats a) r r.stage rest
    where
      at_rest : (x : Seat V) (q : TxActor V) (st : Stage V) → st ≡ stage.Open
          → seat_at x (record q { stage = st }) ≡ record (seat_of q) { stage = worlds.Open }
      at_rest x q stage.Open e = refl
      at_rest x q st e = absurd (let z : ⊥ = cc in z)

  -- ---- the gates that it holds, by the world with it alone
  own_has : (t : TxTable V) (s : table.Seat V) (r : TxActor V) → Ties t s r → (k : ℕ)
      → is_actor (seated.actor s) ((acts (opening_of t) s).boosted.gates k) ≡ has (gates_at r.stage) k
  own_has t s r ties k =
      let a = seated.actor s in
      let w = acts (opening_of t) s in
      own_gates t.whole.shared.key a w ties.reached k
      ∙ ap (λ (ks : List ℕ). has ks k) (gates_as w a r ties.runs ∙ sym (gates_is r.stage))

  -- the same, where both hold the same
  gates_same : (r q : TxActor V) → ((k : ℕ) → has (gates_at q.stage) k ≡ has (gates_at r.stage) k) → Apart r q
      → gates_at q.stage ≡ gates_at r.stage
  gates_same r q same apart =
      elim (open_or r.stage) [
        | inl at ↦ (
            let none : gates_at r.stage ≡ [] = ap gates_at at in
            none_has (gates_at q.stage) (λ k. same k ∙ ap (λ (ks : List ℕ). has ks k) none) ∙ sym none)
        | inr other ↦ elim (apart other) [
          | inl begins ↦ (
              let none : gates_at q.stage ≡ [] = ap gates_at begins in
              none ∙ sym (none_has (gates_at r.stage) (λ k. sym (same k) ∙ ap (λ (ks : List ℕ). has ks k) none)))
          | inr is ↦ ap (λ (z : TxActor V). gates_at z.stage) is
        ]
      ]

  ask_prepared : (o u : World V) (r q : TxActor V) (bs : List (Base V)) → Apart r q → gates_at q.stage ≡ gates_at r.stage
      → AreBases o u (gates_at r.stage) bs → ArePreparedAt r.copies.items r.stage bs → ArePreparedAt q.copies.items q.stage bs
  ask_prepared o u r q bs apart gates are prepared =
      elim (open_or r.stage) [
        | inl at ↦ none_prepared (ap gates_at at)
        | inr other ↦ elim (apart other) [
          | inl begins ↦ none_prepared (sym gates ∙ ap gates_at begins)
          | inr is ↦ subst (λ (z : TxActor V). ArePreparedAt z.copies.items z.stage bs) (sym is) prepared
        ]
      ]
    where
      none_prepared : gates_at r.stage ≡ [] → ArePreparedAt q.copies.items q.stage bs
      none_prepared none =
          subst (λ (cs : List (Base V)). ArePreparedAt q.copies.items q.stage cs) (sym (are_none o u (gates_at r.stage) bs none are))
          (prepared_none q.copies.items q.stage (gates ∙ none))

  -- ---- the request
  pub ask_tied : CallsReached V → OthersLaw V → (t : TxTable V) (s u : table.Seat V) (r q : TxActor V) (n : ActorNotice V) (x : Request V)
      (bs : List (Base V)) → Ties t s r → HasOwn t s r bs → HasAsked s x u
      → AsksAt (laid_in t) r q n (λ a w. ask_at w a (seat_of r) (stage_of r.stage) x) → IsRunning (laid_in t) q
      → Ties t u q × Answers (opening_of t) s x n
  ask_tied calls law t s u r q n x bs ties own has asks running =
      let a = seated.actor s in
      let w = acts (opening_of t) s in
      let h = ties.reached in
      let there = run (opening_of t) h.events in
      let same = own_event a there w (Ask a x) h.alike refl in
      let goes = ask_runs (may_call calls) (laid_in t) (start t s r ties) there a x r q n asks (there_reached t s r ties h.events h.alike)
      (there_laid t s r ties h.events h.alike) (there_runs t s r ties h.events h.alike)
      (there_copies t s r ties h.events h.alike law own.copies) in (
        taken_tied t s u r q (Ask 0 x) ties has running (runs_stand (happens there (Ask a x)).0 (happens w (Ask a x)).0 a q same.0 goes.0),
        goes.1 ∙ same.1,
      )

  pub ask_own : AsksKeep V → OthersLaw V → (t : TxTable V) (s u : table.Seat V) (r q : TxActor V) (n : ActorNotice V) (x : Request V)
      (bs : List (Base V)) → Ties t s r → HasOwn t s r bs → HasAsked s x u
      → AsksAt (laid_in t) r q n (λ a w. ask_at w a (seat_of r) (stage_of r.stage) x) → ReadsStill r.copies.items q.copies.items
      → Apart r q → IsRunning (laid_in t) q → Ties t u q → HasOwn t u q bs
  ask_own keep law t s u r q n x bs ties own has asks still apart running tie =
      let a = seated.actor s in
      let o = opening_of t in
      let w = acts o s in
      let h = ties.reached in
      let there = run o h.events in
      let same = own_event a there w (Ask a x) h.alike refl in
      let is = acts_taken o s u (Ask 0 x) has in
      let calm = one_step w (Ask a x) in
      let copies = keep (laid_in t) (start t s r ties) there a x r q n asks still apart (there_reached t s r ties h.events h.alike)
      (there_laid t s r ties h.events h.alike) (there_runs t s r ties h.events h.alike) running
      (there_copies t s r ties h.events h.alike law own.copies) in
      let gates : gates_at q.stage ≡ gates_at r.stage =
      gates_same r q (λ k. sym (own_has t u q tie k)
      ∙ ((λ i. is_actor (has.0.1 i) ((is i).boosted.gates k)) ∙ (ap (is_actor a) (calm.gates k) ∙ own_has t s r ties k))) apart in
      event_own t s u r q (Ask 0 x) ties has law (Ask a x) bs is same calm own copies gates
      (ask_prepared o w r q bs apart gates own.bases own.prepared)

  -- where an allocation failed
  refused_call : (t : TxTable V) (s : table.Seat V) (r : TxActor V) (x : Request V) → Ties t s r → r.stage ≡ stage.Open
      → Admits (laid_in t) r x → IsCallAdmitted (acts (opening_of t) s) (seated.actor s) x
  refused_call t s r (request.Call call) ties rest admits =
      let a = seated.actor s in
      let w = acts (opening_of t) s in
      let calls : (w.seats a).calls ≡ r.calls.items = ap (λ (z : Seat V). z.calls) (open_seat w a r ties.runs rest) in (
        admits.there a w ties.reached.shape ties.runs,
        subst (λ (cs : List (Call V × Reply V)). length cs < CALL_LIMIT) (sym calls) admits.few,
        admits.room a w ties.reached.shape ties.runs,
      )
  refused_call t s r x ties rest admits = tt

  pub refused_admits : (t : TxTable V) (s : table.Seat V) (r : TxActor V) (x : Request V) → Ties t s r → r.stage ≡ stage.Open
      → Admits (laid_in t) r x → IsAdmitted (acts (opening_of t) s) (seated.actor s) x
  refused_admits t s r x ties rest admits = record {
    stands = ap (λ (z : Seat V). z.stage) (open_seat (acts (opening_of t) s) (seated.actor s) r ties.runs rest);
    call = refused_call t s r x ties rest admits;
  }

  pub refused_tied : (t : TxTable V) (s : table.Seat V) (r q : TxActor V) → Ties t s r → StandsOwn r q → IsRunning (laid_in t) q
      → Ties t s q
  refused_tied t s r q ties stands running = stays_tied t s r q ties stands.0 running

  pub refused_own : AllLaw V → (t : TxTable V) (s : table.Seat V) (r q : TxActor V) (bs : List (Base V)) → Ties t s r → HasOwn t s r bs
      → StandsOwn r q → ReadsStill r.copies.items q.copies.items → Apart r q → IsRunning (laid_in t) q → HasOwn t s q bs
  refused_own all t s r q bs ties own stands still apart running =
      let a = seated.actor s in
      let o = opening_of t in
      let w = acts o s in
      let gates : gates_at q.stage ≡ gates_at r.stage =
      gates_is q.stage ∙ (sym (gates_as w a q (stands.0 a w ties.runs)) ∙ (gates_as w a r ties.runs ∙ sym (gates_is r.stage))) in
      record {
        copies = refused_ask all (laid_in t) r q stands still apart running w a ties.reached.shape own.copies;
        out = own.out ∙ ap slots_of (sym gates);
        bases = subst (λ (ks : List ℕ). AreBases o w ks bs) (sym gates) own.bases;
        prepared = ask_prepared o w r q bs apart gates own.bases own.prepared;
      }
