-- A request of a seat's actor: the world with the seat alone takes it in as the definitions do. It finds nothing, so it is the same to the
-- actor in the world that events have reached, and some events lead to what it leaves.
use Rattle.std.proofs.Common.{◌≡◌, ℕ, ◌+◌, ◌<◌, ◌≤◌, false, List, [], ◌∷◌, ◌++◌, refl, sym, ap, ◌∙◌, subst}
use Rattle.tx_machine.specs.Actor as machine
use Rattle.tx_machine.specs.Cells.{ClockCell}
use Rattle.tx_machine.proofs.Declared.{has_no_sets}
use Rattle.seq_model.specs.declared.event.Event.{Event}
use Rattle.seq_model.specs.declared.event.Event.TheVariants.{Ask, Step, Starve}
use Rattle.seq_model.specs.declared.event.Request.{Request}
use Rattle.replay_log.proofs.EventLemmas.{opened_linked, run-append, run_linked}
use Rattle.replay_log.proofs.SeatLemmas.{StageOk}
use Rattle.replay_log.specs.Seats.{World, Seat, After, actor_of}
use Rattle.replay_log.specs.Worlds.{ask_at, happens, run, starve_at}
use Rattle.step_core.specs.Shown as words
use Rattle.actor_parts.specs.Blocks.{BlocksView}
use Rattle.actor_parts.specs.Dispatch.{is_loading}
use Rattle.actor_parts.specs.Requests.{HasNoReads}
use Rattle.actor_laws.proofs.OneStep.{one_step}
use Rattle.actor_laws.proofs.OwnEvents.{own_event}
use Rattle.actor_laws.specs.Own.{Alike}
use Rattle.actor_laws.specs.Steps.{OnlyOwn}
use Rattle.tx_actor.specs.Asks.{Asks}
use Rattle.tx_actor.specs.Dispatch.{Starves}
use Rattle.tx_actor.specs.ActorBounds.{IsRunning}
use Rattle.tx_actor.specs.Running.{Does, Runs, seat_of, stage_of}
use Rattle.tx_actor.specs.declared.actor.Stage as own
use Rattle.tx_actor.specs.declared.actor.Stage.TheVariants as stage
use Rattle.tx_actor.specs.declared.actor.ActorNotice.{ActorNotice}
use Rattle.tx_actor.specs.declared.actor.TxActor.{TxActor}
use Rattle.shared_table.specs.declared.seat.Seat as table
use Rattle.shared_table.specs.declared.table.TxTable.{TxTable}
use Rattle.shared_table.specs.Opening.{blocks_at, world_at}
use Rattle.shared_table.specs.Seated.{Owns, acts, opening_of, view}
use Rattle.shared_table.specs.Seated as seated
use Rattle.shared_table.specs.Shown.{IsReached, SameBases, highest_clock}
use Rattle.shared_table.proofs.Keeps.{asked_bases}
use Rattle.shared_table.specs.declared.view.SeatKnowledge.{SeatKnowledge}
use Rattle.shared_table.specs.Turns.{asked_all, lone}
use Rattle.shared_table.specs.Turns as turns
use Rattle.tx_turns.specs.RequestStep.{Answers, HasAsked, HasTaken, Starved}
use Rattle.tx_turns.specs.Ties.{Ties, laid_in}
use Rattle.tx_actor.proofs.SeatLemmas.{asked_as, starved_as}
use Rattle.tx_turns.proofs.TurnLemmas.{own_place}

module _ {V : Type 0} where
  asked_last : (a : ℕ) (w : World V) (es : List (Event V)) (e : Event V)
      → asked_all a w (es ++ e ∷ []) ≡ (happens (asked_all a w es) (turns.own a e)).0
  asked_last a w [] e = refl
  asked_last a w (d ∷ es) e = asked_last a (happens w (turns.own a d)).0 es e

  -- the world with a seat alone that has asked, or for which an allocation failed
  pub acts_taken : (o : World V) (s u : table.Seat V) (e : Event V) → HasTaken s e u
      → acts o u ≡ (happens (acts o s) (turns.own (seated.actor s) e)).0
  acts_taken o s u e h =
      (λ i. asked_all (h.0.1 i) (lone (h.0.1 i) o (h.1 i).0.turns) (h.2 i))
      ∙ asked_last (seated.actor s) (lone (seated.actor s) o (view s).turns) (seated.list_of s.asked) e

  reached_by : (o : World V) (a : ℕ) (w : World V) (e : Event V) → OnlyOwn a w (happens w e).0
      → ((v : World V) → Alike a v w → Alike a (happens v e).0 (happens w e).0) → (h : IsReached o a w)
      → SameBases a (happens (run o h.events) e).0 (happens w e).0 → OnlyOwn a (run o h.events) (happens (run o h.events) e).0
      → IsReached o a (happens w e).0
  reached_by o a w e calm alike h bases same =
      let there : (happens (run o h.events) e).0 ≡ run o (h.events ++ e ∷ []) = sym (run-append h.events (e ∷ []) o) in
      record {
        opens = h.opens;
        stripes = h.stripes;
        shape = (calm.words ∙ h.shape.0, calm.blocks ∙ h.shape.1);
        events = h.events ++ e ∷ [];
        alike = subst (λ (z : World V). Alike a z (happens w e).0) there (alike (run o h.events) h.alike);
        bases = subst (λ (z : World V). SameBases a z (happens w e).0) there bases;
        clock = subst (λ (z : World V). z.boosted.words.clock ≤ highest_clock) there
            (subst (λ (n : ℕ). n ≤ highest_clock) (sym (same.cells ClockCell)) h.clock);
      }

  reached_own : (o : World V) (a : ℕ) (w : World V) (e : Event V) → IsReached o a w → IsReached o a (happens w (turns.own a e)).0
  reached_own o a w (Ask b q) h =
      reached_by o a w (Ask a q) (one_step w (Ask a q)) (λ v k. (own_event a v w (Ask a q) k refl).0) h
      (asked_bases a (Ask b q ∷ []) (run o h.events) w h.alike h.bases) (one_step (run o h.events) (Ask a q))
  reached_own o a w (Step b) h =
      reached_by o a w (Starve a) (one_step w (Starve a)) (λ v k. (own_event a v w (Starve a) k refl).0) h
      (asked_bases a (Step b ∷ []) (run o h.events) w h.alike h.bases) (one_step (run o h.events) (Starve a))
  reached_own o a w (Starve b) h =
      reached_by o a w (Starve a) (one_step w (Starve a)) (λ v k. (own_event a v w (Starve a) k refl).0) h
      (asked_bases a (Starve b ∷ []) (run o h.events) w h.alike h.bases) (one_step (run o h.events) (Starve a))

  -- the seat is tied to the actor of the world with it alone by then
  pub seat_tied : (t : TxTable V) (s u : table.Seat V) (q : TxActor V) (e : Event V) → Owns t s → 0 < (view s).shares
      → IsReached (opening_of t) (seated.actor s) (acts (opening_of t) s) → HasTaken s e u → IsRunning (laid_in t) q
      → Runs (seated.actor s) q (happens (acts (opening_of t) s) (turns.own (seated.actor s) e)).0 → Ties t u q
  seat_tied t s u q e owns live reached has running runs =
      let a = seated.actor s in
      let own_is = acts_taken (opening_of t) s u e has in
      record {
        owns = has.0.0 ∙ owns;
        live = subst (λ (v : SeatKnowledge V). 0 < v.shares) (sym (ap (λ m. m.0) has.1)) live;
        reached = subst (λ (z : ℕ × World V). IsReached (opening_of t) z.0 z.1) (λ i. (sym has.0.1 i, sym own_is i))
            (reached_own (opening_of t) a (acts (opening_of t) s) e reached);
        runs = subst (λ (z : ℕ × World V). Runs z.0 q z.1) (λ i. (sym has.0.1 i, sym own_is i)) runs;
        running = running;
      }

  pub taken_tied : (t : TxTable V) (s u : table.Seat V) (r q : TxActor V) (e : Event V) → Ties t s r → HasTaken s e u
      → IsRunning (laid_in t) q → Runs (seated.actor s) q (happens (acts (opening_of t) s) (turns.own (seated.actor s) e)).0 → Ties t u q
  taken_tied t s u r q e ties has running runs = seat_tied t s u q e ties.owns ties.live ties.reached has running runs

  -- ---- a failed allocation
  pub starved : (t : TxTable V) (s u : table.Seat V) (r q : TxActor V) (n : ActorNotice V) → Ties t s r → HasTaken s (Starve 0) u
      → IsRunning (laid_in t) q → Starves r q n → Ties t u q × Starved (opening_of t) s u n
  starved t s u r q n ties has running starves =
      let a = seated.actor s in
      let w = acts (opening_of t) s in
      let e : happens w (Starve a) ≡ starve_at w a (seat_of r) (stage_of r.stage) =
      starved_as w a r ties.runs in
      let there = starves a w ties.runs in (
        taken_tied t s u r q (Starve 0) ties has running (subst (λ (z : After V). Runs a q z.0) (sym e) there.0),
        record {
          taken = has;
          own = acts_taken (opening_of t) s u (Starve 0) has;
          tells = there.1 ∙ sym (ap (λ (z : After V). z.1) e);
        },
      )

  -- a request that makes q of the actor r
  pub asked : (t : TxTable V) (s u : table.Seat V) (r q : TxActor V) (n : ActorNotice V) (x : Request V) (f : ℕ → World V → After V)
      → Ties t s r → HasAsked s x u → IsRunning (laid_in t) q
      → ((a : ℕ) (w : World V) → ask_at w a (seat_of r) (stage_of r.stage) x ≡ f a w) → Asks (laid_in t) r q n f
      → Ties t u q × Answers (opening_of t) s x n
  asked t s u r q n x f ties has running is asks =
      let a = seated.actor s in
      let w = acts (opening_of t) s in
      let e : happens w (Ask a x) ≡ f a w = asked_as w a x r ties.runs ∙ is a w in
      let there = asks a w ties.reached.shape ties.runs in (
        taken_tied t s u r q (Ask 0 x) ties has running (subst (λ (z : After V). Runs a q z.0) (sym e) there.0),
        there.1 ∙ sym (ap (λ (z : After V). z.1) e),
      )

  -- of no matter how the locations are laid out
  pub anywhere : (v : BlocksView) (r q : TxActor V) (n : ActorNotice V) (f : ℕ → World V → After V) → Does r q n f → Asks v r q n f
  anywhere v r q n f does a w laid runs = does a w runs

  -- where its stage is known
  pub at_its_stage : (r : TxActor V) (t : own.Stage V) (q : Request V) → r.stage ≡ t → (a : ℕ) (w : World V)
      → ask_at w a (seat_of r) (stage_of r.stage) q ≡ ask_at w a (seat_of r) (stage_of t) q
  at_its_stage r t q e a w = ap (λ (k : own.Stage V). ask_at w a (seat_of r) (stage_of k) q) e

  -- an actor that is as it was in every world remains tied
  pub stays_tied : (t : TxTable V) (s : table.Seat V) (r q : TxActor V) → Ties t s r
      → ((a : ℕ) (w : World V) → Runs a r w → Runs a q w) → IsRunning (laid_in t) q → Ties t s q
  stays_tied t s r q ties stands running = record {
    owns = ties.owns;
    live = ties.live;
    reached = ties.reached;
    runs = stands (seated.actor s) (acts (opening_of t) s) ties.runs;
    running = running;
  }

  -- an idle declared reader has read nothing that it keeps
  pub no_reads : (t : TxTable V) (s : table.Seat V) (r : TxActor V) → Ties t s r → r.stage ≡ stage.Open → HasNoReads r.words
  no_reads t s r ties at d =
      let key = t.whole.shared.key in
      let a = seated.actor s in
      let u = acts (opening_of t) s in
      let h = ties.reached in
      let there = run (world_at key) h.events in
      let linked = run_linked h.events (world_at key)
      (opened_linked (blocks_at key) key.shape.value.clock key.state.value.words key.state.value.held h.stripes) in
      let quiet : is_loading (stage_of r.stage) ≡ false = ap (λ (k : own.Stage V). is_loading (stage_of k)) at in
      let rests : (actor_of u a).place ≡ machine.Open =
      (subst (λ (k : own.Stage V). StageOk u.words u.blocks (u.seats a) (actor_of u a) (u.boosted.shadows a) (stage_of k)
      (actor_of u a).place)
      at (own_place t s r quiet ties)).0 in
      let is : actor_of there a ≡ words.actor_of r.words = h.alike.boosted.actor ∙ ties.runs.1 in
      sym (ap (λ (y : machine.Actor). y.reads) is)
      ∙ (has_no_sets there.boosted.words a linked.base.inv.machine (ap (λ (y : machine.Actor). y.declared) is ∙ d)
      (ap (λ (y : machine.Actor). y.place) h.alike.boosted.actor ∙ rests)).0
