-- A seat that is joined into another, or is the last one, is idle or open: so by what it knows, without what it has asked since its last
-- step, no commit of it is half done, and it holds no gate. A commit that is half done is still so, whatever is asked, and what is asked
-- moves no gate.
use Rattle.std.proofs.Common.{◌≡◌, ◌⊎◌, ℕ, ◌<◌, true, false, true≢false, List, [], ◌∷◌, inl, inr, refl, sym, ap, ◌∙◌, subst}
use Rattle.std.proofs.lemmas.Bool.{false_from_ne_true}
use Rattle.seq_model.specs.declared.call.Call.{Call}
use Rattle.seq_model.specs.declared.call.Reply.{Reply}
use Rattle.seq_model.specs.declared.event.Event.{Event}
use Rattle.seq_model.specs.declared.event.Event.TheVariants.{Ask, Step, Starve}
use Rattle.seq_model.specs.declared.event.Request.{Request}
use Rattle.tx_machine.specs.Boosted.{is_actor}
use Rattle.tx_machine.specs.Content.{has}
use Rattle.replay_log.proofs.SeatLemmas.{gates_of}
use Rattle.replay_log.specs.Seats as worlds
use Rattle.replay_log.specs.Seats.{World, Seat, Stage, Storing, Homing, Releasing}
use Rattle.replay_log.specs.Worlds.{ask_at, happens, starve_at}
use Rattle.replay_log.specs.WorldTraces.{is_half_done}
use Rattle.actor_laws.proofs.OneStep.{one_step}
use Rattle.shared_table.specs.declared.seat.Seat as table
use Rattle.shared_table.specs.declared.table.TxTable.{TxTable}
use Rattle.shared_table.specs.Seated.{Owns, acts, kept, list_of, opening_of, out, view}
use Rattle.shared_table.specs.Seated as seated
use Rattle.shared_table.specs.Turns.{asked_all}
use Rattle.actor_laws.specs.KnownStages.{Rests, known_stage_at}
use Rattle.tx_turns.proofs.OwnLemmas.{own_gates}
use Rattle.tx_turns.specs.Ties.{Ties}
use Rattle.tx_engine.proofs.CallLemmas.{stands_at}
use Rattle.tx_turns.specs.Own.{HasOwn}
use Rattle.tx_engine.proofs.ReadyLemmas.{stays_between, stays_own, stays_standing, stays_tied}
use Rattle.tx_turns.specs.Driven.{seat_in, standing}
use Rattle.tx_engine.specs.Ready.{IsReady}
use Rattle.tx_engine.specs.Requests.{IsOpen}
use Rattle.tx_engine.specs.declared.seats.TxSeat.{TxSeat}

module _ {V : Type 0} where
  -- a seat with the same actor is still ready where the world with that actor alone is the same
  pub stays_ready : (t : TxTable V) (s u : TxSeat V) → IsReady t s → u.actor ≡ s.actor → Owns t u.seat
      → seated.actor u.seat ≡ seated.actor s.seat → acts (opening_of t) u.seat ≡ acts (opening_of t) s.seat
      → 0 < (view u.seat).shares → out u.seat ≡ out s.seat → IsReady t u
  stays_ready t s u ready actor owns same own live outs = record {
    table = ready.table;
    ties = subst (λ r. Ties t u.seat r) (sym actor) (stays_tied t s.seat u.seat s.actor owns same own live ready.ties);
    own = subst (λ r. HasOwn t u.seat r []) (sym actor) (stays_own t s.seat u.seat s.actor same own outs ready.own);
    between = stays_between (opening_of t) s.seat u.seat (stays_standing (opening_of t) s.seat u.seat same own) ready.between;
  }

  half_ask : (w : World V) (a : ℕ) (x : Seat V) (st : Stage V) (q : Request V) → w.seats a ≡ x → x.stage ≡ st → is_half_done st ≡ true
      → is_half_done ((ask_at w a x st q).0.seats a).stage ≡ true
  half_ask w a x (Storing ks) q seat at h = ap (λ (y : Seat V). is_half_done y.stage) seat ∙ ap is_half_done at
  half_ask w a x (Homing ks) q seat at h = ap (λ (y : Seat V). is_half_done y.stage) seat ∙ ap is_half_done at
  half_ask w a x Releasing q seat at h = ap (λ (y : Seat V). is_half_done y.stage) seat ∙ ap is_half_done at
  half_ask w a x st q seat at h = absurd (true≢false (sym h))

  half_starve : (w : World V) (a : ℕ) (x : Seat V) (st : Stage V) → w.seats a ≡ x → x.stage ≡ st → is_half_done st ≡ true
      → is_half_done ((starve_at w a x st).0.seats a).stage ≡ true
  half_starve w a x (Storing ks) seat at h = ap (λ (y : Seat V). is_half_done y.stage) seat ∙ ap is_half_done at
  half_starve w a x (Homing ks) seat at h = ap (λ (y : Seat V). is_half_done y.stage) seat ∙ ap is_half_done at
  half_starve w a x Releasing seat at h = ap (λ (y : Seat V). is_half_done y.stage) seat ∙ ap is_half_done at
  half_starve w a x st seat at h = absurd (true≢false (sym h))

  -- a commit that is half done is still so, whatever is asked
  half_stays : (es : List (Event V)) (a : ℕ) (w : World V) → is_half_done (w.seats a).stage ≡ true
      → is_half_done ((asked_all a w es).seats a).stage ≡ true
  half_stays [] a w h = h
  half_stays (Ask b q ∷ es) a w h =
      half_stays es a (happens w (Ask a q)).0 (half_ask w a (w.seats a) (w.seats a).stage q refl refl h)
  half_stays (Step b ∷ es) a w h =
      half_stays es a (happens w (Starve a)).0 (half_starve w a (w.seats a) (w.seats a).stage refl refl h)
  half_stays (Starve b ∷ es) a w h =
      half_stays es a (happens w (Starve a)).0 (half_starve w a (w.seats a) (w.seats a).stage refl refl h)

  gates_stay : (es : List (Event V)) (a : ℕ) (w : World V) (k : ℕ) → (asked_all a w es).boosted.gates k ≡ w.boosted.gates k
  gates_stay [] a w k = refl
  gates_stay (Ask b q ∷ es) a w k = gates_stay es a (happens w (Ask a q)).0 k ∙ (one_step w (Ask a q)).gates k
  gates_stay (Step b ∷ es) a w k = gates_stay es a (happens w (Starve a)).0 k ∙ (one_step w (Starve a)).gates k
  gates_stay (Starve b ∷ es) a w k = gates_stay es a (happens w (Starve a)).0 k ∙ (one_step w (Starve a)).gates k

  -- ---- between its requests
  abbrev IsCalm : Stage V → Type 0
  IsCalm worlds.Idle = Unit {0}
  IsCalm worlds.Open = Unit {0}
  IsCalm st = ⊥

  calm_at : (calls : List (Call V × Reply V)) (st : Stage V) → known_stage_at calls st ≡ Rests → IsCalm st
  calm_at calls worlds.Idle h = tt
  calm_at calls st h = absurd (let z : ⊥ = cc in z)

  calm_in : (o : World V) (s : table.Seat V) → (standing o s ≡ Rests) ⊎ IsOpen o s → IsCalm (seat_in o s).stage
  calm_in o s (inl rests) = calm_at (seat_in o s).calls (seat_in o s).stage rests
  calm_in o s (inr opened) =
      subst IsCalm (sym (stands_at (seat_in o s).calls opened.0 (seat_in o s).stage opened.1)) tt

  calm_done : (st : Stage V) → IsCalm st → is_half_done st ≡ false
  calm_done worlds.Idle h = refl
  calm_done worlds.Open h = refl
  calm_done st h = absurd h

  calm_bare : (st : Stage V) (k : ℕ) → IsCalm st → has (gates_of st) k ≡ false
  calm_bare worlds.Idle k h = refl
  calm_bare worlds.Open k h = refl
  calm_bare st k h = absurd h

  pub rests_kept : (t : TxTable V) (s : TxSeat V) → IsReady t s → seated.Rests (seated.actor s.seat) (kept (opening_of t) s.seat)
  rests_kept t s ready =
      let o = opening_of t in
      let a = seated.actor s.seat in
      let w = kept o s.seat in
      let es = list_of s.seat.asked in
      let calm = calm_in o s.seat ready.between in (
        false_from_ne_true (is_half_done (w.seats a).stage)
            (λ half. true≢false (sym (half_stays es a w half) ∙ calm_done (seat_in o s.seat).stage calm)),
        λ k. ap (is_actor a) (sym (gates_stay es a w k))
            ∙ (own_gates t.whole.shared.key a (acts o s.seat) ready.ties.reached k ∙ calm_bare (seat_in o s.seat).stage k calm),
      )
