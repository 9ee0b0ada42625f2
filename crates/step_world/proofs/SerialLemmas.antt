-- What the parts of a world keep is what the world has whose parts they are, and events led to that world from its opening: so the law on
-- such worlds is one on their parts. Where no actor of the parts has a half-done commit, no seat of the world has.
use Rattle.std.proofs.Common.{◌≡◌, ℕ, zero, suc, ◌+◌, false, List, Option, Some, None, take, refl, sym, ap, ◌∙◌, subst}
use Rattle.std.specs.Prelude.{slice_get, IfOk, Result, Ok, Err}
use Rattle.seq_model.specs.declared.event.Event.{Event}
use Rattle.seq_model.specs.declared.event.Notice.{Notice}
use Rattle.seq_model.specs.declared.refusal.Memory.{Memory}
use Rattle.seq_model.specs.declared.record.Record.{Record}
use Rattle.seq_model.specs.Contents.{Contents}
use Rattle.seq_model.specs.Runs.{IsInCommitOrder, IsRun, after_run}
use Rattle.replay_log.specs.Seats as seats
use Rattle.replay_log.specs.Worlds.{World, is_half_done}
use Rattle.replay_log.specs.WorldSerial.{AllSaw, SawAt}
use Rattle.tx_actor.specs.Running.{seat_of, stage_of}
use Rattle.tx_actor.specs.declared.actor.TxActor.{TxActor}
use Rattle.actor_parts.specs.States.{held_in}
use Rattle.actor_parts.proofs.StateLemmas as tables
use Rattle.step_world.specs.declared.parts.Parts.{Parts}
use Rattle.step_world.specs.declared.trace.Trace.{Trace}
use Rattle.step_world.specs.Feeds.{Feeds, fed}
use Rattle.step_world.specs.Parts.{IsWorld}
use Rattle.step_world.specs.Reached.{IsReached}
use Rattle.step_world.specs.Serial.{IsFrom, IsSerialFrom, NoneIsHalf}
use Rattle.step_world.specs.Traces.{IsSerialTrace, seat_at, seat_found}
use Rattle.step_world.proofs.ReachedLemmas.{reached_fed}
use Rattle.tx_actor.proofs.SeatLemmas.{saw_as}
use Rattle.step_world.proofs.TraceLemmas.{SerialLaw, StateLaw, seat_like, serial_at, state_left}
use Rattle.tx_actor.proofs.StepLemmas.{reached_linked}

module _ {V : Type 0} where
  found_free : (o : Option (TxActor V)) → ((r : TxActor V) → o ≡ Some r → is_half_done (stage_of r.stage) ≡ false)
      → is_half_done (seat_found o).stage ≡ false
  found_free None none = refl
  found_free (Some r) none = none r refl

  place_free : (c : Parts V) → NoneIsHalf c → (a : ℕ) → is_half_done (seat_at c.actors.items a).stage ≡ false
  place_free c none zero = refl
  place_free c none (suc i) = found_free (slice_get c.actors.items i) (none i)

  -- what the table holds where no commit is half done
  left_in : StateLaw V → (o : Contents V) (c : Parts V) (h : IsFrom o c) → NoneIsHalf c
      → (let kept : Contents V = record { words = take c.blocks.words c.table.cells.values.items; held = held_in c.table } in
      kept ≡ after_run c.records.items o)
  left_in law o c h none =
      let w = h.world in
      let p = h.parts in
      let pos = (reached_linked o w h.reached).base.stripes in
      let first = ap (λ (n : ℕ). take n c.table.cells.values.items) (sym p.laid.0) in
      sym (tables.shows_state c.table w (take c.blocks.words c.table.cells.values.items) p.table p.shape pos first)
      ∙ (state_left law o w h.reached (λ a. (seat_like c w a p).0 ∙ place_free c none a)
      ∙ ap (λ (rs : List (ℕ × Record V)). after_run rs o) (sym p.records))

  pub serial_from : SerialLaw V → StateLaw V → (o : Contents V) (c : Parts V) → IsFrom o c → IsSerialFrom o c
  serial_from law left o c h =
      let w = h.world in
      let p = h.parts in
      let s = serial_at law o w h.reached in
      record {
        ordered = subst (λ (rs : List (ℕ × Record V)). IsInCommitOrder rs) (sym p.records) s.ordered;
        run = subst (λ (rs : List (ℕ × Record V)). IsRun rs o) (sym p.records) s.run;
        words = λ none. ap (λ (x : Contents V). x.words) (left_in left o c h none);
        held = λ none. ap (λ (x : Contents V). x.held) (left_in left o c h none);
        open_saw = λ i r got.
            subst (λ (rs : List (ℕ × Record V)). SawAt o rs (seat_of r) (stage_of r.stage)) (sym p.records)
            (saw_as o w.records w (i + 1) r (p.seats i r got).runs (s.open_saw (i + 1)));
        aborted_saw = subst (λ (es : List (seats.Ended V)). AllSaw o c.records.items es) (sym p.aborted)
            (subst (λ (rs : List (ℕ × Record V)). AllSaw o rs w.aborted) (sym p.records) s.aborted_saw);
      }

  pub from_fed : (o : Contents V) (c d : Parts V) (e : Event V) (n : Notice V) → Feeds c e d n → IsFrom o c → IsFrom o d
  from_fed o c d e n fed_by h = record {
    world = (fed h.world e).0;
    reached = reached_fed o h.world e h.reached;
    parts = fed_by.parts o h.world h.reached h.parts;
  }

  pub serial_traced : (c : Parts V) (r : Result (Trace V) Memory)
      → IfOk r (λ t. (o : Contents V) (w : World V) → IsReached o w → IsWorld c w → IsSerialTrace o t)
      → IfOk r (λ t. (o : Contents V) → IsFrom o c → IsSerialTrace o t)
  serial_traced c (Ok t) h = λ o from. h o from.world from.reached from.parts
  serial_traced c (Err e) h = tt
