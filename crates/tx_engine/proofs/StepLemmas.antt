-- Serial order between two steps.
--
-- The events of the rule reach a world that the table shows, and what events reach is in serial order. An actor is in this world as its
-- seat has it, or as it was at the opening, so where no seat has a commit half done, the world holds what its records leave. A value of the
-- table is that of the world. A base is in its slot where its gate is free, and shows the parts of the world there.
use Rattle.std.proofs.Common.{◌≡◌, ℕ, false, List, length, Option as Maybe, Some, None, refl, sym, ap, ◌∙◌, subst, arith}
use mathlib.Core.Logic.{dite}
use mathlib.Core.Option.{Option, none, some, some-injective, some-ne-none}
use native.Mathlib.Decide.{dec_lt}
use lib.ListN.{get_elem?}
use Rattle.atomic_table.specs.Table.{State}
use Rattle.tx_machine.specs.Cells.{ValueCell}
use Rattle.seq_model.specs.Contents.{Contents}
use Rattle.replay_log.specs.declared.base.Base.{Base}
use Rattle.replay_log.specs.Collections.{shown_at}
use Rattle.replay_log.specs.Contents.{Block, is_plain}
use Rattle.replay_log.specs.Seats.{World, Seat}
use Rattle.replay_log.specs.WorldSerial as worlds
use Rattle.replay_log.specs.WorldSerial.{IsSerial}
use Rattle.replay_log.specs.WorldTraces.{is_half_done}
use Rattle.replay_log.specs.Worlds.{run}
use Rattle.replay_log.proofs.ContentLemmas.{end_above}
use Rattle.actor_laws.specs.Bases.{ShowsBase}
use Rattle.shared_table.specs.Opening.{Holds, world_at}
use Rattle.shared_table.specs.Shown.{HomeOk, IsBaseAt, Opens, Shows, Slot}
use Rattle.shared_table.specs.Turns.{stage_of}
use Rattle.shared_table.specs.declared.view.Opening.{Opening}
use Rattle.shared_table.specs.declared.view.SeatKnowledge.{SeatKnowledge}
use Rattle.shared_table.proofs.Left.{same_home}
use Rattle.shared_table.proofs.Numbers.{there}
use Rattle.tx_engine.specs.Steps.{HasContents, IsSerialBetweenSteps, NoneIsHalfDone}
use Rattle.tx_engine.proofs.SeatLemmas.{SerialLaw}

module _ {V : Type 0} where
  none_half_done : (o w : World V) (s : State (Slot V) (SeatKnowledge V)) → Shows o w s → ((a : ℕ) → is_half_done (stage_of o a) ≡ false)
      → NoneIsHalfDone o s.views → (a : ℕ) → is_half_done (stage_of w a) ≡ false
  none_half_done o w s shows idle done a =
      let half = λ (x : Seat V). is_half_done x.stage in
      dite (dec_lt a (length s.views))
      (λ seated. let at = there s.views a seated in ap half (shows.own a at.0 at.1).alike.seat ∙ done a at.0 at.1)
      (λ no. ap half (shows.fresh a (omega (arith, no))).alike.seat ∙ idle a)

  home_shows : (n : ℕ) (bs : List Block) (w : World V) (k : ℕ) (homes : List (Option (Slot V))) (b : Base V) (gate : Maybe ℕ)
      → w.boosted.gates k ≡ gate → HomeOk n bs w k homes → get_elem? homes k ≡ some (some (Some b))
      → IsBaseAt bs k b × ShowsBase n bs w k b
  home_shows n bs w k homes b None free ok lies =
      let at = ok.0 free in
      subst (λ (d : Base V). IsBaseAt bs k d × ShowsBase n bs w k d) (same_home (get_elem? homes k) at.0 b at.1 lies) (at.2, at.3)
  home_shows n bs w k homes b (Some a) taken ok lies =
      absurd (some-ne-none (Some b) (some-injective (some (Some b)) none (sym lies ∙ ok.1 a taken)))

  has_contents : (o w : World V) (c : Contents V) (s : State (Slot V) (SeatKnowledge V)) → Shows o w s → worlds.Holds w c
      → HasContents o.words o.blocks c s
  has_contents o w c s shows held =
      let n = o.words in
      let bs = o.blocks in
      let e1 = shows.shape.0 in
      let e2 = shows.shape.1 in
      let above = end_above n bs in
      record {
        values = λ l lt. shows.table.cells (ValueCell l) (omega (arith, lt, above)) ∙ held.words l (let q = e1 in omega (arith, lt, q));
        bases = λ k b lt lies. (let is = home_shows n bs w k s.homes b (w.boosted.gates k) refl (shows.table.slots k lt) lies in (
          is.0,
          λ l p at.
              sym (is.1 l p at).0 ∙
              (held.held l ((λ i. is_plain (e1 i) (e2 i) l) ∙ p) ∙ (λ i. shown_at (e1 i) (e2 i) c.held l)),
        ));
      }

  pub serial_between : SerialLaw V → (opening : Opening V) (s : State (Slot V) (SeatKnowledge V)) (rule : Holds opening s)
      → IsSerialBetweenSteps opening rule.rule.events s
  serial_between law opening s rule =
      let o = world_at opening in
      let w = run o rule.rule.events in
      let shows = rule.rule.shows in
      let opens : Opens o = record {
        clock = opening.shape.value.clock;
        contents = opening.state.value;
        suits = rule.suits;
        world = refl;
      } in
      let serial : IsSerial opening.state.value w = law o opens rule.rule.events rule.stripes in record {
        shows = shows;
        serial = serial;
        left = λ done. has_contents o w _ s shows (serial.left (none_half_done o w s shows (λ a. refl) done));
      }
