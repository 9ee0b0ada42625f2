use Rattle.std.proofs.Common.{subst, get_or, take_all, arith, List, ℕ}
use Rattle.seq_model.specs.declared.event.Event.{Event}
use Rattle.seq_model.specs.declared.event.Event.TheVariants.{Ask}
use Rattle.seq_model.specs.declared.event.Request.TheVariants.{Begin}
use Rattle.step_world.proofs.ReachedLemmas.{well_fed}
use Rattle.session_text.specs.Rows.{AreFed}
use Rattle.session_text.proofs.RowLemmas.{fed_item, fed_none}
use Rattle.session_text.proofs.rows.rows_from.Goals as goal

pub loop-event-init : goal.loop-event-init
loop-event-init c = rw c.new-rows.ensures (record { fed = fed_none c.args.parts.now; world = c.requires })

pub loop-event-preserved : goal.loop-event-preserved
loop-event-preserved c =
    let es = c.args.events.now in
    let i = c.loop-event.event-index in
    let row = c.in_ok-row.row in
    rw c.in_ok-push.ensures.ok
    (record {
      fed = fed_item c.args.parts.now c.loop-event.parts c.row_of.new.parts es i (Ask 0 Begin) c.loop-event.rows row c.loop-event-test.true
          c.loop-event.invariant.fed c.in_ok-row.ensures.event c.in_ok-row.ensures.feeds;
      world = well_fed c.loop-event.parts c.row_of.new.parts (get_or es i (Ask 0 Begin)) row.notice c.loop-event.invariant.world
          c.in_ok-row.ensures.feeds;
    })

pub returns : goal.returns
returns c =
    subst (λ (es : List (Event ℕ)). AreFed c.args.parts.now es c.loop-event.rows c.loop-event.parts)
    (take_all c.loop-event.event-index c.args.events.now (omega (arith, c.loop-event-test.false))) c.loop-event.invariant.fed
