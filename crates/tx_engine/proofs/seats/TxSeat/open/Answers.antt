use Rattle.std.proofs.Common.{◌∙◌, ap, refl, subst, sym}
use Rattle.std.specs.Prelude.{All}
use Rattle.seq_model.specs.Calls.{IsWithinLimits}
use Rattle.replay_log.specs.Contents.{HaveStripes}
use Rattle.replay_log.specs.WorldProgress.{AreSmall}
use Rattle.tx_turns.proofs.RequestHistoryLemmas.{none_requested}
use Rattle.tx_turns.specs.RequestHistory.{requests_of}
use Rattle.tx_engine.proofs.OpeningLemmas.{few_locations, opens_reached}
use Rattle.tx_engine.proofs.seats.TxSeat.open.Goals as goal

pub new-seat-requires-clause-opened : goal.new-seat-requires-clause-opened
new-seat-requires-clause-opened g c =
    let e = c.in_ok-table.ensures in
    let shape = c.args.shape.now in
    let state = c.args.state in
    record {
      small = subst AreSmall (sym e.blocks) (few_locations shape.stripes state.held (e.fits refl).1.stripes);
      opening = opens_reached c.in_ok-table.table shape.stripes shape.clock state e.opens (e.fits refl).0 (e.fits refl).1
          (subst (All IsWithinLimits) c.held.ensures.held c.held.ensures.within)
          (subst HaveStripes e.blocks e.stripes);
    }

pub returns-clause-asks : goal.returns-clause-asks
returns-clause-asks g c =
    let e = c.in_ok-table.ensures in
    ap (λ s. requests_of s) c.new-seat.ensures.seat ∙ none_requested c.in_ok-table.seat (ap (λ m. m.0.turns) e.seat) e.new.0
