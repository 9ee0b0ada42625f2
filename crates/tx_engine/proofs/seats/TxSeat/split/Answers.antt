use Rattle.std.proofs.Common.{◌≡◌, ◌-◌, ◌<◌, ◌∙◌, ap, arith, refl}
use Rattle.shared_table.specs.Seated.{view}
use Rattle.tx_turns.proofs.RequestHistoryLemmas.{none_requested, same_requests}
use Rattle.tx_turns.specs.RequestHistory.{requests_of}
use Rattle.tx_engine.proofs.ShareLemmas.{stays_ready}
use Rattle.tx_engine.proofs.seats.TxSeat.split.Goals as goal

pub returns-clause-ready : goal.returns-clause-ready
returns-clause-ready g c =
    let e = c.split_bare-seat.ensures in
    let live : 0 < (view c.split_bare-seat.new.seat).shares =
    (let fewer : (view c.split_bare-seat.new.seat).shares ≡ (view c.args.self.now.seat).shares - c.args.shares =
    ap (λ m. m.0.shares) e.left in
    let room = c.requires.fewer in omega (arith, fewer, room)) in (
      stays_ready c.args.table.now c.args.self.now _ c.requires.ready refl (e.same.0 ∙ c.requires.ready.ties.owns) e.same.1 e.acts live
          (ap (λ m. m.1) e.left),
      c.new.ensures.ready,
    )

pub returns-clause-own : goal.returns-clause-own
returns-clause-own g c = c.split_bare-seat.ensures.acts

pub returns-clause-asks : goal.returns-clause-asks
returns-clause-asks g c =
    let e = c.split_bare-seat.ensures in (
      same_requests c.args.self.now.seat c.split_bare-seat.new.seat (ap (λ m. m.0.turns) e.left) e.asked,
      ap (λ s. requests_of s) c.new.ensures.seat ∙ none_requested c.split_bare-seat.result (ap (λ m. m.0.turns) e.right.1) e.new.0,
    )
