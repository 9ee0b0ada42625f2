use Rattle.std.proofs.Common.{◌+◌, None, refl, arith}
use Rattle.shared_table.specs.Opening.{world_at}
use Rattle.shared_table.specs.Seated.{list_of, out}
use Rattle.shared_table.proofs.SeatSteps.{adds_clock, still, takes}
use Rattle.shared_table.proofs.steps.add_one.Goals as goal

pub fetch_add-found-requires : goal.fetch_add-found-requires
fetch_add-found-requires g c =
    let x = c.args.seat.now.place in
    let r = c.requires.1 in (
      r.1.0,
      r.1.1.0,
      adds_clock c.args.board.now.key c.args.board.now.table_id.slots x.id x.me g.asks (list_of c.args.seat.now.asked) r.0
          r.1.1.1.0 r.1.1.1.1,
    )

pub invariant_of-seat : goal.invariant_of-seat
invariant_of-seat g c =
    let e = c.fetch_add-found.ensures in
    let h = still c.args.seat.now c.fetch_add-found.new.seat.me.0 _ _ (c.fetch_add-found.result + 1) e.2.0.0 (let l = e.2.2 in
    omega arith) in
    record { counted = h.0; known = h.1 }

pub returns-clause-step : goal.returns-clause-step
returns-clause-step g c =
    let s = c.args.seat.now in
    let e = c.fetch_add-found.ensures in
    takes (world_at c.args.board.now.key) s _ g.asks (c.fetch_add-found.result + 1) c.fetch_add-found.result None (out s) c.requires.1.0
    (e.0, e.1, refl) e.2.0
    e.2.1 refl e.2.4
