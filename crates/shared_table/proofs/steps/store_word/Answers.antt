use Rattle.std.proofs.Common.{None, refl, arith}
use Rattle.shared_table.specs.Opening.{world_at}
use Rattle.shared_table.specs.Seated.{list_of, out, view}
use Rattle.shared_table.proofs.SeatSteps.{stores, still, takes}
use Rattle.shared_table.proofs.steps.store_word.Goals as goal

pub store-requires : goal.store-requires
store-requires g c =
    let x = c.args.seat.now.place in
    let r = c.requires.1 in
    let d = r.1.1.1.1 in (
      r.1.0,
      r.1.1.0,
      stores c.args.board.now.key c.args.board.now.table_id.slots x.id x.me g.asks (list_of c.args.seat.now.asked) r.0 r.1.1.1.0
          d.0 c.args.word c.args.new d.1 d.2 d.3,
    )

pub invariant_of-seat : goal.invariant_of-seat
invariant_of-seat g c =
    let e = c.store.ensures in
    let h = still c.args.seat.now c.store.new.seat.me.0 _ _ (view c.args.seat.now).clock e.2.1.0 (omega arith) in
    record { counted = h.0; known = h.1 }

pub returns : goal.returns
returns g c =
    let s = c.args.seat.now in
    let e = c.store.ensures in (
      e.2.0,
      takes (world_at c.args.board.now.key) s _ g.asks (view s).clock e.2.0 None (out s) c.requires.1.0 (
        e.0,
        e.1,
        refl,
      ) e.2.1 e.2.2 refl e.2.3,
    )
