use Rattle.std.proofs.Common.{◌∙◌, ◌∷◌, refl, sym}
use Rattle.atomic_table.specs.Table.{rest}
use Rattle.shared_table.specs.Opening.{world_at}
use Rattle.shared_table.specs.Seated.{list_of}
use Rattle.shared_table.proofs.SeatSteps.{lost, topped, tries, won}
use Rattle.shared_table.proofs.steps.try_gate.Goals as goal

pub compare_exchange-found-requires : goal.compare_exchange-found-requires
compare_exchange-found-requires g c =
    let x = c.args.seat.now.place in
    let r = c.requires.1.1 in (
      r.1.0,
      r.1.1.0,
      tries c.args.board.now.key c.args.board.now.table_id.slots x.id x.me g.of.0 (list_of c.args.seat.now.asked) c.requires.1.0
          r.1.1.1.0 g.of.1 c.args.word r.1.1.1.1.0 r.1.1.1.1.1.0 r.1.1.1.1.1.1,
    )

pub returns-then-found-ne0 : goal.returns-then-found-ne0
returns-then-found-ne0 g c =
    let e = c.compare_exchange-found.ensures in
    lost (world_at c.args.board.now.key) c.args.seat.now _ g.of.0 g.of.1 c.compare_exchange-found.result c.requires.1.0 c.if-found-ne0.true
    e.2.0 (e.0, e.1, refl) refl e.2.1

pub slot_mut-requires : goal.slot_mut-requires
slot_mut-requires g c =
    let e = c.compare_exchange-found.ensures in
    let r = c.requires.1.1 in (
      e.0 ∙ r.1.0,
      topped (world_at c.args.board.now.key) c.args.seat.now g.of.0 g.of.1 c.args.gate c.compare_exchange-found.result
          c.compare_exchange-found.new.seat.me r.0 c.if-found-ne0.false e.2.0,
    )

pub returns : goal.returns
returns g c =
    let s = c.args.seat.now in
    let m = c.compare_exchange-found.new.seat.me in
    let e = c.compare_exchange-found.ensures in
    let lift = c.lift-base.ensures in
    let t = c.turn.ensures in
    let gate = c.requires.1.1.0 in
    won (world_at c.args.board.now.key) s _ g.of.0 g.of.1 c.compare_exchange-found.result m
    (m.0, (c.args.gate, c.lift-base.new.home) ∷ rest m.1) c.lift-base.result c.requires.1.0 c.if-found-ne0.false e.2.0
    (c.slot_mut.ensures.value ∙ (λ i. (sym gate i, sym lift.lifted i) ∷ rest m.1))
    (λ i. (m.0, (sym gate i, lift.bare i) ∷ rest m.1)) t.2 (t.0 ∙ e.0, t.1 ∙ e.1, refl) refl e.2.1
