use Rattle.std.proofs.Common.{◌∙◌, ◌∷◌, None, ap, refl, sym}
use Rattle.atomic_table.specs.Table.{rest}
use Rattle.shared_table.specs.Opening.{world_at}
use Rattle.shared_table.specs.Seated.{out, view}
use Rattle.shared_table.proofs.SeatSteps.{put_takes, puts_back, slot_of}
use Rattle.shared_table.proofs.steps.free_gate.Goals as goal

pub slot_mut-requires : goal.slot_mut-requires
slot_mut-requires g c =
    let r = c.requires.1.1 in
    (r.1.0, (None, r.1.1.1.1.1.1.0 ∙ (λ i. (r.0 i, None) ∷ rest (out c.args.seat.now))))

pub put-requires : goal.put-requires
put-requires g c = ap (λ l. slot_of l) (sym c.slot_mut.ensures.value ∙ c.requires.1.1.1.1.1.1.1.1.0)

pub store-requires : goal.store-requires
store-requires g c =
    let s = c.args.seat.now in
    let r = c.requires.1.1 in (
      r.1.0,
      r.1.1.0,
      puts_back c.args.board.now.key c.args.board.now.table_id.slots s s.place.id
          (view s, (c.args.gate, c.put.new.home) ∷ rest (out s)) g.of.0 g.of.1 c.args.gate c.args.word c.args.base c.requires.1.0 r.0
          r.1.1.1.0 r.1.1.1.1.0 r.1.1.1.1.1.0 refl (λ i. (view s, (c.args.gate, c.put.ensures i) ∷ rest (out s))) r.1.1.1.1.1.1.1,
    )

pub returns : goal.returns
returns g c =
    let s = c.args.seat.now in
    let e = c.store.ensures in
    put_takes (world_at c.args.board.now.key) s _ s.place.id (view s, (c.args.gate, c.put.new.home) ∷ rest (out s)) g.of.0 c.args.gate
    c.args.base c.requires.1.0 refl (λ i. (view s, (c.args.gate, c.put.ensures i) ∷ rest (out s))) e.2 (e.0, e.1, refl) refl
