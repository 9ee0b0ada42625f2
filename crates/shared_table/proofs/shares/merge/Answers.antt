use Rattle.std.proofs.Common.{◌∙◌}
use Rattle.shared_table.proofs.SeatShares.{counts, merges}
use Rattle.shared_table.proofs.shares.merge.Goals as goal

pub join_seat-requires : goal.join_seat-requires
join_seat-requires g c =
    let x = c.args.seat.now.place in
    let y = c.args.other.place in
    let r = c.requires in
    (r.fits, r.other, r.bare, r.inside, merges c.args.board.now.key x.id y.id x.me.0 y.me.0 r.live r.alive r.rests)

pub load-requires : goal.load-requires
load-requires g c =
    let seat = c.join_seat.new.seat in (
      c.join_seat.ensures.0 ∙ c.requires.fits,
      c.requires.inside,
      counts c.args.board.now.key c.args.board.now.table_id.slots seat.id seat.me,
    )
