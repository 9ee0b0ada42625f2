use Rattle.shared_table.proofs.SeatShares.{cuts}
use Rattle.shared_table.proofs.shares.cut.Goals as goal

pub split_seat-place-requires : goal.split_seat-place-requires
split_seat-place-requires g c =
    let x = c.args.seat.now.place in
    let r = c.requires.1 in
    (r.0, r.1.0, cuts c.args.board.now.key x.id g.count x.me.0 r.1.1.1.0 r.1.1.1.1)
