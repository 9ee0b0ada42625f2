use Rattle.std.proofs.Common.{arith}
use Rattle.shared_table.proofs.SeatShares.{looks}
use Rattle.shared_table.proofs.table.TxTable.look.Goals as goal

pub load-requires : goal.load-requires
load-requires g c =
    let x = c.args.seat.now.place in
    let shared = c.args.self.now.whole.shared in
    (c.requires.own, (let w = c.args.self.now.wide in omega arith), looks shared.key shared.table_id.slots x.id x.me)
