use mathlib.Core.Option.{some}
use Rattle.std.proofs.Common.{map, subst, sym}
use Rattle.shared_table.specs.Ends.{homes_of, row_of}
use Rattle.shared_table.specs.Seated.{Rests, actor, blocks_in, contents_in, kept, opening_of, view, words_in}
use Rattle.shared_table.specs.Shown.{ShowsWorld}
use Rattle.tx_engine.specs.Closing.{IsLeftBy}
use Rattle.tx_engine.proofs.CloseLemmas.{left_by}
use Rattle.tx_engine.proofs.ShareLemmas.{rests_kept}
use Rattle.tx_engine.proofs.seats.TxSeat.close.Goals as goal

pub into_closed-requires-clause-rests : goal.into_closed-requires-clause-rests
into_closed-requires-clause-rests g c = subst (λ s. Rests (actor s) (kept (opening_of c.args.table) s)) (sym c.into_seat.ensures)
    (rests_kept c.args.table c.args.self c.requires.ready)

pub returns-clause-left : goal.returns-clause-left
returns-clause-left g c =
    let t = c.args.table in
    let e = c.into_closed.ensures in
    subst (λ s. IsLeftBy (contents_in t) (view s).receipts c.into_closed.result) c.into_seat.ensures
    (left_by (words_in t) (blocks_in t) (contents_in t) (view c.into_seat.result) c.into_closed.result
    e.words e.locations e.collections e.closes)

pub returns-clause-shows : goal.returns-clause-shows
returns-clause-shows g c =
    let t = c.args.table in
    let e = c.into_closed.ensures in
    subst (λ s. ShowsWorld (opening_of t) (actor s) (view s) (row_of c.into_closed.result) (map some (homes_of c.into_closed.result)))
    c.into_seat.ensures e.shows
