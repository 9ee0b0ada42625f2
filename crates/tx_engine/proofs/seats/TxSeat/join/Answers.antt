use Rattle.std.proofs.Common.{◌≡◌, ◌+◌, ◌<◌, ◌∙◌, ap, arith, refl, subst, sym}
use Rattle.shared_table.specs.Seated.{Rests, actor, kept, opening_of, out, view}
use Rattle.tx_turns.proofs.RequestHistoryLemmas.{same_requests}
use Rattle.tx_turns.proofs.RestLemmas.{bare_out}
use Rattle.tx_engine.proofs.ShareLemmas.{rests_kept, stays_ready}
use Rattle.tx_engine.proofs.seats.TxSeat.join.Goals as goal

pub join_bare-requires-clause-rests : goal.join_bare-requires-clause-rests
join_bare-requires-clause-rests g c = subst (λ s. Rests (actor s) (kept (opening_of c.args.table.now) s)) (sym c.into_seat.ensures)
    (rests_kept c.args.table.now c.args.other c.requires.other)

pub join_bare-requires-clause-bare : goal.join_bare-requires-clause-bare
join_bare-requires-clause-bare g c =
    ap out c.into_seat.ensures ∙ bare_out c.args.table.now c.args.other.seat c.args.other.actor c.requires.other.own

pub returns-clause-ready : goal.returns-clause-ready
returns-clause-ready g c =
    let e = c.join_bare.ensures in
    let live : 0 < (view c.join_bare.new.seat).shares =
    (let more : (view c.join_bare.new.seat).shares ≡ (view c.args.self.now.seat).shares + (view c.into_seat.result).shares =
    ap (λ m. m.0.shares) e.both in
    let low = c.requires.ready.ties.live in omega (arith, more, low)) in
    stays_ready c.args.table.now c.args.self.now _ c.requires.ready refl e.same.0 e.same.1 e.acts live (ap (λ m. m.1) e.both)

pub returns-clause-own : goal.returns-clause-own
returns-clause-own g c = c.join_bare.ensures.acts

pub returns-clause-asks : goal.returns-clause-asks
returns-clause-asks g c =
    let e = c.join_bare.ensures in same_requests c.args.self.now.seat c.join_bare.new.seat (ap (λ m. m.0.turns) e.both) e.asked
