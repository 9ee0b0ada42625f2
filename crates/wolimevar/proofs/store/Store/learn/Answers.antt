use Rattle.std.proofs.Common.{rules, ◌≡◌, Some, ap, subst, ◌∙◌}
use Rattle.std.specs.Prelude.{OnErr, OnOk, max}
use Rattle.shared_table.specs.Seated.{view}
use Rattle.tx_turns.specs.RequestHistory.{requests_of}
use Rattle.tx_engine.specs.declared.seats.TxSeat.{TxSeat}
use Rattle.wolimevar.specs.Stores.{StoreShown}
use Rattle.tx_client.proofs.ClientLemmas.{some_clock}
use Rattle.wolimevar.proofs.StoreLemmas.{store_on, store_shows}
use Rattle.wolimevar.proofs.store.Store.learn.Goals as goal

pub invariant_of-self : goal.invariant_of-self
invariant_of-self g c =
    let is : c.self.inside.seat ≡ Some c.in-Some.seat = search rules in
    store_on c.self.inside.table c.self.inside.seat c.in-Some.seat c.learn-learnt.new.self c.self.invariant is
    c.learn-learnt.ensures.ready
    (c.learn-learnt.ensures.knows.shares ∙ ap (λ (s : TxSeat g.row.V.Denot). (view s.seat).shares) c.get_mut.ensures.value)

pub returns-clause-number : goal.returns-clause-number
returns-clause-number g c =
    let is : c.self.inside.seat ≡ Some c.in-Some.seat = search rules in
    let v = store_shows c.self.inside.number c.self.inside.table c.self.inside.seat c.in-Some.seat c.self.inside.tally c.args.self.now
    c.self.view_is is in
    ap (λ d. d.number) v

pub returns-clause-opening : goal.returns-clause-opening
returns-clause-opening g c =
    let is : c.self.inside.seat ≡ Some c.in-Some.seat = search rules in
    let v = store_shows c.self.inside.number c.self.inside.table c.self.inside.seat c.in-Some.seat c.self.inside.tally c.args.self.now
    c.self.view_is is in
    ap (λ d. d.opening) v

pub returns-clause-receipts : goal.returns-clause-receipts
returns-clause-receipts g c =
    let is : c.self.inside.seat ≡ Some c.in-Some.seat = search rules in
    let v = store_shows c.self.inside.number c.self.inside.table c.self.inside.seat c.in-Some.seat c.self.inside.tally c.args.self.now
    c.self.view_is is in
    c.learn-learnt.ensures.knows.receipts ∙ ap (λ (s : TxSeat g.row.V.Denot). (view s.seat).receipts) c.get_mut.ensures.value
    ∙ ap (λ d. d.receipts) v

pub returns-clause-asks : goal.returns-clause-asks
returns-clause-asks g c =
    let is : c.self.inside.seat ≡ Some c.in-Some.seat = search rules in
    let v = store_shows c.self.inside.number c.self.inside.table c.self.inside.seat c.in-Some.seat c.self.inside.tally c.args.self.now
    c.self.view_is is in
    c.learn-learnt.ensures.knows.asks ∙ ap (λ (s : TxSeat g.row.V.Denot). requests_of s.seat) c.get_mut.ensures.value
    ∙ ap (λ d. d.asked) v

pub returns-clause-counts : goal.returns-clause-counts
returns-clause-counts g c =
    let is : c.self.inside.seat ≡ Some c.in-Some.seat = search rules in
    let v = store_shows c.self.inside.number c.self.inside.table c.self.inside.seat c.in-Some.seat c.self.inside.tally c.args.self.now
    c.self.view_is is in
    ap (λ d. d.tally) v

pub returns-clause-learns : goal.returns-clause-learns
returns-clause-learns g c =
    let is : c.self.inside.seat ≡ Some c.in-Some.seat = search rules in
    let v = store_shows c.self.inside.number c.self.inside.table c.self.inside.seat c.in-Some.seat c.self.inside.tally c.args.self.now
    c.self.view_is is in
    subst (λ (d : StoreShown g.row.V.Denot). OnOk c.learn-learnt.result (c.learn-learnt.new.self.seat.last ≡ max d.last c.args.number)) v
    (subst (λ (s : TxSeat g.row.V.Denot). OnOk c.learn-learnt.result (c.learn-learnt.new.self.seat.last ≡ max s.seat.last c.args.number))
    c.get_mut.ensures.value c.learn-learnt.ensures.learns)

pub returns-clause-none : goal.returns-clause-none
returns-clause-none g c =
    let is : c.self.inside.seat ≡ Some c.in-Some.seat = search rules in
    let v = store_shows c.self.inside.number c.self.inside.table c.self.inside.seat c.in-Some.seat c.self.inside.tally c.args.self.now
    c.self.view_is is in
    subst (λ (d : StoreShown g.row.V.Denot). OnErr c.learn-learnt.result (c.learn-learnt.new.self.seat.last ≡ d.last)) v
    (subst (λ (s : TxSeat g.row.V.Denot). OnErr c.learn-learnt.result (c.learn-learnt.new.self.seat.last ≡ s.seat.last))
    c.get_mut.ensures.value c.learn-learnt.ensures.last)

pub returns-clause-ahead : goal.returns-clause-ahead
returns-clause-ahead g c = some_clock c.learn-learnt.result _ c.args.number c.learn-learnt.ensures.ahead
