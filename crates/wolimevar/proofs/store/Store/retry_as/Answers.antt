use Rattle.std.proofs.Common.{rules, ◌≡◌, Some, ap, subst}
use Rattle.tx_turns.specs.RequestHistory.{requests_of}
use Rattle.tx_client.specs.RequestKinds.{HasAsked}
use Rattle.wolimevar.specs.Stores.{StoreShown}
use Rattle.tx_client.specs.Tallies.{AreCounted}
use Rattle.tx_client.proofs.EndLemmas.{is_abort}
use Rattle.tx_client.proofs.ClientLemmas.{ends_goes, ends_made}
use Rattle.wolimevar.proofs.StoreLemmas.{store_last, store_none, store_on, store_one, store_shows}
use Rattle.wolimevar.proofs.store.Store.retry_as.Goals as goal

pub invariant_of-self : goal.invariant_of-self
invariant_of-self g c =
    let is : c.self.inside.seat ≡ Some c.in-Some.seat = search rules in
    store_on c.self.inside.table c.self.inside.seat c.in-Some.seat c.retry-seat.result.0 c.self.invariant is c.retry-seat.ensures.ready
    (ends_goes (g.B.Body.makes c.args.body.now) (g.B.Body.aborts c.args.body.now) c.in-Some.seat.seat c.retry-seat.result.0.seat
    c.retry-seat.result.2
    c.retry-seat.ensures.ends).shares

pub returns-clause-opening : goal.returns-clause-opening
returns-clause-opening g c =
    let is : c.self.inside.seat ≡ Some c.in-Some.seat = search rules in
    ap (λ d. d.opening) (store_shows c.self.inside.number c.self.inside.table c.self.inside.seat c.in-Some.seat c.self.inside.tally
    c.args.self.now c.self.view_is is)

pub returns-clause-one : goal.returns-clause-one
returns-clause-one g c =
    let is : c.self.inside.seat ≡ Some c.in-Some.seat = search rules in
    let v = store_shows c.self.inside.number c.self.inside.table c.self.inside.seat c.in-Some.seat c.self.inside.tally c.args.self.now
    c.self.view_is is in
    store_one (g.B.Body.makes c.args.body.now) (g.B.Body.aborts c.args.body.now) c.self.inside.number c.self.inside.table c.in-Some.seat
    c.retry-seat.result.0 c.self.inside.tally c.retry-seat.result.2
    c.args.self.now v c.retry-seat.ensures.ends

pub returns-clause-made : goal.returns-clause-made
returns-clause-made g c =
    ends_made (g.B.Body.makes c.args.body.now) (g.B.Body.aborts c.args.body.now) c.in-Some.seat.seat c.retry-seat.result.0.seat
    c.retry-seat.result.2
    c.retry-seat.ensures.ends

pub returns-clause-none : goal.returns-clause-none
returns-clause-none g c =
    let is : c.self.inside.seat ≡ Some c.in-Some.seat = search rules in
    let v = store_shows c.self.inside.number c.self.inside.table c.self.inside.seat c.in-Some.seat c.self.inside.tally c.args.self.now
    c.self.view_is is in
    store_none (g.B.Body.makes c.args.body.now) (g.B.Body.aborts c.args.body.now) c.self.inside.number c.self.inside.table c.in-Some.seat
    c.retry-seat.result.0 c.self.inside.tally c.retry-seat.result.2
    c.args.self.now v c.retry-seat.ensures.ends

pub returns-clause-last : goal.returns-clause-last
returns-clause-last g c =
    let is : c.self.inside.seat ≡ Some c.in-Some.seat = search rules in
    let v = store_shows c.self.inside.number c.self.inside.table c.self.inside.seat c.in-Some.seat c.self.inside.tally c.args.self.now
    c.self.view_is is in
    store_last (g.B.Body.makes c.args.body.now) (g.B.Body.aborts c.args.body.now) c.self.inside.number c.self.inside.table c.in-Some.seat
    c.retry-seat.result.0 c.self.inside.tally c.retry-seat.result.2
    c.args.self.now v c.retry-seat.ensures.ends

pub returns-clause-number : goal.returns-clause-number
returns-clause-number g c =
    let is : c.self.inside.seat ≡ Some c.in-Some.seat = search rules in
    let v = store_shows c.self.inside.number c.self.inside.table c.self.inside.seat c.in-Some.seat c.self.inside.tally c.args.self.now
    c.self.view_is is in
    ap (λ d. d.number) v

pub returns-clause-aborts : goal.returns-clause-aborts
returns-clause-aborts g c =
    is_abort (g.B.Body.makes c.args.body.now) (g.B.Body.aborts c.args.body.now) c.in-Some.seat.seat c.retry-seat.result.0.seat
    c.retry-seat.result.2 c.retry-seat.ensures.ends

pub returns-clause-asks : goal.returns-clause-asks
returns-clause-asks g c =
    let is : c.self.inside.seat ≡ Some c.in-Some.seat = search rules in
    let v = store_shows c.self.inside.number c.self.inside.table c.self.inside.seat c.in-Some.seat c.self.inside.tally c.args.self.now
    c.self.view_is is in
    subst (λ (d : StoreShown g.row.V.Denot). HasAsked c.args.declared d.asked (requests_of c.retry-seat.result.0.seat)) v
    c.retry-seat.ensures.asks

pub returns-clause-counted : goal.returns-clause-counted
returns-clause-counted g c =
    let is : c.self.inside.seat ≡ Some c.in-Some.seat = search rules in
    let v = store_shows c.self.inside.number c.self.inside.table c.self.inside.seat c.in-Some.seat c.self.inside.tally c.args.self.now
    c.self.view_is is in
    subst (λ (d : StoreShown g.row.V.Denot). AreCounted c.args.tries d.tally c.retry-seat.result.1 c.retry-seat.result.2) v
    c.retry-seat.ensures.counted

pub returns-clause-reads : goal.returns-clause-reads
returns-clause-reads g c = c.retry-seat.ensures.reads
