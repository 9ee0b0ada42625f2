use Rattle.std.proofs.Common.{rules, ◌≡◌, ◌≤◌, Some, ap, subst, ◌∙◌}
use Rattle.wolimevar.specs.Stores.{StoreShown}
use Rattle.wolimevar.proofs.StoreLemmas.{run_none, store_shows}
use Rattle.wolimevar.proofs.store.Store.run.Goals as goal

pub returns-clause-none : goal.returns-clause-none
returns-clause-none g c =
    let is : c.self.inside.seat ≡ Some c.in-Some.seat = search rules in
    let v = store_shows c.self.inside.number c.self.inside.table c.self.inside.seat c.in-Some.seat c.self.inside.tally c.args.self.now
    c.self.view_is is in
    run_none c.serve-seat.result.1 c.self.inside.number c.self.inside.table c.in-Some.seat c.serve-seat.result.0 c.self.inside.tally
    c.args.self.now v c.serve-seat.ensures.none

pub returns-clause-last : goal.returns-clause-last
returns-clause-last g c =
    let is : c.self.inside.seat ≡ Some c.in-Some.seat = search rules in
    let v = store_shows c.self.inside.number c.self.inside.table c.self.inside.seat c.in-Some.seat c.self.inside.tally c.args.self.now
    c.self.view_is is in
    subst (λ (d : StoreShown g.row.V.Denot). d.last ≤ c.serve-seat.result.0.seat.last) v c.serve-seat.ensures.last

pub returns-clause-asks : goal.returns-clause-asks
returns-clause-asks g c = λ few.
    let is : c.self.inside.seat ≡ Some c.in-Some.seat = search rules in
    let v = store_shows c.self.inside.number c.self.inside.table c.self.inside.seat c.in-Some.seat c.self.inside.tally c.args.self.now
    c.self.view_is is in
    c.serve-seat.ensures.asks few ∙ ap (λ (d : StoreShown g.row.V.Denot). d.asked) v
