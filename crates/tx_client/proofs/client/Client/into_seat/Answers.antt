use Rattle.std.proofs.Common.{rules, ◌≡◌, Some}
use Rattle.tx_client.proofs.FrameLemmas.{gives_back, grown_back}
use Rattle.tx_client.proofs.client.Client.into_seat.Goals as goal

pub returns-clause-back : goal.returns-clause-back
returns-clause-back g c =
    let is : c.self.inside.runner.seat ≡ Some c.in-Some.seat = search rules in
    gives_back g.S.Scope.frame c.self.inside.table.now c.self.inside.runner.seat c.in-Some.seat c.self.invariant is

pub returns-clause-grown : goal.returns-clause-grown
returns-clause-grown g c =
    let is : c.self.inside.runner.seat ≡ Some c.in-Some.seat = search rules in
    grown_back g.S.Scope.frame c.self.inside.table.now c.self.inside.runner.seat c.in-Some.seat c.self.invariant is
