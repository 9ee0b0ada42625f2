use Rattle.std.proofs.Common.{rules, ◌≡◌, Some, ap, refl, subst, sym, ◌∙◌}
use Rattle.tx_turns.specs.RequestHistory.{requests_of}
use Rattle.tx_client.specs.RequestKinds.{HasAsked}
use Rattle.tx_client.specs.Backs.{shares_at}
use Rattle.tx_client.specs.Clients.{shown_at}
use Rattle.tx_client.specs.Ends.{ClientShown}
use Rattle.tx_client.specs.Tallies.{AreCounted}
use Rattle.tx_client.proofs.EndLemmas.{is_abort}
use Rattle.tx_client.proofs.ClientLemmas.{client_on, ends_goes, ends_grown, ends_last, ends_made, ends_none, ends_one, ends_same, shows_as}
use Rattle.tx_client.proofs.FrameLemmas.{grown_back}
use Rattle.tx_client.proofs.runner.Runner.run.Goals as goal

pub returns-clause-at : goal.returns-clause-at
returns-clause-at g c =
    let makes = g.B.Body.makes c.args.body.now in
    let aborts = g.B.Body.aborts c.args.body.now in
    let is : c.args.self.now.seat ≡ Some c.in-Some.seat = search rules in
    client_on g.S.Scope.frame c.args.table.now c.args.self.now.seat c.in-Some.seat c.retry-seat.result.0 c.requires.at is
    c.retry-seat.ensures.ready
    (ends_goes makes aborts c.in-Some.seat.seat c.retry-seat.result.0.seat c.retry-seat.result.2 c.retry-seat.ensures.ends)
    (λ grown. ends_grown makes aborts c.in-Some.seat.seat c.retry-seat.result.0.seat g.S.Scope.frame c.retry-seat.result.2
    c.retry-seat.ensures.ends grown)

pub returns-clause-shares : goal.returns-clause-shares
returns-clause-shares g c =
    let is : c.args.self.now.seat ≡ Some c.in-Some.seat = search rules in
    (ends_goes (g.B.Body.makes c.args.body.now) (g.B.Body.aborts c.args.body.now) c.in-Some.seat.seat c.retry-seat.result.0.seat
    c.retry-seat.result.2 c.retry-seat.ensures.ends).shares
    ∙ sym (ap shares_at is)

pub returns-clause-ran : goal.returns-clause-ran
returns-clause-ran g c =
    let makes = g.B.Body.makes c.args.body.now in
    let aborts = g.B.Body.aborts c.args.body.now in
    let is : c.args.self.now.seat ≡ Some c.in-Some.seat = search rules in
    let s = c.in-Some.seat.seat in
    let u = c.retry-seat.result.0.seat in
    let r = c.retry-seat.result.2 in
    let h = c.retry-seat.ensures.ends in
    let tally = c.args.self.now.tally in
    let f = g.S.Scope.frame in
    let d : ClientShown g.row.V.Denot = shown_at f c.args.self.now.seat tally in
    let v = shows_as f c.args.self.now.seat c.in-Some.seat tally d refl is in
    let grown = grown_back f c.args.table.now c.args.self.now.seat c.in-Some.seat c.requires.at is in
    record {
      same = ends_same makes aborts s u r h ∙ ap (λ (x : ClientShown g.row.V.Denot). x.actor) v;
      one = ends_one makes aborts s u f r tally d grown v h;
      made = ends_made makes aborts s u r h;
      last = ends_last makes aborts s u f r tally d v h;
      none = ends_none makes aborts s u f r tally d v h;
      aborts = is_abort makes aborts s u r h;
      asks = subst (λ (x : ClientShown g.row.V.Denot). HasAsked c.args.declared x.asked (requests_of u)) v c.retry-seat.ensures.asks;
      counted = subst (λ (x : ClientShown g.row.V.Denot). AreCounted c.args.tries x.tally c.retry-seat.result.1 r) v
          c.retry-seat.ensures.counted;
      reads = c.retry-seat.ensures.reads;
    }
