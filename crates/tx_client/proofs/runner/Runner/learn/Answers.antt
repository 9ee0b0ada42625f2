use Rattle.std.proofs.Common.{rules, ◌≡◌, Some, ap, refl, subst, sym, ◌∙◌}
use Rattle.std.specs.Prelude.{OnErr, OnOk, max}
use Rattle.shared_table.specs.Seated.{opening_of, view}
use Rattle.tx_engine.specs.declared.seats.TxSeat.{TxSeat}
use Rattle.tx_engine.specs.Requests.{OnlyKnows}
use Rattle.tx_client.specs.Backs.{shares_at}
use Rattle.tx_client.specs.Clients.{shown_at}
use Rattle.tx_client.specs.Ends.{ClientShown}
use Rattle.tx_client.specs.Frames.{later}
use Rattle.tx_client.proofs.ClientLemmas.{client_on, learn_goes, learn_grown, shows_as, some_clock}
use Rattle.tx_client.proofs.runner.Runner.learn.Goals as goal

pub returns-clause-at : goal.returns-clause-at
returns-clause-at g c =
    let is : c.args.self.now.seat ≡ Some c.in-Some.seat = search rules in
    let u = c.learn-learnt.new.self in
    let lent = c.get_mut.ensures.value in
    let knows = subst (λ (s : TxSeat g.row.V.Denot). OnlyKnows (opening_of c.args.table.now) s.seat u.seat) lent
    c.learn-learnt.ensures.knows in
    let learns = subst (λ (s : TxSeat g.row.V.Denot). OnOk c.learn-learnt.result (u.seat.last ≡ max s.seat.last c.args.number)) lent
    c.learn-learnt.ensures.learns in
    let none = subst (λ (s : TxSeat g.row.V.Denot). OnErr c.learn-learnt.result (u.seat.last ≡ s.seat.last)) lent
    c.learn-learnt.ensures.last in
    client_on g.S.Scope.frame c.args.table.now c.args.self.now.seat c.in-Some.seat u c.requires.at is
    c.learn-learnt.ensures.ready (learn_goes _ c.in-Some.seat.seat u.seat c.args.number c.learn-learnt.result knows learns none)
    (λ grown. learn_grown g.S.Scope.frame _ c.in-Some.seat.seat u.seat knows grown)

pub returns-clause-shares : goal.returns-clause-shares
returns-clause-shares g c =
    let is : c.args.self.now.seat ≡ Some c.in-Some.seat = search rules in
    c.learn-learnt.ensures.knows.shares ∙ ap (λ (s : TxSeat g.row.V.Denot). (view s.seat).shares) c.get_mut.ensures.value
    ∙ sym (ap shares_at is)

pub returns-clause-learnt : goal.returns-clause-learnt
returns-clause-learnt g c =
    let is : c.args.self.now.seat ≡ Some c.in-Some.seat = search rules in
    let tally = c.args.self.now.tally in
    let f = g.S.Scope.frame in
    let d : ClientShown g.row.V.Denot = shown_at f c.args.self.now.seat tally in
    let v = shows_as f c.args.self.now.seat c.in-Some.seat tally d refl is in
    let u = c.learn-learnt.new.self.seat in
    let lent = c.get_mut.ensures.value in
    let knows = subst (λ (s : TxSeat g.row.V.Denot). OnlyKnows (opening_of c.args.table.now) s.seat u) lent c.learn-learnt.ensures.knows in
    let learns = subst (λ (s : TxSeat g.row.V.Denot). OnOk c.learn-learnt.result (u.last ≡ max s.seat.last c.args.number)) lent
    c.learn-learnt.ensures.learns in
    let none = subst (λ (s : TxSeat g.row.V.Denot). OnErr c.learn-learnt.result (u.last ≡ s.seat.last)) lent c.learn-learnt.ensures.last in
    record {
      same = knows.seat.1 ∙ ap (λ (x : ClientShown g.row.V.Denot). x.actor) v;
      receipts = ap (later f) knows.receipts ∙ ap (λ (x : ClientShown g.row.V.Denot). x.receipts) v;
      asks = knows.asks ∙ ap (λ (x : ClientShown g.row.V.Denot). x.asked) v;
      counts = ap (λ (x : ClientShown g.row.V.Denot). x.tally) v;
      learns = subst (λ (x : ClientShown g.row.V.Denot). OnOk c.learn-learnt.result (u.last ≡ max x.last c.args.number)) v learns;
      none = subst (λ (x : ClientShown g.row.V.Denot). OnErr c.learn-learnt.result (u.last ≡ x.last)) v none;
      ahead = some_clock c.learn-learnt.result _ c.args.number c.learn-learnt.ensures.ahead;
    }
