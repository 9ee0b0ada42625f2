use Rattle.std.proofs.Common.{rules, ◌≡◌, ◌+◌, ◌<◌, ◌≤◌, ◌∙◌, Some, None, ap, arith, refl}
use Rattle.seq_model.specs.Calls.{found_reply}
use Rattle.tx_handles.proofs.LaneLemmas.{none_within, none_yet, taken_within, then_taken}
use Rattle.tx_handles.proofs.lanes.Lanes.dequeue_from.Goals as goal

pub lanes-init : goal.lanes-init
lanes-init g c =
    let shown = g.T.MakesCalls.shown in
    record { taken = none_yet (shown c.args.tx.now) c.args.self.now c.args.first; from = omega arith }

pub returns-in-Some : goal.returns-in-Some
returns-in-Some g c =
    let shown = g.T.MakesCalls.shown in
    let is : c.in_ok-found.found ≡ Some c.in-Some.item = search rules in
    let within : c.lanes.i ≤ c.args.self.now.gates.others = omega (arith, c.requires, c.lanes-test.true) in
    let from = c.lanes.invariant.from in
    let some : c.args.first < c.lanes.i + 1 = omega (arith, from) in
    taken_within (shown c.args.tx.now) (shown c.call.new.self) c.args.self.now c.args.first (c.lanes.i + 1) c.args.end c.in-Some.item some
    (then_taken (shown c.args.tx.now) (shown c.lanes.tx) (shown c.call.new.self) c.args.self.now c.args.first c.lanes.i (c.lanes.i + 1)
    c.in_ok-number.number
    (Some c.in-Some.item) c.in_ok-reply.reply within refl c.lanes.invariant.taken c.in_ok-number.ensures c.in_ok-reply.ensures.made
    (c.in_ok-found.ensures ∙ ap found_reply is))

pub lanes-preserved : goal.lanes-preserved
lanes-preserved g c =
    let shown = g.T.MakesCalls.shown in
    let is : c.in_ok-found.found ≡ None = search rules in
    let within : c.lanes.i ≤ c.args.self.now.gates.others = omega (arith, c.requires, c.lanes-test.true) in
    let from = c.lanes.invariant.from in
    record {
      taken = then_taken (shown c.args.tx.now) (shown c.lanes.tx) (shown c.call.new.self) c.args.self.now c.args.first c.lanes.i
          (c.lanes.i + 1) c.in_ok-number.number None
          c.in_ok-reply.reply within refl c.lanes.invariant.taken c.in_ok-number.ensures c.in_ok-reply.ensures.made
          (c.in_ok-found.ensures ∙ ap found_reply is);
      from = omega (arith, from);
    }

pub returns : goal.returns
returns g c =
    let shown = g.T.MakesCalls.shown in
    let all = c.lanes-test.false in
    none_within (shown c.args.tx.now) (shown c.lanes.tx) c.args.self.now c.args.first c.lanes.i c.args.end (omega (arith, all))
    c.lanes.invariant.taken
