use Rattle.std.proofs.Common.{◌<◌, length, rules}
use Rattle.tx_actor.proofs.RunsLemmas.{gates_next}
use Rattle.tx_actor.proofs.steps.next_gate.Goals as goal

pub returns-clause-stage : goal.returns-clause-stage
returns-clause-stage g c s =
    let inside : c.args.got < length c.args.homes.items = search rules in
    gates_next c.args.got c.args.homes.items inside
