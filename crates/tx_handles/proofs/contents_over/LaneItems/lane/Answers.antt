use Rattle.std.proofs.Common.{◌≡◌, ◌∙◌, ◌+◌, Some, ap, arith, sym}
use Rattle.std.specs.Prelude.{slice_get}
use Rattle.std.specs.Option.{option_copied}
use Rattle.std.proofs.lemmas.Grind.{common_steps}
use Rattle.seq_model.specs.declared.held.Held.TheVariants as held
use Rattle.tx_handles.proofs.ReadLemmas.{lane_read}
use Rattle.tx_handles.proofs.contents_over.LaneItems.lane.Goals as goal

pub returns-in-Some-Queue : goal.returns-in-Some-Queue
returns-in-Some-Queue g c = λ lanes are le.
    lane_read c.args.self.now.gates c.args.self.now.held.now lanes are c.args.lane c.in-Some-Queue.field-0-0 c.in-Some-Queue.items le
    (ap (λ i. slice_get c.args.self.now.held.now (c.args.self.now.gates.first + i)) (sym c.from.ensures) ∙ sym c.held_at.ensures
    ∙ ap option_copied c.in-Some-Queue.is ∙ ap Some c.in-Some-Queue.field-0-is)

pub returns-in_default : goal.returns-in_default
returns-in_default g c = λ lanes are le.
    let there : slice_get c.args.self.now.held.now (c.args.self.now.gates.first + c.args.lane)
    ≡ Some (held.Queue (are c.args.lane le).0 (lanes c.args.lane)) = (are c.args.lane le).1 in
    grind (arith, common_steps)
