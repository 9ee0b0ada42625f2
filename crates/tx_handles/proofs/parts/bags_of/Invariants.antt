use Rattle.std.proofs.Common.{◌≡◌, map}
use Rattle.seq_model.specs.declared.held.Held.TheVariants as held
use Rattle.tx_handles.proofs.parts.bags_of.Given as goal

abbrev pub invariant-parts : goal.invariant-parts
invariant-parts g l = l.all.items ≡ map held.Bag l.yielded
