use Rattle.std.proofs.Common.{◌≡◌, Bool, sym, subst}
use Rattle.tx_machine.specs.Actor.{with_read}
use Rattle.step_core.proofs.Keeps.{was_ok}
use Rattle.step_core.proofs.actor.keep.Goals as goal

pub returns-clause-entries : goal.returns-clause-entries
returns-clause-entries c =
    subst (λ (b : Bool). c.put.new.self.entries ≡ with_read b c.args.reads.now.entries c.args.location c.args.value)
    (sym c.if-declared.false)
    (was_ok c.put.result (c.put.ensures.reserved (c.requires.room c.if-declared.false) c.requires.limit) c.put.ensures.ok)
