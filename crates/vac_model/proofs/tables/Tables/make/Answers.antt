use Rattle.std.proofs.Common.{◌∙◌, ap}
use Rattle.vac_model.specs.Makings.{settled}
use Rattle.vac_model.proofs.MakingLemmas.{heads_within, settles}
use Rattle.vac_model.proofs.tables.Tables.make.Goals as goal

pub settle-requires-clause-heads : goal.settle-requires-clause-heads
settle-requires-clause-heads c = heads_within c.args.self.now c.admit.new.self c.args.changes c.requires c.in_default.ensures.ok

pub returns-clause-ok : goal.returns-clause-ok
returns-clause-ok c =
    c.settle.ensures
    ∙ ap (settled c.admit.new.self c.args.changes) (c.in_default.ensures.lens ∙ ap (λ a. a.lens) c.nothing_added-added.ensures)
    ∙ settles c.args.self.now c.admit.new.self c.args.changes c.in_default.ensures.ok
