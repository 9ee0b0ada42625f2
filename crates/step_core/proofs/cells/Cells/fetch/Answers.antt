use Rattle.step_core.proofs.CellMoves.{found, fetches}
use Rattle.step_core.proofs.cells.Cells.fetch.Goals as goal

pub returns-clause-steps : goal.returns-clause-steps
returns-clause-steps c = fetches c.args.self.now c.args.actor.now c.fetch.new.self c.fetch.result c.args.location c.args.version
    c.index-value.result.now c.requires.place
    (found c.args.self.now.values.items c.args.location c.index-value.result.now c.requires.inside c.index-value.ensures)
    c.fetch.ensures.actor c.fetch.ensures.answer
