use Rattle.std.proofs.Common.{sym, ◌∙◌}
use Rattle.step_core.specs.Shown.{actor_of}
use Rattle.actor_parts.proofs.RoomLemmas.{base_fits}
use Rattle.actor_parts.proofs.taking.fits_base.Goals as goal

pub returns-then-surely_fits-clause-fits : goal.returns-then-surely_fits-clause-fits
returns-then-surely_fits-clause-fits g c o is =
    sym (base_fits (actor_of c.args.words.now) c.args.base.now c.args.first c.args.op.now c.most_of-reads.result.0
    c.most_of-reads.result.1 o
    c.most_of-reads.ensures is (sym c.surely_fits.ensures ∙ c.if-surely_fits.true))
