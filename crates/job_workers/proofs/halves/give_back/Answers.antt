use Rattle.std.proofs.Common.{◌∙◌, ap, refl}
use Rattle.job_workers.specs.Trees.{works}
use Rattle.job_workers.proofs.halves.give_back.Goals as goal

pub returns : goal.returns
returns g c = record {
  ready = c.requires.ready;
  same = refl;
  none = c.leave.ensures.none;
  works_are = c.leave.ensures.works ∙ ap works c.deref_mut.ensures.value;
  left = c.leave.ensures.left;
}
