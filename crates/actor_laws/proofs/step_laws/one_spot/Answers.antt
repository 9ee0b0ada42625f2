use Rattle.actor_laws.proofs.StepTargets.{one_spot}
use Rattle.actor_laws.proofs.step_laws.one_spot.Goals as goal

pub returns : goal.returns
returns g c = record {
  cells = λ v a. (one_spot v a).cells;
  gates = λ v a. (one_spot v a).gates;
  parts = λ v a. (one_spot v a).parts;
  editions = λ v a. (one_spot v a).editions;
}
