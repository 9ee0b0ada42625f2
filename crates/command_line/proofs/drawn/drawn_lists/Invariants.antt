use Rattle.std.specs.Prelude.{All}
use Rattle.workers.specs.Deals.{in_lists}
use Rattle.vac_model.specs.Actions.{IsAllowed}
use Rattle.command_line.proofs.RunLemmas.{AreDrawnTo}
use Rattle.command_line.proofs.drawn.drawn_lists.Given as goal

abbrev pub invariant-workers : goal.invariant-workers
invariant-workers l = record {
  drawn : AreDrawnTo l.before l.drawn (in_lists l.lists.items);
  allowed : All (λ actions. All IsAllowed actions) (in_lists l.lists.items);
}
