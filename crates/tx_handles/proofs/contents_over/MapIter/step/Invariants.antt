use Rattle.std.proofs.Common.{◌≡◌}
use Rattle.tx_handles.specs.Read.{map_left}
use Rattle.tx_handles.proofs.contents_over.MapIter.step.Given as goal

-- as many entries are left, since the parts so far had none left
abbrev pub invariant-gates : goal.invariant-gates
invariant-gates g l = record {
  same : map_left l.self ≡ map_left l.fn.self;
  gates : l.self.gates ≡ l.fn.self.gates;
  place : l.self.place ≡ l.place;
}
