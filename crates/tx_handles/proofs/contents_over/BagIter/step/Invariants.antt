use Rattle.std.proofs.Common.{◌≡◌}
use Rattle.tx_handles.specs.Read.{bag_left}
use Rattle.tx_handles.proofs.contents_over.BagIter.step.Given as goal

-- as many entries are left, since the parts so far had none left
abbrev pub invariant-gates : goal.invariant-gates
invariant-gates g l = record {
  same : bag_left l.self ≡ bag_left l.fn.self;
  gates : l.self.gates ≡ l.fn.self.gates;
  place : l.self.place ≡ l.place;
}
