use Rattle.std.proofs.Common.{◌≡◌, drop}
use Rattle.seq_model.specs.Counts.{copies}
use Rattle.conflict.specs.Multisets.{one_fewer}
use Rattle.base_pq.specs.Laid.{first_kept}
use Rattle.base_pq.proofs.elements.Elements.first_kept.Given as goal

-- nothing is kept of those so far
abbrev pub invariant-loop-kept : goal.invariant-loop-kept
invariant-loop-kept l =
    first_kept (λ q. copies (one_fewer l.self.elements l.element) q) (drop l.kept-index l.list)
    ≡ first_kept (λ q. copies (one_fewer l.self.elements l.element) q) l.list
