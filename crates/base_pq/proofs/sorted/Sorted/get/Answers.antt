use Rattle.std.proofs.Common.{Some, ap, ◌∙◌, arith}
use Rattle.seq_model.proofs.EntryLemmas.{place_there, get_there, get_absent}
use Rattle.base_pq.proofs.sorted.Sorted.get.Goals as goal

pub index-requires : goal.index-requires
index-requires c = omega (
  arith,
  c.self.inside.items.ok.0,
  place_there _ c.self.invariant _ (ap (λ r. r.elements) c.self.view_is)
      c.args.element _ c.in-Ok.ensures,
)

pub returns-in-Ok : goal.returns-in-Ok
returns-in-Ok c =
    ap (λ e. Some e.1) c.index.ensures
    ∙ get_there _ c.self.invariant _ (ap (λ r. r.elements) c.self.view_is) c.args.element _ _ c.in-Ok.ensures

pub returns-in-Err : goal.returns-in-Err
returns-in-Err c = get_absent _ c.self.invariant _ (ap (λ r. r.elements) c.self.view_is) c.args.element _ c.in-Err.ensures
