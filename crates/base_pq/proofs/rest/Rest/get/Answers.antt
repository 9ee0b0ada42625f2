use Rattle.std.proofs.Common.{ℕ, Ok, Err, Some, sym, ap, subst, ◌∙◌, slice_index_or}
use Rattle.std.specs.FinMap.{entries, entries_sorted}
use Rattle.seq_model.specs.Entries.{IsPositionOf, IsRising}
use Rattle.seq_model.proofs.EntryLemmas.{get_absent, get_there}
use Rattle.base_pq.proofs.LaidLemmas.{made_of}
use Rattle.base_pq.proofs.rest.Rest.get.Goals as goal

pub position_of-requires : goal.position_of-requires
position_of-requires c = subst IsRising (sym c.as_slice-list.ensures) (entries_sorted c.args.self.now)

pub returns-in-Ok : goal.returns-in-Ok
returns-in-Ok c =
    let m = c.args.self.now in
    ap (λ l. Some (slice_index_or {A = ℕ × ℕ} l c.in-Ok.at (0, 0)).1) c.as_slice-list.ensures
    ∙ get_there (entries m) (entries_sorted m) m (made_of m) c.args.element c.in-Ok.at (0, 0)
    (subst (λ l. IsPositionOf c.args.element l (Ok c.in-Ok.at)) c.as_slice-list.ensures c.in-Ok.ensures)

pub returns-in-Err : goal.returns-in-Err
returns-in-Err c =
    let m = c.args.self.now in
    get_absent (entries m) (entries_sorted m) m (made_of m) c.args.element c.in-Err.field-0
    (subst (λ l. IsPositionOf c.args.element l (Err c.in-Err.field-0)) c.as_slice-list.ensures c.in-Err.ensures)
