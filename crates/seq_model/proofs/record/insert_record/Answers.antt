use Rattle.std.proofs.Common.{◌≡◌, ℕ, ◌≤◌, length, sym, subst, ◌∙◌, true, false, arith, rules}
use Rattle.std.specs.List.Sorted.{IsPartitionedBy, IsPartitionPoint}
use Rattle.std.proofs.lemmas.List.Sorted.{IsPartitionPoint-from_clause}
use Rattle.seq_model.specs.declared.record.Record.{Record}
use Rattle.seq_model.proofs.RecordLemmas.{stays, parted, inserted}
use Rattle.seq_model.proofs.record.insert_record.Goals as goal

pub returns-clause-ok : goal.returns-clause-ok
returns-clause-ok g c =
    let r : ℕ × Record g.row.V.Denot = (c.args.actor, c.args.made) in
    let same = c.deref.ensures.value in
    let place = c.partition_point-place.result in
    let sorted : IsPartitionedBy (stays r) c.deref.result.now = subst (IsPartitionedBy (stays r)) (sym same)
    (parted r c.args.records.now.items c.requires) in
    let point = IsPartitionPoint-from_clause (stays r) c.deref.result.now place c.partition_point-place.ensures.partitioned sorted
    (λ a b h called. search rules) in
    let here : IsPartitionPoint (λ x. stays r x ≡ true) (λ x. stays r x ≡ false) c.args.records.now.items place = subst
    (λ xs. IsPartitionPoint (λ x. stays r x ≡ true) (λ x. stays r x ≡ false) xs place) same point in
    c.in_ok-insert.ensures.items
    ∙ inserted r c.args.records.now.items place (subst (λ xs. place ≤ length xs) same c.partition_point-place.ensures.bound)
    (λ j d lt. here.0 j d (omega arith) lt) (λ j d ge lt. here.1 j d ge lt)
