use Rattle.std.proofs.Common.{◌≡◌, ◌∙◌, ap, map-id, subst, sym}
use Rattle.std.specs.FinMap.{empty, entries}
use Rattle.std.proofs.lemmas.Map.Iter.{iter_end}
use Rattle.seq_model.specs.Entries.{inserts}
use Rattle.seq_model.proofs.EntryLemmas.{inserts_all}
use Rattle.tx_handles.specs.Gates.{AreParts}
use Rattle.tx_handles.proofs.LayoutLemmas.{then_entry}
use Rattle.tx_handles.proofs.parts.parts_of.Goals as goal

pub entries-preserved : goal.entries-preserved
entries-preserved g c =
    then_entry c.args.gates c.entries.yielded c.in-Some.key c.in-Some.value c.entries.parts.items c.place-place.result
    c.index_mut.result.now
    c.insert.new.self c.entries.invariant c.place-place.ensures.place c.index_mut.ensures.value c.in_ok-insert.ensures.ok

pub entries-preserved-in_ok-insert : goal.entries-preserved-in_ok-insert
entries-preserved-in_ok-insert g c =
    then_entry c.args.gates c.entries.yielded c.in-Some.key c.in-Some.value c.entries.parts.items c.place-place.result
    c.index_mut.result.now
    c.insert.new.self c.entries.invariant c.place-place.ensures.place c.index_mut.ensures.value c.in_ok-insert.ensures.ok

pub returns : goal.returns
returns g c =
    let start : c.into_iter-key-iterator.result ≡ entries c.args.entries = cc in
    let all = iter_end (λ e. e) (entries c.args.entries) c.entries.yielded c.into_iter-key-iterator.result c.entries.key-iterator
    c.next.new.self
    c.next.result start c.entries.yielded_by c.in-None.is c.next.ensures.steps in
    subst (λ u. AreParts c.args.gates u c.entries.parts.items)
    (ap (inserts empty) (sym (map-id c.entries.yielded) ∙ all.0) ∙ inserts_all c.args.entries) c.entries.invariant
