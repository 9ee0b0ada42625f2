use Rattle.std.proofs.Common.{rules}
use Rattle.std.proofs.lemmas.List.Sorted.{answers_always}
use Rattle.seq_model.proofs.EntryLemmas.{searched}
use Rattle.base_pq.proofs.sorted.place_by_halves.Goals as goal

pub returns : goal.returns
returns c =
    let facts = c.binary_search_by_key.ensures in
    let by_key = facts.position (λ entry. entry.0) (answers_always _ _ _ (λ f a r g called. search rules)) in
    searched c.args.element _ c.requires _ facts.bound by_key
