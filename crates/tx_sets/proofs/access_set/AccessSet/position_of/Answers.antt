use Rattle.std.proofs.Common.{ℕ, ◌≡◌, ◌<◌, ap, sym, ◌∙◌, subst, rules, Err}
use Rattle.std.proofs.lemmas.List.Sorted.{answers_always}
use Rattle.tx_sets.specs.AccessSet.{IsPositionOf, SetView}
use Rattle.tx_sets.specs.Entries.{Entries, IsRising}
use Rattle.tx_sets.proofs.PositionLemmas.{empty_place, last_place, searched}
use Rattle.tx_sets.proofs.access_set.AccessSet.position_of.Goals as goal
use Rattle.tx_sets.proofs.access_set.AccessSet.position_of.Goals.{then-count-eq0-via-then-count-eq0}
use Rattle.tx_sets.proofs.access_set.AccessSet.position_of.Goals.{then-count-eq0-via-else-count-eq0+then-index-location}

pub returns-then-count-eq0 : goal.returns-then-count-eq0
returns-then-count-eq0 g c =
    let l = c.args.location in
    let n = c.len-count.result in
    let same : c.self.inside.entries.items ≡ c.args.self.now.entries = ap (λ (v : SetView). v.entries) c.self.view_is in
    subst (λ (es : Entries). IsPositionOf l es (Err n)) same
    (elim c.then-count-eq0.branch [
      | then-count-eq0-via-then-count-eq0 w ↦ empty_place l c.self.inside.entries.items n
          (c.len-count.ensures ∙ c.self.inside.entries.ok.0) w.if-count-eq0.true
      | then-count-eq0-via-else-count-eq0+then-index-location w ↦
          last_place l c.self.inside.entries.items n w.index.result.now c.self.invariant.0.orderly.rising
          (c.len-count.ensures ∙ c.self.inside.entries.ok.0)
          (subst (λ (e : ℕ × ℕ). e.0 < l) w.index.ensures w.if-index-location.true)
    ])

pub returns : goal.returns
returns g c =
    let facts = c.binary_search_by_key.ensures in
    let by_key = facts.position (λ entry. entry.0) (answers_always _ _ _ (λ f a r g called. search rules)) in
    let same : c.deref-2.result.now ≡ c.args.self.now.entries = c.deref-2.ensures.value ∙ ap (λ (v : SetView). v.entries) c.self.view_is in
    subst (λ es. IsPositionOf c.args.location es c.binary_search_by_key.result) same
    (searched c.args.location _ (subst IsRising (sym c.deref-2.ensures.value) c.self.invariant.0.orderly.rising) _ facts.bound by_key)
