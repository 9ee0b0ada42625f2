use Rattle.std.proofs.Common.{◌≡◌, ◌+◌, sym, subst, rules}
use Rattle.std.proofs.lemmas.List.Elements.{All-get_or, All-push, All-set}
use Rattle.interleavings.specs.Explorations.{IsOutcomeOf}
use Rattle.interleavings.proofs.CountLemmas.{runs-joined, runs-pushed}
use Rattle.interleavings.proofs.outcomes.Exploration.add.Goals as goal

pub returns-in-Some-clause-outcomes : goal.returns-in-Some-clause-outcomes
returns-in-Some-clause-outcomes c = λ script all more.
    let known = subst (λ o. IsOutcomeOf script o) (sym c.index_mut.ensures.value)
    (All-get_or (IsOutcomeOf script) c.args.self.now.outcomes.items c.in-Some.index c.index_mut.result.now c.in-Some.ensures all) in
    All-set (IsOutcomeOf script) c.args.self.now.outcomes.items c.in-Some.index c.join.new.self
    (c.join.ensures.outcome script known more) all

pub returns-in-Some-clause-counted : goal.returns-in-Some-clause-counted
returns-in-Some-clause-counted c = λ counted room.
    let more : c.saturating_add-self.result ≡ c.args.self.now.interleavings + 1 = search rules in
    runs-joined c.args.self.now.outcomes.items c.in-Some.index c.args.self.now.interleavings c.saturating_add-self.result
    c.index_mut.result.now c.join.new.self c.args.found c.in-Some.ensures c.index_mut.ensures.value c.requires c.join.ensures.count counted
    room more

pub returns-in_ok-push-in-None-clause-outcomes : goal.returns-in_ok-push-in-None-clause-outcomes
returns-in_ok-push-in-None-clause-outcomes c = λ script all more.
    rw c.in_ok-push-in-None.ensures.items (All-push (IsOutcomeOf script) c.args.self.now.outcomes.items c.args.found all more)

pub returns-in_ok-push-in-None-clause-counted : goal.returns-in_ok-push-in-None-clause-counted
returns-in_ok-push-in-None-clause-counted c = λ counted room.
    let more : c.saturating_add-self.result ≡ c.args.self.now.interleavings + 1 = search rules in
    rw c.in_ok-push-in-None.ensures.items
    (runs-pushed c.args.self.now.outcomes.items c.args.self.now.interleavings c.saturating_add-self.result c.args.found c.requires counted
    more)
