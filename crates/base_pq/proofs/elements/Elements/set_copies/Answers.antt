use Rattle.std.proofs.Common.{◌≡◌, true, false, sym, ap, subst, ◌∙◌, arith}
use Rattle.std.specs.FinMap as map
use Rattle.seq_model.specs.Counts.{HasNoZero, with_copies}
use Rattle.conflict.proofs.MultisetLemmas.{no_zero_with}
use Rattle.base_pq.specs.declared.elements.Elements.TheInside.{Inside}
use Rattle.base_pq.specs.Laid.{laid, layered}
use Rattle.base_pq.proofs.LaidLemmas.{put_last, remove_each}
use Rattle.base_pq.proofs.elements.Elements.set_copies.Goals.{else-count-eq0-via-then-count-eq0+then-let_go+else-let_go-2}
use Rattle.base_pq.proofs.elements.Elements.set_copies.Goals.{else-count-eq0-via-then-count-eq0+else-let_go}
use Rattle.base_pq.proofs.elements.Elements.set_copies.Goals.{else-count-eq0-via-else-count-eq0}
use Rattle.base_pq.proofs.elements.Elements.set_copies.Goals as goal

-- it goes out of all three lists
removed : (c : goal.After-remove)
    → laid c.let_go.new.self (map.entries (layered c.let_go-then-let_go.new.self c.remove.new.self.elements))
    ≡ with_copies (laid c.self.inside.lower (map.entries (layered c.self.inside.upper c.self.inside.own.elements))) c.args.element 0
removed c =
    (λ i. laid (c.if-let_go.ensures i) (map.entries (layered (c.if-let_go-2.ensures i) (c.remove.ensures.elements i))))
    ∙ remove_each c.self.inside.lower c.self.inside.upper c.self.inside.own.elements c.args.element

-- its number is one's own, whether or not it went out of the lower list
given : (c : goal.After-put)
    → laid c.else-count-eq0.self-inside.lower (map.entries (layered c.else-count-eq0.self-inside.upper c.put.new.self.elements))
    ≡ with_copies (laid c.self.inside.lower (map.entries (layered c.self.inside.upper c.self.inside.own.elements))) c.args.element
    c.args.count
given c =
    let m = c.self.inside.lower in
    let u = c.self.inside.upper in
    let o = c.self.inside.own.elements in
    let x = c.args.element in
    let n = c.args.count in
    let now = c.else-count-eq0.self-inside in
    (λ i. laid now.lower (map.entries (layered now.upper (c.put.ensures.elements i))))
    ∙ elim c.else-count-eq0.branch [
      | else-count-eq0-via-then-count-eq0+then-let_go+else-let_go-2 w ↦
          (λ i. laid ((ap (λ (s : Inside). s.lower) w.self-inside-is ∙ w.if-let_go.ensures) i)
          (map.entries (layered ((ap (λ (s : Inside). s.upper) w.self-inside-is ∙ w.if-let_go-2.ensures) i)
          (map.insert (ap (λ (s : Inside). s.own.elements) w.self-inside-is i) x n))))
          ∙ put_last true m u o x n
      | else-count-eq0-via-then-count-eq0+else-let_go w ↦
          (λ i. laid ((ap (λ (s : Inside). s.lower) w.self-inside-is ∙ w.if-let_go.ensures) i)
          (map.entries (layered (ap (λ (s : Inside). s.upper) w.self-inside-is i)
          (map.insert (ap (λ (s : Inside). s.own.elements) w.self-inside-is i) x n))))
          ∙ put_last false m u o x n
      | else-count-eq0-via-else-count-eq0 w ↦
          (λ i. laid (ap (λ (s : Inside). s.lower) w.self-inside-is i)
          (map.entries (layered (ap (λ (s : Inside). s.upper) w.self-inside-is i)
          (map.insert (ap (λ (s : Inside). s.own.elements) w.self-inside-is i) x n))))
          ∙ put_last false m u o x n
    ]

pub invariant_of-self : goal.invariant_of-self
invariant_of-self c = subst HasNoZero (sym (removed c)) (no_zero_with _ c.args.element 0 c.self.invariant)

pub returns-then-let_go-2-clause-elements : goal.returns-then-let_go-2-clause-elements
returns-then-let_go-2-clause-elements c =
    let none : 0 ≡ c.args.count = omega (arith, c.if-count-eq0.true) in
    removed c ∙ (λ i. with_copies (c.self.view_is i).elements c.args.element (none i))

pub invariant_of-self-else-count-eq0 : goal.invariant_of-self-else-count-eq0
invariant_of-self-else-count-eq0 c =
    subst HasNoZero (sym (given c)) (no_zero_with _ c.args.element c.args.count c.self.invariant)

pub returns-else-count-eq0-clause-elements : goal.returns-else-count-eq0-clause-elements
returns-else-count-eq0-clause-elements c =
    given c ∙ ap (λ s. with_copies s.elements c.args.element c.args.count) c.self.view_is
