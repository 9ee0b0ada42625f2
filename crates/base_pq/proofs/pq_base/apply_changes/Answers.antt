use Rattle.std.proofs.Common.{◌≡◌, ◌∙◌, List, [], ◌∷◌, ◌++◌, ap, arith, sym, subst}
use Rattle.std.specs.Prelude.{reverse}
use Rattle.std.proofs.lemmas.Grind.{common_steps}
use Rattle.std.proofs.lemmas.List.{reverse-append}
use Rattle.conflict.specs.Rules.{applied}
use Rattle.conflict.specs.declared.change.Change.{Change}
use Rattle.base_pq.specs.Conflicts.{Shown, rules}
use Rattle.base_pq.specs.Room.{HasRoom}
use Rattle.base_pq.proofs.pq_base.apply_changes.Goals as goal

pub loop-change-preserved : goal.loop-change-preserved
loop-change-preserved g c =
    let n = c.loop-change.elements.stripes in
    let same = c.loop-change.invariant.2 in
    let left = reverse c.pop.new.self.items in
    let steps : reverse c.loop-change.changes.items ≡ c.in-Some.change ∷ left =
    ap reverse c.in-Some.ensures.items ∙ reverse-append c.pop.new.self.items (c.in-Some.change ∷ []) in
    let now = c.apply_change.new.elements in (
      ap (λ (s : Shown). applied (rules g.row.V.Denot) left s) c.apply_change.ensures.shown
          ∙ ap (λ (cs : List (Change g.row.V.Denot)). applied (rules g.row.V.Denot) cs
          (record { elements = c.loop-change.elements.elements; least = c.loop-change.least })) (sym steps)
          ∙ c.loop-change.invariant.0,
      subst (λ m. HasRoom m now.room left) (sym c.apply_change.ensures.stripes)
          (c.apply_change.ensures.room left (subst (HasRoom n c.loop-change.elements.room) steps c.loop-change.invariant.1)),
      c.apply_change.ensures.stripes ∙ same,
      λ more h.
          subst (λ m. HasRoom m now.room (left ++ more)) same
          (c.apply_change.ensures.room (left ++ more)
          (subst (λ m. HasRoom m c.loop-change.elements.room (c.in-Some.change ∷ (left ++ more))) (sym same)
          (subst (λ (cs : List (Change g.row.V.Denot)). HasRoom c.args.elements.now.stripes c.loop-change.elements.room (cs ++ more)) steps
          (c.loop-change.invariant.3 more h)))),
      c.in-Some.ensures.capacity ∙ c.loop-change.invariant.4,
    )

pub returns-clause-room : goal.returns-clause-room
returns-clause-room g c =
    let none : c.loop-change.changes.items ≡ [] = grind (arith, common_steps) in
    λ more h.
    subst (λ (cs : List (Change g.row.V.Denot)). HasRoom c.args.elements.now.stripes c.loop-change.elements.room (cs ++ more))
    (ap reverse none) (c.loop-change.invariant.3 more h)
