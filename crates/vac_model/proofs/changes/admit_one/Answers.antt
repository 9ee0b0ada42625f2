use Rattle.std.proofs.Common.{◌≡◌, None, refl, ◌∙◌, ap}
use Rattle.std.specs.FinMap.{get}
use Rattle.vac_model.specs.Overlays.{without}
use Rattle.vac_model.proofs.OverlayLemmas.{back_by, added_elsewhere, added_there, added_stays, copied_none}
use Rattle.vac_model.proofs.changes.admit_one.Goals as goal

pub returns-in_err-try_copy-clause-back : goal.returns-in_err-try_copy-clause-back
returns-in_err-try_copy-clause-back g c =
    let none : get c.args.below.now c.args.key
    ≡ None = copied_none c.get.result _ c.is_none.result c.get.ensures c.is_none.ensures c.if-is_none.true in
    ap (without c.args.below.now) c.in_ok-push.ensures.ok ∙ back_by c.args.below.now c.args.below.now c.args.added.now c.args.key none
    (λ _ _. refl)

pub returns-in_err-insert-clause-back : goal.returns-in_err-insert-clause-back
returns-in_err-insert-clause-back g c =
    let none : get c.args.below.now c.args.key
    ≡ None = copied_none c.get.result _ c.is_none.result c.get.ensures c.is_none.ensures c.if-is_none.true in
    (λ i. without (c.in_err-insert.ensures.err i) (c.in_ok-push.ensures.ok i))
    ∙ back_by c.args.below.now c.args.below.now c.args.added.now c.args.key none (λ _ _. refl)

pub returns-in_ok-insert-clause-back : goal.returns-in_ok-insert-clause-back
returns-in_ok-insert-clause-back g c =
    let none : get c.args.below.now c.args.key
    ≡ None = copied_none c.get.result _ c.is_none.result c.get.ensures c.is_none.ensures c.if-is_none.true in
    ap (without c.insert.new.self) c.in_ok-push.ensures.ok
    ∙ back_by c.args.below.now c.insert.new.self c.args.added.now c.args.key none
    (added_elsewhere c.args.below.now c.insert.new.self c.args.key _ c.in_ok-insert.ensures.ok)

pub returns-in_ok-insert-clause-elsewhere : goal.returns-in_ok-insert-clause-elsewhere
returns-in_ok-insert-clause-elsewhere g c k ne =
    added_elsewhere c.args.below.now c.insert.new.self c.args.key _ c.in_ok-insert.ensures.ok k ne

pub returns-in_ok-insert-clause-stays : goal.returns-in_ok-insert-clause-stays
returns-in_ok-insert-clause-stays g c k some none =
    added_stays c.args.below.now c.insert.new.self c.args.key _ c.in_ok-insert.ensures.ok k some none

pub returns-in_ok-insert-clause-ok : goal.returns-in_ok-insert-clause-ok
returns-in_ok-insert-clause-ok g c none = added_there c.args.below.now c.insert.new.self c.args.key _ c.in_ok-insert.ensures.ok none
