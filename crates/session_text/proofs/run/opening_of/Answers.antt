use Rattle.std.proofs.Common.{◌∙◌, sym, ap, subst, map, take_all, All, arith}
use Rattle.std.proofs.lemmas.Result.{IfErr-weaker}
use Rattle.seq_model.specs.Calls.{IsWithinLimits}
use Rattle.session_text.specs.Scripts.{HasRefusedCollections}
use Rattle.session_text.proofs.run.opening_of.Goals as goal

pub returns-clause-refused : goal.returns-clause-refused
returns-clause-refused c =
    let script = c.args.script.now in
    let items = c.as_slice-collection-items.result.now in
    let all = take_all c.loop-collection.collection-index items (omega (arith, c.loop-collection-test.false)) in
    let held = c.loop-collection.invariant ∙ ap (λ xs. map (λ x. x.held) xs) (all ∙ c.as_slice-collection-items.ensures) in
    IfErr-weaker c.new.result _ _
    (λ refusal h. subst (λ r. HasRefusedCollections script r) (sym h.0) (subst (λ xs. ¬ All IsWithinLimits xs) held h.1))
    c.new.ensures.too_long
