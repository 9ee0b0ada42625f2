use Rattle.std.proofs.Common.{◌<◌, drop, length, Ok, Err, sym, ap, subst, ◌∙◌, arith}
use Rattle.std.proofs.lemmas.List.{length-drop}
use Rattle.std.specs.FinMap as map
use Rattle.seq_model.specs.Entries.{IsPositionOf, IsRising}
use Rattle.seq_model.proofs.EntryLemmas.{entries_of, remove_absent}
use Rattle.base_pq.proofs.LaidLemmas.{made_of}
use Rattle.base_pq.proofs.MergeLemmas.{first_out, rising_drop}
use Rattle.base_pq.proofs.rest.Rest.let_go.Goals as goal

pub position_of-requires : goal.position_of-requires
position_of-requires c = subst IsRising (sym c.as_slice.ensures) (map.entries_sorted c.args.self.now)

pub overflow_add-self : goal.overflow_add-self
overflow_add-self c =
    let es = c.self.inside.shared in
    let gone = c.self.inside.gone in
    let first = subst (λ i. IsPositionOf c.args.element c.as_slice.result.now (Ok i)) c.in-Ok-eq0.field-0-test c.in-Ok-eq0.ensures in
    let is = c.as_slice.ensures ∙ ap map.entries (sym c.self.view_is)
    ∙ entries_of (drop gone es) (rising_drop gone es c.self.invariant.0) in
    let some : 0 < length (drop gone es) = subst (λ t. 0 < length t) is first.0 in
    omega (arith, some, length-drop gone es, c.len-total.ensures, c.len-total.type_inv)

pub invariant_of-self : goal.invariant_of-self
invariant_of-self c =
    let es = c.self.inside.shared in
    let gone = c.self.inside.gone in
    let first = subst (λ i. IsPositionOf c.args.element c.as_slice.result.now (Ok i)) c.in-Ok-eq0.field-0-test c.in-Ok-eq0.ensures in
    let is = c.as_slice.ensures ∙ ap map.entries (sym c.self.view_is)
    ∙ entries_of (drop gone es) (rising_drop gone es c.self.invariant.0) in
    let some : 0 < length (drop gone es) = subst (λ t. 0 < length t) is first.0 in
    (c.self.invariant.0, omega (arith, some, length-drop gone es))

pub returns-in-Ok-eq0 : goal.returns-in-Ok-eq0
returns-in-Ok-eq0 c =
    let es = c.self.inside.shared in
    let gone = c.self.inside.gone in
    let x = c.args.element in
    let first = subst (λ i. IsPositionOf x c.as_slice.result.now (Ok i)) c.in-Ok-eq0.field-0-test c.in-Ok-eq0.ensures in
    first_out gone x es c.self.invariant.0
    (subst (λ l. IsPositionOf x l (Ok 0)) (c.as_slice.ensures ∙ ap map.entries (sym c.self.view_is)) first)
    ∙ ap (λ m. map.remove m x) c.self.view_is

pub returns-in-Err : goal.returns-in-Err
returns-in-Err c =
    let m = c.args.self.now in
    remove_absent (map.entries m) (map.entries_sorted m) m (made_of m) c.args.element c.in-Err.field-0
    (subst (λ l. IsPositionOf c.args.element l (Err c.in-Err.field-0)) c.as_slice.ensures c.in-Err.ensures)
