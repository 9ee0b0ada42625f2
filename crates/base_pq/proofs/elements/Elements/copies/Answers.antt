use Rattle.std.proofs.Common.{sym, ap, ◌∙◌, unwrap_or}
use Rattle.std.specs.FinMap.{get}
use Rattle.seq_model.specs.Counts.{copies}
use Rattle.seq_model.proofs.EntryLemmas.{or_else}
use Rattle.base_pq.proofs.LaidLemmas.{copies_over, copies_some, over}
use Rattle.base_pq.proofs.elements.Elements.copies.Goals as goal

pub returns-in-Some : goal.returns-in-Some
returns-in-Some c =
    let m = c.self.inside.lower in
    let u = c.self.inside.upper in
    let o = c.self.inside.own.elements in
    let x = c.args.element in
    sym (copies_some c.in-Some.count)
    ∙ ap (λ f. unwrap_or (over (or_else f (get u x)) (get m x)) 0) (sym c.in-Some.is ∙ c.get.ensures)
    ∙ sym (copies_over m u o x) ∙ ap (λ s. copies s.elements x) c.self.view_is

pub returns-in-Some-get : goal.returns-in-Some-get
returns-in-Some-get c =
    let m = c.self.inside.lower in
    let u = c.self.inside.upper in
    let o = c.self.inside.own.elements in
    let x = c.args.element in
    sym (copies_some c.in-Some-get.count)
    ∙ (λ i. unwrap_or (over (or_else ((sym c.in_default.is ∙ c.get.ensures) i) ((sym c.in-Some-get.is ∙ c.get-2.ensures) i)) (get m x)) 0)
    ∙ sym (copies_over m u o x) ∙ ap (λ s. copies s.elements x) c.self.view_is

pub returns : goal.returns
returns c =
    let m = c.self.inside.lower in
    let u = c.self.inside.upper in
    let o = c.self.inside.own.elements in
    let x = c.args.element in
    c.unwrap_or.ensures ∙ ap (λ f. unwrap_or f 0) c.get-3.ensures
    ∙ (λ i. unwrap_or (over (or_else ((sym c.in_default.is ∙ c.get.ensures) i)
    ((sym c.in_default-get.is ∙ c.get-2.ensures) i)) (get m x)) 0)
    ∙ sym (copies_over m u o x) ∙ ap (λ s. copies s.elements x) c.self.view_is
