use Rattle.std.proofs.Common.{◌≡◌, ◌-◌, ap, subst, ◌∙◌}
use Rattle.std.specs.FinMap as map
use Rattle.seq_model.specs.Counts.{copies, least}
use Rattle.conflict.specs.Multisets.{one_fewer}
use Rattle.conflict.proofs.MultisetLemmas.{no_zero_with}
use Rattle.base_pq.specs.Laid.{first_kept, laid, layered, lesser}
use Rattle.base_pq.proofs.LaidLemmas.{least_of_laid}
use Rattle.base_pq.proofs.elements.Elements.least_without.Goals as goal

pub returns : goal.returns
returns c =
    let x = c.args.element in
    let m = c.self.inside.lower in
    let u = c.self.inside.upper in
    let o = c.self.inside.own.elements in
    let all = laid m (map.entries (layered u o)) in
    let nz = no_zero_with all x (copies all x - 1) c.self.invariant in
    let first : c.first_kept.result ≡ first_kept (λ q. copies (one_fewer c.args.self.now.elements x) q) (map.entries o) =
    c.first_kept.ensures ∙ ap (first_kept (λ q. copies (one_fewer c.args.self.now.elements x) q)) c.as_slice.ensures in
    let second : c.first_kept-2.result ≡ first_kept (λ q. copies (one_fewer c.args.self.now.elements x) q) (map.entries u) =
    c.first_kept-2.ensures ∙ ap (first_kept (λ q. copies (one_fewer c.args.self.now.elements x) q)) c.as_slice-2.ensures in
    let third : c.first_kept-3.result ≡ first_kept (λ q. copies (one_fewer c.args.self.now.elements x) q) (map.entries m) =
    c.first_kept-3.ensures ∙ ap (first_kept (λ q. copies (one_fewer c.args.self.now.elements x) q)) c.as_slice-3.ensures in
    c.lesser.ensures ∙ (λ i. lesser ((c.lesser-changed.ensures ∙ (λ j. lesser (first j) (second j))) i) (third i))
    ∙ subst (λ v. lesser (lesser (first_kept (λ q. copies (one_fewer v.elements x) q) (map.entries o))
    (first_kept (λ q. copies (one_fewer v.elements x) q) (map.entries u)))
    (first_kept (λ q. copies (one_fewer v.elements x) q) (map.entries m)) ≡ least (one_fewer v.elements x)) c.self.view_is
    (least_of_laid m u o x nz)
