use Rattle.std.proofs.Common.{rules, tests, ◌≡◌}
use Rattle.std.specs.Prelude.{◌==◌}
use Rattle.std.proofs.lemmas.Iterator.{YieldsList-from_slice}
use Rattle.std.proofs.lemmas.Iterator.Search.{position_from_yields_List}
use Rattle.text_formats.proofs.CutLemmas.{cut_at, cut_parts, first_feed, uncut}
use Rattle.text_formats.proofs.cut.first_line.Goals as goal

pub returns-in_err-end-clause-none : goal.returns-in_err-end-clause-none
returns-in_err-end-clause-none c =
    let found : c.position.result ≡ first_feed c.args.text.now =
    position_from_yields_List (λ byte. byte == 10) _ _ c.position.result c.position.ensures.ran
    (YieldsList-from_slice _ c.iter.ensures.rest) (λ x b q k. search (rules, tests)) in
    rw c.from_residual.ensures (uncut _ _ found c.in_err-end.was)

pub returns-clause-some : goal.returns-clause-some
returns-clause-some c =
    let found : c.position.result ≡ first_feed c.args.text.now =
    position_from_yields_List (λ byte. byte == 10) _ _ c.position.result c.position.ensures.ran
    (YieldsList-from_slice _ c.iter.ensures.rest) (λ x b q k. search (rules, tests)) in
    cut_parts _ _ _ c.in_ok-end.end c.split_at.ensures.front c.split_at.ensures.back (cut_at _ _ _ found c.in_ok-end.was)
