use Rattle.std.proofs.Common.{arith, ◌≡◌, length, ◌∷◌, [], subst, sym}
use Rattle.std.specs.Prelude.{All}
use Rattle.std.proofs.lemmas.List.Elements.{All-append, All-cons, All-nil}
use Rattle.vac_model.specs.Actions.{IsAmountWithin}
use Rattle.text_formats.specs.DrawnActions.{change_drawn}
use Rattle.text_formats.proofs.DrawLemmas.{counted, drawn_on}
use Rattle.text_formats.proofs.sessions.update.Goals as goal

pub loop-preserved : goal.loop-preserved
loop-preserved g c =
    let is = c.in_ok-push.ensures.ok in
    record {
      drawn = drawn_on (change_drawn c.args.greatest) c.loop.counter _ _ _ c.loop.changes _ c.change.result c.loop.invariant.drawn
          c.change.ensures.drawn is;
      within = subst (All IsAmountWithin) (sym is)
          (All-append IsAmountWithin c.loop.changes (c.change.result ∷ []) c.loop.invariant.within
          (All-cons IsAmountWithin c.change.result [] c.change.ensures.within (All-nil IsAmountWithin)));
    }

pub returns-clause-allowed : goal.returns-clause-allowed
returns-clause-allowed g c =
    let count : length c.loop.changes ≡ c.loop.counter =
    counted (change_drawn c.args.greatest) c.loop.counter _ _ c.loop.changes c.loop.invariant.drawn in
    let listed = c.requires.listed in
    let ended = c.loop-test.false in
    let within = c.loop.auto.counter-end in
    ((omega (arith, count, ended, listed.0), omega (arith, count, within, listed.1)), c.loop.invariant.within)
