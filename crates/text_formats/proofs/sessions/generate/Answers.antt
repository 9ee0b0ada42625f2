use Rattle.std.proofs.Common.{arith, ◌≡◌, ◌∙◌, ◌∷◌, [], subst, sym}
use Rattle.std.specs.Prelude.{All}
use Rattle.std.proofs.lemmas.List.Elements.{All-append, All-cons, All-nil}
use Rattle.vac_model.specs.Actions.{IsAllowed}
use Rattle.text_formats.specs.DrawnActions.{session_drawn}
use Rattle.text_formats.proofs.DrawLemmas.{counted, drawn_on}
use Rattle.text_formats.proofs.sessions.generate.Goals as goal

pub loop-preserved : goal.loop-preserved
loop-preserved c =
    let is = c.in_ok-push.ensures.items in
    let action = c.in_ok-session.field-0 in
    record {
      drawn = drawn_on (session_drawn c.args.options.now) c.loop.counter _ _ _ c.loop.actions.items _ action c.loop.invariant.drawn
          c.in_ok-session.ensures.drawn is;
      allowed = subst (All IsAllowed) (sym is)
          (All-append IsAllowed c.loop.actions.items (action ∷ []) c.loop.invariant.allowed
          (All-cons IsAllowed action [] c.in_ok-session.ensures.allowed (All-nil IsAllowed)));
    }

pub returns-clause-count : goal.returns-clause-count
returns-clause-count c =
    let ended = c.loop-test.false in
    let within = c.loop.auto.counter-end in
    let all : c.loop.counter ≡ c.count_of-end.result = omega (arith, ended, within) in
    counted (session_drawn c.args.options.now) c.loop.counter _ _ c.loop.actions.items c.loop.invariant.drawn ∙ all ∙ c.count_of-end.ensures
