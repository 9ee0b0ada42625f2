use Rattle.std.proofs.Common.{◌∙◌, sym, arith}
use Rattle.text_formats.specs.declared.script.TheConstants.{STEP_LIMIT}
use Rattle.session_text.proofs.PlayLemmas.{kept_as, played_none, played_on, turn_on, turn_over, turns_all, turns_done, turns_none}
use Rattle.session_text.proofs.run.Runner.alternate.Goals as goal
use Rattle.session_text.proofs.run.Runner.alternate.Goals.{then-is_waiting+in_ok-happen, else-is_waiting+then-is_waiting-2+in_ok-happen-2}

pub loop-taken-init : goal.loop-taken-init
loop-taken-init c = played_none _ _ _ _ (turns_none c.args.first c.args.second c.args.self.now.waiting.items)

pub loop-taken-preserved : goal.loop-taken-preserved
loop-taken-preserved c =
    let before = c.loop-taken.invariant in
    let n = c.loop-taken._taken in
    let actor = c.loop-taken.actor in
    let other = c.loop-taken.other in
    let start = c.args.self.now.waiting.items in
    let waiting = c.loop-taken.self.waiting.items in
    elim c.if-is_waiting.branch [
      | then-is_waiting+in_ok-happen w ↦
          rw (w.self-is, w.actor-is, w.other-is)
          (played_on (λ xs ys ms ns _ _ after turns one. turn_on n c.args.first c.args.second actor other w.in_ok-happen.field-0
          start waiting xs ys ms ns after (sym c.is_waiting.ensures ∙ w.if-is_waiting.true) turns one) before w.in_ok-happen.ensures)
      | else-is_waiting+then-is_waiting-2+in_ok-happen-2 w ↦
          rw (w.self-is, w.actor-is, w.other-is)
          (played_on (λ xs ys ms ns _ _ after turns one. turn_over n c.args.first c.args.second actor other w.in_ok-happen-2.field-0
          start waiting xs ys ms ns after (sym c.is_waiting.ensures ∙ w.if-is_waiting.false)
          (sym w.is_waiting-else-is_waiting.ensures ∙ w.if-is_waiting-2.true) turns one) before w.in_ok-happen-2.ensures)
    ]

pub returns-else-is_waiting-2 : goal.returns-else-is_waiting-2
returns-else-is_waiting-2 c =
    kept_as (λ xs ms after turns. turns_done STEP_LIMIT c.loop-taken._taken c.args.first c.args.second c.loop-taken.actor c.loop-taken.other
    c.args.self.now.waiting.items c.loop-taken.self.waiting.items xs ms c.loop-taken-test.true after
    (sym c.is_waiting.ensures ∙ c.if-is_waiting.false) (sym c.is_waiting-else-is_waiting.ensures ∙ c.if-is_waiting-2.false) turns)
    c.loop-taken.invariant

pub returns : goal.returns
returns c =
    kept_as (λ xs ms _ turns. turns_all STEP_LIMIT c.loop-taken._taken c.args.first c.args.second c.loop-taken.actor c.loop-taken.other
    c.args.self.now.waiting.items xs ms (omega (arith, c.loop-taken-test.false, c.loop-taken.auto._taken-end)) turns)
    c.loop-taken.invariant
