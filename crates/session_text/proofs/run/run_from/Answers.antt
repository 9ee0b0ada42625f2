use Rattle.std.proofs.Common.{◌≡◌, refl, rules, sym, subst}
use Rattle.session_text.specs.Plays.{nobody}
use Rattle.session_text.specs.Scripts.{IsOpeningOf}
use Rattle.session_text.proofs.ScriptRunLemmas.{is_run, is_serial}
use Rattle.session_text.proofs.run.run_from.Goals as goal

pub returns-clause-opening : goal.returns-clause-opening
returns-clause-opening c = subst (λ o. IsOpeningOf c.args.script.now o) (sym c.in_ok-made.ensures.opening) c.requires.opening

pub returns-clause-serial : goal.returns-clause-serial
returns-clause-serial c =
    let runner = c.run_lines.new.self in
    let start : c.in_ok-waiting.waiting.items ≡ nobody = search rules in
    is_serial c.args.script.now c.args.opening c.in_ok-world.world.parts runner.world.parts c.args.keeps runner.transcript
    runner.waiting.items
    (c.in_ok-world.ensures.reached refl) c.in_ok-world.ensures.world
    (rw (c.as_slice.ensures, start, c.new.ensures, c.new-2.ensures) at c.in_ok-run_lines.ensures)
    c.in_ok-made.made c.in_ok-made.ensures.opening c.in_ok-made.ensures.serial

pub returns-clause-run : goal.returns-clause-run
returns-clause-run c =
    let runner = c.run_lines.new.self in
    let start : c.in_ok-waiting.waiting.items ≡ nobody = search rules in
    is_run c.args.script.now c.args.opening c.in_ok-world.world.parts runner.world.parts c.args.keeps runner.transcript runner.waiting.items
    (c.in_ok-world.ensures.reached refl) c.in_ok-world.ensures.world
    (rw (c.as_slice.ensures, start, c.new.ensures, c.new-2.ensures) at c.in_ok-run_lines.ensures)
    c.in_ok-made.made c.in_ok-made.ensures.opening c.in_ok-made.ensures.notices c.in_ok-made.ensures.events c.in_ok-made.ensures.trace
