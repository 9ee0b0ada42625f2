use Rattle.std.proofs.Common.{arith, ◌≡◌, length}
use Rattle.text_formats.specs.DrawnActions.{ask_drawn}
use Rattle.text_formats.proofs.DrawLemmas.{counted, drawn_on}
use Rattle.text_formats.proofs.sessions.reservation.Goals as goal

pub loop-preserved : goal.loop-preserved
loop-preserved g c =
    drawn_on (ask_drawn c.args.greatest) c.loop.counter _ _ _ c.loop.asks _ c.ask.result c.loop.invariant c.ask.ensures
    c.in_ok-push.ensures.ok

pub returns-clause-allowed : goal.returns-clause-allowed
returns-clause-allowed g c =
    let count : length c.loop.asks ≡ c.loop.counter = counted (ask_drawn c.args.greatest) c.loop.counter _ _ c.loop.asks c.loop.invariant in
    let listed = c.requires.listed in
    let ended = c.loop-test.false in
    let within = c.loop.auto.counter-end in
    ((omega arith, omega arith), (omega (arith, count, ended, listed.0), omega (arith, count, within, listed.1)))
