use Rattle.std.proofs.Common.{◌≡◌, false, rules, subst, arith}
use Rattle.vacation_core.specs.Running.{GoesOn}
use Rattle.vacation_core.proofs.NextSessionLemmas.{ends_asking}
use Rattle.vacation_core.proofs.world.VacWorld.go_on.Goals as goal

pub returns-then-not-more : goal.returns-then-not-more
returns-then-not-more c = λ to x.
    let none : c.in_ok-more.more ≡ false = search rules in
    subst (λ b. GoesOn c.args.i c.loop.counter to b c.ask_next.new.self) none
    (c.in_ok-more.ensures.ok c.loop.counter to (c.loop.invariant.0 to x))

pub returns : goal.returns
returns c = λ to x. absurd (ends_asking c.args.i _ to _ (let m = c.loop-test.false in omega (arith, m)) (c.loop.invariant.0 to x))
