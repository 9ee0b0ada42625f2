use Rattle.std.proofs.Common.{refl, subst, List, ℕ}
use Rattle.command_line.specs.Ends.{HasBrokenOff}
use Rattle.command_line.proofs.tool.print.Goals as goal

pub returns-then-not-tell-clause-broken : goal.returns-then-not-tell-clause-broken
returns-then-not-tell-clause-broken g c = λ _.
    subst (λ (text : List ℕ). HasBrokenOff (g.W.Write.contents c.args.out.now) (g.W.Write.contents c.tell.new.to) text)
    c.as_slice.ensures.value (c.if-not-tell.ensures.broken refl)
