use Rattle.std.proofs.Common.{rules, subst, List, ℕ}
use Rattle.command_line.specs.Ends.{HasBegun, line_of}
use Rattle.command_line.proofs.OutputLemmas.{line_begun}
use Rattle.command_line.proofs.tool.fault.Goals as goal

pub returns-then-tell-clause-told : goal.returns-then-tell-clause-told
returns-then-tell-clause-told g c =
    let told = line_begun _ _ _ _ (c.tell.ensures.whole (search rules)) c.tell-then-tell.ensures.begun in
    subst (λ (text : List ℕ). HasBegun (g.E.Write.contents c.args.err.now) (g.E.Write.contents c.tell-then-tell.new.to) (line_of text))
    c.as_bytes.ensures.value told
