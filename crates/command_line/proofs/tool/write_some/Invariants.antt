use Rattle.std.specs.Io.KnownBytes.{Keeps}
use Rattle.command_line.proofs.tool.write_some.Given as goal

abbrev pub invariant-loop-try : goal.invariant-loop-try
invariant-loop-try g l = Keeps (g.W.Write.contents l.fn.to) (g.W.Write.contents l.to)
