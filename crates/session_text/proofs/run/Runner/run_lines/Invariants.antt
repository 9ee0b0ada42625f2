use Rattle.std.proofs.Common.{take}
use Rattle.session_text.specs.Plays.{ArePlays, HasPlayed, Keeps}
use Rattle.session_text.proofs.run.Runner.run_lines.Given as goal

abbrev pub invariant-loop-line : goal.invariant-loop-line
invariant-loop-line l = HasPlayed (Keeps (ArePlays l.fn.self.waiting.items (take l.line-index l.lines)) l.fn.self.waiting.items
    l.self.waiting.items) l.fn.self.world.parts l.fn.self.transcript l.self.world.parts l.self.transcript
