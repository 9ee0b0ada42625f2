use Rattle.std.proofs.Common.{◌≡◌, ◌++◌}
use Rattle.std.specs.String.{string_bytes}
use Rattle.session_text.specs.Lanes.{times}
use Rattle.session_text.proofs.layout.push_times.Given as goal

abbrev pub invariant-loop-time : goal.invariant-loop-time
invariant-loop-time l = string_bytes l.text ≡ string_bytes l.fn.text ++ times l._time l.piece
