use Rattle.session_text.proofs.LaneLemmas.{times_on}
use Rattle.std.specs.String.{string_bytes}
use Rattle.session_text.proofs.layout.push_times.Goals as goal

pub loop-time-preserved : goal.loop-time-preserved
loop-time-preserved c =
    times_on c.loop-time._time c.args.piece.now (string_bytes c.args.text.now) (string_bytes c.loop-time.text)
    (string_bytes c.push_str.new.self)
    c.in_ok-push_str.ensures.bytes c.loop-time.invariant
