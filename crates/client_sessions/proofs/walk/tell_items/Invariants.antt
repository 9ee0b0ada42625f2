use Rattle.std.proofs.Common.{◌≡◌, drop}
use Rattle.std.specs.List.{list_all}
use Rattle.client_sessions.specs.Gets.{tells_item}
use Rattle.client_sessions.proofs.walk.tell_items.Given as goal

abbrev pub invariant-loop-reply : goal.invariant-loop-reply
invariant-loop-reply l = list_all tells_item (drop l.reply-index l.replies) ≡ list_all tells_item l.replies
