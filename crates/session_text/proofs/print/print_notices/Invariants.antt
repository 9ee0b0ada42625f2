use Rattle.std.proofs.Common.{◌≡◌, ◌++◌, take}
use Rattle.std.specs.List.{flat_map}
use Rattle.std.specs.String.{string_bytes}
use Rattle.session_text.specs.TracePrints.{notice_text}
use Rattle.session_text.proofs.print.print_notices.Given as goal

abbrev pub invariant-loop-notice : goal.invariant-loop-notice
invariant-loop-notice l = string_bytes l.text ≡ string_bytes l.fn.text ++ flat_map notice_text (take l.notice-index l.notices)
