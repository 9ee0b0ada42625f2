use Rattle.std.proofs.Common.{◌≡◌, ◌++◌, take}
use Rattle.std.specs.List.{flat_map}
use Rattle.std.specs.String.{string_bytes}
use Rattle.session_text.specs.Lanes.{name_text}
use Rattle.session_text.proofs.layout.Layout.print_names.Given as goal

abbrev pub invariant-loop-actor : goal.invariant-loop-actor
invariant-loop-actor l =
    string_bytes l.text ≡ string_bytes l.fn.text ++ flat_map (name_text l.self) (take l.actor-index l.actor-items)
