use Rattle.std.proofs.Common.{◌≡◌, ◌++◌, take}
use Rattle.std.specs.List.{flat_map}
use Rattle.std.specs.String.{string_bytes}
use Rattle.interleavings.specs.ScriptPrints.{collection_text}
use Rattle.interleavings.proofs.print.print_collections.Given as goal

abbrev pub invariant-loop-collection : goal.invariant-loop-collection
invariant-loop-collection l =
    string_bytes l.text ≡ string_bytes l.fn.text ++ flat_map collection_text (take l.collection-index l.collections)
