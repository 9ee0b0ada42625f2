use Rattle.std.proofs.Common.{◌≡◌, ◌∷◌, [], ◌++◌, take}
use Rattle.std.specs.List.{flat_map}
use Rattle.std.specs.String.{string_bytes}
use Rattle.session_text.specs.TracePrints.{held_text, words_text}
use Rattle.session_text.proofs.print.print_state.Given as goal

abbrev pub invariant-loop-held : goal.invariant-loop-held
invariant-loop-held l =
    string_bytes l.text ≡ string_bytes l.fn.text ++ (words_text l.state.words
    ++ flat_map (λ held. held_text held ++ (10 ∷ [])) (take l.held-index l.state.held))
