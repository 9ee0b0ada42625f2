-- One line more has been printed.
-- What is left to print loses its first line, which now stands at the end of the text.
use Rattle.std.proofs.Common.{◌∙◌, sym, ap, ◌≡◌, ◌+◌, ◌<◌, List, ◌∷◌, ◌++◌, ℕ, suc, add-one, append_assoc, length, drop, drop-cons, get_or}
use Rattle.text_formats.specs.declared.session_print.Line.{Line}
use Rattle.text_formats.specs.SessionPrints.{line_text, lines_text}

pub told_on : (lines : List Line) (i : ℕ) (line : Line) (n : ℕ) (then new : List ℕ) → i < length lines → line ≡ get_or lines i line
    → new ≡ then ++ line_text n line → new ++ lines_text (n + 1) (drop (i + 1) lines) ≡ then ++ lines_text n (drop i lines)
told_on lines i line n then new lt at is =
    let left : drop i lines ≡ line ∷ drop (i + 1) lines =
    drop-cons lines i line lt ∙ ap (λ x. x ∷ drop (suc i) lines) (sym at) ∙ ap (λ j. line ∷ drop j lines) (sym (add-one i)) in
    ap (λ (z : List ℕ). z ++ lines_text (n + 1) (drop (i + 1) lines)) is
    ∙ append_assoc then (line_text n line) (lines_text (n + 1) (drop (i + 1) lines))
    ∙ ap (λ xs. then ++ lines_text n xs) (sym left)
