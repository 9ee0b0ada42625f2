-- Texts that are printed piece by piece.
use Rattle.std.proofs.Common.{◌≡◌, ◌∙◌, refl, sym, ap, ℕ, suc, ◌+◌, ◌-◌, List, [], ◌∷◌, ◌++◌, append_assoc, append-nil, length, arith}
use Rattle.session_text.specs.declared.layout.Layout.{Layout}
use Rattle.session_text.specs.declared.rows.Row.{Row}
use Rattle.session_text.specs.Lanes.{row_text, rows_text, times}

times_more : (n : ℕ) (piece : List ℕ) → times (n + 1) piece ≡ times n piece ++ piece
times_more n piece =
    let next : n + 1 ≡ suc n = omega arith in
    rw next refl

-- a piece more
pub times_on : (n : ℕ) (piece first then new : List ℕ) → new ≡ then ++ piece → then ≡ first ++ times n piece
    → new ≡ first ++ times (n + 1) piece
times_on n piece first then new told has =
    told ∙ ap (λ (z : List ℕ). z ++ piece) has ∙ append_assoc first (times n piece) piece
    ∙ ap (λ (z : List ℕ). first ++ z) (sym (times_more n piece))

-- a row more: what is left to print loses its first row, which is now at the end of the text
pub rows_on : (layout : Layout) (all number : ℕ) (row : Row) (left later : List Row) (then new whole : List ℕ) → left ≡ row ∷ later
    → number ≡ all - length later → new ≡ then ++ row_text layout number row → then ++ rows_text layout all left ≡ whole
    → new ++ rows_text layout all later ≡ whole
rows_on layout all number row left later then new whole at is told has =
    ap (λ (z : List ℕ). z ++ rows_text layout all later) told
    ∙ append_assoc then (row_text layout number row) (rows_text layout all later)
    ∙ ap (λ (k : ℕ). then ++ (row_text layout k row ++ rows_text layout all later)) is
    ∙ ap (λ (rows : List Row). then ++ rows_text layout all rows) (sym at) ∙ has

-- no row is left
pub rows_end : (layout : Layout) (all : ℕ) (left : List Row) (then whole : List ℕ) → length left ≡ 0
    → then ++ rows_text layout all left ≡ whole → then ≡ whole
rows_end layout all [] then whole none has = sym (append-nil then) ∙ has
rows_end layout all (row ∷ rows) then whole none has = cc

-- the head, the rows and what is left out, one after another
pub drawn : (first second third last head rows more : List ℕ) → second ≡ first ++ head → third ≡ second ++ rows → last ≡ third ++ more
    → last ≡ first ++ (head ++ (rows ++ more))
drawn first second third last head rows more one two three =
    three ∙ ap (λ (z : List ℕ). z ++ more) two ∙ ap (λ (z : List ℕ). (z ++ rows) ++ more) one
    ∙ append_assoc (first ++ head) rows more ∙ append_assoc first head (rows ++ more)
