-- Reading a session file line after line. Where a line may stand depends on what has been read; so what has been read is the place, too, at
-- which the next line stands.
use Rattle.std.proofs.Common.{rules, refl, sym, ap, ◌∙◌, ◌≡◌, ℕ, List, [], ◌∷◌, length, IfSome, Option, Some, None}
use Rattle.std.proofs.lemmas.List.{nil_from_length}
use Rattle.text_formats.specs.declared.session_line.SessionLine.{SessionLine}
use Rattle.text_formats.specs.declared.session_parser.Sessions.{Sessions}
use Rattle.text_formats.specs.Sessions.{IsNext, IsNextLine, ReadsOn, with_line}
use Rattle.text_formats.specs.Cuts.{pieces}

same_line : (a b : SessionLine) → Some a ≡ Some b → b ≡ a
same_line a b e = search (rules, e)

pub no_next : (s : Sessions) (bytes : List ℕ) (r : Option SessionLine) → r ≡ None
    → ((line : SessionLine) → IsNextLine s bytes line → r ≡ Some line)
    → (line : SessionLine) (behind : Sessions) → IsNext s bytes line behind → ⊥
no_next s bytes r none only line behind next = search (rules, sym none ∙ only line next.0)

-- the line as which r was read, and no other
pub next_line : (s : Sessions) (bytes : List ℕ) (r : Option SessionLine) (line : SessionLine) → r ≡ Some line
    → IfSome r (IsNextLine s bytes) → IsNextLine s bytes line
next_line s bytes r line some found = rw some at found

pub next_only : (s : Sessions) (bytes : List ℕ) (r : Option SessionLine) (line : SessionLine) (behind : Sessions) → r ≡ Some line
    → behind ≡ with_line s line → ((l : SessionLine) → IsNextLine s bytes l → r ≡ Some l)
    → (l : SessionLine) (b : Sessions) → IsNext s bytes l b → (l ≡ line) × (b ≡ behind)
next_only s bytes r line behind some is only l b next =
    let same : l ≡ line = same_line line l (sym some ∙ only l next.0) in
    (same, next.1 ∙ ap (with_line s) same ∙ sym is)

-- where nothing is left, what has been read is the whole
pub read_whole : (left : List ℕ) (s : Sessions) → pieces left ≡ left ∷ [] → length left ≡ 0 → ReadsOn s (pieces left) s
read_whole left s uncut none = rw uncut (nil_from_length left none, refl)
