-- The lines of lanes.
use Rattle.std.specs.Prelude.{ℕ, zero, suc, Bool, true, false, ◌+◌, ◌-◌, ◌==◌}
use Rattle.std.specs.Prelude.{◌||◌, if◌then◌else◌, nat_lt, List, [], ◌∷◌, ◌++◌, length, codes}
use Rattle.std.specs.Prelude.{flat_map}
use Rattle.std.specs.Fmt.{decimal}
use Rattle.session_text.specs.declared.layout.Layout.{Layout}
use Rattle.session_text.specs.declared.layout.TheConstants.{NAMED}
use Rattle.session_text.specs.declared.rows.Row.{Row}
use Rattle.session_text.specs.Cells.{answered_text, event_text}
use Rattle.session_text.specs.Plays.{whose}

abbrev pub times : ℕ → List ℕ → List ℕ
times zero piece = []
times (suc n) piece = times n piece ++ piece

abbrev pub spaces : ℕ → List ℕ
spaces n = times n (codes " ")

-- ---- how lanes lie

-- a text of this length fits in a lane
abbrev pub fits : Layout → ℕ → Bool
fits layout n = nat_lt n (layout.width - 1)

-- a line has to name its actor
abbrev pub is_narrow : Layout → Bool
is_narrow layout = nat_lt layout.width NAMED

-- what is left of an empty lane after its bar, and the bar of the next one
abbrev pub gap : Layout → List ℕ
gap layout = spaces (layout.width - 1) ++ codes "|"

-- how many lanes are before that of the actor
abbrev pub lane_in : List ℕ → ℕ → ℕ
lane_in [] actor = 0
lane_in (a ∷ more) actor = if nat_lt a actor then suc (lane_in more actor) else 0

-- ---- the first line
abbrev pub actor_text : Layout → ℕ → List ℕ
actor_text layout actor = (if is_narrow layout then codes "|" else codes "| actor ") ++ decimal actor

abbrev pub name_text : Layout → ℕ → List ℕ
name_text layout actor = actor_text layout actor ++ spaces (layout.width - length (actor_text layout actor))

abbrev pub head_text : Layout → List ℕ
head_text layout = codes "     " ++ (flat_map (name_text layout) layout.actors.items ++ (10 ∷ []))

-- ---- a line in the lane of an actor

-- what is after a text of this length: the rest of its lane, and the empty lanes after it
abbrev pub after_text : Layout → ℕ → ℕ → List ℕ
after_text layout after n =
    if fits layout n then (if nat_lt 0 after then spaces (layout.width - n - 2) ++ (codes "|" ++ times (after - 1) (gap layout)) else [])
    else []

abbrev pub line_text : Layout → List ℕ → ℕ → List ℕ → List ℕ
line_text layout head actor cell =
    let lane = lane_in layout.actors.items actor in
    head ++ (codes " |" ++ (times lane (gap layout) ++ (codes " " ++ (cell
    ++ (after_text layout (length layout.actors.items - lane - 1) (length cell) ++ (10 ∷ []))))))

-- ---- a row

-- a number in four columns
abbrev pub number_text : ℕ → List ℕ
number_text n = spaces (4 - length (decimal n)) ++ decimal n

abbrev pub cell_text : Layout → Row → List ℕ
cell_text layout row =
    (if is_narrow layout then decimal (whose row.event) ++ codes ": " else []) ++ event_text row.event row.deed

-- an answer on a line of its own
abbrev pub below_text : Layout → ℕ → List ℕ → List ℕ
below_text layout actor answer = line_text layout (codes "    ") actor (codes "   " ++ answer)

-- it has one, where it doesn't fit
abbrev pub row_text : Layout → ℕ → Row → List ℕ
row_text layout n row =
    let cell = cell_text layout row in
    let answer = answered_text row.notice in
    let actor = whose row.event in
    if (length answer == 0) || fits layout (length (cell ++ answer)) then line_text layout (number_text n) actor (cell ++ answer)
    else line_text layout (number_text n) actor cell ++ below_text layout actor answer

-- so many rows in all, of which these are the last
abbrev pub rows_text : Layout → ℕ → List Row → List ℕ
rows_text layout all [] = []
rows_text layout all (row ∷ rows) = row_text layout (all - length rows) row ++ rows_text layout all rows

-- how many events have no row
abbrev pub more_text : ℕ → List ℕ
more_text n = if n == 0 then [] else decimal n ++ codes " more are left out\n"

abbrev pub lanes_text : Layout → List Row → ℕ → List ℕ
lanes_text layout rows more = head_text layout ++ (rows_text layout (length rows) rows ++ more_text more)
