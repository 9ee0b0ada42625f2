-- The text of a script.
use Rattle.std.specs.Prelude.{◌==◌, ℕ, if◌then◌else◌, nat_lt, List, [], ◌∷◌, ◌++◌, codes, flat_map}
use Rattle.std.specs.Fmt.{decimal}
use Rattle.std.specs.FinMap as map
use Rattle.seq_model.specs.declared.held.Held.{Held}
use Rattle.seq_model.specs.declared.held.Held.TheVariants.{Map, Bag, Pq, Queue}
use Rattle.text_formats.specs.declared.script.Collection.{Collection}
use Rattle.text_formats.specs.declared.script.EventLine.{EventLine}
use Rattle.text_formats.specs.declared.script.EventLine.TheVariants.{Ask, Do, Steps, Starve, Alternate}
use Rattle.text_formats.specs.declared.script.Script.{Script}
use Rattle.text_formats.specs.declared.script.TheConstants.{STEP_LIMIT}
use Rattle.session_text.specs.RequestPrints.{request_text}
use Rattle.session_text.specs.TracePrints.{number_text, pair_text, words_text}

-- ---- its header

-- none where the clock is 0
abbrev pub clock_text : ℕ → List ℕ
clock_text clock = if nat_lt 0 clock then codes "clock " ++ (decimal clock ++ (10 ∷ [])) else []

abbrev pub contents_text : ℕ → Held ℕ → List ℕ
contents_text stripes (Map m) = codes "map " ++ (decimal stripes ++ flat_map pair_text (map.entries m))
contents_text stripes (Bag m) = codes "bag " ++ (decimal stripes ++ flat_map pair_text (map.entries m))
contents_text stripes (Pq m) = codes "pq " ++ (decimal stripes ++ flat_map pair_text (map.entries m))
contents_text stripes (Queue head items) = codes "queue " ++ (decimal stripes ++ flat_map number_text items)

abbrev pub collection_text : Collection → List ℕ
collection_text c = contents_text c.stripes c.held ++ (10 ∷ [])

-- ---- its events

abbrev pub steps_text : ℕ → List ℕ
steps_text n =
    if n == 1 then codes " step" else (if n == STEP_LIMIT then codes " go" else codes " step " ++ decimal n)

abbrev pub line_text : EventLine → List ℕ
line_text (Ask actor request) = decimal actor ++ (codes " " ++ (request_text request ++ (10 ∷ [])))
line_text (Do actor request) = decimal actor ++ (codes " do " ++ (request_text request ++ (10 ∷ [])))
line_text (Steps actor n) = decimal actor ++ (steps_text n ++ (10 ∷ []))
line_text (Starve actor) = decimal actor ++ (codes " starve" ++ (10 ∷ []))
line_text (Alternate first second) = codes "alt " ++ (decimal first ++ (codes " " ++ (decimal second ++ (10 ∷ []))))

-- ---- the whole

abbrev pub script_text : Script → List ℕ
script_text script =
    words_text script.words
    ++ (clock_text script.clock ++ (flat_map collection_text script.collections ++ flat_map line_text script.lines))
