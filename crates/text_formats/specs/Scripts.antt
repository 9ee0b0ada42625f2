-- The grammar of whole scripts: lines, each ended by a line feed, of tokens with one space between.
use Rattle.std.specs.Prelude.{◌≡◌, ℕ, List, [], ◌∷◌, ◌++◌, Option, Some, None, ⊤}
use Rattle.std.specs.Str.{IsUtf8}
use Rattle.seq_model.specs.declared.refusal.Refusal.{Refusal}
use Rattle.seq_model.specs.declared.refusal.Refusal.TheVariants.{BadText, Memory as OutOfMemory}
use Rattle.text_formats.specs.declared.script.Script.{Script}
use Rattle.text_formats.specs.declared.script_line.ScriptLine.{ScriptLine}
use Rattle.text_formats.specs.declared.script_line.ScriptLine.TheVariants as line
use Rattle.text_formats.specs.declared.script_parser.Part.{Part}
use Rattle.text_formats.specs.declared.script_parser.Part.TheVariants as part
use Rattle.text_formats.specs.ScriptLines.{IsLine}
use Rattle.text_formats.specs.Cuts.{pieces, tokens}
use Rattle.text_formats.specs.Readings.{IsBad, Reads}

-- The parts of a script come in their order: where a line may stand, the first part that the next line may belong
-- to. Words and clock come once.
abbrev pub part_behind : Part → ScriptLine → Option Part
part_behind part.Words (line.Words values) = Some part.Clock
part_behind part.Words (line.Clock clock) = Some part.Collections
part_behind part.Clock (line.Clock clock) = Some part.Collections
part_behind part.Words (line.Holds collection) = Some part.Collections
part_behind part.Clock (line.Holds collection) = Some part.Collections
part_behind part.Collections (line.Holds collection) = Some part.Collections
part_behind at (line.Event event) = Some part.Events
part_behind at other = None

-- what a line adds to a script
abbrev pub with_line : Script → ScriptLine → Script
with_line script (line.Words values) = record script { words = values }
with_line script (line.Clock clock) = record script { clock = clock }
with_line script (line.Holds collection) = record script { collections = script.collections ++ collection ∷ [] }
with_line script (line.Event event) = record script { lines = script.lines ++ event ∷ [] }

abbrev pub nothing : Script
nothing = record { words = []; clock = 0; collections = []; lines = [] }

-- these bytes are this line, which may stand here
pub record IsNext (at : Part) (bytes : List ℕ) (read : ScriptLine) (behind : Part) : Type 0 where
  pub utf8 : IsUtf8 bytes
  pub spelled : IsLine (tokens bytes) read
  pub in_order : part_behind at read ≡ Some behind

abbrev pub IsScriptText : List ℕ → Script → Type 0
IsScriptText text script = Reads IsNext with_line part.Words nothing (pieces text) script

-- the line with this number, counted from 1, is the first that is wrong
abbrev pub IsBadLine : List ℕ → ℕ → Type 0
IsBadLine text n = IsBad IsNext part.Words (pieces text) n

-- why a text is not read: a line is outside the grammar, or an allocation failed
abbrev pub IsUnreadable : List ℕ → Refusal → Type 0
IsUnreadable text (BadText line) = IsBadLine text line
IsUnreadable text OutOfMemory = ⊤
IsUnreadable text refusal = ⊥
