-- The grammar of whole session files: items first, and then a session a line.
use Rattle.std.specs.Prelude.{◌≡◌, ℕ, List, [], ◌∷◌, ◌++◌, None, ⊤}
use Rattle.std.specs.Ordering.{nat_cmp}
use Rattle.std.specs.FinMap as map
use Rattle.std.specs.Str.{IsUtf8}
use Rattle.seq_model.specs.declared.refusal.Refusal.{Refusal}
use Rattle.seq_model.specs.declared.refusal.Refusal.TheVariants.{BadText, Memory as OutOfMemory}
use Rattle.vac_model.specs.declared.each.Each.{Each}
use Rattle.vac_model.specs.declared.item.Kind.{Kind}
use Rattle.vac_model.specs.declared.item.Item.{Item}
use Rattle.vac_model.specs.declared.action.Action.{Action}
use Rattle.vac_model.specs.Holdings as holdings
use Rattle.vac_model.specs.Holdings.{Holdings, of_kind, with_kind, everywhere}
use Rattle.text_formats.specs.declared.session_line.SessionLine.{SessionLine}
use Rattle.text_formats.specs.declared.session_line.SessionLine.TheVariants.{Have, Does}
use Rattle.text_formats.specs.declared.session_parser.Sessions.{Sessions}
use Rattle.text_formats.specs.Cuts.{pieces, tokens}
use Rattle.text_formats.specs.Readings.{IsBad, Reads}
use Rattle.text_formats.specs.SessionLines.{IsLine}

abbrev pub nothing : Sessions
nothing = record { items = everywhere map.empty; actions = [] }

abbrev pub with_item : Kind → ℕ → Item → Sessions → Sessions
with_item k id i s = record s { items = with_kind k (map.insert (of_kind k s.items) id i) s.items }

-- items come before all sessions, each kind and id once
abbrev pub MayStand : Sessions → SessionLine → Type 0
MayStand s (Have kind id total price) = (s.actions ≡ []) × (map.get (of_kind kind s.items) id ≡ None)
MayStand s (Does action) = ⊤

-- what a line adds
abbrev pub with_line : Sessions → SessionLine → Sessions
with_line s (Have kind id total price) = with_item kind id (record { total = total; used = 0; free = total; price = price }) s
with_line s (Does action) = record s { actions = s.actions ++ action ∷ [] }

-- these bytes are this line, which may stand here
pub record IsNextLine (s : Sessions) (bytes : List ℕ) (line : SessionLine) : Type 0 where
  pub utf8 : IsUtf8 bytes
  pub spelled : IsLine (tokens bytes) line
  pub in_order : MayStand s line

-- where a line may stand depends on what has been read before it
abbrev pub IsNext : Sessions → List ℕ → SessionLine → Sessions → Type 0
IsNext s bytes line behind = IsNextLine s bytes line × (behind ≡ with_line s line)

-- the tables that open with these items, of which all units are free
abbrev pub opening : Each (map.FinMap nat_cmp Item) → Holdings
opening items = record holdings.nothing { items = items }

abbrev pub ReadsOn : Sessions → List (List ℕ) → Sessions → Type 0
ReadsOn s lines whole = Reads IsNext with_line s s lines whole

-- the text says that there are these tables, and then these actions
abbrev pub IsSessionText : List ℕ → Holdings → List Action → Type 0
IsSessionText text tables actions =
    (whole : Sessions) × ReadsOn nothing (pieces text) whole × (tables ≡ opening whole.items) × (actions ≡ whole.actions)

-- the line with this number, counted from 1, is the first that is wrong
abbrev pub IsBadLine : List ℕ → ℕ → Type 0
IsBadLine text n = IsBad IsNext nothing (pieces text) n

-- why a text is not read: a line is outside the grammar, or an allocation failed
abbrev pub IsUnreadable : List ℕ → Refusal → Type 0
IsUnreadable text (BadText line) = IsBadLine text line
IsUnreadable text OutOfMemory = ⊤
IsUnreadable text refusal = ⊥
