-- What the lines of a script make happen in its world, and what is answered.
use Rattle.std.specs.Prelude.{◌≡◌, ◌⊎◌, ℕ, zero, suc, Bool, true, false, List, [], ◌∷◌, ◌++◌, length, get_or, set, replicate, flat_map, ⊤}
use Rattle.seq_model.specs.declared.event.Event.{Event}
use Rattle.seq_model.specs.declared.event.Event.TheVariants as event
use Rattle.seq_model.specs.declared.event.Notice.{Notice}
use Rattle.seq_model.specs.declared.event.Notice.TheVariants.{Quiet}
use Rattle.seq_model.specs.declared.limits.TheConstants.{SEATS}
use Rattle.text_formats.specs.declared.script.EventLine.{EventLine}
use Rattle.text_formats.specs.declared.script.EventLine.TheVariants.{Ask, Do, Steps, Starve, Alternate}
use Rattle.text_formats.specs.declared.script.Script.{Script}
use Rattle.text_formats.specs.declared.script.TheConstants.{STEP_LIMIT}
use Rattle.session_text.specs.declared.run.ScriptRun.{ScriptRun}
use Rattle.session_text.specs.declared.run.Transcript.{Transcript}
use Rattle.step_world.specs.declared.parts.Parts.{Parts}
use Rattle.step_world.specs.Feeds.{fed_all}
use Rattle.step_world.specs.Traces.{IsTraceOf}
use Rattle.session_text.specs.Scripts.{world_in}
use Rattle.session_text.specs.Worlds.{Leads, told_by}

-- ---- what is answered
abbrev pub tells_nothing : Notice ℕ → Bool
tells_nothing Quiet = true
tells_nothing notice = false

-- a notice, unless it is Quiet
abbrev pub telling : Notice ℕ → List (Notice ℕ)
telling Quiet = []
telling notice = notice ∷ []

-- the notices other than Quiet
abbrev pub heard : List (Notice ℕ) → List (Notice ℕ)
heard notices = flat_map telling notices

-- events, where they are kept
abbrev pub kept_of : Bool → List (Event ℕ) → List (Event ℕ)
kept_of true es = es
kept_of false es = []

abbrev pub nothing_heard : Bool → Transcript
nothing_heard keeps = record { notices = []; events = []; keeps = keeps }

abbrev pub with_event : Transcript → Event ℕ → Transcript
with_event t e = record { notices = t.notices; events = t.events ++ kept_of t.keeps (e ∷ []); keeps = t.keeps }

-- ---- which actors have an unanswered request, by actor; the first place is no actor's

abbrev pub nobody : List Bool
nobody = replicate SEATS false

abbrev pub waits : List Bool → ℕ → Bool
waits waiting actor = get_or waiting actor false

abbrev pub whose : Event ℕ → ℕ
whose (event.Ask actor request) = actor
whose (event.Step actor) = actor
whose (event.Starve actor) = actor

abbrev pub is_request : Event ℕ → Bool
is_request (event.Ask actor request) = true
is_request e = false

-- a request that answered nothing is unanswered, until a step or a failed allocation of its actor answers something
abbrev pub noted : List Bool → ℕ → Bool → Bool → List Bool
noted waiting actor true true = set waiting actor true
noted waiting actor false false = set waiting actor false
noted waiting actor asks quiet = waiting

abbrev pub waiting_then : List Bool → Event ℕ → Bool → List Bool
waiting_then waiting e quiet = noted waiting (whose e) (is_request e) quiet

abbrev pub waiting_after : List Bool → List (Event ℕ) → List (Notice ℕ) → List Bool
waiting_after waiting (e ∷ es) (notice ∷ told) = waiting_after (waiting_then waiting e (tells_nothing notice)) es told
waiting_after waiting es told = waiting

-- ---- the events of a line, and what each of them answers

-- at most n steps of an actor, up to the first that answers something
abbrev pub AreSteps : ℕ → ℕ → List (Event ℕ) → List (Notice ℕ) → Type 0
AreSteps actor zero [] [] = ⊤
AreSteps actor (suc n) (e ∷ es) (Quiet ∷ told) = (e ≡ event.Step actor) × AreSteps actor n es told
AreSteps actor (suc n) (e ∷ es) (notice ∷ told) = (e ≡ event.Step actor) × (es ≡ []) × (told ≡ [])
AreSteps actor n es told = ⊥

-- a request, and where it answers nothing the steps of its actor
abbrev pub IsDone : ℕ → Event ℕ → List (Event ℕ) → List (Notice ℕ) → Type 0
IsDone actor ask (e ∷ es) (Quiet ∷ told) = (e ≡ ask) × AreSteps actor STEP_LIMIT es told
IsDone actor ask (e ∷ es) (notice ∷ told) = (e ≡ ask) × (es ≡ []) × (told ≡ [])
IsDone actor ask es told = ⊥

-- a step of an actor with an unanswered request
abbrev pub IsStepOf : List Bool → ℕ → Event ℕ → Type 0
IsStepOf waiting actor e = (waits waiting actor ≡ true) × (e ≡ event.Step actor)

-- at most n steps of two actors in turn: one without an unanswered request is passed over, and there are no more where neither has one
unfoldable pub AreTurns : ℕ → ℕ → ℕ → List Bool → List (Event ℕ) → List (Notice ℕ) → Type 0
AreTurns zero first second waiting [] [] = ⊤
AreTurns (suc n) first second waiting [] [] = (waits waiting first ≡ false) × (waits waiting second ≡ false)
AreTurns (suc n) first second waiting (e ∷ es) (notice ∷ told) =
    (IsStepOf waiting first e × AreTurns n second first (waiting_then waiting e (tells_nothing notice)) es told)
    ⊎ ((waits waiting first ≡ false) × (IsStepOf waiting second e
    × AreTurns n first second (waiting_then waiting e (tells_nothing notice)) es told))
AreTurns n first second waiting es told = ⊥

abbrev pub IsPlay : List Bool → EventLine → List (Event ℕ) → List (Notice ℕ) → Type 0
IsPlay waiting (Ask actor request) es told = es ≡ event.Ask actor request ∷ []
IsPlay waiting (Do actor request) es told = IsDone actor (event.Ask actor request) es told
IsPlay waiting (Steps actor n) es told = AreSteps actor n es told
IsPlay waiting (Starve actor) es told = es ≡ event.Starve actor ∷ []
IsPlay waiting (Alternate first second) es told = AreTurns STEP_LIMIT first second waiting es told

-- ---- the events of all lines

-- the events come first, then others, and so do the notices
pub record IsSplit (es es-first es-then : List (Event ℕ)) (told told-first told-then : List (Notice ℕ)) : Type 0 where
  pub events : es ≡ es-first ++ es-then
  pub notices : told ≡ told-first ++ told-then
  pub paired : length told-first ≡ length es-first

-- one line after the other
abbrev pub ArePlays : List Bool → List EventLine → List (Event ℕ) → List (Notice ℕ) → Type 0
ArePlays waiting [] es told = (es ≡ []) × (told ≡ [])
ArePlays waiting (line ∷ lines) es told =
    (es-first : List (Event ℕ)) × ((es-then : List (Event ℕ)) × ((told-first : List (Notice ℕ)) × ((told-then : List (Notice ℕ))
    × (IsSplit es es-first es-then told told-first told-then
    × (IsPlay waiting line es-first told-first × ArePlays (waiting_after waiting es-first told-first) lines es-then told-then)))))

-- ---- in a world

-- events of a kind have led from parts of a world to others, what they answered was added to the answers before, and they to the events
-- before, where these are kept
pub record HasPlayed (IsKind : List (Event ℕ) → List (Notice ℕ) → Type 0) (c : Parts ℕ) (before : Transcript) (d : Parts ℕ)
    (after : Transcript) : Type 0 where
  pub events : List (Event ℕ)
  pub told : List (Notice ℕ)
  pub kind : IsKind events told
  pub leads : Leads c events told d
  pub heard-of : after.notices ≡ before.notices ++ heard told
  pub kept : after.events ≡ before.events ++ kept_of before.keeps events
  pub keeps : after.keeps ≡ before.keeps

-- events of a kind, and who has an unanswered request before and after them
abbrev pub Keeps : (List (Event ℕ) → List (Notice ℕ) → Type 0) → List Bool → List Bool → List (Event ℕ) → List (Notice ℕ) → Type 0
Keeps IsKind before after es told = IsKind es told × (after ≡ waiting_after before es told)

-- one event, and whether it answered nothing
abbrev pub IsOne : Event ℕ → Bool → List (Event ℕ) → List (Notice ℕ) → Type 0
IsOne e quiet es told = (notice : Notice ℕ) × ((es ≡ e ∷ []) × ((told ≡ notice ∷ []) × (quiet ≡ tells_nothing notice)))

-- a run is the result of these events in the world that the script opens, and they are those of its lines: all answers, and the trace
pub record IsRunBy (script : Script) (es : List (Event ℕ)) (made : ScriptRun) : Type 0 where
  pub plays : ArePlays nobody script.lines es (told_by (world_in script made.opening) es)
  pub notices : made.notices ≡ heard (told_by (world_in script made.opening) es)
  pub trace : IsTraceOf (fed_all (world_in script made.opening) es) made.trace

abbrev pub IsRunOf : Script → ScriptRun → Type 0
IsRunOf script made = (es : List (Event ℕ)) × IsRunBy script es made

-- a run, and the events that it is the result of, where they are kept
abbrev pub IsKeptRun : Script → Bool → ScriptRun × List (Event ℕ) → Type 0
IsKeptRun script keeps made = (es : List (Event ℕ)) × (IsRunBy script es made.0 × (keeps ≡ true → made.1 ≡ es))
