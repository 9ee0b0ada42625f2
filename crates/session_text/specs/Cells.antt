-- What stands in a lane for an event.
use Rattle.std.specs.Prelude.{ℕ, ◌+◌, ◌/◌, ◌%◌, ◌==◌, if◌then◌else◌, List, [], ◌∷◌, ◌++◌, codes}
use Rattle.std.specs.Fmt.{decimal}
use Rattle.seq_model.specs.declared.event.Event.{Event}
use Rattle.seq_model.specs.declared.event.Event.TheVariants.{Ask, Step, Starve}
use Rattle.seq_model.specs.declared.event.Notice.{Notice}
use Rattle.seq_model.specs.declared.event.Notice.TheVariants.{Quiet, Answered, Refused}
use Rattle.seq_model.specs.Texts.{refusal_text}
use Rattle.session_text.specs.TracePrints.{answer_text}
use Rattle.session_text.specs.RequestPrints.{request_text}
use Rattle.session_text.specs.declared.deed.Deed.{Deed}
use Rattle.session_text.specs.declared.deed.Deed.TheVariants as deed

-- ---- what a step does

-- the version of a lock word, and whether it is locked
abbrev pub lock_text : List ℕ → ℕ → ℕ → List ℕ
lock_text verb location word =
    codes "  " ++ (verb ++ (codes " lock " ++ (decimal location ++ (codes ": v" ++ (decimal (word / 2)
    ++ (if word % 2 == 1 then codes " locked" else []))))))

abbrev pub at_text : List ℕ → ℕ → ℕ → List ℕ
at_text what location value = what ++ (decimal location ++ (codes ": " ++ decimal value))

abbrev pub gate_text : ℕ → List ℕ → List ℕ
gate_text collection how = codes "  store gate " ++ (decimal collection ++ how)

abbrev pub deed_text : Deed → List ℕ
deed_text deed.Nothing = codes "  no step"
deed_text (deed.LoadClock clock) = codes "  load clock: " ++ decimal clock
deed_text (deed.AddClock clock) = codes "  add 1 to clock: " ++ decimal clock
deed_text (deed.LoadLock location word) = lock_text (codes "load") location word
deed_text (deed.TakeLock location word takes) = lock_text (codes "take") location word ++ (if takes then [] else codes ", failed")
deed_text (deed.StoreLock location word) = lock_text (codes "store") location word
deed_text (deed.LoadWord location value) = at_text (codes "  load word ") location value
deed_text (deed.StoreWord location value) = at_text (codes "  store word ") location value
deed_text (deed.LoadEdition location value) = at_text (codes "  load edition ") location value
deed_text (deed.StoreEdition location value) = at_text (codes "  store edition ") location value
deed_text (deed.TryGate collection holder) =
    codes "  try gate " ++ (decimal collection ++ (codes ": " ++
    (if holder == 0 then codes "free" else codes "held by " ++ decimal holder)))
deed_text (deed.CopyAtGate collection) = gate_text collection (codes ": copied")
deed_text (deed.ChangeAtGate collection) = gate_text collection (codes ": changed")
deed_text (deed.PutGate collection) = gate_text collection (codes ": unchanged")

-- ---- an event

abbrev pub event_text : Event ℕ → Deed → List ℕ
event_text (Ask actor r) d = request_text r
event_text (Step actor) d = deed_text d
event_text (Starve actor) d = codes "  out of memory"

-- what is answered, after an arrow
abbrev pub answered_text : Notice ℕ → List ℕ
answered_text Quiet = []
answered_text (Answered actor answer) = codes " -> " ++ answer_text answer
answered_text (Refused actor refusal) = codes " -> " ++ refusal_text refusal
