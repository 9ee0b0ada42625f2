-- Which requests an actor may be asked where it stands, and why the others are refused.
use Rattle.std.specs.Prelude.{ℕ, Bool, true, false, Option, Some, None, [], ◌∷◌, length, nat_lt, not, ◌&&◌, if◌then◌else◌}
use Rattle.tx_sets.specs.declared.access_set.TheConstants.{LOCATION_LIMIT}
use Rattle.tx_sets.specs.Entries.{Entries, lookup}
use Rattle.tx_machine.specs.Actor.{Place, Actor}
use Rattle.tx_machine.specs.Actor as machine
use Rattle.tx_machine.specs.Requests.{Request, AskBegin, AskBeginRead, AskLock, AskStore, AskRelease, AskCancel, AskAbort, AskClose}
use Rattle.tx_machine.specs.Requests.{AskRead, AskWrite}
use Rattle.step_core.specs.declared.phase.Phase.{Phase}
use Rattle.step_core.specs.declared.phase.Phase.TheVariants.{Idle, Reader, Writer, Waiting, Locking, Locked, Broken, Stored, Ended, Busy}
use Rattle.step_core.specs.declared.answer.WordRefusal.{WordRefusal}
use Rattle.step_core.specs.declared.answer.WordRefusal.TheVariants.{NoSuch, TooLong, NotIdle, NoTransaction}

-- an open transaction is a reader until it writes
abbrev pub open_phase : Entries → Phase
open_phase [] = Reader
open_phase (e ∷ es) = Writer

-- a cancel is done when no lock is left
abbrev pub undo_phase : Entries → Phase
undo_phase [] = Ended
undo_phase (e ∷ es) = Busy

-- the phase of an actor at a place
abbrev pub phase_of : Actor → Place → Phase
phase_of x machine.Idle = Idle
phase_of x machine.Begin = Waiting
phase_of x machine.Open = open_phase x.writes
phase_of x (machine.Look l) = Waiting
phase_of x (machine.Fetch l k) = Waiting
phase_of x (machine.Again l k v) = Waiting
phase_of x (machine.Lock ls) = Locking
phase_of x (machine.Take l k ls) = Locking
phase_of x (machine.Check []) = Locked
phase_of x (machine.Check (l ∷ ls)) = Locking
phase_of x machine.Broken = Broken
phase_of x machine.First = Busy
phase_of x (machine.Store []) = Stored
phase_of x (machine.Store (l ∷ ls)) = Busy
phase_of x machine.Release = Busy
phase_of x machine.Undo = undo_phase x.held
phase_of x machine.Leave = Busy
phase_of x machine.Close = Waiting

-- what may be asked
abbrev pub allows : Phase → Request → Bool
allows Idle AskBegin = true
allows Idle AskBeginRead = true
allows Reader (AskRead l) = true
allows Reader (AskWrite l v) = true
allows Reader AskClose = true
allows Reader AskAbort = true
allows Writer (AskRead l) = true
allows Writer (AskWrite l v) = true
allows Writer AskLock = true
allows Writer AskAbort = true
allows Waiting AskAbort = true
allows Locking AskCancel = true
allows Locked AskStore = true
allows Locked AskCancel = true
allows Broken AskCancel = true
allows Stored AskRelease = true
allows Ended AskAbort = true
allows phase request = false

-- why anything else is refused
abbrev pub wrong_phase : Phase → Request → WordRefusal
wrong_phase Waiting request = NotIdle
wrong_phase Locking request = NotIdle
wrong_phase Busy request = NotIdle
wrong_phase phase AskBegin = NotIdle
wrong_phase phase AskBeginRead = NotIdle
wrong_phase phase request = NoTransaction

-- what opens a transaction
abbrev pub opens : Request → Bool
opens AskBegin = true
opens AskBeginRead = true
opens request = false

-- what gives back or ends takes no memory
abbrev pub takes_memory : Request → Bool
takes_memory AskRelease = false
takes_memory AskCancel = false
takes_memory AskAbort = false
takes_memory request = true

-- a set takes a new location below its limit
abbrev pub if_full : Entries → Option WordRefusal
if_full es = if nat_lt (length es) LOCATION_LIMIT then None else Some TooLong

-- a location that is in one of the sets is not new
abbrev pub if_new : Option ℕ → Option ℕ → Entries → Option WordRefusal
if_new (Some v) seen es = None
if_new None (Some v) es = None
if_new None None es = if_full es

-- why a read or a write is refused, with n locations; a declared reader has no write
abbrev pub location_refusal : ℕ → Actor → Request → Option WordRefusal
location_refusal n x (AskRead l) = if nat_lt l n then if_new (lookup x.writes l) (lookup x.reads l) x.reads else Some NoSuch
location_refusal n x (AskWrite l v) = if nat_lt l n && not x.declared then if_new (lookup x.writes l) None x.writes else Some NoSuch
location_refusal n x request = None

-- why a request is refused at a place, memory aside
abbrev pub refusal_at : ℕ → Actor → Place → Request → Option WordRefusal
refusal_at n x p request =
    if allows (phase_of x p) request then location_refusal n x request else Some (wrong_phase (phase_of x p) request)
