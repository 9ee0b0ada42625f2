-- What events make of clients, and of the world on which their sessions run: a session's next request is asked as its last is answered.
use Rattle.std.specs.Prelude.{◌≡◌, ℕ, List, [], ◌∷◌, ◌++◌, Option, Some, None, if◌then◌else◌}
use Rattle.tx_machine.specs.World.{put}
use Rattle.seq_model.specs.declared.call.Reply.{Reply}
use Rattle.seq_model.specs.declared.event.Answer.TheVariants as answer
use Rattle.seq_model.specs.declared.event.Event.{Event}
use Rattle.seq_model.specs.declared.event.Event.TheVariants as event
use Rattle.seq_model.specs.declared.event.Notice.{Notice}
use Rattle.seq_model.specs.declared.event.Notice.TheVariants.{Answered, Refused}
use Rattle.seq_model.specs.declared.event.Request.TheVariants as request
use Rattle.seq_model.specs.declared.refusal.Refusal.{Refusal}
use Rattle.seq_model.specs.declared.refusal.Refusal.TheVariants.{NoSuch, NotIdle}
use Rattle.step_core.specs.Shown.{is_actor}
use Rattle.replay_log.specs.Contents.{Block}
use Rattle.replay_log.specs.Worlds.{Seat, Stage, Open, happens}
use Rattle.vac_model.specs.declared.action.Action.{Action}
use Rattle.vac_model.specs.declared.action.Action.TheVariants.{QueryBill}
use Rattle.vac_model.specs.Actions.{IsAllowed}
use Rattle.vac_model.specs.Holdings.{Holdings}
use Rattle.seq_model.specs.Programs.{Asks, Answers, GivesUp, after, replies_of}
use Rattle.client_sessions.specs.declared.entry.Entry.{Entry}
use Rattle.client_sessions.specs.Sessions.{SessionProgram, session}
use Rattle.vacation_core.specs.ClientWorlds.{at_idle}
use Rattle.vacation_core.specs.Histories.{History, action_in, later, world_in}
use Rattle.vacation_core.specs.declared.events.VacEvent.{VacEvent}
use Rattle.vacation_core.specs.declared.events.VacEvent.TheVariants.{Start, Step, Starve}

-- The result of events: the turns that the world has taken; why a client's session aborted its transaction last, where a call of it was
-- refused; the sessions that ended without a commit and why, in the order of their ending; and whose sessions aborted on their replies.
pub record Play : Type 0 where
  pub history : History
  pub faults : ℕ → Option Refusal
  pub aborted : List (ℕ × Refusal)
  pub given_up : List ℕ

-- the seat of actor a
abbrev pub seat_in : ℕ → Play → Seat Entry
seat_in a p = (world_in p.history).seats a

-- what an event of the world answers
abbrev pub told : Event Entry → Play → Notice Entry
told e p = (happens (world_in p.history) e).1

-- and the turn that it is, for the action that its actor's transaction is to do
abbrev pub turned : Event Entry → Action → Play → Play
turned e action p = record p { history = later p.history ((e, action) ∷ []) }

-- the transaction of actor a continues with an event of its own
abbrev pub moved : ℕ → Event Entry → Play → Play
moved a e p = turned e (action_in a p.history) p

-- a session ends without a commit
abbrev pub ends : ℕ → Refusal → Play → Play
ends a cause p = record p { aborted = p.aborted ++ (a, cause) ∷ [] }

abbrev pub ends_for : ℕ → Option Refusal → Play → Play
ends_for a None p = p
ends_for a (Some cause) p = ends a cause p

-- a call was refused, so its session aborts its transaction
abbrev pub aborts : ℕ → Refusal → Play → Play
aborts a cause p =
    record (moved a (event.Ask a request.Abort) p) { faults = put p.faults a (Some cause) }

-- the result of a call by what is answered to it at once: its session continues with the reply, or aborts its transaction, or waits
abbrev pub if_replied : ℕ → Notice Entry → (Reply Entry → Play) → Play → Play
if_replied a (Answered b (answer.Replied r)) next p = next r
if_replied a (Refused b cause) next p = aborts a cause p
if_replied a n next p = p

-- the session of actor a, of which this is left, asks its next request, and, as long as each is answered at once, the one after it
abbrev pub asks_on : ℕ → SessionProgram → Play → Play
asks_on a (Asks call next) p =
    let e = event.Ask a (request.Call call) in
    if_replied a (told e p) (λ r. asks_on a (next r) (moved a e p)) (moved a e p)
asks_on a (Answers x) p = moved a (event.Ask a request.Commit) p
asks_on a GivesUp p = record p { given_up = p.given_up ++ a ∷ [] }

-- what is left of it
abbrev pub left_of : ℕ → Play → SessionProgram
left_of a p = after (session (action_in a p.history)) (replies_of (seat_in a p).calls)

abbrev pub at_open : {X : Type 0} → Stage Entry → X → X → X
at_open Open x y = x
at_open stage x y = y

-- what a client does that is answered this
abbrev pub hears : ℕ → Notice Entry → Play → Play
hears a (Answered b (answer.Begun rv)) p = asks_on a (left_of a p) p
hears a (Answered b (answer.Replied r)) p = asks_on a (left_of a p) p
hears a (Answered b answer.Aborted) p = ends_for a (p.faults a) p
hears a (Refused b cause) p = at_open (seat_in a p).stage (aborts a cause p) (ends a cause p)
hears a n p = p

-- ---- events

-- a step of actor a, or a failed allocation
abbrev pub IsMoveOf : ℕ → Event Entry → Type 0
IsMoveOf a (event.Step b) = b ≡ a
IsMoveOf a (event.Starve b) = b ≡ a
IsMoveOf a e = ⊥

-- an event of a session that is under way; without one nothing happens
abbrev pub takes : ℕ → Event Entry → Play → Play
takes a e p = at_idle (seat_in a p).stage p (hears a (told e p) (moved a e p))

-- the same for any number; where there is no such actor nothing happens
abbrev pub takes_if_actor : ℕ → Event Entry → Play → Play
takes_if_actor a e p = if is_actor a then takes a e p else p

-- a session begins where none is under way
abbrev pub begins : ℕ → Action → Play → Play
begins a action p =
    at_idle (seat_in a p).stage (record (turned (event.Ask a request.Begin) action p) { faults = put p.faults a None }) (ends a NotIdle p)

abbrev pub played : Play → VacEvent → Play
played p (Start a action) = if is_actor a then begins a action p else ends a NoSuch p
played p (Step a) = takes_if_actor a (event.Step a) p
played p (Starve a) = takes_if_actor a (event.Starve a) p

abbrev pub played_all : Play → List VacEvent → Play
played_all p [] = p
played_all p (e ∷ es) = played_all (played p e) es

-- nothing has happened yet, on these tables
abbrev pub unplayed : List Block → Holdings → Play
unplayed blocks tables =
    record {
      history = record { blocks = blocks; clock = 0; tables = tables; actions = λ a. QueryBill 0; turns = [] };
      faults = λ a. None;
      aborted = [];
      given_up = [];
    }

-- an action that is begun is allowed
abbrev pub MayHappen : VacEvent → Type 0
MayHappen (Start a action) = IsAllowed action
MayHappen e = Unit {0}

abbrev pub AreAllowed : List VacEvent → Type 0
AreAllowed [] = Unit {0}
AreAllowed (e ∷ es) = MayHappen e × AreAllowed es
