-- The running world of clients, and what it has of the play that is the result of events.
use Rattle.std.specs.Prelude.{◌≡◌, ◌≢◌, ◌⊎◌, ℕ, ◌+◌, ◌<◌, ◌≤◌, Bool, true, false, List, [], ◌∷◌, ◌++◌, Option, Some, None, length}
use Rattle.std.specs.Prelude.{slice_get}
use Rattle.seq_model.specs.declared.call.Call.{Call}
use Rattle.seq_model.specs.declared.call.Reply.{Reply}
use Rattle.seq_model.specs.declared.event.Answer.TheVariants as answer
use Rattle.seq_model.specs.declared.event.Notice.{Notice}
use Rattle.seq_model.specs.declared.event.Notice.TheVariants.{Quiet, Answered, Refused}
use Rattle.seq_model.specs.declared.limits.TheConstants.{CALL_LIMIT}
use Rattle.seq_model.specs.declared.refusal.Refusal.{Refusal}
use Rattle.step_core.specs.Shown.{is_actor}
use Rattle.replay_log.specs.Worlds.{Open}
use Rattle.step_world.specs.Parts.{IsWorld}
use Rattle.step_world.specs.declared.opening.TheConstants.{ACTORS}
use Rattle.vac_model.specs.declared.action.Action.{Action}
use Rattle.seq_model.specs.declared.job.Ask.{Ask as Asked}
use Rattle.seq_model.specs.Programs.{Asks, after, replies_of}
use Rattle.client_sessions.specs.declared.entry.Entry.{Entry}
use Rattle.client_sessions.specs.Sessions.{SessionProgram, session}
use Rattle.vacation_core.specs.Histories.{IsLawful, action_in, done_in, world_in}
use Rattle.actor_laws.specs.KnownStages.{KnownStage, Rests, Begins, Stands, Calls, Commits}
use Rattle.actor_laws.specs.KnownStages.{Committed, Ends, CallMoves, IsMistaken, known_stage}
use Rattle.vacation_core.specs.Clients.{asks_next}
use Rattle.vacation_core.specs.Plays.{Play, aborts, asks_on, if_replied, left_of, seat_in}
use Rattle.vacation_core.specs.declared.client.Client.{Client}
use Rattle.vacation_core.specs.declared.client.OpenSession.{OpenSession}
use Rattle.vacation_core.specs.declared.world.VacWorld.{VacWorld}

-- a session of this action is under way, with these replies; or with whatever replies
abbrev pub IsOpenWith : Option OpenSession → Action → Option Refusal → List (Reply Entry) → Type 0
IsOpenWith None action fault replies = ⊥
IsOpenWith (Some o) action fault replies = (o.session ≡ action) × (o.fault ≡ fault) × (o.replies ≡ replies)

abbrev pub IsOpen : Option OpenSession → Action → Option Refusal → Type 0
IsOpen None action fault = ⊥
IsOpen (Some o) action fault = (o.session ≡ action) × (o.fault ≡ fault)

-- What a client keeps that stands so between events: its session, and what it has committed. The last step answers it the commit.
abbrev pub KeepsAt : KnownStage Entry → Client → Action → Option Refusal → List Action → Type 0
KeepsAt Rests c action fault done = (c.current ≡ None) × (c.done ≡ done)
KeepsAt Begins c action fault done = IsOpenWith c.current action fault [] × (c.done ≡ done)
KeepsAt (Stands calls) c action fault done = ⊥
KeepsAt (Calls calls call) c action fault done = IsOpenWith c.current action fault (replies_of calls) × (c.done ≡ done)
KeepsAt (Commits calls) c action fault done = IsOpen c.current action fault × (c.done ≡ done)
KeepsAt Committed c action fault done = IsOpen c.current action fault × (c.done ++ action ∷ [] ≡ done)
KeepsAt Ends c action fault done = IsOpen c.current action fault × (c.done ≡ done)

-- What a client keeps that has just been answered n, and stands so now.
abbrev pub HearsAt : Notice Entry → KnownStage Entry → Client → Action → Option Refusal → List Action → Type 0
HearsAt Quiet to c action fault done = KeepsAt to c action fault done
HearsAt (Answered b (answer.Begun rv)) to c action fault done =
    (to ≡ Stands []) × IsOpenWith c.current action fault [] × (c.done ≡ done)
HearsAt (Answered b (answer.Replied r)) to c action fault done =
    (calls : List (Call Entry × Reply Entry)) × (call : Call Entry) × (to ≡ Stands (calls ++ (call, r) ∷ []))
    × IsOpenWith c.current action fault (replies_of calls) × (c.done ≡ done)
HearsAt (Answered b (answer.Committed n)) to c action fault done =
    (to ≡ Rests) × IsOpen c.current action fault × (c.done ++ action ∷ [] ≡ done)
HearsAt (Answered b answer.Aborted) to c action fault done = (to ≡ Rests) × IsOpen c.current action fault × (c.done ≡ done)
HearsAt (Refused b cause) to c action fault done =
    ((to ≡ Rests) ⊎ ((calls : List (Call Entry × Reply Entry)) × (to ≡ Stands calls) × IsMistaken cause))
    × IsOpen c.current action fault × (c.done ≡ done)

-- The client of actor a, in this play.
pub record IsClient (c : Client) (a : ℕ) (p : Play) : Type 0 where
  pub at : KnownStage Entry
  pub stands : known_stage (seat_in a p) ≡ at
  pub keeps : KeepsAt at c (action_in a p.history) (p.faults a) (done_in a p.history)

-- and once it was answered n
pub record IsHearing (n : Notice Entry) (c : Client) (a : ℕ) (p : Play) : Type 0 where
  pub to : KnownStage Entry
  pub stands : known_stage (seat_in a p) ≡ to
  pub hears : HearsAt n to c (action_in a p.history) (p.faults a) (done_in a p.history)

-- and where it is to ask, after these calls
pub record IsAsking (calls : List (Call Entry × Reply Entry)) (c : Client) (a : ℕ) (p : Play) : Type 0 where
  pub stands : known_stage (seat_in a p) ≡ Stands calls
  pub current : IsOpenWith c.current (action_in a p.history) (p.faults a) (replies_of calls)
  pub done : c.done ≡ done_in a p.history

-- The running world is on the play that is the result of events. No session has aborted on its replies.
pub record IsOn (v : VacWorld) (p : Play) : Type 0 where
  pub lawful : IsLawful p.history
  pub goes_on : p.given_up ≡ []
  pub parts : IsWorld v.world.parts (world_in p.history)
  pub count : length v.clients.items ≡ ACTORS
  pub aborted : v.aborted ≡ p.aborted
  pub absent : (a : ℕ) → is_actor a ≡ false → done_in a p.history ≡ []

-- all clients but the one at place i are those of the play
abbrev pub Others : ℕ → VacWorld → Play → Type 0
Others i v p = (j : ℕ) (c : Client) → j ≢ i → slice_get v.clients.items j ≡ Some c → IsClient c (j + 1) p

-- The running world is that of the play, between events.
pub record IsPlay (v : VacWorld) (p : Play) : Type 0 where
  pub on : IsOn v p
  pub clients : (i : ℕ) (c : Client) → slice_get v.clients.items i ≡ Some c → IsClient c (i + 1) p

-- there is such a play
pub record HasPlay (v : VacWorld) : Type 0 where
  pub play : Play
  pub is : IsPlay v play

-- The running world is that of the play, in which the client at place i has just been answered n.
pub record Hears (i : ℕ) (n : Notice Entry) (v : VacWorld) (p : Play) : Type 0 where
  pub on : IsOn v p
  pub others : Others i v p
  pub own : (c : Client) → slice_get v.clients.items i ≡ Some c → IsHearing n c (i + 1) p

-- The client at place i was refused a request: its transaction has ended, or stands open.
pub record IsRefused (c : Client) (a : ℕ) (p : Play) : Type 0 where
  pub stands : (known_stage (seat_in a p) ≡ Rests)
      ⊎ ((calls : List (Call Entry × Reply Entry)) × (known_stage (seat_in a p) ≡ Stands calls))
  pub current : IsOpen c.current (action_in a p.history) (p.faults a)
  pub done : c.done ≡ done_in a p.history

pub record Refusing (i : ℕ) (v : VacWorld) (p : Play) : Type 0 where
  pub on : IsOn v p
  pub others : Others i v p
  pub own : (c : Client) → slice_get v.clients.items i ≡ Some c → IsRefused c (i + 1) p

-- The client at place i has asked a call after these.
pub record IsCalling (calls : List (Call Entry × Reply Entry)) (c : Client) (a : ℕ) (p : Play) : Type 0 where
  pub current : IsOpenWith c.current (action_in a p.history) (p.faults a) (replies_of calls)
  pub done : c.done ≡ done_in a p.history

-- a reply is answered only where there was room for its call, after so many
abbrev pub RepliesWithin : Notice Entry → ℕ → Type 0
RepliesWithin (Answered b x) made = made < CALL_LIMIT
RepliesWithin n made = Unit {0}

-- It aborts its transaction for this cause, where it has one; and else nothing has happened.
abbrev pub Abandons : ℕ → Refusal → Play → Bool → VacWorld → Type 0
Abandons i cause p true v = ((seat_in (i + 1) p).stage ≡ Open) × IsPlay v (aborts (i + 1) cause p)
Abandons i cause p false v = (known_stage (seat_in (i + 1) p) ≡ Rests) × Refusing i v p

-- The running world is that of a play in which the client at place i is to ask, and the result of what it asks is this play. It has asked k
-- requests since its last answer, and there was room for their calls.
pub record AsksOn (i k : ℕ) (v : VacWorld) (to : Play) : Type 0 where
  pub play : Play
  pub calls : List (Call Entry × Reply Entry)
  pub on : IsOn v play
  pub others : Others i v play
  pub own : (c : Client) → slice_get v.clients.items i ≡ Some c → IsAsking calls c (i + 1) play
  pub comes : asks_on (i + 1) (left_of (i + 1) play) play ≡ to
  pub made : k ≤ length calls
  pub room : (k ≡ 0) ⊎ (length calls ≤ CALL_LIMIT)

-- The running world is that of a play in which the client at place i has asked this call, after so many requests, and was answered n; and
-- the result of what it does then is this play.
pub record Called (i k : ℕ) (call : Call Entry) (n : Notice Entry) (v : VacWorld) (to : Play) : Type 0 where
  pub play : Play
  pub calls : List (Call Entry × Reply Entry)
  pub next : Reply Entry → SessionProgram
  pub at : KnownStage Entry
  pub on : IsOn v play
  pub others : Others i v play
  pub stands : known_stage (seat_in (i + 1) play) ≡ at
  pub moves : CallMoves calls call n at
  pub own : (c : Client) → slice_get v.clients.items i ≡ Some c → IsCalling calls c (i + 1) play
  pub left : after (session (action_in (i + 1) play.history)) (replies_of calls) ≡ Asks call next
  pub comes : if_replied (i + 1) n (λ r. asks_on (i + 1) (next r) play) play ≡ to
  pub made : k ≤ length calls
  pub room : RepliesWithin n (length calls)

-- and it continues so, or has asked what it was to ask
abbrev pub GoesOn : ℕ → ℕ → Play → Bool → VacWorld → Type 0
GoesOn i k to true v = AsksOn i (k + 1) v to
GoesOn i k to false v = IsPlay v to

-- there is a client at place i
pub record HasPosition (i : ℕ) (v : VacWorld) : Type 0 where
  pub inside : i < ACTORS
  pub count : length v.clients.items ≡ ACTORS

-- the session of the client at place i asks this next
abbrev pub AsksNext : ℕ → VacWorld → Asked Entry → Type 0
AsksNext i v next = (c : Client) → slice_get v.clients.items i ≡ Some c → asks_next c ≡ next

-- whether a call is mistaken that is refused so
abbrev pub Mistaken : Refusal → Bool → Type 0
Mistaken cause true = Unit {0}
Mistaken cause false = IsMistaken cause → ⊥
