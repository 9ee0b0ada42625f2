-- What a client keeps of its sessions, and what it does with what it is answered.
use Rattle.std.specs.Prelude.{Bool, true, false, List, [], ◌∷◌, ◌++◌, Option, Some, None}
use Rattle.seq_model.specs.declared.call.Reply.{Reply}
use Rattle.seq_model.specs.declared.refusal.Refusal.{Refusal}
use Rattle.vac_model.specs.declared.action.Action.{Action}
use Rattle.seq_model.specs.declared.job.Ask.{Ask as Asks}
use Rattle.seq_model.specs.declared.job.Ask.TheVariants as ask
use Rattle.seq_model.specs.Programs.{after, asked}
use Rattle.client_sessions.specs.declared.entry.Entry.{Entry}
use Rattle.client_sessions.specs.Sessions.{session}
use Rattle.vacation_core.specs.declared.client.Client.{Client}
use Rattle.vacation_core.specs.declared.client.OpenSession.{OpenSession}

-- whether a session is under way
abbrev pub is_under_way : Option OpenSession → Bool
is_under_way None = false
is_under_way (Some o) = true

abbrev pub has_open : Client → Bool
has_open c = is_under_way c.current

-- the session of this action has begun
abbrev pub begun : Action → Client → Client
begun action c = record c { current = Some (record { session = action; replies = []; fault = None }) }

-- what the session that is under way asks next
abbrev pub asks_of : Option OpenSession → Asks Entry
asks_of None = ask.Done
asks_of (Some o) = asked (after (session o.session) o.replies)

abbrev pub asks_next : Client → Asks Entry
asks_next c = asks_of c.current

-- a call of it was answered
abbrev pub with_reply : Reply Entry → Option OpenSession → Option OpenSession
with_reply r None = None
with_reply r (Some o) = Some (record o { replies = o.replies ++ r ∷ [] })

abbrev pub joined : Reply Entry → Client → Client
joined r c = record c { current = with_reply r c.current }

-- a call of it was refused, for which it aborts its transaction
abbrev pub with_fault : Refusal → Option OpenSession → Option OpenSession
with_fault cause None = None
with_fault cause (Some o) = Some (record o { fault = Some cause })

abbrev pub failed : Refusal → Client → Client
failed cause c = record c { current = with_fault cause c.current }

-- the actions of the sessions that a client has committed, with that of the session under way
abbrev pub with_open : Option OpenSession → List Action → List Action
with_open None done = done
with_open (Some o) done = done ++ o.session ∷ []

abbrev pub finished : Client → Client
finished c = record { current = None; done = with_open c.current c.done }

-- its session has ended without a commit
abbrev pub left : Client → Client
left c = record c { current = None }

-- why it aborted its transaction
abbrev pub fault_in : Option OpenSession → Option Refusal
fault_in None = None
fault_in (Some o) = o.fault

abbrev pub fault_of : Client → Option Refusal
fault_of c = fault_in c.current
