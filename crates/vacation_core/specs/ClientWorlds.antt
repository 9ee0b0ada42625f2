-- Worlds whose actors are clients: each transaction is the session of an action.
use Rattle.std.specs.Prelude.{◌≡◌, ℕ, List, [], ◌∷◌, map}
use Rattle.tx_machine.specs.World.{put}
use Rattle.seq_model.specs.declared.event.Event.{Event}
use Rattle.seq_model.specs.declared.event.Event.TheVariants.{Ask}
use Rattle.seq_model.specs.declared.event.Request.TheVariants as request
use Rattle.replay_log.specs.Worlds.{World, Stage, Idle, happens}
use Rattle.vac_model.specs.declared.action.Action.{Action}
use Rattle.vac_model.specs.Actions.{IsAllowed}
use Rattle.seq_model.specs.Programs.{after, asked, replies_of}
use Rattle.seq_model.specs.declared.job.Ask.TheVariants as ask
use Rattle.client_sessions.specs.declared.entry.Entry.{Entry}
use Rattle.client_sessions.specs.Sessions.{session}

-- what each actor's transaction is to do
abbrev pub Actions : Type 0
Actions = ℕ → Action

-- an event, and what the transaction is to do that it begins, where it begins one
abbrev pub Turn : Type 0
Turn = Event Entry × Action

abbrev pub at_idle : {X : Type 0} → Stage Entry → X → X → X
at_idle Idle x y = x
at_idle stage x y = y

-- what each actor's transaction is to do after this event
abbrev pub begun : Actions → World Entry → Turn → Actions
begun actions w (Ask a request.Begin, action) = at_idle (w.seats a).stage (put actions a action) actions
begun actions w (Ask a request.BeginRead, action) = at_idle (w.seats a).stage (put actions a action) actions
begun actions w turn = actions

-- A transaction is begun for an allowed action. It asks for the call that the action's session asks after the replies so far, and for
-- a commit where that session is done; whatever else it asks says nothing.
abbrev pub MayHappen : Actions → World Entry → Turn → Type 0
MayHappen actions w (Ask a request.Begin, action) = IsAllowed action
MayHappen actions w (Ask a request.BeginRead, action) = IsAllowed action
MayHappen actions w (Ask a (request.Call call), action) =
    asked (after (session (actions a)) (replies_of (w.seats a).calls)) ≡ ask.Call call
MayHappen actions w (Ask a request.Commit, action) = asked (after (session (actions a)) (replies_of (w.seats a).calls)) ≡ ask.Done
MayHappen actions w turn = Unit {0}

-- each event is one that may happen there
abbrev pub AskAsSessions : Actions → World Entry → List Turn → Type 0
AskAsSessions actions w [] = Unit {0}
AskAsSessions actions w (t ∷ ts) = MayHappen actions w t × AskAsSessions (begun actions w t) (happens w t.0).0 ts

abbrev pub events_of : List Turn → List (Event Entry)
events_of turns = map (λ t. t.0) turns
