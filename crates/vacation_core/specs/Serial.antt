-- Serial order of sessions that interleave: they are their actions, one after another.
use Rattle.std.specs.Prelude.{◌≡◌, ◌≢◌, ℕ, ◌==◌, if◌then◌else◌, List, [], ◌∷◌, ◌++◌, Option, Some, None}
use Rattle.seq_model.specs.declared.event.Event.TheVariants.{Step}
use Rattle.seq_model.specs.declared.record.Record.{Record}
use Rattle.seq_model.specs.Runs.{IsInCommitOrder}
use Rattle.replay_log.specs.Contents.{Block, HaveStripes}
use Rattle.replay_log.specs.Collections.{Suit}
use Rattle.replay_log.specs.Worlds.{World, Open, half, happens, opened, run, state}
use Rattle.replay_log.specs.WorldTraces.{committed_by}
use Rattle.vac_model.specs.declared.action.Action.{Action}
use Rattle.vac_model.specs.Actions.{IsAllowed}
use Rattle.vac_model.specs.Balanced.{IsBalanced}
use Rattle.vac_model.specs.Holdings.{Holdings}
use Rattle.seq_model.specs.Programs.{after, asked, replies_of}
use Rattle.seq_model.specs.declared.job.Ask.TheVariants as ask
use Rattle.client_sessions.specs.declared.entry.Entry.{Entry}
use Rattle.client_sessions.specs.Holding.{state_of}
use Rattle.client_sessions.specs.Runs.{AreDone, AreSessions, Deal, after_deals}
use Rattle.client_sessions.specs.Sessions.{session}
use Rattle.vacation_core.specs.ClientWorlds.{Actions, AskAsSessions, Turn, begun, events_of}

-- what each actor's transaction is to do after these events
abbrev pub begun_all : Actions → World Entry → List Turn → Actions
begun_all actions w [] = actions
begun_all actions w (t ∷ ts) = begun_all (begun actions w t) (happens w t.0).0 ts

-- the action of a transaction that commits
abbrev pub if_committed : Option (Record Entry) → Action → List Action
if_committed (Some r) action = action ∷ []
if_committed None action = []

-- what a turn commits of actor c
abbrev pub committed_in : ℕ → Actions → World Entry → Turn → List Action
committed_in c actions w (Step a, action) = if a == c then if_committed (committed_by (w.seats a) (w.seats a).stage) (actions a) else []
committed_in c actions w turn = []

-- the actions of the transactions that actor c committed, in the order in which it did
abbrev pub committed_of : ℕ → Actions → World Entry → List Turn → List Action
committed_of c actions w [] = []
committed_of c actions w (t ∷ ts) = committed_in c actions w t ++ committed_of c (begun actions w t) (happens w t.0).0 ts

-- the actions of the records of actor c
abbrev pub actions_of : ℕ → List Deal → List (ℕ × Record Entry) → List Action
actions_of c (d ∷ ds) (r ∷ rs) = if r.0 == c then d.0 ∷ actions_of c ds rs else actions_of c ds rs
actions_of c ds rs = []

-- After these turns from w the records are sessions of these deals, in commit order, those of each actor being of the actions that it
-- committed, in its own order. The deals were done one after another from these tables; where no commit is half done, the world holds what
-- they left, and that is balanced. No open session aborts on its replies.
pub record IsSerialSessions (tables : Holdings) (actions : Actions) (w : World Entry) (turns : List Turn) : Type 0 where
  pub deals : List Deal
  pub sessions : AreSessions deals (run w (events_of turns)).records
  pub ordered : IsInCommitOrder (run w (events_of turns)).records
  pub own : (c : ℕ) → actions_of c deals (run w (events_of turns)).records ≡ committed_of c actions w turns
  pub done : AreDone deals tables
  pub left : half (run w (events_of turns)) ≡ [] → state (run w (events_of turns)) ≡ state_of (after_deals deals tables)
  pub balanced : IsBalanced (after_deals deals tables)
  pub goes_on : (a : ℕ) → ((run w (events_of turns)).seats a).stage ≡ Open
      → asked (after (session (begun_all actions w turns a)) (replies_of ((run w (events_of turns)).seats a).calls)) ≢ ask.GiveUp

-- whatever clients ask and however their steps interleave, their sessions are actions one after another
abbrev pub SessionsAreSerial : Type 0
SessionsAreSerial =
    (blocks : List Block) (clock : ℕ) (tables : Holdings) (actions : Actions) (turns : List Turn)
    → ((a : ℕ) → IsAllowed (actions a)) → IsBalanced tables → HaveStripes blocks → Suit blocks (state_of tables).held
    → let w = opened blocks clock (state_of tables).words (state_of tables).held in
    AskAsSessions actions w turns → IsSerialSessions tables actions w turns
