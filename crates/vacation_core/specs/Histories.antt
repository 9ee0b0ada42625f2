-- What has happened in a world of clients since it opened on tables, and where a client stands by then.
use Rattle.std.specs.Prelude.{◌≡◌, ℕ, List, ◌++◌}
use Rattle.replay_log.specs.Contents.{Block, HaveStripes}
use Rattle.replay_log.specs.Collections.{Suit}
use Rattle.replay_log.specs.Worlds.{World, opened, run}
use Rattle.vac_model.specs.declared.action.Action.{Action}
use Rattle.vac_model.specs.Actions.{IsAllowed}
use Rattle.vac_model.specs.Balanced.{IsBalanced}
use Rattle.vac_model.specs.Holdings.{Holdings}
use Rattle.client_sessions.specs.declared.entry.Entry.{Entry}
use Rattle.client_sessions.specs.Holding.{state_of}
use Rattle.vacation_core.specs.ClientWorlds.{Actions, AskAsSessions, Turn, events_of}
use Rattle.actor_laws.specs.KnownStages.{KnownStage, known_stage}
use Rattle.vacation_core.specs.Serial.{begun_all, committed_of}

-- the turns that a world has taken since it opened on these tables, its locations in these blocks
pub record History : Type 0 where
  pub blocks : List Block
  pub clock : ℕ
  pub tables : Holdings
  pub actions : Actions
  pub turns : List Turn

abbrev pub opening_of : History → World Entry
opening_of h = opened h.blocks h.clock (state_of h.tables).words (state_of h.tables).held

-- the world that they lead to
abbrev pub world_in : History → World Entry
world_in h = run (opening_of h) (events_of h.turns)

abbrev pub later : History → List Turn → History
later h ts = record h { turns = h.turns ++ ts }

-- Its clients asked as sessions of allowed actions do, over balanced tables.
pub record IsLawful (h : History) : Type 0 where
  pub allowed : (a : ℕ) → IsAllowed (h.actions a)
  pub balanced : IsBalanced h.tables
  pub stripes : HaveStripes h.blocks
  pub suits : Suit h.blocks (state_of h.tables).held
  pub asks : AskAsSessions h.actions (opening_of h) h.turns

-- what the transaction of client a is to do
abbrev pub action_in : ℕ → History → Action
action_in a h = begun_all h.actions (opening_of h) h.turns a

-- what it has committed
abbrev pub done_in : ℕ → History → List Action
done_in a h = committed_of a h.actions (opening_of h) h.turns

-- The transaction of client a stands at p and is to do this action, and the client has committed these.
pub record IsAt (a : ℕ) (p : KnownStage Entry) (action : Action) (done : List Action) (h : History) : Type 0 where
  pub stands : known_stage ((world_in h).seats a) ≡ p
  pub does : action_in a h ≡ action
  pub has : done_in a h ≡ done
