-- A client that is alone takes one session after another.
use Rattle.std.specs.Prelude.{◌≡◌, ℕ, List, [], ◌∷◌, map}
use Rattle.seq_model.specs.declared.record.Record.{Record}
use Rattle.replay_log.specs.Contents.{Block, HaveStripes}
use Rattle.replay_log.specs.Collections.{Suit}
use Rattle.replay_log.specs.Worlds.{World, half, opened, run, state}
use Rattle.replay_log.specs.WorldProgress.{whose}
use Rattle.vac_model.specs.declared.action.Action.{Action}
use Rattle.vac_model.specs.Actions.{IsAllowed}
use Rattle.vac_model.specs.Balanced.{IsBalanced}
use Rattle.vac_model.specs.Holdings.{Holdings}
use Rattle.client_sessions.specs.declared.entry.Entry.{Entry}
use Rattle.client_sessions.specs.Holding.{state_of}
use Rattle.client_sessions.specs.Runs.{AreDone, AreSessions, Deal, after_deals}
use Rattle.vacation_core.specs.ClientWorlds.{Actions, AskAsSessions, Turn, events_of}
use Rattle.actor_laws.specs.KnownStages.{Rests, known_stage}
use Rattle.vacation_core.specs.Serial.{committed_of}

-- only actor a does anything
abbrev pub AreOf : ℕ → List Turn → Type 0
AreOf a [] = Unit {0}
AreOf a (t ∷ ts) = (whose t.0 ≡ a) × AreOf a ts

abbrev pub AreRecordsOf : ℕ → List (ℕ × Record Entry) → Type 0
AreRecordsOf a [] = Unit {0}
AreRecordsOf a (r ∷ rs) = (r.0 ≡ a) × AreRecordsOf a rs

-- The records of w are those of actor a: a session for each of these actions, in their order, each answered as its action is on the tables
-- that those before it leave. No commit is half done, and w holds what they leave, balanced.
pub record IsInOrder (a : ℕ) (done : List Action) (tables : Holdings) (w : World Entry) : Type 0 where
  pub deals : List Deal
  pub actions : map (λ d. d.0) deals ≡ done
  pub theirs : AreRecordsOf a w.records
  pub sessions : AreSessions deals w.records
  pub replies : AreDone deals tables
  pub settled : half w ≡ []
  pub left : state w ≡ state_of (after_deals deals tables)
  pub balanced : IsBalanced (after_deals deals tables)

-- where it has no transaction, what it has committed was done in its order
abbrev pub AloneIsInOrder : Type 0
AloneIsInOrder =
    (blocks : List Block) (clock : ℕ) (tables : Holdings) (actions : Actions) (turns : List Turn) (a : ℕ)
    → ((b : ℕ) → IsAllowed (actions b)) → IsBalanced tables → HaveStripes blocks → Suit blocks (state_of tables).held
    → let first = opened blocks clock (state_of tables).words (state_of tables).held in
    AskAsSessions actions first turns → AreOf a turns → known_stage ((run first (events_of turns)).seats a) ≡ Rests
    → IsInOrder a (committed_of a actions first turns) tables (run first (events_of turns))
