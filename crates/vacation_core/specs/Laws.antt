-- Whatever events say, the sessions that commit are their actions, one after another.
use Rattle.std.specs.Prelude.{◌≡◌, List, []}
use Rattle.replay_log.specs.Contents.{Block, HaveStripes}
use Rattle.replay_log.specs.Collections.{Suit}
use Rattle.replay_log.specs.Worlds.{state}
use Rattle.vac_model.specs.Balanced.{IsBalanced}
use Rattle.vac_model.specs.Holdings.{Holdings}
use Rattle.client_sessions.specs.Holding.{HoldsTables, state_of}
use Rattle.vacation_core.specs.Histories.{opening_of, world_in}
use Rattle.vacation_core.specs.Serial.{IsSerialSessions}
use Rattle.vacation_core.specs.declared.events.VacEvent.{VacEvent}
use Rattle.vacation_core.specs.Plays.{AreAllowed, Play, played_all, unplayed}

-- The turns are those of sessions in serial order, each of a committed one being of the action that its own start began; no session aborted
-- on its replies.
pub record IsSerialPlay (p : Play) : Type 0 where
  pub serial : IsSerialSessions p.history.tables p.history.actions (opening_of p.history) p.history.turns
  pub goes_on : p.given_up ≡ []

abbrev pub PlaysAreSerial : Type 0
PlaysAreSerial =
    (blocks : List Block) (tables : Holdings) (events : List VacEvent) → HaveStripes blocks → Suit blocks (state_of tables).held
    → IsBalanced tables → AreAllowed events → IsSerialPlay (played_all (unplayed blocks tables) events)

-- words and collections hold tables, whatever is half done
abbrev pub PlaysHoldTables : Type 0
PlaysHoldTables =
    (blocks : List Block) (tables : Holdings) (events : List VacEvent) → HaveStripes blocks → Suit blocks (state_of tables).held
    → IsBalanced tables → AreAllowed events → HoldsTables (state (world_in (played_all (unplayed blocks tables) events).history))
