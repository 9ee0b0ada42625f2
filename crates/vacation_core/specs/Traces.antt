-- The trace of a play.
use Rattle.std.specs.Prelude.{◌≡◌, []}
use Rattle.replay_log.specs.Worlds.{half, state}
use Rattle.vac_model.specs.Balanced.{IsBalanced}
use Rattle.client_sessions.specs.Holding.{state_of}
use Rattle.client_sessions.specs.Runs.{after_deals}
use Rattle.vacation_core.specs.Histories.{opening_of, world_in}
use Rattle.vacation_core.specs.Serial.{IsSerialSessions}
use Rattle.vacation_core.specs.Plays.{Play}
use Rattle.vacation_core.specs.CommittedAnswers.{told_all}
use Rattle.vacation_core.specs.declared.run.VacTrace.{VacTrace}

-- The trace has the result of the play. The sessions that committed were answered as their actions are, one after another, in commit order,
-- each of the action that its own start began; where no commit is half done the tables are what these leave, balanced. What ended else
-- stands in the order of ending, and no session aborted on its replies. The tables are what the play's world holds.
pub record IsVacTrace (p : Play) (t : VacTrace) : Type 0 where
  pub serial : IsSerialSessions p.history.tables p.history.actions (opening_of p.history) p.history.turns
  pub done : t.done ≡ told_all serial.deals (world_in p.history).records
  pub aborted : t.aborted ≡ p.aborted
  pub goes_on : p.given_up ≡ []
  pub half : t.half ≡ half (world_in p.history)
  pub holds : state (world_in p.history) ≡ state_of t.tables
  pub left : t.half ≡ [] → t.tables ≡ after_deals serial.deals p.history.tables
  pub balanced : t.half ≡ [] → IsBalanced t.tables
