-- What sessions that interleave are never answered.
use Rattle.std.specs.Prelude.{◌≡◌, ℕ, List}
use Rattle.replay_log.specs.Collections.{Suit}
use Rattle.replay_log.specs.Contents.{Block, HaveStripes}
use Rattle.replay_log.specs.WorldProgress.{whose}
use Rattle.replay_log.specs.Worlds.{happens, opened, run}
use Rattle.vacation_core.specs.ClientWorlds.{Actions, AskAsSessions, MayHappen, Turn, events_of}
use Rattle.vacation_core.specs.Serial.{begun_all}
use Rattle.actor_laws.specs.Beside.{BeginsNoReader, RefusesAsMistaken}
use Rattle.vac_model.specs.Actions.{IsAllowed}
use Rattle.vac_model.specs.Holdings.{Holdings}
use Rattle.client_sessions.specs.Holding.{state_of}

-- Clients ask as sessions of allowed actions do, over a state of tables. Then nothing that client a may do next is answered NoSuch or
-- TooLong, where it has begun no declared reader.
abbrev pub SessionsFindRoom : Type 0
SessionsFindRoom =
    (blocks : List Block) (clock : ℕ) (tables : Holdings) (actions : Actions) (turns : List Turn) (a : ℕ)
    → ((b : ℕ) → IsAllowed (actions b)) → HaveStripes blocks → Suit blocks (state_of tables).held
    → let first = opened blocks clock (state_of tables).words (state_of tables).held in
    let w = run first (events_of turns) in
    AskAsSessions actions first turns → BeginsNoReader a (events_of turns)
    → (t : Turn) → whose t.0 ≡ a → MayHappen (begun_all actions first turns) w t → RefusesAsMistaken (happens w t.0).1 → ⊥
