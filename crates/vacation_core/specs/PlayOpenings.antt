-- What a running world of clients opens as.
use Rattle.std.specs.Prelude.{◌≡◌, ℕ, List, [], ◌∷◌, None}
use Rattle.actor_parts.specs.Openings.{blocks_of}
use Rattle.vac_model.specs.Holdings.{Holdings}
use Rattle.client_sessions.specs.Holding.{state_of}
use Rattle.vacation_core.specs.declared.client.Client.{Client}
use Rattle.vacation_core.specs.Plays.{Play, unplayed}
pub use Rattle.vacation_core.specs.Stripes.{eight}

-- nothing has happened yet, on these tables
abbrev pub unplayed_on : ℕ → Holdings → Play
unplayed_on n tables = unplayed (blocks_of (eight n) (state_of tables).held) tables

abbrev pub AreNew : List Client → Type 0
AreNew [] = Unit {0}
AreNew (c ∷ cs) = (c ≡ record { current = None; done = [] }) × AreNew cs
