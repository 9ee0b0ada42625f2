-- What no session of a play meets.
use Rattle.std.specs.Prelude.{◌≡◌, ℕ, true, List, [], ◌∷◌, None}
use Rattle.seq_model.specs.declared.refusal.Refusal.{Refusal}
use Rattle.step_core.specs.Shown.{is_actor}
use Rattle.replay_log.specs.Contents.{Block, HaveStripes}
use Rattle.replay_log.specs.Collections.{Suit}
use Rattle.actor_laws.specs.KnownStages.{IsMistaken}
use Rattle.vac_model.specs.Balanced.{IsBalanced}
use Rattle.vac_model.specs.Holdings.{Holdings}
use Rattle.client_sessions.specs.Holding.{state_of}
use Rattle.vacation_core.specs.declared.events.VacEvent.{VacEvent}
use Rattle.vacation_core.specs.Plays.{AreAllowed, Play, played_all, unplayed}

-- None of these ended as NoSuch or TooLong, but for starts at clients that there are none of.
abbrev pub AreNotMistaken : List (ℕ × Refusal) → Type 0
AreNotMistaken [] = Unit {0}
AreNotMistaken (e ∷ es) = (is_actor e.0 ≡ true → IsMistaken e.1 → ⊥) × AreNotMistaken es

pub record FindsRoom (p : Play) : Type 0 where
  -- no call of a session was refused
  pub calls : (a : ℕ) → p.faults a ≡ None
  pub ends : AreNotMistaken p.aborted

abbrev pub PlaysFindRoom : Type 0
PlaysFindRoom =
    (blocks : List Block) (tables : Holdings) (events : List VacEvent) → HaveStripes blocks → Suit blocks (state_of tables).held
    → IsBalanced tables → AreAllowed events → FindsRoom (played_all (unplayed blocks tables) events)
