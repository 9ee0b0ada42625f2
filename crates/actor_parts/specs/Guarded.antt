-- The world after what the next step of a commit does, of which it is asked whether the locks may be given back.
use Rattle.std.specs.Prelude.{ℕ, [], ◌∷◌}
use Rattle.tx_machine.specs.Requests.{AskStore}
use Rattle.tx_machine.specs.Boosted.{GoHome}
use Rattle.replay_log.specs.Worlds.{World, Stage, Ready, Homing, acted, asks, moves}

module _ {V : Type 0} where
  abbrev pub committed_at : World V → ℕ → Stage V → World V
  committed_at w a (Ready ks) = acted (acted w (asks a AskStore ∷ [])) (moves a ∷ [])
  committed_at w a (Homing (k ∷ ks)) = acted w (GoHome a k ∷ [])
  committed_at w a stage = acted w (moves a ∷ [])
