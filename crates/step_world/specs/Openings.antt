-- The actors that a world opens with.
use Rattle.std.specs.Prelude.{◌≡◌, List, [], ◌∷◌}
use Rattle.step_core.specs.Blank.{IsBlank}
use Rattle.replay_log.specs.Worlds.{no_one}
use Rattle.tx_actor.specs.Running.{seat_of}
use Rattle.tx_actor.specs.declared.actor.Stage.TheVariants.{Idle}
use Rattle.tx_actor.specs.declared.actor.TxActor.{TxActor}

module _ {V : Type 0} where
  -- It has no transaction.
  pub record IsIdle (r : TxActor V) : Type 0 where
    pub seat : seat_of r ≡ no_one
    pub stage : r.stage ≡ Idle
    pub words : IsBlank r.words

  abbrev pub AreIdle : List (TxActor V) → Type 0
  AreIdle [] = Unit {0}
  AreIdle (r ∷ rs) = IsIdle r × AreIdle rs
