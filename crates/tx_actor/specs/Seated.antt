-- The seat that a world has for a running actor: it is the actor's own, but for what is left open, on which nothing but an acceptance
-- hangs.
use Rattle.std.specs.Prelude.{◌≡◌, ℕ, false, [], ◌∷◌}
use Rattle.tx_sets.specs.Entries.{Entries}
use Rattle.tx_machine.specs.Notices as notice
use Rattle.replay_log.specs.Contents.{CallWithOutcome}
use Rattle.replay_log.specs.Worlds.{World, Seat, Loading, acted, moves, starve_at, step_at, word_notice}
use Rattle.tx_actor.specs.declared.actor.TxActor.{TxActor}
use Rattle.actor_parts.specs.Dispatch.{is_loading, next_of}
use Rattle.tx_actor.specs.LoadStep.{after_load}
use Rattle.tx_actor.specs.Running.{Runs, is_recorded, seat_of, stage_in, stage_of}

-- In a world in which r is actor a, its seat does next what r does, starves as r does, and hears a load as r does; while no location of a
-- call is read, and no record is made, it is r's own. The step of a call's load is the step of the words, and then what is made of it.
pub record SeatsActors (V : Type 0) : Type 0 where
  pub next : (a : ℕ) (r : TxActor V) (w : World V) → Runs a r w → next_of (w.seats a).stage ≡ next_of (stage_of r.stage)
  pub own : (a : ℕ) (r : TxActor V) (w : World V) → Runs a r w → is_loading (stage_of r.stage) ≡ false
      → is_recorded r.stage ≡ false → w.seats a ≡ seat_of r
  pub starves : (a : ℕ) (r : TxActor V) (w : World V) → Runs a r w
      → starve_at w a (w.seats a) (w.seats a).stage ≡ starve_at w a (seat_of r) (stage_of r.stage)
  pub hears : (a : ℕ) (r : TxActor V) (w : World V) (n : notice.Notice) → Runs a r w
      → after_load w a (w.seats a) (w.seats a).stage n ≡ after_load w a (seat_of r) (stage_in (w.seats a).stage r.stage) n
  pub loads : (w : World V) (a : ℕ) (x : Seat V) (o : CallWithOutcome V) (d : ℕ × ℕ) (es : Entries)
      → step_at w a x (Loading o (d ∷ es)) ≡ after_load (acted w (moves a ∷ [])) a x (Loading o (d ∷ es)) (word_notice w a)
