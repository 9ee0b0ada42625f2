-- What is promised of an event of a world, in the terms of the laws of worlds.
use Rattle.std.specs.Prelude.{◌≡◌, ◌≢◌, ℕ, ◌<◌, ◌≤◌, false}
use Rattle.tx_machine.specs.Progress.{step_limit}
use Rattle.seq_model.specs.declared.event.Event.{Event}
use Rattle.seq_model.specs.declared.event.Event.TheVariants.{Step, Starve}
use Rattle.seq_model.specs.declared.event.Answer.TheVariants.{Begun}
use Rattle.seq_model.specs.declared.event.Notice.{Notice}
use Rattle.seq_model.specs.declared.event.Notice.TheVariants.{Answered}
use Rattle.seq_model.specs.Contents.{Contents}
use Rattle.replay_log.specs.WorldProgress.{AreSmall, IsQuiet, Nears, left_of, whose}
use Rattle.replay_log.specs.WorldRefusals.{HasCause, is_ending}
use Rattle.replay_log.specs.WorldSerial.{AreUpTo}
use Rattle.replay_log.specs.Worlds.{After, World}
use Rattle.actor_laws.specs.Own.{Alike}
use Rattle.step_world.specs.declared.parts.Parts.{Parts}
use Rattle.step_world.specs.Parts.{IsWorld}
use Rattle.step_world.specs.Reached.{IsReached}

module _ {V : Type 0} where
  -- What is promised of the event e in the world w, where it leads to the world r.0 and r.1 is its notice.
  pub record IsPromised (w : World V) (e : Event V) (r : After V) : Type 0 where
    -- another actor is as it was, and its request as far from its answer
    pub others : (b : ℕ) → b ≢ whose e → Alike b w r.0
    pub as_far : (b : ℕ) → b ≢ whose e → left_of r.0 b ≡ left_of w b
    -- a transaction begins with a number that no record before it exceeds
    pub begins : (a rv : ℕ) → e ≡ Step a → r.1 ≡ Answered a (Begun rv) → AreUpTo rv w.records
    -- a step that begins to abort its transaction has found the cause that it notes
    pub cause : (a : ℕ) → e ≡ Step a → is_ending (w.seats a).stage ≡ false → HasCause w a (w.seats a).stage r.0
    -- Each own step answers the request or brings it nearer to its answer, out of memory is no step back, and no request is ever
    -- 1,000,000 steps from its answer.
    pub nearer : (a : ℕ) → e ≡ Step a → AreSmall w.blocks → Nears a (left_of w a) r
    pub starved : (a : ℕ) → e ≡ Starve a → IsQuiet r.1 → left_of r.0 a ≤ left_of w a
    pub soon : AreSmall w.blocks → (a : ℕ) → left_of r.0 a < step_limit

  -- The event e was fed to the parts c, which left the parts d, and n is its notice: from each world that events reached and of which c
  -- are the parts it led, as promised, to one of which d are.
  abbrev pub IsFedTo : Parts V → Event V → Parts V → Notice V → Type 0
  IsFedTo c e d n =
      (opening : Contents V) (w : World V) → IsReached opening w → IsWorld c w → (u : World V) × IsWorld d u × IsPromised w e (u, n)
