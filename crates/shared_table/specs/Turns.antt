-- What an actor at a table knows: a world in which it is alone with what it found, turn by turn.
use Rattle.std.specs.Prelude.{ℕ, ◌-◌, true, false, List, [], ◌∷◌, Option, Some, None, slice_index}
use Rattle.seq_model.specs.declared.event.Event.{Event}
use Rattle.seq_model.specs.declared.event.Event.TheVariants.{Ask, Step, Starve}
use Rattle.seq_model.specs.declared.record.Record.{Record}
use Rattle.replay_log.specs.declared.base.Base.{Base}
use Rattle.replay_log.specs.Base.{Shown, shown_of, stripes_of, editions_of}
use Rattle.replay_log.specs.Parts.{part}
use Rattle.replay_log.specs.Contents.{first_of}
use Rattle.replay_log.specs.Seats.{World, After, Seat, Stage, Ready, Closing}
use Rattle.replay_log.specs.Worlds.{happens}
use Rattle.actor_laws.specs.StepTargets.{Spot, Gate, spot_at, planted}
pub use Rattle.shared_table.specs.declared.view.Turn.{Turn}

module _ {V : Type 0} where
  -- what a asks, or that it is out of memory
  abbrev pub own : ℕ → Event V → Event V
  own a (Ask b q) = Ask a q
  own a (Step b) = Starve a
  own a (Starve b) = Starve a

  abbrev pub asked_all : ℕ → World V → List (Event V) → World V
  asked_all a w [] = w
  asked_all a w (e ∷ es) = asked_all a (happens w (own a e)).0 es

  -- the events of a turn: what a has asked, and its step
  abbrev pub turn_events : ℕ → List (Event V) → List (Event V)
  turn_events a [] = Step a ∷ []
  turn_events a (e ∷ es) = own a e ∷ turn_events a es

  abbrev pub stage_of : World V → ℕ → Stage V
  stage_of w a = (w.seats a).stage

  -- the word or the gate of a's next step
  abbrev pub spot : ℕ → World V → Spot
  spot a w = spot_at a w (stage_of w a)

  -- the first location of a gate's collection
  abbrev pub first_at : World V → Spot → ℕ
  first_at w (Gate k) = first_of w.words w.blocks k
  first_at w s = 0

  -- the parts and editions of a base, from location f on; without one, those that w has
  abbrev pub parts_found : World V → ℕ → Option (Base V) → ℕ → Shown V
  parts_found w f None l = w.boosted.parts l
  parts_found w f (Some b) l = part (stripes_of b) (l - f) (shown_of b)

  abbrev pub editions_found : World V → ℕ → Option (Base V) → ℕ → ℕ
  editions_found w f None l = w.boosted.editions l
  editions_found w f (Some b) l = slice_index (editions_of b) (l - f)

  -- w with what was found at this word or gate
  abbrev pub found_at : ℕ → World V → Spot → ℕ → Option (Base V) → World V
  found_at a w s n b = planted a w s n (parts_found w (first_at w s) b) (editions_found w (first_at w s) b)

  -- and what a's step there leaves and answers
  abbrev pub moved : ℕ → World V → ℕ → Option (Base V) → After V
  moved a w n b = happens (found_at a w (spot a w) n b) (Step a)

  abbrev pub took : ℕ → World V → Turn V → World V
  took a w i = (moved a (asked_all a w i.asks) i.found i.base).0

  -- the world that a has for itself after these turns, from the opening on
  abbrev pub lone : ℕ → World V → List (Turn V) → World V
  lone a w [] = w
  lone a w (i ∷ is) = lone a (took a w i) is

  -- what a step commits: the first value store, and a reader's load of the clock
  abbrev pub ends_of : ℕ → Seat V → Stage V → List (ℕ × Record V)
  ends_of a x (Ready ks) = (a, record { number = x.wv; writes = true; calls = x.calls }) ∷ []
  ends_of a x Closing = (a, record { number = x.rv; writes = false; calls = x.calls }) ∷ []
  ends_of a x p = []

  abbrev pub ends : ℕ → World V → List (ℕ × Record V)
  ends a w = ends_of a (w.seats a) (stage_of w a)
