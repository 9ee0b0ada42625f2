-- An actor beside others, whose calls find room by their weights.
use Rattle.std.specs.Prelude.{◌≡◌, ◌≢◌, ℕ, ◌+◌, ◌<◌, ◌≤◌, true, List, [], ◌∷◌, length}
use Rattle.tx_sets.specs.declared.access_set.TheConstants.{LOCATION_LIMIT}
use Rattle.seq_model.specs.declared.call.Call.{Call}
use Rattle.seq_model.specs.declared.event.Event.{Event}
use Rattle.seq_model.specs.declared.event.Event.TheVariants.{Ask}
use Rattle.seq_model.specs.declared.event.Notice.{Notice}
use Rattle.seq_model.specs.declared.event.Notice.TheVariants.{Refused}
use Rattle.seq_model.specs.declared.event.Request.TheVariants as request
use Rattle.seq_model.specs.declared.limits.TheConstants.{CALL_LIMIT}
use Rattle.replay_log.specs.WorldAnswers.{is_there}
use Rattle.replay_log.specs.Worlds.{World, Open, happens}
use Rattle.actor_laws.specs.Alone.{IsSmall, weight, weights}
use Rattle.actor_laws.specs.KnownStages.{IsMistaken}

module _ {V : Type 0} where
  -- The call is on a word, a key of a map or an end of a queue; there is what it asks of; and after the calls that actor a has made, it is
  -- not past the limit of calls, and is with them on no more locations than a set may have.
  pub record Fits (w : World V) (a : ℕ) (call : Call V) : Type 0 where
    pub small : IsSmall call.op
    pub there : is_there w a call.target call.op ≡ true
    pub short : length (w.seats a).calls < CALL_LIMIT
    pub room : weights (w.seats a).calls + weight call.op ≤ LOCATION_LIMIT

  -- Where a asks for a call in its open transaction, it fits. Whatever else happens, by a or by others, is free.
  abbrev pub IsFitting : World V → ℕ → Event V → Type 0
  IsFitting w a (Ask b (request.Call call)) = b ≡ a → (w.seats a).stage ≡ Open → Fits w a call
  IsFitting w a e = Unit {0}

  -- so is each of these events, one after another
  abbrev pub AreFitting : World V → ℕ → List (Event V) → Type 0
  AreFitting w a [] = Unit {0}
  AreFitting w a (e ∷ es) = IsFitting w a e × AreFitting (happens w e).0 a es

  -- it refuses a call for a fault of the call itself
  abbrev pub RefusesAsMistaken : Notice V → Type 0
  RefusesAsMistaken (Refused a cause) = IsMistaken cause
  RefusesAsMistaken n = ⊥

  -- a begins no declared reader by this event
  abbrev pub IsNoReader : ℕ → Event V → Type 0
  IsNoReader a (Ask b request.BeginRead) = b ≢ a
  IsNoReader a e = Unit {0}

  -- nor by any of these
  abbrev pub BeginsNoReader : ℕ → List (Event V) → Type 0
  BeginsNoReader a [] = Unit {0}
  BeginsNoReader a (e ∷ es) = IsNoReader a e × BeginsNoReader a es
