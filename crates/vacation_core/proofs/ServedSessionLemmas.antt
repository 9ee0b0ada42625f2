-- Actions that are allowed, one by one.
-- The session of an action that is allowed is refused only memory; those of a list come in its order.
use Rattle.std.proofs.Common.{◌≡◌, ℕ, ◌<◌, List, length, refl, sym, subst}
use Rattle.std.proofs.lemmas.List.Elements.{All-get_or}
use Rattle.std.specs.Prelude.{All, get_or}
use Rattle.seq_model.specs.declared.refusal.Refusal.{Refusal}
use Rattle.seq_model.specs.declared.refusal.Refusal.TheVariants.{Memory as OutOfMemory, TooLong}
use Rattle.vac_model.specs.declared.action.Action.{Action}
use Rattle.vac_model.specs.Actions.{IsAllowed}
use Rattle.client_sessions.specs.Refusals.{IsSessionRefusal}

-- the action at this place
pub allowed_at : (actions : List Action) (i : ℕ) (action : Action) → i < length actions → action ≡ get_or actions i action
    → All IsAllowed actions → IsAllowed action
allowed_at actions i action lt at allowed = subst IsAllowed (sym at) (All-get_or IsAllowed actions i action lt allowed)

-- its session is refused only memory
pub only_memory : (cause : Refusal) (P : Type 0) → IsSessionRefusal cause P → ¬ P → (cause ≡ OutOfMemory → ⊥) → ⊥
only_memory TooLong P h never isnt = never h
only_memory OutOfMemory P h never isnt = isnt refl
only_memory cause P h never isnt = h
