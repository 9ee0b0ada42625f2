-- The events of a script, as the tokens of their lines.
use Rattle.std.specs.Prelude.{◌≡◌, ◌≢◌, ◌⊎◌, ℕ, ◌<◌, ◌≤◌, List, [], ◌∷◌, codes}
use Rattle.std.specs.Fmt.{decimal}
use Rattle.seq_model.specs.declared.limits.TheConstants.{ACTOR_LIMIT}
use Rattle.text_formats.specs.declared.script.EventLine.{EventLine}
use Rattle.text_formats.specs.declared.script.EventLine.TheVariants.{Ask, Do, Steps, Starve, Alternate}
use Rattle.text_formats.specs.declared.script.TheConstants.{STEP_LIMIT}
use Rattle.text_formats.specs.Requests.{IsRequest}

-- an actor is numbered from 1
abbrev pub IsActor : List ℕ → ℕ → Type 0
IsActor token actor = (0 < actor) × (actor ≤ ACTOR_LIMIT) × (token ≡ decimal actor)

-- `step`, `step K` or `go`: at most so many steps
abbrev pub IsSteps : List (List ℕ) → ℕ → Type 0
IsSteps tokens n =
    ((n ≡ 1) × (tokens ≡ codes "step" ∷ []))
    ⊎ ((0 < n) × (n ≤ STEP_LIMIT) × (tokens ≡ codes "step" ∷ decimal n ∷ []))
    ⊎ ((n ≡ STEP_LIMIT) × (tokens ≡ codes "go" ∷ []))

-- what stands after the actor of a line
abbrev pub IsEventOf : ℕ → List (List ℕ) → EventLine → Type 0
IsEventOf actor tokens (Ask a request) = (a ≡ actor) × IsRequest tokens request
IsEventOf actor (word ∷ tokens) (Do a request) = (a ≡ actor) × (word ≡ codes "do") × IsRequest tokens request
IsEventOf actor tokens (Steps a n) = (a ≡ actor) × IsSteps tokens n
IsEventOf actor tokens (Starve a) = (a ≡ actor) × (tokens ≡ codes "starve" ∷ [])
IsEventOf actor tokens line = ⊥

-- the line of an actor
abbrev pub IsOfActor : List (List ℕ) → EventLine → Type 0
IsOfActor (token ∷ tokens) line = (actor : ℕ) × IsActor token actor × IsEventOf actor tokens line
IsOfActor [] line = ⊥

-- `alt` and two actors
abbrev pub IsAlternation : List (List ℕ) → EventLine → Type 0
IsAlternation (word ∷ one ∷ other ∷ []) (Alternate first second) = (word ≡ codes "alt") × IsActor one first ×
    IsActor other second × (first ≢ second)
IsAlternation tokens line = ⊥

abbrev pub IsEvent : List (List ℕ) → EventLine → Type 0
IsEvent tokens line = IsAlternation tokens line ⊎ IsOfActor tokens line
