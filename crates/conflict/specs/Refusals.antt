-- Why a collection is refused where it is made.
pub use Rattle.seq_model.specs.Refusals.{IsTooLong, IsNoSuchOrTooLong}
use Rattle.std.specs.Prelude.{ℕ, ◌<◌, ◌≤◌}
use Rattle.seq_model.specs.declared.held.Held.{Held}
use Rattle.seq_model.specs.declared.held.Held.TheVariants.{Pq}
use Rattle.conflict.specs.declared.stripes.TheConstants.{PQ_STRIPE_LIMIT, STRIPE_LIMIT}

-- a map, a multiset or a queue may have so many stripes
abbrev pub IsStripeCount : ℕ → Type 0
IsStripeCount stripes = (0 < stripes) × (stripes ≤ STRIPE_LIMIT)

-- a priority queue may
abbrev pub IsPqStripeCount : ℕ → Type 0
IsPqStripeCount stripes = (0 < stripes) × (stripes ≤ PQ_STRIPE_LIMIT)

-- the most stripes that a collection which holds this may have
abbrev pub stripe_limit : {V : Type 0} → Held V → ℕ
stripe_limit (Pq elements) = PQ_STRIPE_LIMIT
stripe_limit held = STRIPE_LIMIT

-- it may have so many
abbrev pub IsStripeCountOf : {V : Type 0} → Held V → ℕ → Type 0
IsStripeCountOf held stripes = (0 < stripes) × (stripes ≤ stripe_limit held)
