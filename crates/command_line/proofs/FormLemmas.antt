-- The form in which times are asked for: an option whose value may be left out, and what is wrong with a word that names no form.
use Rattle.std.proofs.Common.{◌≡◌, ap, inl, inr, [], ◌∷◌, Option, Some, None}
use Rattle.std.specs.Prelude.{IsSomeAnd}
use Rattle.clap.specs.Kinds.{HasKind, Kinds, or_else}
use Rattle.clap.specs.declared.builder.range.ValueRange.{ValueRange}
use Rattle.clap.specs.declared.error.Error.{Error}

pub is_some_of : (o : Option ValueRange) (range : ValueRange) → IsSomeAnd o (λ r. r ≡ range) → o ≡ Some range
is_some_of None range h = absurd h
is_some_of (Some r) range h = ap Some h

-- a fault that comes first is one of both
pub has_first : (first next : Kinds) (error : Error) → HasKind first error → HasKind (or_else first next) error
has_first [] next error (inl memory) = inl memory
has_first [] next error (inr among) = absurd among
has_first (k ∷ ks) next error has = has
