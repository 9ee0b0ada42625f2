-- What the actor of a client is asked: each of its transactions begins as a declared reader's, or none does.
use Rattle.std.specs.Prelude.{◌≡◌, Bool, true, false, List, [], ◌∷◌, ◌++◌}
use Rattle.seq_model.specs.declared.event.Request.{Request}
use Rattle.seq_model.specs.declared.event.Request.TheVariants as request

module _ {V : Type 0} where
  -- a transaction that is a declared reader's or not asks this
  abbrev pub IsOf : Bool → Request V → Type 0
  IsOf declared request.Begin = declared ≡ false
  IsOf declared request.BeginRead = declared ≡ true
  IsOf declared (request.Call call) = Unit {0}
  IsOf declared request.Commit = Unit {0}
  IsOf declared request.Abort = Unit {0}

  abbrev pub AreOf : Bool → List (Request V) → Type 0
  AreOf declared [] = Unit {0}
  AreOf declared (q ∷ qs) = IsOf declared q × AreOf declared qs

  -- since then it was asked only what such transactions ask
  pub record HasAsked (declared : Bool) (before after : List (Request V)) : Type 0 where
    pub more : List (Request V)
    pub is : after ≡ before ++ more
    pub are : AreOf declared more
