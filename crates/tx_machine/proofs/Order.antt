-- Records listed as committed.
use Rattle.std.proofs.Common.{◌≡◌, List, [], ◌∷◌, ◌++◌, refl}
use Rattle.tx_machine.specs.World.{Record, insert, in_order}

-- one commit more is one record put in its place
pub in_order-push : (sorted rs : List Record) (r : Record) → in_order sorted (rs ++ r ∷ []) ≡ insert r (in_order sorted rs)
in_order-push sorted [] r = refl
in_order-push sorted (x ∷ rs) r = in_order-push (insert x sorted) rs r
