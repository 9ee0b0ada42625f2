-- What the actor of a seat was asked.
use Rattle.std.specs.Prelude.{List, [], ◌∷◌, ◌++◌}
use Rattle.seq_model.specs.declared.event.Event.{Event}
use Rattle.seq_model.specs.declared.event.Event.TheVariants.{Ask}
use Rattle.seq_model.specs.declared.event.Request.{Request}
use Rattle.shared_table.specs.declared.seat.Seat.{Seat}
use Rattle.shared_table.specs.Seated.{list_of, view}
use Rattle.shared_table.specs.declared.view.Turn.{Turn}

module _ {V : Type 0} where
  -- what these events ask: a step asks nothing, nor does a failed allocation
  abbrev pub requests_asked : List (Event V) → List (Request V)
  requests_asked [] = []
  requests_asked (Ask a q ∷ es) = q ∷ requests_asked es
  requests_asked (e ∷ es) = requests_asked es

  abbrev pub requests_taken : List (Turn V) → List (Request V)
  requests_taken [] = []
  requests_taken (turn ∷ turns) = requests_asked turn.asks ++ requests_taken turns

  -- All requests so far, one after the other: with its turns, and since the last of them.
  unfoldable pub requests_of : Seat V → List (Request V)
  requests_of s = requests_taken (view s).turns ++ requests_asked (list_of s.asked)
