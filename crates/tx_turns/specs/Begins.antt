-- How many transactions a seat has asked to begin.
use Rattle.std.specs.Prelude.{ℕ, ◌+◌, List, [], ◌∷◌}
use Rattle.seq_model.specs.declared.event.Event.{Event}
use Rattle.seq_model.specs.declared.event.Request.{Request}
use Rattle.seq_model.specs.declared.event.Request.TheVariants.{Begin, BeginRead}
use Rattle.shared_table.specs.declared.seat.Seat.{Seat}
use Rattle.shared_table.specs.declared.view.Turn.{Turn}
use Rattle.tx_turns.specs.RequestHistory.{requests_asked, requests_of, requests_taken}

module _ {V : Type 0} where
  -- how many of these requests are begins
  abbrev pub begins_in : List (Request V) → ℕ
  begins_in [] = 0
  begins_in (Begin ∷ qs) = 1 + begins_in qs
  begins_in (BeginRead ∷ qs) = 1 + begins_in qs
  begins_in (q ∷ qs) = begins_in qs

  abbrev pub begins_asked : List (Event V) → ℕ
  begins_asked es = begins_in (requests_asked es)

  abbrev pub begins_taken : List (Turn V) → ℕ
  begins_taken turns = begins_in (requests_taken turns)

  abbrev pub begins_of : Seat V → ℕ
  begins_of s = begins_in (requests_of s)
