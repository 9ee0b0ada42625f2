-- What becomes of a table and of its seats that run transactions, as the table opens, splits, joins and closes.
use Rattle.std.specs.Prelude.{◌≡◌, ℕ, [], length, map, max}
use mathlib.Core.Option.{some}
use Rattle.seq_model.specs.Contents.{Contents}
use Rattle.seq_model.specs.declared.event.Shape.{Shape}
use Rattle.actor_parts.specs.Openings.{blocks_of, world_of}
use Rattle.shared_table.specs.declared.closed.Closed.{Closed}
use Rattle.shared_table.specs.declared.table.TxTable.{TxTable}
use Rattle.shared_table.specs.Ends.{homes_of, row_of}
use Rattle.shared_table.specs.Seated.{actor, acts, blocks_in, contents_in, locations_in, opening_of, view, words_in}
use Rattle.shared_table.specs.Shown.{ShowsWorld, both_of, first, left_of, right_of}
use Rattle.tx_turns.specs.RequestHistory.{requests_of}
use Rattle.tx_engine.specs.declared.seats.TxSeat.{TxSeat}
use Rattle.tx_engine.specs.Closing.{IsLeftBy}

module _ {V : Type 0} where
  -- it opens as the world of its shape and contents; the first seat has all shares and knows nothing, and its actor was asked nothing
  pub record Opens (shape : Shape) (state : Contents V) (t : TxTable V) (s : TxSeat V) : Type 0 where
    pub opens : opening_of t ≡ world_of shape.stripes shape.clock state
    pub blocks : blocks_in t ≡ blocks_of shape.stripes state.held
    pub contents : contents_in t ≡ state
    pub first : (view s.seat ≡ first) × (s.seat.last ≡ 0)
    pub asks : requests_of s.seat ≡ []

  -- the seat s is u now, and r is the new one: it has so many shares, no receipts, and its actor was asked nothing
  pub record Splits (t : TxTable V) (shares : ℕ) (s u r : TxSeat V) : Type 0 where
    pub same : actor u.seat ≡ actor s.seat
    pub own : acts (opening_of t) u.seat ≡ acts (opening_of t) s.seat
    pub asks : (requests_of u.seat ≡ requests_of s.seat) × (requests_of r.seat ≡ [])
    pub left : (view u.seat ≡ left_of shares (view s.seat)) × (u.seat.last ≡ s.seat.last)
    pub right : (view r.seat ≡ right_of shares (view s.seat)) × (r.seat.last ≡ 0)

  -- the seat s, into which the other was joined, is u now
  pub record Joins (t : TxTable V) (s other u : TxSeat V) : Type 0 where
    pub same : actor u.seat ≡ actor s.seat
    pub own : acts (opening_of t) u.seat ≡ acts (opening_of t) s.seat
    pub asks : requests_of u.seat ≡ requests_of s.seat
    pub both : view u.seat ≡ both_of (view s.seat) (actor other.seat) (view other.seat)
    pub last : u.seat.last ≡ max s.seat.last other.seat.last

  -- what it holds is what the seat's receipts leave
  pub record Closes (t : TxTable V) (s : TxSeat V) (c : Closed V) : Type 0 where
    pub words : c.words ≡ words_in t
    pub locations : c.locations ≡ locations_in t
    pub collections : length (homes_of c) ≡ length (blocks_in t)
    pub left : IsLeftBy (contents_in t) (view s.seat).receipts c
    pub shows : ShowsWorld (opening_of t) (actor s.seat) (view s.seat) (row_of c) (map some (homes_of c))
