-- How the transactions of a body end.
use Rattle.std.specs.Prelude.{◌≡◌, ℕ, ◌≤◌, List, [], ◌∷◌, ◌++◌, Result, Ok, Err}
use Rattle.seq_model.specs.declared.call.Call.{Call}
use Rattle.seq_model.specs.declared.call.Reply.{Reply}
use Rattle.seq_model.specs.declared.record.Record.{Record}
use Rattle.seq_model.specs.declared.event.Request.{Request}
use Rattle.seq_model.specs.declared.failure.Failure.{Failure}
use Rattle.seq_model.specs.declared.failure.Failure.TheVariants.{Refused, Aborted}
use Rattle.tx_client.specs.declared.tally.Tally.{Tally}
use Rattle.shared_table.specs.declared.seat.Seat.{Seat}
use Rattle.shared_table.specs.Seated.{actor, view}

module _ (V : Type 0) where
  -- what a client shows: its number among the actors, the last number that it committed or learnt, its receipts, what its actor was asked,
  -- and how its attempts ended
  pub record ClientShown : Type 0 where
    pub actor : ℕ
    pub last : ℕ
    pub receipts : List (ℕ × Record V)
    pub asked : List (Request V)
    pub tally : Tally

module _ {V : Type 0} where
  -- The seat has this receipt more, whose number is its last one.
  pub record HasGained (s u : Seat V) (r : Record V) : Type 0 where
    pub same : actor u ≡ actor s
    pub shares : (view u).shares ≡ (view s).shares
    pub gains : (view u).receipts ≡ (view s).receipts ++ (actor s, r) ∷ []
    pub above : s.last ≤ r.number
    pub last : u.last ≡ r.number

  -- or none more
  pub record HasGainedNone (s u : Seat V) : Type 0 where
    pub same : actor u ≡ actor s
    pub shares : (view u).shares ≡ (view s).shares
    pub receipts : (view u).receipts ≡ (view s).receipts
    pub last : u.last ≡ s.last

  -- a body that aborts returns this error after such calls
  abbrev pub IsAbortBy : {E : Type 0} → (E → List (Call V × Reply V) → Type 0) → Failure E → Type 0
  IsAbortBy aborts (Refused cause) = Unit {0}
  IsAbortBy aborts (Aborted e) = (calls : List (Call V × Reply V)) × aborts e calls

  -- one receipt more, after whose calls the body returned this value; or none
  unfoldable pub EndsAs : {A E : Type 0} → (A → List (Call V × Reply V) → Type 0) → (E → List (Call V × Reply V) → Type 0)
      → Seat V → Seat V → Result (A × Record V) (Failure E) → Type 0
  EndsAs made aborts s u (Ok done) = HasGained s u done.1 × made done.0 done.1.calls
  EndsAs made aborts s u (Err failure) = HasGainedNone s u × IsAbortBy aborts failure
