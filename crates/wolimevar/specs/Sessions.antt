-- How sessions end, each with a seat of its own.
use Rattle.std.specs.Prelude.{◌≡◌, ◌⊎◌, ℕ, All, ◌<◌, List, [], ◌∷◌, ◌++◌, Some}
use Rattle.seq_model.specs.declared.record.Record.{Record}
use Rattle.seq_model.specs.declared.refusal.Refusal.{Refusal}
use Rattle.seq_model.specs.declared.refusal.Refusal.TheVariants.{Memory as OutOfMemory, TooLong}
use Rattle.shared_table.specs.declared.seat.Seat.{Seat}
use Rattle.shared_table.specs.declared.table.TxTable.{TxTable}
use Rattle.shared_table.specs.declared.view.TheConstants.{SHARES}
use Rattle.shared_table.specs.Seated.{actor, view}
use Rattle.tx_engine.specs.declared.seats.TxSeat.{TxSeat}
use Rattle.tx_engine.specs.Ready.{IsReady}
use Rattle.wolimevar.specs.declared.sessions.Task.{Task}
use Rattle.tx_client.specs.Frames.{AreBy, GoesOn}
use Rattle.wolimevar.specs.Splits.{IsUnused}

-- Why sessions are not served: they are too many, or an allocation fails.
abbrev pub IsWhy : ℕ → Refusal → Type 0
IsWhy count cause = ((cause ≡ TooLong) × (SHARES < count)) ⊎ (cause ≡ OutOfMemory)

-- lists, one after another
abbrev pub joined : {A : Type 0} → List (List A) → List A
joined [] = []
joined (xs ∷ xss) = xs ++ joined xss

module _ {V : Type 0} where
  -- receipts of one actor
  abbrev pub IsOfOne : List (ℕ × Record V) → Type 0
  IsOfOne rs = (a : ℕ) × AreBy a rs

  module _ {N O : Type 0} (serves : N → O → List (ℕ × Record V) → Type 0) where
    -- Each session has returned one thing, and its client has these receipts.
    abbrev pub AreServed : List N → List O → List (List (ℕ × Record V)) → Type 0
    AreServed [] [] [] = Unit {0}
    AreServed (n ∷ ns) (o ∷ os) (rs ∷ rss) = serves n o rs × AreServed ns os rss
    AreServed [] [] (rs ∷ rss) = ⊥
    AreServed [] (o ∷ os) rss = ⊥
    AreServed (n ∷ ns) [] rss = ⊥
    AreServed (n ∷ ns) (o ∷ os) [] = ⊥

    -- The receipts were these, and those of the sessions come after them: those of each session are of one actor, its client's.
    pub record HaveServed (ns : List N) (os : List O) (before after : List (ℕ × Record V)) : Type 0 where
      pub lists : List (List (ℕ × Record V))
      pub each : AreServed ns os lists
      pub own : All IsOfOne lists
      pub gains : after ≡ before ++ joined lists

    -- A session has returned this, and its seat has these receipts more, which are its own actor's.
    pub record Serves (n : N) (o : O) (m s : Seat V) : Type 0 where
      pub made : List (ℕ × Record V)
      pub gains : (view s).receipts ≡ (view m).receipts ++ made
      pub served : serves n o made
      pub own : AreBy (actor s) made

  module _ {N O : Type 0} (t : TxTable V) where
    -- A session that is to be served: its seat is ready.
    pub record IsDue (p : Task V N O) : Type 0 where
      pub own : TxSeat V
      pub seat : p.seat ≡ Some own
      pub ready : IsReady t own
      pub waiting : N
      pub session : p.session ≡ Some waiting

    -- One that has ended: its seat is ready, and it returned this.
    pub record IsEnded (q : Task V N O) : Type 0 where
      pub own : TxSeat V
      pub seat : q.seat ≡ Some own
      pub ready : IsReady t own
      pub given : O
      pub out : q.out ≡ Some given

    -- It was served at that seat.
    pub record IsDone (serves : N → O → List (ℕ × Record V) → Type 0) (p q : Task V N O) : Type 0 where
      pub due : IsDue p
      pub ended : IsEnded q
      pub goes : GoesOn due.own.seat ended.own.seat
      pub served : Serves serves due.waiting ended.given due.own.seat ended.own.seat

    -- A session that waits: its seat is not used yet.
    pub record IsWaiting (p : Task V N O) : Type 0 where
      pub own : TxSeat V
      pub seat : p.seat ≡ Some own
      pub unused : IsUnused t own
      pub waiting : N
      pub session : p.session ≡ Some waiting

    -- One that was served: its seat is ready, with one share.
    pub record IsFinished (q : Task V N O) : Type 0 where
      pub own : TxSeat V
      pub seat : q.seat ≡ Some own
      pub ready : IsReady t own
      pub share : (view own.seat).shares ≡ 1
      pub given : O
      pub out : q.out ≡ Some given

    -- The session that waited so has returned this, and these are its receipts, which are its own.
    pub record IsServed (serves : N → O → List (ℕ × Record V) → Type 0) (p q : Task V N O) : Type 0 where
      pub finished : IsFinished q
      pub session : N
      pub waited : p.session ≡ Some session
      pub served : serves session finished.given (view finished.own.seat).receipts
      pub own : AreBy (actor finished.own.seat) (view finished.own.seat).receipts
