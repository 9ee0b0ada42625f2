-- What a running table shows of a transaction that was aborted, and of what an open one was answered so far.
use Rattle.std.specs.Prelude.{◌≡◌, ◌⊎◌, List, ◌∷◌, ◌++◌, Option, Some, None}
use mathlib.Core.Option.{some}
use lib.ListN.{get_elem?}
use Rattle.atomic_table.specs.Table.{State}
use Rattle.seq_model.specs.Contents.{Contents}
use Rattle.seq_model.specs.Runs.{IsLegal, state_at}
use Rattle.seq_model.specs.declared.call.Call.{Call}
use Rattle.seq_model.specs.declared.call.Reply.{Reply}
use Rattle.seq_model.specs.declared.refusal.Refusal.{Refusal}
use Rattle.seq_model.specs.declared.refusal.Refusal.TheVariants.{Memory as OutOfMemory}
use Rattle.replay_log.specs.Seats.{Ended, World}
use Rattle.replay_log.specs.Worlds.{run}
use Rattle.actor_laws.specs.Own.{Alike}
use Rattle.actor_laws.specs.KnownStages.{Stands}
use Rattle.shared_table.specs.Opening.{Holds}
use Rattle.shared_table.specs.Seated.{actor, acts, list_of, opening_of, view}
use Rattle.shared_table.specs.Shown.{Slot}
use Rattle.shared_table.specs.Turns.{asked_all}
use Rattle.shared_table.specs.declared.seat.Seat.{Seat}
use Rattle.shared_table.specs.declared.table.TxTable.{TxTable}
use Rattle.shared_table.specs.declared.view.SeatKnowledge.{SeatKnowledge}
use Rattle.tx_engine.specs.Ready.{standing}
use Rattle.tx_turns.specs.Driven.{seat_in}

module _ {V : Type 0} where
  -- Whenever the rule of the table t holds between two of its steps and the seat u stands in it with what it knows, the table shows a world
  -- of which this holds.
  abbrev pub ShownBy : TxTable V → Seat V → (World V → Type 0) → Type 0
  ShownBy t u P =
      (x : State (Slot V) (SeatKnowledge V)) (rule : Holds t.whole.shared.key x) → get_elem? x.views (actor u) ≡ some (view u)
      → P (run (opening_of t) rule.rule.events)

  -- The transaction with these calls that was open at s is an aborted one of the world w, for this cause, or with none where its actor
  -- asked for it. Its calls have the replies of one state: that of w, from the opening c on, at the number at which it began.
  pub record WasAborted (c : Contents V) (o : World V) (s : Seat V) (calls : List (Call V × Reply V)) (cause : Option Refusal) (w : World V)
      : Type 0 where
    pub before : List (Ended V)
    pub after : List (Ended V)
    pub listed : w.aborted ≡ before ++ record { actor = actor s; rv = (seat_in o s).rv; calls = calls; cause = cause } ∷ after
    pub saw : IsLegal calls (state_at (seat_in o s).rv w.records c)

  -- it was aborted for this cause; or an allocation failed as its last request was asked, and it was aborted in place of that
  abbrev pub WasAbortedFor : Contents V → World V → Seat V → List (Call V × Reply V) → Refusal → World V → Type 0
  WasAbortedFor c o s calls cause w = WasAborted c o s calls (Some cause) w ⊎ ((cause ≡ OutOfMemory) × WasAborted c o s calls None w)

  -- What the actor of u has asked since its last step leads from w to a world that is to it as the world with it alone is now; and the
  -- calls of an open transaction have the replies of one state: that of w, from the opening c on, at the number at which it began.
  pub record SeesOneState (c : Contents V) (o : World V) (u : Seat V) (w : World V) : Type 0 where
    pub alike : Alike (actor u) (asked_all (actor u) w (list_of u.asked)) (acts o u)
    pub saw : (calls : List (Call V × Reply V)) → standing o u ≡ Stands calls → IsLegal calls (state_at (seat_in o u).rv w.records c)
