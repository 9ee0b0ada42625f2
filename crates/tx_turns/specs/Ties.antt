-- A seat of a table and the actor that it runs, and what a turn makes of them.
use Rattle.std.specs.Prelude.{◌≡◌, ℕ, true, false, ◌<◌, ◌≤◌, List, [], ◌∷◌, ◌++◌, Option}
use Rattle.seq_model.specs.declared.record.Record.{Record}
use Rattle.replay_log.specs.declared.base.Base.{Base}
use Rattle.replay_log.specs.Seats.{World}
use Rattle.actor_parts.specs.Blocks.{BlocksView}
use Rattle.tx_actor.specs.ActorBounds.{IsRunning}
use Rattle.tx_actor.specs.Running.{Runs, notice_of, stage_of}
use Rattle.tx_actor.specs.declared.actor.Stage.{Stage}
use Rattle.tx_actor.specs.declared.actor.Stage.TheVariants as stage
use Rattle.tx_actor.specs.declared.actor.ActorNotice.{ActorNotice}
use Rattle.tx_actor.specs.declared.actor.TxActor.{TxActor}
use Rattle.shared_table.specs.declared.seat.Seat.{Seat}
use Rattle.shared_table.specs.declared.table.TxTable.{TxTable}
use Rattle.shared_table.specs.Turns.{moved, spot}
use Rattle.shared_table.specs.Shown.{IsReached, Slot}
use Rattle.shared_table.specs.Seated.{Owns, Takes, actor, acts, blocks_in, opening_of, out, turned, view, words_in}
use Rattle.actor_laws.specs.StepTargets.{Word}
use Rattle.tx_machine.specs.Cells.{ClockCell}
use Rattle.actor_parts.specs.Dispatch.{next_of}
use Rattle.actor_parts.specs.declared.next.Next.{Next}
use Rattle.actor_parts.specs.declared.next.Next.TheVariants as next

-- the step is on a word
abbrev pub IsOnWord : Next → Type 0
IsOnWord next.Word = Unit {0}
IsOnWord next.FirstStore = Unit {0}
IsOnWord n = ⊥

module _ {V : Type 0} where
  -- how the locations of a table are laid out
  abbrev pub laid_in : TxTable V → BlocksView
  laid_in t = record { words = words_in t; blocks = blocks_in t }

  -- A live seat of the table, and the actor that it runs: in the world with this seat alone, which to its actor is one that events have
  -- reached from the opening, r is the actor.
  pub record Ties (t : TxTable V) (s : Seat V) (r : TxActor V) : Type 0 where
    pub owns : Owns t s
    pub live : 0 < (view s).shares
    pub reached : IsReached (opening_of t) (actor s) (acts (opening_of t) s)
    pub runs : Runs (actor s) r (acts (opening_of t) s)
    pub running : IsRunning (laid_in t) r

  -- what the next step of actor a commits, where r is that actor: the first value store, and a reader's load of the clock
  abbrev pub commits_at : ℕ → TxActor V → Stage V → List (ℕ × Record V)
  commits_at a r (stage.Ready homes) = (a, record { number = r.wv; writes = true; calls = r.calls.items }) ∷ []
  commits_at a r stage.Closing = (a, record { number = r.rv; writes = false; calls = r.calls.items }) ∷ []
  commits_at a r s = []

  abbrev pub commits : ℕ → TxActor V → List (ℕ × Record V)
  commits a r = commits_at a r r.stage

  -- The seat s, which runs r, took the turn that was next in the world with it alone, and became u: it found this, knows this clock, which
  -- is what a step on the clock left there, and has gained what the step commits. A step on a word leaves the bases that it has out. The
  -- definitions' step answers n.
  pub record Turned (o : World V) (s : Seat V) (r : TxActor V) (u : Seat V) (n : ActorNotice V) : Type 0 where
    pub clock : ℕ
    pub found : ℕ
    pub base : Option (Base V)
    pub bases : List (ℕ × Slot V)
    pub takes : Takes o s clock found base bases u
    pub rises : (view s).clock ≤ clock
    pub clocks : spot (actor s) (acts o s) ≡ Word ClockCell → clock ≡ turned (actor s) (acts o s) found
    pub outs : IsOnWord (next_of (stage_of r.stage)) → out u ≡ out s
    pub gains : (view u).receipts ≡ (view s).receipts ++ commits (actor s) r
    pub tells : notice_of (actor s) n ≡ (moved (actor s) (acts o s) found base).1
