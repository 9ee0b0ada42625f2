-- What a running table shows of its seats between two steps: what their actors have aborted and committed, and what they have asked since.
use Rattle.std.specs.Prelude.{◌≡◌, ℕ, ◌<◌, All, List, ◌∷◌, map, if◌then◌else◌}
use mathlib.Core.Option.{some}
use lib.ListN.{get_elem?}
use Rattle.atomic_table.specs.Table.{State}
use Rattle.seq_model.specs.Contents.{Contents}
use Rattle.seq_model.specs.declared.event.Event.{Event}
use Rattle.seq_model.specs.declared.record.Record.{Record}
use Rattle.tx_machine.specs.Content.{has}
use Rattle.replay_log.specs.Seats.{World}
use Rattle.replay_log.specs.WorldSerial.{AllSaw, IsSerial, SawAt}
use Rattle.replay_log.specs.Worlds.{run}
use Rattle.actor_laws.specs.Own.{Alike}
use Rattle.shared_table.specs.Opening.{world_at}
use Rattle.shared_table.specs.Shown.{Slot, aborted_by, total}
use Rattle.shared_table.specs.Turns.{asked_all, lone, stage_of}
use Rattle.shared_table.specs.declared.view.Opening.{Opening}
use Rattle.shared_table.specs.declared.view.Turn.{Turn}
use Rattle.shared_table.specs.declared.view.SeatKnowledge.{SeatKnowledge}

module _ {V : Type 0} where
  -- the actors for which the seat of actor j stands, each with the turns that it has taken: its own, and those whose seats were joined into
  -- it
  abbrev pub stands_for : ℕ → SeatKnowledge V → List (ℕ × List (Turn V))
  stands_for j v = (j, v.turns) ∷ v.joined

  -- The aborted transactions of an actor that has taken these turns are in the world w those of the world with it alone, in their order;
  -- and each saw only the state, by the records of w, at the number that it began with.
  pub record HasAborted (c : Contents V) (o w : World V) (p : ℕ × List (Turn V)) : Type 0 where
    pub own : aborted_by p.0 w.aborted ≡ (lone p.0 o p.1).aborted
    pub saw : AllSaw c w.records (lone p.0 o p.1).aborted

  -- a weight of records that counts those of these actors alone, each once
  abbrev pub only_of : List (ℕ × List (Turn V)) → (ℕ × Record V → ℕ) → ℕ × Record V → ℕ
  only_of ps h r = if has (map (λ p. p.0) ps) r.0 then h r else 0

  -- these receipts are the records in w of these actors, each once: they weigh the same by every weight
  abbrev pub AreReceipts : World V → List (ℕ × List (Turn V)) → List (ℕ × Record V) → Type 0
  AreReceipts w ps receipts = (h : ℕ × Record V → ℕ) → total h receipts ≡ total (only_of ps h) w.records

  -- What actor j asks, where u is the world with j alone, leads from the world w at once to one in serial order, with the records of w.
  -- This one is to j as the world with j alone is then; and where its transaction is open there, its calls so far have the replies of the
  -- state, by the records of w, at the number that it began with.
  pub record SeesAtOnce (c : Contents V) (w u : World V) (j : ℕ) (asks : List (Event V)) : Type 0 where
    pub serial : IsSerial c (asked_all j w asks)
    pub records : (asked_all j w asks).records ≡ w.records
    pub alike : Alike j (asked_all j w asks) (asked_all j u asks)
    pub saw : SawAt c w.records ((asked_all j u asks).seats j) (stage_of (asked_all j u asks) j)

  -- So it is of each seat of a table with these views, which shows the world that these events reach from its opening. A seat without
  -- shares was joined into another, which has its receipts.
  pub record ShowsSeats (opening : Opening V) (events : List (Event V)) (s : State (Slot V) (SeatKnowledge V)) : Type 0 where
    pub aborted : (j : ℕ) (v : SeatKnowledge V) → get_elem? s.views j ≡ some v → All
        (HasAborted opening.state.value (world_at opening) (run (world_at opening) events)) (stands_for j v)
    pub receipts : (j : ℕ) (v : SeatKnowledge V) → get_elem? s.views j ≡ some v → 0 < v.shares → AreReceipts (run (world_at opening) events)
        (stands_for j v) v.receipts
    pub at_once : (j : ℕ) (v : SeatKnowledge V) → get_elem? s.views j ≡ some v → (asks : List (Event V)) → SeesAtOnce opening.state.value
        (run (world_at opening) events) (lone j (world_at opening) v.turns) j asks
