use Rattle.std.proofs.Common.{◌≡◌, ◌⊎◌}
use Rattle.shared_table.specs.Seated.{opening_of}
use Rattle.actor_laws.specs.KnownStages.{Rests}
use Rattle.tx_engine.specs.Ready.{IsReady, standing}
use Rattle.tx_engine.specs.Retries.{HasNoReceipt}
use Rattle.tx_engine.proofs.TryLemmas.{InVain}
use Rattle.tx_engine.proofs.tries.retry_in.Given as goal

-- all attempts so far were in vain, and the last of them ended so
abbrev pub invariant-tries : goal.invariant-tries
invariant-tries g l =
    let asks = g.J.Job.asks l.job in
    record {
      ready : IsReady l.table l.seat;
      vain : InVain asks l.table l.i l.initial.seat.seat l.seat.seat;
      rests : (l.i ≡ 0) ⊎ (standing (opening_of l.table) l.seat.seat ≡ Rests);
      none : (l.i ≡ 0) ⊎ HasNoReceipt asks l.table l.i l.initial.seat.seat l.seat.seat l.last;
    }
