use Rattle.tx_engine.specs.Ready.{IsReady}
use Rattle.wolimevar.specs.Lenders.{HasBack}
use Rattle.wolimevar.proofs.lender.join_all.Given as goal

-- what came back of the homes so far is joined
abbrev pub invariant-homes : goal.invariant-homes
invariant-homes g l = record {
  ready : IsReady l.table l.seat;
  back : HasBack l.fn.seat.seat l.seat.seat;
}
