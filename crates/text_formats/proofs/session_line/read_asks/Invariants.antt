use Rattle.std.proofs.Common.{◌≡◌, List, ◌++◌, length}
use Rattle.vac_model.specs.declared.action.Ask.{Ask}
use Rattle.text_formats.specs.SessionLines.{AreAsks}
use Rattle.text_formats.specs.Tokens.{texts}
use Rattle.text_formats.proofs.session_line.read_asks.Given as goal

abbrev pub decreases-loop-rest : goal.decreases-loop-rest
decreases-loop-rest l = length l.rest

abbrev pub invariant-loop-rest : goal.invariant-loop-rest
invariant-loop-rest l = record {
  front : (asks : List Ask) → AreAsks (texts l.rest) asks → AreAsks (texts l.tokens) (l.asks ++ asks);
  back : (all : List Ask) → AreAsks (texts l.tokens) all → (asks : List Ask) × AreAsks (texts l.rest) asks × (all ≡ l.asks ++ asks);
}
