use Rattle.std.proofs.Common.{◌≡◌, List, ◌++◌, length}
use Rattle.vac_model.specs.declared.action.Change.{Change}
use Rattle.text_formats.specs.SessionLines.{AreChanges, AreMore}
use Rattle.text_formats.specs.Tokens.{texts}
use Rattle.text_formats.proofs.session_line.read_changes.Given as goal

abbrev pub decreases-loop-rest : goal.decreases-loop-rest
decreases-loop-rest l = length l.rest

abbrev pub invariant-loop-rest : goal.invariant-loop-rest
invariant-loop-rest l = record {
  front : (more : List Change) → AreMore (texts l.rest) more → AreChanges (texts l.fn.tokens) (l.changes ++ more);
  back : (all : List Change) → AreChanges (texts l.fn.tokens) all
      → (more : List Change) × AreMore (texts l.rest) more × (all ≡ l.changes ++ more);
}
