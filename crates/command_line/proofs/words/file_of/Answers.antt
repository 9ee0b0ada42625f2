use Rattle.std.proofs.Common.{sym, map}
use Rattle.std.specs.String.{string_bytes}
use Rattle.std.proofs.lemmas.Result.{IfOk-weaker}
use Rattle.command_line.specs.Words.{faults}
use Rattle.command_line.proofs.WordLemmas.{is_fault, no_file}
use Rattle.command_line.proofs.words.file_of.Goals as goal

pub returns-in-Err : goal.returns-in-Err
returns-in-Err c =
    let words = map string_bytes c.args.words.now in
    IfOk-weaker c.none_for.result _ _
    (λ file h. rw h.0 (sym (no_file (faults words) c.in-Err.error _ (is_fault (faults words) c.in-Err.error c.in-Err.ensures.faults h.1))))
    c.none_for.ensures.none
