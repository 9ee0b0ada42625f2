use Rattle.std.proofs.Common.{rules}
use Rattle.client_sessions.specs.Runs.{after_deals}
use Rattle.session_text.proofs.FileRunLemmas.{are_held, are_told, finds_nothing, holds_tables, is_sound, tell_lines}
use Rattle.session_text.proofs.runs.run_sessions.Goals as goal

pub returns-in_err-left-clause-refused : goal.returns-in_err-left-clause-refused
returns-in_err-left-clause-refused g c =
    let memory = holds_tables c.in_err-left.field-0.0 _ c.in_err-left.ensures.refused (are_held _ _ _ _ c.in_ok-ordered.ensures.ordered) in
    search (rules, memory)

pub returns-in_err-inspect-clause-refused : goal.returns-in_err-inspect-clause-refused
returns-in_err-inspect-clause-refused g c =
    let are = c.in_ok-ordered.ensures.ordered in
    let memory = finds_nothing c.args.tables c.in_ok-left.left c.args.actions.now _ _ _ _ c.in_err-inspect.field-0.0 c.requires.balanced
    c.runs_are_actions.ensures.runs are
    (c.in_ok-left.ensures.inverse (after_deals are.deals c.args.tables) are.left) c.in_ok-opening.ensures
    c.as_slice-receipts.ensures c.in_err-inspect.ensures.finding in
    search (rules, memory)

pub lines_of-requires : goal.lines_of-requires
lines_of-requires g c =
    let are = c.in_ok-ordered.ensures.ordered in
    tell_lines are.deals c.args.actions.now _ _ are.actions c.as_slice-receipts.ensures are.sessions

pub returns-clause-run : goal.returns-clause-run
returns-clause-run g c =
    let are = c.in_ok-ordered.ensures.ordered in
    let same = c.as_slice-receipts.ensures in
    record {
      deals = are.deals;
      receipts = c.in_ok-ordered.ordered.receipts;
      asked = are.actions;
      replies = are.replies;
      sessions = are.sessions;
      ordered = are.ordered;
      are_run = are.run;
      told = are_told are.deals c.args.actions.now _ _ _ are.actions same are.sessions c.in_ok-lines.ensures;
      left = c.in_ok-left.ensures.inverse (after_deals are.deals c.args.tables) are.left;
      sound = is_sound _ _ _ _ _ _ _ c.in_ok-opening.ensures same c.in_ok-left.ensures.held c.in_ok-inspect.ensures.sound;
    }
