use Rattle.std.proofs.Common.{◌≡◌, ◌∙◌, ap, length, rules, subst, sym, List}
use Rattle.std.proofs.lemmas.Result.{IfOk-weaker}
use Rattle.std.specs.declared.alloc.Global.{Global}
use Rattle.std.specs.declared.vec.Vec.{Vec}
use Rattle.workers.specs.Deals.{in_lists}
use Rattle.vac_model.specs.declared.action.Action.{Action}
use Rattle.workers.specs.Serving.{AreAllowed}
use Rattle.command_line.specs.Unread.{IsToldRun}
use Rattle.command_line.proofs.RunLemmas.{dealt_allowed, dealt_run, dealt_same}
use Rattle.command_line.proofs.file.run_dealt.Goals as goal

pub run_lists-requires-clause-allowed : goal.run_lists-requires-clause-allowed
run_lists-requires-clause-allowed g c κs within =
    subst (λ (ls : List (Vec Action Global)). AreAllowed (in_lists ls)) (sym c.as_slice-2.ensures.value)
    (dealt_allowed c.args.workers c.args.actions.items (in_lists c.in_ok-lists.lists.items) c.requires.allowed c.in_ok-lists.ensures.dealt)

pub run_lists-requires-clause-same : goal.run_lists-requires-clause-same
run_lists-requires-clause-same g c κs within =
    dealt_same c.args.workers c.args.actions.items c.as_slice.result.now (in_lists c.in_ok-sessions.sessions.items)
    (in_lists c.as_slice-3.result.now) (in_lists c.in_ok-lists.lists.items) (ap in_lists c.as_slice-3.ensures.value)
    c.as_slice.ensures.value c.in_ok-sessions.ensures.dealt c.in_ok-lists.ensures.dealt
    ∙ sym (ap in_lists c.as_slice-2.ensures.value)

pub returns-clause-run : goal.returns-clause-run
returns-clause-run g c =
    let counted : c.len-total.result ≡ length c.args.actions.items = search rules in
    IfOk-weaker c.run_lists.result _ _
    (λ run told. dealt_run c.args.workers c.args.tables.now c.args.actions.items (in_lists c.in_ok-lists.lists.items)
    c.len-total.result run c.in_ok-lists.ensures.dealt counted
    (subst (λ (ls : List (Vec Action Global)). IsToldRun c.args.tables.now (in_lists ls) c.len-total.result run)
    c.as_slice-2.ensures.value told))
    c.run_lists.ensures.run

pub returns-clause-refused : goal.returns-clause-refused
returns-clause-refused g c = c.run_lists.ensures.refused
