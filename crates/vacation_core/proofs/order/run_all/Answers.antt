use Rattle.std.proofs.Common.{arith, subst, sym}
use Rattle.vac_model.specs.declared.action.Action.{Action}
use Rattle.vacation_core.proofs.ServedSessionLemmas.{allowed_at}
use Rattle.vacation_core.specs.Turns.{MayRun, Runs}
use Rattle.vacation_core.proofs.OrderLemmas.{all_of_them, may_run, none_so_far, one_more}
use Rattle.vacation_core.proofs.order.run_all.Goals as goal

pub loop-action-init : goal.loop-action-init
loop-action-init g c = none_so_far c.args.actions.now c.args.world.now.parts

pub session_of-requires : goal.session_of-requires
session_of-requires g c =
    allowed_at c.args.actions.now c.loop-action.action-index c.action-item.result c.loop-action-test.true c.action-item.is
    c.requires.allowed

pub run_session-requires : goal.run_session-requires
run_session-requires g c =
    subst (λ (a : Action). MayRun a c.loop-action.world.parts) (sym c.in_ok-session.ensures)
    (may_run c.args.actions.now c.loop-action.action-index c.action-item.result c.args.world.now.parts c.loop-action.world.parts
    c.loop-action-test.true c.action-item.is c.requires.few c.requires.allowed c.requires.opened c.loop-action.invariant)

pub loop-action-preserved : goal.loop-action-preserved
loop-action-preserved g c =
    one_more c.args.actions.now c.loop-action.action-index c.action-item.result c.args.world.now.parts c.loop-action.world.parts
    c.run_session.new.world.parts c.loop-action-test.true c.action-item.is c.requires.few c.loop-action.invariant
    (subst (λ (a : Action). Runs a c.loop-action.world.parts c.run_session.new.world.parts) c.in_ok-session.ensures
    c.in_ok-run_session.ensures)

pub returns : goal.returns
returns g c =
    all_of_them c.args.actions.now c.loop-action.action-index c.args.world.now.parts c.loop-action.world.parts c.loop-action-test.false
    (omega arith) c.loop-action.invariant
