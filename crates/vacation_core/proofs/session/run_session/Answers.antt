use Rattle.vacation_core.proofs.SessionLemmas.{has_begun, runs}
use Rattle.vacation_core.proofs.session.run_session.Goals as goal

pub make_calls-requires : goal.make_calls-requires
make_calls-requires c =
    has_begun c.args.session.now c.args.world.now.parts c.begin.new.world.parts c.requires c.in_ok-begin.ensures

pub returns : goal.returns
returns c =
    runs c.args.session.now c.args.world.now.parts c.begin.new.world.parts c.make_calls.new.world.parts c.commit.new.world.parts
    c.in_ok-begin.ensures c.in_ok-make_calls.ensures c.in_ok-commit.ensures
