use Rattle.std.proofs.Common.{subst, sym}
use Rattle.std.specs.Prelude.{slice_index_or}
use Rattle.wolimevar.specs.Sessions.{IsDone, IsDue}
use Rattle.wolimevar.proofs.sessions.serve_all.Goals as goal

pub for_each_mut-requires-clause-accepts : goal.for_each_mut-requires-clause-accepts
for_each_mut-requires-clause-accepts g c κs within = λ i p l e. subst (IsDue c.args.table.now) (sym e) (c.requires.due i p.now l)

pub returns : goal.returns
returns g c = record {
  done = λ i d l.
      let k = (c.for_each_mut.ensures i d l).1 in
      subst (IsDone c.args.table.now g.N.Session.serves (slice_index_or c.args.tasks.now i d)) k.left
      (subst (λ p. IsDone c.args.table.now g.N.Session.serves p k.after_call.now) k.argument_is k.call);
}
