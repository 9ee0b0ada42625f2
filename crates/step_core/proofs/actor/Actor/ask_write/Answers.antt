use Rattle.std.proofs.Common.{refl}
use Rattle.step_core.specs.declared.actor.Actor.{Actor}
use Rattle.step_core.proofs.Phases.{write_open}
use Rattle.step_core.proofs.Keeps.{write_fits}
use Rattle.step_core.specs.Shown.{actor_of}
use Rattle.step_core.proofs.actor.Actor.ask_write.Goals as goal

pub returns-clause-keeps : goal.returns-clause-keeps
returns-clause-keeps c n below f =
    let x = c.args.self.now in
    let y : Actor = record {
      place = x.place;
      declared = x.declared;
      rv = x.rv;
      wv = x.wv;
      reads = x.reads;
      writes = c.put.new.self;
      held = x.held;
      calls = c.push_reserved.new.self;
      ready = x.ready;
    } in
    write_fits n x y c.args.location c.args.value
    (write_open (actor_of x) x.reads.entries x.writes.entries x.place c.args.location c.args.value c.requires.allowed) below
    c.requires.limit c.in_default-put.ensures.ok f refl refl refl refl
