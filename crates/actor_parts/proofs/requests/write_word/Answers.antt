use Rattle.std.proofs.Common.{refl}
use Rattle.std.proofs.Common.{arith}
use Rattle.step_core.proofs.Keeps.{write_fits}
use Rattle.step_core.specs.declared.actor.Actor.{Actor}
use Rattle.actor_parts.proofs.RequestLemmas.{may_be_new}
use Rattle.actor_parts.proofs.requests.write_word.Goals as goal

pub returns-clause-keeps : goal.returns-clause-keeps
returns-clause-keeps c n below =
    let x = c.args.words.now in
    let y : Actor = record {
      place = x.place;
      declared = x.declared;
      rv = x.rv;
      wv = x.wv;
      reads = x.reads;
      writes = c.put.new.self;
      held = x.held;
      calls = c.push_reserved.new.self;
      ready = x.ready;
    } in
    record {
      fits = λ f. write_fits n x y c.args.location c.args.value c.in-Open.is below
          (may_be_new x.writes.entries c.args.location c.requires.room)
          c.in_default-put.ensures.ok f refl refl refl refl;
      owed = omega arith;
      due = omega arith;
    }
