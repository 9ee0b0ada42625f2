use Rattle.std.proofs.Common.{refl, ◌+◌}
use Rattle.seq_model.specs.declared.event.Event.TheVariants as event
use Rattle.seq_model.specs.declared.event.Request.TheVariants as request
use Rattle.vacation_core.proofs.AskLemmas.{commits_now}
use Rattle.vacation_core.proofs.TurnLemmas.{fed_at}
use Rattle.vacation_core.proofs.world.VacWorld.commit.Goals as goal

pub returns-clause-ok : goal.returns-clause-ok
returns-clause-ok c = λ k to x.
    let v = c.args.self.now in
    let u = c.feed.new.self in
    commits_now c.args.i k v u c.in_ok-_notice._notice to c.requires.place c.requires.asks
    (fed_at v.world.parts u.world.parts (λ a. event.Ask a request.Commit) _ (c.args.i + 1) _ _ c.actor_at-actor.ensures refl
    c.in_ok-_notice.ensures.fed)
    c.in_ok-_notice.ensures.clients c.in_ok-_notice.ensures.aborted x
