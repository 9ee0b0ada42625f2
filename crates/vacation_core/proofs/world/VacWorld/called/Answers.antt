use Rattle.std.proofs.Common.{subst}
use Rattle.std.proofs.lemmas.Result.{IfOk-weaker}
use Rattle.seq_model.specs.declared.event.Notice.TheVariants.{Refused}
use Rattle.vacation_core.specs.Running.{Called}
use Rattle.vacation_core.proofs.AskLemmas.{given_up, refused_on, waits_on}
use Rattle.vacation_core.proofs.world.VacWorld.called.Goals as goal

pub returns-in-Quiet-clause-ok : goal.returns-in-Quiet-clause-ok
returns-in-Quiet-clause-ok c = λ k call to x.
    waits_on c.args.i k call c.args.self.now to (subst (λ n. Called c.args.i k call n c.args.self.now to) c.in-Quiet.is x)

pub returns-in-Answered-clause-ok : goal.returns-in-Answered-clause-ok
returns-in-Answered-clause-ok c =
    IfOk-weaker c.replied.result _ _ (λ _ h k call to x. h k c.in-Answered.field-0 call to
    (subst (λ n. Called c.args.i k call n c.args.self.now to) c.in-Answered.is x)) c.replied.ensures.ok

pub returns-in_ok-give_up-in-Refused-clause-ok : goal.returns-in_ok-give_up-in-Refused-clause-ok
returns-in_ok-give_up-in-Refused-clause-ok c = λ k call to x.
    let y : Called c.args.i k call (Refused c.in-Refused.field-0 c.in-Refused.cause) c.args.self.now to =
    subst (λ n. Called c.args.i k call n c.args.self.now to) c.in-Refused.is x in
    given_up c.args.i k c.in-Refused.field-0 call c.in-Refused.cause c.args.self.now c.give_up.new.self to _ y
    (c.in_ok-give_up-in-Refused.ensures.ok y.play (refused_on c.args.i k c.in-Refused.field-0 call c.in-Refused.cause c.args.self.now to y))
