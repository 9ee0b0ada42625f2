use Rattle.std.proofs.Common.{ap, refl, subst}
use Rattle.std.specs.Prelude.{slice_set}
use Rattle.std.proofs.lemmas.Option.{slice_get_read}
use Rattle.seq_model.specs.declared.event.Notice.TheVariants.{Answered}
use Rattle.vacation_core.specs.Running.{Called}
use Rattle.vacation_core.proofs.AskLemmas.{replied_on, unreplied}
use Rattle.vacation_core.proofs.TurnLemmas.{place_lt}
use Rattle.vacation_core.proofs.world.VacWorld.replied.Goals as goal

pub returns-in_ok-join-in-Replied-clause-ok : goal.returns-in_ok-join-in-Replied-clause-ok
returns-in_ok-join-in-Replied-clause-ok c = λ k b call to x.
    let v = c.args.self.now in
    let d = c.index_mut.result.now in
    let got = slice_get_read v.clients.items _ c.args.i d refl (place_lt c.args.i v c.requires) c.index_mut.ensures.value in
    replied_on c.args.i k b call c.in-Replied.reply v _ d to got refl refl
    (ap (λ y. slice_set v.clients.items c.args.i y) c.in_ok-join-in-Replied.ensures)
    (subst (λ z. Called c.args.i k call (Answered b z) v to) c.in-Replied.is x)

pub returns-in_default-clause-ok : goal.returns-in_default-clause-ok
returns-in_default-clause-ok c = λ k b call to x.
    absurd (unreplied c.args.i k b call c.args.answer c.args.self.now to c.in_default.not-Replied x)
