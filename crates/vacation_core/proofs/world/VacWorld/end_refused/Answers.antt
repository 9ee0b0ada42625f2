use Rattle.std.proofs.Common.{ap, refl, subst}
use Rattle.std.specs.Prelude.{slice_set}
use Rattle.std.proofs.lemmas.Option.{slice_get_read}
use Rattle.std.proofs.lemmas.Result.{IfOk-weaker}
use Rattle.vacation_core.specs.Plays.{ends}
use Rattle.vacation_core.specs.Running.{IsPlay}
use Rattle.vacation_core.proofs.NextSessionLemmas.{refused_left}
use Rattle.vacation_core.proofs.TurnLemmas.{place_lt}
use Rattle.vacation_core.proofs.world.VacWorld.end_refused.Goals as goal

pub returns : goal.returns
returns c =
    let v = c.args.self.now in
    let d = c.index_mut.result.now in
    let got = slice_get_read v.clients.items _ c.args.i d refl (place_lt c.args.i v c.requires) c.index_mut.ensures.value in
    IfOk-weaker c.end.result _ _ (λ _ h p rests x. subst (λ a. IsPlay c.end.new.self (ends a c.args.cause p)) c.actor_at-actor.ensures
    (h p (refused_left c.args.i v _ d p got refl refl (ap (λ y. slice_set v.clients.items c.args.i y) c.leave.ensures.rest) rests x)))
    c.end.ensures
