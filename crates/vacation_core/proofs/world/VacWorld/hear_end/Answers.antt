use Rattle.std.proofs.Common.{ap, refl, sym, subst, ◌∙◌}
use Rattle.std.specs.Prelude.{slice_set, Some, None}
use Rattle.std.proofs.lemmas.Option.{slice_get_read}
use Rattle.std.proofs.lemmas.Result.{IfOk-weaker}
use Rattle.vacation_core.specs.Plays.{ends}
use Rattle.vacation_core.specs.Running.{IsPlay}
use Rattle.vacation_core.proofs.NextSessionLemmas.{aborted_for, aborted_left}
use Rattle.vacation_core.proofs.TurnLemmas.{place_lt}
use Rattle.vacation_core.proofs.world.VacWorld.hear_end.Goals as goal

pub returns-in-Some : goal.returns-in-Some
returns-in-Some c =
    let v = c.args.self.now in
    let d = c.index_mut.result.now in
    let got = slice_get_read v.clients.items _ c.args.i d refl (place_lt c.args.i v c.requires) c.index_mut.ensures.value in
    IfOk-weaker c.end.result _ _ (λ _ h p b x. aborted_for c.args.i b v c.end.new.self d p (Some c.in-Some.cause) got
    (sym c.in-Some.is ∙ c.leave.ensures.fault) x
    (subst (λ a. IsPlay c.end.new.self (ends a c.in-Some.cause p)) c.actor_at-actor.ensures
    (h p (aborted_left c.args.i b v _ d p got refl refl (ap (λ y. slice_set v.clients.items c.args.i y) c.leave.ensures.rest) x))))
    c.end.ensures

pub returns-in-None : goal.returns-in-None
returns-in-None c = λ p b x.
    let v = c.args.self.now in
    let d = c.index_mut.result.now in
    let got = slice_get_read v.clients.items _ c.args.i d refl (place_lt c.args.i v c.requires) c.index_mut.ensures.value in
    aborted_for c.args.i b v _ d p None got (sym c.in-None.is ∙ c.leave.ensures.fault) x
    (aborted_left c.args.i b v _ d p got refl refl (ap (λ y. slice_set v.clients.items c.args.i y) c.leave.ensures.rest) x)
