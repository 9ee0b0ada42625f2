use Rattle.std.proofs.Common.{ap, refl}
use Rattle.std.specs.Prelude.{slice_set}
use Rattle.std.proofs.lemmas.Option.{slice_get_read}
use Rattle.std.proofs.lemmas.Result.{IfOk-weaker}
use Rattle.vacation_core.proofs.NextSessionLemmas.{committed_now}
use Rattle.vacation_core.proofs.TurnLemmas.{place_lt}
use Rattle.vacation_core.proofs.world.VacWorld.hear_commit.Goals as goal

pub returns : goal.returns
returns c =
    let v = c.args.self.now in
    let d = c.index_mut.result.now in
    let got = slice_get_read v.clients.items _ c.args.i d refl (place_lt c.args.i v c.requires) c.index_mut.ensures.value in
    IfOk-weaker c.finish.result _ _ (λ _ h p b n x. committed_now c.args.i b n v _ d p got refl refl
    (ap (λ y. slice_set v.clients.items c.args.i y) h) x) c.finish.ensures
