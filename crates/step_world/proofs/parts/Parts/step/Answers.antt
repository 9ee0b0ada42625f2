use Rattle.std.proofs.Common.{refl, sym, ◌∙◌}
use Rattle.std.proofs.lemmas.Option.{slice_get_read}
use Rattle.tx_actor.specs.Running.{stage_of}
use Rattle.step_world.proofs.FeedLemmas.{copy_allocates, first_allocates, may_allocate, nothing_happens, on_err}
use Rattle.step_world.proofs.parts.Parts.step.Goals as goal

pub returns-in-Nothing-clause-ok : goal.returns-in-Nothing-clause-ok
returns-in-Nothing-clause-ok g c =
    let r = c.index.result.now in
    let got = slice_get_read c.args.self.now.actors.items _ c.args.i r refl c.requires.inside c.index.ensures in
    nothing_happens c.args.self.now c.args.i r got (sym c.next.ensures ∙ c.in-Nothing.is)

pub returns-in-FirstStore-clause-wants : goal.returns-in-FirstStore-clause-wants
returns-in-FirstStore-clause-wants g c =
    let r = c.index.result.now in
    let got = slice_get_read c.args.self.now.actors.items _ c.args.i r refl c.requires.inside c.index.ensures in
    on_err c.commit.result (may_allocate c.args.self.now c.args.i r got
    (first_allocates (stage_of r.stage) (sym c.next.ensures ∙ c.in-FirstStore.is)))

pub returns-in-Copy-clause-wants : goal.returns-in-Copy-clause-wants
returns-in-Copy-clause-wants g c =
    let r = c.index.result.now in
    let got = slice_get_read c.args.self.now.actors.items _ c.args.i r refl c.requires.inside c.index.ensures in
    on_err c.copy.result (may_allocate c.args.self.now c.args.i r got (copy_allocates r.stage _ (sym c.next.ensures ∙ c.in-Copy.is)))
