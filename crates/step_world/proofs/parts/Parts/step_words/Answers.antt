use Rattle.std.proofs.Common.{◌≡◌, ap, refl, sym, ◌∙◌}
use Rattle.std.proofs.lemmas.Option.{slice_get_read}
use Rattle.step_core.proofs.Lists.{same_at}
use Rattle.actor_parts.specs.Dispatch.{is_loading}
use Rattle.tx_actor.specs.Running.{stage_of}
use Rattle.tx_actor.specs.declared.actor.Stage.{Stage}
use Rattle.step_world.specs.Feeds.{allocates_at}
use Rattle.step_world.proofs.FeedLemmas.{may_allocate, on_err, quiet_unless}
use Rattle.step_world.proofs.parts.Parts.step_words.Goals as goal

pub load-requires : goal.load-requires
load-requires g c = record {
  inside = c.requires.inside;
  world = c.requires.world;
  loading = λ r at. (
      let rs = c.args.self.now.actors.items in
      let got = slice_get_read rs _ c.args.i c.index.result.now refl c.requires.inside c.index.ensures in
      let is : c.index.result.now ≡ r = same_at rs c.args.i c.index.result.now r got at in
      ap (λ (s : Stage g.row.V.Denot). is_loading (stage_of s)) (ap (λ x. x.stage) (sym is) ∙ c.in-Loading.is));
}

pub move_on-requires : goal.move_on-requires
move_on-requires g c = record {
  inside = c.requires.inside;
  world = c.requires.world;
  due = c.requires.due;
  stays = λ r at. (
      let rs = c.args.self.now.actors.items in
      let got = slice_get_read rs _ c.args.i c.index.result.now refl c.requires.inside c.index.ensures in
      let is : c.index.result.now ≡ r = same_at rs c.args.i c.index.result.now r got at in (
        λ e. c.in_default.not-Closing (ap (λ x. x.stage) is ∙ e),
        λ e. c.in_default.not-Leaving (ap (λ x. x.stage) is ∙ e),
        quiet_unless r.stage (λ o left e. c.in_default.not-Loading o left (ap (λ x. x.stage) is ∙ e)),
      ));
}

pub returns-in-Closing-clause-wants : goal.returns-in-Closing-clause-wants
returns-in-Closing-clause-wants g c =
    let r = c.index.result.now in
    let got = slice_get_read c.args.self.now.actors.items _ c.args.i r refl c.requires.inside c.index.ensures in
    on_err c.close.result (may_allocate c.args.self.now c.args.i r got
    (ap (λ (s : Stage g.row.V.Denot). allocates_at (stage_of s)) c.in-Closing.is))

pub returns-in-Leaving-clause-wants : goal.returns-in-Leaving-clause-wants
returns-in-Leaving-clause-wants g c =
    let r = c.index.result.now in
    let got = slice_get_read c.args.self.now.actors.items _ c.args.i r refl c.requires.inside c.index.ensures in
    on_err c.leave.result (may_allocate c.args.self.now c.args.i r got
    (ap (λ (s : Stage g.row.V.Denot). allocates_at (stage_of s)) c.in-Leaving.is))
