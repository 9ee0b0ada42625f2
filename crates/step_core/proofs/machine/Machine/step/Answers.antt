use Rattle.std.proofs.Common.{refl, ap, ◌∙◌, arith}
use Rattle.std.proofs.lemmas.Option.{slice_get_read}
use Rattle.std.specs.Vec.{with_item}
use Rattle.step_core.specs.declared.actor.Actor.{Actor}
use Rattle.step_core.specs.declared.machine.Machine.{Machine}
use Rattle.step_core.proofs.Lists.{same_at}
use Rattle.step_core.proofs.Moves.{fits_here, steps_quietly, sound_next}
use Rattle.step_core.proofs.machine.Machine.step.Goals as goal

pub returns-in_default : goal.returns-in_default
returns-in_default c =
    let w : Machine = c.args.self.now in
    let x = c.index_mut-actor.result.now in
    let read = slice_get_read w.actors.items _ c.args.a c.index.result.now refl c.requires.actor c.index.ensures in
    let got = slice_get_read w.actors.items _ c.args.a x refl c.requires.actor c.index_mut-actor.ensures.value in
    let same = ap (λ (z : Actor). z.place) (same_at w.actors.items c.args.a _ _ read got) in
    let t : Machine = record { cells = c.step.new.self; actors = with_item w.actors c.args.a c.step.new.actor; history = w.history } in
    record {
      steps = steps_quietly w t c.args.a x c.step.new.actor c.step.result got
          (λ e. c.in_default.not-First (same ∙ e)) (λ e. c.in_default.not-Close (same ∙ e)) c.step.ensures.steps refl
          c.step.ensures.shape.1 refl;
      sound = sound_next w t c.args.a x c.step.new.actor c.requires.sound got
          (c.step.ensures.fits _ (fits_here w c.args.a x c.requires.sound got)) c.step.ensures.shape c.step.ensures.grows refl
          (omega (arith, c.step.ensures.due)) (omega arith);
    }
