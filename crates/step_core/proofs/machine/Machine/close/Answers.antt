use Rattle.std.proofs.Common.{◌≡◌, refl, ap, sym, ◌∙◌, subst, arith, inl, map, false, vec_items, List}
use Rattle.std.proofs.lemmas.Option.{slice_get_read}
use Rattle.std.specs.Vec.{with_item}
use Rattle.step_core.specs.Shown.{call_of}
use Rattle.step_core.specs.Sound.{FitsPlace, owed, due}
use Rattle.step_core.specs.declared.actor.Place.TheVariants.{Close, Idle}
use Rattle.step_core.specs.declared.machine.Machine.{Machine}
use Rattle.step_core.specs.declared.record.WordCall.{WordCall}
use Rattle.step_core.specs.declared.record.WordRecord.{WordRecord}
use Rattle.step_core.proofs.CellMoves.{place_fits, same_actor}
use Rattle.step_core.proofs.Moves.{fits_here, due_here, steps_committing, commits_reader, sound_next}
use Rattle.step_core.proofs.machine.Machine.close.Goals as goal

pub push_reserved-requires : goal.push_reserved-requires
push_reserved-requires c =
    let w : Machine = c.args.self.now in
    let x = c.index_mut-actor.result.now in
    let got = slice_get_read w.actors.items _ c.args.a x refl c.requires.actor c.index_mut-actor.ensures.value in
    due_here w c.args.a x got c.requires.sound (ap due (c.requires.place _ got))

pub returns-clause-steps : goal.returns-clause-steps
returns-clause-steps c =
    let w : Machine = c.args.self.now in
    let x = c.index_mut-actor.result.now in
    let y = c.take_ready-calls.new.self in
    let got = slice_get_read w.actors.items _ c.args.a x refl c.requires.actor c.index_mut-actor.ensures.value in
    let at_p = c.requires.place _ got in
    let t : Machine = record {
      cells = c.args.self.now.cells;
      actors = with_item w.actors c.args.a y;
      history = c.push_reserved.new.self;
    } in
    let own : WordRecord = record { actor = c.args.a; number = x.rv; writes = false; calls = c.take_ready-calls.result } in
    let given : map call_of c.take_ready-calls.result ≡ map call_of x.calls.items = ap (λ (z : List WordCall). map call_of z)
    (c.take_ready-calls.ensures.calls ∙ ap vec_items c.close-answer.ensures.rest.1
    ∙ place_fits x _ Close at_p (fits_here w c.args.a x c.requires.sound got)) in
    steps_committing w t c.args.a x y _ own got
    (same_actor w.cells t.cells x c.close-answer.new.actor y _ c.close-answer.ensures.steps c.take_ready-calls.ensures.actor) refl
    refl c.push_reserved.ensures.items
    (commits_reader c.args.a x (map call_of c.take_ready-calls.result) at_p given)

pub returns-clause-sound : goal.returns-clause-sound
returns-clause-sound c =
    let w : Machine = c.args.self.now in
    let x = c.index_mut-actor.result.now in
    let y = c.take_ready-calls.new.self in
    let got = slice_get_read w.actors.items _ c.args.a x refl c.requires.actor c.index_mut-actor.ensures.value in
    let from = c.requires.place _ got in
    let to : y.place ≡ Idle = c.take_ready-calls.ensures.place ∙ c.close-answer.ensures.rest.0 in
    let before = ap due from in
    let after = ap due to in
    let owes = ap owed to in
    sound_next w _ c.args.a x y c.requires.sound got
    (c.take_ready-calls.ensures.fits _ (subst (FitsPlace _ y) (sym to) tt)
    (c.close-answer.ensures.keeps.fits _ (fits_here w c.args.a x c.requires.sound got)))
    (refl, refl) (inl (omega (arith, owes))) refl
    (omega (arith, c.push_reserved.ensures.len, before, after)) (omega (arith, c.push_reserved.ensures.capacity))
