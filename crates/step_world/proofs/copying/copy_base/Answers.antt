use Rattle.std.proofs.Common.{refl}
use Rattle.std.proofs.lemmas.Option.{slice_get_read}
use Rattle.step_world.proofs.CopyTurnLemmas.{can_copy, copy_own, copy_turns, rests_to_copy}
use Rattle.step_world.proofs.copying.copy_base.Goals as goal

pub copy_at_gate-requires : goal.copy_at_gate-requires
copy_at_gate-requires g c =
    let v = c.args.blocks.now in
    let t = c.args.table.now in
    let r = c.args.actor.now in
    let base = c.index.result.now in
    let s = c.requires.seated in
    let got = slice_get_read t.bases.items _ c.args.k base refl c.requires.inside.1 c.index.ensures in
    can_copy c.excerpts_as_worlds.ensures c.copies_go_on.ensures c.sizes_copies.ensures.sizes c.copies_stay_own.ensures.blocks v s.opening
    s.world s.actor c.args.k t r base c.requires.due s.reached s.laid s.table c.requires.shape c.requires.running s.runs s.copies got

pub returns-in-Ok-clause-turns : goal.returns-in-Ok-clause-turns
returns-in-Ok-clause-turns g c a =
    let t = c.args.table.now in
    let base = c.index.result.now in
    let got = slice_get_read t.bases.items _ c.args.k base refl c.requires.inside.1 c.index.ensures in
    copy_turns c.steps_as_worlds.ensures c.excerpts_as_worlds.ensures c.copies_go_on.ensures c.sizes_copies.ensures.sizes
    c.args.blocks.now a
    c.args.k t c.put_gate.new.self c.args.actor.now c.copy_at_gate.new.self c.in-Ok.told base c.requires.due c.requires.shape
    c.requires.running got
    (λ w which. c.put_gate.ensures.puts w a which) c.in-Ok.ensures.ok

pub returns-in-Ok-clause-own : goal.returns-in-Ok-clause-own
returns-in-Ok-clause-own g c a =
    let v = c.args.blocks.now in
    let t = c.args.table.now in
    let r = c.args.actor.now in
    let u = c.put_gate.new.self in
    let s = c.copy_at_gate.new.self in
    let base = c.index.result.now in
    let got = slice_get_read t.bases.items _ c.args.k base refl c.requires.inside.1 c.index.ensures in
    copy_own c.taken_parts_are_own.ensures c.excerpts_as_worlds.ensures c.copies_go_on.ensures c.sizes_copies.ensures.sizes
    c.copies_stay_own.ensures.blocks c.copies_stay.ensures.others c.copies_by_stage.ensures.others v a c.args.k t u r s c.in-Ok.told base
    c.requires.due c.requires.shape c.requires.running got
    (copy_turns c.steps_as_worlds.ensures c.excerpts_as_worlds.ensures c.copies_go_on.ensures c.sizes_copies.ensures.sizes v a
    c.args.k t u r s
    c.in-Ok.told base c.requires.due c.requires.shape c.requires.running got (λ w which. c.put_gate.ensures.puts w a which)
    c.in-Ok.ensures.ok) c.in-Ok.ensures.copies

pub returns-in-Ok-clause-keeps : goal.returns-in-Ok-clause-keeps
returns-in-Ok-clause-keeps g c =
    c.in-Ok.ensures.keeps
    (rests_to_copy c.copies_go_on.ensures c.args.blocks.now c.args.k c.args.table.now c.args.actor.now c.requires.due c.requires.seated)

pub returns-in-Err-clause-keeps : goal.returns-in-Err-clause-keeps
returns-in-Err-clause-keeps g c =
    c.in-Err.ensures.keeps
    (rests_to_copy c.copies_go_on.ensures c.args.blocks.now c.args.k c.args.table.now c.args.actor.now c.requires.due c.requires.seated)
