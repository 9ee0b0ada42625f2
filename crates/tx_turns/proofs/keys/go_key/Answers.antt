use Rattle.std.proofs.Common.{[], sym, subst}
use Rattle.actor_parts.specs.Blocks.{BlocksView}
use Rattle.tx_actor.specs.Taking.{WasTaken}
use Rattle.tx_actor.proofs.CopiesByStageLemmas.{asks_nothing}
use Rattle.tx_turns.proofs.TurnLemmas.{laid_as}
use Rattle.tx_turns.proofs.KeyLemmas.{key_behind, key_copied, led_driven}
use Rattle.tx_turns.proofs.keys.go_key.Goals as goal

pub continue_keyed-requires : goal.continue_keyed-requires
continue_keyed-requires g c =
    let t = c.args.table.now in
    let u = c.args.actor.now in
    let p = c.args.taken in
    let v = c.blocks-2.result.now in
    let laid = laid_as t v c.blocks-2.ensures.words c.blocks-2.ensures.blocks in
    let h = c.requires.put in
    subst (λ (b : BlocksView). WasTaken b u p) (sym laid) (h.actor, h.base, h.can, h.taken)

pub look_key-requires-clause-ties : goal.look_key-requires-clause-ties
look_key-requires-clause-ties g c =
    let t = c.args.table.now in
    let m = c.args.seat.now in
    let u = c.args.actor.now in
    let p = c.args.taken in
    let v = c.blocks-2.result.now in
    let laid = laid_as t v c.blocks-2.ensures.words c.blocks-2.ensures.blocks in
    let h = c.requires.put in
    let copied = key_copied (record {
      steps = c.steps_as_worlds.ensures;
      taken = c.excerpts_as_worlds.ensures;
      on = c.copies_go_on.ensures;
      sized = c.sizes_copies.ensures.sizes;
      of = c.copies_stay_own.ensures.blocks;
      others = c.copies_by_stage.ensures.others;
    }) c.taken_parts_are_own.ensures t m u p v laid c.continue_keyed.new.self c.continue_keyed.new.said _ _ c.in-Ok-Some.field-0-is
    c.in-Ok-Some.ensures.ok c.in-Ok-Some.ensures.keeps h in
    copied.ties

pub look_key-requires-clause-own : goal.look_key-requires-clause-own
look_key-requires-clause-own g c =
    let t = c.args.table.now in
    let m = c.args.seat.now in
    let u = c.args.actor.now in
    let p = c.args.taken in
    let v = c.blocks-2.result.now in
    let laid = laid_as t v c.blocks-2.ensures.words c.blocks-2.ensures.blocks in
    let h = c.requires.put in
    let copied = key_copied (record {
      steps = c.steps_as_worlds.ensures;
      taken = c.excerpts_as_worlds.ensures;
      on = c.copies_go_on.ensures;
      sized = c.sizes_copies.ensures.sizes;
      of = c.copies_stay_own.ensures.blocks;
      others = c.copies_by_stage.ensures.others;
    }) c.taken_parts_are_own.ensures t m u p v laid c.continue_keyed.new.self c.continue_keyed.new.said _ _ c.in-Ok-Some.field-0-is
    c.in-Ok-Some.ensures.ok c.in-Ok-Some.ensures.keeps h in
    copied.own

pub returns-in-Ok-Some-clause-led : goal.returns-in-Ok-Some-clause-led
returns-in-Ok-Some-clause-led g c h =
    let t = c.args.table.now in
    let m = c.args.seat.now in
    let u = c.args.actor.now in
    let p = c.args.taken in
    let v = c.blocks-2.result.now in
    let laid = laid_as t v c.blocks-2.ensures.words c.blocks-2.ensures.blocks in
    let copied = key_copied (record {
      steps = c.steps_as_worlds.ensures;
      taken = c.excerpts_as_worlds.ensures;
      on = c.copies_go_on.ensures;
      sized = c.sizes_copies.ensures.sizes;
      of = c.copies_stay_own.ensures.blocks;
      others = c.copies_by_stage.ensures.others;
    }) c.taken_parts_are_own.ensures t m u p v laid c.continue_keyed.new.self c.continue_keyed.new.said _ _ c.in-Ok-Some.field-0-is
    c.in-Ok-Some.ensures.ok c.in-Ok-Some.ensures.keeps h in
    led_driven t h.seat m c.look_key.new.seat c.look_key.new.actor c.look_key.result [] copied.leads c.look_key.ensures

pub returns-in-Ok-None-clause-led : goal.returns-in-Ok-None-clause-led
returns-in-Ok-None-clause-led g c h =
    let t = c.args.table.now in
    let m = c.args.seat.now in
    let u = c.args.actor.now in
    let p = c.args.taken in
    let v = c.blocks-2.result.now in
    let laid = laid_as t v c.blocks-2.ensures.words c.blocks-2.ensures.blocks in
    let copied = key_copied (record {
      steps = c.steps_as_worlds.ensures;
      taken = c.excerpts_as_worlds.ensures;
      on = c.copies_go_on.ensures;
      sized = c.sizes_copies.ensures.sizes;
      of = c.copies_stay_own.ensures.blocks;
      others = c.copies_by_stage.ensures.others;
    }) c.taken_parts_are_own.ensures t m u p v laid c.continue_keyed.new.self c.continue_keyed.new.said _ _ c.in-Ok-None.field-0-is
    c.in-Ok-None.ensures.ok c.in-Ok-None.ensures.keeps h in
    copied

pub returns-in-Err-clause-stopped : goal.returns-in-Err-clause-stopped
returns-in-Err-clause-stopped g c h =
    let t = c.args.table.now in
    let m = c.args.seat.now in
    let u = c.args.actor.now in
    let p = c.args.taken in
    let v = c.blocks-2.result.now in
    let laid = laid_as t v c.blocks-2.ensures.words c.blocks-2.ensures.blocks in
    key_behind (record {
      steps = c.steps_as_worlds.ensures;
      taken = c.excerpts_as_worlds.ensures;
      on = c.copies_go_on.ensures;
      sized = c.sizes_copies.ensures.sizes;
      of = c.copies_stay_own.ensures.blocks;
      others = c.copies_by_stage.ensures.others;
    }) t m c.refuse.new.seat u p v laid c.continue_keyed.new.self c.refuse.ensures c.in-Err.ensures.err
    c.in-Err.ensures.bounds (asks_nothing u c.continue_keyed.new.self c.in-Err.ensures.leaves) h
