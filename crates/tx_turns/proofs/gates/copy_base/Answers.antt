use Rattle.std.proofs.Common.{Option, [], inl, length, subst, sym}
use Rattle.tx_actor.specs.declared.actor.Stage.TheVariants as stage
use Rattle.tx_actor.specs.declared.actor.ActorNotice.TheVariants.{Quiet}
use Rattle.tx_actor.specs.declared.actor.TxActor.{TxActor}
use Rattle.tx_actor.specs.declared.taking.KeyedCall.{KeyedCall}
use Rattle.actor_parts.specs.Blocks.{BlocksView}
use Rattle.tx_actor.proofs.NameLemmas.{named_copy}
use Rattle.tx_actor.proofs.CopiesByStageLemmas.{asks_nothing}
use Rattle.tx_actor.specs.Copying.{CanCopyAt}
use Rattle.tx_actor.specs.ActorBounds.{IsRunning}
use Rattle.tx_actor.specs.Running.{at}
use Rattle.tx_actor.specs.Taking.{AreTakenAt}
use Rattle.shared_table.specs.Seated.{blocks_in, opening_of}
use Rattle.tx_turns.specs.Ties.{Turned}
use Rattle.tx_turns.proofs.LoneRequestLemmas.{starved}
use Rattle.tx_turns.proofs.TurnLemmas.{laid_as}
use Rattle.tx_turns.specs.Own.{HasOwn}
use Rattle.tx_turns.proofs.CopyLemmas.{copy_can, copy_first, lifted, lifted_behind, lifted_on, none_same}
use Rattle.tx_turns.proofs.EventLemmas.{starve_own}
use Rattle.tx_turns.proofs.GateLemmas.{copy_due, first_here, first_out, held_base, may_put, some_held}
use Rattle.tx_turns.proofs.gates.copy_base.Goals as goal

pub takes-requires : goal.takes-requires
takes-requires g c =
    let t = c.args.table.now in
    let s = c.args.seat.now in
    let r = c.args.actor.now in
    let k = c.args.k in
    let bs = c.args.bases.now.items in
    let v = c.blocks-blocks.result.now in
    let laid = laid_as t v c.blocks-blocks.ensures.words c.blocks-blocks.ensures.blocks in
    let front = first_here bs c.front.result.now
    (some_held t s r k [] bs (copy_first r.stage k c.requires.due) c.requires.own) c.front.ensures in
    subst (λ (z : BlocksView). CanCopyAt z r c.front.result.now r.stage) (sym laid)
    (copy_can c.excerpts_as_worlds.ensures c.copies_go_on.ensures c.sizes_copies.ensures.sizes c.copies_stay_own.ensures.blocks
    c.copies_by_stage.ensures.others t s r k bs front.0 c.front.result.now c.requires.due c.requires.ties c.requires.own front.1)

pub front-requires : goal.front-requires
front-requires g c =
    some_held c.args.table.now c.args.seat.now c.args.actor.now c.args.k [] c.args.bases.now.items
    (copy_first c.args.actor.now.stage c.args.k c.requires.due) c.requires.own

pub first-base-requires : goal.first-base-requires
first-base-requires g c =
    some_held c.args.table.now c.args.seat.now c.args.actor.now c.args.k [] c.args.bases.now.items
    (copy_first c.args.actor.now.stage c.args.k c.requires.due) c.requires.own

pub put_gate-requires-clause-own : goal.put_gate-requires-clause-own
put_gate-requires-clause-own g c = c.requires.ties.owns

pub put_gate-requires-clause-live : goal.put_gate-requires-clause-live
put_gate-requires-clause-live g c = c.requires.ties.live

pub put_gate-requires-clause-collection : goal.put_gate-requires-clause-collection
put_gate-requires-clause-collection g c =
    named_copy c.args.actor.now.stage c.args.k (length (blocks_in c.args.table.now)) c.requires.due c.requires.ties.running.names

pub put_gate-requires-clause-held : goal.put_gate-requires-clause-held
put_gate-requires-clause-held g c =
    let r = c.args.actor.now in
    (first_out c.args.seat.now r c.args.k [] c.requires.own.out (copy_first r.stage c.args.k c.requires.due)).0

pub put_gate-requires-clause-due : goal.put_gate-requires-clause-due
put_gate-requires-clause-due g c =
    let t = c.args.table.now in
    let s = c.args.seat.now in
    let r = c.args.actor.now in
    may_put t s r c.args.k c.first-base.result c.requires.ties
    (copy_due c.steps_as_worlds.ensures t s r c.args.k c.requires.due c.requires.ties)
    (held_base t s r c.args.k [] c.args.bases.now.items c.first-base.new.bases.items c.first-base.result
    (copy_first r.stage c.args.k c.requires.due) c.requires.own c.first-base.ensures).0

-- the gate is back
pub continue_or_wait-requires : goal.continue_or_wait-requires
continue_or_wait-requires g c =
    let call = lifted (record {
      steps = c.steps_as_worlds.ensures;
      taken = c.excerpts_as_worlds.ensures;
      on = c.copies_go_on.ensures;
      sized = c.sizes_copies.ensures.sizes;
      of = c.copies_stay_own.ensures.blocks;
      others = c.copies_by_stage.ensures.others;
    }) c.args.table.now c.args.seat.now c.args.actor.now c.takes.new.self c.args.k c.args.bases.now.items c.front.result.now
    c.in-Ok-Some.taken _ c.blocks-blocks.result.now (laid_as c.args.table.now c.blocks-blocks.result.now c.blocks-blocks.ensures.words
    c.blocks-blocks.ensures.blocks) c.requires.due c.requires.ties c.requires.own c.front.ensures c.in-Ok-Some.field-0-is
    c.in-Ok-Some.ensures.ok in
    (at c.args.actor.now stage.Idle, c.front.result.now, call.1, call.2)

pub returns-in-Ok-clause-turned : goal.returns-in-Ok-clause-turned
returns-in-Ok-clause-turned g c =
    (lifted_on (record {
      steps = c.steps_as_worlds.ensures;
      taken = c.excerpts_as_worlds.ensures;
      on = c.copies_go_on.ensures;
      sized = c.sizes_copies.ensures.sizes;
      of = c.copies_stay_own.ensures.blocks;
      others = c.copies_by_stage.ensures.others;
    }) c.args.table.now c.args.seat.now c.args.actor.now c.takes.new.self c.args.k c.args.bases.now.items c.front.result.now
    c.in-Ok-Some.taken _ c.blocks-blocks.result.now (laid_as c.args.table.now c.blocks-blocks.result.now c.blocks-blocks.ensures.words
    c.blocks-blocks.ensures.blocks) c.requires.due c.requires.ties c.requires.own c.front.ensures c.in-Ok-Some.field-0-is
    c.in-Ok-Some.ensures.ok
    c.taken_parts_are_own.ensures c.put_gate.new.seat c.continue_or_wait.new.self c.in-Ok.told c.first-base.new.bases.items
    c.first-base.result
    c.first-base.ensures c.put_gate.ensures c.in-Ok.ensures.ok c.continue_or_wait.ensures.keeps).1

pub returns-in-Ok-clause-ties : goal.returns-in-Ok-clause-ties
returns-in-Ok-clause-ties g c =
    (lifted_on (record {
      steps = c.steps_as_worlds.ensures;
      taken = c.excerpts_as_worlds.ensures;
      on = c.copies_go_on.ensures;
      sized = c.sizes_copies.ensures.sizes;
      of = c.copies_stay_own.ensures.blocks;
      others = c.copies_by_stage.ensures.others;
    }) c.args.table.now c.args.seat.now c.args.actor.now c.takes.new.self c.args.k c.args.bases.now.items c.front.result.now
    c.in-Ok-Some.taken _ c.blocks-blocks.result.now (laid_as c.args.table.now c.blocks-blocks.result.now c.blocks-blocks.ensures.words
    c.blocks-blocks.ensures.blocks) c.requires.due c.requires.ties c.requires.own c.front.ensures c.in-Ok-Some.field-0-is
    c.in-Ok-Some.ensures.ok
    c.taken_parts_are_own.ensures c.put_gate.new.seat c.continue_or_wait.new.self c.in-Ok.told c.first-base.new.bases.items
    c.first-base.result
    c.first-base.ensures c.put_gate.ensures c.in-Ok.ensures.ok c.continue_or_wait.ensures.keeps).0

pub returns-in-Ok-clause-own : goal.returns-in-Ok-clause-own
returns-in-Ok-clause-own g c =
    (lifted_on (record {
      steps = c.steps_as_worlds.ensures;
      taken = c.excerpts_as_worlds.ensures;
      on = c.copies_go_on.ensures;
      sized = c.sizes_copies.ensures.sizes;
      of = c.copies_stay_own.ensures.blocks;
      others = c.copies_by_stage.ensures.others;
    }) c.args.table.now c.args.seat.now c.args.actor.now c.takes.new.self c.args.k c.args.bases.now.items c.front.result.now
    c.in-Ok-Some.taken _ c.blocks-blocks.result.now (laid_as c.args.table.now c.blocks-blocks.result.now c.blocks-blocks.ensures.words
    c.blocks-blocks.ensures.blocks) c.requires.due c.requires.ties c.requires.own c.front.ensures c.in-Ok-Some.field-0-is
    c.in-Ok-Some.ensures.ok
    c.taken_parts_are_own.ensures c.put_gate.new.seat c.continue_or_wait.new.self c.in-Ok.told c.first-base.new.bases.items
    c.first-base.result
    c.first-base.ensures c.put_gate.ensures c.in-Ok.ensures.ok c.continue_or_wait.ensures.keeps).2

pub returns-in-Err-continue_or_wait-clause-ties : goal.returns-in-Err-continue_or_wait-clause-ties
returns-in-Err-continue_or_wait-clause-ties g c =
    (lifted_behind (record {
      steps = c.steps_as_worlds.ensures;
      taken = c.excerpts_as_worlds.ensures;
      on = c.copies_go_on.ensures;
      sized = c.sizes_copies.ensures.sizes;
      of = c.copies_stay_own.ensures.blocks;
      others = c.copies_by_stage.ensures.others;
    }) c.args.table.now c.args.seat.now c.args.actor.now c.takes.new.self c.args.k c.args.bases.now.items c.front.result.now
    c.in-Ok-Some.taken _ c.blocks-blocks.result.now (laid_as c.args.table.now c.blocks-blocks.result.now c.blocks-blocks.ensures.words
    c.blocks-blocks.ensures.blocks) c.requires.due c.requires.ties c.requires.own c.front.ensures c.in-Ok-Some.field-0-is
    c.in-Ok-Some.ensures.ok
    c.put_gate.new.seat c.refuse.new.seat c.continue_or_wait.new.self c.first-base.new.bases.items c.first-base.result c.first-base.ensures
    c.put_gate.ensures c.refuse.ensures c.in-Err-continue_or_wait.ensures.err c.continue_or_wait.ensures.keeps
    (asks_nothing c.takes.new.self c.continue_or_wait.new.self c.in-Err-continue_or_wait.ensures.leaves)).0

pub returns-in-Err-continue_or_wait-clause-starved : goal.returns-in-Err-continue_or_wait-clause-starved
returns-in-Err-continue_or_wait-clause-starved g c =
    (lifted_behind (record {
      steps = c.steps_as_worlds.ensures;
      taken = c.excerpts_as_worlds.ensures;
      on = c.copies_go_on.ensures;
      sized = c.sizes_copies.ensures.sizes;
      of = c.copies_stay_own.ensures.blocks;
      others = c.copies_by_stage.ensures.others;
    }) c.args.table.now c.args.seat.now c.args.actor.now c.takes.new.self c.args.k c.args.bases.now.items c.front.result.now
    c.in-Ok-Some.taken _ c.blocks-blocks.result.now (laid_as c.args.table.now c.blocks-blocks.result.now c.blocks-blocks.ensures.words
    c.blocks-blocks.ensures.blocks) c.requires.due c.requires.ties c.requires.own c.front.ensures c.in-Ok-Some.field-0-is
    c.in-Ok-Some.ensures.ok
    c.put_gate.new.seat c.refuse.new.seat c.continue_or_wait.new.self c.first-base.new.bases.items c.first-base.result c.first-base.ensures
    c.put_gate.ensures c.refuse.ensures c.in-Err-continue_or_wait.ensures.err c.continue_or_wait.ensures.keeps
    (asks_nothing c.takes.new.self c.continue_or_wait.new.self c.in-Err-continue_or_wait.ensures.leaves)).1

pub returns-in-Err-continue_or_wait-clause-own : goal.returns-in-Err-continue_or_wait-clause-own
returns-in-Err-continue_or_wait-clause-own g c =
    (lifted_behind (record {
      steps = c.steps_as_worlds.ensures;
      taken = c.excerpts_as_worlds.ensures;
      on = c.copies_go_on.ensures;
      sized = c.sizes_copies.ensures.sizes;
      of = c.copies_stay_own.ensures.blocks;
      others = c.copies_by_stage.ensures.others;
    }) c.args.table.now c.args.seat.now c.args.actor.now c.takes.new.self c.args.k c.args.bases.now.items c.front.result.now
    c.in-Ok-Some.taken _ c.blocks-blocks.result.now (laid_as c.args.table.now c.blocks-blocks.result.now c.blocks-blocks.ensures.words
    c.blocks-blocks.ensures.blocks) c.requires.due c.requires.ties c.requires.own c.front.ensures c.in-Ok-Some.field-0-is
    c.in-Ok-Some.ensures.ok
    c.put_gate.new.seat c.refuse.new.seat c.continue_or_wait.new.self c.first-base.new.bases.items c.first-base.result c.first-base.ensures
    c.put_gate.ensures c.refuse.ensures c.in-Err-continue_or_wait.ensures.err c.continue_or_wait.ensures.keeps
    (asks_nothing c.takes.new.self c.continue_or_wait.new.self c.in-Err-continue_or_wait.ensures.leaves)).2

-- nothing was taken
pub copy_here-requires-clause-own : goal.copy_here-requires-clause-own
copy_here-requires-clause-own g c =
    let t = c.args.table.now in
    let s = c.args.seat.now in
    let r = c.args.actor.now in
    let v = c.blocks-blocks.result.now in
    let base = c.front.result.now in
    let m = c.takes.new.self in
    let same = none_same v r m base c.args.k c.requires.due
    (subst (λ (o : Option (KeyedCall g.row.V.Denot)). AreTakenAt v r m base o r.stage) c.in-Ok-None.field-0-is c.in-Ok-None.ensures.ok) in
    subst (λ (z : TxActor g.row.V.Denot). HasOwn t s z c.args.bases.now.items) (sym same) c.requires.own

pub returns-in_ok-told-in-Ok-None-clause-turned : goal.returns-in_ok-told-in-Ok-None-clause-turned
returns-in_ok-told-in-Ok-None-clause-turned g c =
    let s = c.args.seat.now in
    let r = c.args.actor.now in
    let v = c.blocks-blocks.result.now in
    let base = c.front.result.now in
    let m = c.takes.new.self in
    let n = c.in_ok-told-in-Ok-None.told in
    let same = none_same v r m base c.args.k c.requires.due
    (subst (λ (o : Option (KeyedCall g.row.V.Denot)). AreTakenAt v r m base o r.stage) c.in-Ok-None.field-0-is c.in-Ok-None.ensures.ok) in
    subst (λ (z : TxActor g.row.V.Denot). Turned (opening_of c.args.table.now) s z c.copy_here.new.seat n) same
    c.in_ok-told-in-Ok-None.ensures.turned

pub returns-in-Err-clause-ties : goal.returns-in-Err-clause-ties
returns-in-Err-clause-ties g c =
    let t = c.args.table.now in
    let s = c.args.seat.now in
    let r = c.args.actor.now in
    let q = c.takes.new.self in
    let laid = laid_as t c.blocks-blocks.result.now c.blocks-blocks.ensures.words c.blocks-blocks.ensures.blocks in
    let running = subst (λ (v : BlocksView). IsRunning v r → IsRunning v q) laid c.in-Err.ensures.keeps.running c.requires.ties.running in
    let done = starved t s c.refuse-in-Err.new.seat r q Quiet c.requires.ties c.refuse-in-Err.ensures running c.in-Err.ensures.err in
    done.0

pub returns-in-Err-clause-starved : goal.returns-in-Err-clause-starved
returns-in-Err-clause-starved g c =
    let t = c.args.table.now in
    let s = c.args.seat.now in
    let r = c.args.actor.now in
    let q = c.takes.new.self in
    let laid = laid_as t c.blocks-blocks.result.now c.blocks-blocks.ensures.words c.blocks-blocks.ensures.blocks in
    let running = subst (λ (v : BlocksView). IsRunning v r → IsRunning v q) laid c.in-Err.ensures.keeps.running c.requires.ties.running in
    let done = starved t s c.refuse-in-Err.new.seat r q Quiet c.requires.ties c.refuse-in-Err.ensures running c.in-Err.ensures.err in
    inl done.1

pub returns-in-Err-clause-own : goal.returns-in-Err-clause-own
returns-in-Err-clause-own g c =
    let t = c.args.table.now in
    let s = c.args.seat.now in
    let r = c.args.actor.now in
    let q = c.takes.new.self in
    let laid = laid_as t c.blocks-blocks.result.now c.blocks-blocks.ensures.words c.blocks-blocks.ensures.blocks in
    let running = subst (λ (v : BlocksView). IsRunning v r → IsRunning v q) laid c.in-Err.ensures.keeps.running c.requires.ties.running in
    let done = starved t s c.refuse-in-Err.new.seat r q Quiet c.requires.ties c.refuse-in-Err.ensures running c.in-Err.ensures.err in
    starve_own c.events_keep_copies.ensures.starves c.copies_by_stage.ensures.others t s c.refuse-in-Err.new.seat r q Quiet
    c.args.bases.now.items c.requires.ties c.requires.own done.1
    done.0 c.in-Err.ensures.leaves
