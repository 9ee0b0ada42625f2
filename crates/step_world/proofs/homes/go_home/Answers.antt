use Rattle.std.proofs.Common.{◌≡◌, List, ap, arith, subst, sym, ◌∙◌}
use Rattle.conflict.specs.declared.change.Change.{Change}
use Rattle.replay_log.specs.Base.{IsPreparedFor}
use Rattle.actor_parts.specs.CopyList.{copy_of}
use Rattle.std.specs.declared.alloc.Global.{Global}
use Rattle.std.specs.declared.vec.Vec.{Vec}
use Rattle.actor_parts.specs.declared.copies.CopyOfCollection.{CopyOfCollection}
use Rattle.actor_parts.specs.Dispatch.{is_loading}
use Rattle.tx_actor.specs.CopiesByStage.{KeepsFrom}
use Rattle.tx_actor.specs.ActorBounds.{KeepsIn}
use Rattle.tx_actor.specs.Running.{stage_of}
use Rattle.tx_actor.specs.declared.actor.Stage.{Stage}
use Rattle.tx_actor.specs.declared.actor.TxActor.{TxActor}
use Rattle.step_world.specs.Homes.{IsHomeTurn}
use Rattle.step_world.proofs.HomeLemmas.{home_turns, log_below, log_within}
use Rattle.tx_actor.proofs.HomeLemmas.{quiet_home, recorded_home}
use Rattle.step_world.proofs.homes.go_home.Goals as goal

pub go_home-requires-clause-prepared : goal.go_home-requires-clause-prepared
go_home-requires-clause-prepared g c = λ base at. (
    subst (λ (changes : List (Change g.row.V.Denot)). IsPreparedFor changes base) (sym c.log_of-log.ensures.changes)
    (c.requires.may.room base at))

pub go_home-requires-clause-within : goal.go_home-requires-clause-within
go_home-requires-clause-within g c =
    λ base at. log_within c.logs_as_worlds.ensures.log c.logs_as_worlds.ensures.within c.args.k c.args.table.now
    c.args.actor.now c.log_of-log.result.locations base c.requires.may c.log_of-log.ensures.locations at

pub go_home-requires-clause-below : goal.go_home-requires-clause-below
go_home-requires-clause-below g c = λ base at. log_below c.logs_as_worlds.ensures.log c.logs_as_worlds.ensures.editions c.args.k
    c.args.table.now c.args.actor.now c.log_of-log.result.locations base c.requires.may c.log_of-log.ensures.locations at

pub returns-clause-turns : goal.returns-clause-turns
returns-clause-turns g c =
    let r = c.args.actor.now in
    let p = c.log_of-log.new.self in
    subst (λ (z : TxActor g.row.V.Denot). IsHomeTurn c.args.k c.args.table.now r c.go_home.new.self z c.on_base_returned-told.result)
    (sym c.keep_log.ensures)
    (home_turns c.steps_as_worlds.ensures c.goes_on_as_worlds.ensures c.logs_as_worlds.ensures.log c.args.k c.args.table.now
    c.go_home.new.self r p c.on_base_returned-told.new.self c.log_of-log.result.changes c.log_of-log.result.locations
    c.on_base_returned-told.result
    c.requires.due
    c.requires.inside.1 (c.log_of-log.ensures.stands (recorded_home r.stage c.args.k c.requires.due))
    (ap (λ (z : TxActor _). z.stage) c.log_of-log.ensures.rest)
    c.log_of-log.ensures.changes c.log_of-log.ensures.locations c.go_home.ensures.homes c.on_base_returned-told.ensures.does)

pub returns-clause-keeps : goal.returns-clause-keeps
returns-clause-keeps g c = λ v. (
    let first = c.log_of-log.ensures.keeps (recorded_home c.args.actor.now.stage c.args.k c.requires.due) v in
    let then = c.on_base_returned-told.ensures.keeps v in
    subst (λ (z : TxActor g.row.V.Denot). KeepsIn v c.args.actor.now z) (sym c.keep_log.ensures)
    (record { running = λ h. then.running (first.running h); owed = omega (arith, first.owed, then.owed) }))

pub returns-clause-others : goal.returns-clause-others
returns-clause-others g c = λ j other.
    ap (λ (z : TxActor g.row.V.Denot). copy_of z.copies.items j) c.keep_log.ensures
    ∙ ap (λ z. copy_of z.items j) c.on_base_returned-told.ensures.copies ∙ c.log_of-log.ensures.others j other

pub returns-clause-left : goal.returns-clause-left
returns-clause-left g c =
    let r = c.args.actor.now in
    let p = c.log_of-log.new.self in
    let s = c.on_base_returned-told.new.self in
    let at : p.stage ≡ r.stage = ap (λ (z : TxActor g.row.V.Denot). z.stage) c.log_of-log.ensures.rest in
    let copies = ap (λ (z : Vec (CopyOfCollection g.row.V.Denot) Global). z.items) c.on_base_returned-told.ensures.copies in
    let quiet = quiet_home (stage_of r.stage) c.args.k c.requires.due in
    subst (λ (z : TxActor g.row.V.Denot). KeepsFrom z.stage r.stage z.copies.items z.copies.items) (sym c.keep_log.ensures)
    (subst (λ (t : Stage g.row.V.Denot). KeepsFrom s.stage t s.copies.items s.copies.items) at
    (subst (λ cs. KeepsFrom s.stage p.stage cs s.copies.items) (sym copies)
    (c.on_base_returned-told.ensures.leaves (ap (λ (t : Stage g.row.V.Denot). is_loading (stage_of t)) at ∙ quiet))))
