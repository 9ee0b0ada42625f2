use Rattle.std.proofs.Common.{Option, ap, refl, subst}
use Rattle.tx_actor.specs.Running.{is_recorded}
use Rattle.tx_actor.specs.Prepares.{ArePrepared}
use Rattle.tx_actor.specs.declared.prepares.Prepared.{Prepared}
use Rattle.tx_actor.proofs.CallsLemmas.{held_goes_on, held_is_too_long, may_prepare}
use Rattle.replay_log.specs.Contents.{end_of}
use Rattle.tx_actor.specs.declared.actor.Stage.TheVariants as stage
use Rattle.tx_actor.proofs.CopiesByStageLemmas.{still_after, still_then}
use Rattle.tx_actor.proofs.ActorBoundsLemmas.{keeps_asked, keeps_through}
use Rattle.tx_actor.proofs.PreparesLemmas.{still_alike}
use Rattle.tx_actor.proofs.RoomLemmas.{alike_in, alike_keeps, can_go_on}
use Rattle.tx_actor.proofs.actor.TxActor.calls_ready.Goals as goal

pub prepares-requires : goal.prepares-requires
prepares-requires g c =
    may_prepare c.args.blocks.now c.args.self.now c.args.place c.first_of-first.result c.args.collection c.args.op c.requires.held
    c.requires.can c.requires.known c.requires.may c.first_of-first.ensures.within

pub returns-in-Some-clause-ok : goal.returns-in-Some-clause-ok
returns-in-Some-clause-ok g c =
    let r = c.args.self.now in
    let u = c.prepares.new.self in
    let h = c.requires.held in
    let p = c.in-Some.prepared in
    let f = c.first_of-first.result in
    let ready = subst (λ (o : Option (Prepared g.row.V.Denot)). ArePrepared r u c.args.place f c.args.op h.copy o) c.in-Some.is
    (c.in_ok-prepared.ensures.ok h.copy h.at) in
    held_goes_on c.args.blocks.now r u c.continue_call.new.self c.continue_call.result c.args.place f c.args.collection c.args.op h p
    (ap is_recorded c.requires.can.stage) c.first_of-first.ensures.first c.requires.known c.requires.may c.in_ok-prepared.ensures.alike
    ready c.continue_call.ensures.does
    c.continue_call.ensures.copies

pub returns-in-None-clause-ok : goal.returns-in-None-clause-ok
returns-in-None-clause-ok g c =
    let r = c.args.self.now in
    let u = c.prepares.new.self in
    let h = c.requires.held in
    let f = c.first_of-first.result in
    let none = subst (λ (o : Option (Prepared g.row.V.Denot)). ArePrepared r u c.args.place f c.args.op h.copy o) c.in-None.is
    (c.in_ok-prepared.ensures.ok h.copy h.at) in
    held_is_too_long c.args.blocks.now r u c.args.place f c.args.collection c.args.op h (ap is_recorded c.requires.can.stage)
    c.first_of-first.ensures.first c.requires.known
    c.requires.may c.in_ok-prepared.ensures.alike none

pub continue_call-requires : goal.continue_call-requires
continue_call-requires g c =
    let h = c.requires.held in
    let ready = subst (λ (o : Option
    (Prepared g.row.V.Denot)). ArePrepared c.args.self.now c.prepares.new.self c.args.place c.first_of-first.result
    c.args.op h.copy o) c.in-Some.is (c.in_ok-prepared.ensures.ok h.copy h.at) in
    record { prepared = ready.prepared.accept }

-- the bounds and the room
pub returns-in-Some-clause-keeps : goal.returns-in-Some-clause-keeps
returns-in-Some-clause-keeps g c noreads =
    let v = c.args.blocks.now in
    let r = c.args.self.now in
    let u = c.prepares.new.self in
    let h = c.requires.held in
    let p = c.in-Some.prepared in
    let f = c.first_of-first.result in
    let alike = c.in_ok-prepared.ensures.alike in
    let ready = subst (λ (o : Option (Prepared g.row.V.Denot)). ArePrepared r u c.args.place f c.args.op h.copy o) c.in-Some.is
    (c.in_ok-prepared.ensures.ok h.copy h.at) in
    keeps_through v r u c.continue_call.new.self (alike_keeps (end_of v.words v.blocks) r u c.requires.can.rests alike)
    (c.continue_call.ensures.keeps v (can_go_on v r u c.args.place f c.args.collection c.args.op h p c.requires.can.blocks noreads
    c.first_of-first.ensures.first c.requires.there alike ready))

pub returns-in-None-clause-keeps : goal.returns-in-None-clause-keeps
returns-in-None-clause-keeps g c noreads =
    let v = c.args.blocks.now in
    let r = c.args.self.now in
    let u = c.prepares.new.self in
    keeps_asked v r (record u { stage = stage.Open })
    (alike_keeps (end_of v.words v.blocks) r u c.requires.can.rests c.in_ok-prepared.ensures.alike) (λ i. tt) (λ i. tt) refl

pub returns-in_err-prepared-clause-keeps : goal.returns-in_err-prepared-clause-keeps
returns-in_err-prepared-clause-keeps g c noreads =
    alike_in c.args.blocks.now c.args.self.now c.prepares.new.self c.requires.can.stage c.requires.can.rests
    c.in_err-prepared.ensures.alike

-- what was read
pub returns-in-Some-clause-still : goal.returns-in-Some-clause-still
returns-in-Some-clause-still g c =
    let r = c.args.self.now in
    let u = c.prepares.new.self in
    let n = c.continue_call.new.self in
    still_then r.copies.items u.copies.items n.copies.items (still_alike r u c.in_ok-prepared.ensures.alike)
    (still_after _ c.in-Some.prepared.call u.copies.items n.copies.items c.continue_call.ensures.copies)

pub returns-in-None-clause-still : goal.returns-in-None-clause-still
returns-in-None-clause-still g c = still_alike c.args.self.now c.prepares.new.self c.in_ok-prepared.ensures.alike

pub returns-in_err-prepared-clause-still : goal.returns-in_err-prepared-clause-still
returns-in_err-prepared-clause-still g c = still_alike c.args.self.now c.prepares.new.self c.in_err-prepared.ensures.alike
