use Rattle.std.proofs.Common.{sym, subst, ap}
use Rattle.seq_model.specs.declared.call.Call.{Call}
use Rattle.seq_model.specs.declared.call.Op.{Op}
use Rattle.seq_model.specs.declared.call.Op.TheVariants.{Read, Write}
use Rattle.replay_log.specs.Worlds.{ask_op}
use Rattle.tx_actor.specs.Asks.{AdmitsCall}
use Rattle.tx_actor.specs.Calls.{AsksOwn}
use Rattle.tx_actor.specs.Running.{seat_of}
use Rattle.tx_actor.proofs.ShadowAfterRequestLemmas.{admits_call, alike_stands, call_as, on_err, own_still}
use Rattle.tx_actor.proofs.OwnAsksLemmas.{read_same, write_same}
use Rattle.actor_parts.specs.Dispatch.{is_loading}
use Rattle.tx_actor.specs.Running.{stage_of}
use Rattle.tx_actor.specs.declared.actor.Stage.{Stage}
use Rattle.tx_actor.proofs.CopiesByStageLemmas.{still_same}
use Rattle.tx_actor.proofs.actor.TxActor.request_op.Goals as goal

pub returns-in_err-request_call-in_default-clause-err : goal.returns-in_err-request_call-in_default-clause-err
returns-in_err-request_call-in_default-clause-err g c =
    on_err c.from_residual-in_err-request_call-in_default.result
    (alike_stands c.args.self.now c.request_call.new.self c.in_err-request_call-in_default.ensures.err)

pub returns-in_ok-request_read-in-Read-clause-ok : goal.returns-in_ok-request_read-in-Read-clause-ok
returns-in_ok-request_read-in-Read-clause-ok g c =
    let r = c.args.self.now in
    let u = c.request_read.new.self in
    let v = c.args.blocks.now in
    let k = c.args.call.target in
    let t = c.in_ok-request_read-in-Read.field-0 in
    subst (λ (op : Op g.row.V.Denot). AsksOwn v r u t (λ a w. ask_op w a (seat_of r) k op)) (sym c.in-Read.is)
    (own_still v r u t (λ a w. ask_op w a (seat_of r) k Read) c.in_ok-request_read-in-Read.ensures.copies
    (λ a w. read_same a w (seat_of r) k)
    c.in_ok-request_read-in-Read.ensures.ok)

pub returns-in_ok-request_write-in-Write-clause-ok : goal.returns-in_ok-request_write-in-Write-clause-ok
returns-in_ok-request_write-in-Write-clause-ok g c =
    let r = c.args.self.now in
    let u = c.request_write.new.self in
    let v = c.args.blocks.now in
    let k = c.args.call.target in
    let n = c.in-Write.value in
    let t = c.in_ok-request_write-in-Write.field-0 in
    subst (λ (op : Op g.row.V.Denot). AsksOwn v r u t (λ a w. ask_op w a (seat_of r) k op)) (sym c.in-Write.is)
    (own_still v r u t (λ a w. ask_op w a (seat_of r) k (Write n)) c.in_ok-request_write-in-Write.ensures.copies
    (λ a w. write_same a w (seat_of r) k n) c.in_ok-request_write-in-Write.ensures.ok)

pub returns-in_ok-request_call-in_default-clause-ok : goal.returns-in_ok-request_call-in_default-clause-ok
returns-in_ok-request_call-in_default-clause-ok g c =
    call_as c.args.blocks.now c.args.self.now c.request_call.new.self c.in_ok-request_call-in_default.field-0 c.args.call.target
    c.args.call.op
    c.in_default.not-Read c.in_default.not-Write c.in_ok-request_call-in_default.ensures.ok

-- the bounds and the room, and what was read
pub returns-in_ok-request_read-in-Read-clause-keeps : goal.returns-in_ok-request_read-in-Read-clause-keeps
returns-in_ok-request_read-in-Read-clause-keeps g c noreads =
    c.request_read.ensures.keeps noreads (ap (λ (s : Stage g.row.V.Denot). is_loading (stage_of s)) c.requires.stage)

pub returns-in_ok-request_read-in-Read-clause-still : goal.returns-in_ok-request_read-in-Read-clause-still
returns-in_ok-request_read-in-Read-clause-still g c =
    still_same c.args.self.now.copies.items c.request_read.new.self.copies.items (λ i. (c.request_read.ensures.copies i).items)

pub returns-in_err-request_read-in-Read-clause-keeps : goal.returns-in_err-request_read-in-Read-clause-keeps
returns-in_err-request_read-in-Read-clause-keeps g c noreads =
    c.request_read.ensures.keeps noreads (ap (λ (s : Stage g.row.V.Denot). is_loading (stage_of s)) c.requires.stage)

pub returns-in_err-request_read-in-Read-clause-still : goal.returns-in_err-request_read-in-Read-clause-still
returns-in_err-request_read-in-Read-clause-still g c =
    still_same c.args.self.now.copies.items c.request_read.new.self.copies.items (λ i. (c.request_read.ensures.copies i).items)

pub returns-in_ok-request_write-in-Write-clause-keeps : goal.returns-in_ok-request_write-in-Write-clause-keeps
returns-in_ok-request_write-in-Write-clause-keeps g c noreads =
    c.request_write.ensures.keeps (ap (λ (s : Stage g.row.V.Denot). is_loading (stage_of s)) c.requires.stage)

pub returns-in_ok-request_write-in-Write-clause-still : goal.returns-in_ok-request_write-in-Write-clause-still
returns-in_ok-request_write-in-Write-clause-still g c =
    still_same c.args.self.now.copies.items c.request_write.new.self.copies.items (λ i. (c.request_write.ensures.copies i).items)

pub returns-in_err-request_write-in-Write-clause-keeps : goal.returns-in_err-request_write-in-Write-clause-keeps
returns-in_err-request_write-in-Write-clause-keeps g c noreads =
    c.request_write.ensures.keeps (ap (λ (s : Stage g.row.V.Denot). is_loading (stage_of s)) c.requires.stage)

pub returns-in_err-request_write-in-Write-clause-still : goal.returns-in_err-request_write-in-Write-clause-still
returns-in_err-request_write-in-Write-clause-still g c =
    still_same c.args.self.now.copies.items c.request_write.new.self.copies.items (λ i. (c.request_write.ensures.copies i).items)

pub returns-in_ok-request_call-in_default-clause-keeps : goal.returns-in_ok-request_call-in_default-clause-keeps
returns-in_ok-request_call-in_default-clause-keeps g c noreads = c.request_call.ensures.keeps noreads

pub returns-in_ok-request_call-in_default-clause-still : goal.returns-in_ok-request_call-in_default-clause-still
returns-in_ok-request_call-in_default-clause-still g c = c.request_call.ensures.still

pub returns-in_err-request_call-in_default-clause-keeps : goal.returns-in_err-request_call-in_default-clause-keeps
returns-in_err-request_call-in_default-clause-keeps g c noreads = c.request_call.ensures.keeps noreads

pub returns-in_err-request_call-in_default-clause-still : goal.returns-in_err-request_call-in_default-clause-still
returns-in_err-request_call-in_default-clause-still g c = c.request_call.ensures.still

-- what is admitted
pub returns-in_err-request_read-in-Read-clause-admits : goal.returns-in_err-request_read-in-Read-clause-admits
returns-in_err-request_read-in-Read-clause-admits g c =
    on_err c.from_residual.result
    (subst (λ (op : Op g.row.V.Denot). let call : Call g.row.V.Denot = record { target = c.args.call.target; op = op } in
    AdmitsCall c.args.blocks.now c.args.self.now call) (sym c.in-Read.is) c.in_err-request_read-in-Read.ensures.admits)

pub returns-in_err-request_write-in-Write-clause-admits : goal.returns-in_err-request_write-in-Write-clause-admits
returns-in_err-request_write-in-Write-clause-admits g c =
    on_err c.from_residual-in_err-request_write-in-Write.result
    (subst (λ (op : Op g.row.V.Denot). let call : Call g.row.V.Denot = record { target = c.args.call.target; op = op } in
    AdmitsCall c.args.blocks.now c.args.self.now call) (sym c.in-Write.is) c.in_err-request_write-in-Write.ensures.admits)

pub returns-in_err-request_call-in_default-clause-admits : goal.returns-in_err-request_call-in_default-clause-admits
returns-in_err-request_call-in_default-clause-admits g c =
    on_err c.from_residual-in_err-request_call-in_default.result
    (admits_call c.args.blocks.now c.args.self.now c.args.call c.in_default.not-Read c.in_default.not-Write
    c.in_err-request_call-in_default.ensures.allowed c.in_err-request_call-in_default.ensures.few)
