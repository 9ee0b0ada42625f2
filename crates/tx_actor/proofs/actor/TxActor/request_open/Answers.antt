use Rattle.std.proofs.Common.{None, sym, subst, ap, refl}
use Rattle.seq_model.specs.declared.event.Request.{Request}
use Rattle.seq_model.specs.declared.event.Request.TheVariants.{Abort, Commit}
use Rattle.replay_log.specs.Worlds.{actor_of, ask_open}
use Rattle.tx_actor.specs.Calls.{AsksOwn}
use Rattle.tx_actor.specs.Running.{seat_of}
use Rattle.tx_actor.proofs.ShadowAfterRequestLemmas.{does_still, own_still}
use Rattle.tx_actor.proofs.OwnAsksLemmas.{cancel_same, commit_same}
use Rattle.actor_parts.specs.Dispatch.{is_loading}
use Rattle.tx_actor.specs.Running.{stage_of}
use Rattle.tx_actor.specs.declared.actor.Stage.{Stage}
use Rattle.tx_actor.proofs.CopiesByStageLemmas.{still_same}
use Rattle.tx_actor.proofs.ActorBoundsLemmas.{keeps_same}
use Rattle.tx_actor.proofs.actor.TxActor.request_open.Goals as goal

pub returns-in_ok-request_commit-in-Commit-clause-ok : goal.returns-in_ok-request_commit-in-Commit-clause-ok
returns-in_ok-request_commit-in-Commit-clause-ok g c =
    let r = c.args.self.now in
    let u = c.request_commit.new.self in
    let v = c.args.blocks.now in
    let t = c.in_ok-request_commit-in-Commit.field-0 in
    subst (λ (q : Request g.row.V.Denot). AsksOwn v r u t (λ a w. ask_open w a (seat_of r) q)) (sym c.in-Commit.is)
    (own_still v r u t (λ a w. ask_open w a (seat_of r) Commit) c.in_ok-request_commit-in-Commit.ensures.copies
    (λ a w. commit_same a w (seat_of r) (actor_of w a).writes) c.in_ok-request_commit-in-Commit.ensures.ok)

pub returns-in-Abort-clause-ok : goal.returns-in-Abort-clause-ok
returns-in-Abort-clause-ok g c =
    let r = c.args.self.now in
    let u = c.request_abort.new.self in
    let v = c.args.blocks.now in
    let t = c.request_abort.result in
    subst (λ (q : Request g.row.V.Denot). AsksOwn v r u t (λ a w. ask_open w a (seat_of r) q)) (sym c.in-Abort.is)
    (does_still v r u t (λ a w. ask_open w a (seat_of r) Abort) c.request_abort.ensures.copies
    (λ a w. cancel_same a w (record (seat_of r) { cause = None })) c.request_abort.ensures.does)

-- the bounds and the room, and what was read
pub returns-in-Begin-clause-keeps : goal.returns-in-Begin-clause-keeps
returns-in-Begin-clause-keeps g c noreads = keeps_same c.args.blocks.now c.args.self.now c.args.self.now refl

pub returns-in-Begin-clause-still : goal.returns-in-Begin-clause-still
returns-in-Begin-clause-still g c w a k is = is

pub returns-in-BeginRead-clause-keeps : goal.returns-in-BeginRead-clause-keeps
returns-in-BeginRead-clause-keeps g c noreads = keeps_same c.args.blocks.now c.args.self.now c.args.self.now refl

pub returns-in-BeginRead-clause-still : goal.returns-in-BeginRead-clause-still
returns-in-BeginRead-clause-still g c w a k is = is

pub returns-in_ok-request_op-in-Call-clause-keeps : goal.returns-in_ok-request_op-in-Call-clause-keeps
returns-in_ok-request_op-in-Call-clause-keeps g c noreads = c.request_op.ensures.keeps noreads

pub returns-in_ok-request_op-in-Call-clause-still : goal.returns-in_ok-request_op-in-Call-clause-still
returns-in_ok-request_op-in-Call-clause-still g c = c.request_op.ensures.still

pub returns-in_ok-request_commit-in-Commit-clause-keeps : goal.returns-in_ok-request_commit-in-Commit-clause-keeps
returns-in_ok-request_commit-in-Commit-clause-keeps g c noreads =
    c.request_commit.ensures.keeps (ap (λ (s : Stage g.row.V.Denot). is_loading (stage_of s)) c.requires.stage)

pub returns-in_ok-request_commit-in-Commit-clause-still : goal.returns-in_ok-request_commit-in-Commit-clause-still
returns-in_ok-request_commit-in-Commit-clause-still g c =
    still_same c.args.self.now.copies.items c.request_commit.new.self.copies.items (λ i. (c.request_commit.ensures.copies i).items)

pub returns-in_err-request_op-in-Call-clause-keeps : goal.returns-in_err-request_op-in-Call-clause-keeps
returns-in_err-request_op-in-Call-clause-keeps g c noreads = c.request_op.ensures.keeps noreads

pub returns-in_err-request_op-in-Call-clause-still : goal.returns-in_err-request_op-in-Call-clause-still
returns-in_err-request_op-in-Call-clause-still g c = c.request_op.ensures.still

pub returns-in_err-request_commit-in-Commit-clause-keeps : goal.returns-in_err-request_commit-in-Commit-clause-keeps
returns-in_err-request_commit-in-Commit-clause-keeps g c noreads =
    c.request_commit.ensures.keeps (ap (λ (s : Stage g.row.V.Denot). is_loading (stage_of s)) c.requires.stage)

pub returns-in_err-request_commit-in-Commit-clause-still : goal.returns-in_err-request_commit-in-Commit-clause-still
returns-in_err-request_commit-in-Commit-clause-still g c =
    still_same c.args.self.now.copies.items c.request_commit.new.self.copies.items (λ i. (c.request_commit.ensures.copies i).items)

pub returns-in-Abort-clause-keeps : goal.returns-in-Abort-clause-keeps
returns-in-Abort-clause-keeps g c noreads = c.request_abort.ensures.keeps c.args.blocks.now

pub returns-in-Abort-clause-still : goal.returns-in-Abort-clause-still
returns-in-Abort-clause-still g c =
    still_same c.args.self.now.copies.items c.request_abort.new.self.copies.items (λ i. (c.request_abort.ensures.copies i).items)
