use Rattle.std.proofs.Common.{◌≡◌, true, false, length, ltb, refl, sym, ◌∙◌, arith}
use Rattle.seq_model.specs.declared.limits.TheConstants.{CALL_LIMIT}
use Rattle.seq_model.specs.declared.refusal.Refusal.TheVariants.{NoSuch, TooLong}
use Rattle.replay_log.specs.Worlds.{calls_on}
use Rattle.tx_actor.specs.Calls.{ask_call}
use Rattle.actor_parts.specs.CopyInWorld.{call_on}
use Rattle.tx_actor.specs.Running.{seat_of}
use Rattle.actor_parts.proofs.BlocksLemmas.{is_below, is_not_below}
use Rattle.tx_actor.proofs.CallsLemmas.{asked_as, asks_allowed, no_such, refused_as, too_long}
use Rattle.tx_actor.proofs.ActorBoundsLemmas.{keeps_same}
use Rattle.tx_actor.proofs.actor.TxActor.request_call.Goals as goal

pub returns-then-not-is_allowed-clause-ok : goal.returns-then-not-is_allowed-clause-ok
returns-then-not-is_allowed-clause-ok g c =
    let r = c.args.self.now in
    let v = c.args.blocks.now in
    let k = c.args.collection in
    let op = c.args.op in
    refused_as v r NoSuch (λ a w. ask_call w a (seat_of r) k op)
    (λ a w laid s. no_such v w a r k op laid s (sym c.is_allowed.ensures.allowed ∙ c.if-not-is_allowed.true))

pub returns-then-len-ge-CALL_LIMIT-clause-ok : goal.returns-then-len-ge-CALL_LIMIT-clause-ok
returns-then-len-ge-CALL_LIMIT-clause-ok g c =
    let r = c.args.self.now in
    let v = c.args.blocks.now in
    let k = c.args.collection in
    let op = c.args.op in
    let many : ltb (length r.calls.items) CALL_LIMIT ≡ false =
    is_not_below (length r.calls.items) CALL_LIMIT (omega (arith, c.len.ensures, c.if-len-ge-CALL_LIMIT.true)) in
    refused_as v r TooLong (λ a w. ask_call w a (seat_of r) k op)
    (λ a w laid s. too_long v w a r k op laid s (sym c.is_allowed.ensures.allowed ∙ c.if-not-is_allowed.false) many)

pub returns-clause-ok : goal.returns-clause-ok
returns-clause-ok g c =
    let r = c.args.self.now in
    let v = c.args.blocks.now in
    let k = c.args.collection in
    let op = c.args.op in
    let few : ltb (length r.calls.items) CALL_LIMIT ≡ true =
    is_below (length r.calls.items) CALL_LIMIT (omega (arith, c.len.ensures, c.if-len-ge-CALL_LIMIT.false)) in
    asked_as v r c.calls_on.new.self c.in_ok-told.told (λ a w. calls_on w a (seat_of r) (call_on k op))
    (λ a w. ask_call w a (seat_of r) k op)
    (λ a w laid s. asks_allowed v w a r k op laid s (sym c.is_allowed.ensures.allowed ∙ c.if-not-is_allowed.false) few)
    c.in_ok-told.ensures.ok

pub returns-then-not-is_allowed-clause-keeps : goal.returns-then-not-is_allowed-clause-keeps
returns-then-not-is_allowed-clause-keeps g c noreads = keeps_same c.args.blocks.now c.args.self.now c.args.self.now refl

pub returns-then-not-is_allowed-clause-still : goal.returns-then-not-is_allowed-clause-still
returns-then-not-is_allowed-clause-still g c w a k is = is

pub returns-then-len-ge-CALL_LIMIT-clause-keeps : goal.returns-then-len-ge-CALL_LIMIT-clause-keeps
returns-then-len-ge-CALL_LIMIT-clause-keeps g c noreads = keeps_same c.args.blocks.now c.args.self.now c.args.self.now refl

pub returns-then-len-ge-CALL_LIMIT-clause-still : goal.returns-then-len-ge-CALL_LIMIT-clause-still
returns-then-len-ge-CALL_LIMIT-clause-still g c w a k is = is
