use Rattle.std.proofs.Common.{◌≡◌, ◌<◌, ltb, true, Some, None, length, refl, sym, ap, subst, ◌∙◌, arith}
use Rattle.seq_model.specs.declared.limits.TheConstants.{CALL_LIMIT}
use Rattle.tx_machine.proofs.Sets.{put-same}
use Rattle.replay_log.specs.Worlds.{Seat}
use Rattle.std.specs.Prelude.{IsSome}
use Rattle.step_core.specs.declared.actor.Actor.{Actor}
use Rattle.step_core.specs.Shown.{actor_of}
use Rattle.actor_parts.specs.Requests.{HasNoReads, may_read, number_told}
use Rattle.replay_log.specs.Worlds.{ask_op}
use Rattle.seq_model.specs.declared.call.Op.TheVariants.{Read}
use Rattle.tx_actor.specs.Asks.{Asks}
use Rattle.tx_actor.specs.ActorBounds.{KeepsIn}
use Rattle.tx_actor.proofs.ShadowAfterRequestLemmas.{on_err}
use Rattle.tx_actor.specs.Running.{seat_of}
use Rattle.tx_actor.specs.declared.actor.Stage.TheVariants as stage
use Rattle.tx_actor.specs.declared.actor.ActorNotice.TheVariants as told
use Rattle.tx_actor.specs.declared.actor.TxActor.{TxActor}
use Rattle.actor_parts.proofs.BlocksLemmas.{end_behind, is_below}
use Rattle.tx_actor.proofs.ActorBoundsLemmas.{keeps_asked, keeps_through, room_as}
use Rattle.std.specs.Vec.{vec_capacity, vec_len}
use Rattle.replay_log.specs.Contents.{end_of}
use Rattle.tx_actor.proofs.AskLemmas.{admits_read, reads_as}
use Rattle.tx_actor.proofs.actor.TxActor.request_read.Goals as goal

pub returns-in-Some-2-clause-ok : goal.returns-in-Some-2-clause-ok
returns-in-Some-2-clause-ok g c =
    let s = c.args.self.now in
    let v = c.args.blocks.now in
    let l = c.args.word in
    let n = c.in-Some-2.value in
    let r : TxActor g.row.V.Denot = record s { words = c.seek_word.new.words } in
    let as_was : r ≡ s = λ i. record s { words = c.seek_word.ensures.same i } in
    let known : ltb l v.words ≡ true = is_below l v.words (omega (arith, c.words.ensures, c.if-word-words.false)) in
    let few : ltb (length r.calls.items) CALL_LIMIT ≡ true =
    is_below (length r.calls.items) CALL_LIMIT (omega (arith, c.len.ensures, c.if-len-ge-CALL_LIMIT.false)) in
    let room : may_read (actor_of r.words) l ≡ true =
    subst (λ (y : Actor). may_read (actor_of y) l ≡ true) (sym c.seek_word.ensures.same)
    (c.seek_word.ensures.room.0 (subst IsSome (sym c.in-Some.is) refl)) in
    let z : Seat g.row.V.Denot = record (seat_of r) { calls = c.reserve_call.new.calls.items } in
    let same : z ≡ seat_of r = λ j. record (seat_of r) { calls = c.in_ok-reserve_call.ensures.items j } in
    subst (λ (y : TxActor g.row.V.Denot). Asks v y c.read.new.self c.read.result (λ a w. ask_op w a (seat_of y) l Read)) as_was
    (reads_as v r c.read.new.self c.read.result z l (Some n) same known few room
    (ap number_told (sym c.in-Some-2.is) ∙ c.in_ok-value.ensures.told)
    (λ a w is. c.read.ensures.does a w (is ∙ sym c.in_ok-value.ensures.actor)))

pub returns-in-None-clause-ok : goal.returns-in-None-clause-ok
returns-in-None-clause-ok g c =
    let s = c.args.self.now in
    let v = c.args.blocks.now in
    let l = c.args.word in
    let r : TxActor g.row.V.Denot = record s { words = c.seek_word.new.words } in
    let as_was : r ≡ s = λ i. record s { words = c.seek_word.ensures.same i } in
    let u : TxActor g.row.V.Denot = record s { words = c.read_word.new.words; stage = stage.Reading l; calls = c.reserve_call.new.calls } in
    let known : ltb l v.words ≡ true = is_below l v.words (omega (arith, c.words.ensures, c.if-word-words.false)) in
    let few : ltb (length r.calls.items) CALL_LIMIT ≡ true =
    is_below (length r.calls.items) CALL_LIMIT (omega (arith, c.len.ensures, c.if-len-ge-CALL_LIMIT.false)) in
    let room : may_read (actor_of r.words) l ≡ true =
    subst (λ (y : Actor). may_read (actor_of y) l ≡ true) (sym c.seek_word.ensures.same)
    (c.seek_word.ensures.room.0 (subst IsSome (sym c.in-Some.is) refl)) in
    let z : Seat g.row.V.Denot = record (seat_of r) { calls = c.reserve_call.new.calls.items } in
    let same : z ≡ seat_of r = λ j. record (seat_of r) { calls = c.in_ok-reserve_call.ensures.items j } in
    subst (λ (y : TxActor g.row.V.Denot). Asks v y u told.Quiet (λ a w. ask_op w a (seat_of y) l Read)) as_was
    (reads_as v r u told.Quiet z l None same known few room (ap number_told (sym c.in-None.is) ∙ c.in_ok-value.ensures.told)
    (λ a w is. ((put-same w.seats a _, is ∙ sym c.in_ok-value.ensures.actor, tt), refl)))

-- the bounds and the room
pub returns-in-Some-2-clause-keeps : goal.returns-in-Some-2-clause-keeps
returns-in-Some-2-clause-keeps g c none quiet =
    let s = c.args.self.now in
    let v = c.args.blocks.now in
    let r : TxActor g.row.V.Denot = record s { words = c.seek_word.new.words } in
    let q : TxActor g.row.V.Denot = record s { words = c.read_word.new.words; calls = c.reserve_call.new.calls } in
    let behind = end_behind v.words v.blocks in
    let below : c.args.word < end_of v.words v.blocks = omega (arith, behind, c.words.ensures, c.if-word-words.false) in
    let unread : HasNoReads r.words = subst HasNoReads (sym c.seek_word.ensures.same) none in
    subst (λ (y : TxActor g.row.V.Denot). KeepsIn v y c.read.new.self) (λ i. record s { words = c.seek_word.ensures.same i })
    (keeps_through v r q c.read.new.self (c.read_word.ensures.keeps (end_of v.words v.blocks) below unread) (c.read.ensures.keeps v))

pub returns-in-None-clause-keeps : goal.returns-in-None-clause-keeps
returns-in-None-clause-keeps g c none quiet =
    let s = c.args.self.now in
    let v = c.args.blocks.now in
    let r : TxActor g.row.V.Denot = record s { words = c.seek_word.new.words } in
    let u : TxActor g.row.V.Denot =
    record s { words = c.read_word.new.words; stage = stage.Reading c.args.word; calls = c.reserve_call.new.calls } in
    let behind = end_behind v.words v.blocks in
    let below : c.args.word < end_of v.words v.blocks = omega (arith, behind, c.words.ensures, c.if-word-words.false) in
    let free = c.in_ok-reserve_call.ensures.ok in
    let room : vec_len c.reserve_call.new.calls < vec_capacity c.reserve_call.new.calls = omega (arith, free) in
    let unread : HasNoReads r.words = subst HasNoReads (sym c.seek_word.ensures.same) none in
    subst (λ (y : TxActor g.row.V.Denot). KeepsIn v y u) (λ i. record s { words = c.seek_word.ensures.same i })
    (keeps_asked v r u (c.read_word.ensures.keeps (end_of v.words v.blocks) below unread) (λ h. room) (λ h. tt) refl)

pub returns-in_err-value-clause-keeps : goal.returns-in_err-value-clause-keeps
returns-in_err-value-clause-keeps g c none quiet =
    let s = c.args.self.now in
    let v = c.args.blocks.now in
    let r : TxActor g.row.V.Denot = record s { words = c.seek_word.new.words } in
    let u : TxActor g.row.V.Denot = record s { words = c.read_word.new.words; calls = c.reserve_call.new.calls } in
    let behind = end_behind v.words v.blocks in
    let below : c.args.word < end_of v.words v.blocks = omega (arith, behind, c.words.ensures, c.if-word-words.false) in
    let free = c.in_ok-reserve_call.ensures.ok in
    let room : vec_len c.reserve_call.new.calls < vec_capacity c.reserve_call.new.calls = omega (arith, free) in
    let unread : HasNoReads r.words = subst HasNoReads (sym c.seek_word.ensures.same) none in
    subst (λ (y : TxActor g.row.V.Denot). KeepsIn v y u) (λ i. record s { words = c.seek_word.ensures.same i })
    (keeps_asked v r u (c.read_word.ensures.keeps (end_of v.words v.blocks) below unread) (room_as r u r.stage quiet refl (λ h. room))
    (λ h. h) quiet)

-- what is admitted
pub returns-in_err-reserve_call-clause-admits : goal.returns-in_err-reserve_call-clause-admits
returns-in_err-reserve_call-clause-admits g c =
    let v = c.args.blocks.now in
    on_err c.from_residual.result
    (admits_read v c.args.self.now c.args.word
    (is_below c.args.word v.words (omega (arith, c.words.ensures, c.if-word-words.false)))
    (omega (arith, c.len.ensures, c.if-len-ge-CALL_LIMIT.false))
    (c.seek_word.ensures.room.0 (subst IsSome (sym c.in-Some.is) refl)))

pub returns-in_err-value-clause-admits : goal.returns-in_err-value-clause-admits
returns-in_err-value-clause-admits g c =
    let v = c.args.blocks.now in
    on_err c.from_residual-in_err-value.result
    (admits_read v c.args.self.now c.args.word
    (is_below c.args.word v.words (omega (arith, c.words.ensures, c.if-word-words.false)))
    (omega (arith, c.len.ensures, c.if-len-ge-CALL_LIMIT.false))
    (c.seek_word.ensures.room.0 (subst IsSome (sym c.in-Some.is) refl)))
