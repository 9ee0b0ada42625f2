use Rattle.std.proofs.Common.{◌≡◌, ◌<◌, ltb, true, [], ◌∷◌, length, refl, sym, subst, ◌∙◌, arith}
use Rattle.seq_model.specs.declared.call.Call.{Call}
use Rattle.seq_model.specs.declared.call.Op.TheVariants.{Write}
use Rattle.seq_model.specs.declared.call.Reply.TheVariants.{Done}
use Rattle.seq_model.specs.declared.limits.TheConstants.{CALL_LIMIT}
use Rattle.tx_machine.proofs.Sets.{put-same}
use Rattle.replay_log.specs.Worlds.{ask_op, fits}
use Rattle.tx_actor.specs.Asks.{Asks}
use Rattle.tx_actor.specs.ActorBounds.{KeepsIn}
use Rattle.tx_actor.proofs.ShadowAfterRequestLemmas.{on_err}
use Rattle.tx_actor.specs.Running.{seat_of}
use Rattle.tx_actor.specs.declared.actor.Stage.TheVariants as stage
use Rattle.tx_actor.specs.declared.actor.ActorNotice.TheVariants as told
use Rattle.seq_model.specs.declared.event.Answer.TheVariants as answer
use Rattle.tx_actor.specs.declared.actor.TxActor.{TxActor}
use Rattle.actor_parts.proofs.BlocksLemmas.{end_behind, is_below}
use Rattle.tx_actor.proofs.ActorBoundsLemmas.{keeps_asked, room_as}
use Rattle.std.specs.Vec.{vec_capacity, vec_len}
use Rattle.replay_log.specs.Contents.{end_of}
use Rattle.tx_actor.proofs.AskLemmas.{admits_write, more_calls, writes_as}
use Rattle.tx_actor.proofs.actor.TxActor.request_write.Goals as goal

pub returns-clause-ok : goal.returns-clause-ok
returns-clause-ok g c =
    let s = c.args.self.now in
    let v = c.args.blocks.now in
    let l = c.args.word in
    let val = c.args.value in
    let r : TxActor g.row.V.Denot = record s { words = record s.words { writes = c.fits_one.new.set } } in
    let as_was : r ≡ s = λ i. record s { words = record s.words { writes = c.fits_one.ensures.same i } } in
    let u : TxActor g.row.V.Denot = record s { words = c.write_word.new.words; stage = stage.Open; calls = c.push_reserved.new.self } in
    let known : ltb l v.words ≡ true = is_below l v.words (omega (arith, c.words.ensures, c.if-word-words.false)) in
    let few : ltb (length r.calls.items) CALL_LIMIT ≡ true =
    is_below (length r.calls.items) CALL_LIMIT (omega (arith, c.len.ensures, c.if-len-ge-CALL_LIMIT.false)) in
    let room : fits r.words.writes.entries (l ∷ []) ≡ true =
    subst (λ (y : TxActor g.row.V.Denot). fits y.words.writes.entries (l ∷ []) ≡ true) (sym as_was)
    (sym c.fits_one.ensures.fits ∙ c.if-not-fits_one.false) in
    let call : Call g.row.V.Denot = record { target = l; op = Write val } in
    let seat = more_calls (seat_of r) r.calls.items c.reserve_call.new.calls.items c.push_reserved.new.self.items call Done
    c.in_ok-reserve_call.ensures.items c.push_reserved.ensures.items in
    subst (λ (y : TxActor g.row.V.Denot). Asks v y u (told.Answered (answer.Replied Done)) (λ a w. ask_op w a (seat_of y) l (Write val)))
    as_was
    (writes_as v r u (told.Answered (answer.Replied Done)) l val known c.if-self.false few room
    (λ a w is. ((put-same w.seats a _ ∙ sym seat, is ∙ sym c.in_ok-write_word.ensures.actor, tt), refl)))

pub returns-clause-keeps : goal.returns-clause-keeps
returns-clause-keeps g c quiet =
    let s = c.args.self.now in
    let v = c.args.blocks.now in
    let r : TxActor g.row.V.Denot = record s { words = record s.words { writes = c.fits_one.new.set } } in
    let u : TxActor g.row.V.Denot = record s { words = c.write_word.new.words; stage = stage.Open; calls = c.push_reserved.new.self } in
    let behind = end_behind v.words v.blocks in
    let below : c.args.word < end_of v.words v.blocks = omega (arith, behind, c.words.ensures, c.if-word-words.false) in
    subst (λ (y : TxActor g.row.V.Denot). KeepsIn v y u) (λ i. record s { words = record s.words { writes = c.fits_one.ensures.same i } })
    (keeps_asked v r u (c.write_word.ensures.keeps (end_of v.words v.blocks) below) (λ h. tt) (λ h. tt) refl)

pub returns-in_err-write_word-clause-keeps : goal.returns-in_err-write_word-clause-keeps
returns-in_err-write_word-clause-keeps g c quiet =
    let s = c.args.self.now in
    let v = c.args.blocks.now in
    let r : TxActor g.row.V.Denot = record s { words = record s.words { writes = c.fits_one.new.set } } in
    let u : TxActor g.row.V.Denot = record s { words = c.write_word.new.words; calls = c.reserve_call.new.calls } in
    let behind = end_behind v.words v.blocks in
    let below : c.args.word < end_of v.words v.blocks = omega (arith, behind, c.words.ensures, c.if-word-words.false) in
    let free = c.in_ok-reserve_call.ensures.ok in
    let room : vec_len c.reserve_call.new.calls < vec_capacity c.reserve_call.new.calls = omega (arith, free) in
    subst (λ (y : TxActor g.row.V.Denot). KeepsIn v y u) (λ i. record s { words = record s.words { writes = c.fits_one.ensures.same i } })
    (keeps_asked v r u (c.write_word.ensures.keeps (end_of v.words v.blocks) below) (room_as r u r.stage quiet refl (λ h. room))
    (λ h. h) quiet)

-- what is admitted
pub returns-in_err-reserve_call-clause-admits : goal.returns-in_err-reserve_call-clause-admits
returns-in_err-reserve_call-clause-admits g c =
    let v = c.args.blocks.now in
    on_err c.from_residual.result
    (admits_write v c.args.self.now c.args.word c.args.value
    (is_below c.args.word v.words (omega (arith, c.words.ensures, c.if-word-words.false))) c.if-self.false
    (omega (arith, c.len.ensures, c.if-len-ge-CALL_LIMIT.false)) (sym c.fits_one.ensures.fits ∙ c.if-not-fits_one.false))

pub returns-in_err-write_word-clause-admits : goal.returns-in_err-write_word-clause-admits
returns-in_err-write_word-clause-admits g c =
    let v = c.args.blocks.now in
    on_err c.from_residual-in_err-write_word.result
    (admits_write v c.args.self.now c.args.word c.args.value
    (is_below c.args.word v.words (omega (arith, c.words.ensures, c.if-word-words.false))) c.if-self.false
    (omega (arith, c.len.ensures, c.if-len-ge-CALL_LIMIT.false)) (sym c.fits_one.ensures.fits ∙ c.if-not-fits_one.false))
