use Rattle.std.proofs.Common.{◌<◌, ◌≤◌, ◌+◌, ◌++◌, ◌∷◌, [], ℕ, Some, length, refl, sym, ap, subst, ◌∙◌, arith}
use Rattle.std.specs.Prelude.{slice_get}
use Rattle.std.specs.List.{All}
use Rattle.std.proofs.lemmas.Option.{same_Some}
use Rattle.tx_sets.specs.Entries.{Entries}
use Rattle.step_core.specs.Sound.{owed}
use Rattle.step_core.specs.declared.actor.Place.{Place}
use Rattle.tx_machine.specs.Actor as machine
use Rattle.replay_log.specs.Contents.{end_of}
use Rattle.actor_parts.specs.declared.copies.CopyOfCollection.{CopyOfCollection}
use Rattle.actor_parts.specs.declared.judged.Judged.TheVariants as judged_as
use Rattle.actor_parts.specs.CopyList.{AreKept}
use Rattle.actor_parts.specs.Writes.{written_as}
use Rattle.tx_actor.specs.Answers.{IsAcceptedAt}
use Rattle.tx_actor.specs.Straight.{CanPut, put_outcome}
use Rattle.tx_actor.specs.declared.actor.TxActor.{TxActor}
use Rattle.tx_actor.proofs.ShadowAfterRequestLemmas.{on_err}
use Rattle.tx_actor.proofs.CopiesByStageLemmas.{still_after}
use Rattle.tx_actor.proofs.ActorBoundsLemmas.{keeps_open, keeps_through}
use Rattle.tx_actor.proofs.PreparesLemmas.{still_alike}
use Rattle.tx_actor.proofs.RoomLemmas.{alike_in, alike_keeps, fits_written, next_within}
use Rattle.tx_actor.proofs.StraightLemmas.{alike_with, held_puts, made_call, may_put, put_call, put_writes}
use Rattle.tx_actor.proofs.actor.TxActor.puts_at.Goals as goal

pub put_in-requires-clause-place : goal.put_in-requires-clause-place
put_in-requires-clause-place g c =
    subst (λ (n : ℕ). c.args.place < n) (sym (ap (λ cs. length cs.items) c.room_to_put.ensures.copies)) c.requires.held.there

pub put_in-requires-clause-can : goal.put_in-requires-clause-can
put_in-requires-clause-can g c d there =
    let h = c.requires.held in
    let before = ap (λ cs. slice_get cs.items c.args.place) (sym c.room_to_put.ensures.copies) ∙ there in
    let same = same_Some h.copy d (sym h.at ∙ before) in
    let read = c.requires.read h.copy h.at in
    subst (λ (z : CopyOfCollection g.row.V.Denot). CanPut z.copied c.args.op c.args.at.0) same
    (record { put = read.put; held = h.holds; answer = read.answer; writes = read.writes })

pub write_all-requires : goal.write_all-requires
write_all-requires g c =
    let h = c.requires.held in
    let r = c.args.self.now in
    let u = c.room_to_put.new.self in
    let alike = c.in_ok-room_to_put.ensures.alike in
    let room = c.in_ok-room_to_put.ensures.room in
    let read = c.requires.read h.copy h.at in
    may_put r.words u.words (c.args.first + c.args.at.0) (c.args.at.1 + 1) alike.words alike.place c.requires.can.rests read.plain read.fits
    room.writes room.word_calls

pub returns-clause-ok : goal.returns-clause-ok
returns-clause-ok g c =
    let h = c.requires.held in
    let r = c.args.self.now in
    let u = c.room_to_put.new.self in
    let alike = c.in_ok-room_to_put.ensures.alike in
    let read = c.requires.read h.copy h.at in
    let o = put_outcome h.copy.copied c.args.op in
    let ds : Entries = (c.args.first + c.args.at.0, c.args.at.1 + 1) ∷ [] in
    let there = ap (λ cs. slice_get cs.items c.args.place) c.room_to_put.ensures.copies ∙ h.at in
    let accepted : IsAcceptedAt c.args.place (Some o) r.copies.items c.put_in.new.copies.items =
    subst (λ cs. IsAcceptedAt c.args.place (Some o) cs.items c.put_in.new.copies.items) c.room_to_put.ensures.copies
    (c.in_ok-replies.ensures.accepted h.copy there) in
    let replies = c.in_ok-replies.ensures.replies h.copy there in
    held_puts c.args.blocks.now r _ c.args.place c.args.first c.args.collection c.args.op c.args.at h c.requires.can c.requires.first
    c.requires.known c.requires.may read alike.stage alike.rv alike.wv alike.cause
    (c.write_all.ensures.actor ∙ ap (λ (y : machine.Actor). written_as y ds) alike.words) accepted _ replies.0
    (c.push_reserved.ensures.items ∙ (λ j. alike.calls j ++ made_call c.args.collection c.args.op c.in_ok-replies.replies.0 ∷ []))
    _ replies.1

pub returns-in_err-room_to_put-clause-keeps : goal.returns-in_err-room_to_put-clause-keeps
returns-in_err-room_to_put-clause-keeps g c noreads =
    alike_in c.args.blocks.now c.args.self.now c.room_to_put.new.self c.requires.can.stage c.requires.can.rests
    c.in_err-room_to_put.ensures.alike

pub returns-in_err-room_to_put-clause-still : goal.returns-in_err-room_to_put-clause-still
returns-in_err-room_to_put-clause-still g c = still_alike c.args.self.now c.room_to_put.new.self c.in_err-room_to_put.ensures.alike

pub returns-in_err-replies-clause-err : goal.returns-in_err-replies-clause-err
returns-in_err-replies-clause-err g c =
    let r = c.args.self.now in
    let u = c.room_to_put.new.self in
    let alike = c.in_ok-room_to_put.ensures.alike in
    let n : TxActor g.row.V.Denot = record u { copies = c.put_in.new.copies } in
    let after = alike_with r u n alike refl refl refl refl refl refl
    (subst (λ cs. AreKept cs.items n.copies.items) c.room_to_put.ensures.copies c.in_err-replies.ensures.err) in
    on_err c.from_residual-in_err-replies.result after

pub returns-in_err-replies-clause-keeps : goal.returns-in_err-replies-clause-keeps
returns-in_err-replies-clause-keeps g c noreads =
    let r = c.args.self.now in
    let u = c.room_to_put.new.self in
    let alike = c.in_ok-room_to_put.ensures.alike in
    let n : TxActor g.row.V.Denot = record u { copies = c.put_in.new.copies } in
    let after = alike_with r u n alike refl refl refl refl refl refl
    (subst (λ cs. AreKept cs.items n.copies.items) c.room_to_put.ensures.copies c.in_err-replies.ensures.err) in
    alike_in c.args.blocks.now r n c.requires.can.stage c.requires.can.rests after

pub returns-in_err-replies-clause-still : goal.returns-in_err-replies-clause-still
returns-in_err-replies-clause-still g c =
    let r = c.args.self.now in
    let u = c.room_to_put.new.self in
    let alike = c.in_ok-room_to_put.ensures.alike in
    let n : TxActor g.row.V.Denot = record u { copies = c.put_in.new.copies } in
    let after = alike_with r u n alike refl refl refl refl refl refl
    (subst (λ cs. AreKept cs.items n.copies.items) c.room_to_put.ensures.copies c.in_err-replies.ensures.err) in
    still_alike r n after

pub returns-clause-keeps : goal.returns-clause-keeps
returns-clause-keeps g c noreads =
    let h = c.requires.held in
    let v = c.args.blocks.now in
    let r = c.args.self.now in
    let u = c.room_to_put.new.self in
    let alike = c.in_ok-room_to_put.ensures.alike in
    let room = c.in_ok-room_to_put.ensures.room in
    let read = c.requires.read h.copy h.at in
    let o = put_outcome h.copy.copied c.args.op in
    let ds : Entries = (c.args.first + c.args.at.0, c.args.at.1 + 1) ∷ [] in
    let end = end_of v.words v.blocks in
    let below : All (λ d. d.0 < end) ds =
    subst (All (λ d. d.0 < end)) (put_writes h.copy.copied c.args.first o c.args.at read.writes read.edition)
    (next_within v r c.args.place c.args.first c.args.collection c.args.op h o c.requires.can.blocks c.requires.first) in
    let may = may_put r.words u.words (c.args.first + c.args.at.0) (c.args.at.1 + 1) alike.words alike.place c.requires.can.rests read.plain
    read.fits room.writes room.word_calls in
    keeps_through v r u _ (alike_keeps end r u c.requires.can.rests alike)
    (keeps_open v u _ (fits_written end u.words c.write_all.new.words ds may below c.write_all.ensures.actor c.write_all.ensures.place)
    (subst (λ (p : Place). owed p ≤ owed u.words.place) (sym c.write_all.ensures.place) (omega arith))
    (alike.stage ∙ c.requires.can.stage))

pub returns-clause-still : goal.returns-clause-still
returns-clause-still g c =
    let h = c.requires.held in
    let r = c.args.self.now in
    let o = put_outcome h.copy.copied c.args.op in
    let there = ap (λ cs. slice_get cs.items c.args.place) c.room_to_put.ensures.copies ∙ h.at in
    still_after judged_as.All (put_call c.args.place c.args.collection c.args.op o []) r.copies.items c.put_in.new.copies.items
    (subst (λ cs. IsAcceptedAt c.args.place (Some o) cs.items c.put_in.new.copies.items) c.room_to_put.ensures.copies
    (c.in_ok-replies.ensures.accepted h.copy there))
