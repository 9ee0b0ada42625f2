use Rattle.std.proofs.Common.{inl, refl, arith}
use Rattle.std.proofs.lemmas.Option.{slice_get_read}
use Rattle.step_world.proofs.OwnTurnLemmas.{keeps_ask}
use Rattle.tx_actor.proofs.OwnLemmas.{can_call, may_call, refused_ask}
use Rattle.step_world.proofs.PartsLemmas.{ask_happens, stays_by}
use Rattle.step_world.proofs.RoomLemmas.{room_ask, room_stands}
use Rattle.tx_actor.proofs.StepLemmas.{no_reads}
use Rattle.step_world.proofs.parts.Parts.ask.Goals as goal

pub request-requires : goal.request-requires
request-requires g c = λ at.
    let r = c.index_mut.result.now in
    let got = slice_get_read c.args.self.now.actors.items _ c.args.i r refl c.requires.inside c.index_mut.ensures.value in
    let h = c.requires.world in
    let s = h.parts.seats c.args.i r got in
    can_call (may_call c.calls_as_worlds.ensures) c.copies_stay_own.ensures.blocks c.args.self.now.blocks r h.opening h.world _ h.reached
    h.parts.laid s.runs s.copies at

pub returns-in-Ok-clause-ok : goal.returns-in-Ok-clause-ok
returns-in-Ok-clause-ok g c =
    let r = c.index_mut.result.now in
    let got = slice_get_read c.args.self.now.actors.items _ c.args.i r refl c.requires.inside c.index_mut.ensures.value in
    let h = c.requires.world in
    let s = h.parts.seats c.args.i r got in
    let kept = c.request.ensures.keeps (λ at. no_reads h.opening h.world _ r h.reached s.runs at) in
    let calls = may_call c.calls_as_worlds.ensures in
    ask_happens calls c.args.self.now c.args.i c.args.request r c.request.new.self c.in-Ok.told got c.in-Ok.ensures.ok
    (keeps_ask c.copies_stay.ensures.events c.copies_stay.ensures.stays c.copies_stay.ensures.joins c.copies_by_stage.ensures.asked
    c.copies_by_stage.ensures.all c.copies_stay.ensures.others c.copies_by_stage.ensures.others calls c.args.self.now.blocks _
    c.args.request c.args.self.now.table r c.request.new.self c.in-Ok.told c.in-Ok.ensures.ok c.request.ensures.still
    c.request.ensures.apart)
    (room_ask _ c.args.request c.args.self.now.table r c.request.new.self c.request.ensures.apart) kept

pub returns-in-Err-clause-err : goal.returns-in-Err-clause-err
returns-in-Err-clause-err g c =
    let p = c.args.self.now in
    let r = c.index_mut.result.now in
    let got = slice_get_read p.actors.items _ c.args.i r refl c.requires.inside c.index_mut.ensures.value in
    let h = c.requires.world in
    let s = h.parts.seats c.args.i r got in
    let kept = c.request.ensures.keeps (λ at. no_reads h.opening h.world _ r h.reached s.runs at) in
    let less = kept.owed in
    stays_by p p.table c.args.i r c.request.new.self got refl c.in-Err.ensures.err.0
    (λ w laid. refused_ask c.copies_by_stage.ensures.all p.blocks r c.request.new.self c.in-Err.ensures.err c.request.ensures.still
    c.request.ensures.apart (kept.running s.running) w _ laid)
    (λ o w reached. room_stands o w _ p.table r c.request.new.self reached c.request.ensures.apart) kept.running (inl (omega (arith, less)))
