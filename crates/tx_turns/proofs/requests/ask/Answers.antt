use Rattle.std.proofs.Common.{◌≡◌, subst, sym, refl}
use Rattle.seq_model.specs.declared.event.Request.{Request}
use Rattle.replay_log.specs.Worlds.{ask_at}
use Rattle.actor_parts.specs.Blocks.{BlocksView}
use Rattle.actor_parts.specs.Requests.{HasNoReads}
use Rattle.tx_actor.specs.Asks.{Admits}
use Rattle.tx_actor.specs.Calls.{AsksAt, CanCall}
use Rattle.tx_actor.specs.ActorBounds.{KeepsIn}
use Rattle.tx_actor.specs.Running.{seat_of, stage_of}
use Rattle.tx_actor.specs.declared.actor.Stage.TheVariants as stage
use Rattle.tx_turns.specs.RequestStep.{HasTaken}
use Rattle.tx_turns.proofs.TurnLemmas.{laid_as}
use Rattle.tx_turns.proofs.AskLemmas.{ask_can, ask_own, ask_running, ask_tied, refused_admits, refused_own, refused_tied}
use Rattle.tx_turns.proofs.AskLemmas.{on_err, same_request}
use Rattle.tx_turns.proofs.requests.ask.Goals as goal

pub request_of-requires : goal.request_of-requires
request_of-requires g c = (c.args.request, refl)

pub request-requires : goal.request-requires
request-requires g c = λ at. (
    let t = c.args.table.now in
    let laid = laid_as t c.blocks-2.result.now c.blocks-2.ensures.words c.blocks-2.ensures.blocks in
    subst (λ (v : BlocksView). CanCall v c.args.actor.now) (sym laid)
    (ask_can c.calls_as_worlds.ensures c.copies_stay_own.ensures.blocks c.copies_by_stage.ensures.others t c.args.seat.now c.args.actor.now
    c.args.bases.now c.requires.ties c.requires.own at))

pub returns-clause-asked : goal.returns-clause-asked
returns-clause-asked g c =
    subst (λ e. HasTaken c.args.seat.now e c.ask_this.new.self) c.of-asked.ensures
    (c.ask_this.ensures.same.0, c.ask_this.ensures.same.1, c.ask_this.ensures.asked)

pub returns-clause-answers : goal.returns-clause-answers
returns-clause-answers g c =
    let t = c.args.table.now in
    let s = c.args.seat.now in
    let r = c.args.actor.now in
    let q = c.request.new.self in
    let bs = c.args.bases.now in
    let laid = laid_as t c.blocks-2.result.now c.blocks-2.ensures.words c.blocks-2.ensures.blocks in
    let running = ask_running t s r q c.requires.ties
    (subst (λ (v : BlocksView). (r.stage ≡ stage.Open → HasNoReads r.words) → KeepsIn v r q) laid c.request.ensures.keeps) in
    let asks = subst (λ (z : BlocksView × Request g.row.V.Denot). AsksAt z.0 r q c.in_ok-told.told
    (λ a w. ask_at w a (seat_of r) (stage_of r.stage) z.1))
    (λ i. (laid i, same_request c.args.request c.request_of.result c.request_of.ensures i)) c.in_ok-told.ensures.ok in
    (ask_tied c.calls_as_worlds.ensures c.copies_by_stage.ensures.others t s c.ask_this.new.self r q c.in_ok-told.told c.args.request bs
    c.requires.ties c.requires.own (returns-clause-asked g c) asks running).1

pub returns-clause-ties : goal.returns-clause-ties
returns-clause-ties g c =
    let t = c.args.table.now in
    let s = c.args.seat.now in
    let r = c.args.actor.now in
    let q = c.request.new.self in
    let bs = c.args.bases.now in
    let laid = laid_as t c.blocks-2.result.now c.blocks-2.ensures.words c.blocks-2.ensures.blocks in
    let running = ask_running t s r q c.requires.ties
    (subst (λ (v : BlocksView). (r.stage ≡ stage.Open → HasNoReads r.words) → KeepsIn v r q) laid c.request.ensures.keeps) in
    let asks = subst (λ (z : BlocksView × Request g.row.V.Denot). AsksAt z.0 r q c.in_ok-told.told
    (λ a w. ask_at w a (seat_of r) (stage_of r.stage) z.1))
    (λ i. (laid i, same_request c.args.request c.request_of.result c.request_of.ensures i)) c.in_ok-told.ensures.ok in
    (ask_tied c.calls_as_worlds.ensures c.copies_by_stage.ensures.others t s c.ask_this.new.self r q c.in_ok-told.told c.args.request bs
    c.requires.ties c.requires.own (returns-clause-asked g c) asks running).0

pub returns-clause-own : goal.returns-clause-own
returns-clause-own g c =
    let t = c.args.table.now in
    let s = c.args.seat.now in
    let r = c.args.actor.now in
    let q = c.request.new.self in
    let bs = c.args.bases.now in
    let laid = laid_as t c.blocks-2.result.now c.blocks-2.ensures.words c.blocks-2.ensures.blocks in
    let running = ask_running t s r q c.requires.ties
    (subst (λ (v : BlocksView). (r.stage ≡ stage.Open → HasNoReads r.words) → KeepsIn v r q) laid c.request.ensures.keeps) in
    let asks = subst (λ (z : BlocksView × Request g.row.V.Denot). AsksAt z.0 r q c.in_ok-told.told
    (λ a w. ask_at w a (seat_of r) (stage_of r.stage) z.1))
    (λ i. (laid i, same_request c.args.request c.request_of.result c.request_of.ensures i)) c.in_ok-told.ensures.ok in
    ask_own c.events_keep_copies.ensures.asks c.copies_by_stage.ensures.others t s c.ask_this.new.self r q c.in_ok-told.told
    c.args.request bs
    c.requires.ties c.requires.own (returns-clause-asked g c) asks c.request.ensures.still c.request.ensures.apart running
    (ask_tied c.calls_as_worlds.ensures c.copies_by_stage.ensures.others t s c.ask_this.new.self r q c.in_ok-told.told c.args.request bs
    c.requires.ties c.requires.own (returns-clause-asked g c) asks running).0

pub returns-in_err-told-clause-ties : goal.returns-in_err-told-clause-ties
returns-in_err-told-clause-ties g c =
    let t = c.args.table.now in
    let s = c.args.seat.now in
    let r = c.args.actor.now in
    let q = c.request.new.self in
    let bs = c.args.bases.now in
    let laid = laid_as t c.blocks-2.result.now c.blocks-2.ensures.words c.blocks-2.ensures.blocks in
    let running = ask_running t s r q c.requires.ties
    (subst (λ (v : BlocksView). (r.stage ≡ stage.Open → HasNoReads r.words) → KeepsIn v r q) laid c.request.ensures.keeps) in
    refused_tied t s r q c.requires.ties c.in_err-told.ensures.err running

pub returns-in_err-told-clause-own : goal.returns-in_err-told-clause-own
returns-in_err-told-clause-own g c =
    let t = c.args.table.now in
    let s = c.args.seat.now in
    let r = c.args.actor.now in
    let q = c.request.new.self in
    let bs = c.args.bases.now in
    let laid = laid_as t c.blocks-2.result.now c.blocks-2.ensures.words c.blocks-2.ensures.blocks in
    let running = ask_running t s r q c.requires.ties
    (subst (λ (v : BlocksView). (r.stage ≡ stage.Open → HasNoReads r.words) → KeepsIn v r q) laid c.request.ensures.keeps) in
    refused_own c.copies_by_stage.ensures.all t s r q bs c.requires.ties c.requires.own c.in_err-told.ensures.err c.request.ensures.still
    c.request.ensures.apart running

pub returns-in_err-told-clause-admits : goal.returns-in_err-told-clause-admits
returns-in_err-told-clause-admits g c =
    let t = c.args.table.now in
    let r = c.args.actor.now in
    let laid = laid_as t c.blocks-2.result.now c.blocks-2.ensures.words c.blocks-2.ensures.blocks in
    on_err c.from_residual.result
    (refused_admits t c.args.seat.now r c.args.request c.requires.ties c.in_err-told.ensures.open
    (subst (λ (z : BlocksView × Request g.row.V.Denot). Admits z.0 r z.1)
    (λ i. (laid i, same_request c.args.request c.request_of.result c.request_of.ensures i)) c.in_err-told.ensures.admits))
