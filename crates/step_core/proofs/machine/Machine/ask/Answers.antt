use Rattle.std.proofs.Common.{◌≡◌, ℕ, Option, Some, Result, Ok, Err, OnOk, OnErr, IfOk, List, refl, ap, ◌∙◌, subst, arith, length, map}
use Rattle.std.proofs.lemmas.Option.{slice_get_read}
use Rattle.tx_machine.specs.Requests.{Request, ask}
use Rattle.tx_machine.specs.Notices.{reply}
use Rattle.step_core.specs.Answers.{request_of, result_of}
use Rattle.step_core.specs.Shown.{actor_of, record_of, Shown, shown, Asks}
use Rattle.step_core.specs.Sound.{Fits}
use Rattle.step_core.specs.declared.answer.WordAnswer.{WordAnswer}
use Rattle.step_core.specs.declared.answer.WordRefusal.{WordRefusal}
use Rattle.step_core.specs.declared.record.WordRecord.{WordRecord}
use Rattle.step_core.specs.declared.actor.Actor.{Actor}
use Rattle.step_core.specs.declared.machine.Machine.{Machine}
use Rattle.std.proofs.Common.{slice_get}
use Rattle.step_core.proofs.Moves.{moved, asks_moved, shown_same, sound_asked}
use Rattle.step_core.proofs.Phases.{seat_of, allowed_here, limit_here}
use Rattle.step_core.proofs.machine.Machine.ask.Goals as goal

asks_ok : (w t : Machine) (a : ℕ) (x y : Actor) (q : Request) (r : Result (Option WordAnswer) WordRefusal) → slice_get w.actors.items a
    ≡ Some x → shown t ≡ shown (moved w a y)
    → OnOk r (actor_of y ≡ ask (actor_of x) (actor_of x).place q)
    → IfOk r (λ answer. Ok answer ≡ result_of (reply (actor_of x) (actor_of x).place q))
    → IfOk r (λ answer. Asks (shown w) a q (shown t) answer)
asks_ok w t a x y q (Ok answer) got same own says = asks_moved w t a x y q answer got same own says
asks_ok w t a x y q (Err e) got same own says = says

err_same : (w t : Machine) (a : ℕ) (x y : Actor) (r : Result (Option WordAnswer) WordRefusal) → slice_get w.actors.items a ≡ Some x
    → shown t ≡ shown (moved w a y) → OnErr r (actor_of y ≡ actor_of x) → OnErr r (shown t ≡ shown w)
err_same w t a x y (Ok answer) got same own = own
err_same w t a x y (Err e) got same own = same ∙ shown_same w a x y got own

pub index_mut-actor-requires : goal.index_mut-actor-requires
index_mut-actor-requires c = let h = seat_of (shown c.args.self.now) c.args.a (request_of c.args.request) c.requires.allowed in
    omega (arith, h, c.requires.sound.seats)

pub ask-requires : goal.ask-requires
ask-requires c =
    let h = seat_of (shown c.args.self.now) c.args.a (request_of c.args.request) c.requires.allowed in
    let got = slice_get_read c.args.self.now.actors.items _ c.args.a c.index_mut-actor.result.now refl
    (omega (arith, h, c.requires.sound.seats)) c.index_mut-actor.ensures.value in
    record {
      allowed = allowed_here c.args.self.now c.args.a c.index_mut-actor.result.now (request_of c.args.request) got c.requires.allowed;
      limit = limit_here c.args.self.now c.args.a c.index_mut-actor.result.now c.len-locations.result (request_of c.args.request) got
          (omega (arith, c.len-locations.ensures)) c.requires.allowed;
    }

pub returns-clause-asks : goal.returns-clause-asks
returns-clause-asks c =
    let h = seat_of (shown c.args.self.now) c.args.a (request_of c.args.request) c.requires.allowed in
    let got = slice_get_read c.args.self.now.actors.items _ c.args.a c.index_mut-actor.result.now refl
    (omega (arith, h, c.requires.sound.seats)) c.index_mut-actor.ensures.value in
    let w : Machine = c.args.self.now in
    let m : Machine = moved w c.args.a c.ask.new.self in
    let t : Machine = record m { history = c.make_room.new.history } in
    asks_ok w t c.args.a c.index_mut-actor.result.now c.ask.new.self (request_of c.args.request) c.ask.result got
    (ap (λ (z : List WordRecord). let s : Shown = record {
      clock = w.cells.clock;
      locks = w.cells.locks.items;
      values = w.cells.values.items;
      actors = map actor_of m.actors.items;
      history = map record_of z;
    } in s) c.make_room.ensures.items)
    c.ask.ensures.ok c.ask.ensures.answer

pub returns-clause-err : goal.returns-clause-err
returns-clause-err c =
    let h = seat_of (shown c.args.self.now) c.args.a (request_of c.args.request) c.requires.allowed in
    let got = slice_get_read c.args.self.now.actors.items _ c.args.a c.index_mut-actor.result.now refl
    (omega (arith, h, c.requires.sound.seats)) c.index_mut-actor.ensures.value in
    let w : Machine = c.args.self.now in
    let m : Machine = moved w c.args.a c.ask.new.self in
    let t : Machine = record m { history = c.make_room.new.history } in
    err_same w t c.args.a c.index_mut-actor.result.now c.ask.new.self c.ask.result got
    (ap (λ (z : List WordRecord). let s : Shown = record {
      clock = w.cells.clock;
      locks = w.cells.locks.items;
      values = w.cells.values.items;
      actors = map actor_of m.actors.items;
      history = map record_of z;
    } in s) c.make_room.ensures.items)
    c.ask.ensures.err

pub returns-clause-sound : goal.returns-clause-sound
returns-clause-sound c =
    let h = seat_of (shown c.args.self.now) c.args.a (request_of c.args.request) c.requires.allowed in
    let got = slice_get_read c.args.self.now.actors.items _ c.args.a c.index_mut-actor.result.now refl
    (omega (arith, h, c.requires.sound.seats)) c.index_mut-actor.ensures.value in
    let w : Machine = c.args.self.now in
    let m : Machine = moved w c.args.a c.ask.new.self in
    let t : Machine = record m { history = c.make_room.new.history } in
    sound_asked w t c.args.a c.index_mut-actor.result.now c.ask.new.self (request_of c.args.request) c.requires.sound got
    (subst (λ (n : ℕ). Fits n c.index_mut-actor.result.now → Fits n c.ask.new.self)
    (let same : c.len-locations.result ≡ length w.cells.locks.items = omega (arith, c.len-locations.ensures, c.requires.sound.same) in
    same) c.ask.ensures.keeps) c.ask.ensures.owed
    c.ask.ensures.due c.in_default.ensures.room refl refl refl refl c.make_room.ensures.len c.make_room.ensures.capacity
