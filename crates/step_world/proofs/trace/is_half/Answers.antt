use Rattle.std.proofs.Common.{ap, sym, ◌∙◌, ◌&&◌, ◌==◌, Bool, Some}
use Rattle.std.proofs.lemmas.Option.{slice_get-get_or}
use Rattle.step_world.specs.Traces.{seat_at}
use Rattle.step_world.proofs.TraceLemmas.{half_found, half_lost, half_none, no_place}
use Rattle.step_world.proofs.trace.is_half.Goals as goal

pub returns-then-actor-eq0 : goal.returns-then-actor-eq0
returns-then-actor-eq0 g c = half_none (seat_at c.args.actors.now) c.args.entry.now (ap (seat_at c.args.actors.now) c.if-actor-eq0.true)

pub returns-in-Some : goal.returns-in-Some
returns-in-Some g c =
    let h = c.in-Some.ensures.lookup in
    half_found c.args.actors.now c.args.entry.now c.in-Some.running.now c.both.result c.both-theirs.result c.if-actor-eq0.false
    (slice_get-get_or c.args.actors.now _ c.in-Some.running.now h.3.0 ∙ ap Some (sym h.1))
    (c.both-theirs.ensures ∙ ap
    (λ (b : Bool). b && (c.args.entry.now.1.number == c.in-Some.running.now.wv)) c.is_between.ensures) c.both.ensures

pub returns-in-None : goal.returns-in-None
returns-in-None g c =
    half_lost c.args.actors.now c.args.entry.now c.if-actor-eq0.false (no_place c.args.actors.now _ c.in-None.ensures.lookup.3)
