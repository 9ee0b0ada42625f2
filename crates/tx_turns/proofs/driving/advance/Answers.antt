use Rattle.std.proofs.Common.{Bool, List, None, Option, ap, sym, subst, ◌∙◌}
use Rattle.replay_log.specs.declared.base.Base.{Base}
use Rattle.seq_model.specs.declared.record.Record.{Record}
use Rattle.tx_actor.specs.declared.actor.ActorNotice.{ActorNotice}
use Rattle.tx_actor.specs.declared.actor.ActorNotice.TheVariants as told
use Rattle.shared_table.specs.Seated.{opening_of}
use Rattle.tx_turns.specs.Own.{HasOwn}
use Rattle.tx_turns.proofs.DrivenLemmas.{driven_on}
use Rattle.tx_turns.proofs.StepsLemmas.{nearer}
use Rattle.tx_turns.proofs.GivenUpLemmas.{stops_at}
use Rattle.tx_turns.proofs.NextLemmas.{due_turn}
use Rattle.tx_turns.specs.Driven.{Driven, seat_in, told_in}
use Rattle.tx_turns.proofs.driving.advance.Goals as goal

pub turns-init : goal.turns-init
turns-init g c = (c.requires.ties, c.requires.own, λ s h. h)

-- steps on the words that make no receipt
pub steps_on-requires-clause-due : goal.steps_on-requires-clause-due
steps_on-requires-clause-due g c = sym c.next-next.ensures ∙ c.is_on_words.ensures.due c.if-is_on_words.true

pub turns-smaller-else-not-steps_on : goal.turns-smaller-else-not-steps_on
turns-smaller-else-not-steps_on g c =
    c.steps_on.ensures.leads.nearer (ap (λ (b : Bool). told_in b c.steps_on.new.said) c.if-not-steps_on.false)

pub turns-preserved-else-not-steps_on : goal.turns-preserved-else-not-steps_on
turns-preserved-else-not-steps_on g c =
    let o = opening_of c.args.table.now in (
      c.steps_on.ensures.ties,
      subst (λ (bs : List (Base _)). HasOwn c.args.table.now c.steps_on.new.seat c.steps_on.new.actor bs) c.as_slice.ensures.value
          c.steps_on.ensures.own,
      λ s h. subst (λ (k : ActorNotice _). Driven o s c.steps_on.new.seat k c.turns.kept)
          (ap (λ (b : Bool). told_in b c.steps_on.new.said) c.if-not-steps_on.false)
          (c.steps_on.ensures.leads.driven s c.turns.kept (c.turns.invariant.2 s h)),
    )

pub returns-then-not-steps_on-clause-leads : goal.returns-then-not-steps_on-clause-leads
returns-then-not-steps_on-clause-leads g c = λ s h.
    subst (λ (k : ActorNotice _). Driven (opening_of c.args.table.now) s c.steps_on.new.seat k c.turns.kept)
    (ap (λ (b : Bool). told_in b c.steps_on.new.said) c.if-not-steps_on.true)
    (c.steps_on.ensures.leads.driven s c.turns.kept (c.turns.invariant.2 s h))

-- a turn on a gate
pub turn_on_gate-requires-clause-due : goal.turn_on_gate-requires-clause-due
turn_on_gate-requires-clause-due g c = sym c.next-next.ensures

pub turns-smaller-else-not-quiet : goal.turns-smaller-else-not-quiet
turns-smaller-else-not-quiet g c =
    nearer c.args.table.now c.turns.seat c.turn_on_gate.new.seat c.turns.actor (told_in c.in-Ok.quiet c.turn_on_gate.new.said)
    c.turns.invariant.0 c.in-Ok.ensures.turned c.requires.small
    (ap (λ (b : Bool). told_in b c.turn_on_gate.new.said) c.if-not-quiet.false)

pub turns-preserved-else-not-quiet : goal.turns-preserved-else-not-quiet
turns-preserved-else-not-quiet g c = (
  c.turn_on_gate.ensures.ties,
  c.turn_on_gate.ensures.own,
  λ s h. subst (λ (k : ActorNotice _). Driven (opening_of c.args.table.now) s c.turn_on_gate.new.seat k c.turns.kept)
      (ap (λ (b : Bool). told_in b c.turn_on_gate.new.said) c.if-not-quiet.false)
      (driven_on c.args.table.now s c.turns.seat c.turn_on_gate.new.seat c.turns.actor
      (told_in c.in-Ok.quiet c.turn_on_gate.new.said) c.turns.kept
      c.turns.invariant.0 (c.turns.invariant.2 s h) c.in-Ok.ensures.turned None c.turn_on_gate.ensures.receipt),
)

pub returns-then-not-quiet-clause-leads : goal.returns-then-not-quiet-clause-leads
returns-then-not-quiet-clause-leads g c = λ s h.
    subst (λ (k : ActorNotice _). Driven (opening_of c.args.table.now) s c.turn_on_gate.new.seat k c.turns.kept)
    (ap (λ (b : Bool). told_in b c.turn_on_gate.new.said) c.if-not-quiet.true)
    (driven_on c.args.table.now s c.turns.seat c.turn_on_gate.new.seat c.turns.actor
    (told_in c.in-Ok.quiet c.turn_on_gate.new.said) c.turns.kept
    c.turns.invariant.0 (c.turns.invariant.2 s h) c.in-Ok.ensures.turned None c.turn_on_gate.ensures.receipt)

pub returns-in-Err-clause-wants : goal.returns-in-Err-clause-wants
returns-in-Err-clause-wants g c = λ s h.
    stops_at c.args.table.now s c.turns.seat c.turn_on_gate.new.seat c.turns.actor
    c.in-Err.ensures.starved.0 c.turns.kept c.turns.invariant.0 (c.turns.invariant.2 s h) c.in-Err.ensures.wants
    c.in-Err.ensures.starved.1

-- any other turn
pub turn_apart-requires-clause-due : goal.turn_apart-requires-clause-due
turn_apart-requires-clause-due g c =
    due_turn c.args.table.now c.turns.seat c.turns.actor
    (seat_in (opening_of c.args.table.now) c.requires.come.0) c.turns.kept c.turns.invariant.0
    (c.turns.invariant.2 c.requires.come.0 c.requires.come.1).comes

pub turns-smaller : goal.turns-smaller
turns-smaller g c =
    nearer c.args.table.now c.turns.seat c.turn_apart.new.seat c.turns.actor (told_in c.in-Ok-turn_apart.silent c.turn_apart.new.said)
    c.turns.invariant.0 c.in-Ok-turn_apart.ensures.turned c.requires.small
    (ap (λ (b : Bool). told_in b c.turn_apart.new.said) c.if-not-silent.false)

pub turns-preserved : goal.turns-preserved
turns-preserved g c =
    let o = opening_of c.args.table.now in
    let quiet = ap (λ (b : Bool). told_in b c.turn_apart.new.said) c.if-not-silent.false in
    let made = c.in-Ok-turn_apart.ensures.receipt in (
      c.turn_apart.ensures.ties,
      c.turn_apart.ensures.own,
      λ s h. subst (λ (k : ActorNotice _ × Option (Record _)). Driven o s c.turn_apart.new.seat k.0 k.1)
          (λ i. (quiet i, sym made.2 i))
          (driven_on c.args.table.now s c.turns.seat c.turn_apart.new.seat c.turns.actor
          (told_in c.in-Ok-turn_apart.silent c.turn_apart.new.said) c.turns.kept
          c.turns.invariant.0 (c.turns.invariant.2 s h) c.in-Ok-turn_apart.ensures.turned made.0 made.1),
    )

pub returns-then-not-silent-clause-leads : goal.returns-then-not-silent-clause-leads
returns-then-not-silent-clause-leads g c = λ s h.
    let said = ap (λ (b : Bool). told_in b c.turn_apart.new.said) c.if-not-silent.true in
    let made = c.in-Ok-turn_apart.ensures.receipt in
    subst (λ (k : ActorNotice _ × Option (Record _)). Driven (opening_of c.args.table.now) s c.turn_apart.new.seat k.0 k.1)
    (λ i. (said i, sym made.2 i))
    (driven_on c.args.table.now s c.turns.seat c.turn_apart.new.seat c.turns.actor
    (told_in c.in-Ok-turn_apart.silent c.turn_apart.new.said) c.turns.kept
    c.turns.invariant.0 (c.turns.invariant.2 s h) c.in-Ok-turn_apart.ensures.turned made.0 made.1)

pub returns-in-Err-turn_apart-clause-wants : goal.returns-in-Err-turn_apart-clause-wants
returns-in-Err-turn_apart-clause-wants g c = λ s h.
    stops_at c.args.table.now s c.turns.seat c.turn_apart.new.seat c.turns.actor
    c.in-Err-turn_apart.ensures.starved.0 c.turns.kept c.turns.invariant.0 (c.turns.invariant.2 s h) c.in-Err-turn_apart.ensures.wants
    c.in-Err-turn_apart.ensures.starved.1
