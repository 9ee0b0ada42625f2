use Rattle.std.proofs.Common.{Bool, ap, false, subst, sym, true}
use Rattle.actor_parts.specs.declared.next.Next.{Next}
use Rattle.actor_parts.specs.declared.next.Next.TheVariants.{TryGate}
use Rattle.shared_table.specs.Seated.{opening_of}
use Rattle.tx_turns.specs.Driven.{WantsMemory, told_in}
use Rattle.tx_turns.proofs.CommitLemmas.{failed, gate_leads, joins}
use Rattle.tx_turns.proofs.GivenUpLemmas.{stops_at}
use Rattle.tx_turns.proofs.StepsLemmas.{nearer}
use Rattle.tx_turns.proofs.commits.gates_on.Goals as goal

pub loop-k-smaller : goal.loop-k-smaller
loop-k-smaller g c =
    nearer c.args.table.now c.loop-k.seat c.try_next.new.seat c.loop-k.actor (told_in c.in_ok-try_next.field-0 c.try_next.new.said)
    c.loop-k.invariant.0 c.in_ok-try_next.ensures.turned c.requires.small
    (ap (λ (b : Bool). told_in b c.try_next.new.said) c.if-not-branch.false)

pub loop-k-preserved : goal.loop-k-preserved
loop-k-preserved g c =
    let t = c.args.table.now in
    let turn = gate_leads t c.loop-k.seat c.try_next.new.seat c.loop-k.actor (TryGate c.in-Some.k)
    (told_in c.in_ok-try_next.field-0 c.try_next.new.said) c.in-Some.ensures tt c.loop-k.invariant.0 c.in_ok-try_next.ensures.turned in (
      c.try_next.ensures.ties,
      c.try_next.ensures.own,
      λ d. joins (opening_of t) c.args.seat.now c.loop-k.seat c.try_next.new.seat c.in_ok-try_next.field-0 true c.try_next.new.said d d d
          c.if-not-branch.false (c.loop-k.invariant.2 d) (turn d),
    )

pub returns-then-not-branch-clause-leads : goal.returns-then-not-branch-clause-leads
returns-then-not-branch-clause-leads g c = λ d.
    let t = c.args.table.now in
    let turn = gate_leads t c.loop-k.seat c.try_next.new.seat c.loop-k.actor (TryGate c.in-Some.k)
    (told_in c.in_ok-try_next.field-0 c.try_next.new.said) c.in-Some.ensures tt c.loop-k.invariant.0 c.in_ok-try_next.ensures.turned in
    joins (opening_of t) c.args.seat.now c.loop-k.seat c.try_next.new.seat c.in_ok-try_next.field-0 false c.try_next.new.said d d d
    c.if-not-branch.true (c.loop-k.invariant.2 d) (turn d)

pub returns-in_err-try_next-clause-wants : goal.returns-in_err-try_next-clause-wants
returns-in_err-try_next-clause-wants g c =
    failed c.from_residual.result (λ d s h.
    stops_at c.args.table.now s c.loop-k.seat c.try_next.new.seat c.loop-k.actor c.in_err-try_next.ensures.starved.0 d
    c.loop-k.invariant.0 (c.loop-k.invariant.2 d s h) (subst (λ (k : Next). WantsMemory k) (sym c.in-Some.ensures) tt)
    c.in_err-try_next.ensures.starved.1)
