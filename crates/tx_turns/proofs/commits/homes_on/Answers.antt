use Rattle.std.proofs.Common.{Bool, ap, false, true}
use Rattle.actor_parts.specs.declared.next.Next.TheVariants.{GoHome}
use Rattle.shared_table.specs.Seated.{opening_of}
use Rattle.tx_turns.specs.Driven.{told_in}
use Rattle.tx_turns.proofs.CommitLemmas.{gate_leads, joins}
use Rattle.tx_turns.proofs.StepsLemmas.{nearer}
use Rattle.tx_turns.proofs.commits.homes_on.Goals as goal

pub loop-k-smaller : goal.loop-k-smaller
loop-k-smaller g c =
    nearer c.args.table.now c.loop-k.seat c.home_next.new.seat c.loop-k.actor (told_in c.home_next.result c.home_next.new.said)
    c.loop-k.invariant.0 c.home_next.ensures.turned c.requires.small
    (ap (λ (b : Bool). told_in b c.home_next.new.said) c.if-not-home_next.false)

pub loop-k-preserved : goal.loop-k-preserved
loop-k-preserved g c =
    let t = c.args.table.now in
    let turn = gate_leads t c.loop-k.seat c.home_next.new.seat c.loop-k.actor (GoHome c.in-Some.k)
    (told_in c.home_next.result c.home_next.new.said) c.in-Some.ensures tt c.loop-k.invariant.0 c.home_next.ensures.turned in (
      c.home_next.ensures.ties,
      c.home_next.ensures.own,
      λ d. joins (opening_of t) c.args.seat.now c.loop-k.seat c.home_next.new.seat c.home_next.result true c.home_next.new.said d d d
          c.if-not-home_next.false (c.loop-k.invariant.2 d) (turn d),
    )

pub returns-then-not-home_next-clause-leads : goal.returns-then-not-home_next-clause-leads
returns-then-not-home_next-clause-leads g c = λ d.
    let t = c.args.table.now in
    let turn = gate_leads t c.loop-k.seat c.home_next.new.seat c.loop-k.actor (GoHome c.in-Some.k)
    (told_in c.home_next.result c.home_next.new.said) c.in-Some.ensures tt c.loop-k.invariant.0 c.home_next.ensures.turned in
    joins (opening_of t) c.args.seat.now c.loop-k.seat c.home_next.new.seat c.home_next.result false c.home_next.new.said d d d
    c.if-not-home_next.true (c.loop-k.invariant.2 d) (turn d)
