use Rattle.std.proofs.Common.{sym, refl, get_or, arith}
use Rattle.actor_parts.proofs.OpeningLemmas.{past, all_counted}
use Rattle.replay_log.proofs.ContentLemmas.{end_above}
use Rattle.actor_parts.specs.Openings.{blocks_of}
use Rattle.actor_parts.proofs.opening.locations.Goals as goal

pub returns-then-words-clause-none : goal.returns-then-words-clause-none
returns-then-words-clause-none g c = λ _. (
    let above = end_above c.args.words (blocks_of c.args.stripes.now c.args.held.now) in omega (arith, above))

pub returns-then-end-clause-none : goal.returns-then-end-clause-none
returns-then-end-clause-none g c = λ _. past c.args.words c.loop-i.i (get_or c.args.stripes.now c.loop-i.i 0) c.loop-i.end
    c.args.stripes.now c.args.held.now c.index-held-i.result c.loop-i.invariant c.loop-i-test.true c.requires (sym c.index-held-i.is) refl
    (omega (arith, c.size-end.ensures))

pub returns-clause-fits : goal.returns-clause-fits
returns-clause-fits g c = let z = all_counted c.args.words c.loop-i.i c.loop-i.end c.args.stripes.now c.args.held.now c.loop-i.invariant
    c.loop-i-test.false in (z.1, c.loop-i.invariant.low)
