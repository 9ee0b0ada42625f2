use Rattle.std.proofs.Common.{sym, ◌∙◌, arith}
use Rattle.tx_turns.proofs.HomeLemmas.{alike_count, are_same, are_trans, prepared_all, prepared_more, read_at}
use Rattle.tx_turns.proofs.homes.prepare_bases.Goals as goal

pub loop-i-init : goal.loop-i-init
loop-i-init g c = (are_same c.args.bases.now.items, λ j k b low there is. let z : ⊥ = omega (arith, low) in absurd z)

pub prepare_base-requires : goal.prepare_base-requires
prepare_base-requires g c =
    let count = alike_count c.args.bases.now.items c.loop-i.bases.items c.loop-i.invariant.0 in
    omega (arith, count, c.requires, c.loop-i-test.true, c.len-i-end.ensures)

pub returns-in_err-prepare_base-clause-alike : goal.returns-in_err-prepare_base-clause-alike
returns-in_err-prepare_base-clause-alike g c =
    are_trans c.args.bases.now.items c.loop-i.bases.items c.prepare_base.new.bases.items c.loop-i.invariant.0 c.prepare_base.ensures.alike

pub loop-i-preserved : goal.loop-i-preserved
loop-i-preserved g c = (
  are_trans c.args.bases.now.items c.loop-i.bases.items c.prepare_base.new.bases.items c.loop-i.invariant.0 c.prepare_base.ensures.alike,
  prepared_more c.args.actor.now.copies.items c.args.homes.now.items c.index.result.now c.loop-i.i c.loop-i.bases.items
      c.prepare_base.new.bases.items
      (read_at c.args.homes.now.items c.loop-i.i c.index.result.now
      (omega (arith, c.loop-i-test.true, c.len-i-end.ensures)) c.index.ensures)
      c.in_ok-prepare_base.ensures.prepared c.loop-i.invariant.1,
)

pub returns-clause-prepared : goal.returns-clause-prepared
returns-clause-prepared g c =
    prepared_all c.args.actor.now.copies.items c.args.homes.now.items c.loop-i.bases.items
    (c.requires ∙ sym (alike_count c.args.bases.now.items c.loop-i.bases.items c.loop-i.invariant.0))
    (λ j k b low there is. c.loop-i.invariant.1 j k b (omega (arith, low, c.loop-i-test.false, c.len-i-end.ensures)) there is)
