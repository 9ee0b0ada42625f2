use Rattle.std.proofs.Common.{◌+◌, rules, arith}
use Rattle.std.proofs.KnownBytes.{Appends-kept}
use Rattle.command_line.proofs.OutputLemmas.{begun_with, broken_off, written_on}
use Rattle.command_line.proofs.tool.tell.Goals as goal

pub loop-written-preserved : goal.loop-written-preserved
loop-written-preserved g c = record {
  within = search rules;
  grown = written_on _ _ _ c.loop-written.written c.in-Ok.count c.args.bytes.now c.loop-written.invariant.grown c.in-Ok.ensures.bytes;
}

pub returns-in_default-clause-begun : goal.returns-in_default-clause-begun
returns-in_default-clause-begun g c =
    begun_with _ _ _ c.args.bytes.now (written_on _ _ _ c.loop-written.written c.in-Ok.count c.args.bytes.now
    c.loop-written.invariant.grown c.in-Ok.ensures.bytes)

pub returns-in_default-2-clause-begun : goal.returns-in_default-2-clause-begun
returns-in_default-2-clause-begun g c =
    begun_with _ _ c.loop-written.written c.args.bytes.now (Appends-kept _ _ _ _ c.loop-written.invariant.grown c.in_default.ensures.bytes)

pub returns-in_default-clause-broken : goal.returns-in_default-clause-broken
returns-in_default-clause-broken g c = λ _.
    broken_off _ _ (c.loop-written.written + c.in-Ok.count) c.args.bytes.now
    (written_on _ _ _ c.loop-written.written c.in-Ok.count c.args.bytes.now c.loop-written.invariant.grown c.in-Ok.ensures.bytes)
    (omega arith)

pub returns-in_default-2-clause-broken : goal.returns-in_default-2-clause-broken
returns-in_default-2-clause-broken g c = λ _.
    broken_off _ _ c.loop-written.written c.args.bytes.now
    (Appends-kept _ _ _ _ c.loop-written.invariant.grown c.in_default.ensures.bytes) (omega arith)
