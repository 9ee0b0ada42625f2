use Rattle.std.proofs.Common.{◌∙◌, subst, sym, length}
use Rattle.std.specs.Prelude.{replicate}
use Rattle.vacation_core.proofs.CommittedAnswerLemmas.{IsTelling, has_first, tells_all, tells_first, tells_one}
use Rattle.vacation_core.proofs.told.tell_all.Goals as goal

pub tell-requires-clause-own : goal.tell-requires-clause-own
tell-requires-clause-own c =
    let h = c.requires in
    has_first c.args.clients.now c.loop-entry.all.items _ c.loop-entry.told.items c.loop-entry.left.now c.in-Some.later.now
    c.in-Some.entry.now c.in-Some.ensures.cases.0
    (c.loop-entry.invariant.tells _
    (tells_first c.args.clients.now (replicate (length c.args.clients.now) 0) h.deals c.args.records.now h.are))

pub loop-entry-preserved : goal.loop-entry-preserved
loop-entry-preserved c = record {
  tells = λ whole t.
      subst (λ xs. IsTelling c.args.clients.now xs c.tell.new.told.items c.in-Some.later.now whole) (sym c.in_ok-push.ensures.items)
      (tells_one c.args.clients.now c.loop-entry.all.items whole c.loop-entry.told.items c.tell.new.told.items c.loop-entry.left.now
      c.in-Some.later.now c.in-Some.entry.now c.in_ok-one.one c.in-Some.ensures.cases.0 c.in_ok-one.ensures.told
      (c.loop-entry.invariant.tells whole t));
  count = c.in_ok-one.ensures.count ∙ c.loop-entry.invariant.count;
}

pub returns : goal.returns
returns c = λ deals are.
    tells_all c.args.clients.now c.loop-entry.all.items _ c.loop-entry.told.items c.loop-entry.left.now c.in_default.ensures.cases
    (c.loop-entry.invariant.tells _ (tells_first c.args.clients.now (replicate (length c.args.clients.now) 0) deals c.args.records.now are))
