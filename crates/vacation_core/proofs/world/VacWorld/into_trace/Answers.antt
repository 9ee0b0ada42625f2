use Rattle.std.proofs.Common.{ap, refl, subst, sym, ◌∙◌, length}
use Rattle.std.specs.Prelude.{replicate}
use Rattle.vacation_core.specs.CommittedAnswers.{AreOwn, HaveOwn, told_all}
use Rattle.vacation_core.proofs.TraceLemmas.{own_as, serial_of, tables_there, trace_of, traced}
use Rattle.vacation_core.proofs.world.VacWorld.into_trace.Goals as goal

pub tell_all-requires : goal.tell_all-requires
tell_all-requires c =
    let p = c.requires.play in
    let k = c.requires.is in
    let t = trace_of c.args.self p c.in_ok-trace.trace k c.in_ok-trace.ensures.trace in
    subst (λ cs. HaveOwn cs (replicate (length cs) 0) c.as_slice.result.now) (sym c.deref.ensures.value)
    (record {
      deals = (serial_of c.args.self p k).serial.deals;
      are = own_as c.args.self p c.as_slice.result.now k (c.as_slice.ensures ∙ t.records);
    })

pub tables_left-requires : goal.tables_left-requires
tables_left-requires c =
    let p = c.requires.play in
    let k = c.requires.is in
    tables_there c.args.self p c.in_ok-trace.trace k (trace_of c.args.self p c.in_ok-trace.trace k c.in_ok-trace.ensures.trace)

pub returns : goal.returns
returns c = λ p k.
    let t = trace_of c.args.self p c.in_ok-trace.trace k c.in_ok-trace.ensures.trace in
    let deals = (serial_of c.args.self p k).serial.deals in
    let rs = c.as_slice.result.now in
    traced c.args.self p _ k
    (c.from_vec.ensures ∙ c.in_ok-done.ensures deals
    (subst (λ cs. AreOwn cs (replicate (length cs) 0) deals rs) (sym c.deref.ensures.value)
    (own_as c.args.self p rs k (c.as_slice.ensures ∙ t.records)))
    ∙ ap (told_all deals) (c.as_slice.ensures ∙ t.records))
    refl t.half (sym t.state ∙ c.in_ok-tables.ensures.held)
