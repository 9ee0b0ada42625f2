use Rattle.std.proofs.Common.{◌-◌, refl, arith}
use Rattle.std.proofs.lemmas.Option.{slice_get_read}
use Rattle.vacation_core.proofs.CommittedAnswerLemmas.{actor_in, first_done, is_at, session_in, told_one}
use Rattle.vacation_core.proofs.told.tell.Goals as goal

pub overflow_sub-i : goal.overflow_sub-i
overflow_sub-i c =
    let some = (actor_in c.args.clients.now c.args.told.now.items c.args.entry.now c.requires.own).0 in omega (arith, some)

pub index-place-requires : goal.index-place-requires
index-place-requires c =
    let lt = (actor_in c.args.clients.now c.args.told.now.items c.args.entry.now c.requires.own).1 in
    let n = c.requires.count in
    omega (arith, lt, n)

pub bounds-clients-i : goal.bounds-clients-i
bounds-clients-i c = (actor_in c.args.clients.now c.args.told.now.items c.args.entry.now c.requires.own).1

pub index_mut-requires : goal.index_mut-requires
index_mut-requires c =
    let lt = (actor_in c.args.clients.now c.args.told.now.items c.args.entry.now c.requires.own).1 in
    let n = c.requires.count in
    omega (arith, lt, n)

pub unreachable-requires : goal.unreachable-requires
unreachable-requires c =
    let r = c.args.entry.now in
    let ns = c.args.told.now.items in
    let cs = c.args.clients.now in
    session_in cs ns r (r.0 - 1) c.index-clients-i.result c.index-place.result.now c.requires.own
    (is_at cs ns r c.index-clients-i.result c.index-place.result.now c.requires.own c.requires.count
    (λ lt. slice_get_read cs _ (r.0 - 1) c.index-clients-i.result refl lt c.index-clients-i.is)
    (λ lt. slice_get_read ns _ (r.0 - 1) c.index-place.result.now refl lt c.index-place.ensures)) c.in_default.ensures.there

pub reply-requires : goal.reply-requires
reply-requires c =
    let r = c.args.entry.now in
    let ns = c.args.told.now.items in
    let cs = c.args.clients.now in
    first_done cs ns r (r.0 - 1) c.index-clients-i.result c.index-place.result.now c.in-Some.session.now c.requires.own
    (is_at cs ns r c.index-clients-i.result c.index-place.result.now c.requires.own c.requires.count
    (λ lt. slice_get_read cs _ (r.0 - 1) c.index-clients-i.result refl lt c.index-clients-i.is)
    (λ lt. slice_get_read ns _ (r.0 - 1) c.index-place.result.now refl lt c.index-place.ensures)) c.in-Some.ensures.there

pub returns-clause-told : goal.returns-clause-told
returns-clause-told c =
    let r = c.args.entry.now in
    let ns = c.args.told.now.items in
    let cs = c.args.clients.now in
    told_one cs ns r (r.0 - 1) c.index-clients-i.result c.index-place.result.now c.in-Some.session.now c.in_ok-reply.reply
    (is_at cs ns r c.index-clients-i.result c.index-place.result.now c.requires.own c.requires.count
    (λ lt. slice_get_read cs _ (r.0 - 1) c.index-clients-i.result refl lt c.index-clients-i.is)
    (λ lt. slice_get_read ns _ (r.0 - 1) c.index-place.result.now refl lt c.index-place.ensures)) c.in-Some.ensures.there
    c.in_ok-reply.ensures
