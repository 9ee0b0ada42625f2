use Rattle.std.proofs.Common.{length, refl, sym, ap, ◌∙◌}
use Rattle.std.proofs.lemmas.Option.{slice_get_read, same_Some}
use Rattle.conflict.specs.declared.outcome.Outcome.{Outcome}
use Rattle.tx_actor.proofs.AnswerLemmas.{accepted_at}
use Rattle.tx_actor.proofs.answers.accept_at.Goals as goal

pub accept-requires : goal.accept-requires
accept-requires g c =
    let cs = c.args.copies.now.items in
    let here = c.index_mut.result.now in
    let at = slice_get_read cs (length cs) c.args.place here refl c.requires.place c.index_mut.ensures.value in
    record { ready = (c.requires.ready here c.in-Some.found at c.in-Some.is).0 }

pub returns-clause-accepted : goal.returns-clause-accepted
returns-clause-accepted g c =
    let cs = c.args.copies.now.items in
    let here = c.index_mut.result.now in
    let at = slice_get_read cs (length cs) c.args.place here refl c.requires.place c.index_mut.ensures.value in
    accepted_at c.args.place c.args.outcome.now c.in-Some.found cs here c.accept.new.self c.in-Some.is c.requires.place
    c.index_mut.ensures.value c.accept.ensures.accepted (c.requires.ready here c.in-Some.found at c.in-Some.is).1

pub returns-clause-reply : goal.returns-clause-reply
returns-clause-reply g c x is =
    c.replace.ensures.value
    ∙ (c.accept.ensures.reply ∙ ap (λ (q : Outcome g.row.V.Denot). q.reply) (same_Some c.in-Some.found x (sym c.in-Some.is ∙ is)))
