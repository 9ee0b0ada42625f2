use Rattle.std.proofs.Common.{◌∙◌, ◌+◌, ◌*◌, ap, drop, refl, sym, Some}
use Rattle.seq_model.specs.declared.place.JobPlace.{JobPlace}
use Rattle.seq_model.specs.Programs.{after}
use Rattle.client_sessions.specs.Sessions as programs
use Rattle.client_sessions.specs.GivenBack.{once_given_back}
use Rattle.client_sessions.proofs.GivenBackLemmas.{passed_in, passed_left, passed_noted}
use Rattle.client_sessions.proofs.WalkLemmas.{along}
use Rattle.client_sessions.proofs.delete.ask_found.Goals as goal

pub pass_pairs-given_back-requires : goal.pass_pairs-given_back-requires
pass_pairs-given_back-requires c = passed_in c.args.who.now c.args.rest.now c.args.place.now c.requires.place

pub returns-then-not-given_back-clause-ask : goal.returns-then-not-given_back-clause-ask
returns-then-not-given_back-clause-ask c =
    sym (c.pass_pairs-given_back.ensures.gives_up c.if-not-given_back.true (once_given_back c.args.customer c.args.who.now))

pub returns-then-not-given_back-clause-place : goal.returns-then-not-given_back-clause-place
returns-then-not-given_back-clause-place c =
    let n = c.pass_pairs-given_back.new.passed in
    let place : JobPlace = record c.args.place.now { heard = 2 * n + 1 } in
    passed_noted c.args.who.now c.args.rest.now place n c.requires.within refl c.pass_pairs-given_back.ensures.passed

pub returns-clause-place : goal.returns-clause-place
returns-clause-place c =
    let n = c.pass_pairs-given_back.new.passed in
    let place : JobPlace = record c.args.place.now { heard = 2 * n + 1 } in
    passed_noted c.args.who.now c.args.rest.now place n c.requires.within refl c.pass_pairs-given_back.ensures.passed

pub returns-clause-ask : goal.returns-clause-ask
returns-clause-ask c =
    let who = c.args.who.now in
    let rest = c.args.rest.now in
    let n = c.pass_pairs-given_back.new.passed in
    let next = once_given_back c.args.customer who in
    c.ask_of.ensures (after (programs.delete_found c.args.customer (Some who)) rest)
    (along _ _ _ _ (passed_left who rest n c.pass_pairs-given_back.ensures.passed next
    ∙ ap (after (programs.give_all_back (drop n who.bookings) next)) (sym (c.new-walk.ensures ∙ c.split_at.ensures.back)))
    c.delete_from.ensures)
