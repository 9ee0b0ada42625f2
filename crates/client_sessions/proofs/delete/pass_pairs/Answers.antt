use Rattle.std.proofs.Common.{rules, ◌≡◌, ◌<◌, ◌+◌, ◌*◌, ◌∙◌, get_or, length, refl, sym, arith, true, false}
use Rattle.std.proofs.lemmas.List.{get_or_read_under}
use Rattle.seq_model.specs.declared.call.Reply.TheVariants.{Nothing}
use Rattle.vac_model.specs.declared.item.Booking.{Booking}
use Rattle.vac_model.specs.declared.item.Kind.TheVariants.{Car}
use Rattle.client_sessions.specs.GivenBack.{is_given_back}
use Rattle.client_sessions.proofs.GivenBackLemmas.{passed_more, passed_wrong}
use Rattle.client_sessions.proofs.delete.pass_pairs.Goals as goal

abbrev none : Booking
none = record { kind = Car; id = 0; units = 0; price = 0 }

pub returns-then-not-is_given_back-clause-gives_up : goal.returns-then-not-is_given_back-clause-gives_up
returns-then-not-is_given_back-clause-gives_up c =
    let l = c.pairs in
    let replies = c.args.replies.now in
    let bookings = c.args.who.now.bookings in
    let r = c.index-replies-passed.result in
    let at : r ≡ get_or replies (2 * l.passed) r = search rules in
    let pair : 2 * l.passed + 1 < length replies = search rules in
    let got : get_or replies (2 * l.passed) Nothing ≡ r =
    sym (get_or_read_under replies (2 * l.passed) (length replies) r Nothing at (omega (arith, pair)) refl) in
    let b : get_or bookings l.passed none ≡ c.in-Some.booking = c.in-Some.ensures.booking none in
    let wrong : is_given_back (get_or bookings l.passed none) (get_or replies (2 * l.passed) Nothing) ≡ false =
    (λ j. is_given_back (b j) (got j)) ∙ (sym c.is_given_back.ensures ∙ c.if-not-is_given_back.true) in
    λ e next. passed_wrong c.args.who.now replies l.passed l.invariant none c.in-Some.ensures.few pair next wrong

pub pairs-preserved : goal.pairs-preserved
pairs-preserved c =
    let l = c.pairs in
    let replies = c.args.replies.now in
    let bookings = c.args.who.now.bookings in
    let r = c.index-replies-passed.result in
    let at : r ≡ get_or replies (2 * l.passed) r = search rules in
    let pair : 2 * l.passed + 1 < length replies = search rules in
    let got : get_or replies (2 * l.passed) Nothing ≡ r =
    sym (get_or_read_under replies (2 * l.passed) (length replies) r Nothing at (omega (arith, pair)) refl) in
    let b : get_or bookings l.passed none ≡ c.in-Some.booking = c.in-Some.ensures.booking none in
    let given : is_given_back (get_or bookings l.passed none) (get_or replies (2 * l.passed) Nothing) ≡ true =
    (λ j. is_given_back (b j) (got j)) ∙ (sym c.is_given_back.ensures ∙ c.if-not-is_given_back.false) in
    passed_more c.args.who.now replies l.passed l.invariant none c.in-Some.ensures.few pair given
