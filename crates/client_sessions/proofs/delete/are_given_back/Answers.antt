use Rattle.std.proofs.Common.{rules, ◌≡◌, ◌*◌, ◌∙◌, get_or, ap, sym, arith}
use Rattle.seq_model.specs.Programs.{asked}
use Rattle.vac_model.specs.declared.item.Booking.{Booking}
use Rattle.vac_model.specs.declared.item.Kind.TheVariants.{Car}
use Rattle.client_sessions.specs.GivenBack.{is_given_back}
use Rattle.client_sessions.proofs.GivenBackLemmas.{back_told, back_wrong}
use Rattle.client_sessions.proofs.delete.are_given_back.Goals as goal

pub returns-then-not-is_given_back-clause-gives_up : goal.returns-then-not-is_given_back-clause-gives_up
returns-then-not-is_given_back-clause-gives_up c =
    let l = c.loop-i in
    let none : Booking = record { kind = Car; id = 0; units = 0; price = 0 } in
    let r = c.index-replies-i.result in
    let at : r ≡ get_or c.args.replies.now (2 * l.i) r = search rules in
    λ e next. ap asked (l.invariant next ∙ back_wrong c.args.bookings.now c.args.replies.now l.i none r next
    (omega (arith, c.loop-i-test.true)) (omega (arith, c.loop-i-test.true))
    (ap (is_given_back (get_or c.args.bookings.now l.i none)) (sym at) ∙ sym c.is_given_back.ensures ∙ c.if-not-is_given_back.true))

pub loop-i-preserved : goal.loop-i-preserved
loop-i-preserved c =
    let l = c.loop-i in
    let none : Booking = record { kind = Car; id = 0; units = 0; price = 0 } in
    let r = c.index-replies-i.result in
    let at : r ≡ get_or c.args.replies.now (2 * l.i) r = search rules in
    λ next. l.invariant next ∙ back_told c.args.bookings.now c.args.replies.now l.i none r next
    (omega (arith, c.loop-i-test.true)) (omega (arith, c.loop-i-test.true))
    (ap (is_given_back (get_or c.args.bookings.now l.i none)) (sym at) ∙ sym c.is_given_back.ensures ∙ c.if-not-is_given_back.false)
