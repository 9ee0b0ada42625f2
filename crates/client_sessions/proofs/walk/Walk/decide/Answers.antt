use Rattle.std.proofs.Common.{rules, ◌≡◌, ◌∙◌, ap, sym, Some}
use Rattle.seq_model.specs.Programs.{after}
use Rattle.vac_model.specs.Actions.{take_units}
use Rattle.vac_model.specs.declared.action.KindReply.TheVariants as part
use Rattle.client_sessions.specs.Sessions as programs
use Rattle.client_sessions.specs.Drafts.{drafted}
use Rattle.client_sessions.proofs.WalkLemmas.{lines_up, books, along, stops_along}
use Rattle.client_sessions.proofs.walk.Walk.decide.Goals as goal

pub returns-then-units-item : goal.returns-then-units-item
returns-then-units-item c =
    let is : c.args.candidate.now ≡ Some (c.in-Some.id, c.in-Some.item) = search rules in
    λ next. along _ _ _ _ (ap (λ o. after
    (programs.decide c.args.draft.now.number c.args.draft.now.units c.args.kind o (drafted c.args.draft.now) next) c.args.self.now) is
    ∙ ap (λ p. after p c.args.self.now)
    (lines_up c.args.draft.now.number c.args.draft.now.units c.args.kind c.in-Some.id c.in-Some.item (drafted c.args.draft.now) next
    (sym c.has.ensures ∙ c.if-has.false) (sym c.is_full.ensures ∙ c.if-is_full.false) c.if-units-item.true))
    (c.line_up.ensures next)

pub returns-then-passes : goal.returns-then-passes
returns-then-passes c =
    let is : c.args.candidate.now ≡ Some (c.in-Some.id, c.in-Some.item) = search rules in
    let on = c.passes.ensures.passed c.if-passes.true in
    λ next. ap (λ o. after (programs.decide c.args.draft.now.number c.args.draft.now.units c.args.kind o
    (drafted c.args.draft.now) next) c.args.self.now) is
    ∙ ap (λ p. after p c.args.self.now)
    (books c.args.draft.now.number c.args.draft.now.units c.args.kind c.in-Some.id c.in-Some.item (drafted c.args.draft.now) next
    (sym c.has.ensures ∙ c.if-has.false) (sym c.is_full.ensures ∙ c.if-is_full.false) c.if-units-item.false)
    ∙ ap (after (programs.put_item c.args.kind c.in-Some.id (take_units c.args.draft.now.units c.in-Some.item)
    (next (part.Booked c.in-Some.id c.args.draft.now.units c.in-Some.item.price)
    (programs.with_booking c.args.draft.now.units c.args.kind c.in-Some.id c.in-Some.item.price (drafted c.args.draft.now))))) on.1

pub returns : goal.returns
returns c =
    let is : c.args.candidate.now ≡ Some (c.in-Some.id, c.in-Some.item) = search rules in
    let none = c.passes.ensures.due c.if-passes.false in
    λ next. stops_along _ _ _
    (ap (λ o. after (programs.decide c.args.draft.now.number c.args.draft.now.units c.args.kind o
    (drafted c.args.draft.now) next) c.args.self.now) is
    ∙ ap (λ p. after p c.args.self.now)
    (books c.args.draft.now.number c.args.draft.now.units c.args.kind c.in-Some.id c.in-Some.item (drafted c.args.draft.now) next
    (sym c.has.ensures ∙ c.if-has.false) (sym c.is_full.ensures ∙ c.if-is_full.false) c.if-units-item.false)
    ∙ ap (after (programs.put_item c.args.kind c.in-Some.id (take_units c.args.draft.now.units c.in-Some.item)
    (next (part.Booked c.in-Some.id c.args.draft.now.units c.in-Some.item.price)
    (programs.with_booking c.args.draft.now.units c.args.kind c.in-Some.id c.in-Some.item.price (drafted c.args.draft.now))))) none)
    (c.asks_units.ensures (next (part.Booked c.in-Some.id c.args.draft.now.units c.in-Some.item.price)
    (programs.with_booking c.args.draft.now.units c.args.kind c.in-Some.id c.in-Some.item.price (drafted c.args.draft.now))))
