use Rattle.std.proofs.Common.{◌∙◌, ap, sym}
use Rattle.seq_model.specs.Programs.{after}
use Rattle.client_sessions.specs.Sessions as programs
use Rattle.client_sessions.proofs.WalkLemmas.{item_differs, along}
use Rattle.client_sessions.proofs.walk.Walk.set_item.Goals as goal

pub returns-in-None-Some : goal.returns-in-None-Some
returns-in-None-Some c = λ next. along _ _ _ _
    (λ j. after (programs.set_item c.args.kind c.args.id (c.in-None-Some.is-0 j) (c.in-None-Some.is-1 j) next) c.args.self.now)
    (c.put_item.ensures next)

pub returns-in-Some-None : goal.returns-in-Some-None
returns-in-Some-None c = λ next. along _ _ _ _
    (λ j. after (programs.set_item c.args.kind c.args.id (c.in-Some-None.is-0 j) (c.in-Some-None.is-1 j) next) c.args.self.now)
    (c.remove_item.ensures next)

pub returns-else-is_same_item : goal.returns-else-is_same_item
returns-else-is_same_item c =
    let s = c.in-Some-Some in
    λ next. along _ _ _ _ ((λ j. after
    (programs.set_item c.args.kind c.args.id (c.in-Some-Some.is-0 j) (c.in-Some-Some.is-1 j) next) c.args.self.now)
    ∙ ap (λ p. after p c.args.self.now)
    (item_differs c.args.kind c.args.id s.old s.new next (sym c.is_same_item.ensures ∙ c.if-is_same_item.false)))
    (c.put_item-in-Some-Some.ensures next)
