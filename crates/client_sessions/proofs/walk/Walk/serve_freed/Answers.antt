use Rattle.std.proofs.Common.{rules, ◌∙◌, ap, sym}
use Rattle.seq_model.specs.Programs.{after}
use Rattle.client_sessions.proofs.WalkLemmas.{along, freed_served}
use Rattle.client_sessions.proofs.walk.Walk.serve_freed.Goals as goal

pub returns-then-has_kind-clause-comes : goal.returns-then-has_kind-clause-comes
returns-then-has_kind-clause-comes c =
    λ next. along _ _ _ _
    (ap (λ p. after p c.args.self.now) (freed_served c.args.who.now.bookings c.args.kind next (sym c.has_kind.ensures ∙ (search rules))))
    (c.serve.ensures.comes next)
