use Rattle.std.proofs.Common.{◌∙◌, ℕ, ap, sym}
use Rattle.std.proofs.lemmas.Result.{err_from_is_err_and}
use Rattle.seq_model.specs.Programs.{after}
use Rattle.vac_model.specs.declared.item.Kind.{Kind}
use Rattle.vac_model.specs.Actions as actions
use Rattle.client_sessions.specs.Sessions as programs
use Rattle.client_sessions.proofs.WalkLemmas.{stops_along}
use Rattle.client_sessions.proofs.walk.Walk.change_one.Goals as goal

pub returns-in_err-item : goal.returns-in_err-item
returns-in_err-item c =
    λ next. let p = err_from_is_err_and c.from_residual.result c.from_residual.ensures.1 in
    rw (p.1, p.2) (stops_along _ _ _
    (ap (λ (r : Kind × ℕ). after (programs.get_item r.0 r.1
    (λ o. programs.set_item (actions.kind_of c.args.change) (actions.id_of c.args.change) o (actions.changed c.args.change o).1
    (next (actions.changed c.args.change o).0))) c.args.self.now) (sym c.place_of-kind.ensures))
    (c.in_err-item.ensures.comes (λ o. programs.set_item (actions.kind_of c.args.change) (actions.id_of c.args.change) o
    (actions.changed c.args.change o).1 (next (actions.changed c.args.change o).0))))

pub returns-in_err-set_item : goal.returns-in_err-set_item
returns-in_err-set_item c =
    λ next. let p = err_from_is_err_and c.from_residual-in_err-set_item.result c.from_residual-in_err-set_item.ensures.1 in
    rw (p.1, p.2) (stops_along _ _ _
    (ap (λ (r : Kind × ℕ). after (programs.get_item r.0 r.1
    (λ o. programs.set_item (actions.kind_of c.args.change) (actions.id_of c.args.change) o (actions.changed c.args.change o).1
    (next (actions.changed c.args.change o).0))) c.args.self.now) (sym c.place_of-kind.ensures)
    ∙ c.in_ok-item.ensures.comes (λ o. programs.set_item (actions.kind_of c.args.change) (actions.id_of c.args.change) o
    (actions.changed c.args.change o).1 (next (actions.changed c.args.change o).0))
    ∙ (λ j. after (programs.set_item (sym c.place_of-kind.ensures j).0 (sym c.place_of-kind.ensures j).1 c.in_ok-item.item
    (sym c.changed-made.ensures j).1 (next (sym c.changed-made.ensures j).0)) c.get_item.new.self))
    (c.in_err-set_item.ensures (next c.changed-made.result.0)))

pub returns : goal.returns
returns c =
    λ next. ap (λ (r : Kind × ℕ). after
    (programs.get_item r.0 r.1 (λ o. programs.set_item (actions.kind_of c.args.change) (actions.id_of c.args.change) o
    (actions.changed c.args.change o).1 (next (actions.changed c.args.change o).0))) c.args.self.now) (sym c.place_of-kind.ensures)
    ∙ c.in_ok-item.ensures.comes (λ o. programs.set_item (actions.kind_of c.args.change) (actions.id_of c.args.change) o
    (actions.changed c.args.change o).1 (next (actions.changed c.args.change o).0))
    ∙ (λ j. after (programs.set_item (sym c.place_of-kind.ensures j).0 (sym c.place_of-kind.ensures j).1 c.in_ok-item.item
    (sym c.changed-made.ensures j).1 (next (sym c.changed-made.ensures j).0)) c.get_item.new.self)
    ∙ c.in_ok-set_item.ensures (next c.changed-made.result.0)
