use Rattle.std.proofs.Common.{◌≡◌, ◌∙◌, ap₂, codes, false, ◌||◌, Bool}
use Rattle.std.proofs.lemmas.Result.{IfOk-weaker}
use Rattle.clap.specs.Words.{app_of, new_app, with_rule}
use Rattle.clap.specs.declared.builder.command.Command.TheViews.{out-Command}
use Rattle.command_line.proofs.words.step_command.Goals as goal

pub returns-clause-app : goal.returns-clause-app
returns-clause-app c =
    let named : app_of c.explained-named.result ≡ new_app (codes "step") = c.explained-named.ensures.app ∙ c.new.ensures.app in
    let first = c.in_ok-with_lanes.ensures.shape c.lanes.ensures.local ∙ ap₂ with_rule named c.lanes.ensures.rule in
    IfOk-weaker c.arg-2.result _ _ (λ r h. h.shape c.file.ensures.local ∙ ap₂ with_rule first c.file.ensures.rule) c.arg-2.ensures

pub returns-clause-local : goal.returns-clause-local
returns-clause-local c =
    let of_named : (out-Command c.explained-named.result).has_globals ≡ false = c.explained-named.ensures.local ∙ c.new.ensures.local in
    let of_lanes = c.in_ok-with_lanes.ensures.globals ∙ ap₂ (λ (a b : Bool). a || b) of_named c.lanes.ensures.local in
    IfOk-weaker c.arg-2.result _ _ (λ r h. h.globals ∙ ap₂ (λ (a b : Bool). a || b) of_lanes c.file.ensures.local) c.arg-2.ensures
