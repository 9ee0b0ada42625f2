use Rattle.std.proofs.Common.{◌≡◌, ◌∙◌, ap, ap₂, codes}
use Rattle.std.proofs.lemmas.Result.{IfOk-weaker}
use Rattle.clap.specs.Words.{App, app_of, new_app, with_rule}
use Rattle.command_line.specs.Numbers.{rule_of_number}
use Rattle.command_line.specs.Words.{most}
use Rattle.command_line.proofs.words.explore_command.Goals as goal

pub returns-clause-app : goal.returns-clause-app
returns-clause-app c =
    let named : app_of c.explained-named.result ≡ new_app (codes "explore") = c.explained-named.ensures.app ∙ c.new.ensures.app in
    let first = c.in_ok-with_most.ensures.app ∙ ap (λ (a : App). with_rule a (rule_of_number most (codes "100000"))) named in
    IfOk-weaker c.arg.result _ _ (λ r h. h.shape c.file.ensures.local ∙ ap₂ with_rule first c.file.ensures.rule) c.arg.ensures
