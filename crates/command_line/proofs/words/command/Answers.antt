use Rattle.std.proofs.Common.{◌≡◌, ◌∙◌, ap, ap₂, true}
use Rattle.std.proofs.lemmas.Result.{IfOk-weaker}
use Rattle.clap.specs.Words.{App, app_of, with_subcommand}
use Rattle.clap.specs.Simple.{app_of_fields}
use Rattle.clap.specs.declared.builder.command.Command.{Command}
use Rattle.clap.specs.declared.builder.command.Command.TheOpen.{Command-F}
use Rattle.command_line.specs.Words.{bare_app, explore_app, step_app, vacation_app}
use Rattle.command_line.proofs.words.command.Goals as goal

pub returns : goal.returns
returns c =
    let set : App → App = λ a. record a { top = record a.top { no_binary_name = true; subcommand_required = true; has_version = true } } in
    let bare_is : app_of c.subcommand_required-bare.result ≡ bare_app =
    ap app_of_fields c.subcommand_required-bare.ensures
    ∙ ap (λ (f : Command-F Command). app_of_fields (record f { subcommand_required = true })) c.no_binary_name.ensures
    ∙ ap (λ (f : Command-F Command). app_of_fields (record f { no_binary_name = true; subcommand_required = true })) c.version.ensures
    ∙ ap set c.new.ensures.app in
    let one : app_of c.in_ok-with_step.with_step ≡ with_subcommand bare_app step_app.top =
    c.in_ok-with_step.ensures.shape c.in_ok-step.ensures.local
    ∙ ap₂ with_subcommand (c.in_ok-described.ensures ∙ c.explained.ensures.app ∙ bare_is)
    (ap (λ (a : App). a.top) c.in_ok-step.ensures.app) in
    let two : app_of c.in_ok-with_explore.with_explore ≡ with_subcommand (with_subcommand bare_app step_app.top) explore_app.top =
    c.in_ok-with_explore.ensures.shape c.in_ok-explore.ensures.local
    ∙ ap₂ with_subcommand one (ap (λ (a : App). a.top) c.in_ok-explore.ensures.app) in
    let three : app_of c.in_ok-with_vacation.with_vacation
    ≡ with_subcommand (with_subcommand (with_subcommand bare_app step_app.top) explore_app.top) vacation_app.top =
    c.in_ok-with_vacation.ensures.shape c.in_ok-vacation.ensures.local
    ∙ ap₂ with_subcommand two (ap (λ (a : App). a.top) c.in_ok-vacation.ensures.app) in
    IfOk-weaker c.subcommand-4.result _ _
    (λ r h. h.shape c.in_ok-bench.ensures.local ∙ ap₂ with_subcommand three (ap (λ (a : App). a.top) c.in_ok-bench.ensures.app))
    c.subcommand-4.ensures
