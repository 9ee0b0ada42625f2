use Rattle.std.proofs.Common.{◌≡◌, ◌∙◌, ap, ap₂, codes}
use Rattle.std.proofs.lemmas.Result.{IfOk-weaker}
use Rattle.clap.specs.Words.{App, app_of, new_app, with_rule}
use Rattle.command_line.specs.Bench.{clients, percent_queried, percent_user, queries, relations, seed, transactions, tries}
use Rattle.command_line.specs.Numbers.{rule_of_number}
use Rattle.command_line.proofs.bench.bench_command.Goals as goal

pub returns-clause-app : goal.returns-clause-app
returns-clause-app c =
    let named : app_of c.explained-named.result ≡ new_app (codes "bench") = c.explained-named.ensures.app ∙ c.new.ensures.app in
    let one = c.in_ok-with_clients.ensures.app ∙ ap (λ (a : App). with_rule a (rule_of_number clients (codes "2"))) named in
    let two = c.in_ok-with_queries.ensures.app ∙ ap (λ (a : App). with_rule a (rule_of_number queries (codes "10"))) one in
    let three = c.in_ok-with_share.ensures.app ∙ ap (λ (a : App). with_rule a (rule_of_number percent_queried (codes "60"))) two in
    let four = c.in_ok-with_relations.ensures.app ∙ ap (λ (a : App). with_rule a (rule_of_number relations (codes "100"))) three in
    let five = c.in_ok-with_transactions.ensures.app ∙ ap (λ (a : App). with_rule a (rule_of_number transactions (codes "1000"))) four in
    let six = c.in_ok-with_users.ensures.app ∙ ap (λ (a : App). with_rule a (rule_of_number percent_user (codes "90"))) five in
    let seven = c.in_ok-with_seed.ensures.app ∙ ap (λ (a : App). with_rule a (rule_of_number seed (codes "1"))) six in
    let eight = c.in_ok-with_tries.ensures.app ∙ ap (λ (a : App). with_rule a (rule_of_number tries (codes "1000"))) seven in
    IfOk-weaker c.arg.result _ _ (λ r h. h.shape c.times.ensures.local ∙ ap₂ with_rule eight c.times.ensures.rule) c.arg.ensures
