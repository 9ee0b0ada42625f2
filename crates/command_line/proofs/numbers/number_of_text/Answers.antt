use Rattle.std.proofs.Common.{◌≡◌, ℕ, Result, sym, subst}
use Rattle.command_line.specs.Numbers.{number_of_text}
use Rattle.command_line.proofs.NumberLemmas.{or_zero, read_is}
use Rattle.command_line.proofs.numbers.number_of_text.Goals as goal

pub returns-in-Ok : goal.returns-in-Ok
returns-in-Ok c =
    subst (λ (r : Result ℕ _). or_zero r ≡ number_of_text c.args.text.now) c.in-Ok.is
    (sym (read_is c.args.text.now c.parse.result c.parse.ensures.value.0))

pub returns-in-Err : goal.returns-in-Err
returns-in-Err c =
    subst (λ (r : Result ℕ _). or_zero r ≡ number_of_text c.args.text.now) c.in-Err.is
    (sym (read_is c.args.text.now c.parse.result c.parse.ensures.value.0))
