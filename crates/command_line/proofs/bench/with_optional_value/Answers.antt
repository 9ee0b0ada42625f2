use Rattle.std.proofs.Common.{◌∙◌, ap, Option}
use Rattle.clap.specs.Words.{rule_of}
use Rattle.clap.specs.declared.builder.range.ValueRange.{ValueRange}
use Rattle.command_line.proofs.FormLemmas.{is_some_of}
use Rattle.command_line.proofs.bench.with_optional_value.Goals as goal

pub returns-clause-rule : goal.returns-clause-rule
returns-clause-rule c =
    let is = is_some_of c.num_args.result.num_vals (record { start_inclusive = 0; end_inclusive = 1 }) c.num_args.ensures.1 in
    ap rule_of c.num_args.ensures.0 ∙ ap (λ (range : Option ValueRange). record (rule_of c.args.option) { range = range }) is
