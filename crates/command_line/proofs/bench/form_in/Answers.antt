use Rattle.std.proofs.Common.{◌∙◌, ap, sym, codes, List, ℕ, Option, option_map}
use Rattle.std.specs.Borrow.{Bor}
use Rattle.std.specs.Option.{option_map_or}
use Rattle.clap.specs.Words.{found_of}
use Rattle.clap.proofs.WalkLemmas.{first_value-rows}
use Rattle.command_line.specs.declared.work.TimesForm.TheVariants.{Unasked}
use Rattle.command_line.specs.Bench.{form_named}
use Rattle.command_line.proofs.bench.form_in.Goals as goal

pub returns-in-Some : goal.returns-in-Some
returns-in-Some c =
    let met = ap (λ (o : Option (Bor (List ℕ))). option_map (λ s. s.now) o) (sym c.in-Some.is) ∙ c.get_str.ensures in
    let first = met ∙ first_value-rows (found_of c.args.words.now) (codes "times") in
    c.form_named.ensures ∙ ap (λ (o : Option (List ℕ)). option_map_or form_named o Unasked) first

pub returns-in-None : goal.returns-in-None
returns-in-None c =
    let met = ap (λ (o : Option (Bor (List ℕ))). option_map (λ s. s.now) o) (sym c.in-None.is) ∙ c.get_str.ensures in
    let first = met ∙ first_value-rows (found_of c.args.words.now) (codes "times") in
    ap (λ (o : Option (List ℕ)). option_map_or form_named o Unasked) first
