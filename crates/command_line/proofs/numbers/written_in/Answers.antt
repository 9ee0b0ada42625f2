use Rattle.std.proofs.Common.{◌∙◌, ap, sym, List, ℕ, Option, option_map}
use Rattle.std.specs.Borrow.{Bor}
use Rattle.std.specs.Option.{option_map_or}
use Rattle.clap.specs.Words.{found_of}
use Rattle.clap.proofs.WalkLemmas.{first_value-rows}
use Rattle.command_line.specs.Numbers.{number_of_text}
use Rattle.command_line.proofs.numbers.written_in.Goals as goal

pub returns-in-Some : goal.returns-in-Some
returns-in-Some c =
    let met = ap (λ (o : Option (Bor (List ℕ))). option_map (λ s. s.now) o) (sym c.in-Some.is) ∙ c.get_str.ensures in
    let first = met ∙ first_value-rows (found_of c.args.words.now) c.args.name.now in
    c.number_of_text.ensures ∙ ap (λ (o : Option (List ℕ)). option_map_or number_of_text o 0) first

pub returns-in-None : goal.returns-in-None
returns-in-None c =
    let met = ap (λ (o : Option (Bor (List ℕ))). option_map (λ s. s.now) o) (sym c.in-None.is) ∙ c.get_str.ensures in
    let first = met ∙ first_value-rows (found_of c.args.words.now) c.args.name.now in
    ap (λ (o : Option (List ℕ)). option_map_or number_of_text o 0) first
