use Rattle.std.proofs.Common.{◌∙◌, ap, sym, codes, List, ℕ, Option, option_map}
use Rattle.std.specs.Borrow.{Bor}
use Rattle.std.specs.Option.{option_map_or}
use Rattle.clap.specs.Words.{found_of}
use Rattle.clap.proofs.WalkLemmas.{first_value-rows}
use Rattle.command_line.specs.declared.work.Work.TheVariants.{Step}
use Rattle.command_line.specs.Words.{step_work_by}
use Rattle.command_line.proofs.words.work_on_script.Goals as goal

pub returns-in-Some-clause-work : goal.returns-in-Some-clause-work
returns-in-Some-clause-work c =
    let met = ap (λ (o : Option (Bor (List ℕ))). option_map (λ s. s.now) o) (sym c.in-Some.is) ∙ c.get_str.ensures in
    let first = met ∙ first_value-rows (found_of c.args.words.now) (codes "lanes") in
    c.work_by_flag.ensures.work ∙ ap (λ (o : Option (List ℕ)). option_map_or step_work_by o Step) first

pub returns-in-None-clause-work : goal.returns-in-None-clause-work
returns-in-None-clause-work c =
    let met = ap (λ (o : Option (Bor (List ℕ))). option_map (λ s. s.now) o) (sym c.in-None.is) ∙ c.get_str.ensures in
    let first = met ∙ first_value-rows (found_of c.args.words.now) (codes "lanes") in
    ap (λ (o : Option (List ℕ)). option_map_or step_work_by o Step) first
