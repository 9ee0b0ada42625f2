-- What an exploration finds, and what is printed of it.
use Rattle.std.specs.Prelude.{◌≡◌, ◌≤◌, ℕ, Bool, if◌then◌else◌, List, [], ◌∷◌, ◌++◌, All, codes, flat_map, length}
use Rattle.std.specs.Fmt.{decimal}
use Rattle.std.specs.List.{sum_by}
use Rattle.step_world.specs.Traces.{IsSerialTrace}
use Rattle.text_formats.specs.declared.script.Script.{Script}
use Rattle.text_formats.specs.Scripts.{IsScriptText}
use Rattle.session_text.specs.Audits.{IsAudited}
use Rattle.session_text.specs.Plays.{IsRunOf}
use Rattle.session_text.specs.Scripts.{IsOpeningOf}
use Rattle.session_text.specs.TracePrints.{run_text}
use Rattle.interleavings.specs.ScriptPrints.{script_text}
use Rattle.interleavings.specs.declared.outcomes.Exploration.{Exploration}
use Rattle.interleavings.specs.declared.outcomes.Outcome.{Outcome}

-- both open the same world
pub record HasHeaderOf (script other : Script) : Type 0 where
  pub words : other.words ≡ script.words
  pub clock : other.clock ≡ script.clock
  pub collections : other.collections ≡ script.collections

-- The outcome is the result of its script's lines in the world that the explored script opens: all that was answered, and the trace, which
-- is in serial order and was audited.
pub record IsOutcomeOf (script : Script) (outcome : Outcome) : Type 0 where
  pub header : HasHeaderOf script outcome.script
  pub opening : IsOpeningOf outcome.script outcome.run.opening
  pub made : IsRunOf outcome.script outcome.run
  pub serial : IsSerialTrace outcome.run.opening outcome.run.trace
  pub audited : IsAudited outcome.run

-- how many runs have led to these outcomes
abbrev pub runs_of : List Outcome → ℕ
runs_of outcomes = sum_by (λ o. o.count) outcomes

-- each interleaving is a run to one of the outcomes
abbrev pub IsCounted : Exploration → Type 0
IsCounted found = runs_of found.outcomes.items ≡ found.interleavings

-- ---- what is printed

abbrev pub title_text : ℕ → List ℕ
title_text count = codes "outcome of " ++ (decimal count ++ (codes " interleavings" ++ (10 ∷ [])))

abbrev pub outcome_text : Outcome → List ℕ
outcome_text outcome = title_text outcome.count ++ (run_text outcome.run ++ (codes "script\n" ++ script_text outcome.script))

abbrev pub yes_or_no_text : Bool → List ℕ
yes_or_no_text holds = if holds then codes "yes" else codes "no"

abbrev pub outcome_count_text : ℕ → List ℕ
outcome_count_text count = codes "outcomes " ++ (decimal count ++ (10 ∷ []))

abbrev pub run_count_text : ℕ → List ℕ
run_count_text count = codes "interleavings " ++ (decimal count ++ (10 ∷ []))

abbrev pub complete_text : Bool → List ℕ
complete_text is_complete = codes "audit ok\n" ++ (codes "complete " ++ (yes_or_no_text is_complete ++ (10 ∷ [])))

abbrev pub ending_text : Exploration → List ℕ
ending_text found =
    outcome_count_text (length found.outcomes.items) ++ (run_count_text found.interleavings ++ complete_text found.is_complete)

abbrev pub exploration_text : Exploration → List ℕ
exploration_text found = flat_map outcome_text found.outcomes.items ++ ending_text found

-- The text spells a script, and what is printed are outcomes that it has, with the scripts that lead there, found by so many runs at most.
pub record IsExplored (text : List ℕ) (most : ℕ) (bytes : List ℕ) : Type 0 where
  pub script : Script
  pub found : Exploration
  pub spelled : IsScriptText text script
  pub outcomes : All (IsOutcomeOf script) found.outcomes.items
  pub counted : IsCounted found
  pub few : found.interleavings ≤ most
  pub printed : bytes ≡ exploration_text found
