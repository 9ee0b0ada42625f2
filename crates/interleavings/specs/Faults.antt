-- Why nothing is printed of an exploration.
use Rattle.std.specs.Prelude.{◌⊎◌, ℕ, List, ⊤}
use Rattle.seq_model.specs.declared.refusal.Refusal.{Refusal}
use Rattle.seq_model.specs.declared.refusal.Refusal.TheVariants.{BadText, Memory as OutOfMemory}
use Rattle.text_formats.specs.declared.script.Script.{Script}
use Rattle.text_formats.specs.Scripts.{IsBadLine, IsScriptText}
use Rattle.session_text.specs.declared.fault.RunFault.{RunFault}
use Rattle.session_text.specs.declared.fault.RunFault.TheVariants.{Refused}
use Rattle.session_text.specs.Scripts.{IsRefusedScript}

-- a line of a script that is not to be explored
abbrev pub IsUnexplored : Refusal → Type 0
IsUnexplored (BadText line) = ⊤
IsUnexplored OutOfMemory = ⊤
IsUnexplored refusal = ⊥

-- why a script has no exploration: a line is not to be explored, its opening is refused, or an allocation failed; no audit finds a fault
abbrev pub IsScriptFault : Script → RunFault → Type 0
IsScriptFault script (Refused refusal) = IsUnexplored refusal ⊎ IsRefusedScript script refusal
IsScriptFault script fault = ⊥

-- why a text has none: it is no script's, or the script that it spells has none
abbrev pub IsTextFault : List ℕ → RunFault → Type 0
IsTextFault text (Refused (BadText line)) = IsBadLine text line ⊎ ((script : Script) × IsScriptText text script)
IsTextFault text (Refused OutOfMemory) = ⊤
IsTextFault text (Refused refusal) = (script : Script) × (IsScriptText text script × IsRefusedScript script refusal)
IsTextFault text fault = ⊥
