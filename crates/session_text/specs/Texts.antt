-- The sentences that say why a run has no output.
use Rattle.std.specs.Prelude.{ℕ, List, ◌++◌, codes}
use Rattle.seq_model.specs.Texts.{refusal_text}
use Rattle.session_text.specs.declared.fault.RunFault.{RunFault}
use Rattle.session_text.specs.declared.fault.RunFault.TheVariants.{Refused, Audit, NotBalanced}

abbrev pub run_fault_text : RunFault → List ℕ
run_fault_text (Refused refusal) = codes "the run was refused: " ++ refusal_text refusal
run_fault_text Audit = codes "what was committed is no run from the opening to what is left"
run_fault_text NotBalanced = codes "the reservation tables that are left are not balanced"
