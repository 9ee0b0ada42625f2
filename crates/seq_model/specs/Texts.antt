-- What refusals and faults say: the one table of their texts.
use Rattle.std.specs.Prelude.{ℕ, List, ◌++◌, codes}
use Rattle.std.specs.Fmt.{decimal}
use Rattle.seq_model.specs.declared.auditing.AuditFault.{AuditFault}
use Rattle.seq_model.specs.declared.auditing.AuditFault.TheVariants as fault
use Rattle.seq_model.specs.declared.refusal.Refusal.{Refusal}
use Rattle.seq_model.specs.declared.refusal.Refusal.TheVariants.{Moved, Busy, Stale, GateBusy}
use Rattle.seq_model.specs.declared.refusal.Refusal.TheVariants.{Invalid, Memory as OutOfMemory, Exhausted, NoSuch}
use Rattle.seq_model.specs.declared.refusal.Refusal.TheVariants.{TooLong, Ahead, NotIdle, NoTransaction, BadText}

abbrev pub memory_text : List ℕ
memory_text = codes "Memory"

abbrev pub too_long_text : List ℕ
too_long_text = codes "TooLong"

-- a fault of the records is reported as one; its numbers are for the caller
abbrev pub audit_fault_text : AuditFault → List ℕ
audit_fault_text fault.Memory = memory_text
audit_fault_text _ = codes "audit fault"

abbrev pub refusal_text : Refusal → List ℕ
refusal_text (Moved location word) = codes "Moved " ++ (decimal location ++ (codes " " ++ decimal word))
refusal_text (Busy location word) = codes "Busy " ++ (decimal location ++ (codes " " ++ decimal word))
refusal_text (Stale location base_edition word_edition) =
    codes "Stale " ++ (decimal location ++ (codes " " ++ (decimal base_edition ++ (codes " " ++ decimal word_edition))))
refusal_text (GateBusy collection) = codes "GateBusy " ++ decimal collection
refusal_text (Invalid location word) = codes "Invalid " ++ (decimal location ++ (codes " " ++ decimal word))
refusal_text OutOfMemory = memory_text
refusal_text (Exhausted clock) = codes "Exhausted " ++ decimal clock
refusal_text NoSuch = codes "NoSuch"
refusal_text TooLong = too_long_text
refusal_text (Ahead clock) = codes "Ahead " ++ decimal clock
refusal_text NotIdle = codes "NotIdle"
refusal_text NoTransaction = codes "NoTransaction"
refusal_text (BadText line) = codes "line " ++ (decimal line ++ codes ": BadText")
