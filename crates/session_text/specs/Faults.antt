-- Why a session file has no output.
use Rattle.std.specs.Prelude.{ℕ, List}
use Rattle.seq_model.specs.declared.auditing.AuditFault.{AuditFault}
use Rattle.seq_model.specs.declared.auditing.AuditFault.TheVariants as audit
use Rattle.seq_model.specs.declared.refusal.Refusal.TheVariants.{Memory as OutOfMemory}
use Rattle.text_formats.specs.Sessions.{IsUnreadable}
use Rattle.session_text.specs.declared.fault.RunFault.{RunFault}
use Rattle.session_text.specs.declared.fault.RunFault.TheVariants.{Refused, Audit}

-- a failed allocation is no finding of an audit
abbrev pub audit_fault : AuditFault → RunFault
audit_fault audit.Memory = Refused OutOfMemory
audit_fault fault = Audit

-- A line is outside the grammar, or an allocation failed; nothing else.
abbrev pub IsFault : List ℕ → RunFault → Type 0
IsFault text (Refused refusal) = IsUnreadable text refusal
IsFault text fault = ⊥
