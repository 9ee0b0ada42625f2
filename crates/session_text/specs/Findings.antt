-- What an inspection of receipts and tables finds.
use Rattle.std.specs.Prelude.{◌≡◌, ◌≢◌, List}
use Rattle.seq_model.specs.declared.auditing.AuditFault.{AuditFault}
use Rattle.seq_model.specs.declared.auditing.AuditFault.TheVariants as audit
use Rattle.seq_model.specs.declared.record.Record.{Record}
use Rattle.seq_model.specs.declared.refusal.Refusal.TheVariants.{Memory as OutOfMemory}
use Rattle.seq_model.specs.Audit.{IsAuditFault, IsRunBetween}
use Rattle.seq_model.specs.Contents.{Contents}
use Rattle.vac_model.specs.Balanced.{IsBalanced}
use Rattle.vac_model.specs.Holdings.{Holdings}
use Rattle.client_sessions.specs.declared.entry.Entry.{Entry}
use Rattle.session_text.specs.declared.fault.RunFault.{RunFault}
use Rattle.session_text.specs.declared.fault.RunFault.TheVariants.{Refused, Audit, NotBalanced}

-- the receipts are a run from one state to the other, and the tables are balanced
pub record IsSound (opening : Contents Entry) (receipts : List (Record Entry)) (last : Contents Entry) (tables : Holdings) : Type 0 where
  pub run : IsRunBetween opening receipts last
  pub balanced : IsBalanced tables

-- there is a fault in the receipts, or the tables are not balanced, or an allocation failed
abbrev pub IsFinding : Contents Entry → List (Record Entry) → Contents Entry → Holdings → RunFault → Type 0
IsFinding opening receipts last tables Audit =
    (fault : AuditFault) × ((fault ≢ audit.Memory) × IsAuditFault opening receipts last fault)
IsFinding opening receipts last tables NotBalanced = ¬ IsBalanced tables
IsFinding opening receipts last tables (Refused refusal) = refusal ≡ OutOfMemory
