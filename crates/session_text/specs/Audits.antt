-- What an audit finds in a run of a script.
use Rattle.std.specs.Prelude.{◌≡◌, []}
use Rattle.seq_model.specs.declared.auditing.AuditFault.{AuditFault}
use Rattle.seq_model.specs.Audit.{IsAuditFault, IsRunBetween}
use Rattle.actor_parts.specs.Audits.{without_actors}
use Rattle.session_text.specs.declared.run.ScriptRun.{ScriptRun}

-- where no commit is half done, the records are a run from the opening that results in what the trace shows
abbrev pub IsAudited : ScriptRun → Type 0
IsAudited made = made.trace.half ≡ [] → IsRunBetween made.opening (without_actors made.trace.records) made.trace.state

-- what is wrong with them
abbrev pub HasAuditFault : ScriptRun → AuditFault → Type 0
HasAuditFault made fault = IsAuditFault made.opening (without_actors made.trace.records) made.trace.state fault
