-- How a run ends.
use Rattle.std.specs.Prelude.{◌≡◌, ◌≢◌, ◌<◌, ◌≤◌, ◌⊎◌, ℕ, List, [], ◌∷◌, ◌++◌, codes, length, Option, IfSome, ⊤}
use Rattle.std.specs.Io.KnownBytes.{Appends}
use Rattle.clap.specs.Words.{Text}
use Rattle.seq_model.specs.declared.event.Event.{Event}
use Rattle.seq_model.specs.declared.limits.TheConstants.{ACTOR_LIMIT}
use Rattle.seq_model.specs.declared.refusal.Refusal.{Refusal}
use Rattle.seq_model.specs.declared.refusal.Refusal.TheVariants.{BadText, Memory as OutOfMemory}
use Rattle.seq_model.specs.Texts.{refusal_text, too_long_text}
use Rattle.step_world.specs.Traces.{IsSerialTrace}
use Rattle.text_formats.specs.declared.script.Script.{Script}
use Rattle.text_formats.specs.Scripts.{IsBadLine, IsScriptText}
use Rattle.session_text.specs.declared.run.ScriptRun.{ScriptRun}
use Rattle.session_text.specs.Audits.{IsAudited}
use Rattle.session_text.specs.Plays.{IsRunBy, IsRunOf}
use Rattle.session_text.specs.Scripts.{IsOpeningOf, IsRefusedScript}
use Rattle.session_text.specs.TracePrints.{run_text}
use Rattle.session_text.specs.declared.fault.RunFault.{RunFault}
use Rattle.session_text.specs.declared.fault.RunFault.TheVariants.{Audit, NotBalanced, Refused}
use Rattle.session_text.specs.Faults as faults
use Rattle.session_text.specs.Outputs as outputs
use Rattle.session_text.specs.LaneOutputs.{IsLanesOf}
use Rattle.interleavings.specs.Explorations.{IsExplored}
use Rattle.interleavings.specs.Faults.{IsTextFault}
use Rattle.command_line.specs.Drawn.{IsDrawable, IsDrawnOutput}
use Rattle.command_line.specs.Runs.{IsServedOutput, IsWantOfMemory}
use Rattle.command_line.specs.declared.tool.TheConstants.{AUDIT_FAULT, MEMORY, REFUSED}
use Rattle.command_line.specs.declared.work.TheConstants.{FILE_LIMIT}
use Rattle.command_line.specs.declared.work.Cause.{Cause}
use Rattle.command_line.specs.declared.work.Cause.TheVariants.{Ended, TooLong, Unreadable}
use Rattle.command_line.specs.declared.work.Task.{Task}
use Rattle.command_line.specs.declared.work.Task.TheVariants.{OnDrawn, OnFile}
use Rattle.command_line.specs.declared.work.TimesForm.{TimesForm}
use Rattle.command_line.specs.declared.work.TimesForm.TheVariants.{Unasked}
use Rattle.command_line.specs.declared.work.Work.{Work}
use Rattle.command_line.specs.declared.work.Work.TheVariants.{Explore, Lanes, Served, Step, Vacation}
use Rattle.command_line.specs.Words.{AreTaken, AskForInformation, task_named}

-- ---- what is printed of a text

-- a text spells a script, and this run is the result of its lines from its opening, with a trace in serial order
pub record HasRun (text : List ℕ) (run : ScriptRun) : Type 0 where
  pub script : Script
  pub spelled : IsScriptText text script
  pub opening : IsOpeningOf script run.opening
  pub made : IsRunOf script run
  pub serial : IsSerialTrace run.opening run.trace

-- what the run of the script that a text spells prints, once it was audited
pub record IsOutput (text bytes : List ℕ) : Type 0 where
  pub run : ScriptRun
  pub has : HasRun text run
  pub audited : IsAudited run
  pub printed : bytes ≡ run_text run

-- what it prints as lanes
pub record IsLanesOutput (text bytes : List ℕ) : Type 0 where
  pub script : Script
  pub run : ScriptRun
  pub events : List (Event ℕ)
  pub spelled : IsScriptText text script
  pub opening : IsOpeningOf script run.opening
  pub made : IsRunBy script events run
  pub serial : IsSerialTrace run.opening run.trace
  pub audited : IsAudited run
  pub printed : IsLanesOf script run events bytes

-- why it is refused: a line is outside the grammar, an allocation failed, or it spells a script that is refused
abbrev pub IsRefusedText : List ℕ → Refusal → Type 0
IsRefusedText text (BadText line) = IsBadLine text line
IsRefusedText text OutOfMemory = ⊤
IsRefusedText text refusal = (script : Script) × (IsScriptText text script × IsRefusedScript script refusal)

-- why it has no output: it is refused, and nothing else
abbrev pub IsFault : List ℕ → RunFault → Type 0
IsFault text (Refused refusal) = IsRefusedText text refusal
IsFault text fault = ⊥

-- what a text prints where this work is asked for
abbrev pub IsOutputOf : Work → List ℕ → List ℕ → Type 0
IsOutputOf Step text bytes = IsOutput text bytes
IsOutputOf Lanes text bytes = IsLanesOutput text bytes
IsOutputOf (Explore most) text bytes = IsExplored text most bytes
IsOutputOf Vacation text bytes = outputs.IsOutput text bytes
IsOutputOf (Served workers) text bytes = IsServedOutput workers text bytes

-- why it has no output
abbrev pub IsFaultOf : Work → List ℕ → RunFault → Type 0
IsFaultOf Step text fault = IsFault text fault
IsFaultOf Lanes text fault = IsFault text fault
IsFaultOf (Explore most) text fault = IsTextFault text fault
IsFaultOf Vacation text fault = faults.IsFault text fault
IsFaultOf (Served workers) text fault = faults.IsFault text fault

-- ---- what is printed of a file, or of drawn sessions

-- its workers are as many as there may be, and what is drawn is within its limits
abbrev pub IsDoable : Task → Type 0
IsDoable (OnFile Step) = ⊤
IsDoable (OnFile Lanes) = ⊤
IsDoable (OnFile (Explore most)) = ⊤
IsDoable (OnFile Vacation) = ⊤
IsDoable (OnFile (Served workers)) = (1 ≤ workers) × (workers ≤ ACTOR_LIMIT)
IsDoable (OnDrawn drawn times) = IsDrawable drawn

-- sessions are drawn, and no file is read
abbrev pub IsOnDrawn : Task → Type 0
IsOnDrawn (OnFile work) = ⊥
IsOnDrawn (OnDrawn drawn times) = ⊤

-- what the run takes is to be printed
abbrev pub IsAsked : TimesForm → Type 0
IsAsked Unasked = ⊥
IsAsked form = ⊤

abbrev pub AsksForTimes : Task → Type 0
AsksForTimes (OnFile work) = ⊥
AsksForTimes (OnDrawn drawn form) = IsAsked form

-- these bytes came from a reader of whose text this is known
abbrev pub IsTextOf : Option (List ℕ) → List ℕ → Type 0
IsTextOf known text = IfSome known (λ bytes. text ≡ bytes)

-- what is printed by the task, where this is known of the file
abbrev pub IsKnownOutput : Task → Option (List ℕ) → List ℕ → Type 0
IsKnownOutput (OnFile work) known bytes = (text : List ℕ) × (IsTextOf known text × IsOutputOf work text bytes)
IsKnownOutput (OnDrawn drawn times) known bytes = IsDrawnOutput drawn bytes

-- why nothing is printed of a file: it can't be read, is too long, or its text has no output
abbrev pub IsFileCause : Work → Option (List ℕ) → Cause → Type 0
IsFileCause work known Unreadable = ⊤
IsFileCause work known TooLong = IfSome known (λ bytes. FILE_LIMIT < length bytes)
IsFileCause work known (Ended fault) = (text : List ℕ) × (IsTextOf known text × IsFaultOf work text fault)

-- why nothing is printed of drawn sessions
abbrev pub IsDrawnCause : Cause → Type 0
IsDrawnCause Unreadable = ⊥
IsDrawnCause TooLong = ⊥
IsDrawnCause (Ended fault) = IsWantOfMemory fault

abbrev pub IsCause : Task → Option (List ℕ) → Cause → Type 0
IsCause (OnFile work) known cause = IsFileCause work known cause
IsCause (OnDrawn drawn times) known cause = IsDrawnCause cause

-- what is known of the file to be read, if one is, is no longer than a file may be
abbrev pub IsWithin : Task → Option (List ℕ) → Type 0
IsWithin (OnFile work) known = IfSome known (λ bytes. length bytes ≤ FILE_LIMIT)
IsWithin (OnDrawn drawn times) known = ⊤

-- the words are taken, and so is the length of the file
pub record IsRead (words : List Text) (known : Option (List ℕ)) : Type 0 where
  pub taken : AreTaken words
  pub within : IsWithin (task_named words) known

-- status 0: what the task prints, or help or the version, stands at the end of what the writer holds
abbrev pub HasWorked : List Text → Option (List ℕ) → Option (List ℕ) → Option (List ℕ) → Type 0
HasWorked words known old new =
    AskForInformation words
    ⊎ (IsRead words known × ((bytes : List ℕ) × (IsKnownOutput (task_named words) known bytes × Appends old new bytes)))

-- ---- what is written of a fault

-- one line
abbrev pub line_of : List ℕ → List ℕ
line_of text = text ++ (10 ∷ [])

abbrev pub unreadable_text : List ℕ
unreadable_text = codes "cannot read the file"

abbrev pub unwritten_text : List ℕ
unwritten_text = codes "cannot write the output"

abbrev pub fault_text : RunFault → List ℕ
fault_text (Refused refusal) = refusal_text refusal
fault_text Audit = codes "audit fault"
fault_text NotBalanced = codes "not balanced"

abbrev pub cause_text : Cause → List ℕ
cause_text Unreadable = unreadable_text
cause_text TooLong = too_long_text
cause_text (Ended fault) = fault_text fault

abbrev pub refusal_status : Refusal → ℕ
refusal_status OutOfMemory = MEMORY
refusal_status refusal = REFUSED

abbrev pub fault_status : RunFault → ℕ
fault_status (Refused refusal) = refusal_status refusal
fault_status fault = AUDIT_FAULT

abbrev pub status_of : Cause → ℕ
status_of (Ended fault) = fault_status fault
status_of cause = REFUSED

-- known bytes have grown by a beginning of the line: by all of it, but where a write failed
pub record HasBegun (old new : Option (List ℕ)) (line : List ℕ) : Type 0 where
  pub begun : List ℕ
  pub left : List ℕ
  pub whole : line ≡ begun ++ left
  pub grown : Appends old new begun

-- why nothing is printed is written; it is the cause of this status
pub record HasToldFault (task : Task) (status : ℕ) (known old new : Option (List ℕ)) : Type 0 where
  pub cause : Cause
  pub is_cause : IsCause task known cause
  pub of_status : status_of cause ≡ status
  pub said : HasBegun old new (line_of (cause_text cause))

-- a write failed: known bytes have grown by a beginning of the text, and not by all of it
pub record HasBrokenOff (old new : Option (List ℕ)) (text : List ℕ) : Type 0 where
  pub begun : HasBegun old new text
  pub some_left : begun.left ≢ []

-- status 1 where no fault of the words, the file or the text is written: the task has an output, and a write of it failed
pub record HasStopped (words : List Text) (known old new : Option (List ℕ)) : Type 0 where
  pub read : IsRead words known
  pub bytes : List ℕ
  pub output : IsKnownOutput (task_named words) known bytes
  pub broken : HasBrokenOff old new bytes
