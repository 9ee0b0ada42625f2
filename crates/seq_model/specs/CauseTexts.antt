-- The sentences that say why a job has no receipt.
use Rattle.std.specs.Prelude.{ℕ, List, ◌++◌, codes}
use Rattle.seq_model.specs.Texts.{refusal_text}
use Rattle.seq_model.specs.declared.causes.LastAbort.{LastAbort}
use Rattle.seq_model.specs.declared.causes.LastAbort.TheVariants.{Refused, GivenUp, NotStarted}

abbrev pub last_abort_text : LastAbort → List ℕ
last_abort_text (Refused refusal) = codes "the last attempt was refused: " ++ refusal_text refusal
last_abort_text GivenUp = codes "the job gave up, and its transaction was aborted"
last_abort_text NotStarted = codes "no thread could be started for the job's list"
