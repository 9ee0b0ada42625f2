-- The requests, answers and refusals of the code, and those of the machine.
use Rattle.std.specs.Prelude.{Option, Some, None, Result, Ok, Err}
use Rattle.tx_machine.specs.Requests.{Request, AskBegin, AskBeginRead, AskLock, AskStore, AskRelease, AskCancel, AskAbort, AskClose}
use Rattle.tx_machine.specs.Requests.{AskRead, AskWrite}
use Rattle.tx_machine.specs.Notices as notice
use Rattle.tx_machine.specs.Notices.{Notice}
use Rattle.step_core.specs.declared.answer.WordRequest.{WordRequest}
use Rattle.step_core.specs.declared.answer.WordRequest.TheVariants.{Begin, BeginRead, Read, Write, Lock, Store, Release, Cancel, Abort}
use Rattle.step_core.specs.declared.answer.WordRequest.TheVariants.{Close}
use Rattle.step_core.specs.declared.answer.WordAnswer.{WordAnswer}
use Rattle.step_core.specs.declared.answer.WordAnswer.TheVariants as answer
use Rattle.step_core.specs.declared.answer.WordRefusal.{WordRefusal}
use Rattle.step_core.specs.declared.answer.WordRefusal.TheVariants as refusal

-- what the machine is asked
abbrev pub request_of : WordRequest → Request
request_of Begin = AskBegin
request_of BeginRead = AskBeginRead
request_of (Read l) = AskRead l
request_of (Write l v) = AskWrite l v
request_of Lock = AskLock
request_of Store = AskStore
request_of Release = AskRelease
request_of Cancel = AskCancel
request_of Abort = AskAbort
request_of Close = AskClose

-- what a step answers, as the code's result
abbrev pub result_of : Notice → Result (Option WordAnswer) WordRefusal
result_of notice.Quiet = Ok None
result_of notice.NoTransaction = Err refusal.NoTransaction
result_of (notice.Begun rv) = Ok (Some (answer.Begun rv))
result_of (notice.Number v) = Ok (Some (answer.Number v))
result_of notice.Written = Ok (Some answer.Done)
result_of (notice.LockedAt wv) = Ok (Some (answer.Locked wv))
result_of notice.Stored = Ok (Some answer.Stored)
result_of notice.Released = Ok (Some answer.Released)
result_of notice.Cancelled = Ok (Some answer.Cancelled)
result_of notice.Closed = Ok (Some answer.Ended)
result_of (notice.Moved l w) = Err (refusal.Moved l w)
result_of (notice.Busy l w) = Err (refusal.Busy l w)
result_of (notice.Invalid l w) = Err (refusal.Invalid l w)
result_of (notice.Exhausted clock) = Err (refusal.Exhausted clock)
