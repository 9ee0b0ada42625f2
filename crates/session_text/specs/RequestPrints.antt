-- How a script spells a request.
use Rattle.std.specs.Prelude.{ℕ, List, ◌++◌, codes}
use Rattle.std.specs.Fmt.{decimal}
use Rattle.seq_model.specs.declared.call.Op.{Op}
use Rattle.seq_model.specs.declared.call.Op.TheVariants.{Read, Write, Get, Put, Remove, Len, Count, Add, Take, Least, Insert, TakeLeast}
use Rattle.seq_model.specs.declared.call.Op.TheVariants.{Enqueue, Dequeue, Peek}
use Rattle.seq_model.specs.declared.event.Request.{Request}
use Rattle.seq_model.specs.declared.event.Request.TheVariants as request

abbrev pub call_text : ℕ → Op ℕ → List ℕ
call_text target Read = codes "read " ++ decimal target
call_text target (Write value) = codes "write " ++ (decimal target ++ (codes " " ++ decimal value))
call_text target (Get key) = codes "call " ++ (decimal target ++ (codes " get " ++ decimal key))
call_text target (Put key value) = codes "call " ++ (decimal target ++ (codes " put " ++ (decimal key ++ (codes " " ++ decimal value))))
call_text target (Remove key) = codes "call " ++ (decimal target ++ (codes " remove " ++ decimal key))
call_text target Len = codes "call " ++ (decimal target ++ codes " len")
call_text target (Count element) = codes "call " ++ (decimal target ++ (codes " count " ++ decimal element))
call_text target (Add element) = codes "call " ++ (decimal target ++ (codes " add " ++ decimal element))
call_text target (Take element) = codes "call " ++ (decimal target ++ (codes " take " ++ decimal element))
call_text target Least = codes "call " ++ (decimal target ++ codes " least")
call_text target (Insert element) = codes "call " ++ (decimal target ++ (codes " insert " ++ decimal element))
call_text target TakeLeast = codes "call " ++ (decimal target ++ codes " take_least")
call_text target (Enqueue item) = codes "call " ++ (decimal target ++ (codes " enqueue " ++ decimal item))
call_text target Dequeue = codes "call " ++ (decimal target ++ codes " dequeue")
call_text target Peek = codes "call " ++ (decimal target ++ codes " peek")

abbrev pub request_text : Request ℕ → List ℕ
request_text request.Begin = codes "begin"
request_text request.BeginRead = codes "begin_read"
request_text request.Commit = codes "commit"
request_text request.Abort = codes "abort"
request_text (request.Call call) = call_text call.target call.op
