-- The requests of a script, as their tokens.
use Rattle.std.specs.Prelude.{◌≡◌, ℕ, ◌<◌, ◌^◌, List, [], ◌∷◌, codes, ⊤}
use Rattle.std.specs.Fmt.{decimal}
use Rattle.seq_model.specs.declared.call.Call.{Call}
use Rattle.seq_model.specs.declared.call.Op.{Op}
use Rattle.seq_model.specs.declared.call.Op.TheVariants.{
  Read,
  Write,
  Get,
  Put,
  Remove,
  Len,
  Count,
  Add,
  Take,
  Least,
  Insert,
  TakeLeast,
  Enqueue,
  Dequeue,
  Peek,
}
use Rattle.seq_model.specs.declared.event.Request.{Request}
use Rattle.seq_model.specs.declared.event.Request.TheVariants as request
use Rattle.text_formats.specs.ScriptTokens.{narrowed}

-- what is asked of a collection
abbrev pub op_tokens : Op ℕ → List (List ℕ)
op_tokens (Get key) = codes "get" ∷ decimal key ∷ []
op_tokens (Put key value) = codes "put" ∷ decimal key ∷ decimal value ∷ []
op_tokens (Remove key) = codes "remove" ∷ decimal key ∷ []
op_tokens Len = codes "len" ∷ []
op_tokens (Count element) = codes "count" ∷ decimal element ∷ []
op_tokens (Add element) = codes "add" ∷ decimal element ∷ []
op_tokens (Take element) = codes "take" ∷ decimal element ∷ []
op_tokens Least = codes "least" ∷ []
op_tokens (Insert element) = codes "insert" ∷ decimal element ∷ []
op_tokens TakeLeast = codes "take_least" ∷ []
op_tokens (Enqueue item) = codes "enqueue" ∷ decimal item ∷ []
op_tokens Dequeue = codes "dequeue" ∷ []
op_tokens Peek = codes "peek" ∷ []
op_tokens Read = []
op_tokens (Write value) = []

-- a call on the word or collection of this number
abbrev pub call_tokens : ℕ → Op ℕ → List (List ℕ)
call_tokens target Read = codes "read" ∷ decimal target ∷ []
call_tokens target (Write value) = codes "write" ∷ decimal target ∷ decimal value ∷ []
call_tokens target op = codes "call" ∷ decimal target ∷ op_tokens op

-- its numbers are within 64 bits
abbrev pub Fits : Op ℕ → Type 0
Fits (Write value) = value < 2 ^ 64
Fits (Get key) = key < 2 ^ 64
Fits (Put key value) = (key < 2 ^ 64) × (value < 2 ^ 64)
Fits (Remove key) = key < 2 ^ 64
Fits (Count element) = element < 2 ^ 64
Fits (Add element) = element < 2 ^ 64
Fits (Take element) = element < 2 ^ 64
Fits (Insert element) = element < 2 ^ 64
Fits (Enqueue item) = item < 2 ^ 64
Fits op = ⊤

pub record IsCall (tokens : List (List ℕ)) (call : Call ℕ) : Type 0 where
  pub number : ℕ
  pub within : number < 2 ^ 64
  pub fits : Fits call.op
  pub target : call.target ≡ narrowed number
  pub spelled : tokens ≡ call_tokens number call.op

abbrev pub IsRequest : List (List ℕ) → Request ℕ → Type 0
IsRequest tokens request.Begin = tokens ≡ codes "begin" ∷ []
IsRequest tokens request.BeginRead = tokens ≡ codes "begin_read" ∷ []
IsRequest tokens request.Commit = tokens ≡ codes "commit" ∷ []
IsRequest tokens request.Abort = tokens ≡ codes "abort" ∷ []
IsRequest tokens (request.Call call) = IsCall tokens call
