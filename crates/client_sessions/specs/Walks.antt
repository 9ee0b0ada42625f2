-- Where the code that walks along a program, by the replies so far, arrives.
use Rattle.std.specs.Prelude.{◌≡◌, ℕ, Result, Ok, Err, ⊤}
use Rattle.seq_model.specs.declared.job.Ask.TheVariants as ask
use Rattle.seq_model.specs.Programs.{asked}
use Rattle.vac_model.specs.declared.item.Kind.{Kind}
use Rattle.vac_model.specs.declared.item.Customer.{Customer}
use Rattle.vac_model.specs.declared.action.KindReply.{KindReply}
use Rattle.vac_model.specs.declared.action.KindReply.TheVariants.{Booked, Waits}
use Rattle.client_sessions.specs.declared.walk.Stop.{Stop}
use Rattle.client_sessions.specs.declared.walk.Stop.TheVariants.{Asks, GivesUp, Memory as OutOfMemory}
use Rattle.client_sessions.specs.Sessions.{SessionProgram, with_booking, with_wait}

-- a walk stops at what is left of a program: this call is asked next, the program aborts, or an allocation failed
abbrev pub IsStop : Stop → SessionProgram → Type 0
IsStop (Asks call) p = asked p ≡ ask.Call call
IsStop GivesUp p = asked p ≡ ask.GiveUp
IsStop OutOfMemory p = ⊤

-- a walk that begins at p arrives at the program that continues with what it found, or it stops
abbrev pub Comes : {T : Type 0} → SessionProgram → Result T Stop → (T → SessionProgram) → Type 0
Comes p (Ok x) on = p ≡ on x
Comes p (Err stop) on = IsStop stop p

-- a customer with what was decided for a kind
abbrev pub with_part : ℕ → Kind → KindReply → Customer → Customer
with_part units k (Booked id n price) who = with_booking units k id price who
with_part units k (Waits id t) who = with_wait units k id t who
with_part units k _ who = who
