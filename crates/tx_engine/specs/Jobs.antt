-- The calls that a job asks, each after the replies to those before it. What it asks is handed on, for who writes a job and names this
-- crate alone.
use Rattle.std.specs.Prelude.{ℕ, ◌<◌, List, length, take, get_or}
use Rattle.seq_model.specs.declared.call.Call.{Call}
use Rattle.seq_model.specs.declared.call.Reply.{Reply}
pub use Rattle.seq_model.specs.declared.job.Ask.{Ask}
pub use Rattle.seq_model.specs.declared.job.Ask.TheVariants as ask
use Rattle.seq_model.specs.Programs.{replies_of}

module _ {V : Type 0} where
  -- each of these calls is the one that the job asks after the replies to those before it
  abbrev pub AreAskedBy : (List (Reply V) → Ask V → Type 0) → List (Call V × Reply V) → Type 0
  AreAskedBy asks calls = (i : ℕ) (d : Call V × Reply V) → i < length calls
      → asks (replies_of (take i calls)) (ask.Call (get_or calls i d).0)

  -- they are all calls of the job, which is done after the replies to them
  pub record IsWholeJob (asks : List (Reply V) → Ask V → Type 0) (calls : List (Call V × Reply V)) : Type 0 where
    pub each : AreAskedBy asks calls
    pub done : asks (replies_of calls) ask.Done
