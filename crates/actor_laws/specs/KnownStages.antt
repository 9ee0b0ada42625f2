-- Where the transaction of an actor stands, as a client may know it: and what it is answered says how it continues.
use Rattle.std.specs.Prelude.{◌≡◌, ◌⊎◌, ℕ, Bool, true, false, is_some, List, [], ◌∷◌, ◌++◌}
use Rattle.seq_model.specs.declared.call.Call.{Call}
use Rattle.seq_model.specs.declared.call.Op.TheVariants.{Read}
use Rattle.seq_model.specs.declared.call.Reply.{Reply}
use Rattle.seq_model.specs.declared.event.Answer.TheVariants as answer
use Rattle.seq_model.specs.declared.event.Event.TheVariants.{Ask, Step}
use Rattle.seq_model.specs.declared.event.Notice.{Notice}
use Rattle.seq_model.specs.declared.event.Notice.TheVariants.{Quiet, Answered, Refused}
use Rattle.seq_model.specs.declared.event.Request.{Request}
use Rattle.seq_model.specs.declared.event.Request.TheVariants as request
use Rattle.seq_model.specs.declared.refusal.Refusal.{Refusal}
use Rattle.seq_model.specs.declared.refusal.Refusal.TheVariants.{NoSuch, TooLong}
use Rattle.replay_log.specs.Worlds.{World, Seat, Stage, Idle, Beginning, Open, Locking, Releasing, Closing, Cancelling, Leaving, Reading}
use Rattle.replay_log.specs.Worlds.{Trying, Copying, Loading, Gating, Ready, Storing, Homing, Returning, call_of, happens}
use Rattle.replay_log.specs.WorldReplies.{as_call}
use Rattle.replay_log.specs.WorldTraces.{committed_by}

pub data KnownStage (V : Type 0) : Type 0 where
  Rests : KnownStage V  -- it has no transaction
  Begins : KnownStage V
  Stands : List (Call V × Reply V) → KnownStage V  -- it is open, and these calls are made
  Calls : List (Call V × Reply V) → Call V → KnownStage V  -- and this one is under way
  Commits : List (Call V × Reply V) → KnownStage V  -- and is to commit
  Committed : KnownStage V  -- it has committed, and is to release
  Ends : KnownStage V  -- it is being aborted

-- a call that nothing answers, or one too many
abbrev pub IsMistaken : Refusal → Type 0
IsMistaken NoSuch = Unit {0}
IsMistaken TooLong = Unit {0}
IsMistaken cause = ⊥

module _ {V : Type 0} where
  abbrev pub known_stage_at : List (Call V × Reply V) → Stage V → KnownStage V
  known_stage_at calls Idle = Rests
  known_stage_at calls Beginning = Begins
  known_stage_at calls Open = Stands calls
  known_stage_at calls (Reading l) = Calls calls (record { target = l; op = Read })
  known_stage_at calls (Trying asked tries) = Calls calls (as_call asked)
  known_stage_at calls (Copying asked) = Calls calls (as_call asked)
  known_stage_at calls (Loading o left) = Calls calls (call_of o)
  known_stage_at calls Locking = Commits calls
  known_stage_at calls (Gating got ks tries) = Commits calls
  known_stage_at calls (Ready ks) = Commits calls
  known_stage_at calls Closing = Commits calls
  known_stage_at calls (Storing ks) = Committed
  known_stage_at calls (Homing ks) = Committed
  known_stage_at calls Releasing = Committed
  known_stage_at calls (Returning ks) = Ends
  known_stage_at calls Cancelling = Ends
  known_stage_at calls Leaving = Ends

  abbrev pub known_stage : Seat V → KnownStage V
  known_stage x = known_stage_at x.calls x.stage

  -- What a call results in, by what is answered of it: with its reply it joins the calls before it; refused, which is as NoSuch or TooLong,
  -- it leaves them; else it is under way, or its transaction is being aborted.
  abbrev pub CallMoves : List (Call V × Reply V) → Call V → Notice V → KnownStage V → Type 0
  CallMoves calls call (Answered b (answer.Replied r)) later = later ≡ Stands (calls ++ (call, r) ∷ [])
  CallMoves calls call (Refused b cause) later = (later ≡ Stands calls) × IsMistaken cause
  CallMoves calls call Quiet later = (later ≡ Calls calls call) ⊎ (later ≡ Ends)
  CallMoves calls call n later = ⊥

  -- what a step results in, and whether it commits
  abbrev pub StepMoves : KnownStage V → (commits : Bool) → Notice V → KnownStage V → Type 0
  StepMoves Rests false (Refused b cause) later = later ≡ Rests
  StepMoves Begins false (Answered b (answer.Begun rv)) later = later ≡ Stands []
  StepMoves Begins false (Refused b cause) later = later ≡ Rests
  StepMoves Begins false Quiet later = later ≡ Begins
  StepMoves (Stands calls) false (Refused b cause) later = later ≡ Stands calls
  StepMoves (Calls calls call) false n later = CallMoves calls call n later
  StepMoves (Commits calls) false Quiet later = (later ≡ Commits calls) ⊎ (later ≡ Ends)
  StepMoves (Commits calls) true Quiet later = later ≡ Committed
  StepMoves (Commits calls) true (Answered b (answer.Committed n)) later = later ≡ Rests
  StepMoves Committed false Quiet later = later ≡ Committed
  StepMoves Committed false (Answered b (answer.Committed n)) later = later ≡ Rests
  StepMoves Ends false Quiet later = later ≡ Ends
  StepMoves Ends false (Answered b answer.Aborted) later = later ≡ Rests
  StepMoves Ends false (Refused b cause) later = later ≡ Rests
  StepMoves before commits n later = ⊥

  -- what a request results in
  abbrev pub AskMoves : KnownStage V → Request V → Notice V → KnownStage V → Type 0
  AskMoves Rests request.Begin Quiet later = later ≡ Begins
  AskMoves Rests request.BeginRead Quiet later = later ≡ Begins
  AskMoves (Stands calls) (request.Call call) n later = CallMoves calls call n later
  AskMoves (Stands calls) request.Commit Quiet later = later ≡ Commits calls
  AskMoves (Stands calls) request.Abort Quiet later = later ≡ Ends
  AskMoves before q (Refused b cause) later = later ≡ before
  AskMoves before q n later = ⊥

-- what each step and each request of an actor results in
abbrev pub StepsMove : Type 0 → Type 0
StepsMove V = (w : World V) (a : ℕ) → StepMoves (known_stage (w.seats a)) (is_some (committed_by (w.seats a) (w.seats a).stage))
    (happens w (Step a)).1 (known_stage ((happens w (Step a)).0.seats a))

abbrev pub AsksMove : Type 0 → Type 0
AsksMove V = (w : World V) (a : ℕ) (q : Request V) → AskMoves (known_stage (w.seats a)) q (happens w (Ask a q)).1
    (known_stage ((happens w (Ask a q)).0.seats a))
