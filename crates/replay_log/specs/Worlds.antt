-- A world of words and collections in which transactions overlap: what each event changes, and what it answers. A step is one atomic step,
-- a load or a change of one word of the table, with what follows of it without a step.
use Rattle.std.specs.Prelude.{ℕ, false, List, [], ◌∷◌, ◌++◌, length, get_or, None}
use Rattle.tx_machine.specs.Requests as word
use Rattle.tx_machine.specs.Notices as told
use Rattle.seq_model.specs.declared.held.Held.{Held}
use Rattle.seq_model.specs.declared.refusal.Refusal.TheVariants as refusal
use Rattle.seq_model.specs.declared.event.Event.{Event}
use Rattle.seq_model.specs.declared.event.Event.TheVariants.{Ask, Step, Starve}
use Rattle.seq_model.specs.declared.event.Request.{Request}
use Rattle.seq_model.specs.declared.event.Request.TheVariants as request
use Rattle.seq_model.specs.declared.event.Answer.TheVariants as answer
use Rattle.seq_model.specs.declared.event.Notice.TheVariants.{Quiet, Answered, Refused}
use Rattle.tx_machine.specs.Boosted.{TakeGate, PutGate, GoHome, is_none, opens}
use Rattle.replay_log.specs.Contents.{Block}
use Rattle.replay_log.specs.Pieces.{covers_at}
use Rattle.replay_log.specs.Collections.{shown_at}
pub use Rattle.replay_log.specs.Seats.{Stage, Idle, Beginning, Open, Locking, Releasing, Closing, Cancelling, Leaving, Reading, Trying}
pub use Rattle.replay_log.specs.Seats.{Copying, Loading, Gating, Ready, Storing, Homing, Returning, Seat, Ended, World, After, no_one}
pub use Rattle.replay_log.specs.Seats.{at_stage, because, seated, acted, asks, moves, actor_of, word_notice}
pub use Rattle.replay_log.specs.WorldEnds.{is_leaving, unlocked, cancels, gives_up, why, ended, has_cancelled, has_tried}
pub use Rattle.replay_log.specs.WorldCalls.{gate_tries, more_tries, with_editions, new_in, fits, differs, is_stale, has_room}
pub use Rattle.replay_log.specs.WorldCalls.{with_call, replied, reads}
pub use Rattle.replay_log.specs.WorldCalls.{outcome_at, reply_of, call_of, is_fresh, judges, loads, answers, calls_on, is_missing, is_known}
pub use Rattle.replay_log.specs.WorldCalls.{is_change, may_ask, if_allowed, ask_op, has_read, with_piece, outcome_now, sized_by}
pub use Rattle.replay_log.specs.WorldCalls.{has_copied, has_loaded}
pub use Rattle.replay_log.specs.WorldCommits.{
  with_new,
  distinct,
  all_of,
  commits,
  recorded,
  written_homes,
  takes_gates,
  has_locked,
  goes_home,
}
pub use Rattle.replay_log.specs.WorldCommits.{has_stored, has_released, stores}
pub use Rattle.replay_log.specs.WorldTraces.{Trace, is_half_done, half_in, half, held_from, state, trace}

module _ {V : Type 0} where
  -- ---- a request
  abbrev pub ask_idle : World V → ℕ → Seat V → Request V → After V
  ask_idle w a x request.Begin = (seated (acted w (asks a word.AskBegin ∷ [])) a (at_stage x Beginning), Quiet)
  ask_idle w a x request.BeginRead = (seated (acted w (asks a word.AskBeginRead ∷ [])) a (at_stage x Beginning), Quiet)
  ask_idle w a x q = (w, Refused a refusal.NoTransaction)

  abbrev pub ask_open : World V → ℕ → Seat V → Request V → After V
  ask_open w a x request.Begin = (w, Refused a refusal.NotIdle)
  ask_open w a x request.BeginRead = (w, Refused a refusal.NotIdle)
  ask_open w a x (request.Call call) = ask_op w a x call.target call.op
  ask_open w a x request.Commit = commits w a x (actor_of w a).writes
  ask_open w a x request.Abort = (cancels w a (record x { cause = None }), Quiet)

  abbrev pub ask_at : World V → ℕ → Seat V → Stage V → Request V → After V
  ask_at w a x Idle q = ask_idle w a x q
  ask_at w a x Open q = ask_open w a x q
  ask_at w a x stage q = (w, Refused a refusal.NotIdle)

  -- ---- a step, by what the word machine answered of it
  abbrev pub has_begun : World V → ℕ → Seat V → told.Notice → After V
  has_begun w a x (told.Begun rv) = (seated w a (record no_one { stage = Open; rv = rv }), Answered a (answer.Begun rv))
  has_begun w a x (told.Exhausted clock) = (seated w a no_one, Refused a (refusal.Exhausted clock))
  has_begun w a x n = (w, Quiet)

  abbrev pub step_at : World V → ℕ → Seat V → Stage V → After V
  step_at w a x Idle = (w, Refused a refusal.NoTransaction)
  step_at w a x Open = (w, Refused a refusal.NoTransaction)
  step_at w a x Beginning = has_begun (acted w (moves a ∷ [])) a x (word_notice w a)
  step_at w a x (Reading l) = has_read (acted w (moves a ∷ [])) a x l (word_notice w a)
  step_at w a x (Trying asked tries) =
      has_tried (acted w (TakeGate a asked.collection ∷ [])) a x (is_none (w.boosted.gates asked.collection)) asked.collection
      [] (λ n. Trying asked n) (Copying asked) tries
  step_at w a x (Copying asked) = has_copied (acted w (PutGate a asked.collection (covers_at w.words w.blocks asked) ∷ [])) a x asked
  step_at w a x (Loading o []) = (w, Quiet)
  step_at w a x (Loading o (d ∷ es)) = has_loaded (acted w (moves a ∷ [])) a x o d es (word_notice w a)
  step_at w a x Locking = has_locked (acted w (moves a ∷ [])) a x (word_notice w a)
  step_at w a x (Gating got [] tries) = (w, Quiet)
  step_at w a x (Gating got (k ∷ ks) tries) =
      has_tried (acted w (TakeGate a k ∷ [])) a x (is_none (w.boosted.gates k)) k
      got (λ n. Gating got (k ∷ ks) n) (takes_gates (got ++ k ∷ []) ks) tries
  step_at w a x (Ready ks) = stores w a x ks
  step_at w a x (Storing ks) = has_stored (acted w (moves a ∷ [])) a x ks (word_notice w a)
  step_at w a x (Homing []) = (w, Quiet)
  step_at w a x (Homing (k ∷ ks)) = goes_home (acted w (GoHome a k ∷ [])) a x ks
  step_at w a x Releasing = has_released (acted w (moves a ∷ [])) a x (word_notice w a)
  step_at w a x Closing = (seated (recorded (acted w (moves a ∷ [])) a x false x.rv) a no_one, Answered a (answer.Committed x.rv))
  step_at w a x (Returning []) = (w, Quiet)
  step_at w a x (Returning (k ∷ ks)) = gives_up (acted w (PutGate a k (λ l. false) ∷ [])) a x ks
  step_at w a x Cancelling = has_cancelled (acted w (moves a ∷ [])) a x (word_notice w a)
  step_at w a x Leaving = ended (acted w (moves a ∷ [])) a x

  -- ---- a failed allocation: it ends a request up to the first value store
  abbrev pub starve_at : World V → ℕ → Seat V → Stage V → After V
  starve_at w a x Idle = (w, Refused a refusal.NoTransaction)
  starve_at w a x Open = (w, Refused a refusal.NoTransaction)
  starve_at w a x Beginning = (seated (acted w (asks a word.AskAbort ∷ [])) a no_one, Refused a refusal.Memory)
  starve_at w a x (Reading l) = gives_up w a (because x refusal.Memory) []
  starve_at w a x (Trying asked tries) = gives_up w a (because x refusal.Memory) []
  starve_at w a x (Copying asked) = gives_up w a (because x refusal.Memory) (asked.collection ∷ [])
  starve_at w a x (Loading o es) = gives_up w a (because x refusal.Memory) []
  starve_at w a x Locking = gives_up w a (because x refusal.Memory) []
  starve_at w a x (Gating got ks tries) = gives_up w a (because x refusal.Memory) got
  starve_at w a x (Ready ks) = gives_up w a (because x refusal.Memory) ks
  starve_at w a x Closing = gives_up w a (because x refusal.Memory) []
  starve_at w a x stage = (w, Quiet)

  -- ---- events, of any number of actors
  abbrev pub happens : World V → Event V → After V
  happens w (Ask a q) = ask_at w a (w.seats a) (w.seats a).stage q
  happens w (Step a) = step_at w a (w.seats a) (w.seats a).stage
  happens w (Starve a) = starve_at w a (w.seats a) (w.seats a).stage

  abbrev pub run : World V → List (Event V) → World V
  run w [] = w
  run w (e ∷ es) = run (happens w e).0 es

  -- the opening, at these words and collections; an edition opens as 0
  abbrev pub opened : List Block → (clock : ℕ) → (values : List ℕ) → List (Held V) → World V
  opened blocks clock values held =
      record {
        words = length values;
        blocks = blocks;
        boosted = opens clock (λ l. get_or values l 0) (shown_at (length values) blocks held);
        seats = λ a. no_one;
        records = [];
        aborted = [];
      }
