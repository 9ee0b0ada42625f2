-- What a step makes of a seat at each stage, once its atomic action is done, and which action is next.
use Rattle.std.specs.Prelude.{◌≡◌, ℕ, Bool, true, false, List, [], ◌∷◌, ◌++◌, Option, Some, None, Result, Ok, Err}
use Rattle.tx_sets.specs.Entries.{Entries, locations}
use Rattle.tx_machine.specs.Notices as notice
use Rattle.tx_machine.specs.Requests.{AskStore}
use Rattle.seq_model.specs.declared.event.Answer.TheVariants as answer
use Rattle.seq_model.specs.declared.event.Notice.TheVariants.{Quiet, Answered}
use Rattle.step_core.specs.declared.answer.WordAnswer.{WordAnswer}
use Rattle.step_core.specs.declared.answer.WordAnswer.TheVariants as word
use Rattle.step_core.specs.declared.answer.WordRefusal.{WordRefusal}
use Rattle.step_core.specs.declared.answer.WordRefusal.TheVariants as stop
use Rattle.step_core.specs.Answers.{result_of}
use Rattle.tx_machine.specs.Boosted.{Action, TakeGate, PutGate, GoHome, every, is_given, is_none}
use Rattle.replay_log.specs.Contents.{CollectionCall, content}
use Rattle.replay_log.specs.Guards.{step_action}
use Rattle.replay_log.specs.Worlds as worlds
use Rattle.replay_log.specs.Worlds.{World, Seat, Stage, After, acted, asks, moves, actor_of, word_notice, seated, recorded, no_one}
use Rattle.replay_log.specs.Worlds.{has_begun, has_read, has_locked, has_stored, has_released, has_cancelled, ended, has_tried, takes_gates}
use Rattle.replay_log.specs.Worlds.{gives_up, goes_home, step_at}
use Rattle.actor_parts.specs.declared.notice.WordNotice.{WordNotice}
use Rattle.actor_parts.specs.declared.notice.WordNotice.TheVariants as heard
use Rattle.actor_parts.specs.declared.next.Next.{Next}
use Rattle.actor_parts.specs.declared.next.Next.TheVariants as next

-- what a step of the words answered, as a notice of the word machine
abbrev pub shown_notice : WordNotice → notice.Notice
shown_notice heard.Quiet = notice.Quiet
shown_notice heard.NoTransaction = notice.NoTransaction
shown_notice (heard.Begun rv) = notice.Begun rv
shown_notice (heard.Number v) = notice.Number v
shown_notice (heard.Locked wv) = notice.LockedAt wv
shown_notice heard.Written = notice.Written
shown_notice heard.Stored = notice.Stored
shown_notice heard.Released = notice.Released
shown_notice heard.Cancelled = notice.Cancelled
shown_notice heard.Closed = notice.Closed
shown_notice (heard.Moved l w) = notice.Moved l w
shown_notice (heard.Busy l w) = notice.Busy l w
shown_notice (heard.Invalid l w) = notice.Invalid l w
shown_notice (heard.Exhausted clock) = notice.Exhausted clock

abbrev pub answer_told : WordAnswer → notice.Notice
answer_told (word.Begun rv) = notice.Begun rv
answer_told (word.Number v) = notice.Number v
answer_told word.Done = notice.Written
answer_told (word.Locked wv) = notice.LockedAt wv
answer_told word.Stored = notice.Stored
answer_told word.Released = notice.Released
answer_told word.Cancelled = notice.Cancelled
answer_told word.Ended = notice.Closed

abbrev pub refusal_told : WordRefusal → notice.Notice
refusal_told (stop.Moved l w) = notice.Moved l w
refusal_told (stop.Busy l w) = notice.Busy l w
refusal_told (stop.Invalid l w) = notice.Invalid l w
refusal_told (stop.Exhausted clock) = notice.Exhausted clock
refusal_told other = notice.NoTransaction

abbrev pub notice_told : Result (Option WordAnswer) WordRefusal → notice.Notice
notice_told (Ok None) = notice.Quiet
notice_told (Ok (Some x)) = answer_told x
notice_told (Err x) = refusal_told x

abbrev pub first : List ℕ → Option ℕ
first [] = None
first (k ∷ ks) = Some k

abbrev pub next_load : Entries → Next
next_load [] = next.Nothing
next_load (e ∷ es) = next.Word

abbrev pub next_try : Option ℕ → Next
next_try None = next.Nothing
next_try (Some k) = next.TryGate k

abbrev pub next_home : Option ℕ → Next
next_home None = next.Nothing
next_home (Some k) = next.GoHome k

abbrev pub next_put : Option ℕ → Next
next_put None = next.Nothing
next_put (Some k) = next.PutGate k

module _ {V : Type 0} where
  -- a step of the words was made, and answered n; the load of a call's location is none of these
  abbrev pub after_word : World V → ℕ → Seat V → Stage V → notice.Notice → After V
  after_word w a x worlds.Beginning n = has_begun w a x n
  after_word w a x (worlds.Reading l) n = has_read w a x l n
  after_word w a x worlds.Locking n = has_locked w a x n
  after_word w a x (worlds.Ready ks) n = has_stored (recorded w a x true x.wv) a x ks n
  after_word w a x (worlds.Storing ks) n = has_stored w a x ks n
  after_word w a x worlds.Releasing n = has_released w a x n
  after_word w a x worlds.Closing n = (seated (recorded w a x false x.rv) a no_one, Answered a (answer.Committed x.rv))
  after_word w a x worlds.Cancelling n = has_cancelled w a x n
  after_word w a x worlds.Leaving n = ended w a x
  after_word w a x stage n = (w, Quiet)

  -- a gate was tried, and found free or not
  abbrev pub after_try : World V → ℕ → Seat V → Stage V → Bool → After V
  after_try w a x (worlds.Trying asked tries) free =
      has_tried w a x free asked.collection [] (λ n. worlds.Trying asked n) (worlds.Copying asked) tries
  after_try w a x (worlds.Gating got (k ∷ ks) tries) free =
      has_tried w a x free k got (λ n. worlds.Gating got (k ∷ ks) n) (takes_gates (got ++ k ∷ []) ks) tries
  after_try w a x stage free = (w, Quiet)

  -- a gate was put back, its base unchanged
  abbrev pub after_put : World V → ℕ → Seat V → Stage V → After V
  after_put w a x (worlds.Returning (k ∷ ks)) = gives_up w a x ks
  after_put w a x stage = (w, Quiet)

  -- a base was put back
  abbrev pub after_home : World V → ℕ → Seat V → Stage V → After V
  after_home w a x (worlds.Homing (k ∷ ks)) = goes_home w a x ks
  after_home w a x stage = (w, Quiet)

  -- the locks are released where no base is to be put back any more; then a holds no gate of a written location
  abbrev pub MayRelease : ℕ → World V → List ℕ → Type 0
  MayRelease a w [] = every (is_given (content w.words w.blocks) w.boosted a) (locations (actor_of w a).writes) ≡ true
  MayRelease a w (k ∷ ks) = Unit {0}

  abbrev pub MayGoOn : ℕ → World V → Stage V → Type 0
  MayGoOn a w (worlds.Ready ks) = MayRelease a w ks
  MayGoOn a w (worlds.Storing ks) = MayRelease a w ks
  MayGoOn a w (worlds.Homing (k ∷ ks)) = MayRelease a w ks
  MayGoOn a w stage = Unit {0}

  -- the first of a call's locations is read
  abbrev pub is_loading : Stage V → Bool
  is_loading (worlds.Loading o es) = true
  is_loading s = false

  -- what its next step does
  abbrev pub next_of : Stage V → Next
  next_of worlds.Idle = next.Nothing
  next_of worlds.Open = next.Nothing
  next_of (worlds.Trying asked tries) = next.TryGate asked.collection
  next_of (worlds.Copying asked) = next.Copy asked.collection
  next_of (worlds.Loading o es) = next_load es
  next_of (worlds.Gating got ks tries) = next_try (first ks)
  next_of (worlds.Ready ks) = next.FirstStore
  next_of (worlds.Homing ks) = next_home (first ks)
  next_of (worlds.Returning ks) = next_put (first ks)
  next_of stage = next.Word

  -- this is what the next step of a does
  abbrev pub IsDue : ℕ → Next → Option (Action (CollectionCall V)) → Type 0
  IsDue a next.Nothing None = Unit {0}
  IsDue a next.Word (Some e) = e ≡ moves a
  IsDue a (next.TryGate k) (Some e) = e ≡ TakeGate a k
  IsDue a (next.Copy k) (Some e) = (which : ℕ → Bool) × (e ≡ PutGate a k which)
  IsDue a next.FirstStore (Some e) = e ≡ asks a AskStore
  IsDue a (next.GoHome k) (Some e) = e ≡ GoHome a k
  IsDue a (next.PutGate k) (Some e) = e ≡ PutGate a k (λ l. false)
  IsDue a n e = ⊥

-- The step of the definitions is the atomic action that is next, and then what is made of it.
pub record AreSteps (V : Type 0) : Type 0 where
  pub words : (w : World V) (a : ℕ) (x : Seat V) (s : Stage V) → next_of s ≡ next.Word → is_loading s ≡ false
      → step_at w a x s ≡ after_word (acted w (moves a ∷ [])) a x s (word_notice w a)
  pub first : (w : World V) (a : ℕ) (x : Seat V) (ks : List ℕ) → let ready = acted w (asks a AskStore ∷ []) in
      step_at w a x (worlds.Ready ks) ≡ after_word (acted ready (moves a ∷ [])) a x (worlds.Ready ks) (word_notice ready a)
  pub tries : (w : World V) (a : ℕ) (x : Seat V) (s : Stage V) (k : ℕ) → next_of s ≡ next.TryGate k
      → step_at w a x s ≡ after_try (acted w (TakeGate a k ∷ [])) a x s (is_none (w.boosted.gates k))
  pub puts : (w : World V) (a : ℕ) (x : Seat V) (s : Stage V) (k : ℕ) → next_of s ≡ next.PutGate k
      → step_at w a x s ≡ after_put (acted w (PutGate a k (λ l. false) ∷ [])) a x s
  pub homes : (w : World V) (a : ℕ) (x : Seat V) (s : Stage V) (k : ℕ) → next_of s ≡ next.GoHome k
      → step_at w a x s ≡ after_home (acted w (GoHome a k ∷ [])) a x s
  pub told : (n : notice.Notice) → notice_told (result_of n) ≡ n
  pub due : (w : World V) (a : ℕ) (s : Stage V) → IsDue a (next_of s) (step_action w a s)
