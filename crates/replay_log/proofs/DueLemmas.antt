-- An event that answers nothing leaves a step to take: each function of the definition either answers, or seats its actor at a stage that
-- is not idle, or leaves the seat at the stage of the request, which is none.
use Rattle.std.proofs.Common.{◌≡◌, ℕ, zero, suc, Bool, true, false, cond, ◌&&◌, List, [], ◌∷◌, ◌++◌, length, Option, Some, None, refl, sym}
use Rattle.std.proofs.Common.{subst, eqb}
use Rattle.std.specs.Prelude.{nat_lt}
use Rattle.tx_sets.specs.Entries.{Entries, lookup}
use Rattle.tx_machine.specs.Requests as word
use Rattle.tx_machine.specs.Notices as told
use Rattle.tx_machine.proofs.Sets.{put-same}
use Rattle.seq_model.specs.declared.call.Op.{Op}
use Rattle.seq_model.specs.declared.call.Op.TheVariants.{Read, Write}
use Rattle.seq_model.specs.declared.refusal.Refusal.TheVariants as refusal
use Rattle.seq_model.specs.declared.event.Event.{Event}
use Rattle.seq_model.specs.declared.event.Event.TheVariants.{Ask, Step, Starve}
use Rattle.seq_model.specs.declared.event.Request.{Request}
use Rattle.seq_model.specs.declared.event.Request.TheVariants as request
use Rattle.seq_model.specs.declared.limits.TheConstants.{CALL_LIMIT}
use Rattle.tx_machine.specs.Boosted.{TakeGate, PutGate, GoHome, is_none}
use Rattle.replay_log.specs.Contents.{CollectionCall, CallWithOutcome, content}
use Rattle.replay_log.specs.Pieces.{piece_at, covers_at}
use Rattle.replay_log.specs.Worlds.{World, Seat, Stage, Idle, Beginning, Open, Locking, Releasing, Closing, Cancelling, Leaving, Reading}
use Rattle.replay_log.specs.Worlds.{Trying, Copying, Loading, Gating, Ready, Storing, Homing, Returning, After, has_room, with_editions}
use Rattle.replay_log.specs.Worlds.{at_stage, because, seated, acted, asks, moves, actor_of, word_notice, is_leaving, cancels, gives_up}
use Rattle.replay_log.specs.Worlds.{reads, outcome_at, is_fresh, judges, loads, answers, calls_on, if_allowed, ask_op, commits, ask_at}
use Rattle.replay_log.specs.Worlds.{recorded, has_begun, has_read, has_tried, with_piece, sized_by, has_loaded, written_homes, takes_gates}
use Rattle.replay_log.specs.Worlds.{has_locked, goes_home, has_stored, has_released, has_cancelled, step_at, starve_at, more_tries, happens}
use Rattle.replay_log.specs.WorldProgress.{whose, IsQuiet}
use Rattle.replay_log.specs.Guards.{IsAtRest}
use Rattle.replay_log.proofs.ProgressLemmas.{why_answers}

module _ {V : Type 0} where
  abbrev GoesOn : ℕ → After V → Type 0
  GoesOn a r = IsQuiet r.1 → IsAtRest (r.0.seats a).stage → ⊥

  abbrev IsBusy : Stage V → Type 0
  IsBusy stage = IsAtRest stage → ⊥

  seated_busy : (u : World V) (a : ℕ) (x : Seat V) → IsBusy x.stage → IsBusy ((seated u a x).seats a).stage
  seated_busy u a x h = subst (λ (q : Seat V). IsBusy q.stage) (sym (put-same u.seats a x)) h

  same_busy : (u : World V) (a : ℕ) (x : Seat V) (st : Stage V) → u.seats a ≡ x → x.stage ≡ st → IsBusy st → IsBusy (u.seats a).stage
  same_busy u a x st seat at h = subst (λ (q : Seat V). IsBusy q.stage) (sym seat) (subst IsBusy (sym at) h)

  choose_on : (a : ℕ) (b : Bool) (u v : After V) → GoesOn a u → GoesOn a v → GoesOn a (cond b u v)
  choose_on a true u v h g = h
  choose_on a false u v h g = g

  cancels_busy : (u : World V) (a : ℕ) (x : Seat V) → IsBusy ((cancels u a x).seats a).stage
  cancels_busy u a x =
      let v = acted u (asks a word.AskCancel ∷ asks a word.AskAbort ∷ []) in
      elim (is_leaving (actor_of v a).place) as (λ b. IsBusy ((seated v a (at_stage x (cond b Leaving Cancelling))).seats a).stage) [
        | true ↦ seated_busy v a (at_stage x Leaving) (λ h. h)
        | false ↦ seated_busy v a (at_stage x Cancelling) (λ h. h)
      ]

  gives_up_on : (u : World V) (a : ℕ) (x : Seat V) (ks : List ℕ) → GoesOn a (gives_up u a x ks)
  gives_up_on u a x [] = λ _. cancels_busy u a x
  gives_up_on u a x (k ∷ ks) = λ _. seated_busy u a (at_stage x (Returning (k ∷ ks))) (λ h. h)

  -- ---- calls
  fresh_on : (u : World V) (a : ℕ) (x : Seat V) (d : ℕ × ℕ) (v : ℕ) (next : After V) → GoesOn a next → GoesOn a (is_fresh u a x d v next)
  fresh_on u a x d v next h = choose_on a (eqb d.1 v) next _ h (gives_up_on u a (because x (refusal.Stale d.0 d.1 v)) [])

  judges_on : (u : World V) (a : ℕ) (x : Seat V) (o : CallWithOutcome V) (d : ℕ × ℕ) (es : Entries) (next : After V) (r : Option ℕ)
      → GoesOn a next
      → GoesOn a (judges u a x o d es next r)
  judges_on u a x o d es next None h = λ _. seated_busy (acted u (asks a (word.AskRead d.0) ∷ [])) a (at_stage x (Loading o (d ∷ es)))
      (λ g. g)
  judges_on u a x o d es next (Some v) h = fresh_on u a x d v next h

  loads_on : (es : Entries) (u : World V) (a : ℕ) (x : Seat V) (o : CallWithOutcome V) → GoesOn a (loads u a x o es)
  loads_on [] u a x o = λ q. absurd q
  loads_on (d ∷ es) u a x o = judges_on u a x o d es (loads u a x o es) (lookup (actor_of u a).reads d.0) (loads_on es u a x o)

  answers_on : (u : World V) (a : ℕ) (before x : Seat V) (sized o : CallWithOutcome V) (editions : ℕ → ℕ)
      → GoesOn a (answers u a before x sized o editions)
  answers_on u a before x sized o editions =
      let c = content u.words u.blocks in
      choose_on a (has_room (actor_of u a) (c.reads sized) (c.writes sized)) (loads u a x o (with_editions editions (c.reads o))) _
      (loads_on (with_editions editions (c.reads o)) u a x o) (λ q. absurd q)

  calls_on_on : (u : World V) (a : ℕ) (x : Seat V) (asked : CollectionCall V) → GoesOn a (calls_on u a x asked)
  calls_on_on u a x asked =
      choose_on a (x.copied asked.collection (piece_at u.blocks asked)) _ _
      (answers_on u a x x (outcome_at u a asked) (outcome_at u a asked) (u.boosted.shadows a).editions)
      (λ _. seated_busy u a (at_stage x (Trying asked more_tries)) (λ g. g))

  reads_on : (u : World V) (a : ℕ) (x : Seat V) (l : ℕ) (n : told.Notice) → GoesOn a (reads u a x l n)
  reads_on u a x l (told.Number v) = λ q. absurd q
  reads_on u a x l n = λ _. seated_busy (acted u (asks a (word.AskRead l) ∷ [])) a (at_stage x (Reading l)) (λ g. g)

  allowed_on : (u : World V) (a : ℕ) (x : Seat V) (known room : Bool) (next : After V) → GoesOn a next
      → GoesOn a (if_allowed u a x known room next)
  allowed_on u a x known room next h =
      choose_on a known _ _ (choose_on a (nat_lt (length x.calls) CALL_LIMIT && room) next _ h (λ q. absurd q)) (λ q. absurd q)

  op_on : (u : World V) (a : ℕ) (x : Seat V) (t : ℕ) (op : Op V) → GoesOn a (ask_op u a x t op)
  op_on u a x t Read = allowed_on u a x _ _ _ (reads_on u a x t _)
  op_on u a x t (Write v) = allowed_on u a x _ _ _ (λ q. absurd q)
  op_on u a x t op = allowed_on u a x _ _ _ (calls_on_on u a x (record { collection = t; op = op }))

  commits_on : (u : World V) (a : ℕ) (x : Seat V) (es : Entries) → GoesOn a (commits u a x es)
  commits_on u a x [] = λ _. seated_busy (acted u (asks a word.AskClose ∷ [])) a (at_stage x Closing) (λ g. g)
  commits_on u a x (e ∷ es) = λ _. seated_busy (acted u (asks a word.AskLock ∷ [])) a (at_stage x Locking) (λ g. g)

  ask_on : (w : World V) (a : ℕ) (x : Seat V) (st : Stage V) (q : Request V) → GoesOn a (ask_at w a x st q)
  ask_on w a x Idle request.Begin = λ _. seated_busy (acted w (asks a word.AskBegin ∷ [])) a (at_stage x Beginning) (λ g. g)
  ask_on w a x Idle request.BeginRead = λ _. seated_busy (acted w (asks a word.AskBeginRead ∷ [])) a (at_stage x Beginning) (λ g. g)
  ask_on w a x Idle r = λ q. absurd q
  ask_on w a x Open request.Begin = λ q. absurd q
  ask_on w a x Open request.BeginRead = λ q. absurd q
  ask_on w a x Open (request.Call call) = op_on w a x call.target call.op
  ask_on w a x Open request.Commit = commits_on w a x (actor_of w a).writes
  ask_on w a x Open request.Abort = λ _. cancels_busy w a (record x { cause = None })
  ask_on w a x st r = λ q. absurd q

  -- ---- steps
  has_begun_on : (u : World V) (a : ℕ) (x : Seat V) (n : told.Notice) → u.seats a ≡ x → x.stage ≡ Beginning → GoesOn a (has_begun u a x n)
  has_begun_on u a x (told.Begun rv) seat at = λ q. absurd q
  has_begun_on u a x (told.Exhausted clock) seat at = λ q. absurd q
  has_begun_on u a x n seat at = λ _. same_busy u a x Beginning seat at (λ g. g)

  has_read_on : (u : World V) (a : ℕ) (x : Seat V) (l : ℕ) (n : told.Notice) → u.seats a ≡ x → x.stage ≡ Reading l
      → GoesOn a (has_read u a x l n)
  has_read_on u a x l (told.Number v) seat at = λ q. absurd q
  has_read_on u a x l (told.Moved i found) seat at = gives_up_on u a (because x (refusal.Moved i found)) []
  has_read_on u a x l n seat at = λ _. same_busy u a x (Reading l) seat at (λ g. g)

  tried_on : (u : World V) (a : ℕ) (x : Seat V) (free : Bool) (k : ℕ) (got : List ℕ) (again : ℕ → Stage V) (next : Stage V) (tries : ℕ)
      → IsBusy next
      → ((m : ℕ) → IsBusy (again m)) → GoesOn a (has_tried u a x free k got again next tries)
  tried_on u a x free k got again next zero h g =
      choose_on a free _ _ (λ _. seated_busy u a (at_stage x next) h) (gives_up_on u a (because x (refusal.GateBusy k)) got)
  tried_on u a x free k got again next (suc m) h g =
      choose_on a free _ _ (λ _. seated_busy u a (at_stage x next) h) (λ _. seated_busy u a (at_stage x (again m)) (g m))

  takes_busy : (x : Seat V) (got ks : List ℕ) → IsBusy (takes_gates {V = V} got ks)
  takes_busy x got [] = λ g. g
  takes_busy x got (k ∷ ks) = λ g. g

  has_loaded_on : (u : World V) (a : ℕ) (x : Seat V) (o : CallWithOutcome V) (d : ℕ × ℕ) (es : Entries) (n : told.Notice) → u.seats a ≡ x
      → x.stage ≡ Loading o (d ∷ es)
      → GoesOn a (has_loaded u a x o d es n)
  has_loaded_on u a x o d es (told.Number v) seat at = fresh_on u a x d v (loads u a x o es) (loads_on es u a x o)
  has_loaded_on u a x o d es (told.Moved i found) seat at = gives_up_on u a (because x (refusal.Moved i found)) []
  has_loaded_on u a x o d es n seat at = λ _. same_busy u a x (Loading o (d ∷ es)) seat at (λ g. g)

  has_locked_on : (u : World V) (a : ℕ) (x : Seat V) (n : told.Notice) → u.seats a ≡ x → x.stage ≡ Locking → GoesOn a (has_locked u a x n)
  has_locked_on u a x (told.LockedAt wv) seat at = λ _.
      seated_busy u a (record x { stage = takes_gates [] (written_homes u a); wv = wv }) (takes_busy x [] (written_homes u a))
  has_locked_on u a x (told.Busy l found) seat at = gives_up_on u a (because x (refusal.Busy l found)) []
  has_locked_on u a x (told.Invalid l found) seat at = gives_up_on u a (because x (refusal.Invalid l found)) []
  has_locked_on u a x n seat at = λ _. same_busy u a x Locking seat at (λ g. g)

  goes_home_on : (u : World V) (a : ℕ) (x : Seat V) (ks : List ℕ) → GoesOn a (goes_home u a x ks)
  goes_home_on u a x [] = λ _. seated_busy (acted u (asks a word.AskRelease ∷ [])) a (at_stage x Releasing) (λ g. g)
  goes_home_on u a x (k ∷ ks) = λ _. seated_busy u a (at_stage x (Homing (k ∷ ks))) (λ g. g)

  has_stored_on : (u : World V) (a : ℕ) (x : Seat V) (ks : List ℕ) (n : told.Notice) → GoesOn a (has_stored u a x ks n)
  has_stored_on u a x ks told.Stored = goes_home_on u a x ks
  has_stored_on u a x ks n = λ _. seated_busy u a (at_stage x (Storing ks)) (λ g. g)

  has_released_on : (u : World V) (a : ℕ) (x : Seat V) (n : told.Notice) → u.seats a ≡ x → x.stage ≡ Releasing
      → GoesOn a (has_released u a x n)
  has_released_on u a x told.Released seat at = λ q. absurd q
  has_released_on u a x n seat at = λ _. same_busy u a x Releasing seat at (λ g. g)

  has_cancelled_on : (u : World V) (a : ℕ) (x : Seat V) (n : told.Notice) → u.seats a ≡ x → x.stage ≡ Cancelling
      → GoesOn a (has_cancelled u a x n)
  has_cancelled_on u a x told.Cancelled seat at = λ _. seated_busy (acted u (asks a word.AskAbort ∷ [])) a (at_stage x Leaving) (λ g. g)
  has_cancelled_on u a x n seat at = λ _. same_busy u a x Cancelling seat at (λ g. g)

  step_on : (w : World V) (a : ℕ) (x : Seat V) (st : Stage V) → w.seats a ≡ x → x.stage ≡ st → GoesOn a (step_at w a x st)
  step_on w a x Idle seat at = λ q. absurd q
  step_on w a x Open seat at = λ q. absurd q
  step_on w a x Beginning seat at = has_begun_on (acted w (moves a ∷ [])) a x (word_notice w a) seat at
  step_on w a x (Reading l) seat at = has_read_on (acted w (moves a ∷ [])) a x l (word_notice w a) seat at
  step_on w a x (Trying asked tries) seat at =
      tried_on (acted w (TakeGate a asked.collection ∷ [])) a x (is_none (w.boosted.gates asked.collection)) asked.collection []
      (λ n. Trying asked n) (Copying asked) tries
      (λ g. g) (λ m g. g)
  step_on w a x (Copying asked) seat at =
      let u = acted w (PutGate a asked.collection (covers_at w.words w.blocks asked) ∷ []) in
      let o = outcome_at u a asked in
      answers_on u a x (with_piece x asked.collection (piece_at w.blocks asked)) (sized_by u a asked o) o u.boosted.editions
  step_on w a x (Loading o []) seat at = λ _. same_busy w a x (Loading o []) seat at (λ g. g)
  step_on w a x (Loading o (d ∷ es)) seat at = has_loaded_on (acted w (moves a ∷ [])) a x o d es (word_notice w a) seat at
  step_on w a x Locking seat at = has_locked_on (acted w (moves a ∷ [])) a x (word_notice w a) seat at
  step_on w a x (Gating got [] tries) seat at = λ _. same_busy w a x (Gating got [] tries) seat at (λ g. g)
  step_on w a x (Gating got (k ∷ ks) tries) seat at =
      tried_on (acted w (TakeGate a k ∷ [])) a x (is_none (w.boosted.gates k)) k got (λ n. Gating got (k ∷ ks) n)
      (takes_gates (got ++ k ∷ []) ks) tries
      (takes_busy x (got ++ k ∷ []) ks) (λ m g. g)
  step_on w a x (Ready ks) seat at =
      let ready = acted w (asks a word.AskStore ∷ []) in has_stored_on (recorded (acted ready (moves a ∷ [])) a x true x.wv) a x ks
      (word_notice ready a)
  step_on w a x (Storing ks) seat at = has_stored_on (acted w (moves a ∷ [])) a x ks (word_notice w a)
  step_on w a x (Homing []) seat at = λ _. same_busy w a x (Homing []) seat at (λ g. g)
  step_on w a x (Homing (k ∷ ks)) seat at = goes_home_on (acted w (GoHome a k ∷ [])) a x ks
  step_on w a x Releasing seat at = has_released_on (acted w (moves a ∷ [])) a x (word_notice w a) seat at
  step_on w a x Closing seat at = λ q. absurd q
  step_on w a x (Returning []) seat at = λ _. same_busy w a x (Returning []) seat at (λ g. g)
  step_on w a x (Returning (k ∷ ks)) seat at = gives_up_on (acted w (PutGate a k (λ l. false) ∷ [])) a x ks
  step_on w a x Cancelling seat at = has_cancelled_on (acted w (moves a ∷ [])) a x (word_notice w a) seat at
  step_on w a x Leaving seat at = λ q. absurd (why_answers V a x.cause q)

  -- ---- failed allocations
  starve_on : (w : World V) (a : ℕ) (x : Seat V) (st : Stage V) → w.seats a ≡ x → x.stage ≡ st → GoesOn a (starve_at w a x st)
  starve_on w a x Idle seat at = λ q. absurd q
  starve_on w a x Open seat at = λ q. absurd q
  starve_on w a x Beginning seat at = λ q. absurd q
  starve_on w a x (Reading l) seat at = gives_up_on w a (because x refusal.Memory) []
  starve_on w a x (Trying asked tries) seat at = gives_up_on w a (because x refusal.Memory) []
  starve_on w a x (Copying asked) seat at = gives_up_on w a (because x refusal.Memory) (asked.collection ∷ [])
  starve_on w a x (Loading o es) seat at = gives_up_on w a (because x refusal.Memory) []
  starve_on w a x Locking seat at = gives_up_on w a (because x refusal.Memory) []
  starve_on w a x (Gating got ks tries) seat at = gives_up_on w a (because x refusal.Memory) got
  starve_on w a x (Ready ks) seat at = gives_up_on w a (because x refusal.Memory) ks
  starve_on w a x Closing seat at = gives_up_on w a (because x refusal.Memory) []
  starve_on w a x (Storing ks) seat at = λ _. same_busy w a x (Storing ks) seat at (λ g. g)
  starve_on w a x (Homing ks) seat at = λ _. same_busy w a x (Homing ks) seat at (λ g. g)
  starve_on w a x Releasing seat at = λ _. same_busy w a x Releasing seat at (λ g. g)
  starve_on w a x (Returning ks) seat at = λ _. same_busy w a x (Returning ks) seat at (λ g. g)
  starve_on w a x Cancelling seat at = λ _. same_busy w a x Cancelling seat at (λ g. g)
  starve_on w a x Leaving seat at = λ _. same_busy w a x Leaving seat at (λ g. g)

  pub step_due : (w : World V) (e : Event V) → IsQuiet (happens w e).1 → IsAtRest ((happens w e).0.seats (whose e)).stage → ⊥
  step_due w (Ask a q) = ask_on w a (w.seats a) (w.seats a).stage q
  step_due w (Step a) = step_on w a (w.seats a) (w.seats a).stage refl refl
  step_due w (Starve a) = starve_on w a (w.seats a) (w.seats a).stage refl refl
