-- What a client is answered says where its transaction stands. One pass over the functions of the definitions, as for what a transaction
-- follows: each seats its actor at a stage, and answers what goes with the phase of that stage.
use Rattle.std.proofs.Common.{◌≡◌, ℕ, zero, suc, Bool, true, false, cond, ◌&&◌, List, [], ◌∷◌, ◌++◌, length, Option, Some, None}
use Rattle.std.proofs.Common.{refl, sym, ◌∙◌, ap, subst, eqb}
use Rattle.std.specs.Prelude.{nat_lt}
use Rattle.tx_sets.specs.Entries.{Entries, lookup}
use Rattle.tx_machine.specs.Requests as word
use Rattle.tx_machine.specs.Notices as told
use Rattle.tx_machine.proofs.Sets.{put-same}
use Rattle.seq_model.specs.declared.call.Call.{Call}
use Rattle.seq_model.specs.declared.call.Op.{Op}
use Rattle.seq_model.specs.declared.call.Op.TheVariants.{Read, Write}
use Rattle.seq_model.specs.declared.call.Reply.{Reply}
use Rattle.seq_model.specs.declared.call.Reply.TheVariants as reply
use Rattle.seq_model.specs.declared.refusal.Refusal.{Refusal}
use Rattle.seq_model.specs.declared.refusal.Refusal.TheVariants as refusal
use Rattle.seq_model.specs.declared.event.Request.{Request}
use Rattle.seq_model.specs.declared.event.Request.TheVariants as request
use Rattle.seq_model.specs.declared.event.Answer.TheVariants as answer
use Rattle.seq_model.specs.declared.event.Notice.{Notice}
use Rattle.seq_model.specs.declared.event.Notice.TheVariants.{Quiet, Answered, Refused}
use Rattle.seq_model.specs.declared.limits.TheConstants.{CALL_LIMIT}
use Rattle.tx_machine.specs.Boosted.{TakeGate, PutGate, Accept, GoHome, is_none}
use Rattle.replay_log.specs.Contents.{CollectionCall, CallWithOutcome as Outcomes, content}
use Rattle.replay_log.specs.Pieces.{piece_at, covers_at}
use Rattle.replay_log.specs.Worlds.{World, Seat, Stage, Idle, Beginning, Open, Locking, Releasing, Closing, Cancelling, Leaving, Reading}
use Rattle.replay_log.specs.Worlds.{Trying, Copying, Loading, Gating, Ready, Storing, Homing, Returning, After, has_room, sized_by}
use Rattle.replay_log.specs.Worlds.{with_editions, at_stage, because, seated, acted, asks, moves, actor_of, word_notice, no_one, is_leaving}
use Rattle.replay_log.specs.Worlds.{gives_up, with_call, replied, reads, outcome_at, reply_of, call_of, is_fresh, judges, loads, answers}
use Rattle.replay_log.specs.Worlds.{calls_on, if_allowed, ask_op, commits, ask_at, recorded, has_begun, has_read, has_tried, with_piece}
use Rattle.replay_log.specs.Worlds.{has_loaded, takes_gates, written_homes, has_locked, goes_home, has_stored, has_released, has_cancelled}
use Rattle.replay_log.specs.Worlds.{why, step_at, more_tries}
use Rattle.replay_log.specs.WorldReplies.{as_call}
use Rattle.replay_log.specs.WorldTraces.{committed_by}
use Rattle.std.proofs.Common.{inl, inr}
use Rattle.std.specs.Prelude.{is_some}
use Rattle.actor_laws.specs.KnownStages.{AskMoves, AsksMove, CallMoves, KnownStage, StepMoves, StepsMove, known_stage, known_stage_at}
use Rattle.actor_laws.specs.KnownStages.{Rests, Begins, Stands, Calls, Commits, Committed, Ends}

why_on : (V : Type 0) (a : ℕ) (cause : Option Refusal) → StepMoves {V = V} Ends false (why a cause) Rests
why_on V a None = refl
why_on V a (Some r) = refl

module _ {V : Type 0} where
  -- the seat of a has this, once this is answered of it
  abbrev Turns : (Notice V → KnownStage V → Type 0) → ℕ → After V → Type 0
  Turns M a r = M r.1 (known_stage (r.0.seats a))

  sits : (M : Notice V → KnownStage V → Type 0) (u : World V) (a : ℕ) (x : Seat V) (n : Notice V) → M n (known_stage x)
      → Turns M a (seated u a x, n)
  sits M u a x n h = subst (λ (y : Seat V). M n (known_stage y)) (sym (put-same u.seats a x)) h

  stays : (M : Notice V → KnownStage V → Type 0) (u : World V) (a : ℕ) (x : Seat V) (st : Stage V) (n : Notice V) → u.seats a ≡ x
      → x.stage ≡ st
      → M n (known_stage_at x.calls st) → Turns M a (u, n)
  stays M u a x st n seat at h =
      subst (λ (y : Seat V). M n (known_stage y)) (sym seat) (subst (λ s. M n (known_stage_at x.calls s)) (sym at) h)

  choose : (M : Notice V → KnownStage V → Type 0) (a : ℕ) (b : Bool) (r s : After V) → Turns M a r → Turns M a s → Turns M a (cond b r s)
  choose M a true r s h g = h
  choose M a false r s h g = g

  given_up : (M : Notice V → KnownStage V → Type 0) (u : World V) (a : ℕ) (x : Seat V) (ks : List ℕ) → M Quiet Ends
      → Turns M a (gives_up u a x ks)
  given_up M u a x [] h =
      let t = acted u (asks a word.AskCancel ∷ asks a word.AskAbort ∷ []) in
      let b = is_leaving (actor_of t a).place in
      sits M t a (at_stage x (cond b Leaving Cancelling)) Quiet (subst (M Quiet) (sym (by b)) h)
    where
      by : (b : Bool) → known_stage_at x.calls (cond b Leaving Cancelling) ≡ Ends
      by true = refl
      by false = refl
  given_up M u a x (k ∷ ks) h = sits M u a (at_stage x (Returning (k ∷ ks))) Quiet h

  -- ---- a call
  module _ (calls : List (Call V × Reply V)) (call : Call V) where
    abbrev M : Notice V → KnownStage V → Type 0
    M = CallMoves calls call

    ended_call : (u : World V) (a : ℕ) (x : Seat V) (ks : List ℕ) → Turns M a (gives_up u a x ks)
    ended_call u a x ks = given_up M u a x ks (inr refl)

    answered : (u : World V) (a : ℕ) (x : Seat V) (r : Reply V) → x.calls ≡ calls → Turns M a (replied u a x call r)
    answered u a x r e =
        sits M u a (with_call x call r) (Answered a (answer.Replied r)) (ap (λ cs. Stands (cs ++ (call, r) ∷ [])) e)

    answered_as : (u : World V) (a : ℕ) (x : Seat V) (c : Call V) (r : Reply V) → x.calls ≡ calls → c ≡ call → Turns M a (replied u a x c r)
    answered_as u a x c r e is = subst (λ d. Turns M a (replied u a x d r)) (sym is) (answered u a x r e)

    fresh : (u : World V) (a : ℕ) (x : Seat V) (d : ℕ × ℕ) (v : ℕ) (next : After V) → Turns M a next → Turns M a (is_fresh u a x d v next)
    fresh u a x d v next h = choose M a (eqb d.1 v) next _ h (ended_call u a (because x (refusal.Stale d.0 d.1 v)) [])

    under_way : (x : Seat V) (st : Stage V) (c : Call V) → x.calls ≡ calls → c ≡ call → known_stage_at x.calls st ≡ Calls x.calls c
        → M Quiet (known_stage_at x.calls st)
    under_way x st c e is at = inl (at ∙ (λ i. Calls (e i) (is i)))

    judged : (u : World V) (a : ℕ) (x : Seat V) (o : Outcomes V) (d : ℕ × ℕ) (es : Entries) (next : After V) (v : Option ℕ)
        → x.calls ≡ calls → call_of o ≡ call → Turns M a next → Turns M a (judges u a x o d es next v)
    judged u a x o d es next None e is h =
        sits M (acted u (asks a (word.AskRead d.0) ∷ [])) a (at_stage x (Loading o (d ∷ es))) Quiet
        (under_way x (Loading o (d ∷ es)) (call_of o) e is refl)
    judged u a x o d es next (Some v) e is h = fresh u a x d v next h

    loaded : (es : Entries) (u : World V) (a : ℕ) (x : Seat V) (o : Outcomes V) → x.calls ≡ calls → call_of o ≡ call
        → Turns M a (loads u a x o es)
    loaded [] u a x o e is = answered_as (acted u (Accept a o.asked ∷ [])) a x (call_of o) (reply_of o) e is
    loaded (d ∷ es) u a x o e is =
        judged u a x o d es (loads u a x o es) (lookup (actor_of u a).reads d.0) e is (loaded es u a x o e is)

    with_answer : (u : World V) (a : ℕ) (before x : Seat V) (sized o : Outcomes V) (editions : ℕ → ℕ) → before.calls ≡ calls
        → x.calls ≡ calls → call_of o ≡ call → Turns M a (answers u a before x sized o editions)
    with_answer u a before x sized o editions old e is =
        let d = content u.words u.blocks in
        let es = with_editions editions (d.reads o) in
        choose M a (has_room (actor_of u a) (d.reads sized) (d.writes sized)) (loads u a x o es) _ (loaded es u a x o e is)
        (sits M u a (at_stage before Open) (Refused a refusal.TooLong) (ap Stands old, tt))

    called_on : (w : World V) (a : ℕ) (x : Seat V) (asked : CollectionCall V) → x.calls ≡ calls → as_call asked ≡ call
        → Turns M a (calls_on w a x asked)
    called_on w a x asked e is =
        let o = outcome_at w a asked in
        choose M a (x.copied asked.collection (piece_at w.blocks asked)) _ _
        (with_answer w a x x o o (w.boosted.shadows a).editions e e is)
        (sits M w a (at_stage x (Trying asked more_tries)) Quiet (under_way x (Trying asked more_tries) (as_call asked) e is refl))

    allowed : (w : World V) (a : ℕ) (x : Seat V) (known room : Bool) (next : After V) → w.seats a ≡ x → x.stage ≡ Open → x.calls ≡ calls
        → Turns M a next → Turns M a (if_allowed w a x known room next)
    allowed w a x known room next seat at e h =
        choose M a known _ _
        (choose M a (nat_lt (length x.calls) CALL_LIMIT && room) next _ h
        (stays M w a x Open (Refused a refusal.TooLong) seat at (ap Stands e, tt)))
        (stays M w a x Open (Refused a refusal.NoSuch) seat at (ap Stands e, tt))

    word_read : (w : World V) (a : ℕ) (x : Seat V) (l : ℕ) (n : told.Notice) → x.calls ≡ calls → record { target = l; op = Read } ≡ call
        → Turns M a (reads w a x l n)
    word_read w a x l (told.Number v) e is =
        answered_as (acted w (asks a (word.AskRead l) ∷ [])) a x (record { target = l; op = Read }) (reply.Number v) e is
    word_read w a x l n e is =
        sits M (acted w (asks a (word.AskRead l) ∷ [])) a (at_stage x (Reading l)) Quiet
        (under_way x (Reading l) (record { target = l; op = Read }) e is refl)

    has_read_on : (u : World V) (a : ℕ) (x : Seat V) (l : ℕ) (n : told.Notice) → u.seats a ≡ x → x.stage ≡ Reading l → x.calls ≡ calls
        → record { target = l; op = Read } ≡ call → Turns M a (has_read u a x l n)
    has_read_on u a x l (told.Number v) seat at e is = answered_as u a x (record { target = l; op = Read }) (reply.Number v) e is
    has_read_on u a x l (told.Moved i found) seat at e is = ended_call u a (because x (refusal.Moved i found)) []
    has_read_on u a x l n seat at e is =
        stays M u a x (Reading l) Quiet seat at (under_way x (Reading l) (record { target = l; op = Read }) e is refl)

    has_loaded_on : (u : World V) (a : ℕ) (x : Seat V) (o : Outcomes V) (d : ℕ × ℕ) (es : Entries) (n : told.Notice) → u.seats a ≡ x
        → x.stage ≡ Loading o (d ∷ es) → x.calls ≡ calls → call_of o ≡ call → Turns M a (has_loaded u a x o d es n)
    has_loaded_on u a x o d es (told.Number v) seat at e is = fresh u a x d v (loads u a x o es) (loaded es u a x o e is)
    has_loaded_on u a x o d es (told.Moved i found) seat at e is = ended_call u a (because x (refusal.Moved i found)) []
    has_loaded_on u a x o d es n seat at e is =
        stays M u a x (Loading o (d ∷ es)) Quiet seat at (under_way x (Loading o (d ∷ es)) (call_of o) e is refl)

    tried_on : (u : World V) (a : ℕ) (x : Seat V) (free : Bool) (k : ℕ) (asked : CollectionCall V) (tries : ℕ) → x.calls ≡ calls
        → as_call asked ≡ call → Turns M a (has_tried u a x free k [] (λ n. Trying asked n) (Copying asked) tries)
    tried_on u a x free k asked zero e is =
        choose M a free _ _ (sits M u a (at_stage x (Copying asked)) Quiet (under_way x (Copying asked) (as_call asked) e is refl))
        (ended_call u a (because x (refusal.GateBusy k)) [])
    tried_on u a x free k asked (suc n) e is =
        choose M a free _ _ (sits M u a (at_stage x (Copying asked)) Quiet (under_way x (Copying asked) (as_call asked) e is refl))
        (sits M u a (at_stage x (Trying asked n)) Quiet (under_way x (Trying asked n) (as_call asked) e is refl))

  asked_op : (w : World V) (a : ℕ) (x : Seat V) (t : ℕ) (op : Op V) → w.seats a ≡ x → x.stage ≡ Open
      → Turns (CallMoves x.calls (record { target = t; op = op })) a (ask_op w a x t op)
  asked_op w a x t Read seat at =
      let c : Call V = record { target = t; op = Read } in
      allowed x.calls c w a x _ _ _ seat at refl (word_read x.calls c w a x t _ refl refl)
  asked_op w a x t (Write v) seat at =
      let c : Call V = record { target = t; op = Write v } in
      allowed x.calls c w a x _ _ _ seat at refl (answered x.calls c (acted w (asks a (word.AskWrite t v) ∷ [])) a x reply.Done refl)
  asked_op w a x t op seat at =
      allowed x.calls (record { target = t; op = op }) w a x _ _ _ seat at refl
      (called_on x.calls (record { target = t; op = op }) w a x (record { collection = t; op = op }) refl refl)

  -- ---- a commit
  abbrev C : List (Call V × Reply V) → Bool → Notice V → KnownStage V → Type 0
  C calls commits = StepMoves (Commits calls) commits

  takes_on : (calls : List (Call V × Reply V)) (got ks : List ℕ) → known_stage_at calls (takes_gates got ks) ≡ Commits calls
  takes_on calls got [] = refl
  takes_on calls got (k ∷ ks) = refl

  locked_on : (u : World V) (a : ℕ) (x : Seat V) (n : told.Notice) → u.seats a ≡ x → x.stage ≡ Locking
      → Turns (C x.calls false) a (has_locked u a x n)
  locked_on u a x (told.LockedAt wv) seat at =
      sits (C x.calls false) u a (record x { stage = takes_gates [] (written_homes u a); wv = wv }) Quiet
      (inl (takes_on x.calls [] (written_homes u a)))
  locked_on u a x (told.Busy l found) seat at = given_up (C x.calls false) u a (because x (refusal.Busy l found)) [] (inr refl)
  locked_on u a x (told.Invalid l found) seat at = given_up (C x.calls false) u a (because x (refusal.Invalid l found)) [] (inr refl)
  locked_on u a x n seat at = stays (C x.calls false) u a x Locking Quiet seat at (inl refl)

  gating_on : (u : World V) (a : ℕ) (x : Seat V) (free : Bool) (k : ℕ) (got : List ℕ) (again : ℕ → Stage V) (next : Stage V) (tries : ℕ)
      → known_stage_at x.calls next ≡ Commits x.calls → ((n : ℕ) → known_stage_at x.calls (again n) ≡ Commits x.calls)
      → Turns (C x.calls false) a (has_tried u a x free k got again next tries)
  gating_on u a x free k got again next zero f g =
      choose (C x.calls false) a free _ _ (sits (C x.calls false) u a (at_stage x next) Quiet (inl f))
      (given_up (C x.calls false) u a (because x (refusal.GateBusy k)) got (inr refl))
  gating_on u a x free k got again next (suc n) f g =
      choose (C x.calls false) a free _ _ (sits (C x.calls false) u a (at_stage x next) Quiet (inl f))
      (sits (C x.calls false) u a (at_stage x (again n)) Quiet (inl (g n)))

  home_on : (M : Notice V → KnownStage V → Type 0) (u : World V) (a : ℕ) (x : Seat V) (ks : List ℕ) → M Quiet Committed
      → Turns M a (goes_home u a x ks)
  home_on M u a x [] h = sits M (acted u (asks a word.AskRelease ∷ [])) a (at_stage x Releasing) Quiet h
  home_on M u a x (k ∷ ks) h = sits M u a (at_stage x (Homing (k ∷ ks))) Quiet h

  stored_on : (M : Notice V → KnownStage V → Type 0) (u : World V) (a : ℕ) (x : Seat V) (ks : List ℕ) (n : told.Notice) → M Quiet Committed
      → Turns M a (has_stored u a x ks n)
  stored_on M u a x ks told.Stored h = home_on M u a x ks h
  stored_on M u a x ks n h = sits M u a (at_stage x (Storing ks)) Quiet h

  released_on : (u : World V) (a : ℕ) (x : Seat V) (n : told.Notice) → u.seats a ≡ x → x.stage ≡ Releasing
      → Turns (StepMoves Committed false) a (has_released u a x n)
  released_on u a x told.Released seat at = sits (StepMoves Committed false) u a no_one (Answered a (answer.Committed x.wv)) refl
  released_on u a x n seat at = stays (StepMoves Committed false) u a x Releasing Quiet seat at refl

  -- ---- a begin and an end
  begun_on : (u : World V) (a : ℕ) (x : Seat V) (n : told.Notice) → u.seats a ≡ x → x.stage ≡ Beginning
      → Turns (StepMoves Begins false) a (has_begun u a x n)
  begun_on u a x (told.Begun rv) seat at =
      sits (StepMoves Begins false) u a (record no_one { stage = Open; rv = rv }) (Answered a (answer.Begun rv)) refl
  begun_on u a x (told.Exhausted clock) seat at =
      sits (StepMoves Begins false) u a no_one (Refused a (refusal.Exhausted clock)) refl
  begun_on u a x n seat at = stays (StepMoves Begins false) u a x Beginning Quiet seat at refl

  abbrev E : Notice V → KnownStage V → Type 0
  E = StepMoves Ends false

  cancelled_on : (u : World V) (a : ℕ) (x : Seat V) (n : told.Notice) → u.seats a ≡ x → x.stage ≡ Cancelling
      → Turns E a (has_cancelled u a x n)
  cancelled_on u a x told.Cancelled seat at = sits E (acted u (asks a word.AskAbort ∷ [])) a (at_stage x Leaving) Quiet refl
  cancelled_on u a x n seat at = stays E u a x Cancelling Quiet seat at refl

  -- ---- each step
  abbrev T : Seat V → Stage V → Notice V → KnownStage V → Type 0
  T x st = StepMoves (known_stage_at x.calls st) (is_some (committed_by x st))

  stepped : (w : World V) (a : ℕ) (x : Seat V) (st : Stage V) → w.seats a ≡ x → x.stage ≡ st → Turns (T x st) a (step_at w a x st)
  stepped w a x Idle seat at = stays (T x Idle) w a x Idle (Refused a refusal.NoTransaction) seat at refl
  stepped w a x Open seat at = stays (T x Open) w a x Open (Refused a refusal.NoTransaction) seat at refl
  stepped w a x Beginning seat at = begun_on (acted w (moves a ∷ [])) a x (word_notice w a) seat at
  stepped w a x (Reading l) seat at =
      has_read_on x.calls (record { target = l; op = Read }) (acted w (moves a ∷ [])) a x l (word_notice w a) seat at refl refl
  stepped w a x (Trying asked tries) seat at =
      tried_on x.calls (as_call asked) (acted w (TakeGate a asked.collection ∷ [])) a x (is_none (w.boosted.gates asked.collection))
      asked.collection asked tries refl refl
  stepped w a x (Copying asked) seat at =
      let u = acted w (PutGate a asked.collection (covers_at w.words w.blocks asked) ∷ []) in
      let o = outcome_at u a asked in
      with_answer x.calls (as_call asked) u a x (with_piece x asked.collection (piece_at w.blocks asked)) (sized_by u a asked o) o
      u.boosted.editions refl refl refl
  stepped w a x (Loading o []) seat at = stays (T x (Loading o [])) w a x (Loading o []) Quiet seat at (inl refl)
  stepped w a x (Loading o (d ∷ es)) seat at =
      has_loaded_on x.calls (call_of o) (acted w (moves a ∷ [])) a x o d es (word_notice w a) seat at refl refl
  stepped w a x Locking seat at = locked_on (acted w (moves a ∷ [])) a x (word_notice w a) seat at
  stepped w a x (Gating got [] tries) seat at = stays (T x (Gating got [] tries)) w a x (Gating got [] tries) Quiet seat at (inl refl)
  stepped w a x (Gating got (k ∷ ks) tries) seat at =
      gating_on (acted w (TakeGate a k ∷ [])) a x (is_none (w.boosted.gates k)) k got (λ n. Gating got (k ∷ ks) n)
      (takes_gates (got ++ k ∷ []) ks) tries (takes_on x.calls (got ++ k ∷ []) ks) (λ n. refl)
  stepped w a x (Ready ks) seat at =
      let ready = acted w (asks a word.AskStore ∷ []) in
      stored_on (C x.calls true) (recorded (acted ready (moves a ∷ [])) a x true x.wv) a x ks (word_notice ready a) refl
  stepped w a x (Storing ks) seat at = stored_on (StepMoves Committed false) (acted w (moves a ∷ [])) a x ks (word_notice w a) refl
  stepped w a x (Homing []) seat at = stays (T x (Homing [])) w a x (Homing []) Quiet seat at refl
  stepped w a x (Homing (k ∷ ks)) seat at = home_on (StepMoves Committed false) (acted w (GoHome a k ∷ [])) a x ks refl
  stepped w a x Releasing seat at = released_on (acted w (moves a ∷ [])) a x (word_notice w a) seat at
  stepped w a x Closing seat at =
      sits (C x.calls true) (recorded (acted w (moves a ∷ [])) a x false x.rv) a no_one (Answered a (answer.Committed x.rv)) refl
  stepped w a x (Returning []) seat at = stays E w a x (Returning []) Quiet seat at refl
  stepped w a x (Returning (k ∷ ks)) seat at = given_up E (acted w (PutGate a k (λ l. false) ∷ [])) a x ks refl
  stepped w a x Cancelling seat at = cancelled_on (acted w (moves a ∷ [])) a x (word_notice w a) seat at
  stepped w a x Leaving seat at =
      subst (λ (y : Seat V). E (why a x.cause) (known_stage y)) (sym (put-same w.seats a no_one)) (why_on V a x.cause)

  pub steps_move : StepsMove V
  steps_move w a = stepped w a (w.seats a) (w.seats a).stage refl refl

  -- ---- each request
  abbrev Q : Seat V → Stage V → Request V → Notice V → KnownStage V → Type 0
  Q x st q = AskMoves (known_stage_at x.calls st) q

  committing : (w : World V) (a : ℕ) (x : Seat V) (es : Entries) → Turns (AskMoves (Stands x.calls) request.Commit) a (commits w a x es)
  committing w a x [] = sits (AskMoves (Stands x.calls) request.Commit) (acted w (asks a word.AskClose ∷ [])) a
      (at_stage x Closing) Quiet refl
  committing w a x (e ∷ es) =
      sits (AskMoves (Stands x.calls) request.Commit) (acted w (asks a word.AskLock ∷ [])) a (at_stage x Locking) Quiet refl

  requested : (w : World V) (a : ℕ) (x : Seat V) (st : Stage V) (q : Request V) → w.seats a ≡ x → x.stage ≡ st
      → Turns (Q x st q) a (ask_at w a x st q)
  requested w a x Idle request.Begin seat at =
      sits (Q x Idle request.Begin) (acted w (asks a word.AskBegin ∷ [])) a (at_stage x Beginning) Quiet refl
  requested w a x Idle request.BeginRead seat at =
      sits (Q x Idle request.BeginRead) (acted w (asks a word.AskBeginRead ∷ [])) a (at_stage x Beginning) Quiet refl
  requested w a x Idle q seat at = stays (Q x Idle q) w a x Idle (Refused a refusal.NoTransaction) seat at refl
  requested w a x Open request.Begin seat at = stays (Q x Open request.Begin) w a x Open (Refused a refusal.NotIdle) seat at refl
  requested w a x Open request.BeginRead seat at = stays (Q x Open request.BeginRead) w a x Open (Refused a refusal.NotIdle) seat at refl
  requested w a x Open (request.Call call) seat at = asked_op w a x call.target call.op seat at
  requested w a x Open request.Commit seat at = committing w a x (actor_of w a).writes
  requested w a x Open request.Abort seat at =
      given_up (AskMoves (Stands x.calls) request.Abort) w a (record x { cause = None }) [] refl
  requested w a x st q seat at = stays (Q x st q) w a x st (Refused a refusal.NotIdle) seat at refl

  pub asks_move : AsksMove V
  asks_move w a q = requested w a (w.seats a) (w.seats a).stage q refl refl
