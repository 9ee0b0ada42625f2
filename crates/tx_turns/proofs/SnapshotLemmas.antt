-- The number at which a transaction has begun remains with it, and so do its calls, until one more is answered: each function of the
-- definitions seats its actor with them, until nobody is there any more.
use Rattle.std.proofs.Common.{◌≡◌, ◌⊎◌, ℕ, zero, suc, Bool, true, false, cond, ◌&&◌, eqb, List, [], ◌∷◌, ◌++◌, length, Option, Some, None}
use Rattle.std.proofs.Common.{inl, inr, refl, sym, ap, ◌∙◌, subst}
use Rattle.std.specs.Prelude.{nat_lt}
use Rattle.tx_sets.specs.Entries.{Entries, lookup}
use Rattle.tx_machine.specs.Requests as word
use Rattle.tx_machine.specs.Notices as told
use Rattle.tx_machine.proofs.Sets.{put-same}
use Rattle.seq_model.specs.declared.call.Call.{Call}
use Rattle.seq_model.specs.declared.call.Op.{Op}
use Rattle.seq_model.specs.declared.call.Op.TheVariants.{Read, Write}
use Rattle.seq_model.specs.declared.call.Reply.{Reply}
use Rattle.seq_model.specs.declared.call.Reply.TheVariants as reply
use Rattle.seq_model.specs.declared.event.Answer.TheVariants as answer
use Rattle.seq_model.specs.declared.event.Event.TheVariants.{Ask, Starve}
use Rattle.seq_model.specs.declared.event.Notice.{Notice}
use Rattle.seq_model.specs.declared.event.Notice.TheVariants.{Quiet, Answered, Refused}
use Rattle.seq_model.specs.declared.event.Request.{Request}
use Rattle.seq_model.specs.declared.event.Request.TheVariants as request
use Rattle.seq_model.specs.declared.limits.TheConstants.{CALL_LIMIT}
use Rattle.seq_model.specs.declared.refusal.Refusal.TheVariants as refusal
use Rattle.tx_machine.specs.Boosted.{Accept, GoHome, PutGate, TakeGate, is_none}
use Rattle.replay_log.specs.Contents.{CollectionCall, CallWithOutcome as Outcomes, content}
use Rattle.replay_log.specs.Pieces.{covers_at, piece_at}
use Rattle.replay_log.specs.Worlds.{World, Seat, Stage, Idle, Beginning, Open, Locking, Releasing, Closing, Cancelling, Leaving, Reading}
use Rattle.replay_log.specs.Worlds.{Trying, Copying, Loading, Gating, Ready, Storing, Homing, Returning, After, has_room, sized_by}
use Rattle.replay_log.specs.Worlds.{with_editions, at_stage, because, seated, acted, asks, moves, actor_of, word_notice, no_one, is_leaving}
use Rattle.replay_log.specs.Worlds.{gives_up, with_call, replied, reads, outcome_at, reply_of, call_of, is_fresh, judges, loads, answers}
use Rattle.replay_log.specs.Worlds.{calls_on, if_allowed, ask_at, ask_op, commits, happens, recorded, has_read, has_tried, with_piece}
use Rattle.replay_log.specs.Worlds.{has_loaded, takes_gates, written_homes, has_locked, goes_home, has_stored, has_released}
use Rattle.replay_log.specs.Worlds.{has_cancelled, starve_at, step_at, more_tries}
use Rattle.actor_laws.specs.KnownStages.{Begins, Rests, known_stage, known_stage_at}
use Rattle.tx_turns.specs.Driven.{MayWant}

module _ {V : Type 0} where
  -- it has begun at the same number, and made the same calls
  abbrev pub Same : Seat V → Seat V → Type 0
  Same was y = (y.rv ≡ was.rv) × (y.calls ≡ was.calls)

  -- and so it is, unless a call was answered, or nobody is there any more
  abbrev pub Keeps : Seat V → Seat V → Type 0
  Keeps was y = Same was y ⊎ (((y.rv ≡ was.rv) × (y.stage ≡ Open)) ⊎ (known_stage y ≡ Rests))

  module _ (a : ℕ) (was : Seat V) where
    abbrev K : After V → Type 0
    K r = Keeps was (r.0.seats a)

    sits : (u : World V) (x : Seat V) (n : Notice V) → Keeps was x → K (seated u a x, n)
    sits u x n h = subst (Keeps was) (sym (put-same u.seats a x)) h

    leaves : (u : World V) (x : Seat V) (n : Notice V) → u.seats a ≡ x → Same was x → K (u, n)
    leaves u x n seat e = inl (ap (λ (y : Seat V). y.rv) seat ∙ e.0, ap (λ (y : Seat V). y.calls) seat ∙ e.1)

    choose : (b : Bool) (r s : After V) → K r → K s → K (cond b r s)
    choose true r s h g = h
    choose false r s h g = g

    given_up : (u : World V) (x : Seat V) (ks : List ℕ) → Same was x → K (gives_up u a x ks)
    given_up u x [] e =
        let t = acted u (asks a word.AskCancel ∷ asks a word.AskAbort ∷ []) in
        sits t (at_stage x (cond (is_leaving (actor_of t a).place) Leaving Cancelling)) Quiet (inl e)
    given_up u x (k ∷ ks) e = sits u (at_stage x (Returning (k ∷ ks))) Quiet (inl e)

    -- ---- a call
    answered : (u : World V) (x : Seat V) (call : Call V) (r : Reply V) → Same was x → K (replied u a x call r)
    answered u x call r e = sits u (with_call x call r) (Answered a (answer.Replied r)) (inr (inl (e.0, refl)))

    fresh : (u : World V) (x : Seat V) (d : ℕ × ℕ) (v : ℕ) (next : After V) → Same was x → K next → K (is_fresh u a x d v next)
    fresh u x d v next e h = choose (eqb d.1 v) next _ h (given_up u (because x (refusal.Stale d.0 d.1 v)) [] e)

    judged : (u : World V) (x : Seat V) (o : Outcomes V) (d : ℕ × ℕ) (es : Entries) (next : After V) (v : Option ℕ) → Same was x → K next
        → K (judges u a x o d es next v)
    judged u x o d es next None e h =
        sits (acted u (asks a (word.AskRead d.0) ∷ [])) (at_stage x (Loading o (d ∷ es))) Quiet (inl e)
    judged u x o d es next (Some v) e h = fresh u x d v next e h

    loaded : (es : Entries) (u : World V) (x : Seat V) (o : Outcomes V) → Same was x → K (loads u a x o es)
    loaded [] u x o e = answered (acted u (Accept a o.asked ∷ [])) x (call_of o) (reply_of o) e
    loaded (d ∷ es) u x o e = judged u x o d es (loads u a x o es) (lookup (actor_of u a).reads d.0) e (loaded es u x o e)

    with_answer : (u : World V) (before x : Seat V) (sized o : Outcomes V) (editions : ℕ → ℕ) → Same was before → Same was x
        → K (answers u a before x sized o editions)
    with_answer u before x sized o editions old e =
        let d = content u.words u.blocks in
        let es = with_editions editions (d.reads o) in
        choose (has_room (actor_of u a) (d.reads sized) (d.writes sized)) (loads u a x o es) _ (loaded es u x o e)
        (sits u (at_stage before Open) (Refused a refusal.TooLong) (inl old))

    allowed : (w : World V) (x : Seat V) (known room : Bool) (next : After V) → w.seats a ≡ x → Same was x → K next
        → K (if_allowed w a x known room next)
    allowed w x known room next seat e h =
        choose known _ _ (choose (nat_lt (length x.calls) CALL_LIMIT && room) next _ h (leaves w x (Refused a refusal.TooLong) seat e))
        (leaves w x (Refused a refusal.NoSuch) seat e)

    called_on : (w : World V) (x : Seat V) (asked : CollectionCall V) → Same was x → K (calls_on w a x asked)
    called_on w x asked e =
        let o = outcome_at w a asked in
        choose (x.copied asked.collection (piece_at w.blocks asked)) (answers w a x x o o (w.boosted.shadows a).editions) _
        (with_answer w x x o o (w.boosted.shadows a).editions e e)
        (sits w (at_stage x (Trying asked more_tries)) Quiet (inl e))

    word_read : (w : World V) (x : Seat V) (l : ℕ) (n : told.Notice) → Same was x → K (reads w a x l n)
    word_read w x l (told.Number v) e =
        answered (acted w (asks a (word.AskRead l) ∷ [])) x (record { target = l; op = Read }) (reply.Number v) e
    word_read w x l n e = sits (acted w (asks a (word.AskRead l) ∷ [])) (at_stage x (Reading l)) Quiet (inl e)

    asked_op : (w : World V) (x : Seat V) (t : ℕ) (op : Op V) → w.seats a ≡ x → Same was x → K (ask_op w a x t op)
    asked_op w x t Read seat e = allowed w x _ _ _ seat e (word_read w x t _ e)
    asked_op w x t (Write v) seat e =
        allowed w x _ _ _ seat e
        (answered (acted w (asks a (word.AskWrite t v) ∷ [])) x (record { target = t; op = Write v }) reply.Done e)
    asked_op w x t op seat e = allowed w x _ _ _ seat e (called_on w x (record { collection = t; op = op }) e)

    has_read_on : (u : World V) (x : Seat V) (l : ℕ) (n : told.Notice) → u.seats a ≡ x → Same was x → K (has_read u a x l n)
    has_read_on u x l (told.Number v) seat e = answered u x (record { target = l; op = Read }) (reply.Number v) e
    has_read_on u x l (told.Moved i found) seat e = given_up u (because x (refusal.Moved i found)) [] e
    has_read_on u x l n seat e = leaves u x Quiet seat e

    has_loaded_on : (u : World V) (x : Seat V) (o : Outcomes V) (d : ℕ × ℕ) (es : Entries) (n : told.Notice) → u.seats a ≡ x → Same was x
        → K (has_loaded u a x o d es n)
    has_loaded_on u x o d es (told.Number v) seat e = fresh u x d v (loads u a x o es) e (loaded es u x o e)
    has_loaded_on u x o d es (told.Moved i found) seat e = given_up u (because x (refusal.Moved i found)) [] e
    has_loaded_on u x o d es n seat e = leaves u x Quiet seat e

    tried : (u : World V) (x : Seat V) (free : Bool) (k : ℕ) (got : List ℕ) (again : ℕ → Stage V) (next : Stage V) (tries : ℕ) → Same was x
        → K (has_tried u a x free k got again next tries)
    tried u x free k got again next zero e =
        choose free _ _ (sits u (at_stage x next) Quiet (inl e)) (given_up u (because x (refusal.GateBusy k)) got e)
    tried u x free k got again next (suc n) e =
        choose free _ _ (sits u (at_stage x next) Quiet (inl e)) (sits u (at_stage x (again n)) Quiet (inl e))

    -- ---- a commit, and an end
    committing : (w : World V) (x : Seat V) (es : Entries) → Same was x → K (commits w a x es)
    committing w x [] e = sits (acted w (asks a word.AskClose ∷ [])) (at_stage x Closing) Quiet (inl e)
    committing w x (d ∷ es) e = sits (acted w (asks a word.AskLock ∷ [])) (at_stage x Locking) Quiet (inl e)

    locked : (u : World V) (x : Seat V) (n : told.Notice) → u.seats a ≡ x → Same was x → K (has_locked u a x n)
    locked u x (told.LockedAt wv) seat e =
        sits u (record x { stage = takes_gates [] (written_homes u a); wv = wv }) Quiet (inl e)
    locked u x (told.Busy l found) seat e = given_up u (because x (refusal.Busy l found)) [] e
    locked u x (told.Invalid l found) seat e = given_up u (because x (refusal.Invalid l found)) [] e
    locked u x n seat e = leaves u x Quiet seat e

    home : (u : World V) (x : Seat V) (ks : List ℕ) → Same was x → K (goes_home u a x ks)
    home u x [] e = sits (acted u (asks a word.AskRelease ∷ [])) (at_stage x Releasing) Quiet (inl e)
    home u x (k ∷ ks) e = sits u (at_stage x (Homing (k ∷ ks))) Quiet (inl e)

    stored : (u : World V) (x : Seat V) (ks : List ℕ) (n : told.Notice) → Same was x → K (has_stored u a x ks n)
    stored u x ks told.Stored e = home u x ks e
    stored u x ks n e = sits u (at_stage x (Storing ks)) Quiet (inl e)

    released : (u : World V) (x : Seat V) (n : told.Notice) → u.seats a ≡ x → Same was x → K (has_released u a x n)
    released u x told.Released seat e = sits u no_one (Answered a (answer.Committed x.wv)) (inr (inr refl))
    released u x n seat e = leaves u x Quiet seat e

    cancelled : (u : World V) (x : Seat V) (n : told.Notice) → u.seats a ≡ x → Same was x → K (has_cancelled u a x n)
    cancelled u x told.Cancelled seat e = sits (acted u (asks a word.AskAbort ∷ [])) (at_stage x Leaving) Quiet (inl e)
    cancelled u x n seat e = leaves u x Quiet seat e

    -- ---- each step but that of a begin
    stepped : (w : World V) (x : Seat V) (st : Stage V) → w.seats a ≡ x → (known_stage_at x.calls st ≡ Begins → ⊥) → Same was x
        → K (step_at w a x st)
    stepped w x Idle seat isnt e = leaves w x (Refused a refusal.NoTransaction) seat e
    stepped w x Open seat isnt e = leaves w x (Refused a refusal.NoTransaction) seat e
    stepped w x Beginning seat isnt e = absurd (isnt refl)
    stepped w x (Reading l) seat isnt e = has_read_on (acted w (moves a ∷ [])) x l (word_notice w a) seat e
    stepped w x (Trying asked tries) seat isnt e =
        tried (acted w (TakeGate a asked.collection ∷ [])) x (is_none (w.boosted.gates asked.collection)) asked.collection
        [] (λ n. Trying asked n) (Copying asked) tries e
    stepped w x (Copying asked) seat isnt e =
        let u = acted w (PutGate a asked.collection (covers_at w.words w.blocks asked) ∷ []) in
        let o = outcome_at u a asked in
        with_answer u x (with_piece x asked.collection (piece_at u.blocks asked)) (sized_by u a asked o) o u.boosted.editions e e
    stepped w x (Loading o []) seat isnt e = leaves w x Quiet seat e
    stepped w x (Loading o (d ∷ es)) seat isnt e = has_loaded_on (acted w (moves a ∷ [])) x o d es (word_notice w a) seat e
    stepped w x Locking seat isnt e = locked (acted w (moves a ∷ [])) x (word_notice w a) seat e
    stepped w x (Gating got [] tries) seat isnt e = leaves w x Quiet seat e
    stepped w x (Gating got (k ∷ ks) tries) seat isnt e =
        tried (acted w (TakeGate a k ∷ [])) x (is_none (w.boosted.gates k)) k got (λ n. Gating got (k ∷ ks) n)
        (takes_gates (got ++ k ∷ []) ks) tries e
    stepped w x (Ready ks) seat isnt e =
        let ready = acted w (asks a word.AskStore ∷ []) in
        stored (recorded (acted ready (moves a ∷ [])) a x true x.wv) x ks (word_notice ready a) e
    stepped w x (Storing ks) seat isnt e = stored (acted w (moves a ∷ [])) x ks (word_notice w a) e
    stepped w x (Homing []) seat isnt e = leaves w x Quiet seat e
    stepped w x (Homing (k ∷ ks)) seat isnt e = home (acted w (GoHome a k ∷ [])) x ks e
    stepped w x Releasing seat isnt e = released (acted w (moves a ∷ [])) x (word_notice w a) seat e
    stepped w x Closing seat isnt e =
        sits (recorded (acted w (moves a ∷ [])) a x false x.rv) no_one (Answered a (answer.Committed x.rv)) (inr (inr refl))
    stepped w x (Returning []) seat isnt e = leaves w x Quiet seat e
    stepped w x (Returning (k ∷ ks)) seat isnt e = given_up (acted w (PutGate a k (λ l. false) ∷ [])) x ks e
    stepped w x Cancelling seat isnt e = cancelled (acted w (moves a ∷ [])) x (word_notice w a) seat e
    stepped w x Leaving seat isnt e = subst (Keeps was) (sym (put-same w.seats a no_one)) (inr (inr refl))

    -- ---- and each request of an open transaction
    requested : (w : World V) (x : Seat V) (q : Request V) → w.seats a ≡ x → Same was x → K (ask_at w a x Open q)
    requested w x request.Begin seat e = leaves w x (Refused a refusal.NotIdle) seat e
    requested w x request.BeginRead seat e = leaves w x (Refused a refusal.NotIdle) seat e
    requested w x (request.Call call) seat e = asked_op w x call.target call.op seat e
    requested w x request.Commit seat e = committing w x (actor_of w a).writes e
    requested w x request.Abort seat e = given_up w (record x { cause = None }) [] e

  -- so does a failed allocation, where a request is aborted for it
  starved : (w : World V) (a : ℕ) (st : Stage V) → MayWant st → Keeps (w.seats a) ((starve_at w a (w.seats a) st).0.seats a)
  starved w a st wants = by st wants
    where
      x : Seat V
      x = because (w.seats a) refusal.Memory

      by : (st : Stage V) → MayWant st → Keeps (w.seats a) ((starve_at w a (w.seats a) st).0.seats a)
      by (Trying asked tries) h = given_up a (w.seats a) w x [] (refl, refl)
      by (Copying asked) h = given_up a (w.seats a) w x (asked.collection ∷ []) (refl, refl)
      by (Loading o left) h = given_up a (w.seats a) w x [] (refl, refl)
      by (Gating got ks tries) h = given_up a (w.seats a) w x got (refl, refl)
      by (Ready ks) h = given_up a (w.seats a) w x ks (refl, refl)
      by (Homing []) h = absurd h
      by (Homing (k ∷ ks)) h = absurd h
      by (Returning []) h = absurd h
      by (Returning (k ∷ ks)) h = absurd h
      by st h = absurd h

  pub starves_keep : (w : World V) (a : ℕ) → MayWant (w.seats a).stage → Keeps (w.seats a) ((happens w (Starve a)).0.seats a)
  starves_keep w a wants = starved w a (w.seats a).stage wants

  pub steps_keep : (w : World V) (a : ℕ) → (known_stage (w.seats a) ≡ Begins → ⊥) → let r = step_at w a (w.seats a) (w.seats a).stage in
      Keeps (w.seats a) (r.0.seats a)
  steps_keep w a isnt = stepped a (w.seats a) w (w.seats a) (w.seats a).stage refl isnt (refl, refl)

  pub asks_keep : (w : World V) (a : ℕ) (q : Request V) → (w.seats a).stage ≡ Open → Keeps (w.seats a) ((happens w (Ask a q)).0.seats a)
  asks_keep w a q at =
      let x = w.seats a in
      subst (λ (st : Stage V). Keeps x ((ask_at w a x st q).0.seats a)) (sym at) (requested a x w x q refl (refl, refl))
