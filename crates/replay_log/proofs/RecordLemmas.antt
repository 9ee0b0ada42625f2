-- What an event leaves of the records and of its actor's seat. Only the first value store of a commit and the last load of a reader record,
-- and what they record are the calls that the seat has then. A request, a failed allocation and any other step leave the records; what they
-- begin is not committed, and if it tries a gate it is the first try. So whoever has committed and not ended yet has a record of its own,
-- under its number; and since the records are in commit order, and no two writers share a number, the half-done commits stand in it once
-- each, rising.
use Rattle.std.proofs.Common.{◌≡◌, ℕ, zero, suc, ◌<◌, Bool, true, false, cond, ◌&&◌, List, [], ◌∷◌, ◌++◌, length, Option, Some, None, ◌⊎◌}
use Rattle.std.proofs.Common.{inl, inr, refl, sym, ◌∙◌, ap, subst, true≢false, eqb, eq-eqb, eqb-true, ne_eqb, ltb-true}
use Rattle.std.specs.Prelude.{nat_lt}
use Rattle.std.proofs.lemmas.Bool.{cases_eq, cond_both, cond-true, cond-false}
use Rattle.tx_sets.specs.Entries.{Entries, lookup}
use Rattle.tx_machine.specs.Requests as word
use Rattle.tx_machine.specs.Notices as told
use Rattle.tx_machine.proofs.Sets.{put-same}
use Rattle.seq_model.specs.declared.call.Op.{Op}
use Rattle.seq_model.specs.declared.call.Op.TheVariants.{Read, Write}
use Rattle.seq_model.specs.declared.call.Reply.TheVariants as reply
use Rattle.seq_model.specs.declared.held.Held.{Held}
use Rattle.seq_model.specs.declared.record.Record.{Record}
use Rattle.seq_model.specs.declared.refusal.Refusal.TheVariants as refusal
use Rattle.seq_model.specs.declared.event.Event.{Event}
use Rattle.seq_model.specs.declared.event.Event.TheVariants.{Ask, Step, Starve}
use Rattle.seq_model.specs.declared.event.Request.{Request}
use Rattle.seq_model.specs.declared.event.Request.TheVariants as request
use Rattle.seq_model.specs.declared.limits.TheConstants.{CALL_LIMIT}
use Rattle.seq_model.specs.Runs.{insert_record, comes_before, NoneComesBefore, IsInCommitOrder}
use Rattle.tx_machine.specs.Content.{has}
use Rattle.tx_machine.specs.Boosted.{TakeGate, PutGate, Accept, GoHome, is_none}
use Rattle.replay_log.specs.Contents.{Block, CollectionCall, CallWithOutcome, content}
use Rattle.replay_log.specs.Pieces.{piece_at, covers_at}
use Rattle.replay_log.specs.Worlds.{World, Seat, Stage, Idle, Beginning, Open, Locking, Releasing, Closing, Cancelling, Leaving, Reading}
use Rattle.replay_log.specs.Worlds.{Trying, Copying, Loading, Gating, Ready, Storing, Homing, Returning, After, has_room, sized_by}
use Rattle.replay_log.specs.Worlds.{with_editions, at_stage, because, seated, acted, asks, moves, actor_of, word_notice, no_one, is_leaving}
use Rattle.replay_log.specs.Worlds.{gives_up, with_call, reads, outcome_at, reply_of, call_of, is_fresh, judges, loads, answers, calls_on}
use Rattle.replay_log.specs.Worlds.{if_allowed, ask_op, commits, ask_at, recorded, has_begun, has_read, has_tried, with_piece, has_loaded}
use Rattle.replay_log.specs.Worlds.{takes_gates, written_homes, has_locked, goes_home, has_stored, has_released, has_cancelled, step_at}
use Rattle.replay_log.specs.Worlds.{starve_at, happens, run, opened, is_half_done, half_in, half, more_tries}
use Rattle.replay_log.specs.WorldSerial.{HasWritten, AreAbove, AreRising, AreHalfDone}
use Rattle.replay_log.specs.WorldTraces.{committed_by, with_record}
use Rattle.replay_log.specs.WorldProgress.{whose}
use Rattle.replay_log.proofs.RequestLemmas.{happens_by}

three : (a b c : Bool) → (a && (b && c)) ≡ true → (a ≡ true) × (b ≡ true) × (c ≡ true)
three true true c h = (refl, refl, h)
three true false c h = absurd (true≢false (sym h))
three false b c h = absurd (true≢false (sym h))

module _ {V : Type 0} where
  -- nothing is committed at this stage, and of a gate that it tries this is the first try
  abbrev pub IsAhead : Stage V → Type 0
  IsAhead (Trying asked tries) = tries ≡ more_tries
  IsAhead (Gating got [] tries) = Unit {0}
  IsAhead (Gating got (k ∷ ks) tries) = tries ≡ more_tries
  IsAhead (Storing ks) = ⊥
  IsAhead (Homing ks) = ⊥
  IsAhead Releasing = ⊥
  IsAhead st = Unit {0}

  -- the records of u are these, and this is so of the seat of a
  pub record Leaves (a : ℕ) (rs : List (ℕ × Record V)) (P : Seat V → Type 0) (u : World V) : Type 0 where
    pub records : u.records ≡ rs
    pub seat : P (u.seats a)

  sits : (u : World V) (a : ℕ) (P : Seat V → Type 0) (x : Seat V) → P x → Leaves a u.records P (seated u a x)
  sits u a P x h = record { records = refl; seat = subst P (sym (put-same u.seats a x)) h }

  stays : (u : World V) (a : ℕ) (P : Seat V → Type 0) (x : Seat V) → u.seats a ≡ x → P x → Leaves a u.records P u
  stays u a P x e h = record { records = refl; seat = subst P (sym e) h }

  choose_leaves : (a : ℕ) (rs : List (ℕ × Record V)) (P : Seat V → Type 0) (b : Bool) (r s : After V) → Leaves a rs P r.0
      → Leaves a rs P s.0
      → Leaves a rs P (cond b r s).0
  choose_leaves a rs P true r s h g = h
  choose_leaves a rs P false r s h g = g

  -- ---- what leaves the records, and begins nothing that is committed
  abbrev pub AtAhead : Seat V → Type 0
  AtAhead x = IsAhead x.stage

  abbrev Begins : ℕ → World V → After V → Type 0
  Begins a u r = Leaves a u.records AtAhead r.0

  gives_up_begins : (u : World V) (a : ℕ) (x : Seat V) (ks : List ℕ) → Begins a u (gives_up u a x ks)
  gives_up_begins u a x [] =
      let t = acted u (asks a word.AskCancel ∷ asks a word.AskAbort ∷ []) in
      sits t a AtAhead (at_stage x (cond (is_leaving (actor_of t a).place) Leaving Cancelling)) (by (is_leaving (actor_of t a).place))
    where
      by : (b : Bool) → IsAhead (cond b Leaving Cancelling)
      by true = tt
      by false = tt
  gives_up_begins u a x (k ∷ ks) = sits u a AtAhead (at_stage x (Returning (k ∷ ks))) tt

  fresh_begins : (u : World V) (a : ℕ) (x : Seat V) (d : ℕ × ℕ) (v : ℕ) (next : After V) → Begins a u next
      → Begins a u (is_fresh u a x d v next)
  fresh_begins u a x d v next h =
      choose_leaves a u.records AtAhead (eqb d.1 v) next _ h (gives_up_begins u a (because x (refusal.Stale d.0 d.1 v)) [])

  judges_begins : (u : World V) (a : ℕ) (x : Seat V) (o : CallWithOutcome V) (d : ℕ × ℕ) (es : Entries) (next : After V) (r : Option ℕ)
      → Begins a u next
      → Begins a u (judges u a x o d es next r)
  judges_begins u a x o d es next None h = sits (acted u (asks a (word.AskRead d.0) ∷ [])) a AtAhead (at_stage x (Loading o (d ∷ es))) tt
  judges_begins u a x o d es next (Some v) h = fresh_begins u a x d v next h

  loads_begins : (es : Entries) (u : World V) (a : ℕ) (x : Seat V) (o : CallWithOutcome V) → Begins a u (loads u a x o es)
  loads_begins [] u a x o = sits (acted u (Accept a o.asked ∷ [])) a AtAhead (with_call x (call_of o) (reply_of o)) tt
  loads_begins (d ∷ es) u a x o = judges_begins u a x o d es (loads u a x o es) (lookup (actor_of u a).reads d.0) (loads_begins es u a x o)

  answers_begins : (u : World V) (a : ℕ) (before x : Seat V) (sized o : CallWithOutcome V) (editions : ℕ → ℕ)
      → Begins a u (answers u a before x sized o editions)
  answers_begins u a before x sized o editions =
      let c = content u.words u.blocks in
      choose_leaves a u.records AtAhead (has_room (actor_of u a) (c.reads sized) (c.writes sized))
      (loads u a x o (with_editions editions (c.reads o))) _
      (loads_begins (with_editions editions (c.reads o)) u a x o) (sits u a AtAhead (at_stage before Open) tt)

  -- ---- requests
  calls_on_begins : (w : World V) (a : ℕ) (x : Seat V) (asked : CollectionCall V) → Begins a w (calls_on w a x asked)
  calls_on_begins w a x asked =
      choose_leaves a w.records AtAhead (x.copied asked.collection (piece_at w.blocks asked)) _ _
      (answers_begins w a x x (outcome_at w a asked) (outcome_at w a asked) (w.boosted.shadows a).editions)
      (sits w a AtAhead (at_stage x (Trying asked more_tries)) refl)

  reads_begins : (w : World V) (a : ℕ) (x : Seat V) (l : ℕ) (n : told.Notice) → Begins a w (reads w a x l n)
  reads_begins w a x l (told.Number v) = sits (acted w (asks a (word.AskRead l) ∷ [])) a AtAhead
      (with_call x (record { target = l; op = Read }) (reply.Number v)) tt
  reads_begins w a x l n = sits (acted w (asks a (word.AskRead l) ∷ [])) a AtAhead (at_stage x (Reading l)) tt

  allowed_begins : (w : World V) (a : ℕ) (x : Seat V) (known room : Bool) (next : After V) → w.seats a ≡ x → x.stage ≡ Open
      → Begins a w next
      → Begins a w (if_allowed w a x known room next)
  allowed_begins w a x known room next seat at h =
      let same = stays w a AtAhead x seat (subst IsAhead (sym at) tt) in
      choose_leaves a w.records AtAhead known _ _
      (choose_leaves a w.records AtAhead (nat_lt (length x.calls) CALL_LIMIT && room) next _ h same) same

  op_begins : (w : World V) (a : ℕ) (x : Seat V) (t : ℕ) (op : Op V) → w.seats a ≡ x → x.stage ≡ Open → Begins a w (ask_op w a x t op)
  op_begins w a x t Read seat at = allowed_begins w a x _ _ _ seat at (reads_begins w a x t _)
  op_begins w a x t (Write v) seat at =
      allowed_begins w a x _ _ _ seat at
      (sits (acted w (asks a (word.AskWrite t v) ∷ [])) a AtAhead (with_call x (record { target = t; op = Write v }) reply.Done) tt)
  op_begins w a x t op seat at = allowed_begins w a x _ _ _ seat at (calls_on_begins w a x (record { collection = t; op = op }))

  commits_begins : (w : World V) (a : ℕ) (x : Seat V) (es : Entries) → Begins a w (commits w a x es)
  commits_begins w a x [] = sits (acted w (asks a word.AskClose ∷ [])) a AtAhead (at_stage x Closing) tt
  commits_begins w a x (e ∷ es) = sits (acted w (asks a word.AskLock ∷ [])) a AtAhead (at_stage x Locking) tt

  -- nothing changes, or something begins
  abbrev pub Kept : ℕ → World V → World V → Type 0
  Kept a w u = (u ≡ w) ⊎ Leaves a w.records AtAhead u

  ask_kept : (w : World V) (a : ℕ) (x : Seat V) (st : Stage V) (q : Request V) → w.seats a ≡ x → x.stage ≡ st
      → Kept a w (ask_at w a x st q).0
  ask_kept w a x Idle request.Begin seat at = inr (sits (acted w (asks a word.AskBegin ∷ [])) a AtAhead (at_stage x Beginning) tt)
  ask_kept w a x Idle request.BeginRead seat at = inr (sits (acted w (asks a word.AskBeginRead ∷ [])) a AtAhead (at_stage x Beginning) tt)
  ask_kept w a x Idle q seat at = inl refl
  ask_kept w a x Open request.Begin seat at = inl refl
  ask_kept w a x Open request.BeginRead seat at = inl refl
  ask_kept w a x Open (request.Call call) seat at = inr (op_begins w a x call.target call.op seat at)
  ask_kept w a x Open request.Commit seat at = inr (commits_begins w a x (actor_of w a).writes)
  ask_kept w a x Open request.Abort seat at = inr (gives_up_begins w a (record x { cause = None }) [])
  ask_kept w a x st q seat at = inl refl

  pub asked_kept : (w : World V) (a : ℕ) (q : Request V) → Kept a w (happens w (Ask a q)).0
  asked_kept w a q = ask_kept w a (w.seats a) (w.seats a).stage q refl refl

  starve_kept : (w : World V) (a : ℕ) (x : Seat V) (st : Stage V) → Kept a w (starve_at w a x st).0
  starve_kept w a x Beginning = inr (sits (acted w (asks a word.AskAbort ∷ [])) a AtAhead no_one tt)
  starve_kept w a x (Reading l) = inr (gives_up_begins w a (because x refusal.Memory) [])
  starve_kept w a x (Trying asked tries) = inr (gives_up_begins w a (because x refusal.Memory) [])
  starve_kept w a x (Copying asked) = inr (gives_up_begins w a (because x refusal.Memory) (asked.collection ∷ []))
  starve_kept w a x (Loading o es) = inr (gives_up_begins w a (because x refusal.Memory) [])
  starve_kept w a x Locking = inr (gives_up_begins w a (because x refusal.Memory) [])
  starve_kept w a x (Gating got ks tries) = inr (gives_up_begins w a (because x refusal.Memory) got)
  starve_kept w a x (Ready ks) = inr (gives_up_begins w a (because x refusal.Memory) ks)
  starve_kept w a x Closing = inr (gives_up_begins w a (because x refusal.Memory) [])
  starve_kept w a x st = inl refl

  pub starved_kept : (w : World V) (a : ℕ) → Kept a w (happens w (Starve a)).0
  starved_kept w a = starve_kept w a (w.seats a) (w.seats a).stage

  kept_records : (w u : World V) (a : ℕ) → Kept a w u → u.records ≡ w.records
  kept_records w u a k = elim k [ inl same ↦ ap (λ (t : World V). t.records) same | inr h ↦ h.records ]

  pub asked_records : (w : World V) (a : ℕ) (q : Request V) → (happens w (Ask a q)).0.records ≡ w.records
  asked_records w a q = kept_records w (happens w (Ask a q)).0 a (asked_kept w a q)

  pub starved_records : (w : World V) (a : ℕ) → (happens w (Starve a)).0.records ≡ w.records
  starved_records w a = kept_records w (happens w (Starve a)).0 a (starved_kept w a)

  -- ---- steps
  -- a commit is under way at this stage from its first value store on, or makes that store
  abbrev pub IsCommitting : Stage V → Type 0
  IsCommitting (Ready ks) = Unit {0}
  IsCommitting (Storing ks) = Unit {0}
  IsCommitting (Homing ks) = Unit {0}
  IsCommitting Releasing = Unit {0}
  IsCommitting st = ⊥

  -- a try that found the gate held leaves a try less
  abbrev pub IsTriedAgain : World V → Stage V → Stage V → Type 0
  IsTriedAgain w (Trying asked (suc n)) st = (st ≡ Trying asked n) × (is_none (w.boosted.gates asked.collection) ≡ false)
  IsTriedAgain w (Gating got (k ∷ ks) (suc n)) st = (st ≡ Gating got (k ∷ ks) n) × (is_none (w.boosted.gates k) ≡ false)
  IsTriedAgain w before st = ⊥

  abbrev pub GoesOn : Seat V → Stage V → Seat V → Type 0
  GoesOn x st y = (y.wv ≡ x.wv) × IsCommitting st × (is_half_done y.stage ≡ true)

  -- what a step at this stage makes of the seat x
  abbrev pub Turns : World V → Seat V → Stage V → Seat V → Type 0
  Turns w x st y = AtAhead y ⊎ (GoesOn x st y ⊎ IsTriedAgain w st y.stage)

  abbrev Stepped : World V → ℕ → Seat V → Stage V → World V → Type 0
  Stepped w a x st u = Leaves a (with_record a (committed_by x st) w.records) (Turns w x st) u

  ahead : (w : World V) (a : ℕ) (x : Seat V) (st : Stage V) (rs : List (ℕ × Record V)) (u : World V) → Leaves a rs AtAhead u
      → Leaves a rs (Turns w x st) u
  ahead w a x st rs u h = record { records = h.records; seat = inl h.seat }

  has_begun_begins : (u : World V) (a : ℕ) (x : Seat V) (n : told.Notice) → u.seats a ≡ x → IsAhead x.stage → Begins a u (has_begun u a x n)
  has_begun_begins u a x (told.Begun rv) e h = sits u a AtAhead (record no_one { stage = Open; rv = rv }) tt
  has_begun_begins u a x (told.Exhausted clock) e h = sits u a AtAhead no_one tt
  has_begun_begins u a x n e h = stays u a AtAhead x e h

  has_read_begins : (u : World V) (a : ℕ) (x : Seat V) (l : ℕ) (n : told.Notice) → u.seats a ≡ x → IsAhead x.stage
      → Begins a u (has_read u a x l n)
  has_read_begins u a x l (told.Number v) e h = sits u a AtAhead (with_call x (record { target = l; op = Read }) (reply.Number v)) tt
  has_read_begins u a x l (told.Moved i found) e h = gives_up_begins u a (because x (refusal.Moved i found)) []
  has_read_begins u a x l n e h = stays u a AtAhead x e h

  has_loaded_begins : (u : World V) (a : ℕ) (x : Seat V) (o : CallWithOutcome V) (d : ℕ × ℕ) (es : Entries) (n : told.Notice)
      → u.seats a ≡ x
      → IsAhead x.stage
      → Begins a u (has_loaded u a x o d es n)
  has_loaded_begins u a x o d es (told.Number v) e h = fresh_begins u a x d v (loads u a x o es) (loads_begins es u a x o)
  has_loaded_begins u a x o d es (told.Moved i found) e h = gives_up_begins u a (because x (refusal.Moved i found)) []
  has_loaded_begins u a x o d es n e h = stays u a AtAhead x e h

  takes_ahead : (x : Seat V) (got ks : List ℕ) → IsAhead (at_stage x (takes_gates got ks)).stage
  takes_ahead x got [] = tt
  takes_ahead x got (k ∷ ks) = refl

  has_locked_begins : (u : World V) (a : ℕ) (x : Seat V) (n : told.Notice) → u.seats a ≡ x → IsAhead x.stage
      → Begins a u (has_locked u a x n)
  has_locked_begins u a x (told.LockedAt wv) e h =
      sits u a AtAhead (record x { stage = takes_gates [] (written_homes u a); wv = wv }) (takes_ahead x [] (written_homes u a))
  has_locked_begins u a x (told.Busy l found) e h = gives_up_begins u a (because x (refusal.Busy l found)) []
  has_locked_begins u a x (told.Invalid l found) e h = gives_up_begins u a (because x (refusal.Invalid l found)) []
  has_locked_begins u a x n e h = stays u a AtAhead x e h

  has_cancelled_begins : (u : World V) (a : ℕ) (x : Seat V) (n : told.Notice) → u.seats a ≡ x → IsAhead x.stage
      → Begins a u (has_cancelled u a x n)
  has_cancelled_begins u a x told.Cancelled e h = sits (acted u (asks a word.AskAbort ∷ [])) a AtAhead (at_stage x Leaving) tt
  has_cancelled_begins u a x n e h = stays u a AtAhead x e h

  tried_begins : (w u : World V) (a : ℕ) (x : Seat V) (st : Stage V) (free : Bool) (k : ℕ) (got : List ℕ) (again : ℕ → Stage V)
      (next : Stage V)
      (tries : ℕ)
      → IsAhead next → ((n : ℕ) → tries ≡ suc n → free ≡ false → IsTriedAgain w st (again n))
      → Leaves a u.records (Turns w x st) (has_tried u a x free k got again next tries).0
  tried_begins w u a x st true k got again next tries f g = sits u a (Turns w x st) (at_stage x next) (inl f)
  tried_begins w u a x st false k got again next zero f g =
      ahead w a x st u.records _ (gives_up_begins u a (because x (refusal.GateBusy k)) got)
  tried_begins w u a x st false k got again next (suc n) f g = sits u a (Turns w x st) (at_stage x (again n)) (inr (inr (g n refl refl)))

  -- a commit continues under its number
  goes_home_on : (w u : World V) (a : ℕ) (x : Seat V) (st : Stage V) (ks : List ℕ) → IsCommitting st
      → Leaves a u.records (Turns w x st) (goes_home u a x ks).0
  goes_home_on w u a x st [] h = sits (acted u (asks a word.AskRelease ∷ [])) a (Turns w x st) (at_stage x Releasing)
      (inr (inl (refl, h, refl)))
  goes_home_on w u a x st (k ∷ ks) h = sits u a (Turns w x st) (at_stage x (Homing (k ∷ ks))) (inr (inl (refl, h, refl)))

  has_stored_on : (w u : World V) (a : ℕ) (x : Seat V) (st : Stage V) (ks : List ℕ) (n : told.Notice) → IsCommitting st
      → Leaves a u.records (Turns w x st) (has_stored u a x ks n).0
  has_stored_on w u a x st ks told.Stored h = goes_home_on w u a x st ks h
  has_stored_on w u a x st ks n h = sits u a (Turns w x st) (at_stage x (Storing ks)) (inr (inl (refl, h, refl)))

  has_released_on : (w u : World V) (a : ℕ) (x : Seat V) (n : told.Notice) → u.seats a ≡ x → x.stage ≡ Releasing
      → Leaves a u.records (Turns w x Releasing) (has_released u a x n).0
  has_released_on w u a x told.Released e at = sits u a (Turns w x Releasing) no_one (inl tt)
  has_released_on w u a x n e at = stays u a (Turns w x Releasing) x e (inr (inl (refl, tt, ap is_half_done at)))

  step_turns : (w : World V) (a : ℕ) (x : Seat V) (st : Stage V) → w.seats a ≡ x → x.stage ≡ st → Stepped w a x st (step_at w a x st).0
  step_turns w a x Idle seat at = stays w a (Turns w x Idle) x seat (inl (subst IsAhead (sym at) tt))
  step_turns w a x Open seat at = stays w a (Turns w x Open) x seat (inl (subst IsAhead (sym at) tt))
  step_turns w a x Beginning seat at =
      ahead w a x Beginning w.records _ (has_begun_begins (acted w (moves a ∷ [])) a x (word_notice w a) seat (subst IsAhead (sym at) tt))
  step_turns w a x (Reading l) seat at =
      ahead w a x (Reading l) w.records _
      (has_read_begins (acted w (moves a ∷ [])) a x l (word_notice w a) seat (subst IsAhead (sym at) tt))
  step_turns w a x (Trying asked tries) seat at =
      tried_begins w (acted w (TakeGate a asked.collection ∷ [])) a x (Trying asked tries)
      (is_none (w.boosted.gates asked.collection)) asked.collection []
      (λ n. Trying asked n) (Copying asked) tries tt
      (λ n e lost. subst (λ t. IsTriedAgain w (Trying asked t) (Trying asked n)) (sym e) (refl, lost))
  step_turns w a x (Copying asked) seat at =
      let u = acted w (PutGate a asked.collection (covers_at w.words w.blocks asked) ∷ []) in
      ahead w a x (Copying asked) w.records _
      (answers_begins u a x (with_piece x asked.collection (piece_at w.blocks asked)) (sized_by u a asked (outcome_at u a asked))
      (outcome_at u a asked) u.boosted.editions)
  step_turns w a x (Loading o []) seat at = stays w a (Turns w x (Loading o [])) x seat (inl (subst IsAhead (sym at) tt))
  step_turns w a x (Loading o (d ∷ es)) seat at =
      ahead w a x (Loading o (d ∷ es)) w.records _
      (has_loaded_begins (acted w (moves a ∷ [])) a x o d es (word_notice w a) seat (subst IsAhead (sym at) tt))
  step_turns w a x Locking seat at =
      ahead w a x Locking w.records _ (has_locked_begins (acted w (moves a ∷ [])) a x (word_notice w a) seat (subst IsAhead (sym at) tt))
  step_turns w a x (Gating got [] tries) seat at = stays w a (Turns w x (Gating got [] tries)) x seat (inl (subst IsAhead (sym at) tt))
  step_turns w a x (Gating got (k ∷ ks) tries) seat at =
      tried_begins w (acted w (TakeGate a k ∷ [])) a x (Gating got (k ∷ ks) tries) (is_none (w.boosted.gates k)) k got
      (λ n. Gating got (k ∷ ks) n)
      (takes_gates (got ++ k ∷ []) ks) tries (takes_ahead x (got ++ k ∷ []) ks)
      (λ n e lost. subst (λ t. IsTriedAgain w (Gating got (k ∷ ks) t) (Gating got (k ∷ ks) n)) (sym e) (refl, lost))
  step_turns w a x (Ready ks) seat at =
      let ready = acted w (asks a word.AskStore ∷ []) in
      has_stored_on w (recorded (acted ready (moves a ∷ [])) a x true x.wv) a x (Ready ks) ks (word_notice ready a) tt
  step_turns w a x (Storing ks) seat at = has_stored_on w (acted w (moves a ∷ [])) a x (Storing ks) ks (word_notice w a) tt
  step_turns w a x (Homing []) seat at = stays w a (Turns w x (Homing [])) x seat (inr (inl (refl, tt, ap is_half_done at)))
  step_turns w a x (Homing (k ∷ ks)) seat at = goes_home_on w (acted w (GoHome a k ∷ [])) a x (Homing (k ∷ ks)) ks tt
  step_turns w a x Releasing seat at = has_released_on w (acted w (moves a ∷ [])) a x (word_notice w a) seat at
  step_turns w a x Closing seat at = sits (recorded (acted w (moves a ∷ [])) a x false x.rv) a (Turns w x Closing) no_one (inl tt)
  step_turns w a x (Returning []) seat at = stays w a (Turns w x (Returning [])) x seat (inl (subst IsAhead (sym at) tt))
  step_turns w a x (Returning (k ∷ ks)) seat at =
      ahead w a x (Returning (k ∷ ks)) w.records _ (gives_up_begins (acted w (PutGate a k (λ l. false) ∷ [])) a x ks)
  step_turns w a x Cancelling seat at =
      ahead w a x Cancelling w.records _
      (has_cancelled_begins (acted w (moves a ∷ [])) a x (word_notice w a) seat (subst IsAhead (sym at) tt))
  step_turns w a x Leaving seat at = sits (record (acted w
      (moves a ∷ [])) { aborted = w.aborted ++ record { actor = a; rv = x.rv; calls = x.calls; cause = x.cause } ∷ [] }) a
      (Turns w x Leaving) no_one (inl tt)

  pub stepped_turns : (w : World V) (a : ℕ) → Leaves a (with_record a (committed_by (w.seats a) (w.seats a).stage) w.records)
      (Turns w (w.seats a) (w.seats a).stage)
      (happens w (Step a)).0
  stepped_turns w a = step_turns w a (w.seats a) (w.seats a).stage refl refl

  -- ---- whoever has committed has a record
  abbrev pub HasOwn : ℕ → ℕ → List (ℕ × Record V) → Type 0
  HasOwn a n [] = ⊥
  HasOwn a n (r ∷ rs) = ((r.0 ≡ a) × (r.1.number ≡ n) × (r.1.writes ≡ true)) ⊎ HasOwn a n rs

  own_insert : (a n : ℕ) (q : ℕ × Record V) (rs : List (ℕ × Record V)) → HasOwn a n rs → HasOwn a n (insert_record q rs)
  own_insert a n q [] h = absurd h
  own_insert a n q (r ∷ rs) h =
      elim (comes_before q r) as (λ b. HasOwn a n (cond b (q ∷ r ∷ rs) (r ∷ insert_record q rs))) [
        | true ↦ inr h
        | false ↦ elim h [ inl is ↦ inl is | inr more ↦ inr (own_insert a n q rs more) ]
      ]

  own_new : (a n : ℕ) (q : ℕ × Record V) (rs : List (ℕ × Record V)) → (q.0 ≡ a) × (q.1.number ≡ n) × (q.1.writes ≡ true)
      → HasOwn a n (insert_record q rs)
  own_new a n q [] h = inl h
  own_new a n q (r ∷ rs) h =
      elim (comes_before q r) as (λ b. HasOwn a n (cond b (q ∷ r ∷ rs) (r ∷ insert_record q rs))) [
        | true ↦ inl h
        | false ↦ inr (own_new a n q rs h)
      ]

  own_more : (a : ℕ) (x : Seat V) (st : Stage V) (rs : List (ℕ × Record V)) (b n : ℕ) → HasOwn b n rs
      → HasOwn b n (with_record a (committed_by x st) rs)
  own_more a x (Ready ks) rs b n h = own_insert b n (a, record { number = x.wv; writes = true; calls = x.calls }) rs h
  own_more a x Closing rs b n h = own_insert b n (a, record { number = x.rv; writes = false; calls = x.calls }) rs h
  own_more a x st rs b n h = h

  abbrev pub AllOwn : World V → Type 0
  AllOwn w = (a : ℕ) → is_half_done (w.seats a).stage ≡ true → HasOwn a (w.seats a).wv w.records

  ahead_not : (st : Stage V) → IsAhead st → is_half_done st ≡ true → ⊥
  ahead_not (Storing ks) g h = g
  ahead_not (Homing ks) g h = g
  ahead_not Releasing g h = g
  ahead_not st g h = true≢false (sym h)

  again_not : (w : World V) (st y : Stage V) → IsTriedAgain w st y → is_half_done y ≡ true → ⊥
  again_not w (Trying asked (suc n)) y g h = true≢false (sym h ∙ ap is_half_done g.0)
  again_not w (Gating got (k ∷ ks) (suc n)) y g h = true≢false (sym h ∙ ap is_half_done g.0)
  again_not w st y g h = absurd g

  record_more : (w : World V) (e : Event V) (b n : ℕ) → HasOwn b n w.records → HasOwn b n (happens w e).0.records
  record_more w (Ask a q) b n h = subst (HasOwn b n) (sym (asked_records w a q)) h
  record_more w (Starve a) b n h = subst (HasOwn b n) (sym (starved_records w a)) h
  record_more w (Step a) b n h =
      subst (HasOwn b n) (sym (stepped_turns w a).records) (own_more a (w.seats a) (w.seats a).stage w.records b n h)

  -- a commit that continues has its record, or has it by this step
  committing_own : (w : World V) (a : ℕ) (x : Seat V) (st : Stage V) → IsCommitting st → (is_half_done st ≡ true → HasOwn a x.wv w.records)
      → HasOwn a x.wv (with_record a (committed_by x st) w.records)
  committing_own w a x (Ready ks) h f = own_new a x.wv (a, record { number = x.wv; writes = true; calls = x.calls }) w.records
      (refl, refl, refl)
  committing_own w a x (Storing ks) h f = f refl
  committing_own w a x (Homing ks) h f = f refl
  committing_own w a x Releasing h f = f refl
  committing_own w a x st h f = absurd h

  kept_own : (w u : World V) (a : ℕ) → Kept a w u → AllOwn w → is_half_done (u.seats a).stage ≡ true → HasOwn a (u.seats a).wv u.records
  kept_own w u a k all half = elim k [
    | inl same ↦ subst AllOwn (sym same) all a half
    | inr g ↦ absurd (ahead_not (u.seats a).stage g.seat half)
  ]

  own_seat : (w : World V) (e : Event V) → AllOwn w → is_half_done ((happens w e).0.seats (whose e)).stage ≡ true
      → HasOwn (whose e) ((happens w e).0.seats (whose e)).wv (happens w e).0.records
  own_seat w (Ask a q) all half = kept_own w (happens w (Ask a q)).0 a (asked_kept w a q) all half
  own_seat w (Starve a) all half = kept_own w (happens w (Starve a)).0 a (starved_kept w a) all half
  own_seat w (Step a) all half =
      let x = w.seats a in
      let u = (happens w (Step a)).0 in
      let t = stepped_turns w a in
      elim t.seat [
        | inl g ↦ absurd (ahead_not (u.seats a).stage g half)
        | inr more ↦ elim more [
          | inl on ↦
              subst (λ n. HasOwn a n u.records) (sym on.0)
              (subst (HasOwn a x.wv) (sym t.records) (committing_own w a x x.stage on.1 (all a)))
          | inr again ↦ absurd (again_not w x.stage (u.seats a).stage again half)
        ]
      ]

  own_kept : (w : World V) (e : Event V) → AllOwn w → AllOwn (happens w e).0
  own_kept w e all b half =
      let u = (happens w e).0 in
      elim (cases_eq b (whose e)) [
        | inl is ↦
            subst (λ c. HasOwn c (u.seats c).wv u.records) (sym is)
            (own_seat w e all (subst (λ c. is_half_done (u.seats c).stage ≡ true) is half))
        | inr ne ↦
            let same = (happens_by w e).seats b ne in
            subst (λ (x : Seat V). HasOwn b x.wv u.records) (sym same)
            (record_more w e b (w.seats b).wv (all b (subst (λ (x : Seat V). is_half_done x.stage ≡ true) same half)))
      ]

  own_run : (es : List (Event V)) (w : World V) → AllOwn w → AllOwn (run w es)
  own_run [] w all = all
  own_run (e ∷ es) w all = own_run es (happens w e).0 (own_kept w e all)

  -- ---- the numbers of the half-done commits
  abbrev is_half : (ℕ → Seat V) → ℕ × Record V → Bool
  is_half seats r = r.1.writes && (is_half_done (seats r.0).stage && eqb r.1.number (seats r.0).wv)

  half_parts : (seats : ℕ → Seat V) (r : ℕ × Record V) → is_half seats r ≡ true
      → (r.1.writes ≡ true) × (is_half_done (seats r.0).stage ≡ true) × (eqb r.1.number (seats r.0).wv ≡ true)
  half_parts seats r h = three r.1.writes (is_half_done (seats r.0).stage) (eqb r.1.number (seats r.0).wv) h

  -- a number that is answered is that of a record which is half done
  abbrev IsTold : (ℕ → Seat V) → ℕ → List (ℕ × Record V) → Type 0
  IsTold seats n rs = (r : ℕ × Record V) × (r.1.number ≡ n) × (is_half seats r ≡ true) × HasWritten n rs

  half_told : (seats : ℕ → Seat V) (n : ℕ) (rs : List (ℕ × Record V)) → has (half_in seats rs) n ≡ true → IsTold seats n rs
  half_told seats n [] h = absurd (true≢false (sym h))
  half_told seats n (r ∷ rs) h = by (half_told seats n rs) (is_half seats r) refl h
    where
      later : (has (half_in seats rs) n ≡ true → IsTold seats n rs) → has (half_in seats rs) n ≡ true → IsTold seats n (r ∷ rs)
      later told g = let t = told g in (t.0, t.1, t.2, inr t.3)

      by : (has (half_in seats rs) n ≡ true → IsTold seats n rs) → (b : Bool) → is_half seats r ≡ b
          → has (cond b (r.1.number ∷ half_in seats rs) (half_in seats rs)) n ≡ true → IsTold seats n (r ∷ rs)
      by told false e g = later told g
      by told true e g = elim (cases_eq n r.1.number) [
        | inl same ↦ (r, sym same, e, inl (sym same, (half_parts seats r e).0))
        | inr ne ↦ later told (sym (cond-false (eqb n r.1.number) true (has (half_in seats rs) n) (ne_eqb n r.1.number ne)) ∙ g)
      ]

  half_all : (seats : ℕ → Seat V) (a : ℕ) (rs : List (ℕ × Record V)) → is_half_done (seats a).stage ≡ true → HasOwn a (seats a).wv rs
      → has (half_in seats rs) (seats a).wv ≡ true
  half_all seats a [] half h = absurd h
  half_all seats a (r ∷ rs) half h = elim h [
    | inl own ↦
        (let n = (seats a).wv in
        let number : eqb r.1.number (seats r.0).wv ≡ true = eq-eqb r.1.number (seats r.0).wv (own.1 ∙ ap (λ b. (seats b).wv) (sym own.0)) in
        let at : is_half_done (seats r.0).stage ≡ true = ap (λ b. is_half_done (seats b).stage) own.0 ∙ half in
        let test : is_half seats r ≡ true = ap (λ b. b && (is_half_done (seats r.0).stage && eqb r.1.number (seats r.0).wv)) own.2
        ∙ ap (λ b. b && eqb r.1.number (seats r.0).wv) at ∙ number in
        ap (λ (ns : List ℕ). has ns n) (cond-true (is_half seats r) (r.1.number ∷ half_in seats rs) (half_in seats rs) test)
        ∙ cond-true (eqb n r.1.number) true (has (half_in seats rs) n) (eq-eqb n r.1.number (sym own.1)))
    | inr more ↦
        (let n = (seats a).wv in
        let rest = half_all seats a rs half more in
        cond_both (is_half seats r) (r.1.number ∷ half_in seats rs) (half_in seats rs) (λ (ns : List ℕ). has ns n ≡ true)
        (λ _. cond_both (eqb n r.1.number) true (has (half_in seats rs) n) (λ b. b ≡ true) (λ _. refl) (λ _. rest)) (λ _. rest))
  ]

  -- a writer that does not come before another has a larger number
  above : (r x : ℕ × Record V) → r.1.writes ≡ true → x.1.writes ≡ true → comes_before r x ≡ false → x.1.number < r.1.number
  above r x p q h = by (nat_lt r.1.number x.1.number) (nat_lt x.1.number r.1.number) refl refl
    where
      by : (b c : Bool) → nat_lt r.1.number x.1.number ≡ b → nat_lt x.1.number r.1.number ≡ c → x.1.number < r.1.number
      by b true e f = ltb-true x.1.number r.1.number f
      by true false e f =
          absurd (true≢false (sym (cond-true (nat_lt r.1.number x.1.number) true _ e) ∙ h))
      by false false e f =
          absurd (true≢false (sym (cond-true r.1.writes true _ p) ∙ sym (cond-false (nat_lt x.1.number r.1.number) false _ f)
          ∙ sym (cond-false (nat_lt r.1.number x.1.number) true _ e) ∙ h))

  half_above : (seats : ℕ → Seat V) (x : ℕ × Record V) (rs : List (ℕ × Record V)) → x.1.writes ≡ true → NoneComesBefore x rs
      → AreAbove x.1.number (half_in seats rs)
  half_above seats x [] w h = tt
  half_above seats x (r ∷ rs) w h =
      cond_both (is_half seats r) (r.1.number ∷ half_in seats rs) (half_in seats rs) (AreAbove x.1.number)
      (λ e. (above r x (half_parts seats r e).0 w h.0, half_above seats x rs w h.1)) (λ _. half_above seats x rs w h.1)

  half_rising : (seats : ℕ → Seat V) (rs : List (ℕ × Record V)) → IsInCommitOrder rs → AreRising (half_in seats rs)
  half_rising seats [] h = tt
  half_rising seats (r ∷ rs) h =
      cond_both (is_half seats r) (r.1.number ∷ half_in seats rs) (half_in seats rs) AreRising
      (λ e. (half_above seats r rs (half_parts seats r e).0 h.0, half_rising seats rs h.1)) (λ _. half_rising seats rs h.1)

  pub half_done : (w : World V) → IsInCommitOrder w.records → AllOwn w → AreHalfDone w (half w)
  half_done w order all = record {
    rising = half_rising w.seats w.records order;
    written = λ n h. (half_told w.seats n w.records h).3;
    theirs = λ n h. (
        let t = half_told w.seats n w.records h in
        let r = t.0 in
        let test = half_parts w.seats r t.2 in
        (r.0, test.1, sym (eqb-true r.1.number (w.seats r.0).wv test.2) ∙ t.1)
        );
    all = λ a h. half_all w.seats a w.records h (all a h);
  }

  pub all_own : (blocks : List Block) (clock : ℕ) (values : List ℕ) (held : List (Held V)) (events : List (Event V))
      → AllOwn (run (opened blocks clock values held) events)
  all_own blocks clock values held events = own_run events (opened blocks clock values held) (λ a h. absurd (true≢false (sym h)))
