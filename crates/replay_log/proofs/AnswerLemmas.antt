-- What a refusal says as it is answered. A request that is refused changes nothing; a step is refused where none is next, as a transaction
-- begins at the limit of the clock, as a call that was copied for finds no room, and by its last step, which answers the cause; and nowhere
-- else, so never after the first value store. For a failed allocation a begin is refused at once, and any other request is aborted, but
-- there and while a transaction is being aborted it changes nothing.
use Rattle.std.proofs.Common.{◌≡◌, ℕ, zero, suc, ◌≤◌, Bool, true, false, cond, ◌&&◌, List, [], ◌∷◌, ◌++◌, length, Option, Some, None, inl}
use Rattle.std.proofs.Common.{inr, refl, sym, ◌∙◌, ap, subst, true≢false, arith, eqb}
use Rattle.std.specs.Prelude.{nat_lt}
use Rattle.std.proofs.lemmas.Bool.{cases_eq, cond_both}
use Rattle.std.proofs.lemmas.Bool.Decides.{nat_tests}
use Rattle.tx_sets.specs.Entries.{Entries, lookup}
use Rattle.tx_machine.specs.Actor as machine
use Rattle.tx_machine.specs.Requests as word
use Rattle.tx_machine.specs.World.{World as Words, put}
use Rattle.tx_machine.specs.Notices as told
use Rattle.tx_machine.proofs.Sets.{put-same, put-other}
use Rattle.seq_model.specs.declared.call.Op.{Op}
use Rattle.seq_model.specs.declared.call.Op.TheVariants.{Read, Write}
use Rattle.seq_model.specs.declared.refusal.Refusal.{Refusal}
use Rattle.seq_model.specs.declared.refusal.Refusal.TheVariants as refusal
use Rattle.seq_model.specs.declared.event.Event.TheVariants.{Ask, Step, Starve}
use Rattle.seq_model.specs.declared.event.Request.{Request}
use Rattle.seq_model.specs.declared.event.Request.TheVariants as request
use Rattle.seq_model.specs.declared.event.Notice.{Notice}
use Rattle.seq_model.specs.declared.event.Notice.TheVariants.{Quiet, Refused}
use Rattle.seq_model.specs.declared.limits.TheConstants.{CALL_LIMIT}
use Rattle.seq_model.proofs.LogicLemmas.{nat_lt-false}
use Rattle.tx_machine.specs.Boosted.{TakeGate, PutGate, GoHome, is_none}
use Rattle.replay_log.specs.Contents.{CollectionCall, CallWithOutcome, content}
use Rattle.replay_log.specs.Pieces.{piece_at, covers_at}
use Rattle.replay_log.specs.Worlds.{World, Seat, Stage, Idle, Beginning, Open, Locking, Releasing, Closing, Cancelling, Leaving, Reading}
use Rattle.replay_log.specs.Worlds.{Trying, Copying, Loading, Gating, Ready, Storing, Homing, Returning, After, has_room, with_editions}
use Rattle.replay_log.specs.Worlds.{at_stage, because, seated, acted, asks, moves, actor_of, word_notice, no_one, is_leaving, gives_up}
use Rattle.replay_log.specs.Worlds.{reads}
use Rattle.replay_log.specs.Worlds.{outcome_at, is_fresh, judges, loads, answers, calls_on, if_allowed, ask_op, commits, ask_at, recorded}
use Rattle.replay_log.specs.Worlds.{why, has_begun, has_read, has_tried, with_piece, sized_by, has_loaded, takes_gates, has_locked}
use Rattle.replay_log.specs.Worlds.{goes_home, has_stored, has_released, has_cancelled, step_at, starve_at, is_half_done, happens}
use Rattle.replay_log.specs.WorldRefusals.{is_ending}
use Rattle.replay_log.specs.WorldProgress.{IsQuiet}
use Rattle.replay_log.specs.WorldStill.{Same}
use Rattle.replay_log.specs.WorldAnswers.{IsRefusal, IsRefusedAt, IsStarved, RefusedBy}
use Rattle.replay_log.proofs.SeatLemmas.{StageOk, Linked}
use Rattle.replay_log.proofs.SetLemmas.{put_words}

module _ {V : Type 0} where
  same_world : (w : World V) → Same w w
  same_world w = record { words = refl; blocks = refl; boosted = refl; seats = λ b. refl; records = refl; aborted = refl }

  -- a seat that is put where it stands
  same_seats : (w : World V) (a : ℕ) (x : Seat V) → w.seats a ≡ x → x.stage ≡ Open → Same w (seated w a (at_stage x Open))
  same_seats w a x seat at = record {
    words = refl;
    blocks = refl;
    boosted = refl;
    seats = λ b. elim (cases_eq b a) [
      | inl same ↦
          ap (put w.seats a (at_stage x Open)) same ∙ put-same w.seats a (at_stage x Open) ∙ ap (at_stage x) (sym at) ∙ sym seat
          ∙ ap w.seats (sym same)
      | inr ne ↦ put-other w.seats a (at_stage x Open) b ne
    ];
    records = refl;
    aborted = refl;
  }

  -- ---- requests
  abbrev Keeps : World V → After V → Type 0
  Keeps w r = IsRefusal r.1 → Same w r.0

  choose_keeps : (w : World V) (b : Bool) (r s : After V) → Keeps w r → Keeps w s → Keeps w (cond b r s)
  choose_keeps w true r s h g = h
  choose_keeps w false r s h g = g

  abbrev pub NoRefusal : After V → Type 0
  NoRefusal r = IsRefusal r.1 → ⊥

  pub choose_no : (b : Bool) (r s : After V) → NoRefusal r → NoRefusal s → NoRefusal (cond b r s)
  choose_no true r s h g = h
  choose_no false r s h g = g

  gives_up_no : (u : World V) (a : ℕ) (x : Seat V) (ks : List ℕ) → NoRefusal (gives_up u a x ks)
  gives_up_no u a x [] = λ h. h
  gives_up_no u a x (k ∷ ks) = λ h. h

  fresh_no : (u : World V) (a : ℕ) (x : Seat V) (d : ℕ × ℕ) (v : ℕ) (next : After V) → NoRefusal next → NoRefusal (is_fresh u a x d v next)
  fresh_no u a x d v next h = choose_no (eqb d.1 v) next _ h (gives_up_no u a (because x (refusal.Stale d.0 d.1 v)) [])

  judges_no : (u : World V) (a : ℕ) (x : Seat V) (o : CallWithOutcome V) (d : ℕ × ℕ) (es : Entries) (next : After V) (r : Option ℕ)
      → NoRefusal next
      → NoRefusal (judges u a x o d es next r)
  judges_no u a x o d es next None h = λ q. q
  judges_no u a x o d es next (Some v) h = fresh_no u a x d v next h

  pub loads_no : (es : Entries) (u : World V) (a : ℕ) (x : Seat V) (o : CallWithOutcome V) → NoRefusal (loads u a x o es)
  loads_no [] u a x o = λ q. q
  loads_no (d ∷ es) u a x o = judges_no u a x o d es (loads u a x o es) (lookup (actor_of u a).reads d.0) (loads_no es u a x o)

  calls_on_keeps : (w : World V) (a : ℕ) (x : Seat V) (asked : CollectionCall V) → w.seats a ≡ x → x.stage ≡ Open
      → Keeps w (calls_on w a x asked)
  calls_on_keeps w a x asked seat at =
      let c = content w.words w.blocks in
      let o = outcome_at w a asked in
      choose_keeps w (x.copied asked.collection (piece_at w.blocks asked)) _ _
      (choose_keeps w (has_room (actor_of w a) (c.reads o) (c.writes o))
      (loads w a x o (with_editions (w.boosted.shadows a).editions (c.reads o))) _
      (λ q. absurd (loads_no (with_editions (w.boosted.shadows a).editions (c.reads o)) w a x o q)) (λ q. same_seats w a x seat at))
      (λ q. absurd q)

  reads_keeps : (w : World V) (a : ℕ) (x : Seat V) (l : ℕ) (n : told.Notice) → Keeps w (reads w a x l n)
  reads_keeps w a x l (told.Number v) = λ q. absurd q
  reads_keeps w a x l n = λ q. absurd q

  allowed_keeps : (w : World V) (a : ℕ) (x : Seat V) (known room : Bool) (next : After V) → Keeps w next
      → Keeps w (if_allowed w a x known room next)
  allowed_keeps w a x known room next h =
      choose_keeps w known _ _ (choose_keeps w (nat_lt (length x.calls) CALL_LIMIT && room) next _ h (λ q. same_world w))
      (λ q. same_world w)

  op_keeps : (w : World V) (a : ℕ) (x : Seat V) (t : ℕ) (op : Op V) → w.seats a ≡ x → x.stage ≡ Open → Keeps w (ask_op w a x t op)
  op_keeps w a x t Read seat at = allowed_keeps w a x _ _ _ (reads_keeps w a x t _)
  op_keeps w a x t (Write v) seat at = allowed_keeps w a x _ _ _ (λ q. absurd q)
  op_keeps w a x t op seat at = allowed_keeps w a x _ _ _ (calls_on_keeps w a x (record { collection = t; op = op }) seat at)

  commits_keeps : (w : World V) (a : ℕ) (x : Seat V) (es : Entries) → Keeps w (commits w a x es)
  commits_keeps w a x [] = λ q. absurd q
  commits_keeps w a x (e ∷ es) = λ q. absurd q

  ask_keeps : (w : World V) (a : ℕ) (x : Seat V) (st : Stage V) (q : Request V) → w.seats a ≡ x → x.stage ≡ st → Keeps w (ask_at w a x st q)
  ask_keeps w a x Idle request.Begin seat at = λ q. absurd q
  ask_keeps w a x Idle request.BeginRead seat at = λ q. absurd q
  ask_keeps w a x Idle r seat at = λ q. same_world w
  ask_keeps w a x Open request.Begin seat at = λ q. same_world w
  ask_keeps w a x Open request.BeginRead seat at = λ q. same_world w
  ask_keeps w a x Open (request.Call call) seat at = op_keeps w a x call.target call.op seat at
  ask_keeps w a x Open request.Commit seat at = commits_keeps w a x (actor_of w a).writes
  ask_keeps w a x Open request.Abort seat at = λ q. absurd q
  ask_keeps w a x st r seat at = λ q. same_world w

  pub refused_request : (w : World V) (a : ℕ) (q : Request V) → IsRefusal (happens w (Ask a q)).1 → Same w (happens w (Ask a q)).0
  refused_request w a q = ask_keeps w a (w.seats a) (w.seats a).stage q refl refl

  -- ---- steps
  no_refusal : (a : ℕ) (P : Refusal → Type 0) (n : Notice V) → (IsRefusal n → ⊥) → RefusedBy a P n
  no_refusal a P (Refused b r) h = absurd (h tt)
  no_refusal a P n h = by n h
    where
      by : (n : Notice V) → (IsRefusal n → ⊥) → RefusedBy a P n
      by (Refused b r) h = absurd (h tt)
      by Quiet h = tt
      by n h = tt

  has_read_no : (u : World V) (a : ℕ) (x : Seat V) (l : ℕ) (n : told.Notice) → NoRefusal (has_read u a x l n)
  has_read_no u a x l (told.Number v) = λ q. q
  has_read_no u a x l (told.Moved i found) = λ q. q
  has_read_no u a x l n = λ q. q

  tried_no : (u : World V) (a : ℕ) (x : Seat V) (free : Bool) (k : ℕ) (got : List ℕ) (again : ℕ → Stage V) (next : Stage V) (tries : ℕ)
      → NoRefusal (has_tried u a x free k got again next tries)
  tried_no u a x free k got again next zero = choose_no free _ _ (λ q. q) (gives_up_no u a (because x (refusal.GateBusy k)) got)
  tried_no u a x free k got again next (suc m) = choose_no free _ _ (λ q. q) (λ q. q)

  has_loaded_no : (u : World V) (a : ℕ) (x : Seat V) (o : CallWithOutcome V) (d : ℕ × ℕ) (es : Entries) (n : told.Notice)
      → NoRefusal (has_loaded u a x o d es n)
  has_loaded_no u a x o d es (told.Number v) = fresh_no u a x d v (loads u a x o es) (loads_no es u a x o)
  has_loaded_no u a x o d es (told.Moved i found) = λ q. q
  has_loaded_no u a x o d es n = λ q. q

  has_locked_no : (u : World V) (a : ℕ) (x : Seat V) (n : told.Notice) → NoRefusal (has_locked u a x n)
  has_locked_no u a x (told.LockedAt wv) = λ q. q
  has_locked_no u a x (told.Busy l found) = λ q. q
  has_locked_no u a x (told.Invalid l found) = λ q. q
  has_locked_no u a x n = λ q. q

  goes_home_no : (u : World V) (a : ℕ) (x : Seat V) (ks : List ℕ) → NoRefusal (goes_home u a x ks)
  goes_home_no u a x [] = λ q. q
  goes_home_no u a x (k ∷ ks) = λ q. q

  has_stored_no : (u : World V) (a : ℕ) (x : Seat V) (ks : List ℕ) (n : told.Notice) → NoRefusal (has_stored u a x ks n)
  has_stored_no u a x ks told.Stored = goes_home_no u a x ks
  has_stored_no u a x ks n = λ q. q

  has_released_no : (u : World V) (a : ℕ) (x : Seat V) (n : told.Notice) → NoRefusal (has_released u a x n)
  has_released_no u a x told.Released = λ q. q
  has_released_no u a x n = λ q. q

  has_cancelled_no : (u : World V) (a : ℕ) (x : Seat V) (n : told.Notice) → NoRefusal (has_cancelled u a x n)
  has_cancelled_no u a x told.Cancelled = λ q. q
  has_cancelled_no u a x n = λ q. q

  begun_says : (w u : World V) (a : ℕ) (x : Seat V) (b : Bool) → nat_lt w.boosted.words.clock machine.clock_limit ≡ b
      → let r = has_begun u a x (cond b (told.Begun w.boosted.words.clock) (told.Exhausted w.boosted.words.clock)) in
      RefusedBy a (IsRefusedAt w a Beginning r.0) r.1
  begun_says w u a x true e = tt
  begun_says w u a x false e =
      (refl, (refl, nat_lt-false w.boosted.words.clock machine.clock_limit e, ap (λ (q : Seat V). q.stage) (put-same u.seats a no_one)))

  copied_says : (w u : World V) (a : ℕ) (before x : Seat V) (asked : CollectionCall V) (sized o : CallWithOutcome V) (editions : ℕ → ℕ)
      → w.seats a ≡ before
      → actor_of u a ≡ actor_of w a
      → let r = answers u a before x sized o editions in RefusedBy a (IsRefusedAt w a (Copying asked) r.0) r.1
  copied_says w u a before x asked sized o editions seat same =
      let c = content u.words u.blocks in
      let es = with_editions editions (c.reads o) in
      cond_both {A = After V} (has_room (actor_of u a) (c.reads sized) (c.writes sized)) (loads u a x o es)
      (seated u a (at_stage before Open), Refused a refusal.TooLong)
      (λ r. RefusedBy a (IsRefusedAt w a (Copying asked) r.0) r.1)
      (λ _. no_refusal a (IsRefusedAt w a (Copying asked) (loads u a x o es).0) (loads u a x o es).1 (loads_no es u a x o))
      (λ _. (refl, (refl, put-same u.seats a (at_stage before Open) ∙ ap (λ (q : Seat V). at_stage q Open) (sym seat), same)))

  why_says : (w u : World V) (a : ℕ) (cause : Option Refusal) → (w.seats a).cause ≡ cause → (u.seats a).stage ≡ Idle
      → RefusedBy a (IsRefusedAt w a Leaving u) (why {V = V} a cause)
  why_says w u a None e at = tt
  why_says w u a (Some r) e at = (refl, (e, at))

  step_says : (w : World V) (a : ℕ) (x : Seat V) (st : Stage V) → w.seats a ≡ x
      → StageOk w.words w.blocks x (actor_of w a) (w.boosted.shadows a) st (actor_of w a).place
      → let r = step_at w a x st in RefusedBy a (IsRefusedAt w a st r.0) r.1
  step_says w a x Idle seat ok = (refl, (refl, same_world w))
  step_says w a x Open seat ok = (refl, (refl, same_world w))
  step_says w a x Beginning seat ok =
      let u = acted w (moves a ∷ []) in
      subst (λ n. let r = has_begun u a x n in RefusedBy a (IsRefusedAt w a Beginning r.0) r.1)
      (sym (ap (λ p. told.notice w.boosted.words (actor_of w a) p) ok))
      (begun_says w u a x (nat_lt w.boosted.words.clock machine.clock_limit) refl)
  step_says w a x (Copying asked) seat ok =
      let which = covers_at w.words w.blocks asked in
      let u = acted w (PutGate a asked.collection which ∷ []) in
      let o = outcome_at u a asked in
      copied_says w u a x (with_piece x asked.collection (piece_at w.blocks asked)) asked (sized_by u a asked o) o u.boosted.editions seat
      (ap (λ (s : Words). s.actors a) (put_words (content w.words w.blocks) w.boosted a asked.collection which))
  step_says w a x Leaving seat ok =
      let u = record (acted w
      (moves a ∷ [])) { aborted = w.aborted ++ record { actor = a; rv = x.rv; calls = x.calls; cause = x.cause } ∷ [] } in
      why_says w (seated u a no_one) a x.cause (ap (λ (q : Seat V). q.cause) seat)
      (ap (λ (q : Seat V). q.stage) (put-same u.seats a no_one))
  step_says w a x (Reading l) seat ok = no_refusal a _ _ (has_read_no (acted w (moves a ∷ [])) a x l (word_notice w a))
  step_says w a x (Trying asked tries) seat ok =
      no_refusal a _ _
      (tried_no (acted w (TakeGate a asked.collection ∷ [])) a x (is_none (w.boosted.gates asked.collection)) asked.collection []
      (λ n. Trying asked n) (Copying asked) tries)
  step_says w a x (Loading o []) seat ok = tt
  step_says w a x (Loading o (d ∷ es)) seat ok = no_refusal a _ _ (has_loaded_no (acted w (moves a ∷ [])) a x o d es (word_notice w a))
  step_says w a x Locking seat ok = no_refusal a _ _ (has_locked_no (acted w (moves a ∷ [])) a x (word_notice w a))
  step_says w a x (Gating got [] tries) seat ok = tt
  step_says w a x (Gating got (k ∷ ks) tries) seat ok =
      no_refusal a _ _
      (tried_no (acted w (TakeGate a k ∷ [])) a x (is_none (w.boosted.gates k)) k got (λ n. Gating got (k ∷ ks) n)
      (takes_gates (got ++ k ∷ []) ks) tries)
  step_says w a x (Ready ks) seat ok =
      let ready = acted w (asks a word.AskStore ∷ []) in
      no_refusal a _ _ (has_stored_no (recorded (acted ready (moves a ∷ [])) a x true x.wv) a x ks (word_notice ready a))
  step_says w a x (Storing ks) seat ok = no_refusal a _ _ (has_stored_no (acted w (moves a ∷ [])) a x ks (word_notice w a))
  step_says w a x (Homing []) seat ok = tt
  step_says w a x (Homing (k ∷ ks)) seat ok = no_refusal a _ _ (goes_home_no (acted w (GoHome a k ∷ [])) a x ks)
  step_says w a x Releasing seat ok = no_refusal a _ _ (has_released_no (acted w (moves a ∷ [])) a x (word_notice w a))
  step_says w a x Closing seat ok = tt
  step_says w a x (Returning []) seat ok = tt
  step_says w a x (Returning (k ∷ ks)) seat ok = no_refusal a _ _ (gives_up_no (acted w (PutGate a k (λ l. false) ∷ [])) a x ks)
  step_says w a x Cancelling seat ok = no_refusal a _ _ (has_cancelled_no (acted w (moves a ∷ [])) a x (word_notice w a))

  pub refused_step : (w : World V) (a : ℕ) → Linked w → let r = happens w (Step a) in RefusedBy a
      (IsRefusedAt w a (w.seats a).stage r.0) r.1
  refused_step w a k = step_says w a (w.seats a) (w.seats a).stage refl (k.seats a).stage

  -- ---- failed allocations
  abbrev IsGivenUp : ℕ → Seat V → Type 0
  IsGivenUp a x = (is_ending x.stage ≡ true) × (x.cause ≡ Some refusal.Memory)

  seated_given_up : (u : World V) (a : ℕ) (x : Seat V) → IsGivenUp a x → IsGivenUp a ((seated u a x).seats a)
  seated_given_up u a x h = subst (IsGivenUp a) (sym (put-same u.seats a x)) h

  starve_gives_up : (w : World V) (a : ℕ) (x : Seat V) (ks : List ℕ)
      → let r = gives_up w a (because x refusal.Memory) ks in IsGivenUp a (r.0.seats a) × (r.1 ≡ Quiet)
  starve_gives_up w a x [] =
      let t = acted w (asks a word.AskCancel ∷ asks a word.AskAbort ∷ []) in
      (seated_given_up t a _ (by (is_leaving (actor_of t a).place)), refl)
    where
      by : (b : Bool) → IsGivenUp a (at_stage (because x refusal.Memory) (cond b Leaving Cancelling))
      by true = (refl, refl)
      by false = (refl, refl)
  starve_gives_up w a x (k ∷ ks) = (seated_given_up w a (at_stage (because x refusal.Memory) (Returning (k ∷ ks))) (refl, refl), refl)

  starve_comes : (w : World V) (a : ℕ) (x : Seat V) (ks : List ℕ)
      → let r = gives_up w a (because x refusal.Memory) ks in
      (is_ending (r.0.seats a).stage ≡ true) × ((r.0.seats a).cause ≡ Some refusal.Memory) × (r.1 ≡ Quiet)
  starve_comes w a x ks = let h = starve_gives_up w a x ks in (h.0.0, h.0.1, h.1)

  starve_says : (w : World V) (a : ℕ) (x : Seat V) (st : Stage V) → IsStarved w a st (starve_at w a x st)
  starve_says w a x Idle = refl
  starve_says w a x Open = refl
  starve_says w a x Beginning = (ap (λ (q : Seat V). q.stage) (put-same w.seats a no_one), refl)
  starve_says w a x (Reading l) = starve_comes w a x []
  starve_says w a x (Trying asked tries) = starve_comes w a x []
  starve_says w a x (Copying asked) = starve_comes w a x (asked.collection ∷ [])
  starve_says w a x (Loading o es) = starve_comes w a x []
  starve_says w a x Locking = starve_comes w a x []
  starve_says w a x (Gating got ks tries) = starve_comes w a x got
  starve_says w a x (Ready ks) = starve_comes w a x ks
  starve_says w a x Closing = starve_comes w a x []
  starve_says w a x (Storing ks) = refl
  starve_says w a x (Homing ks) = refl
  starve_says w a x Releasing = refl
  starve_says w a x (Returning ks) = refl
  starve_says w a x Cancelling = refl
  starve_says w a x Leaving = refl

  pub starves : (w : World V) (a : ℕ) → IsStarved w a (w.seats a).stage (happens w (Starve a))
  starves w a = starve_says w a (w.seats a) (w.seats a).stage

  starve_end : (w : World V) (a : ℕ) (x : Seat V) (st : Stage V) → is_ending st ≡ true → starve_at w a x st ≡ (w, Quiet)
  starve_end w a x (Returning ks) h = refl
  starve_end w a x Cancelling h = refl
  starve_end w a x Leaving h = refl
  starve_end w a x st h = absurd (true≢false (sym h))

  pub starved_end : (w : World V) (a : ℕ) → is_ending (w.seats a).stage ≡ true → happens w (Starve a) ≡ (w, Quiet)
  starved_end w a h = starve_end w a (w.seats a) (w.seats a).stage h

  -- ---- a commit continues
  seated_half : (u : World V) (a : ℕ) (x : Seat V) → is_half_done x.stage ≡ true → is_half_done ((seated u a x).seats a).stage ≡ true
  seated_half u a x h = ap (λ (q : Seat V). is_half_done q.stage) (put-same u.seats a x) ∙ h

  home_half : (u : World V) (a : ℕ) (x : Seat V) (ks : List ℕ) → is_half_done ((goes_home u a x ks).0.seats a).stage ≡ true
  home_half u a x [] = seated_half (acted u (asks a word.AskRelease ∷ [])) a (at_stage x Releasing) refl
  home_half u a x (k ∷ ks) = seated_half u a (at_stage x (Homing (k ∷ ks))) refl

  stored_half : (u : World V) (a : ℕ) (x : Seat V) (ks : List ℕ) (n : told.Notice)
      → is_half_done ((has_stored u a x ks n).0.seats a).stage ≡ true
  stored_half u a x ks told.Stored = home_half u a x ks
  stored_half u a x ks n = seated_half u a (at_stage x (Storing ks)) refl

  released_half : (u : World V) (a : ℕ) (x : Seat V) (n : told.Notice) → u.seats a ≡ x → x.stage ≡ Releasing
      → IsQuiet (has_released u a x n).1
      → is_half_done ((has_released u a x n).0.seats a).stage ≡ true
  released_half u a x told.Released seat at q = absurd q
  released_half u a x n seat at q = ap (λ (s : Seat V). is_half_done s.stage) seat ∙ ap is_half_done at

  step_half : (w : World V) (a : ℕ) (x : Seat V) (st : Stage V) → w.seats a ≡ x → x.stage ≡ st → is_half_done st ≡ true
      → IsQuiet (step_at w a x st).1
      → is_half_done ((step_at w a x st).0.seats a).stage ≡ true
  step_half w a x (Storing ks) seat at h q = stored_half (acted w (moves a ∷ [])) a x ks (word_notice w a)
  step_half w a x (Homing []) seat at h q = ap (λ (s : Seat V). is_half_done s.stage) seat ∙ ap is_half_done at
  step_half w a x (Homing (k ∷ ks)) seat at h q = home_half (acted w (GoHome a k ∷ [])) a x ks
  step_half w a x Releasing seat at h q = released_half (acted w (moves a ∷ [])) a x (word_notice w a) seat at q
  step_half w a x st seat at h q = absurd (true≢false (sym h))

  pub commit_goes_on : (w : World V) (a : ℕ) → is_half_done (w.seats a).stage ≡ true → IsQuiet (happens w (Step a)).1
      → is_half_done ((happens w (Step a)).0.seats a).stage ≡ true
  commit_goes_on w a h q = step_half w a (w.seats a) (w.seats a).stage refl refl h q
