-- A request that is under way is answered within 1,000,000 steps of its actor. What a step or a failed allocation answers leaves its actor
-- idle, where nothing is left; what answers nothing is bounded, as a request is asked, and from then on by what it was before. So no
-- request is ever further off than that, and each own step that answers nothing brings it nearer.
use Rattle.std.proofs.Common.{◌≡◌, ℕ, zero, suc, ◌+◌, ◌<◌, ◌≤◌, Bool, true, false}
use Rattle.std.proofs.Common.{cond, ◌&&◌, List, [], ◌∷◌, ◌++◌, length, Option, Some, None}
use Rattle.std.proofs.Common.{◌⊎◌, inl, inr, refl, sym, subst, arith, eqb, eq-eqb, ne_eqb}
use Rattle.std.specs.Prelude.{nat_lt}
use Rattle.std.proofs.lemmas.Bool.{cond-true, cond-false, cases_eq}
use Rattle.tx_sets.specs.Entries.{Entries, lookup}
use Rattle.tx_machine.specs.Actor.{Actor}
use Rattle.tx_machine.specs.Requests as word
use Rattle.tx_machine.specs.World.{put}
use Rattle.tx_machine.specs.Notices as told
use Rattle.tx_machine.proofs.Sets.{put-same}
use Rattle.seq_model.specs.declared.call.Op.{Op}
use Rattle.seq_model.specs.declared.call.Op.TheVariants.{Read, Write}
use Rattle.seq_model.specs.declared.call.Reply.TheVariants as reply
use Rattle.seq_model.specs.declared.held.Held.{Held}
use Rattle.seq_model.specs.declared.refusal.Refusal.TheVariants as refusal
use Rattle.seq_model.specs.declared.event.Event.{Event}
use Rattle.seq_model.specs.declared.event.Event.TheVariants.{Ask, Step, Starve}
use Rattle.seq_model.specs.declared.event.Request.{Request}
use Rattle.seq_model.specs.declared.event.Request.TheVariants as request
use Rattle.seq_model.specs.declared.event.Notice.{Notice}
use Rattle.seq_model.specs.declared.event.Notice.TheVariants.{Quiet, Refused}
use Rattle.seq_model.specs.declared.limits.TheConstants.{CALL_LIMIT}
use Rattle.tx_machine.specs.Boosted.{TakeGate, PutGate, GoHome, is_none}
use Rattle.replay_log.specs.Contents.{Block, CollectionCall, CallWithOutcome, HaveStripes, content}
use Rattle.replay_log.specs.Pieces.{piece_at, covers_at}
use Rattle.replay_log.specs.Worlds.{World, Seat, Stage, Idle, Beginning, Open, Locking, Releasing, Closing, Cancelling, Leaving, Reading}
use Rattle.replay_log.specs.Worlds.{Trying, Copying, Loading, Gating, Ready, Storing, Homing, Returning, After, has_room, with_editions}
use Rattle.replay_log.specs.Worlds.{at_stage, because, no_one, acted, asks, moves, actor_of, word_notice, gives_up, with_call, call_of}
use Rattle.replay_log.specs.Worlds.{reply_of, reads, outcome_at, is_fresh, judges, loads}
use Rattle.replay_log.specs.Worlds.{answers, calls_on, if_allowed, ask_op, commits, ask_at}
use Rattle.replay_log.specs.Worlds.{recorded, has_begun, has_read, has_tried, with_piece, sized_by, has_loaded, takes_gates, has_locked}
use Rattle.replay_log.specs.Worlds.{goes_home, has_stored, has_released, has_cancelled, step_at, starve_at, happens, run, opened}
use Rattle.replay_log.specs.WorldProgress as measure
use Rattle.replay_log.specs.WorldProgress.{AreSmall, whose, IsQuiet, IsAnswer, IsAnsweredWithin, steps_of, left_of, Nears}
use Rattle.replay_log.specs.Guards.{IsAtRest}
use Rattle.replay_log.proofs.RequestLemmas.{happens_by}
use Rattle.replay_log.proofs.SeatLemmas.{Linked}
use Rattle.replay_log.proofs.EventLemmas.{run_linked, opened_linked, run-append}
use Rattle.replay_log.proofs.ProgressLemmas.{world_nears, others_leave}
use Rattle.replay_log.proofs.SizeLemmas.{world_soon}
use Rattle.replay_log.proofs.DueLemmas.{step_due}
use Rattle.replay_log.proofs.AskLemmas.{under_way}
use Rattle.replay_log.proofs.StarveLemmas.{starve_no_further}

module _ {V : Type 0} where
  -- ---- what is answered leaves the actor idle
  abbrev Rests : ℕ → After V → Type 0
  Rests a r = (IsQuiet r.1 → ⊥) → IsAtRest (r.0.seats a).stage

  silent : (a : ℕ) (u : World V) → Rests a (u, Quiet)
  silent a u = λ h. absurd (h tt)

  put_rests : (seats : ℕ → Seat V) (a : ℕ) (x : Seat V) → IsAtRest x.stage → IsAtRest (put seats a x a).stage
  put_rests seats a x h = subst (λ (q : Seat V). IsAtRest q.stage) (sym (put-same seats a x)) h

  same_rests : (u : World V) (a : ℕ) (x : Seat V) (st : Stage V) (n : Notice V) → u.seats a ≡ x → x.stage ≡ st → IsAtRest st
      → Rests a (u, n)
  same_rests u a x st n seat at h = λ _. subst (λ (q : Seat V). IsAtRest q.stage) (sym seat) (subst IsAtRest (sym at) h)

  choose_rests : (a : ℕ) (b : Bool) (r s : After V) → Rests a r → Rests a s → Rests a (cond b r s)
  choose_rests a true r s h g = h
  choose_rests a false r s h g = g

  gives_up_rests : (u : World V) (a : ℕ) (x : Seat V) (ks : List ℕ) → Rests a (gives_up u a x ks)
  gives_up_rests u a x [] = λ h. absurd (h tt)
  gives_up_rests u a x (k ∷ ks) = λ h. absurd (h tt)

  -- ---- calls
  fresh_rests : (u : World V) (a : ℕ) (x : Seat V) (d : ℕ × ℕ) (v : ℕ) (next : After V) → Rests a next
      → Rests a (is_fresh u a x d v next)
  fresh_rests u a x d v next h = choose_rests a (eqb d.1 v) next _ h (gives_up_rests u a (because x (refusal.Stale d.0 d.1 v)) [])

  judges_rests : (u : World V) (a : ℕ) (x : Seat V) (o : CallWithOutcome V) (d : ℕ × ℕ) (es : Entries) (next : After V) (r : Option ℕ)
      → Rests a next
      → Rests a (judges u a x o d es next r)
  judges_rests u a x o d es next None h = λ q. absurd (q tt)
  judges_rests u a x o d es next (Some v) h = fresh_rests u a x d v next h

  loads_rests : (es : Entries) (u : World V) (a : ℕ) (x : Seat V) (o : CallWithOutcome V) → Rests a (loads u a x o es)
  loads_rests [] u a x o = λ q. put_rests u.seats a (with_call x (call_of o) (reply_of o)) tt
  loads_rests (d ∷ es) u a x o = judges_rests u a x o d es (loads u a x o es) (lookup (actor_of u a).reads d.0) (loads_rests es u a x o)

  answers_rests : (u : World V) (a : ℕ) (before x : Seat V) (sized o : CallWithOutcome V) (editions : ℕ → ℕ)
      → Rests a (answers u a before x sized o editions)
  answers_rests u a before x sized o editions =
      let c = content u.words u.blocks in
      choose_rests a (has_room (actor_of u a) (c.reads sized) (c.writes sized)) (loads u a x o (with_editions editions (c.reads o))) _
      (loads_rests (with_editions editions (c.reads o)) u a x o) (λ q. put_rests u.seats a (at_stage before Open) tt)

  calls_on_rests : (u : World V) (a : ℕ) (x : Seat V) (asked : CollectionCall V) → Rests a (calls_on u a x asked)
  calls_on_rests u a x asked =
      choose_rests a (x.copied asked.collection (piece_at u.blocks asked)) _ _
      (answers_rests u a x x (outcome_at u a asked) (outcome_at u a asked) (u.boosted.shadows a).editions) (λ q. absurd (q tt))

  reads_rests : (u : World V) (a : ℕ) (x : Seat V) (l : ℕ) (n : told.Notice) → Rests a (reads u a x l n)
  reads_rests u a x l (told.Number v) = λ q. put_rests u.seats a (with_call x (record { target = l; op = Read }) (reply.Number v)) tt
  reads_rests u a x l n = λ q. absurd (q tt)

  allowed_rests : (u : World V) (a : ℕ) (x : Seat V) (known room : Bool) (next : After V) → u.seats a ≡ x → x.stage ≡ Open
      → Rests a next
      → Rests a (if_allowed u a x known room next)
  allowed_rests u a x known room next seat at h =
      choose_rests a known _ _
      (choose_rests a (nat_lt (length x.calls) CALL_LIMIT && room) next _ h (same_rests u a x Open (Refused a refusal.TooLong) seat at tt))
      (same_rests u a x Open (Refused a refusal.NoSuch) seat at tt)

  op_rests : (u : World V) (a : ℕ) (x : Seat V) (t : ℕ) (op : Op V) → u.seats a ≡ x → x.stage ≡ Open → Rests a (ask_op u a x t op)
  op_rests u a x t Read seat at = allowed_rests u a x _ _ _ seat at (reads_rests u a x t _)
  op_rests u a x t (Write v) seat at =
      allowed_rests u a x _ _ _ seat at
      (λ q. put_rests u.seats a (with_call x (record { target = t; op = Write v }) reply.Done) tt)
  op_rests u a x t op seat at = allowed_rests u a x _ _ _ seat at (calls_on_rests u a x (record { collection = t; op = op }))

  commits_rests : (u : World V) (a : ℕ) (x : Seat V) (es : Entries) → Rests a (commits u a x es)
  commits_rests u a x [] = λ q. absurd (q tt)
  commits_rests u a x (e ∷ es) = λ q. absurd (q tt)

  ask_rests : (w : World V) (a : ℕ) (x : Seat V) (st : Stage V) (q : Request V) → w.seats a ≡ x → x.stage ≡ st → IsAtRest st
      → Rests a (ask_at w a x st q)
  ask_rests w a x Idle request.Begin seat at h = λ q. absurd (q tt)
  ask_rests w a x Idle request.BeginRead seat at h = λ q. absurd (q tt)
  ask_rests w a x Idle r seat at h = same_rests w a x Idle (Refused a refusal.NoTransaction) seat at tt
  ask_rests w a x Open request.Begin seat at h = same_rests w a x Open (Refused a refusal.NotIdle) seat at tt
  ask_rests w a x Open request.BeginRead seat at h = same_rests w a x Open (Refused a refusal.NotIdle) seat at tt
  ask_rests w a x Open (request.Call call) seat at h = op_rests w a x call.target call.op seat at
  ask_rests w a x Open request.Commit seat at h = commits_rests w a x (actor_of w a).writes
  ask_rests w a x Open request.Abort seat at h = λ q. absurd (q tt)
  ask_rests w a x st r seat at h = absurd h

  -- ---- steps
  has_begun_rests : (u : World V) (a : ℕ) (x : Seat V) (n : told.Notice) → Rests a (has_begun u a x n)
  has_begun_rests u a x (told.Begun rv) = λ q. put_rests u.seats a (record no_one { stage = Open; rv = rv }) tt
  has_begun_rests u a x (told.Exhausted clock) = λ q. put_rests u.seats a no_one tt
  has_begun_rests u a x n = λ q. absurd (q tt)

  has_read_rests : (u : World V) (a : ℕ) (x : Seat V) (l : ℕ) (n : told.Notice) → Rests a (has_read u a x l n)
  has_read_rests u a x l (told.Number v) = λ q. put_rests u.seats a (with_call x (record { target = l; op = Read }) (reply.Number v)) tt
  has_read_rests u a x l (told.Moved i found) = gives_up_rests u a (because x (refusal.Moved i found)) []
  has_read_rests u a x l n = λ q. absurd (q tt)

  tried_rests : (u : World V) (a : ℕ) (x : Seat V) (free : Bool) (k : ℕ) (got : List ℕ) (again : ℕ → Stage V) (next : Stage V)
      (tries : ℕ)
      → Rests a (has_tried u a x free k got again next tries)
  tried_rests u a x free k got again next zero =
      choose_rests a free _ _ (λ q. absurd (q tt)) (gives_up_rests u a (because x (refusal.GateBusy k)) got)
  tried_rests u a x free k got again next (suc m) = choose_rests a free _ _ (λ q. absurd (q tt)) (λ q. absurd (q tt))

  has_loaded_rests : (u : World V) (a : ℕ) (x : Seat V) (o : CallWithOutcome V) (d : ℕ × ℕ) (es : Entries) (n : told.Notice)
      → Rests a (has_loaded u a x o d es n)
  has_loaded_rests u a x o d es (told.Number v) = fresh_rests u a x d v (loads u a x o es) (loads_rests es u a x o)
  has_loaded_rests u a x o d es (told.Moved i found) = gives_up_rests u a (because x (refusal.Moved i found)) []
  has_loaded_rests u a x o d es n = λ q. absurd (q tt)

  has_locked_rests : (u : World V) (a : ℕ) (x : Seat V) (n : told.Notice) → Rests a (has_locked u a x n)
  has_locked_rests u a x (told.LockedAt wv) = λ q. absurd (q tt)
  has_locked_rests u a x (told.Busy l found) = gives_up_rests u a (because x (refusal.Busy l found)) []
  has_locked_rests u a x (told.Invalid l found) = gives_up_rests u a (because x (refusal.Invalid l found)) []
  has_locked_rests u a x n = λ q. absurd (q tt)

  goes_home_rests : (u : World V) (a : ℕ) (x : Seat V) (ks : List ℕ) → Rests a (goes_home u a x ks)
  goes_home_rests u a x [] = λ q. absurd (q tt)
  goes_home_rests u a x (k ∷ ks) = λ q. absurd (q tt)

  has_stored_rests : (u : World V) (a : ℕ) (x : Seat V) (ks : List ℕ) (n : told.Notice) → Rests a (has_stored u a x ks n)
  has_stored_rests u a x ks told.Stored = goes_home_rests u a x ks
  has_stored_rests u a x ks n = λ q. absurd (q tt)

  has_released_rests : (u : World V) (a : ℕ) (x : Seat V) (n : told.Notice) → Rests a (has_released u a x n)
  has_released_rests u a x told.Released = λ q. put_rests u.seats a no_one tt
  has_released_rests u a x n = λ q. absurd (q tt)

  has_cancelled_rests : (u : World V) (a : ℕ) (x : Seat V) (n : told.Notice) → Rests a (has_cancelled u a x n)
  has_cancelled_rests u a x told.Cancelled = λ q. absurd (q tt)
  has_cancelled_rests u a x n = λ q. absurd (q tt)

  step_rests : (w : World V) (a : ℕ) (x : Seat V) (st : Stage V) → w.seats a ≡ x → x.stage ≡ st → Rests a (step_at w a x st)
  step_rests w a x Idle seat at = same_rests w a x Idle (Refused a refusal.NoTransaction) seat at tt
  step_rests w a x Open seat at = same_rests w a x Open (Refused a refusal.NoTransaction) seat at tt
  step_rests w a x Beginning seat at = has_begun_rests (acted w (moves a ∷ [])) a x (word_notice w a)
  step_rests w a x (Reading l) seat at = has_read_rests (acted w (moves a ∷ [])) a x l (word_notice w a)
  step_rests w a x (Trying asked tries) seat at =
      tried_rests (acted w (TakeGate a asked.collection ∷ [])) a x (is_none (w.boosted.gates asked.collection)) asked.collection []
      (λ n. Trying asked n) (Copying asked) tries
  step_rests w a x (Copying asked) seat at =
      let u = acted w (PutGate a asked.collection (covers_at w.words w.blocks asked) ∷ []) in
      let o = outcome_at u a asked in
      answers_rests u a x (with_piece x asked.collection (piece_at w.blocks asked)) (sized_by u a asked o) o u.boosted.editions
  step_rests w a x (Loading o []) seat at = λ q. absurd (q tt)
  step_rests w a x (Loading o (d ∷ es)) seat at = has_loaded_rests (acted w (moves a ∷ [])) a x o d es (word_notice w a)
  step_rests w a x Locking seat at = has_locked_rests (acted w (moves a ∷ [])) a x (word_notice w a)
  step_rests w a x (Gating got [] tries) seat at = λ q. absurd (q tt)
  step_rests w a x (Gating got (k ∷ ks) tries) seat at =
      tried_rests (acted w (TakeGate a k ∷ [])) a x (is_none (w.boosted.gates k)) k got (λ n. Gating got (k ∷ ks) n)
      (takes_gates (got ++ k ∷ []) ks) tries
  step_rests w a x (Ready ks) seat at =
      let ready = acted w (asks a word.AskStore ∷ []) in
      has_stored_rests (recorded (acted ready (moves a ∷ [])) a x true x.wv) a x ks (word_notice ready a)
  step_rests w a x (Storing ks) seat at = has_stored_rests (acted w (moves a ∷ [])) a x ks (word_notice w a)
  step_rests w a x (Homing []) seat at = λ q. absurd (q tt)
  step_rests w a x (Homing (k ∷ ks)) seat at = goes_home_rests (acted w (GoHome a k ∷ [])) a x ks
  step_rests w a x Releasing seat at = has_released_rests (acted w (moves a ∷ [])) a x (word_notice w a)
  step_rests w a x Closing seat at = λ q. put_rests w.seats a no_one tt
  step_rests w a x (Returning []) seat at = λ q. absurd (q tt)
  step_rests w a x (Returning (k ∷ ks)) seat at = gives_up_rests (acted w (PutGate a k (λ l. false) ∷ [])) a x ks
  step_rests w a x Cancelling seat at = has_cancelled_rests (acted w (moves a ∷ [])) a x (word_notice w a)
  step_rests w a x Leaving seat at = λ q. put_rests w.seats a no_one tt

  -- ---- failed allocations
  starve_rests : (w : World V) (a : ℕ) (x : Seat V) (st : Stage V) → w.seats a ≡ x → x.stage ≡ st → Rests a (starve_at w a x st)
  starve_rests w a x Idle seat at = same_rests w a x Idle (Refused a refusal.NoTransaction) seat at tt
  starve_rests w a x Open seat at = same_rests w a x Open (Refused a refusal.NoTransaction) seat at tt
  starve_rests w a x Beginning seat at = λ q. put_rests w.seats a no_one tt
  starve_rests w a x (Reading l) seat at = gives_up_rests w a (because x refusal.Memory) []
  starve_rests w a x (Trying asked tries) seat at = gives_up_rests w a (because x refusal.Memory) []
  starve_rests w a x (Copying asked) seat at = gives_up_rests w a (because x refusal.Memory) (asked.collection ∷ [])
  starve_rests w a x (Loading o es) seat at = gives_up_rests w a (because x refusal.Memory) []
  starve_rests w a x Locking seat at = gives_up_rests w a (because x refusal.Memory) []
  starve_rests w a x (Gating got ks tries) seat at = gives_up_rests w a (because x refusal.Memory) got
  starve_rests w a x (Ready ks) seat at = gives_up_rests w a (because x refusal.Memory) ks
  starve_rests w a x Closing seat at = gives_up_rests w a (because x refusal.Memory) []
  starve_rests w a x st seat at = λ q. absurd (q tt)

  -- ---- events
  step_told : (w : World V) (a : ℕ) → Rests a (happens w (Step a))
  step_told w a = step_rests w a (w.seats a) (w.seats a).stage refl refl

  starve_told : (w : World V) (a : ℕ) → Rests a (happens w (Starve a))
  starve_told w a = starve_rests w a (w.seats a) (w.seats a).stage refl refl

  pub answer_rests : (w : World V) (e : Event V) (a : ℕ) → IsAnswer a e (happens w e).1 → IsAtRest ((happens w e).0.seats a).stage
  answer_rests w (Ask b q) a h = absurd h
  answer_rests w (Step b) a h = subst (λ n. IsAtRest ((happens w (Step b)).0.seats n).stage) h.0 (step_told w b h.1)
  answer_rests w (Starve b) a h = subst (λ n. IsAtRest ((happens w (Starve b)).0.seats n).stage) h.0 (starve_told w b h.1)

  at_rest : (st : Stage V) → IsAtRest st ⊎ (IsAtRest st → ⊥)
  at_rest Idle = inl tt
  at_rest Open = inl tt
  at_rest st = inr (λ h. h)

  quiet_or : (n : Notice V) → IsQuiet n ⊎ (IsQuiet n → ⊥)
  quiet_or Quiet = inl tt
  quiet_or n = inr (λ h. h)

  -- nothing is left where the actor is idle
  rests_left : (st : Stage V) (y : Actor) → IsAtRest st → measure.left_at st y ≡ 0
  rests_left Idle y h = refl
  rests_left Open y h = refl
  rests_left st y h = absurd h

  rests_few : (u : World V) (a : ℕ) → IsAtRest (u.seats a).stage → left_of u a < 1000000
  rests_few u a h = let e = rests_left (u.seats a).stage (u.boosted.words.actors a) h in omega (arith, e)

  module _ (blocks : List Block) (clock : ℕ) (values : List ℕ) (held : List (Held V)) (stripes : HaveStripes blocks)
      (small : AreSmall blocks) where
    reached : (events : List (Event V)) → Linked (run (opened blocks clock values held) events)
    reached events = run_linked events (opened blocks clock values held) (opened_linked blocks clock values held stripes)

    own_few : (events : List (Event V)) (e : Event V)
        → let w = run (opened blocks clock values held) events in left_of w (whose e) < 1000000
        → left_of (happens w e).0 (whose e) < 1000000
    own_few events (Ask a q) h =
        let w = run (opened blocks clock values held) events in
        let r = happens w (Ask a q) in
        elim (at_rest (w.seats a).stage) [
          | inr busy ↦ subst (λ (s : After V). left_of s.0 a < 1000000) (sym (under_way w a q busy)) h
          | inl rest ↦ elim (quiet_or r.1) [
            | inl quiet ↦ world_soon blocks clock values held events a q stripes small quiet
            | inr told ↦ rests_few r.0 a (ask_rests w a (w.seats a) (w.seats a).stage q refl refl rest told)
          ]
        ]
    own_few events (Step a) h =
        let w = run (opened blocks clock values held) events in
        let r = happens w (Step a) in
        elim (quiet_or r.1) [
          | inl quiet ↦ (let less = world_nears blocks clock values held events stripes small a quiet in omega (arith, h, less))
          | inr told ↦ rests_few r.0 a (step_told w a told)
        ]
    own_few events (Starve a) h =
        let w = run (opened blocks clock values held) events in
        let r = happens w (Starve a) in
        elim (quiet_or r.1) [
          | inl quiet ↦ (let less = starve_no_further w a (reached events) quiet in omega (arith, h, less))
          | inr told ↦ rests_few r.0 a (starve_told w a told)
        ]

    event_few : (events : List (Event V)) (e : Event V) (a : ℕ)
        → let w = run (opened blocks clock values held) events in left_of w a < 1000000 → left_of (happens w e).0 a < 1000000
    event_few events e a h =
        let w = run (opened blocks clock values held) events in
        elim (cases_eq a (whose e)) [
          | inl same ↦
              subst (λ n. left_of (happens w e).0 n < 1000000) (sym same)
              (own_few events e (subst (λ n. left_of w n < 1000000) same h))
          | inr ne ↦ (let same = others_leave w e a ne in omega (arith, h, same))
        ]

    later_few : (later events : List (Event V)) (a : ℕ)
        → let w = run (opened blocks clock values held) events in left_of w a < 1000000 → left_of (run w later) a < 1000000
    later_few [] events a h = h
    later_few (e ∷ es) events a h =
        let o = opened blocks clock values held in
        let next = run-append events (e ∷ []) o in
        subst (λ (u : World V). left_of (run u es) a < 1000000) next
        (later_few es (events ++ e ∷ []) a (subst (λ (u : World V). left_of u a < 1000000) (sym next) (event_few events e a h)))

    pub always_few : (events : List (Event V)) (a : ℕ) → left_of (run (opened blocks clock values held) events) a < 1000000
    always_few events a = later_few events [] a (omega arith)

    -- ---- a request under way is answered
    module _ (a : ℕ) where
      abbrev IsBusy : World V → Type 0
      IsBusy u = IsAtRest (u.seats a).stage → ⊥

      -- what others do, and what is asked, leaves it
      other_stays : (u : World V) (e : Event V) → (a ≡ whose e → ⊥) → IsBusy u
          → IsBusy (happens u e).0 × (left_of (happens u e).0 a ≡ left_of u a)
      other_stays u e ne busy =
          (subst (λ (x : Seat V). IsAtRest x.stage → ⊥) (sym ((happens_by u e).seats a ne)) busy, others_leave u e a ne)

      asked_stays : (u : World V) (b : ℕ) (q : Request V) → IsBusy u
          → IsBusy (happens u (Ask b q)).0 × (left_of (happens u (Ask b q)).0 a ≡ left_of u a)
      asked_stays u b q busy =
          elim (cases_eq a b) [
            | inl same ↦
                subst (λ n. IsBusy (happens u (Ask n q)).0 × (left_of (happens u (Ask n q)).0 a ≡ left_of u a)) same
                (subst (λ (r : After V). IsBusy r.0 × (left_of r.0 a ≡ left_of u a)) (sym (under_way u a q busy)) (busy, refl))
            | inr ne ↦ other_stays u (Ask b q) ne busy
          ]

      -- the events that follow, from the world that this one leaves
      passed : (e : Event V) (es events : List (Event V))
          → (IsBusy (run (opened blocks clock values held) (events ++ e ∷ []))
          → left_of (run (opened blocks clock values held) (events ++ e ∷ [])) a < steps_of a es
          → IsAnsweredWithin a es (run (opened blocks clock values held) (events ++ e ∷ [])))
          → let u = (happens (run (opened blocks clock values held) events) e).0 in
          IsBusy u → left_of u a < steps_of a es → IsAnsweredWithin a es u
      passed e es events h busy less =
          let next = run-append events (e ∷ []) (opened blocks clock values held) in
          subst (IsAnsweredWithin a es) next
          (h (subst IsBusy (sym next) busy) (subst (λ (u : World V). left_of u a < steps_of a es) (sym next) less))

      answered_on : (later events : List (Event V))
          → let w = run (opened blocks clock values held) events in
          IsBusy w → left_of w a < steps_of a later → IsAnsweredWithin a later w
      answered_on [] events busy less = absurd (omega (arith, less))
      answered_on (Ask b q ∷ es) events busy less =
          let w = run (opened blocks clock values held) events in
          let h = asked_stays w b q busy in
          let same = h.1 in
          inr (passed (Ask b q) es events (answered_on es (events ++ Ask b q ∷ [])) h.0 (omega (arith, less, same)))
      answered_on (Step b ∷ es) events busy less =
          let w = run (opened blocks clock values held) events in
          elim (cases_eq b a) [
            | inl own ↦
                let count : steps_of a (Step b ∷ es) ≡ steps_of a es + 1 = cond-true (eqb b a) (steps_of a es + 1) (steps_of a es)
                (eq-eqb b a own) in
                elim (quiet_or (happens w (Step b)).1) [
                  | inr told ↦ inl (own, told)
                  | inl quiet ↦
                      (let near = subst (λ n. left_of (happens w (Step b)).0 n < left_of w n) own
                      (world_nears blocks clock values held events stripes small b quiet) in
                      inr (passed (Step b) es events (answered_on es (events ++ Step b ∷ []))
                      (subst (λ n. IsAtRest ((happens w (Step b)).0.seats n).stage → ⊥) own (step_due w (Step b) quiet))
                      (omega (arith, less, count, near))))
                ]
            | inr ne ↦
                let count : steps_of a (Step b ∷ es) ≡ steps_of a es = cond-false (eqb b a) (steps_of a es + 1) (steps_of a es)
                (ne_eqb b a ne) in
                let h = other_stays w (Step b) (λ e. ne (sym e)) busy in
                let same = h.1 in
                inr (passed (Step b) es events (answered_on es (events ++ Step b ∷ [])) h.0 (omega (arith, less, count, same)))
          ]
      answered_on (Starve b ∷ es) events busy less =
          let w = run (opened blocks clock values held) events in
          elim (cases_eq b a) [
            | inl own ↦ elim (quiet_or (happens w (Starve b)).1) [
              | inr told ↦ inl (own, told)
              | inl quiet ↦
                  (let near = subst (λ n. left_of (happens w (Starve b)).0 n ≤ left_of w n) own
                  (starve_no_further w b (reached events) quiet) in
                  inr (passed (Starve b) es events (answered_on es (events ++ Starve b ∷ []))
                  (subst (λ n. IsAtRest ((happens w (Starve b)).0.seats n).stage → ⊥) own (step_due w (Starve b) quiet))
                  (omega (arith, less, near))))
            ]
            | inr ne ↦
                let h = other_stays w (Starve b) (λ e. ne (sym e)) busy in
                let same = h.1 in
                inr (passed (Starve b) es events (answered_on es (events ++ Starve b ∷ [])) h.0 (omega (arith, less, same)))
          ]

      pub answered : (events later : List (Event V))
          → let w = run (opened blocks clock values held) events in
          (IsAtRest (w.seats a).stage → ⊥) → 1000000 ≤ steps_of a later → IsAnsweredWithin a later w
      answered events later busy enough =
          let few = always_few events a in answered_on later events busy (omega (arith, few, enough))
