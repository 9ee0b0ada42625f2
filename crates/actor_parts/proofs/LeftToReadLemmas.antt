-- While the locations of a call are read, those that are left are in its collection: they are the locations that its outcome reads, and
-- judging takes off the first ones. No other function of the definitions leads to that stage, so one lemma for each says it of the seat
-- that the function leaves.
use Rattle.std.proofs.Common.{◌≡◌, ℕ, zero, suc, Bool, true, false, cond, ◌&&◌, List, [], ◌∷◌, ◌++◌, Option, Some, None, inl, inr, refl}
use Rattle.std.proofs.Common.{sym, subst, eqb, length}
use Rattle.std.specs.Prelude.{nat_lt}
use Rattle.std.proofs.lemmas.Bool.{cases_eq}
use Rattle.tx_sets.specs.Entries.{Entries, lookup}
use Rattle.tx_machine.specs.Notices as told
use Rattle.tx_machine.specs.Requests as word
use Rattle.tx_machine.proofs.Sets.{put-same}
use Rattle.seq_model.specs.declared.call.Op.{Op}
use Rattle.seq_model.specs.declared.call.Op.TheVariants as op
use Rattle.seq_model.specs.declared.event.Event.{Event}
use Rattle.seq_model.specs.declared.event.Event.TheVariants.{Ask, Step, Starve}
use Rattle.seq_model.specs.declared.call.Reply.TheVariants as reply
use Rattle.seq_model.specs.declared.event.Notice.TheVariants.{Quiet, Refused}
use Rattle.seq_model.specs.declared.event.Request.{Request}
use Rattle.seq_model.specs.declared.event.Request.TheVariants as request
use Rattle.seq_model.specs.declared.held.Held.{Held}
use Rattle.seq_model.specs.declared.limits.TheConstants.{CALL_LIMIT}
use Rattle.seq_model.specs.declared.refusal.Refusal.TheVariants as refusal
use Rattle.conflict.specs.declared.outcome.Outcome.{Outcome}
use Rattle.tx_machine.specs.Boosted.{Accept, GoHome, PutGate, TakeGate, changes, is_none}
use Rattle.tx_machine.specs.Content.{IsIn}
use Rattle.replay_log.specs.Base.{Shown}
use Rattle.replay_log.specs.Contents.{CallWithOutcome, CollectionCall, Block, HaveStripes, block_of, content, first_of, home_of, reads_in}
use Rattle.replay_log.specs.Pieces.{piece_at}
use Rattle.replay_log.specs.WorldProgress.{whose}
use Rattle.replay_log.specs.Worlds.{World, Seat, Stage, Idle, Beginning, Open, Locking, Releasing, Closing, Cancelling, Leaving, Reading}
use Rattle.replay_log.specs.Worlds.{Trying, Copying, Loading, Gating, Ready, Storing, Homing, Returning, Ended, After, acted, actor_of}
use Rattle.replay_log.specs.Worlds.{answers, ask_at, ask_op, asks, at_stage, because, call_of, calls_on, cancels, commits, gives_up}
use Rattle.replay_log.specs.Worlds.{goes_home, happens, has_begun, has_cancelled, has_loaded, has_locked, has_read, has_released, has_room}
use Rattle.replay_log.specs.Worlds.{has_stored, has_tried, if_allowed, is_fresh, is_leaving, judges, loads, more_tries, moves, no_one}
use Rattle.replay_log.specs.Worlds.{opened, outcome_at, reads, recorded, reply_of, run, seated, sized_by, starve_at, step_at, takes_gates}
use Rattle.replay_log.specs.Worlds.{with_call, with_editions, with_piece, word_notice, written_homes}
use Rattle.replay_log.proofs.CallLemmas.{reads_ok}
use Rattle.replay_log.proofs.EventLemmas.{happens_linked, opened_linked}
use Rattle.replay_log.proofs.SeatLemmas.{IsLeft, Linked}
use Rattle.actor_laws.proofs.Others.{others}
use Rattle.actor_parts.proofs.ComesLemmas.{left_in}
use Rattle.actor_parts.specs.CopyInWorld.{call_on}
use Rattle.actor_parts.specs.Shows.{put_back}

module _ {V : Type 0} where
  -- the locations that are left of a call are in its collection
  abbrev pub IsHomed : ℕ → List Block → Stage V → Type 0
  IsHomed n bs (Loading o es) = (l : ℕ) → IsLeft l es → home_of n bs l ≡ o.asked.collection
  IsHomed n bs st = Unit {0}

  abbrev pub HomedAt : World V → ℕ → Type 0
  HomedAt w a = IsHomed w.words w.blocks (w.seats a).stage

  seated_homed : (u : World V) (a : ℕ) (x : Seat V) → IsHomed u.words u.blocks x.stage → HomedAt (seated u a x) a
  seated_homed u a x h = subst (λ (q : Seat V). IsHomed u.words u.blocks q.stage) (sym (put-same u.seats a x)) h

  leaving_homed : (u : World V) (b : Bool) → IsHomed u.words u.blocks (cond b Leaving Cancelling)
  leaving_homed u true = tt
  leaving_homed u false = tt

  gates_homed : (u : World V) (got ks : List ℕ) → IsHomed u.words u.blocks (takes_gates got ks)
  gates_homed u got [] = tt
  gates_homed u got (k ∷ ks) = tt

  cancels_homed : (u : World V) (a : ℕ) (x : Seat V) → HomedAt (cancels u a x) a
  cancels_homed u a x =
      let v = acted u (asks a word.AskCancel ∷ asks a word.AskAbort ∷ []) in
      let out = is_leaving (actor_of v a).place in
      seated_homed v a (at_stage x (cond out Leaving Cancelling)) (leaving_homed u out)

  gives_up_homed : (u : World V) (a : ℕ) (x : Seat V) (ks : List ℕ) → HomedAt (gives_up u a x ks).0 a
  gives_up_homed u a x [] = cancels_homed u a x
  gives_up_homed u a x (k ∷ ks) = seated_homed u a (at_stage x (Returning (k ∷ ks))) tt

  -- ---- a call
  fresh_homed : (u : World V) (a : ℕ) (x : Seat V) (d : ℕ × ℕ) (v : ℕ) (next : After V) → HomedAt next.0 a
      → HomedAt (is_fresh u a x d v next).0 a
  fresh_homed u a x d v next h = by (eqb d.1 v)
    where
      by : (b : Bool) → HomedAt (cond b next (gives_up u a (because x (refusal.Stale d.0 d.1 v)) [])).0 a
      by true = h
      by false = cancels_homed u a (because x (refusal.Stale d.0 d.1 v))

  judges_homed : (u : World V) (a : ℕ) (x : Seat V) (o : CallWithOutcome V) (d : ℕ × ℕ) (es : Entries) (next : After V) (r : Option ℕ)
      → IsHomed u.words u.blocks (Loading o (d ∷ es)) → HomedAt next.0 a → HomedAt (judges u a x o d es next r).0 a
  judges_homed u a x o d es next None h n =
      seated_homed (acted u (asks a (word.AskRead d.0) ∷ [])) a (at_stage x (Loading o (d ∷ es))) h
  judges_homed u a x o d es next (Some v) h n = fresh_homed u a x d v next n

  loads_homed : (es : Entries) (u : World V) (a : ℕ) (x : Seat V) (o : CallWithOutcome V) → IsHomed u.words u.blocks (Loading o es)
      → HomedAt (loads u a x o es).0 a
  loads_homed [] u a x o h = seated_homed (acted u (Accept a o.asked ∷ [])) a (with_call x (call_of o) (reply_of o)) tt
  loads_homed (d ∷ es) u a x o h =
      judges_homed u a x o d es (loads u a x o es) (lookup (actor_of u a).reads d.0) h (loads_homed es u a x o (λ l m. h l (inr m)))

  -- what an outcome reads is in its collection
  reads_homed : (n : ℕ) (bs : List Block) (v : ℕ → Shown V) (asked : CollectionCall V) (l : ℕ) → HaveStripes bs
      → IsIn l ((content n bs).reads ((content n bs).outcome v asked)) → home_of n bs l ≡ asked.collection
  reads_homed n bs v asked l stripes m = by ((content n bs).outcome v asked).outcome refl
    where
      none : (b : Option Block) (f : ℕ) → IsIn l (reads_in {V = V} b f None) → ⊥
      none None f h = h
      none (Some b) f h = h

      by : (r : Option (Outcome V)) → ((content n bs).outcome v asked).outcome ≡ r → home_of n bs l ≡ asked.collection
      by None e =
          absurd (none (block_of bs asked.collection) (first_of n bs asked.collection)
          (subst (λ (r : Option (Outcome V)). IsIn l (reads_in (block_of bs asked.collection) (first_of n bs asked.collection) r)) e m))
      by (Some r) e = (reads_ok n bs v asked r l stripes e m).home

  answers_homed : (u : World V) (a : ℕ) (before x : Seat V) (asked : CollectionCall V) (sized : CallWithOutcome V) (editions : ℕ → ℕ)
      → HaveStripes u.blocks → HomedAt (answers u a before x sized (outcome_at u a asked) editions).0 a
  answers_homed u a before x asked sized editions stripes =
      let c = content u.words u.blocks in by (has_room (actor_of u a) (c.reads sized) (c.writes sized))
    where
      o : CallWithOutcome V
      o = outcome_at u a asked

      es : Entries
      es = with_editions editions ((content u.words u.blocks).reads o)

      long : After V
      long = (seated u a (at_stage before Open), Refused a refusal.TooLong)

      by : (b : Bool) → HomedAt (cond b (loads u a x o es) long).0 a
      by true =
          let z = u.boosted.shadows a in
          loads_homed es u a x o (λ l m.
          reads_homed u.words u.blocks (changes (content u.words u.blocks) z.outcomes z.parts) asked l stripes
          (left_in editions ((content u.words u.blocks).reads o) l m))
      by false = seated_homed u a (at_stage before Open) tt

  calls_on_homed : (w : World V) (a : ℕ) (x : Seat V) (asked : CollectionCall V) → HaveStripes w.blocks → HomedAt (calls_on w a x asked).0 a
  calls_on_homed w a x asked stripes = by (x.copied asked.collection (piece_at w.blocks asked))
    where
      now : After V
      now = answers w a x x (outcome_at w a asked) (outcome_at w a asked) (w.boosted.shadows a).editions

      later : After V
      later = (seated w a (at_stage x (Trying asked more_tries)), Quiet)

      by : (b : Bool) → HomedAt (cond b now later).0 a
      by true = answers_homed w a x x asked (outcome_at w a asked) (w.boosted.shadows a).editions stripes
      by false = seated_homed w a (at_stage x (Trying asked more_tries)) tt

  -- ---- requests
  allowed_homed : (w : World V) (a : ℕ) (x : Seat V) (known room : Bool) (next : After V) → HomedAt w a → HomedAt next.0 a
      → HomedAt (if_allowed w a x known room next).0 a
  allowed_homed w a x false room next h n = h
  allowed_homed w a x true room next h n = by (nat_lt (length x.calls) CALL_LIMIT && room)
    where
      by : (b : Bool) → HomedAt (cond b next (w, Refused a refusal.TooLong)).0 a
      by true = n
      by false = h

  word_homed : (w : World V) (a : ℕ) (x : Seat V) (l : ℕ) (m : told.Notice) → HomedAt (reads w a x l m).0 a
  word_homed w a x l (told.Number v) =
      seated_homed (acted w (asks a (word.AskRead l) ∷ [])) a (with_call x (record { target = l; op = op.Read }) (reply.Number v)) tt
  word_homed w a x l m = seated_homed (acted w (asks a (word.AskRead l) ∷ [])) a (at_stage x (Reading l)) tt

  op_homed : (w : World V) (a : ℕ) (x : Seat V) (t : ℕ) (q : Op V) → HaveStripes w.blocks → HomedAt w a → HomedAt (ask_op w a x t q).0 a
  op_homed w a x t op.Read stripes h = allowed_homed w a x _ _ _ h (word_homed w a x t _)
  op_homed w a x t (op.Write v) stripes h =
      allowed_homed w a x _ _ _ h
      (seated_homed (acted w (asks a (word.AskWrite t v) ∷ [])) a (with_call x (record { target = t; op = op.Write v }) reply.Done) tt)
  op_homed w a x t q stripes h = allowed_homed w a x _ _ _ h (calls_on_homed w a x (call_on t q) stripes)

  commits_homed : (w : World V) (a : ℕ) (x : Seat V) (es : Entries) → HomedAt (commits w a x es).0 a
  commits_homed w a x [] = seated_homed (acted w (asks a word.AskClose ∷ [])) a (at_stage x Closing) tt
  commits_homed w a x (e ∷ es) = seated_homed (acted w (asks a word.AskLock ∷ [])) a (at_stage x Locking) tt

  asked_homed : (w : World V) (a : ℕ) (x : Seat V) (st : Stage V) (q : Request V) → HaveStripes w.blocks → HomedAt w a
      → HomedAt (ask_at w a x st q).0 a
  asked_homed w a x Idle request.Begin stripes h = seated_homed (acted w (asks a word.AskBegin ∷ [])) a (at_stage x Beginning) tt
  asked_homed w a x Idle request.BeginRead stripes h = seated_homed (acted w (asks a word.AskBeginRead ∷ [])) a (at_stage x Beginning) tt
  asked_homed w a x Idle q stripes h = h
  asked_homed w a x Open request.Begin stripes h = h
  asked_homed w a x Open request.BeginRead stripes h = h
  asked_homed w a x Open (request.Call call) stripes h = op_homed w a x call.target call.op stripes h
  asked_homed w a x Open request.Commit stripes h = commits_homed w a x (actor_of w a).writes
  asked_homed w a x Open request.Abort stripes h = cancels_homed w a (record x { cause = None })
  asked_homed w a x st q stripes h = h

  -- ---- steps
  begun_homed : (u : World V) (a : ℕ) (x : Seat V) (m : told.Notice) → HomedAt u a → HomedAt (has_begun u a x m).0 a
  begun_homed u a x (told.Begun rv) h = seated_homed u a (record no_one { stage = Open; rv = rv }) tt
  begun_homed u a x (told.Exhausted clock) h = seated_homed u a no_one tt
  begun_homed u a x m h = h

  read_homed : (u : World V) (a : ℕ) (x : Seat V) (l : ℕ) (m : told.Notice) → HomedAt u a → HomedAt (has_read u a x l m).0 a
  read_homed u a x l (told.Number v) h = seated_homed u a (with_call x (record { target = l; op = op.Read }) (reply.Number v)) tt
  read_homed u a x l (told.Moved i w) h = cancels_homed u a (because x (refusal.Moved i w))
  read_homed u a x l m h = h

  tried_homed : (u : World V) (a : ℕ) (x : Seat V) (free : Bool) (k : ℕ) (got : List ℕ) (again : ℕ → Stage V) (next : Stage V) (tries : ℕ)
      → IsHomed u.words u.blocks next → ((i : ℕ) → IsHomed u.words u.blocks (again i))
      → HomedAt (has_tried u a x free k got again next tries).0 a
  tried_homed u a x true k got again next tries h m = seated_homed u a (at_stage x next) h
  tried_homed u a x false k got again next zero h m = gives_up_homed u a (because x (refusal.GateBusy k)) got
  tried_homed u a x false k got again next (suc i) h m = seated_homed u a (at_stage x (again i)) (m i)

  loaded_homed : (u : World V) (a : ℕ) (x : Seat V) (o : CallWithOutcome V) (d : ℕ × ℕ) (es : Entries) (m : told.Notice)
      → IsHomed u.words u.blocks (Loading o (d ∷ es)) → HomedAt u a → HomedAt (has_loaded u a x o d es m).0 a
  loaded_homed u a x o d es (told.Number v) left h =
      fresh_homed u a x d v (loads u a x o es) (loads_homed es u a x o (λ l m. left l (inr m)))
  loaded_homed u a x o d es (told.Moved i w) left h = cancels_homed u a (because x (refusal.Moved i w))
  loaded_homed u a x o d es m left h = h

  locked_homed : (u : World V) (a : ℕ) (x : Seat V) (m : told.Notice) → HomedAt u a → HomedAt (has_locked u a x m).0 a
  locked_homed u a x (told.LockedAt wv) h =
      let st = takes_gates [] (written_homes u a) in
      seated_homed u a (record x { stage = st; wv = wv }) (gates_homed u [] (written_homes u a))
  locked_homed u a x (told.Busy l w) h = cancels_homed u a (because x (refusal.Busy l w))
  locked_homed u a x (told.Invalid l w) h = cancels_homed u a (because x (refusal.Invalid l w))
  locked_homed u a x m h = h

  goes_home_homed : (u : World V) (a : ℕ) (x : Seat V) (ks : List ℕ) → HomedAt (goes_home u a x ks).0 a
  goes_home_homed u a x [] = seated_homed (acted u (asks a word.AskRelease ∷ [])) a (at_stage x Releasing) tt
  goes_home_homed u a x (k ∷ ks) = seated_homed u a (at_stage x (Homing (k ∷ ks))) tt

  stored_homed : (u : World V) (a : ℕ) (x : Seat V) (ks : List ℕ) (m : told.Notice) → HomedAt (has_stored u a x ks m).0 a
  stored_homed u a x ks told.Stored = goes_home_homed u a x ks
  stored_homed u a x ks m = seated_homed u a (at_stage x (Storing ks)) tt

  released_homed : (u : World V) (a : ℕ) (x : Seat V) (m : told.Notice) → HomedAt u a → HomedAt (has_released u a x m).0 a
  released_homed u a x told.Released h = seated_homed u a no_one tt
  released_homed u a x m h = h

  cancelled_homed : (u : World V) (a : ℕ) (x : Seat V) (m : told.Notice) → HomedAt u a → HomedAt (has_cancelled u a x m).0 a
  cancelled_homed u a x told.Cancelled h = seated_homed (acted u (asks a word.AskAbort ∷ [])) a (at_stage x Leaving) tt
  cancelled_homed u a x m h = h

  stepped_homed : (w : World V) (a : ℕ) (x : Seat V) (st : Stage V) → HaveStripes w.blocks → HomedAt w a → IsHomed w.words w.blocks st
      → HomedAt (step_at w a x st).0 a
  stepped_homed w a x Idle stripes h s = h
  stepped_homed w a x Open stripes h s = h
  stepped_homed w a x Beginning stripes h s = begun_homed (acted w (moves a ∷ [])) a x (word_notice w a) h
  stepped_homed w a x (Reading l) stripes h s = read_homed (acted w (moves a ∷ [])) a x l (word_notice w a) h
  stepped_homed w a x (Trying asked tries) stripes h s =
      tried_homed (acted w (TakeGate a asked.collection ∷ [])) a x (is_none (w.boosted.gates asked.collection)) asked.collection []
      (λ i. Trying asked i) (Copying asked) tries tt (λ i. tt)
  stepped_homed w a x (Copying asked) stripes h s =
      let u = put_back a w asked in
      answers_homed u a x (with_piece x asked.collection (piece_at w.blocks asked)) asked (sized_by u a asked (outcome_at u a asked))
      u.boosted.editions stripes
  stepped_homed w a x (Loading o []) stripes h s = h
  stepped_homed w a x (Loading o (d ∷ es)) stripes h s = loaded_homed (acted w (moves a ∷ [])) a x o d es (word_notice w a) s h
  stepped_homed w a x Locking stripes h s = locked_homed (acted w (moves a ∷ [])) a x (word_notice w a) h
  stepped_homed w a x (Gating got [] tries) stripes h s = h
  stepped_homed w a x (Gating got (i ∷ ks) tries) stripes h s =
      tried_homed (acted w (TakeGate a i ∷ [])) a x (is_none (w.boosted.gates i)) i got (λ j. Gating got (i ∷ ks) j)
      (takes_gates (got ++ i ∷ []) ks) tries (gates_homed w (got ++ i ∷ []) ks) (λ j. tt)
  stepped_homed w a x (Ready ks) stripes h s =
      let ready = acted w (asks a word.AskStore ∷ []) in
      stored_homed (recorded (acted ready (moves a ∷ [])) a x true x.wv) a x ks (word_notice ready a)
  stepped_homed w a x (Storing ks) stripes h s = stored_homed (acted w (moves a ∷ [])) a x ks (word_notice w a)
  stepped_homed w a x (Homing []) stripes h s = h
  stepped_homed w a x (Homing (i ∷ ks)) stripes h s = goes_home_homed (acted w (GoHome a i ∷ [])) a x ks
  stepped_homed w a x Releasing stripes h s = released_homed (acted w (moves a ∷ [])) a x (word_notice w a) h
  stepped_homed w a x Closing stripes h s = seated_homed (recorded (acted w (moves a ∷ [])) a x false x.rv) a no_one tt
  stepped_homed w a x (Returning []) stripes h s = h
  stepped_homed w a x (Returning (i ∷ ks)) stripes h s = gives_up_homed (acted w (PutGate a i (λ l. false) ∷ [])) a x ks
  stepped_homed w a x Cancelling stripes h s = cancelled_homed (acted w (moves a ∷ [])) a x (word_notice w a) h
  stepped_homed w a x Leaving stripes h s =
      let own : Ended V = record { actor = a; rv = x.rv; calls = x.calls; cause = x.cause } in
      let u = acted w (moves a ∷ []) in
      seated_homed (record u { aborted = u.aborted ++ own ∷ [] }) a no_one tt

  starved_homed : (w : World V) (a : ℕ) (x : Seat V) (st : Stage V) → HomedAt w a → HomedAt (starve_at w a x st).0 a
  starved_homed w a x Beginning h = seated_homed (acted w (asks a word.AskAbort ∷ [])) a no_one tt
  starved_homed w a x (Reading l) h = gives_up_homed w a (because x refusal.Memory) []
  starved_homed w a x (Trying asked tries) h = gives_up_homed w a (because x refusal.Memory) []
  starved_homed w a x (Copying asked) h = gives_up_homed w a (because x refusal.Memory) (asked.collection ∷ [])
  starved_homed w a x (Loading o es) h = gives_up_homed w a (because x refusal.Memory) []
  starved_homed w a x Locking h = gives_up_homed w a (because x refusal.Memory) []
  starved_homed w a x (Gating got ks tries) h = gives_up_homed w a (because x refusal.Memory) got
  starved_homed w a x (Ready ks) h = gives_up_homed w a (because x refusal.Memory) ks
  starved_homed w a x Closing h = gives_up_homed w a (because x refusal.Memory) []
  starved_homed w a x st h = h

  -- ---- events
  own_homed : (w : World V) (e : Event V) → HaveStripes w.blocks → HomedAt w (whose e) → HomedAt (happens w e).0 (whose e)
  own_homed w (Ask a q) stripes h = asked_homed w a (w.seats a) (w.seats a).stage q stripes h
  own_homed w (Step a) stripes h = stepped_homed w a (w.seats a) (w.seats a).stage stripes h h
  own_homed w (Starve a) stripes h = starved_homed w a (w.seats a) (w.seats a).stage h

  happens_homed : (w : World V) (e : Event V) → HaveStripes w.blocks → ((a : ℕ) → HomedAt w a) → (a : ℕ) → HomedAt (happens w e).0 a
  happens_homed w e stripes h a =
      elim (cases_eq a (whose e)) [
        | inl same ↦ subst (λ b. HomedAt (happens w e).0 b) (sym same) (own_homed w e stripes (h (whose e)))
        | inr other ↦
            let stands = others w e a other in
            subst (λ (q : Seat V). IsHomed (happens w e).0.words (happens w e).0.blocks q.stage) stands.seat
            (subst (λ (bs : List Block). IsHomed (happens w e).0.words bs (w.seats a).stage) stands.blocks
            (subst (λ n. IsHomed n w.blocks (w.seats a).stage) stands.words (h a)))
      ]

  pub run_homed : (es : List (Event V)) (w : World V) → Linked w → ((a : ℕ) → HomedAt w a) → (a : ℕ) → HomedAt (run w es) a
  run_homed [] w k h = h
  run_homed (e ∷ es) w k h = run_homed es (happens w e).0 (happens_linked w e k) (happens_homed w e k.base.stripes h)

  -- so it is wherever events have led
  pub homed_reached : (blocks : List Block) (clock : ℕ) (values : List ℕ) (held : List (Held V)) (events : List (Event V)) (a : ℕ)
      → HaveStripes blocks → HomedAt (run (opened blocks clock values held) events) a
  homed_reached blocks clock values held events a stripes =
      let o : World V = opened blocks clock values held in
      run_homed events o (opened_linked blocks clock values held stripes) (λ b. tt) a
