-- What becomes of the calls of a transaction. One pass over the functions of a call: each answers it with the reply that it puts after the
-- calls before it, or leaves the calls, with the same call under way, refused or aborted. One over all others: they leave the calls, but
-- for the one that begins a transaction and those that end one.
use Rattle.std.proofs.Common.{◌≡◌, ◌≢◌, ℕ, zero, suc, Bool, true, false, cond, ◌&&◌, List, [], ◌∷◌, ◌++◌, length, Option, Some, None}
use Rattle.std.proofs.Common.{inl, inr, refl, sym, ◌∙◌, ap, subst, eqb}
use Rattle.std.specs.Prelude.{nat_lt}
use Rattle.std.proofs.lemmas.Option.{same_Some, none-some}
use Rattle.tx_sets.specs.Entries.{Entries, lookup}
use Rattle.tx_machine.specs.Requests as word
use Rattle.tx_machine.specs.Notices as told
use Rattle.tx_machine.proofs.Sets.{put-same}
use Rattle.seq_model.specs.declared.call.Call.{Call}
use Rattle.seq_model.specs.declared.call.Op.{Op}
use Rattle.seq_model.specs.declared.call.Op.TheVariants.{Read, Write}
use Rattle.seq_model.specs.declared.call.Reply.{Reply}
use Rattle.seq_model.specs.declared.call.Reply.TheVariants as reply
use Rattle.seq_model.specs.declared.refusal.Refusal.{Refusal}
use Rattle.seq_model.specs.declared.refusal.Refusal.TheVariants as refusal
use Rattle.seq_model.specs.declared.event.Event.TheVariants.{Ask, Step, Starve}
use Rattle.seq_model.specs.declared.event.Request.{Request}
use Rattle.seq_model.specs.declared.event.Request.TheVariants as request
use Rattle.seq_model.specs.declared.event.Answer.TheVariants as answer
use Rattle.seq_model.specs.declared.event.Notice.{Notice}
use Rattle.seq_model.specs.declared.event.Notice.TheVariants.{Quiet, Answered, Refused}
use Rattle.seq_model.specs.declared.limits.TheConstants.{CALL_LIMIT}
use Rattle.seq_model.proofs.LogicLemmas.{some-none}
use Rattle.tx_machine.specs.Boosted.{TakeGate, PutGate, Accept, GoHome, is_none}
use Rattle.replay_log.specs.Contents.{CollectionCall, CallWithOutcome as Outcomes, content}
use Rattle.replay_log.specs.Pieces.{piece_at, covers_at}
use Rattle.replay_log.specs.Worlds.{World, Seat, Stage, Idle, Beginning, Open, Locking, Releasing, Closing, Cancelling, Leaving, Reading}
use Rattle.replay_log.specs.Worlds.{Trying, Copying, Loading, Gating, Ready, Storing, Homing, Returning, After, has_room, sized_by}
use Rattle.replay_log.specs.Worlds.{with_editions, at_stage, because, seated, acted, asks, moves, actor_of, word_notice, no_one, is_leaving}
use Rattle.replay_log.specs.Worlds.{gives_up, with_call, replied, reads, outcome_at, reply_of, call_of, is_fresh, judges, loads, answers}
use Rattle.replay_log.specs.Worlds.{calls_on, if_allowed, ask_op, commits, ask_at, recorded, has_begun, has_read, has_tried, with_piece}
use Rattle.replay_log.specs.Worlds.{has_loaded, takes_gates, written_homes, has_locked, goes_home, has_stored, has_released, has_cancelled}
use Rattle.replay_log.specs.Worlds.{ended, why, step_at, starve_at, happens, more_tries}
use Rattle.replay_log.specs.WorldRefusals.{is_ending}
use Rattle.replay_log.specs.WorldReplies.{as_call, call_at, IsMade, IsKept}

module _ {V : Type 0} where
  -- ---- a call
  abbrev Made : ℕ → Call V → Seat V → After V → Type 0
  Made a call x r = IsMade a call x (r.0.seats a) r.1

  made_seated : (u : World V) (a : ℕ) (call : Call V) (x y : Seat V) (n : Notice V) → IsMade a call x y n → Made a call x (seated u a y, n)
  made_seated u a call x y n h = subst (λ (s : Seat V). IsMade a call x s n) (sym (put-same u.seats a y)) h

  made_choose : (a : ℕ) (call : Call V) (x : Seat V) (b : Bool) (r s : After V) → Made a call x r → Made a call x s
      → Made a call x (cond b r s)
  made_choose a call x true r s h g = h
  made_choose a call x false r s h g = g

  -- its seat is as it was
  made_stays : (u : World V) (a : ℕ) (call : Call V) (x : Seat V) (st : Stage V) → u.seats a ≡ x → x.stage ≡ st → call_at st ≡ Some call
      → Made a call x (u, Quiet)
  made_stays u a call x st seat at is =
      (ap (λ (s : Seat V). s.calls) seat, inl (ap (λ (s : Seat V). call_at s.stage) seat ∙ ap call_at at ∙ is))

  made_given_up : (u : World V) (a : ℕ) (call : Call V) (x y : Seat V) (ks : List ℕ) → y.calls ≡ x.calls
      → Made a call x (gives_up u a y ks)
  made_given_up u a call x y [] e =
      let t = acted u (asks a word.AskCancel ∷ asks a word.AskAbort ∷ []) in
      let b = is_leaving (actor_of t a).place in
      made_seated t a call x (at_stage y (cond b Leaving Cancelling)) Quiet (e, inr (by b))
    where
      by : (b : Bool) → is_ending {V = V} (cond b Leaving Cancelling) ≡ true
      by true = refl
      by false = refl
  made_given_up u a call x y (k ∷ ks) e = made_seated u a call x (at_stage y (Returning (k ∷ ks))) Quiet (e, inr refl)

  made_replied : (u : World V) (a : ℕ) (call : Call V) (x y : Seat V) (c : Call V) (r : Reply V) → y.calls ≡ x.calls → c ≡ call
      → Made a call x (replied u a y c r)
  made_replied u a call x y c r e is =
      made_seated u a call x (with_call y c r) (Answered a (answer.Replied r)) (
        refl,
        refl,
        ap (λ (cs : List (Call V × Reply V)). cs ++ (c, r) ∷ []) e ∙ ap (λ (d : Call V). x.calls ++ (d, r) ∷ []) is,
      )

  made_fresh : (u : World V) (a : ℕ) (call : Call V) (x y : Seat V) (d : ℕ × ℕ) (v : ℕ) (next : After V) → y.calls ≡ x.calls
      → Made a call x next
      → Made a call x (is_fresh u a y d v next)
  made_fresh u a call x y d v next e h =
      made_choose a call x (eqb d.1 v) next _ h (made_given_up u a call x (because y (refusal.Stale d.0 d.1 v)) [] e)

  made_judges : (u : World V) (a : ℕ) (call : Call V) (x y : Seat V) (o : Outcomes V) (d : ℕ × ℕ) (es : Entries) (next : After V)
      (v : Option ℕ)
      → y.calls ≡ x.calls → call_of o ≡ call → Made a call x next → Made a call x (judges u a y o d es next v)
  made_judges u a call x y o d es next None e is h =
      made_seated (acted u (asks a (word.AskRead d.0) ∷ [])) a call x (at_stage y (Loading o (d ∷ es))) Quiet (e, inl (ap (λ c. Some c) is))
  made_judges u a call x y o d es next (Some v) e is h = made_fresh u a call x y d v next e h

  made_loads : (es : Entries) (u : World V) (a : ℕ) (call : Call V) (x y : Seat V) (o : Outcomes V) → y.calls ≡ x.calls → call_of o ≡ call
      → Made a call x (loads u a y o es)
  made_loads [] u a call x y o e is = made_replied (acted u (Accept a o.asked ∷ [])) a call x y (call_of o) (reply_of o) e is
  made_loads (d ∷ es) u a call x y o e is =
      made_judges u a call x y o d es (loads u a y o es) (lookup (actor_of u a).reads d.0) e is (made_loads es u a call x y o e is)

  made_answers : (u : World V) (a : ℕ) (call : Call V) (x before y : Seat V) (sized o : Outcomes V) (editions : ℕ → ℕ)
      → before.calls ≡ x.calls → y.calls ≡ x.calls → call_of o ≡ call → Made a call x (answers u a before y sized o editions)
  made_answers u a call x before y sized o editions old e is =
      let c = content u.words u.blocks in
      let es = with_editions editions (c.reads o) in
      made_choose a call x (has_room (actor_of u a) (c.reads sized) (c.writes sized)) (loads u a y o es) _
      (made_loads es u a call x y o e is)
      (made_seated u a call x (at_stage before Open) (Refused a refusal.TooLong) (refl, old))

  -- ---- as it is asked
  made_calls_on : (w : World V) (a : ℕ) (x : Seat V) (asked : CollectionCall V) → Made a (as_call asked) x (calls_on w a x asked)
  made_calls_on w a x asked =
      let o = outcome_at w a asked in
      made_choose a (as_call asked) x (x.copied asked.collection (piece_at w.blocks asked)) _ _
      (made_answers w a (as_call asked) x x x o o (w.boosted.shadows a).editions refl refl refl)
      (made_seated w a (as_call asked) x (at_stage x (Trying asked more_tries)) Quiet (refl, inl refl))

  made_refused : (w : World V) (a : ℕ) (call : Call V) (x : Seat V) (r : Refusal) → w.seats a ≡ x → Made a call x (w, Refused a r)
  made_refused w a call x r seat = (refl, ap (λ (s : Seat V). s.calls) seat)

  made_allowed : (w : World V) (a : ℕ) (call : Call V) (x : Seat V) (known room : Bool) (next : After V) → w.seats a ≡ x
      → Made a call x next
      → Made a call x (if_allowed w a x known room next)
  made_allowed w a call x known room next seat h =
      made_choose a call x known _ _
      (made_choose a call x (nat_lt (length x.calls) CALL_LIMIT && room) next _ h (made_refused w a call x refusal.TooLong seat))
      (made_refused w a call x refusal.NoSuch seat)

  made_reads : (w : World V) (a : ℕ) (x : Seat V) (l : ℕ) (n : told.Notice) → Made a (record { target = l; op = Read }) x (reads w a x l n)
  made_reads w a x l (told.Number v) =
      let c : Call V = record { target = l; op = Read } in
      made_replied (acted w (asks a (word.AskRead l) ∷ [])) a c x x c (reply.Number v) refl refl
  made_reads w a x l n =
      made_seated (acted w (asks a (word.AskRead l) ∷ [])) a (record { target = l; op = Read }) x (at_stage x (Reading l)) Quiet
      (refl, inl refl)

  made_op : (w : World V) (a : ℕ) (x : Seat V) (t : ℕ) (op : Op V) → w.seats a ≡ x
      → Made a (record { target = t; op = op }) x (ask_op w a x t op)
  made_op w a x t Read seat = made_allowed w a (record { target = t; op = Read }) x _ _ _ seat (made_reads w a x t _)
  made_op w a x t (Write v) seat =
      let c : Call V = record { target = t; op = Write v } in
      made_allowed w a c x _ _ _ seat (made_replied (acted w (asks a (word.AskWrite t v) ∷ [])) a c x x c reply.Done refl refl)
  made_op w a x t op seat =
      made_allowed w a (record { target = t; op = op }) x _ _ _ seat (made_calls_on w a x (record { collection = t; op = op }))

  pub asked_made : (w : World V) (a t : ℕ) (op : Op V) → (w.seats a).stage ≡ Open
      → let call : Call V = record { target = t; op = op } in
      let r = happens w (Ask a (request.Call call)) in IsMade a call (w.seats a) (r.0.seats a) r.1
  asked_made w a t op at =
      let x = w.seats a in
      let call : Call V = record { target = t; op = op } in
      subst (λ (st : Stage V). Made a call x (ask_at w a x st (request.Call call))) (sym at) (made_op w a x t op refl)

  -- ---- a step of it
  made_read : (u : World V) (a : ℕ) (call : Call V) (x : Seat V) (l : ℕ) (n : told.Notice) → u.seats a ≡ x → x.stage ≡ Reading l
      → record { target = l; op = Read } ≡ call → Made a call x (has_read u a x l n)
  made_read u a call x l (told.Number v) seat at is = made_replied u a call x x (record { target = l; op = Read }) (reply.Number v) refl is
  made_read u a call x l (told.Moved i found) seat at is = made_given_up u a call x (because x (refusal.Moved i found)) [] refl
  made_read u a call x l n seat at is = made_stays u a call x (Reading l) seat at (ap (λ c. Some c) is)

  made_loaded : (u : World V) (a : ℕ) (call : Call V) (x : Seat V) (o : Outcomes V) (d : ℕ × ℕ) (es : Entries) (n : told.Notice)
      → u.seats a ≡ x → x.stage ≡ Loading o (d ∷ es)
      → call_of o ≡ call → Made a call x (has_loaded u a x o d es n)
  made_loaded u a call x o d es (told.Number v) seat at is =
      made_fresh u a call x x d v (loads u a x o es) refl (made_loads es u a call x x o refl is)
  made_loaded u a call x o d es (told.Moved i found) seat at is = made_given_up u a call x (because x (refusal.Moved i found)) [] refl
  made_loaded u a call x o d es n seat at is = made_stays u a call x (Loading o (d ∷ es)) seat at (ap (λ c. Some c) is)

  made_tried : (u : World V) (a : ℕ) (call : Call V) (x : Seat V) (free : Bool) (k : ℕ) (asked : CollectionCall V) (tries : ℕ)
      → as_call asked ≡ call
      → Made a call x (has_tried u a x free k [] (λ n. Trying asked n) (Copying asked) tries)
  made_tried u a call x free k asked zero is =
      made_choose a call x free _ _ (made_seated u a call x (at_stage x (Copying asked)) Quiet (refl, inl (ap (λ c. Some c) is)))
      (made_given_up u a call x (because x (refusal.GateBusy k)) [] refl)
  made_tried u a call x free k asked (suc m) is =
      made_choose a call x free _ _ (made_seated u a call x (at_stage x (Copying asked)) Quiet (refl, inl (ap (λ c. Some c) is)))
      (made_seated u a call x (at_stage x (Trying asked m)) Quiet (refl, inl (ap (λ c. Some c) is)))

  step_made : (w : World V) (a : ℕ) (x : Seat V) (st : Stage V) (call : Call V) → w.seats a ≡ x → x.stage ≡ st → call_at st ≡ Some call
      → Made a call x (step_at w a x st)
  step_made w a x (Reading l) call seat at is =
      made_read (acted w (moves a ∷ [])) a call x l (word_notice w a) seat at (same_Some _ call is)
  step_made w a x (Trying asked tries) call seat at is =
      made_tried (acted w (TakeGate a asked.collection ∷ [])) a call x (is_none (w.boosted.gates asked.collection)) asked.collection asked
      tries (same_Some _ call is)
  step_made w a x (Copying asked) call seat at is =
      let u = acted w (PutGate a asked.collection (covers_at w.words w.blocks asked) ∷ []) in
      let o = outcome_at u a asked in
      made_answers u a call x x (with_piece x asked.collection (piece_at w.blocks asked)) (sized_by u a asked o) o u.boosted.editions refl
      refl (same_Some _ call is)
  step_made w a x (Loading o []) call seat at is = made_stays w a call x (Loading o []) seat at is
  step_made w a x (Loading o (d ∷ es)) call seat at is =
      made_loaded (acted w (moves a ∷ [])) a call x o d es (word_notice w a) seat at (same_Some _ call is)
  step_made w a x st call seat at is = absurd (none-some call is)

  pub stepped_made : (w : World V) (a : ℕ) (call : Call V) → call_at (w.seats a).stage ≡ Some call
      → let r = happens w (Step a) in IsMade a call (w.seats a) (r.0.seats a) r.1
  stepped_made w a call is = step_made w a (w.seats a) (w.seats a).stage call refl refl is

  -- ---- anything else
  abbrev Kept : ℕ → Stage V → Seat V → After V → Type 0
  Kept a st x r = IsKept a st x (r.0.seats a) r.1

  kept_seated : (u : World V) (a : ℕ) (st : Stage V) (x y : Seat V) (n : Notice V) → IsKept a st x y n → Kept a st x (seated u a y, n)
  kept_seated u a st x y n h = subst (λ (s : Seat V). IsKept a st x s n) (sym (put-same u.seats a y)) h

  kept_quietly : (u : World V) (a : ℕ) (st : Stage V) (x y : Seat V) → y.calls ≡ x.calls → Kept a st x (seated u a y, Quiet)
  kept_quietly u a st x y e = kept_seated u a st x y Quiet (inl e)

  kept_stays : (u : World V) (a : ℕ) (st : Stage V) (x : Seat V) → u.seats a ≡ x → Kept a st x (u, Quiet)
  kept_stays u a st x seat = inl (ap (λ (s : Seat V). s.calls) seat)

  kept_refused : (u : World V) (a : ℕ) (st : Stage V) (x : Seat V) (r : Refusal) → u.seats a ≡ x → Kept a st x (u, Refused a r)
  kept_refused u a st x r seat = inl (ap (λ (s : Seat V). s.calls) seat)

  kept_given_up : (u : World V) (a : ℕ) (st : Stage V) (x y : Seat V) (ks : List ℕ) → y.calls ≡ x.calls → Kept a st x (gives_up u a y ks)
  kept_given_up u a st x y [] e =
      let t = acted u (asks a word.AskCancel ∷ asks a word.AskAbort ∷ []) in
      kept_quietly t a st x (at_stage y (cond (is_leaving (actor_of t a).place) Leaving Cancelling)) e
  kept_given_up u a st x y (k ∷ ks) e = kept_quietly u a st x (at_stage y (Returning (k ∷ ks))) e

  kept_begun : (u : World V) (a : ℕ) (x : Seat V) (n : told.Notice) → u.seats a ≡ x → Kept a Beginning x (has_begun u a x n)
  kept_begun u a x (told.Begun rv) seat =
      kept_seated u a Beginning x (record no_one { stage = Open; rv = rv }) (Answered a (answer.Begun rv)) (refl, refl, refl, refl)
  kept_begun u a x (told.Exhausted clock) seat =
      kept_seated u a Beginning x no_one (Refused a (refusal.Exhausted clock)) (inr (refl, refl))
  kept_begun u a x n seat = kept_stays u a Beginning x seat

  kept_locked : (u : World V) (a : ℕ) (x : Seat V) (n : told.Notice) → u.seats a ≡ x → Kept a Locking x (has_locked u a x n)
  kept_locked u a x (told.LockedAt wv) seat =
      kept_quietly u a Locking x (record x { stage = takes_gates [] (written_homes u a); wv = wv }) refl
  kept_locked u a x (told.Busy l found) seat = kept_given_up u a Locking x (because x (refusal.Busy l found)) [] refl
  kept_locked u a x (told.Invalid l found) seat = kept_given_up u a Locking x (because x (refusal.Invalid l found)) [] refl
  kept_locked u a x n seat = kept_stays u a Locking x seat

  kept_choose : (a : ℕ) (st : Stage V) (x : Seat V) (b : Bool) (r s : After V) → Kept a st x r → Kept a st x s → Kept a st x (cond b r s)
  kept_choose a st x true r s h g = h
  kept_choose a st x false r s h g = g

  kept_tried : (u : World V) (a : ℕ) (st : Stage V) (x : Seat V) (free : Bool) (k : ℕ) (got : List ℕ) (again : ℕ → Stage V) (next : Stage V)
      (tries : ℕ)
      → Kept a st x (has_tried u a x free k got again next tries)
  kept_tried u a st x free k got again next zero =
      kept_choose a st x free _ _ (kept_quietly u a st x (at_stage x next) refl)
      (kept_given_up u a st x (because x (refusal.GateBusy k)) got refl)
  kept_tried u a st x free k got again next (suc m) =
      kept_choose a st x free _ _ (kept_quietly u a st x (at_stage x next) refl) (kept_quietly u a st x (at_stage x (again m)) refl)

  kept_home : (u : World V) (a : ℕ) (st : Stage V) (x : Seat V) (ks : List ℕ) → Kept a st x (goes_home u a x ks)
  kept_home u a st x [] = kept_quietly (acted u (asks a word.AskRelease ∷ [])) a st x (at_stage x Releasing) refl
  kept_home u a st x (k ∷ ks) = kept_quietly u a st x (at_stage x (Homing (k ∷ ks))) refl

  kept_stored : (u : World V) (a : ℕ) (st : Stage V) (x : Seat V) (ks : List ℕ) (n : told.Notice) → Kept a st x (has_stored u a x ks n)
  kept_stored u a st x ks told.Stored = kept_home u a st x ks
  kept_stored u a st x ks n = kept_quietly u a st x (at_stage x (Storing ks)) refl

  kept_released : (u : World V) (a : ℕ) (x : Seat V) (n : told.Notice) → u.seats a ≡ x → Kept a Releasing x (has_released u a x n)
  kept_released u a x told.Released seat =
      kept_seated u a Releasing x no_one (Answered a (answer.Committed x.wv)) (refl, refl, refl)
  kept_released u a x n seat = kept_stays u a Releasing x seat

  kept_cancelled : (u : World V) (a : ℕ) (x : Seat V) (n : told.Notice) → u.seats a ≡ x → Kept a Cancelling x (has_cancelled u a x n)
  kept_cancelled u a x told.Cancelled seat =
      kept_quietly (acted u (asks a word.AskAbort ∷ [])) a Cancelling x (at_stage x Leaving) refl
  kept_cancelled u a x n seat = kept_stays u a Cancelling x seat

  why_kept : (a : ℕ) (x y : Seat V) (cause : Option Refusal) → y.stage ≡ Idle → y.calls ≡ []
      → IsKept a Leaving x y (why {V = V} a cause)
  why_kept a x y None e is = inr (e, is)
  why_kept a x y (Some r) e is = inr (e, is)

  step_kept : (w : World V) (a : ℕ) (x : Seat V) (st : Stage V) → w.seats a ≡ x → call_at st ≡ None → Kept a st x (step_at w a x st)
  step_kept w a x Idle seat is = kept_refused w a Idle x refusal.NoTransaction seat
  step_kept w a x Open seat is = kept_refused w a Open x refusal.NoTransaction seat
  step_kept w a x Beginning seat is = kept_begun (acted w (moves a ∷ [])) a x (word_notice w a) seat
  step_kept w a x (Reading l) seat is = absurd (some-none _ is)
  step_kept w a x (Trying asked tries) seat is = absurd (some-none _ is)
  step_kept w a x (Copying asked) seat is = absurd (some-none _ is)
  step_kept w a x (Loading o es) seat is = absurd (some-none _ is)
  step_kept w a x Locking seat is = kept_locked (acted w (moves a ∷ [])) a x (word_notice w a) seat
  step_kept w a x (Gating got [] tries) seat is = kept_stays w a (Gating got [] tries) x seat
  step_kept w a x (Gating got (k ∷ ks) tries) seat is =
      kept_tried (acted w (TakeGate a k ∷ [])) a (Gating got (k ∷ ks) tries) x (is_none (w.boosted.gates k)) k got
      (λ n. Gating got (k ∷ ks) n) (takes_gates (got ++ k ∷ []) ks) tries
  step_kept w a x (Ready ks) seat is =
      let ready = acted w (asks a word.AskStore ∷ []) in
      kept_stored (recorded (acted ready (moves a ∷ [])) a x true x.wv) a (Ready ks) x ks (word_notice ready a)
  step_kept w a x (Storing ks) seat is = kept_stored (acted w (moves a ∷ [])) a (Storing ks) x ks (word_notice w a)
  step_kept w a x (Homing []) seat is = kept_stays w a (Homing []) x seat
  step_kept w a x (Homing (k ∷ ks)) seat is = kept_home (acted w (GoHome a k ∷ [])) a (Homing (k ∷ ks)) x ks
  step_kept w a x Releasing seat is = kept_released (acted w (moves a ∷ [])) a x (word_notice w a) seat
  step_kept w a x Closing seat is =
      kept_seated (recorded (acted w (moves a ∷ [])) a x false x.rv) a Closing x no_one (Answered a (answer.Committed x.rv))
      (refl, refl, refl)
  step_kept w a x (Returning []) seat is = kept_stays w a (Returning []) x seat
  step_kept w a x (Returning (k ∷ ks)) seat is = kept_given_up (acted w (PutGate a k (λ l. false) ∷ [])) a (Returning (k ∷ ks)) x x ks refl
  step_kept w a x Cancelling seat is = kept_cancelled (acted w (moves a ∷ [])) a x (word_notice w a) seat
  step_kept w a x Leaving seat is =
      let u = (ended (acted w (moves a ∷ [])) a x).0 in
      let is_no_one : u.seats a ≡ no_one = put-same w.seats a no_one in
      why_kept a x (u.seats a) x.cause (ap (λ (s : Seat V). s.stage) is_no_one) (ap (λ (s : Seat V). s.calls) is_no_one)

  pub stepped_kept : (w : World V) (a : ℕ) → call_at (w.seats a).stage ≡ None
      → let r = happens w (Step a) in IsKept a (w.seats a).stage (w.seats a) (r.0.seats a) r.1
  stepped_kept w a is = step_kept w a (w.seats a) (w.seats a).stage refl is

  commits_kept : (w : World V) (a : ℕ) (x : Seat V) (es : Entries) → Kept a Open x (commits w a x es)
  commits_kept w a x [] = kept_quietly (acted w (asks a word.AskClose ∷ [])) a Open x (at_stage x Closing) refl
  commits_kept w a x (e ∷ es) = kept_quietly (acted w (asks a word.AskLock ∷ [])) a Open x (at_stage x Locking) refl

  abbrev IsNoCall : Request V → Type 0
  IsNoCall q = (call : Call V) → q ≢ request.Call call

  ask_kept : (w : World V) (a : ℕ) (x : Seat V) (st : Stage V) (q : Request V) → w.seats a ≡ x → IsNoCall q
      → Kept a st x (ask_at w a x st q)
  ask_kept w a x Idle request.Begin seat other = kept_quietly (acted w (asks a word.AskBegin ∷ [])) a Idle x (at_stage x Beginning) refl
  ask_kept w a x Idle request.BeginRead seat other =
      kept_quietly (acted w (asks a word.AskBeginRead ∷ [])) a Idle x (at_stage x Beginning) refl
  ask_kept w a x Idle q seat other = kept_refused w a Idle x refusal.NoTransaction seat
  ask_kept w a x Open request.Begin seat other = kept_refused w a Open x refusal.NotIdle seat
  ask_kept w a x Open request.BeginRead seat other = kept_refused w a Open x refusal.NotIdle seat
  ask_kept w a x Open (request.Call call) seat other = absurd (other call refl)
  ask_kept w a x Open request.Commit seat other = commits_kept w a x (actor_of w a).writes
  ask_kept w a x Open request.Abort seat other = kept_given_up w a Open x (record x { cause = None }) [] refl
  ask_kept w a x st q seat other = kept_refused w a st x refusal.NotIdle seat

  pub asked_kept : (w : World V) (a : ℕ) (q : Request V) → IsNoCall q
      → let r = happens w (Ask a q) in IsKept a (w.seats a).stage (w.seats a) (r.0.seats a) r.1
  asked_kept w a q other = ask_kept w a (w.seats a) (w.seats a).stage q refl other

  starve_kept : (w : World V) (a : ℕ) (x : Seat V) (st : Stage V) → w.seats a ≡ x → Kept a st x (starve_at w a x st)
  starve_kept w a x Idle seat = kept_refused w a Idle x refusal.NoTransaction seat
  starve_kept w a x Open seat = kept_refused w a Open x refusal.NoTransaction seat
  starve_kept w a x Beginning seat =
      kept_seated (acted w (asks a word.AskAbort ∷ [])) a Beginning x no_one (Refused a refusal.Memory) (inr (refl, refl))
  starve_kept w a x (Reading l) seat = kept_given_up w a (Reading l) x (because x refusal.Memory) [] refl
  starve_kept w a x (Trying asked tries) seat = kept_given_up w a (Trying asked tries) x (because x refusal.Memory) [] refl
  starve_kept w a x (Copying asked) seat =
      kept_given_up w a (Copying asked) x (because x refusal.Memory) (asked.collection ∷ []) refl
  starve_kept w a x (Loading o es) seat = kept_given_up w a (Loading o es) x (because x refusal.Memory) [] refl
  starve_kept w a x Locking seat = kept_given_up w a Locking x (because x refusal.Memory) [] refl
  starve_kept w a x (Gating got ks tries) seat = kept_given_up w a (Gating got ks tries) x (because x refusal.Memory) got refl
  starve_kept w a x (Ready ks) seat = kept_given_up w a (Ready ks) x (because x refusal.Memory) ks refl
  starve_kept w a x Closing seat = kept_given_up w a Closing x (because x refusal.Memory) [] refl
  starve_kept w a x st seat = kept_stays w a st x seat

  pub starved_kept : (w : World V) (a : ℕ)
      → let r = happens w (Starve a) in IsKept a (w.seats a).stage (w.seats a) (r.0.seats a) r.1
  starved_kept w a = starve_kept w a (w.seats a) (w.seats a).stage refl
