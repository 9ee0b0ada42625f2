-- What each step of the word machine keeps, and what is asked of it, but for a begin and a lock, each action of the actor keeps; and so
-- does each of its steps, each call of its open transaction, an abort, and a failed allocation, by one pass over the functions of the
-- definitions. A commit may ask for a lock.
use Rattle.std.proofs.Common.{◌≡◌, ℕ, zero, suc, ◌+◌, Bool, true, false, ◌&&◌, List}
use Rattle.std.proofs.Common.{[], ◌∷◌, ◌++◌, length, Option, Some, None, refl, sym, subst}
use Rattle.std.proofs.Common.{eqb, ltb}
use Rattle.std.proofs.lemmas.Bool.{cond_both}
use Rattle.tx_sets.specs.Entries.{Entries, locations, lookup}
use Rattle.tx_machine.specs.Notices as told
use Rattle.tx_machine.specs.Requests as word
use Rattle.tx_machine.specs.World as world
use Rattle.tx_machine.specs.World.{World as Words}
use Rattle.seq_model.specs.declared.call.Op.{Op}
use Rattle.seq_model.specs.declared.call.Op.TheVariants.{Read, Write}
use Rattle.seq_model.specs.declared.event.Notice.TheVariants.{Quiet, Refused}
use Rattle.seq_model.specs.declared.event.Request.{Request}
use Rattle.seq_model.specs.declared.event.Request.TheVariants as request
use Rattle.seq_model.specs.declared.limits.TheConstants.{CALL_LIMIT}
use Rattle.seq_model.specs.declared.refusal.Refusal.TheVariants as refusal
use Rattle.tx_machine.specs.Content.{Content}
use Rattle.tx_machine.specs.Boosted.{Boosted, Action, OnWords, TakeGate, PutGate, Accept, GoHome, accepted, acts, changes, every}
use Rattle.tx_machine.specs.Boosted.{is_given, is_held, is_open, is_sound, longer, may_write, on_ask, requested, shadows_after}
use Rattle.tx_machine.specs.Boosted.{word_step, writes_asked}
use Rattle.tx_machine.proofs.Runs.{recorded_words}
use Rattle.replay_log.proofs.SetLemmas.{home_words, put_words, take_words}
use Rattle.replay_log.specs.Contents.{CollectionCall, CallWithOutcome, content}
use Rattle.replay_log.specs.Pieces.{piece_at, covers_at}
use Rattle.replay_log.specs.Worlds.{World, Seat, Stage, Idle, Beginning, Open, Locking, Releasing, Closing, Cancelling, Leaving, Reading}
use Rattle.replay_log.specs.Worlds.{Trying, Copying, Loading, Gating, Ready, Storing, Homing, Returning, After, has_room, with_editions}
use Rattle.replay_log.specs.Worlds.{with_piece, sized_by, is_fresh, judges, at_stage, because, seated, acted, asks, moves, actor_of}
use Rattle.replay_log.specs.Worlds.{word_notice, cancels, gives_up, reads, outcome_at, loads, answers, calls_on, if_allowed, ask_op}
use Rattle.replay_log.specs.Worlds.{commits, ask_at, recorded, has_begun, has_read, has_tried, has_loaded, takes_gates}
use Rattle.replay_log.specs.Worlds.{has_locked, goes_home, has_stored, has_released, has_cancelled, starve_at, step_at}

-- neither a begin nor a lock
abbrev pub IsPlainAsk : word.Request → Type 0
IsPlainAsk word.AskBegin = ⊥
IsPlainAsk word.AskBeginRead = ⊥
IsPlainAsk word.AskLock = ⊥
IsPlainAsk q = Unit {0}

-- such an action of a
abbrev pub IsPlainAction : {Op : Type 0} → ℕ → Action Op → Type 0
IsPlainAction a (OnWords (world.Ask b q)) = (b ≡ a) × IsPlainAsk q
IsPlainAction a (OnWords (world.Step b)) = b ≡ a
IsPlainAction a (TakeGate b k) = b ≡ a
IsPlainAction a (PutGate b k which) = b ≡ a
IsPlainAction a (Accept b op) = b ≡ a
IsPlainAction a (GoHome b k) = b ≡ a

-- ---- an action
module _ {X Op Out : Type 0} (c : Content X Op Out) (a : ℕ) (P : Words → Type 0)
    (asked : (s : Words) (q : word.Request) → IsPlainAsk q → P s → P (world.happens s (world.Ask a q)))
    (stepped : (s : Words) → P s → P (world.happens s (world.Step a))) where
  abbrev In : Boosted X Out → Type 0
  In s = P s.words

  on_ask_keeps : (s : Boosted X Out) (q : word.Request) → IsPlainAsk q → In s → In (on_ask c s a q)
  on_ask_keeps s (word.AskWrite l v) m h =
      cond_both (c.plain l) (requested s a (word.AskWrite l v)) s In (λ _. asked s.words (word.AskWrite l v) tt h) (λ _. h)
  on_ask_keeps s word.AskStore m h =
      cond_both (every (is_held c s a) (locations (s.words.actors a).writes)) (requested s a word.AskStore) s In
      (λ _. asked s.words word.AskStore tt h) (λ _. h)
  on_ask_keeps s word.AskRelease m h =
      cond_both (every (is_given c s a) (locations (s.words.actors a).writes)) (requested s a word.AskRelease) s In
      (λ _. asked s.words word.AskRelease tt h) (λ _. h)
  on_ask_keeps s word.AskBegin m h = absurd m
  on_ask_keeps s word.AskBeginRead m h = absurd m
  on_ask_keeps s word.AskLock m h = absurd m
  on_ask_keeps s word.AskCancel m h = asked s.words word.AskCancel tt h
  on_ask_keeps s word.AskAbort m h = asked s.words word.AskAbort tt h
  on_ask_keeps s word.AskClose m h = asked s.words word.AskClose tt h
  on_ask_keeps s (word.AskRead l) m h = asked s.words (word.AskRead l) tt h

  word_step_keeps : (s : Boosted X Out) → In s → In (word_step s a (s.words.actors a) (s.words.actors a).place)
  word_step_keeps s h =
      let y = s.words.actors a in
      let t : Boosted X Out = record s { words = world.step s.words a y y.place; shadows = shadows_after s a y.place } in
      subst P (sym (recorded_words t (s.shadows a).outcomes (world.step_end a y y.place))) (stepped s.words h)

  writes_keep : (editions : ℕ → ℕ) (ls : List ℕ) (s : Words) → P s → P (world.run (writes_asked a editions ls) s)
  writes_keep editions [] s h = h
  writes_keep editions (l ∷ ls) s h =
      writes_keep editions ls (world.happens s (world.Ask a (word.AskWrite l (editions l + 1))))
      (asked s (word.AskWrite l (editions l + 1)) tt h)

  accepted_keeps : (s : Boosted X Out) (o : Out) → In s → In (accepted c s a o)
  accepted_keeps s o h =
      let y = s.words.actors a in
      cond_both (is_open y.place && (may_write y.declared (c.writes o) && every (is_sound c s a) (c.reads o)))
      (record s {
        words = world.run (writes_asked a (s.shadows a).editions (c.writes o)) s.words;
        shadows = world.put s.shadows a (longer (s.shadows a) o);
      }) s In (λ _. writes_keep (s.shadows a).editions (c.writes o) s.words h) (λ _. h)

  pub acts_keep : (s : Boosted X Out) (e : Action Op) → IsPlainAction a e → In s → In (acts c s e)
  acts_keep s (OnWords (world.Ask b q)) m h = subst (λ i. In (on_ask c s i q)) (sym m.0) (on_ask_keeps s q m.1 h)
  acts_keep s (OnWords (world.Step b)) m h =
      subst (λ i. In (word_step s i (s.words.actors i) (s.words.actors i).place)) (sym m) (word_step_keeps s h)
  acts_keep s (TakeGate b k) m h = subst P (sym (take_words c s b k)) h
  acts_keep s (PutGate b k which) m h = subst P (sym (put_words c s b k which)) h
  acts_keep s (Accept b op) m h =
      subst (λ i. In (accepted c s i (c.outcome (changes c (s.shadows i).outcomes (s.shadows i).parts) op))) (sym m)
      (accepted_keeps s (c.outcome (changes c (s.shadows a).outcomes (s.shadows a).parts) op) h)
  acts_keep s (GoHome b k) m h = subst P (sym (home_words c s b k)) h

-- ---- the functions of the definitions
module _ {V : Type 0} (a : ℕ) (P : Words → Type 0)
    (asked : (s : Words) (q : word.Request) → IsPlainAsk q → P s → P (world.happens s (world.Ask a q)))
    (stepped : (s : Words) → P s → P (world.happens s (world.Step a))) where
  abbrev pub KeptAt : World V → Type 0
  KeptAt u = P u.boosted.words

  abbrev pub Kept : After V → Type 0
  Kept r = KeptAt r.0

  act_keeps : (u : World V) (e : Action (CollectionCall V)) → IsPlainAction a e → KeptAt u → KeptAt (acted u (e ∷ []))
  act_keeps u e m h = acts_keep (content u.words u.blocks) a P asked stepped u.boosted e m h

  pub cancels_keep : (u : World V) (x : Seat V) → KeptAt u → KeptAt (cancels u a x)
  cancels_keep u x h =
      act_keeps (acted u (asks a word.AskCancel ∷ [])) (asks a word.AskAbort) (refl, tt) (act_keeps u (asks a word.AskCancel) (refl, tt) h)

  pub gives_up_keeps : (u : World V) (x : Seat V) (ks : List ℕ) → KeptAt u → Kept (gives_up u a x ks)
  gives_up_keeps u x [] h = cancels_keep u x h
  gives_up_keeps u x (k ∷ ks) h = h

  fresh_keeps : (u : World V) (x : Seat V) (d : ℕ × ℕ) (i : ℕ) (next : After V) → KeptAt u → Kept next → Kept (is_fresh u a x d i next)
  fresh_keeps u x d i next h m =
      cond_both {A = After V} (eqb d.1 i) next _ Kept (λ _. m) (λ _. gives_up_keeps u (because x (refusal.Stale d.0 d.1 i)) [] h)

  judges_keep : (u : World V) (x : Seat V) (o : CallWithOutcome V) (d : ℕ × ℕ) (es : Entries) (next : After V) (r : Option ℕ) → KeptAt u
      → Kept next → Kept (judges u a x o d es next r)
  judges_keep u x o d es next None h m = act_keeps u (asks a (word.AskRead d.0)) (refl, tt) h
  judges_keep u x o d es next (Some i) h m = fresh_keeps u x d i next h m

  loads_keep : (es : Entries) (u : World V) (x : Seat V) (o : CallWithOutcome V) → KeptAt u → Kept (loads u a x o es)
  loads_keep [] u x o h = act_keeps u (Accept a o.asked) refl h
  loads_keep (d ∷ es) u x o h = judges_keep u x o d es (loads u a x o es) (lookup (actor_of u a).reads d.0) h (loads_keep es u x o h)

  answers_keep : (u : World V) (before x : Seat V) (sized o : CallWithOutcome V) (editions : ℕ → ℕ) → KeptAt u
      → Kept (answers u a before x sized o editions)
  answers_keep u before x sized o editions h =
      let c = content u.words u.blocks in
      cond_both {A = After V} (has_room (actor_of u a) (c.reads sized) (c.writes sized))
      (loads u a x o (with_editions editions (c.reads o)))
      (seated u a (at_stage before Open), Refused a refusal.TooLong) Kept
      (λ _. loads_keep (with_editions editions (c.reads o)) u x o h) (λ _. h)

  reads_keep : (u : World V) (x : Seat V) (l : ℕ) (m : told.Notice) → KeptAt u → Kept (reads u a x l m)
  reads_keep u x l (told.Number i) h = act_keeps u (asks a (word.AskRead l)) (refl, tt) h
  reads_keep u x l m h = act_keeps u (asks a (word.AskRead l)) (refl, tt) h

  calls_on_keep : (u : World V) (x : Seat V) (asked : CollectionCall V) → KeptAt u → Kept (calls_on u a x asked)
  calls_on_keep u x asked h =
      let editions = (u.boosted.shadows a).editions in
      let o = outcome_at u a asked in
      cond_both {A = After V} (x.copied asked.collection (piece_at u.blocks asked)) (answers u a x x o o editions) _ Kept
      (λ _. answers_keep u x x o o editions h) (λ _. h)

  allowed_keeps : (u : World V) (x : Seat V) (known room : Bool) (next : After V) → KeptAt u → Kept next
      → Kept (if_allowed u a x known room next)
  allowed_keeps u x known room next h m =
      cond_both {A = After V} known _ (u, Refused a refusal.NoSuch) Kept
      (λ _. cond_both {A = After V} (ltb (length x.calls) CALL_LIMIT && room) next (u, Refused a refusal.TooLong) Kept (λ _. m) (λ _. h))
      (λ _. h)

  pub op_keeps : (u : World V) (x : Seat V) (t : ℕ) (op : Op V) → KeptAt u → Kept (ask_op u a x t op)
  op_keeps u x t Read h = allowed_keeps u x _ _ _ h (reads_keep u x t _ h)
  op_keeps u x t (Write i) h = allowed_keeps u x _ _ _ h (act_keeps u (asks a (word.AskWrite t i)) (refl, tt) h)
  op_keeps u x t op h = allowed_keeps u x _ _ _ h (calls_on_keep u x (record { collection = t; op = op }) h)

  begun_keeps : (u : World V) (x : Seat V) (m : told.Notice) → KeptAt u → Kept (has_begun u a x m)
  begun_keeps u x (told.Begun rv) h = h
  begun_keeps u x (told.Exhausted clock) h = h
  begun_keeps u x m h = h

  read_keeps : (u : World V) (x : Seat V) (l : ℕ) (m : told.Notice) → KeptAt u → Kept (has_read u a x l m)
  read_keeps u x l (told.Number i) h = h
  read_keeps u x l (told.Moved i w) h = gives_up_keeps u (because x (refusal.Moved i w)) [] h
  read_keeps u x l m h = h

  tried_keeps : (u : World V) (x : Seat V) (free : Bool) (k : ℕ) (got : List ℕ) (again : ℕ → Stage V) (next : Stage V) (tries : ℕ)
      → KeptAt u → Kept (has_tried u a x free k got again next tries)
  tried_keeps u x free k got again next zero h =
      cond_both {A = After V} free (seated u a (at_stage x next), Quiet) _ Kept (λ _. h)
      (λ _. gives_up_keeps u (because x (refusal.GateBusy k)) got h)
  tried_keeps u x free k got again next (suc m) h =
      cond_both {A = After V} free (seated u a (at_stage x next), Quiet) _ Kept (λ _. h) (λ _. h)

  loaded_keeps : (u : World V) (x : Seat V) (o : CallWithOutcome V) (d : ℕ × ℕ) (es : Entries) (m : told.Notice) → KeptAt u
      → Kept (has_loaded u a x o d es m)
  loaded_keeps u x o d es (told.Number i) h = fresh_keeps u x d i (loads u a x o es) h (loads_keep es u x o h)
  loaded_keeps u x o d es (told.Moved i w) h = gives_up_keeps u (because x (refusal.Moved i w)) [] h
  loaded_keeps u x o d es m h = h

  locked_keeps : (u : World V) (x : Seat V) (m : told.Notice) → KeptAt u → Kept (has_locked u a x m)
  locked_keeps u x (told.LockedAt wv) h = h
  locked_keeps u x (told.Busy l w) h = gives_up_keeps u (because x (refusal.Busy l w)) [] h
  locked_keeps u x (told.Invalid l w) h = gives_up_keeps u (because x (refusal.Invalid l w)) [] h
  locked_keeps u x m h = h

  home_keeps : (u : World V) (x : Seat V) (ks : List ℕ) → KeptAt u → Kept (goes_home u a x ks)
  home_keeps u x [] h = act_keeps u (asks a word.AskRelease) (refl, tt) h
  home_keeps u x (k ∷ ks) h = h

  stored_keeps : (u : World V) (x : Seat V) (ks : List ℕ) (m : told.Notice) → KeptAt u → Kept (has_stored u a x ks m)
  stored_keeps u x ks told.Stored h = home_keeps u x ks h
  stored_keeps u x ks m h = h

  released_keeps : (u : World V) (x : Seat V) (m : told.Notice) → KeptAt u → Kept (has_released u a x m)
  released_keeps u x told.Released h = h
  released_keeps u x m h = h

  cancelled_keeps : (u : World V) (x : Seat V) (m : told.Notice) → KeptAt u → Kept (has_cancelled u a x m)
  cancelled_keeps u x told.Cancelled h = act_keeps u (asks a word.AskAbort) (refl, tt) h
  cancelled_keeps u x m h = h

  pub step_keeps : (w : World V) (x : Seat V) (st : Stage V) → KeptAt w → Kept (step_at w a x st)
  step_keeps w x Idle h = h
  step_keeps w x Open h = h
  step_keeps w x Beginning h = begun_keeps _ x (word_notice w a) (act_keeps w (moves a) refl h)
  step_keeps w x (Reading l) h = read_keeps _ x l (word_notice w a) (act_keeps w (moves a) refl h)
  step_keeps w x (Trying asked tries) h =
      tried_keeps _ x _ asked.collection [] (λ m. Trying asked m) (Copying asked) tries (act_keeps w (TakeGate a asked.collection) refl h)
  step_keeps w x (Copying asked) h =
      let put = PutGate a asked.collection (covers_at w.words w.blocks asked) in
      let u = acted w (put ∷ []) in
      let o = outcome_at u a asked in
      answers_keep u x (with_piece x asked.collection (piece_at u.blocks asked)) (sized_by u a asked o) o u.boosted.editions
      (act_keeps w put refl h)
  step_keeps w x (Loading o []) h = h
  step_keeps w x (Loading o (d ∷ es)) h = loaded_keeps _ x o d es (word_notice w a) (act_keeps w (moves a) refl h)
  step_keeps w x Locking h = locked_keeps _ x (word_notice w a) (act_keeps w (moves a) refl h)
  step_keeps w x (Gating got [] tries) h = h
  step_keeps w x (Gating got (k ∷ ks) tries) h =
      tried_keeps _ x _ k got (λ m. Gating got (k ∷ ks) m) (takes_gates (got ++ k ∷ []) ks) tries (act_keeps w (TakeGate a k) refl h)
  step_keeps w x (Ready ks) h =
      let ready = acted w (asks a word.AskStore ∷ []) in
      stored_keeps (recorded (acted ready (moves a ∷ [])) a x true x.wv) x ks (word_notice ready a)
      (act_keeps ready (moves a) refl (act_keeps w (asks a word.AskStore) (refl, tt) h))
  step_keeps w x (Storing ks) h = stored_keeps _ x ks (word_notice w a) (act_keeps w (moves a) refl h)
  step_keeps w x (Homing []) h = h
  step_keeps w x (Homing (k ∷ ks)) h = home_keeps (acted w (GoHome a k ∷ [])) x ks (act_keeps w (GoHome a k) refl h)
  step_keeps w x Releasing h = released_keeps _ x (word_notice w a) (act_keeps w (moves a) refl h)
  step_keeps w x Closing h = act_keeps w (moves a) refl h
  step_keeps w x (Returning []) h = h
  step_keeps w x (Returning (k ∷ ks)) h = gives_up_keeps _ x ks (act_keeps w (PutGate a k (λ l. false)) refl h)
  step_keeps w x Cancelling h = cancelled_keeps _ x (word_notice w a) (act_keeps w (moves a) refl h)
  step_keeps w x Leaving h = act_keeps w (moves a) refl h

  -- ---- requests
  module _ (locked : (s : Words) → P s → P (world.happens s (world.Ask a word.AskLock))) where
    commit_keeps : (w : World V) (x : Seat V) (es : Entries) → KeptAt w → Kept (commits w a x es)
    commit_keeps w x [] h = act_keeps w (asks a word.AskClose) (refl, tt) h
    commit_keeps w x (e ∷ es) h = locked w.boosted.words h

    pub ask_open_keeps : (w : World V) (x : Seat V) (q : Request V) → KeptAt w → Kept (ask_at w a x Open q)
    ask_open_keeps w x request.Begin h = h
    ask_open_keeps w x request.BeginRead h = h
    ask_open_keeps w x (request.Call call) h = op_keeps w x call.target call.op h
    ask_open_keeps w x request.Commit h = commit_keeps w x (actor_of w a).writes h
    ask_open_keeps w x request.Abort h = cancels_keep w (record x { cause = None }) h

  -- ---- a failed allocation
  pub starve_keeps : (w : World V) (x : Seat V) (st : Stage V) → KeptAt w → Kept (starve_at w a x st)
  starve_keeps w x Beginning h = act_keeps w (asks a word.AskAbort) (refl, tt) h
  starve_keeps w x (Reading l) h = gives_up_keeps w (because x refusal.Memory) [] h
  starve_keeps w x (Trying asked tries) h = gives_up_keeps w (because x refusal.Memory) [] h
  starve_keeps w x (Copying asked) h = gives_up_keeps w (because x refusal.Memory) (asked.collection ∷ []) h
  starve_keeps w x (Loading o es) h = gives_up_keeps w (because x refusal.Memory) [] h
  starve_keeps w x Locking h = gives_up_keeps w (because x refusal.Memory) [] h
  starve_keeps w x (Gating got ks tries) h = gives_up_keeps w (because x refusal.Memory) got h
  starve_keeps w x (Ready ks) h = gives_up_keeps w (because x refusal.Memory) ks h
  starve_keeps w x Closing h = gives_up_keeps w (because x refusal.Memory) [] h
  starve_keeps w x st h = h
