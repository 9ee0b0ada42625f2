-- Each event is at most one atomic action of its actor.
--
-- The definitions do the action that is next, if any, and what they add is the actor's own: requests to its machine, calls taken over into
-- its shadow, its seat. Each of these leaves all that is shared, and other actors; so does one after another (`through`). The lemmas that
-- end in `_by` say it of each function of the definitions, from a world that has so changed on.
use Rattle.std.proofs.Common.{◌≡◌, ℕ, zero, suc, ◌+◌, Bool, true, false, ◌&&◌, List, [], ◌∷◌, ◌++◌, Option, Some, None, ◌≢◌, refl, ap, ◌∙◌}
use Rattle.std.proofs.Common.{eqb, ltb, length, ◌≤◌, le_refl, arith}
use Rattle.std.proofs.lemmas.Bool.{cond_both}
use Rattle.tx_sets.specs.Entries.{Entries, lookup}
use Rattle.tx_machine.specs.Actor.{Actor}
use Rattle.tx_machine.specs.Requests as word
use Rattle.tx_machine.specs.World as machine
use Rattle.tx_machine.specs.Cells.{Cell, ClockCell, LockCell, ValueCell, cell}
use Rattle.tx_machine.specs.Notices as told
use Rattle.tx_machine.proofs.Sets.{put-same, put-other}
use Rattle.seq_model.specs.declared.call.Op.{Op}
use Rattle.seq_model.specs.declared.call.Op.TheVariants.{Read, Write}
use Rattle.seq_model.specs.declared.refusal.Refusal.TheVariants as refusal
use Rattle.seq_model.specs.declared.event.Event.{Event}
use Rattle.seq_model.specs.declared.event.Event.TheVariants.{Ask, Step, Starve}
use Rattle.seq_model.specs.declared.event.Request.{Request}
use Rattle.seq_model.specs.declared.event.Request.TheVariants as request
use Rattle.seq_model.specs.declared.event.Notice.TheVariants.{Quiet, Refused}
use Rattle.seq_model.specs.declared.limits.TheConstants.{CALL_LIMIT}
use Rattle.tx_machine.specs.Content.{Content}
use Rattle.tx_machine.specs.Boosted.{Boosted, PutGate, Accept, is_open, is_sound, may_write, every, longer, on_words, writes_asked}
use Rattle.replay_log.specs.Base.{Shown}
use Rattle.replay_log.specs.Contents.{CollectionCall, CallWithOutcome as Outcomes, content, is_plain}
use Rattle.replay_log.specs.Pieces.{piece_at, covers_at}
use Rattle.replay_log.specs.Seats.{World, Seat, Stage, Idle, Beginning, Open, Locking, Releasing, Closing, Cancelling, Leaving, Reading}
use Rattle.replay_log.specs.Seats.{Trying, Copying, Loading, Gating, Ready, Storing, Homing, Returning, After, no_one, at_stage, because}
use Rattle.replay_log.specs.Seats.{seated, acted, asks, moves, actor_of, word_notice}
use Rattle.replay_log.specs.WorldCalls.{has_room, with_editions, is_fresh, judges, with_piece, reads, outcome_at, sized_by, loads, answers}
use Rattle.replay_log.specs.WorldCalls.{calls_on, if_allowed, ask_op, has_read, has_loaded}
use Rattle.replay_log.specs.WorldEnds.{cancels, gives_up, has_tried, has_cancelled}
use Rattle.replay_log.specs.WorldCommits.{commits, recorded, takes_gates, has_locked, goes_home, has_stored, has_released}
use Rattle.replay_log.specs.Worlds.{ask_at, has_begun, step_at, starve_at}
use Rattle.actor_laws.specs.Clock.{stamps_left}
use Rattle.actor_laws.proofs.Clock.{ask_left}
use Rattle.actor_laws.specs.Steps.{OnlyOwn, atomic_action, ready_at, ended_at, Does, IsOneAction}

module _ (a : ℕ) where
  now_cells : (s : machine.World) (x : Actor) (c : Cell) → cell (machine.now s a x) c ≡ cell s c
  now_cells s x ClockCell = refl
  now_cells s x (LockCell l) = refl
  now_cells s x (ValueCell l) = refl

  -- the writes that an accepted call asks
  writes_cells : (editions : ℕ → ℕ) (ls : List ℕ) (s : machine.World) (c : Cell) → cell (machine.run (writes_asked a editions ls) s) c
      ≡ cell s c
  writes_cells editions [] s c = refl
  writes_cells editions (l ∷ ls) s c =
      let x : Actor = word.ask (s.actors a) (s.actors a).place (word.AskWrite l (editions l + 1)) in
      writes_cells editions ls (machine.now s a x) c ∙ now_cells s x c

  writes_actors : (editions : ℕ → ℕ) (ls : List ℕ) (s : machine.World) (b : ℕ) → b ≢ a
      → (machine.run (writes_asked a editions ls) s).actors b ≡ s.actors b
  writes_actors editions [] s b ne = refl
  writes_actors editions (l ∷ ls) s b ne = writes_actors editions ls _ b ne ∙ put-other s.actors a _ b ne

  writes_left : (editions : ℕ → ℕ) (ls : List ℕ) (s : machine.World)
      → stamps_left ((machine.run (writes_asked a editions ls) s).actors a).place ≤ stamps_left (s.actors a).place
  writes_left editions [] s = le_refl _
  writes_left editions (l ∷ ls) s =
      let x : Actor = s.actors a in
      let y : Actor = word.ask x x.place (word.AskWrite l (editions l + 1)) in
      let p = writes_left editions ls (machine.now s a y) in
      let q = ask_left x x.place (word.AskWrite l (editions l + 1)) refl in
      let e = ap (λ (z : Actor). stamps_left z.place) (put-same s.actors a y) in
      omega arith

module _ {V : Type 0} (a : ℕ) where
  pub nothing : (v : World V) → OnlyOwn a v v
  nothing v = record {
    words = refl;
    blocks = refl;
    cells = λ c. refl;
    gates = λ k. refl;
    parts = λ l. refl;
    editions = λ l. refl;
    opening = refl;
    first = refl;
    actors = λ b ne. refl;
    shadows = λ b ne. refl;
    seats = λ b ne. refl;
    records = refl;
    aborted = refl;
    left = le_refl _;
  }

  pub through : (v u t : World V) → OnlyOwn a v u → OnlyOwn a u t → OnlyOwn a v t
  through v u t g h = record {
    words = h.words ∙ g.words;
    blocks = h.blocks ∙ g.blocks;
    cells = λ c. h.cells c ∙ g.cells c;
    gates = λ k. h.gates k ∙ g.gates k;
    parts = λ l. h.parts l ∙ g.parts l;
    editions = λ l. h.editions l ∙ g.editions l;
    opening = h.opening ∙ g.opening;
    first = h.first ∙ g.first;
    actors = λ b ne. h.actors b ne ∙ g.actors b ne;
    shadows = λ b ne. h.shadows b ne ∙ g.shadows b ne;
    seats = λ b ne. h.seats b ne ∙ g.seats b ne;
    records = h.records ∙ g.records;
    aborted = h.aborted ∙ g.aborted;
    left = (let p = h.left in let q = g.left in omega arith);
  }

  seated_calm : (v : World V) (x : Seat V) → OnlyOwn a v (seated v a x)
  seated_calm v x = record {
    words = refl;
    blocks = refl;
    cells = λ c. refl;
    gates = λ k. refl;
    parts = λ l. refl;
    editions = λ l. refl;
    opening = refl;
    first = refl;
    actors = λ b ne. refl;
    shadows = λ b ne. refl;
    seats = λ b ne. put-other v.seats a x b ne;
    records = refl;
    aborted = refl;
    left = le_refl _;
  }

  -- the boosted part alone
  boosted_calm : World V → Boosted (Shown V) (Outcomes V) → World V
  boosted_calm v s = record v { boosted = s }

  asked_calm : (v : World V) (q : word.Request)
      → OnlyOwn a v (record v {
        boosted = on_words v.boosted
            (machine.now v.boosted.words a (word.ask (v.boosted.words.actors a) (v.boosted.words.actors a).place q));
      })
  asked_calm v q = record {
    words = refl;
    blocks = refl;
    cells = λ c. now_cells a v.boosted.words (word.ask (v.boosted.words.actors a) (v.boosted.words.actors a).place q) c;
    gates = λ k. refl;
    parts = λ l. refl;
    editions = λ l. refl;
    opening = refl;
    first = refl;
    actors = λ b ne. put-other v.boosted.words.actors a _ b ne;
    shadows = λ b ne. refl;
    seats = λ b ne. refl;
    records = refl;
    aborted = refl;
    left =
        (let x : Actor = v.boosted.words.actors a in
        let p = ask_left x x.place q refl in
        let e = ap (λ (y : Actor). stamps_left y.place) (put-same v.boosted.words.actors a (word.ask x x.place q)) in
        omega arith);
  }

  pub ask_calm : (v : World V) (q : word.Request) → OnlyOwn a v (acted v (asks a q ∷ []))
  ask_calm v (word.AskWrite l n) = cond_both {A = Boosted (Shown V) (Outcomes V)} (is_plain v.words v.blocks l) _ v.boosted
      (λ s. OnlyOwn a v (record v { boosted = s })) (λ _. asked_calm v (word.AskWrite l n)) (λ _. nothing v)
  ask_calm v word.AskStore = cond_both {A = Boosted (Shown V) (Outcomes V)} _ _ v.boosted (λ s. OnlyOwn a v (record v { boosted = s }))
      (λ _. asked_calm v word.AskStore) (λ _. nothing v)
  ask_calm v word.AskRelease = cond_both {A = Boosted (Shown V) (Outcomes V)} _ _ v.boosted (λ s. OnlyOwn a v (record v { boosted = s }))
      (λ _. asked_calm v word.AskRelease) (λ _. nothing v)
  ask_calm v word.AskBegin = asked_calm v word.AskBegin
  ask_calm v word.AskBeginRead = asked_calm v word.AskBeginRead
  ask_calm v word.AskLock = asked_calm v word.AskLock
  ask_calm v word.AskCancel = asked_calm v word.AskCancel
  ask_calm v word.AskAbort = asked_calm v word.AskAbort
  ask_calm v word.AskClose = asked_calm v word.AskClose
  ask_calm v (word.AskRead l) = asked_calm v (word.AskRead l)

  accept_calm : (v : World V) (q : CollectionCall V) → OnlyOwn a v (acted v (Accept a q ∷ []))
  accept_calm v q =
      let o : Outcomes V = outcome_at v a q in
      let c : Content (Shown V) (CollectionCall V) (Outcomes V) = content v.words v.blocks in
      let b = v.boosted in
      let t : Boosted (Shown V)
      (Outcomes V) = record b {
        words = machine.run (writes_asked a (b.shadows a).editions (c.writes o)) b.words;
        shadows = machine.put b.shadows a (longer (b.shadows a) o);
      } in
      cond_both {A = Boosted (Shown V) (Outcomes V)}
      (is_open (b.words.actors a).place &&
      (may_write (b.words.actors a).declared (c.writes o) && every (is_sound c b a) (c.reads o))) t b
      (λ z. OnlyOwn a v (record v { boosted = z }))
      (λ _. record {
        words = refl;
        blocks = refl;
        cells = λ d. writes_cells a (b.shadows a).editions (c.writes o) b.words d;
        gates = λ k. refl;
        parts = λ l. refl;
        editions = λ l. refl;
        opening = refl;
        first = refl;
        actors = λ d ne. writes_actors a (b.shadows a).editions (c.writes o) b.words d ne;
        shadows = λ d ne. put-other b.shadows a (longer (b.shadows a) o) d ne;
        seats = λ d ne. refl;
        records = refl;
        aborted = refl;
        left = writes_left a (b.shadows a).editions (c.writes o) b.words;
      })
      (λ _. nothing v)

  seated_by : (v u : World V) (x : Seat V) → OnlyOwn a v u → OnlyOwn a v (seated u a x)
  seated_by v u x g = through v u _ g (seated_calm u x)

  asks_by : (v u : World V) (x : Seat V) (q : word.Request) → OnlyOwn a v u → OnlyOwn a v (seated (acted u (asks a q ∷ [])) a x)
  asks_by v u x q g = seated_by v _ x (through v u _ g (ask_calm u q))

  accept_by : (v u : World V) (x : Seat V) (q : CollectionCall V) → OnlyOwn a v u → OnlyOwn a v (seated (acted u (Accept a q ∷ [])) a x)
  accept_by v u x q g = seated_by v _ x (through v u _ g (accept_calm u q))

  cancels_by : (v u : World V) (x : Seat V) → OnlyOwn a v u → OnlyOwn a v (cancels u a x)
  cancels_by v u x g =
      let s : World V = acted u (asks a word.AskCancel ∷ []) in
      seated_by v _ _ (through v s _ (through v u s g (ask_calm u word.AskCancel)) (ask_calm s word.AskAbort))

  gives_up_by : (v u : World V) (x : Seat V) (ks : List ℕ) → OnlyOwn a v u → OnlyOwn a v (gives_up u a x ks).0
  gives_up_by v u x [] g = cancels_by v u x g
  gives_up_by v u x (k ∷ ks) g = seated_by v u _ g

  fresh_by : (v u : World V) (x : Seat V) (d : ℕ × ℕ) (i : ℕ) (next : After V) → OnlyOwn a v u → OnlyOwn a v next.0
      → OnlyOwn a v (is_fresh u a x d i next).0
  fresh_by v u x d i next g h = cond_both {A = After V} (eqb d.1 i) next _ (λ z. OnlyOwn a v z.0) (λ _. h)
      (λ _. gives_up_by v u (because x (refusal.Stale d.0 d.1 i)) [] g)

  judges_by : (v u : World V) (x : Seat V) (o : Outcomes V) (d : ℕ × ℕ) (es : Entries) (next : After V) (r : Option ℕ) → OnlyOwn a v u
      → OnlyOwn a v next.0 → OnlyOwn a v (judges u a x o d es next r).0
  judges_by v u x o d es next None g h = asks_by v u _ (word.AskRead d.0) g
  judges_by v u x o d es next (Some i) g h = fresh_by v u x d i next g h

  loads_by : (v u : World V) (x : Seat V) (o : Outcomes V) (es : Entries) → OnlyOwn a v u → OnlyOwn a v (loads u a x o es).0
  loads_by v u x o [] g = accept_by v u _ o.asked g
  loads_by v u x o (d ∷ es) g = judges_by v u x o d es (loads u a x o es) (lookup (actor_of u a).reads d.0) g (loads_by v u x o es g)

  answers_by : (v u : World V) (before x : Seat V) (sized o : Outcomes V) (editions : ℕ → ℕ) → OnlyOwn a v u
      → OnlyOwn a v (answers u a before x sized o editions).0
  answers_by v u before x sized o editions g =
      let c = content u.words u.blocks in
      cond_both {A = After V} (has_room (actor_of u a) (c.reads sized) (c.writes sized))
      (loads u a x o (with_editions editions (c.reads o)))
      (seated u a (at_stage before Open), Refused a refusal.TooLong) (λ z. OnlyOwn a v z.0)
      (λ _. loads_by v u x o (with_editions editions (c.reads o)) g) (λ _. seated_by v u _ g)

  reads_by : (v u : World V) (x : Seat V) (l : ℕ) (n : told.Notice) → OnlyOwn a v u → OnlyOwn a v (reads u a x l n).0
  reads_by v u x l (told.Number i) g = asks_by v u _ ((word.AskRead l)) g
  reads_by v u x l n g = asks_by v u _ ((word.AskRead l)) g

  calls_on_by : (v u : World V) (x : Seat V) (asked : CollectionCall V) → OnlyOwn a v u → OnlyOwn a v (calls_on u a x asked).0
  calls_on_by v u x asked g =
      let editions = (u.boosted.shadows a).editions in
      let o = outcome_at u a asked in
      cond_both {A = After V} (x.copied asked.collection (piece_at u.blocks asked)) (answers u a x x o o editions) _
      (λ z. OnlyOwn a v z.0)
      (λ _. answers_by v u x x o o editions g) (λ _. seated_by v u _ g)

  if_allowed_by : (v u : World V) (x : Seat V) (known room : Bool) (next : After V) → OnlyOwn a v u → OnlyOwn a v next.0
      → OnlyOwn a v (if_allowed u a x known room next).0
  if_allowed_by v u x known room next g h =
      cond_both {A = After V} known _ (u, Refused a refusal.NoSuch) (λ z. OnlyOwn a v z.0)
      (λ _. cond_both {A = After V} (ltb (length x.calls) CALL_LIMIT && room) next (u, Refused a refusal.TooLong) (λ z. OnlyOwn a v z.0)
      (λ _. h) (λ _. g))
      (λ _. g)

  ask_op_by : (v : World V) (x : Seat V) (t : ℕ) (op : Op V) → OnlyOwn a v (ask_op v a x t op).0
  ask_op_by v x t Read = if_allowed_by v v x _ _ _ (nothing v) (reads_by v v x t _ (nothing v))
  ask_op_by v x t (Write i) = if_allowed_by v v x _ _ _ (nothing v) (asks_by v v _ ((word.AskWrite t i)) (nothing v))
  ask_op_by v x t op = if_allowed_by v v x _ _ _ (nothing v) (calls_on_by v v x (record { collection = t; op = op }) (nothing v))

  commits_by : (v : World V) (x : Seat V) (es : Entries) → OnlyOwn a v (commits v a x es).0
  commits_by v x [] = asks_by v v _ (word.AskClose) (nothing v)
  commits_by v x (e ∷ es) = asks_by v v _ (word.AskLock) (nothing v)

  ask_by : (v : World V) (x : Seat V) (p : Stage V) (q : Request V) → OnlyOwn a v (ask_at v a x p q).0
  ask_by v x Idle request.Begin = asks_by v v _ (word.AskBegin) (nothing v)
  ask_by v x Idle request.BeginRead = asks_by v v _ (word.AskBeginRead) (nothing v)
  ask_by v x Idle q = nothing v
  ask_by v x Open request.Begin = nothing v
  ask_by v x Open request.BeginRead = nothing v
  ask_by v x Open (request.Call call) = ask_op_by v x call.target call.op
  ask_by v x Open request.Commit = commits_by v x (actor_of v a).writes
  ask_by v x Open request.Abort = cancels_by v v (record x { cause = None }) (nothing v)
  ask_by v x p q = nothing v

  -- ---- steps
  begun_by : (v u : World V) (x : Seat V) (n : told.Notice) → OnlyOwn a v u → OnlyOwn a v (has_begun u a x n).0
  begun_by v u x (told.Begun rv) g = seated_by v u _ g
  begun_by v u x (told.Exhausted clock) g = seated_by v u _ g
  begun_by v u x n g = g

  read_by : (v u : World V) (x : Seat V) (l : ℕ) (n : told.Notice) → OnlyOwn a v u → OnlyOwn a v (has_read u a x l n).0
  read_by v u x l (told.Number i) g = seated_by v u _ g
  read_by v u x l (told.Moved i w) g = gives_up_by v u (because x (refusal.Moved i w)) [] g
  read_by v u x l n g = g

  tried_by : (v u : World V) (x : Seat V) (free : Bool) (k : ℕ) (got : List ℕ) (again : ℕ → Stage V) (next : Stage V) (tries : ℕ)
      → OnlyOwn a v u → OnlyOwn a v (has_tried u a x free k got again next tries).0
  tried_by v u x free k got again next zero g =
      cond_both {A = After V} free (seated u a (at_stage x next), Quiet) _ (λ z. OnlyOwn a v z.0) (λ _. seated_by v u _ g)
      (λ _. gives_up_by v u (because x (refusal.GateBusy k)) got g)
  tried_by v u x free k got again next (suc n) g =
      cond_both {A = After V} free (seated u a (at_stage x next), Quiet) _ (λ z. OnlyOwn a v z.0) (λ _. seated_by v u _ g)
      (λ _. seated_by v u _ g)

  loaded_by : (v u : World V) (x : Seat V) (o : Outcomes V) (d : ℕ × ℕ) (es : Entries) (n : told.Notice) → OnlyOwn a v u
      → OnlyOwn a v (has_loaded u a x o d es n).0
  loaded_by v u x o d es (told.Number i) g = fresh_by v u x d i (loads u a x o es) g (loads_by v u x o es g)
  loaded_by v u x o d es (told.Moved i w) g = gives_up_by v u (because x (refusal.Moved i w)) [] g
  loaded_by v u x o d es n g = g

  locked_by : (v u : World V) (x : Seat V) (n : told.Notice) → OnlyOwn a v u → OnlyOwn a v (has_locked u a x n).0
  locked_by v u x (told.LockedAt wv) g = seated_by v u _ g
  locked_by v u x (told.Busy l w) g = gives_up_by v u (because x (refusal.Busy l w)) [] g
  locked_by v u x (told.Invalid l w) g = gives_up_by v u (because x (refusal.Invalid l w)) [] g
  locked_by v u x n g = g

  home_by : (v u : World V) (x : Seat V) (ks : List ℕ) → OnlyOwn a v u → OnlyOwn a v (goes_home u a x ks).0
  home_by v u x [] g = asks_by v u _ (word.AskRelease) g
  home_by v u x (k ∷ ks) g = seated_by v u _ g

  stored_by : (v u : World V) (x : Seat V) (ks : List ℕ) (n : told.Notice) → OnlyOwn a v u → OnlyOwn a v (has_stored u a x ks n).0
  stored_by v u x ks told.Stored g = home_by v u x ks g
  stored_by v u x ks n g = seated_by v u _ g

  released_by : (v u : World V) (x : Seat V) (n : told.Notice) → OnlyOwn a v u → OnlyOwn a v (has_released u a x n).0
  released_by v u x told.Released g = seated_by v u _ g
  released_by v u x n g = g

  cancelled_by : (v u : World V) (x : Seat V) (n : told.Notice) → OnlyOwn a v u → OnlyOwn a v (has_cancelled u a x n).0
  cancelled_by v u x told.Cancelled g = asks_by v u _ (word.AskAbort) g
  cancelled_by v u x n g = g

  -- what follows the action that is next
  step_by : (v : World V) (x : Seat V) (p : Stage V) → Does a (ready_at a v p) x p (atomic_action a v p) (step_at v a x p).0
  step_by v x Idle = nothing v
  step_by v x Open = nothing v
  step_by v x Beginning = (refl, begun_by _ _ x (word_notice v a) (nothing _))
  step_by v x (Reading l) = (refl, read_by _ _ x l (word_notice v a) (nothing _))
  step_by v x (Trying q tries) = (refl, tried_by _ _ x _ q.collection [] (λ n. Trying q n) (Copying q) tries (nothing _))
  step_by v x (Copying q) =
      let u = acted v (PutGate a q.collection (covers_at v.words v.blocks q) ∷ []) in
      let o = outcome_at u a q in
      (refl, answers_by u u x (with_piece x q.collection (piece_at u.blocks q)) (sized_by u a q o) o u.boosted.editions (nothing u))
  step_by v x (Loading o []) = nothing v
  step_by v x (Loading o (l ∷ ls)) = (refl, loaded_by _ _ x o l ls (word_notice v a) (nothing _))
  step_by v x Locking = (refl, locked_by _ _ x (word_notice v a) (nothing _))
  step_by v x (Gating got [] tries) = nothing v
  step_by v x (Gating got (k ∷ ks) tries) =
      (refl, tried_by _ _ x _ k got (λ n. Gating got (k ∷ ks) n) (takes_gates (got ++ k ∷ []) ks) tries (nothing _))
  step_by v x (Ready ks) =
      let ready : World V = acted v (asks a word.AskStore ∷ []) in
      let r : World V = recorded (acted ready (moves a ∷ [])) a x true x.wv in
      (refl, stored_by r r x ks (word_notice ready a) (nothing r))
  step_by v x (Storing ks) = (refl, stored_by _ _ x ks (word_notice v a) (nothing _))
  step_by v x (Homing []) = nothing v
  step_by v x (Homing (k ∷ ks)) = (refl, home_by _ _ x ks (nothing _))
  step_by v x Releasing = (refl, released_by _ _ x (word_notice v a) (nothing _))
  step_by v x Closing = let r : World V = recorded (acted v (moves a ∷ [])) a x false x.rv in (refl, seated_by r r _ (nothing r))
  step_by v x (Returning []) = nothing v
  step_by v x (Returning (k ∷ ks)) = (refl, gives_up_by _ _ x ks (nothing _))
  step_by v x Cancelling = (refl, cancelled_by _ _ x (word_notice v a) (nothing _))
  step_by v x Leaving = (refl, seated_calm (ended_at a x Leaving (acted v (moves a ∷ []))) no_one)

  starve_by : (v : World V) (x : Seat V) (p : Stage V) → OnlyOwn a v (starve_at v a x p).0
  starve_by v x Beginning = asks_by v v _ (word.AskAbort) (nothing v)
  starve_by v x (Reading l) = gives_up_by v v (because x refusal.Memory) [] (nothing v)
  starve_by v x (Trying asked tries) = gives_up_by v v (because x refusal.Memory) [] (nothing v)
  starve_by v x (Copying asked) = gives_up_by v v (because x refusal.Memory) (asked.collection ∷ []) (nothing v)
  starve_by v x (Loading o ls) = gives_up_by v v (because x refusal.Memory) [] (nothing v)
  starve_by v x Locking = gives_up_by v v (because x refusal.Memory) [] (nothing v)
  starve_by v x (Gating got ks tries) = gives_up_by v v (because x refusal.Memory) got (nothing v)
  starve_by v x (Ready ks) = gives_up_by v v (because x refusal.Memory) ks (nothing v)
  starve_by v x Closing = gives_up_by v v (because x refusal.Memory) [] (nothing v)
  starve_by v x p = nothing v

pub one_step : {V : Type 0} → (v : World V) (event : Event V) → IsOneAction v event
one_step v (Ask a q) = ask_by a v (v.seats a) (v.seats a).stage q
one_step v (Step a) = step_by a v (v.seats a) (v.seats a).stage
one_step v (Starve a) = starve_by a v (v.seats a) (v.seats a).stage
