-- A transaction that asks as its program says continues as its program says, whatever happens.
-- One pass over the functions of the definitions: each call joins the calls where the program asks it, and what is made of anything else
-- leaves the calls. A commit is answered by the last load of a reader and by the last release of a writer alone.
use Rattle.std.proofs.Common.{◌≡◌, ℕ, zero, suc, Bool, true, false, cond, ◌&&◌, List, [], ◌∷◌, ◌++◌, length, Option, Some, None}
use Rattle.std.proofs.Common.{refl, sym, ◌∙◌, ap, subst, eqb}
use Rattle.std.specs.Prelude.{nat_lt}
use Rattle.std.proofs.lemmas.Option.{none-some}
use Rattle.tx_sets.specs.Entries.{Entries, lookup}
use Rattle.tx_machine.specs.Requests as word
use Rattle.tx_machine.specs.Notices as told
use Rattle.tx_machine.proofs.Sets.{put-same}
use Rattle.seq_model.specs.declared.call.Call.{Call}
use Rattle.seq_model.specs.declared.call.Op.{Op}
use Rattle.seq_model.specs.declared.call.Op.TheVariants.{Read, Write}
use Rattle.seq_model.specs.declared.call.Reply.{Reply}
use Rattle.seq_model.specs.declared.call.Reply.TheVariants as reply
use Rattle.seq_model.specs.declared.record.Record.{Record}
use Rattle.seq_model.specs.declared.refusal.Refusal.{Refusal}
use Rattle.seq_model.specs.declared.refusal.Refusal.TheVariants as refusal
use Rattle.seq_model.specs.declared.event.Event.TheVariants.{Ask, Step, Starve}
use Rattle.seq_model.specs.declared.event.Request.{Request}
use Rattle.seq_model.specs.declared.event.Request.TheVariants as request
use Rattle.seq_model.specs.declared.event.Answer.TheVariants as answer
use Rattle.seq_model.specs.declared.event.Notice.{Notice}
use Rattle.seq_model.specs.declared.event.Notice.TheVariants.{Quiet, Answered, Refused}
use Rattle.seq_model.specs.declared.limits.TheConstants.{CALL_LIMIT}
use Rattle.tx_machine.specs.Boosted.{TakeGate, PutGate, Accept, GoHome, is_none}
use Rattle.replay_log.specs.Contents.{CollectionCall, CallWithOutcome as Outcomes, content}
use Rattle.replay_log.specs.Pieces.{piece_at, covers_at}
use Rattle.replay_log.specs.Worlds.{World, Seat, Stage, Idle, Beginning, Open, Locking, Releasing, Closing, Cancelling, Leaving, Reading}
use Rattle.replay_log.specs.Worlds.{Trying, Copying, Loading, Gating, Ready, Storing, Homing, Returning, After, has_room, sized_by}
use Rattle.replay_log.specs.Worlds.{with_editions, at_stage, because, seated, acted, asks, moves, actor_of, word_notice, no_one, is_leaving}
use Rattle.replay_log.specs.Worlds.{gives_up, with_call, replied, reads, outcome_at, reply_of, call_of, is_fresh, judges, loads, answers}
use Rattle.replay_log.specs.Worlds.{calls_on, if_allowed, ask_op, commits, ask_at, recorded, has_begun, has_read, has_tried, with_piece}
use Rattle.replay_log.specs.Worlds.{has_loaded, takes_gates, written_homes, has_locked, goes_home, has_stored, has_released, has_cancelled}
use Rattle.replay_log.specs.Worlds.{why, step_at, starve_at, happens, more_tries}
use Rattle.replay_log.specs.WorldReplies.{as_call}
use Rattle.replay_log.specs.WorldTraces.{committed_by}
use Rattle.seq_model.specs.declared.job.Ask.{Ask as AnAsk}
use Rattle.seq_model.specs.declared.job.Ask.TheVariants as ask
use Rattle.seq_model.specs.Programs.{Program, Asks, Answers, GivesUp, Follows, after, asked, replies_of}
use Rattle.seq_model.proofs.ProgramLemmas.{done_call, follows_after, give_up_call, same_call}

-- it answers no commit
abbrev pub TellsNoCommit : {V : Type 0} → Notice V → Type 0
TellsNoCommit (Answered a (answer.Committed n)) = ⊥
TellsNoCommit n = Unit {0}

call_done : {V : Type 0} (c : Call V) → ask.Call c ≡ ask.Done → ⊥
call_done c e = cc

gone_done : {V : Type 0} → ◌≡◌ {A = AnAsk V} ask.GiveUp ask.Done → ⊥
gone_done e = cc

module _ {V A : Type 0} where
  -- these calls were made, and this one is the next
  abbrev pub AsksNext : Program V A → List (Call V × Reply V) → Call V → Type 0
  AsksNext p calls call = (next : Reply V → Program V A) × Follows p calls (Asks call next)

  -- these are all calls
  abbrev pub IsWhole : Program V A → List (Call V × Reply V) → Type 0
  IsWhole p calls = (x : A) × Follows p calls (Answers x)

  -- What a stage says of the calls that its transaction has made: they are those that the program asks, the call under way is the next
  -- one, and a transaction that commits has made them all. N is what is known of the number at which it began.
  abbrev pub FollowsAt : Type 0 → Program V A → List (Call V × Reply V) → Stage V → Type 0
  FollowsAt N p calls Open = N × ((rest : Program V A) × Follows p calls rest)
  FollowsAt N p calls (Reading l) = N × AsksNext p calls (record { target = l; op = Read })
  FollowsAt N p calls (Trying asked tries) = N × AsksNext p calls (as_call asked)
  FollowsAt N p calls (Copying asked) = N × AsksNext p calls (as_call asked)
  FollowsAt N p calls (Loading o left) = N × AsksNext p calls (call_of o)
  FollowsAt N p calls Locking = N × IsWhole p calls
  FollowsAt N p calls (Gating got ks tries) = N × IsWhole p calls
  FollowsAt N p calls (Ready ks) = N × IsWhole p calls
  FollowsAt N p calls Closing = N × IsWhole p calls
  FollowsAt N p calls stage = Unit {0}

  -- what is known of the number may change
  pub follows_map : (N M : Type 0) (p : Program V A) (calls : List (Call V × Reply V)) (st : Stage V) → (N → M) → FollowsAt N p calls st
      → FollowsAt M p calls st
  follows_map N M p calls Open to f = (to f.0, f.1)
  follows_map N M p calls (Reading l) to f = (to f.0, f.1)
  follows_map N M p calls (Trying asked tries) to f = (to f.0, f.1)
  follows_map N M p calls (Copying asked) to f = (to f.0, f.1)
  follows_map N M p calls (Loading o left) to f = (to f.0, f.1)
  follows_map N M p calls Locking to f = (to f.0, f.1)
  follows_map N M p calls (Gating got ks tries) to f = (to f.0, f.1)
  follows_map N M p calls (Ready ks) to f = (to f.0, f.1)
  follows_map N M p calls Closing to f = (to f.0, f.1)
  follows_map N M p calls st to f = tt

  -- a reply to the call that the program asks takes it on
  joined : (p : Program V A) (calls : List (Call V × Reply V)) (call : Call V) (next : Reply V → Program V A) (r : Reply V)
      → Follows p calls (Asks call next) → Follows p (calls ++ (call, r) ∷ []) (next r)
  joined p [] call next r f = subst (λ q. Follows q ((call, r) ∷ []) (next r)) (sym f) (refl, refl)
  joined (Asks c on) (d ∷ ds) call next r f = (f.0, joined (on d.1) ds call next r f.1)
  joined (Answers a) (d ∷ ds) call next r f = absurd f
  joined GivesUp (d ∷ ds) call next r f = absurd f

module _ {V A : Type 0} (P : ℕ → Type 0) (p : Program V A) where
  abbrev pub IsFollowing : Seat V → Type 0
  IsFollowing x = FollowsAt (P x.rv) p x.calls x.stage

  -- the seat of a follows the program, and no commit was answered
  abbrev pub Goes : ℕ → After V → Type 0
  Goes a r = IsFollowing (r.0.seats a) × TellsNoCommit r.1

  sits : (u : World V) (a : ℕ) (x : Seat V) (n : Notice V) → IsFollowing x → TellsNoCommit n → Goes a (seated u a x, n)
  sits u a x n h t = (subst IsFollowing (sym (put-same u.seats a x)) h, t)

  stays : (u : World V) (a : ℕ) (x : Seat V) (st : Stage V) (n : Notice V) → u.seats a ≡ x → x.stage ≡ st → FollowsAt (P x.rv) p x.calls st
      → TellsNoCommit n → Goes a (u, n)
  stays u a x st n seat at h t = (subst IsFollowing (sym seat) (subst (FollowsAt (P x.rv) p x.calls) (sym at) h), t)

  choose : (a : ℕ) (b : Bool) (r s : After V) → Goes a r → Goes a s → Goes a (cond b r s)
  choose a true r s h g = h
  choose a false r s h g = g

  given_up : (u : World V) (a : ℕ) (x : Seat V) (ks : List ℕ) → Goes a (gives_up u a x ks)
  given_up u a x [] =
      let t = acted u (asks a word.AskCancel ∷ asks a word.AskAbort ∷ []) in
      let b = is_leaving (actor_of t a).place in
      sits t a (at_stage x (cond b Leaving Cancelling)) Quiet (by b) tt
    where
      by : (b : Bool) → FollowsAt (P x.rv) p x.calls (cond b Leaving Cancelling)
      by true = tt
      by false = tt
  given_up u a x (k ∷ ks) = sits u a (at_stage x (Returning (k ∷ ks))) Quiet tt tt

  -- ---- a call
  answered : (u : World V) (a : ℕ) (x : Seat V) (c : Call V) (r : Reply V) → (P x.rv × AsksNext p x.calls c) → Goes a (replied u a x c r)
  answered u a x c r next =
      sits u a (with_call x c r) (Answered a (answer.Replied r)) (next.0, (next.1.0 r, joined p x.calls c next.1.0 r next.1.1)) tt

  fresh : (u : World V) (a : ℕ) (x : Seat V) (d : ℕ × ℕ) (v : ℕ) (next : After V) → Goes a next → Goes a (is_fresh u a x d v next)
  fresh u a x d v next h = choose a (eqb d.1 v) next _ h (given_up u a (because x (refusal.Stale d.0 d.1 v)) [])

  judged : (u : World V) (a : ℕ) (x : Seat V) (o : Outcomes V) (d : ℕ × ℕ) (es : Entries) (next : After V) (v : Option ℕ)
      → (P x.rv × AsksNext p x.calls (call_of o)) → Goes a next → Goes a (judges u a x o d es next v)
  judged u a x o d es next None c h = sits (acted u (asks a (word.AskRead d.0) ∷ [])) a (at_stage x (Loading o (d ∷ es))) Quiet c tt
  judged u a x o d es next (Some v) c h = fresh u a x d v next h

  loaded : (es : Entries) (u : World V) (a : ℕ) (x : Seat V) (o : Outcomes V) → (P x.rv × AsksNext p x.calls (call_of o))
      → Goes a (loads u a x o es)
  loaded [] u a x o c = answered (acted u (Accept a o.asked ∷ [])) a x (call_of o) (reply_of o) c
  loaded (d ∷ es) u a x o c = judged u a x o d es (loads u a x o es) (lookup (actor_of u a).reads d.0) c (loaded es u a x o c)

  -- of a call for which there is no room, the calls before it are unchanged
  open_still : (N : Type 0) (calls : List (Call V × Reply V)) (c : Call V) → N × AsksNext p calls c → FollowsAt N p calls Open
  open_still N calls c next = (next.0, (Asks c next.1.0, next.1.1))

  with_answer : (u : World V) (a : ℕ) (before x : Seat V) (sized o : Outcomes V) (editions : ℕ → ℕ)
      → (P before.rv × AsksNext p before.calls (call_of o))
      → (P x.rv × AsksNext p x.calls (call_of o)) → Goes a (answers u a before x sized o editions)
  with_answer u a before x sized o editions old c =
      let d = content u.words u.blocks in
      let es = with_editions editions (d.reads o) in
      choose a (has_room (actor_of u a) (d.reads sized) (d.writes sized)) (loads u a x o es) _ (loaded es u a x o c)
      (sits u a (at_stage before Open) (Refused a refusal.TooLong) (open_still (P before.rv) before.calls (call_of o) old) tt)

  called_on : (w : World V) (a : ℕ) (x : Seat V) (asked : CollectionCall V) → (P x.rv × AsksNext p x.calls (as_call asked))
      → Goes a (calls_on w a x asked)
  called_on w a x asked c =
      let o = outcome_at w a asked in
      choose a (x.copied asked.collection (piece_at w.blocks asked)) _ _ (with_answer w a x x o o (w.boosted.shadows a).editions c c)
      (sits w a (at_stage x (Trying asked more_tries)) Quiet c tt)

  allowed : (w : World V) (a : ℕ) (x : Seat V) (known room : Bool) (next : After V) → w.seats a ≡ x → x.stage ≡ Open
      → FollowsAt (P x.rv) p x.calls Open → Goes a next → Goes a (if_allowed w a x known room next)
  allowed w a x known room next seat at f h =
      choose a known _ _
      (choose a (nat_lt (length x.calls) CALL_LIMIT && room) next _ h (stays w a x Open (Refused a refusal.TooLong) seat at f tt))
      (stays w a x Open (Refused a refusal.NoSuch) seat at f tt)

  word_read : (w : World V) (a : ℕ) (x : Seat V) (l : ℕ) (n : told.Notice)
      → (P x.rv × AsksNext p x.calls (record { target = l; op = Read }))
      → Goes a (reads w a x l n)
  word_read w a x l (told.Number v) c =
      answered (acted w (asks a (word.AskRead l) ∷ [])) a x (record { target = l; op = Read }) (reply.Number v) c
  word_read w a x l n c = sits (acted w (asks a (word.AskRead l) ∷ [])) a (at_stage x (Reading l)) Quiet c tt

  asked_op : (w : World V) (a : ℕ) (x : Seat V) (t : ℕ) (op : Op V) → w.seats a ≡ x → x.stage ≡ Open
      → (P x.rv × AsksNext p x.calls (record { target = t; op = op })) → Goes a (ask_op w a x t op)
  asked_op w a x t Read seat at c =
      allowed w a x _ _ _ seat at (open_still (P x.rv) x.calls (record { target = t; op = Read }) c) (word_read w a x t _ c)
  asked_op w a x t (Write v) seat at c =
      allowed w a x _ _ _ seat at (open_still (P x.rv) x.calls (record { target = t; op = Write v }) c)
      (answered (acted w (asks a (word.AskWrite t v) ∷ [])) a x (record { target = t; op = Write v }) reply.Done c)
  asked_op w a x t op seat at c =
      allowed w a x _ _ _ seat at (open_still (P x.rv) x.calls (record { target = t; op = op }) c)
      (called_on w a x (record { collection = t; op = op }) c)

  -- ---- a step of a call
  has_read_on : (u : World V) (a : ℕ) (x : Seat V) (l : ℕ) (n : told.Notice) → u.seats a ≡ x → x.stage ≡ Reading l
      → (P x.rv × AsksNext p x.calls (record { target = l; op = Read })) → Goes a (has_read u a x l n)
  has_read_on u a x l (told.Number v) seat at c = answered u a x (record { target = l; op = Read }) (reply.Number v) c
  has_read_on u a x l (told.Moved i found) seat at c = given_up u a (because x (refusal.Moved i found)) []
  has_read_on u a x l n seat at c = stays u a x (Reading l) Quiet seat at c tt

  has_loaded_on : (u : World V) (a : ℕ) (x : Seat V) (o : Outcomes V) (d : ℕ × ℕ) (es : Entries) (n : told.Notice) → u.seats a ≡ x
      → x.stage ≡ Loading o (d ∷ es) → (P x.rv × AsksNext p x.calls (call_of o)) → Goes a (has_loaded u a x o d es n)
  has_loaded_on u a x o d es (told.Number v) seat at c = fresh u a x d v (loads u a x o es) (loaded es u a x o c)
  has_loaded_on u a x o d es (told.Moved i found) seat at c = given_up u a (because x (refusal.Moved i found)) []
  has_loaded_on u a x o d es n seat at c = stays u a x (Loading o (d ∷ es)) Quiet seat at c tt

  tried_on : (u : World V) (a : ℕ) (x : Seat V) (free : Bool) (k : ℕ) (got : List ℕ) (again : ℕ → Stage V) (next : Stage V) (tries : ℕ)
      → FollowsAt (P x.rv) p x.calls next → ((n : ℕ) → FollowsAt (P x.rv) p x.calls (again n))
      → Goes a (has_tried u a x free k got again next tries)
  tried_on u a x free k got again next zero f g =
      choose a free _ _ (sits u a (at_stage x next) Quiet f tt) (given_up u a (because x (refusal.GateBusy k)) got)
  tried_on u a x free k got again next (suc n) f g =
      choose a free _ _ (sits u a (at_stage x next) Quiet f tt) (sits u a (at_stage x (again n)) Quiet (g n) tt)

  -- ---- a commit
  takes_on : (N : Type 0) (calls : List (Call V × Reply V)) (got ks : List ℕ) → N × IsWhole p calls
      → FollowsAt N p calls (takes_gates got ks)
  takes_on N calls got [] h = h
  takes_on N calls got (k ∷ ks) h = h

  locked_on : (u : World V) (a : ℕ) (x : Seat V) (n : told.Notice) → u.seats a ≡ x → x.stage ≡ Locking → (P x.rv × IsWhole p x.calls)
      → Goes a (has_locked u a x n)
  locked_on u a x (told.LockedAt wv) seat at h =
      sits u a (record x { stage = takes_gates [] (written_homes u a); wv = wv }) Quiet
      (takes_on (P x.rv) x.calls [] (written_homes u a) h) tt
  locked_on u a x (told.Busy l found) seat at h = given_up u a (because x (refusal.Busy l found)) []
  locked_on u a x (told.Invalid l found) seat at h = given_up u a (because x (refusal.Invalid l found)) []
  locked_on u a x n seat at h = stays u a x Locking Quiet seat at h tt

  home_on : (u : World V) (a : ℕ) (x : Seat V) (ks : List ℕ) → Goes a (goes_home u a x ks)
  home_on u a x [] = sits (acted u (asks a word.AskRelease ∷ [])) a (at_stage x Releasing) Quiet tt tt
  home_on u a x (k ∷ ks) = sits u a (at_stage x (Homing (k ∷ ks))) Quiet tt tt

  stored_on : (u : World V) (a : ℕ) (x : Seat V) (ks : List ℕ) (n : told.Notice) → Goes a (has_stored u a x ks n)
  stored_on u a x ks told.Stored = home_on u a x ks
  stored_on u a x ks n = sits u a (at_stage x (Storing ks)) Quiet tt tt

  -- ---- a begin and an end
  begun_on : (u : World V) (a : ℕ) (x : Seat V) (n : told.Notice) → u.seats a ≡ x → x.stage ≡ Beginning
      → ((rv : ℕ) → (has_begun u a x n).1 ≡ Answered a (answer.Begun rv) → P rv) → Goes a (has_begun u a x n)
  begun_on u a x (told.Begun rv) seat at number =
      sits u a (record no_one { stage = Open; rv = rv }) (Answered a (answer.Begun rv)) (number rv refl, (p, refl)) tt
  begun_on u a x (told.Exhausted clock) seat at number = sits u a no_one (Refused a (refusal.Exhausted clock)) tt tt
  begun_on u a x n seat at number = stays u a x Beginning Quiet seat at tt tt

  cancelled_on : (u : World V) (a : ℕ) (x : Seat V) (n : told.Notice) → u.seats a ≡ x → x.stage ≡ Cancelling
      → Goes a (has_cancelled u a x n)
  cancelled_on u a x told.Cancelled seat at = sits (acted u (asks a word.AskAbort ∷ [])) a (at_stage x Leaving) Quiet tt tt
  cancelled_on u a x n seat at = stays u a x Cancelling Quiet seat at tt tt

  why_on : (a : ℕ) (cause : Option Refusal) → TellsNoCommit (why {V = V} a cause)
  why_on a None = tt
  why_on a (Some r) = tt

  -- a commit may be answered by the next step
  abbrev pub IsLast : Stage V → Type 0
  IsLast Closing = Unit {0}
  IsLast Releasing = Unit {0}
  IsLast stage = ⊥

  stepped : (w : World V) (a : ℕ) (x : Seat V) (st : Stage V) → w.seats a ≡ x → x.stage ≡ st → FollowsAt (P x.rv) p x.calls st
      → (IsLast st → ⊥)
      → ((rv : ℕ) → st ≡ Beginning → (step_at w a x st).1 ≡ Answered a (answer.Begun rv) → P rv) → Goes a (step_at w a x st)
  stepped w a x Idle seat at f l number = stays w a x Idle (Refused a refusal.NoTransaction) seat at tt tt
  stepped w a x Open seat at f l number = stays w a x Open (Refused a refusal.NoTransaction) seat at f tt
  stepped w a x Beginning seat at f l number = begun_on (acted w (moves a ∷ [])) a x (word_notice w a) seat at (λ rv e. number rv refl e)
  stepped w a x (Reading i) seat at f l number = has_read_on (acted w (moves a ∷ [])) a x i (word_notice w a) seat at f
  stepped w a x (Trying asked tries) seat at f l number =
      tried_on (acted w (TakeGate a asked.collection ∷ [])) a x (is_none (w.boosted.gates asked.collection)) asked.collection []
      (λ n. Trying asked n) (Copying asked) tries f (λ n. f)
  stepped w a x (Copying asked) seat at f l number =
      let u = acted w (PutGate a asked.collection (covers_at w.words w.blocks asked) ∷ []) in
      let o = outcome_at u a asked in
      with_answer u a x (with_piece x asked.collection (piece_at w.blocks asked)) (sized_by u a asked o) o u.boosted.editions f f
  stepped w a x (Loading o []) seat at f l number = stays w a x (Loading o []) Quiet seat at f tt
  stepped w a x (Loading o (d ∷ es)) seat at f l number = has_loaded_on (acted w (moves a ∷ [])) a x o d es (word_notice w a) seat at f
  stepped w a x Locking seat at f l number = locked_on (acted w (moves a ∷ [])) a x (word_notice w a) seat at f
  stepped w a x (Gating got [] tries) seat at f l number = stays w a x (Gating got [] tries) Quiet seat at f tt
  stepped w a x (Gating got (k ∷ ks) tries) seat at f l number =
      tried_on (acted w (TakeGate a k ∷ [])) a x (is_none (w.boosted.gates k)) k got (λ n. Gating got (k ∷ ks) n)
      (takes_gates (got ++ k ∷ []) ks) tries (takes_on (P x.rv) x.calls (got ++ k ∷ []) ks f) (λ n. f)
  stepped w a x (Ready ks) seat at f l number =
      let ready = acted w (asks a word.AskStore ∷ []) in
      stored_on (recorded (acted ready (moves a ∷ [])) a x true x.wv) a x ks (word_notice ready a)
  stepped w a x (Storing ks) seat at f l number = stored_on (acted w (moves a ∷ [])) a x ks (word_notice w a)
  stepped w a x (Homing []) seat at f l number = stays w a x (Homing []) Quiet seat at tt tt
  stepped w a x (Homing (k ∷ ks)) seat at f l number = home_on (acted w (GoHome a k ∷ [])) a x ks
  stepped w a x Releasing seat at f l number = absurd (l tt)
  stepped w a x Closing seat at f l number = absurd (l tt)
  stepped w a x (Returning []) seat at f l number = stays w a x (Returning []) Quiet seat at tt tt
  stepped w a x (Returning (k ∷ ks)) seat at f l number = given_up (acted w (PutGate a k (λ l. false) ∷ [])) a x ks
  stepped w a x Cancelling seat at f l number = cancelled_on (acted w (moves a ∷ [])) a x (word_notice w a) seat at
  stepped w a x Leaving seat at f l number =
      (subst IsFollowing (sym (put-same w.seats a no_one)) tt, why_on a x.cause)

  released_on : (u : World V) (a : ℕ) (x : Seat V) (n : told.Notice) → u.seats a ≡ x → x.stage ≡ Releasing
      → IsFollowing ((has_released u a x n).0.seats a)
  released_on u a x told.Released seat at = subst IsFollowing (sym (put-same u.seats a no_one)) tt
  released_on u a x n seat at = (stays u a x Releasing Quiet seat at tt tt).0

  step_by : (w : World V) (a : ℕ) (x : Seat V) (st : Stage V) → w.seats a ≡ x → x.stage ≡ st → FollowsAt (P x.rv) p x.calls st
      → ((rv : ℕ) → st ≡ Beginning → (step_at w a x st).1 ≡ Answered a (answer.Begun rv) → P rv)
      → IsFollowing ((step_at w a x st).0.seats a)
  step_by w a x Closing seat at f number = subst IsFollowing (sym (put-same w.seats a no_one)) tt
  step_by w a x Releasing seat at f number = released_on (acted w (moves a ∷ [])) a x (word_notice w a) seat at
  step_by w a x st seat at f number = (stepped w a x st seat at f (λ l. l) number).0

  pub steps_follow : (w : World V) (a : ℕ) → IsFollowing (w.seats a)
      → ((rv : ℕ) → (w.seats a).stage ≡ Beginning → (happens w (Step a)).1 ≡ Answered a (answer.Begun rv) → P rv)
      → IsFollowing ((happens w (Step a)).0.seats a)
  steps_follow w a f number = step_by w a (w.seats a) (w.seats a).stage refl refl f number

  -- a step that commits leaves a stage that says nothing
  commits_by : (w : World V) (a : ℕ) (x : Seat V) (st : Stage V) (r : Record V) → committed_by x st ≡ Some r
      → IsFollowing ((step_at w a x st).0.seats a)
  commits_by w a x (Ready ks) r is =
      let ready = acted w (asks a word.AskStore ∷ []) in
      (stored_on (recorded (acted ready (moves a ∷ [])) a x true x.wv) a x ks (word_notice ready a)).0
  commits_by w a x Closing r is = subst IsFollowing (sym (put-same w.seats a no_one)) tt
  commits_by w a x st r is = absurd (none-some r is)

  pub commits_follow : (w : World V) (a : ℕ) (r : Record V) → committed_by (w.seats a) (w.seats a).stage ≡ Some r
      → IsFollowing ((happens w (Step a)).0.seats a)
  commits_follow w a r is = commits_by w a (w.seats a) (w.seats a).stage r is

  -- ---- requests
  whole_of : (calls : List (Call V × Reply V)) (rest : Program V A) → Follows p calls rest → asked rest ≡ ask.Done → IsWhole p calls
  whole_of calls (Asks c next) f is = absurd (call_done c is)
  whole_of calls (Answers a) f is = (a, f)
  whole_of calls GivesUp f is = absurd (gone_done is)

  next_of : (calls : List (Call V × Reply V)) (rest : Program V A) (call : Call V) → Follows p calls rest → asked rest ≡ ask.Call call
      → AsksNext p calls call
  next_of calls (Asks c next) call f is =
      (next, subst (λ d. Follows p calls (Asks d next)) (same_call c call is) f)
  next_of calls (Answers a) call f is = absurd (done_call call is)
  next_of calls GivesUp call f is = absurd (give_up_call call is)

  asked_whole : (N : Type 0) (calls : List (Call V × Reply V)) → FollowsAt N p calls Open → asked (after p (replies_of calls)) ≡ ask.Done
      → N × IsWhole p calls
  asked_whole N calls f is = (f.0, whole_of calls f.1.0 f.1.1 (ap asked (sym (follows_after calls p f.1.0 f.1.1)) ∙ is))

  pub asked_next : (N : Type 0) (calls : List (Call V × Reply V)) (call : Call V) → FollowsAt N p calls Open
      → asked (after p (replies_of calls)) ≡ ask.Call call → N × AsksNext p calls call
  asked_next N calls call f is = (f.0, next_of calls f.1.0 call f.1.1 (ap asked (sym (follows_after calls p f.1.0 f.1.1)) ∙ is))

  committing : (w : World V) (a : ℕ) (x : Seat V) (es : Entries) → (P x.rv × IsWhole p x.calls) → Goes a (commits w a x es)
  committing w a x [] h = sits (acted w (asks a word.AskClose ∷ [])) a (at_stage x Closing) Quiet h tt
  committing w a x (e ∷ es) h = sits (acted w (asks a word.AskLock ∷ [])) a (at_stage x Locking) Quiet h tt

  -- what an open transaction asks is what its program asks
  abbrev pub MayAsk : List (Call V × Reply V) → Request V → Type 0
  MayAsk calls (request.Call call) = asked (after p (replies_of calls)) ≡ ask.Call call
  MayAsk calls request.Commit = asked (after p (replies_of calls)) ≡ ask.Done
  MayAsk calls q = Unit {0}

  requested : (w : World V) (a : ℕ) (x : Seat V) (st : Stage V) (q : Request V) → w.seats a ≡ x → x.stage ≡ st
      → FollowsAt (P x.rv) p x.calls st
      → MayAsk x.calls q → Goes a (ask_at w a x st q)
  requested w a x Idle request.Begin seat at f may = sits (acted w (asks a word.AskBegin ∷ [])) a (at_stage x Beginning) Quiet tt tt
  requested w a x Idle request.BeginRead seat at f may = sits (acted w (asks a word.AskBeginRead ∷ [])) a (at_stage x Beginning) Quiet tt tt
  requested w a x Idle q seat at f may = stays w a x Idle (Refused a refusal.NoTransaction) seat at tt tt
  requested w a x Open request.Begin seat at f may = stays w a x Open (Refused a refusal.NotIdle) seat at f tt
  requested w a x Open request.BeginRead seat at f may = stays w a x Open (Refused a refusal.NotIdle) seat at f tt
  requested w a x Open (request.Call call) seat at f may =
      asked_op w a x call.target call.op seat at (asked_next (P x.rv) x.calls call f may)
  requested w a x Open request.Commit seat at f may = committing w a x (actor_of w a).writes (asked_whole (P x.rv) x.calls f may)
  requested w a x Open request.Abort seat at f may = given_up w a (record x { cause = None }) []
  requested w a x st q seat at f may = stays w a x st (Refused a refusal.NotIdle) seat at f tt

  pub requests_follow : (w : World V) (a : ℕ) (q : Request V) → IsFollowing (w.seats a) → MayAsk (w.seats a).calls q
      → Goes a (happens w (Ask a q))
  requests_follow w a q f may = requested w a (w.seats a) (w.seats a).stage q refl refl f may

  starved : (w : World V) (a : ℕ) (x : Seat V) (st : Stage V) → w.seats a ≡ x → x.stage ≡ st → FollowsAt (P x.rv) p x.calls st
      → Goes a (starve_at w a x st)
  starved w a x Idle seat at f = stays w a x Idle (Refused a refusal.NoTransaction) seat at tt tt
  starved w a x Open seat at f = stays w a x Open (Refused a refusal.NoTransaction) seat at f tt
  starved w a x Beginning seat at f = sits (acted w (asks a word.AskAbort ∷ [])) a no_one (Refused a refusal.Memory) tt tt
  starved w a x (Reading l) seat at f = given_up w a (because x refusal.Memory) []
  starved w a x (Trying asked tries) seat at f = given_up w a (because x refusal.Memory) []
  starved w a x (Copying asked) seat at f = given_up w a (because x refusal.Memory) (asked.collection ∷ [])
  starved w a x (Loading o es) seat at f = given_up w a (because x refusal.Memory) []
  starved w a x Locking seat at f = given_up w a (because x refusal.Memory) []
  starved w a x (Gating got ks tries) seat at f = given_up w a (because x refusal.Memory) got
  starved w a x (Ready ks) seat at f = given_up w a (because x refusal.Memory) ks
  starved w a x Closing seat at f = given_up w a (because x refusal.Memory) []
  starved w a x st seat at f = stays w a x st Quiet seat at f tt

  pub starves_follow : (w : World V) (a : ℕ) → IsFollowing (w.seats a) → Goes a (happens w (Starve a))
  starves_follow w a f = starved w a (w.seats a) (w.seats a).stage refl refl f
