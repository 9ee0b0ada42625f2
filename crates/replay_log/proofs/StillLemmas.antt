-- A request and a failed allocation do no atomic step: they leave the clock, the words and their locks, the gates and the bases, and the
-- shadows of the other actors. One lemma for each function of the definition that an Ask or a Starve leads to.
use Rattle.std.proofs.Common.{◌≡◌, ℕ, ◌+◌, Bool, true, false, cond, ◌&&◌, List, [], ◌∷◌, length, Option, Some, None, refl, ◌∙◌, eqb}
use Rattle.std.specs.Prelude.{nat_lt}
use Rattle.tx_sets.specs.Entries.{Entries, lookup, locations}
use Rattle.tx_machine.specs.Requests as word
use Rattle.tx_machine.specs.World as world
use Rattle.tx_machine.specs.World.{World as Words}
use Rattle.tx_machine.specs.Notices as told
use Rattle.tx_machine.proofs.Sets.{put-other}
use Rattle.seq_model.specs.declared.call.Op.{Op}
use Rattle.seq_model.specs.declared.call.Op.TheVariants.{Read, Write}
use Rattle.seq_model.specs.declared.refusal.Refusal.TheVariants as refusal
use Rattle.seq_model.specs.declared.event.Request.{Request}
use Rattle.seq_model.specs.declared.event.Request.TheVariants as request
use Rattle.seq_model.specs.declared.limits.TheConstants.{CALL_LIMIT}
use Rattle.tx_machine.specs.Content.{Content}
use Rattle.tx_machine.specs.Boosted.{Boosted, OnWords, on_words, is_open, is_held, is_given, is_sound, every, may_write, longer}
use Rattle.tx_machine.specs.Boosted.{writes_asked, accepted, acts}
use Rattle.replay_log.specs.Contents.{CollectionCall, CallWithOutcome, content}
use Rattle.replay_log.specs.Pieces.{piece_at}
use Rattle.replay_log.specs.WorldStill.{Still}
use Rattle.replay_log.specs.Worlds.{World, Seat, Stage, Idle, Beginning, Open, Locking, Closing, Reading, Trying, Copying, Loading, Gating}
use Rattle.replay_log.specs.Worlds.{Ready, After, has_room, with_editions, because, acted, asks, actor_of, cancels, gives_up, reads}
use Rattle.replay_log.specs.Worlds.{outcome_at, is_fresh, judges, loads, answers, calls_on, if_allowed, ask_op, commits, ask_at, starve_at}

-- the writes of a call are requests
writes_still : (s : Words) (a : ℕ) (editions : ℕ → ℕ) (ls : List ℕ)
    → let t = world.run (writes_asked a editions ls) s in (t.clock ≡ s.clock) × (t.locks ≡ s.locks) × (t.values ≡ s.values)
writes_still s a editions [] = (refl, refl, refl)
writes_still s a editions (l ∷ ls) =
    writes_still (world.now s a (word.ask (s.actors a) (s.actors a).place (word.AskWrite l (editions l + 1)))) a editions ls

module _ {X Out : Type 0} where
  pub still : (a : ℕ) (s : Boosted X Out) → Still a s s
  still a s = record { clock = refl; locks = refl; values = refl; gates = refl; parts = refl; editions = refl; shadows = λ b ne. refl }

  pub still_then : (a : ℕ) (s t u : Boosted X Out) → Still a s t → Still a t u → Still a s u
  still_then a s t u g h = record {
    clock = h.clock ∙ g.clock;
    locks = h.locks ∙ g.locks;
    values = h.values ∙ g.values;
    gates = h.gates ∙ g.gates;
    parts = h.parts ∙ g.parts;
    editions = h.editions ∙ g.editions;
    shadows = λ b ne. h.shadows b ne ∙ g.shadows b ne;
  }

  turned_still : (s : Boosted X Out) (a : ℕ) (t : Words) → t.clock ≡ s.words.clock → t.locks ≡ s.words.locks → t.values ≡ s.words.values
      → Still a s (on_words s t)
  turned_still s a t e f g = record {
    clock = e;
    locks = f;
    values = g;
    gates = refl;
    parts = refl;
    editions = refl;
    shadows = λ b ne. refl;
  }

  if_still : (s t : Boosted X Out) (a : ℕ) (b : Bool) → Still a s t → Still a s (cond b t s)
  if_still s t a true h = h
  if_still s t a false h = still a s

module _ {X Op Out : Type 0} (c : Content X Op Out) where
  pub asked_still : (s : Boosted X Out) (a : ℕ) (q : word.Request) → Still a s (acts c s (OnWords (world.Ask a q)))
  asked_still s a q = by q
    where
      now : (q : word.Request) → Words
      now q = world.now s.words a (word.ask (s.words.actors a) (s.words.actors a).place q)

      by : (q : word.Request) → Still a s (acts c s (OnWords (world.Ask a q)))
      by (word.AskWrite l v) = if_still s (on_words s (now (word.AskWrite l v))) a (c.plain l)
          (turned_still s a (now (word.AskWrite l v)) refl refl refl)
      by word.AskStore =
          if_still s (on_words s (now word.AskStore)) a (every (is_held c s a) (locations (s.words.actors a).writes))
          (turned_still s a (now word.AskStore) refl refl refl)
      by word.AskRelease =
          if_still s (on_words s (now word.AskRelease)) a (every (is_given c s a) (locations (s.words.actors a).writes))
          (turned_still s a (now word.AskRelease) refl refl refl)
      by word.AskBegin = turned_still s a (now word.AskBegin) refl refl refl
      by word.AskBeginRead = turned_still s a (now word.AskBeginRead) refl refl refl
      by word.AskLock = turned_still s a (now word.AskLock) refl refl refl
      by word.AskCancel = turned_still s a (now word.AskCancel) refl refl refl
      by word.AskAbort = turned_still s a (now word.AskAbort) refl refl refl
      by word.AskClose = turned_still s a (now word.AskClose) refl refl refl
      by (word.AskRead l) = turned_still s a (now (word.AskRead l)) refl refl refl

  accepted_still : (s : Boosted X Out) (a : ℕ) (o : Out) → Still a s (accepted c s a o)
  accepted_still s a o =
      let t = world.run (writes_asked a (s.shadows a).editions (c.writes o)) s.words in
      let w = writes_still s.words a (s.shadows a).editions (c.writes o) in
      if_still s (record s { words = t; shadows = world.put s.shadows a (longer (s.shadows a) o) }) a
      (is_open (s.words.actors a).place && (may_write (s.words.actors a).declared (c.writes o) && every (is_sound c s a) (c.reads o)))
      (record {
        clock = w.0;
        locks = w.1;
        values = w.2;
        gates = refl;
        parts = refl;
        editions = refl;
        shadows = λ b ne. put-other s.shadows a (longer (s.shadows a) o) b ne;
      })

module _ {V : Type 0} where
  abbrev pub StillIn : ℕ → World V → World V → Type 0
  StillIn a v u = Still a v.boosted u.boosted

  pub ask_still : (v u : World V) (a : ℕ) (q : word.Request) → StillIn a v u → StillIn a v (acted u (asks a q ∷ []))
  ask_still v u a q h = still_then a v.boosted u.boosted _ h (asked_still (content u.words u.blocks) u.boosted a q)

  choose_still : (a : ℕ) (v : World V) (b : Bool) (r s : After V) → StillIn a v r.0 → StillIn a v s.0 → StillIn a v (cond b r s).0
  choose_still a v true r s h g = h
  choose_still a v false r s h g = g

  pub cancels_still : (v u : World V) (a : ℕ) (x : Seat V) → StillIn a v u → StillIn a v (cancels u a x)
  cancels_still v u a x h = ask_still v (acted u (asks a word.AskCancel ∷ [])) a word.AskAbort (ask_still v u a word.AskCancel h)

  pub gives_up_still : (v u : World V) (a : ℕ) (x : Seat V) (ks : List ℕ) → StillIn a v u → StillIn a v (gives_up u a x ks).0
  gives_up_still v u a x [] h = cancels_still v u a x h
  gives_up_still v u a x (k ∷ ks) h = h

  reads_still : (v u : World V) (a : ℕ) (x : Seat V) (l : ℕ) (n : told.Notice) → StillIn a v u → StillIn a v (reads u a x l n).0
  reads_still v u a x l (told.Number i) h = ask_still v u a (word.AskRead l) h
  reads_still v u a x l n h = ask_still v u a (word.AskRead l) h

  pub fresh_still : (v u : World V) (a : ℕ) (x : Seat V) (d : ℕ × ℕ) (i : ℕ) (next : After V) → StillIn a v u → StillIn a v next.0
      → StillIn a v (is_fresh u a x d i next).0
  fresh_still v u a x d i next h n = choose_still a v (eqb d.1 i) next _ n (cancels_still v u a (because x (refusal.Stale d.0 d.1 i)) h)

  judges_still : (v u : World V) (a : ℕ) (x : Seat V) (o : CallWithOutcome V) (d : ℕ × ℕ) (es : Entries) (next : After V) (r : Option ℕ)
      → StillIn a v u → StillIn a v next.0
      → StillIn a v (judges u a x o d es next r).0
  judges_still v u a x o d es next None h n = ask_still v u a (word.AskRead d.0) h
  judges_still v u a x o d es next (Some i) h n = fresh_still v u a x d i next h n

  pub loads_still : (es : Entries) (v u : World V) (a : ℕ) (x : Seat V) (o : CallWithOutcome V) → StillIn a v u
      → StillIn a v (loads u a x o es).0
  loads_still [] v u a x o h =
      let c = content u.words u.blocks in
      still_then a v.boosted u.boosted _ h (accepted_still c u.boosted a (outcome_at u a o.asked))
  loads_still (d ∷ es) v u a x o h = judges_still v u a x o d es (loads u a x o es) (lookup (actor_of u a).reads d.0) h
      (loads_still es v u a x o h)

  pub answers_still : (v u : World V) (a : ℕ) (before x : Seat V) (sized o : CallWithOutcome V) (editions : ℕ → ℕ) → StillIn a v u
      → StillIn a v (answers u a before x sized o editions).0
  answers_still v u a before x sized o editions h =
      let c = content u.words u.blocks in
      choose_still a v (has_room (actor_of u a) (c.reads sized) (c.writes sized)) (loads u a x o (with_editions editions (c.reads o))) _
      (loads_still (with_editions editions (c.reads o)) v u a x o h) h

  calls_on_still : (v u : World V) (a : ℕ) (x : Seat V) (asked : CollectionCall V) → StillIn a v u → StillIn a v (calls_on u a x asked).0
  calls_on_still v u a x asked h =
      choose_still a v (x.copied asked.collection (piece_at u.blocks asked)) _ _
      (answers_still v u a x x (outcome_at u a asked) (outcome_at u a asked) (u.boosted.shadows a).editions h) h

  allowed_still : (v : World V) (a : ℕ) (x : Seat V) (known room : Bool) (next : After V) → StillIn a v next.0
      → StillIn a v (if_allowed v a x known room next).0
  allowed_still v a x known room next h =
      choose_still a v known _ _ (choose_still a v (nat_lt (length x.calls) CALL_LIMIT && room) next _ h (still a v.boosted))
      (still a v.boosted)

  op_still : (v : World V) (a : ℕ) (x : Seat V) (t : ℕ) (op : Op V) → StillIn a v (ask_op v a x t op).0
  op_still v a x t Read = allowed_still v a x _ _ _ (reads_still v v a x t _ (still a v.boosted))
  op_still v a x t (Write i) = allowed_still v a x _ _ _ (ask_still v v a (word.AskWrite t i) (still a v.boosted))
  op_still v a x t op = allowed_still v a x _ _ _ (calls_on_still v v a x (record { collection = t; op = op }) (still a v.boosted))

  commits_still : (v : World V) (a : ℕ) (x : Seat V) (es : Entries) → StillIn a v (commits v a x es).0
  commits_still v a x [] = ask_still v v a word.AskClose (still a v.boosted)
  commits_still v a x (e ∷ es) = ask_still v v a word.AskLock (still a v.boosted)

  pub ask_at_still : (v : World V) (a : ℕ) (x : Seat V) (st : Stage V) (q : Request V) → StillIn a v (ask_at v a x st q).0
  ask_at_still v a x Idle request.Begin = ask_still v v a word.AskBegin (still a v.boosted)
  ask_at_still v a x Idle request.BeginRead = ask_still v v a word.AskBeginRead (still a v.boosted)
  ask_at_still v a x Idle q = still a v.boosted
  ask_at_still v a x Open request.Begin = still a v.boosted
  ask_at_still v a x Open request.BeginRead = still a v.boosted
  ask_at_still v a x Open (request.Call call) = op_still v a x call.target call.op
  ask_at_still v a x Open request.Commit = commits_still v a x (actor_of v a).writes
  ask_at_still v a x Open request.Abort = cancels_still v v a (record x { cause = None }) (still a v.boosted)
  ask_at_still v a x st q = still a v.boosted

  pub starve_still : (v : World V) (a : ℕ) (x : Seat V) (st : Stage V) → StillIn a v (starve_at v a x st).0
  starve_still v a x Beginning = ask_still v v a word.AskAbort (still a v.boosted)
  starve_still v a x (Reading l) = gives_up_still v v a (because x refusal.Memory) [] (still a v.boosted)
  starve_still v a x (Trying asked tries) = gives_up_still v v a (because x refusal.Memory) [] (still a v.boosted)
  starve_still v a x (Copying asked) = gives_up_still v v a (because x refusal.Memory) (asked.collection ∷ []) (still a v.boosted)
  starve_still v a x (Loading o es) = gives_up_still v v a (because x refusal.Memory) [] (still a v.boosted)
  starve_still v a x Locking = gives_up_still v v a (because x refusal.Memory) [] (still a v.boosted)
  starve_still v a x (Gating got ks tries) = gives_up_still v v a (because x refusal.Memory) got (still a v.boosted)
  starve_still v a x (Ready ks) = gives_up_still v v a (because x refusal.Memory) ks (still a v.boosted)
  starve_still v a x Closing = gives_up_still v v a (because x refusal.Memory) [] (still a v.boosted)
  starve_still v a x st = still a v.boosted
