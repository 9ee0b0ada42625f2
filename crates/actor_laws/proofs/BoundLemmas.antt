-- The clock of an actor that is alone, and that it is no declared reader.
-- The clock and the number that the actor may still take are together at most the opening clock and the commits that were asked for: so say
-- each step of the word machine and each of its requests, a begin of a declared reader and a lock apart. One pass over the functions of the
-- definitions then says it of each event (`PassLemmas` of `actor_laws`); a lock is asked for by a commit alone.
use Rattle.std.proofs.Common.{◌≡◌, ℕ, ◌+◌, ◌≤◌, Bool, true, false, cond, List, [], ◌∷◌, Option, Some, None}
use Rattle.std.proofs.Common.{refl, sym, ◌∙◌, ap, subst, arith, eqb}
use Rattle.std.specs.Prelude.{nat_le, nat_lt}
use Rattle.std.proofs.lemmas.Bool.{cond_both}
use Rattle.vlock_word.specs.declared.lock_word.LockWord.{LockWord}
use Rattle.vlock_word.specs.declared.lock_word.LockWord.TheVariants.{Free, Locked}
use Rattle.tx_sets.specs.Entries.{Entries, lookup, locations}
use Rattle.tx_machine.specs.Actor as machine
use Rattle.tx_machine.specs.Actor.{Place, Actor, goes}
use Rattle.tx_machine.specs.Requests as word
use Rattle.tx_machine.specs.World as world
use Rattle.tx_machine.specs.World.{World as Words, plan}
use Rattle.tx_machine.proofs.Sets.{put-same}
use Rattle.seq_model.specs.declared.call.Op.{Op}
use Rattle.seq_model.specs.declared.event.Event.{Event}
use Rattle.seq_model.specs.declared.event.Event.TheVariants.{Ask, Step}
use Rattle.seq_model.specs.declared.event.Request.TheVariants as request
use Rattle.seq_model.specs.declared.event.Request.{Request}
use Rattle.replay_log.specs.Worlds.{World, Seat, Stage, Idle, Open, After, actor_of}
use Rattle.replay_log.specs.Worlds.{ask_at, ask_op, cancels, commits, happens, run, starve_at}
use Rattle.replay_log.specs.Worlds.{step_at}
use Rattle.replay_log.proofs.ActionLemmas.{does_learns, exchanges, learns}
use Rattle.actor_laws.proofs.PassLemmas.{IsPlainAsk, cancels_keep, op_keeps, starve_keeps, step_keeps}
use Rattle.actor_laws.specs.Alone.{IsPlain, ArePlain, commit_of, commits_in}

-- the number that an actor at this place may still take
abbrev pub due : Place → ℕ
due (machine.Lock ls) = 1
due (machine.Take l k ls) = 1
due p = 0

-- the actor of a is no declared reader, and the clock and what it may still take are at most n
pub record IsBound (n a : ℕ) (s : Words) : Type 0 where
  pub undeclared : (s.actors a).declared ≡ false
  pub clock : s.clock + due (s.actors a).place ≤ n

-- ---- requests
abbrev pub IsMildAsk : word.Request → Type 0
IsMildAsk word.AskBeginRead = ⊥
IsMildAsk word.AskLock = ⊥
IsMildAsk q = Unit {0}

-- what a request leaves of an actor that is no declared reader
abbrev IsMild : Actor → Place → Actor → Type 0
IsMild y p z = (z.declared ≡ false) × (due z.place ≤ due p)

mild : (y : Actor) (p : Place) → y.place ≡ p → y.declared ≡ false → IsMild y p y
mild y p e d = (d, subst (λ (q : Place). due y.place ≤ due q) e (omega arith))

mild_read : (y : Actor) (p : Place) (l : ℕ) (own seen : Option ℕ) → y.declared ≡ false → IsMild y p (word.read y l own seen)
mild_read y p l (Some v) seen d = (d, omega arith)
mild_read y p l None (Some v) d = (d, omega arith)
mild_read y p l None None d = (d, omega arith)

mild_write : (y : Actor) (p : Place) (b : Bool) (l v : ℕ) → y.place ≡ p → y.declared ≡ false → IsMild y p (word.write y b l v)
mild_write y p true l v e d = mild y p e d
mild_write y p false l v e d = (d, omega arith)

mild_close : (y : Actor) (p : Place) (es : Entries) → y.place ≡ p → y.declared ≡ false → IsMild y p (word.close y es)
mild_close y p [] e d = (d, omega arith)
mild_close y p (w ∷ ws) e d = mild y p e d

mild_abort : (y : Actor) (p : Place) (es : Entries) → y.place ≡ p → y.declared ≡ false → IsMild y p (word.abort y es)
mild_abort y p [] e d = (d, omega arith)
mild_abort y p (w ∷ ws) e d = mild y p e d

ask_mild : (y : Actor) (p : Place) (q : word.Request) → IsMildAsk q → y.place ≡ p → y.declared ≡ false → IsMild y p (word.ask y p q)
ask_mild y machine.Idle word.AskBegin m e d = (refl, omega arith)
ask_mild y p word.AskBeginRead m e d = absurd m
ask_mild y p word.AskLock m e d = absurd m
ask_mild y machine.Open (word.AskRead l) m e d = mild_read y machine.Open l (lookup y.writes l) (lookup y.reads l) d
ask_mild y machine.Open (word.AskWrite l v) m e d = mild_write y machine.Open y.declared l v e d
ask_mild y machine.Open word.AskClose m e d = mild_close y machine.Open y.writes e d
ask_mild y machine.Open word.AskAbort m e d = (d, omega arith)
ask_mild y (machine.Look l) word.AskAbort m e d = (d, omega arith)
ask_mild y (machine.Fetch l k) word.AskAbort m e d = (d, omega arith)
ask_mild y (machine.Again l k v) word.AskAbort m e d = (d, omega arith)
ask_mild y machine.Close word.AskAbort m e d = (d, omega arith)
ask_mild y machine.Begin word.AskAbort m e d = (d, omega arith)
ask_mild y (machine.Lock ls) word.AskCancel m e d = (d, omega arith)
ask_mild y (machine.Take l k ls) word.AskCancel m e d = (d, omega arith)
ask_mild y (machine.Check ls) word.AskCancel m e d = (d, omega arith)
ask_mild y machine.Broken word.AskCancel m e d = (d, omega arith)
ask_mild y (machine.Check []) word.AskStore m e d = (d, omega arith)
ask_mild y (machine.Store []) word.AskRelease m e d = (d, omega arith)
ask_mild y machine.Undo word.AskAbort m e d = mild_abort y machine.Undo y.held e d
ask_mild y (machine.Check []) q m e d = mild y (machine.Check []) e d
ask_mild y (machine.Check (k ∷ ls)) q m e d = mild y (machine.Check (k ∷ ls)) e d
ask_mild y (machine.Store []) q m e d = mild y (machine.Store []) e d
ask_mild y (machine.Store (k ∷ ls)) q m e d = mild y (machine.Store (k ∷ ls)) e d
ask_mild y p q m e d = mild y p e d

-- a lock may take one number more
lock_due : (y : Actor) (es : Entries) → due (word.lock y es).place ≤ due y.place + 1
lock_due y [] = omega arith
lock_due y (w ∷ ws) = omega arith

lock_declared : (y : Actor) (es : Entries) → (word.lock y es).declared ≡ y.declared
lock_declared y [] = refl
lock_declared y (w ∷ ws) = refl

ask_lock : (y : Actor) (p : Place) → y.place ≡ p
    → ((word.ask y p word.AskLock).declared ≡ y.declared) × (due (word.ask y p word.AskLock).place ≤ due y.place + 1)
ask_lock y machine.Open e = (lock_declared y y.writes, lock_due y y.writes)
ask_lock y (machine.Check []) e = (refl, omega arith)
ask_lock y (machine.Check (k ∷ ls)) e = (refl, omega arith)
ask_lock y (machine.Store []) e = (refl, omega arith)
ask_lock y (machine.Store (k ∷ ls)) e = (refl, omega arith)
ask_lock y p e = (refl, omega arith)

-- ---- steps
abbrev IsStep : ℕ → Place → ℕ → Actor → Type 0
IsStep clock p later z = (z.declared ≡ false) × (later + due z.place ≤ clock + due p)

abbrev clock_after : Words → world.Deed → ℕ
clock_after s (world.AddToClock f) = s.clock + 1
clock_after s d = s.clock

no_due : (c : ℕ) (y z : Actor) (p : Place) → y.declared ≡ false → z.declared ≡ y.declared → due z.place ≡ 0 → IsStep c p c z
no_due c y z p d e none = (e ∙ d, omega (arith, none))

step_bound : (s : Words) (y : Actor) (p : Place) → y.place ≡ p → y.declared ≡ false
    → IsStep s.clock p (clock_after s (plan y p)) (learns s y (plan y p))
step_bound s y p e d = by p e
  where
    c : ℕ
    c = s.clock

    stays : (p : Place) → y.place ≡ p → IsStep c p c y
    stays p e = (d, subst (λ (q : Place). c + due y.place ≤ c + due q) e (omega arith))

    free : (p : Place) (z : Actor) → z.declared ≡ y.declared → due z.place ≡ 0 → IsStep c p c z
    free p z same none = no_due c y z p d same none

    choose : (p : Place) (b : Bool) (z z2 : Actor) → z.declared ≡ y.declared → due z.place ≡ 0 → z2.declared ≡ y.declared
        → due z2.place ≡ 0 → IsStep c p c (cond b z z2)
    choose p true z z2 a1 a2 b1 b2 = free p z a1 a2
    choose p false z z2 a1 a2 b1 b2 = free p z2 b1 b2

    seen : (p : Place) (l : ℕ) (w : LockWord) → IsStep c p c (machine.seen y l w)
    seen p l (Free k) = choose p (nat_le k y.rv) (goes y (machine.Fetch l k)) (goes y machine.Undo) refl refl refl refl
    seen p l (Locked k) = free p (goes y machine.Undo) refl refl

    again : (p : Place) (l k v : ℕ) (w : LockWord) → IsStep c p c (machine.seen_again y l k v w)
    again p l k v (Free j) = choose p (eqb j k) (machine.has_read y l v) (goes y machine.Undo) refl refl refl refl
    again p l k v (Locked j) = free p (goes y machine.Undo) refl refl

    to_lock : (l m : ℕ) (ls ms : List ℕ) (w : LockWord) → IsStep c (machine.Lock (m ∷ ms)) c (machine.seen_to_lock y l ls w)
    to_lock l m ls ms (Free k) = (d, omega arith)
    to_lock l m ls ms (Locked k) = (d, omega arith)

    takes : (l k : ℕ) (ls : List ℕ) (b : Bool) → IsStep c (machine.Take l k ls) c (cond b (machine.taken y l k ls) (goes y machine.Broken))
    takes l k ls true = (d, omega arith)
    takes l k ls false = (d, omega arith)

    take : (l k : ℕ) (ls : List ℕ) (w : LockWord)
        → IsStep c (machine.Take l k ls) c (exchanges k (machine.taken y l k ls) (goes y machine.Broken) w)
    take l k ls (Free j) = takes l k ls (eqb j k)
    take l k ls (Locked j) = (d, omega arith)

    check : (p : Place) (ls : List ℕ) (w : LockWord) (own : Option ℕ) → IsStep c p c (machine.seen_in_check y ls w own)
    check p ls (Free k) own = choose p (nat_le k y.rv) (goes y (machine.Check ls)) (goes y machine.Broken) refl refl refl refl
    check p ls (Locked k) (Some v) = choose p (nat_le k y.rv) (goes y (machine.Check ls)) (goes y machine.Broken) refl refl refl refl
    check p ls (Locked k) None = free p (goes y machine.Broken) refl refl

    first : (p : Place) (es : Entries) → y.place ≡ p
        → IsStep c p (clock_after s (world.first_store y es)) (learns s y (world.first_store y es))
    first p [] e = stays p e
    first p (w ∷ ws) e = free p (goes y (machine.Store (locations (w ∷ ws)))) refl refl

    released : (es : Entries) → due (machine.after_release es) ≡ 0
    released [] = refl
    released (w ∷ ws) = refl

    release : (p : Place) (es : Entries) → y.place ≡ p → IsStep c p (clock_after s (world.release y es)) (learns s y (world.release y es))
    release p [] e = stays p e
    release p (w ∷ ws) e = free p (machine.freed y ws (machine.after_release ws)) refl (released ws)

    undo : (p : Place) (es : Entries) → y.place ≡ p → IsStep c p (clock_after s (world.undo y es)) (learns s y (world.undo y es))
    undo p [] e = stays p e
    undo p (w ∷ ws) e = free p (machine.freed y ws machine.Undo) refl refl

    by : (p : Place) → y.place ≡ p → IsStep c p (clock_after s (plan y p)) (learns s y (plan y p))
    by machine.Idle e = stays machine.Idle e
    by machine.Begin e = choose machine.Begin (nat_lt c machine.clock_limit) (machine.opened y.declared c)
        (goes y machine.Idle) refl refl refl refl
    by machine.Open e = stays machine.Open e
    by (machine.Look l) e = seen (machine.Look l) l (s.locks l)
    by (machine.Fetch l k) e = free (machine.Fetch l k) (goes y (machine.Again l k (s.values l))) refl refl
    by (machine.Again l k v) e = again (machine.Again l k v) l k v (s.locks l)
    by (machine.Lock []) e = (d, omega arith)
    by (machine.Lock (l ∷ ls)) e = to_lock l l ls ls (s.locks l)
    by (machine.Take l k ls) e = take l k ls (s.locks l)
    by (machine.Check []) e = stays (machine.Check []) e
    by (machine.Check (l ∷ ls)) e = check (machine.Check (l ∷ ls)) ls (s.locks l) (lookup y.writes l)
    by machine.Broken e = stays machine.Broken e
    by machine.First e = first machine.First y.writes e
    by (machine.Store []) e = stays (machine.Store []) e
    by (machine.Store (l ∷ ls)) e = free (machine.Store (l ∷ ls)) (goes y (machine.Store ls)) refl refl
    by machine.Release e = release machine.Release y.held e
    by machine.Undo e = undo machine.Undo y.held e
    by machine.Leave e = free machine.Leave (goes y machine.Idle) refl refl
    by machine.Close e = free machine.Close (goes y machine.Idle) refl refl

-- the clock after a step
exchanged_clock : (s : Words) (a l k : ℕ) (won lost : Actor) (w : LockWord) → (world.exchanged s a l k won lost w).clock ≡ s.clock
exchanged_clock s a l k won lost (Free j) =
    cond_both (eqb j k) (record (world.now s a won) { locks = world.put s.locks l (Locked k) }) (world.now s a lost)
    (λ (t : Words). t.clock ≡ s.clock) (λ _. refl) (λ _. refl)
exchanged_clock s a l k won lost (Locked j) = refl

does_clock : (s : Words) (a : ℕ) (d : world.Deed) → (world.does s a d).clock ≡ clock_after s d
does_clock s a world.Rests = refl
does_clock s a (world.LoadClock f) = refl
does_clock s a (world.AddToClock f) = refl
does_clock s a (world.LoadLock l f) = refl
does_clock s a (world.LoadValue l f) = refl
does_clock s a (world.ExchangeLock l k won lost) = exchanged_clock s a l k won lost (s.locks l)
does_clock s a (world.StoreValue l v y) = refl
does_clock s a (world.StoreLock l w y) = refl

noted_clock : (t : Words) (o : world.StepEnd) → (world.noted t o).clock ≡ t.clock
noted_clock t world.GoesOn = refl
noted_clock t (world.Commits r) = refl
noted_clock t (world.Aborts e) = refl

-- ---- on words
asked_bound : (n a : ℕ) (s : Words) (q : word.Request) → IsMildAsk q → IsBound n a s → IsBound n a (world.happens s (world.Ask a q))
asked_bound n a s q m h =
    let y = s.actors a in
    let z = word.ask y y.place q in
    let r = ask_mild y y.place q m refl h.undeclared in
    let is : (world.put s.actors a z) a ≡ z = put-same s.actors a z in
    let few = r.1 in
    let held = h.clock in
    record {
      undeclared = ap (λ (x : Actor). x.declared) is ∙ r.0;
      clock = subst (λ (x : Actor). s.clock + due x.place ≤ n) (sym is) (omega (arith, few, held));
    }

plain_is_mild : (q : word.Request) → IsPlainAsk q → IsMildAsk q
plain_is_mild word.AskBegin h = tt
plain_is_mild word.AskBeginRead h = h
plain_is_mild word.AskLock h = h
plain_is_mild q h = tt

noted_actors : (t : Words) (o : world.StepEnd) → (world.noted t o).actors ≡ t.actors
noted_actors t world.GoesOn = refl
noted_actors t (world.Commits r) = refl
noted_actors t (world.Aborts e) = refl

stepped_bound : (n a : ℕ) (s : Words) → IsBound n a s → IsBound n a (world.happens s (world.Step a))
stepped_bound n a s h =
    let y = s.actors a in
    let p = y.place in
    let o = world.step_end a y p in
    let d = plan y p in
    let t = world.step s a y p in
    let r = step_bound s y p refl h.undeclared in
    let actor : t.actors a ≡ learns s y d =
    ap (λ (f : ℕ → Actor). f a) (noted_actors (world.does s a d) o) ∙ does_learns s a d in
    let clock : t.clock ≡ clock_after s d = noted_clock (world.does s a d) o ∙ does_clock s a d in
    let few = r.1 in
    let held = h.clock in
    record {
      undeclared = ap (λ (x : Actor). x.declared) actor ∙ r.0;
      clock =
          subst (λ (x : Actor). t.clock + due x.place ≤ n) (sym actor)
          (subst (λ k. k + due (learns s y d).place ≤ n) (sym clock) (omega (arith, few, held)));
    }

-- one more number may be taken after a lock
locked_bound : (n a : ℕ) (s : Words) → IsBound n a s → IsBound (n + 1) a (world.happens s (world.Ask a word.AskLock))
locked_bound n a s h =
    let y = s.actors a in
    let z = word.ask y y.place word.AskLock in
    let r = ask_lock y y.place refl in
    let is : (world.put s.actors a z) a ≡ z = put-same s.actors a z in
    let more = r.1 in
    let held = h.clock in
    record {
      undeclared = ap (λ (x : Actor). x.declared) is ∙ r.0 ∙ h.undeclared;
      clock = subst (λ (x : Actor). s.clock + due x.place ≤ n + 1) (sym is) (omega (arith, more, held));
    }

pub bound_more : (n m a : ℕ) (s : Words) → n ≤ m → IsBound n a s → IsBound m a s
bound_more n m a s le h = record { undeclared = h.undeclared; clock = (let held = h.clock in omega (arith, le, held)) }

plain_bound : (n a : ℕ) (s : Words) (q : word.Request) → IsPlainAsk q → IsBound n a s → IsBound n a (world.happens s (world.Ask a q))
plain_bound n a s q h = asked_bound n a s q (plain_is_mild q h)

-- ---- the functions of the definitions
module _ {V : Type 0} (n a : ℕ) where
  abbrev pub BoundAt : World V → Type 0
  BoundAt u = IsBound n a u.boosted.words

  abbrev Bound : After V → Type 0
  Bound r = BoundAt r.0

  pub cancels_on : (u : World V) (x : Seat V) → BoundAt u → BoundAt (cancels u a x)
  cancels_on u x h = cancels_keep a (IsBound n a) (plain_bound n a) (stepped_bound n a) u x h

  pub op_on : (u : World V) (x : Seat V) (t : ℕ) (op : Op V) → BoundAt u → Bound (ask_op u a x t op)
  op_on u x t op h = op_keeps a (IsBound n a) (plain_bound n a) (stepped_bound n a) u x t op h

  pub step_on : (w : World V) (x : Seat V) (st : Stage V) → BoundAt w → Bound (step_at w a x st)
  step_on w x st h = step_keeps a (IsBound n a) (plain_bound n a) (stepped_bound n a) w x st h

  pub starve_on : (w : World V) (x : Seat V) (st : Stage V) → BoundAt w → Bound (starve_at w a x st)
  starve_on w x st h = starve_keeps a (IsBound n a) (plain_bound n a) (stepped_bound n a) w x st h

module _ {V : Type 0} (a : ℕ) where
  -- a begin and a call
  pub begins_bound : (n : ℕ) (w : World V) (x : Seat V) (st : Stage V) → BoundAt n a w → BoundAt n a (ask_at w a x st request.Begin).0
  begins_bound n w x Idle h = asked_bound n a w.boosted.words word.AskBegin tt h
  begins_bound n w x Open h = h
  begins_bound n w x st h = h

  pub calls_bound : (n : ℕ) (w : World V) (x : Seat V) (st : Stage V) (q : Request V) → BoundAt n a w
      → ((h : BoundAt n a w) → BoundAt n a (ask_at w a x Open q).0) → BoundAt n a (ask_at w a x Idle q).0
      → BoundAt n a (ask_at w a x st q).0
  calls_bound n w x Idle q h at_open at_idle = at_idle
  calls_bound n w x Open q h at_open at_idle = at_open h
  calls_bound n w x st q h at_open at_idle = h

  pub commits_bound : (n : ℕ) (w : World V) (x : Seat V) (es : Entries) → BoundAt n a w → BoundAt (n + 1) a (commits w a x es).0
  commits_bound n w x [] h =
      bound_more n (n + 1) a _ (omega arith) (asked_bound n a w.boosted.words word.AskClose tt h)
  commits_bound n w x (e ∷ es) h = locked_bound n a w.boosted.words h

  as_many : (n : ℕ) (u : World V) → BoundAt n a u → BoundAt (0 + n) a u
  as_many n u h = bound_more n (0 + n) a u.boosted.words (omega arith) h

  pub event_bound : (n : ℕ) (w : World V) (e : Event V) → IsPlain a e → BoundAt n a w → BoundAt (commit_of e + n) a (happens w e).0
  event_bound n w (Ask b request.Begin) m h =
      as_many n (happens w (Ask b request.Begin)).0
      (subst (λ i. BoundAt n a (happens w (Ask i request.Begin)).0) (sym m) (begins_bound n w (w.seats a) (w.seats a).stage h))
  event_bound n w (Ask b (request.Call call)) m h =
      as_many n (happens w (Ask b (request.Call call))).0
      (subst (λ i. BoundAt n a (happens w (Ask i (request.Call call))).0) (sym m.0)
      (calls_bound n w (w.seats a) (w.seats a).stage (request.Call call) h (λ k. op_on n a w (w.seats a) call.target call.op k) h))
  event_bound n w (Ask b request.Commit) m h =
      let more = bound_more n (n + 1) a w.boosted.words (omega arith) h in
      bound_more (n + 1) (1 + n) a _ (omega arith)
      (subst (λ i. BoundAt (n + 1) a (happens w (Ask i request.Commit)).0) (sym m)
      (calls_bound (n + 1) w (w.seats a) (w.seats a).stage request.Commit more
      (λ k. commits_bound n w (w.seats a) (actor_of w a).writes h) more))
  event_bound n w (Step b) m h =
      as_many n (happens w (Step b)).0
      (subst (λ i. BoundAt n a (happens w (Step i)).0) (sym m) (step_on n a w (w.seats a) (w.seats a).stage h))
  event_bound n w e m h = absurd m

  pub run_bound : (es : List (Event V)) (n : ℕ) (w : World V) → ArePlain a es → BoundAt n a w → BoundAt (n + commits_in es) a (run w es)
  run_bound [] n w m h = bound_more n (n + 0) a w.boosted.words (omega arith) h
  run_bound (e ∷ es) n w m h =
      bound_more (commit_of e + n + commits_in es) (n + commits_in (e ∷ es)) a (run w (e ∷ es)).boosted.words (omega arith)
      (run_bound es (commit_of e + n) (happens w e).0 m.1 (event_bound n w e m.0 h))
