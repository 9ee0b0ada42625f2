-- What an action of an actor leaves of its shadow and of what it has read first, where locations from n on are no words. A request leaves
-- the calls of the word actor, but for the read of a word and for a write, which reads nothing first; a step leaves them, but for the last
-- load of a read. Only the store of a call's gate, an acceptance and the load that begins a transaction change a shadow.
use Rattle.std.proofs.Common.{◌≡◌, ℕ, ◌<◌, ◌≤◌, Bool, true, false, cond, ◌&&◌, not, List, [], ◌∷◌, Option, Some, None, refl, sym, ap, subst}
use Rattle.std.proofs.Common.{◌∙◌, arith, eqb}
use Rattle.std.specs.Prelude.{nat_le}
use Rattle.std.proofs.lemmas.Bool.{cond_both}
use Rattle.vlock_word.specs.declared.lock_word.LockWord.{LockWord}
use Rattle.vlock_word.specs.declared.lock_word.LockWord.TheVariants.{Free, Locked}
use Rattle.tx_sets.specs.Entries.{Entries, lookup, locations}
use Rattle.tx_machine.specs.Actor as machine
use Rattle.tx_machine.specs.Actor.{Actor, Call, Place, Read, goes}
use Rattle.tx_machine.specs.Opacity.{first_read}
use Rattle.tx_machine.specs.Requests as word
use Rattle.tx_machine.specs.Requests.{Request, ask}
use Rattle.tx_machine.specs.World as world
use Rattle.tx_machine.specs.World.{World as Words, StepEnd, plan, put}
use Rattle.tx_machine.proofs.Sets.{put-same}
use Rattle.tx_machine.specs.Content.{Content}
use Rattle.tx_machine.specs.Boosted.{Boosted, GoHome, OnWords, PutGate, Shadow, TakeGate, acts, copied, every, gated, homed}
use Rattle.tx_machine.specs.Boosted.{is_actor, is_committing, is_given, is_held, is_none, is_open, is_stored, on_words, recorded}
use Rattle.tx_machine.specs.Boosted.{shadows_after, word_step}
use Rattle.replay_log.proofs.ActionLemmas.{exchanges, learns}
use Rattle.replay_log.proofs.ReadLemmas.{first_read-other, first_read-write}
use Rattle.replay_log.proofs.SetLemmas.{home_words, moved_is, put_words, take_words}

-- ---- the word actor
-- what was read first of locations from n on is the same
abbrev pub SameReads : ℕ → Actor → Actor → Type 0
SameReads n y z = (l : ℕ) → n ≤ l → first_read z.calls l ≡ first_read y.calls l

pub same_calls : (n : ℕ) (y z : Actor) → z.calls ≡ y.calls → SameReads n y z
same_calls n y z e l m = ap (λ (cs : List Call). first_read cs l) e

-- a request that reads no location from n on
abbrev pub IsOnWords : ℕ → Request → Type 0
IsOnWords n (word.AskRead l) = l < n
IsOnWords n q = Unit {0}

pub is_other : (n l i : ℕ) → i < n → n ≤ l → l ≡ i → ⊥
is_other n l i lt m e = omega (arith, lt, m, e)

read_replied : (n : ℕ) (y : Actor) (i v : ℕ) → i < n → SameReads n y (word.replied y (Read i v))
read_replied n y i v lt l m = first_read-other y.calls i v l (is_other n l i lt m)

pub has_read_same : (n : ℕ) (y : Actor) (i v : ℕ) → i < n → SameReads n y (machine.has_read y i v)
has_read_same n y i v lt l m = first_read-other y.calls i v l (is_other n l i lt m)

read_same : (n : ℕ) (y : Actor) (i : ℕ) (own seen : Option ℕ) → i < n → SameReads n y (word.read y i own seen)
read_same n y i (Some v) seen lt = read_replied n y i v lt
read_same n y i None (Some v) lt = read_replied n y i v lt
read_same n y i None None lt = λ l m. refl

write_same : (n : ℕ) (y : Actor) (b : Bool) (i v : ℕ) → SameReads n y (word.write y b i v)
write_same n y true i v = λ l m. refl
write_same n y false i v = λ l m. first_read-write y.calls i v l

lock_same : (n : ℕ) (y : Actor) (es : Entries) → SameReads n y (word.lock y es)
lock_same n y [] = λ l m. refl
lock_same n y (e ∷ es) = λ l m. refl

close_same : (n : ℕ) (y : Actor) (es : Entries) → SameReads n y (word.close y es)
close_same n y [] = λ l m. refl
close_same n y (e ∷ es) = λ l m. refl

abort_same : (n : ℕ) (y : Actor) (es : Entries) → SameReads n y (word.abort y es)
abort_same n y [] = λ l m. refl
abort_same n y (e ∷ es) = λ l m. refl

pub ask_same : (n : ℕ) (y : Actor) (p : Place) (q : Request) → IsOnWords n q → SameReads n y (ask y p q)
ask_same n y machine.Idle word.AskBegin h = λ l m. refl
ask_same n y machine.Idle word.AskBeginRead h = λ l m. refl
ask_same n y machine.Open (word.AskRead i) h = read_same n y i (lookup y.writes i) (lookup y.reads i) h
ask_same n y machine.Open (word.AskWrite i v) h = write_same n y y.declared i v
ask_same n y machine.Open word.AskLock h = lock_same n y y.writes
ask_same n y machine.Open word.AskClose h = close_same n y y.writes
ask_same n y machine.Open word.AskAbort h = λ l m. refl
ask_same n y (machine.Look i) word.AskAbort h = λ l m. refl
ask_same n y (machine.Fetch i k) word.AskAbort h = λ l m. refl
ask_same n y (machine.Again i k v) word.AskAbort h = λ l m. refl
ask_same n y machine.Close word.AskAbort h = λ l m. refl
ask_same n y machine.Begin word.AskAbort h = λ l m. refl
ask_same n y (machine.Lock ls) word.AskCancel h = λ l m. refl
ask_same n y (machine.Take i k ls) word.AskCancel h = λ l m. refl
ask_same n y (machine.Check ls) word.AskCancel h = λ l m. refl
ask_same n y machine.Broken word.AskCancel h = λ l m. refl
ask_same n y (machine.Check []) word.AskStore h = λ l m. refl
ask_same n y (machine.Store []) word.AskRelease h = λ l m. refl
ask_same n y machine.Undo word.AskAbort h = abort_same n y y.held
ask_same n y p q h = λ l m. refl

-- ---- its steps
-- a step that begins no transaction and ends no read
abbrev pub IsStill : Place → Type 0
IsStill machine.Begin = ⊥
IsStill (machine.Again l k v) = ⊥
IsStill p = Unit {0}

seen_still : (y : Actor) (l : ℕ) (w : LockWord) → (machine.seen y l w).calls ≡ y.calls
seen_still y l (Free k) = cond_both (nat_le k y.rv) (goes y (machine.Fetch l k)) (goes y machine.Undo)
    (λ (z : Actor). z.calls ≡ y.calls) (λ _. refl) (λ _. refl)
seen_still y l (Locked k) = refl

to_lock_still : (y : Actor) (l : ℕ) (ls : List ℕ) (w : LockWord) → (machine.seen_to_lock y l ls w).calls ≡ y.calls
to_lock_still y l ls (Free k) = refl
to_lock_still y l ls (Locked k) = refl

take_still : (y : Actor) (l k : ℕ) (ls : List ℕ) (w : LockWord)
    → (exchanges k (machine.taken y l k ls) (goes y machine.Broken) w).calls ≡ y.calls
take_still y l k ls (Free j) = cond_both (eqb j k) (machine.taken y l k ls) (goes y machine.Broken)
    (λ (z : Actor). z.calls ≡ y.calls) (λ _. refl) (λ _. refl)
take_still y l k ls (Locked j) = refl

check_still : (y : Actor) (ls : List ℕ) (w : LockWord) (own : Option ℕ) → (machine.seen_in_check y ls w own).calls ≡ y.calls
check_still y ls (Free k) own = cond_both (nat_le k y.rv) (goes y (machine.Check ls)) (goes y machine.Broken)
    (λ (z : Actor). z.calls ≡ y.calls) (λ _. refl) (λ _. refl)
check_still y ls (Locked k) (Some v) = cond_both (nat_le k y.rv) (goes y (machine.Check ls)) (goes y machine.Broken)
    (λ (z : Actor). z.calls ≡ y.calls) (λ _. refl) (λ _. refl)
check_still y ls (Locked k) None = refl

first_still : (s : Words) (y : Actor) (es : Entries) → (learns s y (world.first_store y es)).calls ≡ y.calls
first_still s y [] = refl
first_still s y (e ∷ es) = refl

release_still : (s : Words) (y : Actor) (es : Entries) → (learns s y (world.release y es)).calls ≡ y.calls
release_still s y [] = refl
release_still s y (e ∷ es) = refl

undo_still : (s : Words) (y : Actor) (es : Entries) → (learns s y (world.undo y es)).calls ≡ y.calls
undo_still s y [] = refl
undo_still s y (e ∷ es) = refl

step_still : (s : Words) (y : Actor) (p : Place) → IsStill p → (learns s y (plan y p)).calls ≡ y.calls
step_still s y machine.Idle h = refl
step_still s y machine.Begin h = absurd h
step_still s y machine.Open h = refl
step_still s y (machine.Look l) h = seen_still y l (s.locks l)
step_still s y (machine.Fetch l k) h = refl
step_still s y (machine.Again l k v) h = absurd h
step_still s y (machine.Lock []) h = refl
step_still s y (machine.Lock (l ∷ ls)) h = to_lock_still y l ls (s.locks l)
step_still s y (machine.Take l k ls) h = take_still y l k ls (s.locks l)
step_still s y (machine.Check []) h = refl
step_still s y (machine.Check (l ∷ ls)) h = check_still y ls (s.locks l) (lookup y.writes l)
step_still s y machine.Broken h = refl
step_still s y machine.First h = first_still s y y.writes
step_still s y (machine.Store []) h = refl
step_still s y (machine.Store (l ∷ ls)) h = refl
step_still s y machine.Release h = release_still s y y.held
step_still s y machine.Undo h = undo_still s y y.held
step_still s y machine.Leave h = refl
step_still s y machine.Close h = refl

-- a step that begins nothing
abbrev pub IsNoBegin : Place → Type 0
IsNoBegin machine.Begin = ⊥
IsNoBegin p = Unit {0}

still_begins : (p : Place) → IsStill p → IsNoBegin p
still_begins machine.Begin h = h
still_begins p h = tt

-- ---- actions
module _ {X Out : Type 0} where
  -- what actor a has read first from n on is the same, and its shadow
  abbrev pub Same : ℕ → ℕ → Boosted X Out → Boosted X Out → Type 0
  Same n a s t = SameReads n (s.words.actors a) (t.words.actors a) × (t.shadows a ≡ s.shadows a)

  pub same : (n a : ℕ) (s : Boosted X Out) → Same n a s s
  same n a s = (λ l m. refl, refl)

  pub same_then : (n a : ℕ) (s t u : Boosted X Out) → Same n a s t → Same n a t u → Same n a s u
  same_then n a s t u g h = (λ l m. h.0 l m ∙ g.0 l m, h.1 ∙ g.1)

  recorded_shadows : (s : Boosted X Out) (os : List Out) (q : StepEnd) → (recorded s os q).shadows ≡ s.shadows
  recorded_shadows s os world.GoesOn = refl
  recorded_shadows s os (world.Commits r) = refl
  recorded_shadows s os (world.Aborts e) = refl

  after_shadows : (s : Boosted X Out) (a : ℕ) (p : Place) → IsNoBegin p → shadows_after s a p ≡ s.shadows
  after_shadows s a machine.Begin h = absurd h
  after_shadows s a p h = refl

  pub step_shadow : (s : Boosted X Out) (a : ℕ) (x : Actor) (p : Place) → IsNoBegin p → (word_step s a x p).shadows ≡ s.shadows
  step_shadow s a x p h =
      recorded_shadows (record s { words = world.step s.words a x p; shadows = shadows_after s a p }) (s.shadows a).outcomes
      (world.step_end a x p)
      ∙ after_shadows s a p h

module _ {X Op Out : Type 0} (c : Content X Op Out) where
  asked_if : (n : ℕ) (s : Boosted X Out) (a : ℕ) (z : Actor) (b : Bool) → SameReads n (s.words.actors a) z
      → Same n a s (cond b (on_words s (world.now s.words a z)) s)
  asked_if n s a z true h = (subst (SameReads n (s.words.actors a)) (sym (put-same s.words.actors a z)) h, refl)
  asked_if n s a z false h = same n a s

  -- a request of which the word actor's calls are the same from n on
  pub asked_to : (n : ℕ) (s : Boosted X Out) (a : ℕ) (q : Request)
      → SameReads n (s.words.actors a) (ask (s.words.actors a) (s.words.actors a).place q) → Same n a s (acts c s (OnWords (world.Ask a q)))
  asked_to n s a q h = by q h
    where
      now : Request → Actor
      now r = ask (s.words.actors a) (s.words.actors a).place r

      by : (r : Request) → SameReads n (s.words.actors a) (now r) → Same n a s (acts c s (OnWords (world.Ask a r)))
      by (word.AskWrite i v) k = asked_if n s a (now (word.AskWrite i v)) (c.plain i) k
      by word.AskStore k = asked_if n s a (now word.AskStore) (every (is_held c s a) (locations (s.words.actors a).writes)) k
      by word.AskRelease k = asked_if n s a (now word.AskRelease) (every (is_given c s a) (locations (s.words.actors a).writes)) k
      by word.AskBegin k = asked_if n s a (now word.AskBegin) true k
      by word.AskBeginRead k = asked_if n s a (now word.AskBeginRead) true k
      by word.AskLock k = asked_if n s a (now word.AskLock) true k
      by word.AskCancel k = asked_if n s a (now word.AskCancel) true k
      by word.AskAbort k = asked_if n s a (now word.AskAbort) true k
      by word.AskClose k = asked_if n s a (now word.AskClose) true k
      by (word.AskRead i) k = asked_if n s a (now (word.AskRead i)) true k

  pub asked_same : (n : ℕ) (s : Boosted X Out) (a : ℕ) (q : Request) → IsOnWords n q → Same n a s (acts c s (OnWords (world.Ask a q)))
  asked_same n s a q h = asked_to n s a q (ask_same n (s.words.actors a) (s.words.actors a).place q h)

  -- a step after which the word actor has these calls
  pub moved_to : (n : ℕ) (s : Boosted X Out) (a : ℕ) → IsNoBegin (s.words.actors a).place
      → SameReads n (s.words.actors a) (learns s.words (s.words.actors a) (plan (s.words.actors a) (s.words.actors a).place))
      → Same n a s (acts c s (OnWords (world.Step a)))
  moved_to n s a h k =
      let x = s.words.actors a in (
        subst (SameReads n x) (sym (moved_is s a x x.place refl)) k,
        ap (λ (f : ℕ → Shadow X Out). f a) (step_shadow s a x x.place h),
      )

  pub moved_same : (n : ℕ) (s : Boosted X Out) (a : ℕ) → IsStill (s.words.actors a).place → Same n a s (acts c s (OnWords (world.Step a)))
  moved_same n s a h =
      let x = s.words.actors a in
      moved_to n s a (still_begins x.place h) (same_calls n x (learns s.words x (plan x x.place)) (step_still s.words x x.place h))

  pub taken_same : (n : ℕ) (s : Boosted X Out) (a k : ℕ) → Same n a s (acts c s (TakeGate a k))
  taken_same n s a k = (
    λ l m. ap (λ (t : Words). first_read (t.actors a).calls l) (take_words c s a k),
    cond_both (is_none (s.gates k) && not (is_committing (s.words.actors a).place)) (gated s (put s.gates k (Some a)) s.shadows) s
        (λ (t : Boosted X Out). t.shadows a ≡ s.shadows a) (λ _. refl) (λ _. refl),
  )

  pub home_same : (n : ℕ) (s : Boosted X Out) (a k : ℕ) → Same n a s (acts c s (GoHome a k))
  home_same n s a k = (
    λ l m. ap (λ (t : Words). first_read (t.actors a).calls l) (home_words c s a k),
    cond_both (is_actor a (s.gates k) && is_stored (s.words.actors a).place) (homed c s a k) s
        (λ (t : Boosted X Out). t.shadows a ≡ s.shadows a) (λ _. refl) (λ _. refl),
  )

  -- a gate that is put back with nothing copied
  pub back_same : (n : ℕ) (s : Boosted X Out) (a k : ℕ) → Same n a s (acts c s (PutGate a k (λ l. false)))
  back_same n s a k =
      let none = λ (l : ℕ). false in
      let now = copied c s (s.words.actors a).calls (s.shadows a) k none in (
        λ l m. ap (λ (t : Words). first_read (t.actors a).calls l) (put_words c s a k none),
        cond_both (is_actor a (s.gates k) && not (is_committing (s.words.actors a).place))
            (gated s (put s.gates k None) (cond (is_open (s.words.actors a).place) (put s.shadows a now) s.shadows)) s
            (λ (t : Boosted X Out). t.shadows a ≡ s.shadows a)
            (λ _. cond_both (is_open (s.words.actors a).place) (put s.shadows a now) s.shadows
            (λ (f : ℕ → Shadow X Out). f a ≡ s.shadows a) (λ _. put-same s.shadows a now) (λ _. refl))
            (λ _. refl),
      )
