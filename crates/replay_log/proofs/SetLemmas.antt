-- What an action leaves of the two sets of its actor. A request leaves both, but for a write, which the write set takes; a step leaves
-- both, but for the load that begins a transaction, which empties them, and the last load of a read, which the read set takes; an action
-- on a gate leaves the words.
use Rattle.std.proofs.Common.{◌≡◌, ℕ, ◌+◌, ◌≤◌, Bool, true, false, cond, ◌&&◌, List, [], ◌∷◌, length, Option, Some, None, ◌⊎◌, inl, inr}
use Rattle.std.proofs.Common.{refl, sym, ◌∙◌, ap, subst, true≢false, arith, eqb}
use Rattle.std.specs.Prelude.{nat_le, not, if◌then◌else◌}
use Rattle.std.proofs.lemmas.Bool.{cond_both, cond-true}
use Rattle.seq_model.proofs.LogicLemmas.{some-none}
use Rattle.vlock_word.specs.declared.lock_word.LockWord.{LockWord}
use Rattle.vlock_word.specs.declared.lock_word.LockWord.TheVariants.{Free, Locked}
use Rattle.tx_sets.specs.Entries.{Entries, IsRising, lookup, with_entry, locations}
use Rattle.tx_sets.proofs.EntryLemmas.{length-with_entry_new, length-with_entry_there, IsRising-with_entry}
use Rattle.tx_machine.specs.Actor as machine
use Rattle.tx_machine.specs.Actor.{Place, Actor, goes}
use Rattle.tx_machine.specs.Requests as word
use Rattle.tx_machine.specs.Requests.{Request, ask, wrote}
use Rattle.tx_machine.specs.World as world
use Rattle.tx_machine.specs.World.{World as Words, plan, put, StepEnd}
use Rattle.tx_machine.proofs.Sets.{put-same}
use Rattle.tx_machine.specs.Content.{Content}
use Rattle.tx_machine.specs.Boosted.{Boosted, OnWords, TakeGate, PutGate, GoHome, word_step, writes_asked, on_words, gated, copied}
use Rattle.tx_machine.specs.Boosted.{homed, is_none, is_actor, is_open, is_stored, is_committing, is_held, is_given, every, acts}
use Rattle.tx_machine.proofs.Runs.{recorded_words}
use Rattle.replay_log.specs.Worlds.{new_in}
use Rattle.replay_log.proofs.ActionLemmas.{learns, exchanges, does_learns}
use Rattle.replay_log.proofs.CountLemmas.{new_fewer}

-- both have at most 4,096 locations, and the write set lists its own rising
abbrev pub AreSmallSets : Actor → Type 0
AreSmallSets y = (length y.reads ≤ 4096) × (length y.writes ≤ 4096) × IsRising y.writes

abbrev pub SameSets : Actor → Actor → Type 0
SameSets y z = (z.reads ≡ y.reads) × (z.writes ≡ y.writes)

pub small_same : (y z : Actor) → SameSets y z → AreSmallSets y → AreSmallSets z
small_same y z e h = (
  subst (λ (es : Entries). length es ≤ 4096) (sym e.0) h.0,
  subst (λ (es : Entries). length es ≤ 4096) (sym e.1) h.1,
  subst IsRising (sym e.1) h.2,
)

-- ---- requests
abbrev pub IsNoWrite : Request → Type 0
IsNoWrite (word.AskWrite l v) = ⊥
IsNoWrite q = Unit {0}

pub read_sets : (y : Actor) (l : ℕ) (own seen : Option ℕ) → SameSets y (word.read y l own seen)
read_sets y l (Some v) seen = (refl, refl)
read_sets y l None (Some v) = (refl, refl)
read_sets y l None None = (refl, refl)

lock_sets : (y : Actor) (es : Entries) → SameSets y (word.lock y es)
lock_sets y [] = (refl, refl)
lock_sets y (e ∷ es) = (refl, refl)

close_sets : (y : Actor) (es : Entries) → SameSets y (word.close y es)
close_sets y [] = (refl, refl)
close_sets y (e ∷ es) = (refl, refl)

abort_sets : (y : Actor) (es : Entries) → SameSets y (word.abort y es)
abort_sets y [] = (refl, refl)
abort_sets y (e ∷ es) = (refl, refl)

pub ask_sets : (y : Actor) (p : Place) (q : Request) → IsNoWrite q → SameSets y (ask y p q)
ask_sets y machine.Idle word.AskBegin h = (refl, refl)
ask_sets y machine.Idle word.AskBeginRead h = (refl, refl)
ask_sets y machine.Open (word.AskRead l) h = read_sets y l (lookup y.writes l) (lookup y.reads l)
ask_sets y machine.Open (word.AskWrite l v) h = absurd h
ask_sets y machine.Open word.AskLock h = lock_sets y y.writes
ask_sets y machine.Open word.AskClose h = close_sets y y.writes
ask_sets y machine.Open word.AskAbort h = (refl, refl)
ask_sets y (machine.Look l) word.AskAbort h = (refl, refl)
ask_sets y (machine.Fetch l k) word.AskAbort h = (refl, refl)
ask_sets y (machine.Again l k v) word.AskAbort h = (refl, refl)
ask_sets y machine.Close word.AskAbort h = (refl, refl)
ask_sets y machine.Begin word.AskAbort h = (refl, refl)
ask_sets y (machine.Lock ls) word.AskCancel h = (refl, refl)
ask_sets y (machine.Take l k ls) word.AskCancel h = (refl, refl)
ask_sets y (machine.Check ls) word.AskCancel h = (refl, refl)
ask_sets y machine.Broken word.AskCancel h = (refl, refl)
ask_sets y (machine.Check []) word.AskStore h = (refl, refl)
ask_sets y (machine.Store []) word.AskRelease h = (refl, refl)
ask_sets y machine.Undo word.AskAbort h = abort_sets y y.held
ask_sets y p q h = (refl, refl)

-- a write joins the write set, or is refused
abbrev IsWritten : Actor → ℕ → ℕ → Actor → Type 0
IsWritten y l v z = (z ≡ y) ⊎ ((z ≡ wrote y l v) × (y.declared ≡ false))

write_sets : (y : Actor) (b : Bool) (l v : ℕ) → y.declared ≡ b → IsWritten y l v (word.write y b l v)
write_sets y true l v e = inl refl
write_sets y false l v e = inr (refl, e)

ask_write : (y : Actor) (p : Place) (l v : ℕ) → IsWritten y l v (ask y p (word.AskWrite l v))
ask_write y machine.Open l v = write_sets y y.declared l v refl
ask_write y (machine.Check []) l v = inl refl
ask_write y (machine.Check (k ∷ ls)) l v = inl refl
ask_write y (machine.Store []) l v = inl refl
ask_write y (machine.Store (k ∷ ls)) l v = inl refl
ask_write y p l v = inl refl

-- ---- the write set with one location more
new_rest : (es : Entries) (l : ℕ) (ls : List ℕ) → length (new_in es ls) ≤ length (new_in es (l ∷ ls))
new_rest es l ls = cond_both (is_none (lookup es l)) (l ∷ new_in es ls) (new_in es ls) (λ zs. length (new_in es ls) ≤ length zs)
    (λ _. omega arith) (λ _. omega arith)

new_one : (es : Entries) (l v : ℕ) (ls : List ℕ) → IsRising es
    → length (with_entry es l v) + length (new_in (with_entry es l v) ls) ≤ length es + length (new_in es (l ∷ ls))
new_one es l v ls rising = by (lookup es l) refl
  where
    fewer : length (new_in (with_entry es l v) ls) ≤ length (new_in es ls)
    fewer = new_fewer es l v ls

    by : (o : Option ℕ) → lookup es l ≡ o → length (with_entry es l v) + length (new_in (with_entry es l v) ls) ≤ length es + length
        (new_in es (l ∷ ls))
    by None e =
        let grown = length-with_entry_new es l v e in
        let more = ap length (cond-true (is_none (lookup es l)) (l ∷ new_in es ls) (new_in es ls) (ap is_none e)) in
        omega (arith, fewer, grown, more)
    by (Some u) e =
        let same = length-with_entry_there es l v rising (λ none. some-none u (sym e ∙ none)) in
        let more = new_rest es l ls in
        omega (arith, fewer, same, more)

abbrev pub FitsWrites : Actor → List ℕ → Type 0
FitsWrites y ls = (y.declared ≡ true) ⊎ (length y.writes + length (new_in y.writes ls) ≤ 4096)

wrote_fits : (y z : Actor) (l v : ℕ) (ls : List ℕ) → IsWritten y l v z → AreSmallSets y → FitsWrites y (l ∷ ls) → AreSmallSets z
    × FitsWrites z ls
wrote_fits y z l v ls w h f = elim w [
  | inl same ↦
      subst (λ (u : Actor). AreSmallSets u × FitsWrites u ls) (sym same)
      (h, elim f [ inl d ↦ inl d | inr few ↦ inr (let more = new_rest y.writes l ls in omega (arith, few, more)) ])
  | inr q ↦
      subst (λ (u : Actor). AreSmallSets u × FitsWrites u ls) (sym q.0)
      (elim f [
        | inl d ↦ absurd (true≢false (sym d ∙ q.1))
        | inr few ↦ (
            let more = new_one y.writes l v ls h.2 in
            ((h.0, omega (arith, few, more), IsRising-with_entry y.writes l v h.2), inr (omega (arith, few, more)))
            )
      ])
]

pub writes_small : (s : Words) (a : ℕ) (editions : ℕ → ℕ) (ls : List ℕ) → AreSmallSets (s.actors a) → FitsWrites (s.actors a) ls
    → AreSmallSets ((world.run (writes_asked a editions ls) s).actors a)
writes_small s a editions [] h f = h
writes_small s a editions (l ∷ ls) h f =
    let x = s.actors a in
    let y = ask x x.place (word.AskWrite l (editions l + 1)) in
    let t : Words = world.now s a y in
    let is : t.actors a ≡ y = put-same s.actors a y in
    let r = wrote_fits x y l (editions l + 1) ls (ask_write x x.place l (editions l + 1)) h f in
    writes_small t a editions ls (subst AreSmallSets (sym is) r.0) (subst (λ (u : Actor). FitsWrites u ls) (sym is) r.1)

pub asked_write_small : (y : Actor) (p : Place) (l v : ℕ) → AreSmallSets y → FitsWrites y (l ∷ [])
    → AreSmallSets (ask y p (word.AskWrite l v))
asked_write_small y p l v h f = (wrote_fits y (ask y p (word.AskWrite l v)) l v [] (ask_write y p l v) h f).0

-- ---- steps
abbrev pub IsNoRead : Place → Type 0
IsNoRead machine.Begin = ⊥
IsNoRead (machine.Again l k v) = ⊥
IsNoRead p = Unit {0}

seen_sets : (y : Actor) (l : ℕ) (w : LockWord) → SameSets y (machine.seen y l w)
seen_sets y l (Free k) = cond_both (nat_le k y.rv) (goes y (machine.Fetch l k)) (goes y machine.Undo) (SameSets y) (λ _. (refl, refl))
    (λ _. (refl, refl))
seen_sets y l (Locked k) = (refl, refl)

to_lock_sets : (y : Actor) (l : ℕ) (ls : List ℕ) (w : LockWord) → SameSets y (machine.seen_to_lock y l ls w)
to_lock_sets y l ls (Free k) = (refl, refl)
to_lock_sets y l ls (Locked k) = (refl, refl)

take_sets : (y : Actor) (l k : ℕ) (ls : List ℕ) (w : LockWord) → SameSets y (exchanges k (machine.taken y l k ls) (goes y machine.Broken) w)
take_sets y l k ls (Free j) = cond_both (eqb j k) (machine.taken y l k ls) (goes y machine.Broken) (SameSets y) (λ _. (refl, refl))
    (λ _. (refl, refl))
take_sets y l k ls (Locked j) = (refl, refl)

check_sets : (y : Actor) (ls : List ℕ) (w : LockWord) (own : Option ℕ) → SameSets y (machine.seen_in_check y ls w own)
check_sets y ls (Free k) own = cond_both (nat_le k y.rv) (goes y (machine.Check ls)) (goes y machine.Broken) (SameSets y)
    (λ _. (refl, refl)) (λ _. (refl, refl))
check_sets y ls (Locked k) (Some v) = cond_both (nat_le k y.rv) (goes y (machine.Check ls)) (goes y machine.Broken) (SameSets y)
    (λ _. (refl, refl)) (λ _. (refl, refl))
check_sets y ls (Locked k) None = (refl, refl)

first_sets : (s : Words) (y : Actor) (es : Entries) → SameSets y (learns s y (world.first_store y es))
first_sets s y [] = (refl, refl)
first_sets s y (e ∷ es) = (refl, refl)

release_sets : (s : Words) (y : Actor) (es : Entries) → SameSets y (learns s y (world.release y es))
release_sets s y [] = (refl, refl)
release_sets s y (e ∷ es) = (refl, refl)

undo_sets : (s : Words) (y : Actor) (es : Entries) → SameSets y (learns s y (world.undo y es))
undo_sets s y [] = (refl, refl)
undo_sets s y (e ∷ es) = (refl, refl)

pub step_sets : (s : Words) (y : Actor) (p : Place) → IsNoRead p → SameSets y (learns s y (plan y p))
step_sets s y machine.Idle h = (refl, refl)
step_sets s y machine.Begin h = absurd h
step_sets s y machine.Open h = (refl, refl)
step_sets s y (machine.Look l) h = seen_sets y l (s.locks l)
step_sets s y (machine.Fetch l k) h = (refl, refl)
step_sets s y (machine.Again l k v) h = absurd h
step_sets s y (machine.Lock []) h = (refl, refl)
step_sets s y (machine.Lock (l ∷ ls)) h = to_lock_sets y l ls (s.locks l)
step_sets s y (machine.Take l k ls) h = take_sets y l k ls (s.locks l)
step_sets s y (machine.Check []) h = (refl, refl)
step_sets s y (machine.Check (l ∷ ls)) h = check_sets y ls (s.locks l) (lookup y.writes l)
step_sets s y machine.Broken h = (refl, refl)
step_sets s y machine.First h = first_sets s y y.writes
step_sets s y (machine.Store []) h = (refl, refl)
step_sets s y (machine.Store (l ∷ ls)) h = (refl, refl)
step_sets s y machine.Release h = release_sets s y y.held
step_sets s y machine.Undo h = undo_sets s y y.held
step_sets s y machine.Leave h = (refl, refl)
step_sets s y machine.Close h = (refl, refl)

-- ---- actions
noted_actors : (s : Words) (q : StepEnd) → (world.noted s q).actors ≡ s.actors
noted_actors s world.GoesOn = refl
noted_actors s (world.Commits r) = refl
noted_actors s (world.Aborts e) = refl

module _ {X Out : Type 0} where
  -- what a step of the words makes of its actor's record
  pub moved_is : (s : Boosted X Out) (a : ℕ) (x : Actor) (p : Place) → s.words.actors a ≡ x
      → (word_step s a x p).words.actors a ≡ learns s.words x (plan x p)
  moved_is s a x p e =
      ap (λ (t : Words). t.actors a) (recorded_words _ (s.shadows a).outcomes (world.step_end a x p))
      ∙ ap (λ (f : ℕ → Actor). f a) (noted_actors (world.does s.words a (plan x p)) (world.step_end a x p))
      ∙ does_learns s.words a (plan x p) ∙ ap (λ (u : Actor). learns s.words u (plan x p)) e

module _ {X Op Out : Type 0} (c : Content X Op Out) where
  pub take_words : (s : Boosted X Out) (a k : ℕ) → (acts c s (TakeGate a k)).words ≡ s.words
  take_words s a k =
      cond_both (is_none (s.gates k) && not (is_committing (s.words.actors a).place)) (gated s (put s.gates k (Some a)) s.shadows) s
      (λ (t : Boosted X Out). t.words ≡ s.words) (λ _. refl) (λ _. refl)

  pub put_words : (s : Boosted X Out) (a k : ℕ) (which : ℕ → Bool) → (acts c s (PutGate a k which)).words ≡ s.words
  put_words s a k which =
      cond_both (is_actor a (s.gates k) && not (is_committing (s.words.actors a).place))
      (gated s (put s.gates k None) (if is_open (s.words.actors a).place then put s.shadows a
      (copied c s (s.words.actors a).calls (s.shadows a) k which) else s.shadows)) s
      (λ (t : Boosted X Out). t.words ≡ s.words) (λ _. refl) (λ _. refl)

  pub home_words : (s : Boosted X Out) (a k : ℕ) → (acts c s (GoHome a k)).words ≡ s.words
  home_words s a k =
      cond_both (is_actor a (s.gates k) && is_stored (s.words.actors a).place) (homed c s a k) s (λ (t : Boosted X Out). t.words ≡ s.words)
      (λ _. refl) (λ _. refl)

  asked_by : (s : Boosted X Out) (a : ℕ) (q : Request) (b : Bool) → SameSets (s.words.actors a)
      (ask (s.words.actors a) (s.words.actors a).place q)
      → SameSets (s.words.actors a)
      ((cond b (on_words s (world.now s.words a (ask (s.words.actors a) (s.words.actors a).place q))) s).words.actors a)
  asked_by s a q true h = subst (SameSets (s.words.actors a)) (sym (put-same s.words.actors a
      (ask (s.words.actors a) (s.words.actors a).place q))) h
  asked_by s a q false h = (refl, refl)

  pub asked_sets : (s : Boosted X Out) (a : ℕ) (q : Request) → IsNoWrite q
      → SameSets (s.words.actors a) ((acts c s (OnWords (world.Ask a q))).words.actors a)
  asked_sets s a q h = by q (ask_sets (s.words.actors a) (s.words.actors a).place q h) h
    where
      by : (q : Request) → SameSets (s.words.actors a) (ask (s.words.actors a) (s.words.actors a).place q) → IsNoWrite q
          → SameSets (s.words.actors a) ((acts c s (OnWords (world.Ask a q))).words.actors a)
      by (word.AskWrite l v) k h = absurd h
      by word.AskStore k h = asked_by s a word.AskStore (every (is_held c s a) (locations (s.words.actors a).writes)) k
      by word.AskRelease k h = asked_by s a word.AskRelease (every (is_given c s a) (locations (s.words.actors a).writes)) k
      by word.AskBegin k h = asked_by s a word.AskBegin true k
      by word.AskBeginRead k h = asked_by s a word.AskBeginRead true k
      by word.AskLock k h = asked_by s a word.AskLock true k
      by word.AskCancel k h = asked_by s a word.AskCancel true k
      by word.AskAbort k h = asked_by s a word.AskAbort true k
      by word.AskClose k h = asked_by s a word.AskClose true k
      by (word.AskRead l) k h = asked_by s a (word.AskRead l) true k

  pub moved_sets : (s : Boosted X Out) (a : ℕ) → IsNoRead (s.words.actors a).place
      → SameSets (s.words.actors a) ((acts c s (OnWords (world.Step a))).words.actors a)
  moved_sets s a h =
      let x = s.words.actors a in
      subst (SameSets x) (sym (moved_is s a x x.place refl)) (step_sets s.words x x.place h)
