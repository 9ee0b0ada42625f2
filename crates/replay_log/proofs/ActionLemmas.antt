-- What an action of actor a makes of a's own record, shadow and gates, and that it leaves those of the others. The history grows by the
-- first value store and by the load that closes a reader alone, the list of the aborted by the load that leaves. One lemma for each kind
-- of action, said of its guard where it has one.
use Rattle.std.proofs.Common.{◌≡◌, ℕ, ◌+◌, Bool, true, false, cond, List, [], ◌∷◌, ◌++◌, Option, Some, None, refl, sym, ap, ◌∙◌, subst, eqb}
use Rattle.std.proofs.Common.{true≢false, eq-eqb, ne_eqb, inl, inr}
use Rattle.std.specs.Prelude.{◌==◌, ◌&&◌, not, if◌then◌else◌, nat_lt, filter}
use Rattle.std.proofs.lemmas.Bool.{cond_both, cond-true, cases_eq}
use Rattle.vlock_word.specs.declared.lock_word.LockWord.{LockWord}
use Rattle.vlock_word.specs.declared.lock_word.LockWord.TheVariants.{Free, Locked}
use Rattle.tx_sets.specs.Entries.{locations}
use Rattle.tx_machine.specs.Actor as machine
use Rattle.tx_machine.specs.Actor.{Place, Begin, Open, Actor, goes}
use Rattle.tx_machine.specs.Requests.{Request, AskBegin, AskBeginRead, AskRead, AskWrite, AskLock, AskStore, AskRelease, AskCancel}
use Rattle.tx_machine.specs.Requests.{AskAbort, AskClose, ask, write, wrote}
use Rattle.tx_machine.specs.World as world
use Rattle.tx_machine.specs.World.{World, put, plan, does, noted, step_end, step, Deed, StepEnd, Ask}
use Rattle.tx_machine.proofs.Sets.{put-same, put-other}
use Rattle.std.proofs.lemmas.List.{append-nil}
use Rattle.std.proofs.lemmas.List.Elements.{filter-append}
use Rattle.tx_machine.specs.Content.{Content, IsIn}
use Rattle.tx_machine.specs.Boosted.{Shadow, Boosted, OnWords, TakeGate, PutGate, GoHome, is_open, is_stored, is_committing}
use Rattle.tx_machine.specs.Boosted.{is_actor, is_none, every, may_write, insert_commit, on_words, fresh, shadows_after, recorded}
use Rattle.tx_machine.specs.Boosted.{word_step, gated, copied, is_held, is_given, is_sound, writes_asked, longer, accepted, homed}
use Rattle.tx_machine.specs.Boosted.{acts}
use Rattle.tx_machine.proofs.Steady.{IsFreeAsk}
use Rattle.tx_machine.specs.Opacity.{first_read}
use Rattle.replay_log.proofs.ReadLemmas.{first_read-write}

-- ---- a step of the word machine
-- t has what s has, but for its actor a, its clock and its words
pub record Rest (s t : World) (a : ℕ) : Type 0 where
  pub history : t.history ≡ s.history
  pub aborted : t.aborted ≡ s.aborted
  pub actors : (b : ℕ) → (b ≡ a → ⊥) → t.actors b ≡ s.actors b

exchanged_rest : (s : World) (a l k : ℕ) (won lost : Actor) (w : LockWord) → Rest s (world.exchanged s a l k won lost w) a
exchanged_rest s a l k won lost (Free j) =
    elim (eqb j k) as (λ b. Rest s (cond b (record (world.now s a won) { locks = put s.locks l (Locked k) }) (world.now s a lost)) a) [
      | true ↦ record { history = refl; aborted = refl; actors = λ b ne. put-other s.actors a won b ne }
      | false ↦ record { history = refl; aborted = refl; actors = λ b ne. put-other s.actors a lost b ne }
    ]
exchanged_rest s a l k won lost (Locked j) = record { history = refl; aborted = refl; actors = λ b ne. put-other s.actors a lost b ne }

pub does_rest : (s : World) (a : ℕ) (d : Deed) → Rest s (does s a d) a
does_rest s a world.Rests = record { history = refl; aborted = refl; actors = λ b ne. refl }
does_rest s a (world.LoadClock f) = record { history = refl; aborted = refl; actors = λ b ne. put-other s.actors a (f s.clock) b ne }
does_rest s a (world.AddToClock f) = record { history = refl; aborted = refl; actors = λ b ne. put-other s.actors a (f s.clock) b ne }
does_rest s a (world.LoadLock l f) = record { history = refl; aborted = refl; actors = λ b ne. put-other s.actors a (f (s.locks l)) b ne }
does_rest s a (world.LoadValue l f) = record { history = refl; aborted = refl; actors = λ b ne. put-other s.actors a (f (s.values l)) b ne }
does_rest s a (world.ExchangeLock l k won lost) = exchanged_rest s a l k won lost (s.locks l)
does_rest s a (world.StoreValue l v y) = record { history = refl; aborted = refl; actors = λ b ne. put-other s.actors a y b ne }
does_rest s a (world.StoreLock l v y) = record { history = refl; aborted = refl; actors = λ b ne. put-other s.actors a y b ne }

-- the actor's record after a deed
abbrev pub exchanges : ℕ → Actor → Actor → LockWord → Actor
exchanges k won lost (Free j) = if j == k then won else lost
exchanges k won lost (Locked j) = lost

abbrev pub learns : World → Actor → Deed → Actor
learns s x world.Rests = x
learns s x (world.LoadClock f) = f s.clock
learns s x (world.AddToClock f) = f s.clock
learns s x (world.LoadLock l f) = f (s.locks l)
learns s x (world.LoadValue l f) = f (s.values l)
learns s x (world.ExchangeLock l k won lost) = exchanges k won lost (s.locks l)
learns s x (world.StoreValue l v y) = y
learns s x (world.StoreLock l v y) = y

exchanged_learns : (s : World) (a l k : ℕ) (won lost : Actor) (w : LockWord) → (world.exchanged s a l k won lost w).actors a
    ≡ exchanges k won lost w
exchanged_learns s a l k won lost (Free j) =
    elim (eqb j k) as (λ b. (cond b (record (world.now s a won) { locks = put s.locks l (Locked k) }) (world.now s a lost)).actors a
    ≡ cond b won lost) [
      | true ↦ put-same s.actors a won
      | false ↦ put-same s.actors a lost
    ]
exchanged_learns s a l k won lost (Locked j) = put-same s.actors a lost

pub does_learns : (s : World) (a : ℕ) (d : Deed) → (does s a d).actors a ≡ learns s (s.actors a) d
does_learns s a world.Rests = refl
does_learns s a (world.LoadClock f) = put-same s.actors a (f s.clock)
does_learns s a (world.AddToClock f) = put-same s.actors a (f s.clock)
does_learns s a (world.LoadLock l f) = put-same s.actors a (f (s.locks l))
does_learns s a (world.LoadValue l f) = put-same s.actors a (f (s.values l))
does_learns s a (world.ExchangeLock l k won lost) = exchanged_learns s a l k won lost (s.locks l)
does_learns s a (world.StoreValue l v y) = put-same s.actors a y
does_learns s a (world.StoreLock l v y) = put-same s.actors a y

-- a's gates with k, and without it
abbrev pub with_gate : (ℕ → Bool) → ℕ → ℕ → Bool
with_gate g k j = if j == k then true else g j

abbrev pub without_gate : (ℕ → Bool) → ℕ → ℕ → Bool
without_gate g k j = if j == k then false else g j

-- who may write there is no declared reader
pub is_undeclared : (declared : Bool) (ls : List ℕ) (l : ℕ) → may_write declared ls ≡ true → IsIn l ls → declared ≡ false
is_undeclared declared [] l h m = absurd m
is_undeclared true (k ∷ ks) l h m = absurd (true≢false (sym h))
is_undeclared false (k ∷ ks) l h m = refl

-- ---- an action
module _ {X Out : Type 0} where
  -- t has of the other actors what s has
  pub record Apart (s t : Boosted X Out) (a : ℕ) : Type 0 where
    pub actors : (b : ℕ) → (b ≡ a → ⊥) → t.words.actors b ≡ s.words.actors b
    pub shadows : (b : ℕ) → (b ≡ a → ⊥) → t.shadows b ≡ s.shadows b
    pub gates : (b k : ℕ) → (b ≡ a → ⊥) → is_actor b (t.gates k) ≡ is_actor b (s.gates k)

  -- and a has this
  pub record Own (t : Boosted X Out) (a : ℕ) (y : Actor) (z : Shadow X Out) (g : ℕ → Bool) : Type 0 where
    pub actor : t.words.actors a ≡ y
    pub shadow : t.shadows a ≡ z
    pub gates : (k : ℕ) → is_actor a (t.gates k) ≡ g k

  abbrev pub mine : Boosted X Out → ℕ → ℕ → Bool
  mine s a k = is_actor a (s.gates k)

  -- an action that ends no transaction
  pub record Goes (s t : Boosted X Out) (a : ℕ) (y : Actor) (z : Shadow X Out) (g : ℕ → Bool) : Type 0 where
    pub apart : Apart s t a
    pub own : Own t a y z g
    pub history : t.history ≡ s.history
    pub aborted : t.aborted ≡ s.aborted

  -- one that commits
  pub record Commits (s t : Boosted X Out) (a : ℕ) (y : Actor) (z : Shadow X Out) (g : ℕ → Bool) (r : world.Record) : Type 0 where
    pub apart : Apart s t a
    pub own : Own t a y z g
    pub history : t.history ≡ insert_commit (record { word = r; outcomes = z.outcomes }) s.history
    pub aborted : t.aborted ≡ s.aborted

  -- one that ends an aborted transaction
  pub record Leaves (s t : Boosted X Out) (a : ℕ) (y : Actor) (z : Shadow X Out) (g : ℕ → Bool) (e : world.Ended) : Type 0 where
    pub apart : Apart s t a
    pub own : Own t a y z g
    pub history : t.history ≡ s.history
    pub aborted : t.aborted ≡ s.aborted ++ record { word = e; outcomes = z.outcomes } ∷ []

  pub as_mine : (s : Boosted X Out) (a : ℕ) → Own s a (s.words.actors a) (s.shadows a) (mine s a)
  as_mine s a = record { actor = refl; shadow = refl; gates = λ k. refl }

  -- the words are t now, whose actor a is y
  turned : (s : Boosted X Out) (a : ℕ) (y : Actor) → Goes s (on_words s (world.now s.words a y)) a y (s.shadows a) (mine s a)
  turned s a y = record {
    apart = record { actors = λ b ne. put-other s.words.actors a y b ne; shadows = λ b ne. refl; gates = λ b k ne. refl };
    own = record { actor = put-same s.words.actors a y; shadow = refl; gates = λ k. refl };
    history = refl;
    aborted = refl;
  }

  deed_apart : (s t : Boosted X Out) (a : ℕ) (d : Deed) → t.words.actors ≡ (does s.words a d).actors → t.shadows ≡ s.shadows → t.gates
      ≡ s.gates
      → Apart s t a
  deed_apart s t a d ws sh gs = record {
    actors = λ b ne. ap (λ (f : ℕ → Actor). f b) ws ∙ (does_rest s.words a d).actors b ne;
    shadows = λ b ne. ap (λ (f : ℕ → Shadow X Out). f b) sh;
    gates = λ b k ne. ap (λ (f : ℕ → Option ℕ). is_actor b (f k)) gs;
  }

  deed_own : (s t : Boosted X Out) (a : ℕ) (d : Deed) → t.words.actors ≡ (does s.words a d).actors → t.shadows ≡ s.shadows → t.gates
      ≡ s.gates
      → Own t a (learns s.words (s.words.actors a) d) (s.shadows a) (mine s a)
  deed_own s t a d ws sh gs = record {
    actor = ap (λ (f : ℕ → Actor). f a) ws ∙ does_learns s.words a d;
    shadow = ap (λ (f : ℕ → Shadow X Out). f a) sh;
    gates = λ k. ap (λ (f : ℕ → Option ℕ). is_actor a (f k)) gs;
  }

  -- the world after a step whose outcome is q
  abbrev after_deed : Boosted X Out → ℕ → Deed → StepEnd → Boosted X Out
  after_deed s a d q = recorded (record s { words = noted (does s.words a d) q; shadows = s.shadows }) (s.shadows a).outcomes q

  pub step_goes : (s : Boosted X Out) (a : ℕ) (p : Place) → (s.words.actors a).place ≡ p → step_end a (s.words.actors a) p ≡ world.GoesOn
      → shadows_after s a p ≡ s.shadows
      → Goes s (word_step s a (s.words.actors a) (s.words.actors a).place) a
      (learns s.words (s.words.actors a) (plan (s.words.actors a) p)) (s.shadows a)
      (mine s a)
  step_goes s a p e o sh =
      let x = s.words.actors a in
      let d = plan x p in
      let out : Boosted X Out → Type 0 = λ t. Goes s t a (learns s.words x d) (s.shadows a) (mine s a) in
      subst (λ q. out (word_step s a x q)) (sym e)
      (subst (λ f. out (recorded (record s { words = step s.words a x p; shadows = f }) (s.shadows a).outcomes (step_end a x p))) (sym sh)
      (subst (λ q. out (after_deed s a d q)) (sym o) (record {
        apart = deed_apart s (after_deed s a d world.GoesOn) a d refl refl refl;
        own = deed_own s (after_deed s a d world.GoesOn) a d refl refl refl;
        history = refl;
        aborted = refl;
      })))

  pub step_commits : (s : Boosted X Out) (a : ℕ) (p : Place) (r : world.Record) → (s.words.actors a).place ≡ p
      → step_end a (s.words.actors a) p ≡ world.Commits r → shadows_after s a p ≡ s.shadows
      → Commits s (word_step s a (s.words.actors a) (s.words.actors a).place) a
      (learns s.words (s.words.actors a) (plan (s.words.actors a) p))
      (s.shadows a) (mine s a) r
  step_commits s a p r e o sh =
      let x = s.words.actors a in
      let d = plan x p in
      let out : Boosted X Out → Type 0 = λ t. Commits s t a (learns s.words x d) (s.shadows a) (mine s a) r in
      subst (λ q. out (word_step s a x q)) (sym e)
      (subst (λ f. out (recorded (record s { words = step s.words a x p; shadows = f }) (s.shadows a).outcomes (step_end a x p))) (sym sh)
      (subst (λ q. out (after_deed s a d q)) (sym o) (record {
        apart = deed_apart s (after_deed s a d (world.Commits r)) a d refl refl refl;
        own = deed_own s (after_deed s a d (world.Commits r)) a d refl refl refl;
        history = refl;
        aborted = refl;
      })))

  pub step_leaves : (s : Boosted X Out) (a : ℕ) (p : Place) (r : world.Ended) → (s.words.actors a).place ≡ p
      → step_end a (s.words.actors a) p ≡ world.Aborts r → shadows_after s a p ≡ s.shadows
      → Leaves s (word_step s a (s.words.actors a) (s.words.actors a).place) a
      (learns s.words (s.words.actors a) (plan (s.words.actors a) p)) (s.shadows a)
      (mine s a) r
  step_leaves s a p r e o sh =
      let x = s.words.actors a in
      let d = plan x p in
      let out : Boosted X Out → Type 0 = λ t. Leaves s t a (learns s.words x d) (s.shadows a) (mine s a) r in
      subst (λ q. out (word_step s a x q)) (sym e)
      (subst (λ f. out (recorded (record s { words = step s.words a x p; shadows = f }) (s.shadows a).outcomes (step_end a x p))) (sym sh)
      (subst (λ q. out (after_deed s a d q)) (sym o) (record {
        apart = deed_apart s (after_deed s a d (world.Aborts r)) a d refl refl refl;
        own = deed_own s (after_deed s a d (world.Aborts r)) a d refl refl refl;
        history = refl;
        aborted = refl;
      })))

  -- a transaction begins, with nothing copied, or the clock is at its limit
  abbrev pub begun_shadow : Boosted X Out → ℕ → Bool → Shadow X Out
  begun_shadow s a b = if b then fresh s else s.shadows a

  pub begin_goes : (s : Boosted X Out) (a : ℕ) → (s.words.actors a).place ≡ Begin
      → Goes s (word_step s a (s.words.actors a) (s.words.actors a).place) a (machine.begun (s.words.actors a) s.words.clock)
      (begun_shadow s a (nat_lt s.words.clock machine.clock_limit)) (mine s a)
  begin_goes s a e =
      let x = s.words.actors a in
      let b = nat_lt s.words.clock machine.clock_limit in
      subst (λ q. Goes s (word_step s a x q) a (machine.begun x s.words.clock) (begun_shadow s a b) (mine s a)) (sym e) (record {
        apart = record {
          actors = λ i ne. put-other s.words.actors a (machine.begun x s.words.clock) i ne;
          shadows = λ i ne. cond_both b (put s.shadows a (fresh s)) s.shadows (λ (f : ℕ → Shadow X Out). f i ≡ s.shadows i)
              (λ _. put-other s.shadows a (fresh s) i ne) (λ _. refl);
          gates = λ i k ne. refl;
        };
        own = record {
          actor = put-same s.words.actors a (machine.begun x s.words.clock);
          shadow = elim b as (λ z. (if z then put s.shadows a (fresh s) else s.shadows) a ≡ begun_shadow s a z) [
            | true ↦ put-same s.shadows a
                (fresh s)
            | false ↦ refl
          ];
          gates = λ k. refl;
        };
        history = refl;
        aborted = refl;
      })

  -- the gate of k is o now, of a or of none
  gate_apart : (s t : Boosted X Out) (a k : ℕ) → t.words ≡ s.words → ((b : ℕ) → (b ≡ a → ⊥) → t.shadows b ≡ s.shadows b)
      → ((j : ℕ) → (j ≡ k → ⊥) → t.gates j ≡ s.gates j) → ((b : ℕ) → (b ≡ a → ⊥) → is_actor b (t.gates k) ≡ is_actor b (s.gates k))
      → Apart s t a
  gate_apart s t a k ws sh other here = record {
    actors = λ b ne. ap (λ (w : World). w.actors b) ws;
    shadows = sh;
    gates = λ b j ne. elim (cases_eq j k) [
      | inl e ↦ ap (λ (i : ℕ). is_actor b (t.gates i)) e ∙ here b ne ∙ ap (λ (i : ℕ). is_actor b (s.gates i)) (sym e)
      | inr isnt ↦ ap (is_actor b) (other j isnt)
    ];
  }

  -- b's gate or not, where it is a's
  not_his : (s : Boosted X Out) (a b k : ℕ) → (b ≡ a → ⊥) → is_actor a (s.gates k) ≡ true → is_actor b (s.gates k) ≡ false
  not_his s a b k ne h = his (s.gates k) h
    where
      of_eqb : (i j : ℕ) → eqb i j ≡ true → i ≡ j
      of_eqb i j g = elim (cases_eq i j) [ inl e ↦ e | inr isnt ↦ absurd (true≢false (sym g ∙ ne_eqb i j isnt)) ]

      his : (o : Option ℕ) → is_actor a o ≡ true → is_actor b o ≡ false
      his None g = absurd (true≢false (sym g))
      his (Some i) g = ne_eqb b i (λ e. ne (e ∙ sym (of_eqb a i g)))

module _ {X Op Out : Type 0} (c : Content X Op Out) where
  -- ---- requests
  pub ask_goes : (s : Boosted X Out) (a : ℕ) (p : Place) (q : Request) → (s.words.actors a).place ≡ p → IsFreeAsk q
      → Goes s (acts c s (OnWords (Ask a q))) a (ask (s.words.actors a) p q) (s.shadows a) (mine s a)
  ask_goes s a p q e f = subst (λ r. Goes s (acts c s (OnWords (Ask a q))) a (ask (s.words.actors a) r q) (s.shadows a) (mine s a)) e
      (at_place q f)
    where
      at_place : (q : Request) → IsFreeAsk q → Goes s (acts c s (OnWords (Ask a q))) a (ask (s.words.actors a) (s.words.actors a).place q)
          (s.shadows a) (mine s a)
      at_place AskBeginRead f = turned s a (ask (s.words.actors a) (s.words.actors a).place AskBeginRead)
      at_place AskBegin f = turned s a (ask (s.words.actors a) (s.words.actors a).place AskBegin)
      at_place AskLock f = turned s a (ask (s.words.actors a) (s.words.actors a).place AskLock)
      at_place AskStore f = absurd f
      at_place AskRelease f = absurd f
      at_place AskCancel f = turned s a (ask (s.words.actors a) (s.words.actors a).place AskCancel)
      at_place AskAbort f = turned s a (ask (s.words.actors a) (s.words.actors a).place AskAbort)
      at_place AskClose f = turned s a (ask (s.words.actors a) (s.words.actors a).place AskClose)
      at_place (AskRead l) f = turned s a (ask (s.words.actors a) (s.words.actors a).place (AskRead l))
      at_place (AskWrite l v) f = absurd f

  pub write_goes : (s : Boosted X Out) (a l v : ℕ) → (s.words.actors a).place ≡ Open → (s.words.actors a).declared ≡ false → c.plain l
      ≡ true
      → Goes s (acts c s (OnWords (Ask a (AskWrite l v)))) a (wrote (s.words.actors a) l v) (s.shadows a) (mine s a)
  write_goes s a l v e d pl =
      let x = s.words.actors a in
      subst (λ t. Goes s t a (wrote x l v) (s.shadows a) (mine s a))
      (sym (cond-true (c.plain l) (on_words s (world.now s.words a (ask x x.place (AskWrite l v)))) s pl))
      (subst (λ y. Goes s (on_words s (world.now s.words a y)) a (wrote x l v) (s.shadows a) (mine s a))
      (sym (ap (λ p. ask x p (AskWrite l v)) e ∙ ap (λ b. write x b l v) d)) (turned s a (wrote x l v)))

  pub store_goes : (s : Boosted X Out) (a : ℕ) → (s.words.actors a).place ≡ machine.Check []
      → every (is_held c s a) (locations (s.words.actors a).writes) ≡ true
      → Goes s (acts c s (OnWords (Ask a AskStore))) a (goes (s.words.actors a) machine.First) (s.shadows a) (mine s a)
  store_goes s a e all =
      let x = s.words.actors a in
      subst (λ t. Goes s t a (goes x machine.First) (s.shadows a) (mine s a))
      (sym (cond-true (every (is_held c s a) (locations x.writes)) (on_words s (world.now s.words a (ask x x.place AskStore))) s all))
      (subst (λ y. Goes s (on_words s (world.now s.words a y)) a (goes x machine.First) (s.shadows a) (mine s a))
      (sym (ap (λ p. ask x p AskStore) e))
      (turned s a (goes x machine.First)))

  pub release_goes : (s : Boosted X Out) (a : ℕ) → (s.words.actors a).place ≡ machine.Store []
      → every (is_given c s a) (locations (s.words.actors a).writes) ≡ true
      → Goes s (acts c s (OnWords (Ask a AskRelease))) a (goes (s.words.actors a) machine.Release) (s.shadows a) (mine s a)
  release_goes s a e all =
      let x = s.words.actors a in
      subst (λ t. Goes s t a (goes x machine.Release) (s.shadows a) (mine s a))
      (sym (cond-true (every (is_given c s a) (locations x.writes)) (on_words s (world.now s.words a (ask x x.place AskRelease))) s all))
      (subst (λ y. Goes s (on_words s (world.now s.words a y)) a (goes x machine.Release) (s.shadows a) (mine s a))
      (sym (ap (λ p. ask x p AskRelease) e))
      (turned s a (goes x machine.Release)))

  -- ---- gates
  gate_put : (s : Boosted X Out) (a k : ℕ) (o : Option ℕ) (b : Bool) → is_actor a o ≡ b → (j : ℕ)
      → is_actor a (put s.gates k o j) ≡ (if j == k then b else mine s a j)
  unfolding put
  gate_put s a k o b e j = elim (eqb j k) as
      (λ z. is_actor a (if z then o else s.gates j) ≡ (if z then b else mine s a j)) [ true ↦ e | false ↦ refl ]

  -- a try on a gate that was free, and on one that was not
  pub record Tried (s t : Boosted X Out) (a k : ℕ) : Type 0 where
    pub won : is_none (s.gates k) ≡ true → Goes s t a (s.words.actors a) (s.shadows a) (with_gate (mine s a) k)
    pub lost : is_none (s.gates k) ≡ false → Goes s t a (s.words.actors a) (s.shadows a) (mine s a)

  stays : (s : Boosted X Out) (a : ℕ) → Goes s s a (s.words.actors a) (s.shadows a) (mine s a)
  stays s a = record {
    apart = record { actors = λ b ne. refl; shadows = λ b ne. refl; gates = λ b k ne. refl };
    own = as_mine s a;
    history = refl;
    aborted = refl;
  }

  pub take_tried : (s : Boosted X Out) (a k : ℕ) → is_committing (s.words.actors a).place ≡ false → Tried s (acts c s (TakeGate a k)) a k
  take_tried s a k rests =
      let t : Boosted X Out = gated s (put s.gates k (Some a)) s.shadows in
      let free = is_none (s.gates k) && not (is_committing (s.words.actors a).place) in
      cond_both free t s (λ u. Tried s u a k)
      (λ is. record {
        won = λ h. record {
          apart = gate_apart s t a k refl (λ b ne. refl) (λ j isnt. put-other s.gates k (Some a) j isnt)
              (λ b ne. ap (is_actor b) (put-same s.gates k (Some a)) ∙ ne_eqb b a ne
              ∙ sym (ap (is_actor b) (none_at (s.gates k) (is_none (s.gates k)) (not (is_committing (s.words.actors a).place)) refl is)));
          own = record { actor = refl; shadow = refl; gates = gate_put s a k (Some a) true (eq-eqb a a refl) };
          history = refl;
          aborted = refl;
        };
        lost = λ h. absurd (true≢false (sym is ∙ ap (λ b. b && not (is_committing (s.words.actors a).place)) h));
      })
      (λ isnt. record {
        won = λ h. absurd (true≢false (sym (ap (λ b. b && not (is_committing (s.words.actors a).place)) h ∙ ap not rests) ∙ isnt));
        lost = λ h. stays s a;
      })
    where
      none_at : (o : Option ℕ) (b d : Bool) → is_none o ≡ b → (b && d) ≡ true → o ≡ None
      none_at None b d e h = refl
      none_at (Some i) true d e h = absurd (true≢false (sym e))
      none_at (Some i) false d e h = absurd (true≢false (sym h))

  holds_now : (b d : Bool) → b ≡ true → d ≡ false → (b && not d) ≡ true
  holds_now b d e f = ap (λ z. z && not d) e ∙ ap not f

  pub put_goes : (s : Boosted X Out) (a k : ℕ) (which : ℕ → Bool) → mine s a k ≡ true → is_committing (s.words.actors a).place ≡ false
      → Goes s (acts c s (PutGate a k which)) a (s.words.actors a)
      (if is_open (s.words.actors a).place then copied c s (s.words.actors a).calls (s.shadows a) k which else s.shadows a)
      (without_gate (mine s a) k)
  put_goes s a k which h rests =
      let x = s.words.actors a in
      let w = copied c s x.calls (s.shadows a) k which in
      let sh = if is_open x.place then put s.shadows a w else s.shadows in
      let t : Boosted X Out = gated s (put s.gates k None) sh in
      subst (λ u. Goes s u a x (if is_open x.place then w else s.shadows a) (without_gate (mine s a) k))
      (sym (cond-true (mine s a k && not (is_committing x.place)) t s (holds_now (mine s a k) (is_committing x.place) h rests)))
      (record {
        apart = gate_apart s t a k refl
            (λ b ne. elim (is_open x.place) as (λ z. (if z then put s.shadows a w else s.shadows) b ≡ s.shadows b) [
              | true ↦ put-other s.shadows a w b ne
              | false ↦ refl
            ])
            (λ j isnt. put-other s.gates k None j isnt)
            (λ b ne. ap (is_actor b) (put-same s.gates k None) ∙ sym (not_his s a b k ne h));
        own = record {
          actor = refl;
          shadow = elim (is_open x.place) as (λ z. (if z then put s.shadows a w else s.shadows) a ≡
              (if z then w else s.shadows a)) [ true ↦ put-same s.shadows a w | false ↦ refl ];
          gates = gate_put s a k None false refl;
        };
        history = refl;
        aborted = refl;
      })

  pub home_goes : (s : Boosted X Out) (a k : ℕ) → mine s a k ≡ true → is_stored (s.words.actors a).place ≡ true
      → Goes s (acts c s (GoHome a k)) a (s.words.actors a) (s.shadows a) (without_gate (mine s a) k)
  home_goes s a k h st =
      let x = s.words.actors a in
      let t : Boosted X Out = homed c s a k in
      subst (λ u. Goes s u a x (s.shadows a) (without_gate (mine s a) k))
      (sym (cond-true (mine s a k && is_stored x.place) t s (ap (λ z. z && is_stored x.place) h ∙ st)))
      (record {
        apart = gate_apart s t a k refl (λ b ne. refl) (λ j isnt. put-other s.gates k None j isnt)
            (λ b ne. ap (is_actor b) (put-same s.gates k None)
            ∙ sym (not_his s a b k ne h));
        own = record { actor = refl; shadow = refl; gates = gate_put s a k None false refl };
        history = refl;
        aborted = refl;
      })

  -- ---- a call that is accepted
  -- what the writes of a call make of its actor's record
  pub record Wrote (y t : Actor) (ls : List ℕ) : Type 0 where
    pub place : t.place ≡ Open
    pub declared : t.declared ≡ y.declared
    pub rv : t.rv ≡ y.rv
    pub reads : t.reads ≡ y.reads
    pub first : (l : ℕ) → first_read t.calls l ≡ first_read y.calls l
    pub calls : (test : machine.Call → Bool) → ((l v : ℕ) → IsIn l ls → test (machine.Write l v) ≡ false) → filter test t.calls
        ≡ filter test y.calls

  pub writes_wrote : (s : World) (a : ℕ) (editions : ℕ → ℕ) (ls : List ℕ) → (s.actors a).place ≡ Open
      → ((l : ℕ) → IsIn l ls → (s.actors a).declared ≡ false)
      → Wrote (s.actors a) ((world.run (writes_asked a editions ls) s).actors a) ls
      × ((b : ℕ) → (b ≡ a → ⊥) → (world.run (writes_asked a editions ls) s).actors b ≡ s.actors b)
  writes_wrote s a editions [] e d = (
    record {
      place = e;
      declared = refl;
      rv = refl;
      reads = refl;
      first = λ l. refl;
      calls = λ test h. refl;
    },
    λ b ne. refl,
  )
  writes_wrote s a editions (l ∷ ls) e d =
      let x = s.actors a in
      let y = wrote x l (editions l + 1) in
      let t : World = world.now s a (ask x x.place (AskWrite l (editions l + 1))) in
      let is : t.actors a ≡ y = put-same s.actors a (ask x x.place (AskWrite l (editions l + 1)))
      ∙ ap (λ p. ask x p (AskWrite l (editions l + 1))) e ∙ ap (λ b. write x b l (editions l + 1)) (d l (inl refl)) in
      let rest = writes_wrote t a editions ls (ap (λ (u : Actor). u.place) is) (λ i m. ap (λ (u : Actor). u.declared) is ∙ d i (inr m)) in
      let r : Wrote (t.actors a) ((world.run (writes_asked a editions ls) t).actors a) ls = rest.0 in (
        record {
          place = r.place;
          declared = r.declared ∙ ap (λ (u : Actor). u.declared) is;
          rv = r.rv ∙ ap (λ (u : Actor). u.rv) is;
          reads = r.reads ∙ ap (λ (u : Actor). u.reads) is;
          first = λ i. r.first i ∙ ap (λ (u : Actor). first_read u.calls i) is ∙ first_read-write x.calls l (editions l + 1) i;
          calls = λ test h.
              r.calls test (λ k v m. h k v (inr m)) ∙ ap (λ (u : Actor). filter test u.calls) is
              ∙ filter-append test x.calls (machine.Write l (editions l + 1) ∷ [])
              ∙ ap (λ (b : Bool). filter test x.calls ++ cond b (machine.Write l (editions l + 1) ∷ []) [])
              (h l (editions l + 1) (inl refl))
              ∙ append-nil (filter test x.calls);
        },
        λ b ne. rest.1 b ne ∙ put-other s.actors a (ask x x.place (AskWrite l (editions l + 1))) b ne,
      )

  pub record Accepts (s t : Boosted X Out) (a : ℕ) (o : Out) : Type 0 where
    pub goes : Goes s t a (t.words.actors a) (longer (s.shadows a) o) (mine s a)
    pub wrote : Wrote (s.words.actors a) (t.words.actors a) (c.writes o)

  pub accept_goes : (s : Boosted X Out) (a : ℕ) (o : Out) → (s.words.actors a).place ≡ Open → may_write (s.words.actors a).declared
      (c.writes o) ≡ true → every (is_sound c s a) (c.reads o) ≡ true → Accepts s (accepted c s a o) a o
  accept_goes s a o e may all =
      let x = s.words.actors a in
      let events = writes_asked a (s.shadows a).editions (c.writes o) in
      let t : Boosted X Out = record s { words = world.run events s.words; shadows = put s.shadows a (longer (s.shadows a) o) } in
      let w = writes_wrote s.words a (s.shadows a).editions (c.writes o) e (λ l m. is_undeclared x.declared (c.writes o) l may m) in
      subst (λ u. Accepts s u a o)
      (sym (cond-true (is_open x.place && (may_write x.declared (c.writes o) && every (is_sound c s a) (c.reads o))) t s
      (ap (λ p. is_open p && (may_write x.declared (c.writes o) && every (is_sound c s a) (c.reads o))) e
      ∙ ap (λ b. b && every (is_sound c s a) (c.reads o)) may ∙ all)))
      (record {
        goes = record {
          apart = record { actors = w.1; shadows = λ b ne. put-other s.shadows a (longer (s.shadows a) o) b ne; gates = λ b k ne. refl };
          own = record { actor = refl; shadow = put-same s.shadows a (longer (s.shadows a) o); gates = λ k. refl };
          history = refl;
          aborted = refl;
        };
        wrote = w.0;
      })
