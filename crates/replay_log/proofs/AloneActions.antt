-- What remains so of a transaction beside which no other steps, through each action of its own: every lock is free or its own, each of its
-- places is one at which no word refuses it (the word machine's law), every gate is free or its own, and what it has copied has the edition
-- that the base has.
use Rattle.std.proofs.Common.{◌≡◌, ℕ, Bool, true, false, cond, ◌&&◌, List, [], ◌∷◌, Option, Some, None, inl, inr, refl, sym, ◌∙◌, ap, subst}
use Rattle.std.proofs.Common.{true≢false, eqb}
use Rattle.std.specs.Prelude.{nat_le, nat_lt, not, if◌then◌else◌}
use Rattle.std.proofs.lemmas.Bool.{cond_both, cases_eq, and_parts}
use Rattle.std.proofs.lemmas.Option.{none-some}
use Rattle.vlock_word.specs.declared.lock_word.LockWord.{LockWord}
use Rattle.vlock_word.specs.declared.lock_word.LockWord.TheVariants.{Free, Locked}
use Rattle.tx_sets.specs.Entries.{Entries, lookup, locations}
use Rattle.tx_machine.specs.Actor as machine
use Rattle.tx_machine.specs.Actor.{Place, Actor, goes}
use Rattle.tx_machine.specs.Requests as word
use Rattle.tx_machine.specs.World as world
use Rattle.tx_machine.specs.World.{World as Words, plan, put, StepEnd}
use Rattle.tx_machine.specs.Progress.{IsAlone}
use Rattle.tx_machine.proofs.Sets.{put-same, put-other}
use Rattle.tx_machine.proofs.Alone.{AloneAt, run_alone}
use Rattle.tx_machine.specs.Content.{Content}
use Rattle.tx_machine.specs.Boosted.{Boosted, Shadow, Action, OnWords, TakeGate, PutGate, Accept, GoHome, recorded, word_step}
use Rattle.tx_machine.specs.Boosted.{shadows_after, on_words, gated, homed, fresh, copied, is_copied, longer, writes_asked}
use Rattle.tx_machine.specs.Boosted.{accepted, is_none, is_actor, is_open, is_stored, is_committing, is_held, is_given, is_sound}
use Rattle.tx_machine.specs.Boosted.{every, may_write, changes, acts}
use Rattle.tx_machine.proofs.BoostedInvariant.{Inv}
use Rattle.tx_machine.proofs.BoostedQuiet.{open_is}
use Rattle.tx_machine.proofs.Runs.{recorded_words}
use Rattle.replay_log.proofs.ActionLemmas.{learns, exchanges}
use Rattle.replay_log.proofs.RequestLemmas.{IsOf}
use Rattle.replay_log.proofs.SetLemmas.{moved_is}

-- the transaction makes calls
abbrev pub MakesCalls : Place → Type 0
MakesCalls machine.Open = Unit {0}
MakesCalls (machine.Look l) = Unit {0}
MakesCalls (machine.Fetch l k) = Unit {0}
MakesCalls (machine.Again l k v) = Unit {0}
MakesCalls p = ⊥

-- ---- places
read_calls : (y : Actor) (l : ℕ) (own seen : Option ℕ) → MakesCalls (word.read y l own seen).place
read_calls y l (Some v) seen = tt
read_calls y l None (Some v) = tt
read_calls y l None None = tt

lock_calls : (y : Actor) (es : Entries) → MakesCalls (word.lock y es).place → MakesCalls y.place
lock_calls y [] h = h
lock_calls y (e ∷ es) h = absurd h

close_calls : (y : Actor) (es : Entries) → MakesCalls (word.close y es).place → MakesCalls y.place
close_calls y [] h = absurd h
close_calls y (e ∷ es) h = h

abort_calls : (y : Actor) (es : Entries) → MakesCalls (word.abort y es).place → MakesCalls y.place
abort_calls y [] h = absurd h
abort_calls y (e ∷ es) h = h

-- a request begins no calls
ask_calls : (y : Actor) (p : Place) (q : word.Request) → y.place ≡ p → MakesCalls (word.ask y p q).place → MakesCalls y.place
ask_calls y machine.Idle word.AskBegin e h = absurd h
ask_calls y machine.Idle word.AskBeginRead e h = absurd h
ask_calls y machine.Open (word.AskRead l) e h = subst MakesCalls (sym e) tt
ask_calls y machine.Open (word.AskWrite l v) e h = subst MakesCalls (sym e) tt
ask_calls y machine.Open word.AskLock e h = lock_calls y y.writes h
ask_calls y machine.Open word.AskClose e h = close_calls y y.writes h
ask_calls y machine.Open word.AskAbort e h = absurd h
ask_calls y (machine.Look l) word.AskAbort e h = absurd h
ask_calls y (machine.Fetch l k) word.AskAbort e h = absurd h
ask_calls y (machine.Again l k v) word.AskAbort e h = absurd h
ask_calls y machine.Close word.AskAbort e h = absurd h
ask_calls y machine.Begin word.AskAbort e h = absurd h
ask_calls y (machine.Lock ls) word.AskCancel e h = absurd h
ask_calls y (machine.Take l k ls) word.AskCancel e h = absurd h
ask_calls y (machine.Check ls) word.AskCancel e h = absurd h
ask_calls y machine.Broken word.AskCancel e h = absurd h
ask_calls y (machine.Check []) word.AskStore e h = absurd h
ask_calls y (machine.Store []) word.AskRelease e h = absurd h
ask_calls y machine.Undo word.AskAbort e h = abort_calls y y.held h
ask_calls y p q e h = h

to_lock_rests : (y : Actor) (l : ℕ) (ls : List ℕ) (w : LockWord) → MakesCalls (machine.seen_to_lock y l ls w).place → ⊥
to_lock_rests y l ls (Free k) h = h
to_lock_rests y l ls (Locked k) h = h

take_rests : (y : Actor) (l k : ℕ) (ls : List ℕ) (w : LockWord) → MakesCalls
    (exchanges k (machine.taken y l k ls) (goes y machine.Broken) w).place → ⊥
take_rests y l k ls (Free j) =
    cond_both (eqb j k) (machine.taken y l k ls) (goes y machine.Broken) (λ (z : Actor). MakesCalls z.place → ⊥) (λ _ h. h) (λ _ h. h)
take_rests y l k ls (Locked j) = λ h. h

check_rests : (y : Actor) (ls : List ℕ) (w : LockWord) (own : Option ℕ) → MakesCalls (machine.seen_in_check y ls w own).place → ⊥
check_rests y ls (Free k) own =
    cond_both (nat_le k y.rv) (goes y (machine.Check ls)) (goes y machine.Broken) (λ (z : Actor). MakesCalls z.place → ⊥) (λ _ h. h)
    (λ _ h. h)
check_rests y ls (Locked k) (Some v) =
    cond_both (nat_le k y.rv) (goes y (machine.Check ls)) (goes y machine.Broken) (λ (z : Actor). MakesCalls z.place → ⊥) (λ _ h. h)
    (λ _ h. h)
check_rests y ls (Locked k) None = λ h. h

first_rests : (s : Words) (y : Actor) (es : Entries) → y.place ≡ machine.First → MakesCalls (learns s y (world.first_store y es)).place → ⊥
first_rests s y [] e h = subst MakesCalls e h
first_rests s y (d ∷ es) e h = h

released_rests : (es : Entries) → MakesCalls (machine.after_release es) → ⊥
released_rests [] h = h
released_rests (e ∷ es) h = h

release_rests : (s : Words) (y : Actor) (es : Entries) → y.place ≡ machine.Release → MakesCalls (learns s y (world.release y es)).place → ⊥
release_rests s y [] e h = subst MakesCalls e h
release_rests s y (d ∷ es) e h = released_rests es h

undo_rests : (s : Words) (y : Actor) (es : Entries) → y.place ≡ machine.Undo → MakesCalls (learns s y (world.undo y es)).place → ⊥
undo_rests s y [] e h = subst MakesCalls e h
undo_rests s y (d ∷ es) e h = h

abbrev IsNoBegin : Place → Type 0
IsNoBegin machine.Begin = ⊥
IsNoBegin p = Unit {0}

-- nor does a step, but for the one that begins the transaction
step_calls : (s : Words) (y : Actor) (p : Place) → y.place ≡ p → IsNoBegin p → MakesCalls (learns s y (plan y p)).place → MakesCalls p
step_calls s y machine.Idle e n h = subst MakesCalls e h
step_calls s y machine.Begin e n h = absurd n
step_calls s y machine.Open e n h = tt
step_calls s y (machine.Look l) e n h = tt
step_calls s y (machine.Fetch l k) e n h = tt
step_calls s y (machine.Again l k v) e n h = tt
step_calls s y (machine.Lock []) e n h = absurd h
step_calls s y (machine.Lock (l ∷ ls)) e n h = absurd (to_lock_rests y l ls (s.locks l) h)
step_calls s y (machine.Take l k ls) e n h = absurd (take_rests y l k ls (s.locks l) h)
step_calls s y (machine.Check []) e n h = subst MakesCalls e h
step_calls s y (machine.Check (l ∷ ls)) e n h = absurd (check_rests y ls (s.locks l) (lookup y.writes l) h)
step_calls s y machine.Broken e n h = subst MakesCalls e h
step_calls s y machine.First e n h = absurd (first_rests s y y.writes e h)
step_calls s y (machine.Store []) e n h = subst MakesCalls e h
step_calls s y (machine.Store (l ∷ ls)) e n h = absurd h
step_calls s y machine.Release e n h = absurd (release_rests s y y.held e h)
step_calls s y machine.Undo e n h = absurd (undo_rests s y y.held e h)
step_calls s y machine.Leave e n h = absurd h
step_calls s y machine.Close e n h = absurd h

-- ---- what is kept
abbrev pub OnlyOf : ℕ → (ℕ → Option ℕ) → Type 0
OnlyOf a gates = (k b : ℕ) → gates k ≡ Some b → b ≡ a

put_gates : (a k : ℕ) (gates : ℕ → Option ℕ) (o : Option ℕ) → OnlyOf a gates → ((b : ℕ) → o ≡ Some b → b ≡ a) → OnlyOf a (put gates k o)
put_gates a k gates o h new j b e = elim (cases_eq j k) [
  | inl same ↦ new b (sym (put-same gates k o) ∙ ap (put gates k o) (sym same) ∙ e)
  | inr ne ↦ h j b (sym (put-other gates k o j ne) ∙ e)
]

some_is : (a b : ℕ) → Some a ≡ Some b → b ≡ a
some_is a b e = cc

module _ {X Out : Type 0} where
  -- what is copied has the edition that the base has
  abbrev pub AreNow : Shadow X Out → (ℕ → ℕ) → Type 0
  AreNow z editions = (l : ℕ) → z.copied l ≡ true → z.editions l ≡ editions l

  pub record AloneIn (s : Boosted X Out) (a : ℕ) : Type 0 where
    pub words : AloneAt s.words a
    pub gates : OnlyOf a s.gates
    pub copied : MakesCalls (s.words.actors a).place → AreNow (s.shadows a) s.editions

  recorded_gates : (s : Boosted X Out) (os : List Out) (q : StepEnd) → (recorded s os q).gates ≡ s.gates
  recorded_gates s os world.GoesOn = refl
  recorded_gates s os (world.Commits r) = refl
  recorded_gates s os (world.Aborts e) = refl

  recorded_editions : (s : Boosted X Out) (os : List Out) (q : StepEnd) → (recorded s os q).editions ≡ s.editions
  recorded_editions s os world.GoesOn = refl
  recorded_editions s os (world.Commits r) = refl
  recorded_editions s os (world.Aborts e) = refl

  recorded_shadows : (s : Boosted X Out) (os : List Out) (q : StepEnd) → (recorded s os q).shadows ≡ s.shadows
  recorded_shadows s os world.GoesOn = refl
  recorded_shadows s os (world.Commits r) = refl
  recorded_shadows s os (world.Aborts e) = refl

  pub step_editions : (s : Boosted X Out) (a : ℕ) (x : Actor) (p : Place) → (word_step s a x p).editions ≡ s.editions
  step_editions s a x p = recorded_editions _ (s.shadows a).outcomes (world.step_end a x p)

  shadows_stay : (s : Boosted X Out) (a : ℕ) (p : Place) → IsNoBegin p → shadows_after s a p ≡ s.shadows
  shadows_stay s a machine.Begin n = absurd n
  shadows_stay s a p n = refl

  fresh_now : (s : Boosted X Out) (a : ℕ) → AreNow (put s.shadows a (fresh s) a) s.editions
  fresh_now s a = subst (λ (z : Shadow X Out). AreNow z s.editions) (sym (put-same s.shadows a (fresh s)))
      (λ l h. absurd (true≢false (sym h)))

  -- the transaction begins, or the clock is at its limit
  begin_now : (s : Boosted X Out) (a : ℕ) (y : Actor) (b : Bool)
      → MakesCalls (cond b (machine.opened y.declared s.words.clock) (goes y machine.Idle)).place
      → AreNow ((cond b (put s.shadows a (fresh s)) s.shadows) a) s.editions
  begin_now s a y true h = fresh_now s a
  begin_now s a y false h = absurd h

  step_now : (s : Boosted X Out) (a : ℕ) (p : Place) → (s.words.actors a).place ≡ p → (MakesCalls p → AreNow (s.shadows a) s.editions)
      → MakesCalls (learns s.words (s.words.actors a) (plan (s.words.actors a) p)).place → AreNow (shadows_after s a p a) s.editions
  step_now s a p e k h = by p e k h
    where
      stays : (p : Place) → IsNoBegin p → (s.words.actors a).place ≡ p → (MakesCalls p → AreNow (s.shadows a) s.editions)
          → MakesCalls (learns s.words (s.words.actors a) (plan (s.words.actors a) p)).place → AreNow (shadows_after s a p a) s.editions
      stays p n e k h =
          subst (λ (f : ℕ → Shadow X Out). AreNow (f a) s.editions) (sym (shadows_stay s a p n))
          (k (step_calls s.words (s.words.actors a) p e n h))

      by : (p : Place) → (s.words.actors a).place ≡ p → (MakesCalls p → AreNow (s.shadows a) s.editions)
          → MakesCalls (learns s.words (s.words.actors a) (plan (s.words.actors a) p)).place → AreNow (shadows_after s a p a) s.editions
      by machine.Begin e k h = begin_now s a (s.words.actors a) (nat_lt s.words.clock machine.clock_limit) h
      by machine.Idle e k h = stays machine.Idle tt e k h
      by machine.Open e k h = stays machine.Open tt e k h
      by (machine.Look l) e k h = stays (machine.Look l) tt e k h
      by (machine.Fetch l i) e k h = stays (machine.Fetch l i) tt e k h
      by (machine.Again l i v) e k h = stays (machine.Again l i v) tt e k h
      by (machine.Lock ls) e k h = stays (machine.Lock ls) tt e k h
      by (machine.Take l i ls) e k h = stays (machine.Take l i ls) tt e k h
      by (machine.Check ls) e k h = stays (machine.Check ls) tt e k h
      by machine.Broken e k h = stays machine.Broken tt e k h
      by machine.First e k h = stays machine.First tt e k h
      by (machine.Store ls) e k h = stays (machine.Store ls) tt e k h
      by machine.Release e k h = stays machine.Release tt e k h
      by machine.Undo e k h = stays machine.Undo tt e k h
      by machine.Leave e k h = stays machine.Leave tt e k h
      by machine.Close e k h = stays machine.Close tt e k h

writes_alone : (a : ℕ) (editions : ℕ → ℕ) (ls : List ℕ) → IsAlone a (writes_asked a editions ls)
writes_alone a editions [] = tt
writes_alone a editions (l ∷ ls) = writes_alone a editions ls

module _ {X Op Out : Type 0} (c : Content X Op Out) where
  -- ---- requests
  asked_alone : (s : Boosted X Out) (a : ℕ) (q : word.Request) (b : Bool) → Inv c s → AloneIn s a
      → AloneIn (cond b (on_words s (world.now s.words a (word.ask (s.words.actors a) (s.words.actors a).place q))) s) a
  asked_alone s a q true v h =
      let x = s.words.actors a in
      let y = word.ask x x.place q in record {
        words = run_alone (world.Ask a q ∷ []) s.words a v.machine h.words tt;
        gates = h.gates;
        copied = λ m. h.copied (ask_calls x x.place q refl (subst (λ (z : Actor). MakesCalls z.place) (put-same s.words.actors a y) m));
      }
  asked_alone s a q false v h = h

  ask_alone : (s : Boosted X Out) (a : ℕ) (q : word.Request) → Inv c s → AloneIn s a → AloneIn (acts c s (OnWords (world.Ask a q))) a
  ask_alone s a (word.AskWrite l i) v h = asked_alone s a (word.AskWrite l i) (c.plain l) v h
  ask_alone s a word.AskStore v h = asked_alone s a word.AskStore (every (is_held c s a) (locations (s.words.actors a).writes)) v h
  ask_alone s a word.AskRelease v h = asked_alone s a word.AskRelease (every (is_given c s a) (locations (s.words.actors a).writes)) v h
  ask_alone s a word.AskBegin v h = asked_alone s a word.AskBegin true v h
  ask_alone s a word.AskBeginRead v h = asked_alone s a word.AskBeginRead true v h
  ask_alone s a word.AskLock v h = asked_alone s a word.AskLock true v h
  ask_alone s a word.AskCancel v h = asked_alone s a word.AskCancel true v h
  ask_alone s a word.AskAbort v h = asked_alone s a word.AskAbort true v h
  ask_alone s a word.AskClose v h = asked_alone s a word.AskClose true v h
  ask_alone s a (word.AskRead l) v h = asked_alone s a (word.AskRead l) true v h

  -- ---- steps
  step_alone : (s : Boosted X Out) (a : ℕ) → Inv c s → AloneIn s a → AloneIn (acts c s (OnWords (world.Step a))) a
  step_alone s a v h =
      let x = s.words.actors a in
      let p = x.place in
      let next : Boosted X Out = record s { words = world.step s.words a x p; shadows = shadows_after s a p } in
      let os = (s.shadows a).outcomes in
      let q = world.step_end a x p in record {
        words = subst (λ (t : Words). AloneAt t a) (sym (recorded_words next os q))
            (run_alone (world.Step a ∷ []) s.words a v.machine h.words (refl, tt));
        gates = subst (OnlyOf a) (sym (recorded_gates next os q)) h.gates;
        copied = λ m.
            subst (λ (f : ℕ → Shadow X Out). AreNow (f a) (acts c s (OnWords (world.Step a))).editions) (sym (recorded_shadows next os q))
            (subst (AreNow (shadows_after s a p a)) (sym (recorded_editions next os q))
            (step_now s a p refl h.copied (subst (λ (z : Actor). MakesCalls z.place) (moved_is s a x p refl) m)));
      }

  -- ---- gates
  worded_alone : (s t : Boosted X Out) (a : ℕ) → t.words ≡ s.words → AloneIn s a → AloneAt t.words a
  worded_alone s t a e h = subst (λ (u : Words). AloneAt u a) (sym e) h.words

  take_alone : (s : Boosted X Out) (a k : ℕ) → AloneIn s a → AloneIn (acts c s (TakeGate a k)) a
  take_alone s a k h =
      cond_both (is_none (s.gates k) && not (is_committing (s.words.actors a).place)) (gated s (put s.gates k (Some a)) s.shadows) s
      (λ (t : Boosted X Out). AloneIn t a)
      (λ _. record { words = h.words; gates = put_gates a k s.gates (Some a) h.gates (λ b e. some_is a b e); copied = h.copied }) (λ _. h)

  if_copied : (b : Bool) (old : Bool) (now then_now : ℕ) → (old ≡ true → then_now ≡ now) → (if b then true else old) ≡ true
      → (if b then now else then_now) ≡ now
  if_copied true old now then_now h e = refl
  if_copied false old now then_now h e = h e

  put_alone : (s : Boosted X Out) (a k : ℕ) (which : ℕ → Bool) → AloneIn s a → AloneIn (acts c s (PutGate a k which)) a
  put_alone s a k which h =
      let x = s.words.actors a in
      let w = copied c s x.calls (s.shadows a) k which in
      let sh = if is_open x.place then put s.shadows a w else s.shadows in
      cond_both (is_actor a (s.gates k) && not (is_committing x.place)) (gated s (put s.gates k None) sh) s
      (λ (t : Boosted X Out). AloneIn t a)
      (λ _. record {
        words = h.words;
        gates = put_gates a k s.gates None h.gates (λ b e. absurd (none-some b e));
        copied = λ m.
            elim (is_open x.place) as (λ b. AreNow ((if b then put s.shadows a w else s.shadows) a) s.editions) [
              | true ↦
                  subst (λ (z : Shadow X Out). AreNow z s.editions) (sym (put-same s.shadows a w))
                  (λ l e. if_copied (is_copied c x.calls k which l) ((s.shadows a).copied l) (s.editions l) ((s.shadows a).editions l)
                  (h.copied m l) e)
              | false ↦ h.copied m
            ];
      })
      (λ _. h)

  home_alone : (s : Boosted X Out) (a k : ℕ) → AloneIn s a → AloneIn (acts c s (GoHome a k)) a
  home_alone s a k h =
      let x = s.words.actors a in
      cond_both (is_actor a (s.gates k) && is_stored x.place) (homed c s a k) s (λ (t : Boosted X Out). AloneIn t a)
      (λ on. record {
        words = h.words;
        gates = put_gates a k s.gates None h.gates (λ b e. absurd (none-some b e));
        copied = λ m. absurd (no_calls x.place (and_parts (is_actor a (s.gates k)) (is_stored x.place) on).1 m);
      })
      (λ _. h)
    where
      no_calls : (p : Place) → is_stored p ≡ true → MakesCalls p → ⊥
      no_calls machine.Open e m = true≢false (sym e)
      no_calls (machine.Look l) e m = true≢false (sym e)
      no_calls (machine.Fetch l i) e m = true≢false (sym e)
      no_calls (machine.Again l i v) e m = true≢false (sym e)
      no_calls p e m = absurd m

  accept_alone : (s : Boosted X Out) (a : ℕ) (o : Out) → Inv c s → AloneIn s a → AloneIn (accepted c s a o) a
  accept_alone s a o v h =
      let x = s.words.actors a in
      let t = world.run (writes_asked a (s.shadows a).editions (c.writes o)) s.words in
      let rest = may_write x.declared (c.writes o) && every (is_sound c s a) (c.reads o) in
      cond_both (is_open x.place && rest) (record s { words = t; shadows = put s.shadows a (longer (s.shadows a) o) }) s
      (λ (u : Boosted X Out). AloneIn u a)
      (λ on. record {
        words = run_alone (writes_asked a (s.shadows a).editions (c.writes o)) s.words a v.machine h.words
            (writes_alone a (s.shadows a).editions (c.writes o));
        gates = h.gates;
        copied = λ m.
            subst (λ (z : Shadow X Out). AreNow z s.editions) (sym (put-same s.shadows a (longer (s.shadows a) o)))
            (h.copied (subst MakesCalls (sym (open_is x.place (and_parts (is_open x.place) rest on).0)) tt));
      })
      (λ _. h)

  -- an action of a's own
  pub act_alone : (s : Boosted X Out) (a : ℕ) (e : Action Op) → Inv c s → AloneIn s a → IsOf a e → AloneIn (acts c s e) a
  act_alone s a (OnWords (world.Ask b q)) v h m = subst (λ i. AloneIn (acts c s (OnWords (world.Ask i q))) a) (sym m) (ask_alone s a q v h)
  act_alone s a (OnWords (world.Step b)) v h m = subst (λ i. AloneIn (acts c s (OnWords (world.Step i))) a) (sym m) (step_alone s a v h)
  act_alone s a (TakeGate b k) v h m = subst (λ i. AloneIn (acts c s (TakeGate i k)) a) (sym m) (take_alone s a k h)
  act_alone s a (PutGate b k which) v h m = subst (λ i. AloneIn (acts c s (PutGate i k which)) a) (sym m) (put_alone s a k which h)
  act_alone s a (Accept b op) v h m =
      subst (λ i. AloneIn (acts c s (Accept i op)) a) (sym m)
      (accept_alone s a (c.outcome (changes c (s.shadows a).outcomes (s.shadows a).parts) op) v h)
  act_alone s a (GoHome b k) v h m = subst (λ i. AloneIn (acts c s (GoHome i k)) a) (sym m) (home_alone s a k h)
