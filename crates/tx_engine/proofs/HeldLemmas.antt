-- What a step leaves of the locks that its actor holds.
--
-- Before a commit takes its locks an actor holds none (`PlaceOk`). While it takes them it gives none back, nor by a step on a gate, or by
-- what is asked; where its transaction is aborted, each step gives one back (`lock_goes_back`).
use Rattle.std.proofs.Common.{◌≡◌, ◌⊎◌, ℕ, zero, suc, Bool, true, false, cond, List, [], ◌∷◌, ◌++◌, Some, None, inl}
use Rattle.std.proofs.Common.{inr, refl, sym, ap, ◌∙◌, subst, eqb}
use Rattle.std.specs.Prelude.{nat_le}
use Rattle.std.proofs.lemmas.Bool.{cond_both, cases_eq}
use Rattle.vlock_word.specs.declared.lock_word.LockWord.{LockWord}
use Rattle.vlock_word.specs.declared.lock_word.LockWord.TheVariants.{Free, Locked}
use Rattle.tx_sets.specs.Entries.{Entries, lookup}
use Rattle.tx_machine.specs.Actor as machine
use Rattle.tx_machine.specs.Actor.{Actor, Place, goes}
use Rattle.tx_machine.specs.Notices as told
use Rattle.tx_machine.specs.Requests as word
use Rattle.tx_machine.specs.World as world
use Rattle.tx_machine.specs.World.{World as Words, plan, put}
use Rattle.tx_machine.proofs.Invariant.{IsSomeEntry, PlaceOk}
use Rattle.tx_machine.proofs.Sets.{lookup-head, lookup-tail, put-same}
use Rattle.seq_model.specs.declared.event.Event.TheVariants.{Step}
use Rattle.seq_model.specs.declared.refusal.Refusal.TheVariants as refusal
use Rattle.tx_machine.specs.Boosted.{TakeGate, PutGate, is_none}
use Rattle.replay_log.specs.Contents.{content}
use Rattle.replay_log.specs.Worlds.{World, Seat, Stage, Idle, Beginning, Open, Locking, Releasing, Closing, Cancelling, Leaving, Reading}
use Rattle.replay_log.specs.Worlds.{Trying, Copying, Loading, Gating, Ready, Storing, Homing, Returning, After, because, acted, moves}
use Rattle.replay_log.specs.Worlds.{actor_of, cancels, gives_up, happens, has_locked, has_tried, step_at, takes_gates, word_notice}
use Rattle.replay_log.proofs.ActionLemmas.{exchanges, learns}
use Rattle.replay_log.proofs.EndingLemmas.{lock_goes_back}
use Rattle.replay_log.proofs.RecordLemmas.{IsCommitting}
use Rattle.replay_log.proofs.SeatLemmas.{AtLocking, AtReading, Linked, StageOk}
use Rattle.replay_log.proofs.SetLemmas.{moved_is, put_words, take_words}

lookup-none : (l k : ℕ) → lookup [] l ≡ Some k → ⊥
unfolding lookup
lookup-none l k h = cc

lookup-push : (es : Entries) (d : ℕ × ℕ) (l k : ℕ) → lookup es l ≡ Some k → lookup (es ++ d ∷ []) l ≡ Some k
unfolding lookup
lookup-push [] d l k h = absurd (lookup-none l k h)
lookup-push (e ∷ es) d l k h =
    elim (eqb l e.0) as (λ b. cond b (Some e.1) (lookup es l) ≡ Some k → cond b (Some e.1) (lookup (es ++ d ∷ []) l) ≡ Some k) [
      | true ↦ λ g. g
      | false ↦ λ g. lookup-push es d l k g
    ] h

-- ---- what is asked
abort_held : (y : Actor) (es : Entries) → (word.abort y es).held ≡ y.held
abort_held y [] = refl
abort_held y (e ∷ es) = refl

aborted_held : (y : Actor) (p : Place) → (word.ask y p word.AskAbort).held ≡ y.held
aborted_held y machine.Open = refl
aborted_held y (machine.Look l) = refl
aborted_held y (machine.Fetch l k) = refl
aborted_held y (machine.Again l k v) = refl
aborted_held y machine.Close = refl
aborted_held y machine.Begin = refl
aborted_held y machine.Undo = abort_held y y.held
aborted_held y (machine.Check []) = refl
aborted_held y (machine.Check (l ∷ ls)) = refl
aborted_held y (machine.Store []) = refl
aborted_held y (machine.Store (l ∷ ls)) = refl
aborted_held y p = refl

cancelled_held : (y : Actor) (p : Place) → (word.ask y p word.AskCancel).held ≡ y.held
cancelled_held y machine.Open = refl
cancelled_held y (machine.Lock ls) = refl
cancelled_held y (machine.Take l k ls) = refl
cancelled_held y (machine.Check []) = refl
cancelled_held y (machine.Check (l ∷ ls)) = refl
cancelled_held y machine.Broken = refl
cancelled_held y (machine.Store []) = refl
cancelled_held y (machine.Store (l ∷ ls)) = refl
cancelled_held y p = refl

-- ---- steps of the words
abbrev Keeps : Actor → Actor → Type 0
Keeps y z = (l k : ℕ) → lookup y.held l ≡ Some k → lookup z.held l ≡ Some k

to_lock_keeps : (y : Actor) (l : ℕ) (ls : List ℕ) (w : LockWord) → Keeps y (machine.seen_to_lock y l ls w)
to_lock_keeps y l ls (Free k) i j h = h
to_lock_keeps y l ls (Locked k) i j h = h

take_keeps : (y : Actor) (l k : ℕ) (ls : List ℕ) (w : LockWord) → Keeps y (exchanges k (machine.taken y l k ls) (goes y machine.Broken) w)
take_keeps y l k ls (Free j) =
    cond_both (eqb j k) (machine.taken y l k ls) (goes y machine.Broken) (Keeps y) (λ _. λ i v h. lookup-push y.held (l, k) i v h)
    (λ _. λ i v h. h)
take_keeps y l k ls (Locked j) = λ i v h. h

check_keeps : (y : Actor) (ls : List ℕ) (w : LockWord) (own : _) → Keeps y (machine.seen_in_check y ls w own)
check_keeps y ls (Free k) own =
    cond_both (nat_le k y.rv) (goes y (machine.Check ls)) (goes y machine.Broken) (Keeps y) (λ _. λ i v h. h) (λ _. λ i v h. h)
check_keeps y ls (Locked k) (Some value) =
    cond_both (nat_le k y.rv) (goes y (machine.Check ls)) (goes y machine.Broken) (Keeps y) (λ _. λ i v h. h) (λ _. λ i v h. h)
check_keeps y ls (Locked k) None = λ i v h. h

lock_keeps : (s : Words) (y : Actor) (p : Place) → AtLocking p → Keeps y (learns s y (plan y p))
lock_keeps s y (machine.Lock []) at = λ i v h. h
lock_keeps s y (machine.Lock (l ∷ ls)) at = to_lock_keeps y l ls (s.locks l)
lock_keeps s y (machine.Take l k ls) at = take_keeps y l k ls (s.locks l)
lock_keeps s y (machine.Check (l ∷ ls)) at = check_keeps y ls (s.locks l) (lookup y.writes l)
lock_keeps s y p at = absurd at

reading_bare : (s : Words) (y : Actor) (l : ℕ) (p : Place) → AtReading l p → PlaceOk s y p → y.held ≡ []
reading_bare s y l (machine.Look k) at ok = ok.0
reading_bare s y l (machine.Fetch k j) at ok = ok.0.0
reading_bare s y l (machine.Again k j v) at ok = ok.0.0
reading_bare s y l p at ok = absurd at

bare_at : (s : Words) (y : Actor) (p : Place) → y.place ≡ p → PlaceOk s y y.place → PlaceOk s y p
bare_at s y p e ok = subst (PlaceOk s y) e ok

module _ {V : Type 0} where
  -- ---- what follows of a step without another
  cancels_held : (u : World V) (a : ℕ) (x : Seat V) → (actor_of (cancels u a x) a).held ≡ (actor_of u a).held
  cancels_held u a x =
      let s = u.boosted.words in
      let y = word.ask (s.actors a) (s.actors a).place word.AskCancel in
      let t : Words = world.now s a y in
      let z = word.ask (t.actors a) (t.actors a).place word.AskAbort in
      ap (λ (q : Actor). q.held) (put-same t.actors a z) ∙ aborted_held (t.actors a) (t.actors a).place
      ∙ ap (λ (q : Actor). q.held) (put-same s.actors a y)
      ∙ cancelled_held (s.actors a) (s.actors a).place

  gives_up_held : (u : World V) (a : ℕ) (x : Seat V) (ks : List ℕ) → (actor_of (gives_up u a x ks).0 a).held ≡ (actor_of u a).held
  gives_up_held u a x [] = cancels_held u a x
  gives_up_held u a x (k ∷ ks) = refl

  locked_held : (u : World V) (a : ℕ) (x : Seat V) (n : told.Notice) → (actor_of (has_locked u a x n).0 a).held ≡ (actor_of u a).held
  locked_held u a x (told.LockedAt wv) = refl
  locked_held u a x (told.Busy l found) = cancels_held u a (because x (refusal.Busy l found))
  locked_held u a x (told.Invalid l found) = cancels_held u a (because x (refusal.Invalid l found))
  locked_held u a x n = refl

  tried_held : (u : World V) (a : ℕ) (x : Seat V) (free : Bool) (k : ℕ) (got : List ℕ) (again : ℕ → Stage V) (next : Stage V) (tries : ℕ)
      → (actor_of (has_tried u a x free k got again next tries).0 a).held ≡ (actor_of u a).held
  tried_held u a x free k got again next zero =
      cond_both {A = After V} free _ _ (λ r. (actor_of r.0 a).held ≡ (actor_of u a).held) (λ _. refl)
      (λ _. gives_up_held u a (because x (refusal.GateBusy k)) got)
  tried_held u a x free k got again next (suc m) =
      cond_both {A = After V} free _ _ (λ r. (actor_of r.0 a).held ≡ (actor_of u a).held) (λ _. refl) (λ _. refl)

  -- ---- a step
  abbrev pub KeepsLocks : World V → ℕ → World V → Type 0
  KeepsLocks w a u =
      (l k : ℕ) → lookup (actor_of w a).held l ≡ Some k
      → (lookup (actor_of u a).held l ≡ Some k) ⊎ (u.boosted.words.locks ≡ put w.boosted.words.locks l (Free k))

  none_held : (w u : World V) (a : ℕ) → (actor_of w a).held ≡ [] → KeepsLocks w a u
  none_held w u a none l k h = absurd (lookup-none l k (ap (λ (es : Entries). lookup es l) (sym none) ∙ h))

  same_held : (w u : World V) (a : ℕ) → (actor_of u a).held ≡ (actor_of w a).held → KeepsLocks w a u
  same_held w u a same l k h = inl (ap (λ (es : Entries). lookup es l) same ∙ h)

  step_keeps : (w : World V) (a : ℕ) (x : Seat V) (st : Stage V) → StageOk w.words w.blocks x (actor_of w a) (w.boosted.shadows a) st
      (actor_of w a).place
      → PlaceOk w.boosted.words (actor_of w a) (actor_of w a).place → (IsCommitting st → ⊥)
      → (st ≡ Cancelling → KeepsLocks w a (step_at w a x st).0) → KeepsLocks w a (step_at w a x st).0
  step_keeps w a x Idle ok place apart back = same_held w w a refl
  step_keeps w a x Open ok place apart back = same_held w w a refl
  step_keeps w a x Beginning ok place apart back =
      none_held w (step_at w a x Beginning).0 a (bare_at w.boosted.words (actor_of w a) machine.Begin ok place)
  step_keeps w a x (Reading l) ok place apart back =
      none_held w (step_at w a x (Reading l)).0 a (reading_bare w.boosted.words (actor_of w a) l _ ok.0 place)
  step_keeps w a x (Trying asked tries) ok place apart back =
      none_held w (step_at w a x (Trying asked tries)).0 a (bare_at w.boosted.words (actor_of w a) machine.Open ok.0 place)
  step_keeps w a x (Copying asked) ok place apart back =
      none_held w (step_at w a x (Copying asked)).0 a (bare_at w.boosted.words (actor_of w a) machine.Open ok.0 place)
  step_keeps w a x (Loading o []) ok place apart back = absurd ok
  step_keeps w a x (Loading o (d ∷ es)) ok place apart back =
      none_held w (step_at w a x (Loading o (d ∷ es))).0 a (reading_bare w.boosted.words (actor_of w a) d.0 _ ok.0 place)
  step_keeps w a x Locking ok place apart back =
      let y = actor_of w a in
      let u = acted w (moves a ∷ []) in
      let is : (actor_of (has_locked u a x (word_notice w a)).0 a).held ≡ (learns w.boosted.words y (plan y y.place)).held =
      locked_held u a x (word_notice w a) ∙ ap (λ (q : Actor). q.held) (moved_is w.boosted a y y.place refl) in
      λ l k h. inl (ap (λ (es : Entries). lookup es l) is ∙ lock_keeps w.boosted.words y y.place ok.0 l k h)
  step_keeps w a x (Gating got [] tries) ok place apart back = absurd ok
  step_keeps w a x (Gating got (k ∷ ks) tries) ok place apart back =
      let u = acted w (TakeGate a k ∷ []) in
      same_held w (step_at w a x (Gating got (k ∷ ks) tries)).0 a
      (tried_held u a x (is_none (w.boosted.gates k)) k got (λ n. Gating got (k ∷ ks) n) (takes_gates (got ++ k ∷ []) ks) tries
      ∙ ap (λ (s : Words). (s.actors a).held) (take_words (content w.words w.blocks) w.boosted a k))
  step_keeps w a x (Ready ks) ok place apart back = absurd (apart tt)
  step_keeps w a x (Storing ks) ok place apart back = absurd (apart tt)
  step_keeps w a x (Homing ks) ok place apart back = absurd (apart tt)
  step_keeps w a x Releasing ok place apart back = absurd (apart tt)
  step_keeps w a x Closing ok place apart back =
      none_held w (step_at w a x Closing).0 a (bare_at w.boosted.words (actor_of w a) machine.Close ok.0 place).0
  step_keeps w a x (Returning []) ok place apart back = absurd ok
  step_keeps w a x (Returning (k ∷ ks)) ok place apart back =
      let u = acted w (PutGate a k (λ l. false) ∷ []) in
      same_held w (step_at w a x (Returning (k ∷ ks))).0 a
      (gives_up_held u a x ks
      ∙ ap (λ (s : Words). (s.actors a).held) (put_words (content w.words w.blocks) w.boosted a k (λ l. false)))
  step_keeps w a x Cancelling ok place apart back = back refl
  step_keeps w a x Leaving ok place apart back =
      none_held w (step_at w a x Leaving).0 a (bare_at w.boosted.words (actor_of w a) machine.Leave ok.0 place)

  cancelling_keeps : (w : World V) (a : ℕ) (es : Entries) → Linked w → (w.seats a).stage ≡ Cancelling → (actor_of w a).held ≡ es
      → IsSomeEntry es → KeepsLocks w a (happens w (Step a)).0
  cancelling_keeps w a [] linked at held some = λ l k h. absurd some
  cancelling_keeps w a (e ∷ es) linked at held some = λ l k h.
      let given = lock_goes_back w a e.0 e.1 es linked at held in
      let here : lookup (e ∷ es) l ≡ Some k = ap (λ (fs : Entries). lookup fs l) (sym held) ∙ h in
      elim (cases_eq l e.0) [
        | inl same ↦
            let two : Some k ≡ Some e.1 = sym here ∙ ap (lookup (e ∷ es)) same ∙ lookup-head e es in
            let one : k ≡ e.1 = cc in
            inr (subst (λ (q : ℕ × ℕ). (happens w (Step a)).0.boosted.words.locks ≡ put w.boosted.words.locks q.0 (Free q.1))
            (λ i. (sym same i, sym one i)) given.0)
        | inr ne ↦ inl (ap (λ (fs : Entries). lookup fs l) given.1 ∙ sym (lookup-tail e es l ne) ∙ here)
      ]

  pub keeps_locks : (w : World V) (a : ℕ) → Linked w → (IsCommitting (w.seats a).stage → ⊥) → KeepsLocks w a (happens w (Step a)).0
  keeps_locks w a linked apart =
      let y = actor_of w a in
      let ok = (linked.seats a).stage in
      step_keeps w a (w.seats a) (w.seats a).stage ok (linked.base.inv.machine.actors a).place apart
      (λ at. let some = subst (λ st. StageOk w.words w.blocks (w.seats a) y (w.boosted.shadows a) st y.place) at ok in
      cancelling_keeps w a y.held linked at refl some.1)

  -- an actor whose last step is next holds none
  pub leaves_bare : (w : World V) (a : ℕ) → Linked w → (w.seats a).stage ≡ Leaving → (actor_of w a).held ≡ []
  leaves_bare w a linked at =
      let y = actor_of w a in
      let ok = subst (λ st. StageOk w.words w.blocks (w.seats a) y (w.boosted.shadows a) st y.place) at (linked.seats a).stage in
      subst (PlaceOk w.boosted.words y) ok.0 (linked.base.inv.machine.actors a).place
