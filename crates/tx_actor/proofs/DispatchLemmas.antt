-- What an actor makes of its atomic action is what its world makes of it. At each stage one method does what the definitions' function does
-- there; where nothing comes of the step, the actor is unchanged, and so is the world (`stays_as`). What was answered is one of few notices
-- at each stage, and any other leaves the world (`.._else`).
use Rattle.std.proofs.Common.{◌≡◌, ℕ, zero, suc, eqb, length, Bool, true, false, true≢false, List, [], ◌∷◌, ◌++◌, drop, refl, sym, ap}
use Rattle.std.proofs.Common.{subst, ◌∙◌}
use Rattle.tx_machine.specs.Notices as notice
use Rattle.seq_model.specs.declared.event.Notice.TheVariants.{Quiet}
use Rattle.replay_log.specs.Worlds as worlds
use Rattle.seq_model.specs.declared.refusal.Refusal.TheVariants as refusal
use Rattle.replay_log.specs.Worlds.{World, Seat, After, at_stage, because, has_begun, has_read, has_locked, has_stored, has_released}
use Rattle.replay_log.specs.Worlds.{has_cancelled, has_tried, takes_gates, gives_up, goes_home, starve_at}
use Rattle.actor_parts.specs.declared.notice.WordNotice.{WordNotice}
use Rattle.actor_parts.specs.declared.notice.WordNotice.TheVariants.{Begun, Number, Locked, Stored, Released, Cancelled, Moved, Busy}
use Rattle.actor_parts.specs.declared.notice.WordNotice.TheVariants.{Invalid, Exhausted}
use Rattle.std.specs.declared.alloc.Global.{Global}
use Rattle.std.specs.declared.collections.VecDeque.{VecDeque}
use Rattle.step_core.specs.Shown as words
use Rattle.tx_actor.specs.declared.actor.CollectionCall.{CollectionCall}
use Rattle.tx_actor.specs.declared.actor.CallWithOutcome.{CallWithOutcome}
use Rattle.tx_actor.specs.declared.actor.Stage.{Stage}
use Rattle.tx_actor.specs.declared.actor.Stage.TheVariants as stage
use Rattle.tx_actor.specs.declared.actor.ActorNotice.{ActorNotice}
use Rattle.tx_actor.specs.declared.actor.ActorNotice.TheVariants as told
use Rattle.tx_actor.specs.declared.actor.TxActor.{TxActor}
use Rattle.tx_actor.specs.Dispatch.{IsGoneHome, IsToldWord, Records, waits_at}
use Rattle.actor_parts.specs.Dispatch.{MayGoOn, MayRelease, after_home, after_put, after_try, after_word, shown_notice}
use Rattle.tx_actor.specs.Running.{Does, IsSeatOf, Runs, at, notice_of, seat_at, seat_of, stage_of}
use Rattle.actor_parts.proofs.HomesLemmas.{not_none}
use Rattle.tx_actor.proofs.RunsLemmas.{seat_numbers}

module _ {V : Type 0} where
  -- what comes of it is the same
  pub by_result : (u : TxActor V) (t : ActorNotice V) (a : ℕ) (p q : After V) → p ≡ q → Runs a u q.0 × (notice_of a t ≡ q.1)
      → Runs a u p.0 × (notice_of a t ≡ p.1)
  by_result u t a p q e h = subst (λ (z : After V). Runs a u z.0 × (notice_of a t ≡ z.1)) (sym e) h

  -- nothing comes of it, and the actor is as it was
  pub stays_as : (r u : TxActor V) (t : ActorNotice V) (a : ℕ) (w : World V) (p : After V) → u ≡ r → t ≡ told.Quiet → p ≡ (w, Quiet)
      → Runs a r w → Runs a u p.0 × (notice_of a t ≡ p.1)
  stays_as r u t a w p same quiet e s =
      by_result u t a p (w, Quiet) e (subst (λ (z : TxActor V). Runs a z w) (sym same) s, ap (notice_of a) quiet)

  pub word_stays : (r u : TxActor V) (t : ActorNotice V) (n : notice.Notice) → u ≡ r → t ≡ told.Quiet
      → ((a : ℕ) (w : World V) → after_word w a (seat_at (w.seats a) r) (stage_of r.stage) n ≡ (w, Quiet)) → IsToldWord r u t n
  word_stays r u t n same quiet e a w m s = stays_as r u t a w _ same quiet (e a w) s

  pub does_stays : (f : World V → ℕ → Seat V → worlds.Stage V → After V) (r u : TxActor V) (t : ActorNotice V) → u ≡ r → t ≡ told.Quiet
      → ((a : ℕ) (w : World V) → f w a (seat_of r) (stage_of r.stage) ≡ (w, Quiet))
      → Does r u t (λ a w. f w a (seat_of r) (stage_of r.stage))
  does_stays f r u t same quiet e a w s = stays_as r u t a w _ same quiet (e a w) s

  pub home_stays : (r u : TxActor V) (t : ActorNotice V) → u ≡ r → t ≡ told.Quiet
      → ((a : ℕ) (w : World V) → after_home w a (seat_at (w.seats a) r) (stage_of r.stage) ≡ (w, Quiet)) → IsGoneHome r u t
  home_stays r u t same quiet e a w m s = stays_as r u t a w _ same quiet (e a w) s

  -- what is made of a seat does not depend on its stage
  pub give_up_at : (w : World V) (a : ℕ) (x : Seat V) (s : worlds.Stage V) (ks : List ℕ)
      → gives_up w a (at_stage x s) ks ≡ gives_up w a x ks
  give_up_at w a x s [] = refl
  give_up_at w a x s (k ∷ ks) = refl

  pub tried_at : (w : World V) (a : ℕ) (x : Seat V) (s : worlds.Stage V) (free : Bool) (k : ℕ) (got : List ℕ)
      (again : ℕ → worlds.Stage V) (next : worlds.Stage V) (n : ℕ)
      → has_tried w a (at_stage x s) free k got again next n ≡ has_tried w a x free k got again next n
  tried_at w a x s true k got again next n = refl
  tried_at w a x s false k got again next (suc n) = refl
  tried_at w a x s false k got again next zero = give_up_at w a (because x (refusal.GateBusy k)) s got

  -- the bases are put back, where the locks may be released
  abbrev pub GoesHome : TxActor V → TxActor V → ActorNotice V → List ℕ → Type 0
  GoesHome r u t ks = (a : ℕ) (w : World V) (x : Seat V) → IsSeatOf x r → MayRelease a w ks
      → worlds.actor_of w a ≡ words.actor_of r.words
      → Runs a u (goes_home w a x ks).0 × (notice_of a t ≡ (goes_home w a x ks).1)

  -- what was answered is what was heard
  pub heard_as : (r u : TxActor V) (t : ActorNotice V) (h k : WordNotice) → h ≡ k → IsToldWord r u t (shown_notice k)
      → IsToldWord r u t (shown_notice h)
  heard_as r u t h k e p = subst (λ (q : WordNotice). IsToldWord r u t (shown_notice q)) (sym e) p

  pub told_as : (r u : TxActor V) (t : ActorNotice V) (n m : notice.Notice) → n ≡ m → IsToldWord r u t n → IsToldWord r u t m
  told_as r u t n m e p = subst (λ (q : notice.Notice). IsToldWord r u t q) e p

  -- r is at the stage s
  pub word_at_stage : (r u : TxActor V) (t : ActorNotice V) (n : notice.Notice) (s : Stage V) → r.stage ≡ s → IsToldWord (at r s) u t n
      → IsToldWord r u t n
  word_at_stage r u t n s e p = subst (λ (z : Stage V). IsToldWord (at r z) u t n) (sym e) p

  pub does_at_stage : (f : World V → ℕ → Seat V → worlds.Stage V → After V) (r u : TxActor V) (t : ActorNotice V) (s : Stage V)
      → r.stage ≡ s
      → Does (at r s) u t (λ a w. f w a (seat_of (at r s)) (stage_of s))
      → Does r u t (λ a w. f w a (seat_of r) (stage_of r.stage))
  does_at_stage f r u t s e p = subst (λ (z : Stage V). Does (at r z) u t (λ a w. f w a (seat_of (at r z)) (stage_of z))) (sym e) p

  pub home_at_stage : (r u : TxActor V) (t : ActorNotice V) (s : Stage V) → r.stage ≡ s → IsGoneHome (at r s) u t → IsGoneHome r u t
  home_at_stage r u t s e p = subst (λ (z : Stage V). IsGoneHome (at r z) u t) (sym e) p

  -- nothing was answered, and nothing comes of it
  waits_on : (w : World V) (a : ℕ) (x : Seat V) (s : Stage V) → waits_at s ≡ true → after_word w a x (stage_of s) notice.Quiet ≡ (w, Quiet)
  waits_on w a x (stage.Reading l) waits = refl
  waits_on w a x (stage.Locking ks) waits = refl
  waits_on w a x stage.Releasing waits = refl
  waits_on w a x stage.Cancelling waits = refl
  waits_on w a x s waits = absurd (true≢false (sym waits))

  pub word_waits : (r u : TxActor V) (t : ActorNotice V) (n : notice.Notice) → n ≡ notice.Quiet → waits_at r.stage ≡ true → u ≡ r
      → t ≡ told.Quiet → IsToldWord r u t n
  word_waits r u t n nothing waits same quiet =
      told_as r u t notice.Quiet n (sym nothing)
      (word_stays r u t notice.Quiet same quiet (λ a w. waits_on w a (seat_at (w.seats a) r) r.stage waits))

  -- any other notice
  pub begun_else : (w : World V) (a : ℕ) (x : Seat V) (h : WordNotice) → ((rv : ℕ) → h ≡ Begun rv → ⊥)
      → ((clock : ℕ) → h ≡ Exhausted clock → ⊥) → has_begun w a x (shown_notice h) ≡ (w, Quiet)
  begun_else w a x (Begun rv) p q = absurd (p rv refl)
  begun_else w a x (Exhausted clock) p q = absurd (q clock refl)
  begun_else w a x h p q = refl

  pub read_else : (w : World V) (a : ℕ) (x : Seat V) (l : ℕ) (h : WordNotice) → ((v : ℕ) → h ≡ Number v → ⊥)
      → ((i j : ℕ) → h ≡ Moved i j → ⊥) → has_read w a x l (shown_notice h) ≡ (w, Quiet)
  read_else w a x l (Number v) p q = absurd (p v refl)
  read_else w a x l (Moved i j) p q = absurd (q i j refl)
  read_else w a x l h p q = refl

  pub locked_else : (w : World V) (a : ℕ) (x : Seat V) (h : WordNotice) → ((v : ℕ) → h ≡ Locked v → ⊥)
      → ((i j : ℕ) → h ≡ Busy i j → ⊥) → ((i j : ℕ) → h ≡ Invalid i j → ⊥) → has_locked w a x (shown_notice h) ≡ (w, Quiet)
  locked_else w a x (Locked v) p q r = absurd (p v refl)
  locked_else w a x (Busy i j) p q r = absurd (q i j refl)
  locked_else w a x (Invalid i j) p q r = absurd (r i j refl)
  locked_else w a x h p q r = refl

  pub stored_else : (w : World V) (a : ℕ) (x : Seat V) (ks : List ℕ) (h : WordNotice) → (h ≡ Stored → ⊥)
      → has_stored w a x ks (shown_notice h) ≡ has_stored w a x ks notice.Quiet
  stored_else w a x ks Stored p = absurd (p refl)
  stored_else w a x ks h p = refl

  pub released_else : (w : World V) (a : ℕ) (x : Seat V) (h : WordNotice) → (h ≡ Released → ⊥)
      → has_released w a x (shown_notice h) ≡ (w, Quiet)
  released_else w a x Released p = absurd (p refl)
  released_else w a x h p = refl

  pub cancelled_else : (w : World V) (a : ℕ) (x : Seat V) (h : WordNotice) → (h ≡ Cancelled → ⊥)
      → has_cancelled w a x (shown_notice h) ≡ (w, Quiet)
  cancelled_else w a x Cancelled p = absurd (p refl)
  cancelled_else w a x h p = refl

  -- any other stage
  pub word_else : (w : World V) (a : ℕ) (x : Seat V) (s : Stage V) (n : notice.Notice)
      → (s ≡ stage.Beginning → ⊥) → ((l : ℕ) → s ≡ stage.Reading l → ⊥) → ((ks : VecDeque ℕ Global) → s ≡ stage.Locking ks → ⊥)
      → ((ks : VecDeque ℕ Global) → s ≡ stage.Storing ks → ⊥) → (s ≡ stage.Releasing → ⊥) → (s ≡ stage.Closing → ⊥)
      → (s ≡ stage.Cancelling → ⊥) → (s ≡ stage.Leaving → ⊥) → ((ks : VecDeque ℕ Global) → s ≡ stage.Ready ks → ⊥)
      → after_word w a x (stage_of s) n ≡ (w, Quiet)
  word_else w a x stage.Beginning n b r l s re c ca le rd = absurd (b refl)
  word_else w a x (stage.Reading i) n b r l s re c ca le rd = absurd (r i refl)
  word_else w a x (stage.Locking ks) n b r l s re c ca le rd = absurd (l ks refl)
  word_else w a x (stage.Storing ks) n b r l s re c ca le rd = absurd (s ks refl)
  word_else w a x stage.Releasing n b r l s re c ca le rd = absurd (re refl)
  word_else w a x stage.Closing n b r l s re c ca le rd = absurd (c refl)
  word_else w a x stage.Cancelling n b r l s re c ca le rd = absurd (ca refl)
  word_else w a x stage.Leaving n b r l s re c ca le rd = absurd (le refl)
  word_else w a x (stage.Ready ks) n b r l s re c ca le rd = absurd (rd ks refl)
  word_else w a x other n b r l s re c ca le rd = refl

  pub try_else : (w : World V) (a : ℕ) (x : Seat V) (s : Stage V) (free : Bool)
      → ((o : CollectionCall V) (n : ℕ) → s ≡ stage.Trying o n → ⊥) → ((ks : VecDeque ℕ Global) (i n : ℕ) → s ≡ stage.Gating ks i n → ⊥)
      → after_try w a x (stage_of s) free ≡ (w, Quiet)
  try_else w a x (stage.Trying o n) free t g = absurd (t o n refl)
  try_else w a x (stage.Gating ks i n) free t g = absurd (g ks i n refl)
  try_else w a x other free t g = refl

  pub put_else : (w : World V) (a : ℕ) (x : Seat V) (s : Stage V) → ((ks : VecDeque ℕ Global) → s ≡ stage.Returning ks → ⊥)
      → ((k : ℕ) → s ≡ stage.ReturningOne k → ⊥) → after_put w a x (stage_of s) ≡ (w, Quiet)
  put_else w a x (stage.Returning ks) r o = absurd (r ks refl)
  put_else w a x (stage.ReturningOne k) r o = absurd (o k refl)
  put_else w a x other r o = refl

  pub home_else : (w : World V) (a : ℕ) (x : Seat V) (s : Stage V) → ((ks : VecDeque ℕ Global) → s ≡ stage.Homing ks → ⊥)
      → after_home w a x (stage_of s) ≡ (w, Quiet)
  home_else w a x (stage.Homing ks) h = absurd (h ks refl)
  home_else w a x other h = refl

  -- the next of the gates that a commit tries
  pub gating_some : (w : World V) (a : ℕ) (x : Seat V) (free : Bool) (got ds : List ℕ) (tries k : ℕ) (ks : List ℕ) → ds ≡ k ∷ ks
      → after_try w a x (worlds.Gating got ds tries) free
      ≡ has_tried w a x free k got (λ n. worlds.Gating got ds n) (takes_gates (got ++ k ∷ []) ks) tries
  gating_some w a x free got ds tries k ks e =
      ap (λ (zs : List ℕ). after_try w a x (worlds.Gating got zs tries) free) e
      ∙ sym (ap (λ (zs : List ℕ). has_tried w a x free k got (λ n. worlds.Gating got zs n) (takes_gates (got ++ k ∷ []) ks) tries) e)

  pub gating_none : (w : World V) (a : ℕ) (x : Seat V) (free : Bool) (got ds : List ℕ) (tries : ℕ) → ds ≡ []
      → after_try w a x (worlds.Gating got ds tries) free ≡ (w, Quiet)
  gating_none w a x free got ds tries e = ap (λ (zs : List ℕ). after_try w a x (worlds.Gating got zs tries) free) e

  -- the first of the gates, and of the bases, that are put back
  pub puts_first : (w : World V) (a : ℕ) (x : Seat V) (ks : List ℕ) → eqb (length ks) 0 ≡ false
      → after_put w a x (worlds.Returning ks) ≡ gives_up w a x (drop 1 ks)
  puts_first w a x [] len = absurd (true≢false len)
  puts_first w a x (k ∷ ks) len = refl

  pub homes_first : (w : World V) (a : ℕ) (x : Seat V) (ks : List ℕ) → eqb (length ks) 0 ≡ false
      → after_home w a x (worlds.Homing ks) ≡ goes_home w a x (drop 1 ks)
  homes_first w a x [] len = absurd (true≢false len)
  homes_first w a x (k ∷ ks) len = refl

  pub puts_none : (w : World V) (a : ℕ) (x : Seat V) (ks : List ℕ) → eqb (length ks) 0 ≡ true
      → after_put w a x (worlds.Returning ks) ≡ (w, Quiet)
  puts_none w a x [] len = refl
  puts_none w a x (k ∷ ks) len = absurd (not_none (length ks) len)

  pub homes_none : (w : World V) (a : ℕ) (x : Seat V) (ks : List ℕ) → eqb (length ks) 0 ≡ true
      → after_home w a x (worlds.Homing ks) ≡ (w, Quiet)
  homes_none w a x [] len = refl
  homes_none w a x (k ∷ ks) len = absurd (not_none (length ks) len)

  may_go : (a : ℕ) (w : World V) (ks : List ℕ) → eqb (length ks) 0 ≡ false → MayGoOn a w (worlds.Homing ks) → MayRelease a w (drop 1 ks)
  may_go a w [] len m = absurd (true≢false len)
  may_go a w (k ∷ ks) len m = m

  pub homes_as : (r u : TxActor V) (t : ActorNotice V) (homes : VecDeque ℕ Global) (left : List ℕ) → r.stage ≡ stage.Homing homes
      → eqb (length homes.items) 0 ≡ false → left ≡ drop 1 homes.items → GoesHome r u t left → IsGoneHome r u t
  homes_as r u t homes left at_home some e h a w m s =
      let x = seat_at (w.seats a) r in
      let now : after_home w a x (stage_of r.stage) ≡ goes_home w a x left =
      ap (λ (z : Stage V). after_home w a x (stage_of z)) at_home
      ∙ (homes_first w a x homes.items some ∙ ap (goes_home w a x) (sym e)) in
      let may : MayRelease a w left =
      subst (MayRelease a w) (sym e)
      (may_go a w homes.items some (subst (λ (z : Stage V). MayGoOn a w (stage_of z)) at_home m)) in
      subst (λ (z : After V). Runs a u z.0 × (notice_of a t ≡ z.1)) (sym now) (h a w x (seat_numbers (w.seats a) r) may s.1)

  pub starve_else : (w : World V) (a : ℕ) (x : Seat V) (s : Stage V)
      → (s ≡ stage.Idle → ⊥) → (s ≡ stage.Open → ⊥) → (s ≡ stage.Beginning → ⊥) → ((l : ℕ) → s ≡ stage.Reading l → ⊥)
      → ((o : CollectionCall V) (n : ℕ) → s ≡ stage.Trying o n → ⊥) → ((o : CollectionCall V) → s ≡ stage.Copying o → ⊥)
      → ((o : CallWithOutcome V) (left : VecDeque (ℕ × ℕ) Global) → s ≡ stage.Loading o left → ⊥)
      → ((ks : VecDeque ℕ Global) → s ≡ stage.Locking ks → ⊥)
      → ((ks : VecDeque ℕ Global) (i n : ℕ) → s ≡ stage.Gating ks i n → ⊥)
      → ((ks : VecDeque ℕ Global) → s ≡ stage.Ready ks → ⊥) → (s ≡ stage.Closing → ⊥)
      → starve_at w a x (stage_of s) ≡ (w, Quiet)
  starve_else w a x stage.Idle i o b r t c l lo g re cl = absurd (i refl)
  starve_else w a x stage.Open i o b r t c l lo g re cl = absurd (o refl)
  starve_else w a x stage.Beginning i o b r t c l lo g re cl = absurd (b refl)
  starve_else w a x (stage.Reading k) i o b r t c l lo g re cl = absurd (r k refl)
  starve_else w a x (stage.Trying k n) i o b r t c l lo g re cl = absurd (t k n refl)
  starve_else w a x (stage.Copying k) i o b r t c l lo g re cl = absurd (c k refl)
  starve_else w a x (stage.Loading k es) i o b r t c l lo g re cl = absurd (l k es refl)
  starve_else w a x (stage.Locking ks) i o b r t c l lo g re cl = absurd (lo ks refl)
  starve_else w a x (stage.Gating ks k n) i o b r t c l lo g re cl = absurd (g ks k n refl)
  starve_else w a x (stage.Ready ks) i o b r t c l lo g re cl = absurd (re ks refl)
  starve_else w a x stage.Closing i o b r t c l lo g re cl = absurd (cl refl)
  starve_else w a x other i o b r t c l lo g re cl = refl

-- no record is made where nothing comes of a step
pub waits_unrecorded : {V : Type 0} → (s : Stage V) → waits_at s ≡ true → Records s → ⊥
waits_unrecorded (stage.Ready ks) waits h = true≢false (sym waits)
waits_unrecorded stage.Closing waits h = true≢false (sym waits)
waits_unrecorded stage.Leaving waits h = true≢false (sym waits)
waits_unrecorded s waits h = h

-- no record is made at any other stage
pub records_else : {V : Type 0} → (s : Stage V) → ((ks : VecDeque ℕ Global) → s ≡ stage.Ready ks → ⊥) → (s ≡ stage.Closing → ⊥)
    → (s ≡ stage.Leaving → ⊥) → Records s → ⊥
records_else (stage.Ready ks) r c l h = r ks refl
records_else stage.Closing r c l h = c refl
records_else stage.Leaving r c l h = l refl
records_else s r c l h = h
