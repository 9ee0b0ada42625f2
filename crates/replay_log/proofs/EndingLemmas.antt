-- What a step leaves of values, bases and records. Before the first value store a step stores no value, and only the step that puts a base
-- back changes one; so a transaction that is being aborted leaves them, gives each lock back at the version at which it took it, and an
-- idle actor holds no lock and no gate.
use Rattle.std.proofs.Common.{◌≡◌, ℕ, zero, suc, Bool, false, ◌&&◌, List, [], ◌∷◌, ◌++◌, Some, None, refl, sym, ◌∙◌, ap, subst, true≢false}
use Rattle.std.proofs.Common.{eqb, eq-eqb}
use Rattle.std.specs.Prelude.{not, if◌then◌else◌}
use Rattle.std.proofs.lemmas.Bool.{cond_both}
use Rattle.vlock_word.specs.declared.lock_word.LockWord.{LockWord}
use Rattle.vlock_word.specs.declared.lock_word.LockWord.TheVariants.{Free, Locked}
use Rattle.tx_sets.specs.Entries.{Entries, lookup}
use Rattle.tx_machine.specs.Actor as machine
use Rattle.tx_machine.specs.Actor.{Place, Actor}
use Rattle.tx_machine.specs.Requests as word
use Rattle.tx_machine.specs.World as world
use Rattle.tx_machine.specs.World.{World as Words, StepEnd, put, plan}
use Rattle.tx_machine.specs.Notices as told
use Rattle.tx_machine.proofs.Sets.{put-same}
use Rattle.tx_machine.proofs.Invariant.{PlaceOk}
use Rattle.seq_model.specs.declared.refusal.Refusal.TheVariants as refusal
use Rattle.seq_model.specs.declared.event.Event.TheVariants.{Step}
use Rattle.tx_machine.specs.Content.{Content, has}
use Rattle.tx_machine.specs.Boosted.{Boosted, TakeGate, PutGate, recorded, word_step, shadows_after, gated, copied, is_none}
use Rattle.tx_machine.specs.Boosted.{is_actor, is_open, is_committing, acts}
use Rattle.replay_log.specs.Contents.{CallWithOutcome, content}
use Rattle.replay_log.specs.Pieces.{piece_at, covers_at}
use Rattle.replay_log.specs.Worlds.{World, Seat, Stage, Idle, Beginning, Open, Locking, Releasing, Closing, Cancelling, Leaving, Reading}
use Rattle.replay_log.specs.Worlds.{Trying, Copying, Loading, Gating, Ready, Storing, Homing, Returning, After, because, acted, moves}
use Rattle.replay_log.specs.Worlds.{actor_of, word_notice, outcome_at, loads, has_begun, has_read, has_tried, with_piece, sized_by}
use Rattle.replay_log.specs.Worlds.{has_loaded, takes_gates, has_locked, has_released, has_cancelled, step_at, happens}
use Rattle.replay_log.specs.WorldAnswers.{changes_at, Untouched}
use Rattle.replay_log.proofs.ActionLemmas.{learns}
use Rattle.replay_log.proofs.SetLemmas.{moved_is}
use Rattle.replay_log.proofs.AloneActions.{step_editions}
use Rattle.replay_log.proofs.SeatLemmas.{AtReading, AtLocking, gates_of, StageOk, Linked}
use Rattle.replay_log.proofs.StillLemmas.{still, StillIn, ask_still, cancels_still, gives_up_still, fresh_still, loads_still, answers_still}

abbrev IsNoStore : Place → Type 0
IsNoStore machine.First = ⊥
IsNoStore (machine.Store ls) = ⊥
IsNoStore p = Unit {0}

reading_no_store : (l : ℕ) (p : Place) → AtReading l p → IsNoStore p
reading_no_store l (machine.Look k) h = tt
reading_no_store l (machine.Fetch k j) h = tt
reading_no_store l (machine.Again k j v) h = tt
reading_no_store l p h = absurd h

locking_no_store : (p : Place) → AtLocking p → IsNoStore p
locking_no_store (machine.Lock ls) h = tt
locking_no_store (machine.Take l k ls) h = tt
locking_no_store (machine.Check (l ∷ ls)) h = tt
locking_no_store p h = absurd h

-- ---- steps of the words
exchanged_values : (s : Words) (a l k : ℕ) (won lost : Actor) (w : LockWord) → (world.exchanged s a l k won lost w).values ≡ s.values
exchanged_values s a l k won lost (Free j) =
    cond_both (eqb j k) (record (world.now s a won) { locks = put s.locks l (Locked k) }) (world.now s a lost)
    (λ (t : Words). t.values ≡ s.values) (λ _. refl) (λ _. refl)
exchanged_values s a l k won lost (Locked j) = refl

release_values : (s : Words) (a : ℕ) (y : Actor) (es : Entries) → (world.does s a (world.release y es)).values ≡ s.values
release_values s a y [] = refl
release_values s a y (e ∷ es) = refl

undo_values : (s : Words) (a : ℕ) (y : Actor) (es : Entries) → (world.does s a (world.undo y es)).values ≡ s.values
undo_values s a y [] = refl
undo_values s a y (e ∷ es) = refl

does_values : (s : Words) (a : ℕ) (y : Actor) (p : Place) → IsNoStore p → (world.does s a (plan y p)).values ≡ s.values
does_values s a y machine.Idle h = refl
does_values s a y machine.Begin h = refl
does_values s a y machine.Open h = refl
does_values s a y (machine.Look l) h = refl
does_values s a y (machine.Fetch l k) h = refl
does_values s a y (machine.Again l k v) h = refl
does_values s a y (machine.Lock []) h = refl
does_values s a y (machine.Lock (l ∷ ls)) h = refl
does_values s a y (machine.Take l k ls) h = exchanged_values s a l k (machine.taken y l k ls) (machine.goes y machine.Broken) (s.locks l)
does_values s a y (machine.Check []) h = refl
does_values s a y (machine.Check (l ∷ ls)) h = refl
does_values s a y machine.Broken h = refl
does_values s a y machine.First h = absurd h
does_values s a y (machine.Store ls) h = absurd h
does_values s a y machine.Release h = release_values s a y y.held
does_values s a y machine.Undo h = undo_values s a y y.held
does_values s a y machine.Leave h = refl
does_values s a y machine.Close h = refl

noted_values : (s : Words) (q : StepEnd) → (world.noted s q).values ≡ s.values
noted_values s world.GoesOn = refl
noted_values s (world.Commits r) = refl
noted_values s (world.Aborts e) = refl

module _ {X Out : Type 0} where
  -- values and bases
  abbrev pub Kept : Boosted X Out → Boosted X Out → Type 0
  Kept s t = (t.words.values ≡ s.words.values) × (t.parts ≡ s.parts) × (t.editions ≡ s.editions)

  recorded_values : (s : Boosted X Out) (os : List Out) (q : StepEnd) → (recorded s os q).words.values ≡ s.words.values
  recorded_values s os world.GoesOn = refl
  recorded_values s os (world.Commits r) = refl
  recorded_values s os (world.Aborts e) = refl

  recorded_parts : (s : Boosted X Out) (os : List Out) (q : StepEnd) → (recorded s os q).parts ≡ s.parts
  recorded_parts s os world.GoesOn = refl
  recorded_parts s os (world.Commits r) = refl
  recorded_parts s os (world.Aborts e) = refl

  step_keeps : (s : Boosted X Out) (a : ℕ) (x : Actor) (p : Place) → IsNoStore p → Kept s (word_step s a x p)
  step_keeps s a x p h =
      let q = world.step_end a x p in
      let next : Boosted X Out = record s { words = world.step s.words a x p; shadows = shadows_after s a p } in (
        recorded_values next (s.shadows a).outcomes q ∙ noted_values (world.does s.words a (plan x p)) q ∙ does_values s.words a x p h,
        recorded_parts next (s.shadows a).outcomes q,
        step_editions s a x p,
      )

  -- the lock that is given back
  undone_locks : (s : Boosted X Out) (a : ℕ) (x : Actor) (p : Place) (l k : ℕ) (rest : Entries) → p ≡ machine.Undo → x.held ≡ (l, k) ∷ rest
      → (word_step s a x p).words.locks ≡ put s.words.locks l (Free k)
  undone_locks s a x p l k rest e held =
      ap (λ q. (word_step s a x q).words.locks) e ∙ ap (λ (es : Entries). (world.does s.words a (world.undo x es)).locks) held

module _ {X Op Out : Type 0} (c : Content X Op Out) where
  take_keeps : (s : Boosted X Out) (a k : ℕ) → Kept s (acts c s (TakeGate a k))
  take_keeps s a k =
      cond_both (is_none (s.gates k) && not (is_committing (s.words.actors a).place)) (gated s (put s.gates k (Some a)) s.shadows) s
      (Kept s)
      (λ _. (refl, refl, refl)) (λ _. (refl, refl, refl))

  pub put_keeps : (s : Boosted X Out) (a k : ℕ) (which : ℕ → Bool) → Kept s (acts c s (PutGate a k which))
  put_keeps s a k which =
      cond_both (is_actor a (s.gates k) && not (is_committing (s.words.actors a).place))
      (gated s (put s.gates k None) (if is_open (s.words.actors a).place then put s.shadows a
      (copied c s (s.words.actors a).calls (s.shadows a) k which) else s.shadows)) s
      (Kept s) (λ _. (refl, refl, refl)) (λ _. (refl, refl, refl))

abort_held : (y : Actor) (es : Entries) → (word.abort y es).held ≡ y.held
abort_held y [] = refl
abort_held y (e ∷ es) = refl

aborted_held : (y : Actor) (p : Place) → (word.ask y p word.AskAbort).held ≡ y.held
aborted_held y machine.Open = refl
aborted_held y (machine.Look l) = refl
aborted_held y (machine.Fetch l k) = refl
aborted_held y (machine.Again l k v) = refl
aborted_held y machine.Close = refl
aborted_held y machine.Begin = refl
aborted_held y machine.Undo = abort_held y y.held
aborted_held y (machine.Check []) = refl
aborted_held y (machine.Check (l ∷ ls)) = refl
aborted_held y (machine.Store []) = refl
aborted_held y (machine.Store (l ∷ ls)) = refl
aborted_held y p = refl

module _ {V : Type 0} where
  untouched : (w u t : World V) (a : ℕ) → Kept w.boosted u.boosted → StillIn a u t → Untouched w t
  untouched w u t a h g = record { values = g.values ∙ h.0; parts = g.parts ∙ h.1; editions = g.editions ∙ h.2 }

  here : (u : World V) (a : ℕ) → StillIn a u u
  here u a = still a u.boosted

  -- ---- what follows of a step without another
  begun_still : (u : World V) (a : ℕ) (x : Seat V) (n : told.Notice) → StillIn a u (has_begun u a x n).0
  begun_still u a x (told.Begun rv) = here u a
  begun_still u a x (told.Exhausted clock) = here u a
  begun_still u a x n = here u a

  read_still : (u : World V) (a : ℕ) (x : Seat V) (l : ℕ) (n : told.Notice) → StillIn a u (has_read u a x l n).0
  read_still u a x l (told.Number v) = here u a
  read_still u a x l (told.Moved i found) = cancels_still u u a (because x (refusal.Moved i found)) (here u a)
  read_still u a x l n = here u a

  tried_still : (u : World V) (a : ℕ) (x : Seat V) (free : Bool) (k : ℕ) (got : List ℕ) (again : ℕ → Stage V) (next : Stage V) (tries : ℕ)
      → StillIn a u (has_tried u a x free k got again next tries).0
  tried_still u a x free k got again next zero =
      cond_both {A = After V} free _ _ (λ r. StillIn a u r.0) (λ _. here u a)
      (λ _. gives_up_still u u a (because x (refusal.GateBusy k)) got (here u a))
  tried_still u a x free k got again next (suc m) = cond_both {A = After V} free _ _ (λ r. StillIn a u r.0) (λ _. here u a) (λ _. here u a)

  loaded_still : (u : World V) (a : ℕ) (x : Seat V) (o : CallWithOutcome V) (d : ℕ × ℕ) (es : Entries) (n : told.Notice)
      → StillIn a u (has_loaded u a x o d es n).0
  loaded_still u a x o d es (told.Number v) = fresh_still u u a x d v (loads u a x o es) (here u a) (loads_still es u u a x o (here u a))
  loaded_still u a x o d es (told.Moved i found) = cancels_still u u a (because x (refusal.Moved i found)) (here u a)
  loaded_still u a x o d es n = here u a

  locked_still : (u : World V) (a : ℕ) (x : Seat V) (n : told.Notice) → StillIn a u (has_locked u a x n).0
  locked_still u a x (told.LockedAt wv) = here u a
  locked_still u a x (told.Busy l found) = cancels_still u u a (because x (refusal.Busy l found)) (here u a)
  locked_still u a x (told.Invalid l found) = cancels_still u u a (because x (refusal.Invalid l found)) (here u a)
  locked_still u a x n = here u a

  released_still : (u : World V) (a : ℕ) (x : Seat V) (n : told.Notice) → StillIn a u (has_released u a x n).0
  released_still u a x told.Released = here u a
  released_still u a x n = here u a

  cancelled_still : (u : World V) (a : ℕ) (x : Seat V) (n : told.Notice) → StillIn a u (has_cancelled u a x n).0
  cancelled_still u a x told.Cancelled = ask_still u u a word.AskAbort (here u a)
  cancelled_still u a x n = here u a

  kept : (w : World V) → Kept w.boosted w.boosted
  kept w = (refl, refl, refl)

  moved : (w : World V) (a : ℕ) (p : Place) → (actor_of w a).place ≡ p → IsNoStore p → Kept w.boosted (acted w (moves a ∷ [])).boosted
  moved w a p e h = step_keeps w.boosted a (actor_of w a) (actor_of w a).place (subst IsNoStore (sym e) h)

  step_untouched : (w : World V) (a : ℕ) (x : Seat V) (st : Stage V) → StageOk w.words w.blocks x (actor_of w a) (w.boosted.shadows a) st
      (actor_of w a).place
      → changes_at st ≡ false → Untouched w (step_at w a x st).0
  step_untouched w a x Idle ok h = untouched w w w a (kept w) (here w a)
  step_untouched w a x Open ok h = untouched w w w a (kept w) (here w a)
  step_untouched w a x Beginning ok h =
      let u = acted w (moves a ∷ []) in untouched w u _ a (moved w a machine.Begin ok tt) (begun_still u a x (word_notice w a))
  step_untouched w a x (Reading l) ok h =
      let u = acted w (moves a ∷ []) in
      untouched w u _ a (moved w a (actor_of w a).place refl (reading_no_store l (actor_of w a).place ok.0))
      (read_still u a x l (word_notice w a))
  step_untouched w a x (Trying asked tries) ok h =
      let u = acted w (TakeGate a asked.collection ∷ []) in
      untouched w u _ a (take_keeps (content w.words w.blocks) w.boosted a asked.collection)
      (tried_still u a x (is_none (w.boosted.gates asked.collection)) asked.collection [] (λ n. Trying asked n) (Copying asked) tries)
  step_untouched w a x (Copying asked) ok h =
      let which = covers_at w.words w.blocks asked in
      let u = acted w (PutGate a asked.collection which ∷ []) in
      let o = outcome_at u a asked in
      untouched w u _ a (put_keeps (content w.words w.blocks) w.boosted a asked.collection which)
      (answers_still u u a x (with_piece x asked.collection (piece_at w.blocks asked)) (sized_by u a asked o) o u.boosted.editions
      (here u a))
  step_untouched w a x (Loading o []) ok h = absurd ok
  step_untouched w a x (Loading o (d ∷ es)) ok h =
      let u = acted w (moves a ∷ []) in
      untouched w u _ a (moved w a (actor_of w a).place refl (reading_no_store d.0 (actor_of w a).place ok.0))
      (loaded_still u a x o d es (word_notice w a))
  step_untouched w a x Locking ok h =
      let u = acted w (moves a ∷ []) in
      untouched w u _ a (moved w a (actor_of w a).place refl (locking_no_store (actor_of w a).place ok.0))
      (locked_still u a x (word_notice w a))
  step_untouched w a x (Gating got [] tries) ok h = absurd ok
  step_untouched w a x (Gating got (k ∷ ks) tries) ok h =
      let u = acted w (TakeGate a k ∷ []) in
      untouched w u _ a (take_keeps (content w.words w.blocks) w.boosted a k)
      (tried_still u a x (is_none (w.boosted.gates k)) k got (λ n. Gating got (k ∷ ks) n) (takes_gates (got ++ k ∷ []) ks) tries)
  step_untouched w a x (Ready ks) ok h = absurd (true≢false h)
  step_untouched w a x (Storing ks) ok h = absurd (true≢false h)
  step_untouched w a x (Homing ks) ok h = absurd (true≢false h)
  step_untouched w a x Releasing ok h =
      let u = acted w (moves a ∷ []) in untouched w u _ a (moved w a machine.Release ok.0 tt) (released_still u a x (word_notice w a))
  step_untouched w a x Closing ok h = let u = acted w (moves a ∷ []) in untouched w u _ a (moved w a machine.Close ok.0 tt) (here u a)
  step_untouched w a x (Returning []) ok h = absurd ok
  step_untouched w a x (Returning (k ∷ ks)) ok h =
      let none = λ (l : ℕ). false in
      let u = acted w (PutGate a k none ∷ []) in
      untouched w u _ a (put_keeps (content w.words w.blocks) w.boosted a k none) (gives_up_still u u a x ks (here u a))
  step_untouched w a x Cancelling ok h =
      let u = acted w (moves a ∷ []) in untouched w u _ a (moved w a machine.Undo ok.0 tt) (cancelled_still u a x (word_notice w a))
  step_untouched w a x Leaving ok h = let u = acted w (moves a ∷ []) in untouched w u _ a (moved w a machine.Leave ok.0 tt) (here u a)

  pub steps_untouched : (w : World V) (a : ℕ) → Linked w → changes_at (w.seats a).stage ≡ false → Untouched w (happens w (Step a)).0
  steps_untouched w a k h = step_untouched w a (w.seats a) (w.seats a).stage (k.seats a).stage h

  -- ---- a lock that goes back
  cancelled_held : (u : World V) (a : ℕ) (x : Seat V) (n : told.Notice) → (actor_of (has_cancelled u a x n).0 a).held ≡ (actor_of u a).held
  cancelled_held u a x told.Cancelled =
      let y = actor_of u a in
      ap (λ (q : Actor). q.held) (put-same u.boosted.words.actors a (word.ask y y.place word.AskAbort)) ∙ aborted_held y y.place
  cancelled_held u a x n = refl

  pub lock_goes_back : (w : World V) (a l k : ℕ) (rest : Entries) → Linked w → (w.seats a).stage ≡ Cancelling
      → (actor_of w a).held ≡ (l, k) ∷ rest
      → let u = (happens w (Step a)).0 in (u.boosted.words.locks ≡ put w.boosted.words.locks l (Free k)) × ((actor_of u a).held ≡ rest)
  lock_goes_back w a l k rest linked at held =
      let x = w.seats a in
      let y = actor_of w a in
      let u = acted w (moves a ∷ []) in
      let ok = subst (λ st. StageOk w.words w.blocks x y (w.boosted.shadows a) st y.place) at (linked.seats a).stage in
      let given : (actor_of u a).held ≡ rest =
      ap (λ (q : Actor). q.held) (moved_is w.boosted a y y.place refl ∙ ap (λ p. learns w.boosted.words y (plan y p)) ok.0)
      ∙ ap (λ (es : Entries). (learns w.boosted.words y (world.undo y es)).held) held in
      subst (λ st. let t = (step_at w a x st).0 in (t.boosted.words.locks ≡ put w.boosted.words.locks l (Free k))
      × ((actor_of t a).held ≡ rest)) (sym at) (
        (cancelled_still u a x (word_notice w a)).locks ∙ undone_locks w.boosted a y y.place l k rest ok.0 held,
        cancelled_held u a x (word_notice w a) ∙ given,
      )

  pub locks_held : (w : World V) (a l k : ℕ) → Linked w → lookup (actor_of w a).held l ≡ Some k → w.boosted.words.locks l ≡ Locked k
  locks_held w a l k linked h = (linked.base.inv.machine.actors a).held l k h

  -- ---- an idle actor
  pub holds_nothing : (w : World V) (a : ℕ) → Linked w → (w.seats a).stage ≡ Idle → ((actor_of w a).held ≡ [])
      × ((k : ℕ) → w.boosted.gates k ≡ Some a → ⊥)
  holds_nothing w a linked at =
      let x = w.seats a in
      let y = actor_of w a in
      let place = subst (λ st. StageOk w.words w.blocks x y (w.boosted.shadows a) st y.place) at (linked.seats a).stage in (
        subst (PlaceOk w.boosted.words y) place (linked.base.inv.machine.actors a).place,
        λ k is. true≢false (sym (ap (is_actor a) is ∙ eq-eqb a a refl) ∙ (linked.seats a).gates k ∙ ap (λ st. has (gates_of st) k) at),
      )
