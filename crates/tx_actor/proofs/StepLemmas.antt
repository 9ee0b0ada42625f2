-- The step that is next for an actor, and what a step on a gate makes of it.
--
-- In each world that shows the actor its seat does next what the actor does: a step of its words, or an action on the gate that its stage
-- names. An action on a gate changes no word, so the word actor stands, and the rest is what the actor makes of what it found. While it
-- locks, a step of the words writes nothing, so the collections that it has written stand.
use Rattle.std.proofs.Common.{◌≡◌, ℕ, ◌+◌, Bool, false, true≢false, List, [], ◌∷◌, Option, Some, None, refl}
use Rattle.std.proofs.Common.{sym, ap, ◌∙◌, subst, drop}
use Rattle.std.specs.Prelude.{not, filter}
use Rattle.std.specs.declared.alloc.Global.{Global}
use Rattle.std.specs.declared.vec.Vec.{Vec}
use Rattle.std.proofs.lemmas.Bool.{cond_both}
use Rattle.vlock_word.specs.declared.lock_word.LockWord.{LockWord}
use Rattle.vlock_word.specs.declared.lock_word.LockWord.TheVariants.{Free, Locked}
use Rattle.tx_sets.specs.Entries.{Entries, locations, lookup}
use Rattle.tx_machine.specs.Actor as machine
use Rattle.tx_machine.specs.Actor.{Actor, Place, goes, seen_to_lock, seen_in_check, stamped_at, taken}
use Rattle.tx_machine.specs.World as machine_world
use Rattle.tx_machine.specs.World.{now, exchanged, put}
use Rattle.tx_machine.proofs.Declared.{has_no_sets}
use Rattle.tx_machine.proofs.Sets.{put-same}
use Rattle.seq_model.specs.declared.call.Call.{Call}
use Rattle.seq_model.specs.declared.call.Reply.{Reply}
use Rattle.seq_model.specs.declared.event.Event.{Event}
use Rattle.seq_model.specs.declared.event.Event.TheVariants.{Step}
use Rattle.seq_model.specs.declared.event.Notice.TheVariants.{Refused}
use Rattle.seq_model.specs.declared.refusal.Refusal.TheVariants.{NoTransaction}
use Rattle.seq_model.specs.declared.held.Held.{Held}
use Rattle.seq_model.specs.Contents.{Contents}
use Rattle.tx_machine.specs.Boosted.{Boosted, Action, TakeGate, PutGate, gated, is_none, shadows_copied}
use Rattle.tx_machine.specs.Boosted.{word_step}
use Rattle.replay_log.specs.Base.{Shown}
use Rattle.replay_log.specs.Contents.{CallWithOutcome, CollectionCall, Block, HaveStripes, content, end_of, home_of, is_plain}
use Rattle.replay_log.specs.Guards.{IsAllowed, step_action}
use Rattle.replay_log.specs.Worlds.{World, Seat, Stage, After, Idle, Beginning, Open, Locking, Releasing, Closing, Cancelling, Leaving}
use Rattle.replay_log.specs.Worlds.{Reading, Trying, Copying, Loading, Gating, Ready, Storing, Homing, Returning, acted, actor_of}
use Rattle.replay_log.specs.Worlds.{moves, all_of, distinct, step_at, happens, opened, run, written_homes}
use Rattle.replay_log.proofs.GuardLemmas.{world_allows}
use Rattle.replay_log.proofs.EventLemmas.{opened_linked, run_linked}
use Rattle.replay_log.proofs.SeatLemmas.{AtLocking, Copy, Linked, StageOk}
use Rattle.actor_laws.specs.Steps.{atomic_action, ready_at}
use Rattle.step_core.specs.Shown as words
use Rattle.step_core.specs.Sound.{Fits}
use Rattle.step_core.specs.declared.actor.Actor as running
use Rattle.actor_parts.specs.Blocks.{BlocksView}
use Rattle.actor_parts.specs.Dispatch.{AreSteps, IsDue, MayGoOn, after_put, after_try, first, is_loading}
use Rattle.actor_parts.specs.Dispatch.{next_home, next_load, next_of, next_put, next_try}
use Rattle.actor_parts.specs.Guarded.{committed_at}
use Rattle.actor_parts.specs.Requests.{HasNoReads}
use Rattle.tx_actor.specs.Dispatch.{HasRoom, Records}
use Rattle.tx_actor.specs.ActorBounds.{IsRunning}
use Rattle.tx_actor.specs.Running as ran
use Rattle.tx_actor.specs.Running.{KnowsHomes, Runs, is_recorded, notice_of, seat_of, stage_of}
use Rattle.tx_actor.specs.declared.actor.Stage as own
use Rattle.tx_actor.specs.declared.actor.Stage.TheVariants as stage
use Rattle.tx_actor.specs.declared.actor.ActorNotice.{ActorNotice}
use Rattle.tx_actor.specs.declared.actor.TxActor.{TxActor}
use Rattle.actor_parts.specs.declared.next.Next.{Next}
use Rattle.actor_parts.specs.declared.next.Next.TheVariants as next
use Rattle.tx_actor.specs.Reached.{IsReached}
use Rattle.tx_actor.proofs.SeatLemmas.{next_as, seated_by, stage_by}

to_lock_writes : (x : Actor) (l : ℕ) (ls : List ℕ) (w : LockWord) → (seen_to_lock x l ls w).writes ≡ x.writes
to_lock_writes x l ls (Free k) = refl
to_lock_writes x l ls (Locked k) = refl

in_check_writes : (x : Actor) (ls : List ℕ) (w : LockWord) (o : Option ℕ) → (seen_in_check x ls w o).writes ≡ x.writes
in_check_writes x ls (Free k) o =
    cond_both {A = Actor} _ (goes x (machine.Check ls)) (goes x machine.Broken) (λ (y : Actor). y.writes ≡ x.writes) (λ _. refl) (λ _. refl)
in_check_writes x ls (Locked k) (Some v) =
    cond_both {A = Actor} _ (goes x (machine.Check ls)) (goes x machine.Broken) (λ (y : Actor). y.writes ≡ x.writes) (λ _. refl) (λ _. refl)
in_check_writes x ls (Locked k) None = refl

put_writes : (f : ℕ → Actor) (a : ℕ) (x y : Actor) → y.writes ≡ x.writes → (put f a y a).writes ≡ x.writes
put_writes f a x y e = ap (λ (z : Actor). z.writes) (put-same f a y) ∙ e

exchanged_writes : (s : machine_world.World) (a l k : ℕ) (x won lost : Actor) (w : LockWord) → won.writes ≡ x.writes
    → lost.writes ≡ x.writes → ((exchanged s a l k won lost w).actors a).writes ≡ x.writes
exchanged_writes s a l k x won lost (Free j) p q =
    cond_both {A = machine_world.World} _ (record (now s a won) { locks = put s.locks l (Locked k) }) (now s a lost)
    (λ (z : machine_world.World). (z.actors a).writes ≡ x.writes) (λ _. put_writes s.actors a x won p) (λ _. put_writes s.actors a x lost q)
exchanged_writes s a l k x won lost (Locked j) p q = put_writes s.actors a x lost q

locking_writes : {X Out : Type 0} (s : Boosted X Out) (a : ℕ) (p : Place) → AtLocking p
    → ((word_step s a (s.words.actors a) p).words.actors a).writes ≡ (s.words.actors a).writes
locking_writes s a (machine.Lock []) h =
    let x = s.words.actors a in
    put_writes s.words.actors a x (stamped_at x (s.words.clock + 1)) refl
locking_writes s a (machine.Lock (l ∷ ls)) h =
    let x = s.words.actors a in
    put_writes s.words.actors a x (seen_to_lock x l ls (s.words.locks l)) (to_lock_writes x l ls (s.words.locks l))
locking_writes s a (machine.Take l k ls) h =
    let x = s.words.actors a in
    exchanged_writes s.words a l k x (taken x l k ls) (goes x machine.Broken) (s.words.locks l) refl refl
locking_writes s a (machine.Check (l ∷ ls)) h =
    let x = s.words.actors a in
    put_writes s.words.actors a x (seen_in_check x ls (s.words.locks l) (lookup x.writes l))
    (in_check_writes x ls (s.words.locks l) (lookup x.writes l))
locking_writes s a p h = absurd h

no_try : (xs : List ℕ) (k : ℕ) → next_home (first xs) ≡ next.TryGate k → ⊥
no_try [] k e = cc
no_try (j ∷ js) k e = cc

no_put : (xs : List ℕ) (k : ℕ) → next_home (first xs) ≡ next.PutGate k → ⊥
no_put [] k e = cc
no_put (j ∷ js) k e = cc

-- the law on the steps of a commit, wherever events have led
abbrev pub GoesOn : Type 0 → Type 0
GoesOn V =
    (blocks : List Block) (clock : ℕ) (values : List ℕ) (held : List (Held V)) (events : List (Event V)) (a : ℕ) → HaveStripes blocks
    → let w = run (opened blocks clock values held) events in MayGoOn a (committed_at w a (w.seats a).stage) (w.seats a).stage

module _ {V : Type 0} where
  pub reached_linked : (o : Contents V) (w : World V) → IsReached o w → Linked w
  reached_linked o w h =
      subst (λ (z : World V). Linked z) h.world
      (run_linked h.events (opened h.blocks h.clock o.words o.held) (opened_linked h.blocks h.clock o.words o.held h.stripes))

  pub reached_goes_on : GoesOn V → (o : Contents V) (w : World V) (a : ℕ) → IsReached o w
      → MayGoOn a (committed_at w a (w.seats a).stage) (w.seats a).stage
  reached_goes_on goes o w a h =
      subst (λ (z : World V). MayGoOn a (committed_at z a (z.seats a).stage) (z.seats a).stage) h.world
      (goes h.blocks h.clock o.words o.held h.events a h.stripes)

  -- a declared reader whose word actor is idle has read nothing that it keeps
  pub no_reads_at : (o : Contents V) (w : World V) (a : ℕ) (r : TxActor V) → IsReached o w → Runs a r w
      → (actor_of w a).place ≡ machine.Open → HasNoReads r.words
  no_reads_at o w a r reached runs rests d =
      let is : actor_of w a ≡ words.actor_of r.words = runs.1 in
      sym (ap (λ (y : Actor). y.reads) is)
      ∙ (has_no_sets w.boosted.words a (reached_linked o w reached).base.inv.machine (ap (λ (y : Actor). y.declared) is ∙ d) rests).0

  pub no_reads : (o : Contents V) (w : World V) (a : ℕ) (r : TxActor V) → IsReached o w → Runs a r w → r.stage ≡ stage.Open
      → HasNoReads r.words
  no_reads o w a r reached runs at =
      let linked = reached_linked o w reached in
      let st : (w.seats a).stage ≡ Open =
      stage_by (w.seats a) r (ap (λ (t : own.Stage V). is_loading (stage_of t)) at) runs.0 ∙ ap (λ (t : own.Stage V). stage_of t) at in
      let ok = subst (λ (k : Stage V). StageOk w.words w.blocks (w.seats a) (actor_of w a) (w.boosted.shadows a) k (actor_of w a).place)
      st (linked.seats a).stage in
      no_reads_at o w a r reached runs ok.0

  -- the homes of these entries
  abbrev homes_by : World V → Entries → List ℕ
  homes_by w es = distinct (all_of (home_of w.words w.blocks) (filter (λ l. not (is_plain w.words w.blocks l)) (locations es)))

  pub knows_moved : (w : World V) (a : ℕ) (s : own.Stage V)
      → StageOk w.words w.blocks (w.seats a) (actor_of w a) (w.boosted.shadows a) (stage_of s) (actor_of w a).place
      → KnowsHomes s (written_homes w a) → KnowsHomes s (written_homes (acted w (moves a ∷ [])) a)
  knows_moved w a (stage.Locking homes) ok k =
      k ∙ sym (ap (λ (es : Entries). homes_by w es) (locking_writes w.boosted a (actor_of w a).place ok.0))
  knows_moved w a s ok k = tt

  -- the room of an actor that reads for no call depends on no word
  room_moved : (r : TxActor V) (y : running.Actor) (s : own.Stage V) → is_loading (stage_of s) ≡ false → HasRoom r s
      → HasRoom (record r { words = y }) s
  room_moved r y (stage.Reading l) quiet h = h
  room_moved r y (stage.Trying asked tries) quiet h = h
  room_moved r y (stage.Copying asked) quiet h = h
  room_moved r y (stage.Loading o left) quiet h = absurd (true≢false quiet)
  room_moved r y s quiet h = tt

  pub running_moved : (v : BlocksView) (r : TxActor V) (y : running.Actor) → ((n : ℕ) → Fits n r.words → Fits n y)
      → is_loading (stage_of r.stage) ≡ false → IsRunning v r → IsRunning v (record r { words = y })
  running_moved v r y fits quiet h = record {
    fits = fits (end_of v.words v.blocks) h.fits;
    room = room_moved r y r.stage quiet h.room;
    names = h.names;
    call = h.call;
  }

  -- an actor that has handed its calls out
  room_made : (s : TxActor V) (m : Vec (Call V × Reply V) Global) (t : own.Stage V) → HasRoom s t → HasRoom (record s { made = m }) t
  room_made s m (stage.Reading l) h = h
  room_made s m (stage.Trying asked tries) h = h
  room_made s m (stage.Copying asked) h = h
  room_made s m (stage.Loading o left) h = record {
    place = h.place;
    room = h.room;
    accept = record {
      writes = h.accept.writes;
      calls = h.accept.calls;
      place = h.accept.place;
      ready = h.accept.ready;
      kept = h.accept.kept;
      told = h.accept.told;
      own = h.accept.own;
    };
  }
  room_made s m t h = tt

  pub running_made : (v : BlocksView) (s : TxActor V) (m : Vec (Call V × Reply V) Global) → IsRunning v s
      → IsRunning v (record s { made = m })
  running_made v s m h = record { fits = h.fits; room = room_made s m s.stage h.room; names = h.names; call = h.call }

  pub stage_due : (r : TxActor V) (s : own.Stage V) → r.stage ≡ s → next_of (stage_of s) ≡ next.Word
      → next_of (stage_of r.stage) ≡ next.Word
  stage_due r s e d = ap (λ (t : own.Stage V). next_of (stage_of t)) e ∙ d

  pub stage_quiet : (r : TxActor V) (s : own.Stage V) → r.stage ≡ s → is_loading (stage_of s) ≡ false
      → is_loading (stage_of r.stage) ≡ false
  stage_quiet r s e d = ap (λ (t : own.Stage V). is_loading (stage_of t)) e ∙ d

  -- ---- the action that is next
  pub due_word : (a : ℕ) (o : Option (Action (CollectionCall V))) → IsDue a next.Word o → o ≡ Some (moves a)
  due_word a None h = absurd h
  due_word a (Some e) h = ap Some h

  pub due_try : (a k : ℕ) (o : Option (Action (CollectionCall V))) → IsDue a (next.TryGate k) o → o ≡ Some (TakeGate a k)
  due_try a k None h = absurd h
  due_try a k (Some e) h = ap Some h

  pub due_put : (a k : ℕ) (o : Option (Action (CollectionCall V))) → IsDue a (next.PutGate k) o → o ≡ Some (PutGate a k (λ l. false))
  due_put a k None h = absurd h
  due_put a k (Some e) h = ap Some h

  pub due_as : AreSteps V → (w : World V) (a : ℕ) (s : Stage V) (n : Next) → next_of s ≡ n → IsDue a n (step_action w a s)
  due_as steps w a s n e = subst (λ (m : Next). IsDue a m (step_action w a s)) e (steps.due w a s)

  -- but for the first value store it is done in the world as it is
  pub same_action : (w : World V) (a : ℕ) (s : Stage V) → (next_of s ≡ next.FirstStore → ⊥) → atomic_action a w s ≡ step_action w a s
  same_action w a (Ready ks) ne = absurd (ne refl)
  same_action w a s ne = refl

  pub same_world : (w : World V) (a : ℕ) (s : Stage V) → (next_of s ≡ next.FirstStore → ⊥) → ready_at a w s ≡ w
  same_world w a (Ready ks) ne = absurd (ne refl)
  same_world w a s ne = refl

  pub reached_allows : (o : Contents V) (w : World V) (a : ℕ) → IsReached o w
      → IsAllowed w (w.seats a).stage (step_action w a (w.seats a).stage)
  reached_allows o w a h =
      subst (λ (z : World V). IsAllowed z (z.seats a).stage (step_action z a (z.seats a).stage)) h.world
      (world_allows h.blocks h.clock o.words o.held h.events a h.stripes)

  -- ---- a step of the words
  pub may_move : (w : World V) (a : ℕ) (s : Stage V) → next_of s ≡ next.Word → MayGoOn a (committed_at w a s) s
      → MayGoOn a (acted w (moves a ∷ [])) s
  may_move w a (Ready ks) e m = let z : ⊥ = cc in absurd z
  may_move w a (Homing (k ∷ ks)) e m = let z : ⊥ = cc in absurd z
  may_move w a s e m = m

  -- ---- an action on a gate leaves the words
  pub quiet_try : (s : Stage V) (k : ℕ) → next_of s ≡ next.TryGate k → is_loading s ≡ false
  quiet_try (Loading o []) k e = let z : ⊥ = cc in absurd z
  quiet_try (Loading o (d ∷ es)) k e = let z : ⊥ = cc in absurd z
  quiet_try s k e = refl

  pub quiet_put : (s : Stage V) (k : ℕ) → next_of s ≡ next.PutGate k → is_loading s ≡ false
  quiet_put (Loading o []) k e = let z : ⊥ = cc in absurd z
  quiet_put (Loading o (d ∷ es)) k e = let z : ⊥ = cc in absurd z
  quiet_put s k e = refl

  pub plain_try : (t : own.Stage V) (k : ℕ) → next_of (stage_of t) ≡ next.TryGate k → is_recorded t ≡ false
  plain_try (stage.Storing homes) k e = let z : ⊥ = cc in absurd z
  plain_try (stage.Homing homes) k e = absurd (no_try homes.items k e)
  plain_try stage.Releasing k e = let z : ⊥ = cc in absurd z
  plain_try t k e = refl

  pub plain_put : (t : own.Stage V) (k : ℕ) → next_of (stage_of t) ≡ next.PutGate k → is_recorded t ≡ false
  plain_put (stage.Storing homes) k e = let z : ⊥ = cc in absurd z
  plain_put (stage.Homing homes) k e = absurd (no_put homes.items k e)
  plain_put stage.Releasing k e = let z : ⊥ = cc in absurd z
  plain_put t k e = refl

  pub runs_moved : (w : World V) (a : ℕ) (r : TxActor V) (e : Action (CollectionCall V))
      → (acted w (e ∷ [])).boosted.words ≡ w.boosted.words
      → Runs a r w → Runs a r (acted w (e ∷ []))
  runs_moved w a r e same h = (
    h.0,
    ap (λ (x : machine_world.World). x.actors a) same ∙ h.1,
    subst (λ (x : machine_world.World). KnowsHomes r.stage (homes_by w (x.actors a).writes)) (sym same) h.2,
  )

  pub try_words : (w : World V) (a k : ℕ) → (acted w (TakeGate a k ∷ [])).boosted.words ≡ w.boosted.words
  try_words w a k =
      let b = w.boosted in
      cond_both {A = Boosted (Shown V) (CallWithOutcome V)} _ (gated b (put b.gates k (Some a)) b.shadows) b
      (λ (z : Boosted (Shown V) (CallWithOutcome V)). z.words ≡ b.words) (λ _. refl) (λ _. refl)

  pub put_words : (w : World V) (a k : ℕ) (which : ℕ → Bool) → (acted w (PutGate a k which ∷ [])).boosted.words ≡ w.boosted.words
  put_words w a k which =
      let b = w.boosted in
      cond_both {A = Boosted (Shown V) (CallWithOutcome V)} _
      (gated b (put b.gates k None) (shadows_copied (content w.words w.blocks) b a k which)) b
      (λ (z : Boosted (Shown V) (CallWithOutcome V)). z.words ≡ b.words) (λ _. refl) (λ _. refl)

  -- ---- the first value store: its request, and then a step of the words
  pub first_is : (s : Stage V) → next_of s ≡ next.FirstStore → (ks : List ℕ) × (s ≡ Ready ks)
  first_is (Ready ks) e = (ks, refl)
  first_is Idle e = let z : ⊥ = cc in absurd z
  first_is Open e = let z : ⊥ = cc in absurd z
  first_is (Trying asked n) e = let z : ⊥ = cc in absurd z
  first_is (Copying asked) e = let z : ⊥ = cc in absurd z
  first_is (Loading o []) e = let z : ⊥ = cc in absurd z
  first_is (Loading o (d ∷ es)) e = let z : ⊥ = cc in absurd z
  first_is (Gating got [] n) e = let z : ⊥ = cc in absurd z
  first_is (Gating got (k ∷ ks) n) e = let z : ⊥ = cc in absurd z
  first_is (Homing []) e = let z : ⊥ = cc in absurd z
  first_is (Homing (k ∷ ks)) e = let z : ⊥ = cc in absurd z
  first_is (Returning []) e = let z : ⊥ = cc in absurd z
  first_is (Returning (k ∷ ks)) e = let z : ⊥ = cc in absurd z
  first_is Beginning e = let z : ⊥ = cc in absurd z
  first_is (Reading l) e = let z : ⊥ = cc in absurd z
  first_is Locking e = let z : ⊥ = cc in absurd z
  first_is (Storing ks) e = let z : ⊥ = cc in absurd z
  first_is Releasing e = let z : ⊥ = cc in absurd z
  first_is Closing e = let z : ⊥ = cc in absurd z
  first_is Cancelling e = let z : ⊥ = cc in absurd z
  first_is Leaving e = let z : ⊥ = cc in absurd z

  pub quiet_first : (s : Stage V) → next_of s ≡ next.FirstStore → is_loading s ≡ false
  quiet_first s e = ap is_loading (first_is s e).1

  -- a request of its words leaves an actor at its stage
  pub still_quiet : (r p : TxActor V) → (let s : TxActor V = record r { words = p.words } in p ≡ s)
      → is_loading (stage_of r.stage) ≡ false → is_loading (stage_of p.stage) ≡ false
  still_quiet r p e quiet = ap (λ (z : TxActor V). is_loading (stage_of z.stage)) e ∙ quiet

  pub knows_ready : (t : own.Stage V) (ks js : List ℕ) → stage_of t ≡ Ready ks → KnowsHomes t js
  knows_ready (stage.Locking homes) ks js e = let z : ⊥ = cc in absurd z
  knows_ready t ks js e = tt

  pub first_records : (t : own.Stage V) → next_of (stage_of t) ≡ next.FirstStore → Records t
  first_records (stage.Ready homes) e = tt
  first_records stage.Closing e = tt
  first_records stage.Leaving e = tt
  first_records (stage.Loading o left) e = absurd (no_load left.items e)
    where
      no_load : (es : Entries) → next_load es ≡ next.FirstStore → ⊥
      no_load [] e = cc
      no_load (d ∷ es) e = cc
  first_records (stage.Gating homes got tries) e = absurd (no_gate (first (drop got homes.items)) e)
    where
      no_gate : (o : Option ℕ) → next_try o ≡ next.FirstStore → ⊥
      no_gate None e = cc
      no_gate (Some k) e = cc
  first_records (stage.Homing homes) e = absurd (no_home (first homes.items) e)
    where
      no_home : (o : Option ℕ) → next_home o ≡ next.FirstStore → ⊥
      no_home None e = cc
      no_home (Some k) e = cc
  first_records (stage.Returning homes) e = absurd (no_return (first homes.items) e)
    where
      no_return : (o : Option ℕ) → next_put o ≡ next.FirstStore → ⊥
      no_return None e = cc
      no_return (Some k) e = cc
  first_records t e = let z : ⊥ = cc in absurd z

  -- ---- no step is next
  nothing_at : (n : ℕ) (bs : List Block) (x : Seat V) (y : Actor) (z : Copy V) (s : Stage V) (p : Place) → next_of s ≡ next.Nothing
      → StageOk n bs x y z s p → (w : World V) (a : ℕ) → step_at w a x s ≡ (w, Refused a NoTransaction)
  nothing_at n bs x y z Idle p e ok w a = refl
  nothing_at n bs x y z Open p e ok w a = refl
  nothing_at n bs x y z (Loading o []) p e ok w a = absurd ok
  nothing_at n bs x y z (Gating got [] t) p e ok w a = absurd ok
  nothing_at n bs x y z (Homing []) p e ok w a = absurd ok
  nothing_at n bs x y z (Returning []) p e ok w a = absurd ok
  nothing_at n bs x y z (Trying asked t) p e ok w a = let q : ⊥ = cc in absurd q
  nothing_at n bs x y z (Copying asked) p e ok w a = let q : ⊥ = cc in absurd q
  nothing_at n bs x y z (Loading o (d ∷ es)) p e ok w a = let q : ⊥ = cc in absurd q
  nothing_at n bs x y z (Gating got (k ∷ ks) t) p e ok w a = let q : ⊥ = cc in absurd q
  nothing_at n bs x y z (Ready ks) p e ok w a = let q : ⊥ = cc in absurd q
  nothing_at n bs x y z (Homing (k ∷ ks)) p e ok w a = let q : ⊥ = cc in absurd q
  nothing_at n bs x y z (Returning (k ∷ ks)) p e ok w a = let q : ⊥ = cc in absurd q
  nothing_at n bs x y z Beginning p e ok w a = let q : ⊥ = cc in absurd q
  nothing_at n bs x y z (Reading l) p e ok w a = let q : ⊥ = cc in absurd q
  nothing_at n bs x y z Locking p e ok w a = let q : ⊥ = cc in absurd q
  nothing_at n bs x y z (Storing ks) p e ok w a = let q : ⊥ = cc in absurd q
  nothing_at n bs x y z Releasing p e ok w a = let q : ⊥ = cc in absurd q
  nothing_at n bs x y z Closing p e ok w a = let q : ⊥ = cc in absurd q
  nothing_at n bs x y z Cancelling p e ok w a = let q : ⊥ = cc in absurd q
  nothing_at n bs x y z Leaving p e ok w a = let q : ⊥ = cc in absurd q

  pub nothing_is : (o : Contents V) (w : World V) (a : ℕ) (r : TxActor V) → IsReached o w → Runs a r w
      → next_of (stage_of r.stage) ≡ next.Nothing → happens w (Step a) ≡ (w, Refused a NoTransaction)
  nothing_is o w a r reached runs due =
      let st : next_of (w.seats a).stage ≡ next.Nothing =
      next_as w a r runs ∙ due in
      nothing_at w.words w.blocks (w.seats a) (actor_of w a) (w.boosted.shadows a) (w.seats a).stage (actor_of w a).place
      st ((reached_linked o w reached).seats a).stage w a

  -- ---- what a step on a gate makes of the seat is what the actor makes of itself
  pub try_runs : AreSteps V → (w : World V) (a k : ℕ) (r s : TxActor V) (free : Bool) (n : ActorNotice V)
      → next_of (stage_of r.stage) ≡ next.TryGate k → free ≡ is_none (w.boosted.gates k)
      → ran.Does r s n (λ a w. after_try w a (seat_of r) (stage_of r.stage) free) → Runs a r w
      → Runs a s (happens w (Step a)).0 × (notice_of a n ≡ (happens w (Step a)).1)
  try_runs steps w a k r s free n due is does runs =
      let z = acted w (TakeGate a k ∷ []) in
      let own_seat = seated_by (w.seats a) r (quiet_try (stage_of r.stage) k due) (plain_try r.stage k due) runs.0 in
      let after = does a z (runs_moved w a r (TakeGate a k) (try_words w a k) runs) in
      let e : step_at w a (w.seats a) (w.seats a).stage ≡ after_try z a (seat_of r) (stage_of r.stage) free =
      ap (λ (x : Seat V). step_at w a x x.stage) own_seat
      ∙ (steps.tries w a (seat_of r) (stage_of r.stage) k due
      ∙ ap (after_try z a (seat_of r) (stage_of r.stage)) (sym is)) in (
        subst (λ (p : After V). Runs a s p.0) (sym e) after.0,
        after.1 ∙ sym (ap (λ (p : After V). p.1) e),
      )

  pub put_runs : AreSteps V → (w : World V) (a k : ℕ) (r s : TxActor V) (n : ActorNotice V) → next_of (stage_of r.stage) ≡ next.PutGate k
      → ran.Does r s n (λ a w. after_put w a (seat_of r) (stage_of r.stage)) → Runs a r w
      → Runs a s (happens w (Step a)).0 × (notice_of a n ≡ (happens w (Step a)).1)
  put_runs steps w a k r s n due does runs =
      let none = λ (l : ℕ). false in
      let z = acted w (PutGate a k none ∷ []) in
      let own_seat = seated_by (w.seats a) r (quiet_put (stage_of r.stage) k due) (plain_put r.stage k due) runs.0 in
      let after = does a z (runs_moved w a r (PutGate a k none) (put_words w a k none) runs) in
      let e : step_at w a (w.seats a) (w.seats a).stage ≡ after_put z a (seat_of r) (stage_of r.stage) =
      ap (λ (x : Seat V). step_at w a x x.stage) own_seat ∙ steps.puts w a (seat_of r) (stage_of r.stage) k due in (
        subst (λ (p : After V). Runs a s p.0) (sym e) after.0,
        after.1 ∙ sym (ap (λ (p : After V). p.1) e),
      )
