-- What a step of the words makes of its actor in a world where the number that it found is planted: the machine's step there learns that
-- number and answers by it. A store learns nothing, so it is no matter what it found.
use Rattle.std.proofs.Common.{◌≡◌, ℕ, Bool, true, false, not, ◌||◌, List, [], ◌∷◌, Some, None, refl, sym, ap, ◌∙◌, subst}
use Rattle.std.specs.Prelude.{filter}
use Rattle.vlock_word.proofs.LockWordLemmas.{bits_unbits}
use Rattle.vlock_word.specs.LockWord.{bits, unbits}
use Rattle.tx_sets.specs.Entries.{Entries, locations}
use Rattle.tx_machine.specs.Actor as machine
use Rattle.tx_machine.specs.Actor.{Actor, Place}
use Rattle.tx_machine.specs.Cells.{Cell, ClockCell, LockCell, ValueCell, cell, learns, word_of}
use Rattle.tx_machine.specs.World as machine_world
use Rattle.tx_machine.specs.World.{Deed, StoreLock, StoreValue, step_end, plan}
use Rattle.tx_machine.proofs.Cells.{step_learns}
use Rattle.tx_machine.proofs.Sets.{put-same}
use Rattle.tx_machine.proofs.Runs.{recorded_words}
use Rattle.tx_machine.specs.Boosted.{Boosted, is_given, recorded, shadows_after}
use Rattle.tx_machine.specs.Content.{has}
use Rattle.replay_log.proofs.ActionLemmas.{mine}
use Rattle.replay_log.proofs.SeatLemmas.{AtLocking, gates_of}
use Rattle.replay_log.proofs.SetLemmas.{IsNoRead, moved_is, step_sets}
use Rattle.replay_log.proofs.StageLemmas.{every_all}
use Rattle.replay_log.specs.Contents.{content, home_of, is_plain}
use Rattle.replay_log.specs.Seats.{World, Stage, Homing, Ready, Storing, acted, actor_of, moves, word_notice}
use Rattle.replay_log.specs.Worlds.{all_of, distinct}
use Rattle.actor_parts.specs.Dispatch.{MayGoOn, MayRelease, next_of}
use Rattle.actor_parts.specs.declared.next.Next.TheVariants as next
use Rattle.actor_laws.proofs.Alone.{same_actors}
use Rattle.actor_laws.proofs.StepAnswers.{told_by_number}
use Rattle.actor_laws.specs.StepTargets.{Word, with_word}
use Rattle.actor_laws.specs.StepAnswers.{tells}
use Rattle.tx_actor.specs.Running.{KnowsHomes, Runs}
use Rattle.tx_actor.specs.declared.actor.Stage as own
use Rattle.tx_actor.specs.declared.actor.Stage.TheVariants as stage
use Rattle.tx_actor.specs.declared.actor.TxActor.{TxActor}
use Rattle.shared_table.specs.Turns.{found_at}
use Rattle.tx_turns.specs.NextStep.{IsDeed}
use Rattle.tx_turns.specs.Touches.{Finds}
use Rattle.tx_turns.specs.declared.due.NextStep.{NextStep}
use Rattle.tx_turns.specs.declared.due.NextStep.TheVariants as due

-- ---- what a store finds
abbrev IsStore : Deed → Type 0
IsStore (StoreValue l v after) = Unit {0}
IsStore (StoreLock l w after) = Unit {0}
IsStore e = ⊥

store_tells : (x : Actor) (p : Place) (m n : ℕ) → IsStore (plan x p) → tells x p m ≡ tells x p n
store_tells x machine.Begin m n h = absurd h
store_tells x (machine.Look l) m n h = absurd h
store_tells x (machine.Again l k v) m n h = absurd h
store_tells x (machine.Lock []) m n h = absurd h
store_tells x (machine.Lock (l ∷ ls)) m n h = absurd h
store_tells x (machine.Take l k ls) m n h = absurd h
store_tells x (machine.Check []) m n h = absurd h
store_tells x (machine.Check (l ∷ ls)) m n h = absurd h
store_tells x (machine.Store []) m n h = refl
store_tells x (machine.Store (l ∷ ls)) m n h = refl
store_tells x p m n h = refl

store_learns : (e : Deed) (x : Actor) (m n : ℕ) → IsStore e → learns e x m ≡ learns e x n
store_learns (StoreValue l v after) x m n h = refl
store_learns (StoreLock l w after) x m n h = refl
store_learns e x m n h = absurd h

is_store : (d : NextStep) (e : Deed) (m n : ℕ) → IsDeed d e → Finds d m n → (P : ℕ → Type 0) → (IsStore e → P m → P n) → P m → P n
is_store (due.StoreValue l v) e m n h f P by p = by (subst IsStore (sym h.1) tt) p
is_store (due.StoreLock l w) e m n h f P by p = by (subst IsStore (sym h.2) tt) p
is_store due.Nothing e m n h f P by p = subst P f p
is_store due.LoadClock e m n h f P by p = subst P f p
is_store due.AddToClock e m n h f P by p = subst P f p
is_store (due.LoadLock l) e m n h f P by p = subst P f p
is_store (due.LoadValue l) e m n h f P by p = subst P f p
is_store (due.Lock l old) e m n h f P by p = subst P f p

-- what it answers is what is learnt and answered of the number that it found
pub learns_found : (d : NextStep) (e : Deed) (x : Actor) (m n : ℕ) → IsDeed d e → Finds d m n → learns e x m ≡ learns e x n
learns_found d e x m n h f =
    is_store d e m n h f (λ k. learns e x m ≡ learns e x k) (λ s _. store_learns e x m n s) refl

pub tells_found : (d : NextStep) (x : Actor) (p : Place) (m n : ℕ) → IsDeed d (plan x p) → Finds d m n → tells x p m ≡ tells x p n
tells_found d x p m n h f =
    is_store d (plan x p) m n h f (λ k. tells x p m ≡ tells x p k) (λ s _. store_tells x p m n s) refl

pub found_cell : (t : machine_world.World) (c : Cell) (n : ℕ) → cell (with_word t c n) c ≡ n
found_cell t ClockCell n = refl
found_cell t (LockCell l) n = ap bits (put-same t.locks l (unbits n)) ∙ bits_unbits n
found_cell t (ValueCell l) n = put-same t.values l n

or_not_false : (b : Bool) → (b || not false) ≡ true
or_not_false true = refl
or_not_false false = refl

locking_reads_nothing : (p : Place) → AtLocking p → IsNoRead p
locking_reads_nothing machine.Begin h = h
locking_reads_nothing (machine.Again l k v) h = h
locking_reads_nothing p h = tt

recorded_gates : {X Out : Type 0} (s : Boosted X Out) (os : List Out) (o : machine_world.StepEnd) → (recorded s os o).gates ≡ s.gates
recorded_gates s os machine_world.GoesOn = refl
recorded_gates s os (machine_world.Commits r) = refl
recorded_gates s os (machine_world.Aborts e) = refl

module _ {V : Type 0} where
  -- the homes of these entries
  abbrev homes_by : World V → Entries → List ℕ
  homes_by w es = distinct (all_of (home_of w.words w.blocks) (filter (λ l. not (is_plain w.words w.blocks l)) (locations es)))

  -- an actor of a world is one where a number is planted
  pub runs_found : (u : World V) (a : ℕ) (r : TxActor V) (c : Cell) (n : ℕ) → Runs a r u → Runs a r (found_at a u (Word c) n None)
  runs_found u a r c n h =
      let same = same_actors u.boosted.words c n a in (
        h.0,
        same ∙ h.1,
        subst (λ (y : Actor). KnowsHomes r.stage (homes_by u y.writes)) (sym same) h.2,
      )

  -- ---- the step
  pub step_gates : (v : World V) (a : ℕ) → (acted v (moves a ∷ [])).boosted.gates ≡ v.boosted.gates
  step_gates v a =
      let s = v.boosted in
      let y = actor_of v a in
      recorded_gates (record s { words = machine_world.step s.words a y y.place; shadows = shadows_after s a y.place })
      (s.shadows a).outcomes
      (step_end a y y.place)

  pub step_learns_cell : (v : World V) (a : ℕ) (x : Actor) (c : Cell) → actor_of v a ≡ x → word_of (plan x x.place) ≡ Some c
      → actor_of (acted v (moves a ∷ [])) a ≡ learns (plan x x.place) x (cell v.boosted.words c)
  step_learns_cell v a x c is touches =
      let s = v.boosted in
      let y = actor_of v a in
      let there : word_of (plan y y.place) ≡ Some c = ap (λ (z : Actor). word_of (plan z z.place)) is ∙ touches in
      ap (λ (t : machine_world.World). t.actors a)
      (recorded_words (record s { words = machine_world.step s.words a y y.place; shadows = shadows_after s a y.place })
      (s.shadows a).outcomes (step_end a y y.place))
      ∙ (step_learns s.words a y y.place c there ∙ ap (λ (z : Actor). learns (plan z z.place) z (cell s.words c)) is)

  pub step_tells_cell : (v : World V) (a : ℕ) (x : Actor) (c : Cell) → actor_of v a ≡ x → word_of (plan x x.place) ≡ Some c
      → word_notice v a ≡ tells x x.place (cell v.boosted.words c)
  step_tells_cell v a x c is touches =
      let y = actor_of v a in
      told_by_number v.boosted.words y y.place c (ap (λ (z : Actor). word_of (plan z z.place)) is ∙ touches)
      ∙ ap (λ (z : Actor). tells z z.place (cell v.boosted.words c)) is

  -- an actor that locks stands at a place of its locks
  abbrev pub LocksAt : own.Stage V → Place → Type 0
  LocksAt (stage.Locking homes) p = AtLocking p
  LocksAt s p = Unit {0}

  -- the collections that it has written stand
  pub knows_moved : (v : World V) (a : ℕ) (s : own.Stage V) → LocksAt s (actor_of v a).place
      → KnowsHomes s (homes_by v (actor_of v a).writes) → KnowsHomes s (homes_by v (actor_of (acted v (moves a ∷ [])) a).writes)
  knows_moved v a (stage.Locking homes) ok k =
      let y = actor_of v a in
      let same = step_sets v.boosted.words y y.place (locking_reads_nothing y.place ok) in
      k ∙ sym (ap (λ (es : Entries). homes_by v es)
      (ap (λ (z : Actor). z.writes) (moved_is v.boosted a y y.place refl) ∙ same.1))
  knows_moved v a s ok k = tt

  -- its locks are given back where it holds no gate any more
  pub may_release : (z : World V) (a : ℕ) (ks : List ℕ) → ((k : ℕ) → mine z.boosted a k ≡ has ks k) → MayRelease a z ks
  may_release z a [] held =
      every_all (is_given (content z.words z.blocks) z.boosted a) (locations (actor_of z a).writes) (λ l m.
      ap (λ (b : Bool). is_plain z.words z.blocks l || not b) (held (home_of z.words z.blocks l))
      ∙ or_not_false (is_plain z.words z.blocks l))
  may_release z a (k ∷ ks) held = tt

  pub may_go_on : (z : World V) (a : ℕ) (s : Stage V) → next_of s ≡ next.Word → ((k : ℕ) → mine z.boosted a k ≡ has (gates_of s) k)
      → MayGoOn a z s
  may_go_on z a (Ready ks) e held = let q : ⊥ = cc in absurd q
  may_go_on z a (Storing ks) e held = may_release z a ks held
  may_go_on z a (Homing (k ∷ ks)) e held = let q : ⊥ = cc in absurd q
  may_go_on z a s e held = tt
