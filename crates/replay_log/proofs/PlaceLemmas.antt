-- What a step of the word machine makes of its actor's record at each place, by what it answers. The stages of a world know the place only
-- by sort (within a read, among the locks, among the stores), so the places of one sort share a lemma.
use Rattle.std.proofs.Common.{◌≡◌, ℕ, ◌+◌, true, false, cond, List, [], ◌∷◌, Option, Some, None, refl, ap, eqb}
use Rattle.std.specs.Prelude.{nat_le}
use Rattle.vlock_word.specs.declared.lock_word.LockWord.{LockWord}
use Rattle.vlock_word.specs.declared.lock_word.LockWord.TheVariants.{Free, Locked}
use Rattle.vlock_word.specs.LockWord.{bits}
use Rattle.tx_sets.specs.Entries.{Entries, lookup, locations}
use Rattle.tx_machine.specs.Actor as machine
use Rattle.tx_machine.specs.Actor.{Place, Actor, goes}
use Rattle.tx_machine.specs.World as world
use Rattle.tx_machine.specs.World.{World, plan, step_end}
use Rattle.tx_machine.specs.Notices as told
use Rattle.tx_machine.specs.Notices.{notice, look_notice, again_notice, lock_notice, take_notice, check_notice, when_none_left}
use Rattle.tx_machine.specs.Notices.{last_notice}
use Rattle.tx_machine.proofs.Invariant.{IsSomeEntry}
use Rattle.tx_machine.specs.Boosted.{Boosted, shadows_after, is_committing}
use Rattle.replay_log.proofs.ActionLemmas.{exchanges, learns}
use Rattle.replay_log.proofs.SeatLemmas.{AtReading, AtLocking, AtStoring, CanLeave}

-- a step that begins and ends no transaction
abbrev pub IsQuiet : Place → Type 0
IsQuiet machine.Begin = ⊥
IsQuiet machine.First = ⊥
IsQuiet machine.Leave = ⊥
IsQuiet machine.Close = ⊥
IsQuiet p = Unit {0}

pub quiet_outcome : (a : ℕ) (y : Actor) (p : Place) → IsQuiet p → step_end a y p ≡ world.GoesOn
quiet_outcome a y machine.Begin h = absurd h
quiet_outcome a y machine.First h = absurd h
quiet_outcome a y machine.Leave h = absurd h
quiet_outcome a y machine.Close h = absurd h
quiet_outcome a y p h = refl

pub quiet_shadows : {X Out : Type 0} → (s : Boosted X Out) (a : ℕ) (p : Place) → IsQuiet p → shadows_after s a p ≡ s.shadows
quiet_shadows s a machine.Begin h = absurd h
quiet_shadows s a p h = refl

pub reading_quiet : (l : ℕ) (p : Place) → AtReading l p → IsQuiet p
reading_quiet l (machine.Look k) h = tt
reading_quiet l (machine.Fetch k j) h = tt
reading_quiet l (machine.Again k j v) h = tt
reading_quiet l p h = absurd h

pub locking_quiet : (p : Place) → AtLocking p → IsQuiet p
locking_quiet (machine.Lock ls) h = tt
locking_quiet (machine.Take l k ls) h = tt
locking_quiet (machine.Check (l ∷ ls)) h = tt
locking_quiet p h = absurd h

pub storing_quiet : (p : Place) → AtStoring p → IsQuiet p
storing_quiet (machine.Store (l ∷ ls)) h = tt
storing_quiet p h = absurd h

pub leaving_rests : (p : Place) → CanLeave p → is_committing p ≡ false
leaving_rests machine.First h = absurd h
leaving_rests (machine.Store ls) h = absurd h
leaving_rests machine.Release h = absurd h
leaving_rests p h = refl

-- the same transaction
pub record SameTx (y z : Actor) : Type 0 where
  pub declared : z.declared ≡ y.declared
  pub rv : z.rv ≡ y.rv
  pub reads : z.reads ≡ y.reads
  pub writes : z.writes ≡ y.writes
  pub calls : z.calls ≡ y.calls

pub same_tx : (y : Actor) (p : Place) → SameTx y (goes y p)
same_tx y p = record { declared = refl; rv = refl; reads = refl; writes = refl; calls = refl }

-- ---- reads
abbrev pub AfterRead : ℕ → Actor → Actor → told.Notice → Type 0
AfterRead l y z told.Quiet = AtReading l z.place × SameTx y z
AfterRead l y z (told.Number v) = z ≡ machine.has_read y l v
AfterRead l y z (told.Moved i w) = z ≡ goes y machine.Undo
AfterRead l y z n = ⊥

look_after : (l k : ℕ) (y : Actor) (found : LockWord) → k ≡ l → AfterRead l y (machine.seen y k found) (look_notice y.rv k found)
look_after l k y (Free j) e =
    elim (nat_le j y.rv) as (λ b. AfterRead l y (cond b (goes y (machine.Fetch k j)) (goes y machine.Undo))
    (cond b told.Quiet (told.Moved k (bits (Free j))))) [
      | true ↦ (e, same_tx y (machine.Fetch k j))
      | false ↦ refl
    ]
look_after l k y (Locked j) e = refl

again_after : (l k i v : ℕ) (y : Actor) (found : LockWord) → k ≡ l → AfterRead l y (machine.seen_again y k i v found)
    (again_notice k i v found)
again_after l k i v y (Free j) e =
    elim (eqb j i) as (λ b. AfterRead l y (cond b (machine.has_read y k v) (goes y machine.Undo))
    (cond b (told.Number v) (told.Moved k (bits (Free j))))) [
      | true ↦ ap (λ m. machine.has_read y m v) e
      | false ↦ refl
    ]
again_after l k i v y (Locked j) e = refl

pub read_after : (s : World) (y : Actor) (l : ℕ) (p : Place) → AtReading l p → AfterRead l y (learns s y (plan y p)) (notice s y p)
read_after s y l (machine.Look k) h = look_after l k y (s.locks k) h
read_after s y l (machine.Fetch k j) h = (h, same_tx y (machine.Again k j (s.values k)))
read_after s y l (machine.Again k j v) h = again_after l k j v y (s.locks k) h
read_after s y l p h = absurd h

-- ---- locks
abbrev pub AfterLock : Actor → Actor → told.Notice → Type 0
AfterLock y z told.Quiet = AtLocking z.place × SameTx y z
AfterLock y z (told.LockedAt wv) = (z.place ≡ machine.Check []) × (wv ≡ z.wv) × SameTx y z
AfterLock y z (told.Busy l w) = z ≡ goes y machine.Broken
AfterLock y z (told.Invalid l w) = z ≡ goes y machine.Broken
AfterLock y z n = ⊥

stamped_after : (y : Actor) (number : ℕ) (ls : List ℕ) → AfterLock y (record y { place = machine.Check ls; wv = number })
    (when_none_left ls (told.LockedAt number))
stamped_after y number [] = (refl, refl, record { declared = refl; rv = refl; reads = refl; writes = refl; calls = refl })
stamped_after y number (l ∷ ls) = (tt, record { declared = refl; rv = refl; reads = refl; writes = refl; calls = refl })

to_lock_after : (y : Actor) (l : ℕ) (ls : List ℕ) (found : LockWord) → AfterLock y (machine.seen_to_lock y l ls found) (lock_notice l found)
to_lock_after y l ls (Free k) = (tt, same_tx y (machine.Take l k ls))
to_lock_after y l ls (Locked k) = refl

take_after : (y : Actor) (l k : ℕ) (ls : List ℕ) (found : LockWord)
    → AfterLock y (exchanges k (machine.taken y l k ls) (goes y machine.Broken) found)
    (take_notice l k found)
take_after y l k ls (Free j) =
    elim (eqb j k) as (λ b. AfterLock y (cond b (machine.taken y l k ls) (goes y machine.Broken))
    (cond b told.Quiet (told.Busy l (bits (Free j))))) [
      | true ↦ (tt, record { declared = refl; rv = refl; reads = refl; writes = refl; calls = refl })
      | false ↦ refl
    ]
take_after y l k ls (Locked j) = refl

passed_after : (y : Actor) (ls : List ℕ) → AfterLock y (goes y (machine.Check ls)) (when_none_left ls (told.LockedAt y.wv))
passed_after y [] = (refl, refl, same_tx y (machine.Check []))
passed_after y (l ∷ ls) = (tt, same_tx y (machine.Check (l ∷ ls)))

check_after : (y : Actor) (l : ℕ) (ls : List ℕ) (found : LockWord) (own : Option ℕ)
    → AfterLock y (machine.seen_in_check y ls found own) (check_notice y.rv y.wv l ls found own)
check_after y l ls (Free k) own =
    elim (nat_le k y.rv) as (λ b. AfterLock y (cond b (goes y (machine.Check ls)) (goes y machine.Broken))
    (cond b (when_none_left ls (told.LockedAt y.wv)) (told.Invalid l (bits (Free k))))) [
      | true ↦ passed_after y ls
      | false ↦ refl
    ]
check_after y l ls (Locked k) (Some value) =
    elim (nat_le k y.rv) as (λ b. AfterLock y (cond b (goes y (machine.Check ls)) (goes y machine.Broken))
    (cond b (when_none_left ls (told.LockedAt y.wv)) (told.Invalid l (bits (Locked k))))) [
      | true ↦ passed_after y ls
      | false ↦ refl
    ]
check_after y l ls (Locked k) None = refl

pub lock_after : (s : World) (y : Actor) (p : Place) → AtLocking p → AfterLock y (learns s y (plan y p)) (notice s y p)
lock_after s y (machine.Lock []) h = stamped_after y (s.clock + 1) (machine.to_check y (s.clock + 1))
lock_after s y (machine.Lock (l ∷ ls)) h = to_lock_after y l ls (s.locks l)
lock_after s y (machine.Take l k ls) h = take_after y l k ls (s.locks l)
lock_after s y (machine.Check (l ∷ ls)) h = check_after y l ls (s.locks l) (lookup y.writes l)
lock_after s y p h = absurd h

-- ---- stores, releases, locks given back
abbrev pub AfterStore : Actor → Actor → told.Notice → Type 0
AfterStore y z told.Quiet = AtStoring z.place × (z.wv ≡ y.wv)
AfterStore y z told.Stored = (z.place ≡ machine.Store []) × (z.wv ≡ y.wv)
AfterStore y z n = ⊥

pub store_after : (s : World) (y : Actor) (p : Place) → AtStoring p → AfterStore y (learns s y (plan y p)) (notice s y p)
store_after s y (machine.Store (l ∷ [])) h = (refl, refl)
store_after s y (machine.Store (l ∷ (k ∷ ls))) h = (tt, refl)
store_after s y p h = absurd h

pub first_after : (s : World) (y : Actor) (d : ℕ × ℕ) (es : Entries) → AfterStore y (learns s y (world.first_store y (d ∷ es)))
    (last_notice (d ∷ es) told.Stored)
unfolding locations
first_after s y d [] = (refl, refl)
first_after s y d (e ∷ es) = (tt, refl)

abbrev pub AfterRelease : Actor → Actor → told.Notice → Type 0
AfterRelease y z told.Quiet = (z.place ≡ machine.Release) × (z.wv ≡ y.wv)
AfterRelease y z told.Released = z.place ≡ machine.Idle
AfterRelease y z n = ⊥

pub release_after : (s : World) (y : Actor) (h : Entries) → IsSomeEntry h → AfterRelease y (learns s y (world.release y h))
    (last_notice h told.Released)
release_after s y [] some = absurd some
release_after s y (d ∷ []) some = refl
release_after s y (d ∷ (e ∷ es)) some = (refl, refl)

abbrev pub AfterUndo : Actor → Actor → told.Notice → Type 0
AfterUndo y z told.Quiet = (z.place ≡ machine.Undo) × IsSomeEntry z.held × SameTx y z
AfterUndo y z told.Cancelled = (z.place ≡ machine.Undo) × (z.held ≡ []) × SameTx y z
AfterUndo y z n = ⊥

pub undo_after : (s : World) (y : Actor) (h : Entries) → IsSomeEntry h → AfterUndo y (learns s y (world.undo y h))
    (last_notice h told.Cancelled)
undo_after s y [] some = absurd some
undo_after s y (d ∷ []) some = (refl, refl, record { declared = refl; rv = refl; reads = refl; writes = refl; calls = refl })
undo_after s y (d ∷ (e ∷ es)) some = (refl, tt, record { declared = refl; rv = refl; reads = refl; writes = refl; calls = refl })
