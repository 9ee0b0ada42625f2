-- The world after each kind of step, by the word that it found.
use Rattle.std.specs.Prelude.{unwrap_or}
use Rattle.std.proofs.Common.{ℕ, ◌+◌, true, false, Option, List, [], ◌∷◌, ◌++◌}
use Rattle.vlock_word.specs.declared.lock_word.LockWord.{LockWord}
use Rattle.vlock_word.specs.declared.lock_word.LockWord.TheVariants.{Locked}
use Rattle.tx_sets.specs.Entries.{Entries, lookup}
use Rattle.tx_machine.specs.Actor.{Place, Idle, Broken, Store, Actor, goes, seen, seen_again, seen_to_lock, taken, stamped_at}
use Rattle.tx_machine.specs.Actor.{seen_in_check, freed}
use Rattle.tx_machine.specs.World.{Memory, put, World, insert, now, does, noted, exchanged, first_store, release, undo, StoreValue}
use Rattle.tx_machine.specs.World.{StoreLock, first_step_end}

abbrev pub looked : World → ℕ → Actor → ℕ → LockWord → World
looked s a x l w = now s a (seen x l w)

abbrev pub looked_again : World → ℕ → Actor → ℕ → ℕ → ℕ → LockWord → World
looked_again s a x l k v w = now s a (seen_again x l k v w)

abbrev pub to_lock : World → ℕ → Actor → ℕ → List ℕ → LockWord → World
to_lock s a x l ls w = now s a (seen_to_lock x l ls w)

abbrev pub locked : World → ℕ → Actor → ℕ → ℕ → List ℕ → World
locked s a x l k ls = record (now s a (taken x l k ls)) { locks = put s.locks l (Locked k) }

abbrev pub tried : World → ℕ → Actor → ℕ → ℕ → List ℕ → LockWord → World
tried s a x l k ls w = exchanged s a l k (taken x l k ls) (goes x Broken) w

abbrev pub stamped : World → ℕ → Actor → World
stamped s a x = record (now s a (stamped_at x (s.clock + 1))) { clock = s.clock + 1 }

abbrev pub checked : World → ℕ → Actor → ℕ → List ℕ → LockWord → Option ℕ → World
checked s a x l ls w own = now s a (seen_in_check x ls w own)

abbrev pub commits : World → ℕ → Actor → Memory → List ℕ → World
commits s a x values ls =
    record (now s a (goes x (Store ls))) {
      values = values;
      history = insert (record { actor = a; number = x.wv; writer = true; calls = x.calls }) s.history;
    }

abbrev pub first : World → ℕ → Actor → Entries → World
first s a x w = noted (does s a (first_store x w)) (first_step_end a x w)

abbrev pub stored : World → ℕ → Actor → ℕ → List ℕ → World
stored s a x l ls = does s a (StoreValue l (unwrap_or (lookup x.writes l) 0) (goes x (Store ls)))

abbrev pub gives_back : World → ℕ → Actor → ℕ → LockWord → Entries → Place → World
gives_back s a x l word rest p = does s a (StoreLock l word (freed x rest p))

abbrev pub released : World → ℕ → Actor → Entries → World
released s a x h = does s a (release x h)

abbrev pub undone : World → ℕ → Actor → Entries → World
undone s a x h = does s a (undo x h)

abbrev pub left : World → ℕ → Actor → World
left s a x = record (now s a (goes x Idle)) { aborted = s.aborted ++ record { actor = a; rv = x.rv; calls = x.calls } ∷ [] }

abbrev pub closed : World → ℕ → Actor → World
closed s a x =
    record (now s a (goes x Idle)) { history = insert (record { actor = a; number = x.rv; writer = false; calls = x.calls }) s.history }
