-- What the steps answer.
use Rattle.std.specs.Prelude.{ℕ, ◌+◌, Bool, true, false, Option, Some, None, List, [], ◌∷◌, ◌==◌, nat_le, nat_lt, if◌then◌else◌}
use Rattle.vlock_word.specs.declared.lock_word.LockWord.{LockWord}
use Rattle.vlock_word.specs.declared.lock_word.LockWord.TheVariants.{Free, Locked}
use Rattle.vlock_word.specs.LockWord.{bits}
use Rattle.tx_sets.specs.Entries.{Entries, lookup}
use Rattle.tx_machine.specs.Actor.{Place, Idle, Begin, Open, Look, Fetch, Again, Lock, Take, Check, Broken, First, Store, Release, Undo}
use Rattle.tx_machine.specs.Actor.{Leave, Close, Actor, clock_limit, to_check}
use Rattle.tx_machine.specs.Requests.{Request, AskRead, AskWrite, AskCancel, AskAbort}
use Rattle.tx_machine.specs.World.{World}

-- What a step answers to its request. A refusal carries the location and the word that the step found.
pub data Notice : Type 0 where
  Quiet NoTransaction : Notice
  Begun : (rv : ℕ) → Notice
  Number : (value : ℕ) → Notice
  LockedAt : (wv : ℕ) → Notice
  Written Stored Released Cancelled Closed : Notice
  Moved Busy Invalid : (location word : ℕ) → Notice
  Exhausted : (clock : ℕ) → Notice

-- a refusal that another transaction is the cause of
abbrev pub IsConflict : Notice → Type 0
IsConflict (Moved l w) = Unit {0}
IsConflict (Busy l w) = Unit {0}
IsConflict (Invalid l w) = Unit {0}
IsConflict n = ⊥

-- no transaction begins at the limit of the clock
abbrev pub begin_notice : ℕ → Notice
begin_notice clock = if nat_lt clock clock_limit then Begun clock else Exhausted clock

-- a read is moved by a word that is locked or newer than its transaction
abbrev pub look_notice : ℕ → ℕ → LockWord → Notice
look_notice rv l (Free k) = if nat_le k rv then Quiet else Moved l (bits (Free k))
look_notice rv l (Locked k) = Moved l (bits (Locked k))

-- and by one that differs from the first load
abbrev pub again_notice : ℕ → ℕ → ℕ → LockWord → Notice
again_notice l k v (Free j) = if j == k then Number v else Moved l (bits (Free j))
again_notice l k v (Locked j) = Moved l (bits (Locked j))

-- a lock is busy where it is taken
abbrev pub lock_notice : ℕ → LockWord → Notice
lock_notice l (Free k) = Quiet
lock_notice l (Locked k) = Busy l (bits (Locked k))

-- and where it has changed since
abbrev pub take_notice : ℕ → ℕ → LockWord → Notice
take_notice l k (Free j) = if j == k then Quiet else Busy l (bits (Free j))
take_notice l k (Locked j) = Busy l (bits (Locked j))

-- the answer, where nothing is left
abbrev pub when_none_left : {A : Type 0} → List A → Notice → Notice
when_none_left [] n = n
when_none_left (x ∷ xs) n = Quiet

-- the check fails at a word that is newer than its transaction, or locked by another
abbrev pub check_notice : ℕ → ℕ → ℕ → List ℕ → LockWord → Option ℕ → Notice
check_notice rv wv l ls (Free k) own = if nat_le k rv then when_none_left ls (LockedAt wv) else Invalid l (bits (Free k))
check_notice rv wv l ls (Locked k) (Some value) = if nat_le k rv then when_none_left ls (LockedAt wv) else Invalid l (bits (Locked k))
check_notice rv wv l ls (Locked k) None = Invalid l (bits (Locked k))

-- the answer of the step that takes the first of these entries, where it is the last
abbrev pub last_notice : Entries → Notice → Notice
last_notice [] n = NoTransaction
last_notice (e ∷ es) n = when_none_left es n

-- what a request answers without a step, Quiet where it takes steps: a read of a word in a set
abbrev pub read_reply : Option ℕ → Option ℕ → Notice
read_reply (Some v) seen = Number v
read_reply None (Some v) = Number v
read_reply None None = Quiet

-- a write, which a declared reader lacks
abbrev pub write_reply : Bool → Notice
write_reply true = Quiet
write_reply false = Written

-- and a cancel with no lock taken, and an abort in place of a begin
abbrev pub reply : Actor → Place → Request → Notice
reply x Open (AskRead l) = read_reply (lookup x.writes l) (lookup x.reads l)
reply x Open (AskWrite l v) = write_reply x.declared
reply x Begin AskAbort = Closed
reply x (Lock ls) AskCancel = when_none_left x.held Cancelled
reply x (Take l k ls) AskCancel = when_none_left x.held Cancelled
reply x (Check ls) AskCancel = when_none_left x.held Cancelled
reply x Broken AskCancel = when_none_left x.held Cancelled
reply x p request = Quiet

-- what the next step of an actor answers
abbrev pub notice : World → Actor → Place → Notice
notice s x Idle = NoTransaction
notice s x Begin = begin_notice s.clock
notice s x Open = NoTransaction
notice s x (Look l) = look_notice x.rv l (s.locks l)
notice s x (Fetch l k) = Quiet
notice s x (Again l k v) = again_notice l k v (s.locks l)
notice s x (Lock []) = when_none_left (to_check x (s.clock + 1)) (LockedAt (s.clock + 1))
notice s x (Lock (l ∷ ls)) = lock_notice l (s.locks l)
notice s x (Take l k ls) = take_notice l k (s.locks l)
notice s x (Check []) = NoTransaction
notice s x (Check (l ∷ ls)) = check_notice x.rv x.wv l ls (s.locks l) (lookup x.writes l)
notice s x Broken = NoTransaction
notice s x First = last_notice x.writes Stored
notice s x (Store []) = NoTransaction
notice s x (Store (l ∷ ls)) = when_none_left ls Stored
notice s x Release = last_notice x.held Released
notice s x Undo = last_notice x.held Cancelled
notice s x Leave = Closed
notice s x Close = Closed
