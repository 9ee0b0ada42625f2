-- Serial order of a world of words and collections: what is promised of its records, of what it holds, and of its open and aborted
-- transactions.
use Rattle.std.specs.Prelude.{◌≡◌, ◌⊎◌, ℕ, ◌<◌, ◌≤◌, Bool, true, false, List, [], ◌∷◌, length, get_or, ⊤}
use Rattle.seq_model.specs.declared.record.Record.{Record}
use Rattle.seq_model.specs.Contents.{Contents}
use Rattle.seq_model.specs.Runs.{IsLegal, IsInCommitOrder, IsRun, after_run, state_at}
use Rattle.tx_machine.specs.Content.{has}
use Rattle.replay_log.specs.Contents.{is_plain}
use Rattle.replay_log.specs.Collections.{Suit, shown_at}
use Rattle.replay_log.specs.Worlds.{World, Seat, Stage, Idle, Beginning, Ready, Storing, Homing, Releasing, Closing, Ended, is_half_done}

abbrev pub AreAbove : ℕ → List ℕ → Type 0
AreAbove n [] = ⊤
AreAbove n (m ∷ ms) = (n < m) × AreAbove n ms

-- each number is above those before it
abbrev pub AreRising : List ℕ → Type 0
AreRising [] = ⊤
AreRising (n ∷ ns) = AreAbove n ns × AreRising ns

module _ {V : Type 0} where
  -- the words and collections of w are those of the state
  pub record Holds (w : World V) (s : Contents V) : Type 0 where
    pub count : length s.words ≡ w.words
    pub words : (l : ℕ) → l < w.words → w.boosted.words.values l ≡ get_or s.words l 0
    pub suit : Suit w.blocks s.held
    pub held : (l : ℕ) → is_plain w.words w.blocks l ≡ false → w.boosted.parts l ≡ shown_at w.words w.blocks s.held l

  -- a transaction that is neither committed nor ended got the replies of the state at the number that it began with
  abbrev pub SawAt : Contents V → List (ℕ × Record V) → Seat V → Stage V → Type 0
  SawAt opening records x Idle = ⊤
  SawAt opening records x Beginning = ⊤
  SawAt opening records x (Storing ks) = ⊤
  SawAt opening records x (Homing ks) = ⊤
  SawAt opening records x Releasing = ⊤
  SawAt opening records x stage = IsLegal x.calls (state_at x.rv records opening)

  -- so did the aborted ones
  abbrev pub AllSaw : Contents V → List (ℕ × Record V) → List (Ended V) → Type 0
  AllSaw opening records [] = ⊤
  AllSaw opening records (e ∷ es) = IsLegal e.calls (state_at e.rv records opening) × AllSaw opening records es

  -- a writer was committed with this number
  abbrev pub HasWritten : ℕ → List (ℕ × Record V) → Type 0
  HasWritten n [] = ⊥
  HasWritten n (r ∷ rs) = ((r.1.number ≡ n) × (r.1.writes ≡ true)) ⊎ HasWritten n rs

  -- these are the numbers of the half-done commits, each once, and each is a record's of a writer
  pub record AreHalfDone (w : World V) (ns : List ℕ) : Type 0 where
    pub rising : AreRising ns
    pub written : (n : ℕ) → has ns n ≡ true → HasWritten n w.records
    pub theirs : (n : ℕ) → has ns n ≡ true → (a : ℕ) × (is_half_done (w.seats a).stage ≡ true) × ((w.seats a).wv ≡ n)
    pub all : (a : ℕ) → is_half_done (w.seats a).stage ≡ true → has ns (w.seats a).wv ≡ true

  -- a step at this stage commits
  abbrev pub commits_at : Stage V → Bool
  commits_at (Ready ks) = true
  commits_at Closing = true
  commits_at stage = false

  -- no number is above n
  abbrev pub AreUpTo : ℕ → List (ℕ × Record V) → Type 0
  AreUpTo n [] = ⊤
  AreUpTo n (r ∷ rs) = (r.1.number ≤ n) × AreUpTo n rs

  pub record IsSerial (opening : Contents V) (w : World V) : Type 0 where
    -- records in commit order, where no two writers share a number
    pub ordered : IsInCommitOrder w.records
    -- each call of each record has the reply of the sequential call, one whole transaction after another
    pub run : IsRun w.records opening
    pub left : ((a : ℕ) → is_half_done (w.seats a).stage ≡ false) → Holds w (after_run w.records opening)
    pub open_saw : (a : ℕ) → SawAt opening w.records (w.seats a) (w.seats a).stage
    pub aborted_saw : AllSaw opening w.records w.aborted
    -- a half-done commit is recorded
    pub half : (a : ℕ) → is_half_done (w.seats a).stage ≡ true → HasWritten (w.seats a).wv w.records
