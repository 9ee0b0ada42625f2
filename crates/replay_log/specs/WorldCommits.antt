-- Commits in a world: locks, stamp and check; the gates of the written collections; the values; the bases put back; the releases.
use Rattle.std.specs.Prelude.{ℕ, Bool, true, not, if◌then◌else◌, List, [], ◌∷◌, filter}
use Rattle.tx_sets.specs.Entries.{Entries, locations}
use Rattle.tx_machine.specs.Requests as word
use Rattle.tx_machine.specs.Notices as told
use Rattle.seq_model.specs.declared.record.Record.{Record}
use Rattle.seq_model.specs.declared.refusal.Refusal.TheVariants as refusal
use Rattle.seq_model.specs.declared.event.Answer.TheVariants as answer
use Rattle.seq_model.specs.declared.event.Notice.TheVariants.{Quiet, Answered}
use Rattle.seq_model.specs.Runs.{insert_record}
use Rattle.tx_machine.specs.Content.{has}
use Rattle.replay_log.specs.Contents.{home_of, is_plain}
use Rattle.replay_log.specs.Seats.{Stage, Locking, Releasing, Closing, Gating, Ready, Storing, Homing, Seat, World, After, no_one, at_stage}
use Rattle.replay_log.specs.Seats.{because, seated, acted, asks, moves, actor_of, word_notice}
use Rattle.replay_log.specs.WorldEnds.{gives_up}
use Rattle.replay_log.specs.WorldCalls.{more_tries}

-- each number once
abbrev pub with_new : ℕ → List ℕ → List ℕ
with_new x xs = if has xs x then xs else x ∷ xs

abbrev pub distinct : List ℕ → List ℕ
distinct [] = []
distinct (x ∷ xs) = with_new x (distinct xs)

abbrev pub all_of : (ℕ → ℕ) → List ℕ → List ℕ
all_of f [] = []
all_of f (l ∷ ls) = f l ∷ all_of f ls

module _ {V : Type 0} where
  -- a transaction is a writer if its write set is not empty
  abbrev pub commits : World V → ℕ → Seat V → Entries → After V
  commits w a x [] = (seated (acted w (asks a word.AskClose ∷ [])) a (at_stage x Closing), Quiet)
  commits w a x (e ∷ es) = (seated (acted w (asks a word.AskLock ∷ [])) a (at_stage x Locking), Quiet)

  abbrev pub recorded : World V → ℕ → Seat V → Bool → ℕ → World V
  recorded w a x writes number =
      let own : Record V = record { number = number; writes = writes; calls = x.calls } in
      record w { records = insert_record (a, own) w.records }

  -- the collections with a written location, rising
  abbrev pub written_homes : World V → ℕ → List ℕ
  written_homes w a =
      let written = filter (λ l. not (is_plain w.words w.blocks l)) (locations (actor_of w a).writes) in
      distinct (all_of (home_of w.words w.blocks) written)

  abbrev pub takes_gates : List ℕ → List ℕ → Stage V
  takes_gates got [] = Ready got
  takes_gates got (k ∷ ks) = Gating got (k ∷ ks) more_tries

  abbrev pub has_locked : World V → ℕ → Seat V → told.Notice → After V
  has_locked w a x (told.LockedAt wv) = (seated w a (record x { stage = takes_gates [] (written_homes w a); wv = wv }), Quiet)
  has_locked w a x (told.Busy l word) = gives_up w a (because x (refusal.Busy l word)) []
  has_locked w a x (told.Invalid l word) = gives_up w a (because x (refusal.Invalid l word)) []
  has_locked w a x n = (w, Quiet)

  -- the bases are put back one after another, and then the locks are released
  abbrev pub goes_home : World V → ℕ → Seat V → List ℕ → After V
  goes_home w a x [] = (seated (acted w (asks a word.AskRelease ∷ [])) a (at_stage x Releasing), Quiet)
  goes_home w a x (k ∷ ks) = (seated w a (at_stage x (Homing (k ∷ ks))), Quiet)

  abbrev pub has_stored : World V → ℕ → Seat V → List ℕ → told.Notice → After V
  has_stored w a x ks told.Stored = goes_home w a x ks
  has_stored w a x ks n = (seated w a (at_stage x (Storing ks)), Quiet)

  abbrev pub has_released : World V → ℕ → Seat V → told.Notice → After V
  has_released w a x told.Released = (seated w a no_one, Answered a (answer.Committed x.wv))
  has_released w a x n = (w, Quiet)

  abbrev pub stores : World V → ℕ → Seat V → List ℕ → After V
  stores w a x ks =
      let ready = acted w (asks a word.AskStore ∷ []) in
      has_stored (recorded (acted ready (moves a ∷ [])) a x true x.wv) a x ks (word_notice ready a)
