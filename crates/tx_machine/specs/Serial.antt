-- What is promised of a world with collections.
use Rattle.std.specs.Prelude.{◌≡◌, ◌⊎◌, ◌+◌, ℕ, Bool, true, false, List, [], ◌∷◌, nat_le, if◌then◌else◌}
use Rattle.tx_machine.specs.World.{Memory, Record, Ended}
use Rattle.tx_machine.specs.Content.{Content, IsIn, has}
use Rattle.tx_machine.specs.Boosted.{Committed, Aborted, Boosted, Action, changes, act_all, opens}

abbrev pub AllAborted : {Out : Type 0} → (Aborted Out → Type 0) → List (Aborted Out) → Type 0
AllAborted P [] = Unit {0}
AllAborted P (e ∷ es) = P e × AllAborted P es

-- the records of the words
abbrev pub words : {Out : Type 0} → List (Committed Out) → List Record
words [] = []
words (r ∷ rs) = r.word ∷ words rs

-- the words of aborted transactions
abbrev pub ended : {Out : Type 0} → List (Aborted Out) → List Ended
ended [] = []
ended (e ∷ es) = e.word ∷ ended es

module _ {X Op Out : Type 0} (c : Content X Op Out) where
  -- each outcome is the one that its call has there
  abbrev pub AreLegal : (ℕ → X) → List Out → Type 0
  AreLegal v [] = Unit {0}
  AreLegal v (o ∷ os) = (c.outcome v (c.op_of o) ≡ o) × AreLegal (c.change o v) os

  -- one whole transaction after another
  abbrev pub AreRun : (ℕ → X) → List (Committed Out) → Type 0
  AreRun v [] = Unit {0}
  AreRun v (r ∷ rs) = AreLegal v r.outcomes × AreRun (changes c r.outcomes v) rs

  -- the parts after the commits with a number of at most n
  abbrev pub view : List (Committed Out) → ℕ → (ℕ → X) → ℕ → X
  view [] n v = v
  view (r ∷ rs) n v = view rs n (if nat_le r.word.number n then changes c r.outcomes v else v)

  -- the parts after all commits
  abbrev pub views : List (Committed Out) → (ℕ → X) → ℕ → X
  views [] v = v
  views (r ∷ rs) v = views rs (changes c r.outcomes v)

  -- an outcome of these reads l
  abbrev pub IsRead : ℕ → List Out → Type 0
  IsRead l [] = ⊥
  IsRead l (o ∷ os) = IsIn l (c.reads o) ⊎ IsRead l os

  abbrev pub IsWritten : ℕ → List Out → Type 0
  IsWritten l [] = ⊥
  IsWritten l (o ∷ os) = IsIn l (c.writes o) ⊎ IsWritten l os

  -- whether an outcome of these writes l
  abbrev pub does_write : ℕ → List Out → Bool
  does_write l [] = false
  does_write l (o ∷ os) = if has (c.writes o) l then true else does_write l os

  -- how many commits with a number of at most n write l
  abbrev pub edition_at : List (Committed Out) → ℕ → ℕ → ℕ
  edition_at [] n l = 0
  edition_at (r ∷ rs) n l = (if does_write l r.outcomes then (if nat_le r.word.number n then 1 else 0) else 0) + edition_at rs n l

  -- the world after these actions, from an opening
  abbrev pub after_actions : ℕ → Memory → (ℕ → X) → List (Action Op) → Boosted X Out
  after_actions clock memory parts actions = act_all c actions (opens clock memory parts)
