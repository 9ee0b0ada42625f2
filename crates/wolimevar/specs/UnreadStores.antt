-- What contracts see of a store that has ended, and whose contents were not read.
use Rattle.std.specs.Prelude.{◌≡◌, ◌≤◌, ℕ, All, length}
use Rattle.actor_parts.specs.declared.blocks.TheConstants.{COLLECTION_LIMIT}
use Rattle.seq_model.specs.Calls.{IsWithinLimits}
use Rattle.seq_model.specs.Contents.{Contents}
use Rattle.shared_table.specs.declared.closed.Closed.{Closed}
use Rattle.shared_table.specs.Ends.{held_in, homes_of}
use Rattle.tx_engine.specs.Closing.{state_of}

module _ (V : Type 0) where
  -- its number, and what it held
  pub record UnreadShown : Type 0 where
    pub number : ℕ
    pub state : Contents V

module _ {V : Type 0} where
  abbrev pub unread_at : ℕ → Closed V → UnreadShown V
  unread_at n c = record { number = n; state = state_of c }

  -- it has so many words, and what it held can be copied into a state
  pub record IsUnread (words : ℕ) (c : Closed V) : Type 0 where
    pub words_are : words ≡ c.words
    pub few : length (homes_of c) ≤ COLLECTION_LIMIT
    pub within : All IsWithinLimits (held_in c)
