-- The worlds that events lead to from an opening.
use Rattle.std.specs.Prelude.{◌≡◌, ℕ, List}
use Rattle.seq_model.specs.declared.event.Event.{Event}
use Rattle.seq_model.specs.Contents.{Contents}
use Rattle.replay_log.specs.Collections.{Suit}
use Rattle.replay_log.specs.Contents.{Block, HaveStripes}
use Rattle.replay_log.specs.Worlds.{World, opened, run}

-- Some events led to w from a world that opened on these contents.
pub record IsReached {V : Type 0} (opening : Contents V) (w : World V) : Type 0 where
  pub blocks : List Block
  pub clock : ℕ
  pub events : List (Event V)
  pub stripes : HaveStripes blocks
  pub suits : Suit blocks opening.held
  pub world : run (opened blocks clock opening.words opening.held) events ≡ w
