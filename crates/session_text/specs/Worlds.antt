-- What events of a script's world answer, and what they make of its parts.
use Rattle.std.specs.Prelude.{◌≡◌, ℕ, List, [], ◌∷◌, length}
use Rattle.seq_model.specs.declared.event.Event.{Event}
use Rattle.seq_model.specs.declared.event.Notice.{Notice}
use Rattle.seq_model.specs.Contents.{Contents}
use Rattle.replay_log.specs.Worlds.{World}
use Rattle.step_world.specs.Feeds.{fed, fed_all}
use Rattle.step_world.specs.Parts.{IsWorld}
use Rattle.step_world.specs.declared.parts.Parts.{Parts}
use Rattle.step_world.specs.Reached.{IsReached}

-- what each of the events answers
abbrev pub told_by : World ℕ → List (Event ℕ) → List (Notice ℕ)
told_by w [] = []
told_by w (e ∷ es) = (fed w e).1 ∷ told_by (fed w e).0 es

-- In every world that events have reached and of which c are the parts, d are the parts of what these events leave, and this is what they
-- answer.
pub record Leads (c : Parts ℕ) (es : List (Event ℕ)) (ns : List (Notice ℕ)) (d : Parts ℕ) : Type 0 where
  pub paired : length ns ≡ length es
  pub parts : (opening : Contents ℕ) (w : World ℕ) → IsReached opening w → IsWorld c w → IsWorld d (fed_all w es)
  pub told : (opening : Contents ℕ) (w : World ℕ) → IsReached opening w → IsWorld c w → ns ≡ told_by w es
