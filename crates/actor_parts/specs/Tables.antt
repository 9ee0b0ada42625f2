-- The words, the gates and the bases of a world as a running table has them.
use Rattle.std.specs.Prelude.{◌≡◌, ℕ, zero, suc, ◌<◌, Option, Some, None, length, get_or, slice_get}
use Rattle.step_core.specs.CellSteps.{AreCells}
use Rattle.replay_log.specs.declared.base.Base.{Base}
use Rattle.replay_log.specs.Seats.{World}
use Rattle.actor_laws.specs.Bases.{ShowsBase}
use Rattle.actor_parts.specs.declared.table.Table.{Table}

-- who holds a gate, by its number: nobody at 0
abbrev pub holder : ℕ → Option ℕ
holder zero = None
holder (suc a) = Some (suc a)

module _ {V : Type 0} where
  -- The table is that of the world w: its words, the gates of its collections, and a base that shows each.
  pub record HasTable (t : Table V) (w : World V) : Type 0 where
    pub cells : AreCells t.cells w.boosted.words
    pub gates : (k : ℕ) → k < length t.gates.items → w.boosted.gates k ≡ holder (get_or t.gates.items k 0)
    pub bases : (k : ℕ) (base : Base V) → slice_get t.bases.items k ≡ Some base → ShowsBase w.words w.blocks w k base
