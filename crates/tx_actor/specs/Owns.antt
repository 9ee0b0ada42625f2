-- What a running actor has of all collections is its own in a world.
use Rattle.std.specs.Prelude.{ℕ}
use Rattle.replay_log.specs.Contents.{HaveStripes}
use Rattle.replay_log.specs.Worlds.{World}
use Rattle.tx_actor.specs.declared.actor.TxActor.{TxActor}
use Rattle.actor_parts.specs.CopyList.{copy_of}
use Rattle.actor_parts.specs.Owns.{AreOnce, IsOwn}

-- What r has of all collections is what a has of them in w.
pub record OwnsCopies {V : Type 0} (r : TxActor V) (w : World V) (a : ℕ) : Type 0 where
  pub stripes : HaveStripes w.blocks
  pub own : (k : ℕ) → IsOwn w a k (copy_of r.copies.items k)
  pub once : AreOnce r.copies.items
