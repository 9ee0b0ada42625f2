-- The worlds that events lead to from an opening.
pub use Rattle.tx_actor.specs.Reached.{IsReached}
