use Rattle.replay_log.specs.Worlds.{no_one}
use Rattle.actor_parts.specs.CopyList.{copy_of, has_piece}
use Rattle.replay_log.specs.Contents.{end_of}
use Rattle.tx_actor.proofs.actor.TxActor.new.Goals as goal

pub returns-clause-running : goal.returns-clause-running
returns-clause-running g c v = record { fits = c.new.ensures.fits (end_of v.words v.blocks); room = tt; names = tt; call = tt }

pub returns-clause-seat : goal.returns-clause-seat
returns-clause-seat g c =
    λ i. record no_one { calls = c.new-2.ensures.items i; copied = λ k q. has_piece (copy_of (c.new-4.ensures.items i) k) q }
