use Rattle.std.proofs.Common.{inr, refl}
use Rattle.tx_actor.proofs.CopiesByStageLemmas.{still_same}
use Rattle.tx_actor.proofs.ActorBoundsLemmas.{keeps_same}
use Rattle.tx_actor.proofs.actor.TxActor.request.Goals as goal

-- the bounds and the room
pub returns-in-Idle-clause-keeps : goal.returns-in-Idle-clause-keeps
returns-in-Idle-clause-keeps g c noreads = c.request_idle.ensures.keeps c.args.blocks.now

pub returns-in_ok-request_open-in-Open-clause-keeps : goal.returns-in_ok-request_open-in-Open-clause-keeps
returns-in_ok-request_open-in-Open-clause-keeps g c noreads = c.request_open.ensures.keeps (noreads c.in-Open.is)

pub returns-in_err-request_open-in-Open-clause-keeps : goal.returns-in_err-request_open-in-Open-clause-keeps
returns-in_err-request_open-in-Open-clause-keeps g c noreads = c.request_open.ensures.keeps (noreads c.in-Open.is)

pub returns-in_default-clause-keeps : goal.returns-in_default-clause-keeps
returns-in_default-clause-keeps g c noreads = keeps_same c.args.blocks.now c.args.self.now c.args.self.now refl

-- what was read
pub returns-in-Idle-clause-still : goal.returns-in-Idle-clause-still
returns-in-Idle-clause-still g c =
    still_same c.args.self.now.copies.items c.request_idle.new.self.copies.items (λ i. (c.request_idle.ensures.copies i).items)

pub returns-in_default-clause-still : goal.returns-in_default-clause-still
returns-in_default-clause-still g c w a k is = is

-- anywhere but where it is idle
pub returns-in-Idle-clause-apart : goal.returns-in-Idle-clause-apart
returns-in-Idle-clause-apart g c apart = c.request_idle.ensures.apart

pub returns-in_ok-request_open-in-Open-clause-apart : goal.returns-in_ok-request_open-in-Open-clause-apart
returns-in_ok-request_open-in-Open-clause-apart g c apart = absurd (apart c.in-Open.is)

pub returns-in_err-request_open-in-Open-clause-apart : goal.returns-in_err-request_open-in-Open-clause-apart
returns-in_err-request_open-in-Open-clause-apart g c apart = absurd (apart c.in-Open.is)

pub returns-in_default-clause-apart : goal.returns-in_default-clause-apart
returns-in_default-clause-apart g c apart = inr refl
