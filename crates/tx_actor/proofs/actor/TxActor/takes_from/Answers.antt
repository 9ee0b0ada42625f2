use Rattle.std.proofs.Common.{ℕ, refl, subst}
use Rattle.actor_parts.specs.Taking.{IsTakenAt}
use Rattle.tx_actor.proofs.actor.TxActor.takes_from.Goals as goal

pub returns-clause-ok : goal.returns-clause-ok
returns-clause-ok g c =
    let can = c.requires in
    let now = c.take_from.new.copies in
    let taken = c.in_ok-place.ensures.ok in
    record {
      block = can.block;
      found = taken.found;
      copies = now;
      there = can.there;
      is = taken.is;
      at = subst
          (λ (n : ℕ). IsTakenAt n c.args.asked.now.collection taken.found c.in_ok-place.place c.args.self.now.copies.items
          now.items) (c.stripes_of-stripes.ensures can.block can.there) taken.at;
      same = refl;
    }
