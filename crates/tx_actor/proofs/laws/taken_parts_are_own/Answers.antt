use Rattle.tx_actor.proofs.OwnCopyLemmas.{copies_own}
use Rattle.tx_actor.proofs.laws.taken_parts_are_own.Goals as goal

pub returns : goal.returns
returns g c =
    copies_own c.copies_stay.ensures.stays c.copies_stay.ensures.joins c.copies_stay.ensures.back c.copies_stay.ensures.events
    c.copies_put_back.ensures.kept
