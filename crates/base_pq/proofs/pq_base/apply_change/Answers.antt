use Rattle.std.proofs.Common.{◌%◌, ap}
use Rattle.conflict.specs.declared.change.Change.{Change}
use Rattle.conflict.specs.Places.{mod_below}
use Rattle.base_pq.specs.Room.{stripe_of}
use Rattle.base_pq.proofs.RoomLemmas.{room_of_one}
use Rattle.base_pq.proofs.pq_base.apply_change.Goals as goal

pub set_copies-requires : goal.set_copies-requires
set_copies-requires g c =
    let n = c.args.elements.now.stripes in
    room_of_one n (c.in-Add.element % n) c.args.elements.now.room c.args.change c.requires.room
    (ap (λ (x : Change g.row.V.Denot). stripe_of n x) c.in-Add.is) (mod_below c.in-Add.element n c.requires.some)

pub set_copies-requires-in-Take : goal.set_copies-requires-in-Take
set_copies-requires-in-Take g c =
    let n = c.args.elements.now.stripes in
    room_of_one n (c.in-Take.element % n) c.args.elements.now.room c.args.change c.requires.room
    (ap (λ (x : Change g.row.V.Denot). stripe_of n x) c.in-Take.is) (mod_below c.in-Take.element n c.requires.some)
