use Rattle.std.proofs.Common.{◌≡◌, length, sym, ap, arith, ◌∙◌}
use Rattle.conflict.specs.Footprints.{all_below}
use Rattle.step_core.specs.Shown.{actor_of}
use Rattle.actor_parts.proofs.RoomLemmas.{all_few, surely_shifted}
use Rattle.actor_parts.proofs.room.has_room_below.Goals as goal

pub returns-then-surely_fits : goal.returns-then-surely_fits
returns-then-surely_fits c =
    let n = c.args.count in
    let ws = c.args.writes.now in
    let writes : length ws ≡ length c.as_slice.result.now = sym (ap length c.as_slice.ensures.locations) in
    sym (surely_shifted (actor_of c.args.words.now) c.args.first n (length c.as_slice.result.now) (all_below n) ws
    (sym c.surely_fits.ensures ∙ c.if-surely_fits.true) (all_few n) (omega (arith, writes)))
