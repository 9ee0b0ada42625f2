use Rattle.std.proofs.Common.{◌≡◌, length, sym, ap, arith, ◌∙◌}
use Rattle.step_core.specs.Shown.{actor_of}
use Rattle.actor_parts.proofs.RoomLemmas.{surely_shifted}
use Rattle.actor_parts.proofs.room.has_room.Goals as goal

pub returns-then-surely_fits : goal.returns-then-surely_fits
returns-then-surely_fits c =
    let rs = c.args.reads.now in
    let ws = c.args.writes.now in
    let reads : length rs ≡ length c.as_slice.result.now = sym (ap length c.as_slice.ensures.locations) in
    let writes : length ws ≡ length c.as_slice-2.result.now = sym (ap length c.as_slice-2.ensures.locations) in
    sym (surely_shifted (actor_of c.args.words.now) c.args.first (length c.as_slice.result.now) (length c.as_slice-2.result.now) rs ws
    (sym c.surely_fits.ensures ∙ c.if-surely_fits.true) (omega (arith, reads)) (omega (arith, writes)))
