use Rattle.std.proofs.Common.{◌+◌, ◌<◌, ◌≤◌, ◌^◌, ℕ, arith, sym}
use Rattle.conflict.specs.Footprints.{all_below}
use Rattle.replay_log.specs.Base.{locations_of, reads_of, shown_of, stripes_of, writes_of}
use Rattle.actor_parts.proofs.FootprintLemmas.{all_alike, all_within, base_range, base_reads_below, base_writes_below}
use Rattle.actor_parts.proofs.taking.fits_outcome.Goals as goal

pub has_room-requires-clause-reads : goal.has_room-requires-clause-reads
has_room-requires-clause-reads g c =
    let base = c.args.base.now in
    let o = c.in-Ok.outcome in
    let ls = reads_of (stripes_of base) o (shown_of base) in
    all_alike (λ (l : ℕ). c.args.first + l < 2 ^ 32) ls c.in_ok-reads-in-None.reads (sym c.in_ok-reads-in-None.ensures.locations)
    (base_range base c.args.first ls c.requires.range (base_reads_below base o c.requires.stripes))

pub has_room-requires-clause-writes : goal.has_room-requires-clause-writes
has_room-requires-clause-writes g c =
    let base = c.args.base.now in
    let o = c.in-Ok.outcome in
    let ls = writes_of (stripes_of base) o (shown_of base) in
    all_alike (λ (l : ℕ). c.args.first + l < 2 ^ 32) ls c.in_ok-writes-in-Ok.writes (sym c.in_ok-writes-in-Ok.ensures.locations)
    (base_range base c.args.first ls c.requires.range (base_writes_below base o c.requires.stripes))

pub has_room_below-requires-clause-reads : goal.has_room_below-requires-clause-reads
has_room_below-requires-clause-reads g c =
    let base = c.args.base.now in
    let o = c.in-Ok.outcome in
    let n = c.in-Some.count in
    let size = locations_of (stripes_of base) (shown_of base) in
    let low : n ≤ size =
    all_within n size
    (all_alike (λ (l : ℕ). l < size) (reads_of (stripes_of base) o (shown_of base)) (all_below n) c.in-Some.ensures
    (base_reads_below base o c.requires.stripes)) in
    omega (arith, low, c.requires.range)

pub has_room_below-requires-clause-writes : goal.has_room_below-requires-clause-writes
has_room_below-requires-clause-writes g c =
    let base = c.args.base.now in
    let o = c.in-Ok.outcome in
    let ls = writes_of (stripes_of base) o (shown_of base) in
    all_alike (λ (l : ℕ). c.args.first + l < 2 ^ 32) ls c.in_ok-writes-in-Ok.writes (sym c.in_ok-writes-in-Ok.ensures.locations)
    (base_range base c.args.first ls c.requires.range (base_writes_below base o c.requires.stripes))
