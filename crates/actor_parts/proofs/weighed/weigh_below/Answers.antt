use Rattle.std.proofs.Common.{◌+◌, ◌<◌, ◌≤◌, ◌^◌, ℕ, arith, sym}
use Rattle.conflict.specs.Footprints.{all_below}
use Rattle.actor_parts.specs.Footprints.{location_count, reads_in, writes_in}
use Rattle.actor_parts.proofs.FootprintLemmas.{all_alike, all_within, in_range, reads_below, writes_below}
use Rattle.actor_parts.proofs.weighed.weigh_below.Goals as goal

pub with_known_below-requires-clause-within : goal.with_known_below-requires-clause-within
with_known_below-requires-clause-within g c =
    let copied = c.args.copied.now in
    let o = c.args.outcome.now in
    all_within c.args.count (location_count copied)
    (all_alike (λ (l : ℕ). l < location_count copied) (reads_in copied o) (all_below c.args.count) c.requires.reads
    (reads_below copied o c.requires.stripes))

pub with_known_below-requires-clause-range : goal.with_known_below-requires-clause-range
with_known_below-requires-clause-range g c =
    let copied = c.args.copied.now in
    let o = c.args.outcome.now in
    let low : c.args.count ≤ location_count copied =
    all_within c.args.count (location_count copied)
    (all_alike (λ (l : ℕ). l < location_count copied) (reads_in copied o) (all_below c.args.count) c.requires.reads
    (reads_below copied o c.requires.stripes)) in
    omega (arith, low, c.requires.range)

pub has_room_below-requires-clause-reads : goal.has_room_below-requires-clause-reads
has_room_below-requires-clause-reads g c =
    let copied = c.args.copied.now in
    let o = c.args.outcome.now in
    let low : c.args.count ≤ location_count copied =
    all_within c.args.count (location_count copied)
    (all_alike (λ (l : ℕ). l < location_count copied) (reads_in copied o) (all_below c.args.count) c.requires.reads
    (reads_below copied o c.requires.stripes)) in
    omega (arith, low, c.requires.range)

pub has_room_below-requires-clause-writes : goal.has_room_below-requires-clause-writes
has_room_below-requires-clause-writes g c =
    let copied = c.args.copied.now in
    let o = c.args.outcome.now in
    all_alike (λ (l : ℕ). c.args.first + l < 2 ^ 32) (writes_in copied o) c.in_ok-written.written (sym c.in_ok-written.ensures)
    (in_range copied c.args.first (writes_in copied o) c.requires.range (writes_below copied o c.requires.stripes))

pub with_next-requires-clause-within : goal.with_next-requires-clause-within
with_next-requires-clause-within g c =
    let copied = c.args.copied.now in
    let o = c.args.outcome.now in
    all_alike (λ (l : ℕ). l < location_count copied) (writes_in copied o) c.in_ok-written.written (sym c.in_ok-written.ensures)
    (writes_below copied o c.requires.stripes)

pub with_next-requires-clause-range : goal.with_next-requires-clause-range
with_next-requires-clause-range g c =
    let copied = c.args.copied.now in
    let o = c.args.outcome.now in
    all_alike (λ (l : ℕ). c.args.first + l < 2 ^ 32) (writes_in copied o) c.in_ok-written.written (sym c.in_ok-written.ensures)
    (in_range copied c.args.first (writes_in copied o) c.requires.range (writes_below copied o c.requires.stripes))
