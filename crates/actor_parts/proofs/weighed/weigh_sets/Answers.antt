use Rattle.std.proofs.Common.{◌+◌, ◌<◌, ◌^◌, ℕ, sym}
use Rattle.actor_parts.specs.Footprints.{location_count, reads_in, writes_in}
use Rattle.actor_parts.proofs.FootprintLemmas.{all_alike, in_range, reads_below, writes_below}
use Rattle.actor_parts.proofs.weighed.weigh_sets.Goals as goal

pub has_room-requires-clause-reads : goal.has_room-requires-clause-reads
has_room-requires-clause-reads g c =
    let copied = c.args.copied.now in
    let o = c.args.outcome.now in
    all_alike (λ (l : ℕ). c.args.first + l < 2 ^ 32) (reads_in copied o) c.in_ok-read.read (sym c.in_ok-read.ensures)
    (in_range copied c.args.first (reads_in copied o) c.requires.range (reads_below copied o c.requires.stripes))

pub has_room-requires-clause-writes : goal.has_room-requires-clause-writes
has_room-requires-clause-writes g c =
    let copied = c.args.copied.now in
    let o = c.args.outcome.now in
    all_alike (λ (l : ℕ). c.args.first + l < 2 ^ 32) (writes_in copied o) c.in_ok-written.written (sym c.in_ok-written.ensures)
    (in_range copied c.args.first (writes_in copied o) c.requires.range (writes_below copied o c.requires.stripes))

pub with_known-requires-clause-within : goal.with_known-requires-clause-within
with_known-requires-clause-within g c =
    let copied = c.args.copied.now in
    let o = c.args.outcome.now in
    all_alike (λ (l : ℕ). l < location_count copied) (reads_in copied o) c.in_ok-read.read (sym c.in_ok-read.ensures)
    (reads_below copied o c.requires.stripes)

pub with_known-requires-clause-range : goal.with_known-requires-clause-range
with_known-requires-clause-range g c =
    let copied = c.args.copied.now in
    let o = c.args.outcome.now in
    all_alike (λ (l : ℕ). c.args.first + l < 2 ^ 32) (reads_in copied o) c.in_ok-read.read (sym c.in_ok-read.ensures)
    (in_range copied c.args.first (reads_in copied o) c.requires.range (reads_below copied o c.requires.stripes))

pub with_next-requires-clause-within : goal.with_next-requires-clause-within
with_next-requires-clause-within g c =
    let copied = c.args.copied.now in
    let o = c.args.outcome.now in
    all_alike (λ (l : ℕ). l < location_count copied) (writes_in copied o) c.in_ok-written.written (sym c.in_ok-written.ensures)
    (writes_below copied o c.requires.stripes)

pub with_next-requires-clause-range : goal.with_next-requires-clause-range
with_next-requires-clause-range g c =
    let copied = c.args.copied.now in
    let o = c.args.outcome.now in
    all_alike (λ (l : ℕ). c.args.first + l < 2 ^ 32) (writes_in copied o) c.in_ok-written.written (sym c.in_ok-written.ensures)
    (in_range copied c.args.first (writes_in copied o) c.requires.range (writes_below copied o c.requires.stripes))
