use Rattle.std.proofs.Common.{◌≡◌, ◌∙◌, ℕ, ap, arith, length, sym}
use Rattle.std.specs.Slots.{slots_items}
use Rattle.replay_log.proofs.ContentLemmas.{end_above}
use Rattle.shared_table.specs.Layout.{width}
use Rattle.shared_table.specs.Opening.{blocks_at, words_at}
use Rattle.shared_table.proofs.SeatShares.{all_home, closes_all, shows_last}
use Rattle.shared_table.proofs.table.TxTable.into_closed.Goals as goal

pub invariant_of-result : goal.invariant_of-result
invariant_of-result g c =
    let table = c.args.self in
    let key = table.whole.shared.key in
    let s = c.args.seat in
    let r = c.close_with-row.result in
    let counts = c.close_with-row.ensures.counts in
    let values = c.close_with-row.ensures.values in
    let long : length (slots_items r.slots) ≡ length (blocks_at key) = sym r.slots.ok.0 ∙ (counts.1 ∙ table.slots) in
    let above = end_above (words_at key) (blocks_at key) in
    let words = table.words_are in
    let locations = table.locations_are in
    record {
      full = (values.0, values.1);
      wide = counts.0 ∙ (table.wide ∙ ap (λ (m : ℕ). width table.locations m) (sym long));
      inside = (omega arith, table.few.0);
      home = all_home key s.place.me.0 (slots_items r.words) (slots_items r.slots)
          (closes_all c.closed_tables.ensures key s.place.id s.place.me.0 (slots_items r.words) (slots_items r.slots)
          c.requires.all c.requires.rests
          values.2) long;
    }

pub returns-clause-closes : goal.returns-clause-closes
returns-clause-closes g c =
    let s = c.args.seat in
    let r = c.close_with-row.result in
    closes_all c.closed_tables.ensures c.args.self.whole.shared.key s.place.id s.place.me.0 (slots_items r.words) (slots_items r.slots)
    c.requires.all
    c.requires.rests c.close_with-row.ensures.values.2

pub returns-clause-shows : goal.returns-clause-shows
returns-clause-shows g c =
    let s = c.args.seat in
    let r = c.close_with-row.result in
    shows_last c.args.self.whole.shared.key s.place.id s.place.me.0 (slots_items r.words) (slots_items r.slots) c.requires.all
    c.requires.rests c.close_with-row.ensures.values.2
