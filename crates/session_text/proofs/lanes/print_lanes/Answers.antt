use Rattle.std.proofs.Common.{◌≡◌, [], length, refl, rules, subst}
use Rattle.replay_log.specs.Worlds.{World}
use Rattle.std.specs.Prelude.{ℕ}
use Rattle.std.specs.String.{string_bytes}
use Rattle.session_text.specs.Rows.{AreRowsOf, first_of}
use Rattle.session_text.proofs.ScriptRunLemmas.{world_as}
use Rattle.session_text.proofs.lanes.print_lanes.Goals as goal

pub returns : goal.returns
returns c =
    let opening = c.args.run.now.opening in
    let rows = c.in_ok-rows.rows in
    let empty : string_bytes c.new-text.result ≡ [] = search rules in
    let count : c.len.result ≡ length rows = search rules in
    record {
      rows = rows;
      lanes = string_bytes c.print_drawn.new.text;
      are = subst (λ (w : World ℕ). AreRowsOf w (first_of c.args.events.now) rows)
          (world_as c.args.script.now opening opening _ _ c.in_ok-shape.ensures.stripes c.in_ok-shape.ensures.clock refl)
          c.in_ok-rows.ensures;
      drawn = rw (c.as_slice.ensures, c.saturating_sub-more.ensures, count, empty) at c.in_ok-print_drawn.ensures;
      printed = search rules;
    }
