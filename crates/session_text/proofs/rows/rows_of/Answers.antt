use Rattle.std.proofs.Common.{refl, subst}
use Rattle.std.specs.Prelude.{IfOk, ℕ}
use Rattle.seq_model.specs.Contents.{Contents}
use Rattle.step_world.proofs.ReachedLemmas.{opened_well}
use Rattle.actor_parts.specs.Openings.{world_of}
use Rattle.std.proofs.lemmas.Result.{IfOk-weaker}
use Rattle.session_text.specs.Rows.{AreRowsOf, first_of}
use Rattle.session_text.proofs.RowLemmas.{rows_as}
use Rattle.session_text.proofs.rows.rows_of.Goals as goal

pub rows_in-requires : goal.rows_in-requires
rows_in-requires c =
    opened_well c.in-Ok.parts c.args.shape.now.stripes c.args.shape.now.clock c.in_ok-state.state (c.in-Ok.ensures.reached refl)
    c.in-Ok.ensures.world

pub returns-in-Ok : goal.returns-in-Ok
returns-in-Ok c =
    let stripes = c.args.shape.now.stripes in
    let clock = c.args.shape.now.clock in
    subst (λ (o : Contents ℕ). IfOk c.rows_in.result (AreRowsOf (world_of stripes clock o) (first_of c.args.events.now)))
    c.in_ok-state.ensures
    (IfOk-weaker c.rows_in.result _ _
    (λ rows by. rows_as c.in_ok-state.state (world_of stripes clock c.in_ok-state.state) c.in-Ok.parts (first_of c.args.events.now) rows
    (c.in-Ok.ensures.reached refl) c.in-Ok.ensures.world (rw c.first_of.ensures at by)) c.rows_in.ensures)
