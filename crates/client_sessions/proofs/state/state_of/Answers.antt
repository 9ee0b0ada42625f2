use Rattle.std.proofs.Common.{subst, sym}
use Rattle.std.specs.Prelude.{All}
use Rattle.seq_model.specs.Calls.{IsWithinLimits}
use Rattle.client_sessions.proofs.TablesLemmas.{all_within}
use Rattle.client_sessions.proofs.state.state_of.Goals as goal

pub unreachable-requires : goal.unreachable-requires
unreachable-requires c =
    c.in-Err.ensures.too_long.1
    (subst (All IsWithinLimits) (sym c.in_ok-held.ensures) (all_within c.args.tables.now c.requires))
