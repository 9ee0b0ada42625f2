use Rattle.std.proofs.Common.{◌≤◌, ℕ, length, subst, sym, ◌∙◌}
use Rattle.tx_actor.proofs.StepLemmas.{reached_linked}
use Rattle.step_world.proofs.TraceLemmas.{never_too_long, words_fit}
use Rattle.step_world.proofs.parts.Parts.state.Goals as goal

pub returns-in-Ok : goal.returns-in-Ok
returns-in-Ok g c = λ o w reached h. c.in-Ok.ensures.shows w h.table h.shape (reached_linked o w reached).base.stripes
    (h.laid.0 ∙ sym c.words.ensures)

pub state-requires : goal.state-requires
state-requires g c = subst (λ (n : ℕ). n ≤ length c.args.self.now.table.cells.values.items) (sym c.words.ensures)
    (words_fit c.args.self.now c.requires)

pub unreachable-requires : goal.unreachable-requires
unreachable-requires g c =
    never_too_long c.bases_are_within_limits.ensures c.args.self.now c.in-Err.refusal c.requires c.in_default.not-Memory
    c.in-Err.ensures.refused
