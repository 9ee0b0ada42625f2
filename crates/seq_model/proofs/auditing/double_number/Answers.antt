use Rattle.std.proofs.Common.{◌≡◌, ◌≤◌, false, length, get_or, Some, count_by, sym, subst, arith, rules}
use Rattle.std.proofs.lemmas.Grind.{common_steps}
use Rattle.seq_model.specs.Ranks.{writes_at}
use Rattle.seq_model.specs.Audit.{IsLeastDouble}
use Rattle.seq_model.proofs.AuditLemmas.{least_double}
use Rattle.seq_model.proofs.ReplayLemmas.{found_turn, past_all}
use Rattle.seq_model.proofs.auditing.double_number.Goals as goal

pub returns-then-eq : goal.returns-then-eq
returns-then-eq c =
    let turns = c.args.turns.now in
    let i = c.loop-number.number-index in
    let again : c.loop-number.last ≡ Some (get_or turns i (0, false, 0)).0 = first_of (search rules, grind (arith, common_steps)) in
    subst (IsLeastDouble (λ n. count_by (writes_at n) turns)) (found_turn c.loop-number.last _ turns i (0, false, 0)
    c.loop-number-test.true c.if-not-only_reads.true again c.loop-number.invariant)
    (least_double turns c.requires)

pub returns : goal.returns
returns c =
    let turns = c.args.turns.now in
    let le : length turns ≤ c.loop-number.number-index = omega arith in
    subst (IsLeastDouble (λ n. count_by (writes_at n) turns)) (sym
    (past_all c.loop-number.last _ turns c.loop-number.number-index le c.loop-number.invariant)) (least_double turns c.requires)
