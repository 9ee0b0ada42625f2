use Rattle.std.proofs.Common.{◌≡◌, ◌+◌, ◌<◌, subst, length, arith}
use Rattle.vac_model.proofs.OverlayLemmas.{taken_within}
use Rattle.vac_model.proofs.moves.Moves.take_off.Goals as goal

pub returns-then-self-len : goal.returns-then-self-len
returns-then-self-len c =
    let moves = c.args.self.now in
    let lt : moves.taken < length c.args.line.now.tickets = subst (λ n. moves.taken < n) c.len.ensures c.if-self-len.true in
    let head : c.args.line.now.head + (moves.off + 1) ≡ c.args.line.now.head + moves.off + 1 = omega arith in
    let tickets = taken_within c.args.line.now.tickets moves.given moves.taken lt in
    (λ i. record { head = head i; tickets = tickets i })
