use Rattle.std.proofs.Common.{◌<◌, sym, ◌∙◌, subst, length}
use Rattle.vac_model.proofs.OverlayLemmas.{first_within}
use Rattle.vac_model.proofs.moves.Moves.first.Goals as goal

pub returns-then-self-len : goal.returns-then-self-len
returns-then-self-len c =
    let lt : c.args.self.now.taken < length c.args.line.now.tickets = subst
    (λ n. c.args.self.now.taken < n) c.len.ensures c.if-self-len.true in
    c.get.ensures ∙ sym (first_within c.args.line.now.tickets c.args.self.now.given c.args.self.now.taken lt)
