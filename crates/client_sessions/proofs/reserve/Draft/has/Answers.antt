use Rattle.std.proofs.Common.{◌∙◌, ap, sym, ◌||◌}
use Rattle.client_sessions.specs.Drafts.{adds, part_for}
use Rattle.client_sessions.proofs.DraftLemmas.{has_drafted}
use Rattle.client_sessions.proofs.reserve.Draft.has.Goals as goal

pub returns-then-had : goal.returns-then-had
returns-then-had c =
    sym (has_drafted c.args.self.now c.args.kind c.args.id
    ∙ ap (λ b. b || adds c.args.id (part_for c.args.kind c.args.self.now)) (sym c.has_found-had.ensures ∙ c.if-had.true))

pub returns : goal.returns
returns c =
    c.adds.ensures ∙ ap (adds c.args.id) c.part-part.ensures
    ∙ sym (has_drafted c.args.self.now c.args.kind c.args.id
    ∙ ap (λ b. b || adds c.args.id (part_for c.args.kind c.args.self.now)) (sym c.has_found-had.ensures ∙ c.if-had.false))
