use Rattle.std.proofs.Common.{◌∙◌, Some, ap, sym}
use Rattle.std.specs.Slots.{slots_items}
use mathlib.Core.Option.{some}
use Rattle.replay_log.specs.declared.base.Base.{Base}
use Rattle.shared_table.proofs.SeatShares.{stands}
use Rattle.shared_table.proofs.closed.Closed.base_at.Goals as goal

pub unreachable-requires : goal.unreachable-requires
unreachable-requires g c =
    let s = c.args.self.now in
    s.home c.args.k (stands (slots_items s.row.slots) c.args.k c.get-home.result.now c.requires c.get-home.ensures
    ∙ ap (λ x. some x) (sym c.get.ensures ∙ (sym c.base.ensures ∙ c.in-None.is)))

pub returns : goal.returns
returns g c =
    stands (slots_items c.args.self.now.row.slots) c.args.k c.get-home.result.now c.requires c.get-home.ensures
    ∙ (ap (λ x. some x) (sym c.get.ensures ∙ (sym c.base.ensures ∙ c.in-Some.is))
    ∙ ap (λ (b : Base g.row.V.Denot). some (Some b)) (sym c.get-in-Some.ensures))
