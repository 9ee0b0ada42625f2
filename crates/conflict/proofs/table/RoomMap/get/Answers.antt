use Rattle.std.proofs.Common.{ap, sym, ◌∙◌}
use Rattle.std.specs.FinMap as map
use Rattle.conflict.proofs.RoomMapLemmas.{get_of}
use Rattle.conflict.proofs.table.RoomMap.get.Goals as goal

pub returns : goal.returns
returns g c =
    let shown = sym (get_of c.self.inside.entries.entries c.args.key) ∙ ap (λ r. map.get r.contents c.args.key) c.self.view_is in
    let found = c.get.ensures.value in
    cc
