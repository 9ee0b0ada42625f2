use Rattle.std.proofs.Common.{ap}
use Rattle.std.specs.FinMap as map
use Rattle.conflict.proofs.RoomMapLemmas.{remove_of}
use Rattle.conflict.proofs.table.RoomMap.remove.Goals as goal

pub returns-clause-contents : goal.returns-clause-contents
returns-clause-contents g c =
    let removed = remove_of c.self.inside.entries c.swap_remove.new.self _ c.swap_remove.ensures.updates in
    let shown = ap (λ r. map.remove r.contents c.args.key) c.self.view_is in
    cc
