use Rattle.std.proofs.Common.{ap, sym, ◌∙◌}
use Rattle.std.specs.FinMap as map
use Rattle.conflict.proofs.RoomMapLemmas.{len_of}
use Rattle.conflict.proofs.table.RoomMap.len.Goals as goal

pub returns : goal.returns
returns g c = c.len.ensures.len ∙ sym (len_of c.self.inside.entries.entries c.len.ensures.unique)
    ∙ ap (λ r. map.len r.contents) c.self.view_is
