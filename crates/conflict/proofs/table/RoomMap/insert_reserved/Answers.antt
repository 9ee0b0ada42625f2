use Rattle.std.proofs.Common.{ap}
use Rattle.std.specs.FinMap as map
use Rattle.std.proofs.lemmas.Result.{IfOk-at_ok}
use Rattle.conflict.proofs.RoomMapLemmas.{insert_of}
use Rattle.conflict.proofs.table.RoomMap.insert_reserved.Goals as goal

pub returns-clause-contents : goal.returns-clause-contents
returns-clause-contents g c =
    let inserted = insert_of c.self.inside.entries c.insert.new.self _ _ (IfOk-at_ok _ c.unwrap.ensures c.insert.ensures.updates) in
    let shown = ap (λ r. map.insert r.contents c.args.key c.args.value) c.self.view_is in
    cc
