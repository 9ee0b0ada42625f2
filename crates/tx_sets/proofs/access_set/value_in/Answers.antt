use Rattle.std.proofs.Common.{sym, subst}
use Rattle.tx_sets.specs.AccessSet.{IsPositionOf}
use Rattle.tx_sets.proofs.PositionLemmas.{lookup_there, lookup_gap}
use Rattle.tx_sets.proofs.access_set.value_in.Goals as goal

pub returns-in-Ok : goal.returns-in-Ok
returns-in-Ok c =
    let es = c.args.entries.now in
    let place = subst (IsPositionOf c.args.location es) c.in-Ok.is c.requires.place in
    sym (lookup_there es c.args.location c.in-Ok.at (0, 0) c.requires.rising place.0 place.1)

pub returns-in-Err : goal.returns-in-Err
returns-in-Err c =
    let es = c.args.entries.now in
    let place = subst (IsPositionOf c.args.location es) c.in-Err.is c.requires.place in
    sym (lookup_gap es c.args.location c.in-Err.field-0 place.1.0 place.1.1)
