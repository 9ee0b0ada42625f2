use Rattle.text_formats.proofs.DrawnOpeningLemmas.{opening_balanced}
use Rattle.text_formats.proofs.tables.opening.Goals as goal

pub returns-clause-balanced : goal.returns-clause-balanced
returns-clause-balanced c =
    rw c.of_maps.ensures rw c.new-customers.ensures rw c.new-tickets.ensures rw c.new.ensures rw c.new-2.ensures rw c.new-3.ensures
    (opening_balanced _ _ _ _ _ _ _ _ c.in_ok-items.ensures c.in_ok-items-2.ensures c.in_ok-items-3.ensures)
