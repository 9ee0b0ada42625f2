use Rattle.replay_log.proofs.EditionLemmas.{edition_read_by, edition_counted, part_known, part_copied}
use Rattle.replay_log.proofs.laws.editions.Goals as goal

pub returns-clause-read : goal.returns-clause-read
returns-clause-read g c blocks clock values held events later a l stripes suit open_there read =
    edition_read_by blocks stripes clock values held suit events later a open_there l read

pub returns-clause-counted : goal.returns-clause-counted
returns-clause-counted g c blocks clock values held events later a l e stripes suit open_there plain read =
    edition_counted blocks stripes clock values held suit events later a open_there l e plain read

pub returns-clause-part : goal.returns-clause-part
returns-clause-part g c blocks clock values held events later a l e stripes suit open_there plain read same =
    part_known blocks stripes clock values held suit events later a open_there l e plain read same

pub returns-clause-copied : goal.returns-clause-copied
returns-clause-copied g c blocks clock values held events later a l stripes suit open_there read =
    part_copied blocks stripes clock values held suit events later a open_there l read
