use Rattle.actor_parts.proofs.PutBackLemmas.{copies_kept, copies_read}
use Rattle.actor_parts.proofs.copied.copies_put_back.Goals as goal

pub returns-clause-kept : goal.returns-clause-kept
returns-clause-kept g c = copies_kept

pub returns-clause-read : goal.returns-clause-read
returns-clause-read g c = copies_read
