use Rattle.actor_parts.proofs.ShowsLemmas.{asks_stores}
use Rattle.actor_parts.proofs.word_laws.asks_stores_as_worlds.Goals as goal

pub returns : goal.returns
returns c s = asks_stores
