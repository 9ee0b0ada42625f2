use Rattle.std.proofs.Common.{refl}
use Rattle.actor_laws.proofs.BesideLemmas.{all_none, few_open, never_mistaken}
use Rattle.replay_log.specs.Worlds.{opened}
use Rattle.actor_laws.proofs.alone_laws.beside_others.Goals as goal

pub returns-clause-sets : goal.returns-clause-sets
returns-clause-sets g c blocks clock values held events a stripes fit at = few_open blocks clock values held stripes a events fit at

pub returns-clause-never : goal.returns-clause-never
returns-clause-never g c blocks clock values held events a stripes fit e own fits tells =
    never_mistaken blocks clock values held stripes a events fit e own fits tells

pub returns-clause-undeclared : goal.returns-clause-undeclared
returns-clause-undeclared g c blocks clock values held events a never = all_none a events (opened blocks clock values held) never refl
