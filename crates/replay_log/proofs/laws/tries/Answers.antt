use Rattle.std.proofs.Common.{refl, arith}
use Rattle.replay_log.proofs.EventLemmas.{opened_linked}
use Rattle.replay_log.proofs.TryLemmas.{tried_before, tried_in_all}
use Rattle.replay_log.specs.Worlds.{opened}
use Rattle.replay_log.proofs.laws.tries.Goals as goal

pub returns-clause-before : goal.returns-clause-before
returns-clause-before g c blocks clock values held events a k n stripes at =
    let t = tried_before (opened blocks clock values held) events a k n (opened_linked blocks clock values held stripes) refl at in
    let in_all = t.1 in
    (t.0, omega (arith, in_all), t.2)

pub returns-clause-in_all : goal.returns-clause-in_all
returns-clause-in_all g c blocks clock values held events a k stripes going ends busy =
    tried_in_all (opened blocks clock values held) events a k (opened_linked blocks clock values held stripes) refl going ends busy
