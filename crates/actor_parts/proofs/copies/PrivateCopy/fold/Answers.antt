use Rattle.std.proofs.Common.{rules, ◌≡◌, ℕ, List, subst}
use Rattle.replay_log.specs.Base.{editions_of}
use Rattle.replay_log.specs.Log.{AreRaised}
use Rattle.actor_parts.specs.PrivateCopy.{locations_in}
use Rattle.actor_parts.proofs.copies.PrivateCopy.fold.Goals as goal

pub returns-in-Keys-clause-editions : goal.returns-in-Keys-clause-editions
returns-in-Keys-clause-editions g c =
    let same : c.get_mut.result.now.locations ≡ locations_in c.args.self.now = search rules in
    subst (λ (ls : List ℕ). AreRaised ls (editions_of c.args.base.now) (editions_of c.fold.new.base)) same c.fold.ensures.editions

pub returns-in-Whole-clause-editions : goal.returns-in-Whole-clause-editions
returns-in-Whole-clause-editions g c =
    let same : c.get_mut-in-Whole.result.now.locations ≡ locations_in c.args.self.now = search rules in
    subst (λ (ls : List ℕ). AreRaised ls (editions_of c.args.base.now) (editions_of c.fold-in-Whole.new.base)) same
    c.fold-in-Whole.ensures.editions
