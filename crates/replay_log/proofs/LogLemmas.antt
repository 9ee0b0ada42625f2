-- A log folded: the locations that were pushed, each once. The written locations are those that were pushed, as members; so
-- what holds of the one list holds of the other, and each is raised by one, however often it was pushed.
use Rattle.std.proofs.Common.{ℕ, ◌↔◌, List, get_or, Contains, subst, ap, ◌∙◌}
use Rattle.std.specs.List.{All}
use Rattle.std.proofs.lemmas.List.{get_or_default}
use Rattle.conflict.proofs.EditionLemmas.{raised_written, raised_other}
use Rattle.replay_log.specs.Log.{RaisesEach, KeepsOthers}

-- what holds of each location that was pushed holds of each that is written
pub all_members : (P : ℕ → Type 0) (written locations : List ℕ) → ((l : ℕ) → Contains written l ↔ Contains locations l) → All P locations
    → All P written
all_members P written locations same all k d lt =
    let x = get_or written k d in
    let c = (same x).0 (k, lt, get_or_default written k x d lt) in
    subst P c.2 (all c.0 x c.1)

pub raises_each : RaisesEach
raises_each locations before now l (written, rising, same, is) c lt = ap (λ (es : List ℕ). get_or es l 0) is
    ∙ raised_written written before l rising ((same l).1 c) lt

pub keeps_others : KeepsOthers
keeps_others locations before now l (written, rising, same, is) other = ap (λ (es : List ℕ). get_or es l 0) is
    ∙ raised_other written before l (λ c. other ((same l).0 c))
