-- What a call on a collection makes of its actor in a world: what is copied for it, and once it is accepted the writes of the editions and
-- one outcome more in its shadow.
use Rattle.std.specs.Prelude.{◌≡◌, ℕ, ◌+◌, List, [], ◌∷◌, true}
use Rattle.tx_machine.specs.Actor.{Actor}
use Rattle.tx_machine.specs.Requests as word
use Rattle.tx_machine.specs.Requests.{ask}
use Rattle.tx_machine.specs.Boosted.{Accept, PutGate, copied, is_open, longer}
use Rattle.replay_log.specs.Contents.{CollectionCall, content}
use Rattle.replay_log.specs.Guards.{Allows}
use Rattle.replay_log.specs.Pieces.{covers_at}
use Rattle.replay_log.specs.Worlds.{World, acted, actor_of, outcome_at}
use Rattle.actor_parts.specs.Shows.{put_back}

-- the word actor after the writes of these locations, each with the edition after the copied one
abbrev pub written : Actor → (ℕ → ℕ) → List ℕ → Actor
written y editions [] = y
written y editions (l ∷ ls) = written (ask y y.place (word.AskWrite l (editions l + 1))) editions ls

abbrev pub Accepts : Type 0 → Type 0
Accepts V =
    (a : ℕ) (w : World V) (asked : CollectionCall V) →
    let c = content w.words w.blocks in
    let x = w.boosted.shadows a in
    let o = outcome_at w a asked in
    let u = acted w (Accept a asked ∷ []) in
    Allows c w.boosted (Accept a asked)
    → (actor_of u a ≡ written (actor_of w a) x.editions (c.writes o)) × (u.boosted.shadows a ≡ longer x o)

-- the store of a call's gate, at which the parts that it touches are copied, but for those that have been read
abbrev pub PutsBack : Type 0 → Type 0
PutsBack V =
    (a : ℕ) (w : World V) (asked : CollectionCall V) →
    let c = content w.words w.blocks in
    let which = covers_at w.words w.blocks asked in
    Allows c w.boosted (PutGate a asked.collection which) → is_open (actor_of w a).place ≡ true
    → (put_back a w asked).boosted.shadows a
    ≡ copied c w.boosted (actor_of w a).calls (w.boosted.shadows a) asked.collection which
