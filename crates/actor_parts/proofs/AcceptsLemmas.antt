-- An accepted call asks its writes one after another: each puts the actor anew (`put-same`), and no step comes between.
use Rattle.std.proofs.Common.{◌≡◌, ℕ, ◌+◌, Bool, true, false, ◌&&◌, cond, List, [], ◌∷◌, refl, sym, ap, ◌∙◌, true≢false}
use Rattle.tx_machine.specs.Actor.{Actor}
use Rattle.tx_machine.specs.Requests as word
use Rattle.tx_machine.specs.Requests.{ask}
use Rattle.tx_machine.specs.World as machine
use Rattle.tx_machine.proofs.Sets.{put-same}
use Rattle.tx_machine.specs.Boosted.{Boosted, writes_asked, longer}
use Rattle.replay_log.specs.Contents.{content}
use Rattle.replay_log.specs.Worlds.{outcome_at}
use Rattle.actor_parts.specs.Accepts.{Accepts, written}

runs_writes : (a : ℕ) (editions : ℕ → ℕ) (ls : List ℕ) (s : machine.World) (y : Actor) → s.actors a ≡ y
    → (machine.run (writes_asked a editions ls) s).actors a ≡ written y editions ls
runs_writes a editions [] s y e = e
runs_writes a editions (l ∷ ls) s y e =
    runs_writes a editions ls (machine.now s a (ask (s.actors a) (s.actors a).place (word.AskWrite l (editions l + 1))))
    (ask y y.place (word.AskWrite l (editions l + 1)))
    (put-same s.actors a _ ∙ ap (λ (z : Actor). ask z z.place (word.AskWrite l (editions l + 1))) e)

all_true : (p q r : Bool) → p ≡ true → q ≡ true → r ≡ true → (p && (q && r)) ≡ true
all_true true true true e f g = refl
all_true false q r e f g = absurd (true≢false (sym e))
all_true true false r e f g = absurd (true≢false (sym f))
all_true true true false e f g = absurd (true≢false (sym g))

-- of a guarded change that is made
pub made : {X Y : Type 0} (f : X → Y) (b : Bool) (s t : X) → b ≡ true → f (cond b s t) ≡ f s
made f true s t e = refl
made f false s t e = absurd (true≢false (sym e))

module _ {V : Type 0} where
  pub accepts : Accepts V
  accepts a w asked guard =
      let c = content w.words w.blocks in
      let s = w.boosted in
      let x = s.shadows a in
      let o = outcome_at w a asked in
      let is = all_true _ _ _ guard.0 guard.1 guard.2 in (
        made (λ (z : Boosted _ _). z.words.actors a) _ _ s is
            ∙ runs_writes a x.editions (c.writes o) s.words (s.words.actors a) refl,
        made (λ (z : Boosted _ _). z.shadows a) _ _ s is ∙ put-same s.shadows a (longer x o),
      )
