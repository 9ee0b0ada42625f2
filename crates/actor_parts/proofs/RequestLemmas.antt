-- The room of a set, as the definitions of a world ask for it, is what the words ask for; and what keeps an actor does so twice.
use Rattle.std.proofs.Common.{◌≡◌, ℕ, ◌+◌, cond, ltb, leb, Bool, true, Option, Some, None, [], ◌∷◌, length, refl, sym, ap, ◌∙◌, arith}
use Rattle.std.proofs.lemmas.Bool.Decides.{nat_tests}
use Rattle.tx_sets.specs.Entries.{Entries, lookup}
use Rattle.step_core.specs.Phases.{if_new}
use Rattle.step_core.specs.Sound.{Keeps}
use Rattle.step_core.specs.declared.actor.Actor.{Actor}
use Rattle.step_core.specs.declared.answer.WordRefusal.TheVariants.{TooLong}
use Rattle.tx_machine.specs.Boosted.{is_none}
use Rattle.replay_log.specs.Worlds.{fits}

is_below : (n : ℕ) → leb (n + 1) 4096 ≡ true → ltb n 4096 ≡ true
is_below n h = grind (arith, nat_tests)

pub may_be_new : (es : Entries) (l : ℕ) → fits es (l ∷ []) ≡ true → if_new (lookup es l) None es ≡ None
may_be_new es l h = go (lookup es l) refl
  where
    go : (o : Option ℕ) → lookup es l ≡ o → if_new (lookup es l) None es ≡ None
    go (Some v) e = ap (λ (q : Option ℕ). if_new q None es) e
    go None e =
        let few : leb (length es + 1) 4096 ≡ true =
        sym (ap (λ (q : Option ℕ). leb (length es + length (cond (is_none q) (l ∷ []) [])) 4096) e) ∙ h in
        ap (λ (q : Option ℕ). if_new q None es) e
        ∙ ap (λ (b : Bool). cond b None (Some TooLong)) (is_below (length es) few)

pub keeps_then : (x y z : Actor) → Keeps x y → Keeps y z → Keeps x z
keeps_then x y z p q = record {
  fits = λ n f. q.fits n (p.fits n f);
  owed = omega (arith, p.owed, q.owed);
  due = omega (arith, p.due, q.due);
}
