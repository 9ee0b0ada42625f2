-- Lines that begin with an actor, and those that begin with `alt`.
use Rattle.std.proofs.Common.{
  rules,
  arith,
  map,
  Bor,
  Option,
  Some,
  length,
  slice_index_or,
  inl,
  inr,
  refl,
  sym,
  ◌∙◌,
  codes,
  ◌≡◌,
  ℕ,
  ◌<◌,
  ◌^◌,
  ◌≤◌,
  List,
  [],
  ◌∷◌,
}
use Rattle.std.proofs.lemmas.Fmt.{decimal_injective}
use Rattle.text_formats.specs.declared.script.EventLine.{EventLine}
use Rattle.text_formats.specs.declared.script.EventLine.TheVariants.{Ask, Do, Steps, Starve, Alternate}
use Rattle.text_formats.specs.Events.{IsActor, IsAlternation, IsEvent, IsEventOf}
use Rattle.text_formats.proofs.NumberLemmas.{lead_digit}

small : (token : List ℕ) (actor : ℕ) → IsActor token actor → actor < 2 ^ 64
small token actor is = omega (arith, is.1)

alt_is_no_actor : (actor : ℕ) → IsActor (codes "alt") actor → ⊥
alt_is_no_actor actor is = search (rules, lead_digit actor (codes "alt") (small (codes "alt") actor is) is.2 refl)

one_actor : (token : List ℕ) (a b : ℕ) → IsActor token a → IsActor token b → a ≡ b
one_actor token a b is-a is-b = decimal_injective a b (small token a is-a) (small token b is-b) (sym is-a.2 ∙ is-b.2)

alt_event : (word one other : List ℕ) (line : EventLine) → word ≡ codes "alt" → IsEvent (word ∷ one ∷ other ∷ []) line
    → IsAlternation (codes "alt" ∷ one ∷ other ∷ []) line
alt_event word one other line alt (inl is) = rw (sym alt) is
alt_event word one other line alt (inr is) = absurd (alt_is_no_actor is.0 (rw (sym alt) is.1))

no_alternation : (actor : ℕ) (token : List ℕ) (tokens : List (List ℕ)) (line : EventLine) → IsActor token actor
    → IsAlternation (token ∷ tokens) line → ⊥
no_alternation actor token [] line is alternation = elim alternation [ ]
no_alternation actor token (one ∷ []) line is alternation = elim alternation [ ]
no_alternation actor token (one ∷ (other ∷ [])) (Ask a request) is alternation = elim alternation [ ]
no_alternation actor token (one ∷ (other ∷ [])) (Do a request) is alternation = elim alternation [ ]
no_alternation actor token (one ∷ (other ∷ [])) (Steps a n) is alternation = elim alternation [ ]
no_alternation actor token (one ∷ (other ∷ [])) (Starve a) is alternation = elim alternation [ ]
no_alternation actor token (one ∷ (other ∷ (more ∷ tokens))) line is alternation = elim alternation [ ]
no_alternation actor token (one ∷ other ∷ []) (Alternate first second) is alternation = alt_is_no_actor actor (rw alternation.0 at is)

pub actor_event : (actor : ℕ) (token : List ℕ) (tokens : List (List ℕ)) (line : EventLine) → IsActor token actor
    → IsEvent (token ∷ tokens) line
    → IsEventOf actor tokens line
actor_event actor token tokens line is (inl alternation) = absurd (no_alternation actor token tokens line is alternation)
actor_event actor token tokens line is (inr event) = rw (one_actor token actor event.0 is event.1) event.2

-- three tokens, of which the first is `alt`
pub alternation_of : (ts : List (Bor (List ℕ))) (d : Bor (List ℕ)) (r : Option EventLine) (line : EventLine) → length ts < 4 → 3 ≤ length ts
    → (slice_index_or ts 0 d).now ≡ codes "alt"
    → ((l : EventLine) → IsAlternation (codes "alt" ∷ (slice_index_or ts 1 d).now ∷ (slice_index_or ts 2 d).now ∷ []) l → r ≡ Some l)
    → IsEvent (map (λ token. token.now) ts) line → r ≡ Some line
alternation_of [] d r line below least alt only event = absurd (omega (arith, least))
alternation_of (a ∷ []) d r line below least alt only event = absurd (omega (arith, least))
alternation_of (a ∷ (b ∷ [])) d r line below least alt only event = absurd (omega (arith, least))
alternation_of (a ∷ (b ∷ (e ∷ []))) d r line below least alt only event = only line (alt_event a.now b.now e.now line alt event)
alternation_of (a ∷ (b ∷ (e ∷ (f ∷ ts)))) d r line below least alt only event = absurd (omega (arith, below))
