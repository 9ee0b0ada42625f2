-- Whether what was read of some locations stands: with the editions of a copy each was read as it is now, or one was read otherwise, and
-- then the transaction is doomed. The same of what the sets have, which is asked without a step.
use Rattle.std.proofs.Common.{◌≡◌, ◌⊎◌, ℕ, ◌+◌, Bool, true, false, eq-eqb, List, [], ◌∷◌, Option, Some, None, inl, inr, refl, sym, ap}
use Rattle.std.proofs.Common.{subst, ◌∙◌, eqb, ne_eqb}
use Rattle.std.proofs.lemmas.Bool.{cases_eq, cond-true, cond-false}
use Rattle.std.proofs.lemmas.Option.{none-some, same_Some}
use Rattle.tx_sets.specs.Entries.{Entries, lookup}
use Rattle.tx_machine.specs.Actor.{Call}
use Rattle.tx_machine.specs.Opacity.{first_read}
use Rattle.tx_machine.specs.Content.{IsIn}
use Rattle.replay_log.specs.Contents.{shifted}
use Rattle.replay_log.specs.Worlds.{differs, is_stale, with_editions}
use Rattle.actor_parts.specs.LoadInWorld.{IsDoomed}

-- each of these locations was read with this edition where it was read, or one was read with another
pub judged_by : (read : ℕ → Option ℕ) (cs : List Call) (editions : ℕ → ℕ) (f : ℕ) (ls : List ℕ) → ((l : ℕ) → read l ≡ first_read cs l)
    → ((i e : ℕ) → IsIn i ls → read (f + i) ≡ Some e → e ≡ editions (f + i)) ⊎ IsDoomed cs (with_editions editions (shifted f ls))
judged_by read cs editions f [] is = inl (λ i e m r. absurd m)
judged_by read cs editions f (l ∷ ls) is = by (read (f + l)) refl (judged_by read cs editions f ls is)
  where
    here : (i e : ℕ) → i ≡ l → read (f + i) ≡ Some e → ((v : ℕ) → read (f + l) ≡ Some v → v ≡ editions (f + l)) → e ≡ editions (f + i)
    here i e same r one = subst (λ j. read (f + j) ≡ Some e → e ≡ editions (f + j)) (sym same) (one e) r

    more : ((v : ℕ) → read (f + l) ≡ Some v → v ≡ editions (f + l)) → ((i e : ℕ) → IsIn i ls → read (f + i) ≡ Some e → e ≡ editions (f + i))
        → (i e : ℕ) → IsIn i (l ∷ ls) → read (f + i) ≡ Some e → e ≡ editions (f + i)
    more one rest i e m r = elim m [ inl same ↦ here i e same r one | inr there ↦ rest i e there r ]

    by : (o : Option ℕ) → read (f + l) ≡ o
        → ((i e : ℕ) → IsIn i ls → read (f + i) ≡ Some e → e ≡ editions (f + i)) ⊎ IsDoomed cs (with_editions editions (shifted f ls))
        → ((i e : ℕ) → IsIn i (l ∷ ls) → read (f + i) ≡ Some e → e ≡ editions (f + i))
        ⊎ IsDoomed cs (with_editions editions (shifted f (l ∷ ls)))
    by o e (inr doomed) = inr (inr doomed)
    by None e (inl rest) = inl (more (λ v r. absurd (none-some v (sym e ∙ r))) rest)
    by (Some v) e (inl rest) =
        elim (cases_eq v (editions (f + l))) [
          | inl same ↦ inl (more (λ u r. same_Some u v (sym r ∙ e) ∙ same) rest)
          | inr ne ↦ inr (inl (v, sym (is (f + l)) ∙ e, ne))
        ]

-- ---- without a step
pub not_stale : (reads : Entries) (editions : ℕ → ℕ) (f : ℕ) (ls : List ℕ)
    → ((i v : ℕ) → IsIn i ls → lookup reads (f + i) ≡ Some v → v ≡ editions (f + i))
    → is_stale reads (with_editions editions (shifted f ls)) ≡ false
not_stale reads editions f [] each = refl
not_stale reads editions f (l ∷ ls) each =
    by (lookup reads (f + l)) refl (not_stale reads editions f ls (λ i u m r. each i u (inr m) r))
  where
    rest : Bool
    rest = is_stale reads (with_editions editions (shifted f ls))

    by : (o : Option ℕ) → lookup reads (f + l) ≡ o → rest ≡ false → differs (f + l, editions (f + l)) rest o ≡ false
    by None e others = refl
    by (Some v) e others =
        cond-true (eqb (editions (f + l)) v) rest true (eq-eqb (editions (f + l)) v (sym (each l v (inl refl) e))) ∙ others

pub one_stale : (reads : Entries) (editions : ℕ → ℕ) (f l e : ℕ) → lookup reads (f + l) ≡ Some e → (e ≡ editions (f + l) → ⊥)
    → is_stale reads (with_editions editions (shifted f (l ∷ []))) ≡ true
one_stale reads editions f l e is ne =
    ap (differs (f + l, editions (f + l)) false) is
    ∙ cond-false (eqb (editions (f + l)) e) false true (ne_eqb (editions (f + l)) e (λ same. ne (sym same)))
