-- Attempts that are counted, one after another.
use Rattle.std.proofs.Common.{◌≡◌, ℕ, ◌+◌, ◌≤◌, List, [], ◌∷◌, ◌++◌, length, Err, refl, sym, ap, ◌∙◌, subst}
use Rattle.std.specs.Prelude.{All, Result, max}
use Rattle.std.proofs.lemmas.List.Elements.{All-append, All-cons, All-nil}
use Rattle.std.proofs.lemmas.List.{length_push}
use Rattle.seq_model.specs.declared.refusal.Refusal.{Refusal}
use Rattle.seq_model.specs.Refusals.{IsConflict}
use Rattle.seq_model.specs.declared.failure.Failure.{Failure}
use Rattle.seq_model.specs.declared.failure.Failure.TheVariants.{Refused}
use Rattle.tx_client.specs.declared.tally.Tally.{Tally}
use Rattle.tx_client.specs.Tallies.{AreCounted, with_end, with_refusal, with_refusals}

-- the attempts so far are so many, and the last of them ended so
pub record AreSoFar {A E : Type 0} (tries : ℕ) (before after : Tally) (r : Result A (Failure E)) : Type 0 where
  pub causes : List Refusal
  pub many : length causes + 1 ≡ tries
  pub conflicts : All IsConflict causes
  pub counted : after ≡ with_end (with_refusals before causes) r

with_one_more : (t : Tally) (causes : List Refusal) (cause : Refusal)
    → with_refusals t (causes ++ cause ∷ []) ≡ with_refusal (with_refusals t causes) cause
with_one_more t [] cause = refl
with_one_more t (c ∷ causes) cause = with_one_more (with_refusal t c) causes cause

module _ {A E : Type 0} where
  pub first_end : (t u : Tally) (r : Result A (Failure E)) → u ≡ with_end t r → AreSoFar 1 t u r
  first_end t u r e = record { causes = []; many = refl; conflicts = All-nil IsConflict; counted = e }

  pub next_end : (n : ℕ) (t m u : Tally) (last : Result A (Failure E)) (cause : Refusal) (r : Result A (Failure E))
      → last ≡ Err (Refused cause) → IsConflict cause → AreSoFar n t m last → u ≡ with_end m r → AreSoFar (n + 1) t u r
  next_end n t m u last cause r is conflict h e =
      let m_is : m ≡ with_refusals t (h.causes ++ cause ∷ []) =
      h.counted ∙ ap (λ (x : Result A (Failure E)). with_end (with_refusals t h.causes) x) is ∙ sym (with_one_more t h.causes cause) in
      record {
        causes = h.causes ++ cause ∷ [];
        many = ap (λ k. k + 1) (length_push h.causes cause ∙ h.many);
        conflicts = All-append IsConflict h.causes (cause ∷ []) h.conflicts
            (All-cons IsConflict cause [] conflict (All-nil IsConflict));
        counted = e ∙ ap (λ (x : Tally). with_end x r) m_is;
      }

  pub all_ends : (n tries : ℕ) (t u : Tally) (r : Result A (Failure E)) → n ≤ max tries 1 → AreSoFar n t u r → AreCounted tries t u r
  all_ends n tries t u r l h = record {
    causes = h.causes;
    few = subst (λ k. k ≤ max tries 1) (sym h.many) l;
    conflicts = h.conflicts;
    counted = h.counted;
  }
