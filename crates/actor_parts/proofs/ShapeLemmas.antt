-- A step on a table leaves its shape: as many words, gates and bases, and each base of its kind, stripes and locations.
use Rattle.std.proofs.Common.{◌≡◌, ℕ, List, Some, length, get_or, set, sym, ap, ◌∙◌, subst, inl, inr, arith}
use Rattle.std.specs.Prelude.{slice_get}
use Rattle.std.proofs.lemmas.Bool.{cases_eq}
use Rattle.std.proofs.lemmas.List.{length-set}
use Rattle.std.proofs.lemmas.Option.{get_or_from_slice_get, slice_get-get_or, slice_get_within}
use Rattle.std.proofs.Common.{get_or-set_other, get_or-set_same}
use Rattle.conflict.specs.declared.change.Change.{Change}
use Rattle.replay_log.specs.declared.base.Base.{Base}
use Rattle.replay_log.specs.Base.{editions_of, shown_of}
use Rattle.replay_log.specs.Contents.{Block, block_of}
use Rattle.replay_log.specs.Parts.{kind_of}
use Rattle.actor_laws.specs.Bases.{IsBaseOf, IsFolded}
use Rattle.actor_laws.proofs.Bases.{kind_stays, raised_long}
use Rattle.actor_parts.specs.Openings.{HasShape}
use Rattle.actor_parts.specs.declared.table.Table.{Table}

module _ {V : Type 0} (t u : Table V) (n : ℕ) (bs : List Block) where
  -- where no base has changed
  pub keeps_shape : length u.cells.locks.items ≡ length t.cells.locks.items → length u.cells.values.items ≡ length t.cells.values.items
      → length u.gates.items ≡ length t.gates.items → u.bases ≡ t.bases → HasShape t n bs → HasShape u n bs
  keeps_shape ls vs gs same h = record {
    locks = ls ∙ h.locks;
    values = vs ∙ h.values;
    gates = gs ∙ h.gates;
    bases = ap (λ x. length x.items) same ∙ h.bases;
    fit = λ k b base at got. h.fit k b base at (subst (λ x. slice_get x.items k ≡ Some base) same got);
  }

  -- a log folded in leaves a base its kind and shape
  folded_fits : (b : Block) (changes : List (Change V)) (locations : List ℕ) (before now : Base V) → IsFolded changes locations before now
      → IsBaseOf b before → IsBaseOf b now
  folded_fits b changes locations before now folded fit = record {
    kind = ap kind_of folded.shown ∙ kind_stays changes (shown_of before) ∙ fit.kind;
    stripes = folded.stripes ∙ fit.stripes;
    wide = ap length folded.editions.3 ∙ raised_long folded.editions.0 (editions_of before) ∙ fit.wide;
  }

  -- and where a base was put back
  pub keeps_shape_home : (k : ℕ) (before now : Base V) (changes : List (Change V)) (locations : List ℕ) → u.cells ≡ t.cells
      → length u.gates.items ≡ length t.gates.items → u.bases.items ≡ set t.bases.items k now → slice_get t.bases.items k ≡ Some before
      → IsFolded changes locations before now → HasShape t n bs → HasShape u n bs
  keeps_shape_home k before now changes locations cs gs us there folded h = record {
    locks = ap (λ z. length z.locks.items) cs ∙ h.locks;
    values = ap (λ z. length z.values.items) cs ∙ h.values;
    gates = gs ∙ h.gates;
    bases = ap length us ∙ length-set t.bases.items k now ∙ h.bases;
    fit = λ j b base at got. fit_at j b base at (subst (λ x. slice_get x j ≡ Some base) us got);
  }
    where
      fit_at : (j : ℕ) (b : Block) (base : Base V) → block_of bs j ≡ Some b → slice_get (set t.bases.items k now) j ≡ Some base
          → IsBaseOf b base
      fit_at j b base at got = elim (cases_eq j k) [
        | inl q ↦ (
            let inn = slice_get_within t.bases.items k before there in
            let is : now ≡ base = sym (get_or-set_same t.bases.items k now base inn)
            ∙ ap (λ (i : ℕ). get_or (set t.bases.items k now) i base) (sym q)
            ∙ get_or_from_slice_get (set t.bases.items k now) j base base got in
            subst (IsBaseOf b) is (folded_fits b changes locations before now folded
            (h.fit k b before (subst (λ (i : ℕ). block_of bs i ≡ Some b) q at) there)))
        | inr ne ↦ (
            let low = slice_get_within (set t.bases.items k now) j base got in
            let long = length-set t.bases.items k now in
            h.fit j b base at (slice_get-get_or t.bases.items j base (omega (arith, low, long))
            ∙ ap Some (sym (get_or-set_other t.bases.items k j now base ne)
            ∙ get_or_from_slice_get (set t.bases.items k now) j base base got)))
      ]
