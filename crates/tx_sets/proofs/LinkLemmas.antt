-- The links of a set: the locations that are linked are those that have an entry. What is put anew is linked to the last location that has
-- its chain, and the links of the others remain.
use Rattle.std.proofs.Common.{◌≡◌, ℕ, ◌+◌, ◌-◌, ◌<◌, ◌≤◌, List, [], ◌∷◌, ◌++◌, get_or, set, length, None, ap, sym, ◌∙◌, subst}
use Rattle.std.proofs.Common.{arith, inl, inr, Ok, Err}
use Rattle.std.specs.List.{insert}
use Rattle.std.proofs.lemmas.Bool.{cases_eq}
use Rattle.std.proofs.lemmas.List.{get_or-set_same, get_or-set_other, get_or_append_left, get_or_at, length-append}
use Rattle.tx_sets.specs.AccessSet.{AreLinked, HasLinks, HaveSameLocations, IsHead, IsLast, IsPositionOf, chain_of}
use Rattle.tx_sets.specs.declared.access_set.TheConstants.{LOCATION_LIMIT, CHAINS}
use Rattle.tx_sets.specs.Entries.{Entries, lookup, with_entry, IsRising}
use Rattle.tx_sets.proofs.PositionLemmas.{lookup_there, orderly_there, orderly_new, put_new, write_there}
use Rattle.tx_sets.proofs.EntryLemmas.{lookup-nil, lookup-with_entry_same, lookup-with_entry_other}

-- a set without entries
pub no_links : (heads : List ℕ) (links es : Entries) → links ≡ [] → es ≡ [] → HasLinks heads links es
no_links heads links es none empty =
    let no = ap (λ (z : Entries). length z) none in
    let nothing = ap (λ (z : Entries). length z) empty in
    record {
      orderly = record { rising = subst IsRising (sym empty) tt; within = omega (arith, nothing) };
      headed = λ r lt k d inside same. absurd (omega (arith, inside, no));
      linked = λ i d inside. absurd (omega (arith, inside, no));
      same = λ l. (
        (λ lacks. ap (λ (z : Entries). lookup z l) empty ∙ lookup-nil l),
        (λ gone k d inside at. absurd (omega (arith, inside, no))),
      );
    }

-- one more location linked leaves the last ones before it
last_stays : (links : Entries) (x : ℕ × ℕ) (r n p : ℕ) → n ≤ length links → IsLast links r n p → IsLast (links ++ x ∷ []) r n p
last_stays links x r n p within is = (
  is.0,
  (λ k d inside same. is.1 k d inside
      (ap (λ (e : ℕ × ℕ). chain_of e.0) (sym (get_or_append_left links (x ∷ []) d k (omega (arith, inside, within)))) ∙ same)),
  (λ d some.
      ap (λ (e : ℕ × ℕ). chain_of e.0) (get_or_append_left links (x ∷ []) d (p - 1) (omega (arith, some, is.0, within)))
      ∙ is.2 d some),
)

length_more : (links : Entries) (x : ℕ × ℕ) → length (links ++ x ∷ []) ≡ length links + 1
length_more links x = length-append links (x ∷ [])

-- the heads once one more is linked
heads_more : (heads : List ℕ) (links : Entries) (l b m : ℕ) → chain_of l < length heads → m ≡ length links + 1
    → ((r : ℕ) → r < CHAINS → IsHead links r (get_or heads r 0)) → (r : ℕ) → r < CHAINS
    → IsHead (links ++ (l, b) ∷ []) r (get_or (set heads (chain_of l) m) r 0)
heads_more heads links l b m inside is before r lt k d within like =
    let all = length_more links (l, b) in
    elim (cases_eq r (chain_of l)) [
      | inl q ↦
          let head : get_or (set heads (chain_of l) m) r 0 ≡ m =
          ap (λ (k : ℕ). get_or (set heads (chain_of l) m) k 0) q ∙ get_or-set_same heads (chain_of l) m 0 inside in (
            omega (arith, head, is, all),
            (λ k d below same. omega (arith, below, head, is, all)),
            (λ d some.
                ap (λ (e : ℕ × ℕ). chain_of e.0)
                (get_or_at links (l, b) [] d (get_or (set heads (chain_of l) m) r 0 - 1) (omega (arith, head, is)))
                ∙ sym q),
          )
      | inr ne ↦
          let head : get_or (set heads (chain_of l) m) r 0 ≡ get_or heads r 0 = get_or-set_other heads (chain_of l) r m 0 ne in
          let apart : (j : ℕ) (c : ℕ × ℕ) → chain_of (get_or (links ++ (l, b) ∷ []) j c).0 ≡ r → j ≡ length links → ⊥ =
          λ j c same end. ne (sym same ∙ ap (λ (e : ℕ × ℕ). chain_of e.0) (get_or_at links (l, b) [] c j (sym end))) in
          let below : k < length links = omega (arith, within, all, apart k d like) in
          let old = before r lt k d below
          (ap (λ (e : ℕ × ℕ). chain_of e.0) (sym (get_or_append_left links ((l, b) ∷ []) d k below)) ∙ like) in
          let stays = last_stays links (l, b) r (length links) (get_or heads r 0) (omega arith) old in
          subst (λ (p : ℕ). IsLast (links ++ (l, b) ∷ []) r (length (links ++ (l, b) ∷ [])) p) (sym head) (
            omega (arith, stays.0, all),
            (λ j c inside same. stays.1 j c (omega (arith, inside, all, apart j c same)) same),
            stays.2,
          )
    ]

linked_more : (links : Entries) (l b : ℕ) → AreLinked links → IsLast links (chain_of l) (length links) b → AreLinked (links ++ (l, b) ∷ [])
linked_more links l b linked last i d inside =
    let all = length_more links (l, b) in
    elim (cases_eq i (length links)) [
      | inl q ↦
          let x : get_or (links ++ (l, b) ∷ []) i d ≡ (l, b) = get_or_at links (l, b) [] d i (sym q) in
          subst (λ (e : ℕ × ℕ). IsLast (links ++ (l, b) ∷ []) (chain_of e.0) i e.1) (sym x)
          (subst (λ (n : ℕ). IsLast (links ++ (l, b) ∷ []) (chain_of l) n b) (sym q)
          (last_stays links (l, b) (chain_of l) (length links) b (omega arith) last))
      | inr ne ↦
          let x : get_or (links ++ (l, b) ∷ []) i d ≡ get_or links i d =
          get_or_append_left links ((l, b) ∷ []) d i (omega (arith, inside, all, ne)) in
          subst (λ (e : ℕ × ℕ). IsLast (links ++ (l, b) ∷ []) (chain_of e.0) i e.1) (sym x)
          (last_stays links (l, b) (chain_of (get_or links i d).0) i (get_or links i d).1 (omega (arith, inside, all, ne))
          (linked i d (omega (arith, inside, all, ne))))
    ]

-- Which locations lack a link and an entry, where one is set that has both.
still_same : (es links : Entries) (l v : ℕ) → (lookup es l ≡ None → ⊥) → HaveSameLocations links es
    → HaveSameLocations links (with_entry es l v)
still_same es links l v there same k =
    elim (cases_eq k l) [
      | inl q ↦
          let put = ap (lookup (with_entry es l v)) q ∙ lookup-with_entry_same es l v in (
            (λ lacks. absurd (there (ap (lookup es) (sym q) ∙ (same k).0 lacks))),
            (λ none. absurd (let b : ⊥ = cc in b)),
          )
      | inr ne ↦
          let other = lookup-with_entry_other es l v k ne in
          ((λ lacks. other ∙ (same k).0 lacks), (λ none. (same k).1 (sym other ∙ none)))
    ]

-- And where one is put that gets both.
newly_same : (es links : Entries) (l v b : ℕ) → HaveSameLocations links es → HaveSameLocations (links ++ (l, b) ∷ []) (with_entry es l v)
newly_same es links l v b same k =
    let all = length_more links (l, b) in
    elim (cases_eq k l) [
      | inl q ↦
          let put = ap (lookup (with_entry es l v)) q ∙ lookup-with_entry_same es l v in (
            (λ lacks. absurd (lacks (length links) (l, b) (omega (arith, all))
                (ap (λ (e : ℕ × ℕ). e.0) (get_or_at links (l, b) [] (l, b) (length links) (omega arith)) ∙ sym q))),
            (λ none. absurd (let b : ⊥ = cc in b)),
          )
      | inr ne ↦
          let other = lookup-with_entry_other es l v k ne in
          let before : (j : ℕ) (c : ℕ × ℕ) → j < length links → (get_or (links ++ (l, b) ∷ []) j c).0 ≡ (get_or links j c).0 =
          λ j c below. ap (λ (e : ℕ × ℕ). e.0) (get_or_append_left links ((l, b) ∷ []) c j below) in
          let last : (j : ℕ) (c : ℕ × ℕ) → (get_or (links ++ (l, b) ∷ []) j c).0 ≡ k → j ≡ length links → ⊥ =
          λ j c at end. ne (sym at ∙ ap (λ (e : ℕ × ℕ). e.0) (get_or_at links (l, b) [] c j (sym end))) in (
            (λ lacks. other ∙ (same k).0 (λ j c below at. lacks j c (omega (arith, below, all)) (before j c below ∙ at))),
            (λ none j c inside at.
                let below : j < length links = omega (arith, inside, all, last j c at) in
                (same k).1 (sym other ∙ none) j c below (sym (before j c below) ∙ at)),
          )
    ]

-- an entry whose location is linked
pub links_there : (es : Entries) (heads : List ℕ) (links : Entries) (l v i : ℕ) (d : ℕ × ℕ) → HasLinks heads links es
    → IsPositionOf l es (Ok i) → d ≡ get_or es i d → HasLinks heads links (set es i (d.0, v))
links_there es heads links l v i d are place is =
    let found = lookup_there es l i d are.orderly.rising place.0 place.1 in
    record {
      orderly = orderly_there es l v i d are.orderly place is;
      headed = are.headed;
      linked = are.linked;
      same =
          subst (HaveSameLocations links) (sym (write_there es l v i d are.orderly.rising place is))
          (still_same es links l v (λ none. let b : ⊥ = cc in b) are.same);
    }

-- a new entry, whose location is then linked
pub links_new : (es fs gs : Entries) (heads : List ℕ) (links more : Entries) (l v i q b m : ℕ) → HasLinks heads links es
    → q ≡ chain_of l → q < length heads → IsPositionOf l es (Err i) → fs ≡ es → gs ≡ insert fs i (l, v) → length es < LOCATION_LIMIT
    → IsLast links q (length links) b → m ≡ length links + 1 → more ≡ links ++ (l, b) ∷ [] → HasLinks (set heads q m) more gs
links_new es fs gs heads links more l v i q b m are at inside place same is fewer last end put =
    let within : chain_of l < length heads = omega (arith, inside, at) in
    subst (λ (z : Entries). HasLinks (set heads q m) z gs) (sym put)
    (subst (λ (c : ℕ). HasLinks (set heads c m) (links ++ (l, b) ∷ []) gs) (sym at)
    (record {
      orderly = orderly_new es fs gs l v i are.orderly place same is fewer;
      headed = heads_more heads links l b m within end are.headed;
      linked = linked_more links l b are.linked (subst (λ (c : ℕ). IsLast links c (length links) b) at last);
      same =
          subst (HaveSameLocations (links ++ (l, b) ∷ [])) (sym (put_new es fs gs l v i place same is))
          (newly_same es links l v b are.same);
    }))
