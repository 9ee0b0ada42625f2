-- The changes of an update, read one after another. The first token of a change says of which form it is, and so how many tokens it has;
-- what stands after them is the rest. So what is left of the tokens begins with the change that was read, and its changes are that one and
-- those of the rest.
use Rattle.std.proofs.Common.{rules, arith, refl, sym, ap, ◌∙◌, ◌≡◌, ℕ, ◌≤◌, ◌-◌, List, [], ◌∷◌, ◌++◌, append_assoc, append-nil, Bor}
use Rattle.std.proofs.Common.{slice_index_or, length, take, take_all, drop, codes}
use Rattle.vac_model.specs.declared.action.Change.{Change}
use Rattle.vac_model.specs.declared.action.Change.TheVariants.{Add, TakeCar, TakeRoom, DropFlight}
use Rattle.text_formats.specs.Tokens.{texts}
use Rattle.text_formats.specs.SessionLines.{AreChanges, AreMore, Begins, change_tokens}

pub add_only : (change : Change) (behind rest : List (List ℕ)) (kind id units price : List ℕ)
    → codes "add" ∷ kind ∷ id ∷ units ∷ price ∷ rest ≡ change_tokens change ++ behind
    → (codes "add" ∷ kind ∷ id ∷ units ∷ price ∷ [] ≡ change_tokens change) × (rest ≡ behind)
add_only (Add k i u p) behind rest kind id units price e = search (rules, e)
add_only (TakeCar i u) behind rest kind id units price e = search (rules, e)
add_only (TakeRoom i u) behind rest kind id units price e = search (rules, e)
add_only (DropFlight i) behind rest kind id units price e = search (rules, e)

pub take_only : (change : Change) (behind rest : List (List ℕ)) (kind id units : List ℕ)
    → codes "take" ∷ kind ∷ id ∷ units ∷ rest ≡ change_tokens change ++ behind
    → (codes "take" ∷ kind ∷ id ∷ units ∷ [] ≡ change_tokens change) × (rest ≡ behind)
take_only (Add k i u p) behind rest kind id units e = search (rules, e)
take_only (TakeCar i u) behind rest kind id units e = search (rules, e)
take_only (TakeRoom i u) behind rest kind id units e = search (rules, e)
take_only (DropFlight i) behind rest kind id units e = search (rules, e)

pub drop_only : (change : Change) (behind rest : List (List ℕ)) (id : List ℕ)
    → codes "drop" ∷ id ∷ rest ≡ change_tokens change ++ behind
    → (codes "drop" ∷ id ∷ [] ≡ change_tokens change) × (rest ≡ behind)
drop_only (Add k i u p) behind rest id e = search (rules, e)
drop_only (TakeCar i u) behind rest id e = search (rules, e)
drop_only (TakeRoom i u) behind rest id e = search (rules, e)
drop_only (DropFlight i) behind rest id e = search (rules, e)

-- ---- the first change has been read: these tokens stand after it
module _ (tokens behind : List (List ℕ)) (first : Change) (changes : List Change) (is : changes ≡ first ∷ []) where
  pub first_front : Begins tokens first behind → (more : List Change) → AreMore behind more → AreChanges tokens (changes ++ more)
  first_front begins more h = rw is (behind, begins, h)

  pub first_back : ((change : Change) (rest : List (List ℕ)) → Begins tokens change rest → (first ≡ change) × (behind ≡ rest))
      → (all : List Change) → AreChanges tokens all → (more : List Change) × AreMore behind more × (all ≡ changes ++ more)
  first_back only [] h = elim h [ ]
  first_back only (change ∷ more) h =
      let same = only change h.0 h.1 in
      (more, rw same.1 h.2, rw is (ap (λ c. c ∷ more) (sym same.0)))

-- ---- one change more has been read: `and` and these tokens were left before it
module _ (tokens left behind : List (List ℕ)) (before after : List Change) (change : Change)
    (cut : left ≡ codes "and" ∷ tokens) (is : after ≡ before ++ change ∷ []) where
  pub more_front : (all : List (List ℕ)) → Begins tokens change behind
      → ((more : List Change) → AreMore left more → AreChanges all (before ++ more))
      → (more : List Change) → AreMore behind more → AreChanges all (after ++ more)
  more_front all begins front more h =
      rw (is, append_assoc before (change ∷ []) more) (front (change ∷ more) (rw cut (refl, (behind, begins, h))))

  pub more_back : ((c : Change) (rest : List (List ℕ)) → Begins tokens c rest → (change ≡ c) × (behind ≡ rest)) → (all : List Change)
      → (more : List Change) × AreMore left more × (all ≡ before ++ more)
      → (more : List Change) × AreMore behind more × (all ≡ after ++ more)
  more_back only all f = next_changes all f.0 (rw cut at f.1) f.2
    where
      next_changes : (all more : List Change) → AreMore (codes "and" ∷ tokens) more → all ≡ before ++ more
          → (rest : List Change) × AreMore behind rest × (all ≡ after ++ rest)
      next_changes all [] h e = elim h [ ]
      next_changes all (c ∷ more) h e =
          let same = only c h.1.0 h.1.1 in (
            more,
            rw same.1 h.1.2,
            e ∙ ap (λ k. before ++ (k ∷ more)) (sym same.0) ∙ sym (append_assoc before (change ∷ []) more) ∙ ap (λ xs. xs ++ more) (sym is),
          )

-- a word is left, and what stands after it
pub word_left : (ts : List (Bor (List ℕ))) (d : Bor (List ℕ)) (word : List ℕ) → 1 ≤ length ts → (slice_index_or ts 0 d).now ≡ word
    → texts ts ≡ word ∷ texts (take (length ts - 1) (drop 1 ts))
word_left [] d word ge e = absurd (omega (arith, ge))
word_left (t ∷ ts) d word ge e =
    ap (λ w. w ∷ texts ts) e ∙ ap (λ xs. word ∷ texts xs) (sym (take_all (length (t ∷ ts) - 1) ts (omega arith)))

-- where nothing is left, all have been read
pub all_changes : (all : List (List ℕ)) (rest : List (Bor (List ℕ))) (changes : List Change) → length rest ≡ 0
    → ((more : List Change) → AreMore (texts rest) more → AreChanges all (changes ++ more)) → AreChanges all changes
all_changes all [] changes none front = rw (append-nil changes) at (front [] tt)
all_changes all (t ∷ ts) changes none front = absurd (omega (arith, none))
