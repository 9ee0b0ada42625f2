-- The first token of a line says which action it is.
use Rattle.std.proofs.Common.{rules, arith, refl, sym, ap, ◌∙◌, ◌≡◌, ℕ, List, [], ◌∷◌, codes, Bor, slice_index_or, length}
use Rattle.std.proofs.lemmas.List.{length-map}
use Rattle.vac_model.specs.declared.action.Action.{Action}
use Rattle.vac_model.specs.declared.action.Action.TheVariants.{Reserve, Delete, Update, QueryItem, QueryBill}
use Rattle.vac_model.specs.declared.action.Ask.{Ask}
use Rattle.vac_model.specs.declared.action.Change.{Change}
use Rattle.text_formats.specs.declared.session_line.SessionLine.{SessionLine}
use Rattle.text_formats.specs.declared.session_line.SessionLine.TheVariants.{Have, Does}
use Rattle.text_formats.specs.Tokens.{IsNumber, texts}
use Rattle.text_formats.specs.SessionLines.{AreChanges, IsAction, IsHave, IsLine, IsReserve}

pub as_reserve : (customer : List ℕ) (tokens : List (List ℕ)) (action : Action) → IsAction (codes "reserve" ∷ customer ∷ tokens) action
    → (c : ℕ) × (units : ℕ) × (asks : List Ask) × (action ≡ Reserve c units asks) × IsNumber customer c × IsReserve tokens units asks
as_reserve customer tokens (Reserve c units asks) is = (c, units, asks, refl, is.1, is.2)
as_reserve customer tokens (Delete c) is = search (rules, is.0)
as_reserve customer tokens (Update changes) is = search (rules, is.0)
as_reserve customer tokens (QueryItem kind id) is = search (rules, is.0)
as_reserve customer tokens (QueryBill c) is = search (rules, is.0)

pub as_update : (tokens : List (List ℕ)) (action : Action) → IsAction (codes "update" ∷ tokens) action
    → (changes : List Change) × (action ≡ Update changes) × AreChanges tokens changes
as_update [] (Reserve c units asks) is = elim is [ ]
as_update (token ∷ tokens) (Reserve c units asks) is = search (rules, is.0)
as_update tokens (Delete c) is = search (rules, is.0)
as_update tokens (Update changes) is = (changes, refl, is.1)
as_update tokens (QueryItem kind id) is = search (rules, is.0)
as_update tokens (QueryBill c) is = search (rules, is.0)

-- ---- tokens that spell no action
module _ (tokens : List (List ℕ))
    (reserve : (customer : List ℕ) (rest : List (List ℕ)) → tokens ≡ codes "reserve" ∷ customer ∷ rest → ⊥)
    (delete : (customer : List ℕ) → tokens ≡ codes "delete" ∷ customer ∷ [] → ⊥)
    (update : (rest : List (List ℕ)) → tokens ≡ codes "update" ∷ rest → ⊥)
    (query : (kind id : List ℕ) → tokens ≡ codes "item" ∷ kind ∷ id ∷ [] → ⊥)
    (bill : (customer : List ℕ) → tokens ≡ codes "bill" ∷ customer ∷ [] → ⊥) where
  no_reserve : (read : List (List ℕ)) (c units : ℕ) (asks : List Ask) → tokens ≡ read → IsAction read (Reserve c units asks) → ⊥
  no_reserve [] c units asks e is = elim is [ ]
  no_reserve (word ∷ []) c units asks e is = elim is [ ]
  no_reserve (word ∷ (customer ∷ rest)) c units asks e is = reserve customer rest (e ∙ ap (λ w. w ∷ customer ∷ rest) is.0)

  no_update : (read : List (List ℕ)) (changes : List Change) → tokens ≡ read → IsAction read (Update changes) → ⊥
  no_update [] changes e is = elim is [ ]
  no_update (word ∷ rest) changes e is = update rest (e ∙ ap (λ w. w ∷ rest) is.0)

  pub no_action : (action : Action) → IsAction tokens action → ⊥
  no_action (Reserve c units asks) is = no_reserve tokens c units asks refl is
  no_action (Delete c) is = delete _ is.0
  no_action (Update changes) is = no_update tokens changes refl is
  no_action (QueryItem kind id) is = query _ _ is.0
  no_action (QueryBill c) is = bill _ is.0

-- ---- a line that begins with `have`
no_session : (rest : List (List ℕ)) (action : Action) → IsAction (codes "have" ∷ rest) action → ⊥
no_session rest =
    no_action (codes "have" ∷ rest) (λ _ _ e. search (rules, e)) (λ _ e. search (rules, e)) (λ _ e. search (rules, e))
    (λ _ _ e. search (rules, e)) (λ _ e. search (rules, e))

have_line : (rest : List (List ℕ)) (line : SessionLine) → IsLine (codes "have" ∷ rest) line → IsHave (codes "have" ∷ rest) line
have_line rest (Have kind id total price) is = is
have_line rest (Does action) is = absurd (no_session rest action is.0)

pub have_of_five : (ts : List (Bor (List ℕ))) (d : Bor (List ℕ)) (line : SessionLine) → length ts ≡ 5
    → (slice_index_or ts 0 d).now ≡ codes "have" → IsLine (texts ts) line
    → IsHave (codes "have" ∷ (slice_index_or ts 1 d).now ∷ (slice_index_or ts 2 d).now ∷ (slice_index_or ts 3 d).now
    ∷ (slice_index_or ts 4 d).now ∷ []) line
have_of_five [] d line five e is = absurd (omega (arith, five))
have_of_five (a ∷ []) d line five e is = absurd (omega (arith, five))
have_of_five (a ∷ (b ∷ [])) d line five e is = absurd (omega (arith, five))
have_of_five (a ∷ (b ∷ (c ∷ []))) d line five e is = absurd (omega (arith, five))
have_of_five (a ∷ (b ∷ (c ∷ (f ∷ [])))) d line five e is = absurd (omega (arith, five))
have_of_five (a ∷ (b ∷ (c ∷ (f ∷ (g ∷ []))))) d line five e is = have_line _ line (rw e at is)
have_of_five (a ∷ (b ∷ (c ∷ (f ∷ (g ∷ (h ∷ ts)))))) d line five e is = absurd (omega (arith, five))

-- ---- what the borrowed tokens are, where they spell these
pub count_of : (ts : List (Bor (List ℕ))) (tokens : List (List ℕ)) → texts ts ≡ tokens → length ts ≡ length tokens
count_of ts tokens e = sym (length-map ts (λ (t : Bor (List ℕ)). t.now)) ∙ ap length e

pub first_of : (ts : List (Bor (List ℕ))) (word : List ℕ) (rest : List (List ℕ)) → texts ts ≡ word ∷ rest → (d : Bor (List ℕ))
    → (slice_index_or ts 0 d).now ≡ word
first_of [] word rest e d = cc
first_of (t ∷ ts) word rest e d = cc
