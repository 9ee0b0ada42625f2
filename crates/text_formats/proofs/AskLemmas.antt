-- Reading the asks of a reservation one after another. What is left of the tokens begins with the ask that was read, so its asks are that
-- one and those of the tokens after it. A kind is no number: where the first token is a kind, no units are written.
use Rattle.std.proofs.Common.{rules, arith, refl, sym, ap, ◌∙◌, ◌≡◌, ℕ, List, [], ◌∷◌, ◌++◌, append_assoc, append-nil, Option, Some, Bor}
use Rattle.std.proofs.Common.{slice_index_or, length, take, take_all, drop, ◌-◌, ◌≤◌, codes, inl, inr}
use Rattle.vac_model.specs.declared.action.Ask.{Ask}
use Rattle.vac_model.specs.declared.item.Kind.{Kind}
use Rattle.vac_model.specs.declared.item.Kind.TheVariants.{Car, Flight, Room}
use Rattle.text_formats.specs.Tokens.{IsNumber, texts}
use Rattle.text_formats.proofs.NumberLemmas.{lead_digit}
use Rattle.text_formats.specs.SessionLines.{AreAsks, HasUnits, IsReserve, kind_token}

some_ask : (a b : Ask) → Some a ≡ Some b → b ≡ a
some_ask a b e = search (rules, e)

-- one ask more has been read: these two tokens and what stands after them were left before it
module _ (kind id : List ℕ) (left behind : List (List ℕ)) (before after : List Ask) (ask : Ask)
    (cut : left ≡ kind ∷ id ∷ behind) (is : after ≡ before ++ ask ∷ []) where
  pub asks_front : (all : List (List ℕ)) → kind ≡ kind_token ask.kind → IsNumber id ask.id
      → ((asks : List Ask) → AreAsks left asks → AreAsks all (before ++ asks))
      → (asks : List Ask) → AreAsks behind asks → AreAsks all (after ++ asks)
  asks_front all a-kind a-number front asks h =
      rw (is, append_assoc before (ask ∷ []) asks) (front (ask ∷ asks) (rw cut (a-kind, a-number, h)))

  pub asks_back : (r : Option Ask) → r ≡ Some ask
      → ((a : Ask) → kind ≡ kind_token a.kind → IsNumber id a.id → r ≡ Some a) → (all : List Ask)
      → (asks : List Ask) × AreAsks left asks × (all ≡ before ++ asks)
      → (asks : List Ask) × AreAsks behind asks × (all ≡ after ++ asks)
  asks_back r some only all f = next_asks all f.0 (rw cut at f.1) f.2
    where
      next_asks : (all asks : List Ask) → AreAsks (kind ∷ id ∷ behind) asks → all ≡ before ++ asks
          → (rest : List Ask) × AreAsks behind rest × (all ≡ after ++ rest)
      next_asks all [] h e = elim h [ ]
      next_asks all (a ∷ asks) h e =
          let same : a ≡ ask = some_ask ask a (sym some ∙ only a h.0 h.1) in
          (asks, h.2, e ∙ ap (λ k. before ++ (k ∷ asks)) same ∙ sym (append_assoc before (ask ∷ []) asks) ∙ ap (λ xs. xs ++ asks) (sym is))

-- two tokens at least are left
pub two_left : (ts : List (Bor (List ℕ))) (d : Bor (List ℕ)) → 2 ≤ length ts
    → texts ts ≡ (slice_index_or ts 0 d).now ∷ (slice_index_or ts 1 d).now ∷ texts (take (length ts - 2) (drop 2 ts))
two_left [] d ge = absurd (omega (arith, ge))
two_left (a ∷ []) d ge = absurd (omega (arith, ge))
two_left (a ∷ (b ∷ ts)) d ge =
    ap (λ xs. a.now ∷ b.now ∷ texts xs) (sym (take_all (length (a ∷ b ∷ ts) - 2) ts (omega arith)))

-- where none is left, all have been read
pub all_asks : (all : List (List ℕ)) (rest : List (Bor (List ℕ))) (asks : List Ask) → length rest ≡ 0
    → ((more : List Ask) → AreAsks (texts rest) more → AreAsks all (asks ++ more)) → AreAsks all asks
all_asks all [] asks none front = rw (append-nil asks) at (front [] tt)
all_asks all (t ∷ ts) asks none front = absurd (omega (arith, none))

-- a kind is no number
kind_is_no_number : (kind : Kind) (n : ℕ) → IsNumber (kind_token kind) n → ⊥
kind_is_no_number Car n is = search (rules, lead_digit n (codes "car") is.0 is.1 refl)
kind_is_no_number Flight n is = search (rules, lead_digit n (codes "flight") is.0 is.1 refl)
kind_is_no_number Room n is = search (rules, lead_digit n (codes "room") is.0 is.1 refl)

-- so where the first token is a kind, no units stand there
pub no_units : (ts : List (Bor (List ℕ))) (d : Bor (List ℕ)) (kind : Kind) (units : ℕ) (asks : List Ask)
    → (slice_index_or ts 0 d).now ≡ kind_token kind → HasUnits (texts ts) units asks → ⊥
no_units [] d kind units asks e is = elim is [ ]
no_units (t ∷ ts) d kind units asks e is = kind_is_no_number kind units (rw e at is.0)

pub units_left_out : (ts : List (Bor (List ℕ))) (d : Bor (List ℕ)) (kind : Kind) → (slice_index_or ts 0 d).now ≡ kind_token kind
    → (units : ℕ) (asks : List Ask) → IsReserve (texts ts) units asks → (1 ≡ units) × AreAsks (texts ts) asks
units_left_out ts d kind e units asks (inl is) = absurd (no_units ts d kind units asks e is)
units_left_out ts d kind e units asks (inr is) = (sym is.0, is.1)
