-- A deletion whose replies come two by two continues after each pair, where the first names the item of its booking with enough units used.
-- So how many pairs were passed is all that it notes: the first reply has its customer, and what is left is given back from there on.
use Rattle.std.proofs.Common.{◌≡◌, ℕ, zero, suc, ◌+◌, ◌-◌, ◌*◌, ◌<◌, ◌≤◌, ◌⊎◌, min, Bool, true, false, cond, Some, inl, inr, refl, sym, ◌∙◌}
use Rattle.std.proofs.Common.{List, [], ◌∷◌, ◌++◌, length, get_or, drop, take, add-one, length-take, ap, subst}
use Rattle.std.proofs.Common.{arith}
use Rattle.std.specs.Prelude.{nat_le, ◌/◌}
use Rattle.std.proofs.lemmas.List.{drop_min, take-take}
use Rattle.std.proofs.lemmas.Bool.{and_cases, and_parts}
use Rattle.std.proofs.lemmas.Bool.Decides.{nat_tests}
use Rattle.seq_model.specs.declared.call.Reply.{Reply}
use Rattle.seq_model.specs.declared.call.Reply.TheVariants.{Nothing, Value}
use Rattle.seq_model.specs.declared.job.Ask.TheVariants.{GiveUp}
use Rattle.seq_model.specs.declared.place.JobPlace.{JobPlace}
use Rattle.seq_model.specs.Places.{IsPlaceIn}
use Rattle.seq_model.specs.Programs.{after, asked, GivesUp}
use Rattle.vac_model.specs.declared.item.Booking.{Booking}
use Rattle.vac_model.specs.declared.item.Customer.{Customer}
use Rattle.vac_model.specs.Tests.{is_item_sound}
use Rattle.client_sessions.specs.declared.entry.Entry.{Entry}
use Rattle.client_sessions.specs.declared.entry.Entry.TheVariants.{Customer as Client, Item as Stock}
use Rattle.client_sessions.specs.GivenBack.{is_given_back}
use Rattle.client_sessions.specs.Noted.{ArePassed, HasGivenBack}
use Rattle.client_sessions.specs.Sessions.{SessionProgram, delete, delete_found, get_item, give_back, give_all_back, is_customer_within}
use Rattle.client_sessions.specs.Sessions.{item_in}
use Rattle.client_sessions.proofs.AfterLemmas.{after_both, after_none, after_one, after_taken}
use Rattle.client_sessions.proofs.WalkLemmas.{back_given, back_next, back_refused, drop_next}

-- a pair is passed
given_on : (b : Booking) (reply put : Reply Entry) (rest : List (Reply Entry)) (next : SessionProgram) → is_given_back b reply ≡ true
    → after (item_in reply (λ o. give_back b o next)) (put ∷ rest) ≡ after next rest
given_on b (Value (Stock i)) put rest next e =
    let both = and_parts (is_item_sound i) (nat_le b.units i.used) e in
    let enough : b.units ≤ i.used = grind (arith, nat_tests, both.1) in
    ap (λ c. after (cond c (give_back b (Some i) next) GivesUp) (put ∷ rest)) both.0
    ∙ ap (λ p. after p (put ∷ rest)) (back_given b i next enough)
given_on b _ put rest next e = absurd (cc)

-- the first of a pair says something else
given_up : (b : Booking) (reply : Reply Entry) (next : SessionProgram) → is_given_back b reply ≡ false
    → item_in reply (λ o. give_back b o next) ≡ GivesUp
given_up b Nothing next e = refl
given_up b (Value (Stock i)) next e = elim (and_cases (is_item_sound i) (nat_le b.units i.used) e) [
  | inl unsound ↦ ap (λ c. cond c (give_back b (Some i) next) GivesUp) unsound
  | inr few ↦
      let fewer : i.used < b.units = grind (arith, nat_tests, few) in
      let refused : give_back b (Some i) next ≡ GivesUp = back_refused b i next fewer in
      elim (is_item_sound i) as (λ c. cond c (give_back b (Some i) next) GivesUp ≡ GivesUp) [ true ↦ refused | false ↦ refl ]
]
given_up b _ next e = refl

-- the pair of the booking whose number this is
module _ (bookings : List Booking) (replies : List (Reply Entry)) (i : ℕ) (d : Booking) (r : Reply Entry) (next : SessionProgram)
    (lt : i < length bookings) (pair : 2 * i + 1 < length replies) where
  abbrev first : Reply Entry
  first = get_or replies (2 * i) r

  abbrev rest : SessionProgram
  rest = give_all_back (drop (i + 1) bookings) next

  two : drop (2 * i) replies ≡ first ∷ (get_or replies (2 * i + 1) r ∷ drop (2 * (i + 1)) replies)
  two =
      let one : 2 * i < length replies = omega arith in
      let at : 2 * i + 1 + 1 ≡ 2 * (i + 1) = omega arith in
      drop_next replies (2 * i) r one
      ∙ ap (λ l. first ∷ l) (drop_next replies (2 * i + 1) r pair ∙ ap (λ n. get_or replies (2 * i + 1) r ∷ drop n replies) at)

  begun : after (give_all_back (drop i bookings) next) (drop (2 * i) replies)
      ≡ after (item_in first (λ o. give_back (get_or bookings i d) o rest)) (get_or replies (2 * i + 1) r ∷ drop (2 * (i + 1)) replies)
  begun = back_next bookings i d next (drop (2 * i) replies) lt
      ∙ ap (after (get_item (get_or bookings i d).kind (get_or bookings i d).id (λ o. give_back (get_or bookings i d) o rest))) two

  pub back_told : is_given_back (get_or bookings i d) first ≡ true
      → after (give_all_back (drop i bookings) next) (drop (2 * i) replies) ≡ after rest (drop (2 * (i + 1)) replies)
  back_told e = begun ∙ given_on (get_or bookings i d) first (get_or replies (2 * i + 1) r) (drop (2 * (i + 1)) replies) rest e

  pub back_wrong : is_given_back (get_or bookings i d) first ≡ false
      → after (give_all_back (drop i bookings) next) (drop (2 * i) replies) ≡ GivesUp
  back_wrong e = begun
      ∙ ap (λ p. after p (get_or replies (2 * i + 1) r ∷ drop (2 * (i + 1)) replies)) (given_up (get_or bookings i d) first rest e)

-- bookings in two lists
pub back_joined : (first then : List Booking) (next : SessionProgram)
    → give_all_back (first ++ then) next ≡ give_all_back first (give_all_back then next)
back_joined [] then next = refl
back_joined (b ∷ first) then next = ap (λ p. get_item b.kind b.id (λ o. give_back b o p)) (back_joined first then next)

-- ---- the bookings whose two calls have their replies
pub none_passed : (who : Customer) (replies : List (Reply Entry)) → ArePassed who replies 0
none_passed who replies =
    record { few = omega arith; told = omega arith; leads = λ next. after_none (give_all_back who.bookings next) }

-- what is left, where so many are passed
pub passed_left : (who : Customer) (replies : List (Reply Entry)) (n : ℕ) → ArePassed who replies n → (next : SessionProgram)
    → after (give_all_back who.bookings next) replies ≡ after (give_all_back (drop n who.bookings) next) (drop (2 * n) replies)
passed_left who replies n a next =
    after_taken (give_all_back who.bookings next) replies (2 * n)
    ∙ ap (λ (p : SessionProgram). after p (drop (2 * n) replies)) (a.leads next)

module _ (who : Customer) (replies : List (Reply Entry)) (n : ℕ) (a : ArePassed who replies n) (d : Booking)
    (lt : n < length who.bookings) (pair : 2 * n + 1 < length replies) where
  abbrev gives : SessionProgram → SessionProgram
  gives next = give_all_back who.bookings next

  abbrev got : Reply Entry
  got = get_or replies (2 * n) Nothing

  abbrev put : Reply Entry
  put = get_or replies (2 * n + 1) Nothing

  pub passed_more : is_given_back (get_or who.bookings n d) got ≡ true → ArePassed who replies (n + 1)
  passed_more given =
      let front : 2 * n < length replies = omega arith in
      let at : 2 * (n + 1) ≡ 2 * n + 1 + 1 = omega arith in
      record {
        few = omega (arith, lt);
        told = omega (arith, pair);
        leads = λ next.
            ap (λ (m : ℕ). after (gives next) (take m replies)) at
            ∙ (after_one (gives next) replies (2 * n + 1) Nothing pair
            ∙ (ap (λ (p : SessionProgram). after p (put ∷ [])) (after_one (gives next) replies (2 * n) Nothing front)
            ∙ (sym (after_both (after (gives next) (take (2 * n) replies)) (got ∷ []) (put ∷ []))
            ∙ (ap (λ (p : SessionProgram). after p (got ∷ (put ∷ []))) (a.leads next)
            ∙ (back_next who.bookings n d next (got ∷ (put ∷ [])) lt
            ∙ (given_on (get_or who.bookings n d) got put [] (give_all_back (drop (n + 1) who.bookings) next) given
            ∙ after_none (give_all_back (drop (n + 1) who.bookings) next)))))));
      }

  pub passed_wrong : (next : SessionProgram) → is_given_back (get_or who.bookings n d) got ≡ false
      → asked (after (gives next) replies) ≡ GiveUp
  passed_wrong next wrong =
      ap (λ (p : SessionProgram). asked p)
      (passed_left who replies n a next ∙ back_wrong who.bookings replies n d Nothing next lt pair wrong)

-- ---- in a place
module _ (who : Customer) (replies : List (Reply Entry)) (n m : ℕ) (le : 2 * n ≤ m) where
  again : take (2 * n) (take m replies) ≡ take (2 * n) replies
  again = take-take (2 * n) m replies le

  pub passed_taken : ArePassed who replies n → ArePassed who (take m replies) n
  passed_taken a = record {
    few = a.few;
    told = omega (arith, a.told, le, length-take m replies);
    leads = λ next. ap (after (give_all_back who.bookings next)) again ∙ a.leads next;
  }

  pub passed_whole : ArePassed who (take m replies) n → ArePassed who replies n
  passed_whole a = record {
    few = a.few;
    told = omega (arith, a.told, length-take m replies);
    leads = λ next. ap (after (give_all_back who.bookings next)) (sym again) ∙ a.leads next;
  }

same_customer : (one two : Customer) (xs ys : List (Reply Entry))
    → ◌≡◌ {A = List (Reply Entry)} (Value (Client one) ∷ xs) (Value (Client two) ∷ ys) → (one ≡ two) × (xs ≡ ys)
same_customer one two xs ys e = (cc, cc)

-- what a deletion that has got its customer has noted
module _ (who : Customer) (rest : List (Reply Entry)) (place : JobPlace) where
  abbrev told : List (Reply Entry)
  told = Value (Client who) ∷ rest

  pub passed_in : IsPlaceIn (λ given noted. HasGivenBack given noted.heard) told place → ArePassed who rest (place.heard / 2)
  passed_in is = by is.1
    where
      by : (place.heard ≡ 0) ⊎ HasGivenBack (take place.heard told) place.heard → ArePassed who rest (place.heard / 2)
      by (inl none) =
          let half : place.heard / 2 ≡ 0 = omega (arith, none) in subst (ArePassed who rest) (sym half) (none_passed who rest)
      by (inr h) =
          let half : place.heard / 2 ≡ h.count = omega (arith, h.all) in
          let all : place.heard ≡ suc (2 * h.count) = h.all ∙ add-one (2 * h.count) in
          let first = same_customer who h.who (take (2 * h.count) rest) h.rest (ap (λ (n : ℕ). take n told) (sym all) ∙ h.first) in
          let own : ArePassed who h.rest h.count = subst (λ (w : Customer). ArePassed w h.rest h.count) (sym first.0) h.passed in
          let taken : ArePassed who (take (2 * h.count) rest) h.count =
          subst (λ (rs : List (Reply Entry)). ArePassed who rs h.count) (sym first.1) own in
          subst (ArePassed who rest) (sym half) (passed_whole who rest h.count (2 * h.count) (omega arith) taken)

  pub passed_noted : (n : ℕ) → is_customer_within who ≡ true → place.heard ≡ 2 * n + 1 → ArePassed who rest n
      → IsPlaceIn (λ given noted. HasGivenBack given noted.heard) told place
  passed_noted n within all a =
      let few : place.heard ≤ length told = omega (arith, a.told, all) in (
        few,
        inr record {
          who = who;
          rest = take (2 * n) rest;
          first = ap (λ (m : ℕ). take m told) (all ∙ add-one (2 * n));
          within = within;
          count = n;
          passed = passed_taken who rest n (2 * n) (omega arith) a;
          all = all;
        },
      )

-- a deletion that gets its customer
pub customer_told : (c : ℕ) (who : Customer) (rest : List (Reply Entry)) → is_customer_within who ≡ true
    → after (delete c) (Value (Client who) ∷ rest) ≡ after (delete_found c (Some who)) rest
customer_told c who rest within = ap (λ (b : Bool). after (cond b (delete_found c (Some who)) GivesUp) rest) within

-- bookings of two lists from one of them on
drop_joined : (i : ℕ) (first then : List Booking) → drop i first ++ drop (i - min i (length first)) then ≡ drop i (first ++ then)
drop_joined zero first then =
    let none : zero - min zero (length first) ≡ zero = omega arith in ap (λ (n : ℕ). first ++ drop n then) none
drop_joined (suc i) [] then = let all : suc i - min (suc i) zero ≡ suc i = omega arith in ap (λ (n : ℕ). drop n then) all
drop_joined (suc i) (b ∷ first) then =
    let less : suc i - min (suc i) (suc (length first)) ≡ i - min i (length first) = omega arith in
    ap (λ (n : ℕ). drop i first ++ drop n then) less ∙ drop_joined i first then

pub joined_from : (first then : List Booking) (i : ℕ)
    → drop (min i (length first)) first ++ drop (min (i - min i (length first)) (length then)) then ≡ drop i (first ++ then)
joined_from first then i =
    (λ j. drop_min i first j ++ drop_min (i - min i (length first)) then j) ∙ drop_joined i first then

-- the same, where the numbers are named
pub joined_at : (first then : List Booking) (i m n : ℕ) → m ≡ min i (length first) → n ≡ min (i - m) (length then)
    → drop m first ++ drop n then ≡ drop i (first ++ then)
joined_at first then i m n at behind =
    let same : n ≡ min (i - min i (length first)) (length then) = omega (arith, at, behind) in
    (λ j. drop (at j) first ++ drop (same j) then) ∙ joined_from first then i
