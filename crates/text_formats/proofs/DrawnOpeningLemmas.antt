-- Items that are put by id one after another, and the tables that hold them.
-- An item of which nothing is used leaves tables balanced, where nothing is used of the one that it takes the place of. In tables
-- without customers nothing is used of any item.
use Rattle.std.proofs.Common.{◌≡◌, ℕ, zero, suc, ◌+◌, List, [], ◌∷◌, ◌++◌, length, refl, ap, ◌∙◌, sym, subst, arith}
use Rattle.std.specs.Prelude.{All}
use Rattle.std.specs.Ordering.{nat_cmp}
use Rattle.std.specs.FinMap.{FinMap, empty, insert, get-empty}
use Rattle.std.proofs.lemmas.List.Elements.{All-append, All-cons, All-head, All-nil, All-tail}
use Rattle.std.proofs.lemmas.List.Sums.{fold-append}
use Rattle.seq_model.specs.Entries.{inserts}
use Rattle.rand_core.specs.Stream.{Stream}
use Rattle.rand.specs.Draw.{Gives}
use Rattle.vac_model.specs.declared.each.Each.{Each}
use Rattle.vac_model.specs.declared.item.Item.{Item}
use Rattle.vac_model.specs.declared.item.Kind.{Kind}
use Rattle.vac_model.specs.declared.item.Kind.TheVariants.{Car, Flight, Room}
use Rattle.vac_model.specs.Balanced.{IsBalanced, used_of}
use Rattle.vac_model.specs.Holdings.{Holdings, everywhere, item, nothing, put_item}
use Rattle.vac_model.proofs.BalanceLemmas.{put_keeps}
use Rattle.vac_model.proofs.TestLemmas.{nothing_balanced}
use Rattle.text_formats.specs.Draws.{stream_for, times}
use Rattle.text_formats.specs.Openings.{AreItems, IsFresh, by_id, item_drawn, numbered, opening_from, opening_of}
use Rattle.text_formats.specs.declared.options.Options.{Options}
use Rattle.text_formats.proofs.DrawLemmas.{as_many, one_more}

numbered_more : {A : Type 0} (n : ℕ) (xs : List A) (x : A) → numbered n (xs ++ x ∷ []) ≡ numbered n xs ++ (n + length xs, x) ∷ []
numbered_more n [] x = ap (λ m. (m, x) ∷ []) (let e : n ≡ n + zero = omega arith in e)
numbered_more n (y ∷ xs) x =
    ap (λ es. (n, y) ∷ es) (numbered_more (n + 1) xs x
    ∙ ap (λ m. numbered (n + 1) xs ++ (m, x) ∷ []) (let e : n + 1 + length xs ≡ n + suc (length xs) = omega arith in e))

by_id_more : (xs : List Item) (x : Item) → by_id (xs ++ x ∷ []) ≡ insert (by_id xs) (1 + length xs) x
by_id_more xs x =
    ap (inserts empty) (numbered_more 1 xs x)
    ∙ fold-append (λ n e. insert n e.0 e.1) empty (numbered 1 xs) ((1 + length xs, x) ∷ [])

pub no_items : (s : Stream) → AreItems 0 s empty s
no_items s = record { items = []; drawn = refl; are = refl; fresh = All-nil IsFresh }

pub item_more : (n : ℕ) (s t u : Stream) (m : FinMap nat_cmp Item) (x : Item) → AreItems n s m t → Gives item_drawn t x u → IsFresh x
    → AreItems (n + 1) s (insert m (n + 1) x) u
item_more n s t u m x before then fresh =
    let count : length before.items ≡ n = ap (λ d. length d.0) before.drawn ∙ as_many item_drawn n s in
    let here : 1 + length before.items ≡ n + 1 = omega (arith, count) in
    let next : suc n ≡ n + 1 = omega arith in
    record {
      items = before.items ++ x ∷ [];
      drawn = subst (λ k. Gives (times k item_drawn) s (before.items ++ x ∷ []) u) next
          (one_more item_drawn n s t u before.items x before.drawn then);
      are = sym (by_id_more before.items x ∙ ap (λ k. insert (by_id before.items) k x) here
          ∙ ap (λ o. insert o (n + 1) x) (sym before.are));
      fresh = All-append IsFresh before.items (x ∷ []) before.fresh (All-cons IsFresh x [] fresh (All-nil IsFresh));
    }

-- ---- balance

abbrev pub with_items : Each (FinMap nat_cmp Item) → Holdings
with_items items = record nothing { items = items }

-- in tables without customers nothing is used
nothing_used : (items : Each (FinMap nat_cmp Item)) → IsBalanced (with_items items) → (k : Kind) (id : ℕ)
    → used_of (item k id (with_items items)) ≡ used_of (item k id nothing)
nothing_used items b k id = b.used_is_booked k id ∙ sym (nothing_balanced.used_is_booked k id)

none_used : (items : Each (FinMap nat_cmp Item)) → IsBalanced (with_items items) → (k : Kind) (id : ℕ)
    → used_of (item k id (with_items items)) ≡ 0
none_used items b Car id = nothing_used items b Car id ∙ ap used_of (get-empty nat_cmp id)
none_used items b Flight id = nothing_used items b Flight id ∙ ap used_of (get-empty nat_cmp id)
none_used items b Room id = nothing_used items b Room id ∙ ap used_of (get-empty nat_cmp id)

put_fresh : (k : Kind) (id : ℕ) (i : Item) (items : Each (FinMap nat_cmp Item)) → IsFresh i → IsBalanced (with_items items)
    → IsBalanced (put_item k id i (with_items items))
put_fresh k id i items fresh b = put_keeps k id i (with_items items) b fresh.sound (fresh.unused ∙ sym (none_used items b k id))

-- fresh items are put one after another, from this id on
put_cars : (n : ℕ) (xs : List Item) (items : Each (FinMap nat_cmp Item)) → All IsFresh xs → IsBalanced (with_items items)
    → IsBalanced (with_items (record items { car = inserts items.car (numbered n xs) }))
put_cars n [] items fresh b = b
put_cars n (x ∷ xs) items fresh b =
    put_cars (n + 1) xs (record items { car = insert items.car n x }) (All-tail IsFresh x xs fresh)
    (put_fresh Car n x items (All-head IsFresh x xs fresh) b)

put_flights : (n : ℕ) (xs : List Item) (items : Each (FinMap nat_cmp Item)) → All IsFresh xs → IsBalanced (with_items items)
    → IsBalanced (with_items (record items { flight = inserts items.flight (numbered n xs) }))
put_flights n [] items fresh b = b
put_flights n (x ∷ xs) items fresh b =
    put_flights (n + 1) xs (record items { flight = insert items.flight n x }) (All-tail IsFresh x xs fresh)
    (put_fresh Flight n x items (All-head IsFresh x xs fresh) b)

put_rooms : (n : ℕ) (xs : List Item) (items : Each (FinMap nat_cmp Item)) → All IsFresh xs → IsBalanced (with_items items)
    → IsBalanced (with_items (record items { room = inserts items.room (numbered n xs) }))
put_rooms n [] items fresh b = b
put_rooms n (x ∷ xs) items fresh b =
    put_rooms (n + 1) xs (record items { room = insert items.room n x }) (All-tail IsFresh x xs fresh)
    (put_fresh Room n x items (All-head IsFresh x xs fresh) b)

put_all : (cars flights rooms : List Item) → All IsFresh cars → All IsFresh flights → All IsFresh rooms
    → IsBalanced (with_items (record { car = by_id cars; flight = by_id flights; room = by_id rooms }))
put_all cars flights rooms fresh_cars fresh_flights fresh_rooms =
    let one = put_cars 1 cars (everywhere empty) fresh_cars nothing_balanced in
    let two = put_flights 1 flights (record { car = by_id cars; flight = empty; room = empty }) fresh_flights one in
    put_rooms 1 rooms (record { car = by_id cars; flight = by_id flights; room = empty }) fresh_rooms two

same_opening : (n : ℕ) (cars flights rooms : FinMap nat_cmp Item) (q s t u : Stream)
    → AreItems n q cars s → AreItems n s flights t → AreItems n t rooms u
    → with_items (record { car = cars; flight = flights; room = rooms }) ≡ opening_from n q
same_opening n cars flights rooms q s t u one two three =
    let s_is : s ≡ (times n item_drawn q).1 = ap (λ d. d.1) one.drawn in
    let two_is : (two.items, t) ≡ times n item_drawn (times n item_drawn q).1 = two.drawn ∙ ap (times n item_drawn) s_is in
    let t_is : t ≡ (times n item_drawn (times n item_drawn q).1).1 = ap (λ d. d.1) two_is in
    let three_is : (three.items, u) ≡ times n item_drawn (times n item_drawn (times n item_drawn q).1).1 =
    three.drawn ∙ ap (times n item_drawn) t_is in
    let car : cars ≡ by_id (times n item_drawn q).0 = one.are ∙ ap (λ d. by_id d.0) one.drawn in
    let flight : flights ≡ by_id (times n item_drawn (times n item_drawn q).1).0 = two.are ∙ ap (λ d. by_id d.0) two_is in
    let room : rooms ≡ by_id (times n item_drawn (times n item_drawn (times n item_drawn q).1).1).0 =
    three.are ∙ ap (λ d. by_id d.0) three_is in
    λ i. with_items (record { car = car i; flight = flight i; room = room i })

pub opened : (seed : ℕ) (o : Options) (cars flights rooms : FinMap nat_cmp Item) (s t u : Stream)
    → AreItems o.relations (stream_for seed 0) cars s → AreItems o.relations s flights t → AreItems o.relations t rooms u
    → with_items (record { car = cars; flight = flights; room = rooms }) ≡ opening_of seed o
opened seed o cars flights rooms s t u one two three = same_opening o.relations cars flights rooms (stream_for seed 0) s t u one two three

pub opening_balanced : (cars flights rooms : FinMap nat_cmp Item) (n : ℕ) (q s t u : Stream)
    → AreItems n q cars s → AreItems n s flights t → AreItems n t rooms u
    → IsBalanced (with_items (record { car = cars; flight = flights; room = rooms }))
opening_balanced cars flights rooms n q s t u one two three =
    subst (λ m. IsBalanced (with_items (record { car = m; flight = flights; room = rooms }))) (sym one.are)
    (subst (λ m. IsBalanced (with_items (record { car = by_id one.items; flight = m; room = rooms }))) (sym two.are)
    (subst (λ m. IsBalanced (with_items (record { car = by_id one.items; flight = by_id two.items; room = m }))) (sym three.are)
    (put_all one.items two.items three.items one.fresh two.fresh three.fresh)))
