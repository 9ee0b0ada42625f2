-- A reservation that has weighed the replies to its first asks continues with the others, from the best that these replies name.
--
-- Each reply is weighed once, so one step is all there is to show (`weighed_more`): the program continues after the reply with what
-- `better` makes of the candidates, which is what the numbers name then. Numbers name the same among the first replies as among all.
use Rattle.std.proofs.Common.{◌≡◌, ◌≢◌, ℕ, zero, suc, ◌+◌, ◌<◌, ◌≤◌, ◌⊎◌, true, false, cond, inl, inr, refl, sym, ◌∙◌, ap, subst, arith}
use Rattle.std.proofs.Common.{List, [], ◌∷◌, length, take, drop, get_or, Option, None, length-take}
use Rattle.std.specs.Prelude.{◌==◌, ◌&&◌, nat_le, option_map}
use Rattle.std.proofs.lemmas.Bool.Decides.{nat_tests}
use Rattle.std.proofs.lemmas.List.{drop_all, get_or-take, take-take}
use Rattle.std.proofs.lemmas.Bool.{and_parts}
use Rattle.seq_model.specs.declared.call.Reply.{Reply}
use Rattle.seq_model.specs.declared.call.Reply.TheVariants.{Nothing, Value}
use Rattle.seq_model.specs.declared.job.Ask.TheVariants.{Call, GiveUp}
use Rattle.seq_model.specs.declared.place.JobPlace.{JobPlace}
use Rattle.seq_model.specs.Places.{IsPlaceIn}
use Rattle.seq_model.specs.Programs.{after, asked}
use Rattle.vac_model.specs.declared.action.Ask.{Ask}
use Rattle.vac_model.specs.declared.item.Item.{Item}
use Rattle.vac_model.specs.declared.item.Kind.{Kind}
use Rattle.vac_model.specs.declared.item.Kind.TheVariants.{Car, Flight, Room}
use Rattle.vac_model.specs.declared.limits.TheConstants.{AMOUNT_LIMIT}
use Rattle.vac_model.specs.Actions.{dearer}
use Rattle.vac_model.specs.Balanced.{IsItemSound}
use Rattle.vac_model.specs.Holdings.{same_kind}
use Rattle.vac_model.specs.Tests.{is_item_sound}
use Rattle.client_sessions.specs.declared.entry.Entry.{Entry}
use Rattle.client_sessions.specs.declared.entry.Entry.TheVariants.{Item as Stock}
use Rattle.client_sessions.specs.declared.weighed.Weighed.{Weighed}
use Rattle.client_sessions.specs.Drafts.{IsSound}
use Rattle.client_sessions.specs.Gets.{get_due, item_told, tells_item}
use Rattle.client_sessions.specs.Sessions.{SessionProgram, better, gather, reserve, reserve_among}
use Rattle.client_sessions.specs.Weighed.{AreFirst, AreWeighed, IsBetter, OnBest, named, no_ask, weighed_in}
use Rattle.client_sessions.proofs.AfterLemmas.{after_none, after_one, after_taken}
use Rattle.client_sessions.proofs.DraftLemmas.{dearer_sound}
use Rattle.client_sessions.proofs.GetLemmas.{gather_told, gather_wrong}
use Rattle.client_sessions.proofs.WalkLemmas.{drop_next}

abbrev pub named_by : ℕ → Option Item → Option (ℕ × Item)
named_by id o = option_map (λ item. (id, item)) o

-- ---- items that are replied are sound
sound_item : (i : Item) → is_item_sound i ≡ true → IsItemSound i
sound_item i e =
    let a = and_parts (i.used + i.free == i.total) (nat_le i.total AMOUNT_LIMIT && nat_le i.price AMOUNT_LIMIT) e in
    let b = and_parts (nat_le i.total AMOUNT_LIMIT) (nat_le i.price AMOUNT_LIMIT) a.1 in
    (grind (arith, nat_tests, a.0), grind (arith, nat_tests, b.0), grind (arith, nat_tests, b.1))

told_sound : (r : Reply Entry) (id : ℕ) → tells_item r ≡ true → IsSound (named_by id (item_told r))
told_sound Nothing id e = tt
told_sound (Value (Stock i)) id e = sound_item i e
told_sound _ id e = absurd (cc)

better_sound : (k : Kind) (ask : Ask) (r : Reply Entry) (best : Option (ℕ × Item)) → tells_item r ≡ true → IsSound best
    → IsSound (better k ask (item_told r) best)
better_sound k ask r best tells sound =
    elim (same_kind ask.kind k) as (λ b. IsSound (cond b (dearer best (named_by ask.id (item_told r))) best)) [
      | true ↦ dearer_sound best (named_by ask.id (item_told r)) sound (told_sound r ask.id tells)
      | false ↦ sound
    ]

-- ---- one reply more
module _ (asks : List Ask) (replies : List (Reply Entry)) (w : Weighed) (a : AreWeighed asks replies w) where
  abbrev i : ℕ
  i = w.count

  abbrev ask : Ask
  ask = get_or asks i no_ask

  abbrev left : OnBest → SessionProgram
  left next = gather (drop i asks) (named asks replies w.car) (named asks replies w.flight) (named asks replies w.room) next

  pub weighed_more : (r : Reply Entry) (on : Weighed) (n : ℕ) → get_or replies i Nothing ≡ r → i < length asks → i < length replies
      → tells_item r ≡ true → IsBetter asks replies ask (item_told r) w on → AreFirst (i + 1) on → n ≡ i + 1
      → AreWeighed asks replies (record { count = n; car = on.car; flight = on.flight; room = on.room })
  weighed_more r on n is more_asks more_replies tells b first one = record {
    few = omega (arith, more_asks, one);
    told = omega (arith, more_replies, one);
    first = record {
      car = omega (arith, first.car, one);
      flight = omega (arith, first.flight, one);
      room = omega (arith, first.room, one);
    };
    sound = (
      subst IsSound (sym b.car) (better_sound Car ask r (named asks replies w.car) tells a.sound.0),
      subst IsSound (sym b.flight) (better_sound Flight ask r (named asks replies w.flight) tells a.sound.1),
      subst IsSound (sym b.room) (better_sound Room ask r (named asks replies w.room) tells a.sound.2),
    );
    leads = λ next.
        ap (λ (m : ℕ). after (gather asks None None None next) (take m replies)) one
        ∙ (after_one (gather asks None None None next) replies i Nothing more_replies
        ∙ (ap (λ (p : SessionProgram). after p (get_or replies i Nothing ∷ [])) (a.leads next)
        ∙ (ap (λ (k : Reply Entry). after (left next) (k ∷ [])) is
        ∙ (gather_told asks i no_ask (named asks replies w.car) (named asks replies w.flight) (named asks replies w.room) next
        (r ∷ []) [] r more_asks refl tells
        ∙ (after_none _
        ∙ (λ j. gather (drop (sym one j) asks) (sym b.car j) (sym b.flight j) (sym b.room j) next))))));
  }

  -- what is left of the reservation after all replies
  rest_of : (c units : ℕ) → after (reserve c units asks) replies ≡ after (left (reserve_among c units)) (drop i replies)
  rest_of c units =
      after_taken (reserve c units asks) replies i
      ∙ ap (λ (p : SessionProgram). after p (drop i replies)) (a.leads (reserve_among c units))

  pub weighed_wrong : (r : Reply Entry) (c units : ℕ) → get_or replies i Nothing ≡ r → i < length asks → i < length replies
      → tells_item r ≡ false → asked (after (reserve c units asks) replies) ≡ GiveUp
  weighed_wrong r c units is more_asks more_replies tells =
      let one : drop i replies ≡ r ∷ drop (i + 1) replies =
      drop_next replies i Nothing more_replies ∙ ap (λ (k : Reply Entry). k ∷ drop (i + 1) replies) is in
      ap (λ (p : SessionProgram). asked p) (rest_of c units
      ∙ gather_wrong asks i no_ask (named asks replies w.car) (named asks replies w.flight) (named asks replies w.room)
      (reserve_among c units) (drop i replies) (drop (i + 1) replies) r more_asks one tells)

  -- an ask has no reply yet
  pub asks_next : (d : Ask) (c units : ℕ) → i < length asks → length replies ≤ i
      → Call (get_due (get_or asks i d)) ≡ asked (after (reserve c units asks) replies)
  asks_next d c units lt le =
      sym (ap (λ (p : SessionProgram). asked p) (rest_of c units)
      ∙ (ap (λ (rs : List (Reply Entry)). asked (after (left (reserve_among c units)) rs)) (drop_all i replies le)
      ∙ ap (λ (xs : List Ask). asked (after (gather xs (named asks replies w.car) (named asks replies w.flight) (named asks replies w.room)
      (reserve_among c units)) [])) (drop_next asks i d lt)))

  -- all have theirs
  pub all_asked : (c units : ℕ) → length asks ≤ i → after (reserve c units asks) replies
      ≡ after (reserve_among c units (named asks replies w.car) (named asks replies w.flight) (named asks replies w.room)) (drop i replies)
  all_asked c units le =
      rest_of c units
      ∙ ap (λ (xs : List Ask). after (gather xs (named asks replies w.car) (named asks replies w.flight) (named asks replies w.room)
      (reserve_among c units)) (drop i replies)) (drop_all i asks le)

-- ---- among the first replies, and among all
named_taken : (asks : List Ask) (replies : List (Reply Entry)) (n m : ℕ) → m ≤ n → named asks (take n replies) m ≡ named asks replies m
named_taken asks replies n zero le = refl
named_taken asks replies n (suc i) le =
    ap (λ (k : Reply Entry). named_by (get_or asks i no_ask).id (item_told k)) (get_or-take n replies i Nothing (omega (arith, le)))

module _ (asks : List Ask) (replies : List (Reply Entry)) (w : Weighed) (n : ℕ) (is : w.count ≡ n) (first : AreFirst w.count w) where
  car_taken : named asks (take n replies) w.car ≡ named asks replies w.car
  car_taken = named_taken asks replies n w.car (omega (arith, first.car, is))

  flight_taken : named asks (take n replies) w.flight ≡ named asks replies w.flight
  flight_taken = named_taken asks replies n w.flight (omega (arith, first.flight, is))

  room_taken : named asks (take n replies) w.room ≡ named asks replies w.room
  room_taken = named_taken asks replies n w.room (omega (arith, first.room, is))

  again : take w.count (take n replies) ≡ take w.count replies
  again = take-take w.count n replies (omega (arith, is))

  pub weighed_whole : n ≤ length replies → AreWeighed asks (take n replies) w → AreWeighed asks replies w
  weighed_whole le a = record {
    few = a.few;
    told = omega (arith, le, is);
    first = a.first;
    sound = (subst IsSound car_taken a.sound.0, subst IsSound flight_taken a.sound.1, subst IsSound room_taken a.sound.2);
    leads = λ next. ap (after (gather asks None None None next)) (sym again)
        ∙ (a.leads next ∙ (λ j. gather (drop w.count asks) (car_taken j) (flight_taken j) (room_taken j) next));
  }

  pub weighed_taken : AreWeighed asks replies w → AreWeighed asks (take n replies) w
  weighed_taken a = record {
    few = a.few;
    told = omega (arith, a.told, is, length-take n replies);
    first = a.first;
    sound = (
      subst IsSound (sym car_taken) a.sound.0,
      subst IsSound (sym flight_taken) a.sound.1,
      subst IsSound (sym room_taken) a.sound.2,
    );
    leads = λ next. ap (after (gather asks None None None next)) again
        ∙ (a.leads next ∙ (λ j. gather (drop w.count asks) (sym car_taken j) (sym flight_taken j) (sym room_taken j) next));
  }

-- ---- in a place
pub none_weighed : (asks : List Ask) (replies : List (Reply Entry)) → AreWeighed asks replies
    (record { count = 0; car = 0; flight = 0; room = 0 })
none_weighed asks replies = record {
  few = omega arith;
  told = omega arith;
  first = record { car = omega arith; flight = omega arith; room = omega arith };
  sound = (tt, tt, tt);
  leads = λ next. after_none (gather asks None None None next);
}

abbrev pub IsWeighedIn : List Ask → List (Reply Entry) → JobPlace → Type 0
IsWeighedIn asks replies place = IsPlaceIn (λ told noted. AreWeighed asks told (weighed_in noted)) replies place

pub weighed_of : (asks : List Ask) (replies : List (Reply Entry)) (place : JobPlace) → place.heard ≢ 0 → IsWeighedIn asks replies place
    → AreWeighed asks replies (weighed_in place)
weighed_of asks replies place some is = by is.1
  where
    by : (place.heard ≡ 0) ⊎ AreWeighed asks (take place.heard replies) (weighed_in place) → AreWeighed asks replies (weighed_in place)
    by (inl none) = absurd (some none)
    by (inr a) = weighed_whole asks replies (weighed_in place) place.heard refl a.first is.0 a

pub weighed_noted : (asks : List Ask) (replies : List (Reply Entry)) (place : JobPlace) → AreWeighed asks replies (weighed_in place)
    → IsWeighedIn asks replies place
weighed_noted asks replies place a = (a.told, inr (weighed_taken asks replies (weighed_in place) place.heard refl a.first a))
