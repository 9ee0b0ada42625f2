-- What a lender lends and takes back.
--
-- A lent client leaves a seat that fits its home, and its home has the lender's table; so the lender may join it. Joining adds the seat's
-- receipts, those of one actor, after the lender's, and its share, and changes nothing else that contracts see.
use Rattle.std.proofs.Common.{◌≡◌, ℕ, ◌+◌, ◌≤◌, List, [], ◌∷◌, ◌++◌, Option, Some, None, refl, sym, ap, ◌∙◌, subst, arith}
use Rattle.std.proofs.lemmas.List.{append-nil, append_assoc, length-append}
use Rattle.std.proofs.lemmas.List.Elements.{All-append, All-cons, All-nil}
use Rattle.std.specs.Prelude.{IfSome}
use Rattle.seq_model.specs.declared.record.Record.{Record}
use Rattle.shared_table.specs.declared.seat.Seat.{Seat}
use Rattle.shared_table.specs.declared.table.TxTable.{TxTable}
use Rattle.shared_table.specs.declared.view.TheConstants.{SHARES}
use Rattle.shared_table.specs.Seated.{actor, view}
use Rattle.tx_turns.specs.RequestHistory.{requests_of}
use Rattle.tx_engine.specs.declared.seats.TxSeat.{TxSeat}
use Rattle.tx_engine.specs.Ready.{IsReady}
use Rattle.wolimevar.specs.declared.homes.Home.{Home}
use Rattle.tx_client.specs.declared.tally.Tally.{Tally}
use Rattle.tx_client.specs.Backs.{IsBack, IsLent, shares_at}
use Rattle.tx_client.specs.Frames.{AreBy, receipts_at}
use Rattle.wolimevar.specs.Homes.{IsHomeOf}
use Rattle.wolimevar.specs.Lenders.{HasBack, HasTakenBack, IsAtLender, LenderShown, lender_at}
use Rattle.wolimevar.specs.Sessions.{IsOfOne, joined}
use Rattle.wolimevar.specs.Splits.{HasLeft}
use Rattle.wolimevar.specs.StoreSeats.{IsAtStore, store_at}
use Rattle.wolimevar.proofs.StoreLemmas.{store_same}
use Rattle.tx_client.proofs.FrameLemmas.{at_client, grown_back, own_is}

joined_append : {A : Type 0} (xs ys : List (List A)) → joined (xs ++ ys) ≡ joined xs ++ joined ys
joined_append [] ys = refl
joined_append (x ∷ xs) ys = ap (λ zs. x ++ zs) (joined_append xs ys) ∙ sym (append_assoc x (joined xs) (joined ys))

module _ {V : Type 0} where
  -- what a lent client leaves fits its home
  pub fits_home : (t h : TxTable V) (seat : Option (TxSeat V)) (s : TxSeat V) → IsLent t seat → seat ≡ Some s → h ≡ t → IsBack h s
  fits_home t h seat s lent is same = record {
    ready = subst (λ (x : TxTable V). IsReady x s) (sym same)
        (subst (λ (x : TxSeat V). IsReady t x) (own_is seat lent.client.own s lent.client.is is) lent.client.client.ready);
    share = subst (λ (x : Option (TxSeat V)). shares_at x ≡ 1) is lent.share;
    own = (grown_back None t seat s lent.client is).own;
  }

  -- a client that is lent
  pub lent_client : (t : TxTable V) (s : TxSeat V) → IsReady t s → (view s.seat).shares ≡ 1 → (view s.seat).receipts ≡ []
      → IsLent t (Some s)
  lent_client t s ready share none = record {
    client = at_client None t s ready tt
        (record { gains = refl; own = subst (AreBy (actor s.seat)) (sym none) (All-nil (λ (r : ℕ × Record V). r.0 ≡ actor s.seat)) });
    share = share;
  }

  -- one that has served a session
  pub served_client : (t : TxTable V) (seat : Option (TxSeat V)) (s u : TxSeat V) → IsLent t seat → seat ≡ Some s → IsReady t u
      → (view u.seat).shares ≡ (view s.seat).shares → AreBy (actor u.seat) (view u.seat).receipts → IsLent t (Some u)
  served_client t seat s u lent is ready shares own = record {
    client = at_client None t u ready tt (record { gains = refl; own = own });
    share = shares ∙ subst (λ (x : Option (TxSeat V)). shares_at x ≡ 1) is lent.share;
  }

  -- a store whose seat is this one lends
  pub store_lends : (t : TxTable V) (seat : Option (TxSeat V)) (s : TxSeat V) → IsAtStore t seat → seat ≡ Some s → IsAtLender t s []
  store_lends t seat s at is = record {
    ready = subst (λ (x : TxSeat V). IsReady t x) (own_is seat at.own s at.is is) at.ready;
    own = All-nil (IsHomeOf t);
  }

  pub store_whole : (t : TxTable V) (seat : Option (TxSeat V)) (s : TxSeat V) → IsAtStore t seat → seat ≡ Some s
      → (view s.seat).shares ≡ SHARES
  store_whole t seat s at is = subst (λ (x : TxSeat V). (view x.seat).shares ≡ SHARES) (own_is seat at.own s at.is is) at.whole

  -- and is a store again once it has all shares
  pub lender_ends : (t : TxTable V) (s : TxSeat V) (homes : List (Home V)) → IsAtLender t s homes → (view s.seat).shares ≡ SHARES
      → IsAtStore t (Some s)
  lender_ends t s homes at whole = record { own = s; is = refl; ready = at.ready; whole = whole }

  -- a lender with fewer shares is the same store
  pub share_less : (k n : ℕ) (t : TxTable V) (s u : TxSeat V) (tally : Tally) (d : LenderShown V) → lender_at n t s tally ≡ d
      → HasLeft k s.seat u.seat → store_at n t (Some u) tally ≡ d.store
  share_less k n t s u tally d v h =
      store_same n t s u tally h.receipts h.last h.asked ∙ ap (λ (x : LenderShown V). x.store) v

  -- and with as many the same lender
  pub shares_back : (n : ℕ) (t : TxTable V) (s u : TxSeat V) (tally : Tally) (d : LenderShown V) → lender_at n t s tally ≡ d
      → HasLeft 0 s.seat u.seat → lender_at n t u tally ≡ d
  shares_back n t s u tally d v h =
      let left = h.shares in
      let shares : (view u.seat).shares ≡ (view s.seat).shares = omega (arith, left) in
      let store = store_same n t s u tally h.receipts h.last h.asked in
      (λ i. record { store = store i; shares = shares i }) ∙ v

  pub none_back : (s : Seat V) → HasBack s s
  none_back s = record {
    lists = [];
    own = All-nil IsOfOne;
    shares = omega arith;
    gains = sym (append-nil (view s).receipts);
    last = omega arith;
    asked = refl;
  }

  -- a seat that came back, or none
  pub joined_back : (t : TxTable V) (s u : Seat V) (back : Option (TxSeat V)) → IfSome back (IsBack t)
      → (view u).shares ≡ (view s).shares + shares_at back → (view u).receipts ≡ (view s).receipts ++ receipts_at back
      → s.last ≤ u.last → requests_of u ≡ requests_of s → HasBack s u
  joined_back t s u None is shares gains last asked = record {
    lists = [];
    own = All-nil IsOfOne;
    shares = shares;
    gains = gains;
    last = last;
    asked = asked;
  }
  joined_back t s u (Some b) is shares gains last asked = record {
    lists = (view b.seat).receipts ∷ [];
    own = All-cons IsOfOne (view b.seat).receipts [] (actor b.seat, is.own) (All-nil IsOfOne);
    shares = (let share = is.share in omega (arith, shares, share));
    gains = gains ∙ ap (λ rs. (view s).receipts ++ rs) (sym (append-nil (view b.seat).receipts));
    last = last;
    asked = asked;
  }

  pub then_back : (s m u : Seat V) → HasBack s m → HasBack m u → HasBack s u
  then_back s m u h k = record {
    lists = h.lists ++ k.lists;
    own = All-append IsOfOne h.lists k.lists h.own k.own;
    shares = (let a = h.shares in let b = k.shares in let c = length-append h.lists k.lists in omega (arith, a, b, c));
    gains = k.gains ∙ ap (λ rs. rs ++ joined k.lists) h.gains ∙ append_assoc (view s).receipts (joined h.lists) (joined k.lists)
        ∙ ap (λ rs. (view s).receipts ++ rs) (sym (joined_append h.lists k.lists));
    last = (let a = h.last in let b = k.last in omega (arith, a, b));
    asked = k.asked ∙ h.asked;
  }

  -- as contracts see it
  pub taken_back : (n : ℕ) (t : TxTable V) (s u : TxSeat V) (tally : Tally) (d : LenderShown V) → lender_at n t s tally ≡ d
      → HasBack s.seat u.seat → HasTakenBack d (lender_at n t u tally)
  taken_back n t s u tally d v h =
      subst (λ (x : LenderShown V). HasTakenBack x (lender_at n t u tally)) v
      (record {
        lists = h.lists;
        own = h.own;
        shares = h.shares;
        gains = h.gains;
        last = h.last;
        number = refl;
        opening = refl;
        asked = h.asked;
        tally = refl;
      })
