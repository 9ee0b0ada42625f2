-- Calls on a queue in lanes: each is a call on one lane, and lanes that are looked at in vain are as they were.
use Rattle.std.proofs.Common.{◌≡◌, ◌⊎◌, ℕ, zero, suc, ◌+◌, ◌<◌, ◌≤◌, ◌==◌, Bool, true, false}
use Rattle.std.proofs.Common.{List, [], ◌∷◌, ◌++◌, length, Some, None, Ok, Err, inl, inr}
use Rattle.std.proofs.Common.{refl, sym, ap, subst, ◌∙◌, append-nil, append_assoc, arith, eqb-true, nat_lt}
use Rattle.std.specs.Prelude.{Option, Result, option_and_then, option_map, slice_get, slice_set, if◌then◌else◌}
use Rattle.std.proofs.lemmas.Bool.Decides.{nat_tests}
use Rattle.seq_model.specs.declared.call.Call.{Call}
use Rattle.seq_model.specs.declared.call.Op.TheVariants as ops
use Rattle.seq_model.specs.declared.call.Reply.{Reply}
use Rattle.seq_model.specs.declared.call.Reply.TheVariants as replies
use Rattle.seq_model.specs.declared.held.Held.{Held}
use Rattle.seq_model.specs.declared.held.Held.TheVariants as held
use Rattle.seq_model.specs.declared.limits.TheConstants.{INDEX_LIMIT}
use Rattle.seq_model.specs.Calls.{dequeue_call, enqueue_call, found_reply, held_call}
use Rattle.seq_model.specs.Contents.{Contents, call_of}
use Rattle.seq_model.specs.Runs.{IsLegal, after_call, after_calls, reply_of}
use Rattle.seq_model.proofs.RunLemmas.{after_calls-append, answered}
use Rattle.tx_handles.specs.declared.gates.Gates.{Gates}
use Rattle.tx_handles.specs.declared.lanes.Lanes.{Lanes}
use Rattle.tx_handles.specs.HandleCalls.{AreSummed, HasSummed, len_calls}
use Rattle.tx_handles.specs.Gates.{AreSameBeside}
use Rattle.tx_handles.specs.Lanes.{AreLanes, DoWithLanes, HasDoneWithLanes, HasTakenFrom, IsAdded, IsCounted, IsTaken}
use Rattle.tx_handles.specs.Lanes.{IsTakenFrom, total_of, with_lane}
use Rattle.tx_handles.specs.MadeCall.{HasMade, TransactionShown, room_reply}
use Rattle.tx_handles.proofs.GateLemmas.{set_here, set_there, unequal}
use Rattle.tx_handles.proofs.SumLemmas.{HasLen, below, counts_sum, lens_leave}

lane_here : (lanes : ℕ → List ℕ) (i : ℕ) (xs : List ℕ) → with_lane lanes i xs i ≡ xs
lane_here lanes i xs = ap (λ b. if b then xs else lanes i) (let e : (i == i) ≡ true = grind (arith, nat_tests) in e)

lane_there : (lanes : ℕ → List ℕ) (i j : ℕ) (xs : List ℕ) → (j ≡ i → ⊥) → with_lane lanes i xs j ≡ lanes j
lane_there lanes i j xs apart = ap (λ b. if b then xs else lanes j) (let e : (j == i) ≡ false = grind (arith, nat_tests) in e)

pub total_below : (lanes : ℕ → List ℕ) (n : ℕ) → total_of lanes n ≡ below (λ i. length (lanes i)) n
total_below lanes zero = refl
total_below lanes (suc n) = ap (λ t. t + length (lanes n)) (total_below lanes n)

module _ {V : Type 0} where
  -- ---- what is beside
  pub same_self : (g : Gates) (s : Contents V) → AreSameBeside g s s
  same_self g s = record { words = refl; others = λ c beside. refl }

  pub then_same : (g : Gates) (s t u : Contents V) → AreSameBeside g s t → AreSameBeside g t u → AreSameBeside g s u
  then_same g s t u h k = record { words = k.words ∙ h.words; others = λ c beside. k.others c beside ∙ h.others c beside }

  pub legal_parts : (cs ds : List (Call V × Reply V)) (s : Contents V) → IsLegal (cs ++ ds) s → IsLegal cs s × IsLegal ds (after_calls cs s)
  legal_parts [] ds s h = (tt, h)
  legal_parts (c ∷ cs) ds s h = let parts = legal_parts cs ds (after_call c.0 s) h.1 in ((h.0, parts.0), parts.1)

  -- ---- one lane is changed
  module _ (g : Gates) (lanes : ℕ → List ℕ) (s : Contents V) (at : AreLanes g lanes s.held) (i : ℕ) (le : i ≤ g.others) where
    abbrev with_queue : ℕ → List ℕ → Contents V
    with_queue head xs = record s { held = slice_set s.held (g.first + i) (held.Queue head xs) }

    lanes_after : (head : ℕ) (xs : List ℕ) (after : ℕ → List ℕ) → after i ≡ xs → ((j : ℕ) → (j ≡ i → ⊥) → after j ≡ lanes j)
        → AreLanes g after (with_queue head xs).held
    lanes_after head xs after here there j le_j = by (i == j) refl
      where
        by : (b : Bool) → (i == j) ≡ b → (h : ℕ) × (slice_get (with_queue head xs).held (g.first + j) ≡ Some (held.Queue h (after j)))
        by true is =
            let same : i ≡ j = eqb-true i j is in (
              head,
              subst (λ n. slice_get (with_queue head xs).held (g.first + n) ≡ Some (held.Queue head (after n))) same
                  (set_here s.held (g.first + i) (held.Queue (at i le).0 (lanes i)) (held.Queue head xs) (at i le).1
                  ∙ ap (λ ys. Some (held.Queue head ys)) (sym here)),
            )
        by false other =
            let apart = unequal i j other in (
              (at j le_j).0,
              set_there s.held (g.first + i) (g.first + j) (held.Queue head xs) (λ e. apart (omega (arith, e)))
                  ∙ (at j le_j).1 ∙ ap (λ ys. Some (held.Queue (at j le_j).0 ys)) (sym (there j apart)),
            )

    changed : (head : ℕ) (xs : List ℕ) → AreLanes g (with_lane lanes i xs) (with_queue head xs).held
    changed head xs = lanes_after head xs (with_lane lanes i xs) (lane_here lanes i xs) (λ j apart. lane_there lanes i j xs apart)

    unchanged_lanes : (head : ℕ) (xs : List ℕ) → lanes i ≡ xs → AreLanes g lanes (with_queue head xs).held
    unchanged_lanes head xs same = lanes_after head xs lanes same (λ j apart. refl)

    beside : (head : ℕ) (xs : List ℕ) → AreSameBeside g s (with_queue head xs)
    beside head xs = record { words = refl; others = λ c out. set_there s.held (g.first + i) c (held.Queue head xs) (apart c out) }
      where
        apart : (c : ℕ) → (c < g.first) ⊎ (g.first + g.others < c) → c ≡ g.first + i → ⊥
        apart c (inl below) e = omega (arith, le, below, e)
        apart c (inr above) e = omega (arith, le, above, e)

    -- ---- an item is added
    module _ (item : ℕ) where
      abbrev adding : Call V
      adding = record { target = g.first + i; op = ops.Enqueue item }

      abbrev told : Reply V × ℕ × List ℕ
      told = enqueue_call item (at i le).0 (lanes i)

      added_here : call_of adding s ≡ Some (told.0, with_queue told.1 told.2)
      added_here = ap (λ o. option_and_then (λ (h : Held V). option_map (λ (r : Reply V × Held V).
          (r.0, record s { held = slice_set s.held (g.first + i) r.1 })) (held_call (ops.Enqueue item) h)) o) (at i le).1

      abbrev DoesAdd : {E : Type 0} → Result (Unit {0}) E → Contents V → Type 0
      DoesAdd added t = IsAdded g lanes item added t × AreSameBeside g s t

      adds : {E : Type 0} (added : Result (Unit {0}) E) (b : Bool) (head : ℕ) (xs : List ℕ) (q : Reply V × ℕ × List ℕ)
          → lanes i ≡ xs → q ≡ (if b then (replies.Done, head, xs ++ item ∷ []) else (replies.Full, head, xs)) → q.0 ≡ room_reply added
          → DoesAdd added (with_queue q.1 q.2)
      adds {E} (Ok done) true head xs q same is reply =
          subst (λ (p : Reply V × ℕ × List ℕ). DoesAdd {E = E} (Ok done) (with_queue p.1 p.2)) (sym is) (
            (
              i,
              le,
              subst (λ ys. AreLanes g (with_lane lanes i (ys ++ item ∷ [])) (with_queue head (xs ++ item ∷ [])).held) (sym same)
                  (changed head (xs ++ item ∷ [])),
            ),
            beside head (xs ++ item ∷ []),
          )
      adds {E} (Ok done) false head xs q same is reply =
          absurd (let e : ◌≡◌ {A = Reply V} replies.Full replies.Done = sym (ap (λ (p : Reply V × ℕ × List ℕ). p.0) is) ∙ reply in cc)
      adds {E} (Err full) true head xs q same is reply =
          absurd (let e : ◌≡◌ {A = Reply V} replies.Done replies.Full = sym (ap (λ (p : Reply V × ℕ × List ℕ). p.0) is) ∙ reply in cc)
      adds {E} (Err full) false head xs q same is reply =
          subst (λ (p : Reply V × ℕ × List ℕ). DoesAdd {E = E} (Err full) (with_queue p.1 p.2)) (sym is)
          (unchanged_lanes head xs same, beside head xs)

      pub does_add : {E : Type 0} (added : Result (Unit {0}) E) → reply_of adding s ≡ Some (room_reply added)
          → DoesAdd added (after_call adding s)
      does_add added has =
          let is = answered adding s (with_queue told.1 told.2) told.0 added_here in
          let e : Some told.0 ≡ Some (room_reply added) = sym is.0 ∙ has in
          let reply : told.0 ≡ room_reply added = cc in
          subst (DoesAdd added) (sym is.1)
          (adds added (nat_lt ((at i le).0 + length (lanes i)) INDEX_LIMIT) (at i le).0 (lanes i) told refl refl reply)

    -- ---- an item is taken
    abbrev taking : Call V
    taking = record { target = g.first + i; op = ops.Dequeue }

    abbrev given : Reply V × ℕ × List ℕ
    given = dequeue_call (at i le).0 (lanes i)

    taken_here : call_of taking s ≡ Some (given.0, with_queue given.1 given.2)
    taken_here = ap (λ o. option_and_then (λ (h : Held V). option_map (λ (r : Reply V × Held V).
        (r.0, record s { held = slice_set s.held (g.first + i) r.1 })) (held_call ops.Dequeue h)) o) (at i le).1

    -- of this lane alone
    abbrev pub IsTakenHere : Option ℕ → Contents V → Type 0
    IsTakenHere (Some item) t = IsTaken g lanes (Some item) t × AreSameBeside g s t
    IsTakenHere None t = (lanes i ≡ []) × AreLanes g lanes t.held × AreSameBeside g s t

    takes : (found : Option ℕ) (head : ℕ) (xs : List ℕ) (q : Reply V × ℕ × List ℕ) → lanes i ≡ xs → q ≡ dequeue_call head xs
        → q.0 ≡ found_reply found → IsTakenHere found (with_queue q.1 q.2)
    takes None head [] q same is reply =
        subst (λ (p : Reply V × ℕ × List ℕ). IsTakenHere None (with_queue p.1 p.2)) (sym is)
        (same, unchanged_lanes head [] same, beside head [])
    takes None head (x ∷ xs) q same is reply =
        absurd (let e : ◌≡◌ {A = Reply V} (replies.Found x) replies.Nothing = sym (ap (λ (p : Reply V × ℕ × List ℕ). p.0) is) ∙ reply in cc)
    takes (Some item) head [] q same is reply =
        absurd (let e : ◌≡◌ {A = Reply V} replies.Nothing (replies.Found item) =
        sym (ap (λ (p : Reply V × ℕ × List ℕ). p.0) is) ∙ reply in cc)
    takes (Some item) head (x ∷ xs) q same is reply =
        let e : ◌≡◌ {A = Reply V} (replies.Found x) (replies.Found item) = sym (ap (λ (p : Reply V × ℕ × List ℕ). p.0) is) ∙ reply in
        let is_item : x ≡ item = cc in
        subst (λ (p : Reply V × ℕ × List ℕ). IsTakenHere (Some item) (with_queue p.1 p.2)) (sym is)
        ((i, xs, le, same ∙ ap (λ y. y ∷ xs) is_item, changed (head + 1) xs), beside (head + 1) xs)

    pub does_take : (found : Option ℕ) → reply_of taking s ≡ Some (found_reply found) → IsTakenHere found (after_call taking s)
    does_take found has =
        let is = answered taking s (with_queue given.1 given.2) given.0 taken_here in
        let e : Some given.0 ≡ Some (found_reply found) = sym is.0 ∙ has in
        let reply : given.0 ≡ found_reply found = cc in
        subst (IsTakenHere found) (sym is.1) (takes found (at i le).0 (lanes i) given refl refl reply)

  -- ---- enqueue
  pub has_added : {E : Type 0} (before now : TransactionShown V) (l : Lanes) (own number item : ℕ) (added : Result (Unit {0}) E)
      (r : Reply V)
      → own ≤ l.gates.others → number ≡ l.gates.first + own → HasMade before l.store number (ops.Enqueue item) r now → r ≡ room_reply added
      → HasDoneWithLanes before l (λ lanes t. IsAdded l.gates lanes item added t) now
  has_added before now l own number item added r le there has is = record {
    own = has.0;
    more = (record { target = number; op = ops.Enqueue item }, r) ∷ [];
    made = has.1;
    are = λ s lanes at legal.
        subst (λ n. reply_of (record { target = n; op = ops.Enqueue item }) s ≡ Some (room_reply added)
        → IsAdded l.gates lanes item added (after_call (record { target = n; op = ops.Enqueue item }) s)
        × AreSameBeside l.gates s (after_call (record { target = n; op = ops.Enqueue item }) s)) (sym there)
        (does_add l.gates lanes s at own le item added) (legal.0 ∙ ap Some is);
  }

  -- ---- dequeue, lane by lane
  pub none_yet : (before : TransactionShown V) (l : Lanes) (first : ℕ) → HasTakenFrom before l first first None before
  none_yet before l first = record {
    own = λ lt. absurd (omega (arith, lt));
    more = [];
    made = ap (λ (cs : List (Call V × Reply V)). record { store = before.store; calls = cs }) (sym (append-nil before.calls));
    are = λ s lanes at legal. ((λ i from to. absurd (omega (arith, from, to)), at), same_self l.gates s);
  }

  take_one : (g : Gates) (s t : Contents V) (lanes : ℕ
      → List ℕ) (at : AreLanes g lanes t.held) (i first end : ℕ) (le : i ≤ g.others) (found : Option ℕ)
      → end ≡ i + 1 → ((j : ℕ) → first ≤ j → j < i → lanes j ≡ []) → AreSameBeside g s t
      → reply_of (taking g lanes t at i le) t ≡ Some (found_reply found)
      → IsTakenFrom g first end lanes found (after_call (taking g lanes t at i le) t)
      × AreSameBeside g s (after_call (taking g lanes t at i le) t)
  take_one g s t lanes at i first end le (Some item) ends none same has =
      let is = does_take g lanes t at i le (Some item) has in
      (is.0, then_same g s t _ same is.1)
  take_one g s t lanes at i first end le None ends none same has =
      let is = does_take g lanes t at i le None has in
      ((λ j from to. by j (i == j) refl from to is.0, is.1), then_same g s t _ same is.2)
    where
      by : (j : ℕ) (b : Bool) → (i == j) ≡ b → first ≤ j → j < end → lanes i ≡ [] → lanes j ≡ []
      by j true e from to empty = ap lanes (sym (eqb-true i j e)) ∙ empty
      by j false other from to empty =
          let apart = unequal i j other in
          none j from (omega (arith, to, ends, apart))

  pub then_taken : (before mid now : TransactionShown V) (l : Lanes) (first i end number : ℕ) (found : Option ℕ) (r : Reply V)
      → i ≤ l.gates.others → end ≡ i + 1 → HasTakenFrom before l first i None mid → number ≡ l.gates.first + i
      → HasMade mid l.store number ops.Dequeue r now → r ≡ found_reply found → HasTakenFrom before l first end found now
  then_taken before mid now l first i end number found r le ends so there has is = record {
    own = λ lt. sym (ap (λ (t : TransactionShown V). t.store) so.made) ∙ has.0;
    more = so.more ++ (record { target = l.gates.first + i; op = ops.Dequeue }, found_reply found) ∷ [];
    made = has.1
        ∙ (λ j. record {
          store = (so.made j).store;
          calls =
              (so.made j).calls ++ (record { target = there j; op = ops.Dequeue }, is j) ∷ [];
        })
        ∙ ap (λ (cs : List (Call V × Reply V)). record { store = before.store; calls = cs }) (append_assoc before.calls so.more _);
    are = λ s lanes at legal.
        let parts = legal_parts so.more _ s legal in
        let done = so.are s lanes at parts.0 in
        subst (λ t. IsTakenFrom l.gates first end lanes found t × AreSameBeside l.gates s t) (sym (after_calls-append so.more _ s))
        (take_one l.gates s (after_calls so.more s) lanes done.0.1 i first end le found ends done.0.0 done.1 parts.1.0);
  }

  -- an item that was found is the answer of the whole search, and so is none once the last lane was looked at
  pub taken_within : (before now : TransactionShown V) (l : Lanes) (first m end item : ℕ) → first < m
      → HasTakenFrom before l first m (Some item) now → HasTakenFrom before l first end (Some item) now
  taken_within before now l first m end item lt has =
      record { own = λ any. has.own lt; more = has.more; made = has.made; are = has.are }

  pub none_within : (before now : TransactionShown V) (l : Lanes) (first m end : ℕ) → end ≤ m → HasTakenFrom before l first m None now
      → HasTakenFrom before l first end None now
  none_within before now l first m end le has = record {
    own = λ lt. has.own (omega (arith, lt, le));
    more = has.more;
    made = has.made;
    are = λ s lanes at legal.
        let done = has.are s lanes at legal in ((λ i from to. done.0.0 i from (omega (arith, to, le)), done.0.1), done.1);
  }

  -- ---- the whole round: from the own lane on, and then up to it
  pub taken_first : (before now : TransactionShown V) (l : Lanes) (own end item : ℕ) → own < end
      → HasTakenFrom before l own end (Some item) now
      → HasDoneWithLanes before l (λ lanes t. IsTaken l.gates lanes (Some item) t) now
  taken_first before now l own end item lt has = record { own = has.own lt; more = has.more; made = has.made; are = has.are }

  around : (g : Gates) (own end : ℕ) (found : Option ℕ) (lanes : ℕ → List ℕ) (t : Contents V) → end ≡ g.others + 1
      → ((i : ℕ) → own ≤ i → i < end → lanes i ≡ []) → IsTakenFrom g 0 own lanes found t → IsTaken g lanes found t
  around g own end (Some item) lanes t ends none taken = taken
  around g own end None lanes t ends none taken = (λ i le. by i (nat_lt i own) refl le, taken.1)
    where
      by : (i : ℕ) (b : Bool) → nat_lt i own ≡ b → i ≤ g.others → lanes i ≡ []
      by i true lt le = taken.0 i (omega arith) (let h : i < own = grind (arith, nat_tests) in h)
      by i false ge le = none i (let h : own ≤ i = grind (arith, nat_tests) in h) (omega (arith, le, ends))

  pub taken_then : (before mid now : TransactionShown V) (l : Lanes) (own end : ℕ) (found : Option ℕ) → own < end → end ≡ l.gates.others + 1
      → HasTakenFrom before l own end None mid → HasTakenFrom mid l 0 own found now
      → HasDoneWithLanes before l (λ lanes t. IsTaken l.gates lanes found t) now
  taken_then before mid now l own end found lt ends first second = record {
    own = first.own lt;
    more = first.more ++ second.more;
    made = second.made
        ∙ (λ j. record { store = (first.made j).store; calls = (first.made j).calls ++ second.more })
        ∙ ap (λ (cs : List (Call V × Reply V)). record { store = before.store; calls = cs })
        (append_assoc before.calls first.more second.more);
    are = λ s lanes at legal.
        let parts = legal_parts first.more second.more s legal in
        let one = first.are s lanes at parts.0 in
        let two = second.are (after_calls first.more s) lanes one.0.1 parts.1 in
        subst (λ t. IsTaken l.gates lanes found t × AreSameBeside l.gates s t) (sym (after_calls-append first.more second.more s))
        (around l.gates own end found lanes _ ends one.0.0 two.0, then_same l.gates s (after_calls first.more s) _ one.1 two.1);
  }

  -- ---- len
  queue_has_len : (s : Contents V) (c head : ℕ) (xs : List ℕ) → slice_get s.held c ≡ Some (held.Queue head xs) → HasLen s c (length xs)
  queue_has_len s c head xs at =
      ap (λ o. option_map (λ (r : Reply V × Contents V). r.0) (option_and_then (λ (h : Held V).
      option_map (λ (r : Reply V × Held V). (r.0, record s { held = slice_set s.held c r.1 })) (held_call ops.Len h)) o)) at

  counted : (g : Gates) (total : ℕ) (calls : List (Call V × Reply V)) → AreSummed g total calls
      → DoWithLanes g (λ lanes t. IsCounted g lanes total t) calls
  counted g total calls are s lanes at legal =
      let here : IsLegal (len_calls g.first are.counts) s = subst (λ cs. IsLegal cs s) are.made legal in
      let so = counts_sum g.first are.counts s (λ i. length (lanes i))
      (λ i lt. let le : i ≤ g.others = omega (arith, lt, are.all) in queue_has_len s (g.first + i) (at i le).0 (lanes i) (at i le).1)
      here in
      let many = ap (below (λ i. length (lanes i))) are.all in
      let same : after_calls calls s ≡ s = ap (λ cs. after_calls cs s) are.made ∙ lens_leave g.first are.counts s here in
      subst (λ t. IsCounted g lanes total t × AreSameBeside g s t) (sym same)
      ((are.is_sum ∙ so ∙ many ∙ sym (total_below lanes (g.others + 1)), at), same_self g s)

  pub lanes_len : (before now : TransactionShown V) (l : Lanes) (total : ℕ) → HasSummed before l.store l.gates total now
      → HasDoneWithLanes before l (λ lanes t. IsCounted l.gates lanes total t) now
  lanes_len before now l total has =
      record { own = has.own; more = has.more; made = has.made; are = counted l.gates total has.more has.are }
