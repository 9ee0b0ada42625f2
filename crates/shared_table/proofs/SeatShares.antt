-- A seat that is cut in two, two that become one, and the last one: what the rule of a table says of them.
use Rattle.shared_table.specs.declared.view.TheConstants.{SHARES}
use Rattle.std.proofs.Common.{◌≡◌, ℕ, zero, suc, ◌+◌, ◌<◌, ◌≤◌, List, [], ◌∷◌, Some, None, length, get_or, set, sym, refl, ap, ◌∙◌, subst}
use Rattle.std.proofs.Common.{arith, ◌≢◌, ⊎_elim, length-set}
use Rattle.std.specs.Prelude.{map}
use Rattle.std.proofs.lemmas.Option.{slice_get_within}
use mathlib.Core.Option.{some, some-injective}
use lib.ListN.{get_elem?}
use lib.Seq.{set-get_or}
use Rattle.atomic_table.specs.Table.{Me, Allows, Splits, Joins, Final, Seen, keeps}
use Rattle.atomic_table.proofs.Lists.{at_set}
use Rattle.tx_machine.specs.Cells.{ClockCell, ValueCell}
use Rattle.replay_log.specs.Base.{held_of, shown_of}
use Rattle.replay_log.specs.Seats.{World}
use Rattle.replay_log.specs.Worlds.{run}
use Rattle.replay_log.specs.WorldSerial.{AreUpTo}
use Rattle.shared_table.specs.declared.view.Opening.{Opening}
use Rattle.shared_table.specs.Layout.{address, values_in}
use Rattle.shared_table.specs.Opening.{Holds, blocks_at, locations_at, words_at, world_at}
use Rattle.shared_table.specs.Turns.{Turn, lone}
use Rattle.shared_table.specs.Shown.{highest_clock, SeatKnowledge, Slot, Closes, ShowsWorld, HasReceipts, IsJoined, IsOwn, IsSpent, Shows}
use Rattle.shared_table.specs.Shown.{total, owed, looking, left_of, right_of, both_of}
use Rattle.shared_table.specs.Shown.{spent_of}
use Rattle.shared_table.specs.Seated.{Rests}
use Rattle.shared_table.proofs.Numbers.{map_at, tally_set, total_set, total_part, inside}
use Rattle.shared_table.proofs.Keeps.{still_joined}
use Rattle.shared_table.proofs.Ends.{ClosingLaw, splits, joins, opening_is, shows_world}
use Rattle.shared_table.proofs.Left.{same_home}

module _ {A : Type 0} where
  set_here : (l : List A) (i : ℕ) (v : A) → get_elem? l i ≡ some v → set l i v ≡ l
  set_here [] i v e = refl
  set_here (x ∷ xs) zero v e = ap (λ (y : A). y ∷ xs) (sym (some-injective x v e))
  set_here (x ∷ xs) (suc i) v e = ap (λ (ys : List A). x ∷ ys) (set_here xs i v e)

  -- what is found at an index that is there stands there
  pub stands : (l : List A) (i : ℕ) (v : A) → i < length l → v ≡ get_or l i v → get_elem? l i ≡ some v
  stands [] i v low e = absurd (omega arith)
  stands (x ∷ xs) zero v low e = ap (λ (y : A). some y) (sym e)
  stands (x ∷ xs) (suc i) v low e = stands xs i v (omega arith) e

module _ {V : Type 0} where
  pub cuts : (key : Opening V) (id k : ℕ) (v : SeatKnowledge V) → 0 < k → k < v.shares
      → Splits (Holds key) id v (left_of k v) (right_of k v)
  cuts key id k v more fewer s h here = record {
    stripes = h.stripes;
    suits = h.suits;
    rule = record {
      events = h.rule.events;
      shows = splits (world_at key) (run (world_at key) h.rule.events) id k v
          (opening_is (blocks_at key) key.shape.value.clock key.state.value.words key.state.value.held) more fewer s h.rule.shows here;
    };
  }

  pub merges : (key : Opening V) (id other : ℕ) (v u : SeatKnowledge V) → 0 < v.shares → 0 < u.shares
      → Rests other (lone other (world_at key) u.turns)
      → Joins (Holds key) id v other u (both_of v other u) (spent_of u)
  merges key id other v u live alive rests s h here apart there = record {
    stripes = h.stripes;
    suits = h.suits;
    rule = record {
      events = h.rule.events;
      shows = joins (world_at key) (run (world_at key) h.rule.events) id other v u live alive rests.0 rests.1 s h.rule.shows here apart
          there;
    };
  }

  -- a load that is no step of the actor: there are `SHARES` shares
  pub counts : (key : Opening V) (slots id : ℕ) (m : Me (Slot V) (SeatKnowledge V))
      → Allows (Holds key) slots id m 0 (λ k. k) (λ found t. (t ≡ m) × (m.0.shares ≤ SHARES))
  counts key slots id m s h len here small =
      let words : set s.words 0 (get_or s.words 0 0) ≡ s.words = set-get_or s.words 0 0 in
      let views : set s.views id m.0 ≡ s.views = set_here s.views id m.0 here in
      let part = total_part (λ (v : SeatKnowledge V). v.shares) s.views id m.0 here in
      let all = h.rule.shows.shares in (
        m.0,
        keeps,
        tt,
        subst (λ (z : List ℕ × List (SeatKnowledge V)). Holds key (record { words = z.0; homes = s.homes; views = z.1 }))
            (λ i. (sym words i, sym views i)) h,
        (refl, omega arith),
      )

  -- a load of the clock that is no step of the actor: the world stands, and the seat knows the clock from then on
  pub looks_on : (o w : World V) (slots id : ℕ) (m : Me (Slot V) (SeatKnowledge V))
      → Allows (Shows o w) slots id m 0 (λ k. k)
      (λ found t. (t ≡ (looking m.0 found, m.1)) × (m.0.clock ≤ found) × (found ≤ highest_clock))
  looks_on o w slots id m s S len here small =
      let vs : List (SeatKnowledge V) = s.views in
      let found : ℕ = get_or s.words 0 0 in
      let word : found ≡ w.boosted.words.clock = S.table.cells ClockCell tt in
      let v : SeatKnowledge V = looking m.0 found in
      let same : set s.words 0 found ≡ s.words = set-get_or s.words 0 0 in
      let old = S.clocks id m.0 here in
      let room = S.room in (
        v,
        keeps,
        tt,
        subst (λ (ws : List ℕ). Shows o w record { words = ws; homes = s.homes; views = set vs id v }) (sym same) record {
          shape = S.shape;
          table = S.table;
          clocks = λ j z e. ⊎_elim
              (λ (t : (j ≡ id) × (v ≡ z)). let q : found ≡ z.clock = ap (λ (p : SeatKnowledge V). p.clock) t.1 in omega arith)
              (λ (t : (j ≢ id) × (get_elem? vs j ≡ some z)). S.clocks j z t.1) (at_set vs id j v z e);
          room = (let t = tally_set (owed o) 0 vs id m.0 v here in
              let q : owed o (0 + id) v ≡ owed o (0 + id) m.0 = refl in omega arith);
          shares = (let t = total_set (λ (z : SeatKnowledge V). z.shares) vs id m.0 v here in let a = S.shares in omega arith);
          own = λ j z e. ⊎_elim
              (λ (t : (j ≡ id) × (v ≡ z)). subst (λ (p : ℕ × SeatKnowledge V). IsOwn p.0 w (lone p.0 o p.1.turns)) (λ i. (sym t.0 i, t.1 i))
              (S.own id m.0 here))
              (λ (t : (j ≢ id) × (get_elem? vs j ≡ some z)). S.own j z t.1) (at_set vs id j v z e);
          fresh = λ a l. (let len = length-set vs id v in S.fresh a (omega arith));
          spent = λ j z e none. ⊎_elim
              (λ (t : (j ≡ id) × (v ≡ z)). let q = S.spent id m.0 here (ap (λ (p : SeatKnowledge V). p.shares) t.1 ∙ none) in
              subst (λ (p : ℕ × SeatKnowledge V). IsSpent o p.0 p.1) (λ i. (sym t.0 i, t.1 i))
              (record { receipts = q.receipts; done = q.done; bare = q.bare }))
              (λ (t : (j ≢ id) × (get_elem? vs j ≡ some z)). S.spent j z t.1 none) (at_set vs id j v z e);
          joined = λ j z e i d lt.
              (let old : (k : ℕ) (x : SeatKnowledge V) → get_elem? vs k ≡ some x → i < length x.joined
              → IsJoined (set vs id v) (get_or x.joined i d) =
              λ k x at low. still_joined vs id m.0 v (get_or x.joined i d) here (λ none. (none, refl)) (S.joined k x at i d low) in
              ⊎_elim
              (λ (t : (j ≡ id) × (v ≡ z)). let q : v.joined ≡ z.joined = ap (λ (x : SeatKnowledge V). x.joined) t.1 in
              subst (λ (ps : List (ℕ × List (Turn V))). IsJoined (set vs id v) (get_or ps i d)) q
              (old id m.0 here (let c = ap (λ (ps : List (ℕ × List (Turn V))). length ps) q in omega arith)))
              (λ (t : (j ≢ id) × (get_elem? vs j ≡ some z)). old j z t.1 lt) (at_set vs id j v z e));
          receipts = λ f. (let t = total_set (λ (z : SeatKnowledge V). total f z.receipts) vs id m.0 v here in
              let a = S.receipts f in omega arith);
          earned = λ j z e some_shares. ⊎_elim
              (λ (t : (j ≡ id) × (v ≡ z)). subst (λ (p : ℕ × SeatKnowledge V). HasReceipts o p.0 p.1) (λ i. (sym t.0 i, t.1 i))
              (S.earned id m.0 here (let q : m.0.shares ≡ z.shares = ap (λ (p : SeatKnowledge V). p.shares) t.1 in omega arith)))
              (λ (t : (j ≢ id) × (get_elem? vs j ≡ some z)). S.earned j z t.1 some_shares) (at_set vs id j v z e);
        },
        (refl, omega arith, omega arith),
      )

  pub looks : (key : Opening V) (slots id : ℕ) (m : Me (Slot V) (SeatKnowledge V))
      → Allows (Holds key) slots id m 0 (λ k. k)
      (λ found t. (t ≡ (looking m.0 found, m.1)) × (m.0.clock ≤ found) × (found ≤ highest_clock))
  looks key slots id m s h len here small =
      let r = looks_on (world_at key) (run (world_at key) h.rule.events) slots id m s h.rule.shows len here small in (
        r.0,
        r.1,
        r.2,
        record { stripes = h.stripes; suits = h.suits; rule = record { events = h.rule.events; shows = r.3 } },
        r.4,
      )

  pub closes_all : ClosingLaw V → (key : Opening V) (id : ℕ) (v : SeatKnowledge V) (ws : List ℕ) (xs : List (Slot V)) → v.shares ≡ SHARES
      → Rests id (lone id (world_at key) v.turns) → Final (Seen (Holds key) id v) ws xs
      → Closes (words_at key) (blocks_at key) key.state.value v ws (map some xs)
  closes_all law key id v ws xs all rests last =
      let s = last.0 in
      let h = last.1.0 in
      let c = law (blocks_at key) key.shape.value.clock key.state.value.words key.state.value.held h.stripes h.suits id v s h.rule
      last.1.1 all rests.0 rests.1 in
      record {
        order = c.order;
        same = c.same;
        in_order = c.in_order;
        numbers = subst (λ (w : List ℕ). AreUpTo (get_or w 0 0) c.order) last.2 c.numbers;
        serial = c.serial;
        values = λ l low. ap (λ (w : List ℕ). get_or w (address (locations_at key) (ValueCell l)) 0) (sym last.2) ∙ c.values l low;
        bases = λ k low. (let b = c.bases k low in (b.0, map_at some xs k (Some b.0) (last.4 k (Some b.0) b.1), b.2));
        within = c.within;
        state = λ ds long home.
            c.state ds long (λ k d at. (
            let low = slice_get_within ds k d at in
            let b = c.bases k (omega (arith, low, long)) in
            let same : b.0 ≡ d =
            same_home (get_elem? (map some xs) k) b.0 d (map_at some xs k (Some b.0) (last.4 k (Some b.0) b.1)) (home k d at) in
            subst (λ x. get_elem? s.homes k ≡ some (some (Some x))) same b.1))
            ∙ ap (λ (w : List ℕ). record {
              words = values_in (locations_at key) (words_at key) w;
              held = map (λ d. held_of (shown_of d)) ds;
            }) last.2;
      }

  pub shows_last : (key : Opening V) (id : ℕ) (v : SeatKnowledge V) (ws : List ℕ) (xs : List (Slot V)) → v.shares ≡ SHARES
      → Rests id (lone id (world_at key) v.turns) → Final (Seen (Holds key) id v) ws xs
      → ShowsWorld (world_at key) id v ws (map some xs)
  shows_last key id v ws xs all rests last =
      let s = last.0 in
      let shown = shows_world (world_at key) id v s last.1.0.rule
      (opening_is (blocks_at key) key.shape.value.clock key.state.value.words key.state.value.held) last.1.1 all rests.1 in
      record {
        events = shown.events;
        own = shown.own;
        joined = shown.joined;
        records = shown.records;
        clock = ap (λ (w : List ℕ). get_or w 0 0) (sym last.2) ∙ shown.clock;
        known = shown.known;
        bases = λ k low. (let b = shown.bases k low in (b.0, map_at some xs k (Some b.0) (last.4 k (Some b.0) b.1), b.2, b.3));
      }

  -- every base is in its slot
  pub all_home : (key : Opening V) (v : SeatKnowledge V) (ws : List ℕ) (xs : List (Slot V))
      → Closes (words_at key) (blocks_at key) key.state.value v ws (map some xs) → length xs ≡ length (blocks_at key)
      → (k : ℕ) → get_elem? xs k ≡ some None → ⊥
  all_home key v ws xs c long k out =
      let low = inside xs k None out in
      let b = c.bases k (let z : k < length (blocks_at key) = omega arith in z) in
      let e : some (some None) ≡ some (some (Some b.0)) = sym (map_at some xs k None out) ∙ b.1 in
      absurd (cc)
