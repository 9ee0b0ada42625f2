-- The table opens, a seat is cut in two, two seats become one, and what a closed table leaves.
--
-- None of these is an event: the world stands, and the sums over the seats (shares, receipts, what the clock is owed) are cut and joined
-- as numbers. A new seat knows the opening. A seat that was joined away has no commit half done and no gate, so with all shares in one
-- seat nothing is under way, and the world's serial order says what words and bases hold.
use Rattle.shared_table.specs.declared.view.TheConstants.{SHARES}
use Rattle.std.proofs.Common.{◌≡◌, ℕ, subst, zero, suc, ◌+◌, ◌-◌, ◌<◌, ◌≤◌, ◌≢◌, false, List, [], ◌∷◌, ◌++◌, length, set}
use Rattle.std.proofs.Common.{get_or, Option as Maybe, Some, None, sym, refl, ap, ◌∙◌, ⊎_elim, arith, length-set, length-append}
use Rattle.std.proofs.Common.{true≢false, eq-eqb}
use Rattle.std.specs.Prelude.{All}
use Rattle.std.proofs.lemmas.List.Elements.{All-append, All-cons, All-nil}
use mathlib.Core.Logic.{dite}
use mathlib.Core.Option.{Option, some, some-injective, some-ne-none}
use native.Mathlib.Decide.{ℕ_discrete, dec_lt}
use lib.ListN.{get_elem?}
use Rattle.atomic_table.specs.Table.{State, Splits, Joins}
use Rattle.atomic_table.proofs.Lists.{at_set}
use Rattle.tx_machine.specs.Cells.{ClockCell, ValueCell}
use Rattle.seq_model.specs.declared.held.Held.{Held}
use Rattle.seq_model.specs.Contents.{Contents}
use Rattle.tx_machine.specs.Boosted.{is_actor}
use Rattle.replay_log.specs.Collections.{Suit, shown_at}
use Rattle.seq_model.specs.Runs.{after_run}
use Rattle.seq_model.specs.declared.event.Event.{Event}
use Rattle.replay_log.proofs.TraceLemmas.{shows_state}
use Rattle.replay_log.specs.Contents as contents
use Rattle.replay_log.specs.Contents.{Block, HaveStripes, end_of, is_plain}
use Rattle.replay_log.specs.Seats.{World, Seat, actor_of}
use Rattle.replay_log.specs.Worlds.{run, opened}
use Rattle.replay_log.specs.WorldSerial.{AreUpTo, IsSerial}
use Rattle.replay_log.specs.WorldTraces.{is_half_done}
use Rattle.actor_laws.specs.Own.{Alike}
use Rattle.actor_laws.proofs.Alike.{alike_same}
use Rattle.shared_table.specs.Turns.{Turn, stage_of, lone}
use Rattle.shared_table.specs.Shown.{SeatKnowledge, Slot, total, owed, Table, IsJoined, IsOwn, IsSpent, Rule, Shows, left_of, right_of}
use Rattle.shared_table.specs.Shown.{HasReceipts, aborted_by, both_of, only_by, spent_of}
use Rattle.seq_model.specs.declared.record.Record.{Record}
use Rattle.shared_table.specs.Shown.{Closes, IsOpening, ShowsWorld, first}
use Rattle.shared_table.proofs.Numbers.{total_set, total_snoc, total_append, there, at_end, tally_set, tally_snoc, total_alone, total_two}
use Rattle.shared_table.proofs.Numbers.{at_set_same, in_front}
use Rattle.shared_table.proofs.Keeps.{owed_some, still_joined}
use Rattle.shared_table.proofs.Left.{shows_left, suit_within}
use Rattle.tx_machine.specs.Actor.{clock_limit}

module _ {V : Type 0} where
  pub splits : (o w : World V) (id k : ℕ) (v : SeatKnowledge V) → IsOpening o → 0 < k → k < v.shares → Splits (Shows o w) id v (left_of k v)
      (right_of k v)
  splits o w id k v opening some_shares fewer s S here =
      let vs : List (SeatKnowledge V) = s.views in
      let x : SeatKnowledge V = left_of k v in
      let y : SeatKnowledge V = right_of k v in
      let new : List (SeatKnowledge V) = set vs id x ++ y ∷ [] in
      let len : length (set vs id x) ≡ length vs = length-set vs id x in
      let fresh_there : IsOwn (length vs) w o = S.fresh (length vs) (omega arith) in
      let same : (f : SeatKnowledge V → ℕ) → f x + f y ≡ f v → total f new ≡ total f vs =
      λ f e. (let p = total_set f vs id v x here in let q = total_snoc f (set vs id x) y in omega arith) in
      let cases : (P : ℕ → SeatKnowledge V → Type 0) → P id x → P (length vs) y
      → ((j : ℕ) (u : SeatKnowledge V) → get_elem? vs j ≡ some u → P j u)
      → (j : ℕ) (u : SeatKnowledge V) → get_elem? new j ≡ some u → P j u =
      λ P px py old j u e. ⊎_elim
      (λ (t : get_elem? (set vs id x) j ≡ some u). ⊎_elim
      (λ (q : (j ≡ id) × (x ≡ u)). subst (λ (z : ℕ × SeatKnowledge V). P z.0 z.1) (λ i. (sym q.0 i, q.1 i)) px)
      (λ (q : (j ≢ id) × (get_elem? vs j ≡ some u)). old j u q.1) (at_set vs id j x u t))
      (λ (t : (j ≡ length (set vs id x)) × (y ≡ u)). subst (λ (z : ℕ × SeatKnowledge V). P z.0 z.1) (λ i. (sym (t.0 ∙ len) i, t.1 i)) py)
      (at_end (set vs id x) y u j e) in
      let kept : (j : ℕ) (u : SeatKnowledge V) → get_elem? vs j ≡ some u → All (IsJoined new) u.joined =
      λ j u e i d lt. (let q = still_joined vs id v x (get_or u.joined i d) here (λ none. absurd (omega arith)) (S.joined j u e i d lt) in
      (q.0, in_front (set vs id x) (y ∷ []) (get_or u.joined i d).0 q.0 q.1, q.2, q.3)) in
      record {
        shape = S.shape;
        table = S.table;
        clocks = cases (λ j u. u.clock ≤ w.boosted.words.clock) (S.clocks id v here) (omega arith) S.clocks;
        room =
            (let p = tally_set (owed o) 0 vs id v x here in
            let q = tally_snoc (owed o) 0 (set vs id x) y in
            let z : 0 + id ≡ id = omega arith in
            let zv : owed o (0 + id) v ≡ owed o id v = ap (λ (m : ℕ). owed o m v) z in
            let zx : owed o (0 + id) x ≡ owed o id x = ap (λ (m : ℕ). owed o m x) z in
            let a = S.room in
            let b = owed_some v.shares (actor_of (lone id o v.turns) id).place (omega arith) in
            let c = owed_some (v.shares - k) (actor_of (lone id o v.turns) id).place (omega arith) in
            let n = 0 + length (set vs id x) in
            let d = owed_some k (actor_of o n).place some_shares in
            let e = opening.rests n in omega arith);
        shares = same (λ u. u.shares) (omega arith) ∙ S.shares;
        own = cases (λ j u. IsOwn j w (lone j o u.turns)) (S.own id v here)
            fresh_there S.own;
        fresh = λ a l. (let m = length-append (set vs id x) (y ∷ []) in S.fresh a (omega arith));
        spent = cases (λ j u. u.shares ≡ 0 → IsSpent o j u) (λ z. absurd (omega arith)) (λ z. absurd (omega arith)) S.spent;
        joined = cases (λ j u. All (IsJoined new) u.joined) (kept id v here) (All-nil (IsJoined new)) kept;
        receipts = λ h. same (λ u. total h u.receipts) (omega arith) ∙ S.receipts h;
        earned = cases (λ j u. 0 < u.shares → HasReceipts o j u) (λ _. S.earned id v here (omega arith))
            (λ _ h. (let none : total h o.records ≡ 0 = ap (total h) opening.records in omega arith)) S.earned;
      }

  pub joins : (o w : World V) (id other : ℕ) (v u : SeatKnowledge V) → 0 < v.shares → 0 < u.shares
      → is_half_done (stage_of (lone other o u.turns) other) ≡ false
      → ((k : ℕ) → is_actor other ((lone other o u.turns).boosted.gates k) ≡ false)
      → Joins (Shows o w) id v other u (both_of v other u) (spent_of u)
  joins o w id other v u some_shares more done bare s S here apart there₁ =
      let vs : List (SeatKnowledge V) = s.views in
      let x : SeatKnowledge V = both_of v other u in
      let y : SeatKnowledge V = spent_of u in
      let mid : List (SeatKnowledge V) = set vs id x in
      let new : List (SeatKnowledge V) = set mid other y in
      let there₂ : get_elem? vs other ≡ some u = ⊎_elim (λ (t : (other ≡ id) × (x ≡ u)). absurd (apart t.0))
      (λ (t : (other ≢ id) × (get_elem? vs other ≡ some u)). t.1) (at_set vs id other x u there₁) in
      let len : length new ≡ length vs = length-set mid other y ∙ length-set vs id x in
      let same : (f : SeatKnowledge V → ℕ) → f x + f y ≡ f v + f u → total f new ≡ total f vs =
      λ f e. (let p = total_set f vs id v x here in let q = total_set f mid other u y there₁ in omega arith) in
      let cases : (P : ℕ → SeatKnowledge V → Type 0) → P id x → P other y
      → ((j : ℕ) (q : SeatKnowledge V) → get_elem? vs j ≡ some q → P j q)
      → (j : ℕ) (q : SeatKnowledge V) → get_elem? new j ≡ some q → P j q =
      λ P px pn old j q e. ⊎_elim
      (λ (t : (j ≡ other) × (y ≡ q)). subst (λ (z : ℕ × SeatKnowledge V). P z.0 z.1) (λ i. (sym t.0 i, t.1 i)) pn)
      (λ (t : (j ≢ other) × (get_elem? mid j ≡ some q)). ⊎_elim
      (λ (k : (j ≡ id) × (x ≡ q)). subst (λ (z : ℕ × SeatKnowledge V). P z.0 z.1) (λ i. (sym k.0 i, k.1 i)) px)
      (λ (k : (j ≢ id) × (get_elem? vs j ≡ some q)). old j q k.1) (at_set vs id j x q t.1))
      (at_set mid other j y q e) in
      let kept : (j : ℕ) (q : SeatKnowledge V) → get_elem? vs j ≡ some q → All (IsJoined new) q.joined =
      λ j q e i d lt.
      still_joined mid other u y (get_or q.joined i d) there₁ (λ none. absurd (omega arith))
      (still_joined vs id v x (get_or q.joined i d) here (λ none. absurd (omega arith)) (S.joined j q e i d lt)) in
      record {
        shape = S.shape;
        table = S.table;
        clocks = cases (λ j q. q.clock ≤ w.boosted.words.clock)
            (let a = S.clocks id v here in let b = S.clocks other u there₂ in omega arith) (omega arith) S.clocks;
        room =
            (let p = tally_set (owed o) 0 vs id v x here in
            let r = tally_set (owed o) 0 mid other u y there₁ in
            let z : 0 + id ≡ id = omega arith in
            let zv : owed o (0 + id) v ≡ owed o id v = ap (λ (m : ℕ). owed o m v) z in
            let zx : owed o (0 + id) x ≡ owed o id x = ap (λ (m : ℕ). owed o m x) z in
            let a = S.room in
            let b = owed_some v.shares (actor_of (lone id o v.turns) id).place some_shares in
            let c = owed_some (v.shares + u.shares) (actor_of (lone id o v.turns) id).place (omega arith) in omega arith);
        shares = same (λ q. q.shares) (omega arith) ∙ S.shares;
        own = cases (λ j q. IsOwn j w (lone j o q.turns)) (S.own id v here) (S.own other u there₂) S.own;
        fresh = λ a l. S.fresh a (omega arith);
        spent = cases (λ j q. q.shares ≡ 0 → IsSpent o j q) (λ z. absurd (omega arith))
            (λ z. record { receipts = refl; done = done; bare = bare }) S.spent;
        joined = cases (λ j q. All (IsJoined new) q.joined)
            (All-append (IsJoined new) v.joined ((other, u.turns) ∷ u.joined) (kept id v here)
            (All-cons (IsJoined new) (other, u.turns) u.joined (y, at_set_same mid other u y there₁, refl, refl) (kept other u there₂)))
            (All-nil (IsJoined new)) kept;
        receipts = λ h. same (λ q. total h q.receipts) (let p = total_append h v.receipts u.receipts in omega arith) ∙ S.receipts h;
        earned = cases (λ j q. 0 < q.shares → HasReceipts o j q)
            (λ _ h. (let p = total_append h v.receipts u.receipts in
            let q = total_append (λ (p : ℕ × List (Turn V)). total h (lone p.0 o p.1).records) v.joined ((other, u.turns) ∷ u.joined) in
            let mine = S.earned id v here some_shares h in
            let theirs = S.earned other u there₂ more h in omega arith))
            (λ z. absurd (omega arith)) S.earned;
      }

  -- a seat with all shares leaves none to the others
  spent_at : (o : World V) (id : ℕ) (v : SeatKnowledge V) (s : State (Slot V) (SeatKnowledge V)) → Rule o s
      → get_elem? s.views id ≡ some v → v.shares ≡ SHARES → (j : ℕ) (u : SeatKnowledge V) → j ≢ id → get_elem? s.views j ≡ some u
      → u.shares ≡ 0
  spent_at o id v s rule here all j u ne e =
      let p = total_two (λ (z : SeatKnowledge V). z.shares) s.views id j v u here e ne in let q =
      rule.shows.shares in omega (arith, p, q, all)

  -- what holds then of the lone world of its actor, of those of seats that were joined, and of the opening, holds of every actor
  every : (o : World V) (id : ℕ) (v : SeatKnowledge V) (s : State (Slot V) (SeatKnowledge V)) (rule : Rule o s)
      → get_elem? s.views id ≡ some v
      → v.shares ≡ SHARES → (P : World V → ℕ → Type 0) → ((a : ℕ) (x y : World V) → Alike a x y → P y a → P x a)
      → P (lone id o v.turns) id → ((j : ℕ) (u : SeatKnowledge V) → IsSpent o j u → P (lone j o u.turns) j) → ((a : ℕ) → P o a) → (a : ℕ)
      → P (run o rule.events) a
  every o id v s rule here all P by mine other new a = dite (ℕ_discrete a id)
      (λ e. subst (P (run o rule.events)) (sym e) (by id (run o rule.events) (lone id o v.turns) (rule.shows.own id v here).alike mine))
      (λ ne. dite (dec_lt a (length s.views))
      (λ l. let t = there s.views a l in by a (run o rule.events) (lone a o t.0.turns) (rule.shows.own a t.0 t.1).alike
      (other a t.0 (rule.shows.spent a t.0 t.1 (spent_at o id v s rule here all a t.0 ne t.1))))
      (λ no. by a (run o rule.events) o (rule.shows.fresh a (omega (arith, no))).alike (new a)))

  -- and where it holds no gate, none is held
  all_free : (o : World V) (id : ℕ) (v : SeatKnowledge V) (s : State (Slot V) (SeatKnowledge V)) (rule : Rule o s) → IsOpening o
      → get_elem? s.views id ≡ some v → v.shares ≡ SHARES → ((k : ℕ) → is_actor id ((lone id o v.turns).boosted.gates k) ≡ false)
      → (k : ℕ) → (run o rule.events).boosted.gates k ≡ None
  all_free o id v s rule start here all bare k = by_gate ((run o rule.events).boosted.gates k) refl
    where
      none_has : (a : ℕ) → is_actor a ((run o rule.events).boosted.gates k) ≡ false
      none_has = every o id v s rule here all (λ x a. is_actor a (x.boosted.gates k) ≡ false) (λ a x y e h. e.boosted.gates k ∙ h) (bare k)
          (λ j u h. h.bare k) (λ a. ap (is_actor a) (start.free k))

      by_gate : (p : Maybe ℕ) → (run o rule.events).boosted.gates k ≡ p → (run o rule.events).boosted.gates k ≡ None
      by_gate None e = e
      by_gate (Some j) e = absurd (true≢false (sym (eq-eqb j j refl) ∙ (sym (ap (is_actor j) e) ∙ none_has j)))

  -- the receipts of a seat that has all shares are all records
  all_records : (o : World V) (id : ℕ) (v : SeatKnowledge V) (s : State (Slot V) (SeatKnowledge V)) (rule : Rule o s)
      → get_elem? s.views id ≡ some v
      → v.shares ≡ SHARES → (h : ℕ × Record V → ℕ) → total h v.receipts ≡ total h (run o rule.events).records
  all_records o id v s rule here all h = sym (total_alone (λ (z : SeatKnowledge V). total h z.receipts) s.views id v here
      (λ j u ne e. ap (total h) (rule.shows.spent j u e (spent_at o id v s rule here all j u ne e)).receipts)) ∙ rule.shows.receipts h

  pub shows_world : (o : World V) (id : ℕ) (v : SeatKnowledge V) (s : State (Slot V) (SeatKnowledge V)) → Rule o s → IsOpening o
      → get_elem? s.views id ≡ some v → v.shares ≡ SHARES → ((k : ℕ) → is_actor id ((lone id o v.turns).boosted.gates k) ≡ false)
      → ShowsWorld o id v s.words s.homes
  shows_world o id v s rule start here all bare = record {
    events = rule.events;
    own = rule.shows.own id v here;
    joined = λ i d lt. (let q = rule.shows.joined id v here i d lt in let a = (get_or v.joined i d).0 in
        subst (λ (is : List (Turn V)). IsOwn a (run o rule.events) (lone a o is)) q.3 (rule.shows.own a q.0 q.1));
    records = all_records o id v s rule here all;
    clock = rule.shows.table.cells ClockCell tt;
    known = rule.shows.clocks id v here;
    bases = λ k low. (rule.shows.table.slots k low).0 (all_free o id v s rule start here all bare k);
  }

  pub closes : (o : World V) (opening : Contents V) (id : ℕ) (v : SeatKnowledge V) (s : State (Slot V) (SeatKnowledge V)) (rule : Rule o s)
      → HaveStripes o.blocks → IsOpening o
      → IsSerial opening (run o rule.events)
      → AreUpTo (run o rule.events).boosted.words.clock (run o rule.events).records → get_elem? s.views id ≡ some v → v.shares ≡ SHARES
      → is_half_done (stage_of (lone id o v.turns) id) ≡ false → ((k : ℕ) → is_actor id ((lone id o v.turns).boosted.gates k) ≡ false)
      → o.words ≤ end_of o.words o.blocks → Closes o.words o.blocks opening v s.words s.homes
  closes o opening id v s rule stripes start serial past here all done bare wide =
      let S = rule.shows in
      let w : World V = run o rule.events in
      let free : (k : ℕ) → w.boosted.gates k ≡ None = all_free o id v s rule start here all bare in
      let rests : (a : ℕ) → is_half_done (w.seats a).stage ≡ false =
      every o id v s rule here all (λ x a. is_half_done (stage_of x a) ≡ false)
      (λ a x y e h. ap (λ (z : Seat V). is_half_done z.stage) e.seat ∙ h)
      done (λ j u h. h.done) start.idle in
      let held = serial.left rests in
      let e1 = S.shape.0 in
      let e2 = S.shape.1 in record {
        order = w.records;
        same = all_records o id v s rule here all;
        in_order = serial.ordered;
        numbers = subst (λ k. AreUpTo k w.records) (sym (S.table.cells ClockCell tt)) past;
        serial = serial.run;
        values = λ l lt. S.table.cells (ValueCell l) (omega (arith, lt, wide)) ∙ held.words l (let q = e1 in omega (arith, lt, q));
        bases = λ k lt. (let b = (S.table.slots k lt).0 (free k) in (
          b.0,
          b.1,
          λ l p at.
              sym (b.3 l p at).0 ∙
              (held.held l ((λ i. is_plain (e1 i) (e2 i) l) ∙ p) ∙ (λ i. shown_at (e1 i) (e2 i) (after_run w.records opening).held l)),
        ));
        within = suit_within w.blocks (after_run w.records opening).held held.suit;
        state = λ ds long home.
            sym (shows_state w (after_run w.records opening) (subst HaveStripes (sym e2) stripes) held)
            ∙ shows_left o.words o.blocks w s.words s.homes ds e1 e2 stripes S.table free long home;
      }

-- ---- laws, each as its function states it
abbrev pub SerialLaw : Type 0 → Type 0
SerialLaw V =
    (blocks : List Block) (clock : ℕ) (values : List ℕ) (held : List (Held V)) (events : List (Event V)) → HaveStripes blocks
    → Suit blocks held → IsSerial (record { words = values; held = held }) (run (opened blocks clock values held) events)

abbrev pub NumberLaw : Type 0 → Type 0
NumberLaw V =
    (blocks : List Block) (clock : ℕ) (values : List ℕ) (held : List (Held V)) (events : List (Event V)) → HaveStripes blocks
    → Suit blocks held → let w = run (opened blocks clock values held) events in AreUpTo w.boosted.words.clock w.records

abbrev pub ClosingLaw : Type 0 → Type 0
ClosingLaw V =
    (blocks : List Block) (clock : ℕ) (values : List ℕ) (held : List (Held V)) → HaveStripes blocks → Suit blocks held
    → let o = opened blocks clock values held in
    (id : ℕ) (v : SeatKnowledge V) (s : State (Slot V) (SeatKnowledge V)) → Rule o s → get_elem? s.views id ≡ some v → v.shares ≡ SHARES
    → is_half_done (stage_of (lone id o v.turns) id) ≡ false → ((k : ℕ) → is_actor id ((lone id o v.turns).boosted.gates k) ≡ false)
    → Closes (length values) blocks (record { words = values; held = held }) v s.words s.homes

above : (n : ℕ) (bs : List Block) → n ≤ end_of n bs
above n [] = omega arith
above n (b ∷ bs) = let z = above (n + contents.size b) bs in omega (arith, z)

module _ {V : Type 0} where
  pub opening_is : (blocks : List Block) (clock : ℕ) (values : List ℕ) (held : List (Held V)) → IsOpening (opened blocks clock values held)
  opening_is blocks clock values held = record {
    records = refl;
    aborted = refl;
    free = λ k. refl;
    rests = λ a. refl;
    idle = λ a. refl;
  }

  pub world_closes : SerialLaw V → NumberLaw V → ClosingLaw V
  world_closes serial past blocks clock values held stripes suit id v s rule here all done bare =
      closes (opened blocks clock values held) (record { words = values; held = held }) id v s rule stripes
      (opening_is blocks clock values held)
      (serial blocks clock values held rule.events stripes suit) (past blocks clock values held rule.events stripes suit)
      here all done bare (above (length values) blocks)

  opening_own : (o : World V) (a : ℕ) → IsOpening o → IsOwn a o o
  opening_own o a start = record {
    alike = alike_same a o;
    out = λ k g l p at. (refl, refl);
    aborted = ap (aborted_by a) start.aborted ∙ sym start.aborted;
    committed = λ h. ap (total (only_by a h)) start.records ∙ sym (ap (total h) start.records);
  }

  pub opens_rule : (o : World V) (ws : List ℕ) (hs : List (Option (Slot V))) → IsOpening o → o.boosted.words.clock ≤ clock_limit
      → o.records ≡ [] → Table o.words o.blocks o ws hs
      → Rule o record { words = ws; homes = hs; views = first ∷ [] }
  opens_rule o ws hs start low no_records T = record {
    events = [];
    shows = record {
      shape = (refl, refl);
      table = T;
      clocks = λ j v e. elim j as
          (λ k. get_elem? (first ∷ []) k ≡ some v → v.clock ≤ o.boosted.words.clock) [
            | zero ↦
                (λ q. let c : 0 ≡ v.clock = ap (λ (k : SeatKnowledge V). k.clock) (some-injective first v q) in omega arith)
            | suc i ↦
                (λ q. absurd (some-ne-none v (sym q)))
          ] e;
      room = (let z = start.rests 0 in omega arith);
      shares = refl;
      own = λ j v e. elim j as (λ k. get_elem? (first ∷ []) k ≡ some v → IsOwn k o (lone k o v.turns)) [
        | zero ↦ (λ q. subst (λ (z : SeatKnowledge V). IsOwn 0 o (lone 0 o z.turns)) (some-injective first v q)
            (opening_own o 0 start))
        | suc i ↦ (λ q. absurd (some-ne-none v (sym q)))
      ] e;
      fresh = λ a l. opening_own o a start;
      spent = λ j v e z. elim j as
          (λ k. get_elem? (first ∷ []) k ≡ some v → IsSpent o k v) [
            | zero ↦
                (λ q. absurd (let c : SHARES ≡ v.shares = ap (λ (k : SeatKnowledge V). k.shares) (some-injective first v q) in omega arith))
            | suc i ↦
                (λ q. absurd (some-ne-none v (sym q)))
          ] e;
      joined = λ j v e. elim j as (λ k. get_elem? (first ∷ []) k ≡ some v → All (IsJoined (first ∷ [])) v.joined) [
        | zero ↦ (λ q. subst (λ (z : SeatKnowledge V). All (IsJoined (first ∷ [])) z.joined) (some-injective first v q)
            (All-nil (IsJoined (first ∷ []))))
        | suc i ↦ (λ q. absurd (some-ne-none v (sym q)))
      ] e;
      receipts = λ h. ap (total h) (sym no_records);
      earned = λ j v e. elim j as (λ k. get_elem? (first ∷ []) k ≡ some v → 0 < v.shares → HasReceipts o k v) [
        | zero ↦ (λ q. subst (λ (z : SeatKnowledge V). 0 < z.shares → HasReceipts o 0 z) (some-injective first v q)
            (λ _ h. (let none : total h o.records ≡ 0 = ap (total h) no_records in omega arith)))
        | suc i ↦ (λ q. absurd (some-ne-none v (sym q)))
      ] e;
    };
  }
