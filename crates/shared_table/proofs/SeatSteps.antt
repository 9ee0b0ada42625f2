-- What a step of a running seat may do, and what it makes of the seat.
--
-- The laws of the rule speak of what was asked as a list that stands beside the seat; a seat keeps that list itself. What is next for the
-- actor in its lone world is the same by either, and after a turn nothing is asked, so the actor's lone world is what the turn left.
use Rattle.std.proofs.Common.{◌≡◌, ℕ, ◌+◌, ◌%◌, ◌^◌, ◌<◌, ◌≤◌, Bool, true, false, eqb, List, [], ◌∷◌, ◌++◌, Option as Maybe, Some, None}
use Rattle.std.proofs.Common.{⊎_elim, length, sym, refl, ap, ◌∙◌, subst, arith}
use Rattle.std.specs.Prelude.{if◌then◌else◌, MatchOption}
use prog.Atomic.{either}
use Rattle.atomic_table.specs.Table.{State, Me, Allows, rest, turned as shifted}
use Rattle.tx_machine.specs.Cells.{Cell, ClockCell}
use Rattle.seq_model.specs.declared.event.Event.{Event}
use Rattle.seq_model.specs.declared.record.Record.{Record}
use Rattle.replay_log.specs.declared.base.Base.{Base}
use Rattle.replay_log.specs.Contents.{HaveStripes, end_of}
use Rattle.replay_log.specs.Seats.{World}
use Rattle.actor_laws.specs.Gates.{Tries}
use Rattle.actor_laws.specs.StepTargets.{Word}
use Rattle.shared_table.specs.declared.seat.Seat.{Seat}
use Rattle.shared_table.specs.Layout.{address, gate_address, IsInside}
use Rattle.shared_table.specs.declared.view.Opening.{Opening}
use Rattle.shared_table.specs.Opening.{Holds, blocks_at, locations_at, world_at}
use Rattle.shared_table.specs.Turns.{Turn, asked_all, lone, spot, moved, ends}
use Rattle.shared_table.specs.Shown.{highest_clock, SeatKnowledge, Slot, HasHappened, IsBaseAt, IsReached, Steps, Told, Took, Went, acting}
use Rattle.shared_table.specs.Seated.{Adds, Exchanges, IsHome, IsSameSeat, Loads, Stores, Takes, acts, list_of, out, turned, view}
use Rattle.shared_table.proofs.Turned.{lone_snoc}
use Rattle.shared_table.proofs.Numbers.{at_set_same}
use Rattle.shared_table.proofs.Keeps.{keeps_rule, word_allowed, clock_allowed}
use Rattle.shared_table.proofs.Opened as gates

-- the slot in front
abbrev pub slot_of : {S : Type 0} → List (ℕ × Maybe S) → Maybe S
slot_of [] = None
slot_of (x ∷ xs) = x.1

either_is : (b : Bool) (x y : ℕ) → (if b then x else y) ≡ either b x y
either_is true x y = refl
either_is false x y = refl

module _ {V : Type 0} where
  -- the same step may say less
  pub weaker : (holds : State (Slot V) (SeatKnowledge V) → Type 0) (slots id : ℕ) (m : Me (Slot V) (SeatKnowledge V)) (i : ℕ) (f : ℕ → ℕ)
      (tells less : ℕ → Me (Slot V) (SeatKnowledge V) → Type 0) → ((k : ℕ) (t : Me (Slot V) (SeatKnowledge V)) → tells k t → less k t)
      → Allows holds slots id m i f tells → Allows holds slots id m i f less
  weaker holds slots id m i f tells less so may s rule len here small =
      let r = may s rule len here small in (r.0, r.1, r.2, r.3, so _ _ r.4)

  -- what an actor's lone world is once its seat took a turn and asks nothing
  acts_after : (o : World V) (a b : ℕ) (v u : SeatKnowledge V) (es : List (Event V)) (i : Turn V) (rs : List (ℕ × Record V)) (k : ℕ) → b ≡ a
      → es ≡ []
      → u ≡ acting v i rs k
      → asked_all b (lone b o u.turns) es ≡ (moved a (asked_all a (lone a o v.turns) i.asks) i.found i.base).0
  acts_after o a b v u es i rs k id none is =
      (λ j. asked_all (id j) (lone (id j) o (is j).turns) (none j)) ∙ lone_snoc a v.turns o i

  pub takes : (o : World V) (s t : Seat V) (asks : List (Event V)) (clock found : ℕ) (base : Maybe (Base V)) (bases : List (ℕ × Slot V))
      → asks ≡ list_of s.asked → IsSameSeat s t → Told o s.place.id asks clock s.place.me found base t.place.me.0 → out t ≡ bases
      → list_of t.asked ≡ [] → Went o s.place.id t.place.me → Takes o s clock found base bases t
  takes o s t asks clock found base bases are same told held none went =
      let i : Turn V = record { asks = list_of s.asked; found = found; base = base } in
      let rs : List (ℕ × Record V) = ends s.place.id (acts o s) in
      let is : view t ≡ acting (view s) i rs clock = told.0 ∙ (λ j. acting (view s) (record { asks = are j; found = found; base = base })
      (ends s.place.id (asked_all s.place.id (lone s.place.id o (view s).turns) (are j))) clock) in
      record {
        seat = same;
        turn = is;
        held = held;
        none = none;
        happened = subst (λ (es : List (Event V)). HasHappened o s.place.id
            (asked_all s.place.id (lone s.place.id o (view s).turns) es) found base)
            are told.1;
        own = acts_after o s.place.id t.place.id (view s) (view t) (list_of t.asked) i rs clock same.1 none is;
        reached = subst (λ (z : ℕ × List (Event V)). IsReached o z.0 (asked_all z.0 (lone z.0 o (view t).turns) z.1))
            (λ j. (sym same.1 j, sym none j)) went;
      }

  -- the seat has its shares, and knows its last number, once it took a turn
  pub still : (s : Seat V) (w : SeatKnowledge V) (i : Turn V) (rs : List (ℕ × Record V)) (k : ℕ) → w ≡ acting (view s) i rs k
      → (view s).clock ≤ k
      → (s.shares ≡ w.shares) × (s.last ≤ w.clock)
  still s w i rs k is low = (
    s.counted ∙ sym (ap (λ (v : SeatKnowledge V). v.shares) is),
    (let a = s.known in let b : w.clock ≡ k = ap (λ (v : SeatKnowledge V). v.clock) is in omega arith),
  )

  -- a step that keeps the rule of the world keeps that of the table; some events lead to where it leaves the seat
  lifted : (key : Opening V) (slots id : ℕ) (m : Me (Slot V) (SeatKnowledge V)) (i : ℕ) (f : ℕ → ℕ) (tells : ℕ
      → Me (Slot V) (SeatKnowledge V) → Type 0)
      → (asks : List (Event V)) → (HaveStripes (blocks_at key) → Steps (world_at key) slots id m asks i f tells)
      → Allows (Holds key) slots id m i f (λ k t. tells k t × Went (world_at key) id t)
  lifted key slots id m i f tells asks may s h len here small =
      let r = keeps_rule (world_at key) slots id m asks i f tells (may h.stripes) s h.rule len here small in
      let own = r.3.shows.own id r.0 (at_set_same s.views id m.0 r.0 here) in
      let mine = own.alike in (
        r.0,
        r.1,
        r.2,
        record { stripes = h.stripes; suits = h.suits; rule = r.3 },
        (
          r.4,
          record {
            opens = record { clock = key.shape.value.clock; contents = key.state.value; suits = h.suits; world = refl };
            stripes = h.stripes;
            shape = (sym mine.words ∙ r.3.shows.shape.0, sym mine.blocks ∙ r.3.shows.shape.1);
            events = r.3.events;
            alike = mine;
            bases = own.out;
            clock = (let q = r.3.shows.room in omega arith);
          },
        ),
      )

  module _ (key : Opening V) (slots id : ℕ) (m : Me (Slot V) (SeatKnowledge V)) (asks qs : List (Event V)) (are : asks ≡ qs)
      (live : 0 < m.0.shares) where
    abbrev o : World V
    o = world_at key

    -- the actor's lone world, by its seat
    abbrev mine : World V
    mine = asked_all id (lone id o m.0.turns) qs

    -- what a step on a word says of the seat
    abbrev Turned : ℕ → Me (Slot V) (SeatKnowledge V) → Type 0
    Turned found t = Told o id asks m.0.clock m found None t.0 × (t.1 ≡ m.1) × Went o id t

    -- a word becomes f of what it was, as the actor's next step makes of it
    goes : (c : Cell) (i : ℕ) (f : ℕ → ℕ) → spot id mine ≡ Word c → ((k : ℕ) → turned id mine k ≡ f k)
        → IsInside (end_of o.words o.blocks) c
        → i ≡ address (end_of o.words o.blocks) c
        → Allows (Holds key) slots id m i f Turned
    goes c i f at is inner place =
        let there : (spot id (asked_all id (lone id o m.0.turns) asks) ≡ Word c)
        × ((k : ℕ) → turned id (asked_all id (lone id o m.0.turns) asks) k ≡ f k) =
        subst (λ (q : List (Event V)). (spot id (asked_all id (lone id o m.0.turns) q) ≡ Word c)
        × ((k : ℕ) → turned id (asked_all id (lone id o m.0.turns) q) k ≡ f k)) (sym are) (at, is) in
        let tells = λ (found : ℕ) (t : Me (Slot V) (SeatKnowledge V)). Told o id asks m.0.clock m found None t.0 × (t.1 ≡ m.1) in
        subst (λ (j : ℕ). Allows (Holds key) slots id m j f Turned)
        (sym place)
        (weaker (Holds key) slots id m (address (end_of o.words o.blocks) c) f (λ k t. tells k t × Went o id t) Turned
        (λ k t told. (told.0.0, told.0.1, told.1))
        (lifted key slots id m (address (end_of o.words o.blocks) c) f tells asks
        (λ stripes. word_allowed o slots id m asks c f live there.0 inner there.1)))

    pub loads : (c : Cell) (i : ℕ) → Loads id mine c → IsInside (end_of o.words o.blocks) c → i ≡ address (end_of o.words o.blocks) c
        → Allows (Holds key) slots id m i (λ k. k) Turned
    loads c i due inner place = goes c i (λ k. k) due.0 due.1 inner place

    pub exchanges : (c : Cell) (i old new : ℕ) → Exchanges id mine c old new → IsInside (end_of o.words o.blocks) c
        → i ≡ address (end_of o.words o.blocks) c
        → Allows (Holds key) slots id m i (λ k. either (eqb k old) new k) Turned
    exchanges c i old new due inner place =
        goes c i (λ k. either (eqb k old) new k) due.0 (λ k. due.1 k ∙ either_is (eqb k old) new k) inner place

    -- a store finds some number, and doesn't learn which
    pub stores : (c : Cell) (i new : ℕ) → Stores id mine c new → IsInside (end_of o.words o.blocks) c
        → i ≡ address (end_of o.words o.blocks) c
        → Allows (Holds key) slots id m i (λ _. new) (λ _ t. (found : ℕ) × Told o id asks m.0.clock m found None t.0 × (t.1 ≡ m.1)
        × Went o id t)
    stores c i new due inner place =
        weaker (Holds key) slots id m i (λ _. new) Turned
        (λ _ t. (found : ℕ) × Told o id asks m.0.clock m found None t.0 × (t.1 ≡ m.1)
        × Went o id t) (λ k t told. (k, told.0, told.1, told.2))
        (goes c i (λ _. new) due.0 due.1 inner place)

    -- what a step on the clock says of the seat
    abbrev Clocked : (ℕ → ℕ) → ℕ → Me (Slot V) (SeatKnowledge V) → Type 0
    Clocked left found t =
        Told o id asks (left found) m found None t.0 × (t.1 ≡ m.1) × (m.0.clock ≤ found) × (found ≤ highest_clock) × Went o id t

    -- a step on the clock, which knows what it left there
    clocked : (f left : ℕ → ℕ) → spot id mine ≡ Word ClockCell → ((k : ℕ) → k ≤ highest_clock → turned id mine k ≡ f k)
        → ((k : ℕ) → k ≤ highest_clock → left k ≡ f k)
        → Allows (Holds key) slots id m 0 f (Clocked left)
    clocked f left at is leaves =
        let there : (spot id (asked_all id (lone id o m.0.turns) asks) ≡ Word ClockCell)
        × ((k : ℕ) → k ≤ highest_clock → turned id (asked_all id (lone id o m.0.turns) asks) k ≡ f k) =
        subst (λ (q : List (Event V)). (spot id (asked_all id (lone id o m.0.turns) q) ≡ Word ClockCell)
        × ((k : ℕ) → k ≤ highest_clock → turned id (asked_all id (lone id o m.0.turns) q) k ≡ f k)) (sym are) (at, is) in
        let tells = λ (found : ℕ) (t : Me (Slot V) (SeatKnowledge V)).
        Told o id asks (left found) m found None t.0 × (t.1 ≡ m.1) × (m.0.clock ≤ found) × (found ≤ highest_clock) in
        weaker (Holds key) slots id m 0 f (λ k t. tells k t × Went o id t) (Clocked left)
        (λ k t told. (told.0.0, told.0.1, told.0.2, told.0.3, told.1))
        (lifted key slots id m 0 f tells asks (λ stripes. clock_allowed o slots id m asks f left live there.0 there.1 leaves))

    pub loads_clock : Loads id mine ClockCell → Allows (Holds key) slots id m 0 (λ k. k) (Clocked (λ k. k))
    loads_clock due = clocked (λ k. k) (λ k. k) due.0 (λ k low. due.1 k) (λ k low. refl)

    pub adds_clock : Adds id mine → Allows (Holds key) slots id m 0 (λ k. (k + 1) % 2 ^ 64) (Clocked (λ k. k + 1))
    adds_clock due = clocked (λ k. (k + 1) % 2 ^ 64) (λ k. k + 1) due.0 (λ k low. let e = due.1 k in omega arith) (λ k low. omega arith)

  -- ---- gates of a table that was opened
  -- a gate that was tried: what the seat has, once it has turned to the bases that it took before
  pub won : (o : World V) (s t : Seat V) (asks : List (Event V)) (k found : ℕ) (m n : Me (Slot V) (SeatKnowledge V)) (base : Slot V)
      → asks ≡ list_of s.asked → found ≡ 0 → Took o s.place.id asks s.place.me k found m → m.1 ≡ (k, base) ∷ rest m.1
      → n ≡ (m.0, (k, None) ∷ rest m.1) → t.place.me ≡ (n.0, shifted n.1) → IsSameSeat s t → list_of t.asked ≡ []
      → Went o s.place.id m → MatchOption base (Takes o s (view s).clock 1 None (out s) t)
      (λ b. IsBaseAt o.blocks k b × Takes o s (view s).clock 0 (Some b) (out s ++ (k, None) ∷ []) t)
  won o s t asks k found m n base are free told top swapped turned same none went = ⊎_elim
      (λ p. let b : Base V = p.1 in
      let had : (k, Some b) ∷ s.place.me.1 ≡ (k, base) ∷ rest m.1 = sym p.4 ∙ top in
      let here : Some b ≡ base = ap (λ (l : List (ℕ × Slot V)). slot_of l) had in
      let others : s.place.me.1 ≡ rest m.1 = ap (λ (l : List (ℕ × Slot V)). rest l) had in
      subst (λ (x : Slot V). MatchOption x (Takes o s (view s).clock 1 None (out s) t)
      (λ b. IsBaseAt o.blocks k b × Takes o s (view s).clock 0 (Some b) (out s ++ (k, None) ∷ []) t)) here (
        p.2,
        takes o s t asks (view s).clock 0 (Some b) (out s ++ (k, None) ∷ []) are same
            (let q = subst (λ (z : ℕ). Told o s.place.id asks (view s).clock s.place.me z (Some b) m.0) p.0 p.3 in
            (ap (λ (z : Me (Slot V) (SeatKnowledge V)). z.0) turned ∙ ap (λ (z : Me (Slot V) (SeatKnowledge V)). z.0) swapped ∙ q.0, q.1))
            (ap (λ (z : Me (Slot V) (SeatKnowledge V)). z.1) turned
            ∙ ap (λ (z : Me (Slot V) (SeatKnowledge V)). shifted z.1) swapped
            ∙ ap (λ (l : List (ℕ × Slot V)). l ++ (k, None) ∷ []) (sym others))
            none
            (subst (λ (v : SeatKnowledge V). IsReached o s.place.id (lone s.place.id o v.turns))
            (sym (ap (λ (z : Me (Slot V) (SeatKnowledge V)). z.0) turned ∙ ap (λ (z : Me (Slot V) (SeatKnowledge V)). z.0) swapped)) went),
      ))
      (λ p. absurd (let q : found ≡ 1 = p.0 in omega arith)) told

  -- a gate that was found taken
  pub lost : (o : World V) (s t : Seat V) (asks : List (Event V)) (k found : ℕ) → asks ≡ list_of s.asked → ¬ (found ≡ 0)
      → Took o s.place.id asks s.place.me k found t.place.me → IsSameSeat s t → list_of t.asked ≡ []
      → Went o s.place.id t.place.me → Takes o s (view s).clock 1 None (out s) t
  lost o s t asks k found are taken told same none went = ⊎_elim
      (λ p. absurd (taken p.0))
      (λ p. takes o s t asks (view s).clock 1 None (out s) are same
      (subst (λ (z : ℕ). Told o s.place.id asks (view s).clock s.place.me z None t.place.me.0) p.0 p.1) p.2 none went) told

  -- the slot that was taken is in front
  pub topped : (o : World V) (s : Seat V) (asks : List (Event V)) (k gate found : ℕ) (m : Me (Slot V) (SeatKnowledge V)) → k ≡ gate
      → found ≡ 0
      → Took o s.place.id asks s.place.me k found m → (b : Slot V) × (m.1 ≡ (gate, b) ∷ rest m.1)
  topped o s asks k gate found m same free told = ⊎_elim
      (λ p. let others : s.place.me.1 ≡ rest m.1 = sym (ap (λ (l : List (ℕ × Slot V)). rest l) p.4) in (
        Some p.1,
        p.4 ∙ (λ i. (same i, Some p.1) ∷ others i),
      ))
      (λ p. absurd (let q : found ≡ 1 = p.0 in omega arith)) told

  -- either way the seat has its shares
  pub still_tried : (o : World V) (s : Seat V) (asks : List (Event V)) (k found : ℕ) (t : Me (Slot V) (SeatKnowledge V))
      → Took o s.place.id asks s.place.me k found t → (s.shares ≡ t.0.shares) × (s.last ≤ t.0.clock)
  still_tried o s asks k found t told = ⊎_elim (λ p. still s t.0 _ _ (view s).clock p.3.0 (omega arith))
      (λ p. still s t.0 _ _ (view s).clock p.1.0 (omega arith)) told

  module _ (key : Opening V) (slots id : ℕ) (m : Me (Slot V) (SeatKnowledge V)) (asks qs : List (Event V)) (are : asks ≡ qs)
      (live : 0 < m.0.shares)
      (k i : ℕ) (low : k < length (blocks_at key)) (place : i ≡ gate_address (locations_at key) k) where
    abbrev start : World V
    start = world_at key

    abbrev alone : List (Event V) → World V
    alone es = asked_all id (lone id start m.0.turns) es

    pub tries : Tries (alone qs) id k → Allows (Holds key) slots id m i (λ n. either (eqb n 0) 1 n)
        (λ found t. Took start id asks m k found t × Went start id t)
    tries due = subst (λ (j : ℕ). Allows (Holds key) slots id m j (λ n. either (eqb n 0) 1 n)
        (λ found t. Took start id asks m k found t × Went start id t)) (sym place)
        (lifted key slots id m (gate_address (locations_at key) k) (λ n. either (eqb n 0) 1 n) (Took start id asks m k) asks
        (λ stripes. gates.take (blocks_at key) key.shape.value.clock key.state.value.words key.state.value.held stripes slots id m asks k
        live
        low (subst (λ (q : List (Event V)). Tries (alone q) id k) (sym are) due)))

    pub puts : (b : Base V) → m.1 ≡ (k, Some b) ∷ rest m.1 → IsHome start id (alone qs) k b
        → Allows (Holds key) slots id m i (λ _. 0) (λ _ t. Told start id asks m.0.clock m 1 None t.0 × (t.1 ≡ rest m.1) × Went start id t)
    puts b top due = subst (λ (j : ℕ). Allows (Holds key) slots id m j (λ _. 0)
        (λ _ t. Told start id asks m.0.clock m 1 None t.0 × (t.1 ≡ rest m.1) × Went start id t)) (sym place)
        (weaker (Holds key) slots id m (gate_address (locations_at key) k) (λ _. 0)
        (λ _ t. (Told start id asks m.0.clock m 1 None t.0 × (t.1 ≡ rest m.1)) × Went start id t)
        (λ _ t. Told start id asks m.0.clock m 1 None t.0 × (t.1 ≡ rest m.1) × Went start id t) (λ _ t told. (told.0.0, told.0.1, told.1))
        (lifted key slots id m (gate_address (locations_at key) k) (λ _. 0)
        (λ _ t. Told start id asks m.0.clock m 1 None t.0 × (t.1 ≡ rest m.1)) asks
        (λ stripes. ⊎_elim
        (λ p. gates.put (blocks_at key) key.shape.value.clock key.state.value.words key.state.value.held stripes slots id m asks k b
        (rest m.1) live low top p.0 p.1 p.2)
        (λ p. let f = p.1 in gates.home (blocks_at key) key.shape.value.clock key.state.value.words key.state.value.held stripes slots id m
        asks k f.block f.before b (rest m.1) live low top p.0 f.there f.sort f.shown f.folded)
        (subst (λ (q : List (Event V)). IsHome start id (alone q) k b) (sym are) due))))

  -- the base that is put back was put into the slot in front
  pub puts_back : (key : Opening V) (slots : ℕ) (s : Seat V) (id : ℕ) (n : Me (Slot V) (SeatKnowledge V)) (asks : List (Event V))
      (k gate i : ℕ)
      (b : Base V) → asks ≡ list_of s.asked → k ≡ gate → 0 < (view s).shares → k < length (blocks_at key)
      → i ≡ gate_address (locations_at key) k → id ≡ s.place.id → n ≡ (view s, (gate, Some b) ∷ rest (out s))
      → IsHome (world_at key) s.place.id (acts (world_at key) s) k b
      → Allows (Holds key) slots id n i (λ _. 0) (λ _ t. Told (world_at key) id asks n.0.clock n 1 None t.0 × (t.1 ≡ rest n.1)
      × Went (world_at key) id t)
  puts_back key slots s id n asks k gate i b are same live low place id_is is due =
      let o : World V = world_at key in
      let views : n.0 ≡ view s = ap (λ (z : Me (Slot V) (SeatKnowledge V)). z.0) is in
      let front : n.1 ≡ (gate, Some b) ∷ rest (out s) = ap (λ (z : Me (Slot V) (SeatKnowledge V)). z.1) is in
      let others : rest n.1 ≡ rest (out s) = ap (λ (l : List (ℕ × Slot V)). rest l) front in
      puts key slots id n asks (list_of s.asked) are (subst (λ (v : SeatKnowledge V). 0 < v.shares) (sym views) live) k i low place b
      (front ∙ (λ j. (sym same j, Some b) ∷ sym others j))
      (subst (λ (z : ℕ × SeatKnowledge V). IsHome o z.0 (asked_all z.0 (lone z.0 o z.1.turns) (list_of s.asked)) k b)
      (λ j. (sym id_is j, sym views j)) due)

  pub put_takes : (o : World V) (s t : Seat V) (id : ℕ) (n : Me (Slot V) (SeatKnowledge V)) (asks : List (Event V)) (gate : ℕ) (b : Base V)
      → asks ≡ list_of s.asked → id ≡ s.place.id → n ≡ (view s, (gate, Some b) ∷ rest (out s))
      → Told o id asks n.0.clock n 1 None t.place.me.0 × (t.place.me.1 ≡ rest n.1) × Went o id t.place.me → IsSameSeat s t
      → list_of t.asked ≡ [] → Takes o s (view s).clock 1 None (rest (out s)) t
  put_takes o s t id n asks gate b are id_is is told same none =
      let views : n.0 ≡ view s = ap (λ (z : Me (Slot V) (SeatKnowledge V)). z.0) is in
      let others : rest n.1 ≡ rest (out s) = ap (λ (z : Me (Slot V) (SeatKnowledge V)). rest z.1) is in
      takes o s t asks (view s).clock 1 None (rest (out s)) are same
      (subst (λ (z : ℕ × SeatKnowledge V). (t.place.me.0 ≡ acting z.1 (record { asks = asks; found = 1; base = None })
      (ends z.0 (asked_all z.0 (lone z.0 o z.1.turns) asks)) z.1.clock)
      × HasHappened o z.0 (asked_all z.0 (lone z.0 o z.1.turns) asks) 1 None) (λ j. (id_is j, views j)) told.0)
      (told.1 ∙ others) none (subst (λ (z : ℕ). Went o z t.place.me) id_is told.2)
