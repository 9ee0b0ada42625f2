-- The rule of the table: some list of events reaches a world that its words, its slots and the views of its seats show.
--
-- A gate and the base of its collection go together: the base is in its slot while the gate is free, and is out with the seat that has the
-- gate. Each seat's actor knows the world in which it is alone with what it found.
use Rattle.std.specs.Prelude.{◌≡◌, ◌⊎◌, ℕ, zero, suc, ◌+◌, ◌-◌, ◌^◌, ◌<◌, ◌≤◌, true, false, max, All, List, [], ◌∷◌, ◌++◌, map}
use Rattle.std.specs.Prelude.{length, get_or, slice_get, Option as Maybe, Some, None, ◌==◌, if◌then◌else◌}
use mathlib.Core.Option.{Option, none, some}
use lib.ListN.{get_elem?}
use Rattle.atomic_table.specs.Table.{Act, Me, State, Valid, carried_after, stepped}
use Rattle.tx_machine.specs.Actor.{Place, clock_limit}
use Rattle.tx_machine.specs.Cells.{Cell, ValueCell, cell}
use Rattle.seq_model.specs.declared.limits.TheConstants.{ACTOR_LIMIT}
use Rattle.seq_model.specs.declared.event.Event.{Event}
use Rattle.seq_model.specs.declared.event.Event.TheVariants.{Step}
use Rattle.seq_model.specs.declared.record.Record.{Record}
use Rattle.tx_machine.specs.Boosted.{is_actor}
use Rattle.replay_log.specs.declared.base.Base.{Base}
use Rattle.replay_log.specs.Contents.{Block, HaveStripes, block_of, content, end_of, first_of, home_of, is_plain}
use Rattle.replay_log.specs.Base.{held_of, shown_of, stripes_of}
use Rattle.replay_log.specs.Parts.{part}
use Rattle.replay_log.specs.Collections.{Suit, shown_at}
use Rattle.seq_model.specs.Calls.{IsWithinLimits}
use Rattle.seq_model.specs.Contents.{Contents}
use Rattle.seq_model.specs.Runs.{IsInCommitOrder, IsRun, after_run}
use Rattle.replay_log.specs.Seats.{Ended, World, actor_of}
use Rattle.replay_log.specs.Worlds.{happens, opened, run}
use Rattle.replay_log.specs.WorldSerial.{AreUpTo}
use Rattle.replay_log.specs.WorldTraces.{is_half_done}
use Rattle.actor_laws.specs.Bases.{IsBaseOf, ShowsBase}
use Rattle.actor_laws.specs.Clock.{stamps_left}
use Rattle.actor_laws.specs.Machine.{SameBase}
use Rattle.actor_laws.specs.Own.{Alike, SameAfter}
use Rattle.actor_laws.specs.StepTargets.{gate_word, number_at}
use Rattle.shared_table.specs.Layout.{address, gate_address, IsInside, values_in, width}
use Rattle.shared_table.specs.Turns.{Turn, asked_all, lone, moved, ends, spot, stage_of, turn_events}
use Rattle.shared_table.specs.declared.view.TheConstants.{SHARES}
pub use Rattle.shared_table.specs.declared.view.SeatKnowledge.{SeatKnowledge}

abbrev pub total : {A : Type 0} → (A → ℕ) → List A → ℕ
total f [] = 0
total f (x ∷ xs) = f x + total f xs

-- No clock gets above this: each actor that began below the limit adds one at most.
abbrev pub highest_clock : ℕ
highest_clock = clock_limit + ACTOR_LIMIT

-- what a slot holds: a base, or none while a seat works on it
abbrev pub Slot : Type 0 → Type 0
Slot V = Maybe (Base V)

abbrev pub tally : {A : Type 0} → (ℕ → A → ℕ) → ℕ → List A → ℕ
tally f i [] = 0
tally f i (x ∷ xs) = f i x + tally f (suc i) xs

abbrev pub first : {V : Type 0} → SeatKnowledge V
first = record { shares = SHARES; clock = 0; turns = []; receipts = []; joined = []; looks = [] }

abbrev pub owed_of : ℕ → Place → ℕ
owed_of zero p = 0
owed_of (suc k) p = stamps_left p

module _ {V : Type 0} where
  -- the seat, once its actor has taken this turn, has committed these, and knows this clock
  abbrev pub acting : SeatKnowledge V → Turn V → List (ℕ × Record V) → ℕ → SeatKnowledge V
  acting v i rs k = record {
    shares = v.shares;
    clock = k;
    turns = v.turns ++ i ∷ [];
    receipts = v.receipts ++ rs;
    joined = v.joined;
    looks = v.looks;
  }

  -- the seat, once it has loaded the clock beside its turns, and found this
  abbrev pub looking : SeatKnowledge V → ℕ → SeatKnowledge V
  looking v k = record {
    shares = v.shares;
    clock = k;
    turns = v.turns;
    receipts = v.receipts;
    joined = v.joined;
    looks = v.looks ++ k ∷ [];
  }

  -- what the seat of actor j may still add to the clock; one without shares steps no more
  abbrev pub owed : World V → ℕ → SeatKnowledge V → ℕ
  owed o j v = owed_of v.shares (actor_of (lone j o v.turns) j).place

  -- a base of the kind and shape of collection k
  abbrev pub IsBaseAt : List Block → ℕ → Base V → Type 0
  IsBaseAt bs k base = (b : Block) → block_of bs k ≡ Some b → IsBaseOf b base

  -- collection k has the same parts and editions in both worlds
  abbrev pub OneBase : ℕ → World V → World V → Type 0
  OneBase k v u = SameBase (content v.words v.blocks) k v.boosted u.boosted

  -- what a gate says of the slot of its base
  abbrev pub HomeOk : ℕ → List Block → World V → ℕ → List (Option (Slot V)) → Type 0
  HomeOk n bs w k homes =
      ((w.boosted.gates k ≡ None) → (b : Base V) × (get_elem? homes k ≡ some (some (Some b))) × IsBaseAt bs k b × ShowsBase n bs w k b)
      × ((j : ℕ) → w.boosted.gates k ≡ Some j → get_elem? homes k ≡ some none)

  -- the words, the gates and the bases are those of the world
  pub record Table (n : ℕ) (bs : List Block) (w : World V) (words : List ℕ) (homes : List (Option (Slot V))) : Type 0 where
    pub wide : length words ≡ width (end_of n bs) (length bs)
    pub cells : (c : Cell) → IsInside (end_of n bs) c → get_or words (address (end_of n bs) c) 0 ≡ cell w.boosted.words c
    pub gates : (k : ℕ) → k < length bs → get_or words (gate_address (end_of n bs) k) 0 ≡ gate_word (w.boosted.gates k)
    pub slots : (k : ℕ) → k < length bs → HomeOk n bs w k homes

  -- of each gate that a has in w, the base is the same in u
  abbrev pub SameBases : ℕ → World V → World V → Type 0
  SameBases a w u = (k : ℕ) → is_actor a (w.boosted.gates k) ≡ true → OneBase k w u

  -- the aborted transactions of actor j among these, in their order
  abbrev pub aborted_by : ℕ → List (Ended V) → List (Ended V)
  aborted_by j [] = []
  aborted_by j (e ∷ es) = if e.actor == j then e ∷ aborted_by j es else aborted_by j es

  -- a weight of records that counts those of actor j alone
  abbrev pub only_by : ℕ → (ℕ × Record V → ℕ) → ℕ × Record V → ℕ
  only_by j h r = if r.0 == j then h r else 0

  -- The record of actor j is that of the world o, in which it is alone with what it found: also the bases that it took out, and the
  -- transactions that it has aborted and committed, each once.
  pub record IsOwn (j : ℕ) (w o : World V) : Type 0 where
    pub alike : Alike j w o
    pub out : SameBases j w o
    pub aborted : aborted_by j w.aborted ≡ o.aborted
    pub committed : (h : ℕ × Record V → ℕ) → total (only_by j h) w.records ≡ total h o.records

  -- the receipts of the seat of j are what the actors for which it stands have committed: its own, and those whose seats were joined into
  -- it
  abbrev pub HasReceipts : World V → ℕ → SeatKnowledge V → Type 0
  HasReceipts o j v = (h : ℕ × Record V → ℕ)
      → total h v.receipts ≡ total h (lone j o v.turns).records + total (λ p. total h (lone p.0 o p.1).records) v.joined

  -- what is left of a seat that was joined into another
  pub record IsSpent (o : World V) (j : ℕ) (v : SeatKnowledge V) : Type 0 where
    pub receipts : v.receipts ≡ []
    pub done : is_half_done (stage_of (lone j o v.turns) j) ≡ false
    pub bare : (k : ℕ) → is_actor j ((lone j o v.turns).boosted.gates k) ≡ false

  -- the seat of this actor was joined into another once it had taken these turns
  abbrev pub IsJoined : List (SeatKnowledge V) → ℕ × List (Turn V) → Type 0
  IsJoined views p = (u : SeatKnowledge V) × (get_elem? views p.0 ≡ some u) × (u.shares ≡ 0) × (u.turns ≡ p.1)

  -- The table, opened with o, shows w in s: its words, gates and bases, each actor as its seat's lone world has it, with the transactions
  -- that it has committed and aborted, and all records. A seat has the turns of those that were joined into it, and their receipts.
  pub record Shows (o w : World V) (s : State (Slot V) (SeatKnowledge V)) : Type 0 where
    pub shape : (w.words ≡ o.words) × (w.blocks ≡ o.blocks)
    pub table : Table o.words o.blocks w s.words s.homes
    pub clocks : (j : ℕ) (v : SeatKnowledge V) → get_elem? s.views j ≡ some v → v.clock ≤ w.boosted.words.clock
    pub room : w.boosted.words.clock + tally (owed o) 0 s.views ≤ highest_clock
    pub shares : total (λ v. v.shares) s.views ≡ SHARES
    pub own : (j : ℕ) (v : SeatKnowledge V) → get_elem? s.views j ≡ some v → IsOwn j w (lone j o v.turns)
    pub fresh : (a : ℕ) → length s.views ≤ a → IsOwn a w o
    pub spent : (j : ℕ) (v : SeatKnowledge V) → get_elem? s.views j ≡ some v → v.shares ≡ 0 → IsSpent o j v
    pub joined : (j : ℕ) (v : SeatKnowledge V) → get_elem? s.views j ≡ some v → All (IsJoined s.views) v.joined
    pub receipts : (h : ℕ × Record V → ℕ) → total (λ v. total h v.receipts) s.views ≡ total h w.records
    pub earned : (j : ℕ) (v : SeatKnowledge V) → get_elem? s.views j ≡ some v → 0 < v.shares → HasReceipts o j v

  -- some list of events reaches, from the opening o, a world that the table shows
  pub record Rule (o : World V) (s : State (Slot V) (SeatKnowledge V)) : Type 0 where
    pub events : List (Event V)
    pub shows : Shows o (run o events) s

  -- The world opened with this clock on these contents, which suit its blocks.
  pub record Opens (o : World V) : Type 0 where
    pub clock : ℕ
    pub contents : Contents V
    pub suits : Suit o.blocks contents.held
    pub world : opened o.blocks clock contents.words contents.held ≡ o

  -- Some events lead from the opening o, whose collections have stripes, to a world that is to actor a as u is, also in the bases that a
  -- has out, and whose clock is within its limit; u is of the same shape.
  pub record IsReached (o : World V) (a : ℕ) (u : World V) : Type 0 where
    pub opens : Opens o
    pub stripes : HaveStripes o.blocks
    pub shape : (u.words ≡ o.words) × (u.blocks ≡ o.blocks)
    pub events : List (Event V)
    pub alike : Alike a (run o events) u
    pub bases : SameBases a (run o events) u
    pub clock : (run o events).boosted.words.clock ≤ highest_clock

  -- to a world that is to a as the one that it has for itself, by what its seat knows
  abbrev pub Went : World V → ℕ → Me (Slot V) (SeatKnowledge V) → Type 0
  Went o a m = IsReached o a (lone a o m.0.turns)

  -- Some events lead from the opening o to a world that is to actor a as w is, also in the bases that a has out; and a's next step there
  -- finds this number, and leaves to it, and answers, what it does in w with what it found.
  pub record HasHappened (o : World V) (a : ℕ) (w : World V) (found : ℕ) (base : Maybe (Base V)) : Type 0 where
    pub events : List (Event V)
    pub alike : Alike a (run o events) w
    pub bases : SameBases a (run o events) w
    pub finds : number_at (run o events) (spot a w) ≡ found
    pub same : SameAfter a (happens (run o events) (Step a)) (moved a w found base)

  -- what a step says of a seat: it took this turn, which is the step that happened
  abbrev pub Told : World V → ℕ → List (Event V) → ℕ → Me (Slot V) (SeatKnowledge V) → ℕ → Maybe (Base V) → SeatKnowledge V → Type 0
  Told o id qs k m found b v =
      let w = asked_all id (lone id o m.0.turns) qs in
      (v ≡ acting m.0 (record { asks = qs; found = found; base = b }) (ends id w) k) × HasHappened o id w found b

  -- what a try on the gate of k says: it found the gate free and has its base, or found it taken
  abbrev pub Took : World V → ℕ → List (Event V) → Me (Slot V) (SeatKnowledge V) → ℕ → ℕ → Me (Slot V) (SeatKnowledge V) → Type 0
  Took o id qs m k found t =
      ((found ≡ 0) × (b : Base V) × IsBaseAt o.blocks k b × Told o id qs m.0.clock m found (Some b) t.0 × (t.1 ≡ (k, Some b) ∷ m.1))
      ⊎ ((found ≡ 1) × Told o id qs m.0.clock m found None t.0 × (t.1 ≡ m.1))

  -- A step of a seat on the word at i, which becomes f of what it was. If these events reach a world that the table shows, then what the
  -- seat has asked and its step after them reach the one that it shows then, and this is said of what was found.
  abbrev pub Steps : World V → ℕ → ℕ → Me (Slot V) (SeatKnowledge V) → List (Event V) → ℕ → (ℕ → ℕ)
      → (ℕ → Me (Slot V) (SeatKnowledge V) → Type 0) → Type 0
  Steps o slots id m asks i f tells = (s : State (Slot V) (SeatKnowledge V)) (es : List (Event V)) → Shows o (run o es) s
      → length s.homes ≡ slots
      → get_elem? s.views id ≡ some m.0 → get_or s.words i 0 < 2 ^ 64
      → (v : SeatKnowledge V) × (a : Act (Slot V)) × Valid s.homes m.1 a
      × Shows o (run o (es ++ turn_events id asks)) (stepped s i (f (get_or s.words i 0)) id m.1 v a)
      × tells (get_or s.words i 0) (v, carried_after m.1 a)

  abbrev pub left_of : ℕ → SeatKnowledge V → SeatKnowledge V
  left_of k v = record {
    shares = v.shares - k;
    clock = v.clock;
    turns = v.turns;
    receipts = v.receipts;
    joined = v.joined;
    looks = v.looks;
  }

  abbrev pub right_of : ℕ → SeatKnowledge V → SeatKnowledge V
  right_of k v = record { shares = k; clock = 0; turns = []; receipts = []; joined = []; looks = [] }

  -- v, with the seat of this actor joined into it, which had u
  abbrev pub both_of : SeatKnowledge V → ℕ → SeatKnowledge V → SeatKnowledge V
  both_of v other u = record {
    shares = v.shares + u.shares;
    clock = max v.clock u.clock;
    turns = v.turns;
    receipts = v.receipts ++ u.receipts;
    joined = v.joined ++ (other, u.turns) ∷ u.joined;
    looks = v.looks;
  }

  abbrev pub spent_of : SeatKnowledge V → SeatKnowledge V
  spent_of u = record { shares = 0; clock = 0; turns = u.turns; receipts = []; joined = []; looks = [] }

  -- nothing has happened yet
  pub record IsOpening (o : World V) : Type 0 where
    pub records : o.records ≡ []
    pub aborted : o.aborted ≡ []
    pub free : (k : ℕ) → o.boosted.gates k ≡ None
    pub rests : (a : ℕ) → stamps_left (actor_of o a).place ≡ 0
    pub idle : (a : ℕ) → is_half_done (stage_of o a) ≡ false

  -- What a closed table shows, whose last seat is that of actor j: some events lead from the opening o to a world that has the receipts of
  -- the seat as its records. In it j, and each actor whose seat was joined into that of j, is as its lone world has it after its turns. The
  -- table's clock is that of this world, which is no less than the seat knows; and each slot has the base of its collection, of its kind
  -- and shape, with what it holds there and with its editions.
  pub record ShowsWorld (o : World V) (j : ℕ) (v : SeatKnowledge V) (words : List ℕ) (homes : List (Option (Slot V))) : Type 0 where
    pub events : List (Event V)
    pub own : IsOwn j (run o events) (lone j o v.turns)
    pub joined : All (λ p. IsOwn p.0 (run o events) (lone p.0 o p.1)) v.joined
    pub records : (h : ℕ × Record V → ℕ) → total h v.receipts ≡ total h (run o events).records
    pub clock : get_or words 0 0 ≡ (run o events).boosted.words.clock
    pub known : v.clock ≤ (run o events).boosted.words.clock
    pub bases :
        (k : ℕ) → k < length o.blocks
        → (b : Base V) × (get_elem? homes k ≡ some (some (Some b))) × IsBaseAt o.blocks k b
        × ShowsBase o.words o.blocks (run o events) k b

  -- What a closed table leaves: the receipts, in commit order, are a run of the sequential model from the opening, no number of theirs is
  -- above the clock, and words and bases are what it leaves: each by itself, and all of them as the state that they make up, which is
  -- within the limits of states.
  pub record Closes (n : ℕ) (bs : List Block) (opening : Contents V) (v : SeatKnowledge V) (words : List ℕ)
      (homes : List (Option (Slot V))) : Type 0 where
    pub order : List (ℕ × Record V)
    pub same : (h : ℕ × Record V → ℕ) → total h v.receipts ≡ total h order
    pub in_order : IsInCommitOrder order
    pub numbers : AreUpTo (get_or words 0 0) order
    pub serial : IsRun order opening
    pub values : (l : ℕ) → l < n → get_or words (address (end_of n bs) (ValueCell l)) 0 ≡ get_or (after_run order opening).words l 0
    pub bases :
        (k : ℕ) → k < length bs
        → (b : Base V) × (get_elem? homes k ≡ some (some (Some b)))
        × ((l : ℕ) → is_plain n bs l ≡ false → home_of n bs l ≡ k → part (stripes_of b) (l - first_of n bs k) (shown_of b)
        ≡ shown_at n bs (after_run order opening).held l)
    pub within : All IsWithinLimits (after_run order opening).held
    pub state : (ds : List (Base V)) → length ds ≡ length bs
        → ((k : ℕ) (d : Base V) → slice_get ds k ≡ Some d → get_elem? homes k ≡ some (some (Some d)))
        → after_run order opening
        ≡ record { words = values_in (end_of n bs) n words; held = map (λ d. held_of (shown_of d)) ds }
