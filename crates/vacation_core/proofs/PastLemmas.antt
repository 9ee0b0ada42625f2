-- What a location of a collection shows is what the records up to some number leave there, also where commits are half done.
-- An edition counts the writers of its location, and in commit order the numbers of writers rise: so for each count up to that of all
-- writers there is a number up to which there are so many. The edition of a base is such a count; and where the history has it, its part is
-- the base's (`Known` of the machine), which the state at that number shows.
use Rattle.std.proofs.Common.{◌≡◌, ℕ, zero, suc, ◌<◌, ◌≤◌, true, false, true≢false, List, [], ◌∷◌, length}
use Rattle.std.proofs.Common.{inl, inr, refl, sym, ◌∙◌, ap, subst, arith, get_or}
use Rattle.std.specs.Prelude.{nat_le, nat_lt, if◌then◌else◌}
use Rattle.std.proofs.lemmas.Bool.{cases_Bool, cases_lt, cond_both, cond-false, lt-leb}
use Rattle.std.proofs.lemmas.Bool.Decides.{nat_tests}
use Rattle.std.proofs.lemmas.List.{get_or_past}
use Rattle.std.proofs.Common.{leb}
use Rattle.tx_machine.specs.Opacity.{AllFrom, IsInOrder}
use Rattle.tx_machine.specs.World.{Memory, Record}
use Rattle.tx_machine.proofs.Calls.{touched}
use Rattle.tx_machine.proofs.Invariant.{RecordOk}
use Rattle.tx_machine.proofs.Records.{AllRecords, AllRecords_map, settled_all}
use Rattle.seq_model.specs.declared.event.Event.{Event}
use Rattle.seq_model.specs.declared.held.Held.{Held}
use Rattle.seq_model.specs.Contents.{Contents}
use Rattle.seq_model.specs.Runs.{state_at}
use Rattle.seq_model.proofs.LogicLemmas.{nat_lt-false}
use Rattle.tx_machine.specs.Boosted.{Boosted}
use Rattle.tx_machine.specs.Serial.{after_actions, view, words}
use Rattle.tx_machine.proofs.Editions.{AreAbove, AreWriters, count, one, one_here, stamp_few}
use Rattle.tx_machine.proofs.Models.{view_state}
use Rattle.tx_machine.proofs.BoostedSchedules.{all-opening, opens_ok}
use Rattle.tx_machine.proofs.SequentialRuns.{Opened, reached}
use Rattle.tx_machine.specs.Boosted.{opens}
use Rattle.replay_log.specs.Base.{Shown}
use Rattle.replay_log.specs.Collections.{Suit, shown_at}
use Rattle.replay_log.specs.Contents.{CallWithOutcome, Block, HaveStripes, content, is_plain}
use Rattle.replay_log.specs.Worlds.{World, opened, run}
use Rattle.replay_log.proofs.CallLemmas.{no_word_at}
use Rattle.replay_log.proofs.CollectionLemmas.{collections}
use Rattle.replay_log.proofs.CollectionRuns.{held_at, sequential}
use Rattle.replay_log.proofs.ContentLemmas.{content_frame}
use Rattle.replay_log.proofs.EventLemmas.{opened_linked, run_linked}
use Rattle.replay_log.proofs.MixedLemmas.{SameRecords, at_number}
use Rattle.replay_log.proofs.RequestLemmas.{actions_of, run_by}

-- ---- for each count a number

-- after a record in commit order the numbers of writers are greater
above_rest : (r : Record) (h : List Record) (l : ℕ) → AllFrom r h → AreWriters l h → AreAbove r.number l h
above_rest r [] l a w = tt
above_rest r (x ∷ xs) l a w = (
  λ t. elim (cases_lt r.number x.number) [
    | inl lt ↦ lt
    | inr ge ↦ (let b = a.0.0 in let same : r.number ≡ x.number = omega (arith, b, ge) in absurd (true≢false (sym (w.0 t) ∙ a.0.1 same)))
  ],
  above_rest r xs l a.1 w.1,
)

one_none : (r : Record) (n l : ℕ) → (touched r.calls l ≡ true → n < r.number) → one r n l ≡ 0
one_none r n l late =
    cond_both (touched r.calls l) (if nat_le r.number n then 1 else 0) 0 (λ z. z ≡ 0)
    (λ t. cond-false (leb r.number n) 1 0 (lt-leb r.number n (late t))) (λ _. refl)

one_most : (r : Record) (n l : ℕ) → one r n l ≤ 1
one_most r n l =
    cond_both (touched r.calls l) (if nat_le r.number n then 1 else 0) 0 (λ z. z ≤ 1)
    (λ _. cond_both (leb r.number n) 1 0 (λ z. z ≤ 1) (λ _. omega arith) (λ _. omega arith)) (λ _. omega arith)

one_apart : (r : Record) (n l : ℕ) → touched r.calls l ≡ false → one r n l ≡ 0
one_apart r n l out = cond-false (touched r.calls l) (if nat_le r.number n then 1 else 0) 0 out

none_yet : (h : List Record) (k l : ℕ) → AreAbove k l h → count h k l ≡ 0
none_yet [] k l a = refl
none_yet (r ∷ rs) k l a = let one = one_none r k l a.0 in let rest = none_yet rs k l a.1 in omega (arith, one, rest)

-- up to some number there are e writers of l, where there are as many at all
met : (h : List Record) (n e k l : ℕ) → IsInOrder h → AreWriters l h → AreAbove k l h → e ≤ count h n l
    → (m : ℕ) × (k ≤ m) × (count h m l ≡ e)
met h n zero k l o w a le = (k, omega arith, none_yet h k l a)
met [] n (suc e) k l o w a le = absurd (omega (arith, le))
met (r ∷ rs) n (suc e) k l o w a le =
    elim (cases_Bool (touched r.calls l)) [
      | inl t ↦
          let most = one_most r n l in
          let rest = met rs n e r.number l o.1 w.1 (above_rest r rs l o.0 w.1) (omega (arith, le, most)) in
          let later = rest.1 in
          let first = a.0 t in
          let one = one_here r rest.0 l t later in
          let others = rest.2 in
          (rest.0, omega (arith, first, later), omega (arith, one, others))
      | inr out ↦
          let none = one_apart r n l out in
          let rest = met rs n (suc e) k l o.1 w.1 a.1 (omega (arith, le, none)) in
          let here = one_apart r rest.0 l out in
          let others = rest.2 in
          (rest.0, rest.1, omega (arith, here, others))
    ]

module _ {V : Type 0} where
  -- ---- a part of the machine's collections
  module _ (n : ℕ) (bs : List Block) (stripes : HaveStripes bs) (hs : List (Held V)) (suit : Suit bs hs)
      (s : Boosted (Shown V) (CallWithOutcome V)) (o : Opened (content {V = V} n bs) (shown_at n bs hs) s) where
    ok_records : AllRecords (RecordOk s.words) (words s.history)
    ok_records = subst (AllRecords (RecordOk s.words)) (sym o.inv.same) o.inv.machine.records

    is_writer : (l : ℕ) (r : Record) → RecordOk s.words r → touched r.calls l ≡ true → r.writer ≡ true
    is_writer l r q t = elim (cases_Bool r.writer) [ inl w ↦ w | inr n ↦ absurd (true≢false (sym t ∙ q.reader n l)) ]

    -- up to some number there are as many writers of l as its edition says
    edition_met : (l : ℕ) → is_plain n bs l ≡ false → s.first l ≡ 0 → (k : ℕ) × (0 ≤ k) × (count (words s.history) k l ≡ s.editions l)
    edition_met l pl first =
        let h = words s.history in
        let clock = s.words.clock in
        let past = AllRecords_map (RecordOk s.words) (λ r. r.number ≤ clock) h (λ r q. q.past) ok_records in
        let writers : AreWriters l h =
        AllRecords_map (RecordOk s.words) (λ r. (touched r.calls l ≡ true → r.writer ≡ true)) h (λ r q t. is_writer l r q t) ok_records in
        let above : AreAbove 0 l h =
        AllRecords_map (RecordOk s.words) (λ r. (touched r.calls l ≡ true → 0 < r.number)) h
        (λ r q t. q.positive (is_writer l r q t)) ok_records in
        let all = sym (settled_all h clock l (s.first l) (stamp_few h clock l past)) ∙ o.inv.edition l pl clock in
        let most = (o.inv.known l pl).past in
        met h clock (s.editions l) 0 l o.order writers above (omega (arith, all, most, first))

    part_past : (l : ℕ) → is_plain n bs l ≡ false → s.first l ≡ 0 → (k : ℕ) × (s.parts l ≡ shown_at n bs (held_at s.history k hs) l)
    part_past l pl first =
        let c = content {V = V} n bs in
        let f = content_frame {V = V} n bs stripes in
        let m = edition_met l pl first in
        let counted = o.inv.edition l pl m.0 in
        let many = m.2 in (
          m.0,
          sym ((o.inv.known l pl).knows m.0 (omega (arith, counted, many, first)))
              ∙ ap (λ (z : ℕ → Shown V). view c s.history m.0 z l) o.opening
              ∙ view_state c f sequential (Suit bs) (collections V n bs stripes) s.history m.0 (shown_at n bs hs) hs suit (λ i. refl)
              o.runs o.order l,
        )

  -- ---- and of a world
  module _ (bs : List Block) (stripes : HaveStripes bs) (clock : ℕ) (values : List ℕ) (hs : List (Held V)) (suit : Suit bs hs)
      (events : List (Event V)) where
    abbrev n : ℕ
    n = length values

    abbrev opening : Contents V
    opening = record { words = values; held = hs }

    abbrev w : World V
    w = run (opened bs clock values hs) events

    abbrev m : Memory
    m = λ l. get_or values l 0

    same_records : SameRecords n w.records w.boosted.history
    same_records =
        let o = opened bs clock values hs in
        subst (λ i. SameRecords i w.records w.boosted.history) (run_by events o).words
        (run_linked events o (opened_linked bs clock values hs stripes)).base.records

    pub shows_past : (l : ℕ) → is_plain n bs l ≡ false
        → (k : ℕ) × (w.boosted.parts l ≡ shown_at n bs (state_at k w.records opening).held l)
    shows_past l pl =
        let c = content {V = V} n bs in
        let f = content_frame {V = V} n bs stripes in
        let actions = actions_of bs clock values hs events in
        let s = after_actions c clock m (shown_at n bs hs) actions.0 in
        let start = opens clock m (shown_at n bs hs) in
        let first : s.first l ≡ 0 =
        ap (λ (z : Memory). z l) (all-opening c f actions.0 start (opens_ok c f clock m (shown_at n bs hs))).1
        ∙ get_or_past values l 0 (nat_lt-false l n (no_word_at n bs l pl)) in
        let past = part_past n bs stripes hs suit s (reached c f clock m (shown_at n bs hs) actions.0) l pl first in
        let k = past.0 in
        let agrees = at_number n k w.records w.boosted.history hs m opening (record { count = refl; same = λ i lt. refl; held = refl })
        same_records in (
          k,
          ap (λ (b : Boosted (Shown V) (CallWithOutcome V)). b.parts l) actions.1 ∙ past.1
              ∙ ap (λ (b : Boosted (Shown V) (CallWithOutcome V)). shown_at n bs (held_at b.history k hs) l) (sym actions.1)
              ∙ ap (λ (gs : List (Held V)). shown_at n bs gs l) (sym agrees.held),
        )
