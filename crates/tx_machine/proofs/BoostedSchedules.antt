-- Every action, and every schedule. Each action has its lemma in the files beside; here one lemma goes through the
-- actions, and an induction through the list. What a transaction saw is known for ever, so it stands at every later moment; and
-- the records, each of which saw the parts of the number before its own, are a run.
use Rattle.std.proofs.Common.{◌≡◌, ℕ, ◌+◌, ◌-◌, ◌<◌, ◌≤◌, leb, Bool, true, false, List, [], ◌∷◌, inl, inr, refl, sym, ap, ◌∙◌, subst}
use Rattle.std.proofs.Common.{true≢false, arith, le-leb}
use Rattle.std.specs.Prelude.{nat_le, if◌then◌else◌}
use Rattle.std.proofs.lemmas.Bool.{cond_both, cond-true, cond-false, lt-leb, cases_lt, cases_Bool}
use Rattle.tx_machine.specs.Actor.{Call, Place, Begin, First, Leave, Close}
use Rattle.tx_machine.specs.World.{Memory, Record, step, Ask, Step}
use Rattle.tx_machine.specs.Opacity.{IsNoneHalfDone, InOrder, IsInOrder, AllFrom}
use Rattle.tx_machine.proofs.Calls.{touched}
use Rattle.tx_machine.proofs.Records.{settled, settled_all, finals, base, AllRecords, AllRecords_map}
use Rattle.tx_machine.proofs.Invariant.{Good, Saw, PlaceOk, RecordOk}
use Rattle.tx_machine.proofs.Schedules.{step_ok, start_ok}
use Rattle.tx_machine.proofs.Quiet.{lookup-none}
use Rattle.tx_machine.specs.Content.{Content, Frame}
use Rattle.tx_machine.specs.Boosted.{Committed, Aborted, Boosted, Action, OnWords, TakeGate, PutGate, Accept, GoHome, changes}
use Rattle.tx_machine.specs.Boosted.{word_step, acts, act_all, opens}
use Rattle.tx_machine.specs.Serial.{does_write, edition_at, words, view, views, AreLegal, AreRun, AllAborted}
use Rattle.tx_machine.proofs.Parts.{Fits, AllFit, AreLegal-same, only}
use Rattle.tx_machine.proofs.Views.{view_still}
use Rattle.tx_machine.proofs.BoostedInvariant.{SawParts, AllCommitted, Exact, Inv}
use Rattle.tx_machine.proofs.Editions.{IsEdition, count, AreWriters, AreAbove, count_few, stamp_few}
use Rattle.tx_machine.proofs.BoostedFrame.{Keeps, Led, SawParts-kept}
use Rattle.tx_machine.proofs.Steady.{step_steady, step_ends}
use Rattle.tx_machine.proofs.BoostedQuiet.{steady_led, ask_led, begin_led, leave_led, take_led, put_led}
use Rattle.tx_machine.proofs.Accepts.{accept_led}
use Rattle.tx_machine.proofs.Homes.{home_led}
use Rattle.tx_machine.proofs.Commits.{first_led, close_led}

-- what the word machine says of a record
abbrev pub Kind : Record → Type 0
Kind r = (r.writer ≡ true → 0 < r.number) × (r.writer ≡ false → (l : ℕ) → touched r.calls l ≡ false)

-- later records are nothing to the parts before a writer
after_writer : (r : Record) (xs : List Record) (l : ℕ) → 0 < r.number → AllFrom r xs
    → AllRecords (λ x. (x.number ≤ r.number - 1 → touched x.calls l ≡ false)) xs
after_writer r [] l p a = tt
after_writer r (x ∷ xs) l p a = ((λ q. absurd (omega (arith, p, q, a.0.0))), after_writer r xs l p a.1)

after_reader : (r : Record) (xs : List Record) (l : ℕ) → AllFrom r xs → AllRecords Kind xs
    → AllRecords (λ x. (x.number ≤ r.number → touched x.calls l ≡ false)) xs
after_reader r [] l a g = tt
after_reader r (x ∷ xs) l a g = ((λ q. g.0.1 (a.0.1 (omega (arith, q, a.0.0))) l), after_reader r xs l a.1 g.1)

base_from : (r x : Record) (w : Bool) → x.writer ≡ w → InOrder r x → Kind x → r.number ≤ base w x.number
base_from r x true e o g =
    elim (cases_lt r.number x.number) [
      | inl lt ↦ omega (arith, lt)
      | inr ge ↦ absurd (true≢false (sym e ∙ o.1 (omega (arith, ge, o.0))))
    ]
base_from r x false e o g = o.0

module _ {X Op Out : Type 0} (c : Content X Op Out) (f : Frame c) where
  step_led : (s : Boosted X Out) (a : ℕ) (p : Place) → Inv c s → (s.words.actors a).place ≡ p → PlaceOk s.words (s.words.actors a) p
      → Led c s (word_step s a (s.words.actors a) p)
  step_led s a Begin v e pl = begin_led c s a v e pl
  step_led s a First v e pl = first_led c f s a v e pl
  step_led s a Close v e pl = close_led c f s a v e pl
  step_led s a Leave v e pl = leave_led c s a v e pl
  step_led s a p v e pl = steady_led c s a (step s.words a (s.words.actors a) p) s.aborted v (step_ok s.words a p v.machine e pl)
      (step_steady s.words a p e pl tt) v.aborted (v.ends ∙ sym (step_ends s.words a p tt (λ h. h)))

  pub acts_led : (s : Boosted X Out) (e : Action Op) → Inv c s → Led c s (acts c s e)
  acts_led s (OnWords (Ask a r)) v = ask_led c s a r v
  acts_led s (OnWords (Step a)) v = step_led s a (s.words.actors a).place v refl (v.machine.actors a).place
  acts_led s (TakeGate a k) v = take_led c s a k v
  acts_led s (PutGate a k which) v = put_led c s a k which v
  acts_led s (Accept a op) v = accept_led c f s a op v
  acts_led s (GoHome a k) v = home_led c f s a k v

  pub all_ok : (es : List (Action Op)) (s : Boosted X Out) → Inv c s → Inv c (act_all c es s)
  all_ok [] s v = v
  all_ok (e ∷ es) s v = all_ok es (acts c s e) (acts_led s e v).inv

  pub all_saw : (es : List (Action Op)) (s : Boosted X Out) (n : ℕ) (os : List Out) → Inv c s → SawParts c s n os
      → SawParts c (act_all c es s) n os
  all_saw [] s n os v g = g
  all_saw (e ∷ es) s n os v g = let m = acts_led s e v in all_saw es (acts c s e) n os m.inv (SawParts-kept c s (acts c s e) n os m.keeps g)

  pub all-opening : (es : List (Action Op)) (s : Boosted X Out) → Inv c s → ((act_all c es s).opening ≡ s.opening)
      × ((act_all c es s).first ≡ s.first)
  all-opening [] s v = (refl, refl)
  all-opening (e ∷ es) s v = let m = acts_led s e v in let r = all-opening es (acts c s e) m.inv in
      (r.0 ∙ m.keeps.opening, r.1 ∙ m.keeps.first)

  pub opens_ok : (clock : ℕ) (memory : Memory) (parts : ℕ → X) → Inv c (opens clock memory parts)
  opens_ok clock memory parts = record {
    machine = start_ok clock memory;
    first = refl;
    same = refl;
    ends = refl;
    fits = tt;
    exact = tt;
    edition = λ l pl n. omega arith;
    known = λ l pl. record { plain = pl; past = omega arith; knows = λ m e. refl };
    at_home = λ l pl none. (refl, refl);
    owed = λ a l n pl h. absurd h;
    shadows = λ a. record {
      known = λ l h. absurd (true≢false (sym h));
      sets = λ l h. absurd h;
      wrote = λ l n pl h. absurd (lookup-none [] l n refl h);
      fits = λ l h. tt;
      legal = λ u h. tt;
    };
    gates = λ a. record { taken = λ p. absurd p; given = λ p. absurd p };
    records = tt;
    aborted = tt;
  }

  -- what was seen, at the parts of the number
  pub legal_parts : (s : Boosted X Out) (n : ℕ) (os : List Out) → Inv c s → SawParts c s n os → AreLegal c (view c s.history n s.opening) os
  legal_parts s n os v g = g.legal (view c s.history n s.opening) (λ l r. (g.known l r).knows n
      (ap (λ (z : List Record). settled z n l (s.first l)) v.same ∙ ap (λ (z : ℕ → ℕ). settled s.words.history n l (z l)) (sym v.first)
      ∙ (g.good l r).value))

  head_view : (r : Committed Out) (rs : List (Committed Out)) (v : ℕ → X) (l : ℕ) (w : Bool) → r.word.writer ≡ w → Fits c r → AllFit c rs
      → AllFrom r.word (words rs) → Kind r.word → AllRecords Kind (words rs) → view c (r ∷ rs) (base w r.word.number) v l ≡ v l
  head_view r rs v l true e fr fs a k ks =
      let p = k.0 e in
      ap (λ (z : ℕ → X). view c rs (r.word.number - 1) z l)
      (cond-false (leb r.word.number (r.word.number - 1)) (changes c r.outcomes v) v
      (lt-leb r.word.number (r.word.number - 1) (omega (arith, p))))
      ∙ view_still c f rs (r.word.number - 1) v l fs (after_writer r.word (words rs) l p a)
  head_view r rs v l false e fr fs a k ks =
      view_still c f rs r.word.number (if nat_le r.word.number r.word.number then changes c r.outcomes v else v) l fs
      (after_reader r.word (words rs) l a ks)
      ∙ cond_both (leb r.word.number r.word.number) (changes c r.outcomes v) v (λ (z : ℕ → X). z l ≡ v l)
      (λ _. only c f r v l fr (k.1 e l)) (λ _. refl)

  abbrev LegalAt : List (Committed Out) → (ℕ → X) → Committed Out → Type 0
  LegalAt h v r = AreLegal c (view c h (base r.word.writer r.word.number) v) r.outcomes

  all_behind : (r : Committed Out) (rs : List (Committed Out)) (v : ℕ → X) (xs : List (Committed Out)) → AllFrom r.word (words xs)
      → AllRecords Kind (words xs) → AllCommitted (LegalAt (r ∷ rs) v) xs → AllCommitted (LegalAt rs (changes c r.outcomes v)) xs
  all_behind r rs v [] a k g = tt
  all_behind r rs v (x ∷ xs) a k g = (
    (let b = base_from r.word x.word x.word.writer refl a.0 k.0 in
        subst (λ (z : ℕ → X). AreLegal c (view c rs (base x.word.writer x.word.number) z) x.outcomes)
        (cond-true (leb r.word.number (base x.word.writer x.word.number)) (changes c r.outcomes v) v
        (le-leb r.word.number (base x.word.writer x.word.number) b)) g.0),
    all_behind r rs v xs a.1 k.1 g.1,
  )

  AreRun-records : (h : List (Committed Out)) (v : ℕ → X) → AllFit c h → IsInOrder (words h) → AllRecords Kind (words h)
      → AllCommitted (LegalAt h v) h → AreRun c v h
  AreRun-records [] v fs o k g = tt
  AreRun-records (r ∷ rs) v fs o k g = (
    AreLegal-same c f r.outcomes (view c (r ∷ rs) (base r.word.writer r.word.number) v) v
        (λ l. head_view r rs v l r.word.writer refl fs.0 fs.1 o.0 k.0 k.1) g.0,
    AreRun-records rs (changes c r.outcomes v) fs.1 o.1 k.1 (all_behind r rs v rs o.0 k.1 g.1),
  )

  records_legal : (s : Boosted X Out) (h : List (Committed Out)) → Inv c s
      → AllCommitted (λ r. SawParts c s (base r.word.writer r.word.number) r.outcomes) h → AllCommitted (LegalAt s.history s.opening) h
  records_legal s [] v g = tt
  records_legal s (r ∷ rs) v g = (legal_parts s (base r.word.writer r.word.number) r.outcomes v g.0, records_legal s rs v g.1)

  pub are_run : (s : Boosted X Out) → Inv c s → AreRun c s.opening s.history
  are_run s v =
      AreRun-records s.history s.opening v.fits (subst IsInOrder (sym v.same) v.machine.ordered)
      (subst (AllRecords Kind) (sym v.same)
      (AllRecords_map (RecordOk s.words) Kind s.words.history (λ r q. (q.positive, q.reader)) v.machine.records))
      (records_legal s s.history v v.records)

  pub aborted_legal : (s : Boosted X Out) (es : List (Aborted Out)) → Inv c s → AllAborted (λ e. SawParts c s e.word.rv e.outcomes) es
      → AllAborted (λ e. AreLegal c (view c s.history e.word.rv s.opening) e.outcomes) es
  aborted_legal s [] v g = tt
  aborted_legal s (e ∷ es) v g = (legal_parts s e.word.rv e.outcomes v g.0, aborted_legal s es v g.1)

  pub at_rest : (s : Boosted X Out) → Inv c s → IsNoneHalfDone s.words → (l : ℕ) → c.plain l ≡ false
      → (views c s.history s.opening l ≡ s.parts l) × (finals (words s.history) l (s.first l) ≡ s.editions l)
  at_rest s v none l pl = v.at_home l pl (λ a half g. absurd (none a half))

  -- what a transaction read of the words
  pub all_words_saw : (es : List (Action Op)) (s : Boosted X Out) (n : ℕ) (cs : List Call) → Inv c s → Saw s.words n cs
      → Saw (act_all c es s).words n cs
  all_words_saw [] s n cs v g = g
  all_words_saw (e ∷ es) s n cs v g =
      let m = acts_led s e v in
      all_words_saw es (acts c s e) n cs m.inv
      (record { reads = g.reads; legal = g.legal; good = λ l i h. m.keeps.good n l i (g.good l i h) })

  -- what the base and the words keep through many actions
  pub all_keeps : (es : List (Action Op)) (s : Boosted X Out) → Inv c s → Keeps c s (act_all c es s)
  all_keeps [] s v = record { known = λ l e p g. g; good = λ n l i g. g; opening = refl; first = refl }
  all_keeps (e ∷ es) s v =
      let m = acts_led s e v in
      let k = all_keeps es (acts c s e) m.inv in
      record {
        known = λ l i p g. k.known l i p (m.keeps.known l i p g);
        good = λ n l i g. k.good n l i (m.keeps.good n l i g);
        opening = k.opening ∙ m.keeps.opening;
        first = k.first ∙ m.keeps.first;
      }

  count_is : (h : List (Committed Out)) (n l : ℕ) → c.plain l ≡ false → AllCommitted (Exact c) h → count (words h) n l ≡ edition_at c h n l
  count_is [] n l pl a = refl
  count_is (r ∷ rs) n l pl a =
      ap (λ (z : Bool). (if z then (if nat_le r.word.number n then 1 else 0) else 0) + count (words rs) n l) (a.0 l pl)
      ∙ ap (λ (i : ℕ). (if does_write c l r.outcomes then (if nat_le r.word.number n then 1 else 0) else 0) + i) (count_is rs n l pl a.1)

  -- an edition is raised once by each number at most
  pub edition_few : (s : Boosted X Out) (l : ℕ) → Inv c s → c.plain l ≡ false → s.editions l ≤ s.first l + s.words.clock
  edition_few s l v pl =
      let h = s.words.history in
      let clock = s.words.clock in
      let ok = v.machine.records in
      let past : AllRecords (λ r. r.number ≤ clock) h = AllRecords_map (RecordOk s.words) (λ r. r.number ≤ clock) h (λ r q. q.past) ok in
      let writers : AreWriters l h = AllRecords_map (RecordOk s.words) (λ r. (touched r.calls l ≡ true → r.writer ≡ true)) h
      (λ r q t. is_writer r q t) ok in
      let above : AreAbove 0 l h = AllRecords_map (RecordOk s.words) (λ r. (touched r.calls l ≡ true → 0 < r.number)) h
      (λ r q t. q.positive (is_writer r q t)) ok in
      let few = count_few h clock 0 l v.machine.ordered writers above (omega arith) in
      let all = sym (settled_all h clock l (s.first l) (stamp_few h clock l past))
      ∙ subst (λ (z : List Record). IsEdition z l (s.first l)) v.same (v.edition l pl) clock in
      let base = subst (λ (z : List Record). s.editions l ≤ finals z l (s.first l)) v.same (v.known l pl).past in
      omega (arith, few, all, base)
    where
      is_writer : (r : Record) → RecordOk s.words r → touched r.calls l ≡ true → r.writer ≡ true
      is_writer r q t = elim (cases_Bool r.writer) [ inl w ↦ w | inr n ↦ absurd (true≢false (sym t ∙ q.reader n l)) ]

  -- an edition read, and what a base holds with it
  pub edition_read : (t : Boosted X Out) (n l e : ℕ) → Inv c t → c.plain l ≡ false → Good t.words n l e
      → (e ≡ t.first l + edition_at c t.history n l) × (t.editions l ≡ e → t.parts l ≡ view c t.history n t.opening l)
  edition_read t n l e v pl g =
      let is : settled (words t.history) n l (t.first l) ≡ e = ap (λ (z : List Record). settled z n l (t.first l)) v.same
      ∙ ap (λ (z : ℕ → ℕ). settled t.words.history n l (z l)) (sym v.first) ∙ g.value in (
        sym is ∙ v.edition l pl n ∙ ap (λ (i : ℕ). t.first l + i) (count_is t.history n l pl v.exact),
        λ q. sym ((v.known l pl).knows n (is ∙ sym q)),
      )
