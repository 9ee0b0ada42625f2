-- One action on a table, and what an event leaves of it that is its actor's own.
--
-- The words change by the step of the cells alone. A gate that is tried becomes its actor's where it was free, and one that is put back
-- is free: the other gates keep their number, and no base changes. What is only an actor's own is not in the table.
use Rattle.std.proofs.Common.{◌≡◌, ℕ, zero, suc, ◌<◌, List, [], ◌∷◌, Bool, true, false, ◌&&◌, Option, Some, None, length, get_or, set}
use Rattle.std.proofs.Common.{refl, sym, ap, ◌∙◌, subst, inl, inr, get_or-set_same, get_or-set_other, arith}
use Rattle.std.specs.Prelude.{not, slice_get}
use Rattle.std.proofs.lemmas.List.{length-set}
use Rattle.std.proofs.lemmas.Option.{get_or_from_slice_get, slice_get-get_or, slice_get_within}
use Rattle.seq_model.specs.declared.event.Event.{Event}
use Rattle.seq_model.specs.declared.event.Event.TheVariants.{Step}
use Rattle.seq_model.specs.declared.held.Held.{Held}
use Rattle.conflict.specs.declared.change.Change.{Change}
use Rattle.std.proofs.lemmas.Bool.{cases_eq, cond-true, cond-false}
use Rattle.vlock_word.specs.LockWord.{unbits}
use Rattle.vlock_word.proofs.LockWordLemmas.{unbits_bits}
use Rattle.tx_machine.specs.World as machine
use Rattle.tx_machine.specs.World.{StepEnd, GoesOn, Commits, Aborts, step_end, put}
use Rattle.tx_machine.specs.Cells.{Cell, ClockCell, LockCell, ValueCell}
use Rattle.tx_machine.proofs.Sets.{put-same, put-other}
use Rattle.tx_machine.specs.Boosted.{Boosted, TakeGate, PutGate, is_actor, is_none, is_committing, recorded, shadows_after, gated}
use Rattle.tx_machine.specs.Boosted.{shadows_copied}
use Rattle.step_core.specs.Answers.{result_of}
use Rattle.step_core.specs.CellSteps.{AreCells, StepsOn}
use Rattle.step_core.specs.Shown as words
use Rattle.step_core.specs.declared.actor.Actor.{Actor}
use Rattle.step_core.proofs.Lists.{Answer, length_set}
use Rattle.replay_log.specs.declared.base.Base.{Base}
use Rattle.replay_log.specs.Base.{Shown}
use Rattle.replay_log.specs.Contents.{CallWithOutcome, Block, HaveStripes, block_of, content, home_of}
use Rattle.replay_log.specs.Worlds.{happens, opened, run}
use Rattle.replay_log.specs.Seats.{World, acted, actor_of, moves, word_notice}
use Rattle.actor_laws.specs.Bases.{IsBaseOf, IsFolded, ShowsBase, log_changes, log_locations}
use Rattle.actor_laws.specs.Gates.{GoesHome}
use Rattle.actor_laws.specs.StepTargets.{Word, Gate, spot_at, spot_by}
use Rattle.actor_laws.specs.Steps.{OnlyOwn, ready_at}
use Rattle.actor_laws.proofs.Alike.{alike_same}
use Rattle.actor_laws.proofs.Bases as bases
use Rattle.actor_laws.proofs.Guards.{home_allowed}
use Rattle.actor_laws.proofs.Others.{others}
use Rattle.actor_laws.proofs.StepTargets.{one_spot}
use Rattle.actor_laws.proofs.StepResult.{home_turned}
use Rattle.actor_parts.specs.Tables.{HasTable, holder}
use Rattle.actor_parts.specs.declared.table.Table.{Table}

-- taking note of what a step ends leaves the words, the gates and the bases
module _ {X Out : Type 0} where
  noted : (P : Boosted X Out → Type 0) (s : Boosted X Out) (os : List Out) (o : StepEnd)
      → ((t : Boosted X Out) → t.words ≡ s.words → t.gates ≡ s.gates → t.parts ≡ s.parts → t.editions ≡ s.editions → P t)
      → P (recorded s os o)
  noted P s os GoesOn by = by s refl refl refl refl
  noted P s os (Commits r) by = by (recorded s os (Commits r)) refl refl refl refl
  noted P s os (Aborts e) by = by (recorded s os (Aborts e)) refl refl refl refl

holder_none : (n : ℕ) → (n ≡ 0 → ⊥) → is_none (holder n) ≡ false
holder_none zero ne = absurd (ne refl)
holder_none (suc n) ne = refl

holder_some : (n : ℕ) → 0 < n → holder n ≡ Some n
holder_some zero h = absurd (omega (arith, h))
holder_some (suc n) h = refl

module _ {V : Type 0} where
  pub steps_words : (t u : Table V) (x y : Actor) (r : Answer) → StepsOn t.cells x u.cells y r → u.gates ≡ t.gates → u.bases ≡ t.bases
      → (w : World V) (a : ℕ) → HasTable t w → actor_of w a ≡ words.actor_of x
      → HasTable u (acted w (moves a ∷ [])) × (actor_of (acted w (moves a ∷ [])) a ≡ words.actor_of y)
      × (r ≡ result_of (word_notice w a))
  steps_words t u x y r on gs bs w a h e =
      let s = w.boosted in
      let st = on s.words a h.cells e in
      let after : Boosted (Shown V) (CallWithOutcome V) = record s {
        words = machine.step s.words a (s.words.actors a) (s.words.actors a).place;
        shadows = shadows_after s a (s.words.actors a).place;
      } in
      noted (λ b. HasTable u (record w { boosted = b }) × (b.words.actors a ≡ words.actor_of y) × (r ≡ result_of (word_notice w a)))
      after (s.shadows a).outcomes (step_end a (s.words.actors a) (s.words.actors a).place)
      (λ b same gates parts editions. (
        record {
          cells = subst (AreCells u.cells) (sym same) st.0;
          gates = λ k inn. ap (λ (f : ℕ → Option ℕ). f k) gates
              ∙ h.gates k (subst (λ z. k < length z.items) gs inn) ∙ ap (λ z. holder (get_or z.items k 0)) (sym gs);
          bases = λ k base got l plain home. (
              let shown = h.bases k base (subst (λ z. slice_get z.items k ≡ Some base) bs got) l plain home in
              (ap (λ f. f l) parts ∙ shown.0, ap (λ (f : ℕ → ℕ). f l) editions ∙ shown.1)
              );
        },
        ap (λ (z : machine.World). z.actors a) same ∙ st.1,
        st.2,
      ))

  -- a gate that is tried
  pub takes_free : (t u : Table V) (k a : ℕ) → u.cells ≡ t.cells → u.bases ≡ t.bases → u.gates.items ≡ set t.gates.items k a
      → k < length t.gates.items → 0 < a → get_or t.gates.items k 0 ≡ 0 → (w : World V) → HasTable t w
      → is_committing (actor_of w a).place ≡ false
      → HasTable u (acted w (TakeGate a k ∷ [])) × (true ≡ is_none (w.boosted.gates k))
  takes_free t u k a cs bs gs inn some free w h quiet = (
    subst (λ (b : Boosted (Shown V) (CallWithOutcome V)). HasTable u (record w { boosted = b })) (sym turn)
        (record {
          cells = subst (λ z. AreCells z w.boosted.words) (sym cs) h.cells;
          gates = λ j low. gate j (subst (λ z. j < length z) gs low);
          bases = λ j base got. h.bases j base (subst (λ z. slice_get z.items j ≡ Some base) bs got);
        }),
    sym none,
  )
    where
      is_free : w.boosted.gates k ≡ None
      is_free = h.gates k inn ∙ ap holder free

      none : is_none (w.boosted.gates k) ≡ true
      none = ap is_none is_free

      turn : (acted w (TakeGate a k ∷ [])).boosted ≡ gated w.boosted (put w.boosted.gates k (Some a)) w.boosted.shadows
      turn = cond-true (is_none (w.boosted.gates k) && not (is_committing (actor_of w a).place))
          (gated w.boosted (put w.boosted.gates k (Some a)) w.boosted.shadows) w.boosted
          (ap (λ (z : Bool). z && not (is_committing (actor_of w a).place)) none ∙ ap not quiet)

      gate : (j : ℕ) → j < length (set t.gates.items k a) → put w.boosted.gates k (Some a) j ≡ holder (get_or u.gates.items j 0)
      gate j low = elim (cases_eq j k) [
        | inl q ↦ ap (put w.boosted.gates k (Some a)) q ∙ put-same w.boosted.gates k (Some a) ∙ sym (holder_some a some)
            ∙ ap holder (sym (ap (λ (z : List ℕ). get_or z j 0) gs ∙ ap (λ (i : ℕ). get_or (set t.gates.items k a) i 0) q
            ∙ get_or-set_same t.gates.items k a 0 inn))
        | inr ne ↦ put-other w.boosted.gates k (Some a) j ne ∙ h.gates j (subst (λ n. j < n) (length_set t.gates.items k a) low)
            ∙ ap holder (sym (ap (λ (z : List ℕ). get_or z j 0) gs ∙ get_or-set_other t.gates.items k j a 0 ne))
      ]

  pub takes_held : (t : Table V) (k a : ℕ) → k < length t.gates.items → (get_or t.gates.items k 0 ≡ 0 → ⊥) → (w : World V)
      → HasTable t w → is_committing (actor_of w a).place ≡ false
      → HasTable t (acted w (TakeGate a k ∷ [])) × (false ≡ is_none (w.boosted.gates k))
  takes_held t k a inn held w h quiet = (
    subst (λ (b : Boosted (Shown V) (CallWithOutcome V)). HasTable t (record w { boosted = b })) (sym turn)
        (record { cells = h.cells; gates = h.gates; bases = h.bases }),
    sym taken,
  )
    where
      taken : is_none (w.boosted.gates k) ≡ false
      taken = ap is_none (h.gates k inn) ∙ holder_none (get_or t.gates.items k 0) held

      turn : (acted w (TakeGate a k ∷ [])).boosted ≡ w.boosted
      turn = cond-false (is_none (w.boosted.gates k) && not (is_committing (actor_of w a).place))
          (gated w.boosted (put w.boosted.gates k (Some a)) w.boosted.shadows) w.boosted
          (ap (λ (z : Bool). z && not (is_committing (actor_of w a).place)) taken)

  -- and one that is put back
  pub puts_back : (t u : Table V) (k : ℕ) → u.cells ≡ t.cells → u.bases ≡ t.bases → u.gates.items ≡ set t.gates.items k 0
      → k < length t.gates.items → (w : World V) (a : ℕ) (which : ℕ → Bool) → HasTable t w → is_actor a (w.boosted.gates k) ≡ true
      → is_committing (actor_of w a).place ≡ false → HasTable u (acted w (PutGate a k which ∷ []))
  puts_back t u k cs bs gs inn w a which h own quiet =
      subst (λ (b : Boosted (Shown V) (CallWithOutcome V)). HasTable u (record w { boosted = b })) (sym turn)
      (record {
        cells = subst (λ z. AreCells z w.boosted.words) (sym cs) h.cells;
        gates = λ j low. gate j (subst (λ z. j < length z) gs low);
        bases = λ j base got. h.bases j base (subst (λ z. slice_get z.items j ≡ Some base) bs got);
      })
    where
      turn : (acted w (PutGate a k which ∷ [])).boosted
          ≡ gated w.boosted (put w.boosted.gates k None) (shadows_copied (content w.words w.blocks) w.boosted a k which)
      turn = cond-true (is_actor a (w.boosted.gates k) && not (is_committing (actor_of w a).place))
          (gated w.boosted (put w.boosted.gates k None) (shadows_copied (content w.words w.blocks) w.boosted a k which)) w.boosted
          (ap (λ (z : Bool). z && not (is_committing (actor_of w a).place)) own ∙ ap not quiet)

      gate : (j : ℕ) → j < length (set t.gates.items k 0) → put w.boosted.gates k None j ≡ holder (get_or u.gates.items j 0)
      gate j low = elim (cases_eq j k) [
        | inl q ↦ ap (put w.boosted.gates k None) q ∙ put-same w.boosted.gates k None
            ∙ ap holder (sym (ap (λ (z : List ℕ). get_or z j 0) gs ∙ ap (λ (i : ℕ). get_or (set t.gates.items k 0) i 0) q
            ∙ get_or-set_same t.gates.items k 0 0 inn))
        | inr ne ↦ put-other w.boosted.gates k None j ne ∙ h.gates j (subst (λ n. j < n) (length_set t.gates.items k 0) low)
            ∙ ap holder (sym (ap (λ (z : List ℕ). get_or z j 0) gs ∙ get_or-set_other t.gates.items k j 0 0 ne))
      ]

  -- what is an actor's own alone is not in the table
  pub still_has : (t : Table V) (a : ℕ) (v u : World V) → OnlyOwn a v u → HasTable t v → HasTable t u
  still_has t a v u o h = record {
    cells = record {
      clock = o.cells ClockCell ∙ h.cells.clock;
      locks = λ l. sym (unbits_bits (u.boosted.words.locks l)) ∙ ap unbits (o.cells (LockCell l))
          ∙ unbits_bits (v.boosted.words.locks l) ∙ h.cells.locks l;
      values = λ l. o.cells (ValueCell l) ∙ h.cells.values l;
    };
    gates = λ k inn. o.gates k ∙ h.gates k inn;
    bases = λ k base got. subst (λ n. ShowsBase n u.blocks u k base) (sym o.words)
        (subst (λ bs. ShowsBase v.words bs u k base) (sym o.blocks)
        (λ l plain home. (let shown = h.bases k base got l plain home in (o.parts l ∙ shown.0, o.editions l ∙ shown.1))));
  }

-- A base that is put back: the words stand, and so do the other gates and their bases.
module _ {V : Type 0} (t u : Table V) (k : ℕ) (before now : Base V) (blocks : List Block) (clock : ℕ) (values : List ℕ)
    (held : List (Held V)) (events : List (Event V)) (a : ℕ) where
  abbrev here : World V
  here = run (opened blocks clock values held) events

  abbrev next : World V
  next = (happens here (Step a)).0

  at_gate : GoesHome here a k → spot_at a here (here.seats a).stage ≡ Gate k
  at_gate home = ap (spot_by a (ready_at a here (here.seats a).stage)) home

  no_word : GoesHome here a k → (c : Cell) → spot_at a here (here.seats a).stage ≡ Word c → ⊥
  no_word home c q = (let z : Gate k ≡ Word c = sym (at_gate home) ∙ q in cc)

  no_gate : GoesHome here a k → (j : ℕ) → (j ≡ k → ⊥) → spot_at a here (here.seats a).stage ≡ Gate j → ⊥
  no_gate home j ne q = (let z : Gate k ≡ Gate j = sym (at_gate home) ∙ q in let e : k ≡ j = cc in ne (sym e))

  same_words : HasTable t here → GoesHome here a k → AreCells t.cells next.boosted.words
  same_words h home =
      let spot = one_spot here a in
      record {
        clock = spot.cells ClockCell (no_word home ClockCell) ∙ h.cells.clock;
        locks = λ l. sym (unbits_bits (next.boosted.words.locks l)) ∙ ap unbits (spot.cells (LockCell l) (no_word home (LockCell l)))
            ∙ unbits_bits (here.boosted.words.locks l) ∙ h.cells.locks l;
        values = λ l. spot.cells (ValueCell l) (no_word home (ValueCell l)) ∙ h.cells.values l;
      }

  gate_after : HaveStripes blocks → HasTable t here → GoesHome here a k → k < length t.gates.items → (j : ℕ)
      → j < length t.gates.items → next.boosted.gates j ≡ holder (get_or (set t.gates.items k 0) j 0)
  gate_after have h home inn j low = elim (cases_eq j k) [
    | inl q ↦
        let guard = home_allowed blocks clock values held events a k here have (alike_same a here) home in
        ap next.boosted.gates q ∙ (home_turned a here k home guard.0 guard.1).gate
        ∙ ap holder (sym (ap (λ (i : ℕ). get_or (set t.gates.items k 0) i 0) q ∙ get_or-set_same t.gates.items k 0 0 inn))
    | inr ne ↦ (one_spot here a).gates j (no_gate home j ne) ∙ h.gates j low
        ∙ ap holder (sym (get_or-set_other t.gates.items k j 0 0 ne))
  ]

  -- what a base shows that is not this one
  other_base : HasTable t here → GoesHome here a k → (j : ℕ) (base : Base V) → (j ≡ k → ⊥) → slice_get t.bases.items j ≡ Some base
      → ShowsBase here.words here.blocks next j base
  other_base h home j base ne got l plain lies =
      let spot = one_spot here a in
      let apart : spot_at a here (here.seats a).stage ≡ Gate (home_of here.words here.blocks l) → ⊥ =
      no_gate home (home_of here.words here.blocks l) (λ q. ne (sym lies ∙ q)) in
      let shown = h.bases j base got l plain lies in
      (spot.parts l apart ∙ shown.0, spot.editions l apart ∙ shown.1)

  base_after : HasTable t here → GoesHome here a k → k < length t.bases.items → ShowsBase here.words here.blocks next k now
      → (j : ℕ) (base : Base V) → slice_get (set t.bases.items k now) j ≡ Some base → ShowsBase here.words here.blocks next j base
  base_after h home inn shows j base got = elim (cases_eq j k) [
    | inl q ↦
        let is : now ≡ base = sym (get_or-set_same t.bases.items k now base inn)
        ∙ ap (λ (i : ℕ). get_or (set t.bases.items k now) i base) (sym q)
        ∙ get_or_from_slice_get (set t.bases.items k now) j base base got in
        subst (λ (i : ℕ). ShowsBase here.words here.blocks next i base) (sym q)
        (subst (ShowsBase here.words here.blocks next k) is shows)
    | inr ne ↦
        let low = slice_get_within (set t.bases.items k now) j base got in
        let long = length-set t.bases.items k now in
        other_base h home j base ne
        (slice_get-get_or t.bases.items j base (omega (arith, low, long))
        ∙ ap Some (sym (get_or-set_other t.bases.items k j now base ne) ∙ get_or_from_slice_get (set t.bases.items k now) j base base got))
  ]

  pub goes_home : (changes : List (Change V)) (locations : List ℕ) (b : Block) → u.cells ≡ t.cells → u.gates.items ≡ set t.gates.items k 0
      → u.bases.items ≡ set t.bases.items k now → k < length t.gates.items → k < length t.bases.items
      → IsFolded changes locations before now
      → HaveStripes blocks → HasTable t here → GoesHome here a k → block_of here.blocks k ≡ Some b
      → slice_get t.bases.items k ≡ Some before → IsBaseOf b before → changes ≡ log_changes k b (here.boosted.shadows a).outcomes
      → locations ≡ log_locations k b (here.boosted.shadows a).outcomes → HasTable u next
  goes_home changes locations b cs gs bs inn inside folded have h home is got fits cl ll =
      let os = (here.boosted.shadows a).outcomes in
      let told : IsFolded (log_changes k b os) (log_locations k b os) before now =
      subst (λ ls. IsFolded (log_changes k b os) ls before now) ll (subst (λ ds. IsFolded ds locations before now) cl folded) in
      let shows = (bases.goes_home blocks clock values held events a k b before now here have (alike_same a here) home is fits
      (h.bases k before got) told).1 in
      let other = others here (Step a) (suc a) (λ e. omega arith) in
      record {
        cells = subst (λ z. AreCells z next.boosted.words) (sym cs) (same_words h home);
        gates = λ j low. (
            let long = length-set t.gates.items k 0 in
            let short : j < length t.gates.items = omega (arith, subst (λ z. j < length z) gs low, long) in
            gate_after have h home inn j short ∙ ap (λ z. holder (get_or z j 0)) (sym gs)
            );
        bases = λ j base at_j. subst (λ n. ShowsBase n next.blocks next j base) other.words
            (subst (λ bks. ShowsBase here.words bks next j base) other.blocks
            (base_after h home inside shows j base (subst (λ z. slice_get z j ≡ Some base) bs at_j)));
      }
