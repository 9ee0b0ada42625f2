-- The trace of the parts of a world is the world's. The half-done commits are counted along the records by the seats that the actors show;
-- what is serial of the world is serial of the trace, and where no number is half done no actor is.
use Rattle.std.proofs.Common.{◌≡◌, ℕ, zero, suc, ◌+◌, ◌-◌, ◌<◌, ◌≤◌, Bool, true, false, ◌&&◌, ◌==◌, List, [], ◌∷◌, ◌++◌, map, Option, Some}
use Rattle.std.proofs.Common.{None}
use Rattle.std.proofs.Common.{length, get_or, take, refl, sym, ap, ◌∙◌, subst, inl, inr, ◌⊎◌, arith, true≢false}
use Rattle.std.specs.Prelude.{All, if◌then◌else◌, slice_get}
use Rattle.std.proofs.Math.Seq.{take-suc}
use Rattle.std.proofs.lemmas.Bool.{cases_Bool, cases_lt}
use Rattle.std.proofs.lemmas.Bool.Decides.{nat_tests}
use Rattle.step_world.specs.declared.opening.TheConstants.{ACTORS}
use Rattle.seq_model.specs.declared.event.Event.{Event}
use Rattle.seq_model.specs.declared.held.Held.{Held}
use Rattle.seq_model.specs.declared.record.Record.{Record}
use Rattle.seq_model.specs.declared.refusal.Refusal.{Refusal}
use Rattle.seq_model.specs.declared.refusal.Refusal.TheVariants.{Memory as OutOfMemory, TooLong}
use Rattle.seq_model.specs.Calls.{IsWithinLimits}
use Rattle.seq_model.specs.Contents.{Contents}
use Rattle.seq_model.specs.Runs.{IsInCommitOrder, IsRun, after_run}
use Rattle.tx_machine.specs.Content.{has}
use Rattle.replay_log.specs.Seats as seats
use Rattle.replay_log.specs.Worlds.{World, Seat, no_one, half, is_half_done, opened, run, state}
use Rattle.replay_log.specs.Collections.{Suit}
use Rattle.replay_log.specs.Contents.{Block, HaveStripes}
use Rattle.replay_log.specs.WorldTraces.{half_in, trace}
use Rattle.replay_log.specs.WorldSerial.{AllSaw, AreHalfDone, IsSerial}
use Rattle.step_core.specs.Shown.{is_actor}
use Rattle.step_core.proofs.Lists.{some_at}
use Rattle.tx_actor.specs.Running.{seat_of, stage_of}
use Rattle.tx_actor.specs.declared.actor.TxActor.{TxActor}
use Rattle.step_world.specs.declared.parts.Parts.{Parts}
use Rattle.step_world.specs.declared.trace.Ended.{Ended}
use Rattle.step_world.specs.declared.trace.Trace.{Trace}
use Rattle.step_world.specs.Parts.{HasWorld, IsWorld, ended_of}
use Rattle.step_world.specs.Reached.{IsReached}
use Rattle.step_world.specs.Traces.{IsSerialTrace, IsTraceOf, is_half, seat_at, seat_found, with_number}
use Rattle.actor_parts.proofs.BlocksLemmas.{end_behind}
use Rattle.tx_actor.proofs.SeatLemmas.{IsLike, like_as}
use Rattle.tx_actor.proofs.StepLemmas.{reached_linked}
use Rattle.actor_laws.specs.Limits.{HoldsWithinLimits}
use Rattle.actor_parts.specs.States.{held_in}
use Rattle.actor_parts.proofs.StateLemmas as tables
use Rattle.step_world.proofs.WorldLemmas.{shape_laid}

-- one number more after the others, and one in front
swapped : (b c : Bool) (n m : ℕ) (ns : List ℕ)
    → (if b then m ∷ with_number c n ns else with_number c n ns) ≡ with_number c n (if b then m ∷ ns else ns)
swapped true true n m ns = refl
swapped true false n m ns = refl
swapped false true n m ns = refl
swapped false false n m ns = refl

pub take_all : {X : Type 0} → (xs : List X) (i : ℕ) → length xs ≤ i → take i xs ≡ xs
take_all [] zero h = refl
take_all [] (suc i) h = refl
take_all (x ∷ xs) zero h = absurd (omega (arith, h))
take_all (x ∷ xs) (suc i) h = ap (λ ys. x ∷ ys) (take_all xs i (omega (arith, h)))

and_none : (b c : Bool) → (b && (false && c)) ≡ false
and_none true c = refl
and_none false c = refl

not_in_none : (ns : List ℕ) (n : ℕ) → ns ≡ [] → has ns n ≡ true → ⊥
not_in_none [] n e h = true≢false (sym h)
not_in_none (m ∷ ns) n e h = let z : ⊥ = cc in z

-- ---- the laws of worlds, each as its function states it
abbrev pub SerialLaw : Type 0 → Type 0
SerialLaw V =
    (blocks : List Block) (clock : ℕ) (values : List ℕ) (held : List (Held V)) (events : List (Event V)) → HaveStripes blocks
    → Suit blocks held → IsSerial (record { words = values; held = held }) (run (opened blocks clock values held) events)

abbrev pub StateLaw : Type 0 → Type 0
StateLaw V =
    (blocks : List Block) (clock : ℕ) (values : List ℕ) (held : List (Held V)) (events : List (Event V)) → HaveStripes blocks
    → Suit blocks held
    → let w = run (opened blocks clock values held) events in
    ((a : ℕ) → is_half_done (w.seats a).stage ≡ false)
    → (trace w).state ≡ after_run (trace w).records (record { words = values; held = held })

abbrev pub HalfLaw : Type 0 → Type 0
HalfLaw V =
    (blocks : List Block) (clock : ℕ) (values : List ℕ) (held : List (Held V)) (events : List (Event V)) → HaveStripes blocks
    → Suit blocks held → let w = run (opened blocks clock values held) events in AreHalfDone w (half w)

abbrev pub LimitsLaw : Type 0 → Type 0
LimitsLaw V =
    (blocks : List Block) (clock : ℕ) (values : List ℕ) (held : List (Held V)) (events : List (Event V)) → HaveStripes blocks
    → Suit blocks held → HoldsWithinLimits (run (opened blocks clock values held) events)

module _ {V : Type 0} where
  half_push : (seats : ℕ → Seat V) (rs : List (ℕ × Record V)) (r : ℕ × Record V)
      → half_in seats (rs ++ r ∷ []) ≡ with_number (is_half seats r) r.1.number (half_in seats rs)
  half_push seats [] r = refl
  half_push seats (q ∷ rs) r =
      ap (λ (ns : List ℕ). if is_half seats q then q.1.number ∷ ns else ns) (half_push seats rs r)
      ∙ swapped (is_half seats q) (is_half seats r) r.1.number q.1.number (half_in seats rs)

  pub half_next : (seats : ℕ → Seat V) (rs : List (ℕ × Record V)) (i : ℕ) (r : ℕ × Record V) (b : Bool) (found now : List ℕ)
      → i < length rs → r ≡ get_or rs i r → b ≡ is_half seats r → found ≡ half_in seats (take i rs)
      → now ≡ with_number b r.1.number found → now ≡ half_in seats (take (i + 1) rs)
  half_next seats rs i r b found now lt at is so_far e =
      let more : suc i ≡ i + 1 = omega arith in
      e ∙ (ap (λ (c : Bool). with_number c r.1.number found) is
      ∙ (ap (λ (ns : List ℕ). with_number (is_half seats r) r.1.number ns) so_far
      ∙ (sym (half_push seats (take i rs) r)
      ∙ (ap (λ (x : ℕ × Record V). half_in seats (take i rs ++ x ∷ [])) at
      ∙ (sym (ap (λ (xs : List (ℕ × Record V)). half_in seats xs) (take-suc rs i r lt))
      ∙ ap (λ (k : ℕ). half_in seats (take k rs)) more)))))

  pub half_none : (seats : ℕ → Seat V) (r : ℕ × Record V) → seats r.0 ≡ no_one → false ≡ is_half seats r
  half_none seats r e =
      sym (and_none r.1.writes (r.1.number == (no_one {V = V}).wv))
      ∙ sym (ap (λ (x : Seat V). r.1.writes && (is_half_done x.stage && (r.1.number == x.wv))) e)

  pub at_place : (rs : List (TxActor V)) (a : ℕ) → (a ≡ 0 → ⊥) → seat_at rs a ≡ seat_found (slice_get rs (a - 1))
  at_place rs zero ne = absurd (ne refl)
  at_place rs (suc i) ne = (let e : i ≡ suc i - 1 = omega arith in ap (λ (k : ℕ). seat_found (slice_get rs k)) e)

  -- a record of one of the actors, and of none
  pub half_found : (rs : List (TxActor V)) (r : ℕ × Record V) (x : TxActor V) (b c : Bool) → (r.0 ≡ 0 → ⊥)
      → slice_get rs (r.0 - 1) ≡ Some x → c ≡ (is_half_done (stage_of x.stage) && (r.1.number == x.wv)) → b ≡ (r.1.writes && c)
      → b ≡ is_half (seat_at rs) r
  half_found rs r x b c ne at theirs is =
      is ∙ (ap (λ (z : Bool). r.1.writes && z) theirs
      ∙ ap (λ (y : Seat V). r.1.writes && (is_half_done y.stage && (r.1.number == y.wv))) (sym (at_place rs r.0 ne ∙ ap seat_found at)))

  pub half_lost : (rs : List (TxActor V)) (r : ℕ × Record V) → (r.0 ≡ 0 → ⊥) → slice_get rs (r.0 - 1) ≡ None
      → false ≡ is_half (seat_at rs) r
  half_lost rs r ne at = half_none (seat_at rs) r (at_place rs r.0 ne ∙ ap seat_found at)

  half_same : (f g : ℕ → Seat V) (rs : List (ℕ × Record V)) → ((a : ℕ) → is_half_done (f a).stage ≡ is_half_done (g a).stage)
      → ((a : ℕ) → (f a).wv ≡ (g a).wv) → half_in f rs ≡ half_in g rs
  half_same f g [] stages numbers = refl
  half_same f g (r ∷ rs) stages numbers =
      ap (λ (ns : List ℕ). if is_half f r then r.1.number ∷ ns else ns) (half_same f g rs stages numbers)
      ∙ (ap (λ (b : Bool). if r.1.writes && (b && (r.1.number == (f r.0).wv)) then r.1.number ∷ half_in g rs else half_in g rs) (stages r.0)
      ∙ ap (λ (n : ℕ). if r.1.writes && (is_half_done (g r.0).stage && (r.1.number == n)) then r.1.number ∷ half_in g rs else half_in g rs)
      (numbers r.0))

  pub no_place : (rs : List (TxActor V)) (i : ℕ) → length rs ≤ i → slice_get rs i ≡ None
  no_place [] i h = refl
  no_place (r ∷ rs) zero h = absurd (omega (arith, h))
  no_place (r ∷ rs) (suc i) h = no_place rs i (omega (arith, h))

  pub seat_like : (c : Parts V) (w : World V) (a : ℕ) → IsWorld c w → IsLike (w.seats a) (seat_at c.actors.items a)
  seat_like c w zero h = subst (λ (x : Seat V). IsLike x no_one) (sym (h.others 0 refl)) (refl, refl)
  seat_like c w (suc i) h =
      elim (cases_lt i ACTORS) [
        | inl low ↦ (
            let q = some_at c.actors.items i (omega (arith, low, h.count)) in
            let next : i + 1 ≡ suc i = omega arith in
            subst (λ (o : Option (TxActor V)). IsLike (w.seats (suc i)) (seat_found o)) (sym q.1)
            (subst (λ (k : ℕ). IsLike (w.seats k) (seat_of q.0)) next
            (like_as w (i + 1) q.0 (h.seats i q.0 q.1).runs)))
        | inr high ↦ (
            subst (λ (o : Option (TxActor V)). IsLike (w.seats (suc i)) (seat_found o))
            (sym (no_place c.actors.items i (omega (arith, high, h.count))))
            (subst (λ (x : Seat V). IsLike x no_one) (sym (h.others (suc i) (out i high))) (refl, refl)))
      ]
    where
      out : (i : ℕ) → ACTORS ≤ i → is_actor (suc i) ≡ false
      out i high = grind (arith, nat_tests)

  pub half_of : (c : Parts V) (w : World V) (ns : List ℕ) → IsWorld c w → ns ≡ half_in (seat_at c.actors.items) c.records.items
      → ns ≡ half w
  half_of c w ns h e =
      e ∙ (half_same (seat_at c.actors.items) w.seats c.records.items
      (λ a. sym (seat_like c w a h).0) (λ a. sym (seat_like c w a h).1)
      ∙ ap (λ (rs : List (ℕ × Record V)). half_in w.seats rs) h.records)

  pub traced : (c : Parts V) (t : Trace V) → t.records ≡ c.records.items → t.aborted ≡ c.aborted.items
      → t.half ≡ half_in (seat_at c.actors.items) c.records.items
      → ((o : Contents V) (w : World V) → IsReached o w → IsWorld c w → state w ≡ t.state)
      → (o : Contents V) (w : World V) → IsReached o w → IsWorld c w → IsTraceOf w t
  traced c t rs es ns shown o w reached h = record {
    records = rs ∙ h.records;
    aborted = ap (λ (xs : List (Ended V)). map ended_of xs) es ∙ h.aborted;
    state = sym (shown o w reached h);
    half = half_of c w t.half h ns;
  }

  pub serial_at : SerialLaw V → (o : Contents V) (w : World V) → IsReached o w → IsSerial o w
  serial_at law o w h =
      subst (λ (z : World V). IsSerial o z) h.world (law h.blocks h.clock o.words o.held h.events h.stripes h.suits)

  pub state_left : StateLaw V → (o : Contents V) (w : World V) → IsReached o w → ((a : ℕ) → is_half_done (w.seats a).stage ≡ false)
      → state w ≡ after_run w.records o
  state_left law o w h =
      subst (λ (z : World V). ((a : ℕ) → is_half_done (z.seats a).stage ≡ false) → state z ≡ after_run z.records o) h.world
      (law h.blocks h.clock o.words o.held h.events h.stripes h.suits)

  half_at : HalfLaw V → (o : Contents V) (w : World V) → IsReached o w → AreHalfDone w (half w)
  half_at law o w h =
      subst (λ (z : World V). AreHalfDone z (half z)) h.world (law h.blocks h.clock o.words o.held h.events h.stripes h.suits)

  -- where none is half done, no actor is
  none_half : HalfLaw V → (o : Contents V) (w : World V) → IsReached o w → half w ≡ [] → (a : ℕ) → is_half_done (w.seats a).stage ≡ false
  none_half law o w h e a = elim (cases_Bool (is_half_done (w.seats a).stage)) [
    | inl is ↦ absurd (not_in_none (half w) (w.seats a).wv e ((half_at law o w h).all a is))
    | inr isnt ↦ isnt
  ]

  pub serial_trace : SerialLaw V → StateLaw V → HalfLaw V → (o : Contents V) (w : World V) (t : Trace V) → IsReached o w → IsTraceOf w t
      → IsSerialTrace o t
  serial_trace law left halves o w t h is =
      let s = serial_at law o w h in
      record {
        ordered = subst (λ (rs : List (ℕ × Record V)). IsInCommitOrder rs) (sym is.records) s.ordered;
        run = subst (λ (rs : List (ℕ × Record V)). IsRun rs o) (sym is.records) s.run;
        left = λ none.
            is.state ∙ (state_left left o w h (none_half halves o w h (sym is.half ∙ none))
            ∙ ap (λ (rs : List (ℕ × Record V)). after_run rs o) (sym is.records));
        saw = subst (λ (es : List (seats.Ended V)). AllSaw o t.records es) (sym is.aborted)
            (subst (λ (rs : List (ℕ × Record V)). AllSaw o rs w.aborted) (sym is.records) s.aborted_saw);
      }

  -- ---- the state that is shown
  -- the words are among the values of the table
  pub words_fit : (c : Parts V) → HasWorld c → c.blocks.words ≤ length c.table.cells.values.items
  words_fit c h =
      let all = (shape_laid c h.world h.parts).values in
      let behind = end_behind c.blocks.words c.blocks.blocks in
      omega (arith, all, behind)

  -- what the bases hold is within the limits
  held_within : LimitsLaw V → (c : Parts V) → HasWorld c → All IsWithinLimits (held_in c.table)
  held_within law c h =
      let w = h.world in
      let r = h.reached in
      let p = h.parts in
      let first = ap (λ (n : ℕ). take n c.table.cells.values.items) (sym p.laid.0) in
      let shown = tables.shows_state c.table w (take c.blocks.words c.table.cells.values.items) p.table p.shape
      (reached_linked h.opening w r).base.stripes first in
      subst (λ (hs : List (Held V)). All IsWithinLimits hs) (ap (λ (x : Contents V). x.held) shown)
      (subst (λ (z : World V). HoldsWithinLimits z) r.world
      (law r.blocks r.clock h.opening.words h.opening.held r.events r.stripes r.suits))

  pub never_too_long : LimitsLaw V → (c : Parts V) (e : Refusal) → HasWorld c → (e ≡ OutOfMemory → ⊥)
      → (e ≡ OutOfMemory) ⊎ ((e ≡ TooLong) × ((All IsWithinLimits (held_in c.table)) → ⊥)) → ⊥
  never_too_long law c e h other (inl is) = other is
  never_too_long law c e h other (inr beyond) = beyond.1 (held_within law c h)
