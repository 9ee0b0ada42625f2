-- How often a gate was tried. Where a request tries a gate for the first time, 63 tries are left after it. A step that tries it in vain
-- leaves one less; no other step of the actor leads to a try, and what others do leaves its stage. So the steps of the actor before this
-- one, as many as are missing to 63, all tried this gate, and each found another's name in it; and whoever aborts for a busy gate has done
-- so 64 times.
use Rattle.std.proofs.Common.{◌≡◌, ◌≢◌, ℕ, suc, ◌+◌, true, false, cond, List, [], ◌∷◌, ◌++◌, Option, Some, None, inl, inr, refl, sym, ◌∙◌}
use Rattle.std.proofs.Common.{ap, subst, true≢false, eq-eqb, ne_eqb, arith}
use Rattle.std.proofs.lemmas.Bool.{cases_eq}
use Rattle.std.proofs.lemmas.List.{append-nil, append_assoc}
use Rattle.tx_machine.specs.Actor.{Place, Actor}
use Rattle.seq_model.specs.declared.event.Event.{Event}
use Rattle.seq_model.specs.declared.event.Event.TheVariants.{Ask, Step, Starve}
use Rattle.seq_model.specs.declared.refusal.Refusal.{Refusal}
use Rattle.seq_model.specs.declared.refusal.Refusal.TheVariants.{GateBusy}
use Rattle.tx_machine.specs.Content.{has}
use Rattle.tx_machine.specs.Boosted.{is_none}
use Rattle.replay_log.specs.Contents.{Block}
use Rattle.replay_log.specs.Worlds.{World, Seat, Stage, Trying, Gating, Storing, Homing, Releasing, is_half_done, happens, run, more_tries}
use Rattle.replay_log.specs.WorldProgress.{whose}
use Rattle.replay_log.specs.WorldRefusals.{IsLastTry, IsCause, is_ending}
use Rattle.replay_log.specs.WorldTries.{tried_at, IsVain, AllVain, steps_of, InVain}
use Rattle.replay_log.proofs.SeatLemmas.{Copy, gates_of, StageOk, Linked}
use Rattle.replay_log.proofs.EventLemmas.{happens_linked, run-append, run_linked}
use Rattle.replay_log.proofs.RequestLemmas.{happens_by}
use Rattle.replay_log.proofs.RefusalLemmas.{not_got, tried_in_vain, step_for}
use Rattle.replay_log.proofs.RecordLemmas.{IsAhead, Kept, IsTriedAgain, asked_kept, starved_kept, stepped_turns}

some_pair : (i j k n : ℕ) → ◌≡◌ {A = Option (ℕ × ℕ)} (Some (i, j)) (Some (k, n)) → (i ≡ k) × (j ≡ n)
some_pair i j k n e = (
  ap (λ (o : Option (ℕ × ℕ)). first o) e,
  ap (λ (o : Option (ℕ × ℕ)). second o) e,
)
  where
    first : Option (ℕ × ℕ) → ℕ
    first (Some p) = p.0
    first None = 0

    second : Option (ℕ × ℕ) → ℕ
    second (Some p) = p.1
    second None = 0

module _ {V : Type 0} where
  vain_more : (a k : ℕ) (es : List (Event V)) (e : Event V) (w : World V) → AllVain a k w es → IsVain a k (run w es) e
      → AllVain a k w (es ++ e ∷ [])
  vain_more a k [] e w h g = (g, tt)
  vain_more a k (d ∷ es) e w h g = (h.0, vain_more a k es e (happens w d).0 h.1 g)

  steps_more : (a : ℕ) (es : List (Event V)) (e : Event V) → steps_of a (es ++ e ∷ []) ≡ steps_of a es + steps_of a (e ∷ [])
  steps_more a [] e = omega arith
  steps_more a (Step b ∷ es) e = (let r = steps_more a es e in omega (arith, r))
  steps_more a (Ask b q ∷ es) e = steps_more a es e
  steps_more a (Starve b ∷ es) e = steps_more a es e

  -- ---- one event more
  longer : (w : World V) (es : List (Event V)) (e : Event V) (a k m : ℕ) → InVain w es a k m → IsVain a k (run w es) e
      → InVain w (es ++ e ∷ []) a k (m + steps_of a (e ∷ []))
  longer w es e a k m h g = record {
    before = h.before;
    last = h.last ++ e ∷ [];
    split = ap (λ (ds : List (Event V)). ds ++ e ∷ []) h.split ∙ append_assoc h.before h.last (e ∷ []);
    vain = vain_more a k h.last e (run w h.before) h.vain
        (subst (λ (u : World V). IsVain a k u e) (ap (run w) h.split ∙ run-append h.before h.last w) g);
    count = steps_more a h.last e ∙ ap (λ i. i + steps_of a (e ∷ [])) h.count;
  }

  none_yet : (w : World V) (es : List (Event V)) (a k : ℕ) → InVain w es a k 0
  none_yet w es a k = record { before = es; last = []; split = sym (append-nil es); vain = tt; count = refl }

  abbrev IsTried : World V → List (Event V) → (a k n : ℕ) → Type 0
  IsTried w es a k n = (m : ℕ) × (m + n ≡ more_tries) × InVain w es a k m

  abbrev Tried : World V → List (Event V) → ℕ → Stage V → Type 0
  Tried w es a st = (k n : ℕ) → tried_at st ≡ Some (k, n) → IsTried w es a k n

  still_tried : (w : World V) (es : List (Event V)) (e : Event V) (a : ℕ) (st : Stage V) → Tried w es a st
      → ((k : ℕ) → IsVain a k (run w es) e) → steps_of a (e ∷ []) ≡ 0
      → Tried w (es ++ e ∷ []) a st
  still_tried w es e a st h g none k n at =
      let t = h k n at in
      let i = t.1 in (t.0 + steps_of a (e ∷ []), omega (arith, i, none), longer w es e a k t.0 t.2 (g k))

  first_try : (w : World V) (es : List (Event V)) (a : ℕ) (st : Stage V) → IsAhead st → Tried w es a st
  first_try w es a (Trying asked tries) h k n at =
      (0, (let e = (some_pair asked.collection tries k n at).1 in omega (arith, e, h)), none_yet w es a k)
  first_try w es a (Gating got (i ∷ ks) tries) h k n at = (
    0,
    (let e = (some_pair i tries k n at).1 in omega (arith, e, h)),
    none_yet w es a k,
  )
  first_try w es a st h k n at = absurd (let b : ⊥ = cc in b)

  half_tries_none : (w : World V) (es : List (Event V)) (a : ℕ) (st : Stage V) → is_half_done st ≡ true → Tried w es a st
  half_tries_none w es a (Storing ks) h k n at = absurd (let b : ⊥ = cc in b)
  half_tries_none w es a (Homing ks) h k n at = absurd (let b : ⊥ = cc in b)
  half_tries_none w es a Releasing h k n at = absurd (let b : ⊥ = cc in b)
  half_tries_none w es a st h k n at = absurd (true≢false (sym h))

  -- ---- a try in vain
  abbrev WasTried : World V → Stage V → (k n : ℕ) → Type 0
  WasTried w st k n = (tried_at st ≡ Some (k, suc n)) × (is_none (w.boosted.gates k) ≡ false)

  was_tried : (w : World V) (st y : Stage V) (k n : ℕ) → IsTriedAgain w st y → tried_at y ≡ Some (k, n) → WasTried w st k n
  was_tried w (Trying asked (suc i)) y k n h at =
      let e = some_pair asked.collection i k n (ap tried_at (sym h.0) ∙ at) in
      let is = e.0 in
      let left = e.1 in (
        ap (λ j. Some (asked.collection, suc j)) left ∙ ap (λ j. Some (j, suc n)) is,
        subst (λ j. is_none (w.boosted.gates j) ≡ false) is h.1,
      )
  was_tried w (Gating got (j ∷ ks) (suc i)) y k n h at =
      let e = some_pair j i k n (ap tried_at (sym h.0) ∙ at) in
      let is = e.0 in
      let left = e.1 in
      (ap (λ q. Some (j, suc q)) left ∙ ap (λ q. Some (q, suc n)) is, subst (λ q. is_none (w.boosted.gates q) ≡ false) is h.1)
  was_tried w st y k n h at = absurd h

  not_held : (n : ℕ) (bs : List Block) (x : Seat V) (y : Actor) (z : Copy V) (st : Stage V) (p : Place) (k i : ℕ) → StageOk n bs x y z st p
      → tried_at st ≡ Some (k, i)
      → has (gates_of st) k ≡ false
  not_held n bs x y z (Trying asked tries) p k i h at = refl
  not_held n bs x y z (Gating got (j ∷ ks) tries) p k i h at =
      (let is = (some_pair j tries k i at).0 in subst (λ q. has got q ≡ false) is (not_got got j ks h.1.differ))
  not_held n bs x y z st p k i h at = absurd (let b : ⊥ = cc in b)

  abbrev IsAnothers : World V → (a k : ℕ) → Type 0
  IsAnothers w a k = (b : ℕ) × (w.boosted.gates k ≡ Some b) × (b ≢ a)

  anothers : (w : World V) (a k n : ℕ) → Linked w → WasTried w (w.seats a).stage k n → IsAnothers w a k
  anothers w a k n l h =
      let s = l.seats a in
      tried_in_vain w a k (s.gates k ∙ not_held w.words w.blocks (w.seats a) (w.boosted.words.actors a) (w.boosted.shadows a)
      (w.seats a).stage
      (w.boosted.words.actors a).place k (suc n) s.stage h.0) h.1

  one_step : (w : World V) (a : ℕ) → steps_of {V = V} a (Step a ∷ []) ≡ 1
  one_step w a = ap (λ b. cond b 1 0 + 0) (eq-eqb a a refl)

  step_more : (w : World V) (es : List (Event V)) (a k n m : ℕ) → tried_at ((run w es).seats a).stage ≡ Some (k, n)
      → IsAnothers (run w es) a k
      → InVain w es a k m
      → InVain w (es ++ Step a ∷ []) a k (m + 1)
  step_more w es a k n m at others h =
      subst (InVain w (es ++ Step a ∷ []) a k) (ap (λ i. m + i) (one_step w a))
      (longer w es (Step a) a k m h (λ _. ((n, at), others)))

  -- ---- events
  kept_tried : (w : World V) (es : List (Event V)) (e : Event V) (a : ℕ) (u : World V) → Kept a (run w es) u
      → Tried w es a ((run w es).seats a).stage
      → ((k : ℕ) → IsVain a k (run w es) e) → steps_of a (e ∷ []) ≡ 0
      → Tried w (es ++ e ∷ []) a (u.seats a).stage
  kept_tried w es e a u h old g none = elim h [
    | inl same ↦
        subst (λ (v : World V). Tried w (es ++ e ∷ []) a (v.seats a).stage) (sym same)
        (still_tried w es e a ((run w es).seats a).stage old g none)
    | inr begun ↦ first_try w (es ++ e ∷ []) a (u.seats a).stage begun.seat
  ]

  own_tried : (w : World V) (es : List (Event V)) (e : Event V) → Linked (run w es) → Tried w es (whose e)
      ((run w es).seats (whose e)).stage
      → Tried w (es ++ e ∷ []) (whose e) ((happens (run w es) e).0.seats (whose e)).stage
  own_tried w es (Ask a q) l old = kept_tried w es (Ask a q) a _ (asked_kept (run w es) a q) old (λ k. tt) refl
  own_tried w es (Starve a) l old = kept_tried w es (Starve a) a _ (starved_kept (run w es) a) old (λ k. tt) refl
  own_tried w es (Step a) l old =
      let v = run w es in
      let u = (happens v (Step a)).0 in
      elim (stepped_turns v a).seat [
        | inl begun ↦ first_try w (es ++ Step a ∷ []) a (u.seats a).stage begun
        | inr more ↦ elim more [
          | inl on ↦ half_tries_none w (es ++ Step a ∷ []) a (u.seats a).stage on.2
          | inr again ↦ λ k n at. (
              let h = was_tried v (v.seats a).stage (u.seats a).stage k n again at in
              let t = old k (suc n) h.0 in
              let i = t.1 in
              (t.0 + 1, omega (arith, i), step_more w es a k (suc n) t.0 h.0 (anothers v a k n l h) t.2)
              )
        ]
      ]

  not_a_step : (a k : ℕ) (w : World V) (e : Event V) → a ≢ whose e → IsVain a k w e
  not_a_step a k w (Step b) ne = λ is. absurd (ne (sym is))
  not_a_step a k w (Ask b q) ne = tt
  not_a_step a k w (Starve b) ne = tt

  no_steps : (a : ℕ) (e : Event V) → a ≢ whose e → steps_of a (e ∷ []) ≡ 0
  no_steps a (Step b) ne = ap (λ c. cond c 1 0 + 0) (ne_eqb b a (λ is. ne (sym is)))
  no_steps a (Ask b q) ne = refl
  no_steps a (Starve b) ne = refl

  event_tried : (w : World V) (es : List (Event V)) (e : Event V) (a : ℕ) → Linked (run w es) → Tried w es a ((run w es).seats a).stage
      → Tried w (es ++ e ∷ []) a ((happens (run w es) e).0.seats a).stage
  event_tried w es e a l old = elim (cases_eq a (whose e)) [
    | inl is ↦
        subst (λ b. Tried w (es ++ e ∷ []) b ((happens (run w es) e).0.seats b).stage) (sym is)
        (own_tried w es e l (subst (λ b. Tried w es b ((run w es).seats b).stage) is old))
    | inr ne ↦
        subst (λ (x : Seat V). Tried w (es ++ e ∷ []) a x.stage) (sym ((happens_by (run w es) e).seats a ne))
        (still_tried w es e a ((run w es).seats a).stage old (λ k. not_a_step a k (run w es) e ne) (no_steps a e ne))
  ]

  run_tried : (later es : List (Event V)) (w : World V) (a : ℕ) → Linked (run w es) → Tried w es a ((run w es).seats a).stage
      → Tried w (es ++ later) a ((run w (es ++ later)).seats a).stage
  run_tried [] es w a l old = subst (λ ds. Tried w ds a ((run w ds).seats a).stage) (sym (append-nil es)) old
  run_tried (e ∷ later) es w a l old =
      let is = run-append es (e ∷ []) w in
      subst (λ ds. Tried w ds a ((run w ds).seats a).stage) (append_assoc es (e ∷ []) later)
      (run_tried later (es ++ e ∷ []) w a (subst Linked (sym is) (happens_linked (run w es) e l))
      (subst (λ (u : World V). Tried w (es ++ e ∷ []) a (u.seats a).stage) (sym is) (event_tried w es e a l old)))

  -- from a world at which a tries no gate
  pub tried_before : (w : World V) (events : List (Event V)) (a k n : ℕ) → Linked w → tried_at (w.seats a).stage ≡ None
      → tried_at ((run w events).seats a).stage ≡ Some (k, n)
      → IsTried w events a k n
  tried_before w events a k n l none = run_tried events [] w a l (λ j i at. absurd (let e = sym none ∙ at in let b : ⊥ = cc in b)) k n

  last_try : (st : Stage V) (k : ℕ) → IsLastTry st k → tried_at st ≡ Some (k, 0)
  last_try (Trying asked tries) k h = ap (λ i. Some (asked.collection, i)) h.1 ∙ ap (λ i. Some (i, 0)) h.0
  last_try (Gating got (i ∷ ks) tries) k h = ap (λ j. Some (i, j)) h.1 ∙ ap (λ j. Some (j, 0)) h.0
  last_try st k h = absurd h

  pub tried_in_all : (w : World V) (events : List (Event V)) (a k : ℕ) → Linked w → tried_at (w.seats a).stage ≡ None
      → is_ending ((run w events).seats a).stage ≡ false
      → let u = (happens (run w events) (Step a)).0 in
      is_ending (u.seats a).stage ≡ true → (u.seats a).cause ≡ Some (GateBusy k) → InVain w (events ++ Step a ∷ []) a k 64
  tried_in_all w events a k l none going ends busy =
      let v = run w events in
      let u = (happens v (Step a)).0 in
      let lv = run_linked events w l in
      let st = (v.seats a).stage in
      let c = step_for v a (v.seats a) st lv refl refl going (lv.seats a).gates (lv.seats a).stage ends in
      let both : Some c.0 ≡ Some (GateBusy k) = sym c.1 ∙ busy in
      let is : c.0 ≡ GateBusy k = cc in
      let cause : IsCause v a st u (GateBusy k) = subst (λ (r : Refusal). IsCause v a st u r) is c.2 in
      let at = last_try st k cause.0 in
      let t = tried_before w events a k 0 l none at in
      let i = t.1 in
      subst (InVain w (events ++ Step a ∷ []) a k) (let e : t.0 + 1 ≡ 64 = omega (arith, i) in e)
      (step_more w events a k 0 t.0 at cause.1 t.2)
