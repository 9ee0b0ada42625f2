-- What each base holds is within the limits, by induction over the machine's actions. An action that puts no base back leaves all bases as
-- they are. One that puts the base of a collection back frees its gate, so no half-done commit has it, and the base has what the history
-- leaves: a state that sequential calls lead to, whose collections are within the limits.
use Rattle.std.proofs.Common.{◌≡◌, ℕ, zero, suc, ◌+◌, ◌<◌, ◌≤◌, Bool, true, false, cond, ◌&&◌, ◌==◌, List, [], ◌∷◌, Option, Some, None}
use Rattle.std.proofs.Common.{length, get_or, inl, inr, refl, sym, ap, ◌∙◌, subst, arith}
use Rattle.std.specs.Prelude.{not, nat_lt, slice_index_or, ◌||◌, ◌==◌}
use Rattle.std.proofs.lemmas.Bool.{cases_Bool, cases_eq, cond-true, cond-false}
use Rattle.std.proofs.lemmas.Bool.Decides.{nat_tests}
use Rattle.tx_machine.specs.Requests.{Request, AskWrite, AskStore, AskRelease}
use Rattle.tx_machine.specs.World.{Ask, Step, StepEnd, GoesOn, Commits, Aborts, step_end, put, step, run as word_run}
use Rattle.tx_machine.proofs.Sets.{put-same}
use Rattle.tx_machine.specs.Content.{Content, Frame}
use Rattle.tx_machine.specs.Boosted.{Action, Boosted, OnWords, TakeGate, PutGate, Accept, GoHome, act_all, acts, changes, homed}
use Rattle.tx_machine.specs.Boosted.{every, is_actor, is_committing, is_held, is_given, is_none, is_open, is_sound, is_stored}
use Rattle.tx_machine.specs.Boosted.{gated, longer, may_write, on_ask, opens, recorded, requested, shadows_after, shadows_copied}
use Rattle.tx_machine.specs.Boosted.{writes_asked}
use Rattle.tx_machine.specs.Serial.{views}
use Rattle.tx_machine.proofs.BoostedInvariant.{IsHome}
use Rattle.tx_machine.proofs.Models.{fits_all, run_of}
use Rattle.tx_machine.proofs.BoostedSchedules.{all-opening, all_ok}
use Rattle.tx_machine.proofs.SequentialRuns.{Opened, opened, reached}
use Rattle.seq_model.specs.Calls.{IsWithinLimits}
use Rattle.seq_model.specs.Contents.{Contents}
use Rattle.seq_model.specs.declared.event.Event.{Event}
use Rattle.seq_model.specs.declared.held.Held.{Held}
use Rattle.seq_model.proofs.LogicLemmas.{lt-nat_lt, le-nat_lt}
use Rattle.replay_log.specs.Base.{Shown, held_of}
use Rattle.replay_log.specs.Collections.{Suit, shown_at}
use Rattle.replay_log.specs.Contents.{CallWithOutcome, CollectionCall, Block, HaveStripes, content, end_of, home_of, is_plain, seen, size}
use Rattle.replay_log.specs.WorldTraces.{held_from}
use Rattle.replay_log.specs.Worlds as worlds
use Rattle.replay_log.specs.Worlds.{World, run, state}
use Rattle.replay_log.proofs.CollectionLemmas.{collections}
use Rattle.replay_log.proofs.CollectionRuns.{after_run, sequential}
use Rattle.replay_log.proofs.ContentLemmas.{content_frame, end_above}
use Rattle.replay_log.proofs.PartLemmas.{whole_local}
use Rattle.replay_log.proofs.RequestLemmas.{actions_of, run_by}
use Rattle.replay_log.proofs.TraceLemmas.{shows_state}
use Rattle.actor_laws.specs.Limits.{HoldsWithinLimits}

-- it holds of each of these
abbrev Each : {X : Type 0} → (X → Type 0) → List X → Type 0
Each P [] = Unit {0}
Each P (x ∷ xs) = P x × Each P xs

each_all : {X : Type 0} (P : X → Type 0) (xs : List X) → Each P xs → (i : ℕ) (d : X) → i < length xs → P (slice_index_or xs i d)
each_all P [] h i d lt = absurd (omega (arith, lt))
each_all P (x ∷ xs) h zero d lt = h.0
each_all P (x ∷ xs) h (suc i) d lt = each_all P xs h.1 i d (omega (arith, lt))

apart : (i j : ℕ) → (i ≡ j → ⊥) → (i == j) ≡ false
apart i j ne = grind (arith, nat_tests)

head_home : (f : ℕ) (b : Block) (bs : List Block) (l : ℕ) → l < f + size b → home_of f (b ∷ bs) l ≡ 0
head_home f b bs l lt = cond-true (nat_lt l (f + size b)) 0 (suc (home_of (f + size b) bs l)) (lt-nat_lt l (f + size b) lt)

tail_home : (f : ℕ) (b : Block) (bs : List Block) (l : ℕ) → f + size b ≤ l → home_of f (b ∷ bs) l ≡ suc (home_of (f + size b) bs l)
tail_home f b bs l ge = cond-false (nat_lt l (f + size b)) 0 (suc (home_of (f + size b) bs l)) (le-nat_lt l (f + size b) ge)

abbrev State : Type 0 → Type 0
State V = Boosted (Shown V) (CallWithOutcome V)

module _ {V : Type 0} where
  -- ---- which actions leave the bases
  on_requested : (s : State V) (b : Bool) (a : ℕ) (q : Request) → (cond b (requested s a q) s).parts ≡ s.parts
  on_requested s true a q = refl
  on_requested s false a q = refl

  ask_leaves : (c : Content (Shown V) (CollectionCall V) (CallWithOutcome V)) (s : State V) (a : ℕ) (q : Request)
      → (on_ask c s a q).parts ≡ s.parts
  ask_leaves c s a (AskWrite l v) = on_requested s (c.plain l) a (AskWrite l v)
  ask_leaves c s a AskStore = on_requested s (every (is_held c s a) _) a AskStore
  ask_leaves c s a AskRelease = on_requested s (every (is_given c s a) _) a AskRelease
  ask_leaves c s a q = refl

  recorded_leaves : (s : State V) (os : List (CallWithOutcome V)) (o : StepEnd) → (recorded s os o).parts ≡ s.parts
  recorded_leaves s os GoesOn = refl
  recorded_leaves s os (Commits r) = refl
  recorded_leaves s os (Aborts e) = refl

  choose_leaves : (b : Bool) (s u : State V) → u.parts ≡ s.parts → (cond b u s).parts ≡ s.parts
  choose_leaves true s u e = e
  choose_leaves false s u e = refl

  accept_leaves : (c : Content (Shown V) (CollectionCall V) (CallWithOutcome V)) (s : State V) (a : ℕ) (op : CollectionCall V)
      → (acts c s (Accept a op)).parts ≡ s.parts
  accept_leaves c s a op =
      let x = s.words.actors a in
      let o = c.outcome (changes c (s.shadows a).outcomes (s.shadows a).parts) op in
      choose_leaves (is_open x.place && (may_write x.declared (c.writes o) && every (is_sound c s a) (c.reads o))) s
      (record s {
        words = word_run (writes_asked a (s.shadows a).editions (c.writes o)) s.words;
        shadows = put s.shadows a (longer (s.shadows a) o);
      }) refl

  -- ---- what a state shows is within the limits
  suit_each : (bs : List Block) (hs : List (Held V)) → Suit bs hs → Each IsWithinLimits hs
  suit_each [] [] h = tt
  suit_each [] (x ∷ hs) h = absurd h
  suit_each (b ∷ bs) [] h = absurd h
  suit_each (b ∷ bs) (x ∷ hs) h = (h.1, suit_each bs hs h.2)

  -- so is each collection on these blocks, the first of them at f, of this view
  abbrev Limited : ℕ → List Block → (ℕ → Shown V) → Type 0
  Limited f bs v = Each IsWithinLimits (held_from f bs v)

  shown_limited : (bs : List Block) → HaveStripes bs → (values : List ℕ) (hs : List (Held V)) → Suit bs hs
      → Limited (length values) bs (shown_at (length values) bs hs)
  shown_limited bs stripes values hs suit =
      let w : World V = worlds.opened bs 0 values hs in
      let s : Contents V = record { words = values; held = hs } in
      let is : state w ≡ s =
      shows_state w s stripes (record { count = refl; words = λ l lt. refl; suit = suit; held = λ l pl. refl }) in
      subst (λ (gs : List (Held V)). Each IsWithinLimits gs) (sym (ap (λ (x : Contents V). x.held) is)) (suit_each bs hs suit)

  -- ---- a view that is t on one collection, and v on all others
  seen_same : (f : ℕ) (b : Block) (u v : ℕ → Shown V) → 0 < b.stripes → ((l : ℕ) → f ≤ l → l < f + size b → u l ≡ v l)
      → IsWithinLimits (held_of (seen b f v)) → IsWithinLimits (held_of (seen b f u))
  seen_same f b u v pos same h =
      subst (λ (x : Shown V). IsWithinLimits (held_of x))
      (sym (whole_local b.stripes b.kind (λ i. u (f + i)) (λ i. v (f + i)) pos
      (λ i lt. same (f + i) (omega arith) (omega (arith, lt))))) h

  mixed : (f j k : ℕ) (bs : List Block) (u v t : ℕ → Shown V) → HaveStripes bs
      → ((l : ℕ) → f ≤ l → l < end_of f bs → j + home_of f bs l ≡ k → u l ≡ t l)
      → ((l : ℕ) → f ≤ l → l < end_of f bs → (j + home_of f bs l ≡ k → ⊥) → u l ≡ v l)
      → Limited f bs v → Limited f bs t → Limited f bs u
  mixed f j k [] u v t pos same left h g = tt
  mixed f j k (b ∷ bs) u v t pos same left h g = (
    elim (cases_eq j k) [
      | inl is ↦ seen_same f b u t pos.0
          (λ l ge lt. same l ge (omega (arith, lt, end_above (f + size b) bs))
          (let first = head_home f b bs l lt in omega (arith, is, first))) g.0
      | inr isnt ↦ seen_same f b u v pos.0
          (λ l ge lt. left l ge (omega (arith, lt, end_above (f + size b) bs))
          (λ e. let first = head_home f b bs l lt in isnt (omega (arith, e, first)))) h.0
    ],
    mixed (f + size b) (suc j) k bs u v t pos.1
        (λ l ge lt at. same l (omega (arith, ge)) lt (let next = tail_home f b bs l ge in omega (arith, at, next)))
        (λ l ge lt isnt. left l (omega (arith, ge)) lt (λ e. let next = tail_home f b bs l ge in isnt (omega (arith, e, next))))
        h.1 g.1,
  )

  -- ---- the actions, from an opening on
  module _ (bs : List Block) (stripes : HaveStripes bs) (values : List ℕ) (hs : List (Held V)) (suit : Suit bs hs) where
    abbrev n : ℕ
    n = length values

    abbrev c : Content (Shown V) (CollectionCall V) (CallWithOutcome V)
    c = content n bs

    frame : Frame c
    frame = content_frame {V = V} n bs stripes

    abbrev IsOpened : State V → Type 0
    IsOpened s = Opened c (shown_at n bs hs) s

    opened_on : (s : State V) (e : Action (CollectionCall V)) → IsOpened s → IsOpened (acts c s e)
    opened_on s e o =
        opened c frame (shown_at n bs hs) (acts c s e) (all_ok c frame (e ∷ []) s o.inv)
        ((all-opening c frame (e ∷ []) s o.inv).0 ∙ o.opening)

    -- a base that no half-done commit has is what the history leaves
    home_shows : (s : State V) (l : ℕ) → IsOpened s → is_plain n bs l ≡ false → IsHome c s l
        → s.parts l ≡ shown_at n bs (after_run hs s.history) l
    home_shows s l o pl home =
        sym (o.inv.at_home l pl home).0 ∙ ap (λ (z : ℕ → Shown V). views c s.history z l) o.opening
        ∙ (run_of c frame sequential (Suit bs) (collections V n bs stripes) s.history (shown_at n bs hs) hs suit (λ i. refl) o.runs).1 l

    left_suits : (s : State V) → Suit bs (after_run hs s.history)
    left_suits s = fits_all c frame sequential (Suit bs) (collections V n bs stripes) s.history hs suit

    none_some : (o : Option ℕ) (b : ℕ) → o ≡ None → o ≡ Some b → ⊥
    none_some o b e g = let z : None ≡ Some b = sym e ∙ g in let y : ⊥ = cc in y

    frees : (s : State V) (a k l : ℕ) → home_of n bs l ≡ k → IsHome c (homed c s a k) l
    frees s a k l at b half g =
        absurd (none_some (put s.gates k None (home_of n bs l)) b (ap (put s.gates k None) at ∙ put-same s.gates k None) g)

    in_blocks : (l : ℕ) → n ≤ l → l < end_of n bs → is_plain n bs l ≡ false
    in_blocks l ge lt =
        ap (λ (b : Bool). b || not (nat_lt l (end_of n bs))) (le-nat_lt l n ge) ∙ ap (λ (b : Bool). not b) (lt-nat_lt l (end_of n bs) lt)

    homed_limited : (s : State V) (a k : ℕ) → IsOpened (homed c s a k) → Limited n bs s.parts → Limited n bs (homed c s a k).parts
    homed_limited s a k o h =
        let u = homed c s a k in
        mixed n 0 k bs u.parts s.parts (shown_at n bs (after_run hs u.history)) stripes
        (λ l ge lt at. home_shows u l o (in_blocks l ge lt) (frees s a k l (omega (arith, at))))
        (λ l ge lt isnt. cond-false (home_of n bs l == k) (changes c (s.shadows a).outcomes s.parts l) (s.parts l)
        (apart (home_of n bs l) k (λ e. isnt (omega (arith, e)))))
        h (shown_limited bs stripes values (after_run hs u.history) (left_suits u))

    kept : (s u : State V) → u.parts ≡ s.parts → Limited n bs s.parts → Limited n bs u.parts
    kept s u e h = subst (λ (v : ℕ → Shown V). Limited n bs v) (sym e) h

    step_limited : (s : State V) (e : Action (CollectionCall V)) → IsOpened s → Limited n bs s.parts → Limited n bs (acts c s e).parts
    step_limited s (OnWords (Ask a q)) o h = kept s (acts c s (OnWords (Ask a q))) (ask_leaves c s a q) h
    step_limited s (OnWords (Step a)) o h =
        let x = s.words.actors a in
        kept s (acts c s (OnWords (Step a)))
        (recorded_leaves (record s { words = step s.words a x x.place; shadows = shadows_after s a x.place }) (s.shadows a).outcomes
        (step_end a x x.place)) h
    step_limited s (TakeGate a k) o h =
        kept s (acts c s (TakeGate a k))
        (choose_leaves (is_none (s.gates k) && not (is_committing (s.words.actors a).place)) s
        (gated s (put s.gates k (Some a)) s.shadows) refl) h
    step_limited s (PutGate a k which) o h =
        kept s (acts c s (PutGate a k which))
        (choose_leaves (is_actor a (s.gates k) && not (is_committing (s.words.actors a).place)) s
        (gated s (put s.gates k None) (shadows_copied c s a k which)) refl) h
    step_limited s (Accept a op) o h = kept s (acts c s (Accept a op)) (accept_leaves c s a op) h
    step_limited s (GoHome a k) o h =
        let b = is_actor a (s.gates k) && is_stored (s.words.actors a).place in
        elim (cases_Bool b) [
          | inl is ↦
              (let same : acts c s (GoHome a k) ≡ homed c s a k = cond-true b (homed c s a k) s is in
              subst (λ (u : State V). Limited n bs u.parts) (sym same)
              (homed_limited s a k (subst IsOpened same (opened_on s (GoHome a k) o)) h))
          | inr isnt ↦ subst (λ (u : State V). Limited n bs u.parts) (sym (cond-false b (homed c s a k) s isnt)) h
        ]

    all_limited : (es : List (Action (CollectionCall V))) (s : State V) → IsOpened s → Limited n bs s.parts
        → Limited n bs (act_all c es s).parts
    all_limited [] s o h = h
    all_limited (e ∷ es) s o h = all_limited es (acts c s e) (opened_on s e o) (step_limited s e o h)

  pub within_limits : (bs : List Block) → HaveStripes bs → (clock : ℕ) (values : List ℕ) (hs : List (Held V)) → Suit bs hs
      → (events : List (Event V)) → HoldsWithinLimits (run (worlds.opened bs clock values hs) events)
  within_limits bs stripes clock values hs suit events =
      let start = worlds.opened bs clock values hs in
      let w = run start events in
      let r = run_by events start in
      let z = actions_of bs clock values hs events in
      let n = length values in
      let first = opens clock (λ l. get_or values l 0) (shown_at n bs hs) in
      let ended = all_limited bs stripes values hs suit z.0 first
      (reached (content n bs) (content_frame n bs stripes) clock (λ l. get_or values l 0) (shown_at n bs hs) [])
      (shown_limited bs stripes values hs suit) in
      each_all IsWithinLimits (state w).held
      (subst (λ (i : ℕ). Limited i w.blocks w.boosted.parts) (sym r.words)
      (subst (λ (cs : List Block). Limited n cs w.boosted.parts) (sym r.blocks)
      (subst (λ (s : State V). Limited n bs s.parts) (sym z.1) ended)))
