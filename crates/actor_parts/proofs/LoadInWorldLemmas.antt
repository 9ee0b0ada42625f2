-- Where the last location of a call is read with the copied edition. What events keep of a world says that the call's outcome is what the
-- shadow answers, and the step leads where events lead, so the lemmas on what a judged call results in serve. Each location was read with
-- the copied edition first: the read set says so of one that keeps a read set, and a declared reader reads all from one memory
-- (`read_again`).
use Rattle.std.proofs.Common.{◌≡◌, ℕ, true, false, eqb, eq-eqb, ne_eqb, List, [], ◌∷◌, ◌++◌, Option, Some, None, inl, inr, refl, sym, ap}
use Rattle.std.proofs.Common.{subst, ◌∙◌, true≢false}
use Rattle.std.specs.Prelude.{unwrap_or}
use Rattle.std.proofs.lemmas.Bool.{cases_eq, cond-true, cond-false}
use Rattle.std.proofs.lemmas.Option.{same_Some}
use Rattle.tx_sets.specs.Entries.{Entries, lookup}
use Rattle.tx_machine.specs.Actor as machine
use Rattle.tx_machine.specs.Actor.{Actor, Call, Read, Write}
use Rattle.tx_machine.specs.Notices as told
use Rattle.tx_machine.specs.Opacity.{IsLegal, first_read}
use Rattle.tx_machine.specs.World as words
use Rattle.tx_machine.specs.World.{Memory, put}
use Rattle.tx_machine.proofs.Calls.{touched, first_read_is, first_read-more}
use Rattle.tx_machine.proofs.Invariant.{Saw}
use Rattle.tx_machine.proofs.Sets.{put-other}
use Rattle.seq_model.specs.declared.event.Event.{Event}
use Rattle.seq_model.specs.declared.event.Event.TheVariants.{Step}
use Rattle.seq_model.specs.declared.held.Held.{Held}
use Rattle.tx_machine.specs.Boosted.{Accept, changes}
use Rattle.replay_log.specs.Contents.{CallWithOutcome, Block, HaveStripes, content, is_plain}
use Rattle.replay_log.specs.Guards.{Allows}
use Rattle.replay_log.specs.Worlds.{World, Seat, Stage, Loading, After, acted, actor_of, has_loaded, moves, opened, outcome_at, run}
use Rattle.replay_log.specs.Worlds.{step_at, word_notice}
use Rattle.replay_log.proofs.ActionLemmas.{learns, mine}
use Rattle.replay_log.proofs.CallLemmas.{reading_none, reading_unwritten}
use Rattle.replay_log.proofs.EventLemmas.{opened_linked, run_linked}
use Rattle.replay_log.proofs.MixedLemmas.{Told, on_held}
use Rattle.replay_log.proofs.PlaceLemmas.{AfterRead, read_after, reading_quiet}
use Rattle.replay_log.proofs.ReadLemmas.{first_read-new, kept_at}
use Rattle.replay_log.proofs.SeatLemmas.{At, Copy, IsLeft, Kept, Left, Linked, StageOk, at_of}
use Rattle.replay_log.proofs.StageLemmas.{at_move}
use Rattle.actor_parts.specs.declared.judged.Judged.{Judged}
use Rattle.actor_parts.specs.declared.judged.Judged.TheVariants.{All, Next}
use Rattle.actor_parts.specs.Judged.{comes_to, judged, left_after}
use Rattle.actor_parts.specs.LoadInWorld.{AreRead, IsDoomed, LoadsIn, LoadsReached}
use Rattle.actor_parts.proofs.CallingLemmas.{not_read}
use Rattle.actor_parts.proofs.JudgedLemmas.{found_fresh}
use Rattle.actor_parts.proofs.ComesLemmas.{all_read, allowed, doomed_left, not_off, passed_read, unwritten}

-- ---- what was read
-- a location that was read twice, and not written, was read alike
last_read : (cs : List Call) (m : Memory) (l v : ℕ) → IsLegal m (cs ++ Read l v ∷ []) → touched cs l ≡ false → m l ≡ v
unfolding IsLegal
last_read [] m l v h un = h.0
last_read (Read i u ∷ cs) m l v h un = last_read cs m l v h.1 un
last_read (Write i u ∷ cs) m l v h un =
    elim (cases_eq l i) [
      | inl same ↦ absurd (true≢false (sym (cond-true (eqb l i) true (touched cs l) (eq-eqb l i same)) ∙ un))
      | inr ne ↦
          sym (put-other m i u l ne)
          ∙ last_read cs (put m i u) l v h (sym (cond-false (eqb l i) true (touched cs l) (ne_eqb l i ne)) ∙ un)
    ]

read_again : (s : words.World) (n : ℕ) (cs : List Call) (l v e : ℕ) → Saw s n (cs ++ Read l v ∷ []) → touched cs l ≡ false
    → first_read cs l ≡ Some e → e ≡ v
read_again s n cs l v e saw un first =
    let m : Memory = λ i. unwrap_or (lookup saw.reads i) 0 in
    let legal : IsLegal m (cs ++ Read l v ∷ []) = saw.legal m (λ i x is. ap (λ (o : Option ℕ). unwrap_or o 0) is) in
    sym (first_read_is (cs ++ Read l v ∷ []) m l e legal (first_read-more cs (Read l v ∷ []) l e first)) ∙ last_read cs m l v legal un

-- further calls leave what was read first
pub doomed_more : (cs ds : List Call) (es : Entries) → ((l e : ℕ) → first_read cs l ≡ Some e → first_read ds l ≡ Some e) → IsDoomed cs es
    → IsDoomed ds es
doomed_more cs ds [] more h = h
doomed_more cs ds (d ∷ es) more h =
    elim h [
      | inl q ↦ inl (q.0, more d.0 q.0 q.1, q.2)
      | inr rest ↦ inr (doomed_more cs ds es more rest)
    ]

module _ {V : Type 0} where
  -- what is left to be judged is in collections
  left_plain : (n : ℕ) (bs : List Block) (y : Actor) (z : Copy V) (es : Entries) → Left n bs y z es → (l : ℕ) → IsLeft l es
      → is_plain n bs l ≡ false
  left_plain n bs y z [] left l m = absurd m
  left_plain n bs y z (d ∷ es) left l m =
      elim m [ inl e ↦ ap (is_plain n bs) e ∙ left.0 | inr rest ↦ left_plain n bs y z es left.3 l rest ]

  -- ---- the load
  module _ (w : World V) (a : ℕ) (o : CallWithOutcome V) (d : ℕ × ℕ) (es : Entries) (k : Linked w)
      (st : (w.seats a).stage ≡ Loading o (d ∷ es))
      (n : word_notice w a ≡ told.Number d.1) where
    abbrev y : Actor
    y = actor_of w a

    abbrev z : Copy V
    z = w.boosted.shadows a

    abbrev u : World V
    u = acted w (moves a ∷ [])

    abbrev read : Actor
    read = machine.has_read y d.0 d.1

    ok : StageOk w.words w.blocks (w.seats a) y z (Loading o (d ∷ es)) y.place
    ok = subst (λ (s : Stage V). StageOk w.words w.blocks (w.seats a) y z s y.place) st (k.seats a).stage

    moved : At u a (learns w.boosted.words y (words.plan y y.place)) z (mine w.boosted a)
    moved = at_move w a y z (mine w.boosted a) y.place (at_of w a k) refl (reading_quiet d.0 y.place ok.0)

    after : learns w.boosted.words y (words.plan y y.place) ≡ read
    after = subst (AfterRead d.0 y (learns w.boosted.words y (words.plan y y.place))) n (read_after w.boosted.words y d.0 y.place ok.0)

    now : actor_of u a ≡ read
    now = moved.own.actor ∙ after

    untouched : touched y.calls d.0 ≡ false
    untouched =
        let own = k.base.inv.machine.actors a in
        own.sets.not_written d.0 (reading_unwritten w.boosted.words y d.0 y.place ok.0 own.place)

    unread : lookup y.reads d.0 ≡ None
    unread = reading_none w.boosted.words y d.0 y.place ok.0 (k.base.inv.machine.actors a).place

    kept : Kept w.words w.blocks read
    kept l pl = kept_at y.declared y.reads y.calls d.0 d.1 l (ok.1.kept l pl) (λ same. unread) (λ same new. untouched)

    first_is : first_read read.calls d.0 ≡ Some d.1
    first_is = at (first_read y.calls d.0) refl
      where
        at : (found : Option ℕ) → first_read y.calls d.0 ≡ found → first_read read.calls d.0 ≡ Some d.1
        at None is = first_read-new y.calls d.0 d.1 is untouched
        at (Some e) is =
            let saw = subst (λ (q : Actor). Saw u.boosted.words q.rv q.calls) now (moved.base.inv.machine.actors a).saw in
            first_read-more y.calls (Read d.0 d.1 ∷ []) d.0 e is
            ∙ ap Some (read_again u.boosted.words y.rv y.calls d.0 d.1 e saw untouched is)

    keeps_doomed : IsDoomed read.calls (d ∷ es) → IsDoomed read.calls (left_after read.reads es)
    keeps_doomed h =
        doomed_left w.words w.blocks read es kept (left_plain w.words w.blocks y z es ok.2.left.3) (not_off read.calls d es first_is h)

    are_read : judged read.reads es ≡ All → AreRead read.calls (d ∷ es)
    are_read all = (first_is, all_read w.words w.blocks read es kept (left_plain w.words w.blocks y z es ok.2.left.3) all)

    passed : (cs : List Call) → ((l e : ℕ) → first_read read.calls l ≡ Some e → first_read cs l ≡ Some e)
        → AreRead cs (left_after read.reads es) → AreRead cs (d ∷ es)
    passed cs more h =
        (more d.0 d.1 first_is, passed_read w.words w.blocks read cs es kept (left_plain w.words w.blocks y z es ok.2.left.3) more h)

    outcome_is : outcome_at u a o.asked ≡ o
    outcome_is =
        let c = content w.words w.blocks in
        ap (λ (q : Copy V). c.outcome (changes c q.outcomes q.parts) o.asked) moved.own.shadow ∙ sym ok.2.is

    -- what the step results in, where all is judged
    abbrev x : Seat V
    x = w.seats a

    linked : (j : Judged) → judged read.reads es ≡ j → Linked (comes_to u a x o (left_after read.reads es) j).0
    linked j is =
        subst (λ (p : After V). Linked p.0)
        (ap (λ (s : Stage V). step_at w a x s) st
        ∙ (ap (λ m. has_loaded u a x o d es m) n
        ∙ (found_fresh u a x o d es d.1 refl
        ∙ (ap (λ (q : Actor). comes_to u a x o (left_after q.reads es) (judged q.reads es)) now
        ∙ ap (λ (i : Judged). comes_to u a x o (left_after read.reads es) i) is))))
        (run_linked (Step a ∷ []) w k)

    accepts : judged read.reads es ≡ All → Allows (content u.words u.blocks) u.boosted (Accept a o.asked)
    accepts all =
        allowed u a x o (left_after read.reads es) (linked All all) ok.2.kind
        (subst (λ (q : Copy V). Told (on_held x.calls) q.outcomes) (sym moved.own.shadow) ok.1.tx.1.held)

    -- the location that is read next
    next_unwritten : (l : ℕ) → judged read.reads es ≡ Next l → lookup (actor_of u a).writes l ≡ None
    next_unwritten l next =
        unwritten u a x o (left_after read.reads es) l (linked (Next l) next) (ap (λ (q : Actor). q.place) now)

    pub loads_in : LoadsIn w a o d es
    loads_in = record {
      accepts = λ all.
          let is : judged read.reads es ≡ All = ap (λ (q : Actor). judged q.reads es) (sym now) ∙ all in
          (accepts is, outcome_is, subst (λ (q : Actor). AreRead q.calls (d ∷ es)) (sym now) (are_read is));
      reads = λ l next.
          let is : judged read.reads es ≡ Next l = ap (λ (q : Actor). judged q.reads es) (sym now) ∙ next in (
            ap (λ (q : Actor). q.place) now,
            next_unwritten l is,
            ap (λ (q : Actor). lookup q.reads l) now ∙ not_read read.reads es l is,
          );
      more = λ l e is. ap (λ (q : Actor). first_read q.calls l) now ∙ first_read-more y.calls (Read d.0 d.1 ∷ []) l e is;
      shadow = moved.own.shadow;
      keeps = subst (λ (q : Actor). IsDoomed q.calls (d ∷ es) → IsDoomed q.calls (left_after q.reads es)) (sym now) keeps_doomed;
      passed = subst (λ (q : Actor). (cs : List Call) → ((l e : ℕ) → first_read q.calls l ≡ Some e → first_read cs l ≡ Some e)
          → AreRead cs (left_after q.reads es) → AreRead cs (d ∷ es)) (sym now) passed;
    }

  pub loads_reached : LoadsReached V
  loads_reached blocks clock values held events a o d es stripes st n =
      let first : World V = opened blocks clock values held in
      loads_in (run first events) a o d es (run_linked events first (opened_linked blocks clock values held stripes)) st n

  -- a step of the load that answers nothing leaves the shadow and the calls
  pub rests_in : (blocks : List Block) (clock : ℕ) (values : List ℕ) (held : List (Held V)) (events : List (Event V)) (a : ℕ)
      (o : CallWithOutcome V) (d : ℕ × ℕ) (es : Entries) → HaveStripes blocks →
      let w = run (opened blocks clock values held) events in
      let u = acted w (moves a ∷ []) in
      (w.seats a).stage ≡ Loading o (d ∷ es) → word_notice w a ≡ told.Quiet →
      (u.boosted.shadows a ≡ w.boosted.shadows a) × ((actor_of u a).calls ≡ (actor_of w a).calls)
  rests_in blocks clock values held events a o d es stripes st n =
      let start : World V = opened blocks clock values held in
      let w = run start events in
      let k = run_linked events start (opened_linked blocks clock values held stripes) in
      let y = actor_of w a in
      let ok = subst (λ (s : Stage V). StageOk w.words w.blocks (w.seats a) y (w.boosted.shadows a) s y.place) st (k.seats a).stage in
      let moved = at_move w a y (w.boosted.shadows a) (mine w.boosted a) y.place (at_of w a k) refl (reading_quiet d.0 y.place ok.0) in
      let after = subst (AfterRead d.0 y (learns w.boosted.words y (words.plan y y.place))) n
      (read_after w.boosted.words y d.0 y.place ok.0) in
      (moved.own.shadow, ap (λ (q : Actor). q.calls) moved.own.actor ∙ after.1.calls)
