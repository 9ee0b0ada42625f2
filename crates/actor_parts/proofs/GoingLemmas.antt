-- What a call results in once it is copied. Where all its locations are judged, or one is to be read next, the copy is not stale, so the
-- locations that are to fit the sets are its own; the step leads where events lead, and the lemmas on what a judged call results in serve.
use Rattle.std.proofs.Common.{◌≡◌, ℕ, Bool, true, false, cond, eqb, not, ◌&&◌, List, Option, Some, None, [], ◌∷◌, refl, sym, ap, subst, ◌∙◌}
use Rattle.std.proofs.lemmas.Bool.{cond-true, cond_both}
use Rattle.tx_sets.specs.Entries.{Entries, lookup}
use Rattle.tx_machine.specs.Actor.{Actor, Call}
use Rattle.tx_machine.specs.Opacity.{first_read}
use Rattle.tx_machine.specs.World.{put}
use Rattle.tx_machine.proofs.Sets.{put-same}
use Rattle.seq_model.specs.declared.event.Event.TheVariants.{Step}
use Rattle.seq_model.specs.declared.event.Notice.TheVariants.{Refused}
use Rattle.seq_model.specs.declared.refusal.Refusal.TheVariants as refusal
use Rattle.tx_machine.specs.Boosted.{Boosted, PutGate, changes, copied, gated, is_actor, is_committing, is_open}
use Rattle.replay_log.specs.Base.{Shown}
use Rattle.replay_log.specs.Contents.{CallWithOutcome, CollectionCall, block_of, content, first_of, is_plain}
use Rattle.replay_log.specs.Pieces.{piece_at}
use Rattle.replay_log.specs.Worlds.{World, Seat, Stage, Open, Copying, After, acted, actor_of, at_stage, differs, has_room, is_stale}
use Rattle.replay_log.specs.Worlds.{opened, outcome_at, outcome_now, run, seated, step_at, with_editions, with_piece}
use Rattle.replay_log.proofs.CallLemmas.{known_some, reads_ok}
use Rattle.replay_log.proofs.EventLemmas.{opened_linked, run_linked}
use Rattle.replay_log.proofs.MixedLemmas.{Told, on_held}
use Rattle.replay_log.proofs.SeatLemmas.{Copy, IsLeft, Linked, StageOk}
use Rattle.actor_parts.specs.declared.judged.Judged.{Judged}
use Rattle.actor_parts.specs.declared.judged.Judged.TheVariants.{All, Next, Stale}
use Rattle.actor_parts.specs.Judged.{comes_to, judged, judged_one, left_after}
use Rattle.actor_parts.specs.Shows.{put_back}
use Rattle.actor_parts.proofs.ShowsLemmas.{copies_for_call}
use Rattle.actor_parts.specs.CopyAtGate.{CopiesGoOn, CopiesReached}
use Rattle.actor_parts.specs.LoadInWorld.{AreRead, IsDoomed}
use Rattle.actor_parts.proofs.ComesLemmas.{all_read, allowed, doomed_left, left_in, passed_read, unwritten}

-- ---- a copy that is not stale
abbrev pub GoesOn : Judged → Type 0
GoesOn All = Unit {0}
GoesOn (Next l) = Unit {0}
GoesOn (Stale l b v) = ⊥

fresh_one : (d : ℕ × ℕ) (rest : Judged) (others : Bool) (o : Option ℕ) → (GoesOn rest → others ≡ false) → GoesOn (judged_one d rest o)
    → differs d others o ≡ false
fresh_one d rest others None later h = refl
fresh_one d rest others (Some v) later h = by (eqb d.1 v) h
  where
    by : (b : Bool) → GoesOn (cond b rest (Stale d.0 d.1 v)) → cond b others true ≡ false
    by true g = later g
    by false g = absurd g

pub fresh : (reads es : Entries) → GoesOn (judged reads es) → is_stale reads es ≡ false
fresh reads [] h = refl
fresh reads (d ∷ es) h = fresh_one d (judged reads es) (is_stale reads es) (lookup reads d.0) (fresh reads es) h

module _ {V : Type 0} where
  -- the store of a gate leaves the outcomes of the shadows
  pub put_outcomes : (w : World V) (a k : ℕ) (which : ℕ → Bool)
      → ((acted w (PutGate a k which ∷ [])).boosted.shadows a).outcomes ≡ (w.boosted.shadows a).outcomes
  put_outcomes w a k which =
      let s = w.boosted in
      let old = (s.shadows a).outcomes in
      let now = copied (content w.words w.blocks) s (s.words.actors a).calls (s.shadows a) k which in
      let shadows = cond (is_open (s.words.actors a).place) (put s.shadows a now) s.shadows in
      cond_both (is_actor a (s.gates k) && not (is_committing (s.words.actors a).place)) (gated s (put s.gates k None) shadows) s
      (λ (t : Boosted (Shown V) (CallWithOutcome V)). (t.shadows a).outcomes ≡ old)
      (λ _. cond_both (is_open (s.words.actors a).place) (put s.shadows a now) s.shadows
      (λ (f : ℕ → Copy V). (f a).outcomes ≡ old) (λ _. ap (λ (z : Copy V). z.outcomes) (put-same s.shadows a now)) (λ _. refl))
      (λ _. refl)

  module _ (w : World V) (a : ℕ) (asked : CollectionCall V) (k : Linked w) (st : (w.seats a).stage ≡ Copying asked) where
    abbrev y : Actor
    y = actor_of w a

    abbrev u : World V
    u = put_back a w asked

    abbrev x : Seat V
    x = with_piece (w.seats a) asked.collection (piece_at w.blocks asked)

    abbrev o : CallWithOutcome V
    o = outcome_at u a asked

    abbrev reads : List ℕ
    reads = (content w.words w.blocks).reads o

    abbrev es : Entries
    es = with_editions w.boosted.editions reads

    abbrev room : CallWithOutcome V → Bool
    room p = has_room y ((content w.words w.blocks).reads p) ((content w.words w.blocks).writes p)

    ok : StageOk w.words w.blocks (w.seats a) y (w.boosted.shadows a) (Copying asked) y.place
    ok = subst (λ (s : Stage V). StageOk w.words w.blocks (w.seats a) y (w.boosted.shadows a) s y.place) st (k.seats a).stage

    now : actor_of u a ≡ y
    now = (copies_for_call a (w.seats a) y w asked (refl, refl)).0.1

    -- the step results in what is judged
    steps_to : (j : Judged) → room o ≡ true → judged y.reads es ≡ j → GoesOn j
        → step_at w a (w.seats a) (w.seats a).stage ≡ comes_to u a x o (left_after y.reads es) j
    steps_to j fits is on =
        let same : cond (is_stale y.reads es) (outcome_now u asked) o ≡ o =
        ap (λ b. cond b (outcome_now u asked) o) (fresh y.reads es (subst GoesOn (sym is) on)) in
        ap (λ (s : Stage V). step_at w a (w.seats a) s) st
        ∙ ((copies_for_call a (w.seats a) y w asked (refl, refl)).1
        ∙ (cond-true _ (comes_to u a x o (left_after y.reads es) (judged y.reads es))
        (seated u a (at_stage (w.seats a) Open), Refused a refusal.TooLong) (ap room same ∙ fits)
        ∙ ap (λ (i : Judged). comes_to u a x o (left_after y.reads es) i) is))

    linked : (j : Judged) → room o ≡ true → judged y.reads es ≡ j → GoesOn j → Linked (comes_to u a x o (left_after y.reads es) j).0
    linked j fits is on = subst (λ (p : After V). Linked p.0) (steps_to j fits is on) (run_linked (Step a ∷ []) w k)

    -- each location that the call reads is in its collection
    plain : (l : ℕ) → IsLeft l es → is_plain w.words w.blocks l ≡ false
    plain l m =
        let z = u.boosted.shadows a in
        let v = changes (content w.words w.blocks) z.outcomes z.parts in
        let r = known_some (block_of w.blocks asked.collection) (first_of w.words w.blocks asked.collection) v asked.op ok.2.1 in
        (reads_ok w.words w.blocks v asked r.0 l k.base.stripes r.1 (left_in w.boosted.editions reads l m)).plain

    goes_on : CopiesGoOn w a asked
    goes_on = record {
      rests = ok.0;
      known = ok.2.1;
      may = ok.2.2;
      accepts = λ fits all.
          let is : judged y.reads es ≡ All = ap (λ (q : Actor). judged q.reads es) (sym now) ∙ all in (
            allowed u a x o (left_after y.reads es) (linked All fits is tt) ok.2.0
                (subst (λ (os : List (CallWithOutcome V)). Told (on_held x.calls) os) (sym (put_outcomes w a asked.collection _))
                ok.1.tx.1.held),
            subst (λ (q : Actor). AreRead q.calls es) (sym now) (all_read w.words w.blocks y es ok.1.kept plain is),
          );
      reads = λ l fits next.
          let is : judged y.reads es ≡ Next l = ap (λ (q : Actor). judged q.reads es) (sym now) ∙ next in
          unwritten u a x o (left_after y.reads es) l (linked (Next l) fits is tt) (ap (λ (q : Actor). q.place) now ∙ ok.0);
      keeps = subst (λ (q : Actor). IsDoomed q.calls es → IsDoomed q.calls (left_after q.reads es)) (sym now)
          (doomed_left w.words w.blocks y es ok.1.kept plain);
      passed = subst (λ (q : Actor). (cs : List Call) → ((l e : ℕ) → first_read q.calls l ≡ Some e → first_read cs l ≡ Some e)
          → AreRead cs (left_after q.reads es) → AreRead cs es) (sym now) (λ cs. passed_read w.words w.blocks y cs es ok.1.kept plain);
    }

  pub copies_reached : CopiesReached V
  copies_reached blocks clock values held events a asked stripes st =
      let first : World V = opened blocks clock values held in
      goes_on (run first events) a asked (run_linked events first (opened_linked blocks clock values held stripes)) st
