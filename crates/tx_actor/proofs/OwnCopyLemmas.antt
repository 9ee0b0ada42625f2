-- What a call that is copied leaves its actor of collections. Once its gate is put back, what there was of the other collections is as it
-- was, and what was taken is the actor's own, or one of its locations was read with another edition (`taken_loading`): so the call stands
-- as one whose locations are read, and results in what it results in after a load. One that is TooLong leaves all (`too_long`).
use Rattle.std.proofs.Common.{◌≡◌, ◌≢◌, ◌==◌, ℕ, ◌++◌, Bool, true, false, true≢false, cond, eqb-true, eq-eqb, List, [], ◌∷◌, Option, Some}
use Rattle.std.proofs.Common.{None, inl, inr, refl, sym, ap, subst, ◌∙◌}
use Rattle.std.proofs.lemmas.Bool.{cond-true, cond-false}
use Rattle.tx_sets.specs.Entries.{Entries}
use Rattle.tx_machine.specs.Actor as machine
use Rattle.tx_machine.specs.Actor.{Call}
use Rattle.tx_machine.specs.Opacity.{first_read}
use Rattle.seq_model.specs.declared.event.Answer.TheVariants.{Replied}
use Rattle.seq_model.specs.declared.event.Event.TheVariants.{Step}
use Rattle.seq_model.specs.declared.event.Notice.TheVariants.{Answered, Refused}
use Rattle.seq_model.specs.declared.refusal.Refusal.TheVariants as refusal
use Rattle.conflict.specs.declared.outcome.Outcome.{Outcome}
use Rattle.replay_log.specs.declared.base.Base.{Base}
use Rattle.replay_log.specs.Contents as contents
use Rattle.replay_log.specs.Contents.{Block, block_of, content, first_of}
use Rattle.replay_log.specs.Worlds as worlds
use Rattle.replay_log.specs.Worlds.{After, Seat, World, actor_of, happens, opened, outcome_at, run, with_editions}
use Rattle.step_core.specs.Shown as words
use Rattle.actor_parts.specs.Blocks.{BlocksView, IsLaid}
use Rattle.actor_parts.specs.Judged.{judged, left_after}
use Rattle.actor_parts.specs.Shows.{put_back}
use Rattle.actor_parts.specs.declared.copies.PrivateCopy.{PrivateCopy}
use Rattle.actor_parts.specs.declared.copies.CopyOfCollection.{CopyOfCollection}
use Rattle.actor_parts.specs.declared.copies.BaseExcerpt.{BaseExcerpt}
use Rattle.actor_parts.specs.CopyAtGate.{IsCopyFor, IsReadOf}
use Rattle.actor_parts.specs.PrivateCopy.{IsFound, IsKept}
use Rattle.actor_parts.specs.Footprints.{reads_in, with_known, writes_in}
use Rattle.actor_parts.specs.CopyInWorld.{IsOwnCopy}
use Rattle.actor_parts.specs.CopyList.{copy_of}
use Rattle.actor_parts.specs.LoadInWorld.{AreRead, IsDoomed}
use Rattle.actor_parts.specs.Owns.{AreOnce, IsOwn}
use Rattle.actor_parts.specs.PutBack.{KeepsCopies}
use Rattle.actor_parts.specs.CopiesAfterEvent.{EventsStay, StaysOrJoins, StepStays}
use Rattle.actor_parts.specs.Taking.{IsPutAt, copy_with}
use Rattle.actor_parts.specs.Writes.{with_next}
use Rattle.actor_parts.proofs.AlikeLemmas.{kept_answers, kept_copy, kept_holds, kept_once, kept_own, read_kept, read_of_kept, writes_kept}
use Rattle.actor_parts.proofs.TakeBackLemmas.{at_place, taken_copies}
use Rattle.tx_actor.specs.declared.actor.CollectionCall.{CollectionCall}
use Rattle.tx_actor.specs.declared.actor.Stage as own
use Rattle.tx_actor.specs.declared.actor.Stage.TheVariants as stage
use Rattle.tx_actor.specs.declared.actor.ActorNotice.{ActorNotice}
use Rattle.tx_actor.specs.declared.actor.ActorNotice.TheVariants as told
use Rattle.tx_actor.specs.declared.actor.TxActor.{TxActor}
use Rattle.tx_actor.specs.declared.prepares.Prepared.{Prepared}
use Rattle.tx_actor.specs.Copying.{CanCopy, HasTaken, IsReadyAt, MayCopy}
use Rattle.tx_actor.specs.CopiesByStage.{HasCopies, HasCopiesAt, HasGone, OwnsAll, OwnsLoading}
use Rattle.tx_actor.specs.Prepares.{prepared_of}
use Rattle.tx_actor.specs.Running.{Runs, asked_of, at, notice_of, stage_in}
use Rattle.tx_actor.specs.CopiesAfterStep.{CopiesStayOwn}
use Rattle.tx_actor.proofs.CopyAtGateLemmas.{accepts_all, back_words, copied, left_same, now_words}
use Rattle.tx_actor.proofs.OwnLoadLemmas.{JoinsLaw, goes_own}
use Rattle.tx_actor.proofs.CopyListLemmas.{once_set}
use Rattle.tx_actor.proofs.PreparesLemmas.{there_kept}
use Rattle.tx_actor.proofs.RunsLemmas.{seat_stage}
use Rattle.tx_actor.proofs.StageLemmas.{StaysLaw, whole_stays}
use Rattle.actor_parts.proofs.PrivateCopyLemmas.{apart}

-- what remains once the gate of a call is put back
abbrev pub BackLaw : Type 0 → Type 0
BackLaw V =
    (w : World V) (a k : ℕ) (asked : contents.CollectionCall V) (c : Option (PrivateCopy V))
    → (k ≢ asked.collection → IsOwn w a k c → IsOwn (put_back a w asked) a k c)
    × (IsReadOf w a k c → IsReadOf (put_back a w asked) a k c)

module _ {V : Type 0} where
  -- ---- each collection stands once
  apart_from : (b : Bool) (j k : ℕ) (c : PrivateCopy V) (o : Option (PrivateCopy V)) → (j == k) ≡ b → cond b (Some c) o ≡ None
      → (k ≢ j) × (o ≡ None)
  apart_from true j k c o is e = let h : ⊥ = cc in absurd h
  apart_from false j k c o is e = (λ same. true≢false (sym (eq-eqb j k (sym same)) ∙ is), e)

  none_if : (b : Bool) (c : PrivateCopy V) (o p : Option (PrivateCopy V)) → (o ≡ None → p ≡ None) → cond b (Some c) o ≡ None
      → cond b (Some c) p ≡ None
  none_if true c o p rest e = let h : ⊥ = cc in absurd h
  none_if false c o p rest e = rest e

  none_behind : (cs : List (CopyOfCollection V)) (c : CopyOfCollection V) (k : ℕ) → k ≢ c.collection → copy_of cs k ≡ None
      → copy_of (cs ++ c ∷ []) k ≡ None
  none_behind [] c k other e =
      cond-false (k == c.collection) (Some c.copied) None (apart k c.collection other (k == c.collection) refl)
  none_behind (x ∷ cs) c k other e =
      none_if (k == x.collection) x.copied (copy_of cs k) (copy_of (cs ++ c ∷ []) k) (none_behind cs c k other) e

  once_behind : (cs : List (CopyOfCollection V)) (c : CopyOfCollection V) → copy_of cs c.collection ≡ None → AreOnce cs
      → AreOnce (cs ++ c ∷ [])
  once_behind [] c none once = (refl, tt)
  once_behind (d ∷ cs) c none once =
      let z = apart_from (c.collection == d.collection) c.collection d.collection d.copied (copy_of cs c.collection) refl none in
      (none_behind cs c d.collection z.0 once.0, once_behind cs c z.1 once.1)

  once_put : (k : ℕ) (c : PrivateCopy V) (i : ℕ) (before now : List (CopyOfCollection V)) (o : Option (PrivateCopy V))
      → copy_of before k ≡ o
      → IsPutAt k c i before now o → AreOnce before → AreOnce now
  once_put k c i before now None is put once = subst AreOnce (sym put.1) (once_behind before (copy_with k c) is once)
  once_put k c i before now (Some d) is put once =
      let there = at_place before i put.0.0 in
      subst AreOnce (sym put.1) (once_set before i there.0 (copy_with k c) once there.1 (sym (put.0.2 there.0 there.1)))

  -- ---- what was taken
  module _ (stays : StaysLaw V) (joins : JoinsLaw V) (back : BackLaw V) (v : BlocksView) (w : World V) (a : ℕ) (r u n : TxActor V)
      (t : ActorNotice V)
      (base : Base V) (asked : CollectionCall V) (b : Block) (found : BaseExcerpt V) (i : ℕ) (x : Prepared V) (laid : IsLaid v w)
      (can : CanCopy v r base asked)
      (s : Runs a (at r (stage.Copying asked)) w) (may : MayCopy v w a (at r (stage.Copying asked)) base asked)
      (there : block_of v.blocks asked.collection ≡ Some b) (is : IsFound base asked.op found)
      (ready : IsReadyAt r u b.stripes (first_of v.words v.blocks asked.collection) found asked i x)
      (all : OwnsAll r w a) where
    abbrev k : ℕ
    k = asked.collection

    abbrev z : World V
    z = put_back a w (asked_of asked)

    abbrev f : ℕ
    f = first_of w.words w.blocks k

    abbrev d : PrivateCopy V
    d = ready.at.copy

    abbrev p : Prepared V
    p = prepared_of x asked i

    abbrev o : Outcome V
    o = ready.ready.outcome

    abbrev taken : IsCopyFor w a b (asked_of asked) d
    taken = copied v w a r u base asked b found i x laid can s may there is ready

    back_to : actor_of z a ≡ actor_of w a
    back_to = back_words v w a r u base asked b found i x laid can s may there is ready

    now_is : actor_of z a ≡ words.actor_of u.words
    now_is = back_to ∙ now_words v w a r u base asked b found i x laid can s may there is ready

    first_is : first_of v.words v.blocks k ≡ f
    first_is = λ j. first_of (sym laid.0 j) (sym laid.1 j) k

    left_is : p.left.items ≡ with_known d f (reads_in d o)
    left_is = ready.ready.left ∙ (λ j. with_known d (first_is j) (reads_in d o))

    -- the copy of the call's collection, with what is ready in it
    kept : (e : PrivateCopy V) × (copy_of u.copies.items k ≡ Some e) × IsKept d e
    kept =
        there_kept (record r { copies = ready.copies }) u k d ready.alike
        (taken_copies b.stripes k i found r.copies.items ready.copies.items ready.at k
        ∙ cond-true (k == k) (Some d) (copy_of r.copies.items k) (eq-eqb k k refl))

    own_kept : IsOwnCopy z a k b f d → IsOwnCopy z a k b f kept.0
    own_kept own =
        let mine = kept_own z a k (Some d) (Some kept.0) kept.2 (b, own) in
        let same : mine.0 ≡ b = let e : Some mine.0 ≡ Some b = sym mine.1.block ∙ own.block in cc in
        subst (λ (c : Block). IsOwnCopy z a k c f kept.0) same mine.1

    other_copies : (j : ℕ) → j ≢ k → IsOwn z a j (copy_of u.copies.items j) × IsReadOf z a j (copy_of u.copies.items j)
    other_copies j ne =
        let same : copy_of ready.copies.items j ≡ copy_of r.copies.items j =
        taken_copies b.stripes k i found r.copies.items ready.copies.items ready.at j
        ∙ cond-false (j == k) (Some d) (copy_of r.copies.items j) (apart j k ne (j == k) refl) in
        let keep = kept_copy ready.copies.items u.copies.items j ready.alike.copies in
        let law = back w a j (asked_of asked) (copy_of r.copies.items j) in (
          kept_own z a j (copy_of ready.copies.items j) (copy_of u.copies.items j) keep
              (subst (IsOwn z a j) (sym same) (law.0 ne (all.own.own j))),
          read_of_kept z a j (copy_of ready.copies.items j) (copy_of u.copies.items j) keep
              (subst (IsReadOf z a j) (sym same) (law.1 (all.read j))),
        )

    taken_loading : OwnsLoading u z a p.call p.left.items
    taken_loading = record {
      stripes = all.own.stripes;
      once = kept_once ready.copies.items u.copies.items ready.alike.copies
          (once_put k d i r.copies.items ready.copies.items (copy_of r.copies.items k) refl ready.at.put all.own.once);
      others = other_copies;
      call = record {
        block = b;
        first = f;
        copy = kept.0;
        answer = o;
        call_on = record {
          outcome = ready.ready.is;
          holds = kept_holds d kept.0 asked.op kept.2 ∙ taken.holds;
          answer = kept_answers d kept.0 asked.op kept.2 ∙ ready.ready.answer;
          writes = ready.ready.writes
              ∙ ((λ j. with_next d (first_is j) (writes_in d o)) ∙ sym (writes_kept d kept.0 f o kept.2));
        };
        own = elim taken.own [
          | inl own ↦ inl (own_kept own)
          | inr doomed ↦ inr (subst (IsDoomed (actor_of z a).calls) (sym left_is) (doomed o ready.ready.answer))
        ];
      };
      at = kept.1;
      read = λ cs more are. read_kept (first_read cs) f d kept.0 kept.2
          (taken.read cs o (λ l e h. more l e (ap (λ (y : machine.Actor). first_read y.calls l) back_to ∙ h)) ready.ready.answer
          (subst (AreRead cs) left_is are));
    }

    left_read : p.left.items ≡ with_editions w.boosted.editions ((content w.words w.blocks).reads (outcome_at z a (asked_of asked)))
    left_read = left_same v w a r u base asked b found i x laid can s may there is ready

    doomed_on : IsDoomed (actor_of z a).calls p.left.items → IsDoomed (actor_of z a).calls (left_after u.words.reads.entries p.left.items)
    doomed_on =
        subst (λ (y : machine.Actor). IsDoomed (actor_of z a).calls p.left.items
        → IsDoomed (actor_of z a).calls (left_after y.reads p.left.items)) now_is
        (subst (λ (es : Entries). IsDoomed (actor_of z a).calls es → IsDoomed (actor_of z a).calls (left_after (actor_of z a).reads es))
        (sym left_read) may.goes_on.keeps)

    passed_on : (cs : List Call) → ((l e : ℕ) → first_read (actor_of z a).calls l ≡ Some e → first_read cs l ≡ Some e)
        → AreRead cs (left_after u.words.reads.entries p.left.items) → AreRead cs p.left.items
    passed_on cs more =
        subst (λ (y : machine.Actor). AreRead cs (left_after y.reads p.left.items) → AreRead cs p.left.items) now_is
        (subst (λ (es : Entries). AreRead cs (left_after (actor_of z a).reads es) → AreRead cs es) (sym left_read)
        (may.goes_on.passed cs more))

    copied_goes : (g : After V) → StaysOrJoins z a (outcome_at z a (asked_of asked)) g
        → HasGone (judged u.words.reads.entries p.left.items) u n t p.call p.left.items → actor_of g.0 a ≡ words.actor_of n.words
        → notice_of a t ≡ g.1 → HasCopies n g.0 a
    copied_goes g after got now tells =
        goes_own stays joins z a u n t p.call (outcome_at z a (asked_of asked)) p.left.items p.left.items g taken_loading doomed_on
        passed_on (accepts_all v w a r u base asked b found i x laid can s may there is ready) now_is after now tells got

  -- ---- the law
  pub can_at : (v : BlocksView) (r : TxActor V) (base : Base V) (asked : CollectionCall V) (s : own.Stage V) → CanCopy v r base asked
      → CanCopy v (at r s) base asked
  can_at v r base asked s c = record {
    rests = c.rests;
    may = c.may;
    blocks = c.blocks;
    block = c.block;
    there = c.there;
    among = c.among;
    stripes = c.stripes;
    is = c.is;
    known = c.known;
    unheld = c.unheld;
    holds = c.holds;
  }

  all_at : (r : TxActor V) (w : World V) (a : ℕ) (s : own.Stage V) → OwnsAll r w a → OwnsAll (at r s) w a
  all_at r w a s h = record { own = record { stripes = h.own.stripes; own = h.own.own; once = h.own.once }; read = h.read }

  pub copies_own : StaysLaw V → JoinsLaw V → BackLaw V → EventsStay V → KeepsCopies V → CopiesStayOwn V
  copies_own stays joins back events_stay keep blocks clock values held events a v r u t base asked stripes st laid runs can shows
      all may got
      runs_u tells = by got
    where
      w : World V
      w = run (opened blocks clock values held) events

      z : World V
      z = put_back a w (asked_of asked)

      f : After V
      f = happens w (Step a)

      there : (w.seats a).stage ≡ worlds.Copying (asked_of asked)
      there = ap (λ (q : Seat V). q.stage) runs.0 ∙ (seat_stage (w.seats a) r ∙ ap (stage_in (w.seats a).stage) st)

      after : StaysOrJoins z a (outcome_at z a (asked_of asked)) f
      after =
          (subst (λ (s : worlds.Stage V). StepStays w a s f) there (events_stay blocks clock values held events (Step a) stripes)).1

      -- what there was remains, once the gate is put back
      all_back : OwnsAll r z a
      all_back =
          let k = asked.collection in
          let here = keep blocks clock values held events a can.block (asked_of asked) base (copy_of r.copies.items k) stripes there
          (ap (λ (bs : List Block). block_of bs k) laid.1 ∙ can.there) can.is shows (all.own.own k) (all.read k) can.unheld in
          let each : (j : ℕ) (b : Bool) → (k == j) ≡ b → IsOwn z a j (copy_of r.copies.items j)
          × IsReadOf z a j (copy_of r.copies.items j) =
          λ j b. elim b as (λ (q : Bool). (k == j) ≡ q → IsOwn z a j (copy_of r.copies.items j)
          × IsReadOf z a j (copy_of r.copies.items j)) [
            | true ↦ λ e. subst (λ m. IsOwn z a m (copy_of r.copies.items m) × IsReadOf z a m (copy_of r.copies.items m))
                (eqb-true k j e) here
            | false ↦ λ e. (
                let law = back w a j (asked_of asked) (copy_of r.copies.items j) in
                (law.0 (λ same. true≢false (sym (eq-eqb k j (sym same)) ∙ e)) (all.own.own j), law.1 (all.read j)))
          ] in
          record {
            own = record { stripes = all.own.stripes; own = λ j. (each j (k == j) refl).0; once = all.own.once };
            read = λ j. (each j (k == j) refl).1;
          }

      too_long : u.stage ≡ stage.Open → u.copies.items ≡ r.copies.items → t ≡ told.Refused refusal.TooLong
          → StaysOrJoins z a (outcome_at z a (asked_of asked)) f → HasCopies u f.0 a
      too_long rests same is (inl h) =
          subst (HasCopiesAt u f.0 a) (sym rests) (whole_stays stays r u z f.0 a same h.0 all_back)
      too_long rests same is (inr h) =
          let e : Refused a refusal.TooLong ≡ Answered a (Replied _) = ap (notice_of a) (sym is) ∙ (tells ∙ h.1) in
          let no : ⊥ = cc in absurd no

      by : HasTaken v (at r stage.Idle) u t base asked → HasCopies u f.0 a
      by (inl h) = too_long h.0 h.1 h.2 after
      by (inr h) =
          copied_goes stays joins back v w a (at r stage.Idle) h.middle u t base asked h.block h.found h.at h.call laid
          (can_at v r base asked stage.Idle can) (subst (λ (s : own.Stage V). Runs a (at r s) w) st runs)
          (subst (λ (s : own.Stage V). MayCopy v w a (at r s) base asked) st may) h.there h.is h.ready
          (all_at r w a stage.Idle all) f after h.goes runs_u.1 tells
