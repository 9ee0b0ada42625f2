-- What an event leaves of what a transaction has of collections, in every world that events have reached: what each function of the
-- definitions leaves, by the stage of the event's actor. A load of a call's location reads nothing of another collection, since the
-- locations that are left are in the call's own.
use Rattle.std.proofs.Common.{◌≡◌, ◌≢◌, ℕ, ◌+◌, ◌≤◌, [], ◌∷◌, Option, Some, None, inl, inr, refl, sym, ap, subst, ◌∙◌}
use Rattle.tx_machine.specs.Actor.{Actor}
use Rattle.tx_machine.specs.Opacity.{first_read}
use Rattle.seq_model.specs.declared.event.Event.{Event}
use Rattle.seq_model.specs.declared.event.Event.TheVariants.{Ask, Step, Starve}
use Rattle.replay_log.specs.Contents.{CallWithOutcome, CollectionCall, first_of, home_of}
use Rattle.replay_log.specs.WorldProgress.{whose}
use Rattle.replay_log.specs.Worlds.{World, Stage, After, Idle, Beginning, Open, Locking, Releasing, Closing, Cancelling, Leaving, Reading}
use Rattle.replay_log.specs.Worlds.{Trying, Copying, Loading, Gating, Ready, Storing, Homing, Returning, acted, actor_of, happens, moves}
use Rattle.replay_log.specs.Worlds.{opened, outcome_at, run}
use Rattle.replay_log.proofs.ContentLemmas.{home_is}
use Rattle.replay_log.proofs.EventLemmas.{happens_linked, opened_linked, run_linked}
use Rattle.replay_log.proofs.RequestLemmas.{run_by}
use Rattle.replay_log.proofs.SeatLemmas.{Linked}
use Rattle.actor_laws.proofs.Others.{others}
use Rattle.actor_parts.specs.Shows.{put_back}
use Rattle.actor_parts.specs.declared.copies.PrivateCopy.{PrivateCopy}
use Rattle.actor_parts.specs.CopyAtGate.{IsReadOf}
use Rattle.actor_parts.specs.CopiesAfterEvent.{EventStays, EventsStay, ReadsStay, StaysAsked, StaysOrJoins, Stays, StepStays, call_in}
use Rattle.actor_parts.proofs.LeftToReadLemmas.{HomedAt, IsHomed, homed_reached}
use Rattle.actor_parts.proofs.ReadLemmas.{reads_more}
use Rattle.actor_parts.proofs.ShadowAfterEventLemmas.{AskedBy, Either, SameIn, asked_by, starved}
use Rattle.actor_parts.proofs.ShadowAfterStepLemmas.{LoadBy, StepBy, step_by}
use Rattle.actor_parts.proofs.ShadowAfterActionLemmas.{SameReads}

module _ {V : Type 0} where
  -- ---- what the others have
  pub others_stay : (w : World V) (e : Event V) (a : ℕ) → a ≢ whose e → let v = (happens w e).0 in
      (v.seats a ≡ w.seats a) × (actor_of v a ≡ actor_of w a) × Stays w v a
  others_stay w e a other =
      let stands = others w e a other in (
        sym stands.seat,
        sym stands.boosted.actor,
        (
          record {
            words = sym stands.words;
            blocks = sym stands.blocks;
            reads = λ l m. ap (λ (y : Actor). first_read y.calls l) (sym stands.boosted.actor);
          },
          sym stands.boosted.shadow,
        ),
      )

  -- ---- by what the functions leave
  module _ (w : World V) (a : ℕ) (f : After V) (words : f.0.words ≡ w.words) (blocks : f.0.blocks ≡ w.blocks) where
    -- from a world of the same shape
    reads_of : (u : World V) → u.words ≡ w.words → u.blocks ≡ w.blocks → SameReads w.words (actor_of u a) (actor_of f.0 a)
        → ReadsStay u f.0 a
    reads_of u eu ebs h = record {
      words = words ∙ sym eu;
      blocks = blocks ∙ sym ebs;
      reads = λ l m. h l (subst (λ i. i ≤ l) eu m);
    }

    stays_of : SameIn w.words a w f.0 → Stays w f.0 a
    stays_of h = (reads_of w refl refl h.0, h.1)

    either_of : (u : World V) (o : CallWithOutcome V) → u.words ≡ w.words → u.blocks ≡ w.blocks → Either w.words a u o f
        → StaysOrJoins u a o f
    either_of u o eu ebs (inl h) = inl ((reads_of u eu ebs h.0.0, h.0.1), h.1)
    either_of u o eu ebs (inr h) = inr ((reads_of u eu ebs h.0.0, h.0.1), h.1)

    asked_of : (o : Option (CollectionCall V)) → AskedBy w.words a w o f → StaysAsked w a o f
    asked_of None h = stays_of h
    asked_of (Some asked) h = either_of w (outcome_at w a asked) refl refl h

    -- what a load leaves of another collection
    other_unread : (o : CallWithOutcome V) (l k : ℕ) (c : Option (PrivateCopy V)) → LoadBy w a o l f
        → home_of w.words w.blocks l ≡ o.asked.collection
        → k ≢ o.asked.collection → IsReadOf w a k c → IsReadOf (acted w (moves a ∷ [])) a k c
    other_unread o l k (Some c) h home other is = reads_more w (acted w (moves a ∷ [])) a k c refl refl h.reads.0 is
    other_unread o l k None h home other is =
        λ b there i lt. (
        let at = first_of w.words w.blocks k + i in
        let apart : at ≡ l → ⊥ = λ same. other (sym (home_is w.words w.blocks k i b there lt)
        ∙ (ap (home_of w.words w.blocks) same ∙ home)) in
        h.reads.1 at apart ∙ is b there i lt)

    step_of : (st : Stage V) → IsHomed w.words w.blocks st → StepBy w a st f → StepStays w a st f
    step_of Beginning homed h = tt
    step_of (Copying asked) homed h = (h.0, either_of (put_back a w asked) (outcome_at (put_back a w asked) a asked) refl refl h.1)
    step_of (Loading o []) homed h = absurd h
    step_of (Loading o (d ∷ es)) homed h = record {
      shadow = h.shadow;
      more = h.reads.0;
      others = λ k c other is. other_unread o d.0 k c h (homed d.0 (inl refl)) other is;
      after = either_of (acted w (moves a ∷ [])) o refl refl h.after;
    }
    step_of Idle homed h = stays_of h
    step_of Open homed h = stays_of h
    step_of Locking homed h = stays_of h
    step_of Releasing homed h = stays_of h
    step_of Closing homed h = stays_of h
    step_of Cancelling homed h = stays_of h
    step_of Leaving homed h = stays_of h
    step_of (Reading l) homed h = stays_of h
    step_of (Trying asked tries) homed h = stays_of h
    step_of (Gating got ks tries) homed h = stays_of h
    step_of (Ready ks) homed h = stays_of h
    step_of (Storing ks) homed h = stays_of h
    step_of (Homing ks) homed h = stays_of h
    step_of (Returning ks) homed h = stays_of h

  -- ---- events
  own_stays : (w : World V) (e : Event V) → Linked w → HomedAt w (whose e) → EventStays w e
  own_stays w (Ask a q) k homed =
      let shape = run_by (Ask a q ∷ []) w in
      asked_of w a (happens w (Ask a q)) shape.words shape.blocks (call_in q)
      (asked_by w a k (w.seats a) (w.seats a).stage q (k.seats a).gates (k.seats a).stage)
  own_stays w (Step a) k homed =
      let shape = run_by (Step a ∷ []) w in
      step_of w a (happens w (Step a)) shape.words shape.blocks (w.seats a).stage homed
      (step_by w a (w.seats a) k (w.seats a).stage (k.seats a).gates (k.seats a).stage (happens_linked w (Step a) k))
  own_stays w (Starve a) k homed =
      let shape = run_by (Starve a ∷ []) w in
      stays_of w a (happens w (Starve a)) shape.words shape.blocks (starved w.words w a (w.seats a) (w.seats a).stage)

  pub events_stay : EventsStay V
  events_stay blocks clock values held events e stripes =
      let o : World V = opened blocks clock values held in
      own_stays (run o events) e (run_linked events o (opened_linked blocks clock values held stripes))
      (homed_reached blocks clock values held events (whose e) stripes)
