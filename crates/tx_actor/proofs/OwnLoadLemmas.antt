-- What a load leaves a call's actor of collections. The step of the words leaves the shadow, has read one location more, and nothing of
-- another collection. Then the call is judged (`goes_own`): where it is accepted, each of its locations has been read
-- with the copied edition, so its copy is the actor's own, and follows with the outcome; where one is read next, those that are passed
-- have been read, and one with another edition is left.
use Rattle.std.proofs.Common.{◌≡◌, ◌≢◌, ◌==◌, ℕ, Bool, true, false, true≢false, eqb-true, eq-eqb, List, [], ◌∷◌, Option, Some, inl, inr}
use Rattle.std.proofs.Common.{refl, sym, ap, subst, ◌∙◌}
use Rattle.std.specs.Prelude.{slice_get}
use Rattle.std.specs.declared.alloc.Global.{Global}
use Rattle.std.specs.declared.collections.VecDeque.{VecDeque}
use Rattle.tx_sets.specs.Entries.{Entries}
use Rattle.tx_machine.specs.Actor as machine
use Rattle.tx_machine.specs.Actor.{Call}
use Rattle.tx_machine.specs.Notices as notice
use Rattle.tx_machine.specs.Opacity.{first_read}
use Rattle.seq_model.specs.declared.event.Answer.TheVariants.{Replied}
use Rattle.seq_model.specs.declared.event.Event.{Event}
use Rattle.seq_model.specs.declared.event.Event.TheVariants.{Step}
use Rattle.seq_model.specs.declared.held.Held.{Held}
use Rattle.seq_model.specs.declared.event.Notice.{Notice}
use Rattle.seq_model.specs.declared.event.Notice.TheVariants.{Quiet, Answered}
use Rattle.conflict.specs.declared.outcome.Outcome.{Outcome}
use Rattle.tx_machine.specs.Boosted.{longer}
use Rattle.replay_log.specs.Contents as contents
use Rattle.replay_log.specs.Contents.{Block, HaveStripes}
use Rattle.replay_log.specs.Worlds.{After, Loading, Seat, Stage, World, acted, actor_of, happens, moves, opened, run, word_notice}
use Rattle.step_core.specs.Shown as words
use Rattle.actor_parts.specs.Dispatch.{is_loading}
use Rattle.actor_parts.specs.Judged.{judged, left_after}
use Rattle.actor_parts.specs.declared.judged.Judged.{Judged}
use Rattle.actor_parts.specs.declared.judged.Judged.TheVariants.{All, Next, Stale}
use Rattle.actor_parts.specs.declared.copies.PrivateCopy.{PrivateCopy}
use Rattle.actor_parts.specs.declared.copies.CopyOfCollection.{CopyOfCollection}
use Rattle.actor_parts.specs.CopyAtGate.{IsReadBy, IsReadOf}
use Rattle.actor_parts.specs.PrivateCopy.{answer_of, answered_on}
use Rattle.actor_parts.specs.CopyInWorld.{IsOwnCopy}
use Rattle.actor_parts.specs.CopyList.{copy_of}
use Rattle.actor_parts.specs.LoadInWorld.{AreRead, IsDoomed, LoadsIn}
use Rattle.actor_parts.specs.Owns.{IsOwn}
use Rattle.actor_parts.specs.CopiesAfterEvent.{EventsStay, IsUnanswered, Joins, LoadStays, StaysOrJoins, StepStays}
use Rattle.actor_parts.proofs.LoadInWorldLemmas.{doomed_more, loads_reached}
use Rattle.actor_parts.proofs.OutcomeLemmas.{answered_op}
use Rattle.tx_actor.specs.declared.actor.CallWithOutcome as running
use Rattle.tx_actor.specs.declared.actor.Stage as own
use Rattle.tx_actor.specs.declared.actor.Stage.TheVariants as stage
use Rattle.tx_actor.specs.declared.actor.ActorNotice.{ActorNotice}
use Rattle.tx_actor.specs.declared.actor.ActorNotice.TheVariants as told
use Rattle.tx_actor.specs.declared.actor.TxActor.{TxActor}
use Rattle.tx_actor.specs.CopiesByStage.{HasAccepted, HasCopies, HasCopiesAt, HasFound, HasGone}
use Rattle.tx_actor.specs.CopiesByStage.{HasLoaded, IsAsBefore, OwnsAll, OwnsLoading}
use Rattle.tx_actor.specs.CopiesByStage.{ReadsOn}
use Rattle.tx_actor.specs.LoadInWorld.{OwnsCall}
use Rattle.tx_actor.specs.Running.{Runs, answered_of, notice_of, outcome_in, stage_in, stage_of, with_outcome}
use Rattle.tx_actor.specs.CopiesAfterStep.{LoadsStayOwn}
use Rattle.tx_actor.proofs.CopiesByStageLemmas.{still_after}
use Rattle.tx_actor.proofs.LoadInWorldLemmas.{may_answer, never}
use Rattle.tx_actor.proofs.CopyListLemmas.{owns_accepted}
use Rattle.tx_actor.proofs.RunsLemmas.{seat_stage}
use Rattle.tx_actor.proofs.StageLemmas.{StaysLaw, has_nothing, loading_moves}

-- what remains of a collection where an outcome joins the shadow
abbrev pub JoinsLaw : Type 0 → Type 0
JoinsLaw V =
    (w v : World V) (a k : ℕ) (o : contents.CallWithOutcome V) (c : Option (PrivateCopy V)) → Joins w v a o
    → (o.asked.collection ≢ k → IsOwn w a k c → IsOwn v a k c) × (IsReadOf w a k c → IsReadOf v a k c)

module _ {V : Type 0} where
  -- ---- what is answered
  quiet_stays : (z : World V) (a : ℕ) (p : contents.CallWithOutcome V) (f : After V) (t : ActorNotice V) → t ≡ told.Quiet
      → notice_of a t ≡ f.1
      → StaysOrJoins z a p f → StaysOrJoins z a p (f.0, Quiet)
  quiet_stays z a p f t quiet e h = subst (λ (n : Notice V). StaysOrJoins z a p (f.0, n)) (sym e ∙ ap (notice_of a) quiet) h

  -- ---- what the call has is the actor's own, where all of it has been read
  whole : (r : TxActor V) (z : World V) (a : ℕ) (o : running.CallWithOutcome V) (all : Entries) → OwnsLoading r z a o all
      → AreRead (actor_of z a).calls all → OwnsAll r z a
  whole r z a o all h are =
      let j = o.asked.collection in
      let cs = r.copies.items in
      let own : IsOwnCopy z a j h.call.block h.call.first h.call.copy = elim h.call.own [
        | inl is ↦ is
        | inr doomed ↦ absurd (never (actor_of z a).calls (actor_of z a).calls all (λ l e is. is) doomed are)
      ] in
      let here : IsOwn z a j (copy_of cs j) =
      subst (IsOwn z a j) (sym h.at) (h.call.block, subst (λ (f : ℕ). IsOwnCopy z a j h.call.block f h.call.copy) (sym own.first) own) in
      let read : IsReadOf z a j (copy_of cs j) =
      subst (IsReadOf z a j) (sym h.at)
      (subst (λ (f : ℕ). IsReadBy (first_read (actor_of z a).calls) f h.call.copy) (sym own.first)
      (h.read (actor_of z a).calls (λ l e is. is) are)) in
      let each : (k : ℕ) (b : Bool) → (j == k) ≡ b → IsOwn z a k (copy_of cs k) × IsReadOf z a k (copy_of cs k) = λ k b. elim b as
      (λ (q : Bool). (j == k) ≡ q → IsOwn z a k (copy_of cs k) × IsReadOf z a k (copy_of cs k)) [
        | true ↦ λ e. subst (λ m. IsOwn z a m (copy_of cs m) × IsReadOf z a m (copy_of cs m)) (eqb-true j k e) (here, read)
        | false ↦ λ e. h.others k (λ same. true≢false (sym (eq-eqb j k (sym same)) ∙ e))
      ] in
      record {
        own = record { stripes = h.stripes; own = λ k. (each k (j == k) refl).0; once = h.once };
        read = λ k. (each k (j == k) refl).1;
      }

  -- ---- what the call results in
  module _ (stays : StaysLaw V) (joins : JoinsLaw V) (z : World V) (a : ℕ) (r u : TxActor V) (t : ActorNotice V)
      (o : running.CallWithOutcome V)
      (p : contents.CallWithOutcome V) (es all : Entries) (f : After V) (h : OwnsLoading r z a o all)
      (doomed : IsDoomed (actor_of z a).calls all → IsDoomed (actor_of z a).calls (left_after r.words.reads.entries es))
      (passed : (cs : List Call) → ((l e : ℕ) → first_read (actor_of z a).calls l ≡ Some e → first_read cs l ≡ Some e)
      → AreRead cs (left_after r.words.reads.entries es) → AreRead cs all)
      (accepts : judged r.words.reads.entries es ≡ All → AreRead (actor_of z a).calls all × (p ≡ answered_of o))
      (before : actor_of z a ≡ words.actor_of r.words) (after : StaysOrJoins z a p f) (now : actor_of f.0 a ≡ words.actor_of u.words)
      (tells : notice_of a t ≡ f.1) where
    accepted : judged r.words.reads.entries es ≡ All → HasAccepted r u t o → HasCopies u f.0 a
    accepted is got = by after
      where
        j : ℕ
        j = o.asked.collection

        q : Outcome V
        q = h.call.answer

        have : OwnsAll r z a
        have = whole r z a o all h (accepts is).0

        same_op : q.op ≡ o.asked.op
        same_op = answered_op h.call.copy o.asked.op q h.call.call_on.answer

        outcome : p ≡ answered_on j q.op q
        outcome = (accepts is).1 ∙ (λ i. record {
          asked = record { collection = j; op = sym same_op i };
          outcome =
              h.call.call_on.outcome i;
        })

        of : (c : CopyOfCollection V) → slice_get r.copies.items o.place ≡ Some c → (c.collection ≡ j) × (answer_of c.copied q.op ≡ Some q)
        of c at =
            let g = got.own c at in
            let e : Some g.0 ≡ Some q = sym g.1 ∙ h.call.call_on.outcome in
            (g.2, ap (answer_of c.copied) same_op ∙ (g.3 ∙ e))

        by : StaysOrJoins z a p f → HasCopies u f.0 a
        by (inl st) =
            let n : notice_of a (told.Answered (Replied o.told)) ≡ f.1 = ap (notice_of a) (sym got.told) ∙ tells in
            absurd (subst IsUnanswered (sym n) st.1)
        by (inr st) =
            let law : (k : ℕ) (c : Option (PrivateCopy V)) → IsReadOf z a k c → IsReadOf f.0 a k c = λ k c. (joins z f.0 a k p c st.0).1 in
            let shadow = st.0.1 ∙ ap (longer (z.boosted.shadows a)) outcome in
            subst (HasCopiesAt u f.0 a) (sym got.stage) (record {
              own = owns_accepted z f.0 a j q r u o.place o.outcome (st.0.0.words, st.0.0.blocks, shadow) h.call.call_on.outcome got.at of
                  have.own;
              read = λ k. still_after All o r.copies.items u.copies.items got.at f.0 a k (law k (copy_of r.copies.items k) (have.read k));
            })

    reads_on : ReadsOn r u t o es → HasCopies u f.0 a
    reads_on got = by (quiet_stays z a p f t got.told tells after)
      where
        calls : (actor_of f.0 a).calls ≡ (actor_of z a).calls
        calls = ap (λ (y : machine.Actor). y.calls) now ∙ (got.calls ∙ ap (λ (y : machine.Actor). y.calls) (sym before))

        by : StaysOrJoins z a p (f.0, Quiet) → HasCopies u f.0 a
        by (inr st) = let e : Quiet ≡ Answered a (Replied _) = st.1 in let no : ⊥ = cc in absurd no
        by (inl st) =
            subst (HasCopiesAt u f.0 a) (sym got.stage)
            (loading_moves r u z f.0 a o all got.left.items got.copies st.0.0.words st.0.0.blocks st.0.1
            (λ l e is. ap (λ (ds : List Call). first_read ds l) calls ∙ is)
            (λ k c ne is. (stays z f.0 a k c st.0).1 is)
            (λ d. subst (λ (fs : Entries). IsDoomed (actor_of f.0 a).calls fs) (sym got.items)
            (subst (λ (ds : List Call). IsDoomed ds (left_after r.words.reads.entries es)) (sym calls) (doomed d)))
            (λ cs grows are. passed cs (λ l e is. grows l e (ap (λ (ds : List Call). first_read ds l) calls ∙ is))
            (subst (AreRead cs) got.items are)) h)

    goes_by : (j : Judged) → judged r.words.reads.entries es ≡ j → HasGone j r u t o es → HasCopies u f.0 a
    goes_by All is got = accepted is got
    goes_by (Next l) is got = reads_on got
    goes_by (Stale l b v) is got = has_nothing u f.0 a got

    pub goes_own : HasGone (judged r.words.reads.entries es) r u t o es → HasCopies u f.0 a
    goes_own got = goes_by (judged r.words.reads.entries es) refl got

  -- ---- the load
  module _ (stays : StaysLaw V) (joins : JoinsLaw V) (events_stay : EventsStay V) (blocks : List Block) (clock : ℕ) (values : List ℕ)
      (held : List (Held V)) (events : List (Event V)) (a : ℕ) (r u : TxActor V) (t : ActorNotice V) (stripes : HaveStripes blocks) where
    abbrev w : World V
    w = run (opened blocks clock values held) events

    abbrev z : World V
    z = acted w (moves a ∷ [])

    abbrev f : After V
    f = happens w (Step a)

    module _ (runs : Runs a r z) (runs_u : Runs a u f.0) (tells : notice_of a t ≡ f.1) where
      abbrev x : Option (Outcome V)
      x = outcome_in (w.seats a).stage

      there : (call : running.CallWithOutcome V) (left : VecDeque (ℕ × ℕ) Global) → r.stage ≡ stage.Loading call left
          → (w.seats a).stage ≡ Loading (with_outcome call x) left.items
      there call left is =
          ap (λ (q : Seat V). q.stage) runs.0 ∙ (seat_stage (z.seats a) r ∙ ap (stage_in (w.seats a).stage) is)

      module _ (call : running.CallWithOutcome V) (left : Entries) (st : (w.seats a).stage ≡ Loading (with_outcome call x) left)
          (h : OwnsLoading r w a call left) where
        load : LoadStays w a (with_outcome call x) f
        load = subst (λ (s : Stage V). StepStays w a s f) st (events_stay blocks clock values held events (Step a) stripes)

        moved : OwnsLoading r z a call left
        moved =
            loading_moves r r w z a call left left refl refl refl load.shadow load.more (λ k c ne is. load.others k c ne is)
            (doomed_more (actor_of w a).calls (actor_of z a).calls left load.more) (λ cs grows are. are) h

        as_before : u ≡ r → t ≡ told.Quiet → OwnsLoading r f.0 a call left
        as_before same quiet = by (quiet_stays z a (with_outcome call x) f t quiet tells load.after)
          where
            calls : (actor_of f.0 a).calls ≡ (actor_of z a).calls
            calls =
                ap (λ (y : machine.Actor). y.calls)
                (runs_u.1 ∙ (ap (λ (q : TxActor V). words.actor_of q.words) same ∙ sym runs.1))

            by : StaysOrJoins z a (with_outcome call x) (f.0, Quiet) → OwnsLoading r f.0 a call left
            by (inr got) = let e : Quiet ≡ Answered a (Replied _) = got.1 in let no : ⊥ = cc in absurd no
            by (inl got) =
                loading_moves r r z f.0 a call left left refl got.0.0.words got.0.0.blocks got.0.1
                (λ l e is. ap (λ (ds : List Call). first_read ds l) calls ∙ is) (λ k c ne is. (stays z f.0 a k c got.0).1 is)
                (λ d. subst (λ (ds : List Call). IsDoomed ds left) (sym calls) d) (λ cs grows are. are) moved

        -- the first location was read with its edition
        found : (d : ℕ × ℕ) (es : Entries) → left ≡ d ∷ es → word_notice w a ≡ notice.Number d.1
            → HasGone (judged r.words.reads.entries es) r u t call es → HasCopies u f.0 a
        found d es e n got =
            goes_own stays joins z a r u t call (with_outcome call x) es (d ∷ es) f (subst (OwnsLoading r z a call) e moved)
            (subst (λ (y : machine.Actor). IsDoomed (actor_of z a).calls (d ∷ es)
            → IsDoomed (actor_of z a).calls (left_after y.reads es)) runs.1 l.keeps)
            (subst (λ (y : machine.Actor). (cs : List Call)
            → ((i k : ℕ) → first_read (actor_of z a).calls i ≡ Some k → first_read cs i ≡ Some k)
            → AreRead cs (left_after y.reads es) → AreRead cs (d ∷ es)) runs.1 l.passed)
            (λ all. (
              (l.accepts (ap (λ (y : machine.Actor). judged y.reads es) runs.1 ∙ all)).2,
              ap (with_outcome call) ((may_answer w a r call x d es l (subst (OwnsCall w a call) e h.call) runs.1).accepts all).1,
            )) runs.1 load.after runs_u.1 tells got
          where
            l : LoadsIn w a (with_outcome call x) d es
            l =
                loads_reached blocks clock values held events a (with_outcome call x) d es stripes (st
                ∙ ap (Loading (with_outcome call x)) e) n

      stands : (call : running.CallWithOutcome V) (left : VecDeque (ℕ × ℕ) Global) → r.stage ≡ stage.Loading call left
          → OwnsLoading r w a call left.items → IsAsBefore r u t → HasCopies u f.0 a
      stands call left is h same =
          subst (λ (q : TxActor V). HasCopiesAt q f.0 a q.stage) (sym same.0)
          (subst (HasCopiesAt r f.0 a) (sym is) (as_before call left.items (there call left is) h same.0 same.1))

      judges : (call : running.CallWithOutcome V) (left : VecDeque (ℕ × ℕ) Global) (es : Entries) (v : ℕ)
          → r.stage ≡ stage.Loading call left
          → OwnsLoading r w a call left.items → left.items ≡ es → word_notice w a ≡ notice.Number v → HasFound r u t call es v
          → HasCopies u f.0 a
      judges call left [] v is h e n got = stands call left is h got
      judges call left (d ∷ es) v is h e n (inl got) =
          found call left.items (there call left is) h d es e (n ∙ ap notice.Number (sym got.0)) got.1
      judges call left (d ∷ es) v is h e n (inr got) = has_nothing u f.0 a got.1

      hears : (call : running.CallWithOutcome V) (left : VecDeque (ℕ × ℕ) Global) (n : notice.Notice) → r.stage ≡ stage.Loading call left
          → OwnsLoading r w a call left.items → word_notice w a ≡ n → HasLoaded r u t (stage.Loading call left) n → HasCopies u f.0 a
      hears call left (notice.Number v) is h e got = judges call left left.items v is h refl e got
      hears call left (notice.Moved l word) is h e (inl got) = has_nothing u f.0 a got
      hears call left (notice.Moved l word) is h e (inr got) = stands call left is h got
      hears call left n is h e got = stands call left is h got

      loads_at : (s : own.Stage V) → r.stage ≡ s → is_loading (stage_of s) ≡ true → HasCopiesAt r w a s
          → HasLoaded r u t s (word_notice w a) → HasCopies u f.0 a
      loads_at (stage.Loading call left) is e h got = hears call left (word_notice w a) is h refl got
      loads_at s is e h got = absurd (true≢false (sym e))

  pub loads_own : StaysLaw V → JoinsLaw V → EventsStay V → LoadsStayOwn V
  loads_own stays joins events_stay blocks clock values held events a r u t stripes loading runs copies loaded runs_u tells =
      loads_at stays joins events_stay blocks clock values held events a r u t stripes runs runs_u tells r.stage refl loading copies loaded
