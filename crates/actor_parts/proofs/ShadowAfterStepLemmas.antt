-- What a step of an actor leaves of its shadow and of what it has read first, stage by stage: one lemma for each function of the
-- definitions to which a step leads. The places of a stage begin no transaction, and end no read but that of the stage.
use Rattle.std.proofs.Common.{◌≡◌, ℕ, zero, suc, Bool, true, false, cond, List, [], ◌∷◌, ◌++◌, Some, inl, refl, sym, ap, subst, ◌∙◌, eqb}
use Rattle.tx_sets.specs.Entries.{Entries}
use Rattle.tx_machine.specs.Actor as machine
use Rattle.tx_machine.specs.Actor.{Actor, Call, Place, Read}
use Rattle.tx_machine.specs.Notices as told
use Rattle.tx_machine.specs.Opacity.{first_read}
use Rattle.tx_machine.specs.Requests as word
use Rattle.tx_machine.specs.World.{World as Words, plan}
use Rattle.tx_machine.proofs.Calls.{first_read-more}
use Rattle.seq_model.specs.declared.refusal.Refusal.TheVariants as refusal
use Rattle.tx_machine.specs.Content.{has}
use Rattle.tx_machine.specs.Boosted.{GoHome, PutGate, TakeGate, changes, is_none}
use Rattle.replay_log.specs.Contents.{CallWithOutcome, CollectionCall, content}
use Rattle.replay_log.specs.Pieces.{covers_at, piece_at}
use Rattle.replay_log.specs.Worlds.{World, Seat, Stage, Idle, Beginning, Open, Locking, Releasing, Closing, Cancelling, Leaving, Reading}
use Rattle.replay_log.specs.Worlds.{Trying, Copying, Loading, Gating, Ready, Storing, Homing, Returning, After, acted, actor_of, asks}
use Rattle.replay_log.specs.Worlds.{because, gives_up, goes_home, has_cancelled, has_loaded, has_locked, has_read, has_released, has_stored}
use Rattle.replay_log.specs.Worlds.{has_tried, loads, moves, outcome_at, recorded, sized_by, step_at, takes_gates, with_piece, word_notice}
use Rattle.replay_log.proofs.ActionLemmas.{learns, mine}
use Rattle.replay_log.proofs.MixedLemmas.{Told, on_held}
use Rattle.replay_log.proofs.PlaceLemmas.{AfterRead, IsQuiet, read_after, reading_quiet}
use Rattle.replay_log.proofs.SeatLemmas.{At, AtLocking, AtStoring, Copy, Linked, StageOk, at_of, gates_of}
use Rattle.replay_log.proofs.ReadLemmas.{first_read-other}
use Rattle.replay_log.proofs.SetLemmas.{put_words}
use Rattle.replay_log.proofs.StageLemmas.{at_move, first_stored}
use Rattle.actor_parts.specs.Shows.{put_back}
use Rattle.actor_parts.proofs.GoingLemmas.{put_outcomes}
use Rattle.actor_parts.proofs.ShadowAfterEventLemmas.{Either, SameIn, answers_come, ask_stays, gives_up_either, gives_up_stays, loads_come}
use Rattle.actor_parts.proofs.ShadowAfterActionLemmas.{IsNoBegin, IsStill, back_same, home_same, is_other}
use Rattle.actor_parts.proofs.ShadowAfterActionLemmas.{moved_same, moved_to, same, same_calls}
use Rattle.actor_parts.proofs.ShadowAfterActionLemmas.{taken_same}

-- ---- places
quiet_no_begin : (p : Place) → IsQuiet p → IsNoBegin p
quiet_no_begin machine.Begin h = h
quiet_no_begin p h = tt

locking_still : (p : Place) → AtLocking p → IsStill p
locking_still (machine.Lock ls) h = tt
locking_still (machine.Take l k ls) h = tt
locking_still (machine.Check (l ∷ ls)) h = tt
locking_still p h = absurd h

storing_still : (p : Place) → AtStoring p → IsStill p
storing_still (machine.Store (l ∷ ls)) h = tt
storing_still p h = absurd h

-- ---- reads
abbrev pub GoesOnReading : Actor → Actor → ℕ → Type 0
GoesOnReading y z l =
    ((i e : ℕ) → first_read y.calls i ≡ Some e → first_read z.calls i ≡ Some e)
    × ((i : ℕ) → (i ≡ l → ⊥) → first_read z.calls i ≡ first_read y.calls i)

no_more : (y z : Actor) (l : ℕ) → z.calls ≡ y.calls → GoesOnReading y z l
no_more y z l e =
    let each : (i : ℕ) → first_read z.calls i ≡ first_read y.calls i = λ i. ap (λ (cs : List Call). first_read cs i) e in
    (λ i v is. each i ∙ is, λ i other. each i)

-- a step of a read leaves what was read of other locations, and what was read first
after_read : (y z : Actor) (l : ℕ) (m : told.Notice) → AfterRead l y z m → GoesOnReading y z l
after_read y z l told.Quiet h = no_more y z l h.1.calls
after_read y z l (told.Number v) h =
    subst (λ (x : Actor). GoesOnReading y x l) (sym h) (
      λ i e is. first_read-more y.calls (Read l v ∷ []) i e is,
      λ i other. first_read-other y.calls l v i other,
    )
after_read y z l (told.Moved i w) h = no_more y z l (ap (λ (x : Actor). x.calls) h)
after_read y z l m h = absurd h

module _ {V : Type 0} where
  -- ---- what a step answers
  read_stays : (n : ℕ) (v u : World V) (a : ℕ) (x : Seat V) (l : ℕ) (m : told.Notice) → SameIn n a v u
      → SameIn n a v (has_read u a x l m).0
  read_stays n v u a x l (told.Number i) h = h
  read_stays n v u a x l (told.Moved i w) h = gives_up_stays n v u a (because x (refusal.Moved i w)) [] h
  read_stays n v u a x l m h = h

  tried_stays : (n : ℕ) (v u : World V) (a : ℕ) (x : Seat V) (free : Bool) (k : ℕ) (got : List ℕ) (again : ℕ → Stage V) (next : Stage V)
      (tries : ℕ) → SameIn n a v u → SameIn n a v (has_tried u a x free k got again next tries).0
  tried_stays n v u a x true k got again next tries h = h
  tried_stays n v u a x false k got again next zero h = gives_up_stays n v u a (because x (refusal.GateBusy k)) got h
  tried_stays n v u a x false k got again next (suc i) h = h

  locked_stays : (n : ℕ) (v u : World V) (a : ℕ) (x : Seat V) (m : told.Notice) → SameIn n a v u → SameIn n a v (has_locked u a x m).0
  locked_stays n v u a x (told.LockedAt wv) h = h
  locked_stays n v u a x (told.Busy l w) h = gives_up_stays n v u a (because x (refusal.Busy l w)) [] h
  locked_stays n v u a x (told.Invalid l w) h = gives_up_stays n v u a (because x (refusal.Invalid l w)) [] h
  locked_stays n v u a x m h = h

  goes_home_stays : (n : ℕ) (v u : World V) (a : ℕ) (x : Seat V) (ks : List ℕ) → SameIn n a v u → SameIn n a v (goes_home u a x ks).0
  goes_home_stays n v u a x [] h = ask_stays n v u a word.AskRelease tt h
  goes_home_stays n v u a x (k ∷ ks) h = h

  stored_stays : (n : ℕ) (v u : World V) (a : ℕ) (x : Seat V) (ks : List ℕ) (m : told.Notice) → SameIn n a v u
      → SameIn n a v (has_stored u a x ks m).0
  stored_stays n v u a x ks told.Stored h = goes_home_stays n v u a x ks h
  stored_stays n v u a x ks m h = h

  released_stays : (n : ℕ) (v u : World V) (a : ℕ) (x : Seat V) (m : told.Notice) → SameIn n a v u → SameIn n a v (has_released u a x m).0
  released_stays n v u a x told.Released h = h
  released_stays n v u a x m h = h

  cancelled_stays : (n : ℕ) (v u : World V) (a : ℕ) (x : Seat V) (m : told.Notice) → SameIn n a v u
      → SameIn n a v (has_cancelled u a x m).0
  cancelled_stays n v u a x told.Cancelled h = ask_stays n v u a word.AskAbort tt h
  cancelled_stays n v u a x m h = h

  -- what a load leaves of the actor and its shadow, and what it results in
  pub record LoadBy (w : World V) (a : ℕ) (o : CallWithOutcome V) (l : ℕ) (f : After V) : Type 0 where
    pub shadow : (acted w (moves a ∷ [])).boosted.shadows a ≡ w.boosted.shadows a
    pub reads : GoesOnReading (actor_of w a) (actor_of (acted w (moves a ∷ [])) a) l
    pub after : Either w.words a (acted w (moves a ∷ [])) o f

  abbrev pub StepBy : World V → ℕ → Stage V → After V → Type 0
  StepBy w a Beginning f = Unit {0}
  StepBy w a (Copying asked) f =
      let u = put_back a w asked in (actor_of u a ≡ actor_of w a) × Either w.words a u (outcome_at u a asked) f
  StepBy w a (Loading o []) f = ⊥
  StepBy w a (Loading o (d ∷ es)) f = LoadBy w a o d.0 f
  StepBy w a st f = SameIn w.words a w f.0

  module _ (w : World V) (a : ℕ) (x : Seat V) (k : Linked w) where
    abbrev n : ℕ
    n = w.words

    abbrev y : Actor
    y = actor_of w a

    abbrev z : Copy V
    z = w.boosted.shadows a

    abbrev g : ℕ → Bool
    g = mine w.boosted a

    abbrev moved : World V
    moved = acted w (moves a ∷ [])

    abbrev StageIn : Stage V → Type 0
    StageIn st = StageOk w.words w.blocks x y z st y.place

    still : IsStill y.place → SameIn n a w moved
    still h = moved_same (content w.words w.blocks) n w.boosted a h

    still_at : (p : Place) → y.place ≡ p → IsStill p → SameIn n a w moved
    still_at p e h = still (subst IsStill (sym e) h)

    reading : (l : ℕ) → StageIn (Reading l) → StepBy w a (Reading l) (step_at w a x (Reading l))
    reading l ok =
        let after = after_read y (learns w.boosted.words y (plan y y.place)) l (word_notice w a)
        (read_after w.boosted.words y l y.place ok.0) in
        read_stays n w moved a x l (word_notice w a)
        (moved_to (content w.words w.blocks) n w.boosted a (quiet_no_begin y.place (reading_quiet l y.place ok.0))
        (λ i m. after.1 i (is_other n i l ok.1 m)))

    copying : (asked : CollectionCall V) → StageIn (Copying asked) → Linked (step_at w a x (Copying asked)).0
        → StepBy w a (Copying asked) (step_at w a x (Copying asked))
    copying asked ok next =
        let which = covers_at w.words w.blocks asked in
        let u = put_back a w asked in
        let now : actor_of u a ≡ y =
        ap (λ (t : Words). t.actors a) (put_words (content w.words w.blocks) w.boosted a asked.collection which) in (
          now,
          answers_come n u a (with_piece x asked.collection (piece_at w.blocks asked)) (outcome_at u a asked)
              (ap (λ (q : Actor). q.place) now ∙ ok.0) ok.2.0
              (subst (λ (os : List (CallWithOutcome V)). Told (on_held x.calls) os) (sym (put_outcomes w a asked.collection which))
              ok.1.tx.1.held)
              refl x (sized_by u a asked (outcome_at u a asked)) u.boosted.editions next,
        )

    loading : (o : CallWithOutcome V) (d : ℕ × ℕ) (es : Entries) → StageIn (Loading o (d ∷ es))
        → Linked (step_at w a x (Loading o (d ∷ es))).0
        → StepBy w a (Loading o (d ∷ es)) (step_at w a x (Loading o (d ∷ es)))
    loading o d es ok next =
        record {
          shadow = there.own.shadow;
          reads = after_read y (actor_of moved a) d.0 (word_notice w a) after;
          after = by (word_notice w a) after next;
        }
      where
        there : At moved a (learns w.boosted.words y (plan y y.place)) z g
        there = at_move w a y z g y.place (at_of w a k) refl (reading_quiet d.0 y.place ok.0)

        after : AfterRead d.0 y (actor_of moved a) (word_notice w a)
        after = subst (λ (q : Actor). AfterRead d.0 y q (word_notice w a)) (sym there.own.actor)
            (read_after w.boosted.words y d.0 y.place ok.0)

        answers : outcome_at moved a o.asked ≡ o
        answers =
            let c = content w.words w.blocks in
            ap (λ (q : Copy V). c.outcome (changes c q.outcomes q.parts) o.asked) there.own.shadow ∙ sym ok.2.is

        held : Told (on_held x.calls) (moved.boosted.shadows a).outcomes
        held = subst (λ (q : Copy V). Told (on_held x.calls) q.outcomes) (sym there.own.shadow) ok.1.tx.1.held

        judged_by : (v : ℕ) (b : Bool) → (actor_of moved a).place ≡ machine.Open
            → Linked (cond b (loads moved a x o es) (gives_up moved a (because x (refusal.Stale d.0 d.1 v)) [])).0
            → Either n a moved o (cond b (loads moved a x o es) (gives_up moved a (because x (refusal.Stale d.0 d.1 v)) []))
        judged_by v true place to = loads_come n moved a x o place ok.2.kind held answers es to
        judged_by v false place to = gives_up_either n moved moved a (because x (refusal.Stale d.0 d.1 v)) o [] (same n a moved.boosted)

        by : (m : told.Notice) → AfterRead d.0 y (actor_of moved a) m → Linked (has_loaded moved a x o d es m).0
            → Either n a moved o (has_loaded moved a x o d es m)
        by (told.Number v) h to = judged_by v (eqb d.1 v) (ap (λ (q : Actor). q.place) h) to
        by (told.Moved i w2) h to = gives_up_either n moved moved a (because x (refusal.Moved i w2)) o [] (same n a moved.boosted)
        by m h to = inl (same n a moved.boosted, tt)

    storing_first : (ks : List ℕ) → ((i : ℕ) → g i ≡ has ks i) → StageIn (Ready ks) → SameIn n a w (step_at w a x (Ready ks)).0
    storing_first ks held ok =
        let f = first_stored w a x y z g ks (at_of w a k) held ok.0 ok.1 in
        let ready = acted w (asks a word.AskStore ∷ []) in
        let stored = recorded (acted ready (moves a ∷ [])) a x true x.wv in
        stored_stays n w stored a x ks (word_notice ready a)
        (same_calls n y (actor_of stored a) (ap (λ (q : Actor). q.calls) f.at.own.actor), f.at.own.shadow)

    pub step_by : (st : Stage V) → ((i : ℕ) → g i ≡ has (gates_of st) i) → StageIn st → Linked (step_at w a x st).0
        → StepBy w a st (step_at w a x st)
    step_by Idle held ok next = same n a w.boosted
    step_by Open held ok next = same n a w.boosted
    step_by Beginning held ok next = tt
    step_by (Reading l) held ok next = reading l ok
    step_by (Trying asked tries) held ok next =
        tried_stays n w (acted w (TakeGate a asked.collection ∷ [])) a x (is_none (w.boosted.gates asked.collection)) asked.collection []
        (λ i. Trying asked i) (Copying asked) tries (taken_same (content w.words w.blocks) n w.boosted a asked.collection)
    step_by (Copying asked) held ok next = copying asked ok next
    step_by (Loading o []) held ok next = absurd ok
    step_by (Loading o (d ∷ es)) held ok next = loading o d es ok next
    step_by Locking held ok next = locked_stays n w moved a x (word_notice w a) (still (locking_still y.place ok.0))
    step_by (Gating got [] tries) held ok next = absurd ok
    step_by (Gating got (i ∷ ks) tries) held ok next =
        tried_stays n w (acted w (TakeGate a i ∷ [])) a x (is_none (w.boosted.gates i)) i got (λ j. Gating got (i ∷ ks) j)
        (takes_gates (got ++ i ∷ []) ks) tries (taken_same (content w.words w.blocks) n w.boosted a i)
    step_by (Ready ks) held ok next = storing_first ks held ok
    step_by (Storing ks) held ok next = stored_stays n w moved a x ks (word_notice w a) (still (storing_still y.place ok.0))
    step_by (Homing []) held ok next = absurd ok
    step_by (Homing (i ∷ ks)) held ok next =
        goes_home_stays n w (acted w (GoHome a i ∷ [])) a x ks (home_same (content w.words w.blocks) n w.boosted a i)
    step_by Releasing held ok next = released_stays n w moved a x (word_notice w a) (still_at machine.Release ok.0 tt)
    step_by Closing held ok next = still_at machine.Close ok.0 tt
    step_by (Returning []) held ok next = absurd ok
    step_by (Returning (i ∷ ks)) held ok next =
        gives_up_stays n w (acted w (PutGate a i (λ l. false) ∷ [])) a x ks (back_same (content w.words w.blocks) n w.boosted a i)
    step_by Cancelling held ok next = cancelled_stays n w moved a x (word_notice w a) (still_at machine.Undo ok.0 tt)
    step_by Leaving held ok next = still_at machine.Leave ok.0 tt
