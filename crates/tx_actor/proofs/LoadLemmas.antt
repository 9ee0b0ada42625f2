-- The load of a call's location: with the copied edition the definitions judge the others, which is the judging of the actor's own lists;
-- with another the call is aborted. What is made of a seat does not depend on its stage (`comes_at`), and the outcome at the stage is the
-- world's, whatever it is.
use Rattle.std.proofs.Common.{◌≡◌, ◌≢◌, ◌==◌, ℕ, Bool, true, false, eqb-true, [], ◌∷◌, drop, Option, Some, None, refl, sym, ap, subst, ◌∙◌}
use Rattle.std.proofs.lemmas.Bool.{cond-false}
use Rattle.tx_sets.specs.Entries.{Entries}
use Rattle.tx_machine.specs.Actor as machine
use Rattle.tx_machine.specs.Notices as notice
use Rattle.seq_model.specs.declared.event.Notice.TheVariants.{Quiet}
use Rattle.seq_model.specs.declared.refusal.Refusal.{Refusal}
use Rattle.seq_model.specs.declared.refusal.Refusal.TheVariants as refusal
use Rattle.conflict.specs.declared.outcome.Outcome.{Outcome}
use Rattle.replay_log.specs.Contents as contents
use Rattle.replay_log.specs.Worlds as worlds
use Rattle.replay_log.specs.Worlds.{World, Seat, actor_of, at_stage, because, gives_up, has_loaded, loads}
use Rattle.std.specs.declared.alloc.Global.{Global}
use Rattle.std.specs.declared.collections.VecDeque.{VecDeque}
use Rattle.step_core.specs.Shown as words
use Rattle.tx_actor.specs.declared.actor.CallWithOutcome.{CallWithOutcome}
use Rattle.tx_actor.specs.declared.actor.Stage.{Stage}
use Rattle.tx_actor.specs.declared.actor.Stage.TheVariants as stage
use Rattle.tx_actor.specs.declared.actor.ActorNotice.{ActorNotice}
use Rattle.tx_actor.specs.declared.actor.ActorNotice.TheVariants as told
use Rattle.tx_actor.specs.declared.actor.TxActor.{TxActor}
use Rattle.actor_parts.specs.declared.notice.WordNotice.{WordNotice}
use Rattle.actor_parts.specs.declared.notice.WordNotice.TheVariants.{Number, Moved}
use Rattle.actor_parts.specs.declared.judged.Judged.{Judged}
use Rattle.actor_parts.specs.declared.judged.Judged.TheVariants.{All, Next, Stale}
use Rattle.tx_actor.specs.Answers.{CanAccept, MayAnswer}
use Rattle.actor_parts.specs.Dispatch.{shown_notice}
use Rattle.actor_parts.specs.Judged.{comes_to, judged, left_after}
use Rattle.tx_actor.specs.LoadStep.{IsLoadable, IsToldLoad, MayJudge, after_load, first_entry}
use Rattle.tx_actor.specs.Running.{Runs, at, notice_of, outcome_in, seat_of, stage_in, with_outcome}
use Rattle.actor_parts.proofs.JudgedLemmas.{found_fresh}
use Rattle.tx_actor.proofs.DispatchLemmas.{by_result, stays_as}

-- the location that is read next, and the others
pub first_rest : (es : Entries) (d : ℕ × ℕ) (fs : Entries) → first_entry es ≡ Some d → fs ≡ drop 1 es → es ≡ d ∷ fs
first_rest [] d fs e f = absurd (let h : ⊥ = cc in h)
first_rest (c ∷ es) d fs e f =
    let same : c ≡ d = cc in
    λ i. same i ∷ sym f i

differ : (i j : ℕ) → i ≢ j → (b : Bool) → (i == j) ≡ b → (i == j) ≡ false
differ i j other true is = absurd (other (eqb-true i j is))
differ i j other false is = is

module _ {V : Type 0} where
  pub comes_at : (w : World V) (a : ℕ) (x : Seat V) (s : worlds.Stage V) (o : contents.CallWithOutcome V) (left : Entries) (j : Judged)
      → comes_to w a (at_stage x s) o left j ≡ comes_to w a x o left j
  comes_at w a x s o left All = refl
  comes_at w a x s o left (Next l) = refl
  comes_at w a x s o left (Stale l b v) = refl

  -- ---- the first location
  found_stale : (w : World V) (a : ℕ) (x : Seat V) (o : contents.CallWithOutcome V) (d : ℕ × ℕ) (es : Entries) (v : ℕ) → d.1 ≢ v
      → has_loaded w a x o d es (notice.Number v) ≡ gives_up w a (because x (refusal.Stale d.0 d.1 v)) []
  found_stale w a x o d es v other =
      cond-false (d.1 == v) (loads w a x o es) (gives_up w a (because x (refusal.Stale d.0 d.1 v)) []) (differ d.1 v other (d.1 == v) refl)

  -- what the call results in as its other locations are judged
  abbrev pub GoesOn : TxActor V → TxActor V → ActorNotice V → CallWithOutcome V → Entries → Type 0
  GoesOn r u t call es =
      (a : ℕ) (w : World V) (x : Option (Outcome V)) → actor_of w a ≡ words.actor_of r.words → MayAnswer w a r.words x call es →
      let reads = r.words.reads.entries in
      let f = comes_to w a (seat_of r) (with_outcome call x) (left_after reads es) (judged reads es) in
      Runs a u f.0 × (notice_of a t ≡ f.1)

  pub goes_as : (r u : TxActor V) (t : ActorNotice V) (call : CallWithOutcome V) (left : VecDeque (ℕ × ℕ) Global) (d : ℕ × ℕ)
      (es : Entries) (v : ℕ)
      → left.items ≡ d ∷ es → d.1 ≡ v → GoesOn r u t call es → IsToldLoad (at r (stage.Loading call left)) u t (notice.Number v)
  goes_as r u t call left d es v first same goes a w may s =
      let x = outcome_in (w.seats a).stage in
      let o = with_outcome call x in
      let z = seat_of (at r (stage.Loading call left)) in
      let y : actor_of w a ≡ words.actor_of r.words = s.1 in
      let known : MayJudge a w r x call (d ∷ es) (notice.Number v) =
      subst (λ (ds : Entries). MayJudge a w r x call ds (notice.Number v)) first may in
      by_result u t a _ _
      (ap (λ (ds : Entries). after_load w a z (worlds.Loading o ds) (notice.Number v)) first
      ∙ (found_fresh w a z o d es v same
      ∙ (comes_at w a (seat_of r) z.stage o (left_after (actor_of w a).reads es) (judged (actor_of w a).reads es)
      ∙ ap (λ (q : machine.Actor). comes_to w a (seat_of r) o (left_after q.reads es) (judged q.reads es)) y)))
      (goes a w x y (known same))

  -- it is aborted, for this cause
  abbrev pub GivesUp : TxActor V → TxActor V → ActorNotice V → Refusal → Type 0
  GivesUp r u t cause =
      (a : ℕ) (w : World V) → actor_of w a ≡ words.actor_of r.words →
      let f = gives_up w a (because (seat_of r) cause) [] in
      Runs a u f.0 × (notice_of a t ≡ f.1)

  pub stale_as : (r u : TxActor V) (t : ActorNotice V) (call : CallWithOutcome V) (left : VecDeque (ℕ × ℕ) Global) (d : ℕ × ℕ)
      (es : Entries) (v : ℕ)
      → left.items ≡ d ∷ es → d.1 ≢ v → GivesUp r u t (refusal.Stale d.0 d.1 v)
      → IsToldLoad (at r (stage.Loading call left)) u t (notice.Number v)
  stale_as r u t call left d es v first other up a w may s =
      let o = with_outcome call (outcome_in (w.seats a).stage) in
      let z = seat_of (at r (stage.Loading call left)) in
      by_result u t a _ _
      (ap (λ (ds : Entries). after_load w a z (worlds.Loading o ds) (notice.Number v)) first ∙ found_stale w a z o d es v other)
      (up a w s.1)

  moved_first : (w : World V) (a : ℕ) (x : Seat V) (o : contents.CallWithOutcome V) (es : Entries) (d : ℕ × ℕ) (l word : ℕ)
      → first_entry es ≡ Some d
      → after_load w a x (worlds.Loading o es) (notice.Moved l word) ≡ gives_up w a (because x (refusal.Moved l word)) []
  moved_first w a x o [] d l word some = absurd (let h : ⊥ = cc in h)
  moved_first w a x o (c ∷ es) d l word some = refl

  none_first : (w : World V) (a : ℕ) (x : Seat V) (o : contents.CallWithOutcome V) (es : Entries) (n : notice.Notice)
      → first_entry es ≡ None
      → after_load w a x (worlds.Loading o es) n ≡ (w, Quiet)
  none_first w a x o [] n none = refl
  none_first w a x o (d ∷ es) n none = absurd (let h : ⊥ = cc in h)

  pub moved_as : (r u : TxActor V) (t : ActorNotice V) (call : CallWithOutcome V) (left : VecDeque (ℕ × ℕ) Global) (d : ℕ × ℕ) (l word : ℕ)
      → first_entry left.items ≡ Some d → GivesUp r u t (refusal.Moved l word)
      → IsToldLoad (at r (stage.Loading call left)) u t (notice.Moved l word)
  moved_as r u t call left d l word some up a w may s =
      by_result u t a _ _
      (moved_first w a (seat_of (at r (stage.Loading call left))) (with_outcome call (outcome_in (w.seats a).stage)) left.items d l word
      some)
      (up a w s.1)

  -- ---- nothing comes of it
  pub load_stays : (r u : TxActor V) (t : ActorNotice V) (n : notice.Notice) → u ≡ r → t ≡ told.Quiet
      → ((a : ℕ) (w : World V) → after_load w a (seat_of r) (stage_in (w.seats a).stage r.stage) n ≡ (w, Quiet)) → IsToldLoad r u t n
  load_stays r u t n same quiet e a w may s = stays_as r u t a w _ same quiet (e a w) s

  pub none_as : (r u : TxActor V) (t : ActorNotice V) (call : CallWithOutcome V) (left : VecDeque (ℕ × ℕ) Global) (n : notice.Notice)
      → u ≡ at r (stage.Loading call left) → t ≡ told.Quiet → first_entry left.items ≡ None
      → IsToldLoad (at r (stage.Loading call left)) u t n
  none_as r u t call left n same quiet none =
      load_stays (at r (stage.Loading call left)) u t n same quiet
      (λ a w. none_first w a (seat_of (at r (stage.Loading call left)))
      (with_outcome call (outcome_in (w.seats a).stage)) left.items n none)

  loaded_else : (w : World V) (a : ℕ) (x : Seat V) (o : contents.CallWithOutcome V) (es : Entries) (h : WordNotice)
      → ((v : ℕ) → h ≡ Number v → ⊥)
      → ((i j : ℕ) → h ≡ Moved i j → ⊥) → after_load w a x (worlds.Loading o es) (shown_notice h) ≡ (w, Quiet)
  loaded_else w a x o [] h p q = refl
  loaded_else w a x o (d ∷ es) (Number v) p q = absurd (p v refl)
  loaded_else w a x o (d ∷ es) (Moved i j) p q = absurd (q i j refl)
  loaded_else w a x o (d ∷ es) h p q = refl

  pub else_as : (r u : TxActor V) (t : ActorNotice V) (call : CallWithOutcome V) (left : VecDeque (ℕ × ℕ) Global) (h : WordNotice)
      → u ≡ at r (stage.Loading call left) → t ≡ told.Quiet → ((v : ℕ) → h ≡ Number v → ⊥) → ((i j : ℕ) → h ≡ Moved i j → ⊥)
      → IsToldLoad (at r (stage.Loading call left)) u t (shown_notice h)
  else_as r u t call left h same quiet p q =
      load_stays (at r (stage.Loading call left)) u t (shown_notice h) same quiet
      (λ a w. loaded_else w a (seat_of (at r (stage.Loading call left)))
      (with_outcome call (outcome_in (w.seats a).stage)) left.items h p q)

  told_nothing : (w : World V) (a : ℕ) (x : Seat V) (o : contents.CallWithOutcome V) (es : Entries)
      → after_load w a x (worlds.Loading o es) notice.Quiet ≡ (w, Quiet)
  told_nothing w a x o [] = refl
  told_nothing w a x o (d ∷ es) = refl

  quiet_stage : (w : World V) (a : ℕ) (x : Seat V) (st : worlds.Stage V) (s : Stage V)
      → after_load w a x (stage_in st s) notice.Quiet ≡ (w, Quiet)
  quiet_stage w a x st (stage.Loading o left) = told_nothing w a x (with_outcome o (outcome_in st)) left.items
  quiet_stage w a x st s = refl

  -- nothing was answered
  pub load_quiet : (r u : TxActor V) (t : ActorNotice V) (n : notice.Notice) → n ≡ notice.Quiet → u ≡ r → t ≡ told.Quiet
      → IsToldLoad r u t n
  load_quiet r u t n nothing same quiet =
      subst (λ (q : notice.Notice). IsToldLoad r u t q) (sym nothing)
      (load_stays r u t notice.Quiet same quiet (λ a w. quiet_stage w a (seat_of r) (w.seats a).stage r.stage))

  -- ---- r is at this stage
  other_stage : (w : World V) (a : ℕ) (x : Seat V) (st : worlds.Stage V) (s : Stage V) (n : notice.Notice)
      → ((o : CallWithOutcome V) (left : VecDeque (ℕ × ℕ) Global) → s ≡ stage.Loading o left → ⊥)
      → after_load w a x (stage_in st s) n ≡ (w, Quiet)
  other_stage w a x st (stage.Loading o left) n p = absurd (p o left refl)
  other_stage w a x st s n p = refl

  pub at_rest : (r u : TxActor V) (t : ActorNotice V) (n : notice.Notice) → u ≡ r → t ≡ told.Quiet
      → ((o : CallWithOutcome V) (left : VecDeque (ℕ × ℕ) Global) → r.stage ≡ stage.Loading o left → ⊥) → IsToldLoad r u t n
  at_rest r u t n same quiet p = load_stays r u t n same quiet (λ a w. other_stage w a (seat_of r) (w.seats a).stage r.stage n p)

  pub load_heard : (r u : TxActor V) (t : ActorNotice V) (n m : notice.Notice) → n ≡ m → IsToldLoad r u t n → IsToldLoad r u t m
  load_heard r u t n m e p = subst (λ (q : notice.Notice). IsToldLoad r u t q) e p

  pub load_at_stage : (r u : TxActor V) (t : ActorNotice V) (n : notice.Notice) (s : Stage V) → r.stage ≡ s → IsToldLoad (at r s) u t n
      → IsToldLoad r u t n
  load_at_stage r u t n s e p = subst (λ (z : Stage V). IsToldLoad (at r z) u t n) (sym e) p

  prepared_at : (r : TxActor V) (s : Stage V) (o : CallWithOutcome V) → CanAccept r o → CanAccept (at r s) o
  prepared_at r s o p = record {
    writes = p.writes;
    calls = p.calls;
    place = p.place;
    ready = p.ready;
    kept = p.kept;
    told = p.told;
    own = p.own;
  }

  loadable_at : (r : TxActor V) (s t : Stage V) (n : notice.Notice) → IsLoadable r t n → IsLoadable (at r s) t n
  loadable_at r s (stage.Loading o left) (notice.Number v) p = prepared_at r s o p
  loadable_at r s (stage.Loading o left) n p = tt
  loadable_at r s t n p = tt

  pub loadable_as : (r : TxActor V) (s t : Stage V) (n m : notice.Notice) → r.stage ≡ t → n ≡ m → IsLoadable r r.stage n
      → IsLoadable (at r s) t m
  loadable_as r s t n m e f p =
      loadable_at r s t m (subst (λ (q : notice.Notice). IsLoadable r t q) f (subst (λ (z : Stage V). IsLoadable r z n) e p))
