-- A step of the words while the locations of a call are read, in a world that shows its actor: what it asks of the actor is there, the seat
-- hears the load as the actor does, and the actor has of collections what its next stage asks. The call under way stands on the actor's own
-- copy, or is never accepted.
use Rattle.std.proofs.Common.{◌≡◌, ℕ, true, true≢false, List, [], ◌∷◌, Option, Result, sym, ap, ◌∙◌, subst, refl}
use Rattle.tx_sets.specs.Entries.{Entries}
use Rattle.tx_machine.specs.Notices as notice
use Rattle.seq_model.specs.declared.event.Event.TheVariants.{Step}
use Rattle.seq_model.specs.Contents.{Contents}
use Rattle.replay_log.specs.Worlds.{World, actor_of, Seat, Stage, After, Loading, acted, happens, moves, step_at, word_notice}
use Rattle.replay_log.specs.Worlds.{written_homes}
use Rattle.step_core.specs.Sound.{Fits, IsLoad, KeepsRoom}
use Rattle.step_core.specs.declared.actor.Actor as running
use Rattle.step_core.specs.declared.actor.Place.{Place}
use Rattle.step_core.specs.declared.actor.Place.TheVariants as place
use Rattle.step_core.specs.declared.answer.WordAnswer.{WordAnswer}
use Rattle.step_core.specs.declared.answer.WordRefusal.{WordRefusal}
use Rattle.actor_parts.specs.Blocks.{BlocksView}
use Rattle.actor_parts.specs.Dispatch.{AreSteps, is_loading, next_load, next_of, notice_told}
use Rattle.actor_parts.specs.declared.next.Next.TheVariants as next
use Rattle.tx_actor.specs.Answers.{IsLoadOf}
use Rattle.tx_actor.specs.Dispatch.{HasRoom}
use Rattle.tx_actor.specs.CopiesByStage.{HasCopies, HasCopiesAt, HasLoaded}
use Rattle.tx_actor.specs.ActorBounds.{HasHeard, IsRunning}
use Rattle.tx_actor.specs.LoadInWorld.{MayHear, OwnsCallAt}
use Rattle.tx_actor.specs.LoadStep.{IsLoadable, IsToldLoad, MayLoad, after_load}
use Rattle.tx_actor.specs.Reading.{LoadsKeep}
use Rattle.tx_actor.specs.Running.{KnowsHomes, Runs, notice_of, seat_of, stage_in, stage_of}
use Rattle.tx_actor.specs.CopiesAfterStep.{LoadsStayOwn}
use Rattle.tx_actor.specs.Seated.{SeatsActors}
use Rattle.tx_actor.specs.declared.actor.Stage as own
use Rattle.tx_actor.specs.declared.actor.Stage.TheVariants as stage
use Rattle.tx_actor.specs.declared.actor.ActorNotice.{ActorNotice}
use Rattle.tx_actor.specs.declared.actor.TxActor.{TxActor}
use Rattle.step_core.specs.Answers.{result_of}
use Rattle.step_core.specs.Shown as words
use Rattle.tx_actor.specs.Reached.{IsReached}
use Rattle.tx_actor.proofs.SeatLemmas.{loading_as, next_as}

-- there is a location to be read
load_due : (p : Place) (es : Entries) → IsLoadOf p es → next_load es ≡ next.Word
load_due p (d ∷ es) h = refl
load_due (place.Look l) [] h = absurd h
load_due (place.Fetch l k) [] h = absurd h
load_due (place.Again l k v) [] h = absurd h
load_due p [] h = absurd h

module _ {V : Type 0} where
  pub loads_word : (r : TxActor V) (s : own.Stage V) → is_loading (stage_of s) ≡ true → HasRoom r s → next_of (stage_of s) ≡ next.Word
  loads_word r (stage.Loading o left) e can = load_due r.words.place left.items can.place
  loads_word r s e can = absurd (true≢false (sym e))

  knows_loading : (s : own.Stage V) (ks : List ℕ) → is_loading (stage_of s) ≡ true → KnowsHomes s ks
  knows_loading (stage.Locking homes) ks e = absurd (true≢false (sym e))
  knows_loading s ks e = tt

  pub load_is : SeatsActors V → (w : World V) (a : ℕ) (x : Seat V) (s : Stage V) → is_loading s ≡ true → next_of s ≡ next.Word
      → step_at w a x s ≡ after_load (acted w (moves a ∷ [])) a x s (word_notice w a)
  load_is seats w a x (Loading o []) e due = let z : ⊥ = cc in absurd z
  load_is seats w a x (Loading o (d ∷ es)) e due = seats.loads w a x o d es
  load_is seats w a x s e due = absurd (true≢false (sym e))

  owns_call : (r : TxActor V) (w : World V) (a : ℕ) (s : own.Stage V) → HasCopiesAt r w a s → OwnsCallAt w a s
  owns_call r w a (stage.Loading o left) h = h.call
  owns_call r w a s h = tt

  may_load : MayHear V → (o : Contents V) (w : World V) (a : ℕ) (r : TxActor V) → IsReached o w → Runs a r (acted w (moves a ∷ []))
      → OwnsCallAt w a r.stage → MayLoad a (acted w (moves a ∷ [])) r r.stage (word_notice w a)
  may_load hear o w a r h =
      subst (λ (z : World V). Runs a r (acted z (moves a ∷ [])) → OwnsCallAt z a r.stage
      → MayLoad a (acted z (moves a ∷ [])) r r.stage (word_notice z a)) h.world
      (hear h.blocks h.clock o.words o.held h.events a r h.stripes)

  -- what the step of the words made of the word actor, and answered: y, and this
  abbrev pub HasMoved : World V → ℕ → running.Actor → Result (Option WordAnswer) WordRefusal → Type 0
  HasMoved w a y told = (actor_of (acted w (moves a ∷ [])) a ≡ words.actor_of y) × (told ≡ result_of (word_notice w a))

  pub told_same : AreSteps V → (w : World V) (a : ℕ) (y : running.Actor) (told : Result (Option WordAnswer) WordRefusal)
      → HasMoved w a y told
      → word_notice w a ≡ notice_told told
  told_same steps w a y told took = sym (steps.told (word_notice w a)) ∙ ap notice_told (sym took.1)

  -- the load may be heard, as it may in a world that shows the actor
  pub load_heard : AreSteps V → LoadsKeep V → (v : BlocksView) (w : World V) (a : ℕ) (r : TxActor V) (y : running.Actor)
      (told : Result (Option WordAnswer) WordRefusal) → is_loading (stage_of r.stage) ≡ true → IsRunning v r → Runs a r w
      → HasMoved w a y told → (IsLoad r.words.place → KeepsRoom r.words y) → ((n : ℕ) → Fits n r.words → Fits n y)
      → let m : TxActor V = record r { words = y } in
      IsLoadable m m.stage (notice_told told) × HasHeard v m (notice_told told)
  load_heard steps keep v w a r y told loading running runs took room fits =
      let m : TxActor V = record r { words = y } in
      subst (λ (n : notice.Notice). IsLoadable m m.stage n × HasHeard v m n) (told_same steps w a y told took)
      (keep v r y w a loading running room fits runs.1 took.0)

  -- the actor in the world after the step of the words
  load_here : (w : World V) (a : ℕ) (r : TxActor V) (y : running.Actor) (told : Result (Option WordAnswer) WordRefusal)
      → is_loading (stage_of r.stage) ≡ true → Runs a r w → HasMoved w a y told
      → (let m : TxActor V = record r { words = y } in Runs a m (acted w (moves a ∷ [])))
  load_here w a r y told loading runs took =
      (runs.0, took.0, knows_loading r.stage (written_homes (acted w (moves a ∷ [])) a) loading)

  -- what reading for a call does next
  pub load_next : (b : BlocksView) (w : World V) (a : ℕ) (r : TxActor V) → is_loading (stage_of r.stage) ≡ true → IsRunning b r → Runs a r w
      → next_of (w.seats a).stage ≡ next.Word
  load_next b w a r loading ready runs = next_as w a r runs ∙ loads_word r r.stage loading ready.room

  pub load_runs : AreSteps V → MayHear V → SeatsActors V → (b : BlocksView) (o : Contents V) (w : World V) (a : ℕ) (r s : TxActor V)
      (y : running.Actor) (told : Result (Option WordAnswer) WordRefusal) (n : ActorNotice V) → is_loading (stage_of r.stage) ≡ true
      → IsRunning b r → IsToldLoad (record r { words = y }) s n (notice_told told) → IsReached o w → Runs a r w → HasCopies r w a
      → HasMoved w a y told → Runs a s (happens w (Step a)).0 × (notice_of a n ≡ (happens w (Step a)).1)
  load_runs steps hear seats b o w a r s y told n loading ready heard reached runs copies took =
      let z = acted w (moves a ∷ []) in
      let m : TxActor V = record r { words = y } in
      let due = load_next b w a r loading ready runs in
      let loads : is_loading (w.seats a).stage ≡ true = loading_as w a r runs ∙ loading in
      let here : Runs a m z = load_here w a r y told loading runs took in
      let same = told_same steps w a y told took in
      let may : MayLoad a z m m.stage (notice_told told) =
      subst (λ (q : notice.Notice). MayLoad a z m m.stage q) same
      (may_load hear o w a m reached here (owns_call r w a r.stage copies)) in
      let after = heard a z may here in
      let e : step_at w a (w.seats a) (w.seats a).stage
      ≡ after_load z a (seat_of m) (stage_in (w.seats a).stage m.stage) (notice_told told) =
      load_is seats w a (w.seats a) (w.seats a).stage loads due
      ∙ (seats.hears a m z (word_notice w a) here
      ∙ ap (after_load z a (seat_of m) (stage_in (w.seats a).stage m.stage)) same) in (
        subst (λ (p : After V). Runs a s p.0) (sym e) after.0,
        after.1 ∙ sym (ap (λ (p : After V). p.1) e),
      )

  -- what the actor has of collections then
  moved_copies : (r : TxActor V) (y : running.Actor) (w : World V) (a : ℕ) (s : own.Stage V) → is_loading (stage_of s) ≡ true
      → HasCopiesAt r w a s → (let m : TxActor V = record r { words = y } in HasCopiesAt m w a s)
  moved_copies r y w a (stage.Loading o left) e h =
      record { stripes = h.stripes; once = h.once; others = h.others; call = h.call; at = h.at; read = h.read }
  moved_copies r y w a s e h = absurd (true≢false (sym e))

  own_in : LoadsStayOwn V → (o : Contents V) (w : World V) (a : ℕ) (m s : TxActor V) (n : ActorNotice V) → IsReached o w
      → is_loading (stage_of m.stage) ≡ true → Runs a m (acted w (moves a ∷ [])) → HasCopies m w a
      → HasLoaded m s n m.stage (word_notice w a)
      → Runs a s (happens w (Step a)).0 → notice_of a n ≡ (happens w (Step a)).1 → HasCopies s (happens w (Step a)).0 a
  own_in law o w a m s n h =
      subst (λ (z : World V). is_loading (stage_of m.stage) ≡ true → Runs a m (acted z (moves a ∷ [])) → HasCopies m z a
      → HasLoaded m s n m.stage (word_notice z a) → Runs a s (happens z (Step a)).0 → notice_of a n ≡ (happens z (Step a)).1
      → HasCopies s (happens z (Step a)).0 a) h.world
      (law h.blocks h.clock o.words o.held h.events a m s n h.stripes)

  pub load_keeps : AreSteps V → LoadsStayOwn V → (o : Contents V) (w : World V) (a : ℕ) (r s : TxActor V) (y : running.Actor)
      (told : Result (Option WordAnswer) WordRefusal) (n : ActorNotice V) → is_loading (stage_of r.stage) ≡ true
      → (let m : TxActor V = record r { words = y } in HasLoaded m s n m.stage (notice_told told)) → IsReached o w → Runs a r w
      → HasCopies r w a → HasMoved w a y told → Runs a s (happens w (Step a)).0 → notice_of a n ≡ (happens w (Step a)).1
      → HasCopies s (happens w (Step a)).0 a
  load_keeps steps law o w a r s y told n loading got reached runs copies took =
      let m : TxActor V = record r { words = y } in
      own_in law o w a m s n reached loading (load_here w a r y told loading runs took) (moved_copies r y w a r.stage loading copies)
      (subst (HasLoaded m s n m.stage) (sym (told_same steps w a y told took)) got)
