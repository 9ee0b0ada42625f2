-- Steps on the words, one after another.
--
-- A step that answered nothing leaves of its actor all but the word actor, where its stage waits for the answer: so it is a turn, and the
-- next step is as it was. Each turn leads on from those before it, and one that answered nothing brings the request nearer to its answer.
use Rattle.std.proofs.Common.{◌≡◌, ℕ, ◌<◌, ◌≤◌, Bool, true, false, true≢false, List, Option, None, Result, refl, sym, ap}
use Rattle.std.proofs.Common.{◌∙◌, subst, arith}
use Rattle.tx_machine.specs.Notices as notice
use Rattle.seq_model.specs.declared.event.Event.TheVariants.{Step}
use Rattle.seq_model.specs.declared.event.Notice.{Notice}
use Rattle.seq_model.specs.declared.record.Record.{Record}
use Rattle.replay_log.proofs.ProgressLemmas.{world_nears}
use Rattle.replay_log.specs.declared.base.Base.{Base}
use Rattle.replay_log.specs.Seats.{World, After}
use Rattle.replay_log.specs.WorldProgress.{AreSmall, IsQuiet, left_at, left_of}
use Rattle.replay_log.specs.Worlds.{happens, run}
use Rattle.step_core.specs.Sound.{Fits, IsLoad, KeepsRoom}
use Rattle.step_core.specs.declared.actor.Actor as running
use Rattle.step_core.specs.declared.answer.WordAnswer.{WordAnswer}
use Rattle.step_core.specs.declared.answer.WordRefusal.{WordRefusal}
use Rattle.actor_parts.specs.Dispatch.{AreSteps, is_loading, next_of, notice_told}
use Rattle.actor_parts.specs.declared.next.Next.TheVariants as next
use Rattle.tx_actor.proofs.CopiesByStageLemmas.{copies_same}
use Rattle.tx_actor.specs.Dispatch.{waits_at}
use Rattle.tx_actor.specs.LoadInWorld.{MayHear}
use Rattle.tx_actor.specs.Reading.{LoadsKeep}
use Rattle.tx_actor.specs.Running.{notice_of, stage_of}
use Rattle.tx_actor.specs.Seated.{SeatsActors}
use Rattle.tx_actor.specs.CopiesAfterStep.{LoadsStayOwn}
use Rattle.tx_actor.specs.declared.actor.Stage as own
use Rattle.tx_actor.specs.declared.actor.Stage.TheVariants as stage
use Rattle.tx_actor.specs.declared.actor.ActorNotice.{ActorNotice}
use Rattle.tx_actor.specs.declared.actor.ActorNotice.TheVariants as tells
use Rattle.tx_actor.specs.declared.actor.TxActor.{TxActor}
use Rattle.tx_actor.proofs.OwnLemmas.{OthersLaw}
use Rattle.tx_actor.proofs.StepLemmas.{running_moved}
use Rattle.shared_table.specs.declared.seat.Seat as table
use Rattle.shared_table.specs.declared.table.TxTable.{TxTable}
use Rattle.shared_table.specs.Opening.{blocks_at}
use Rattle.shared_table.specs.Seated.{acts, blocks_in, opening_of}
use Rattle.shared_table.specs.Seated as seated
use Rattle.tx_turns.specs.Touches.{StepsWords}
use Rattle.tx_turns.proofs.TurnLemmas.{word_turned}
use Rattle.tx_turns.specs.Ties.{Ties, Turned, laid_in}
use Rattle.tx_turns.proofs.WordLemmas.{load_hears, load_tied}
use Rattle.tx_turns.specs.Laws.{WordsKeep}
use Rattle.tx_turns.specs.Own.{HasOwn}
use Rattle.tx_turns.proofs.DrivenLemmas.{driven_on}
use Rattle.tx_turns.proofs.NextLemmas.{makes_none}
use Rattle.tx_turns.proofs.QuietLemmas.{load_leaves, load_running, load_waits, word_waits}
use Rattle.tx_turns.specs.Driven.{Driven, LeadsOn, is_still, left_in, seat_in}

module _ {V : Type 0} where
  -- where it waits, it loads for a call or does not
  pub still_by : (s : own.Stage V) → is_still s ≡ true → (is_loading (stage_of s) ≡ false) → waits_at s ≡ true
  still_by (stage.Reading l) e quiet = refl
  still_by (stage.Locking homes) e quiet = refl
  still_by stage.Releasing e quiet = refl
  still_by stage.Cancelling e quiet = refl
  still_by (stage.Loading o left) e quiet = absurd (true≢false quiet)
  still_by s e quiet = absurd (true≢false (sym e))

  -- a step that answered nothing
  abbrev pub IsOnward : (t : TxTable V) (s u : table.Seat V) (r : TxActor V) (y : running.Actor) (bs : List (Base V)) → Type 0
  IsOnward t s u r y bs =
      (let q : TxActor V = record r { words = y } in
      Ties t u q × Turned (opening_of t) s r u tells.Quiet × HasOwn t u q bs)

  pub load_onward : AreSteps V → MayHear V → SeatsActors V → LoadsStayOwn V → OthersLaw V → LoadsKeep V
      → (t : TxTable V) (s u : table.Seat V) (r : TxActor V) (y : running.Actor) (told : Result (Option WordAnswer) WordRefusal)
      (bs : List (Base V)) → is_loading (stage_of r.stage) ≡ true → notice_told told ≡ notice.Quiet → Ties t s r → HasOwn t s r bs
      → StepsWords (opening_of t) s r.words u y told → (IsLoad r.words.place → KeepsRoom r.words y)
      → ((n : ℕ) → Fits n r.words → Fits n y) → IsOnward t s u r y bs
  load_onward steps hear seats stay law keep t s u r y told bs loading nothing ties own step room fits =
      let q : TxActor V = record r { words = y } in
      let n = notice_told told in
      let heard = load_hears steps keep t s u r y told loading ties step room fits in
      load_tied steps hear seats stay law t s u r q y told tells.Quiet bs loading ties own step
      (load_waits q n nothing) (load_running (laid_in t) q n nothing heard.1) (load_leaves q n nothing)

  pub word_onward : AreSteps V → WordsKeep V → (t : TxTable V) (s u : table.Seat V) (r : TxActor V) (y : running.Actor)
      (told : Result (Option WordAnswer) WordRefusal) (bs : List (Base V)) → is_loading (stage_of r.stage) ≡ false
      → waits_at r.stage ≡ true → next_of (stage_of r.stage) ≡ next.Word → notice_told told ≡ notice.Quiet → Ties t s r → HasOwn t s r bs
      → StepsWords (opening_of t) s r.words u y told → ((n : ℕ) → Fits n r.words → Fits n y) → IsOnward t s u r y bs
  word_onward steps keep t s u r y told bs quiet waits due nothing ties own step fits =
      let q : TxActor V = record r { words = y } in
      let h = word_turned steps t s u r q y told tells.Quiet due quiet ties step
      (word_waits q (notice_told told) nothing waits)
      (running_moved (laid_in t) r y fits quiet ties.running) in
      (h.0, h.1, keep t s u r q tells.Quiet bs ties own h.1 h.0 (copies_same r r quiet refl) due quiet)

  -- either of them
  pub onward : AreSteps V → MayHear V → SeatsActors V → LoadsStayOwn V → OthersLaw V → LoadsKeep V → WordsKeep V
      → (t : TxTable V) (s u : table.Seat V) (r : TxActor V) (y : running.Actor) (told : Result (Option WordAnswer) WordRefusal)
      (bs : List (Base V)) → is_still r.stage ≡ true → next_of (stage_of r.stage) ≡ next.Word → notice_told told ≡ notice.Quiet
      → Ties t s r → HasOwn t s r bs → StepsWords (opening_of t) s r.words u y told → (IsLoad r.words.place → KeepsRoom r.words y)
      → ((n : ℕ) → Fits n r.words → Fits n y) → (b : Bool) → is_loading (stage_of r.stage) ≡ b → IsOnward t s u r y bs
  onward steps hear seats stay law keep words t s u r y told bs still due nothing ties own step room fits true loading =
      load_onward steps hear seats stay law keep t s u r y told bs loading nothing ties own step room fits
  onward steps hear seats stay law keep words t s u r y told bs still due nothing ties own step room fits false quiet =
      word_onward steps words t s u r y told bs quiet (still_by r.stage still quiet) due nothing ties own step fits

  -- the request is nearer to its answer
  pub nearer : (t : TxTable V) (u z : table.Seat V) (r : TxActor V) (n : ActorNotice V) → Ties t u r → Turned (opening_of t) u r z n
      → AreSmall (blocks_in t) → n ≡ tells.Quiet → left_in (opening_of t) z < left_in (opening_of t) u
  nearer t u z r n ties T small e =
      let o = opening_of t in
      let a = seated.actor u in
      let H = T.takes.happened in
      let v : World V = run o H.events in
      let after : After V = happens v (Step a) in
      let x_is : v.seats a ≡ seat_in o u = H.alike.seat in
      let y_is : after.0.seats a ≡ seat_in o z = H.same.0.seat ∙ (λ i. (sym T.takes.own i).seats (sym T.takes.seat.1 i)) in
      let told_is : after.1 ≡ notice_of a n = H.same.1 ∙ sym T.tells in
      let quiet = subst (λ (k : Notice V). IsQuiet k) (sym (told_is ∙ ap (notice_of a) e)) tt in
      let less = world_nears (blocks_at t.whole.shared.key) t.whole.shared.key.shape.value.clock t.whole.shared.key.state.value.words
      t.whole.shared.key.state.value.held H.events ties.reached.stripes small a quiet in
      let before : left_of v a ≡ left_of (acts o u) a = (λ i. left_at (x_is i).stage (H.alike.boosted.actor i)) in
      let actor_is : after.0.boosted.words.actors a ≡ (acts o z).boosted.words.actors (seated.actor z) =
      H.same.0.boosted.actor ∙ (λ i. (sym T.takes.own i).boosted.words.actors (sym T.takes.seat.1 i)) in
      let now : left_of after.0 a ≡ left_of (acts o z) (seated.actor z) = (λ i. left_at (y_is i).stage (actor_is i)) in
      omega (arith, less, before, now)

  -- ---- turns that make no record, from s on
  -- those that led to s have led to u, where none answered anything
  pub record HasCome (o : World V) (s u : table.Seat V) : Type 0 where
    pub driven : (f : table.Seat V) (d : Option (Record V)) → Driven o f s tells.Quiet d → Driven o f u tells.Quiet d
    pub near : left_in o u ≤ left_in o s

  pub starts : (o : World V) (s : table.Seat V) → HasCome o s s
  starts o s = record { driven = λ f d h. h; near = omega arith }

  -- one more, the last
  pub leads_on : (t : TxTable V) (s u z : table.Seat V) (r : TxActor V) (n : ActorNotice V) → HasCome (opening_of t) s u → Ties t u r
      → Turned (opening_of t) u r z n → next_of (stage_of r.stage) ≡ next.Word → (r.stage ≡ stage.Closing → ⊥) → AreSmall (blocks_in t)
      → LeadsOn (opening_of t) s z n
  leads_on t s u z r n come ties turned due isnt small = record {
    driven = λ f d h. driven_on t f u z r n d ties (come.driven f d h) turned None (makes_none (seated.actor u) r r.stage due isnt);
    nearer = λ e. (let p = nearer t u z r n ties turned small e in let q = come.near in omega (arith, p, q));
  }

  -- or not the last
  pub comes_on : (t : TxTable V) (s u z : table.Seat V) → LeadsOn (opening_of t) s z tells.Quiet → HasCome (opening_of t) s z
  comes_on t s u z h = record { driven = h.driven; near = (let p = h.nearer refl in omega (arith, p)) }
