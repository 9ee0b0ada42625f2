-- The first value store: its request, and then a step of the words.
--
-- Where all is locked and checked and the gates of all that was written are held, the request is made in the world with the seat alone
-- and in the one where the number found is planted, as in the world that events have reached. The step after it is one of the words.
use Rattle.std.proofs.Common.{◌≡◌, ℕ, Bool, true, false, ◌||◌, List, [], ◌∷◌, Option, Some, None, Result, refl, sym, ap, ◌∙◌, subst}
use Rattle.tx_sets.specs.Entries.{Entries, locations}
use Rattle.tx_machine.proofs.Invariant.{IsSomeEntry}
use Rattle.tx_machine.specs.Actor as machine
use Rattle.tx_machine.specs.Actor.{goes}
use Rattle.tx_machine.specs.Cells.{Cell, becomes, cell, learns, word_of}
use Rattle.tx_machine.specs.Requests.{AskStore}
use Rattle.tx_machine.specs.World.{Rests, first_store, plan}
use Rattle.seq_model.specs.declared.event.Event.TheVariants.{Step}
use Rattle.tx_machine.specs.Boosted.{every, is_actor, is_held}
use Rattle.tx_machine.specs.Content.{has}
use Rattle.replay_log.proofs.ActionLemmas.{mine, store_goes}
use Rattle.replay_log.proofs.GuardLemmas.{world_allows}
use Rattle.replay_log.proofs.SeatLemmas.{StageOk, gates_of}
use Rattle.replay_log.specs.Contents.{Block, content, home_of, is_plain}
use Rattle.replay_log.specs.Guards.{IsAllowed, step_action}
use Rattle.replay_log.specs.Seats.{World, Stage, After, Ready, acted, actor_of, asks, moves, word_notice}
use Rattle.replay_log.specs.Worlds.{happens, run, step_at}
use Rattle.step_core.specs.Answers.{result_of}
use Rattle.step_core.specs.Shown as words
use Rattle.step_core.specs.declared.actor.Actor.{Actor}
use Rattle.step_core.specs.declared.answer.WordAnswer.{WordAnswer}
use Rattle.step_core.specs.declared.answer.WordRefusal.{WordRefusal}
use Rattle.actor_parts.specs.Blocks.{BlocksView}
use Rattle.actor_parts.specs.Dispatch.{AreSteps, after_word, is_loading, next_of, notice_told}
use Rattle.actor_parts.specs.Dispatch as dispatch
use Rattle.actor_parts.specs.declared.next.Next.TheVariants as next
use Rattle.actor_laws.proofs.Alone.{same_actors}
use Rattle.actor_laws.proofs.OneStep.{ask_calm}
use Rattle.actor_laws.specs.StepTargets.{Spot, Word, deed_of, spot_at, spot_of}
use Rattle.actor_laws.specs.Steps.{ready_at}
use Rattle.actor_laws.specs.StepAnswers.{tells}
use Rattle.tx_actor.specs.Asks.{MayStore}
use Rattle.tx_actor.specs.Dispatch.{IsToldWord, Records}
use Rattle.tx_actor.specs.Running.{Runs, notice_of, seat_at, stage_of}
use Rattle.tx_actor.specs.declared.actor.Stage as own
use Rattle.tx_actor.specs.declared.actor.Stage.TheVariants as stage
use Rattle.tx_actor.specs.declared.actor.ActorNotice.{ActorNotice}
use Rattle.tx_actor.specs.declared.actor.TxActor.{TxActor}
use Rattle.tx_actor.specs.ActorBounds.{IsRunning, KeepsIn}
use Rattle.shared_table.specs.declared.seat.Seat as table
use Rattle.shared_table.specs.declared.table.TxTable.{TxTable}
use Rattle.shared_table.specs.declared.view.Opening.{Opening}
use Rattle.shared_table.specs.Opening.{blocks_at, world_at}
use Rattle.shared_table.specs.Seated.{acts, opening_of}
use Rattle.shared_table.specs.Seated as seated
use Rattle.shared_table.specs.Shown.{IsReached}
use Rattle.shared_table.specs.Turns.{found_at, spot}
use Rattle.tx_turns.proofs.OwnLemmas.{own_writes}
use Rattle.tx_turns.specs.NextStep.{IsDeed}
use Rattle.tx_turns.specs.Touches.{Finds, IsNext, StepsWords}
use Rattle.tx_turns.specs.declared.due.NextStep.{NextStep}
use Rattle.tx_turns.specs.Ties.{Ties, Turned, commits_at, laid_in}
use Rattle.tx_turns.proofs.TurnStepLemmas.{becomes_is, clock_left, spot_is}
use Rattle.tx_turns.proofs.FoundLemmas.{found_cell, learns_found, may_release, runs_found, step_gates, step_learns_cell, step_tells_cell}
use Rattle.tx_turns.proofs.FoundLemmas.{tells_found}
use Rattle.tx_turns.proofs.TurnLemmas.{laid_as, own_held, own_place, own_stage, some_word, tied}
use Rattle.tx_actor.proofs.StepLemmas.{first_is, knows_ready}

some_first : (x : machine.Actor) (es : Entries) → IsSomeEntry es → first_store x es ≡ Rests → ⊥
some_first x [] h e = h
some_first x (d ∷ es) h e = cc

-- the gates of these locations are held
abbrev held_by : ℕ → List Block → (ℕ → Bool) → Entries → Bool
held_by n bs g es = every (λ l. is_plain n bs l || g (home_of n bs l)) (locations es)

module _ {V : Type 0} where
  abbrev pub AreHeld : World V → ℕ → Type 0
  AreHeld w a = every (is_held (content w.words w.blocks) w.boosted a) (locations (actor_of w a).writes) ≡ true

  -- what the request makes of a world
  abbrev pub ready_in : World V → ℕ → World V
  ready_in w a = acted w (asks a AskStore ∷ [])

  -- an actor that is ready holds all that it has written, in the world with it alone
  pub own_all_held : (key : Opening V) (a : ℕ) (u : World V) (ks : List ℕ) → IsReached (world_at key) a u → (u.seats a).stage ≡ Ready ks
      → AreHeld u a
  own_all_held key a u ks h at =
      let w = run (world_at key) h.events in
      let st : (w.seats a).stage ≡ Ready ks = ap (λ x. x.stage) h.alike.seat ∙ at in
      let may = subst (λ (k : Stage V). IsAllowed w k (step_action w a k)) st
      (world_allows (blocks_at key) key.shape.value.clock key.state.value.words key.state.value.held h.events a h.stripes) in
      sym (λ i. held_by (h.alike.words i) (h.alike.blocks i) (λ k. h.alike.boosted.gates k i) (h.alike.boosted.actor i).writes) ∙ may.1

  -- ---- the step of the definitions
  first_step : AreSteps V → (v : World V) (a : ℕ) (r p q : TxActor V) (y : Actor) (told : Result (Option WordAnswer) WordRefusal)
      (n : ActorNotice V)
      (ks : List ℕ) → stage_of r.stage ≡ Ready ks → stage_of p.stage ≡ Ready ks → (v.seats a).stage ≡ Ready ks → Runs a p (ready_in v a)
      → ((k : ℕ) → mine (ready_in v a).boosted a k ≡ has ks k)
      → actor_of (acted (ready_in v a) (moves a ∷ [])) a ≡ words.actor_of y → told ≡ result_of (word_notice (ready_in v a) a)
      → IsToldWord (record p { words = y }) q n (notice_told told)
      → Runs a q (happens v (Step a)).0 × (notice_of a n ≡ (happens v (Step a)).1)
  first_step steps v a r p q y told n ks at own_at st asked held own tells heard =
      let ready = ready_in v a in
      let z = acted ready (moves a ∷ []) in
      let here : Runs a (record p { words = y }) z = (asked.0, own, knows_ready p.stage ks _ own_at) in
      let goes = may_release z a ks (λ k. ap (λ (g : ℕ → Option ℕ). is_actor a (g k)) (step_gates ready a) ∙ held k) in
      let after = heard a z (subst (λ (k : Stage V). dispatch.MayGoOn a z k) (sym own_at) goes) here in
      let e : step_at v a (v.seats a) (v.seats a).stage
      ≡ after_word z a (seat_at (v.seats a) p) (stage_of p.stage) (notice_told told) =
      ap (λ (k : Stage V). step_at v a (v.seats a) k) st
      ∙ (steps.first v a (v.seats a) ks
      ∙ (ap (λ x. after_word z a x (Ready ks) (word_notice ready a)) asked.0
      ∙ (ap (λ (k : Stage V). after_word z a (seat_at (v.seats a) p) k (word_notice ready a)) (sym own_at)
      ∙ ap (after_word z a (seat_at (v.seats a) p) (stage_of p.stage))
      (sym (steps.told (word_notice ready a)) ∙ ap notice_told (sym tells))))) in (
        subst (λ (f : After V). Runs a q f.0) (sym e) after.0,
        after.1 ∙ sym (ap (λ (f : After V). f.1) e),
      )

  planted_first : AreSteps V → (w : World V) (a : ℕ) (r p q : TxActor V) (y : Actor) (told : Result (Option WordAnswer) WordRefusal)
      (n : ActorNotice V) (d : NextStep) (m f : ℕ) (c : Cell) (ks : List ℕ) → let x = words.actor_of p.words in
      stage_of r.stage ≡ Ready ks → stage_of p.stage ≡ Ready ks → (w.seats a).stage ≡ Ready ks → Runs a r w → AreHeld w a
      → (actor_of w a).place ≡ machine.Check [] → MayStore r p → ((k : ℕ) → mine w.boosted a k ≡ has ks k)
      → IsDeed d (plan x x.place) → word_of (plan x x.place) ≡ Some c → Finds d m f
      → words.actor_of y ≡ learns (plan x x.place) x m → told ≡ result_of (tells x x.place m)
      → IsToldWord (record p { words = y }) q n (notice_told told)
      → Runs a q (happens (found_at a w (Word c) f None) (Step a)).0 × (notice_of a n ≡ (happens (found_at a w (Word c) f None) (Step a)).1)
  planted_first steps w a r p q y told n d m f c ks at own_at st runs all place stores held deed touches finds own says heard =
      let x = words.actor_of p.words in
      let v = found_at a w (Word c) f None in
      let same = same_actors w.boosted.words c f a in
      let all_there : AreHeld v a = ap (λ (z : machine.Actor). held_by w.words w.blocks (mine w.boosted a) z.writes) same ∙ all in
      let there : Runs a r v = runs_found w a r c f runs in
      let ready = ready_in v a in
      let asked : Runs a p ready = stores a v all_there there in
      let goes = store_goes (content v.words v.blocks) v.boosted a (ap (λ (z : machine.Actor). z.place) same ∙ place) all_there in
      let is : cell ready.boosted.words c ≡ f = (ask_calm a v AskStore).cells c ∙ found_cell w.boosted.words c f in
      first_step steps v a r p q y told n ks at own_at st asked (λ k. goes.own.gates k ∙ held k)
      (step_learns_cell ready a x c asked.1 touches ∙ (ap (learns (plan x x.place) x) is
      ∙ (sym (learns_found d (plan x x.place) x m f deed finds) ∙ sym own)))
      (says ∙ ap result_of (tells_found d x x.place m f deed finds
      ∙ (sym (ap (tells x x.place) is) ∙ sym (step_tells_cell ready a x c asked.1 touches))))
      heard

  -- ---- what is next after the request
  ready_spot : (w : World V) (a : ℕ) (ks : List ℕ) (s : Stage V) → s ≡ Ready ks
      → spot_at a w s ≡ spot_of (word_of (deed_of (ready_in w a) a))
  ready_spot w a ks s e = ap (λ (k : Stage V). spot_at a w k) e

  ready_world : (w : World V) (a : ℕ) (ks : List ℕ) (s : Stage V) → s ≡ Ready ks → ready_at a w s ≡ ready_in w a
  ready_world w a ks s e = ap (λ (k : Stage V). ready_at a w k) e

  pub records_ready : (t : own.Stage V) (ks : List ℕ) → stage_of t ≡ Ready ks → Records t
  records_ready (stage.Ready homes) ks e = tt
  records_ready stage.Closing ks e = tt
  records_ready stage.Leaving ks e = tt
  records_ready t ks e = let z : ⊥ = cc in absurd z

  -- what it commits
  pub first_commits : (a : ℕ) (r : TxActor V) (t : own.Stage V) (ks : List ℕ) → stage_of t ≡ Ready ks
      → commits_at a r t ≡ (a, record { number = r.wv; writes = true; calls = r.calls.items }) ∷ []
  first_commits a r (stage.Ready homes) ks e = refl
  first_commits a r t ks e = let z : ⊥ = cc in absurd z

  -- it is one of the table still
  pub running_asked : (t : TxTable V) (b : BlocksView) (r p : TxActor V) (ks : List ℕ) → b.words ≡ seated.words_in t
      → b.blocks ≡ seated.blocks_in t → stage_of r.stage ≡ Ready ks → (is_loading (stage_of r.stage) ≡ false → KeepsIn b r p)
      → IsRunning (laid_in t) r → IsRunning (laid_in t) p
  running_asked t b r p ks e f at keeps =
      subst (λ (v : BlocksView). IsRunning v r → IsRunning v p) (laid_as t b e f) (keeps (ap is_loading at)).running

  -- what an actor is after the request, which the world with it alone allows
  pub record IsAsked (t : TxTable V) (s : table.Seat V) (r p : TxActor V) (ks : List ℕ) : Type 0 where
    pub at : stage_of r.stage ≡ Ready ks
    pub own_at : stage_of p.stage ≡ Ready ks
    pub there : ((acts (opening_of t) s).seats (seated.actor s)).stage ≡ Ready ks
    pub all : AreHeld (acts (opening_of t) s) (seated.actor s)
    pub place : (actor_of (acts (opening_of t) s) (seated.actor s)).place ≡ machine.Check []
    pub runs : Runs (seated.actor s) p (ready_in (acts (opening_of t) s) (seated.actor s))
    pub due : plan (words.actor_of p.words) (words.actor_of p.words).place ≡ Rests → ⊥
    pub held : (k : ℕ) → mine (acts (opening_of t) s).boosted (seated.actor s) k ≡ has ks k

  pub is_asked : (t : TxTable V) (s : table.Seat V) (r p : TxActor V) → next_of (stage_of r.stage) ≡ next.FirstStore → Ties t s r
      → MayStore r p → (let z : TxActor V = record r { words = p.words } in p ≡ z)
      → (ks : List ℕ) × IsAsked t s r p ks
  is_asked t s r p due ties stores rest =
      let first = first_is (stage_of r.stage) due in
      let ks = first.0 in
      let a = seated.actor s in
      let w = acts (opening_of t) s in
      let key = t.whole.shared.key in
      let quiet : is_loading (stage_of r.stage) ≡ false = ap is_loading first.1 in
      let st : (w.seats a).stage ≡ Ready ks = own_stage t s r quiet ties ∙ first.1 in
      let all : AreHeld w a = own_all_held key a w ks ties.reached st in
      let ok = subst (λ (k : Stage V). StageOk w.words w.blocks (w.seats a) (actor_of w a) (w.boosted.shadows a) k (actor_of w a).place)
      first.1 (own_place t s r quiet ties) in
      let goes = store_goes (content w.words w.blocks) w.boosted a ok.0 all in
      let asked : Runs a p (ready_in w a) = stores a w all ties.runs in
      let is : words.actor_of p.words ≡ machine.goes (actor_of w a) machine.First = sym asked.1 ∙ goes.own.actor in (
        ks,
        record {
          at = first.1;
          own_at = ap (λ (z : TxActor V). stage_of z.stage) rest ∙ first.1;
          there = st;
          all = all;
          place = ok.0;
          runs = asked;
          due = λ e. some_first (machine.goes (actor_of w a) machine.First) (actor_of w a).writes (own_writes key a w ties.reached ok.0)
              (sym (ap (λ (z : machine.Actor). plan z z.place) is) ∙ e);
          held = λ k. own_held t s r quiet ties k ∙ ap (λ (q : Stage V). has (gates_of q) k) first.1;
        },
      )

  -- the world with the seat alone does next what is next for the words of p
  pub first_next : (t : TxTable V) (s : table.Seat V) (r p : TxActor V) (ks : List ℕ) → IsAsked t s r p ks → IsNext (opening_of t) s p.words
  first_next t s r p ks h d deed =
      let a = seated.actor s in
      let w = acts (opening_of t) s in
      let same : deed_of (ready_in w a) a ≡ plan (words.actor_of p.words) (words.actor_of p.words).place =
      ap (λ (y : machine.Actor). plan y y.place) h.runs.1 in
      record {
        spot = ready_spot w a ks (w.seats a).stage h.there ∙ ap (λ f. spot_of (word_of f)) same ∙ spot_is d _ deed;
        becomes = λ k. ap (λ (v : World V). becomes (deed_of v a) k) (ready_world w a ks (w.seats a).stage h.there)
            ∙ ap (λ f. becomes f k) same ∙ becomes_is d _ deed k;
      }

  -- ---- the turn
  pub first_turned : AreSteps V → (t : TxTable V) (s u : table.Seat V) (r p q : TxActor V) (y : Actor)
      (told : Result (Option WordAnswer) WordRefusal) (n : ActorNotice V) (ks : List ℕ) → IsAsked t s r p ks → Ties t s r → MayStore r p
      → StepsWords (opening_of t) s p.words u y told → IsToldWord (record p { words = y }) q n (notice_told told)
      → IsRunning (laid_in t) q → Ties t u q × Turned (opening_of t) s r u n
  first_turned steps t s u r p q y told n ks h ties stores step heard running =
      let a = seated.actor s in
      let w = acts (opening_of t) s in
      let x = words.actor_of p.words in
      let f = step.touches.found in
      let next_due = first_next t s r p ks h in
      let some = some_word (plan x x.place) h.due in
      let here : spot a w ≡ Word some.0 =
      ready_spot w a ks (w.seats a).stage h.there
      ∙ (ap (λ (z : machine.Actor). spot_of (word_of (plan z z.place))) h.runs.1 ∙ ap spot_of some.1) in
      let after = planted_first steps w a r p q y told n step.due step.number f some.0 ks h.at h.own_at h.there ties.runs h.all
      h.place stores
      h.held step.deed some.1 step.touches.finds step.learns.actor step.learns.told heard in
      tied t s u r q n step.touches.clock f None (seated.out s) ties step.touches.takes step.touches.rises
      (clock_left step.due (spot a w) step.number f step.touches.clock (seated.turned a w f) (next_due step.due step.deed).spot
      ((next_due step.due step.deed).becomes f) step.touches.finds step.touches.clocks)
      (λ _. refl) running
      (subst (λ (z : Spot). Runs a q (happens (found_at a w z f None) (Step a)).0
      × (notice_of a n ≡ (happens (found_at a w z f None) (Step a)).1)) (sym here) after)
