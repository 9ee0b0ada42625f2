-- Steps on the words that are taken in straight code.
--
-- What a step on the words makes of an actor is a term, of which the next step asks only that it is next in the world with the seat alone:
-- so no value has to hold it. Each step is one lemma here, by what it found; it leads on from those before it (`led_on`), and the last one,
-- which is handed to the actor, is like any turn on the words (`led_last`).
use Rattle.std.proofs.Common.{◌≡◌, ℕ, ◌<◌, ◌≤◌, true, false, true≢false, Bool, cond, eqb, List, Option, Some, None}
use Rattle.std.proofs.Common.{Result, Ok, Err, OnOk, IfErr, inl, inr, refl, sym, ap, ◌∙◌, subst, arith}
use Rattle.std.specs.Prelude.{nat_le, if◌then◌else◌}
use Rattle.std.proofs.lemmas.Bool.{cond-true}
use Rattle.std.specs.Vec.{vec_len, vec_capacity}
use Rattle.vlock_word.specs.LockWord.{bits, unbits}
use Rattle.vlock_word.specs.declared.lock_word.LockWord.{LockWord}
use Rattle.vlock_word.specs.declared.lock_word.LockWord.TheVariants.{Free, Locked}
use Rattle.tx_machine.specs.Actor as machine
use Rattle.tx_machine.specs.Actor.{goes, seen}
use Rattle.tx_machine.specs.Cells.{learns}
use Rattle.tx_machine.specs.Notices as notice
use Rattle.tx_machine.specs.Notices.{look_notice}
use Rattle.tx_machine.specs.World.{plan}
use Rattle.replay_log.specs.declared.base.Base.{Base}
use Rattle.replay_log.specs.Seats as worlds
use Rattle.replay_log.specs.Seats.{World, After}
use Rattle.replay_log.specs.Worlds.{has_read}
use Rattle.replay_log.specs.WorldProgress.{AreSmall}
use Rattle.step_core.specs.Answers.{result_of}
use Rattle.step_core.specs.Shown as words
use Rattle.step_core.specs.Sound.{Fits, IsLoad, KeepsRoom}
use Rattle.step_core.specs.declared.actor.Actor.{Actor}
use Rattle.step_core.specs.declared.actor.Place.{Place}
use Rattle.step_core.specs.declared.actor.Place.TheVariants.{Look, Fetch, Again}
use Rattle.step_core.specs.declared.answer.WordAnswer.{WordAnswer}
use Rattle.step_core.specs.declared.answer.WordRefusal.{WordRefusal}
use Rattle.actor_parts.specs.Blocks.{BlocksView}
use Rattle.actor_parts.specs.Dispatch.{AreSteps, after_word, is_loading, next_of, notice_told}
use Rattle.actor_parts.specs.declared.next.Next.TheVariants as next
use Rattle.actor_laws.specs.StepAnswers.{tells}
use Rattle.tx_actor.specs.Dispatch.{HasRoom, IsToldWord, waits_at}
use Rattle.tx_actor.specs.CopiesByStage.{HasLoaded, KeepsCopies}
use Rattle.tx_actor.specs.ActorBounds.{HasHeard, IsRunning}
use Rattle.tx_actor.specs.LoadInWorld.{MayHear}
use Rattle.tx_actor.specs.LoadStep.{IsLoadable, IsToldLoad}
use Rattle.tx_actor.specs.Reading.{LoadsKeep}
use Rattle.tx_actor.specs.Seated.{SeatsActors}
use Rattle.tx_actor.specs.CopiesAfterStep.{LoadsStayOwn}
use Rattle.tx_actor.specs.Running.{Reseats, Runs, at, notice_of, seat_at, seat_of, stage_of}
use Rattle.tx_actor.specs.declared.actor.Stage as own
use Rattle.tx_actor.specs.declared.actor.Stage.TheVariants as stage
use Rattle.tx_actor.specs.declared.actor.ActorNotice.{ActorNotice}
use Rattle.tx_actor.specs.declared.actor.ActorNotice.TheVariants as told
use Rattle.tx_actor.specs.declared.actor.TxActor.{TxActor}
use Rattle.tx_actor.proofs.LoadStepLemmas.{loads_word}
use Rattle.tx_actor.proofs.OwnLemmas.{OthersLaw}
use Rattle.tx_actor.proofs.StepLemmas.{running_moved}
use Rattle.shared_table.specs.declared.seat.Seat.{Seat}
use Rattle.shared_table.specs.declared.table.TxTable.{TxTable}
use Rattle.shared_table.specs.Seated.{Loads, Stepped, acts, actor, blocks_in, opening_of, view}
use Rattle.tx_machine.specs.Cells.{LockCell, ValueCell}
use Rattle.tx_turns.specs.Touches.{StepsWords}
use Rattle.tx_turns.specs.declared.due.NextStep.TheVariants as due
use Rattle.tx_turns.proofs.TurnLemmas.{word_is_next, word_turned}
use Rattle.tx_turns.specs.Ties.{Ties, laid_in}
use Rattle.tx_turns.proofs.WordLemmas.{load_hears, load_tied}
use Rattle.tx_turns.specs.Laws.{WordsKeep}
use Rattle.tx_turns.specs.Own.{HasOwn}
use Rattle.tx_turns.proofs.StepsLemmas.{HasCome, leads_on, load_onward, starts, word_onward}
use Rattle.seq_model.specs.declared.record.Record.{Record}
use Rattle.actor_laws.specs.Courses.{IsUnderWay, IsUnderWayFrom, latest}
use Rattle.actor_laws.specs.KnownStages.{KnownStage, Begins, Calls, Commits, Ends}
use Rattle.tx_turns.proofs.GivenUpLemmas.{under_ends}
use Rattle.tx_turns.specs.Driven.{Driven, LeadsOn, told_in}
use Rattle.tx_turns.specs.Straight.{HasLed, at_place}

-- the word actor moves on, and keeps its bounds
look_fits : (x : Actor) (l k : ℕ) (n : ℕ) → Fits n (record x { place = Look l }) → Fits n (record x { place = Fetch l k })
look_fits x l k n h = record {
  reads = h.reads;
  writes = h.writes;
  reads_rise = h.reads_rise;
  writes_rise = h.writes_rise;
  reads_few = h.reads_few;
  writes_few = h.writes_few;
  held = h.held;
  wv = h.wv;
  place = h.place;
}

fetch_fits : (x : Actor) (l k v : ℕ) (n : ℕ) → Fits n (record x { place = Fetch l k }) → Fits n (record x { place = Again l k v })
fetch_fits x l k v n h = record {
  reads = h.reads;
  writes = h.writes;
  reads_rise = h.reads_rise;
  writes_rise = h.writes_rise;
  reads_few = h.reads_few;
  writes_few = h.writes_few;
  held = h.held;
  wv = h.wv;
  place = h.place;
}

look_room : (x : Actor) (l k : ℕ) → KeepsRoom (record x { place = Look l }) (record x { place = Fetch l k })
look_room x l k = record { calls = refl; count = omega arith; writes = refl; reads = omega arith }

fetch_room : (x : Actor) (l k v : ℕ) → KeepsRoom (record x { place = Fetch l k }) (record x { place = Again l k v })
fetch_room x l k v = record { calls = refl; count = omega arith; writes = refl; reads = omega arith }

-- where the second load was answered, it answered the value
told_if : (l v j : ℕ) (x : Option WordAnswer) (b : Bool) → Ok x ≡ result_of (if b then notice.Number v else notice.Moved l (bits (Free j)))
    → notice_told (Ok x) ≡ notice.Number v
told_if l v j x true e = ap notice_told e
told_if l v j x false e = absurd (let z : ⊥ = cc in z)

told_number : (l k v : ℕ) (word : LockWord) (x : Option WordAnswer) → Ok x ≡ result_of (notice.again_notice l k v word)
    → notice_told (Ok x) ≡ notice.Number v
told_number l k v (Free j) x e = told_if l v j x (eqb j k) e
told_number l k v (Locked j) x e = absurd (let z : ⊥ = cc in z)

-- what is known of loads for a call
pub record LoadLaws (V : Type 0) : Type 0 where
  pub steps : AreSteps V
  pub hear : MayHear V
  pub seats : SeatsActors V
  pub stay : LoadsStayOwn V
  pub others : OthersLaw V
  pub keep : LoadsKeep V

-- a fact of what was answered, and of why it was not
pub ok_then : {A E : Type 0} {P Q : Type 0} → (r : Result A E) → (P → Q) → OnOk r P → OnOk r Q
ok_then (Ok v) f h = f h
ok_then (Err e) f h = tt

pub err_then : {A E : Type 0} {P Q : E → Type 0} → (r : Result A E) → ((e : E) → P e → Q e) → IfErr r P → IfErr r Q
err_then (Ok v) f h = tt
err_then (Err e) f h = f e h

module _ {V : Type 0} where
  -- what is made first is made last
  pub latest_none : (d : Option (Record V)) → latest d None ≡ d
  latest_none (Some r) = refl
  latest_none None = refl

  -- what was answered, as one knows by then whether it was quiet
  pub told_so : (o : World V) (s u : Seat V) (b c : Bool) (n : ActorNotice V) (d : Option (Record V)) → b ≡ c
      → Driven o s u (told_in b n) d → Driven o s u (told_in c n) d
  told_so o s u b c n d e = subst (λ (k : Bool). Driven o s u (told_in k n) d) e

  -- ---- any steps
  -- turns that lead on from turns
  pub leads_then : (o : World V) (s u z : Seat V) (n : ActorNotice V) → LeadsOn o s u told.Quiet → LeadsOn o u z n → LeadsOn o s z n
  leads_then o s u z n h k = record {
    driven = λ f d was. k.driven f d (h.driven f d was);
    nearer = λ e. (let p = h.nearer refl in let q = k.nearer e in omega (arith, p, q));
  }

  -- or from where they have led
  pub leads_from : (o : World V) (s u z : Seat V) (n : ActorNotice V) → HasCome o s u → LeadsOn o u z n → LeadsOn o s z n
  leads_from o s u z n h k = record {
    driven = λ f d was. k.driven f d (h.driven f d was);
    nearer = λ e. (let p = h.near in let q = k.nearer e in omega (arith, p, q));
  }

  pub come_then : (o : World V) (s u z : Seat V) → HasCome o s u → LeadsOn o u z told.Quiet → HasCome o s z
  come_then o s u z h k = record {
    driven = λ f d was. k.driven f d (h.driven f d was);
    near = (let p = h.near in let q = k.nearer refl in omega (arith, p, q));
  }

  pub led_then : (t : TxTable V) (s u z : Seat V) (r : TxActor V) (n : ActorNotice V) (bs : List (Base V))
      → LeadsOn (opening_of t) s u told.Quiet
      → HasLed t u z r n bs → HasLed t s z r n bs
  led_then t s u z r n bs h k = record { ties = k.ties; own = k.own; leads = leads_then (opening_of t) s u z n h k.leads }

  -- a step that answered nothing, where the stage of the actor waits for the answer
  pub led_on : AreSteps V → WordsKeep V → (t : TxTable V) (s u : Seat V) (r : TxActor V) (y : Actor) (bs : List (Base V))
      → is_loading (stage_of r.stage) ≡ false → waits_at r.stage ≡ true → next_of (stage_of r.stage) ≡ next.Word
      → (r.stage ≡ stage.Closing → ⊥) → AreSmall (blocks_in t) → Ties t s r → HasOwn t s r bs
      → StepsWords (opening_of t) s r.words u y (Ok None) → ((n : ℕ) → Fits n r.words → Fits n y)
      → HasLed t s u (record r { words = y }) told.Quiet bs
  led_on steps keep t s u r y bs quiet waits on going small ties has step fits =
      let g = word_onward steps keep t s u r y (Ok None) bs quiet waits on refl ties has step fits in
      record {
        ties = g.0;
        own = g.2;
        leads = leads_on t s s u r told.Quiet (starts (opening_of t) s) ties g.1 on going small;
      }

  -- the step that is handed to the actor
  pub led_last : AreSteps V → WordsKeep V → (t : TxTable V) (s u : Seat V) (r q : TxActor V) (y : Actor)
      (m : Result (Option WordAnswer) WordRefusal) (n : ActorNotice V) (bs : List (Base V)) → is_loading (stage_of r.stage) ≡ false
      → next_of (stage_of r.stage) ≡ next.Word → (r.stage ≡ stage.Closing → ⊥) → AreSmall (blocks_in t) → Ties t s r → HasOwn t s r bs
      → StepsWords (opening_of t) s r.words u y m → IsToldWord (record r { words = y }) q n (notice_told m) → IsRunning (laid_in t) q
      → KeepsCopies r q → HasLed t s u q n bs
  led_last steps keep t s u r q y m n bs quiet on going small ties has step heard running leaves =
      let h = word_turned steps t s u r q y m n on quiet ties step heard running in
      record {
        ties = h.0;
        own = keep t s u r q n bs ties has h.1 h.0 leaves on quiet;
        leads = leads_on t s s u r n (starts (opening_of t) s) ties h.1 on going small;
      }

  -- a request that is under way is so from where it stands by then
  pub under_self : (s x : worlds.Seat V) (p : KnownStage V) → IsUnderWayFrom s p x None → IsUnderWay x x None
  under_self s x Begins h = subst (λ (p : KnownStage V). IsUnderWayFrom x p x None) (sym h.0) (h.0, refl)
  under_self s x (Calls calls call) (inl at, e) = subst (λ (p : KnownStage V). IsUnderWayFrom x p x None) (sym at) (inl at, refl)
  under_self s x (Calls calls call) (inr up, e) = under_ends x up.0
  under_self s x (Commits calls) (inl (inl at, e)) = subst (λ (p : KnownStage V). IsUnderWayFrom x p x None) (sym at) (inl (inl at, refl))
  under_self s x (Commits calls) (inl (inr up, e)) = under_ends x up.0
  under_self s x (Commits calls) (inr has) = absurd has.1
  under_self s x Ends h = under_ends x h.0
  under_self s x p h = absurd h

  -- ---- a word that is read
  pub quiet_reading : (s : own.Stage V) (l : ℕ) → s ≡ stage.Reading l → is_loading (stage_of s) ≡ false
  quiet_reading s l e = ap (λ (k : own.Stage V). is_loading (stage_of k)) e

  pub waits_reading : (s : own.Stage V) (l : ℕ) → s ≡ stage.Reading l → waits_at s ≡ true
  waits_reading s l e = ap (λ (k : own.Stage V). waits_at k) e

  pub next_reading : (s : own.Stage V) (l : ℕ) → s ≡ stage.Reading l → next_of (stage_of s) ≡ next.Word
  next_reading s l e = ap (λ (k : own.Stage V). next_of (stage_of k)) e

  pub open_reading : (s : own.Stage V) (l : ℕ) → s ≡ stage.Reading l → s ≡ stage.Closing → ⊥
  open_reading s l e f = (let k : stage.Reading l ≡ stage.Closing = sym e ∙ f in let z : ⊥ = cc in z)

  -- an actor that stands at a place stands there
  pub at_own_place : (r : TxActor V) (p : Place) → r.words.place ≡ p → r ≡ at_place r p
  at_own_place r p e i = record r { words = record r.words { place = e i } }

  -- its loads are next
  pub look_due : (t : TxTable V) (s : Seat V) (r : TxActor V) (l : ℕ) → next_of (stage_of r.stage) ≡ next.Word
      → Ties t s (at_place r (Look l)) → Loads (actor s) (acts (opening_of t) s) (LockCell l)
  look_due t s r l on ties =
      let x = words.actor_of (at_place r (Look l)).words in
      let h = word_is_next t s (at_place r (Look l)) on ties (due.LoadLock l) (seen x l, refl) in
      (h.spot, h.becomes)

  pub fetch_due : (t : TxTable V) (s : Seat V) (r : TxActor V) (l k : ℕ) → next_of (stage_of r.stage) ≡ next.Word
      → Ties t s (at_place r (Fetch l k)) → Loads (actor s) (acts (opening_of t) s) (ValueCell l)
  fetch_due t s r l k on ties =
      let x = words.actor_of (at_place r (Fetch l k)).words in
      let h = word_is_next t s (at_place r (Fetch l k)) on ties (due.LoadValue l)
      ((λ v. goes x (machine.Again l k v)), refl) in
      (h.spot, h.becomes)

  pub again_due : (t : TxTable V) (s : Seat V) (r : TxActor V) (l k v : ℕ) → next_of (stage_of r.stage) ≡ next.Word
      → Ties t s (at_place r (Again l k v)) → Loads (actor s) (acts (opening_of t) s) (LockCell l)
  again_due t s r l k v on ties =
      let x = words.actor_of (at_place r (Again l k v)).words in
      let h = word_is_next t s (at_place r (Again l k v)) on ties (due.LoadLock l)
      (machine.seen_again x l k v, refl) in
      (h.spot, h.becomes)

  -- the load of its lock word, by what the actor is then
  pub look_steps : (o : World V) (s u : Seat V) (x y : Actor) (l found : ℕ) (m : Result (Option WordAnswer) WordRefusal)
      → Stepped o s found u → let a = words.actor_of (record x { place = Look l }) in
      words.actor_of y ≡ seen a l (unbits found) → m ≡ result_of (look_notice a.rv l (unbits found))
      → StepsWords o s (record x { place = Look l }) u y m
  look_steps o s u x y l found m step is says =
      let a = words.actor_of (record x { place = Look l }) in
      record {
        due = due.LoadLock l;
        number = found;
        deed = (seen a l, refl);
        touches = record { clock = (view s).clock; found = found; takes = step; finds = refl; rises = omega arith; clocks = tt };
        learns = record { actor = is; told = says };
      }

  pub fetch_steps : (o : World V) (s u : Seat V) (x : Actor) (l k found : ℕ) → Stepped o s found u
      → StepsWords o s (record x { place = Fetch l k }) u (record x { place = Again l k found }) (Ok None)
  fetch_steps o s u x l k found step =
      let a = words.actor_of (record x { place = Fetch l k }) in
      record {
        due = due.LoadValue l;
        number = found;
        deed = ((λ v. goes a (machine.Again l k v)), refl);
        touches = record { clock = (view s).clock; found = found; takes = step; finds = refl; rises = omega arith; clocks = tt };
        learns = record { actor = refl; told = refl };
      }

  pub again_steps : (o : World V) (s u : Seat V) (x y : Actor) (l k v found : ℕ) (m : Result (Option WordAnswer) WordRefusal)
      → Stepped o s found u → let a = words.actor_of (record x { place = Again l k v }) in
      words.actor_of y ≡ machine.seen_again a l k v (unbits found) → m ≡ result_of (notice.again_notice l k v (unbits found))
      → StepsWords o s (record x { place = Again l k v }) u y m
  again_steps o s u x y l k v found m step is says =
      let a = words.actor_of (record x { place = Again l k v }) in
      record {
        due = due.LoadLock l;
        number = found;
        deed = (machine.seen_again a l k v, refl);
        touches = record { clock = (view s).clock; found = found; takes = step; finds = refl; rises = omega arith; clocks = tt };
        learns = record { actor = is; told = says };
      }

  -- it was free, and no newer than the transaction
  pub look_led : AreSteps V → WordsKeep V → (t : TxTable V) (s u : Seat V) (r : TxActor V) (l k found : ℕ) (bs : List (Base V))
      → r.stage ≡ stage.Reading l → AreSmall (blocks_in t) → Ties t s (at_place r (Look l)) → HasOwn t s (at_place r (Look l)) bs
      → Stepped (opening_of t) s found u → unbits found ≡ Free k → nat_le k r.words.rv ≡ true
      → HasLed t s u (at_place r (Fetch l k)) told.Quiet bs
  look_led steps keep t s u r l k found bs e small ties has step free le =
      let a = words.actor_of (record r.words { place = Look l }) in
      let is : goes a (machine.Fetch l k) ≡ seen a l (unbits found) =
      sym (ap (seen a l) free ∙ cond-true (nat_le k r.words.rv) (goes a (machine.Fetch l k)) (goes a machine.Undo) le) in
      let says : notice.Quiet ≡ look_notice a.rv l (unbits found) =
      sym (ap (look_notice a.rv l) free ∙ cond-true (nat_le k r.words.rv) notice.Quiet _ le) in
      led_on steps keep t s u (at_place r (Look l)) (record r.words { place = Fetch l k }) bs (quiet_reading r.stage l e)
      (waits_reading r.stage l e) (next_reading r.stage l e) (open_reading r.stage l e) small ties has
      (look_steps (opening_of t) s u r.words (record r.words { place = Fetch l k }) l found (Ok None) step is (ap result_of says))
      (look_fits r.words l k)

  pub fetch_led : AreSteps V → WordsKeep V → (t : TxTable V) (s u : Seat V) (r : TxActor V) (l k found : ℕ) (bs : List (Base V))
      → r.stage ≡ stage.Reading l → AreSmall (blocks_in t) → Ties t s (at_place r (Fetch l k)) → HasOwn t s (at_place r (Fetch l k)) bs
      → Stepped (opening_of t) s found u → HasLed t s u (at_place r (Again l k found)) told.Quiet bs
  fetch_led steps keep t s u r l k found bs e small ties has step =
      led_on steps keep t s u (at_place r (Fetch l k)) (record r.words { place = Again l k found }) bs (quiet_reading r.stage l e)
      (waits_reading r.stage l e) (next_reading r.stage l e) (open_reading r.stage l e) small ties has
      (fetch_steps (opening_of t) s u r.words l k found step) (fetch_fits r.words l k found)

  -- and the first load, or the last, as it is handed to the actor
  pub look_last : AreSteps V → WordsKeep V → (t : TxTable V) (s u : Seat V) (r q : TxActor V) (y : Actor)
      (m : Result (Option WordAnswer) WordRefusal) (n : ActorNotice V) (l found : ℕ) (bs : List (Base V)) → r.stage ≡ stage.Reading l
      → AreSmall (blocks_in t) → Ties t s (at_place r (Look l)) → HasOwn t s (at_place r (Look l)) bs → Stepped (opening_of t) s found u
      → let a = words.actor_of (record r.words { place = Look l }) in
      words.actor_of y ≡ seen a l (unbits found) → m ≡ result_of (look_notice a.rv l (unbits found))
      → ((j : ℕ) → Fits j (record r.words { place = Look l }) → Fits j y)
      → IsToldWord (record r { words = y }) q n (notice_told m) → (IsRunning (laid_in t) (record r { words = y }) → IsRunning (laid_in t) q)
      → KeepsCopies r q → HasLed t s u q n bs
  look_last steps keep t s u r q y m n l found bs e small ties has step is says fits heard running leaves =
      led_last steps keep t s u (at_place r (Look l)) q y m n bs (quiet_reading r.stage l e) (next_reading r.stage l e)
      (open_reading r.stage l e) small ties has (look_steps (opening_of t) s u r.words y l found m step is says) heard
      (running (running_moved (laid_in t) (at_place r (Look l)) y fits (quiet_reading r.stage l e) ties.running)) leaves

  pub again_last : AreSteps V → WordsKeep V → (t : TxTable V) (s u : Seat V) (r q : TxActor V) (y : Actor)
      (m : Result (Option WordAnswer) WordRefusal) (n : ActorNotice V) (l k v found : ℕ) (bs : List (Base V)) → r.stage ≡ stage.Reading l
      → AreSmall (blocks_in t) → Ties t s (at_place r (Again l k v)) → HasOwn t s (at_place r (Again l k v)) bs
      → Stepped (opening_of t) s found u → let a = words.actor_of (record r.words { place = Again l k v }) in
      words.actor_of y ≡ machine.seen_again a l k v (unbits found) → m ≡ result_of (notice.again_notice l k v (unbits found))
      → ((j : ℕ) → Fits j (record r.words { place = Again l k v }) → Fits j y)
      → IsToldWord (record r { words = y }) q n (notice_told m) → (IsRunning (laid_in t) (record r { words = y }) → IsRunning (laid_in t) q)
      → KeepsCopies r q → HasLed t s u q n bs
  again_last steps keep t s u r q y m n l k v found bs e small ties has step is says fits heard running leaves =
      led_last steps keep t s u (at_place r (Again l k v)) q y m n bs (quiet_reading r.stage l e) (next_reading r.stage l e)
      (open_reading r.stage l e) small ties has (again_steps (opening_of t) s u r.words y l k v found m step is says) heard
      (running (running_moved (laid_in t) (at_place r (Again l k v)) y fits (quiet_reading r.stage l e) ties.running)) leaves

  -- the value that it answers is what the actor reads
  reads_as : (w : World V) (a : ℕ) (x : worlds.Seat V) (p : TxActor V) (l v : ℕ) → p.stage ≡ stage.Reading l
      → after_word w a (seat_at x p) (stage_of p.stage) (notice.Number v) ≡ has_read w a (seat_of p) l (notice.Number v)
  reads_as w a x p l v e =
      ap (λ (s : own.Stage V). after_word w a (seat_at x (record p { stage = s })) (stage_of s) (notice.Number v)) e
      ∙ sym (ap (λ (s : own.Stage V). has_read w a (seat_of (record p { stage = s })) l (notice.Number v)) e)

  pub number_heard : (p q : TxActor V) (l k v : ℕ) (word : LockWord) (x : Option WordAnswer) (n : ActorNotice V) → p.stage ≡ stage.Reading l
      → Ok x ≡ result_of (notice.again_notice l k v word) → Reseats p q n (λ a w. has_read w a (seat_of p) l (notice.Number v))
      → IsToldWord p q n (notice_told (Ok x))
  number_heard p q l k v word x n e answer does =
      subst (λ (m : notice.Notice). IsToldWord p q n m) (sym (told_number l k v word x answer))
      (λ a w may runs. subst (λ (z : After V). Runs a q z.0 × (notice_of a n ≡ z.1)) (sym (reads_as w a (w.seats a) p l v e))
      (does a w runs.1))

  pub room_reading : (p : TxActor V) (s : own.Stage V) (l : ℕ) → s ≡ stage.Reading l → HasRoom p s → vec_len p.calls < vec_capacity p.calls
  room_reading p s l e h = subst (λ (k : own.Stage V). HasRoom p k) e h

  pub running_idle : (v : BlocksView) (p : TxActor V) → IsRunning v p → IsRunning v (at p stage.Idle)
  running_idle v p h = record { fits = h.fits; room = tt; names = tt; call = tt }

  pub leaves_reading : (p q : TxActor V) (l : ℕ) → p.stage ≡ stage.Reading l → KeepsCopies (at p (stage.Reading l)) q → KeepsCopies p q
  leaves_reading p q l e h = subst (λ (s : own.Stage V). KeepsCopies (record p { stage = s }) q) (sym e) h

  -- ---- a location that a call reads
  pub closing_not : (s : own.Stage V) → is_loading (stage_of s) ≡ true → s ≡ stage.Closing → ⊥
  closing_not s e f = true≢false (sym e ∙ ap (λ (k : own.Stage V). is_loading (stage_of k)) f)

  pub loading_on : LoadLaws V → (t : TxTable V) (s u : Seat V) (r : TxActor V) (y : Actor) (bs : List (Base V))
      → is_loading (stage_of r.stage) ≡ true → AreSmall (blocks_in t) → Ties t s r → HasOwn t s r bs
      → StepsWords (opening_of t) s r.words u y (Ok None) → (IsLoad r.words.place → KeepsRoom r.words y)
      → ((n : ℕ) → Fits n r.words → Fits n y) → HasLed t s u (record r { words = y }) told.Quiet bs
  loading_on laws t s u r y bs loading small ties has step room fits =
      let g = load_onward laws.steps laws.hear laws.seats laws.stay laws.others laws.keep t s u r y (Ok None) bs loading refl ties has step
      room fits in
      record {
        ties = g.0;
        own = g.2;
        leads = leads_on t s s u r told.Quiet (starts (opening_of t) s) ties g.1 (loads_word r r.stage loading ties.running.room)
            (closing_not r.stage loading) small;
      }

  pub loading_hears : LoadLaws V → (t : TxTable V) (s u : Seat V) (r : TxActor V) (y : Actor) (m : Result (Option WordAnswer) WordRefusal)
      → is_loading (stage_of r.stage) ≡ true → Ties t s r → StepsWords (opening_of t) s r.words u y m
      → (IsLoad r.words.place → KeepsRoom r.words y) → ((n : ℕ) → Fits n r.words → Fits n y)
      → let q : TxActor V = record r { words = y } in IsLoadable q q.stage (notice_told m) × HasHeard (laid_in t) q (notice_told m)
  loading_hears laws t s u r y m loading ties step room fits =
      load_hears laws.steps laws.keep t s u r y m loading ties step room fits

  pub loading_last : LoadLaws V → (t : TxTable V) (s u : Seat V) (r q : TxActor V) (y : Actor) (m : Result (Option WordAnswer) WordRefusal)
      (n : ActorNotice V) (bs : List (Base V)) → is_loading (stage_of r.stage) ≡ true → AreSmall (blocks_in t) → Ties t s r
      → HasOwn t s r bs
      → StepsWords (opening_of t) s r.words u y m → (IsLoad r.words.place → KeepsRoom r.words y)
      → ((j : ℕ) → Fits j r.words → Fits j y) → let p : TxActor V = record r { words = y } in
      IsToldLoad p q n (notice_told m) → (HasHeard (laid_in t) p (notice_told m) → IsRunning (laid_in t) q)
      → HasLoaded p q n p.stage (notice_told m) → HasLed t s u q n bs
  loading_last laws t s u r q y m n bs loading small ties has step room fits heard running goes =
      let hears = loading_hears laws t s u r y m loading ties step room fits in
      let h = load_tied laws.steps laws.hear laws.seats laws.stay laws.others t s u r q y m n bs loading ties has step heard
      (running hears.1) goes in
      record {
        ties = h.0;
        own = h.2;
        leads = leads_on t s s u r n (starts (opening_of t) s) ties h.1 (loads_word r r.stage loading ties.running.room)
            (closing_not r.stage loading) small;
      }

  -- by its loads
  pub look_loads : LoadLaws V → (t : TxTable V) (s u : Seat V) (r : TxActor V) (l k found : ℕ) (bs : List (Base V))
      → is_loading (stage_of r.stage) ≡ true → AreSmall (blocks_in t) → Ties t s (at_place r (Look l)) → HasOwn t s (at_place r (Look l)) bs
      → Stepped (opening_of t) s found u → unbits found ≡ Free k → nat_le k r.words.rv ≡ true
      → HasLed t s u (at_place r (Fetch l k)) told.Quiet bs
  look_loads laws t s u r l k found bs e small ties has step free le =
      let a = words.actor_of (record r.words { place = Look l }) in
      let is : goes a (machine.Fetch l k) ≡ seen a l (unbits found) =
      sym (ap (seen a l) free ∙ cond-true (nat_le k r.words.rv) (goes a (machine.Fetch l k)) (goes a machine.Undo) le) in
      let says : notice.Quiet ≡ look_notice a.rv l (unbits found) =
      sym (ap (look_notice a.rv l) free ∙ cond-true (nat_le k r.words.rv) notice.Quiet _ le) in
      loading_on laws t s u (at_place r (Look l)) (record r.words { place = Fetch l k }) bs e small ties has
      (look_steps (opening_of t) s u r.words (record r.words { place = Fetch l k }) l found (Ok None) step is (ap result_of says))
      (λ _. look_room r.words l k) (look_fits r.words l k)

  pub fetch_loads : LoadLaws V → (t : TxTable V) (s u : Seat V) (r : TxActor V) (l k found : ℕ) (bs : List (Base V))
      → is_loading (stage_of r.stage) ≡ true → AreSmall (blocks_in t) → Ties t s (at_place r (Fetch l k))
      → HasOwn t s (at_place r (Fetch l k)) bs → Stepped (opening_of t) s found u
      → HasLed t s u (at_place r (Again l k found)) told.Quiet bs
  fetch_loads laws t s u r l k found bs e small ties has step =
      loading_on laws t s u (at_place r (Fetch l k)) (record r.words { place = Again l k found }) bs e small ties has
      (fetch_steps (opening_of t) s u r.words l k found step) (λ _. fetch_room r.words l k found) (fetch_fits r.words l k found)
