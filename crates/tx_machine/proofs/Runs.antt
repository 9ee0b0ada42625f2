-- The words of a world with collections are a world of the word machine. So what the word machine says of every schedule is true of them,
-- as that a number of a transaction which aborted is never used.
use Rattle.std.proofs.Common.{◌≡◌, ℕ, List, [], ◌∷◌, ◌++◌, refl, sym, ap, ◌∙◌, subst, None, Some}
use Rattle.std.specs.Prelude.{◌&&◌, not, if◌then◌else◌}
use Rattle.std.proofs.lemmas.Bool.{cond_both}
use Rattle.tx_sets.specs.Entries.{locations}
use Rattle.tx_machine.specs.Actor.{Place}
use Rattle.tx_machine.specs.Requests.{Request, AskBegin, AskBeginRead, AskRead, AskWrite, AskLock, AskStore, AskRelease, AskCancel}
use Rattle.tx_machine.specs.Requests.{AskAbort, AskClose}
use Rattle.tx_machine.specs.World.{Memory, StepEnd, GoesOn, Commits, Aborts, step_end, put, World, step, Event, Ask, Step, happens, run}
use Rattle.tx_machine.specs.Opacity.{NoWriterHas}
use Rattle.tx_machine.specs.Refusals.{IsEnding}
use Rattle.tx_machine.proofs.Numbers as machine
use Rattle.tx_machine.proofs.Numbers.{GivesUp}
use Rattle.tx_machine.specs.Content.{Content, Frame}
use Rattle.tx_machine.specs.Boosted.{may_write, Boosted, Action, OnWords, TakeGate, PutGate, Accept, GoHome, on_words, on_ask}
use Rattle.tx_machine.specs.Boosted.{shadows_after, recorded, word_step, changes, acts, act_all, is_held, is_given, every, is_open}
use Rattle.tx_machine.specs.Boosted.{is_sound, writes_asked, is_none, is_committing, is_actor, is_stored, copied, gated, homed}
use Rattle.tx_machine.specs.Boosted.{opens}
use Rattle.tx_machine.specs.Serial.{words, after_actions}
use Rattle.tx_machine.proofs.BoostedFrame.{worded}
use Rattle.tx_machine.proofs.BoostedSchedules.{all_ok, opens_ok}

run-append : (es fs : List Event) (s : World) → run (es ++ fs) s ≡ run fs (run es s)
run-append [] fs s = refl
run-append (e ∷ es) fs s = run-append es fs (happens s e)

pub recorded_words : {X Out : Type 0} → (s : Boosted X Out) (os : List Out) (o : StepEnd) → (recorded s os o).words ≡ s.words
recorded_words s os GoesOn = refl
recorded_words s os (Commits r) = refl
recorded_words s os (Aborts e) = refl

module _ {X Op Out : Type 0} (c : Content X Op Out) where
  -- some events of the words lead there
  abbrev Runs : World → Boosted X Out → Type 0
  Runs w t = (es : List Event) × (t.words ≡ run es w)

  ask_runs : (s : Boosted X Out) (a : ℕ) (r : Request) → Runs s.words (on_ask c s a r)
  ask_runs s a (AskWrite l v) = cond_both (c.plain l) (on_words s (happens s.words (Ask a (AskWrite l v)))) s (Runs s.words)
      (λ _. (Ask a (AskWrite l v) ∷ [], refl)) (λ _. ([], refl))
  ask_runs s a AskStore = cond_both (every (is_held c s a) (locations (s.words.actors a).writes))
      (on_words s (happens s.words (Ask a AskStore))) s (Runs s.words) (λ _. (Ask a AskStore ∷ [], refl)) (λ _. ([], refl))
  ask_runs s a AskRelease = cond_both (every (is_given c s a) (locations (s.words.actors a).writes))
      (on_words s (happens s.words (Ask a AskRelease))) s (Runs s.words) (λ _. (Ask a AskRelease ∷ [], refl)) (λ _. ([], refl))
  ask_runs s a AskBegin = (Ask a AskBegin ∷ [], refl)
  ask_runs s a AskBeginRead = (Ask a AskBeginRead ∷ [], refl)
  ask_runs s a AskLock = (Ask a AskLock ∷ [], refl)
  ask_runs s a AskCancel = (Ask a AskCancel ∷ [], refl)
  ask_runs s a AskAbort = (Ask a AskAbort ∷ [], refl)
  ask_runs s a AskClose = (Ask a AskClose ∷ [], refl)
  ask_runs s a (AskRead l) = (Ask a (AskRead l) ∷ [], refl)

  step_is : (s : Boosted X Out) (a : ℕ) (p : Place) → (word_step s a (s.words.actors a) p).words ≡ step s.words a (s.words.actors a) p
  step_is s a p = recorded_words (record s { words = step s.words a (s.words.actors a) p; shadows = shadows_after s a p })
      (s.shadows a).outcomes (step_end a (s.words.actors a) p)

  act_runs : (s : Boosted X Out) (e : Action Op) → Runs s.words (acts c s e)
  act_runs s (OnWords (Ask a r)) = ask_runs s a r
  act_runs s (OnWords (Step a)) = (Step a ∷ [], step_is s a (s.words.actors a).place)
  act_runs s (TakeGate a k) = cond_both (is_none (s.gates k) && not (is_committing (s.words.actors a).place))
      (gated s (put s.gates k (Some a)) s.shadows) s (Runs s.words) (λ _. ([], refl)) (λ _. ([], refl))
  act_runs s (PutGate a k which) = cond_both (is_actor a (s.gates k) && not (is_committing (s.words.actors a).place))
      (gated s (put s.gates k None)
      (if is_open (s.words.actors a).place then put s.shadows a
      (copied c s (s.words.actors a).calls (s.shadows a) k which) else s.shadows)) s (Runs s.words) (λ _. ([], refl)) (λ _. ([], refl))
  act_runs s (Accept a op) =
      let o : Out = c.outcome (changes c (s.shadows a).outcomes (s.shadows a).parts) op in
      let es = writes_asked a (s.shadows a).editions (c.writes o) in
      cond_both (is_open (s.words.actors a).place &&
      (may_write (s.words.actors a).declared (c.writes o) && every (is_sound c s a) (c.reads o)))
      (worded s (run es s.words)
      (put s.shadows a (record {
        copied = (s.shadows a).copied;
        parts = (s.shadows a).parts;
        editions = (s.shadows a).editions;
        outcomes = (s.shadows a).outcomes ++ o ∷ [];
      })) s.history s.aborted) s (Runs s.words)
      (λ _. (es, refl)) (λ _. ([], refl))
  act_runs s (GoHome a k) = cond_both (is_actor a (s.gates k) && is_stored (s.words.actors a).place) (homed c s a k) s (Runs s.words)
      (λ _. ([], refl)) (λ _. ([], refl))

  pub all_run : (es : List (Action Op)) (s : Boosted X Out) → (ws : List Event) × ((act_all c es s).words ≡ run ws s.words)
  all_run [] s = ([], refl)
  all_run (e ∷ es) s =
      let a = act_runs s e in
      let b = all_run es (acts c s e) in
      (a.0 ++ b.0, b.1 ∙ ap (run b.0) a.1 ∙ sym (run-append a.0 b.0 s.words))

  pub unused_later : Frame c → (clock : ℕ) (memory : Memory) (parts : ℕ → X) (actions later : List (Action Op)) (a : ℕ)
      → IsEnding ((after_actions c clock memory parts actions).words.actors a).place
      → NoWriterHas ((after_actions c clock memory parts actions).words.actors a).wv
      (words (act_all c later (after_actions c clock memory parts actions)).history)
  unused_later f clock memory parts actions later a ends =
      let s = after_actions c clock memory parts actions in
      let r = all_run actions (opens clock memory parts) in
      let q = all_run later s in
      let v = all_ok c f later s (all_ok c f actions (opens clock memory parts) (opens_ok c f clock memory parts)) in
      subst (NoWriterHas (s.words.actors a).wv) (sym v.same)
      (subst (λ (z : World). NoWriterHas (s.words.actors a).wv z.history) (sym q.1)
      (subst (λ (z : World). NoWriterHas (z.actors a).wv (run q.0 z).history) (sym r.1)
      (machine.unused_later clock memory r.0 q.0 a (subst (λ (z : World). IsEnding (z.actors a).place) r.1 ends))))

  pub unused_yet : Frame c → (clock : ℕ) (memory : Memory) (parts : ℕ → X) (actions : List (Action Op)) (a : ℕ)
      → GivesUp ((after_actions c clock memory parts actions).words.actors a).place
      → NoWriterHas ((after_actions c clock memory parts actions).words.actors a).wv
      (words (after_actions c clock memory parts actions).history)
  unused_yet f clock memory parts actions a at =
      let s = after_actions c clock memory parts actions in
      let r = all_run actions (opens clock memory parts) in
      let v = all_ok c f actions (opens clock memory parts) (opens_ok c f clock memory parts) in
      subst (NoWriterHas (s.words.actors a).wv) (sym v.same)
      (subst (λ (z : World). NoWriterHas (z.actors a).wv z.history) (sym r.1)
      (machine.unused_yet clock memory r.0 a (subst (λ (z : World). GivesUp (z.actors a).place) r.1 at)))
