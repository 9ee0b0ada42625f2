-- A world with collections, as the sequential ones see it: whatever actions led to a world, its history is a run from the
-- parts that it was opened with. By that its transactions, and what it shows, are said of states and not of parts.
use Rattle.std.proofs.Common.{false, ◌≡◌, ℕ, List, subst, refl, sym, ap, ◌∙◌}
use Rattle.tx_machine.specs.World.{Memory}
use Rattle.tx_machine.specs.Opacity.{IsInOrder, IsNoneHalfDone}
use Rattle.tx_machine.specs.Content.{Content, Frame}
use Rattle.tx_machine.specs.Boosted.{Boosted, Action, act_all, opens}
use Rattle.tx_machine.specs.Serial.{AreLegal, AreRun, AllAborted, words, view, views}
use Rattle.tx_machine.proofs.States.{Sequential, Model, AreAll, AreReplies, after_all, state_at}
use Rattle.tx_machine.proofs.BoostedInvariant.{Inv}
use Rattle.tx_machine.proofs.BoostedQuiet.{saw_open}
use Rattle.tx_machine.proofs.BoostedSchedules.{all_ok, all_saw, all-opening, opens_ok, legal_parts, are_run, aborted_legal, at_rest}
use Rattle.tx_machine.proofs.Models.{run_of, replies_at, aborted_at}

-- a world that was opened with these parts
pub record Opened {X Op Out : Type 0} (c : Content X Op Out) (parts : ℕ → X) (s : Boosted X Out) : Type 0 where
  pub inv : Inv c s
  pub opening : s.opening ≡ parts
  pub runs : AreRun c parts s.history
  pub order : IsInOrder (words s.history)

pub opened : {X Op Out : Type 0} → (c : Content X Op Out) → Frame c → (parts : ℕ → X) (s : Boosted X Out) → Inv c s → s.opening ≡ parts
    → Opened c parts s
opened c f parts s v o = record {
  inv = v;
  opening = o;
  runs = subst (λ (z : ℕ → _). AreRun c z s.history) o (are_run c f s v);
  order = subst IsInOrder (sym v.same) v.machine.ordered;
}

pub reached : {X Op Out : Type 0} → (c : Content X Op Out) → Frame c → (clock : ℕ) (memory : Memory) (parts : ℕ → X)
    (actions : List (Action Op)) → Opened c parts (act_all c actions (opens clock memory parts))
reached c f clock memory parts actions =
    let b = opens clock memory parts in
    let v = opens_ok c f clock memory parts in
    opened c f parts (act_all c actions b) (all_ok c f actions b v) (all-opening c f actions b v).0

module _ {X Op Out S R : Type 0} (c : Content X Op Out) (f : Frame c) (q : Sequential Op Out S R) (Fits : S → Type 0) (m : Model c q Fits)
    (clock : ℕ) (memory : Memory) (opening : S) (fit : Fits opening) (actions : List (Action Op)) where
  abbrev world : Boosted X Out
  world = act_all c actions (opens clock memory (m.shown opening))

  pub states_serial : AreAll q opening world.history
  states_serial = (run_of c f q Fits m world.history (m.shown opening) opening fit (λ l. refl)
      (reached c f clock memory (m.shown opening) actions).runs).0

  pub states_left : IsNoneHalfDone world.words → (l : ℕ) → c.plain l ≡ false → world.parts l
      ≡ m.shown (after_all q opening world.history) l
  states_left none l pl =
      let r = reached c f clock memory (m.shown opening) actions in
      sym (at_rest c f world r.inv none l pl).0 ∙ ap (λ (z : ℕ → X). views c world.history z l) r.opening
      ∙ (run_of c f q Fits m world.history (m.shown opening) opening fit (λ l. refl) r.runs).1 l

  pub states_saw : (later : List (Action Op)) (a : ℕ) → AreReplies q
      (state_at q (act_all c later world).history (world.words.actors a).rv opening) (world.shadows a).outcomes
  states_saw later a =
      let r = reached c f clock memory (m.shown opening) actions in
      let t = act_all c later world in
      let o = opened c f (m.shown opening) t (all_ok c f later world r.inv) ((all-opening c f later world r.inv).0 ∙ r.opening) in
      let n = (world.words.actors a).rv in
      let os = (world.shadows a).outcomes in
      replies_at c f q Fits m t.history n opening os fit o.runs o.order
      (subst (λ (z : ℕ → X). AreLegal c (view c t.history n z) os) o.opening
      (legal_parts c f t n os o.inv (all_saw c f later world n os r.inv (saw_open c world a r.inv))))

  pub states_aborted : AllAborted (λ e. AreReplies q (state_at q world.history e.word.rv opening) e.outcomes) world.aborted
  states_aborted =
      let r = reached c f clock memory (m.shown opening) actions in
      aborted_at c f q Fits m world.history opening world.aborted fit r.runs r.order
      (subst (λ (z : ℕ → X). AllAborted (λ e. AreLegal c (view c world.history e.word.rv z) e.outcomes) world.aborted) r.opening
      (aborted_legal c f world world.aborted r.inv r.inv.aborted))
