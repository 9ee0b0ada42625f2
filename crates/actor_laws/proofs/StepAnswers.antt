-- What is answered depends on the actor's state and on the number found.
--
-- A step of the words judges by its one word (`notice_alike`), so what it answers is what it answers where every word holds that number.
-- The step that begins a transaction finds the clock and nothing else, by the place that the invariant gives its actor.
use Rattle.std.proofs.Common.{◌≡◌, ℕ, Option, Some, None, List, refl, sym, ap, ◌∙◌, subst}
use Rattle.vlock_word.proofs.LockWordLemmas.{unbits_bits}
use Rattle.vlock_word.specs.LockWord.{bits}
use Rattle.tx_machine.specs.Actor.{Actor, Place, Begin}
use Rattle.tx_machine.specs.World as machine
use Rattle.tx_machine.specs.World.{plan}
use Rattle.tx_machine.specs.Cells.{Cell, ClockCell, LockCell, ValueCell, cell, word_of}
use Rattle.tx_machine.specs.Notices.{notice}
use Rattle.seq_model.specs.declared.held.Held.{Held}
use Rattle.seq_model.specs.declared.event.Event.{Event}
use Rattle.seq_model.specs.declared.event.Event.TheVariants.{Step}
use Rattle.replay_log.specs.Contents.{Block, HaveStripes}
use Rattle.replay_log.specs.Seats.{World, Stage, Beginning, actor_of}
use Rattle.replay_log.specs.Worlds.{happens, opened, run}
use Rattle.replay_log.proofs.SeatLemmas.{StageOk}
use Rattle.replay_log.proofs.EventLemmas.{run_linked, opened_linked}
use Rattle.actor_laws.specs.Machine.{SameWord}
use Rattle.actor_laws.specs.Own.{Alike, SameAfter, FindsAt}
use Rattle.actor_laws.specs.StepAnswers.{everywhere, tells}
use Rattle.actor_laws.proofs.OwnEvents.{notice_alike, own_event}

-- the word that a step touches is one
one_cell : (o : Option Cell) (c d : Cell) → o ≡ Some c → o ≡ Some d → c ≡ d
one_cell o c d e f = let h : Some c ≡ Some d = sym e ∙ f in cc

found_everywhere : (s : machine.World) (c : Cell) → cell s c ≡ cell (everywhere (cell s c)) c
found_everywhere s ClockCell = refl
found_everywhere s (LockCell l) = ap bits (sym (unbits_bits (s.locks l)))
found_everywhere s (ValueCell l) = refl

pub told_by_number : (s : machine.World) (x : Actor) (p : Place) (c : Cell) → word_of (plan x p) ≡ Some c → notice s x p
    ≡ tells x p (cell s c)
told_by_number s x p c e =
    notice_alike s (everywhere (cell s c)) x p
    (λ d f. subst (λ (k : Cell). cell s k ≡ cell (everywhere (cell s c)) k) (one_cell (word_of (plan x p)) c d e f) (found_everywhere s c))

pub told_without : (s : machine.World) (x : Actor) (p : Place) → word_of (plan x p) ≡ None → notice s x p ≡ tells x p 0
told_without s x p e = notice_alike s (everywhere 0) x p (λ c f. absurd (let h : None ≡ Some c = sym e ∙ f in let b : ⊥ = cc in b))

module _ {V : Type 0} where
  begin_finds : (a : ℕ) (v u : World V) → (actor_of v a).place ≡ Begin → v.boosted.words.clock ≡ u.boosted.words.clock
      → SameWord a v.boosted.words u.boosted.words
  begin_finds a v u at same c touches =
      let x : Actor = actor_of v a in
      let is : ClockCell ≡ c = one_cell (word_of (plan x x.place)) ClockCell c (ap (λ (p : Place). word_of (plan x p)) at) touches in
      subst (λ (d : Cell). cell v.boosted.words d ≡ cell u.boosted.words d) is same

  pub begins : (blocks : List Block) (clock : ℕ) (values : List ℕ) (held : List (Held V)) (events : List (Event V)) (a : ℕ) (u : World V)
      → HaveStripes blocks
      → let v = run (opened blocks clock values held) events in
      (v.seats a).stage ≡ Beginning → Alike a v u → v.boosted.words.clock ≡ u.boosted.words.clock → SameAfter a (happens v (Step a))
      (happens u (Step a))
  begins blocks clock values held events a u stripes at e same =
      let v : World V = run (opened blocks clock values held) events in
      let k = run_linked events (opened blocks clock values held) (opened_linked blocks clock values held stripes) in
      let p : Place = (actor_of v a).place in
      let place : p ≡ Begin =
      subst (λ (st : Stage V). StageOk v.words v.blocks (v.seats a) (actor_of v a) (v.boosted.shadows a) st p) at (k.seats a).stage in
      let found : FindsAt a v u Beginning = (refl, begin_finds a v u place same) in
      own_event a v u (Step a) e (refl, subst (λ (st : Stage V). FindsAt a v u st) (sym at) found)
