-- What is next for the word actor of a running actor is what the world with its seat alone does next: at a stage of the words the step is
-- on the word that the machine plans, and that word becomes what the machine makes of it.
use Rattle.std.proofs.Common.{◌≡◌, ℕ, ◌+◌, eqb, cond, Some, refl, sym, ap, ◌∙◌}
use Rattle.tx_machine.specs.Actor as machine
use Rattle.tx_machine.specs.Cells.{ClockCell, becomes, word_of}
use Rattle.tx_machine.specs.World.{Deed, plan}
use Rattle.replay_log.specs.Guards.{step_action}
use Rattle.replay_log.specs.Seats.{World, Stage, Ready, actor_of, moves}
use Rattle.actor_laws.specs.StepTargets.{Spot, Word, deed_of, spot_at, spot_by, spot_of}
use Rattle.actor_laws.specs.Steps.{atomic_action, ready_at}
use Rattle.actor_parts.specs.Dispatch.{next_of}
use Rattle.actor_parts.specs.declared.next.Next.TheVariants as next
use Rattle.step_core.specs.Shown as words
use Rattle.step_core.specs.declared.actor.Actor.{Actor}
use Rattle.shared_table.specs.Seated.{actor, acts}
use Rattle.shared_table.specs.Turns.{stage_of}
use Rattle.shared_table.specs.declared.seat.Seat.{Seat}
use Rattle.tx_turns.proofs.OwnLemmas.{word_action}
use Rattle.tx_turns.specs.NextStep.{IsDeed}
use Rattle.tx_turns.specs.Touches.{Finds, IsClock, IsNext, changed, spot_due}
use Rattle.tx_turns.specs.declared.due.NextStep.{NextStep}
use Rattle.tx_turns.specs.declared.due.NextStep.TheVariants as due

-- ---- a deed
pub spot_is : (d : NextStep) (e : Deed) → IsDeed d e → spot_of (word_of e) ≡ spot_due d
spot_is due.Nothing e h = ap (λ (x : Deed). spot_of (word_of x)) h
spot_is due.LoadClock e h = ap (λ (x : Deed). spot_of (word_of x)) h.1
spot_is due.AddToClock e h = ap (λ (x : Deed). spot_of (word_of x)) h.1
spot_is (due.LoadLock l) e h = ap (λ (x : Deed). spot_of (word_of x)) h.1
spot_is (due.LoadValue l) e h = ap (λ (x : Deed). spot_of (word_of x)) h.1
spot_is (due.Lock l old) e h = ap (λ (x : Deed). spot_of (word_of x)) h.3
spot_is (due.StoreValue l v) e h = ap (λ (x : Deed). spot_of (word_of x)) h.1
spot_is (due.StoreLock l w) e h = ap (λ (x : Deed). spot_of (word_of x)) h.2

pub becomes_is : (d : NextStep) (e : Deed) → IsDeed d e → (k : ℕ) → becomes e k ≡ changed d k
becomes_is due.Nothing e h k = ap (λ (x : Deed). becomes x k) h
becomes_is due.LoadClock e h k = ap (λ (x : Deed). becomes x k) h.1
becomes_is due.AddToClock e h k = ap (λ (x : Deed). becomes x k) h.1
becomes_is (due.LoadLock l) e h k = ap (λ (x : Deed). becomes x k) h.1
becomes_is (due.LoadValue l) e h k = ap (λ (x : Deed). becomes x k) h.1
becomes_is (due.Lock l old) e h k =
    ap (λ (x : Deed). becomes x k) h.3 ∙ ap (λ (n : ℕ). cond (eqb k n) (n + 1) k) (sym h.4)
becomes_is (due.StoreValue l v) e h k = ap (λ (x : Deed). becomes x k) h.1
becomes_is (due.StoreLock l w) e h k = ap (λ (x : Deed). becomes x k) h.2 ∙ sym h.3

-- what a step on the clock left there
pub clock_left : (d : NextStep) (p : Spot) (told found clock left : ℕ) → p ≡ spot_due d → left ≡ changed d found → Finds d told found
    → IsClock d told clock → p ≡ Word ClockCell → clock ≡ left
clock_left due.Nothing p told found clock left at is finds known e = absurd (let q = sym at ∙ e in let z : ⊥ = cc in z)
clock_left due.LoadClock p told found clock left at is finds known e = known ∙ finds ∙ sym is
clock_left due.AddToClock p told found clock left at is finds known e = known.0 ∙ ap (λ (k : ℕ). k + 1) finds ∙ sym is
clock_left (due.LoadLock l) p told found clock left at is finds known e = absurd (let q = sym at ∙ e in let z : ⊥ = cc in z)
clock_left (due.LoadValue l) p told found clock left at is finds known e = absurd (let q = sym at ∙ e in let z : ⊥ = cc in z)
clock_left (due.Lock l old) p told found clock left at is finds known e = absurd (let q = sym at ∙ e in let z : ⊥ = cc in z)
clock_left (due.StoreValue l v) p told found clock left at is finds known e = absurd (let q = sym at ∙ e in let z : ⊥ = cc in z)
clock_left (due.StoreLock l w) p told found clock left at is finds known e = absurd (let q = sym at ∙ e in let z : ⊥ = cc in z)

module _ {V : Type 0} where
  -- ---- a stage of the words
  same_action : (u : World V) (a : ℕ) (s : Stage V) → next_of s ≡ next.Word → atomic_action a u s ≡ step_action u a s
  same_action u a (Ready ks) e = let z : ⊥ = cc in absurd z
  same_action u a s e = refl

  same_world : (u : World V) (a : ℕ) (s : Stage V) → next_of s ≡ next.Word → ready_at a u s ≡ u
  same_world u a (Ready ks) e = let z : ⊥ = cc in absurd z
  same_world u a s e = refl

  pub word_spot : (u : World V) (a : ℕ) (s : Stage V) → next_of s ≡ next.Word → spot_at a u s ≡ spot_of (word_of (deed_of u a))
  word_spot u a s e =
      let is : atomic_action a u s ≡ Some (moves a) = same_action u a s e ∙ word_action u a s e in
      (λ i. spot_by a (same_world u a s e i) (is i))

  -- the world with s alone has x as its word actor
  pub next_is : (o : World V) (s : Seat V) (x : Actor) → next_of (stage_of (acts o s) (actor s)) ≡ next.Word
      → actor_of (acts o s) (actor s) ≡ words.actor_of x → IsNext o s x
  next_is o s x e is d h =
      let u = acts o s in
      let a = actor s in
      let p = stage_of u a in
      let same : deed_of u a ≡ plan (words.actor_of x) (words.actor_of x).place = ap (λ (y : machine.Actor). plan y y.place) is in
      record {
        spot = word_spot u a p e ∙ ap (λ (f : Deed). spot_of (word_of f)) same ∙ spot_is d _ h;
        becomes = λ k. ap (λ (v : World V). becomes (deed_of v a) k) (same_world u a p e)
            ∙ ap (λ (f : Deed). becomes f k) same ∙ becomes_is d _ h k;
      }
