-- The laws of the machine, of the running words.
use Rattle.std.proofs.Common.{◌≡◌, ℕ, zero, suc, ◌<◌, List, [], ◌∷◌, Option, Some, None, Result, Ok, get_or, length, map, inl, inr, refl}
use Rattle.std.proofs.Common.{sym, ap, ◌∙◌, subst, arith}
use Rattle.std.specs.Prelude.{IfSome, slice_get}
use Rattle.vlock_word.specs.LockWord.{bits, unbits}
use Rattle.vlock_word.proofs.LockWordLemmas.{bits_unbits}
use Rattle.tx_sets.specs.Entries.{lookup}
use Rattle.tx_machine.specs.Actor as machine
use Rattle.tx_machine.specs.World.{Memory, Record, World, Event, Step, blank, happens, run, start, in_order}
use Rattle.tx_machine.specs.Opacity.{IsRun, IsInOrder, IsLegal, IsHalfDone, AllUpto, NoWriterHas, memory_after, memory_at, upto}
use Rattle.tx_machine.proofs.Invariant.{Inv}
use Rattle.tx_machine.specs.Notices.{Notice, Quiet, NoTransaction, Begun, Number, LockedAt, Written, Stored, Released, Cancelled, Closed}
use Rattle.tx_machine.specs.Notices.{Moved, Busy, Invalid, Exhausted, notice}
use Rattle.tx_machine.specs.Progress.{step_limit, steps_left, IsAnswered}
use Rattle.tx_machine.proofs.Schedules.{all_upto, reached, opened_at, legal_of, serial, aborted_later, actor_saw, run_saw, words_at_rest}
use Rattle.tx_machine.proofs.Schedules.{owned, begins_at}
use Rattle.tx_machine.proofs.Progress.{progress}
use Rattle.tx_machine.proofs.AnswerBound.{step_other, step_further}
use Rattle.tx_machine.proofs.Short.{few}
use Rattle.tx_machine.proofs.Numbers.{unused_later}
use Rattle.tx_machine.proofs.Refusals.{notice_true, notice_names}
use Rattle.tx_machine.specs.Refusals.{IsEnding}
use Rattle.step_core.specs.Answers.{result_of}
use Rattle.step_core.specs.Shown.{Shown, shown, actor_in, actor_of, Steps, Reached, snapshot_of}
use Rattle.step_core.specs.Opaque.{words_at, world_of, IsAnswerOf, IsAtRest, Opaque, AreNumbered, Saw, KeepsOthers, BeginsAbove, HasCause}
use Rattle.step_core.specs.Opaque.{Nears, steps_due}
use Rattle.step_core.specs.Sound.{Fits, Sound}
use Rattle.step_core.specs.declared.actor.Actor.{Actor}
use Rattle.step_core.specs.declared.machine.Machine.{Machine}
use Rattle.step_core.proofs.Lists.{All-at}
use Rattle.step_core.proofs.Moves.{actor_at_go}
use Rattle.step_core.specs.declared.answer.WordAnswer.{WordAnswer}
use Rattle.step_core.specs.declared.answer.WordRefusal.{WordRefusal}

pub saw_of : (v : Shown) (r : Reached v) (a : ℕ) → IsLegal (words_at r.opening v (actor_in v a).rv) (actor_in v a).calls
unfolding memory_at
saw_of v r a =
    let s = run r.events (start r.clock r.opening) in
    let i : Inv s = reached r.clock r.opening r.events in
    let now : IsLegal (memory_after s.opening (upto (s.actors a).rv s.history)) (s.actors a).calls = legal_of s (s.actors a).rv
    (s.actors a).calls (actor_saw s a i) in
    subst (λ (x : machine.Actor). IsLegal (memory_after r.opening (upto x.rv (in_order [] v.history))) x.calls) (r.shows.actors a)
    (subst (λ (h : List Record). IsLegal (memory_after r.opening (upto (s.actors a).rv h)) (s.actors a).calls) r.shows.history
    (subst (λ (m : Memory). IsLegal (memory_after m (upto (s.actors a).rv s.history)) (s.actors a).calls)
    (opened_at r.clock r.opening r.events) now))

serial_of : (v : Shown) (r : Reached v) → IsRun r.opening (in_order [] v.history)
serial_of v r =
    let s = run r.events (start r.clock r.opening) in
    subst (IsRun r.opening) r.shows.history
    (subst (λ (m : Memory). IsRun m s.history) (opened_at r.clock r.opening r.events) (serial s (reached r.clock r.opening r.events)))

words_of : (v : Shown) (r : Reached v) → IsAtRest v → (l : ℕ) → get_or v.values l 0 ≡ memory_after r.opening (in_order [] v.history) l
words_of v r rest l =
    let s = run r.events (start r.clock r.opening) in
    let end = words_at_rest s (reached r.clock r.opening r.events)
    (λ a half. rest a (subst (λ (x : machine.Actor). IsHalfDone x.place) (r.shows.actors a) half)) l in
    sym (r.shows.values l) ∙ end
    ∙ ap (λ (m : Memory). memory_after m s.history l) (opened_at r.clock r.opening r.events)
    ∙ ap (λ (h : List Record). memory_after r.opening h l) r.shows.history

later_of : (v : Shown) (r : Reached v) (a : ℕ) (events : List Event)
    → IsLegal (memory_at (run events (world_of v r)) (actor_in v a).rv) (actor_in v a).calls
later_of v r a events =
    let s = world_of v r in
    let i : Inv s = reached r.clock r.opening r.events in
    subst (λ (x : machine.Actor). IsLegal (memory_at (run events s) x.rv) x.calls) (r.shows.actors a)
    (legal_of (run events s) (s.actors a).rv (s.actors a).calls (run_saw events s (s.actors a).rv (s.actors a).calls i (actor_saw s a i)))

saw_always : (v : Shown) (a : ℕ) → Saw v a (actor_in v a).rv
saw_always v a = record { now = λ r. saw_of v r a; later = λ r events. later_of v r a events }

pub opaque_of : (v : Shown) → Reached v → Opaque v
opaque_of v r = record {
  reached = r;
  ordered = subst IsInOrder r.shows.history (reached r.clock r.opening r.events).ordered;
  serial = λ q. serial_of v q;
  words = λ q. words_of v q;
  saw = λ a. saw_always v a;
  aborted = λ q later. aborted_later later (world_of v q) (reached q.clock q.opening q.events);
}

-- the numbers of records, and of commits that aborted
pub numbered_of : (v : Shown) → Reached v → AreNumbered v
numbered_of v r =
    let s = world_of v r in
    let all : AllUpto s.clock s.history = all_upto s s.history (reached r.clock r.opening r.events).records in
    record {
      upto = subst (λ (c : ℕ). AllUpto c (in_order [] v.history)) r.shows.clock (subst (AllUpto s.clock) r.shows.history all);
      unused = λ q a later ends.
          let t = world_of v q in
          subst (λ (x : machine.Actor). NoWriterHas x.wv (run later t).history) (q.shows.actors a)
          (unused_later q.clock q.opening q.events later a (subst (λ (x : machine.Actor). IsEnding x.place) (sym (q.shows.actors a)) ends));
    }

-- what a step answers is true of the words that it found
pub has_cause : (v u : Shown) (a : ℕ) (answer : Result (Option WordAnswer) WordRefusal) → Steps v a u answer → HasCause v a answer
has_cause v u a answer st = record {
  cause = λ r.
      let s = world_of v r in
      let x = s.actors a in
      let now : IsAnswerOf s x answer = (
        (st s r.shows).1,
        notice_true s x x.place
            ((reached r.clock r.opening r.events).actors a).place,
        notice_names s x x.place,
      ) in
      subst (λ (y : machine.Actor). IsAnswerOf s y answer) (r.shows.actors a) now;
}

-- an open transaction saw the words of its snapshot
pub snapshot_saw : (v : Shown) (a : ℕ) (p : machine.Place) → IfSome (snapshot_of (actor_in v a) p) (λ rv. Saw v a rv)
snapshot_saw v a machine.Idle = tt
snapshot_saw v a machine.Begin = tt
snapshot_saw v a (machine.Store ls) = tt
snapshot_saw v a machine.Release = tt
snapshot_saw v a p = saw_always v a

-- equal lock words are equal numbers
same_number : (m n : ℕ) → unbits m ≡ unbits n → m ≡ n
same_number m n e = sym (bits_unbits m) ∙ ap bits e ∙ bits_unbits n

pub keeps_others : (v u : Shown) (a : ℕ) (answer : Result (Option WordAnswer) WordRefusal) → Reached v → Steps v a u answer
    → KeepsOthers v a u
keeps_others v u a answer r st =
    let s = world_of v r in
    let after = (st s r.shows).0 in
    record {
      actors = λ b ne. sym (after.actors b) ∙ step_other s a b ne ∙ r.shows.actors b;
      words = λ b l k h ne. (
          let same = owned s (Step a) b l k (reached r.clock r.opening r.events)
          (ap (λ (x : machine.Actor). lookup x.held l) (r.shows.actors b) ∙ h) ne in (
            same_number (get_or u.locks l 0) (get_or v.locks l 0) (sym (after.locks l) ∙ same.0 ∙ r.shows.locks l),
            sym (after.values l) ∙ same.1 ∙ r.shows.values l,
          ));
    }

pub begins_above : (v u : Shown) (a : ℕ) (answer : Result (Option WordAnswer) WordRefusal) → Reached v → Steps v a u answer
    → BeginsAbove v a u
begins_above v u a answer r st at_begin at_open =
    let s = run r.events (start r.clock r.opening) in
    let after = (st s r.shows).0 in
    let all = begins_at s a (reached r.clock r.opening r.events) (ap (λ (x : machine.Actor). x.place) (r.shows.actors a) ∙ at_begin)
    (ap (λ (x : machine.Actor). x.place) (after.actors a) ∙ at_open) in
    subst (λ (x : machine.Actor). AllUpto x.rv (in_order [] v.history)) (after.actors a)
    (subst (λ (h : List Record). AllUpto ((happens s (Step a)).actors a).rv h) r.shows.history all)

-- a step that continues answers nothing
goes_on : (n : Notice) → result_of n ≡ Ok None → IsAnswered n → ⊥
goes_on Quiet e h = h
goes_on NoTransaction e h = (let b : ⊥ = cc in b)
goes_on (Begun rv) e h = (let b : ⊥ = cc in b)
goes_on (Number v) e h = (let b : ⊥ = cc in b)
goes_on Written e h = (let b : ⊥ = cc in b)
goes_on (LockedAt wv) e h = (let b : ⊥ = cc in b)
goes_on Stored e h = (let b : ⊥ = cc in b)
goes_on Released e h = (let b : ⊥ = cc in b)
goes_on Cancelled e h = (let b : ⊥ = cc in b)
goes_on Closed e h = (let b : ⊥ = cc in b)
goes_on (Moved l w) e h = (let b : ⊥ = cc in b)
goes_on (Busy l w) e h = (let b : ⊥ = cc in b)
goes_on (Invalid l w) e h = (let b : ⊥ = cc in b)
goes_on (Exhausted c) e h = (let b : ⊥ = cc in b)

pub nears : (v u : Shown) (a : ℕ) (answer : Result (Option WordAnswer) WordRefusal) → Reached v → Steps v a u answer → Nears v a u answer
nears v u a answer r st =
    let s = world_of v r in
    let i : Inv s = reached r.clock r.opening r.events in
    let x = s.actors a in
    let after = (st s r.shows).0 in
    let before : steps_left x x.place ≡ steps_due v a = ap (λ (z : machine.Actor). steps_left z z.place) (r.shows.actors a) in
    let then_ : steps_left ((happens s (Step a)).actors a) ((happens s (Step a)).actors a).place
    ≡ steps_due u a = ap (λ (z : machine.Actor). steps_left z z.place) (after.actors a) in
    record {
      fewer = λ h. (let q : steps_left ((happens s (Step a)).actors a)
          ((happens s (Step a)).actors a).place < steps_left x x.place = progress s a i (omega (arith, h, before)) in omega
          (arith, q, before, then_));
      more = λ e. elim (step_further s a x x.place (i.actors a).place) [
        | inl n ↦ absurd (goes_on (notice s x x.place) (sym (st s r.shows).1 ∙ e) n)
        | inr m ↦ omega (arith, m, then_)
      ];
    }

-- no request takes many steps, as no set has many locations
pub soon : (w : Machine) (a : ℕ) → Sound w → Reached (shown w) → steps_due (shown w) a < step_limit
soon w a v r = go (slice_get w.actors.items a) refl
  where
    s : World
    s = world_of (shown w) r

    same : s.actors a ≡ actor_in (shown w) a
    same = r.shows.actors a

    none : (xs : List Actor) (i : ℕ) → slice_get xs i ≡ None → get_or (map actor_of xs) i blank ≡ blank
    none [] zero h = refl
    none [] (suc i) h = refl
    none (x ∷ xs) zero h = (let b : ⊥ = cc in absurd b)
    none (x ∷ xs) (suc i) h = none xs i h

    go : (o : Option Actor) → slice_get w.actors.items a ≡ o → steps_due (shown w) a < step_limit
    go None e = (let q = ap (λ (z : machine.Actor). steps_left z z.place) (none w.actors.items a e) in omega (arith, q))
    go (Some x) e =
        (let f = All-at (Fits (length w.cells.locks.items)) w.actors.items a x v.actors e in
        let is : s.actors a ≡ actor_of x = same ∙ actor_at_go w.actors.items a x e in
        let rs = ap (λ (z : machine.Actor). length z.reads) is in
        let ws = ap (λ (z : machine.Actor). length z.writes) is in
        let most = few r.events r.clock r.opening a (omega (arith, f.reads_few, rs)) (omega (arith, f.writes_few, ws)) in
        let q = ap (λ (z : machine.Actor). steps_left z z.place) same in
        omega (arith, most, q))
