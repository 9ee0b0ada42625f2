-- The checks of what a commit has read, in straight code.
--
-- A check is one load, which changes of the actor nothing but the index at which it stands. So a check that passes leads from `Check i` to
-- `Check (i + 1)` (`check_led`), and that the actor stands there is all of the loop's invariant. What the last check found, or
-- one that fails, is handed to the actor: such a step is like any other of a commit that is locking (`locking_heard` of `LockLemmas`).
use Rattle.std.proofs.Common.{◌≡◌, ℕ, ◌+◌, ◌<◌, true, List, Option, Some, None, Result}
use Rattle.std.proofs.Common.{Ok, length, drop, get_or, refl, sym, ap, ◌∙◌, le-leb, arith}
use Rattle.std.proofs.lemmas.Bool.{cond-true}
use Rattle.std.specs.Prelude.{nat_le}
use Rattle.tx_sets.specs.Entries.{locations, lookup}
use Rattle.vlock_word.specs.LockWord.{bits, unbits}
use Rattle.vlock_word.specs.declared.lock_word.LockWord.{LockWord}
use Rattle.vlock_word.specs.declared.lock_word.LockWord.TheVariants.{Free, Locked}
use Rattle.tx_machine.specs.Actor as machine
use Rattle.tx_machine.specs.Actor.{goes, seen_in_check}
use Rattle.tx_machine.specs.Cells.{LockCell}
use Rattle.tx_machine.specs.Notices as notice
use Rattle.tx_machine.specs.Notices.{check_notice, when_none_left}
use Rattle.replay_log.specs.declared.base.Base.{Base}
use Rattle.replay_log.specs.Seats.{World}
use Rattle.replay_log.specs.WorldProgress.{AreSmall}
use Rattle.step_core.proofs.Lists.{some_left}
use Rattle.step_core.specs.Answers.{result_of}
use Rattle.step_core.specs.Shown as words
use Rattle.step_core.specs.Sound.{Fits}
use Rattle.step_core.specs.declared.actor.Actor.{Actor}
use Rattle.step_core.specs.declared.actor.Place.TheVariants.{Check}
use Rattle.step_core.specs.declared.answer.WordAnswer.{WordAnswer}
use Rattle.step_core.specs.declared.answer.WordRefusal.{WordRefusal}
use Rattle.actor_parts.specs.Dispatch.{AreSteps}
use Rattle.tx_actor.specs.declared.actor.ActorNotice.TheVariants as told
use Rattle.tx_actor.specs.declared.actor.TxActor.{TxActor}
use Rattle.shared_table.specs.declared.seat.Seat.{Seat}
use Rattle.shared_table.specs.declared.table.TxTable.{TxTable}
use Rattle.shared_table.specs.Seated.{Loads, Stepped, acts, actor, blocks_in, opening_of, view}
use Rattle.tx_turns.proofs.NextStepLemmas.{check_is, learns_check}
use Rattle.tx_turns.specs.Touches.{StepsWords}
use Rattle.tx_turns.specs.declared.due.NextStep.TheVariants as due
use Rattle.tx_turns.proofs.TurnLemmas.{word_is_next}
use Rattle.tx_turns.specs.Ties.{Ties}
use Rattle.tx_turns.specs.Laws.{WordsKeep}
use Rattle.tx_turns.specs.Own.{HasOwn}
use Rattle.tx_turns.proofs.LockLemmas.{locking_led, next_locking}
use Rattle.tx_turns.specs.Straight.{HasLed, Passes, at_place, is_locking}

-- what passes continues
passed_goes : (x : machine.Actor) (ls : List ℕ) (word : LockWord) (own : Option ℕ) → Passes x.rv word own
    → goes x (machine.Check ls) ≡ seen_in_check x ls word own
passed_goes x ls (Free k) own h = sym (cond-true (nat_le k x.rv) (goes x (machine.Check ls)) (goes x machine.Broken) (le-leb k x.rv h))
passed_goes x ls (Locked k) (Some v) h =
    sym (cond-true (nat_le k x.rv) (goes x (machine.Check ls)) (goes x machine.Broken) (le-leb k x.rv h))
passed_goes x ls (Locked k) None h = absurd h

passed_tells : (rv wv l : ℕ) (ls : List ℕ) (word : LockWord) (own : Option ℕ) → Passes rv word own
    → when_none_left ls (notice.LockedAt wv) ≡ check_notice rv wv l ls word own
passed_tells rv wv l ls (Free k) own h =
    sym (cond-true (nat_le k rv) (when_none_left ls (notice.LockedAt wv)) (notice.Invalid l (bits (Free k))) (le-leb k rv h))
passed_tells rv wv l ls (Locked k) (Some v) h =
    sym (cond-true (nat_le k rv) (when_none_left ls (notice.LockedAt wv)) (notice.Invalid l (bits (Locked k))) (le-leb k rv h))
passed_tells rv wv l ls (Locked k) None h = absurd h

pub check_fits : (x : Actor) (i j : ℕ) (n : ℕ) → Fits n (record x { place = Check i }) → Fits n (record x { place = Check j })
check_fits x i j n h = record {
  reads = h.reads;
  writes = h.writes;
  reads_rise = h.reads_rise;
  writes_rise = h.writes_rise;
  reads_few = h.reads_few;
  writes_few = h.writes_few;
  held = h.held;
  wv = h.wv;
  place = tt;
}

module _ {V : Type 0} where
  pub check_due : (t : TxTable V) (s : Seat V) (r : TxActor V) (i : ℕ) (e : ℕ × ℕ) → is_locking r.stage ≡ true
      → i < length r.words.reads.entries → e ≡ get_or r.words.reads.entries i e → Ties t s (at_place r (Check i))
      → Loads (actor s) (acts (opening_of t) s) (LockCell e.0)
  check_due t s r i e locking low is ties =
      let x = record r.words { place = Check i } in
      let h = word_is_next t s (at_place r (Check i)) (next_locking r.stage locking) ties (due.LoadLock e.0)
      (_, check_is x i e low is) in
      (h.spot, h.becomes)

  pub check_steps : (o : World V) (s u : Seat V) (x y : Actor) (i : ℕ) (e : ℕ × ℕ) (found : ℕ) (m : Result (Option WordAnswer) WordRefusal)
      → Stepped o s found u → i < length x.reads.entries → e ≡ get_or x.reads.entries i e
      → let a = words.actor_of (record x { place = Check i }) in
      words.actor_of y
      ≡ seen_in_check a (drop (i + 1) (locations x.reads.entries)) (unbits found) (lookup x.writes.entries e.0)
      → m ≡ result_of (check_notice x.rv x.wv e.0 (drop (i + 1) (locations x.reads.entries)) (unbits found)
      (lookup x.writes.entries e.0)) → StepsWords o s (record x { place = Check i }) u y m
  check_steps o s u x y i e found m step low is learnt says =
      let z = record x { place = Check i } in
      record {
        due = due.LoadLock e.0;
        number = found;
        deed = (_, check_is z i e low is);
        touches = record { clock = (view s).clock; found = found; takes = step; finds = refl; rises = omega arith; clocks = tt };
        learns = learns_check z y i found e m refl low is learnt says;
      }

  -- it passes, and others are left
  pub check_led : AreSteps V → WordsKeep V → (t : TxTable V) (s u : Seat V) (r : TxActor V) (i : ℕ) (e : ℕ × ℕ) (found : ℕ)
      (bs : List (Base V)) → is_locking r.stage ≡ true → i + 1 < length r.words.reads.entries → e ≡ get_or r.words.reads.entries i e
      → AreSmall (blocks_in t) → Ties t s (at_place r (Check i)) → HasOwn t s (at_place r (Check i)) bs → Stepped (opening_of t) s found u
      → Passes r.words.rv (unbits found) (lookup r.words.writes.entries e.0)
      → HasLed t s u (at_place r (Check (i + 1))) told.Quiet bs
  check_led steps keep t s u r i e found bs locking left is small ties has step passes =
      let x : Actor = record r.words { place = Check i } in
      let y : Actor = record r.words { place = Check (i + 1) } in
      let ls = drop (i + 1) (locations x.reads.entries) in
      locking_led steps keep t s u (at_place r (Check i)) y bs locking small ties has
      (check_steps (opening_of t) s u r.words y i e found (Ok None) step (omega (arith, left)) is
      (passed_goes (words.actor_of x) ls (unbits found) (lookup x.writes.entries e.0) passes)
      (ap result_of (sym (some_left x.reads.entries (i + 1) (notice.LockedAt x.wv) left)
      ∙ passed_tells x.rv x.wv e.0 ls (unbits found) (lookup x.writes.entries e.0) passes)))
      (check_fits r.words i (i + 1))
