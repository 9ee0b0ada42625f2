-- Records in commit order are audited in that order, so those of a run have no fault.
--
-- A record that comes before none that stands before it goes to the head of those after it, with its place for its actor: at one number
-- only the first is a writer, and the places rise. Whether records are a run, and what they leave, does not depend on their actors. And no
-- two writers in commit order share a number.
use Rattle.std.proofs.Common.{◌≡◌, ℕ, zero, suc, ◌+◌, ◌≤◌, ltb, Bool, true, false, cond, List, [], ◌∷◌, inl, inr, refl}
use Rattle.std.proofs.Common.{sym, ap, ◌∙◌, subst, arith, lt-ltb, le-ltb, eqb-true}
use Rattle.std.specs.Prelude.{count_by, ◌&&◌, ◌==◌, IfErr, Result, Ok, Err}
use Rattle.std.proofs.lemmas.Bool.{cases_lt, cond-true, cond-false, cases_Bool}
use Rattle.std.proofs.lemmas.List.Sums.{sum_by-cons}
use Rattle.seq_model.specs.declared.call.Call.{Call}
use Rattle.seq_model.specs.declared.call.Reply.{Reply}
use Rattle.seq_model.specs.declared.record.Record.{Record}
use Rattle.seq_model.specs.declared.auditing.AuditFault.{AuditFault}
use Rattle.seq_model.specs.declared.auditing.AuditFault.TheVariants.{DoubleNumber, WrongReply, WrongState, Memory as OutOfMemory}
use Rattle.seq_model.specs.Audit.{IsAuditFault, IsFirstWrong, IsFirstWrongAt, in_run_order, writers_at}
use Rattle.seq_model.specs.Contents.{Contents}
use Rattle.seq_model.specs.Runs.{IsInCommitOrder, IsLegal, IsRun, NoneComesBefore, after_calls, after_run, comes_before, insert_record}
use Rattle.seq_model.specs.declared.event.Event.{Event}
use Rattle.replay_log.specs.Collections.{Suit}
use Rattle.replay_log.specs.Contents.{Block, HaveStripes}
use Rattle.replay_log.specs.Worlds.{opened, run}
use Rattle.replay_log.specs.WorldTraces.{is_half_done, state}
use Rattle.replay_log.proofs.SerialLemmas.{serial_world, shown_state}
use Rattle.actor_parts.specs.Audits.{without_actors}

-- what comes_before says, of numbers and flags alone
abbrev before : (n : ℕ) → Bool → ℕ → (m : ℕ) → Bool → ℕ → Bool
before n w a m x b = cond (ltb n m) true (cond (ltb m n) false (cond w true (cond x false (ltb a b))))

no_equal : true ≡ false → ⊥
no_equal e = cc

-- what a later one does not come before goes before it, by their places
goes_first : (n : ℕ) (w : Bool) (a : ℕ) (m : ℕ) (x : Bool) (b p : ℕ) → before m x b n w a ≡ false → before n w p m x (p + 1) ≡ true
goes_first n w a m x b p h =
    elim (cases_lt n m) [
      | inl low ↦ cond-true (ltb n m) true _ (lt-ltb n m low)
      | inr high ↦ elim (cases_lt m n) [
        | inl more ↦ absurd (no_equal (sym (cond-true (ltb m n) true _ (lt-ltb m n more)) ∙ h))
        | inr same ↦
            cond-false (ltb n m) true _ (le-ltb n m high) ∙ cond-false (ltb m n) false _ (le-ltb m n same)
            ∙ by w x (sym (cond-false (ltb m n) true _ (le-ltb m n same) ∙ cond-false (ltb n m) false _ (le-ltb n m high)) ∙ h)
      ]
    ]
  where
    by : (w x : Bool) → cond x true (cond w false (ltb b a)) ≡ false → cond w true (cond x false (ltb p (p + 1))) ≡ true
    by true x h = refl
    by false true h = absurd (no_equal h)
    by false false h = lt-ltb p (p + 1) (omega arith)

-- so it is no writer of the same number
behind : (n m : ℕ) (w x : Bool) (a b : ℕ) → before m x b n w a ≡ false → (x && (m == n)) ≡ false
behind n m w false a b h = refl
behind n m w true a b h =
    elim (cases_Bool (m == n)) [
      | inl e ↦ (
          let same : m ≡ n = eqb-true m n e in
          absurd (no_equal (sym (cond-false (ltb m n) true _ (le-ltb m n (omega (arith, same)))
          ∙ cond-false (ltb n m) false _ (le-ltb n m (omega (arith, same)))) ∙ h)))
      | inr other ↦ other
    ]

second : (a b : Bool) → (a && b) ≡ true → b ≡ true
second true b h = h
second false b h = absurd (no_equal (sym h))

counted : {X : Type 0} (p : X → Bool) (x : X) (xs : List X) → count_by p (x ∷ xs) ≡ cond (p x) 1 0 + count_by p xs
counted p x xs = sum_by-cons (λ y. cond (p y) 1 0) x xs

module _ {V : Type 0} where
  -- the records, with places for their actors
  abbrev placed : ℕ → List (ℕ × Record V) → List (ℕ × Record V)
  placed p [] = []
  placed p (x ∷ xs) = (p, x.1) ∷ placed (p + 1) xs

  in_place : (p : ℕ) (xs : List (ℕ × Record V)) → IsInCommitOrder xs → in_run_order p (without_actors xs) ≡ placed p xs
  in_place p [] o = refl
  in_place p (x ∷ xs) o = ap (insert_record (p, x.1)) (in_place (p + 1) xs o.1) ∙ first xs o.0
    where
      first : (ys : List (ℕ × Record V)) → NoneComesBefore x ys → insert_record (p, x.1) (placed (p + 1) ys) ≡ (p, x.1) ∷ placed (p + 1) ys
      first [] none = refl
      first (y ∷ ys) none =
          cond-true (comes_before (p, x.1) (p + 1, y.1)) _ _
          (goes_first x.1.number x.1.writes x.0 y.1.number y.1.writes y.0 p none.0)

  placed_run : (p : ℕ) (xs : List (ℕ × Record V)) (s : Contents V) → IsRun xs s → IsRun (placed p xs) s
  placed_run p [] s run = tt
  placed_run p (x ∷ xs) s run = (run.0, placed_run (p + 1) xs (after_calls x.1.calls s) run.1)

  placed_leaves : (p : ℕ) (xs : List (ℕ × Record V)) (s : Contents V) → after_run (placed p xs) s ≡ after_run xs s
  placed_leaves p [] s = refl
  placed_leaves p (x ∷ xs) s = placed_leaves (p + 1) xs (after_calls x.1.calls s)

  right_reply : (cs : List (Call V × Reply V)) (k : ℕ) (s : Contents V) → IsLegal cs s → IsFirstWrong k cs s → ⊥
  right_reply [] k s legal wrong = wrong
  right_reply (c ∷ cs) zero s legal wrong = wrong legal.0
  right_reply (c ∷ cs) (suc k) s legal wrong = right_reply cs k _ legal.1 wrong.1

  right_replies : (xs : List (ℕ × Record V)) (e k : ℕ) (s : Contents V) → IsRun xs s → IsFirstWrongAt e k xs s → ⊥
  right_replies [] e k s run wrong = wrong
  right_replies (x ∷ xs) e k s run wrong =
      elim wrong [
        | inl here ↦ right_reply x.1.calls k s run.0 here.1
        | inr later ↦ right_replies xs e k (after_calls x.1.calls s) run.1 later.1
      ]

  -- after a record, none is a writer of its number
  none_writes : (x : ℕ × Record V) (xs : List (ℕ × Record V)) → NoneComesBefore x xs
      → count_by (λ r. r.writes && (r.number == x.1.number)) (without_actors xs) ≡ 0
  none_writes x [] none = refl
  none_writes x (y ∷ ys) none =
      let p = λ (r : Record V). r.writes && (r.number == x.1.number) in
      let rest = none_writes x ys none.1 in
      counted p y.1 (without_actors ys)
      ∙ ap (λ b. cond b 1 0 + count_by p (without_actors ys)) (behind x.1.number y.1.number x.1.writes y.1.writes x.0 y.0 none.0)
      ∙ (let z : 0 + count_by p (without_actors ys) ≡ 0 = omega (arith, rest) in z)

  one_writer : (n : ℕ) (xs : List (ℕ × Record V)) → IsInCommitOrder xs → writers_at (without_actors xs) n ≤ 1
  one_writer n [] o = omega arith
  one_writer n (x ∷ xs) o =
      let p = λ (r : Record V). r.writes && (r.number == n) in
      let all = counted p x.1 (without_actors xs) in
      elim (cases_Bool (x.1.writes && (x.1.number == n))) [
        | inl theirs ↦ (
            let at : x.1.number ≡ n = eqb-true x.1.number n (second x.1.writes (x.1.number == n) theirs) in
            let none = subst (λ m. count_by (λ (r : Record V). r.writes && (r.number == m)) (without_actors xs) ≡ 0) at
            (none_writes x xs o.0) in
            let one = all ∙ ap (λ b. cond b 1 0 + count_by p (without_actors xs)) theirs in
            omega (arith, one, none))
        | inr other ↦ (
            let rest = one_writer n xs o.1 in
            let none = all ∙ ap (λ b. cond b 1 0 + count_by p (without_actors xs)) other in
            omega (arith, none, rest))
      ]

  pub no_fault : (opening : Contents V) (xs : List (ℕ × Record V)) (last : Contents V) → IsInCommitOrder xs → IsRun xs opening
      → after_run xs opening ≡ last → (fault : AuditFault) → IsAuditFault opening (without_actors xs) last fault → fault ≡ OutOfMemory
  no_fault opening xs last o run leaves (DoubleNumber n) f =
      absurd (let one = one_writer n xs o in let two = f.0 in omega (arith, one, two))
  no_fault opening xs last o run leaves (WrongReply e k) f =
      absurd (right_replies (placed 0 xs) e k opening (placed_run 0 xs opening run)
      (subst (λ ys. IsFirstWrongAt e k ys opening) (in_place 0 xs o) f.1))
  no_fault opening xs last o run leaves WrongState f =
      absurd (f.2 (ap (λ ys. after_run ys opening) (in_place 0 xs o) ∙ placed_leaves 0 xs opening ∙ leaves))
  no_fault opening xs last o run leaves OutOfMemory f = refl

  -- what is said of them, once their records were audited
  pub audited : (opening last : Contents V) (rs : List (Record V)) (xs : List (ℕ × Record V)) (r : Result (Unit {0}) AuditFault)
      → rs ≡ without_actors xs → IfErr r (IsAuditFault opening rs last) → IsInCommitOrder xs → IsRun xs opening
      → after_run xs opening ≡ last → IfErr r (λ fault. fault ≡ OutOfMemory)
  audited opening last rs xs (Ok u) same told o run leaves = told
  audited opening last rs xs (Err fault) same told o run leaves =
      no_fault opening xs last o run leaves fault (subst (λ ys. IsAuditFault opening ys last fault) same told)

  -- the records of a world that events have reached, and the state that it shows, are a run
  pub reached : (opening last : Contents V) (rs : List (Record V)) (xs : List (ℕ × Record V)) (r : Result (Unit {0}) AuditFault)
      → rs ≡ without_actors xs → IfErr r (IsAuditFault opening rs last)
      → (blocks : List Block) (clock : ℕ) (events : List (Event V)) → HaveStripes blocks → Suit blocks opening.held
      → let w = run (opened blocks clock opening.words opening.held) events in
      ((a : ℕ) → is_half_done (w.seats a).stage ≡ false) → xs ≡ w.records → last ≡ state w → IfErr r (λ fault. fault ≡ OutOfMemory)
  reached opening last rs xs r same told blocks clock events stripes suit none are at =
      let serial = serial_world blocks stripes clock opening.words opening.held suit events in
      audited opening last rs xs r same told
      (subst (λ (ys : List (ℕ × Record V)). IsInCommitOrder ys) (sym are) serial.ordered)
      (subst (λ (ys : List (ℕ × Record V)). IsRun ys opening) (sym are) serial.run)
      (ap (λ (ys : List (ℕ × Record V)). after_run ys opening) are
      ∙ sym (at ∙ shown_state blocks stripes clock opening.words opening.held suit events none))
