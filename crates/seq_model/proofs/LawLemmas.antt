-- The laws of runs and audits.
use Rattle.std.proofs.Common.{◌≡◌, ℕ, zero, suc, ◌<◌, true, false, List, [], ◌∷◌, ◌++◌, map, Some, None, refl, sym, ◌∙◌, ap, subst, arith}
use Rattle.std.proofs.Common.{inl, inr}
use Rattle.std.specs.Prelude.{nat_lt}
use Rattle.std.proofs.lemmas.Bool.{cases_Bool}
use Rattle.std.proofs.lemmas.Bool.Decides.{nat_tests}
use Rattle.seq_model.specs.declared.call.Call.{Call}
use Rattle.seq_model.specs.declared.call.Reply.{Reply}
use Rattle.seq_model.specs.declared.record.Record.{Record}
use Rattle.seq_model.specs.declared.auditing.AuditFault.TheVariants.{DoubleNumber, WrongReply, WrongState, Memory as OutOfMemory}
use Rattle.seq_model.specs.Contents.{Contents}
use Rattle.seq_model.specs.Runs.{reply_of, after_call, IsLegal, after_calls, IsRun, after_run}
use Rattle.seq_model.specs.Audit.{IsLeastDouble, IsFirstWrong, IsFirstWrongAt, run_order, writers_at}
use Rattle.seq_model.specs.Laws.{CallsDetermineReplies, CallsCompose, RunsCompose, HasItsOwnNumber, AreReaders, AreReadersBehind}
use Rattle.seq_model.specs.Laws.{RunsHaveNoFault, FaultsAreDetermined}
use Rattle.seq_model.proofs.RunLemmas.{IsLegal-append, after_calls-append, IsRun-append, after_run-append, NoClash, AllRead, AllReadBehind}
use Rattle.seq_model.proofs.LogicLemmas.{nat_lt-true}

-- ---- one least number
neither : (n m : ℕ) → nat_lt m n ≡ false → nat_lt n m ≡ false → n ≡ m
neither n m h g = grind (arith, nat_tests)

not_below : (count : ℕ → ℕ) (n m : ℕ) → IsLeastDouble count (Some n) → IsLeastDouble count (Some m) → m < n → ⊥
not_below count n m h g lt = let low = h.1 m lt in omega (arith, low, g.0)

one_least : (count : ℕ → ℕ) (n m : ℕ) → IsLeastDouble count (Some n) → IsLeastDouble count (Some m) → n ≡ m
one_least count n m h g =
    elim (cases_Bool (nat_lt m n)) [
      | inl lt ↦ absurd (not_below count n m h g (nat_lt-true m n lt))
      | inr ge ↦ elim (cases_Bool (nat_lt n m)) [ inl lt ↦ absurd (not_below count m n g h (nat_lt-true n m lt)) | inr le ↦ neither n m ge le ]
    ]

not_double : (count : ℕ → ℕ) (n : ℕ) → IsLeastDouble count (Some n) → IsLeastDouble count None → ⊥
not_double count n h g = omega (arith, h.0, g n)

module _ {V : Type 0} where
  -- ---- calls and records one after another
  parts_of_calls : (cs ds : List (Call V × Reply V)) (s : Contents V) → IsLegal (cs ++ ds) s → IsLegal cs s × IsLegal ds (after_calls cs s)
  parts_of_calls [] ds s h = (tt, h)
  parts_of_calls (c ∷ cs) ds s h = let rest = parts_of_calls cs ds (after_call c.0 s) h.1 in ((h.0, rest.0), rest.1)

  parts_of_run : (rs qs : List (ℕ × Record V)) (s : Contents V) → IsRun (rs ++ qs) s → IsRun rs s × IsRun qs (after_run rs s)
  parts_of_run [] qs s h = (tt, h)
  parts_of_run (r ∷ rs) qs s h = let rest = parts_of_run rs qs (after_calls r.1.calls s) h.1 in ((h.0, rest.0), rest.1)

  pub calls_compose : CallsCompose V
  calls_compose first second s = (
    (parts_of_calls first second s, λ h. IsLegal-append first second s h.0 h.1),
    after_calls-append first
        second s,
  )

  pub runs_compose : RunsCompose V
  runs_compose first second s = ((parts_of_run first second s, λ h. IsRun-append first second s h.0 h.1), after_run-append first second s)

  alike : (c d : Call V × Reply V) (s : Contents V) → reply_of c.0 s ≡ Some c.1 → reply_of d.0 s ≡ Some d.1 → c.0 ≡ d.0 → c ≡ d
  alike c d s h g e =
      let replies : Some c.1 ≡ Some d.1 = sym h ∙ ap (λ call. reply_of call s) e ∙ g in
      let reply : c.1 ≡ d.1 = cc in
      ap (λ call. (call, c.1)) e ∙ ap (λ r. (d.0, r)) reply

  pub calls_determine_replies : CallsDetermineReplies V
  calls_determine_replies [] [] s h g e = refl
  calls_determine_replies [] (d ∷ ds) s h g e = cc
  calls_determine_replies (c ∷ cs) [] s h g e = cc
  calls_determine_replies (c ∷ cs) (d ∷ ds) s h g e =
      let call : c.0 ≡ d.0 = cc in
      let calls : map (λ c. c.0) cs ≡ map (λ c. c.0) ds = cc in
      let rest = calls_determine_replies cs ds (after_call c.0 s) h.1 (subst (λ k. IsLegal ds (after_call k s)) (sym call) g.1) calls in
      ap (λ x. x ∷ cs) (alike c d s h.0 g.0 call) ∙ ap (λ xs. d ∷ xs) rest

  -- ---- inserting
  pub own_number : (r : ℕ × Record V) (rs : List (ℕ × Record V)) → HasItsOwnNumber r rs → NoClash r rs
  own_number r [] h = tt
  own_number r (x ∷ xs) h = (h.0, own_number r xs h.1)

  readers : (rs : List (ℕ × Record V)) → AreReaders rs → AllRead rs
  readers [] h = tt
  readers (r ∷ rs) h = (h.0, readers rs h.1)

  pub readers_behind : (r : ℕ × Record V) (rs : List (ℕ × Record V)) → AreReadersBehind r rs → AllReadBehind r rs
  readers_behind r [] h = tt
  readers_behind r (x ∷ xs) h = ((λ e. readers (x ∷ xs) (h.0 e)), readers_behind r xs h.1)

  -- ---- one answer
  no_wrong_call : (place : ℕ) (cs : List (Call V × Reply V)) (s : Contents V) → IsLegal cs s → IsFirstWrong place cs s → ⊥
  no_wrong_call place [] s h g = g
  no_wrong_call zero (c ∷ cs) s h g = g h.0
  no_wrong_call (suc place) (c ∷ cs) s h g = no_wrong_call place cs (after_call c.0 s) h.1 g.1

  no_wrong_record : (entry call : ℕ) (rs : List (ℕ × Record V)) (s : Contents V) → IsRun rs s → IsFirstWrongAt entry call rs s → ⊥
  no_wrong_record entry call [] s h g = g
  no_wrong_record entry call (r ∷ rs) s h g =
      elim g [
        | inl here ↦ no_wrong_call call r.1.calls s h.0 here.1
        | inr later ↦ no_wrong_record entry call rs (after_calls r.1.calls s) h.1 later.1
      ]

  one_wrong_call : (a b : ℕ) (cs : List (Call V × Reply V)) (s : Contents V) → IsFirstWrong a cs s → IsFirstWrong b cs s → a ≡ b
  one_wrong_call a b [] s h g = absurd h
  one_wrong_call zero zero (c ∷ cs) s h g = refl
  one_wrong_call zero (suc b) (c ∷ cs) s h g = absurd (h g.0)
  one_wrong_call (suc a) zero (c ∷ cs) s h g = absurd (g h.0)
  one_wrong_call (suc a) (suc b) (c ∷ cs) s h g = ap (λ n. suc n) (one_wrong_call a b cs (after_call c.0 s) h.1 g.1)

  one_wrong_record : (e f a b : ℕ) (rs : List (ℕ × Record V)) (s : Contents V) → IsFirstWrongAt e a rs s → IsFirstWrongAt f b rs s
      → (e ≡ f) × (a ≡ b)
  one_wrong_record e f a b [] s h g = absurd h
  one_wrong_record e f a b (r ∷ rs) s (inl h) (inl g) = (sym h.0 ∙ g.0, one_wrong_call a b r.1.calls s h.1 g.1)
  one_wrong_record e f a b (r ∷ rs) s (inl h) (inr g) = absurd (no_wrong_call a r.1.calls s g.0 h.1)
  one_wrong_record e f a b (r ∷ rs) s (inr h) (inl g) = absurd (no_wrong_call b r.1.calls s h.0 g.1)
  one_wrong_record e f a b (r ∷ rs) s (inr h) (inr g) = one_wrong_record e f a b rs (after_calls r.1.calls s) h.1 g.1

  pub runs_have_no_fault : RunsHaveNoFault V
  runs_have_no_fault opening last records (DoubleNumber n) h g = absurd (omega (arith, h.0 n, g.0))
  runs_have_no_fault opening last records (WrongReply entry call) h g = absurd
      (no_wrong_record entry call (run_order records) opening h.1 g.1)
  runs_have_no_fault opening last records WrongState h g = absurd (g.2 h.2)
  runs_have_no_fault opening last records OutOfMemory h g = refl

  pub faults_are_determined : FaultsAreDetermined V
  faults_are_determined opening last records (DoubleNumber n) (DoubleNumber m) h g f e = ap (λ k. DoubleNumber k)
      (one_least (writers_at records) n m h g)
  faults_are_determined opening last records (DoubleNumber n) (WrongReply entry call) h g f e = absurd
      (not_double (writers_at records) n h g.0)
  faults_are_determined opening last records (DoubleNumber n) WrongState h g f e = absurd (not_double (writers_at records) n h g.0)
  faults_are_determined opening last records (WrongReply entry call) (DoubleNumber n) h g f e = absurd
      (not_double (writers_at records) n g h.0)
  faults_are_determined opening last records (WrongReply entry call) (WrongReply other_entry other_call) h g f e =
      let places = one_wrong_record entry other_entry call other_call (run_order records) opening h.1 g.1 in
      ap (λ k. WrongReply k call) places.0 ∙ ap (λ k. WrongReply other_entry k) places.1
  faults_are_determined opening last records (WrongReply entry call) WrongState h g f e = absurd
      (no_wrong_record entry call (run_order records) opening g.1 h.1)
  faults_are_determined opening last records WrongState (DoubleNumber n) h g f e = absurd (not_double (writers_at records) n g h.0)
  faults_are_determined opening last records WrongState (WrongReply entry call) h g f e = absurd
      (no_wrong_record entry call (run_order records) opening h.1 g.1)
  faults_are_determined opening last records WrongState WrongState h g f e = refl
  faults_are_determined opening last records OutOfMemory other h g f e = absurd (f refl)
  faults_are_determined opening last records (DoubleNumber n) OutOfMemory h g f e = absurd (e refl)
  faults_are_determined opening last records (WrongReply entry call) OutOfMemory h g f e = absurd (e refl)
  faults_are_determined opening last records WrongState OutOfMemory h g f e = absurd (e refl)
