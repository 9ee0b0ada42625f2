-- What is reported of the workers, as outcomes of the actions of each list.
-- A report gives one outcome for each action (`outcomes_in`). Those that are receipts, with their actions, are the receipts of the report,
-- one list after another (`all_receipts`), and each has all calls of the session of its action (`all_whole`). One that says that it only
-- reads changes nothing (`read_as_told`).
use Rattle.std.proofs.Common.{◌≡◌, ℕ, ◌+◌, List, [], ◌∷◌, ◌++◌, refl, sym, ◌∙◌, ap, subst, inl, inr}
use Rattle.std.proofs.lemmas.List.{map-append}
use Rattle.std.proofs.lemmas.List.Concat.{flat_map-cons}
use Rattle.std.proofs.lemmas.List.Elements.{All-append, All-cons, All-head, All-nil, All-tail}
use Rattle.std.specs.Prelude.{All, Err, IfOk, Ok, flat_map, map}
use Rattle.seq_model.specs.declared.record.Record.{Record}
use Rattle.vac_model.specs.declared.action.Action.{Action}
use Rattle.vac_model.specs.Actions.{IsAllowed}
use Rattle.client_sessions.specs.declared.entry.Entry.{Entry}
use Rattle.vacation_core.specs.Served.{IsWhole}
use Rattle.tx_engine.specs.Jobs.{IsWholeJob}
use Rattle.seq_model.specs.declared.causes.LastAbort.{LastAbort}
use Rattle.seq_model.specs.declared.causes.LastAbort.TheVariants.{NotStarted}
use Rattle.job_workers.specs.declared.report.Report.{Report}
use Rattle.job_workers.specs.Reports.{IsReportOf, Reports, numbered}
use Rattle.tx_engine.specs.Tasks as worked
use Rattle.tx_engine.specs.Tasks.{AreNotStarted, AreTried, Outcome, Took, missed_in, receipts_in}
use Rattle.tx_engine.specs.Retries.{HasReceipt}
use Rattle.shared_table.specs.Seated.{actor, view}
use Rattle.shared_table.specs.declared.table.TxTable.{TxTable}
use Rattle.shared_table.specs.declared.view.Turn.{Turn}
use Rattle.tx_engine.specs.declared.seats.TxSeat.{TxSeat}
use Rattle.workers.proofs.AuditLemmas.{ReadsAsTold}
use Rattle.workers.specs.Serving.{AreAllOutcomes, AreAllowed, AreOwnOutcomes, AreReportedAs, all_dealt, all_missed, asks_of, dealt}

-- ---- the outcomes of a report
record HasOutcomes (first : ℕ) (lists : List (List Action)) (receipts : List (List (Record Entry))) (missed : List (ℕ × ℕ × LastAbort))
    : Type 0 where
  outcomes : List (List (Outcome Entry))
  each : AreAllOutcomes lists outcomes
  receipts_are : receipts ≡ map receipts_in outcomes
  missed_are : missed ≡ all_missed first outcomes

module _ (t : TxTable Entry) (tries : ℕ) where
  has_job : (action : Action) (s u : TxSeat Entry) (o : Outcome Entry) → IfOk o (HasReceipt (asks_of action) t tries s.seat u.seat)
      → IfOk o (λ r. IsWholeJob (asks_of action) r.calls)
  has_job action s u (Ok r) h = h.job
  has_job action s u (Err cause) h = tt

  of_tried : (actions : List Action) (os : List (Outcome Entry)) (s u : TxSeat Entry) → AreTried asks_of t tries actions os s u
      → AreOwnOutcomes actions os
  of_tried [] [] s u h = tt
  of_tried [] (o ∷ os) s u h = absurd h
  of_tried (a ∷ actions) [] s u h = absurd h
  of_tried (a ∷ actions) (o ∷ os) s u (m, tried, rest) = (has_job a s m o tried.receipt, of_tried actions os m u rest)

  of_left : (actions : List Action) (os : List (Outcome Entry)) → AreNotStarted actions os → AreOwnOutcomes actions os
  of_left [] [] h = tt
  of_left [] (o ∷ os) h = absurd h
  of_left (a ∷ actions) [] h = absurd h
  of_left (a ∷ actions) (o ∷ os) h =
      (subst (λ (q : Outcome Entry). IfOk q (λ r. IsWholeJob (asks_of a) r.calls)) (sym h.0) tt, of_left actions os h.1)

  of_outcomes : (worker : ℕ) (actions : List Action) (before : List (Turn Entry)) (os : List (Outcome Entry)) (took : Took Entry)
      → worked.AreOutcomes asks_of t tries worker actions before os took → AreOwnOutcomes actions os
  of_outcomes worker actions before os took (inl (a, after, by, own)) = of_tried actions os by.first by.last by.tried
  of_outcomes worker actions before os took (inr (later, left, unused)) = of_left actions os left

  outcomes_from : (first : ℕ) (before : List (Turn Entry)) (lists : List (List Action)) (receipts : List (List (Record Entry)))
      (missed : List (ℕ × ℕ × LastAbort)) (took : Took Entry)
      → Reports asks_of t tries before (numbered first lists) receipts missed took → HasOutcomes first lists receipts missed
  outcomes_from first before [] receipts missed took h = record { outcomes = []; each = tt; receipts_are = h.0; missed_are = h.1 }
  outcomes_from first before (actions ∷ lists) receipts missed took
      (os, others, later, own, behind, are, receipts_are, missed_are, took_are, rest) =
      let h = outcomes_from (first + 1) [] lists others later behind rest in
      record {
        outcomes = os ∷ h.outcomes;
        each = (of_outcomes first actions before os own are, h.each);
        receipts_are = receipts_are ∙ ap (λ (rs : List (List (Record Entry))). receipts_in os ∷ rs) h.receipts_are;
        missed_are = missed_are ∙ ap (λ (ms : List (ℕ × ℕ × LastAbort)). missed_in first 0 os ++ ms) h.missed_are;
      }

  pub outcomes_in : (s u : TxSeat Entry) (lists : List (List Action)) (report : Report Entry)
      → IsReportOf asks_of t tries s u lists report → (outcomes : List (List (Outcome Entry))) × AreReportedAs lists report outcomes
  outcomes_in s u lists report h =
      let o = outcomes_from 1 (view s.seat).turns lists report.receipts report.missed
      ((actor u.seat, (view u.seat).turns) ∷ h.others) h.each in (
        o.outcomes,
        record { each = o.each; receipts = o.receipts_are; missed = o.missed_are },
      )

  -- ---- the receipts that only read
  made_so : (action : Action) (s u : TxSeat Entry) (r : Record Entry) → HasReceipt (asks_of action) t tries s.seat u.seat r → ReadsAsTold r
  made_so action s u r h = h.last.comes.0.reads

  of_tries : (actions : List Action) (os : List (Outcome Entry)) (s u : TxSeat Entry) → AreTried asks_of t tries actions os s u
      → All ReadsAsTold (receipts_in os)
  of_tries [] [] s u h = All-nil ReadsAsTold
  of_tries [] (o ∷ os) s u h = absurd h
  of_tries (a ∷ actions) [] s u h = absurd h
  of_tries (a ∷ actions) (Ok r ∷ os) s u (m, tried, rest) =
      All-cons ReadsAsTold r (receipts_in os) (made_so a s m r tried.receipt) (of_tries actions os m u rest)
  of_tries (a ∷ actions) (Err cause ∷ os) s u (m, tried, rest) = of_tries actions os m u rest

  none_made : (actions : List Action) (os : List (Outcome Entry)) → AreNotStarted actions os → receipts_in os ≡ []
  none_made [] [] h = refl
  none_made [] (o ∷ os) h = absurd h
  none_made (a ∷ actions) [] h = absurd h
  none_made (a ∷ actions) (Ok r ∷ os) h = absurd (let e : Ok r ≡ Err NotStarted = h.0 in cc)
  none_made (a ∷ actions) (Err cause ∷ os) h = none_made actions os h.1

  of_worker : (worker : ℕ) (actions : List Action) (before : List (Turn Entry)) (os : List (Outcome Entry)) (took : Took Entry)
      → worked.AreOutcomes asks_of t tries worker actions before os took → All ReadsAsTold (receipts_in os)
  of_worker worker actions before os took (inl (a, after, by, own)) = of_tries actions os by.first by.last by.tried
  of_worker worker actions before os took (inr (later, left, unused)) =
      subst (λ (rs : List (Record Entry)). All ReadsAsTold rs) (sym (none_made actions os left)) (All-nil ReadsAsTold)

  of_all : (first : ℕ) (before : List (Turn Entry)) (lists : List (List Action)) (receipts : List (List (Record Entry)))
      (missed : List (ℕ × ℕ × LastAbort)) (took : Took Entry)
      → Reports asks_of t tries before (numbered first lists) receipts missed took
      → All ReadsAsTold (flat_map (λ (rs : List (Record Entry)). rs) receipts)
  of_all first before [] receipts missed took h =
      subst (λ (rs : List (List (Record Entry))). All ReadsAsTold (flat_map (λ (qs : List (Record Entry)). qs) rs)) (sym h.0)
      (All-nil ReadsAsTold)
  of_all first before (actions ∷ lists) receipts missed took
      (os, others, later, mine, behind, are, receipts_are, missed_are, took_are, rest) =
      let own : List (Record Entry) → List (Record Entry) = λ rs. rs in
      subst (λ (rs : List (List (Record Entry))). All ReadsAsTold (flat_map own rs)) (sym receipts_are)
      (subst (λ (rs : List (Record Entry)). All ReadsAsTold rs) (sym (flat_map-cons own (receipts_in os) others))
      (All-append ReadsAsTold (receipts_in os) (flat_map own others) (of_worker first actions before os mine are)
      (of_all (first + 1) [] lists others later behind rest)))

  pub read_as_told : (s u : TxSeat Entry) (lists : List (List Action)) (report : Report Entry)
      → IsReportOf asks_of t tries s u lists report → All ReadsAsTold (flat_map (λ (rs : List (Record Entry)). rs) report.receipts)
  read_as_told s u lists report h =
      of_all 1 (view s.seat).turns lists report.receipts report.missed ((actor u.seat, (view u.seat).turns) ∷ h.others) h.each

-- ---- their receipts, with the actions
receipts_dealt : (actions : List Action) (os : List (Outcome Entry)) → AreOwnOutcomes actions os
    → map (λ d. d.1) (dealt actions os) ≡ receipts_in os
receipts_dealt [] [] are = refl
receipts_dealt [] (o ∷ os) are = absurd are
receipts_dealt (a ∷ actions) [] are = absurd are
receipts_dealt (a ∷ actions) (Ok r ∷ os) are = ap (λ (rs : List (Record Entry)). r ∷ rs) (receipts_dealt actions os are.1)
receipts_dealt (a ∷ actions) (Err cause ∷ os) are = receipts_dealt actions os are.1

pub all_receipts : (lists : List (List Action)) (outcomes : List (List (Outcome Entry))) → AreAllOutcomes lists outcomes
    → map (λ d. d.1) (all_dealt lists outcomes) ≡ flat_map (λ (rs : List (Record Entry)). rs) (map receipts_in outcomes)
all_receipts [] [] are = refl
all_receipts [] (os ∷ more) are = absurd are
all_receipts (actions ∷ lists) [] are = absurd are
all_receipts (actions ∷ lists) (os ∷ more) are =
    map-append (λ (d : Action × Record Entry). d.1) (dealt actions os) (all_dealt lists more)
    ∙ ap (λ (rs : List (Record Entry)). rs ++ map (λ (d : Action × Record Entry). d.1) (all_dealt lists more))
    (receipts_dealt actions os are.0)
    ∙ ap (λ (rs : List (Record Entry)). receipts_in os ++ rs) (all_receipts lists more are.1)
    ∙ sym (flat_map-cons (λ (rs : List (Record Entry)). rs) (receipts_in os) (map receipts_in more))

abbrev pub IsOwn : Action × Record Entry → Type 0
IsOwn d = IsWhole d.0 d.1.calls

whole_of : (action : Action) (r : Record Entry) → IsAllowed action → IsWholeJob (asks_of action) r.calls → IsWhole action r.calls
whole_of action r allowed job = record {
  allowed = allowed;
  each = λ i d lt. sym (job.each i d lt);
  done = sym job.done;
}

whole_dealt : (actions : List Action) (os : List (Outcome Entry)) → All IsAllowed actions → AreOwnOutcomes actions os
    → All IsOwn (dealt actions os)
whole_dealt [] os allowed are = All-nil IsOwn
whole_dealt (a ∷ actions) [] allowed are = All-nil IsOwn
whole_dealt (a ∷ actions) (Ok r ∷ os) allowed are =
    All-cons IsOwn (a, r) (dealt actions os) (whole_of a r (All-head IsAllowed a actions allowed) are.0)
    (whole_dealt actions os (All-tail IsAllowed a actions allowed) are.1)
whole_dealt (a ∷ actions) (Err cause ∷ os) allowed are = whole_dealt actions os (All-tail IsAllowed a actions allowed) are.1

pub all_whole : (lists : List (List Action)) (outcomes : List (List (Outcome Entry))) → AreAllowed lists → AreAllOutcomes lists outcomes
    → All IsOwn (all_dealt lists outcomes)
all_whole [] outcomes allowed are = All-nil IsOwn
all_whole (actions ∷ lists) [] allowed are = All-nil IsOwn
all_whole (actions ∷ lists) (os ∷ more) allowed are =
    let P : List Action → Type 0 = λ xs. All IsAllowed xs in
    All-append IsOwn (dealt actions os) (all_dealt lists more) (whole_dealt actions os (All-head P actions lists allowed) are.0)
    (all_whole lists more (All-tail P actions lists allowed) are.1)
