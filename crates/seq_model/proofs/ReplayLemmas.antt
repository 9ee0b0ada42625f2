-- The steps of an audit.
use Rattle.std.proofs.Common.{◌≡◌, ℕ, zero, suc, ◌+◌, ◌<◌, ◌≤◌, false, not, List, [], ◌∷◌, ◌++◌, length, get_or, take, drop, map, Option}
use Rattle.std.proofs.Common.{Some, None, count_by, ◌==◌, sym, ◌∙◌, ap, subst, arith}
use Rattle.std.proofs.lemmas.List.{get_or-map, length-map, take_all}
use Rattle.std.proofs.lemmas.Bool.{cond-true, cond-false}
use Rattle.std.proofs.Math.Seq.{drop-cons}
use Rattle.std.proofs.Math.ListN.{drop_of_length-le}
use Rattle.seq_model.specs.declared.call.Call.{Call}
use Rattle.seq_model.specs.declared.call.Reply.{Reply}
use Rattle.seq_model.specs.declared.record.Record.{Record}
use Rattle.seq_model.specs.Contents.{Contents}
use Rattle.seq_model.specs.Runs.{reply_of, after_call, IsLegal, after_calls, IsRun, after_run}
use Rattle.seq_model.specs.Ranks.{Rank, rank_of, ranks_from, AreRanked, writes_at}
use Rattle.seq_model.specs.declared.auditing.AuditFault.{AuditFault}
use Rattle.seq_model.specs.declared.auditing.AuditFault.TheVariants.{DoubleNumber, WrongReply, WrongState, Memory as OutOfMemory}
use Rattle.seq_model.specs.Audit.{run_order, writers_at, IsLeastDouble, IsFirstWrong, IsFirstWrongAt, IsReplayFault, IsAuditFault}
use Rattle.seq_model.proofs.RankLemmas.{in_turn_sorted}
use Rattle.seq_model.proofs.AuditLemmas.{turns_from-more, turns_run_order, counted_sorted, counted_records, least_alike, handed_in}
use Rattle.seq_model.proofs.AuditLemmas.{AllHandedIn, handed_order, legal_more, after_more, wrong_here, run_more, after_run_more, wrong_at}
use Rattle.seq_model.proofs.AuditLemmas.{double_behind, tested_same}

one_more : (i : ℕ) → suc i ≡ i + 1
one_more i = omega arith

-- ---- the search for a shared number: after turn i
at_writer : (t : Rank) (ts : List Rank) (last : Option ℕ) → t.1 ≡ false → last ≡ Some t.0 → double_behind last (t ∷ ts) ≡ Some t.0
at_writer t ts last writes again =
    ap (λ o. double_behind o (t ∷ ts)) again ∙ cond-false t.1 _ _ writes ∙ cond-true (t.0 == t.0) _ _ (tested_same t.0)

pub found_turn : (last r : Option ℕ) (ts : List Rank) (i : ℕ) (d : Rank) → i < length ts → (get_or ts i d).1 ≡ false
    → last ≡ Some (get_or ts i d).0 → double_behind last (drop i ts) ≡ r → r ≡ last
found_turn last r ts i d lt writes again h =
    sym (ap (double_behind last) (sym (drop-cons ts i d lt)) ∙ h) ∙ at_writer (get_or ts i d) (drop (suc i) ts) last writes again
    ∙ sym again

pub past_all : (last r : Option ℕ) (ts : List Rank) (i : ℕ) → length ts ≤ i → double_behind last (drop i ts) ≡ r → None ≡ r
past_all last r ts i le h = sym (ap (double_behind last) (drop_of_length-le ts le)) ∙ h

module _ {V : Type 0} where
  -- ---- the turns of the records so far
  pub turns_step : (rs : List (Record V)) (i : ℕ) (before after : List Rank) (r : Record V) → i < length rs → r ≡ get_or rs i r
      → before ≡ ranks_from 0 (take i rs) → after ≡ before ++ (r.number, not r.writes, i) ∷ [] → after ≡ ranks_from 0 (take (i + 1) rs)
  turns_step rs i before after r lt is h e =
      e ∙ ap (λ l. l ++ rank_of {V = V} (i, r) ∷ []) h ∙ ap (λ x. ranks_from 0 (take i rs) ++ rank_of {V = V} (i, x) ∷ []) is
      ∙ sym (turns_from-more 0 i i rs r lt (omega arith)) ∙ ap (λ n. ranks_from 0 (take n rs)) (one_more i)

  -- ---- the calls so far
  abbrev pub SoFar : List (Call V × Reply V) → ℕ → Contents V → Contents V → Type 0
  SoFar cs i s0 s = IsLegal (take i cs) s0 × (s ≡ after_calls (take i cs) s0)

  pub call_step : (cs : List (Call V × Reply V)) (i : ℕ) (s0 s t : Contents V) (c : Call V × Reply V) → i < length cs → c ≡ get_or cs i c
      → SoFar cs i s0 s → reply_of c.0 s ≡ Some c.1 → t ≡ after_call c.0 s → SoFar cs (i + 1) s0 t
  call_step cs i s0 s t c lt is h reply after =
      let here = subst (λ z. reply_of (get_or cs i c).0 z ≡ Some (get_or cs i c).1) h.1 (subst (λ x. reply_of x.0 s ≡ Some x.1) is reply)
      in (
        subst (λ n. IsLegal (take n cs) s0) (one_more i) (legal_more cs i s0 c lt h.0 here),
        after ∙ ap (λ x. after_call x.0 s) is ∙ ap (λ z. after_call (get_or cs i c).0 z) h.1 ∙ sym (after_more cs i s0 c lt)
            ∙ ap (λ n. after_calls (take n cs) s0) (one_more i),
      )

  pub call_wrong : (cs : List (Call V × Reply V)) (i : ℕ) (s0 s : Contents V) (c : Call V × Reply V) → i < length cs → c ≡ get_or cs i c
      → SoFar cs i s0 s → (reply_of c.0 s ≡ Some c.1 → ⊥) → IsFirstWrong i cs s0
  call_wrong cs i s0 s c lt is h differs =
      wrong_here cs i s0 c lt h.0 (λ e. differs (subst (λ x. reply_of x.0 s ≡ Some x.1) (sym is)
      (subst (λ z. reply_of (get_or cs i c).0 z ≡ Some (get_or cs i c).1) (sym h.1) e)))

  pub calls_done : (cs : List (Call V × Reply V)) (i : ℕ) (s0 s : Contents V) → length cs ≤ i → SoFar cs i s0 s
      → IsLegal cs s0 × (s ≡ after_calls cs s0)
  calls_done cs i s0 s le h = let all = take_all i cs le in (subst (λ l. IsLegal l s0) all h.0, h.1 ∙ ap (λ l. after_calls l s0) all)

  -- ---- the records so far
  within : (p : ℕ) (rs : List (Record V)) (es : List (ℕ × Record V)) (i : ℕ) (d : Rank) → AllHandedIn p rs es → i < length (map rank_of es)
      → (get_or (map rank_of es) i d).2 < p + length rs
  within p rs [] i d h lt = absurd (omega arith)
  within p rs (e ∷ es) zero d h lt = omega (arith, h.0.1, h.0.2)
  within p rs (e ∷ es) (suc i) d h lt = within p rs es i d h.1 (omega arith)

  pub place_within : (rs : List (Record V)) (ts : List Rank) (i : ℕ) (d : Rank) → ts ≡ map rank_of (run_order rs) → i < length ts
      → (get_or ts i d).2 < length rs
  place_within rs ts i d same lt =
      let below = within 0 rs (run_order rs) i d (handed_order 0 rs) (subst (λ l. i < length l) same lt) in
      let at : (get_or ts i d).2 ≡ (get_or (map rank_of (run_order rs)) i d).2 = ap (λ l. (get_or l i d).2) same in
      omega arith

  record Entry (rs : List (Record V)) (i place : ℕ) (r : Record V) : Type 0 where
    pub below : i < length (run_order rs)
    pub place_is : (get_or (run_order rs) i (place, r)).0 ≡ place
    pub record_is : (get_or (run_order rs) i (place, r)).1 ≡ r

  entry : (rs : List (Record V)) (ts : List Rank) (i place : ℕ) (r : Record V) (d : Rank) → ts ≡ map rank_of (run_order rs) → i < length ts
      → (get_or ts i d).2 ≡ place → r ≡ get_or rs place r → Entry rs i place r
  entry rs ts i place r d same lt at is =
      let long : length ts ≡ length (run_order rs) = ap length same ∙ length-map (run_order rs) rank_of in
      let below : i < length (run_order rs) = omega arith in
      let turn : (get_or ts i d).2 ≡ (get_or (run_order rs) i (place, r)).0 = ap (λ l. (get_or l i d).2) same
      ∙ ap (λ (t : Rank). t.2) (get_or-map (rank_of {V = V}) (run_order rs) i (place, r) d below) in
      let here : (get_or (run_order rs) i (place, r)).0 ≡ place = sym turn ∙ at in
      record {
        below = below;
        place_is = here;
        record_is = sym ((handed_in rs i (place, r) below).1 r) ∙ ap (λ k. get_or rs k r) here ∙ sym is;
      }

  abbrev pub RunSoFar : List (Record V) → ℕ → Contents V → Contents V → Type 0
  RunSoFar rs i s0 s = IsRun (take i (run_order rs)) s0 × (s ≡ after_run (take i (run_order rs)) s0)

  pub record_step : (rs : List (Record V)) (ts : List Rank) (i place : ℕ) (r : Record V) (d : Rank) (s0 s t : Contents V)
      → ts ≡ map rank_of (run_order rs) → i < length ts → (get_or ts i d).2 ≡ place → r ≡ get_or rs place r → RunSoFar rs i s0 s
      → IsLegal r.calls s → t ≡ after_calls r.calls s → RunSoFar rs (i + 1) s0 t
  record_step rs ts i place r d s0 s t same lt at is h legal after =
      let e = entry rs ts i place r d same lt at is in
      let here = subst (λ (x : Record V). IsLegal x.calls (after_run (take i (run_order rs)) s0)) (sym e.record_is)
      (subst (IsLegal r.calls) h.1 legal) in (
        subst (λ n. IsRun (take n (run_order rs)) s0) (one_more i) (run_more (run_order rs) i s0 (place, r) e.below h.0 here),
        after ∙ ap (after_calls r.calls) h.1 ∙ ap (λ (x : Record V). after_calls x.calls (after_run (take i (run_order rs)) s0))
            (sym e.record_is)
            ∙ sym (after_run_more (run_order rs) i s0 (place, r) e.below) ∙ ap (λ n. after_run (take n (run_order rs)) s0) (one_more i),
      )

  pub record_wrong : (rs : List (Record V)) (ts : List Rank) (i place call : ℕ) (r : Record V) (d : Rank) (s0 s : Contents V)
      → ts ≡ map rank_of (run_order rs) → i < length ts → (get_or ts i d).2 ≡ place → r ≡ get_or rs place r → RunSoFar rs i s0 s
      → IsFirstWrong call r.calls s → IsFirstWrongAt place call (run_order rs) s0
  record_wrong rs ts i place call r d s0 s same lt at is h wrong =
      let e = entry rs ts i place r d same lt at is in
      let here = subst (λ (x : Record V). IsFirstWrong call x.calls (after_run (take i (run_order rs)) s0)) (sym e.record_is)
      (subst (IsFirstWrong call r.calls) h.1 wrong) in
      wrong_at (run_order rs) i s0 (place, r) place call e.below h.0 e.place_is here

  pub records_done : (rs : List (Record V)) (ts : List Rank) (i : ℕ) (s0 s : Contents V) → ts ≡ map rank_of (run_order rs) → length ts ≤ i
      → RunSoFar rs i s0 s → IsRun (run_order rs) s0 × (s ≡ after_run (run_order rs) s0)
  records_done rs ts i s0 s same le h =
      let long : length ts ≡ length (run_order rs) = ap length same ∙ length-map (run_order rs) rank_of in
      let all = take_all i (run_order rs) (omega arith) in
      (subst (λ l. IsRun l s0) all h.0, h.1 ∙ ap (λ l. after_run l s0) all)

  -- ---- the audit
  pub in_turn : (rs : List (Record V)) (ts : List Rank) → ts ≡ map rank_of (run_order rs) → AreRanked ts
  in_turn rs ts same = subst AreRanked (sym (same ∙ turns_run_order 0 rs)) (in_turn_sorted (ranks_from 0 rs))

  pub shared_numbers : (rs : List (Record V)) (ts : List Rank) (r : Option ℕ) → ts ≡ map rank_of (run_order rs)
      → IsLeastDouble (λ n. count_by (writes_at n) ts) r → IsLeastDouble (writers_at rs) r
  shared_numbers rs ts r same h =
      least_alike (λ n. count_by (writes_at n) ts) (writers_at rs) r
      (λ n. ap (count_by (writes_at n)) (same ∙ turns_run_order 0 rs) ∙ counted_sorted (writes_at n) (ranks_from 0 rs)
      ∙ counted_records n 0 rs) h

  pub replay_fault : (opening s last : Contents V) (rs : List (Record V)) (f : AuditFault) → s ≡ opening
      → IsLeastDouble (writers_at rs) None → IsReplayFault (run_order rs) s f → IsAuditFault opening rs last f
  replay_fault opening s last rs (DoubleNumber n) same own h = absurd h
  replay_fault opening s last rs (WrongReply place call) same own h = (own, subst (IsFirstWrongAt place call (run_order rs)) same h)
  replay_fault opening s last rs WrongState same own h = absurd h
  replay_fault opening s last rs OutOfMemory same own h = tt
