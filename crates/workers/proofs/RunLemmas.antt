-- The receipts of the workers are a run of their actions.
-- The seat has gained just the receipts that are reported, so each of its receipts is one of an action's session (`paired`); in commit
-- order they are a run, which is what the law of whole sessions asks for. What is left is the state of tables, and only of these. As each
-- that says so only reads, they are a run for the audit too (`audited_so`).
use Rattle.std.proofs.Common.{◌≡◌, ℕ, List, [], ◌∷◌, ◌++◌, refl, sym, ◌∙◌, ap, subst}
use Rattle.std.proofs.lemmas.List.Elements.{All-cons, All-head, All-nil, All-tail}
use Rattle.std.proofs.lemmas.List.Recursion.{is_sum_by}
use Rattle.std.specs.Prelude.{All, IfOk, Ok, Result, flat_map, map, sum_by}
use mathlib.Core.Option.{some}
use Rattle.seq_model.specs.declared.record.Record.{Record}
use Rattle.seq_model.specs.Audit.{IsRunBetween}
use Rattle.seq_model.specs.Contents.{Contents}
use Rattle.seq_model.specs.Runs.{IsInCommitOrder, IsRun, after_run}
use Rattle.vac_model.specs.declared.action.Action.{Action}
use Rattle.vac_model.specs.Balanced.{IsBalanced}
use Rattle.vac_model.specs.Holdings.{Holdings}
use Rattle.client_sessions.specs.declared.entry.Entry.{Entry}
use Rattle.client_sessions.specs.Holding.{HoldsTables, state_of}
use Rattle.client_sessions.specs.Runs.{after_deals}
use Rattle.seq_model.specs.declared.held.Held.{Held}
use Rattle.seq_model.specs.declared.refusal.Memory.{Memory}
use Rattle.shared_table.specs.declared.closed.Closed.{Closed}
use Rattle.shared_table.specs.declared.table.TxTable.{TxTable}
use Rattle.shared_table.specs.Ends.{homes_of, row_of}
use Rattle.shared_table.specs.Seated.{actor, contents_in, opening_of, view}
use Rattle.shared_table.specs.Shown.{ShowsWorld, total}
use Rattle.shared_table.specs.declared.view.SeatKnowledge.{SeatKnowledge}
use Rattle.tx_engine.specs.Closing.{IsLeftBy, state_of as held_by}
use Rattle.tx_engine.specs.Ready.{IsReady}
use Rattle.tx_engine.specs.declared.seats.TxSeat.{TxSeat}
use Rattle.vacation_core.specs.Served.{HaveSame, IsWhole, Receipt, records_in}
use Rattle.vacation_core.proofs.ReceiptLemmas.{receipts_are_actions}
use Rattle.job_workers.specs.declared.report.Report.{Report}
use Rattle.job_workers.specs.Reports.{HasRun, IsReportOf}
use Rattle.tx_engine.specs.Tasks.{Outcome, records_of}
use Rattle.workers.specs.Serving.{AreAllowed, AreReportedAs, AreRun, ClosesWith, IsClosedWith, OpensOnTables, RanAndClosed, WereRun}
use Rattle.workers.specs.Serving.{all_dealt, asks_of}
use Rattle.workers.proofs.AuditLemmas.{audited_in_order}
use Rattle.workers.proofs.ServedLemmas.{IsOwn, all_receipts, all_whole, outcomes_in, read_as_told}

-- ---- what a close leaves
-- these receipts, in commit order, are a run that leaves this
record IsWhatRemains (opening : Contents Entry) (receipts : List (ℕ × Record Entry)) (s : Contents Entry) : Type 0 where
  order : List (ℕ × Record Entry)
  same : HaveSame receipts order
  in_order : IsInCommitOrder order
  run : IsRun order opening
  left : s ≡ after_run order opening

-- a state by its parts
same_state : (s : Contents Entry) (words : List ℕ) (held : List (Held Entry)) → s.words ≡ words → s.held ≡ held
    → s ≡ record { words = words; held = held }
same_state s words held same_words same_held =
    subst (λ (hs : List (Held Entry)). s ≡ record { words = words; held = hs }) same_held
    (subst (λ (ws : List ℕ). s ≡ record { words = ws; held = s.held }) same_words refl)

pub closes_with : (t : TxTable Entry) (seat : TxSeat Entry) (s : Contents Entry) (closed : Closed Entry)
    → IsLeftBy (contents_in t) (view seat.seat).receipts closed
    → ShowsWorld (opening_of t) (actor seat.seat) (view seat.seat) (row_of closed) (map some (homes_of closed))
    → s.words ≡ (held_by closed).words → s.held ≡ (held_by closed).held → IsClosedWith t seat s
unfolding IsClosedWith
closes_with t seat s closed left shows same_words same_held =
    let state : s ≡ held_by closed = same_state s (held_by closed).words (held_by closed).held same_words same_held in
    let closes : ClosesWith t seat s = record { closed = closed; left = left; shows = shows; state = state } in
    closes

-- what is added up over receipts
total_is_sum : (h : ℕ × Record Entry → ℕ) (receipts : List (ℕ × Record Entry)) → total h receipts ≡ sum_by h receipts
total_is_sum h receipts = is_sum_by (λ xs. total h xs) h refl (λ x xs. refl) receipts

same_total : (receipts order : List (ℕ × Record Entry)) → ((h : ℕ × Record Entry → ℕ) → total h receipts ≡ total h order)
    → HaveSame receipts order
same_total receipts order same h = sym (total_is_sum h receipts) ∙ same h ∙ total_is_sum h order

remains : (t : TxTable Entry) (seat : TxSeat Entry) (s : Contents Entry) → ClosesWith t seat s
    → IsWhatRemains (contents_in t) (view seat.seat).receipts s
remains t seat s closes = record {
  order = closes.left.order;
  same = same_total (view seat.seat).receipts closes.left.order closes.left.same;
  in_order = closes.left.in_order;
  run = closes.left.serial;
  left = closes.state ∙ sym closes.left.state;
}

-- ---- the receipts as a run
-- receipts of a seat, each with the action of the reported receipt that it is
record ArePaired (receipts : List (ℕ × Record Entry)) (reported : List (Action × Record Entry)) : Type 0 where
  own : List Receipt
  records : records_in own ≡ receipts
  same : map (λ x. (x.0, x.1.1)) own ≡ reported

head_same : (x y : Record Entry) (xs ys : List (Record Entry)) → ◌≡◌ {A = List (Record Entry)} (x ∷ xs) (y ∷ ys) → x ≡ y
head_same x y xs ys e = cc

tail_same : (x y : Record Entry) (xs ys : List (Record Entry)) → ◌≡◌ {A = List (Record Entry)} (x ∷ xs) (y ∷ ys) → xs ≡ ys
tail_same x y xs ys e = cc

none_some : (y : Record Entry) (ys : List (Record Entry)) → ◌≡◌ {A = List (Record Entry)} [] (y ∷ ys) → ⊥
none_some y ys e = cc

paired : (receipts : List (ℕ × Record Entry)) (reported : List (Action × Record Entry))
    → map (λ e. e.1) receipts ≡ map (λ d. d.1) reported → ArePaired receipts reported
paired [] [] e = record { own = []; records = refl; same = refl }
paired [] (d ∷ ds) e = absurd (none_some d.1 (map (λ d. d.1) ds) e)
paired (r ∷ rs) [] e = absurd (none_some r.1 (map (λ x. x.1) rs) (sym e))
paired (r ∷ rs) (d ∷ ds) e =
    let p = paired rs ds (tail_same r.1 d.1 (map (λ x. x.1) rs) (map (λ x. x.1) ds) e) in
    let same : r.1 ≡ d.1 = head_same r.1 d.1 (map (λ x. x.1) rs) (map (λ x. x.1) ds) e in
    record {
      own = (d.0, r) ∷ p.own;
      records = ap (λ (xs : List (ℕ × Record Entry)). r ∷ xs) p.records;
      same = ap (λ (y : Record Entry). (d.0, y) ∷ map (λ (x : Receipt). (x.0, x.1.1)) p.own) same
          ∙ ap (λ (xs : List (Action × Record Entry)). d ∷ xs) p.same;
    }

abbrev IsOwnReceipt : Receipt → Type 0
IsOwnReceipt x = IsWhole x.0 x.1.1.calls

own_each : (own : List Receipt) → All IsOwn (map (λ x. (x.0, x.1.1)) own) → All IsOwnReceipt own
own_each [] all = All-nil IsOwnReceipt
own_each (x ∷ xs) all =
    let rest : List (Action × Record Entry) = map (λ y. (y.0, y.1.1)) xs in
    All-cons IsOwnReceipt x xs (All-head IsOwn (x.0, x.1.1) rest all) (own_each xs (All-tail IsOwn (x.0, x.1.1) rest all))

-- what the seat leaves is a run of the actions that are reported with a receipt
run_of : (tables : Holdings) (lists : List (List Action)) (report : Report Entry) (receipts : List (ℕ × Record Entry))
    (s : Contents Entry) (t : TxTable Entry) (tries : ℕ) (m u : TxSeat Entry) (reported : IsReportOf asks_of t tries m u lists report)
    → IsBalanced tables → AreAllowed lists → map (λ e. e.1) receipts ≡ flat_map (λ (rs : List (Record Entry)). rs) report.receipts
    → IsWhatRemains (state_of tables) receipts s
    → AreRun tables (all_dealt lists (outcomes_in t tries m u lists report reported).0) s
run_of tables lists report receipts s t tries m u reported balanced allowed gained left =
    let o = outcomes_in t tries m u lists report reported in
    let each : AreReportedAs lists report o.0 = o.1 in
    let all : All IsOwn (all_dealt lists o.0) = all_whole lists o.0 allowed each.each in
    let p : ArePaired receipts (all_dealt lists o.0) =
    paired receipts (all_dealt lists o.0)
    (gained ∙ ap (λ (rs : List (List (Record Entry))). flat_map (λ (qs : List (Record Entry)). qs) rs) each.receipts
    ∙ sym (all_receipts lists o.0 each.each)) in
    record {
      own = p.own;
      same = p.same;
      order = left.order;
      served = receipts_are_actions tables p.own left.order balanced
          (own_each p.own (subst (λ (ds : List (Action × Record Entry)). All IsOwn ds) (sym p.same) all))
          (λ h. subst (λ (xs : List (ℕ × Record Entry)). sum_by h xs ≡ sum_by h left.order) (sym p.records) (left.same h))
          left.in_order left.run;
      left = left.left;
    }

-- so an audit finds them to be one
audited_so : (tables : Holdings) (lists : List (List Action)) (report : Report Entry) (outcomes : List (List (Outcome Entry)))
    (t : TxTable Entry) (tries : ℕ) (m u : TxSeat Entry) (s : Contents Entry) → AreReportedAs lists report outcomes
    → IsReportOf asks_of t tries m u lists report → AreRun tables (all_dealt lists outcomes) s
    → IsRunBetween (state_of tables) (flat_map (λ (rs : List (Record Entry)). rs) report.receipts) s
audited_so tables lists report outcomes t tries m u s told reported run =
    let own : List (Record Entry) → List (Record Entry) = λ rs. rs in
    let records : List (Record Entry) = flat_map own report.receipts in
    let are : map (λ (d : Action × Record Entry). d.1) (map (λ x. (x.0, x.1.1)) run.own) ≡ records =
    ap (map (λ (d : Action × Record Entry). d.1)) run.same ∙ all_receipts lists outcomes told.each
    ∙ sym (ap (flat_map own) told.receipts) in
    subst (λ (c : Contents Entry). IsRunBetween (state_of tables) records c) (sym run.left)
    (audited_in_order tables run.own run.order records run.served are (read_as_told t tries m u lists report reported))

-- and so are the receipts of a table that opened on the tables
pub served_so : (tables : Holdings) (stripes : ℕ) (lists jobs : List (List Action)) (t : TxTable Entry) (tries : ℕ) (s u : TxSeat Entry)
    (r : Result (Report Entry) Memory) (report : Report Entry) (state : Contents Entry)
    → IsBalanced tables → AreAllowed lists → jobs ≡ lists → OpensOnTables tables stripes t s → IsReady t u
    → IfOk r (IsReportOf asks_of t tries s u jobs) → IfOk r (HasRun s u) → r ≡ Ok report → IsClosedWith t u state
    → (outcomes : List (List (Outcome Entry))) × AreReportedAs lists report outcomes × AreRun tables (all_dealt lists outcomes) state
    × WereRun t tries lists report state
    × IsRunBetween (state_of tables) (flat_map (λ (rs : List (Record Entry)). rs) report.receipts) state
unfolding IsClosedWith WereRun
served_so tables stripes lists jobs t tries s u r report state balanced allowed same opened ready reports runs is closed =
    let closes : ClosesWith t u state = closed in
    let reported : IsReportOf asks_of t tries s u lists report =
    subst (λ (js : List (List Action)). IsReportOf asks_of t tries s u js report) same
    (subst (λ (q : Result (Report Entry) Memory). IfOk q (IsReportOf asks_of t tries s u jobs)) is reports) in
    let run : HasRun s u report = subst (λ (q : Result (Report Entry) Memory). IfOk q (HasRun s u)) is runs in
    let o = outcomes_in t tries s u lists report reported in
    let ran = run_of tables lists report (view u.seat).receipts state t tries s u reported balanced allowed
    (subst
    (λ (v : SeatKnowledge Entry). records_of u ≡ map (λ e. e.1) v.receipts ++ flat_map (λ (rs : List (Record Entry)). rs) report.receipts)
    opened.seat_is run.records)
    (subst (λ (c : Contents Entry). IsWhatRemains c (view u.seat).receipts state) opened.contents (remains t u state closes)) in
    let were : RanAndClosed t tries lists report state =
    record {
      seat = s;
      opens = (opened.ready, opened.seat_is);
      last = u;
      ready = ready;
      gains = run;
      tried = reported;
      closes = closes;
    } in
    (o.0, o.1, ran, were, audited_so tables lists report o.0 t tries s u state o.1 reported ran)

-- so it is the state of balanced tables
pub holds_some : (tables : Holdings) (receipts : List (Action × Record Entry)) (s : Contents Entry) → AreRun tables receipts s
    → HoldsTables s
holds_some tables receipts s run = record { tables = after_deals run.served.served.deals tables; are = run.left ∙ run.served.served.left }

pub are_balanced : (tables left : Holdings) (receipts : List (Action × Record Entry)) (s : Contents Entry) → AreRun tables receipts s
    → ((others : Holdings) → s ≡ state_of others → left ≡ others) → IsBalanced left
are_balanced tables left receipts s run inverse =
    subst IsBalanced (sym (inverse (after_deals run.served.served.deals tables) (run.left ∙ run.served.served.left)))
    run.served.served.balanced
