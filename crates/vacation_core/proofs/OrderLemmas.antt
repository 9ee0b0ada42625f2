-- The sessions of a list of actions, and their results.
-- After each session the client has committed one action more. Where it is idle its records are its sessions, one for each action, in their
-- order: so says the law of a client that is alone, of the world that its history leads to; and the trace has the result of that world.
use Rattle.std.proofs.Common.{◌≡◌, ℕ, suc, ◌+◌, ◌<◌, ◌≤◌, List, [], ◌∷◌, ◌++◌, length, refl, sym, ◌∙◌, ap, subst, arith, take}
use Rattle.std.proofs.Common.{take-suc}
use Rattle.std.specs.Prelude.{All, get_or, map}
use Rattle.std.proofs.lemmas.List.{append_assoc, append-nil, take_all}
use Rattle.tx_machine.specs.Actor.{clock_limit}
use Rattle.seq_model.specs.declared.record.Record.{Record}
use Rattle.seq_model.specs.Contents.{Contents}
use Rattle.seq_model.specs.Runs.{IsInCommitOrder, IsRun}
use Rattle.replay_log.specs.Worlds.{World}
use Rattle.vac_model.specs.declared.action.Action.{Action}
use Rattle.vac_model.specs.Actions.{IsAllowed}
use Rattle.vac_model.specs.Holdings.{Holdings}
use Rattle.client_sessions.specs.declared.entry.Entry.{Entry}
use Rattle.client_sessions.specs.Holding.{state_of}
use Rattle.client_sessions.specs.Runs.{AreSessions}
use Rattle.step_world.specs.Parts.{IsWorld}
use Rattle.step_world.specs.declared.parts.Parts.{Parts}
use Rattle.step_world.specs.Reached.{IsReached}
use Rattle.step_world.specs.Serial.{IsFrom}
use Rattle.step_world.specs.Traces.{IsSerialTrace, IsTraceOf}
use Rattle.step_world.specs.declared.trace.Trace.{Trace}
use Rattle.vacation_core.specs.Alone.{AreRecordsOf, IsInOrder}
use Rattle.vacation_core.specs.Histories.{world_in}
use Rattle.vacation_core.proofs.AloneLemmas.{alone_is_in_order}
use Rattle.vacation_core.proofs.ClientLemmas.{reached}
use Rattle.vacation_core.proofs.ServedSessionLemmas.{allowed_at}
use Rattle.vacation_core.specs.Orders.{AreReceipts, of_client}
use Rattle.vacation_core.specs.Turns.{HasOpened, IsAtRest, MayRun, Runs, RunsAll}

-- ---- session after session
abbrev pub SoFar : List Action → ℕ → Parts Entry → Parts Entry → Type 0
SoFar actions i c d =
    (tables : Holdings) (first : Action) → All IsAllowed actions → IsAtRest tables 0 first [] c
    → (last : Action) × IsAtRest tables i last (take i actions) d

pub none_so_far : (actions : List Action) (c : Parts Entry) → SoFar actions 0 c c
none_so_far actions c tables first allowed x = (first, x)

-- the session of the next action may run
pub may_run : (actions : List Action) (i : ℕ) (action : Action) (c d : Parts Entry) → i < length actions
    → action ≡ get_or actions i action → length actions < clock_limit → All IsAllowed actions
    → (tables : Holdings) × HasOpened tables c → SoFar actions i c d → MayRun action d
may_run actions i action c d lt at few allowed opened so_far =
    let r = so_far opened.0 opened.1.0 allowed opened.1.1 in
    record {
      tables = opened.0;
      count = i;
      last = r.0;
      done = take i actions;
      allowed = allowed_at actions i action lt at allowed;
      rests = r.1;
      few = omega (arith, lt, few);
    }

pub one_more : (actions : List Action) (i : ℕ) (action : Action) (c d e : Parts Entry) → i < length actions
    → action ≡ get_or actions i action
    → length actions < clock_limit → SoFar actions i c d → Runs action d e → SoFar actions (i + 1) c e
one_more actions i action c d e lt at few so_far runs tables first allowed x =
    let r = so_far tables first allowed x in
    let within : IsAllowed action = allowed_at actions i action lt at allowed in
    let add_one : suc i ≡ i + 1 = omega arith in (
      action,
      subst (λ (done : List Action). IsAtRest tables (i + 1) action done e)
          (sym (take-suc actions i action lt ∙ ap (λ (y : Action). take i actions ++ y ∷ []) (sym at)) ∙ ap (λ m. take m actions) add_one)
          (runs tables i r.0 (take i actions) within r.1 (omega (arith, lt, few))),
    )

pub all_of_them : (actions : List Action) (i : ℕ) (c d : Parts Entry) → length actions ≤ i → i ≤ length actions → SoFar actions i c d
    → RunsAll actions c d
all_of_them actions i c d all most so_far tables first allowed x =
    let r = so_far tables first allowed x in
    let same : i ≡ length actions = omega (arith, all, most) in (
      r.0,
      subst (λ k. IsAtRest tables k r.0 actions d) same
          (subst (λ (done : List Action). IsAtRest tables i r.0 done d) (take_all i actions all) r.1),
    )

-- ---- their results
-- the records of one actor, without it and with it again
own_again : (rs : List (ℕ × Record Entry)) → AreRecordsOf 1 rs → of_client (map (λ r. r.1) rs) ≡ rs
own_again [] are = refl
own_again (r ∷ rs) are =
    ap (λ k. (k, r.1) ∷ of_client (map (λ s. s.1) rs)) (sym are.0) ∙ ap (λ (qs : List (ℕ × Record Entry)). r ∷ qs) (own_again rs are.1)

pub receipts : (c : Parts Entry) (t : Trace Entry) (got : List (Record Entry)) (tables : Holdings) (n : ℕ) (last : Action)
    (done : List Action)
    → ((opening : Contents Entry) (w : World Entry) → IsReached opening w → IsWorld c w → IsTraceOf w t)
    → ((opening : Contents Entry) → IsFrom opening c → IsSerialTrace opening t)
    → got ≡ map (λ r. r.1) t.records → IsAtRest tables n last done c → AreReceipts tables done got t.state
receipts c t got tables n last done traced serial are x =
    let h = x.history in
    let w = world_in h in
    let l = x.lawful in
    let there = reached h l in
    let trace : IsTraceOf w t = traced (state_of h.tables) w there x.parts in
    let run : IsSerialTrace (state_of h.tables) t = serial (state_of h.tables) (record { world = w; reached = there; parts = x.parts }) in
    let order : IsInOrder 1 _ h.tables w =
    alone_is_in_order h.blocks h.clock h.tables h.actions h.turns 1 l.allowed l.balanced l.stripes l.suits l.asks x.alone x.at.stands in
    let own : of_client got ≡ w.records =
    ap of_client (are ∙ ap (λ (rs : List (ℕ × Record Entry)). map (λ r. r.1) rs) trace.records) ∙ own_again w.records order.theirs in
    let back : t.records ≡ of_client got = trace.records ∙ sym own in
    subst (λ (s : Holdings). AreReceipts s done got t.state) x.opening
    (record {
      deals = order.deals;
      actions = order.actions ∙ x.at.has;
      sessions = subst (AreSessions order.deals) (sym own) order.sessions;
      replies = order.replies;
      ordered = subst IsInCommitOrder back run.ordered;
      run = subst (λ (rs : List (ℕ × Record Entry)). IsRun rs (state_of h.tables)) back run.run;
      left = trace.state ∙ order.left;
      balanced = order.balanced;
    })

-- ---- the records, moved
pub moved : (rs : List (ℕ × Record Entry)) (r : ℕ × Record Entry) (got : List (Record Entry)) (rest : List (ℕ × Record Entry))
    → got ++ map (λ s. s.1) (r ∷ rest) ≡ map (λ s. s.1) rs → (got ++ r.1 ∷ []) ++ map (λ s. s.1) rest ≡ map (λ s. s.1) rs
moved rs r got rest h = append_assoc got (r.1 ∷ []) (map (λ s. s.1) rest) ∙ h

pub moved_all : (rs : List (ℕ × Record Entry)) (got : List (Record Entry)) → got ++ [] ≡ map (λ s. s.1) rs → got ≡ map (λ s. s.1) rs
moved_all rs got h = sym (append-nil got) ∙ h
