-- What a table shows of its seats.
--
-- The world's aborted transactions of an actor are those of the world with it alone (`IsOwn`), and all of the world's saw their states.
-- Each actor's records weigh what those of that world do, and a seat's receipts what those of its actors do. So the receipts of one seat,
-- which weigh no more than all records, count no actor twice that has a record. What an actor asks is an event, and leaves the records.
use Rattle.std.proofs.Common.{◌≡◌, ℕ, zero, suc, ◌<◌, ◌≤◌, List, [], ◌∷◌, get_or, refl, sym, ◌∙◌, ◌++◌}
use Rattle.std.proofs.Common.{subst, arith}
use Rattle.std.specs.Prelude.{All, ◌==◌}
use Rattle.std.proofs.lemmas.Bool.{cond_both}
use Rattle.std.proofs.lemmas.List.Elements.{All-cons}
use mathlib.Core.Option.{some, some-injective, some-ne-none}
use lib.ListN.{get_elem?}
use Rattle.atomic_table.specs.Table.{State}
use Rattle.seq_model.specs.Contents.{Contents}
use Rattle.seq_model.specs.declared.event.Event.{Event}
use Rattle.seq_model.specs.declared.record.Record.{Record}
use Rattle.replay_log.specs.Contents.{HaveStripes}
use Rattle.replay_log.specs.Seats.{Ended, Seat, World}
use Rattle.replay_log.specs.WorldSerial.{AllSaw, IsSerial, SawAt}
use Rattle.replay_log.specs.Worlds.{run}
use Rattle.shared_table.specs.Opening.{Holds, world_at}
use Rattle.shared_table.specs.Shown.{IsJoined, IsOwn, Opens, Shows, Slot, aborted_by, only_by, total}
use Rattle.shared_table.specs.Turns.{asked_all, lone, stage_of}
use Rattle.shared_table.specs.declared.view.Opening.{Opening}
use Rattle.shared_table.specs.declared.view.Turn.{Turn}
use Rattle.shared_table.specs.declared.view.SeatKnowledge.{SeatKnowledge}
use Rattle.shared_table.proofs.Keeps.{asked_events, run_append, run_asked}
use Rattle.shared_table.proofs.Numbers.{inside, total_part}
use Rattle.shared_table.proofs.Turned.{asked_alike, asked_calm}
use Rattle.tx_engine.specs.Records.{AreReceipts, HasAborted, SeesAtOnce, ShowsSeats, only_of, stands_for}
use Rattle.tx_engine.proofs.SeatLemmas.{SerialLaw}
use Rattle.tx_engine.proofs.WeightLemmas.{at_most_once, once, total_same, total_swap, weighed, where_same}

get_there : {A : Type 0} (l : List A) (i : ℕ) (x d : A) → get_elem? l i ≡ some x → get_or l i d ≡ x
get_there [] i x d at = absurd (some-ne-none x (sym at))
get_there (y ∷ ys) zero x d at = some-injective y x at
get_there (y ∷ ys) (suc i) x d at = get_there ys i x d at

module _ {V : Type 0} where
  -- ---- aborted transactions
  pub all_saw : (c : Contents V) (rs : List (ℕ × Record V)) (a : ℕ) (es : List (Ended V)) → AllSaw c rs es → AllSaw c rs (aborted_by a es)
  all_saw c rs a [] saw = tt
  all_saw c rs a (e ∷ es) saw =
      cond_both (e.actor == a) (e ∷ aborted_by a es) (aborted_by a es) (AllSaw c rs)
      (λ _. (saw.0, all_saw c rs a es saw.1))
      (λ _. all_saw c rs a es saw.1)

  has_aborted : (c : Contents V) (o w : World V) (a : ℕ) (turns : List (Turn V)) → IsSerial c w → IsOwn a w (lone a o turns)
      → HasAborted c o w (a, turns)
  has_aborted c o w a turns serial own = record {
    own = own.aborted;
    saw = subst (AllSaw c w.records) own.aborted (all_saw c w.records a w.aborted serial.aborted_saw);
  }

  -- an actor for which a seat stands is as in the world with it alone
  abbrev IsOwnOf : World V → World V → ℕ × List (Turn V) → Type 0
  IsOwnOf o w p = IsOwn p.0 w (lone p.0 o p.1)

  joined_own : (o w : World V) (s : State (Slot V) (SeatKnowledge V)) → Shows o w s → (p : ℕ × List (Turn V)) → IsJoined s.views p
      → IsOwnOf o w p
  joined_own o w s shows p is =
      subst (λ (turns : List (Turn V)). IsOwn p.0 w (lone p.0 o turns)) is.3 (shows.own p.0 is.0 is.1)

  all_own : (o w : World V) (s : State (Slot V) (SeatKnowledge V)) → Shows o w s → (j : ℕ) (v : SeatKnowledge V)
      → get_elem? s.views j ≡ some v
      → All (IsOwnOf o w) (stands_for j v)
  all_own o w s shows j v at =
      All-cons (IsOwnOf o w) (j, v.turns) v.joined (shows.own j v at)
      (λ i d lt. joined_own o w s shows (get_or v.joined i d) (shows.joined j v at i d lt))

  -- ---- receipts
  abbrev by_actors : World V → List (ℕ × List (Turn V)) → (ℕ × Record V → ℕ) → ℕ
  by_actors w ps h = total (λ p. total (only_by p.0 h) w.records) ps

  earned_by : (o w : World V) (s : State (Slot V) (SeatKnowledge V)) → Shows o w s → (j : ℕ) (v : SeatKnowledge V)
      → get_elem? s.views j ≡ some v
      → 0 < v.shares → (h : ℕ × Record V → ℕ) → total h v.receipts ≡ by_actors w (stands_for j v) h
  earned_by o w s shows j v at live h =
      let own = shows.own j v at in
      let mine = own.committed h in
      let all = shows.earned j v at live h in
      let theirs : total (λ p. total (only_by p.0 h) w.records) v.joined ≡ total (λ p. total h (lone p.0 o p.1).records) v.joined =
      total_same (λ (p : ℕ × List (Turn V)). total (only_by p.0 h) w.records)
      (λ (p : ℕ × List (Turn V)). total h (lone p.0 o p.1).records) v.joined
      (λ i p there. (let is : IsJoined s.views p = subst (IsJoined s.views) (get_there v.joined i p p there)
      (shows.joined j v at i p (inside v.joined i p there)) in (joined_own o w s shows p is).committed h)) in omega arith

  -- the other way round: each record as often as its actor stands there
  by_records : (w : World V) (ps : List (ℕ × List (Turn V))) (h : ℕ × Record V → ℕ)
      → by_actors w ps h ≡ total (λ r. total (λ p. where_same (h r) r.0 p.0) ps) w.records
  by_records w ps h = total_swap (λ (p : ℕ × List (Turn V)) (r : ℕ × Record V). only_by p.0 h r) ps w.records

  pub are_receipts : (o w : World V) (s : State (Slot V) (SeatKnowledge V)) → Shows o w s → (j : ℕ) (v : SeatKnowledge V)
      → get_elem? s.views j ≡ some v
      → 0 < v.shares → AreReceipts w (stands_for j v) v.receipts
  are_receipts o w s shows j v at live h =
      earned_by o w s shows j v at live h
      ∙ (by_records w ps h
      ∙ total_same (λ (r : ℕ × Record V). total (λ p. where_same (h r) r.0 p.0) ps) (only_of ps h) w.records
      (λ i r there. once (λ (p : ℕ × List (Turn V)). p.0) (h r) r.0 ps (few i r there)))
    where
      ps : List (ℕ × List (Turn V))
      ps = stands_for j v

      count : ℕ → ℕ
      count a = total (λ p. where_same 1 a p.0) ps

      weigh : ℕ → ℕ × Record V → ℕ
      weigh a r = where_same 1 r.0 a

      -- by this weight each record of a counts as often as a stands there, and no other
      counts : (a : ℕ) (r : ℕ × Record V) → total (λ p. where_same (weigh a r) r.0 p.0) ps ≡ where_same (count a) r.0 a
      counts a r = weighed (λ (p : ℕ × List (Turn V)). p.0) a r.0 ps

      few : (i : ℕ) (r : ℕ × Record V) → get_elem? w.records i ≡ some r → count r.0 ≤ 1
      few i r there = at_most_once (count r.0) (λ (x : ℕ × Record V). x.0) w.records i r there
          (let h₁ = weigh r.0 in
          let sums = earned_by o w s shows j v at live h₁ ∙ by_records w ps h₁ in
          let part = total_part (λ (u : SeatKnowledge V). total h₁ u.receipts) s.views j v at in
          let whole = shows.receipts h₁ in
          let each : total (λ x. total (λ p. where_same (h₁ x) x.0 p.0) ps) w.records
          ≡ total (λ x. where_same (count r.0) x.0 r.0) w.records = total_same
          (λ (x : ℕ × Record V). total (λ p. where_same (h₁ x) x.0 p.0) ps)
          (λ (x : ℕ × Record V). where_same (count r.0) x.0 r.0) w.records (λ k x _. counts r.0 x) in omega arith)

  -- ---- what is asked
  sees_at_once : SerialLaw V → (o : World V) (opens : Opens o) → HaveStripes o.blocks → (es : List (Event V)) (j : ℕ)
      (turns : List (Turn V)) → IsOwn j (run o es) (lone j o turns) → (asks : List (Event V))
      → SeesAtOnce opens.contents (run o es) (lone j o turns) j asks
  sees_at_once law o opens stripes es j turns own asks =
      let w = run o es in
      let reached : run o (es ++ asked_events j asks) ≡ asked_all j w asks = run_append es (asked_events j asks) o ∙ run_asked j asks w in
      let serial : IsSerial opens.contents (asked_all j w asks) =
      subst (IsSerial opens.contents) reached (law o opens (es ++ asked_events j asks) stripes) in
      let same = (asked_calm j asks w).records in
      let alike = asked_alike j asks w (lone j o turns) own.alike in record {
        serial = serial;
        records = same;
        alike = alike;
        saw = subst (λ (x : Seat V). SawAt opens.contents w.records x x.stage) alike.seat
            (subst (λ (rs : List (ℕ × Record V)).
            SawAt opens.contents rs ((asked_all j w asks).seats j) (stage_of (asked_all j w asks) j)) same (serial.open_saw j));
      }

  pub shows_seats : SerialLaw V → (opening : Opening V) (s : State (Slot V) (SeatKnowledge V)) (rule : Holds opening s)
      → ShowsSeats opening rule.rule.events s
  shows_seats law opening s rule =
      let o = world_at opening in
      let w = run o rule.rule.events in
      let shows = rule.rule.shows in
      let opens : Opens o = record {
        clock = opening.shape.value.clock;
        contents = opening.state.value;
        suits = rule.suits;
        world = refl;
      } in
      let serial : IsSerial opening.state.value w = law o opens rule.rule.events rule.stripes in record {
        aborted = λ j v at i d lt.
            (let p = get_or (stands_for j v) i d in has_aborted opening.state.value o w p.0 p.1 serial (all_own o w s shows j v at i d lt));
        receipts = are_receipts o w s shows;
        at_once = λ j v at asks. sees_at_once law o opens rule.stripes rule.rule.events j v.turns (shows.own j v at) asks;
      }
