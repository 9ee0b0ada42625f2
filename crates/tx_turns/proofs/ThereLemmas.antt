-- A world that events have reached, and which is to a seat's actor as the world with it alone is.
--
-- The laws on what an actor makes of itself speak of worlds that events have reached. The world with one seat alone is none, but events
-- lead to one that is the same to its actor, also in the bases that it has out (`there`); and what a step, or a request, leaves there is
-- the same to it as what it leaves in the world with it alone. So the actor is asked there, and what comes of it is taken back.
use Rattle.std.proofs.Common.{◌≡◌, ℕ, true, List, Option, sym, ap, ◌∙◌, subst}
use Rattle.seq_model.specs.Contents.{Contents}
use Rattle.seq_model.specs.declared.event.Event.{Event}
use Rattle.seq_model.specs.declared.event.Event.TheVariants.{Step}
use Rattle.tx_machine.specs.Boosted.{is_actor}
use Rattle.tx_machine.specs.Content.{has}
use Rattle.replay_log.specs.declared.base.Base.{Base}
use Rattle.replay_log.specs.Contents.{Block}
use Rattle.replay_log.specs.Seats.{World, After}
use Rattle.replay_log.specs.Worlds.{happens, run}
use Rattle.replay_log.proofs.SeatLemmas.{Differ}
use Rattle.actor_laws.specs.Bases.{ShowsBase}
use Rattle.actor_laws.specs.Own.{Alike}
use Rattle.actor_laws.proofs.Alike.{alike_sym}
use Rattle.actor_parts.specs.Blocks.{IsLaid}
use Rattle.actor_parts.specs.Dispatch.{next_of}
use Rattle.tx_actor.specs.CopiesByStage.{HasCopies}
use Rattle.tx_actor.specs.Running.{Runs, notice_of, stage_of}
use Rattle.tx_actor.specs.declared.actor.ActorNotice.{ActorNotice}
use Rattle.tx_actor.specs.declared.actor.TxActor.{TxActor}
use Rattle.tx_actor.specs.Reached.{IsReached}
use Rattle.tx_actor.proofs.CopyLemmas.{IsBaseIn as IsBaseThere}
use Rattle.tx_actor.proofs.GatesLemmas.{gates_as, gates_in}
use Rattle.tx_actor.proofs.OwnLemmas.{OthersLaw, copies_stand}
use Rattle.tx_actor.proofs.SeatLemmas.{next_as, runs_stand}
use Rattle.tx_actor.proofs.StepLemmas.{reached_linked}
use Rattle.shared_table.specs.declared.seat.Seat as table
use Rattle.shared_table.specs.declared.table.TxTable.{TxTable}
use Rattle.shared_table.specs.Shown.{SameBases, Slot}
use Rattle.shared_table.specs.Seated as seated
use Rattle.shared_table.specs.Seated.{Takes, acts, opening_of, out}
use Rattle.shared_table.specs.Turns.{moved}
use Rattle.shared_table.proofs.Keeps.{base_sym}
use Rattle.tx_turns.specs.Ties.{Ties, laid_in}
use Rattle.tx_turns.specs.Bases.{AreBases, ArePreparedAt, IsBaseIn, gates_at, slots_of}
use Rattle.tx_turns.specs.Own.{HasOwn}
use Rattle.tx_turns.proofs.BasesLemmas.{differ, gates_is, shows_same}

module _ {V : Type 0} where
  -- the contents on which the table opened
  abbrev pub start : (t : TxTable V) (s : table.Seat V) (r : TxActor V) → Ties t s r → Contents V
  start t s r ties = ties.reached.opens.contents

  module _ (t : TxTable V) (s : table.Seat V) (r : TxActor V) (ties : Ties t s r) (es : List (Event V))
      (al : Alike (seated.actor s) (run (opening_of t) es) (acts (opening_of t) s)) where
    abbrev pub there : World V
    there = run (opening_of t) es

    pub there_reached : IsReached (start t s r ties) there
    there_reached = record {
      blocks = (opening_of t).blocks;
      clock = ties.reached.opens.clock;
      events = es;
      stripes = ties.reached.stripes;
      suits = ties.reached.opens.suits;
      world = ap (λ (z : World V). run z es) ties.reached.opens.world;
    }

    pub there_runs : Runs (seated.actor s) r there
    there_runs =
        let a = seated.actor s in
        let w = acts (opening_of t) s in
        runs_stand w there a r (alike_sym a there w al) ties.runs

    pub there_laid : IsLaid (laid_in t) there
    there_laid = (al.words ∙ ties.reached.shape.0, al.blocks ∙ ties.reached.shape.1)

    pub there_copies : OthersLaw V → HasCopies r (acts (opening_of t) s) (seated.actor s) → HasCopies r there (seated.actor s)
    there_copies law h =
        let a = seated.actor s in
        let w = acts (opening_of t) s in
        copies_stand law w there a r (alike_sym a there w al) h

    pub there_next : next_of (there.seats (seated.actor s)).stage ≡ next_of (stage_of r.stage)
    there_next = next_as there (seated.actor s) r there_runs

    pub there_gates : gates_in there (seated.actor s) ≡ gates_at r.stage
    there_gates = gates_as there (seated.actor s) r there_runs ∙ sym (gates_is r.stage)

    -- these are the gates that it holds, each once
    pub there_held : (k : ℕ) → is_actor (seated.actor s) (there.boosted.gates k) ≡ has (gates_at r.stage) k
    there_held k =
        ((reached_linked (start t s r ties) there there_reached).seats (seated.actor s)).gates k
        ∙ ap (λ (ks : List ℕ). has ks k) there_gates

    pub there_differ : Differ (gates_at r.stage)
    there_differ =
        let a = seated.actor s in
        let ok = ((reached_linked (start t s r ties) there there_reached).seats a).stage in
        subst Differ there_gates (differ _ _ _ _ _ _ _ ok)

    -- the base that it has out is that of the collection there
    pub there_base : SameBases (seated.actor s) there (acts (opening_of t) s) → (k : ℕ) (b : Base V) → has (gates_at r.stage) k ≡ true
        → IsBaseIn (opening_of t) (acts (opening_of t) s) k b → IsBaseThere (laid_in t) there k b
    there_base same k b held is =
        let o = opening_of t in
        let w = acts o s in
        let laid = there_laid in
        let one = base_sym k there w (sym al.words) (sym al.blocks) (same k (there_held k ∙ held)) in
        let shows = shows_same o w there k b ties.reached.shape.0 ties.reached.shape.1 one is.1 in
        record {
          shows = subst (λ (z : ℕ × List Block). ShowsBase z.0 z.1 there k b) (λ i. (sym laid.0 i, sym laid.1 i)) shows;
          fit = is.0;
        }

  -- ---- a step, which leaves the seat u and the actor q
  module _ (t : TxTable V) (s u : table.Seat V) (r : TxActor V) (clock found : ℕ) (base : Option (Base V)) (bases : List (ℕ × Slot V))
      (ties : Ties t s r) (takes : Takes (opening_of t) s clock found base bases u) where
    abbrev me : ℕ
    me = seated.actor s

    abbrev mine : World V
    mine = acts (opening_of t) s

    -- the world in which the step has happened
    abbrev pub then : World V
    then = run (opening_of t) takes.happened.events

    abbrev pub step_then : After V
    step_then = happens then (Step me)

    pub turn_runs : (q : TxActor V) (n : ActorNotice V) → Runs me q step_then.0 × (notice_of me n ≡ step_then.1)
        → Runs me q (moved me mine found base).0 × (notice_of me n ≡ (moved me mine found base).1)
    turn_runs q n h =
        let same = takes.happened.same in (runs_stand step_then.0 (moved me mine found base).0 me q same.0 h.0, h.1 ∙ same.1)

    pub turn_after : (q : TxActor V) → Ties t u q → Runs me q step_then.0
    turn_after q tied =
        let x = (moved me mine found base).0 in
        runs_stand x step_then.0 me q (alike_sym me step_then.0 x takes.happened.same.0)
        (subst (λ (z : ℕ × World V). Runs z.0 q z.1) (λ i. (takes.seat.1 i, takes.own i)) tied.runs)

    pub turn_gates : (q : TxActor V) → Ties t u q → gates_in step_then.0 me ≡ gates_at q.stage
    turn_gates q tied = gates_as step_then.0 me q (turn_after q tied) ∙ sym (gates_is q.stage)

    pub own_after : (q : TxActor V) (bs : List (Base V)) → OthersLaw V → HasCopies q step_then.0 me → out u ≡ slots_of (gates_at q.stage)
        → AreBases (opening_of t) (moved me mine found base).0 (gates_at q.stage) bs → ArePreparedAt q.copies.items q.stage bs
        → HasOwn t u q bs
    own_after q bs law copies outs are prepared =
        let x = (moved me mine found base).0 in
        record {
          copies = subst (λ (z : ℕ × World V). HasCopies q z.1 z.0) (λ i. (sym takes.seat.1 i, sym takes.own i))
              (copies_stand law step_then.0 x me q takes.happened.same.0 copies);
          out = outs;
          bases = subst (λ (z : World V). AreBases (opening_of t) z (gates_at q.stage) bs) (sym takes.own) are;
          prepared = prepared;
        }
