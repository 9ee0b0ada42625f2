-- A call that is copied under its gate, and the gate put back with its base as it was.
--
-- The base in hand is that of the collection in each world that is to the actor as its own, with its bases: so what the call asks of its
-- actor is there before the step, and the step is what the actor made of itself (`copy_can`, `copy_tied`). The gate was the only one, so
-- nothing is out afterwards. Where an allocation fails once the gate is back, the seat reads for its call by then, and takes that in as one
-- event more (`copy_behind`).
use Rattle.std.proofs.Common.{◌≡◌, ℕ, ◌<◌, true, true≢false, List, [], ◌∷◌, Option, Some, None, inr, refl, sym, ap, ◌∙◌, subst}
use Rattle.std.specs.Prelude.{slice_index_or}
use Rattle.atomic_table.specs.Table.{Me, rest}
use Rattle.tx_machine.specs.Content.{has}
use Rattle.replay_log.specs.declared.base.Base.{Base}
use Rattle.replay_log.specs.Seats.{Loading, Seat, Stage, World}
use Rattle.replay_log.specs.Worlds.{happens, run}
use Rattle.replay_log.proofs.SeatLemmas.{gates_of}
use Rattle.seq_model.specs.declared.event.Event.{Event}
use Rattle.seq_model.specs.declared.event.Event.TheVariants.{Starve, Step}
use Rattle.seq_model.specs.declared.event.Notice.TheVariants.{Quiet}
use Rattle.actor_laws.specs.Own.{Alike}
use Rattle.actor_laws.proofs.OwnEvents.{own_event}
use Rattle.actor_parts.specs.Dispatch.{AreSteps, is_loading, next_of}
use Rattle.actor_parts.specs.Requests.{HasNoReads}
use Rattle.actor_parts.specs.declared.next.Next.TheVariants as next
use Rattle.actor_parts.specs.CopyAtGate.{CopiesFor, CopiesReached}
use Rattle.actor_parts.specs.Sizes.{SizesCopies}
use Rattle.actor_parts.specs.Blocks.{BlocksView}
use Rattle.tx_actor.specs.Copying.{CanCopy, CanCopyAt, HasTaken, HasTakenAt, StepsOn, StepsOnAt}
use Rattle.tx_actor.specs.CopiesByStage.{AsksNothing}
use Rattle.tx_actor.specs.ActorBounds.{IsRunning, KeepsIn}
use Rattle.tx_actor.specs.Running.{Runs, at, stage_of}
use Rattle.tx_actor.specs.CopiesAfterStep.{CopiesStayOwn}
use Rattle.tx_actor.specs.Taking.{AreTakenAt, AreTakenFor, IsTakenCall, StarvesBehind, StarvesBehindAt}
use Rattle.tx_actor.proofs.OwnCopyLemmas.{can_at}
use Rattle.tx_actor.proofs.StageLemmas.{has_nothing}
use Rattle.tx_actor.specs.declared.actor.CollectionCall.{CollectionCall}
use Rattle.tx_actor.specs.declared.taking.KeyedCall.{KeyedCall}
use Rattle.tx_actor.specs.declared.actor.Stage as own
use Rattle.tx_actor.specs.declared.actor.Stage.TheVariants as stage
use Rattle.tx_actor.specs.declared.actor.ActorNotice.{ActorNotice}
use Rattle.tx_actor.specs.declared.actor.ActorNotice.TheVariants as told
use Rattle.tx_actor.specs.declared.actor.TxActor.{TxActor}
use Rattle.tx_actor.proofs.CopyLemmas.{IsBaseIn as IsBaseThere, can_copy, copy_keeps, copy_runs, copy_starves, copying_is}
use Rattle.tx_actor.proofs.CopyLemmas.{rests_to_copy}
use Rattle.tx_actor.proofs.GatesLemmas.{gates_as, has_first, starved_gates, step_copy_gates}
use Rattle.tx_actor.proofs.OwnLemmas.{BlocksLaw, OthersLaw}
use Rattle.tx_actor.proofs.SeatLemmas.{runs_stand}
use Rattle.shared_table.specs.declared.seat.Seat as table
use Rattle.shared_table.specs.declared.table.TxTable.{TxTable}
use Rattle.shared_table.specs.declared.view.SeatKnowledge.{SeatKnowledge}
use Rattle.shared_table.specs.Shown.{SameBases, Slot}
use Rattle.shared_table.specs.Seated as seated
use Rattle.shared_table.specs.Seated.{Takes, acts, opening_of, out, view}
use Rattle.shared_table.specs.Turns.{moved}
use Rattle.shared_table.proofs.Gates.{puts_spot}
use Rattle.tx_turns.specs.RequestStep.{HasTaken as HasHeard}
use Rattle.tx_turns.specs.Ties.{IsOnWord, Ties, Turned, commits_at, laid_in}
use Rattle.tx_turns.proofs.LoneRequestLemmas.{acts_taken, seat_tied}
use Rattle.tx_turns.specs.Bases.{AreBases, ArePreparedAt, IsBaseIn, gates_at, slots_of}
use Rattle.tx_turns.specs.Own.{HasOwn}
use Rattle.tx_turns.specs.Refused.{IsGivenUp}
use Rattle.tx_turns.proofs.BasesLemmas.{are_none, gates_is, prepared_none}
use Rattle.tx_turns.proofs.GateLemmas.{copy_due, first_here, first_out, front_same, gate_tied, gate_turned, some_held}
use Rattle.tx_turns.proofs.ThereLemmas.{start}
use Rattle.tx_turns.proofs.ThereLemmas.{own_after, there_base, there_copies, there_laid, there_next, there_reached, there_runs}
use Rattle.tx_turns.proofs.ThereLemmas.{turn_gates}

-- what is known of the copies of a call
pub record CopyLaws (V : Type 0) : Type 0 where
  pub steps : AreSteps V
  pub taken : CopiesFor V
  pub on : CopiesReached V
  pub sized : SizesCopies V
  pub of : BlocksLaw V
  pub others : OthersLaw V

module _ {V : Type 0} where
  pub copy_first : (s : own.Stage V) (k : ℕ) → next_of (stage_of s) ≡ next.Copy k → gates_at s ≡ k ∷ []
  copy_first s k due = (let c = copying_is s k due in ap gates_at c.1 ∙ ap (λ (j : ℕ). j ∷ []) c.2)

  -- the base in hand
  pub copy_base : (t : TxTable V) (s : table.Seat V) (r : TxActor V) (k : ℕ) (bs cs : List (Base V)) (b : Base V)
      → next_of (stage_of r.stage) ≡ next.Copy k → HasOwn t s r bs → bs ≡ b ∷ cs
      → AreBases (opening_of t) (acts (opening_of t) s) (k ∷ []) (b ∷ cs)
  copy_base t s r k bs cs b due own hand =
      let gates = copy_first r.stage k due in
      subst (λ (z : List ℕ × List (Base V)). AreBases (opening_of t) (acts (opening_of t) s) z.0 z.1) (λ i. (gates i, hand i)) own.bases

  copy_there : (t : TxTable V) (s : table.Seat V) (r : TxActor V) (ties : Ties t s r) (es : List (Event V))
      (al : Alike (seated.actor s) (run (opening_of t) es) (acts (opening_of t) s))
      → SameBases (seated.actor s) (run (opening_of t) es) (acts (opening_of t) s) → (k : ℕ) (b : Base V)
      → next_of (stage_of r.stage) ≡ next.Copy k → IsBaseIn (opening_of t) (acts (opening_of t) s) k b
      → IsBaseThere (laid_in t) (run (opening_of t) es) k b
  copy_there t s r ties es al same k b due is =
      there_base t s r ties es al same k b (ap (λ (ks : List ℕ). has ks k) (copy_first r.stage k due) ∙ has_first k []) is

  -- what is asked of the actor
  pub copy_can : CopiesFor V → CopiesReached V → SizesCopies V → BlocksLaw V → OthersLaw V → (t : TxTable V) (s : table.Seat V)
      (r : TxActor V) (k : ℕ) (bs cs : List (Base V)) (b : Base V) → next_of (stage_of r.stage) ≡ next.Copy k → Ties t s r
      → HasOwn t s r bs → bs ≡ b ∷ cs → CanCopyAt (laid_in t) r b r.stage
  copy_can taken on sized of law t s r k bs cs b due ties own hand =
      let h = ties.reached in
      let is = copy_base t s r k bs cs b due own hand in
      can_copy taken on sized of (laid_in t) (start t s r ties) _ (seated.actor s) k r b due (there_reached t s r ties h.events h.alike)
      (there_laid t s r ties h.events h.alike) ties.running (there_runs t s r ties h.events h.alike)
      (there_copies t s r ties h.events h.alike law own.copies) (copy_there t s r ties h.events h.alike h.bases k b due is.0)

  -- a declared reader has read nothing that it keeps
  pub copy_reads : CopiesReached V → (t : TxTable V) (s : table.Seat V) (r : TxActor V) (k : ℕ) → next_of (stage_of r.stage) ≡ next.Copy k
      → Ties t s r → HasNoReads r.words
  copy_reads on t s r k due ties =
      let h = ties.reached in
      rests_to_copy on (start t s r ties) _ (seated.actor s) k r due (there_reached t s r ties h.events h.alike)
      (there_runs t s r ties h.events h.alike)

  off_copy : (r : TxActor V) (k : ℕ) → next_of (stage_of r.stage) ≡ next.Copy k → IsOnWord (next_of (stage_of r.stage)) → ⊥
  off_copy r k due on = subst IsOnWord due on

  pub copy_tied : AreSteps V → CopiesStayOwn V → CopiesFor V → CopiesReached V → SizesCopies V → BlocksLaw V → OthersLaw V
      → (t : TxTable V) (s u : table.Seat V) (r q : TxActor V) (n : ActorNotice V) (k : ℕ) (bs cs : List (Base V)) (b : Base V)
      → next_of (stage_of r.stage) ≡ next.Copy k → Ties t s r → HasOwn t s r bs → bs ≡ b ∷ cs
      → Takes (opening_of t) s (view s).clock 1 None (rest (out s)) u → StepsOnAt (laid_in t) r q n b r.stage
      → HasTakenAt (laid_in t) r q n b r.stage → IsRunning (laid_in t) q
      → Ties t u q × Turned (opening_of t) s r u n × HasOwn t u q cs
  copy_tied steps stay taken on sized of law t s u r q n k bs cs b due ties own hand takes does got running =
      let a = seated.actor s in
      let o = opening_of t in
      let v = laid_in t in
      let w = acts o s in
      let h = takes.happened in
      let there = run o h.events in
      let outs = rest (out s) in
      let are = copy_base t s r k bs cs b due own hand in
      let reached = there_reached t s r ties h.events h.alike in
      let laid = there_laid t s r ties h.events h.alike in
      let runs = there_runs t s r ties h.events h.alike in
      let copies = there_copies t s r ties h.events h.alike law own.copies in
      let is = copy_there t s r ties h.events h.alike h.bases k b due are.0 in
      let goes = copy_runs taken on sized v (start t s r ties) there a k r q n b due ties.running does reached laid runs copies is in
      let turn = gate_tied t s u r q n k 1 None outs ties takes (puts_spot a w k (copy_due steps t s r k due ties))
      (off_copy r k due) running
      goes in
      let left = step_copy_gates there a k (there_next t s r ties h.events h.alike ∙ due) in
      let gates : gates_at q.stage ≡ [] = sym (turn_gates t s u r (view s).clock 1 None outs ties takes q turn.0) ∙ left.1 in
      let empty : cs ≡ [] = are_none o w [] cs refl are.1 in (
        turn.0,
        turn.1,
        own_after t s u r (view s).clock 1 None outs ties takes q cs law
            (copy_keeps stay taken on sized of v
            (start t s r ties) there a k r q n b due ties.running got reached laid runs copies is goes.0 goes.1)
            (takes.held ∙ ((first_out s r k [] own.out (copy_first r.stage k due)).1 ∙ ap slots_of (sym gates)))
            (subst (λ (z : List ℕ × List (Base V)). AreBases o (moved a w 1 None).0 z.0 z.1) (λ i. (sym gates i, sym empty i)) tt)
            (subst (λ (ds : List (Base V)). ArePreparedAt q.copies.items q.stage ds) (sym empty)
            (prepared_none q.copies.items q.stage gates)),
      )

  -- ---- an allocation fails once the gate is put back
  loading_gates : (st : Stage V) → is_loading st ≡ true → gates_of st ≡ []
  loading_gates (Loading o es) e = refl
  loading_gates st e = absurd (true≢false (sym e))

  copy_none : (a : ℕ) (r : TxActor V) (st : own.Stage V) (k : ℕ) → next_of (stage_of st) ≡ next.Copy k → commits_at a r st ≡ []
  copy_none a r st k due = ap (commits_at a r) (copying_is st k due).1

  pub copy_behind : AreSteps V → CopiesFor V → CopiesReached V → SizesCopies V → BlocksLaw V → OthersLaw V
      → (t : TxTable V) (s m u : table.Seat V) (r q : TxActor V) (k : ℕ) (bs cs : List (Base V)) (b : Base V)
      → next_of (stage_of r.stage) ≡ next.Copy k → Ties t s r → HasOwn t s r bs → bs ≡ b ∷ cs
      → Takes (opening_of t) s (view s).clock 1 None (rest (out s)) m → HasHeard m (Starve 0) u
      → StarvesBehindAt (laid_in t) r q b r.stage → AsksNothing q → IsRunning (laid_in t) q
      → Ties t u q × IsGivenUp (opening_of t) s r u told.Quiet × HasOwn t u q cs
  copy_behind steps taken on sized of law t s m u r q k bs cs b due ties own hand takes has does nothing running =
      let a = seated.actor s in
      let o = opening_of t in
      let v = laid_in t in
      let w = acts o s in
      let h = takes.happened in
      let there = run o h.events in
      let outs = rest (out s) in
      let are = copy_base t s r k bs cs b due own hand in
      let reached = there_reached t s r ties h.events h.alike in
      let laid = there_laid t s r ties h.events h.alike in
      let runs = there_runs t s r ties h.events h.alike in
      let copies = there_copies t s r ties h.events h.alike law own.copies in
      let is = copy_there t s r ties h.events h.alike h.bases k b due are.0 in
      let goes = copy_starves taken on sized v (start t s r ties) there a k r q b due ties.running does reached laid runs copies is in
      let x = (moved a w 1 None).0 in
      let f = (happens there (Step a)).0 in
      let alike : Alike a f x = h.same.0 in
      let turned = gate_turned t s m r q told.Quiet k 1 None outs ties takes (puts_spot a w k (copy_due steps t s r k due ties))
      (off_copy r k due) (sym goes.1) in
      let same = own_event a f x (Starve a) alike refl in
      let runs_x : Runs a q (happens x (Starve a)).0 =
      runs_stand (happens f (Starve a)).0 (happens x (Starve a)).0 a q same.0 goes.2 in
      let own_m : (a ≡ seated.actor m) × (x ≡ acts o m) = (sym takes.seat.1, sym takes.own) in
      let runs_m : Runs (seated.actor m) q (happens (acts o m) (Starve (seated.actor m))).0 =
      subst (λ (z : ℕ × World V). Runs z.0 q (happens z.1 (Starve z.0)).0) (λ i. (own_m.0 i, own_m.1 i)) runs_x in
      let live : 0 < (view m).shares = subst (λ (n : ℕ). 0 < n) (sym (ap (λ (y : SeatKnowledge V). y.shares) takes.turn)) ties.live in
      let tie = seat_tied t m u q (Starve 0) (takes.seat.0 ∙ ties.owns) live takes.reached has running runs_m in
      let loads : is_loading ((acts o m).seats (seated.actor m)).stage ≡ true =
      subst (λ (z : ℕ × World V). is_loading (z.1.seats z.0).stage ≡ true) (λ i. (own_m.0 i, own_m.1 i))
      (ap (λ (y : Seat V). is_loading y.stage) (sym alike.seat) ∙ goes.0) in
      let quiet : Quiet ≡ (happens (acts o m) (Starve (seated.actor m))).1 =
      subst (λ (z : ℕ × World V). Quiet ≡ (happens z.1 (Starve z.0)).1) (λ i. (own_m.0 i, own_m.1 i)) (sym goes.3 ∙ same.1) in
      let gates : gates_at q.stage ≡ [] =
      gates_is q.stage
      ∙ (sym (gates_as (happens (acts o m) (Starve (seated.actor m))).0 (seated.actor m) q runs_m)
      ∙ (starved_gates (acts o m) (seated.actor m) ∙ loading_gates ((acts o m).seats (seated.actor m)).stage loads)) in
      let empty : cs ≡ [] = are_none o w [] cs refl are.1 in (
        tie,
        inr (record {
          middle = m;
          turned = turned;
          none = copy_none a r r.stage k due;
          loads = loads;
          starved = record { taken = has; own = acts_taken o m u (Starve 0) has; tells = quiet };
        }),
        record {
          copies = has_nothing q (acts o u) (seated.actor u) nothing;
          out = ap (λ (y : Me (Slot V) (SeatKnowledge V)). y.1) has.1
              ∙ (takes.held ∙ ((first_out s r k [] own.out (copy_first r.stage k due)).1 ∙ ap slots_of (sym gates)));
          bases = subst (λ (z : List ℕ × List (Base V)). AreBases o (acts o u) z.0 z.1) (λ i. (sym gates i, sym empty i)) tt;
          prepared = subst (λ (ds : List (Base V)). ArePreparedAt q.copies.items q.stage ds) (sym empty)
              (prepared_none q.copies.items q.stage gates);
        },
      )

  -- ---- the stage of the actor
  pub none_same : (v : BlocksView) (r m : TxActor V) (base : Base V) (k : ℕ) → next_of (stage_of r.stage) ≡ next.Copy k
      → AreTakenAt v r m base None r.stage → m ≡ r
  none_same v r m base k due h =
      let st = (copying_is r.stage k due).1 in
      subst (AreTakenAt v r m base None) st h ∙ ap (λ (s : own.Stage V). at r s) (sym st)

  pub taken_call : (v : BlocksView) (r m : TxActor V) (base : Base V) (p : KeyedCall V) (k : ℕ) → next_of (stage_of r.stage) ≡ next.Copy k
      → CanCopyAt v r base r.stage → AreTakenAt v r m base (Some p) r.stage
      → (r.stage ≡ stage.Copying p.asked) × CanCopy v (at r stage.Idle) base p.asked × IsTakenCall v (at r stage.Idle) m base p
  taken_call v r m base p k due can taken =
      let c = copying_is r.stage k due in
      let is : AreTakenFor v (at r stage.Idle) m base c.0 (Some p) = subst (AreTakenAt v r m base (Some p)) c.1 taken in
      let at_it : r.stage ≡ stage.Copying p.asked = c.1 ∙ ap (λ (a : CollectionCall V). stage.Copying a) (sym is.0) in
      (at_it, can_at v r base p.asked stage.Idle (subst (CanCopyAt v r base) at_it can), is.1)

  pub steps_at : (v : BlocksView) (r q : TxActor V) (n : ActorNotice V) (base : Base V) (asked : CollectionCall V)
      → r.stage ≡ stage.Copying asked
      → StepsOn v (at r (stage.Copying asked)) q n base asked → StepsOnAt v r q n base r.stage
  steps_at v r q n base asked st h = subst (λ (s : own.Stage V). StepsOnAt v (at r s) q n base s) (sym st) h

  pub taken_at : (v : BlocksView) (r q : TxActor V) (n : ActorNotice V) (base : Base V) (asked : CollectionCall V)
      → r.stage ≡ stage.Copying asked
      → HasTaken v (at r stage.Idle) q n base asked → HasTakenAt v r q n base r.stage
  taken_at v r q n base asked st h = subst (HasTakenAt v r q n base) (sym st) h

  pub behind_at : (v : BlocksView) (r q : TxActor V) (base : Base V) (asked : CollectionCall V) → r.stage ≡ stage.Copying asked
      → StarvesBehind v (at r (stage.Copying asked)) q base asked → StarvesBehindAt v r q base r.stage
  behind_at v r q base asked st h = subst (λ (s : own.Stage V). StarvesBehindAt v (at r s) q base s) (sym st) h

  pub keeps_at : (v : BlocksView) (r q : TxActor V) (asked : CollectionCall V) → r.stage ≡ stage.Copying asked
      → KeepsIn v (at r (stage.Copying asked)) q → KeepsIn v r q
  keeps_at v r q asked st h = subst (λ (s : own.Stage V). KeepsIn v (at r s) q) (sym st) h

  -- ---- what the actor made of its call, at its table's blocks
  abbrev pub GoesOn : BlocksView → TxActor V → KeyedCall V → TxActor V → ActorNotice V → Type 0
  GoesOn v u p q n =
      (r : TxActor V) (base : Base V) → CanCopy v r base p.asked → IsTakenCall v r u base p
      → StepsOn v (at r (stage.Copying p.asked)) q n base p.asked × HasTaken v r q n base p.asked

  abbrev pub KeepsOn : BlocksView → TxActor V → KeyedCall V → TxActor V → Type 0
  KeepsOn v u p q =
      (r : TxActor V) (base : Base V) → CanCopy v r base p.asked → IsTakenCall v r u base p → HasNoReads r.words
      → KeepsIn v (at r (stage.Copying p.asked)) q

  abbrev pub StarvesOn : BlocksView → TxActor V → KeyedCall V → TxActor V → Type 0
  StarvesOn v u p q =
      (r : TxActor V) (base : Base V) → CanCopy v r base p.asked → IsTakenCall v r u base p
      → StarvesBehind v (at r (stage.Copying p.asked)) q base p.asked

  -- The program has seen the first base in hand as d, at its blocks v. What the call touches was taken of it, and the actor is m.
  module _ (laws : CopyLaws V) (t : TxTable V) (s : table.Seat V) (r m : TxActor V) (k : ℕ) (bs : List (Base V)) (d : Base V)
      (p : KeyedCall V) (o : Option (KeyedCall V)) (v : BlocksView) (laid : v ≡ laid_in t) (due : next_of (stage_of r.stage) ≡ next.Copy k)
      (ties : Ties t s r) (has : HasOwn t s r bs) (seen : d ≡ slice_index_or bs 0 d) (is : o ≡ Some p)
      (ok : AreTakenAt v r m d o r.stage) where
    front : (cs : List (Base V)) × (bs ≡ d ∷ cs)
    front = first_here bs d (some_held t s r k [] bs (copy_first r.stage k due) has) seen

    pub lifted : (r.stage ≡ stage.Copying p.asked) × CanCopy v (at r stage.Idle) d p.asked × IsTakenCall v (at r stage.Idle) m d p
    lifted =
        taken_call v r m d p k due
        (subst (λ (z : BlocksView). CanCopyAt z r d r.stage) (sym laid)
        (copy_can laws.taken laws.on laws.sized laws.of laws.others t s r k bs front.0 d due ties has front.1))
        (subst (λ (x : Option (KeyedCall V)). AreTakenAt v r m d x r.stage) is ok)

    -- so the program's base is the one that is put back
    abbrev IsShown : BlocksView → Base V → Type 0
    IsShown w b = (v ≡ w) × (d ≡ b)

    shown : (b : Base V) (cs : List (Base V)) → bs ≡ b ∷ cs → IsShown (laid_in t) b
    shown b cs hand = (laid, front_same bs d b front.0 cs front.1 hand)

    bounds : (q : TxActor V) → KeepsOn v m p q → IsRunning (laid_in t) q
    bounds q keeps =
        subst (λ (z : BlocksView). IsRunning z r → IsRunning z q) laid
        (keeps_at v r q p.asked lifted.0 (keeps (at r stage.Idle) d lifted.1 lifted.2 (copy_reads laws.on t s r k due ties))).running
        ties.running

    -- the call continues once the gate is back
    pub lifted_on : CopiesStayOwn V → (u : table.Seat V) (q : TxActor V) (n : ActorNotice V) (cs : List (Base V)) (b : Base V) → bs ≡ b ∷ cs
        → Takes (opening_of t) s (view s).clock 1 None (rest (out s)) u → GoesOn v m p q n → KeepsOn v m p q
        → Ties t u q × Turned (opening_of t) s r u n × HasOwn t u q cs
    lifted_on stay u q n cs b hand takes does keeps =
        let same = shown b cs hand in
        let done = does (at r stage.Idle) d lifted.1 lifted.2 in
        copy_tied laws.steps stay laws.taken laws.on laws.sized laws.of laws.others t s u r q n k bs cs b due ties has hand takes
        (subst (λ (z : BlocksView × Base V). StepsOnAt z.0 r q n z.1 r.stage) (λ i. (same.0 i, same.1 i))
        (steps_at v r q n d p.asked lifted.0 done.0))
        (subst (λ (z : BlocksView × Base V). HasTakenAt z.0 r q n z.1 r.stage) (λ i. (same.0 i, same.1 i))
        (taken_at v r q n d p.asked lifted.0 done.1)) (bounds q keeps)

    -- or an allocation fails for it
    pub lifted_behind : (u z : table.Seat V) (q : TxActor V) (cs : List (Base V)) (b : Base V) → bs ≡ b ∷ cs
        → Takes (opening_of t) s (view s).clock 1 None (rest (out s)) u → HasHeard u (Starve 0) z → StarvesOn v m p q → KeepsOn v m p q
        → AsksNothing q → Ties t z q × IsGivenUp (opening_of t) s r z told.Quiet × HasOwn t z q cs
    lifted_behind u z q cs b hand takes heard does keeps nothing =
        let same = shown b cs hand in
        copy_behind laws.steps laws.taken laws.on laws.sized laws.of laws.others t s u z r q k bs cs b due ties has hand takes heard
        (subst (λ (z : BlocksView × Base V). StarvesBehindAt z.0 r q z.1 r.stage) (λ i. (same.0 i, same.1 i))
        (behind_at v r q d p.asked lifted.0 (does (at r stage.Idle) d lifted.1 lifted.2))) nothing (bounds q keeps)
