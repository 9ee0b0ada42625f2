-- A request, or a failed allocation, and the bases that the seat has out: nothing that is shared changes, and the seat takes no step.
use Rattle.std.proofs.Common.{◌≡◌, ◌⊎◌, ℕ, Bool, true, false, true≢false, List, [], ◌∷◌, inl, inr, refl, sym, ap, ◌∙◌, subst}
use Rattle.std.proofs.lemmas.Bool.{cond_both}
use Rattle.atomic_table.specs.Table.{Me}
use Rattle.tx_machine.proofs.Sets.{put-same}
use Rattle.tx_machine.specs.Requests as word
use Rattle.seq_model.specs.declared.event.Event.{Event}
use Rattle.seq_model.specs.declared.event.Event.TheVariants.{Starve}
use Rattle.seq_model.specs.declared.refusal.Refusal.TheVariants as refusal
use Rattle.replay_log.specs.declared.base.Base.{Base}
use Rattle.replay_log.specs.Seats.{World, Seat, Stage, Homing, Storing, Ready, Returning, Leaving, Cancelling, acted, actor_of, asks}
use Rattle.replay_log.specs.Seats.{at_stage, because, seated as put_in}
use Rattle.replay_log.specs.Worlds.{gives_up, happens, is_leaving, run, starve_at}
use Rattle.actor_laws.specs.Own.{SameAfter}
use Rattle.actor_laws.specs.Steps.{OnlyOwn}
use Rattle.actor_laws.proofs.Alike.{alike_sym}
use Rattle.actor_laws.proofs.OneStep.{one_step}
use Rattle.actor_laws.proofs.OwnEvents.{own_event}
use Rattle.actor_parts.specs.Dispatch.{is_loading}
use Rattle.actor_parts.specs.declared.copies.CopyOfCollection.{CopyOfCollection}
use Rattle.tx_actor.specs.CopiesByStage.{HasCopies, IsWholeOf, KeepsCopies, KeepsFrom}
use Rattle.tx_actor.specs.Running.{Runs, seat_of, stage_of}
use Rattle.tx_actor.specs.declared.actor.Stage as own
use Rattle.tx_actor.specs.declared.actor.Stage.TheVariants as stage
use Rattle.tx_actor.specs.declared.actor.ActorNotice.{ActorNotice}
use Rattle.tx_actor.specs.declared.actor.TxActor.{TxActor}
use Rattle.tx_actor.specs.CopiesAfterEvent.{StarvesKeep}
use Rattle.tx_actor.proofs.GatesLemmas.{gates_as, starved_gates}
use Rattle.tx_actor.proofs.OwnLemmas.{OthersLaw, copies_stand}
use Rattle.tx_actor.proofs.SeatLemmas.{runs_stand, seat_by, stage_by}
use Rattle.shared_table.specs.declared.seat.Seat as table
use Rattle.shared_table.specs.declared.table.TxTable.{TxTable}
use Rattle.shared_table.specs.declared.view.SeatKnowledge.{SeatKnowledge}
use Rattle.shared_table.specs.Shown.{Slot}
use Rattle.shared_table.specs.Seated as seated
use Rattle.shared_table.specs.Seated.{acts, opening_of, out}
use Rattle.shared_table.proofs.Keeps.{calm_base}
use Rattle.tx_turns.specs.RequestStep.{HasTaken, Starved}
use Rattle.tx_turns.specs.Ties.{Ties}
use Rattle.tx_turns.specs.Bases.{AreBases, ArePrepared, ArePreparedAt, gates_at, slots_of}
use Rattle.tx_turns.specs.Own.{HasOwn}
use Rattle.tx_turns.proofs.BasesLemmas.{are_stay, gates_is, prepared_from}
use Rattle.tx_turns.proofs.ThereLemmas.{start}
use Rattle.tx_turns.proofs.ThereLemmas.{there_copies, there_gates, there_reached, there_runs}

module _ {V : Type 0} where
  -- ---- a stage of a commit's stores
  abbrev is_going : Stage V → Bool
  is_going (Storing ks) = true
  is_going (Homing ks) = true
  is_going s = false

  going_at : (x y : Seat V) (t : own.Stage V) → is_going (seat_by x y t).stage ≡ is_going (stage_of t)
  going_at x y (stage.Loading o left) = refl
  going_at x y t = refl

  going_as : (w : World V) (a : ℕ) (r : TxActor V) → Runs a r w → is_going (w.seats a).stage ≡ is_going (stage_of r.stage)
  going_as w a r runs = ap (λ (x : Seat V). is_going x.stage) runs.0 ∙ going_at (w.seats a) (seat_of r) r.stage

  prepared_not : (cs : List (CopyOfCollection V)) (bs : List (Base V)) (t : own.Stage V) → is_going (stage_of t) ≡ false
      → ArePreparedAt cs t bs
  prepared_not cs bs (stage.Storing homes) e = absurd (true≢false e)
  prepared_not cs bs (stage.Homing homes) e = absurd (true≢false e)
  prepared_not cs bs t e = tt

  seated_going : (w : World V) (a : ℕ) (x : Seat V) → is_going ((put_in w a x).seats a).stage ≡ is_going x.stage
  seated_going w a x = ap (λ (y : Seat V). is_going y.stage) (put-same w.seats a x)

  up_going : (w : World V) (a : ℕ) (x : Seat V) (ks : List ℕ) → is_going ((gives_up w a x ks).0.seats a).stage ≡ false
  up_going w a x [] =
      let z = acted w (asks a word.AskCancel ∷ asks a word.AskAbort ∷ []) in
      cond_both {A = Stage V} (is_leaving (actor_of z a).place) Leaving Cancelling
      (λ (s : Stage V). is_going ((put_in z a (at_stage x s)).seats a).stage ≡ false)
      (λ _. seated_going z a (at_stage x Leaving)) (λ _. seated_going z a (at_stage x Cancelling))
  up_going w a x (k ∷ ks) = seated_going w a (at_stage x (Returning (k ∷ ks)))

  -- ---- what is left of a seat that took no step
  module _ (t : TxTable V) (s u : table.Seat V) (r q : TxActor V) (e : Event V) (ties : Ties t s r) (taken : HasTaken s e u) where
    abbrev me : ℕ
    me = seated.actor s

    abbrev w : World V
    w = acts (opening_of t) s

    abbrev there : World V
    there = run (opening_of t) ties.reached.events

    pub event_after : (d : Event V) → acts (opening_of t) u ≡ (happens w d).0 → SameAfter me (happens there d) (happens w d) → Ties t u q
        → Runs me q (happens there d).0
    event_after d is same tie =
        let x = (happens w d).0 in
        runs_stand x (happens there d).0 me q (alike_sym me (happens there d).0 x same.0)
        (subst (λ (z : ℕ × World V). Runs z.0 q z.1) (λ i. (taken.0.1 i, is i)) tie.runs)

    pub event_own : OthersLaw V → (d : Event V) (bs : List (Base V)) → acts (opening_of t) u ≡ (happens w d).0
        → SameAfter me (happens there d) (happens w d) → OnlyOwn me w (happens w d).0 → HasOwn t s r bs
        → HasCopies q (happens there d).0 me → gates_at q.stage ≡ gates_at r.stage → ArePreparedAt q.copies.items q.stage bs
        → HasOwn t u q bs
    event_own law d bs is same calm own copies gates prepared =
        let o = opening_of t in
        let x = (happens w d).0 in
        record {
          copies = subst (λ (z : ℕ × World V). HasCopies q z.1 z.0) (λ i. (sym taken.0.1 i, sym is i))
              (copies_stand law (happens there d).0 x me q same.0 copies);
          out = ap (λ (m : Me (Slot V) (SeatKnowledge V)). m.1) taken.1 ∙ (own.out ∙ ap slots_of (sym gates));
          bases = subst (λ (z : World V × List ℕ). AreBases o z.0 z.1 bs) (λ i. (sym is i, sym gates i))
              (are_stay o w x (gates_at r.stage) bs ties.reached.shape.0 ties.reached.shape.1 (λ j _. calm_base me j w x calm) own.bases);
          prepared = prepared;
        }

  -- ---- a failed allocation
  ready_or : (s : own.Stage V) → ((ks : List ℕ) × (stage_of s ≡ Ready ks)) ⊎ ((homes : List ℕ) → stage_of s ≡ Ready homes → ⊥)
  ready_or (stage.Ready homes) = inl (homes.items, refl)
  ready_or s = inr (λ ks e. let z : ⊥ = cc in z)

  starve_going : (w : World V) (a : ℕ) (x : Seat V) (s : Stage V) (ks : List ℕ) → s ≡ Ready ks
      → is_going ((starve_at w a x s).0.seats a).stage ≡ false
  starve_going w a x s ks e =
      ap (λ (p : Stage V). is_going ((starve_at w a x p).0.seats a).stage) e ∙ up_going w a (because x refusal.Memory) ks

  starve_prepared : (t s : own.Stage V) (before now : List (CopyOfCollection V)) (bs : List (Base V)) → KeepsFrom t s before now
      → gates_at t ≡ gates_at s → ArePreparedAt before s bs → ((homes : List ℕ) → stage_of s ≡ Ready homes → ⊥) → ArePreparedAt now t bs
  starve_prepared t s before now bs keeps gates prepared none =
      prepared_from t s before now bs keeps gates (whole s prepared none)
    where
      whole : (s : own.Stage V) → ArePreparedAt before s bs → ((homes : List ℕ) → stage_of s ≡ Ready homes → ⊥) → (ks : List ℕ)
          → IsWholeOf s ks → ArePrepared before (gates_at s) bs
      whole (stage.Ready homes) p other ks is = absurd (other homes.items refl)
      whole (stage.Storing homes) p other ks is = p
      whole (stage.Homing homes) p other ks is = p
      whole s p other ks is = absurd is

  pub starve_own : StarvesKeep V → OthersLaw V → (t : TxTable V) (s u : table.Seat V) (r q : TxActor V) (n : ActorNotice V)
      (bs : List (Base V))
      → Ties t s r → HasOwn t s r bs → Starved (opening_of t) s u n → Ties t u q → KeepsCopies r q → HasOwn t u q bs
  starve_own keep law t s u r q n bs ties own starved tie keeps =
      let a = seated.actor s in
      let w = acts (opening_of t) s in
      let h = ties.reached in
      let there = run (opening_of t) h.events in
      let same = own_event a there w (Starve a) h.alike refl in
      let runs = there_runs t s r ties h.events h.alike in
      let later = event_after t s u r q (Starve 0) ties starved.taken (Starve a) starved.own same tie in
      let copies = keep (start t s r ties) there a r q keeps (there_reached t s r ties h.events h.alike) runs later
      (there_copies t s r ties h.events h.alike law own.copies) in
      let gates : gates_at q.stage ≡ gates_at r.stage =
      gates_is q.stage ∙ (sym (gates_as (happens there (Starve a)).0 a q later)
      ∙ (starved_gates there a ∙ there_gates t s r ties h.events h.alike)) in
      let prepared : ArePreparedAt q.copies.items q.stage bs = elim (ready_or r.stage) [
        | inl at ↦ prepared_not q.copies.items bs q.stage
            (sym (going_as (happens there (Starve a)).0 a q later)
            ∙ starve_going there a (there.seats a) (there.seats a).stage at.0 (there_stage there a r runs at.0 at.1))
        | inr none ↦ starve_prepared q.stage r.stage r.copies.items q.copies.items bs keeps gates own.prepared none
      ] in
      event_own t s u r q (Starve 0) ties starved.taken law (Starve a) bs starved.own same (one_step w (Starve a)) own copies gates prepared
    where
      there_stage : (w : World V) (a : ℕ) (r : TxActor V) → Runs a r w → (ks : List ℕ) → stage_of r.stage ≡ Ready ks
          → (w.seats a).stage ≡ Ready ks
      there_stage w a r runs ks e = stage_by (w.seats a) r (ap is_loading e) runs.0 ∙ e
