-- The bases that an actor has left to put back keep room for the logs of its calls there.
--
-- An actor that is past its first value store holds the gate of each collection whose base is still to be put back. So a base that is put
-- back, which frees its gate, is left to no actor afterwards; and the other bases stand. A step that changes no base leaves its actor with
-- no more bases than before, but for the first value store, which leaves it with those whose gates it held; a request finds it without a
-- gate, and a failed allocation before the first value store ends its commit.
use Rattle.std.proofs.Common.{◌≡◌, ◌≢◌, ◌⊎◌, ℕ, zero, suc, Bool, true, false, true≢false, List, [], ◌∷◌, Option, Some, inl, inr}
use Rattle.std.proofs.Common.{refl, sym, ap, ◌∙◌, subst, arith, eqb, eqb-true, eq-eqb, slice_get}
use Rattle.std.specs.Prelude.{All, Contains, slice_index_or}
use Rattle.std.specs.declared.alloc.Global.{Global}
use Rattle.std.specs.declared.vec.Vec.{Vec}
use Rattle.std.proofs.lemmas.Bool.{cases_Bool, cond-false, cond-true, cond_both}
use Rattle.std.proofs.lemmas.List.Elements.{All-contains, All-contains_itself}
use Rattle.tx_machine.specs.Notices as told
use Rattle.tx_machine.proofs.Sets.{put-same}
use Rattle.seq_model.specs.Contents.{Contents}
use Rattle.seq_model.specs.declared.event.Event.{Event}
use Rattle.seq_model.specs.declared.event.Event.TheVariants.{Ask, Starve, Step}
use Rattle.seq_model.specs.declared.event.Request.{Request}
use Rattle.seq_model.specs.declared.refusal.Refusal.TheVariants.{Memory as OutOfMemory}
use Rattle.tx_machine.specs.Boosted.{is_actor}
use Rattle.tx_machine.specs.Content.{has}
use Rattle.replay_log.specs.declared.base.Base.{Base}
use Rattle.replay_log.specs.Base.{IsPreparedFor}
use Rattle.replay_log.specs.Worlds.{World, Seat, Stage, Ready, Cancelling, Leaving, Open, because, gives_up, goes_home, happens}
use Rattle.replay_log.specs.Worlds.{has_stored, is_half_done, starve_at, step_at}
use Rattle.replay_log.proofs.EventLemmas.{run_linked}
use Rattle.replay_log.proofs.SeatLemmas.{Linked, gates_of}
use Rattle.actor_laws.proofs.OneStep.{one_step}
use Rattle.actor_parts.specs.declared.copies.CopyOfCollection.{CopyOfCollection}
use Rattle.actor_parts.specs.CopyList.{copy_of}
use Rattle.actor_parts.specs.Logs.{changes_had}
use Rattle.actor_parts.specs.Dispatch.{is_loading, next_of}
use Rattle.actor_parts.specs.declared.next.Next.{Next}
use Rattle.actor_parts.specs.declared.next.Next.TheVariants as next
use Rattle.tx_actor.specs.CopiesByStage.{KeepsCopies, KeepsFrom}
use Rattle.tx_actor.specs.Running.{Runs, stage_of}
use Rattle.tx_actor.specs.declared.actor.Stage as own
use Rattle.tx_actor.specs.declared.actor.Stage.TheVariants as stage
use Rattle.tx_actor.specs.declared.actor.TxActor.{TxActor}
use Rattle.actor_parts.specs.declared.table.Table.{Table}
use Rattle.step_world.specs.Homes.{HasRoomAt, HasRoomDue, HasRoomLeft, homes_left}
use Rattle.step_world.specs.Reached.{IsReached}
use Rattle.step_world.specs.Turns.{KeepsRoom}
use Rattle.tx_actor.proofs.OwnLemmas.{Apart, open_or, open_stage}
use Rattle.tx_actor.proofs.SeatLemmas.{stage_by}
use Rattle.tx_actor.proofs.StepLemmas.{first_is, reached_linked}

-- ---- what is among these
pub has_in : (ks : List ℕ) (k : ℕ) → Contains ks k → has ks k ≡ true
has_in [] k (i, low, e) = let z : ⊥ = omega (arith, low) in absurd z
has_in (j ∷ ks) k (zero, low, e) = cond-true (eqb k j) true (has ks k) (eq-eqb k j (sym e))
has_in (j ∷ ks) k (suc i, low, e) =
    cond_both (eqb k j) true (has ks k) (λ (b : Bool). b ≡ true) (λ _. refl) (λ _. has_in ks k (i, omega (arith, low), e))

pub in_has : (ks : List ℕ) (k : ℕ) → has ks k ≡ true → Contains ks k
in_has [] k e = absurd (true≢false (sym e))
in_has (j ∷ ks) k e = elim (cases_Bool (eqb k j)) [
  | inl t ↦ (0, omega arith, sym (eqb-true k j t))
  | inr f ↦ (let c = in_has ks k (sym (cond-false (eqb k j) true (has ks k) f) ∙ e) in let low = c.1 in (suc c.0, omega (arith, low), c.2))
]

none_in : (k : ℕ) → (let none : List ℕ = [] in Contains none k) → ⊥
none_in k (i, low, e) = omega (arith, low)

pub of_each : (P : ℕ → Type 0) (ks : List ℕ) → ((k : ℕ) → Contains ks k → P k) → All P ks
of_each P ks each = λ i d low. each (slice_index_or ks i d) (All-contains_itself ks i d low)

module _ {V : Type 0} where
  -- ---- the gates of what is left
  left_gates : (t : own.Stage V) (k : ℕ) → Contains (homes_left t) k
      → (is_loading (stage_of t) ≡ false) × (has (gates_of (stage_of t)) k ≡ true) × (is_half_done (stage_of t) ≡ true)
  left_gates (stage.Storing homes) k c = (refl, has_in homes.items k c, refl)
  left_gates (stage.Homing homes) k c = (refl, has_in homes.items k c, refl)
  left_gates t k c = absurd (none_in k c)

  -- the stage of an actor in the world that has something left
  left_stage : (w : World V) (b k : ℕ) (q : TxActor V) → Runs b q w → Contains (homes_left q.stage) k → (w.seats b).stage ≡ stage_of q.stage
  left_stage w b k q runs c = stage_by (w.seats b) q (left_gates q.stage k c).0 runs.0

  pub gate_left : (w : World V) (b k : ℕ) (q : TxActor V) → Linked w → Runs b q w → Contains (homes_left q.stage) k
      → is_actor b (w.boosted.gates k) ≡ true
  gate_left w b k q linked runs c =
      (linked.seats b).gates k ∙ ap (λ (s : Stage V). has (gates_of s) k) (left_stage w b k q runs c) ∙ (left_gates q.stage k c).1

  pub linked_after : (o : Contents V) (w : World V) (e : Event V) → IsReached o w → Linked (happens w e).0
  linked_after o w e h = run_linked (e ∷ []) w (reached_linked o w h)

  -- ---- room where bases and copies stand
  pub room_same : (t u : Table V) (r : TxActor V) → u.bases ≡ t.bases → HasRoomLeft t r → HasRoomLeft u r
  room_same t u r e h =
      subst (λ (bs : Vec (Base V) Global). All (λ k. (b : Base V) → slice_get bs.items k ≡ Some b
      → IsPreparedFor (changes_had (copy_of r.copies.items k)) b) (homes_left r.stage)) (sym e) h

  pub room_at : (t u : Table V) (before now : List (CopyOfCollection V)) (k : ℕ) → slice_get u.bases.items k ≡ slice_get t.bases.items k
      → copy_of now k ≡ copy_of before k → HasRoomAt t before k → HasRoomAt u now k
  room_at t u before now k same copy h = λ b at.
      subst (λ (c : Option _). IsPreparedFor (changes_had c) b) (sym copy) (h b (sym same ∙ at))

  same_at : (t u : Table V) (k : ℕ) → u.bases ≡ t.bases → slice_get u.bases.items k ≡ slice_get t.bases.items k
  same_at t u k e = ap (λ (bs : Vec (Base V) Global). slice_get bs.items k) e

  others_same : (e : Event V) (t u : Table V) → u.bases ≡ t.bases → (o : Contents V) (w : World V) (b : ℕ) (q : TxActor V)
      → IsReached o w → Runs b q (happens w e).0 → HasRoomLeft t q → HasRoomLeft u q
  others_same e t u same o w b q reached runs h = room_same t u q same h

  -- ---- a step from a stage on whose actor has no more left than before
  pub left_from : (t s : own.Stage V) (before now : List (CopyOfCollection V)) (k : ℕ) → next_of (stage_of t) ≢ next.FirstStore
      → KeepsFrom s t before now → Contains (homes_left s) k → Contains (homes_left t) k × (now ≡ before)
  left_from (stage.Storing homes) (stage.Storing left) before now k ne keep c = (keep.0 k c, keep.1)
  left_from (stage.Homing homes) (stage.Storing left) before now k ne keep c = (keep.0 k c, keep.1)
  left_from (stage.Ready homes) (stage.Storing left) before now k ne keep c = absurd (ne refl)
  left_from t (stage.Storing left) before now k ne keep c = absurd keep.0
  left_from (stage.Storing homes) (stage.Homing left) before now k ne keep c = (keep.0 k c, keep.1)
  left_from (stage.Homing homes) (stage.Homing left) before now k ne keep c = (keep.0 k c, keep.1)
  left_from (stage.Ready homes) (stage.Homing left) before now k ne keep c = absurd (ne refl)
  left_from t (stage.Homing left) before now k ne keep c = absurd keep.0
  left_from t s before now k ne keep c = absurd (none_in k c)

  room_from : (t u : Table V) (r s : TxActor V) → u.bases ≡ t.bases → next_of (stage_of r.stage) ≢ next.FirstStore → KeepsCopies r s
      → HasRoomLeft t r → HasRoomLeft u s
  room_from t u r s same ne keep h = of_each (HasRoomAt u s.copies.items) (homes_left s.stage) (λ k c. (
      let from = left_from r.stage s.stage r.copies.items s.copies.items k ne keep c in
      room_at t u r.copies.items s.copies.items k (same_at t u k same) (ap (λ (cs : List (CopyOfCollection V)). copy_of cs k) from.1)
      (All-contains (HasRoomAt t r.copies.items) (homes_left r.stage) k h from.0)))

  pub room_kept : (e : Event V) (t u : Table V) (r s : TxActor V) → u.bases ≡ t.bases → next_of (stage_of r.stage) ≢ next.FirstStore
      → KeepsCopies r s → KeepsRoom e t r u s
  room_kept e t u r s same ne keep = record {
    own = λ o w reached runs after h. room_from t u r s same ne keep h;
    others = λ o w b q reached runs there h. room_same t u q same h;
  }

  pub not_first : (s : Stage V) (n : Next) → next_of s ≡ n → n ≢ next.FirstStore → next_of s ≢ next.FirstStore
  not_first s n due ne e = ne (sym due ∙ e)

  -- where nothing is left to an actor
  pub room_none : (u : Table V) (s : TxActor V) → ((k : ℕ) → Contains (homes_left s.stage) k → ⊥) → HasRoomLeft u s
  room_none u s none = of_each (HasRoomAt u s.copies.items) (homes_left s.stage) (λ k c. absurd (none k c))

  -- ---- a failed allocation
  up_not_half : (w : World V) (a : ℕ) (x : Seat V) (ks : List ℕ) → is_half_done ((gives_up w a x ks).0.seats a).stage ≡ false
  up_not_half w a x [] =
      let v = (gives_up w a x []).0 in
      ap (λ (y : Seat V). is_half_done y.stage) (put-same w.seats a _)
      ∙ cond_both _ Leaving Cancelling (λ (s : Stage V). is_half_done s ≡ false) (λ _. refl) (λ _. refl)
  up_not_half w a x (k ∷ ks) = ap (λ (y : Seat V). is_half_done y.stage) (put-same w.seats a _)

  starved_not_half : (w : World V) (a : ℕ) (ks : List ℕ) → (w.seats a).stage ≡ Ready ks
      → is_half_done ((happens w (Starve a)).0.seats a).stage ≡ false
  starved_not_half w a ks at =
      subst (λ (s : Stage V). is_half_done ((starve_at w a (w.seats a) s).0.seats a).stage ≡ false) (sym at)
      (up_not_half w a (because (w.seats a) OutOfMemory) ks)

  first_or : (t : own.Stage V) → (next_of (stage_of t) ≡ next.FirstStore) ⊎ (next_of (stage_of t) ≢ next.FirstStore)
  first_or t = first_next (next_of (stage_of t))
    where
      first_next : (n : Next) → (n ≡ next.FirstStore) ⊎ (n ≢ next.FirstStore)
      first_next next.FirstStore = inl refl
      first_next n = inr (λ e. let z : ⊥ = cc in z)

  pub room_starve : (a : ℕ) (t : Table V) (r s : TxActor V) → KeepsCopies r s → KeepsRoom (Starve a) t r t s
  room_starve a t r s keep = record {
    own = λ o w reached runs after h. elim (first_or r.stage) [
      | inl due ↦ room_none t s (λ k c. (
          let first = first_is (stage_of r.stage) due in
          let at : (w.seats a).stage ≡ Ready first.0 = stage_by (w.seats a) r (ap is_loading first.1) runs.0 ∙ first.1 in
          let v = (happens w (Starve a)).0 in
          let half : is_half_done (v.seats a).stage ≡ true =
          ap is_half_done (left_stage v a k s after c) ∙ (left_gates s.stage k c).2 in
          absurd (true≢false (sym half ∙ starved_not_half w a first.0 at))))
      | inr ne ↦ room_from t t r s refl ne keep h
    ];
    others = λ o w b q reached runs there h. h;
  }

  -- ---- a request in an open transaction: no gate is its actor's
  open_none : (w v : World V) (a k : ℕ) (s : TxActor V) → Linked w → Linked v → v.boosted.gates k ≡ w.boosted.gates k
      → (w.seats a).stage ≡ Open → Runs a s v → Contains (homes_left s.stage) k → ⊥
  open_none w v a k s linked after same at runs c =
      true≢false (sym (gate_left v a k s after runs c) ∙ ap (is_actor a) same ∙ (linked.seats a).gates k
      ∙ ap (λ (p : Stage V). has (gates_of p) k) at)

  asked_room : (w v : World V) (a : ℕ) (t : Table V) (r s : TxActor V) → Linked w → Linked v
      → ((k : ℕ) → v.boosted.gates k ≡ w.boosted.gates k) → Apart r s → Runs a r w → Runs a s v → HasRoomLeft t r → HasRoomLeft t s
  asked_room w v a t r s linked after same apart runs there h = elim (open_or r.stage) [
    | inl at ↦ room_none t s (λ k c. open_none w v a k s linked after (same k) (open_stage w a r runs at) there c)
    | inr other ↦ elim (apart other) [
      | inl begins ↦ room_none t s (λ k c. none_in k (subst (λ (p : own.Stage V). Contains (homes_left p) k) begins c))
      | inr is ↦ subst (λ (z : TxActor V). HasRoomLeft t z) (sym is) h
    ]
  ]

  pub room_ask : (a : ℕ) (q : Request V) (t : Table V) (r s : TxActor V) → Apart r s → KeepsRoom (Ask a q) t r t s
  room_ask a q t r s apart = record {
    own = λ o w reached runs after h. asked_room w (happens w (Ask a q)).0 a t r s (reached_linked o w reached)
        (linked_after o w (Ask a q) reached) (one_step w (Ask a q)).gates apart runs after h;
    others = λ o w b p reached runs there h. h;
  }

  -- and where an allocation failed for it
  pub room_stands : (o : Contents V) (w : World V) (a : ℕ) (t : Table V) (r s : TxActor V) → IsReached o w → Apart r s → Runs a r w
      → Runs a s w → HasRoomLeft t r → HasRoomLeft t s
  room_stands o w a t r s reached apart runs there h =
      let linked = reached_linked o w reached in asked_room w w a t r s linked linked (λ k. refl) apart runs there h

  -- ---- the first value store
  home_gates : (w : World V) (a : ℕ) (x : Seat V) (ks : List ℕ) (k : ℕ) → has (gates_of ((goes_home w a x ks).0.seats a).stage) k ≡ true
      → has ks k ≡ true
  home_gates w a x [] k h = sym (ap (λ (y : Seat V). has (gates_of y.stage) k) (put-same w.seats a _)) ∙ h
  home_gates w a x (j ∷ ks) k h = sym (ap (λ (y : Seat V). has (gates_of y.stage) k) (put-same w.seats a _)) ∙ h

  stored_gates : (w : World V) (a : ℕ) (x : Seat V) (ks : List ℕ) (n : told.Notice) (k : ℕ)
      → has (gates_of ((has_stored w a x ks n).0.seats a).stage) k ≡ true → has ks k ≡ true
  stored_gates w a x ks told.Stored k h = home_gates w a x ks k h
  stored_gates w a x ks n k h = sym (ap (λ (y : Seat V). has (gates_of y.stage) k) (put-same w.seats a _)) ∙ h

  first_gates : (w : World V) (a : ℕ) (ks : List ℕ) (k : ℕ) → (w.seats a).stage ≡ Ready ks
      → has (gates_of ((happens w (Step a)).0.seats a).stage) k ≡ true → has ks k ≡ true
  first_gates w a ks k at h =
      stored_gates _ a (w.seats a) ks _ k
      (subst (λ (s : Stage V). has (gates_of ((step_at w a (w.seats a) s).0.seats a).stage) k ≡ true) at h)

  -- the copies stand, where something is left
  left_copies : (t s : own.Stage V) (before now : List (CopyOfCollection V)) (k : ℕ) → KeepsFrom s t before now → Contains (homes_left s) k
      → now ≡ before
  left_copies t (stage.Storing left) before now k keep c = keep.1
  left_copies t (stage.Homing left) before now k keep c = keep.1
  left_copies t s before now k keep c = absurd (none_in k c)

  room_due : (t : Table V) (cs : List (CopyOfCollection V)) (p : own.Stage V) (ks : List ℕ) (k : ℕ) → stage_of p ≡ Ready ks
      → HasRoomDue t cs p
      → Contains ks k → HasRoomAt t cs k
  room_due t cs (stage.Ready homes) ks k e h c =
      let same : homes.items ≡ ks = cc in
      All-contains (HasRoomAt t cs) homes.items k h (subst (λ (js : List ℕ). Contains js k) (sym same) c)
  room_due t cs p ks k e h c = let z : ⊥ = cc in absurd z

  pub room_first : (a : ℕ) (t u : Table V) (r s : TxActor V) → u.bases ≡ t.bases → next_of (stage_of r.stage) ≡ next.FirstStore
      → KeepsCopies r s → HasRoomDue t r.copies.items r.stage → KeepsRoom (Step a) t r u s
  room_first a t u r s same due keep room = record {
    own = λ o w reached runs after h. of_each (HasRoomAt u s.copies.items) (homes_left s.stage) (λ k c. (
        let first = first_is (stage_of r.stage) due in
        let at : (w.seats a).stage ≡ Ready first.0 = stage_by (w.seats a) r (ap is_loading first.1) runs.0 ∙ first.1 in
        let v = (happens w (Step a)).0 in
        let held : has (gates_of (v.seats a).stage) k ≡ true =
        ap (λ (p : Stage V). has (gates_of p) k) (left_stage v a k s after c) ∙ (left_gates s.stage k c).1 in
        let among = in_has first.0 k (first_gates w a first.0 k at held) in
        room_at t u r.copies.items s.copies.items k (same_at t u k same)
        (ap (λ (cs : List (CopyOfCollection V)). copy_of cs k) (left_copies r.stage s.stage r.copies.items s.copies.items k keep c))
        (room_due t r.copies.items r.stage first.0 k first.1 room among)));
    others = λ o w b q reached runs there h. room_same t u q same h;
  }
