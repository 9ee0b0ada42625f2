-- The parts of a world are still its parts after an event: the event's actor and the table are what it makes of them, and the other actors
-- stand, since what an event leaves of another actor's own is as it was. The numbers that are still to be taken change by what the event's
-- actor still may take, or the clock stands below its limit and each actor may take one at most.
use Rattle.std.proofs.Common.{◌≡◌, ◌≢◌, ℕ, zero, suc, ◌+◌, ◌<◌, ◌≤◌, ◌^◌, false, List, [], ◌∷◌, map, Some, None, length}
use Rattle.std.proofs.Common.{refl, sym, ap, ◌∙◌, subst, inl, inr, arith}
use Rattle.std.specs.Prelude.{slice_get, slice_set}
use Rattle.std.proofs.lemmas.Bool.{cases_eq}
use Rattle.std.proofs.lemmas.Bool.Decides.{nat_tests}
use Rattle.tx_machine.specs.Actor.{clock_limit}
use Rattle.seq_model.specs.declared.limits.TheConstants.{SEATS}
use Rattle.step_world.specs.declared.opening.TheConstants.{ACTORS}
use Rattle.seq_model.specs.declared.event.Event.{Event}
use Rattle.seq_model.specs.Contents.{Contents}
use Rattle.replay_log.specs.Contents.{Block}
use Rattle.replay_log.specs.WorldProgress.{whose}
use Rattle.replay_log.specs.Worlds.{World, happens}
use Rattle.actor_laws.specs.Own.{Alike}
use Rattle.actor_laws.proofs.Others.{others}
use Rattle.step_core.specs.CellSteps.{Grows}
use Rattle.step_core.specs.Shown.{is_actor}
use Rattle.step_core.specs.Sound.{owed}
use Rattle.step_core.specs.declared.actor.Place.{Place}
use Rattle.step_core.specs.declared.actor.Place.TheVariants as place
use Rattle.step_core.proofs.Lists.{inside, same_at}
use Rattle.actor_parts.specs.Blocks.{BlocksView, IsLaid}
use Rattle.tx_actor.specs.Asks.{Stands}
use Rattle.tx_actor.specs.ActorBounds.{IsRunning}
use Rattle.tx_actor.specs.Running.{Runs}
use Rattle.tx_actor.specs.declared.actor.Stage as own
use Rattle.tx_actor.specs.declared.actor.ActorNotice.{ActorNotice}
use Rattle.tx_actor.specs.declared.actor.TxActor.{TxActor}
use Rattle.actor_parts.specs.Openings.{HasShape}
use Rattle.actor_parts.specs.Tables.{HasTable}
use Rattle.actor_parts.specs.declared.table.Table.{Table}
use Rattle.step_world.specs.declared.parts.Parts.{Parts}
use Rattle.step_world.specs.declared.trace.Ended.{Ended}
use Rattle.step_world.specs.Loading.{IsSeated}
use Rattle.step_world.specs.Parts.{HasWorld, IsSeat, IsWorld, ended_of, total_owed}
use Rattle.step_world.specs.Reached.{IsReached}
use Rattle.tx_actor.specs.CopiesByStage.{HasCopies}
use Rattle.step_world.specs.Homes.{HasRoomLeft}
use Rattle.step_world.specs.Turns.{IsTurn, KeepsOwn, KeepsRoom}
use Rattle.tx_actor.proofs.SeatLemmas.{runs_stand}

owed_one : (p : Place) → owed p ≤ 1
owed_one place.Open = omega arith
owed_one (place.Look l) = omega arith
owed_one (place.Fetch l k) = omega arith
owed_one (place.Again l k v) = omega arith
owed_one (place.Lock i) = omega arith
owed_one (place.Take l k i) = omega arith
owed_one place.Idle = omega arith
owed_one place.Begin = omega arith
owed_one (place.Check i) = omega arith
owed_one place.Broken = omega arith
owed_one place.First = omega arith
owed_one (place.Store i) = omega arith
owed_one place.Release = omega arith
owed_one place.Undo = omega arith
owed_one place.Leave = omega arith
owed_one place.Close = omega arith

-- a list with one entry changed
pub set_length : {X : Type 0} → (xs : List X) (i : ℕ) (v : X) → length (slice_set xs i v) ≡ length xs
set_length [] i v = refl
set_length (z ∷ zs) zero v = refl
set_length (z ∷ zs) (suc i) v = ap suc (set_length zs i v)

pub set_here : {X : Type 0} → (xs : List X) (i : ℕ) (x y : X) → slice_get xs i ≡ Some x → slice_get (slice_set xs i y) i ≡ Some y
set_here [] i x y h = absurd (let z : None ≡ Some x = h in cc)
set_here (z ∷ zs) zero x y h = refl
set_here (z ∷ zs) (suc i) x y h = set_here zs i x y h

pub set_there : {X : Type 0} → (xs : List X) (i j : ℕ) (y : X) → (j ≡ i → ⊥) → slice_get (slice_set xs i y) j ≡ slice_get xs j
set_there [] i j y ne = refl
set_there (z ∷ zs) zero zero y ne = absurd (ne refl)
set_there (z ∷ zs) zero (suc j) y ne = refl
set_there (z ∷ zs) (suc i) zero y ne = refl
set_there (z ∷ zs) (suc i) (suc j) y ne = set_there zs i j y (λ e. ne (ap suc e))

-- one of the actors 1 to 64
is_one : (a : ℕ) → is_actor a ≡ false → (i : ℕ) → i < ACTORS → a ≢ i + 1
is_one a none i lt e = grind (arith, nat_tests)

module _ {V : Type 0} where
  -- ---- the numbers that are owed
  owed_set : (rs : List (TxActor V)) (i : ℕ) (r s : TxActor V) → slice_get rs i ≡ Some r
      → total_owed (slice_set rs i s) + owed r.words.place ≡ total_owed rs + owed s.words.place
  owed_set [] i r s h = absurd (let z : None ≡ Some r = h in cc)
  owed_set (z ∷ zs) zero r s h = (
      let q : Some z ≡ Some r = h in
      let e : z ≡ r = cc in
      let g : owed z.words.place ≡ owed r.words.place = ap (λ (u : TxActor V). owed u.words.place) e in
      omega (arith, g))
  owed_set (z ∷ zs) (suc i) r s h = omega (arith, owed_set zs i r s h)

  owed_few : (rs : List (TxActor V)) → total_owed rs ≤ length rs
  owed_few [] = omega arith
  owed_few (r ∷ rs) = omega (arith, owed_one r.words.place, owed_few rs)

  owed_among : (rs : List (TxActor V)) (i : ℕ) (r : TxActor V) → slice_get rs i ≡ Some r → owed r.words.place ≤ total_owed rs
  owed_among [] i r h = absurd (let z : None ≡ Some r = h in cc)
  owed_among (z ∷ zs) zero r h = (
      let q : Some z ≡ Some r = h in
      let e : z ≡ r = cc in
      let g : owed z.words.place ≡ owed r.words.place = ap (λ (u : TxActor V). owed u.words.place) e in
      omega (arith, g))
  owed_among (z ∷ zs) (suc i) r h = omega (arith, owed_among zs i r h)

  -- an actor may still take its numbers
  pub may_take : (c : Parts V) (w : World V) (i : ℕ) (r : TxActor V) → IsWorld c w → slice_get c.actors.items i ≡ Some r
      → c.table.cells.clock + owed r.words.place < 2 ^ 63
  may_take c w i r h got = omega (arith, h.clock, owed_among c.actors.items i r got)

  -- ---- the other actors
  pub seat_stands : (v : BlocksView) (w u : World V) (b : ℕ) (r : TxActor V) → Alike b w u → (HasCopies r w b → HasCopies r u b)
      → IsSeat v w b r → IsSeat v u b r
  seat_stands v w u b r h keep s = record { runs = runs_stand w u b r h s.runs; running = s.running; copies = keep s.copies }

  -- what each of these is at its place, with one that takes the place of another
  all_set : (P : ℕ → TxActor V → Type 0) (rs now : List (TxActor V)) (i : ℕ) (r s : TxActor V) → slice_get rs i ≡ Some r
      → now ≡ slice_set rs i s → P i s → ((j : ℕ) (q : TxActor V) → j ≢ i → slice_get rs j ≡ Some q → P j q)
      → (j : ℕ) (q : TxActor V) → slice_get now j ≡ Some q → P j q
  all_set P rs now i r s got es moved others j q at = elim (cases_eq j i) [
    | inl at_i ↦ (
        let there : slice_get (slice_set rs i s) i ≡ Some q =
        subst (λ (k : ℕ). slice_get (slice_set rs i s) k ≡ Some q) at_i
        (subst (λ (xs : List (TxActor V)). slice_get xs j ≡ Some q) es at) in
        let is_s : s ≡ q = same_at (slice_set rs i s) i s q (set_here rs i r s got) there in
        subst (λ (k : ℕ). P k q) (sym at_i) (subst (λ (x : TxActor V). P i x) is_s moved))
    | inr ne ↦ (
        let there : slice_get rs j ≡ Some q =
        sym (set_there rs i j s ne) ∙ subst (λ (xs : List (TxActor V)). slice_get xs j ≡ Some q) es at in
        others j q ne there)
  ]

  clock_after : (c d : Parts V) (i : ℕ) (r s : TxActor V) → slice_get c.actors.items i ≡ Some r
      → d.actors.items ≡ slice_set c.actors.items i s → length c.actors.items ≡ ACTORS
      → Grows c.table.cells r.words d.table.cells s.words → c.table.cells.clock + total_owed c.actors.items ≤ clock_limit + SEATS
      → d.table.cells.clock + total_owed d.actors.items ≤ clock_limit + SEATS
  clock_after c d i r s got es many (inl fewer) h =
      omega (arith, owed_set c.actors.items i r s got, ap total_owed es, fewer, h)
  clock_after c d i r s got es many (inr below) h =
      omega (arith, owed_few (slice_set c.actors.items i s), set_length c.actors.items i s, many, ap total_owed es, below.0, below.1)

  -- an event of the actor at place i leaves a world with these parts
  pub turned : (opening : Contents V) (c d : Parts V) (w : World V) (e : Event V) (i : ℕ) (r s : TxActor V) (n : ActorNotice V)
      → IsReached opening w → IsWorld c w → whose e ≡ i + 1 → slice_get c.actors.items i ≡ Some r
      → d.blocks ≡ c.blocks → d.actors.items ≡ slice_set c.actors.items i s
      → IsTurn c.blocks e c.table r d.table s n → KeepsOwn c.blocks e c.table r s → KeepsRoom e c.table r d.table s
      → ((m : ℕ) (bs : List Block) → HasShape c.table m bs → HasShape d.table m bs)
      → (IsRunning c.blocks r → IsRunning c.blocks s)
      → Grows c.table.cells r.words d.table.cells s.words
      → d.records.items ≡ (happens w e).0.records → map ended_of d.aborted.items ≡ (happens w e).0.aborted
      → IsWorld d (happens w e).0
  turned opening c d w e i r s n reached h is got laid es turn kept rooms shape keeps grows rs ends =
      let u = (happens w e).0 in
      let next : suc (whose e) ≢ whose e = λ q. omega (arith, q) in
      let alike : (b : ℕ) → b ≢ whose e → Alike b w u = λ b ne. others w e b ne in
      let same = alike (suc (whose e)) next in
      let own = h.seats i r got in
      let here : Runs (whose e) r w = subst (λ (a : ℕ). Runs a r w) (sym is) own.runs in
      let copies : HasCopies r w (whose e) = subst (λ (a : ℕ). HasCopies r w a) (sym is) own.copies in
      let after = turn.turns opening w reached h.laid h.table here copies in
      let moved : IsSeat d.blocks u (i + 1) s = record {
        runs = subst (λ (a : ℕ). Runs a s u) is after.1;
        running = subst (λ (v : BlocksView). IsRunning v s) (sym laid) (keeps own.running);
        copies = subst (λ (a : ℕ). HasCopies s u a) is (kept.own opening w reached h.laid h.table here after.1 (keeps own.running) copies);
      } in
      let low = inside c.actors.items i r got in
      record {
        laid = (sym same.words ∙ (h.laid.0 ∙ ap (λ v. v.words) (sym laid)), sym same.blocks ∙ (h.laid.1 ∙ ap (λ v. v.blocks) (sym laid)));
        table = after.0;
        shape = subst (λ (m : ℕ). HasShape d.table m u.blocks) same.words
            (subst (λ (bs : List Block). HasShape d.table w.words bs) same.blocks (shape w.words w.blocks h.shape));
        count = ap length es ∙ (set_length c.actors.items i s ∙ h.count);
        seats = all_set (λ j q. IsSeat d.blocks u (j + 1) q) c.actors.items d.actors.items i r s got es moved
            (λ j q ne at. (
            let apart : j + 1 ≢ whose e = λ z. ne (omega (arith, z, is)) in
            subst (λ (v : BlocksView). IsSeat v u (j + 1) q) (sym laid)
            (seat_stands c.blocks w u (j + 1) q (alike (j + 1) apart) (kept.others w (j + 1) q apart) (h.seats j q at))));
        room = all_set (λ j q. HasRoomLeft d.table q) c.actors.items d.actors.items i r s got es
            (rooms.own opening w reached here after.1 (h.room i r got))
            (λ j q ne at. (
            let apart : j + 1 ≢ whose e = λ z. ne (omega (arith, z, is)) in
            rooms.others opening w (j + 1) q reached here (runs_stand w u (j + 1) q (alike (j + 1) apart) (h.seats j q at).runs)
            (h.room j q at)));
        others = λ a none. (
            let low_actor : i < ACTORS = omega (arith, low, h.count) in
            let apart : a ≢ whose e = λ z. is_one a none i low_actor (z ∙ is) in
            sym (alike a apart).seat ∙ h.others a none);
        records = rs;
        aborted = ends;
        clock = clock_after c d i r s got es h.count grows h.clock;
      }

  -- an actor that shows what the one at its place does may stand there
  pub stood : (c d : Parts V) (w : World V) (i : ℕ) (r s : TxActor V) → IsWorld c w → slice_get c.actors.items i ≡ Some r
      → d.blocks ≡ c.blocks → d.table ≡ c.table → d.actors.items ≡ slice_set c.actors.items i s → d.records.items ≡ c.records.items
      → d.aborted.items ≡ c.aborted.items → Stands r s → (HasCopies r w (i + 1) → HasCopies s w (i + 1)) → HasRoomLeft d.table s
      → IsRunning c.blocks s → Grows c.table.cells r.words d.table.cells s.words → IsWorld d w
  stood c d w i r s h got laid same es rs ends stands has room running grows =
      let own = h.seats i r got in
      let moved : IsSeat d.blocks w (i + 1) s = record {
        runs = stands (i + 1) w own.runs;
        running = subst (λ (v : BlocksView). IsRunning v s) (sym laid) running;
        copies = has own.copies;
      } in
      record {
        laid = subst (λ (v : BlocksView). IsLaid v w) (sym laid) h.laid;
        table = subst (λ (t : Table V). HasTable t w) (sym same) h.table;
        shape = subst (λ (t : Table V). HasShape t w.words w.blocks) (sym same) h.shape;
        count = ap length es ∙ (set_length c.actors.items i s ∙ h.count);
        seats = all_set (λ j q. IsSeat d.blocks w (j + 1) q) c.actors.items d.actors.items i r s got es moved
            (λ j q ne at. subst (λ (v : BlocksView). IsSeat v w (j + 1) q) (sym laid) (h.seats j q at));
        room = all_set (λ j q. HasRoomLeft d.table q) c.actors.items d.actors.items i r s got es room
            (λ j q ne at. subst (λ (t : Table V). HasRoomLeft t q) (sym same) (h.room j q at));
        others = h.others;
        records = rs ∙ h.records;
        aborted = ap (λ (xs : List (Ended V)). map ended_of xs) ends ∙ h.aborted;
        clock = clock_after c d i r s got es h.count grows h.clock;
      }

  -- ---- what the parts of a world have
  pub shape_laid : (c : Parts V) (w : World V) → IsWorld c w → HasShape c.table c.blocks.words c.blocks.blocks
  shape_laid c w h =
      subst (λ (m : ℕ). HasShape c.table m c.blocks.blocks) h.laid.0
      (subst (λ (bs : List Block). HasShape c.table w.words bs) h.laid.1 h.shape)

  -- the actor at a place, in the world of the parts
  pub seated_at : (c : Parts V) (i : ℕ) (r : TxActor V) → HasWorld c → slice_get c.actors.items i ≡ Some r → IsSeated c.blocks c.table r
  seated_at c i r h got =
      let own = h.parts.seats i r got in
      record {
        opening = h.opening;
        world = h.world;
        actor = i + 1;
        reached = h.reached;
        laid = h.parts.laid;
        table = h.parts.table;
        runs = own.runs;
        copies = own.copies;
      }
