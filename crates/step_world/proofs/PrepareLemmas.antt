-- Making room in bases changes nothing that they hold.
--
-- So a table is still that of each world of which it was, and keeps its shape; and the room that one base has been given is unchanged while
-- the next is given its.
use Rattle.std.proofs.Common.{◌≡◌, ℕ, zero, suc, ◌+◌, ◌-◌, ◌<◌, ◌≤◌, List, [], ◌∷◌, Some, length, slice_get, get_or, refl, sym, ap}
use Rattle.std.proofs.Common.{◌∙◌, subst, arith, inl, inr}
use Rattle.std.specs.Prelude.{set, slice_index, slice_index_or}
use Rattle.std.proofs.lemmas.Bool.{cases_eq}
use Rattle.std.proofs.lemmas.List.{length-set}
use Rattle.replay_log.specs.declared.base.Base.{Base}
use Rattle.replay_log.specs.Base.{shown_of, stripes_of}
use Rattle.replay_log.specs.Contents.{Block, first_of}
use Rattle.replay_log.specs.Parts.{kind_of, part}
use Rattle.replay_log.specs.Worlds.{World}
use Rattle.step_core.specs.CellSteps.{AreCells}
use Rattle.actor_laws.specs.Bases.{ShowsBase}
use Rattle.actor_parts.specs.CopyList.{copy_of}
use Rattle.actor_parts.specs.Logs.{changes_had}
use Rattle.actor_parts.specs.declared.copies.CopyOfCollection.{CopyOfCollection}
use Rattle.tx_actor.specs.declared.actor.Stage as own
use Rattle.tx_actor.specs.declared.actor.Stage.TheVariants as stage
use Rattle.actor_parts.specs.Openings.{HasShape}
use Rattle.actor_parts.specs.Tables.{HasTable, holder}
use Rattle.actor_parts.specs.declared.table.Table.{Table}
use Rattle.std.specs.declared.alloc.Global.{Global}
use Rattle.std.specs.declared.collections.VecDeque.{VecDeque}
use Rattle.std.specs.declared.vec.Vec.{Vec}
use Rattle.tx_machine.specs.Actor.{clock_limit}
use Rattle.seq_model.specs.declared.limits.TheConstants.{SEATS}
use Rattle.seq_model.specs.declared.record.Record.{Record}
use Rattle.step_core.specs.declared.cells.Cells.{Cells}
use Rattle.step_world.specs.declared.parts.Parts.{Parts}
use Rattle.step_world.specs.Homes.{AreAlike, HasRoomAt, HasRoomDue, IsAlike}
use Rattle.step_world.specs.Parts.{Stays, total_owed}
use Rattle.step_world.proofs.PartsLemmas.{more_records, stays_then}

-- what stands at a place, by whatever it is looked up with
pub at_any : (ks : List ℕ) (i k : ℕ) → i < length ks → k ≡ get_or ks i k → (d : ℕ) → slice_index_or ks i d ≡ k
at_any [] i k low e d = let z : ⊥ = omega (arith, low) in absurd z
at_any (j ∷ ks) zero k low e d = sym e
at_any (j ∷ ks) (suc i) k low e d = at_any ks i k (omega (arith, low)) e d

module _ {V : Type 0} where
  alike_same : (b : Base V) → IsAlike b b
  alike_same b = record { shown = refl; stripes = refl; editions = refl; room = λ cs ready. ready }

  pub are_same : (ds : List (Base V)) → AreAlike ds ds
  are_same ds = record { count = refl; each = λ k b at. (b, at, alike_same b) }

  pub are_trans : (ds bs cs : List (Base V)) → AreAlike ds bs → AreAlike bs cs → AreAlike ds cs
  are_trans ds bs cs h j = record {
    count = j.count ∙ h.count;
    each = λ k c at. (
        let f = j.each k c at in
        let e = h.each k f.0 f.1 in (
          e.0,
          e.1,
          record {
            shown = f.2.shown ∙ e.2.shown;
            stripes = f.2.stripes ∙ e.2.stripes;
            editions = f.2.editions ∙ e.2.editions;
            room = λ cs ready. f.2.room cs (e.2.room cs ready);
          },
        ));
  }

  -- one of them was given room
  pub one_alike : (ds : List (Base V)) (k : ℕ) (d now : Base V) → slice_get ds k ≡ Some d → IsAlike d now → AreAlike ds (set ds k now)
  one_alike ds k d now at like = record { count = length-set ds k now; each = λ j b there. one ds k d now at like j b there }
    where
      one : (ds : List (Base V)) (k : ℕ) (d now : Base V) → slice_get ds k ≡ Some d → IsAlike d now → (j : ℕ) (b : Base V)
          → slice_get (set ds k now) j ≡ Some b → (e : Base V) × (slice_get ds j ≡ Some e) × IsAlike e b
      one [] k d now at like j b there = let z : ⊥ = cc in absurd z
      one (x ∷ xs) zero d now at like zero b there =
          let e : now ≡ b = cc in (d, at, subst (IsAlike d) e like)
      one (x ∷ xs) zero d now at like (suc j) b there = (b, there, alike_same b)
      one (x ∷ xs) (suc k) d now at like zero b there = (b, there, alike_same b)
      one (x ∷ xs) (suc k) d now at like (suc j) b there = one xs k d now at like j b there

  -- ---- what they make of a table
  shows_alike : (n : ℕ) (bs : List Block) (w : World V) (k : ℕ) (d b : Base V) → IsAlike d b → ShowsBase n bs w k d → ShowsBase n bs w k b
  shows_alike n bs w k d b like shows = λ l plain lies. (
      let s = shows l plain lies in
      let i = l - first_of n bs k in (
        s.0 ∙ (ap (λ (m : ℕ). part m i (shown_of d)) (sym like.stripes) ∙ ap (part (stripes_of b) i) (sym like.shown)),
        s.1 ∙ ap (λ (es : List ℕ). slice_index es i) (sym like.editions),
      ))

  pub table_alike : (t u : Table V) (w : World V) → u.cells ≡ t.cells → u.gates ≡ t.gates → AreAlike t.bases.items u.bases.items
      → HasTable t w → HasTable u w
  table_alike t u w cells gates alike h = record {
    cells = subst (λ z. AreCells z w.boosted.words) (sym cells) h.cells;
    gates = λ k low. (
        let same = ap (λ z. z.items) gates in
        h.gates k (subst (λ (xs : List ℕ). k < length xs) same low) ∙ ap (λ (xs : List ℕ). holder (get_or xs k 0)) (sym same));
    bases = λ k b at. (let f = alike.each k b at in shows_alike w.words w.blocks w k f.0 b f.2 (h.bases k f.0 f.1));
  }

  pub shape_alike : (t u : Table V) (n : ℕ) (bs : List Block) → u.cells ≡ t.cells → u.gates ≡ t.gates
      → AreAlike t.bases.items u.bases.items → HasShape t n bs → HasShape u n bs
  shape_alike t u n bs cells gates alike h = record {
    locks = ap (λ z. length z.locks.items) cells ∙ h.locks;
    values = ap (λ z. length z.values.items) cells ∙ h.values;
    gates = ap (λ z. length z.items) gates ∙ h.gates;
    bases = alike.count ∙ h.bases;
    fit = λ k b base is at. (
        let f = alike.each k base at in
        let fit = h.fit k b f.0 is f.1 in
        record {
          kind = ap kind_of f.2.shown ∙ fit.kind;
          stripes = f.2.stripes ∙ fit.stripes;
          wide = ap length f.2.editions ∙ fit.wide;
        });
  }

  -- ---- the room that a base has is unchanged
  room_stays : (t u : Table V) (cs : List (CopyOfCollection V)) (k : ℕ) → AreAlike t.bases.items u.bases.items → HasRoomAt t cs k
      → HasRoomAt u cs k
  room_stays t u cs k alike room = λ b at. (
      let f = alike.each k b at in
      f.2.room (changes_had (copy_of cs k)) (room f.0 f.1))

  -- so far
  abbrev pub HaveRoomTo : ℕ → Table V → List (CopyOfCollection V) → List ℕ → Type 0
  HaveRoomTo i t cs ks = (j d : ℕ) → j < i → HasRoomAt t cs (slice_index_or ks j d)

  pub rooms_grow : (t u : Table V) (cs : List (CopyOfCollection V)) (ks : List ℕ) (i k : ℕ) → ((d : ℕ) → slice_index_or ks i d ≡ k)
      → AreAlike t.bases.items u.bases.items → HaveRoomTo i t cs ks → HasRoomAt u cs k → HaveRoomTo (i + 1) u cs ks
  rooms_grow t u cs ks i k is alike so_far room = λ j d low. elim (cases_eq j i) [
    | inl e ↦ subst (HasRoomAt u cs) (sym (ap (λ (n : ℕ). slice_index_or ks n d) e ∙ is d)) room
    | inr ne ↦ room_stays t u cs (slice_index_or ks j d) alike (so_far j d (omega (arith, low, ne)))
  ]

  pub none_due : (t : Table V) (cs : List (CopyOfCollection V)) (s : own.Stage V)
      → ((homes : VecDeque ℕ Global) → s ≡ stage.Ready homes → ⊥)
      → HasRoomDue t cs s
  none_due t cs (stage.Ready homes) ready = absurd (ready homes refl)
  none_due t cs s ready = tt

  -- ---- the parts with that table
  pub prepared_stays : (c : Parts V) (u : Table V) → AreAlike c.table.bases.items u.bases.items
      → (u.cells ≡ c.table.cells) × (u.gates ≡ c.table.gates) → Stays c (record c { table = u })
  prepared_stays c u alike rest = λ o w reached h. record {
    laid = h.laid;
    table = table_alike c.table u w rest.0 rest.1 alike h.table;
    shape = shape_alike c.table u w.words w.blocks rest.0 rest.1 alike h.shape;
    count = h.count;
    seats = h.seats;
    room = λ i r at j d low. room_stays c.table u r.copies.items _ alike (h.room i r at j d low);
    others = h.others;
    records = h.records;
    aborted = h.aborted;
    clock = subst (λ (x : Cells). x.clock + total_owed c.actors.items ≤ clock_limit + SEATS) (sym rest.0) h.clock;
  }

  -- and with room for a record more
  abbrev pub room_made : Parts V → Vec (ℕ × Record V) Global → Table V → Parts V
  room_made c rs u = record c { records = rs; table = u }

  pub has_room_made : (c : Parts V) (rs : Vec (ℕ × Record V) Global) (u : Table V) → rs.items ≡ c.records.items
      → AreAlike c.table.bases.items u.bases.items → (u.cells ≡ c.table.cells) × (u.gates ≡ c.table.gates) → Stays c (room_made c rs u)
  has_room_made c rs u same alike rest =
      let more : Parts V = record c { records = rs } in
      stays_then c more (room_made c rs u) (more_records c rs same) (prepared_stays more u alike rest)
