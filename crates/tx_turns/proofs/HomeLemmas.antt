-- Bases that are prepared for their logs, and one that is put back.
--
-- Making room in a base changes nothing that it holds. The base that is put back was prepared before the first value store, so the log of
-- its actor's calls is folded in without memory; in the world with this actor alone it is then the base with the changes of the
-- transaction. What the actor makes of it is stated in the world in which the step has happened.
use Rattle.std.proofs.Common.{◌≡◌, ◌≢◌, ℕ, zero, suc, ◌+◌, ◌-◌, ◌<◌, ◌^◌, true, false, true≢false, List, [], ◌∷◌, Some, None, inl, inr}
use Rattle.std.proofs.Common.{length, refl, sym, ap, ◌∙◌, subst, arith, get_or, ne_eqb, set}
use Rattle.std.specs.Prelude.{Contains, Err, Ok, OnOk, Result, slice_get, slice_index}
use Rattle.std.specs.List.{All}
use Rattle.std.specs.declared.alloc.Global.{Global}
use Rattle.std.specs.declared.collections.VecDeque.{VecDeque}
use Rattle.std.proofs.lemmas.Bool.{cases_eq, cond-false, cond_both}
use Rattle.std.proofs.lemmas.List.Elements.{All-contains, Contains-append_right}
use Rattle.atomic_table.specs.Table.{rest}
use Rattle.conflict.specs.declared.change.Change.{Change}
use Rattle.seq_model.specs.declared.event.Event.TheVariants.{Step}
use Rattle.tx_machine.specs.Content.{has}
use Rattle.replay_log.specs.declared.base.Base.{Base}
use Rattle.replay_log.specs.Base.{IsPreparedFor, after, editions_of, locations_of, shown_of, stripes_of}
use Rattle.replay_log.specs.Log.{AreRaised}
use Rattle.replay_log.specs.Contents.{Block, block_of, first_of}
use Rattle.replay_log.specs.Parts.{kind_of, part}
use Rattle.replay_log.specs.Seats.{World, Stage, Homing}
use Rattle.replay_log.specs.Worlds.{happens, run}
use Rattle.replay_log.proofs.SeatLemmas.{Differ}
use Rattle.actor_laws.specs.Bases.{ShowsBase}
use Rattle.actor_parts.specs.Dispatch.{AreSteps, first, next_home, next_of}
use Rattle.actor_parts.specs.declared.next.Next.TheVariants as next
use Rattle.actor_parts.specs.declared.copies.CopyOfCollection.{CopyOfCollection}
use Rattle.actor_parts.specs.CopyList.{copy_of}
use Rattle.actor_parts.specs.Logs.{OthersStand, changes_had, locations_had}
use Rattle.actor_parts.specs.Owns.{IsOwn}
use Rattle.actor_parts.specs.CopiesAfterEvent.{EventsStay, StepStays, Stays}
use Rattle.tx_actor.specs.Asks.{Stands}
use Rattle.tx_actor.specs.Dispatch.{IsGoneHome}
use Rattle.tx_actor.specs.CopiesByStage.{HasCopies, HasCopiesAt, KeepsFrom, OwnsHomes}
use Rattle.tx_actor.specs.ActorBounds.{IsRunning}
use Rattle.tx_actor.specs.Running.{stage_of}
use Rattle.tx_actor.specs.declared.actor.Stage.{Stage as Standing}
use Rattle.tx_actor.specs.declared.actor.Stage.TheVariants as stage
use Rattle.tx_actor.specs.declared.actor.ActorNotice.{ActorNotice}
use Rattle.tx_actor.specs.declared.actor.TxActor.{TxActor}
use Rattle.tx_actor.proofs.CopyLemmas.{block_here}
use Rattle.tx_actor.proofs.GatesLemmas.{has_first, step_home_gates}
use Rattle.tx_actor.proofs.HomeLemmas.{FewEditions, Logs, Within, home_due, home_is, home_runs, homing_is, log_below, log_within}
use Rattle.tx_actor.proofs.HomeLemmas.{own_log, quiet_home}
use Rattle.tx_actor.proofs.NameLemmas.{named_home}
use Rattle.tx_actor.proofs.OwnLemmas.{OthersLaw, StaysLaw, StepsLaw, reached_stays, refused_store}
use Rattle.tx_actor.proofs.SeatLemmas.{stage_by}
use Rattle.tx_actor.proofs.StepLemmas.{GoesOn}
use Rattle.shared_table.specs.declared.seat.Seat as table
use Rattle.shared_table.specs.declared.table.TxTable.{TxTable}
use Rattle.shared_table.specs.Seated as seated
use Rattle.shared_table.specs.Seated.{IsHome, Takes, acts, blocks_in, opening_of, out, view}
use Rattle.shared_table.proofs.Gates.{home_spot}
use Rattle.tx_turns.specs.Ties.{IsOnWord, Ties, Turned, laid_in}
use Rattle.tx_turns.specs.Bases.{AreAlike, AreBases, ArePrepared, ArePreparedAt, IsAlike, IsBaseIn, IsPrepared, OneIsPrepared, gates_at}
use Rattle.tx_turns.specs.Bases.{slots_of}
use Rattle.tx_turns.specs.Own.{HasOwn}
use Rattle.tx_turns.proofs.GateLemmas.{first_out, gate_tied, left_bases}
use Rattle.tx_turns.proofs.ThereLemmas.{start}
use Rattle.tx_turns.proofs.ThereLemmas.{own_after, there_base, there_copies, there_differ, there_gates, there_laid, there_next}
use Rattle.tx_turns.proofs.ThereLemmas.{there_reached}
use Rattle.tx_turns.proofs.ThereLemmas.{there_runs, turn_gates}

-- ---- lists
has_get : (ks : List ℕ) (i d : ℕ) → i < length ks → has ks (get_or ks i d) ≡ true
has_get [] i d low = let z : ⊥ = omega (arith, low) in absurd z
has_get (k ∷ ks) zero d low = has_first k ks
has_get (k ∷ ks) (suc i) d low =
    cond_both _ true (has ks (get_or ks i d)) (λ z. z ≡ true) (λ _. refl) (λ _. has_get ks i d (omega (arith, low)))

contains_has : (ks : List ℕ) (j : ℕ) → Contains ks j → has ks j ≡ true
contains_has ks j c = All-contains (λ (i : ℕ). has ks i ≡ true) ks j (λ i d low. has_get ks i d low) c

-- of a result
pub on_ok : {A E : Type 0} → (x : Result A E) (P Q : Type 0) → (P → Q) → OnOk x P → OnOk x Q
on_ok (Ok a) P Q f h = f h
on_ok (Err e) P Q f h = tt

-- what stands at a place
pub read_at : (ks : List ℕ) (i k : ℕ) → i < length ks → k ≡ get_or ks i k → slice_get ks i ≡ Some k
read_at [] i k low e = let z : ⊥ = omega (arith, low) in absurd z
read_at (j ∷ ks) zero k low e = ap Some (sym e)
read_at (j ∷ ks) (suc i) k low e = read_at ks i k (omega (arith, low)) e

module _ {V : Type 0} where
  -- ---- bases that are made ready
  alike_same : (b : Base V) → IsAlike b b
  alike_same b = record { shown = refl; stripes = refl; editions = refl }

  pub are_same : (ds : List (Base V)) → AreAlike ds ds
  are_same [] = tt
  are_same (d ∷ ds) = (alike_same d, are_same ds)

  pub are_trans : (ds bs cs : List (Base V)) → AreAlike ds bs → AreAlike bs cs → AreAlike ds cs
  are_trans [] [] [] h j = tt
  are_trans (d ∷ ds) (b ∷ bs) (c ∷ cs) h j = (
    record { shown = j.0.shown ∙ h.0.shown; stripes = j.0.stripes ∙ h.0.stripes; editions = j.0.editions ∙ h.0.editions },
    are_trans ds bs cs h.1 j.1,
  )
  are_trans [] [] (c ∷ cs) h j = absurd j
  are_trans [] (b ∷ bs) cs h j = absurd h
  are_trans (d ∷ ds) [] cs h j = absurd h
  are_trans (d ∷ ds) (b ∷ bs) [] h j = absurd j

  -- one of them was given room
  pub one_alike : (ds : List (Base V)) (i : ℕ) (d now : Base V) → slice_get ds i ≡ Some d → IsAlike d now → AreAlike ds (set ds i now)
  one_alike [] i d now at like = let z : ⊥ = cc in absurd z
  one_alike (x ∷ xs) zero d now at like = (let e : x ≡ d = cc in (subst (λ (y : Base V). IsAlike y now) (sym e) like, are_same xs))
  one_alike (x ∷ xs) (suc i) d now at like = (alike_same x, one_alike xs i d now at like)

  pub alike_count : (ds bs : List (Base V)) → AreAlike ds bs → length bs ≡ length ds
  alike_count [] [] h = refl
  alike_count (d ∷ ds) (b ∷ bs) h = ap suc (alike_count ds bs h.1)
  alike_count [] (b ∷ bs) h = absurd h
  alike_count (d ∷ ds) [] h = absurd h

  shows_alike : (o u : World V) (k : ℕ) (d b : Base V) → IsAlike d b → ShowsBase o.words o.blocks u k d → ShowsBase o.words o.blocks u k b
  shows_alike o u k d b like shows = λ l plain lies. (
      let s = shows l plain lies in
      let i = first_of o.words o.blocks k in (
        s.0 ∙ (λ j. part (sym like.stripes j) (l - i) (sym like.shown j)),
        s.1 ∙ (λ j. slice_index (sym like.editions j) (l - i)),
      ))

  base_alike : (o u : World V) (k : ℕ) (d b : Base V) → IsAlike d b → IsBaseIn o u k d → IsBaseIn o u k b
  base_alike o u k d b like is = (
    λ block there. (let fit = is.0 block there in
        record {
          kind = ap kind_of like.shown ∙ fit.kind;
          stripes = like.stripes ∙ fit.stripes;
          wide = ap length like.editions ∙ fit.wide;
        }),
    shows_alike o u k d b like is.1,
  )

  pub bases_alike : (o u : World V) (ks : List ℕ) (ds bs : List (Base V)) → AreAlike ds bs → AreBases o u ks ds → AreBases o u ks bs
  bases_alike o u [] [] [] like h = tt
  bases_alike o u (k ∷ ks) (d ∷ ds) (b ∷ bs) like h = (base_alike o u k d b like.0 h.0, bases_alike o u ks ds bs like.1 h.1)
  bases_alike o u [] [] (b ∷ bs) like h = absurd like
  bases_alike o u [] (d ∷ ds) bs like h = absurd h
  bases_alike o u (k ∷ ks) [] bs like h = absurd h
  bases_alike o u (k ∷ ks) (d ∷ ds) [] like h = absurd like

  pub bases_count : (o u : World V) (ks : List ℕ) (bs : List (Base V)) → AreBases o u ks bs → length ks ≡ length bs
  bases_count o u [] [] h = refl
  bases_count o u (k ∷ ks) (b ∷ bs) h = ap suc (bases_count o u ks bs h.1)
  bases_count o u [] (b ∷ bs) h = absurd h
  bases_count o u (k ∷ ks) [] h = absurd h

  -- those at the first i places are prepared
  abbrev pub PreparedTo : ℕ → List (CopyOfCollection V) → List ℕ → List (Base V) → Type 0
  PreparedTo i cs ks bs = (j k : ℕ) (b : Base V) → j < i → slice_get ks j ≡ Some k → slice_get bs j ≡ Some b → IsPrepared cs k b

  pub prepared_more : (cs : List (CopyOfCollection V)) (ks : List ℕ) (k i : ℕ) (before now : List (Base V)) → slice_get ks i ≡ Some k
      → OneIsPrepared cs k i before now → PreparedTo i cs ks before → PreparedTo (i + 1) cs ks now
  prepared_more cs ks k i before now at one so_far j m b low there is =
      elim (cases_eq j i) [
        | inl e ↦ (
            let same : Some k ≡ Some m = sym at ∙ (ap (slice_get ks) (sym e) ∙ there) in
            let k_is : k ≡ m = cc in
            subst (λ (z : ℕ). IsPrepared cs z b) k_is (one.here b (ap (slice_get now) (sym e) ∙ is)))
        | inr ne ↦ so_far j m b (omega (arith, low, ne)) there (sym (one.others j ne) ∙ is)
      ]

  pub prepared_all : (cs : List (CopyOfCollection V)) (ks : List ℕ) (bs : List (Base V)) → length ks ≡ length bs
      → PreparedTo (length ks) cs ks bs
      → ArePrepared cs ks bs
  prepared_all cs [] bs e h = tt
  prepared_all cs (k ∷ ks) [] e h = let z : ⊥ = omega (arith, e) in absurd z
  prepared_all cs (k ∷ ks) (b ∷ bs) e h = (
    h 0 k b (omega arith) refl refl,
    prepared_all cs ks bs (omega (arith, e)) (λ j m d low there is. h (suc j) m d (omega (arith, low)) there is),
  )

  -- ---- where no store was taken
  pub refused_commit : StepsLaw V → (t : TxTable V) (s : table.Seat V) (r q : TxActor V) (ds bs : List (Base V))
      → next_of (stage_of r.stage) ≡ next.FirstStore → HasOwn t s r ds → AreAlike ds bs
      → (let p : TxActor V = record r { words = q.words } in q ≡ p) → HasOwn t s q bs
  refused_commit steps t s r q ds bs due own like same =
      let o = opening_of t in
      let w = acts o s in
      let at : q.stage ≡ r.stage = ap (λ (z : TxActor V). z.stage) same in
      record {
        copies = refused_store steps r q due same w (seated.actor s) own.copies;
        out = own.out ∙ ap (λ (g : Standing V). slots_of (gates_at g)) (sym at);
        bases = subst (λ (g : Standing V). AreBases o w (gates_at g) bs) (sym at) (bases_alike o w (gates_at r.stage) ds bs like own.bases);
        prepared = subst (λ (g : Standing V). ArePreparedAt q.copies.items g bs) (sym at) (first_prepared q.copies.items bs r.stage due);
      }
    where
      first_prepared : (cs : List (CopyOfCollection V)) (bs : List (Base V)) (g : Standing V) → next_of (stage_of g) ≡ next.FirstStore
          → ArePreparedAt cs g bs
      first_prepared cs bs (stage.Storing homes) e = let z : ⊥ = cc in absurd z
      first_prepared cs bs (stage.Homing homes) e = absurd (no_store homes.items e)
        where
          no_store : (xs : List ℕ) → next_home (first xs) ≡ next.FirstStore → ⊥
          no_store [] e = cc
          no_store (k ∷ xs) e = cc
      first_prepared cs bs g e = tt

  -- the bases in hand, once they are prepared
  pub own_alike : (t : TxTable V) (s : table.Seat V) (r : TxActor V) (ds bs : List (Base V)) → next_of (stage_of r.stage) ≡ next.FirstStore
      → HasOwn t s r ds → AreAlike ds bs → StepsLaw V → HasOwn t s r bs
  own_alike t s r ds bs due own like steps = refused_commit steps t s r r ds bs due own like refl

  -- ---- the base that is put back next
  pub home_gates : (s : Standing V) (k : ℕ) → next_of (stage_of s) ≡ next.GoHome k → (ks : List ℕ) × (gates_at s ≡ k ∷ ks)
  home_gates s k due = (let at = homing_is s k due in (at.2, ap gates_at at.1 ∙ at.3))

  -- it is the first in hand, and prepared
  pub home_base : (t : TxTable V) (s : table.Seat V) (r : TxActor V) (k : ℕ) (bs cs : List (Base V)) (b : Base V)
      (due : next_of (stage_of r.stage) ≡ next.GoHome k) → HasOwn t s r bs → bs ≡ b ∷ cs → let ks = (home_gates r.stage k due).0 in
      AreBases (opening_of t) (acts (opening_of t) s) (k ∷ ks) (b ∷ cs) × ArePrepared r.copies.items (k ∷ ks) (b ∷ cs)
  unfolding home_gates
  home_base t s r k bs cs b due own hand =
      let at = homing_is r.stage k due in
      let gates = (home_gates r.stage k due).1 in
      let p : ArePrepared r.copies.items at.0.items bs =
      subst (λ (g : Standing V). ArePreparedAt r.copies.items g bs) at.1 own.prepared in (
        subst (λ (z : List ℕ × List (Base V)). AreBases (opening_of t) (acts (opening_of t) s) z.0 z.1) (λ i. (gates i, hand i)) own.bases,
        subst (λ (z : List ℕ × List (Base V)). ArePrepared r.copies.items z.0 z.1) (λ i. (at.3 i, hand i)) p,
      )

  -- what the actor has of the collections that are left to it is its own
  home_owns : (r : TxActor V) (v : World V) (a k j : ℕ) → next_of (stage_of r.stage) ≡ next.GoHome k → HasCopies r v a
      → Contains (gates_at r.stage) j → IsOwn v a j (copy_of r.copies.items j)
  home_owns r v a k j due h c =
      let at = homing_is r.stage k due in
      let has : OwnsHomes r v a at.0.items = subst (λ (g : Standing V). HasCopiesAt r v a g) at.1 h in
      has j (subst (λ (g : Standing V). Contains (gates_at g) j) at.1 c)

  home_own : (r : TxActor V) (v : World V) (a k : ℕ) → next_of (stage_of r.stage) ≡ next.GoHome k → HasCopies r v a
      → IsOwn v a k (copy_of r.copies.items k)
  home_own r v a k due h =
      home_owns r v a k k due h (subst (λ (ks : List ℕ). Contains ks k) (sym (home_gates r.stage k due).1) (0, omega arith, refl))

  home_block : (t : TxTable V) (s : table.Seat V) (r : TxActor V) (k : ℕ) → next_of (stage_of r.stage) ≡ next.GoHome k → Ties t s r
      → (b : Block) × (block_of (blocks_in t) k ≡ Some b)
  home_block t s r k due ties = block_here (blocks_in t) k (named_home r.stage k (length (blocks_in t)) due ties.running.names)

  -- ---- what the base asks of the log
  module _ (logs : Logs V) (t : TxTable V) (s : table.Seat V) (r : TxActor V) (k : ℕ) (bs cs : List (Base V)) (b : Base V)
      (due : next_of (stage_of r.stage) ≡ next.GoHome k) (ties : Ties t s r) (own : HasOwn t s r bs) (hand : bs ≡ b ∷ cs) where
    abbrev me : ℕ
    me = seated.actor s

    abbrev there : World V
    there = run (opening_of t) ties.reached.events

    block_there : block_of there.blocks k ≡ Some (home_block t s r k due ties).0
    block_there =
        let laid = there_laid t s r ties ties.reached.events ties.reached.alike in
        ap (λ (bs : List Block). block_of bs k) laid.1 ∙ (home_block t s r k due ties).1

    own_there : OthersLaw V → IsOwn there me k (copy_of r.copies.items k)
    own_there law = home_own r there me k due (there_copies t s r ties ties.reached.events ties.reached.alike law own.copies)

    pub home_within : Within V → OthersLaw V → (locations : List ℕ) → locations ≡ locations_had (copy_of r.copies.items k)
        → All (λ i. i < locations_of (stripes_of b) (shown_of b)) locations
    home_within within law locations ll =
        let block = home_block t s r k due ties in
        log_within logs within (start t s r ties) there me k block.0 (copy_of r.copies.items k) locations b
        (there_reached t s r ties ties.reached.events ties.reached.alike) block_there (own_there law)
        ((home_base t s r k bs cs b due own hand).0.0.0 block.0 block.1) ll

    pub home_below : FewEditions V → OthersLaw V → (locations : List ℕ) → locations ≡ locations_had (copy_of r.copies.items k)
        → All (λ i. slice_index (editions_of b) i < 2 ^ 63) locations
    home_below few law locations ll =
        let block = home_block t s r k due ties in
        let h = ties.reached in
        let held = ap (λ (ks : List ℕ). has ks k) (home_gates r.stage k due).1 ∙ has_first k (home_gates r.stage k due).0 in
        let is = there_base t s r ties h.events h.alike h.bases k b held (home_base t s r k bs cs b due own hand).0.0 in
        log_below logs few (start t s r ties) there me k block.0 (copy_of r.copies.items k) locations b
        (there_reached t s r ties h.events h.alike) block_there (own_there law) is.shows (let c = h.clock in omega arith) ll

    -- it may be put back, once the log is folded in
    pub home_may : AreSteps V → (changes : List (Change V)) (locations : List ℕ) (now : Base V)
        → changes ≡ changes_had (copy_of r.copies.items k) → locations ≡ locations_had (copy_of r.copies.items k)
        → shown_of now ≡ after changes (shown_of b) → stripes_of now ≡ stripes_of b → AreRaised locations (editions_of b) (editions_of now)
        → IsHome (opening_of t) me (acts (opening_of t) s) k now
    home_may steps changes locations now cl ll shown stripes editions =
        let w = acts (opening_of t) s in
        let block = home_block t s r k due ties in
        let is = (home_base t s r k bs cs b due own hand).0.0 in
        let there_is : block_of w.blocks k ≡ Some block.0 = ap (λ (bs : List Block). block_of bs k) ties.reached.shape.1 ∙ block.1 in
        let log = own_log logs w me k (copy_of r.copies.items k) (home_own r w me k due own.copies) block.0 there_is in
        inr (
          home_due steps w me k r ties.runs due,
          record {
            block = block.0;
            before = b;
            there = block.1;
            sort = is.0 block.0 block.1;
            shown = is.1;
            folded = record {
              shown = shown ∙ ap (λ (ds : List (Change V)). after ds (shown_of b)) (cl ∙ log.0);
              stripes = stripes;
              editions = subst (λ (ls : List ℕ). AreRaised ls (editions_of b) (editions_of now)) (ll ∙ log.1) editions;
            };
          },
        )

  -- ---- what is left after the step
  prepared_others : (k : ℕ) (before now : List (CopyOfCollection V)) (ks : List ℕ) (bs : List (Base V)) → OthersStand k before now
      → has ks k ≡ false → ArePrepared before ks bs → ArePrepared now ks bs
  prepared_others k before now [] bs same apart h = tt
  prepared_others k before now (j ∷ ks) [] same apart h = absurd h
  prepared_others k before now (j ∷ ks) (b ∷ bs) same apart h =
      elim (cases_eq k j) [
        | inl e ↦ absurd (true≢false (sym (ap (has (j ∷ ks)) e ∙ has_first j ks) ∙ apart))
        | inr ne ↦ (
          subst (λ c. IsPreparedFor (changes_had c) b) (sym (same j (λ e. ne (sym e)))) h.0,
          prepared_others k before now ks bs same (sym (cond-false _ true (has ks k) (ne_eqb k j ne)) ∙ apart) h.1,
        )
      ]

  prepared_at : (cs : List (CopyOfCollection V)) (g : Standing V) (bs : List (Base V)) → ArePrepared cs (gates_at g) bs
      → ArePreparedAt cs g bs
  prepared_at cs (stage.Storing homes) bs h = h
  prepared_at cs (stage.Homing homes) bs h = h
  prepared_at cs g bs h = tt

  has_left : (q : TxActor V) (v : World V) (a : ℕ) (homes : VecDeque ℕ Global) (g : Standing V) (cs : List (CopyOfCollection V))
      → KeepsFrom g (stage.Homing homes) cs cs → ((j : ℕ) → Contains (gates_at g) j → IsOwn v a j (copy_of q.copies.items j))
      → HasCopiesAt q v a g
  has_left q v a homes stage.Open cs keep own = absurd keep.0
  has_left q v a homes (stage.Reading l) cs keep own = absurd keep.0
  has_left q v a homes (stage.Trying asked tries) cs keep own = absurd keep.0
  has_left q v a homes (stage.Copying asked) cs keep own = absurd keep.0
  has_left q v a homes (stage.Loading o left) cs keep own = absurd keep
  has_left q v a homes (stage.Locking left) cs keep own = absurd keep.0
  has_left q v a homes (stage.Gating left got tries) cs keep own = absurd keep.0
  has_left q v a homes (stage.Ready left) cs keep own = absurd keep.0
  has_left q v a homes (stage.Storing left) cs keep own = own
  has_left q v a homes (stage.Homing left) cs keep own = own
  has_left q v a homes g cs keep own = tt

  off_home : (r : TxActor V) (k : ℕ) → next_of (stage_of r.stage) ≡ next.GoHome k → IsOnWord (next_of (stage_of r.stage)) → ⊥
  off_home r k due on = subst IsOnWord due on

  pub home_tied : AreSteps V → GoesOn V → EventsStay V → StaysLaw V → OthersLaw V → (t : TxTable V) (s u : table.Seat V) (r p q : TxActor V)
      (n : ActorNotice V) (k : ℕ) (bs cs : List (Base V)) (b : Base V) → next_of (stage_of r.stage) ≡ next.GoHome k → Ties t s r
      → HasOwn t s r bs → bs ≡ b ∷ cs → Takes (opening_of t) s (view s).clock 1 None (rest (out s)) u → Stands r p → p.stage ≡ r.stage
      → IsGoneHome p q n → OthersStand k r.copies.items q.copies.items → KeepsFrom q.stage r.stage q.copies.items q.copies.items
      → IsRunning (laid_in t) q → Ties t u q × Turned (opening_of t) s r u n × HasOwn t u q cs
  home_tied steps goes stays stay law t s u r p q n k bs cs b due ties own hand takes stands same gone copies keep running =
      let a = seated.actor s in
      let o = opening_of t in
      let w = acts o s in
      let h = takes.happened in
      let there = run o h.events in
      let later = (happens there (Step a)).0 in
      let outs = rest (out s) in
      let reached = there_reached t s r ties h.events h.alike in
      let runs = there_runs t s r ties h.events h.alike in
      let at = home_spot a w k (home_due steps w a k r ties.runs due) in
      let turn = gate_tied t s u r q n k 1 None outs ties takes at (off_home r k due) running
      (home_runs steps goes (start t s r ties) there a k r p q n due stands same gone reached runs) in
      let gates : gates_at r.stage ≡ k ∷ gates_at q.stage =
      sym (there_gates t s r ties h.events h.alike)
      ∙ (step_home_gates steps there a k (there_next t s r ties h.events h.alike ∙ due)
      ∙ ap (λ (ks : List ℕ). k ∷ ks) (turn_gates t s u r (view s).clock 1 None outs ties takes q turn.0)) in
      let apart : has (gates_at q.stage) k ≡ false = (subst Differ gates (there_differ t s r ties h.events h.alike)).0 in
      let held = home_base t s r k bs cs b due own hand in
      let left : (home_gates r.stage k due).0 ≡ gates_at q.stage =
      (let e : k ∷ (home_gates r.stage k due).0 ≡ k ∷ gates_at q.stage = sym (home_gates r.stage k due).1 ∙ gates in cc) in
      let homing = homing_is r.stage k due in
      let first = home_is (stage_of r.stage) k due in
      let stands_at : (there.seats a).stage ≡ Homing (k ∷ first.0) =
      stage_by (there.seats a) r (quiet_home (stage_of r.stage) k due) runs.0 ∙ first.1 in
      let still : Stays there later a =
      subst (λ (g : Stage V). StepStays there a g (happens there (Step a))) stands_at
      (reached_stays stays (start t s r ties) there reached (Step a)) in
      let had = there_copies t s r ties h.events h.alike law own.copies in (
        turn.0,
        turn.1,
        own_after t s u r (view s).clock 1 None outs ties takes q cs law
            (has_left q later a homing.0 q.stage q.copies.items
            (subst (λ (g : Standing V). KeepsFrom q.stage g q.copies.items q.copies.items) homing.1 keep)
            (λ j c. (
            let other : j ≢ k = λ e. true≢false (sym (contains_has (gates_at q.stage) k (subst (Contains (gates_at q.stage)) e c))
            ∙ apart) in
            let there_is : Contains (gates_at r.stage) j =
            subst (λ (ks : List ℕ). Contains ks j) (sym gates) (Contains-append_right (k ∷ []) (gates_at q.stage) j c) in
            subst (λ d. IsOwn later a j d) (sym (copies j other))
            ((stay there later a j (copy_of r.copies.items j) still).0 (home_owns r there a k j due had there_is)))))
            (takes.held ∙ (first_out s r k (gates_at q.stage) own.out gates).1)
            (left_bases t s r k 1 None (gates_at q.stage) cs ties gates at
            (subst (λ (ks : List ℕ). AreBases o w ks cs) left held.0.1))
            (prepared_at q.copies.items q.stage cs
            (prepared_others k r.copies.items q.copies.items (gates_at q.stage) cs copies apart
            (subst (λ (ks : List ℕ). ArePrepared r.copies.items ks cs) left held.1.1))),
      )

  -- ---- one base that was made ready
  pub one_prepared : (cs : List (CopyOfCollection V)) (k i : ℕ) (ds : List (Base V)) (now : Base V) → i < length ds → IsPrepared cs k now
      → OneIsPrepared cs k i ds (set ds i now)
  one_prepared cs k i ds now low h = record {
    here = λ b at. (let e : Some now ≡ Some b = sym (here ds i low) ∙ at in let same : now ≡ b = cc in subst (IsPrepared cs k) same h);
    others = λ j ne. there ds i j ne;
  }
    where
      here : (ds : List (Base V)) (i : ℕ) → i < length ds → slice_get (set ds i now) i ≡ Some now
      here [] i low = let z : ⊥ = omega (arith, low) in absurd z
      here (d ∷ ds) zero low = refl
      here (d ∷ ds) (suc i) low = here ds i (omega (arith, low))

      there : (ds : List (Base V)) (i j : ℕ) → j ≢ i → slice_get (set ds i now) j ≡ slice_get ds j
      there [] i j ne = refl
      there (d ∷ ds) zero zero ne = absurd (ne refl)
      there (d ∷ ds) zero (suc j) ne = refl
      there (d ∷ ds) (suc i) zero ne = refl
      there (d ∷ ds) (suc i) (suc j) ne = there ds i j (λ e. ne (ap suc e))
