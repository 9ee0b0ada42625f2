-- An event of the actor at a place leaves a world with the parts that its method leaves: the table and the actor by what the event makes
-- of both, the records and the aborted transactions by what a step adds to them.
use Rattle.std.proofs.Common.{◌≡◌, ℕ, ◌+◌, ◌≤◌, Bool, true, false, List, [], ◌∷◌, ◌++◌, map, Option, Some, None, refl, sym, ap, ◌∙◌}
use Rattle.std.proofs.Common.{subst, inl, arith, true≢false}
use Rattle.std.specs.Prelude.{slice_get, slice_set}
use Rattle.std.specs.declared.alloc.Global.{Global}
use Rattle.std.specs.declared.vec.Vec.{Vec}
use Rattle.std.specs.Vec.{with_item}
use Rattle.std.proofs.lemmas.List.{append-nil, map-append}
use Rattle.seq_model.specs.declared.call.Call.{Call}
use Rattle.seq_model.specs.declared.call.Reply.{Reply}
use Rattle.seq_model.specs.declared.refusal.Refusal.{Refusal}
use Rattle.seq_model.specs.Contents.{Contents}
use Rattle.seq_model.specs.Runs.{insert_record}
use Rattle.seq_model.specs.declared.event.Event.{Event}
use Rattle.seq_model.specs.declared.event.Event.TheVariants.{Ask, Step, Starve}
use Rattle.seq_model.specs.declared.event.Request.{Request}
use Rattle.seq_model.specs.declared.record.Record.{Record}
use Rattle.replay_log.specs.Contents.{CollectionCall, Block}
use Rattle.replay_log.specs.Seats as seats
use Rattle.replay_log.specs.Worlds.{World, Seat, Stage, Closing, Copying, Leaving, Loading, Ready, ask_at}
use Rattle.replay_log.specs.WorldTraces.{committed_by, ended_by, with_record}
use Rattle.replay_log.proofs.TraceLemmas.{asked_adds, starved_adds, steps_end}
use Rattle.step_core.specs.CellSteps.{Grows}
use Rattle.step_core.specs.Sound.{owed}
use Rattle.step_core.specs.declared.cells.Cells.{Cells}
use Rattle.actor_parts.specs.Blocks.{BlocksView, IsLaid}
use Rattle.actor_parts.specs.Dispatch.{first, is_loading, next_home, next_of}
use Rattle.tx_actor.specs.Asks.{Stands}
use Rattle.tx_actor.specs.Calls.{AsksAt}
use Rattle.tx_actor.specs.CopiesByStage.{HasCopies}
use Rattle.tx_actor.specs.Dispatch.{Starves}
use Rattle.tx_actor.specs.ActorBounds.{IsRunning, KeepsIn}
use Rattle.tx_actor.specs.Running.{Runs, is_recorded, seat_at, seat_of, stage_of}
use Rattle.tx_actor.specs.declared.actor.Stage as own
use Rattle.tx_actor.specs.declared.actor.Stage.TheVariants as stage
use Rattle.tx_actor.specs.declared.actor.ActorNotice.{ActorNotice}
use Rattle.tx_actor.specs.declared.actor.TxActor.{TxActor}
use Rattle.actor_parts.specs.declared.next.Next.TheVariants as next
use Rattle.actor_parts.specs.Openings.{HasShape}
use Rattle.actor_parts.specs.declared.table.Table.{Table}
use Rattle.step_world.specs.declared.parts.Parts.{Parts}
use Rattle.step_world.specs.declared.trace.Ended.{Ended}
use Rattle.step_world.specs.Parts.{Happens, IsStarved, Stays, ended_of}
use Rattle.step_world.specs.Homes.{HasRoomLeft}
use Rattle.step_world.specs.Reached.{IsReached}
use Rattle.step_world.specs.Turns.{IsTurn, KeepsOwn, KeepsRoom}
use Rattle.tx_actor.proofs.SeatLemmas.{seat_loading, seated_by, stage_by}
use Rattle.step_world.proofs.TurnLemmas.{starve_turns}
use Rattle.tx_actor.proofs.StepLemmas.{first_is}
use Rattle.step_world.proofs.OwnTurnLemmas.{ask_turns}
use Rattle.tx_actor.proofs.OwnLemmas.{CallsLaw}
use Rattle.step_world.proofs.WorldLemmas.{stood, turned}

module _ {V : Type 0} where
  -- with this table, and this actor at this place
  abbrev pub with_turn : Parts V → Table V → ℕ → TxActor V → Parts V
  with_turn c u i s = record c { table = u; actors = with_item c.actors i s }

  pub keeps_same : (v : BlocksView) (r : TxActor V) → KeepsIn v r r
  keeps_same v r = record { running = λ h. h; owed = omega arith }

  -- nothing is recorded, and nothing has ended
  pub record EndsNone (s : Stage V) : Type 0 where
    pub committed : (x : Seat V) → committed_by x s ≡ None
    pub ended : (a : ℕ) (x : Seat V) → ended_by a x s ≡ []

  pub step_happens : (c d : Parts V) (i : ℕ) (r s : TxActor V) (n : ActorNotice V) → slice_get c.actors.items i ≡ Some r
      → d.blocks ≡ c.blocks → d.actors.items ≡ slice_set c.actors.items i s
      → IsTurn c.blocks (Step (i + 1)) c.table r d.table s n → KeepsOwn c.blocks (Step (i + 1)) c.table r s
      → KeepsRoom (Step (i + 1)) c.table r d.table s
      → ((m : ℕ) (bs : List Block) → HasShape c.table m bs → HasShape d.table m bs)
      → (IsRunning c.blocks r → IsRunning c.blocks s) → Grows c.table.cells r.words d.table.cells s.words
      → ((x : Seat V) → x ≡ seat_at x r → d.records.items ≡ with_record (i + 1) (committed_by x x.stage) c.records.items)
      → ((x : Seat V) → x ≡ seat_at x r → map ended_of d.aborted.items ≡ map ended_of c.aborted.items ++ ended_by (i + 1) x x.stage)
      → Happens c (Step (i + 1)) d n
  step_happens c d i r s n got laid es turn kept rooms shape keeps grows rs ends = record {
    parts = λ o w reached h. (
        let a = i + 1 in
        let x = w.seats a in
        let is = (h.seats i r got).runs.0 in
        let adds = steps_end w a in
        turned o c d w (Step a) i r s n reached h refl got laid es turn kept rooms shape keeps grows
        (rs x is ∙ (ap (λ (xs : List (ℕ × Record V)). with_record a (committed_by x x.stage) xs) h.records ∙ sym adds.0))
        (ends x is ∙ (ap (λ (xs : List (seats.Ended V)). xs ++ ended_by a x x.stage) h.aborted ∙ sym adds.1)));
    told = λ o w reached h. (turn.turns o w reached h.laid h.table (h.seats i r got).runs (h.seats i r got).copies).2;
  }

  -- a step that ends nothing, of an actor whose seat is at such a stage
  pub passes_by : (c : Parts V) (u : Table V) (i : ℕ) (r s : TxActor V) (n : ActorNotice V) → slice_get c.actors.items i ≡ Some r
      → ((x : Seat V) → x ≡ seat_at x r → EndsNone x.stage) → IsTurn c.blocks (Step (i + 1)) c.table r u s n
      → KeepsOwn c.blocks (Step (i + 1)) c.table r s → KeepsRoom (Step (i + 1)) c.table r u s
      → ((m : ℕ) (bs : List Block) → HasShape c.table m bs → HasShape u m bs)
      → (IsRunning c.blocks r → IsRunning c.blocks s) → Grows c.table.cells r.words u.cells s.words
      → Happens c (Step (i + 1)) (with_turn c u i s) n
  passes_by c u i r s n got none turn kept rooms shape keeps grows =
      step_happens c (with_turn c u i s) i r s n got refl refl turn kept rooms shape keeps grows
      (λ x is. sym (ap (λ (o : Option (Record V)). with_record (i + 1) o c.records.items) ((none x is).committed x)))
      (λ x is. sym (append-nil (map ended_of c.aborted.items))
      ∙ ap (λ (xs : List (seats.Ended V)). map ended_of c.aborted.items ++ xs) (sym ((none x is).ended (i + 1) x)))

  pub passes : (c : Parts V) (u : Table V) (i : ℕ) (r s : TxActor V) (n : ActorNotice V) → slice_get c.actors.items i ≡ Some r
      → is_loading (stage_of r.stage) ≡ false → EndsNone (stage_of r.stage) → IsTurn c.blocks (Step (i + 1)) c.table r u s n
      → KeepsOwn c.blocks (Step (i + 1)) c.table r s → KeepsRoom (Step (i + 1)) c.table r u s
      → ((m : ℕ) (bs : List Block) → HasShape c.table m bs → HasShape u m bs)
      → (IsRunning c.blocks r → IsRunning c.blocks s) → Grows c.table.cells r.words u.cells s.words
      → Happens c (Step (i + 1)) (with_turn c u i s) n
  passes c u i r s n got quiet none =
      passes_by c u i r s n got (λ x is. subst EndsNone (sym (stage_by x r quiet is)) none)

  -- where the words stand
  pub same_cells : (t u : Table V) (r s : TxActor V) → u.cells ≡ t.cells → owed s.words.place ≤ owed r.words.place
      → Grows t.cells r.words u.cells s.words
  same_cells t u r s same less = subst (λ (x : Cells). Grows t.cells r.words x s.words) (sym same) (inl (omega (arith, less)))

  -- ---- the stages whose step ends nothing
  pub none_at_try : (s : Stage V) (k : ℕ) → next_of s ≡ next.TryGate k → EndsNone s
  none_at_try s k e = record { committed = committed s e; ended = ended s e }
    where
      committed : (s : Stage V) → next_of s ≡ next.TryGate k → (x : Seat V) → committed_by x s ≡ None
      committed (Ready ks) e x = let z : ⊥ = cc in absurd z
      committed Closing e x = let z : ⊥ = cc in absurd z
      committed s e x = refl

      ended : (s : Stage V) → next_of s ≡ next.TryGate k → (a : ℕ) (x : Seat V) → ended_by a x s ≡ []
      ended Leaving e a x = let z : ⊥ = cc in absurd z
      ended s e a x = refl

  pub none_at_put : (s : Stage V) (k : ℕ) → next_of s ≡ next.PutGate k → EndsNone s
  none_at_put s k e = record { committed = committed s e; ended = ended s e }
    where
      committed : (s : Stage V) → next_of s ≡ next.PutGate k → (x : Seat V) → committed_by x s ≡ None
      committed (Ready ks) e x = let z : ⊥ = cc in absurd z
      committed Closing e x = let z : ⊥ = cc in absurd z
      committed s e x = refl

      ended : (s : Stage V) → next_of s ≡ next.PutGate k → (a : ℕ) (x : Seat V) → ended_by a x s ≡ []
      ended Leaving e a x = let z : ⊥ = cc in absurd z
      ended s e a x = refl

  none_loading_at : (s : Stage V) → is_loading s ≡ true → EndsNone s
  none_loading_at (Loading o es) e = record { committed = λ x. refl; ended = λ a x. refl }
  none_loading_at s e = absurd (true≢false (sym e))

  pub none_loading : (r : TxActor V) → is_loading (stage_of r.stage) ≡ true → (x : Seat V) → x ≡ seat_at x r → EndsNone x.stage
  none_loading r loading x is = none_loading_at x.stage (seat_loading x r is ∙ loading)

  pub none_copying : (s : Stage V) (asked : CollectionCall V) → s ≡ Copying asked → EndsNone s
  none_copying s asked e =
      subst EndsNone (sym e) (let none : EndsNone (Copying asked) = record { committed = λ x. refl; ended = λ a x. refl } in none)

  pub none_at_word : (t : own.Stage V) → next_of (stage_of t) ≡ next.Word → (t ≡ stage.Closing → ⊥) → (t ≡ stage.Leaving → ⊥)
      → EndsNone (stage_of t)
  none_at_word t e c l = record { committed = committed t e c; ended = ended t l }
    where
      committed : (t : own.Stage V) → next_of (stage_of t) ≡ next.Word → (t ≡ stage.Closing → ⊥) → (x : Seat V)
          → committed_by x (stage_of t) ≡ None
      committed (stage.Ready homes) e c x = let z : ⊥ = cc in absurd z
      committed stage.Closing e c x = absurd (c refl)
      committed t e c x = refl

      ended : (t : own.Stage V) → (t ≡ stage.Leaving → ⊥) → (a : ℕ) (x : Seat V) → ended_by a x (stage_of t) ≡ []
      ended stage.Leaving l a x = absurd (l refl)
      ended t l a x = refl

  -- ---- a request
  pub ask_happens : CallsLaw V → (c : Parts V) (i : ℕ) (q : Request V) (r s : TxActor V) (n : ActorNotice V)
      → slice_get c.actors.items i ≡ Some r
      → AsksAt c.blocks r s n (λ a w. ask_at w a (seat_of r) (stage_of r.stage) q) → KeepsOwn c.blocks (Ask (i + 1) q) c.table r s
      → KeepsRoom (Ask (i + 1) q) c.table r c.table s → KeepsIn c.blocks r s → Happens c (Ask (i + 1) q) (with_turn c c.table i s) n
  ask_happens calls c i q r s n got asks own rooms kept =
      let turn = ask_turns calls c.blocks (i + 1) q c.table r s n asks in
      let less = kept.owed in
      record {
        parts = λ o w reached h. (
            let adds = asked_adds w (i + 1) q in
            turned o c (with_turn c c.table i s) w (Ask (i + 1) q) i r s n reached h refl got refl refl turn own rooms (λ m bs x. x)
            kept.running (inl (omega (arith, less))) (h.records ∙ sym adds.0) (h.aborted ∙ sym adds.1));
        told = λ o w reached h. (turn.turns o w reached h.laid h.table (h.seats i r got).runs (h.seats i r got).copies).2;
      }

  -- ---- a failed allocation
  pub starve_happens : (c : Parts V) (i : ℕ) (r s : TxActor V) (n : ActorNotice V) → slice_get c.actors.items i ≡ Some r → Starves r s n
      → KeepsOwn c.blocks (Starve (i + 1)) c.table r s → KeepsRoom (Starve (i + 1)) c.table r c.table s → KeepsIn c.blocks r s
      → Happens c (Starve (i + 1)) (with_turn c c.table i s) n
  starve_happens c i r s n got starves own rooms keeps =
      let turn = starve_turns c.blocks (i + 1) c.table r s n starves in
      let less = keeps.owed in
      record {
        parts = λ o w reached h. (
            let adds = starved_adds w (i + 1) in
            turned o c (with_turn c c.table i s) w (Starve (i + 1)) i r s n reached h refl got refl refl turn own rooms (λ m bs x. x)
            keeps.running (inl (omega (arith, less))) (h.records ∙ sym adds.0) (h.aborted ∙ sym adds.1));
        told = λ o w reached h. (turn.turns o w reached h.laid h.table (h.seats i r got).runs (h.seats i r got).copies).2;
      }

  -- ---- parts of the same worlds: what memory is asked for before a step
  pub more_records : (c : Parts V) (rs : Vec (ℕ × Record V) Global) → rs.items ≡ c.records.items
      → Stays c (record c { records = rs })
  more_records c rs same = λ o w reached h. record {
    laid = h.laid;
    table = h.table;
    shape = h.shape;
    count = h.count;
    seats = h.seats;
    room = h.room;
    others = h.others;
    records = same ∙ h.records;
    aborted = h.aborted;
    clock = h.clock;
  }

  pub more_aborted : (c : Parts V) (es : Vec (Ended V) Global) → es.items ≡ c.aborted.items → Stays c (record c { aborted = es })
  more_aborted c es same = λ o w reached h. record {
    laid = h.laid;
    table = h.table;
    shape = h.shape;
    count = h.count;
    seats = h.seats;
    room = h.room;
    others = h.others;
    records = h.records;
    aborted = ap (λ (xs : List (Ended V)). map ended_of xs) same ∙ h.aborted;
    clock = h.clock;
  }

  -- an actor that shows what the one at its place does
  pub stays_by : (c : Parts V) (u : Table V) (i : ℕ) (r s : TxActor V) → slice_get c.actors.items i ≡ Some r → u ≡ c.table → Stands r s
      → ((w : World V) → IsLaid c.blocks w → HasCopies r w (i + 1) → HasCopies s w (i + 1))
      → ((o : Contents V) (w : World V) → IsReached o w → Runs (i + 1) r w → Runs (i + 1) s w → HasRoomLeft c.table r
      → HasRoomLeft c.table s)
      → (IsRunning c.blocks r → IsRunning c.blocks s) → Grows c.table.cells r.words u.cells s.words → Stays c (with_turn c u i s)
  stays_by c u i r s got same stands has room keeps grows = λ o w reached h. (
      let runs = (h.seats i r got).runs in
      stood c (with_turn c u i s) w i r s h got refl same refl refl refl stands (has w h.laid)
      (subst (λ (t : Table V). HasRoomLeft t s) (sym same) (room o w reached runs (stands (i + 1) w runs) (h.room i r got)))
      (keeps (h.seats i r got).running) grows)

  -- parts of the same worlds, and then an event
  pub happens_then : (b c d : Parts V) (e : Event V) (n : ActorNotice V) → Stays b c → Happens c e d n → Happens b e d n
  happens_then b c d e n same h = record {
    parts = λ o w reached k. h.parts o w reached (same o w reached k);
    told = λ o w reached k. h.told o w reached (same o w reached k);
  }

  pub stays_then : (b c d : Parts V) → Stays b c → Stays c d → Stays b d
  stays_then b c d first then = λ o w reached h. then o w reached (first o w reached h)

  pub starved_then : (b c d : Parts V) (i : ℕ) → Stays b c → IsStarved c i d → IsStarved b i d
  starved_then b c d i same h = record { told = h.told; happens = happens_then b c d (Starve (i + 1)) h.told same h.happens }

  -- ---- the steps that end a transaction
  record_is : (m : Record V) (n : ℕ) (b : Bool) (cs : List (Call V × Reply V)) → m.number ≡ n → m.writes ≡ b → m.calls ≡ cs
      → let own : Record V = record { number = n; writes = b; calls = cs } in m ≡ own
  record_is m n b cs p q r j = record { number = p j; writes = q j; calls = r j }

  pub closing_record : (a : ℕ) (r : TxActor V) (m : Record V) (rs : List (ℕ × Record V)) → r.stage ≡ stage.Closing → m.number ≡ r.rv
      → m.writes ≡ false → m.calls ≡ r.calls.items → (x : Seat V) → x ≡ seat_at x r
      → insert_record (a, m) rs ≡ with_record a (committed_by x x.stage) rs
  closing_record a r m rs at p q s x is =
      let seat = seated_by x r (ap (λ (t : own.Stage V). is_loading (stage_of t)) at) (ap (λ (t : own.Stage V). is_recorded t) at) is in
      ap (λ (z : Record V). insert_record (a, z) rs) (record_is m r.rv false r.calls.items p q s)
      ∙ sym (ap (λ (y : Seat V). with_record a (committed_by y y.stage) rs) seat
      ∙ ap (λ (t : own.Stage V). with_record a (committed_by (seat_of r) (stage_of t)) rs) at)

  pub closing_ends : (a : ℕ) (r : TxActor V) (es : List (seats.Ended V)) → r.stage ≡ stage.Closing → (x : Seat V) → x ≡ seat_at x r
      → es ≡ es ++ ended_by a x x.stage
  closing_ends a r es at x is =
      sym (append-nil es)
      ∙ ap (λ (k : Stage V). es ++ ended_by a x k)
      (sym (stage_by x r (ap (λ (t : own.Stage V). is_loading (stage_of t)) at) is
      ∙ ap (λ (t : own.Stage V). stage_of t) at))

  plain_first : (t : own.Stage V) → next_of (stage_of t) ≡ next.FirstStore → is_recorded t ≡ false
  plain_first (stage.Storing homes) e = let z : ⊥ = cc in absurd z
  plain_first (stage.Homing homes) e = absurd (no_home (first homes.items) e)
    where
      no_home : (o : Option ℕ) → next_home o ≡ next.FirstStore → ⊥
      no_home None e = cc
      no_home (Some k) e = cc
  plain_first stage.Releasing e = let z : ⊥ = cc in absurd z
  plain_first t e = refl

  first_seat : (r : TxActor V) → next_of (stage_of r.stage) ≡ next.FirstStore → (x : Seat V) → x ≡ seat_at x r → x ≡ seat_of r
  first_seat r due x is =
      seated_by x r (ap is_loading (first_is (stage_of r.stage) due).1) (plain_first r.stage due) is

  pub committing_record : (a : ℕ) (r : TxActor V) (m : Record V) (rs : List (ℕ × Record V)) → next_of (stage_of r.stage) ≡ next.FirstStore
      → m.number ≡ r.wv → m.writes ≡ true → m.calls ≡ r.calls.items → (x : Seat V) → x ≡ seat_at x r
      → insert_record (a, m) rs ≡ with_record a (committed_by x x.stage) rs
  committing_record a r m rs due p q s x is =
      ap (λ (z : Record V). insert_record (a, z) rs) (record_is m r.wv true r.calls.items p q s)
      ∙ sym (ap (λ (y : Seat V). with_record a (committed_by y y.stage) rs) (first_seat r due x is)
      ∙ ap (λ (k : Stage V). with_record a (committed_by (seat_of r) k) rs) (first_is (stage_of r.stage) due).1)

  pub committing_ends : (a : ℕ) (r : TxActor V) (es : List (seats.Ended V)) → next_of (stage_of r.stage) ≡ next.FirstStore → (x : Seat V)
      → x ≡ seat_at x r → es ≡ es ++ ended_by a x x.stage
  committing_ends a r es due x is =
      sym (append-nil es)
      ∙ ap (λ (k : Stage V). es ++ ended_by a x k)
      (sym (ap (λ (y : Seat V). y.stage) (first_seat r due x is) ∙ (first_is (stage_of r.stage) due).1))

  pub leaving_record : (a : ℕ) (r : TxActor V) (rs : List (ℕ × Record V)) → r.stage ≡ stage.Leaving → (x : Seat V) → x ≡ seat_at x r
      → rs ≡ with_record a (committed_by x x.stage) rs
  leaving_record a r rs at x is =
      ap (λ (k : Stage V). with_record a (committed_by x k) rs)
      (sym (stage_by x r (ap (λ (t : own.Stage V). is_loading (stage_of t)) at) is
      ∙ ap (λ (t : own.Stage V). stage_of t) at))

  ended_is : (e : Ended V) (a rv : ℕ) (cs : List (Call V × Reply V)) (cause : Option Refusal) → e.actor ≡ a → e.rv ≡ rv → e.calls ≡ cs
      → e.cause ≡ cause
      → let own : seats.Ended V = record { actor = a; rv = rv; calls = cs; cause = cause } in ended_of e ≡ own
  ended_is e a rv cs cause p q r s j = record { actor = p j; rv = q j; calls = r j; cause = s j }

  pub leaving_ends : (a : ℕ) (r : TxActor V) (e : Ended V) (es now : List (Ended V)) → r.stage ≡ stage.Leaving → e.actor ≡ a
      → e.rv ≡ r.rv → e.calls ≡ r.calls.items → e.cause ≡ r.cause → now ≡ es ++ e ∷ [] → (x : Seat V) → x ≡ seat_at x r
      → map ended_of now ≡ map ended_of es ++ ended_by a x x.stage
  leaving_ends a r e es now at p q s t all x is =
      let seat = seated_by x r (ap (λ (t : own.Stage V). is_loading (stage_of t)) at) (ap (λ (t : own.Stage V). is_recorded t) at) is in
      ap (λ (xs : List (Ended V)). map ended_of xs) all
      ∙ (map-append ended_of es (e ∷ [])
      ∙ (ap (λ (y : seats.Ended V). map ended_of es ++ y ∷ []) (ended_is e a r.rv r.calls.items r.cause p q s t)
      ∙ sym (ap (λ (y : Seat V). map ended_of es ++ ended_by a y y.stage) seat
      ∙ ap (λ (t : own.Stage V). map ended_of es ++ ended_by a (seat_of r) (stage_of t)) at)))
