-- A call on a key that is taken under its gate, and made ready once the gate is put back. Its location has not been read, so the store of
-- the gate lets its seat wait for it: where it is ready by then it continues as any call that is copied (`taken_ready`), and where an
-- allocation failed its seat is aborted as one that reads (`starves_behind`). A word actor that waits for a location cancels as one that is
-- idle (`cancelled_look`), so the actor is aborted where it stands.
use Rattle.std.proofs.Common.{◌≡◌, ℕ, ◌+◌, ◌<◌, ◌==◌, ◌^◌, ◌&&◌, true, false, cond, filter, List, [], ◌∷◌, Option, Some, None}
use Rattle.std.proofs.Common.{refl, sym, ap}
use Rattle.std.proofs.Common.{subst, ◌∙◌}
use Rattle.std.specs.Prelude.{if◌then◌else◌, not, slice_get}
use Rattle.std.proofs.lemmas.Bool.{cond-true}
use Rattle.tx_sets.specs.Entries.{Entries, locations, lookup}
use Rattle.tx_machine.specs.Actor as machine
use Rattle.tx_machine.specs.Actor.{Look, Open as AtRest, goes}
use Rattle.tx_machine.proofs.Sets.{put-same}
use Rattle.seq_model.specs.declared.call.Op.{Op}
use Rattle.seq_model.specs.declared.call.Op.TheVariants.{Get, Put, Remove, Count, Add, Take}
use Rattle.seq_model.specs.declared.event.Notice.TheVariants.{Quiet}
use Rattle.seq_model.specs.declared.refusal.Refusal.TheVariants.{Memory as OutOfMemory}
use Rattle.tx_machine.specs.Boosted.{changes}
use Rattle.conflict.specs.declared.outcome.Outcome.{Outcome}
use Rattle.replay_log.specs.declared.base.Base.{Base}
use Rattle.replay_log.specs.Base.{Shown, OfBag, OfMap, outcome_of, shown_of, stripes_of}
use Rattle.replay_log.specs.Parts.{Kind, BagKind, MapKind, kind_of}
use Rattle.replay_log.specs.Pieces.{Piece, is_piece, piece_at, piece_in}
use Rattle.replay_log.specs.Contents as contents
use Rattle.replay_log.specs.Contents.{Block, answer, block_of, content, end_of, first_of, home_of, is_plain, reads_in, shifted, size}
use Rattle.replay_log.specs.Worlds as worlds
use Rattle.replay_log.specs.Worlds.{After, Cancelling, Leaving, Seat, Stage, World, actor_of, all_of, at_stage, because, distinct, gives_up}
use Rattle.replay_log.specs.Worlds.{has_room, is_leaving, is_stale, outcome_at, outcome_now, sized_by, starve_at, step_at, with_editions}
use Rattle.replay_log.specs.Worlds.{with_piece}
use Rattle.step_core.specs.Shown as words
use Rattle.actor_laws.specs.Bases.{IsBaseOf}
use Rattle.actor_parts.specs.Blocks.{BlocksView, IsLaid}
use Rattle.actor_parts.specs.Dispatch.{is_loading}
use Rattle.actor_parts.specs.declared.judged.Judged.TheVariants.{All, Next}
use Rattle.actor_parts.specs.Judged.{comes_to, judged, judged_one, left_after, left_one}
use Rattle.actor_parts.specs.Shows.{cancelled, ending, put_back}
use Rattle.actor_parts.proofs.ShowsLemmas.{copies_for_call, gives_it_up, reads_next}
use Rattle.actor_parts.specs.declared.copies.CopyOfCollection.{CopyOfCollection}
use Rattle.actor_parts.specs.CopyList.{copy_of, has_piece}
use Rattle.actor_parts.specs.Sizes.{base_reads, base_writes}
use Rattle.actor_parts.specs.Taking.{copy_with}
use Rattle.actor_parts.proofs.GoingLemmas.{GoesOn, fresh}
use Rattle.actor_parts.proofs.TakeBackLemmas.{kept_same, taken_pieces, taken_there}
use Rattle.tx_actor.specs.declared.actor.CollectionCall.{CollectionCall}
use Rattle.tx_actor.specs.declared.actor.Stage.TheVariants as stage
use Rattle.tx_actor.specs.declared.actor.ActorNotice.{ActorNotice}
use Rattle.tx_actor.specs.declared.actor.TxActor.{TxActor}
use Rattle.tx_actor.specs.declared.prepares.Prepared.{Prepared}
use Rattle.tx_actor.specs.Copying.{AreReadyIn, CanCopy, IsReadyAt, MayCopy}
use Rattle.tx_actor.specs.declared.actor.CallWithOutcome as running
use Rattle.std.specs.declared.alloc.Global.{Global}
use Rattle.std.specs.declared.collections.VecDeque.{VecDeque}
use Rattle.std.proofs.lemmas.Option.{same_Some}
use Rattle.tx_actor.specs.ActorBounds.{KeepsIn}
use Rattle.tx_actor.specs.LoadStep.{first_entry}
use Rattle.tx_actor.specs.Prepares.{AreReadied, IsAlike, MayPrepare}
use Rattle.tx_actor.specs.Running.{KnowsHomes, Runs, asked_of, at, seat_at, seat_of}
use Rattle.tx_actor.specs.Taking.{AreTakenBy, StarvesBehind, WaitsForKey, key_location_in}
use Rattle.tx_actor.proofs.CopyAtGateLemmas.{may_prepare, may_take, of_its_block, sized_back}
use Rattle.tx_actor.proofs.ActorBoundsLemmas.{keeps_through}
use Rattle.tx_actor.proofs.LoadLemmas as load
use Rattle.tx_actor.proofs.RoomLemmas.{alike_keeps}

-- a word actor that waits for a location cancels as one that is idle
cancelled_look : (y : machine.Actor) (l : ℕ) → y.place ≡ AtRest → cancelled y ≡ cancelled (goes y (Look l))
cancelled_look y l e = λ j. cancelled (record y { place = e j })

abbrev homes_by : ℕ → List Block → machine.Actor → List ℕ
homes_by n bs y = distinct (all_of (home_of n bs) (filter (λ l. not (is_plain n bs l)) (locations y.writes)))

abbrev one_place : ℕ → Option ℕ → List ℕ
one_place f (Some i) = (f + i) ∷ []
one_place f None = []

-- the first location is read next, where it is to be read
pub first_next : (reads es : Entries) (d : ℕ × ℕ) → first_entry es ≡ Some d → lookup reads d.0 ≡ None → judged reads es ≡ Next d.0
first_next reads [] d e none = absurd (let z : ⊥ = cc in z)
first_next reads (c ∷ es) d e none =
    let same : c ≡ d = cc in
    let here : lookup reads c.0 ≡ None = ap (λ (p : ℕ × ℕ). lookup reads p.0) same ∙ none in
    ap (judged_one c (judged reads es)) here ∙ ap (λ (p : ℕ × ℕ). Next p.0) same

-- and then all are left
pub first_stays : (reads es : Entries) (d : ℕ × ℕ) → first_entry es ≡ Some d → lookup reads d.0 ≡ None → left_after reads es ≡ es
first_stays reads [] d e none = refl
first_stays reads (c ∷ es) d e none =
    let same : c ≡ d = cc in
    let here : lookup reads c.0 ≡ None = ap (λ (p : ℕ × ℕ). lookup reads p.0) same ∙ none in
    ap (left_one c es (left_after reads es)) here

module _ {V : Type 0} where
  -- ---- the location of a key
  reads_key : (n : ℕ) (k : Kind) (f : ℕ) (v : ℕ → Shown V) (op : Op V) (i : ℕ) → key_location_in n k op ≡ Some i
      → let b : Block = record { kind = k; stripes = n } in reads_in (Some b) f (answer (Some b) f v op) ≡ (f + i) ∷ []
  reads_key n MapKind f v (Get k) i e = ap (one_place f) e
  reads_key n MapKind f v (Put k x) i e = ap (one_place f) e
  reads_key n MapKind f v (Remove k) i e = ap (one_place f) e
  reads_key n BagKind f v (Count x) i e = ap (one_place f) e
  reads_key n BagKind f v (Add x) i e = ap (one_place f) e
  reads_key n BagKind f v (Take x) i e = ap (one_place f) e
  reads_key n k f v op i e = let z : ⊥ = cc in absurd z

  some_key : (n : ℕ) (s : Shown V) (op : Op V) (i : ℕ) → key_location_in n (kind_of s) op ≡ Some i
      → (o : Outcome V) × (outcome_of op s ≡ Some o)
  some_key n (OfMap m) (Get k) i e = (_, refl)
  some_key n (OfMap m) (Put k x) i e = (_, refl)
  some_key n (OfMap m) (Remove k) i e = (_, refl)
  some_key n (OfBag m) (Count x) i e = (_, refl)
  some_key n (OfBag m) (Add x) i e = (_, refl)
  some_key n (OfBag m) (Take x) i e = (_, refl)
  some_key n s op i e = let z : ⊥ = cc in absurd z

  -- ---- aborted as one that reads
  given_up_same : (a : ℕ) (t z : World V) (x p : Seat V) (n : TxActor V) → z.words ≡ t.words → z.blocks ≡ t.blocks
      → cancelled (actor_of t a) ≡ cancelled (actor_of z a) → ((s : Stage V) → at_stage x s ≡ at_stage p s)
      → Runs a n (gives_up t a x []).0 → Runs a n (gives_up z a p []).0
  given_up_same a t z x p n words blocks same seats runs =
      let there = (gives_it_up a (t.seats a) x (actor_of t a) t (refl, refl)).0 in
      let here = (gives_it_up a (z.seats a) p (actor_of z a) z (refl, refl)).0 in
      let actors : actor_of (gives_up t a x []).0 a ≡ actor_of (gives_up z a p []).0 a = there.1 ∙ (same ∙ sym here.1) in
      let seat : (gives_up t a x []).0.seats a ≡ (gives_up z a p []).0.seats a =
      there.0
      ∙ (ap (ending x) same ∙ (seats (if is_leaving (cancelled (actor_of z a)).place then Leaving else Cancelling) ∙ sym here.0)) in (
        subst (λ (q : Seat V). q ≡ seat_at q n) seat runs.0,
        sym actors ∙ runs.1,
        subst (KnowsHomes n.stage) (λ j. homes_by (sym words j) (sym blocks j) (actors j)) runs.2,
      )

  -- ---- a call on a key that was taken
  module _ (v : BlocksView) (w : World V) (a : ℕ) (r m u : TxActor V) (base : Base V) (asked : CollectionCall V) (i : ℕ) (laid : IsLaid v w)
      (can : CanCopy v r base asked) (s : Runs a (at r (stage.Copying asked)) w)
      (may : MayCopy v w a (at r (stage.Copying asked)) base asked) (from : AreTakenBy v r m base asked i)
      (waits : WaitsForKey v r base asked) (alike : IsAlike m u) where
    abbrev k : ℕ
    k = asked.collection

    abbrev call : contents.CollectionCall V
    call = asked_of asked

    abbrev t : World V
    t = put_back a w call

    abbrev f : ℕ
    f = first_of w.words w.blocks k

    abbrev b : Block
    b = from.block

    abbrev own : contents.CallWithOutcome V
    own = outcome_at t a call

    abbrev es : Entries
    es = with_editions w.boosted.editions ((content w.words w.blocks).reads own)

    abbrev l : ℕ
    l = f + waits.place

    abbrev seat : Seat V
    seat = with_piece (seat_of (at r (stage.Copying asked))) k (piece_at w.blocks call)

    abbrev left : Entries
    left = left_after (actor_of w a).reads es

    its_block : can.block ≡ b
    its_block = same_Some can.block b (sym can.there ∙ from.there)

    here : block_of w.blocks k ≡ Some b
    here = (λ j. block_of (laid.1 j) k) ∙ from.there

    first_same : first_of v.words v.blocks k ≡ f
    first_same = λ j. first_of (sym laid.0 j) (sym laid.1 j) k

    back_words : actor_of t a ≡ actor_of w a
    back_words = (copies_for_call a (w.seats a) (actor_of w a) w call (refl, refl)).0.1

    taken_alike : IsAlike (record r { copies = from.copies }) u
    taken_alike = subst (λ (z : TxActor V). IsAlike z u) from.same alike

    now_words : actor_of w a ≡ words.actor_of u.words
    now_words = s.1 ∙ sym taken_alike.words

    -- ---- it waits for its location
    key_is : key_location_in b.stripes b.kind asked.op ≡ Some waits.place
    key_is =
        let stripes : stripes_of base ≡ b.stripes = can.is.stripes ∙ ap (λ (z : Block). z.stripes) its_block in
        let kind : kind_of (shown_of base) ≡ b.kind = can.is.kind ∙ ap (λ (z : Block). z.kind) its_block in
        (λ j. key_location_in (sym stripes j) (sym kind j) asked.op) ∙ waits.key

    reads_own : (content w.words w.blocks).reads own ≡ l ∷ []
    reads_own =
        let shadow = t.boosted.shadows a in
        let view = changes (content t.words t.blocks) shadow.outcomes shadow.parts in
        ap (λ (q : Option Block). reads_in q f (answer q f view asked.op)) here
        ∙ reads_key b.stripes b.kind f view asked.op waits.place key_is

    unread : lookup (actor_of w a).reads l ≡ None
    unread = (λ j. lookup (s.1 j).reads (sym first_same j + waits.place)) ∙ waits.unread

    next : judged (actor_of w a).reads es ≡ Next l
    next =
        ap (λ (ls : List ℕ). judged (actor_of w a).reads (with_editions w.boosted.editions ls)) reads_own
        ∙ ap (judged_one (l, w.boosted.editions l) All) unread

    -- its locations fit the sets
    room_sized : let c = content w.words w.blocks in
        let sized = sized_by t a call own in has_room (actor_of w a) (c.reads sized) (c.writes sized) ≡ true
    room_sized =
        let o = some_key (stripes_of base) (shown_of base) asked.op waits.place waits.key in
        may.sizes o.0 o.1
        ∙ ((λ j. has_room (s.1 j) (shifted (sym first_same j) (base_reads base o.0)) (shifted (sym first_same j) (base_writes base o.0)))
        ∙ waits.fits o.0 o.1)

    own_room : let c = content w.words w.blocks in has_room (actor_of w a) (c.reads own) (c.writes own) ≡ true
    own_room =
        let c = content w.words w.blocks in
        let not_stale : is_stale (actor_of w a).reads es ≡ false = fresh (actor_of w a).reads es (subst GoesOn (sym next) tt) in
        let same : sized_by t a call own ≡ own = sized_back w a call ∙ ap (λ q. cond q (outcome_now t call) own) not_stale in
        ap (λ q. has_room (actor_of w a) (c.reads q) (c.writes q)) (sym same) ∙ room_sized

    abbrev z : After V
    z = comes_to t a seat own left (Next l)

    steps_to : step_at w a (seat_of (at r (stage.Copying asked))) (worlds.Copying call) ≡ z
    steps_to =
        let y = actor_of w a in
        let c = content w.words w.blocks in
        let does = copies_for_call a (seat_of (at r (stage.Copying asked))) y w call (s.0, refl) in
        let room = (λ j. has_room y (c.reads (sym (sized_back w a call) j)) (c.writes (sym (sized_back w a call) j))) ∙ room_sized in
        does.1 ∙ (cond-true _ (comes_to t a seat own left (judged y.reads es)) _ room ∙ ap (comes_to t a seat own left) next)

    rests : (actor_of t a).place ≡ AtRest
    rests = ap (λ (y : machine.Actor). y.place) back_words ∙ may.goes_on.rests

    looks : actor_of z.0 a ≡ goes (actor_of t a) (Look l)
    looks =
        let writes = may.goes_on.reads l own_room (ap (λ (y : machine.Actor). judged y.reads es) back_words ∙ next) in
        let reads : lookup (actor_of t a).reads l ≡ None = ap (λ (y : machine.Actor). lookup y.reads l) back_words ∙ unread in
        (reads_next a (t.seats a) (actor_of t a) t own left l rests writes reads (refl, refl)).0.1

    -- its seat has the piece
    pieces : (j : ℕ) (q : Piece) → has_piece (copy_of u.copies.items j) q
        ≡ cond ((j == k) && is_piece (piece_at w.blocks call) q) true (has_piece (copy_of r.copies.items j) q)
    pieces j q =
        let holds = (may.copy b from.found from.at.copy from.there from.is from.at.taken).holds in
        kept_same from.copies.items u.copies.items taken_alike.copies j q
        ∙ (taken_pieces b base asked.op from.found k i r.copies.items from.copies.items
        (subst (λ (c : Block). IsBaseOf c base) its_block can.is) from.is
        (λ c e. (of_its_block v r base asked can c e).0 ∙ ap (λ (x : Block). x.kind) its_block) can.unheld from.at holds j q
        ∙ ap (λ (p : Piece). cond ((j == k) && is_piece p q) true (has_piece (copy_of r.copies.items j) q))
        (sym (ap (λ (c : Option Block). piece_in c asked.op) here)))

    seat_same : at_stage (seat_of u) (worlds.Copying call) ≡ seat
    seat_same = λ j. record {
      stage = worlds.Copying call;
      rv = taken_alike.rv j;
      wv = taken_alike.wv j;
      cause = taken_alike.cause j;
      calls = taken_alike.calls j;
      copied = λ h q. pieces h q j;
    }

    -- ---- it is aborted there
    abbrev IsGivenUp : TxActor V → After V → Type 0
    IsGivenUp n h =
        let g = starve_at h.0 a (h.0.seats a) (h.0.seats a).stage in
        (is_loading (h.0.seats a).stage ≡ true) × (h.1 ≡ Quiet) × Runs a n g.0 × (g.1 ≡ Quiet)

    abbrev IsGivenUpAt : TxActor V → Seat V → Type 0
    IsGivenUpAt n x =
        let g = starve_at z.0 a x x.stage in (is_loading x.stage ≡ true) × (z.1 ≡ Quiet) × Runs a n g.0 × (g.1 ≡ Quiet)

    given_up : (n : TxActor V) (h : ActorNotice V) → load.GivesUp u n h OutOfMemory
        → IsGivenUp n (step_at w a (seat_of (at r (stage.Copying asked))) (worlds.Copying call))
    given_up n h does =
        let x : Seat V = at_stage seat (worlds.Loading own left) in
        let runs : Runs a n (gives_up z.0 a (because x OutOfMemory) []).0 =
        given_up_same a t z.0 (because (seat_of u) OutOfMemory) (because x OutOfMemory) n refl refl
        (cancelled_look (actor_of t a) l rests ∙ sym (ap cancelled looks)) (λ st j. at_stage (because (seat_same j) OutOfMemory) st)
        (does a t (back_words ∙ now_words)).0 in
        subst (IsGivenUp n) (sym steps_to)
        (subst (IsGivenUpAt n) (sym (put-same t.seats a x)) (refl, refl, runs, refl))

  pub starves_behind : (v : BlocksView) (r m u n : TxActor V) (h : ActorNotice V) (base : Base V) (asked : CollectionCall V) (i : ℕ)
      → CanCopy v r base asked → AreTakenBy v r m base asked i → WaitsForKey v r base asked → IsAlike m u → load.GivesUp u n h OutOfMemory
      → StarvesBehind v (at r (stage.Copying asked)) n base asked
  starves_behind v r m u n h base asked i can from waits alike does a w laid s may =
      given_up v w a r m u base asked i laid can s may from waits alike n h does

  -- ---- it is made ready
  pub may_ready : (v : BlocksView) (r m : TxActor V) (base : Base V) (asked : CollectionCall V) (i f : ℕ)
      → f ≡ first_of v.words v.blocks asked.collection
      → ((c : Block) → block_of v.blocks asked.collection ≡ Some c → f + size c < 2 ^ 32) → CanCopy v r base asked
      → AreTakenBy v r m base asked i → MayPrepare m i f asked.op
  may_ready v r m base asked i f first within can from =
      let c = from.block in
      let may = may_take v r base asked c.stripes f from.found can
      (ap (λ (d : Block). d.stripes) (same_Some c can.block (sym from.there ∙ can.there))) (within can.block can.there) from.is in
      subst (λ (q : TxActor V). MayPrepare q i f asked.op) (sym from.same)
      (may_prepare r c.stripes f i from.found asked from.copies may from.at)

  pub taken_ready : (v : BlocksView) (r m u : TxActor V) (base : Base V) (asked : CollectionCall V) (i f : ℕ)
      (d : running.CallWithOutcome V)
      (left : VecDeque (ℕ × ℕ) Global) → f ≡ first_of v.words v.blocks asked.collection → AreTakenBy v r m base asked i → IsAlike m u
      → ((c : CopyOfCollection V) → slice_get m.copies.items i ≡ Some c → AreReadied m u i f asked c d (Some left))
      → AreReadyIn v r u base asked d (Some left)
  taken_ready v r m u base asked i f d left first from alike ready =
      let x : Prepared V = record { call = d; left = left } in
      let c : CopyOfCollection V = copy_with asked.collection from.at.copy in
      let there = taken_there from.block.stripes asked.collection i from.found r.copies.items from.copies.items from.at in
      let here = subst (λ (p : TxActor V). (c : CopyOfCollection V) → slice_get p.copies.items i ≡ Some c
      → AreReadied p u i f asked c d (Some left))
      from.same ready c there.1 in (
        i,
        here.0,
        (
          from.block,
          from.found,
          from.there,
          from.is,
          subst (λ (g : ℕ). IsReadyAt r u from.block.stripes g from.found asked i x) first
              (record {
                copies = from.copies;
                at = from.at;
                alike = subst (λ (p : TxActor V). IsAlike p u) from.same alike;
                ready = here.1 refl;
              }),
        ),
      )

  -- ---- the bounds and the room
  pub keeps_behind : (v : BlocksView) (r m u n : TxActor V) (base : Base V) (asked : CollectionCall V) (i : ℕ) → CanCopy v r base asked
      → AreTakenBy v r m base asked i → IsAlike m u → KeepsIn v (at u stage.Idle) n → KeepsIn v (at r (stage.Copying asked)) n
  keeps_behind v r m u n base asked i can from alike =
      let q : TxActor V = record r { copies = from.copies } in
      keeps_through v (at r (stage.Copying asked)) u n
      (alike_keeps (end_of v.words v.blocks) q u can.rests (subst (λ (p : TxActor V). IsAlike p u) from.same alike))
