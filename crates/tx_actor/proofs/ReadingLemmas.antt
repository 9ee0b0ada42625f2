-- A step of the load of a call's location. Its word actor is in a load of the first location that is left (`reading`), so the step answers
-- nothing and leaves a load of the same location, which takes no room; or it answers the edition and is idle, with one location read: the
-- others and the writes find the room that was for all (`room_behind`), and the read set is one entry longer where it had room for them
-- all; or the location has moved. What is made ready in the copies depends on no word.
use Rattle.std.proofs.Common.{◌≡◌, ◌+◌, ◌<◌, ◌≤◌, ℕ, suc, true, false, true≢false, length, List, [], ◌∷◌, refl, sym, ap, subst, ◌∙◌, arith}
use Rattle.std.specs.List.{All}
use Rattle.std.specs.declared.alloc.Global.{Global}
use Rattle.std.specs.declared.collections.VecDeque.{VecDeque}
use Rattle.std.specs.Vec.{vec_capacity, vec_len}
use Rattle.tx_sets.specs.Entries.{Entries, locations, with_entry}
use Rattle.tx_machine.specs.Actor as machine
use Rattle.tx_machine.specs.Actor.{with_read}
use Rattle.tx_machine.specs.Notices as notice
use Rattle.tx_machine.specs.World.{plan}
use Rattle.replay_log.specs.Contents.{end_of}
use Rattle.replay_log.specs.Worlds.{World, acted, actor_of, moves, new_in, word_notice}
use Rattle.replay_log.proofs.ActionLemmas.{learns}
use Rattle.replay_log.proofs.CountLemmas.{locations-cons}
use Rattle.replay_log.proofs.PlaceLemmas.{AfterRead, SameTx, read_after}
use Rattle.replay_log.proofs.SeatLemmas.{AtReading}
use Rattle.replay_log.proofs.SetLemmas.{moved_is}
use Rattle.step_core.specs.Shown as words
use Rattle.step_core.specs.Sound.{Fits, IsLoad, KeepsRoom, taken_at}
use Rattle.step_core.specs.declared.actor.Actor.{Actor}
use Rattle.step_core.specs.declared.actor.Place.{Place}
use Rattle.step_core.specs.declared.actor.Place.TheVariants as place
use Rattle.actor_parts.specs.Blocks.{BlocksView}
use Rattle.actor_parts.specs.Dispatch.{is_loading}
use Rattle.tx_actor.specs.declared.actor.CallWithOutcome as running
use Rattle.tx_actor.specs.declared.actor.Stage.{Stage}
use Rattle.tx_actor.specs.declared.actor.Stage.TheVariants as stage
use Rattle.tx_actor.specs.declared.actor.TxActor.{TxActor}
use Rattle.tx_actor.specs.Answers.{CanAccept, CanLoad, HasRoomToLoad, IsLoadOf, at_rest}
use Rattle.tx_actor.specs.Dispatch.{HasRoom}
use Rattle.tx_actor.specs.ActorBounds.{CanGoOn, CanGoOnBehind, HeardAt, IsCallAt, IsCallOf, IsSome, NamesAmong}
use Rattle.tx_actor.specs.LoadStep.{IsLoadable}
use Rattle.tx_actor.specs.Reading.{LoadsKeep}
use Rattle.tx_actor.specs.Running.{stage_of}
use Rattle.tx_actor.proofs.RoomLemmas.{one_more}

-- ---- places
no_load_of : (p : Place) → IsLoadOf p [] → ⊥
no_load_of (place.Look l) h = h
no_load_of (place.Fetch l k) h = h
no_load_of (place.Again l k v) h = h
no_load_of p h = h

reading : (rs ws : Entries) (p : Place) (d : ℕ × ℕ) (es : Entries) → IsLoadOf p (d ∷ es) → AtReading d.0 (words.place_of rs ws p)
reading rs ws (place.Look l) d es h = h
reading rs ws (place.Fetch l k) d es h = h
reading rs ws (place.Again l k v) d es h = h
reading rs ws p d es h = absurd h

pub is_load : (p : Place) (es : Entries) → IsLoadOf p es → IsLoad p
is_load p [] h = absurd (no_load_of p h)
is_load (place.Look l) (d ∷ es) h = tt
is_load (place.Fetch l k) (d ∷ es) h = tt
is_load (place.Again l k v) (d ∷ es) h = tt
is_load p (d ∷ es) h = absurd h

-- still in a load
still_reads : (rs ws : Entries) (p : Place) (d : ℕ × ℕ) (es : Entries) → AtReading d.0 (words.place_of rs ws p)
    → IsLoadOf p (d ∷ es) × (taken_at p ≡ 0)
still_reads rs ws (place.Look l) d es h = (h, refl)
still_reads rs ws (place.Fetch l k) d es h = (h, refl)
still_reads rs ws (place.Again l k v) d es h = (h, refl)
still_reads rs ws p d es h = absurd h

rests_at : (rs ws : Entries) (p : Place) → words.place_of rs ws p ≡ machine.Open → p ≡ place.Open
rests_at rs ws place.Open e = refl
rests_at rs ws p e = let z : ⊥ = cc in absurd z

-- ---- the room
room_still : (x y : Actor) (es : Entries) (m : ℕ) → KeepsRoom x y → taken_at y.place ≡ 0 → SameTx (words.actor_of x) (words.actor_of y)
    → HasRoomToLoad x es m → HasRoomToLoad y es m
room_still x y es m k none same h =
    let calls = h.calls in
    let count = k.count in
    let capacity = k.calls in
    let more = k.reads in
    record {
      calls = omega (arith, calls, count, capacity, none);
      reads = λ e. (let r = h.reads (sym same.declared ∙ e) in omega (arith, r, more, none));
      few = λ e. subst (λ (rs : Entries). length rs + length (new_in rs (locations es)) ≤ 4096) (sym same.reads)
          (h.few (sym same.declared ∙ e));
      none = λ e. same.reads ∙ h.none (sym same.declared ∙ e);
    }

-- the word actor has read the first location
record HasReadOne (x y : Actor) (d : ℕ × ℕ) (e : ℕ) : Type 0 where
  pub declared : y.declared ≡ x.declared
  pub reads : y.reads.entries ≡ with_read x.declared x.reads.entries d.0 e
  pub writes : y.writes.entries ≡ x.writes.entries
  pub rests : y.place ≡ place.Open

read_one : (x y : Actor) (d : ℕ × ℕ) (e : ℕ) → words.actor_of y ≡ machine.has_read (words.actor_of x) d.0 e → HasReadOne x y d e
read_one x y d e h = record {
  declared = ap (λ (q : machine.Actor). q.declared) h;
  reads = ap (λ (q : machine.Actor). q.reads) h;
  writes = ap (λ (q : machine.Actor). q.writes) h;
  rests = rests_at y.reads.entries y.writes.entries y.place (ap (λ (q : machine.Actor). q.place) h);
}

taken_one : (y : Actor) → y.place ≡ place.Open → taken_at y.place ≡ 1
taken_one y e = ap taken_at e

room_behind : (n : ℕ) (x y : Actor) (d : ℕ × ℕ) (es : Entries) (m e : ℕ) → Fits n x → KeepsRoom x y → HasReadOne x y d e
    → HasRoomToLoad x (d ∷ es) m → HasRoomToLoad y es m
room_behind n x y d es m e fits k is h =
    let calls : vec_len x.calls + (suc (length es) + m) ≤ vec_capacity x.calls = h.calls in
    let count = k.count in
    let capacity = k.calls in
    let more = k.reads in
    let one = taken_one y is.rests in
    record {
      calls = omega (arith, calls, count, capacity, one);
      reads = λ declared.
          (let r : suc (length es) ≤ x.reads.room = h.reads (sym is.declared ∙ declared) in omega (arith, r, more, one));
      few = λ declared. (
          let undeclared : x.declared ≡ false = sym is.declared ∙ declared in
          let entries : y.reads.entries ≡ with_entry x.reads.entries d.0 e =
          is.reads ∙ ap (λ b. with_read b x.reads.entries d.0 e) undeclared in
          let few : length x.reads.entries + length (new_in x.reads.entries (d.0 ∷ locations es)) ≤ 4096 =
          subst (λ (ls : List ℕ). length x.reads.entries + length (new_in x.reads.entries ls) ≤ 4096) (locations-cons d es)
          (h.few undeclared) in
          let longer = one_more x.reads.entries d.0 e (locations es) fits.reads_rise in
          subst (λ (rs : Entries). length rs + length (new_in rs (locations es)) ≤ 4096) (sym entries) (omega (arith, few, longer)));
      none = λ declared. (
          let reader : x.declared ≡ true = sym is.declared ∙ declared in
          is.reads ∙ (ap (λ b. with_read b x.reads.entries d.0 e) reader ∙ h.none reader));
    }

module _ {V : Type 0} where
  -- ---- the call
  accepts_still : (r : TxActor V) (y : Actor) (o : running.CallWithOutcome V) (es : Entries) → KeepsRoom r.words y → taken_at y.place ≡ 0
      → SameTx (words.actor_of r.words) (words.actor_of y) → HasRoomToLoad r.words es (length o.writes.items) → CanAccept (at_rest r) o
      → CanAccept (at_rest (record r { words = y })) o
  accepts_still r y o es k none same room h =
      let may = h.writes in
      let m = length o.writes.items in
      let calls = room.calls in
      let count = k.count in
      let capacity = k.calls in
      record {
        writes = (
          refl,
          λ lt. same.declared ∙ may.1 lt,
          subst (λ (i : ℕ). m ≤ i) (sym k.writes) may.2,
          omega (arith, calls, count, capacity, none),
          subst (λ (ws : Entries). length ws + length (new_in ws (locations o.writes.items)) ≤ 4096) (sym same.writes) may.4,
        );
        calls = h.calls;
        place = h.place;
        ready = h.ready;
        kept = h.kept;
        told = h.told;
        own = h.own;
      }

  accepts_behind : (r : TxActor V) (y : Actor) (o : running.CallWithOutcome V) (d : ℕ × ℕ) (es : Entries) (e : ℕ) → KeepsRoom r.words y
      → HasReadOne r.words y d e → HasRoomToLoad r.words (d ∷ es) (length o.writes.items) → CanAccept (at_rest r) o
      → CanAccept (record r { words = y }) o
  accepts_behind r y o d es e k is room h =
      let may = h.writes in
      let m = length o.writes.items in
      let calls : vec_len r.words.calls + (suc (length es) + m) ≤ vec_capacity r.words.calls = room.calls in
      let count = k.count in
      let capacity = k.calls in
      let one = taken_one y is.rests in
      record {
        writes = (
          is.rests,
          λ lt. is.declared ∙ may.1 lt,
          subst (λ (i : ℕ). m ≤ i) (sym k.writes) may.2,
          omega (arith, calls, count, capacity, one),
          subst (λ (ws : Entries). length ws + length (new_in ws (locations o.writes.items)) ≤ 4096) (sym is.writes) may.4,
        );
        calls = h.calls;
        place = h.place;
        ready = h.ready;
        kept = h.kept;
        told = h.told;
        own = h.own;
      }

  -- ---- what was answered
  rest_of : (v : BlocksView) (r : TxActor V) (y : Actor) (o : running.CallWithOutcome V) (d : ℕ × ℕ) (es left : Entries) → left ≡ d ∷ es
      → IsCallOf v r.copies.items o left → IsCallOf v r.copies.items o es
  rest_of v r y o d es left first h = record {
    reads = λ i e lt. subst (λ (ds : Entries). All (λ c. c.0 < end_of v.words v.blocks) ds) first h.reads (suc i) e
        (let z : suc i < suc (length es) = omega (arith, lt) in z);
    writes = h.writes;
    copy = h.copy;
    at = h.at;
    answer = h.answer;
    call_on = h.call_on;
  }

  module _ (v : BlocksView) (r : TxActor V) (y : Actor) (o : running.CallWithOutcome V) (left : VecDeque (ℕ × ℕ) Global) (d : ℕ × ℕ)
      (es : Entries)
      (first : left.items ≡ d ∷ es) (fits : Fits (end_of v.words v.blocks) r.words) (keeps : KeepsRoom r.words y)
      (can : CanLoad r o (d ∷ es)) (named : o.asked.collection < length v.blocks) (call : IsCallOf v r.copies.items o left.items) where
    abbrev u : TxActor V
    u = record r { words = y }

    quiet : AtReading d.0 (words.actor_of y).place → SameTx (words.actor_of r.words) (words.actor_of y) → CanLoad u o (d ∷ es)
    quiet at same =
        let still = still_reads y.reads.entries y.writes.entries y.place d es at in record {
          place = still.0;
          room = room_still r.words y (d ∷ es) (length o.writes.items) keeps still.1 same can.room;
          accept = accepts_still r y o (d ∷ es) keeps still.1 same can.room can.accept;
        }

    number : (e : ℕ) → HasReadOne r.words y d e → CanAccept u o × CanGoOn v u o es
    number e is = (
      accepts_behind r y o d es e keeps is can.room can.accept,
      record {
        named = named;
        call = rest_of v r y o d es left.items first call;
        room = room_behind (end_of v.words v.blocks) r.words y d es (length o.writes.items) e fits keeps is can.room;
      },
    )

    told : (n : notice.Notice) → AfterRead d.0 (words.actor_of r.words) (words.actor_of y) n
        → IsLoadable u (stage.Loading o left) n × HeardAt v u (stage.Loading o left) n
    told notice.Quiet h = (tt, (subst (λ (ds : Entries). CanLoad u o ds) (sym first) (quiet h.0 h.1), named, call))
    told (notice.Number e) h =
        let x = number e (read_one r.words y d e h) in (x.0, subst (λ (ds : Entries). CanGoOnBehind v u o ds) (sym first) x.1)
    told (notice.Moved l found) h = (tt, subst IsSome (sym first) tt)
    told n h = absurd h

  -- ---- the step
  after_is : (r : TxActor V) (y : Actor) (w : World V) (a : ℕ) (d : ℕ × ℕ) (es : Entries) → IsLoadOf r.words.place (d ∷ es)
      → actor_of w a ≡ words.actor_of r.words → actor_of (acted w (moves a ∷ [])) a ≡ words.actor_of y
      → AfterRead d.0 (words.actor_of r.words) (words.actor_of y) (word_notice w a)
  after_is r y w a d es at is after =
      let x = actor_of w a in
      let here : AtReading d.0 x.place =
      subst (λ (q : machine.Actor). AtReading d.0 q.place) (sym is)
      (reading r.words.reads.entries r.words.writes.entries r.words.place d es at) in
      let now : learns w.boosted.words x (plan x x.place) ≡ words.actor_of y = sym (moved_is w.boosted a x x.place refl) ∙ after in
      subst (λ (q : machine.Actor). AfterRead d.0 q (words.actor_of y) (word_notice w a)) is
      (subst (λ (q : machine.Actor). AfterRead d.0 x q (word_notice w a)) now (read_after w.boosted.words x d.0 x.place here))

  pub loads_keep : LoadsKeep V
  loads_keep v r y w a loading running room fits is after =
      let s = at r.stage loading running.room running.names running.call in
      (s.0, record { fits = fits (end_of v.words v.blocks) running.fits; heard = s.1 })
    where
      u : TxActor V
      u = record r { words = y }

      n : notice.Notice
      n = word_notice w a

      at : (s : Stage V) → is_loading (stage_of s) ≡ true → HasRoom r s → NamesAmong (length v.blocks) s → IsCallAt v r.copies.items s
          → IsLoadable u s n × HeardAt v u s n
      at (stage.Loading o left) e can named call = by left.items refl can
        where
          by : (ds : Entries) → left.items ≡ ds → CanLoad r o ds
              → IsLoadable u (stage.Loading o left) n × HeardAt v u (stage.Loading o left) n
          by [] first can = absurd (no_load_of r.words.place can.place)
          by (d ∷ es) first can =
              told v r y o left d es first running.fits (room (is_load r.words.place (d ∷ es) can.place)) can named call n
              (after_is r y w a d es can.place is after)
      at s e can named call = absurd (true≢false (sym e))
