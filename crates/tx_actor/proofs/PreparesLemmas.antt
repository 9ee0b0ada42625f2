-- A call that is made ready. What is made ready in a copy changes nothing that it shows (`IsKept`), so the actor is alike (`IsAlike`) in
-- every world that shows it, and what it has is its own where it was. Its outcome is what its copy answers, a declared reader's call
-- writes nothing, and what fits the sets may be written.
use Rattle.std.proofs.Common.{◌≡◌, ◌<◌, ◌≤◌, ◌+◌, ◌&&◌, ◌||◌, ℕ, zero, suc, Bool, true, false, true≢false, not, length, List, [], ◌∷◌}
use Rattle.std.proofs.Common.{Option, Some, None, refl, sym, ap, subst, ◌∙◌, arith}
use Rattle.std.specs.Prelude.{slice_get}
use Rattle.std.specs.Vec.{vec_capacity, vec_len}
use Rattle.std.proofs.Math.ListN.{set}
use Rattle.std.proofs.lemmas.Option.{same_Some}
use Rattle.tx_sets.specs.Entries.{Entries, locations}
use Rattle.tx_machine.specs.Actor as machine
use Rattle.seq_model.specs.declared.call.Op.{Op}
use Rattle.conflict.specs.declared.outcome.Outcome.{Outcome}
use Rattle.replay_log.specs.Contents.{CallWithOutcome as Outcomes, shifted}
use Rattle.replay_log.specs.Pieces.{Piece}
use Rattle.replay_log.specs.Worlds as worlds
use Rattle.replay_log.specs.Worlds.{World, is_change, new_in, reply_of}
use Rattle.replay_log.proofs.CountLemmas.{locations-cons}
use Rattle.tx_actor.specs.declared.actor.CallWithOutcome as running
use Rattle.actor_parts.specs.declared.copies.CopyOfCollection.{CopyOfCollection}
use Rattle.tx_actor.specs.declared.actor.TxActor.{TxActor}
use Rattle.actor_parts.specs.declared.copies.PrivateCopy.{PrivateCopy}
use Rattle.tx_actor.specs.Answers.{CanAccept, IsPrepared}
use Rattle.actor_parts.specs.PrivateCopy.{IsKept, IsReady, answer_of, holds_call}
use Rattle.actor_parts.specs.Footprints.{known_edition, reads_in, with_known, writes_in}
use Rattle.tx_actor.specs.CopiesByStage.{ReadsStill}
use Rattle.tx_actor.specs.Owns.{OwnsCopies}
use Rattle.tx_actor.specs.declared.prepares.Prepared.{Prepared}
use Rattle.tx_actor.specs.Prepares.{HasRoomFor, IsAlike, IsReadyCall, MayPrepare, fits}
use Rattle.tx_actor.specs.Running.{answered_of, asked_of, seat_of, stage_of}
use Rattle.actor_parts.specs.CopyList.{copy_of, has_piece}
use Rattle.actor_parts.specs.Writes.{MayWrite, with_next}
use Rattle.actor_parts.proofs.BlocksLemmas.{up_to}
use Rattle.actor_parts.proofs.AlikeLemmas.{KeptOf, all_kept, kept_answers, kept_at, kept_copy, kept_has, kept_holds, kept_length}
use Rattle.actor_parts.proofs.AlikeLemmas.{kept_once, kept_own, kept_reads, read_of_kept}
use Rattle.actor_parts.proofs.OutcomeLemmas.{answered_op, writes_nothing}
use Rattle.actor_parts.proofs.TakeBackLemmas.{at_place}

next_locations : {V : Type 0} → (c : PrivateCopy V) (f : ℕ) (ls : List ℕ) → locations (with_next c f ls) ≡ shifted f ls
unfolding locations
next_locations c f [] = refl
next_locations c f (l ∷ ls) = locations-cons (f + l, known_edition c l + 1) (with_next c f ls)
    ∙ ap (λ is. (f + l) ∷ is) (next_locations c f ls)

pub known_length : {V : Type 0} → (c : PrivateCopy V) (f : ℕ) (ls : List ℕ) → length (with_known c f ls) ≡ length ls
known_length c f [] = refl
known_length c f (l ∷ ls) = ap suc (known_length c f ls)

nothing_new : (es : Entries) → new_in es (locations []) ≡ []
unfolding locations
nothing_new es = refl

-- the three parts of what fits
declared_or : (d p q : Bool) → (d || (p && q)) ≡ true → d ≡ false → q ≡ true
declared_or true p q h e = absurd (true≢false e)
declared_or false true q h e = h
declared_or false false q h e = absurd (true≢false (sym h))

no_change : (d c : Bool) → not (d && c) ≡ true → d ≡ true → c ≡ false
no_change true true h e = absurd (true≢false (sym h))
no_change true false h e = refl
no_change false c h e = absurd (true≢false (sym e))

undeclared : (d : Bool) (ds : Entries) → (d ≡ true → ds ≡ []) → 0 < length ds → d ≡ false
undeclared false ds none lt = refl
undeclared true ds none lt =
    let len : length ds ≡ 0 = ap (λ (es : Entries). length es) (none refl) in
    absurd (omega (arith, len, lt))

module _ {V : Type 0} where
  -- what is put there is there
  pub ready_at : (cs : List (CopyOfCollection V)) (i : ℕ) (c e d : CopyOfCollection V) (o : Outcome V) → slice_get cs i ≡ Some c → IsReady o e.copied
      → slice_get (set cs i e) i ≡ Some d → IsReady o d.copied
  ready_at [] i c e d o at is there = let h : ⊥ = cc in absurd h
  ready_at (x ∷ cs) zero c e d o at is there = subst (λ (z : CopyOfCollection V). IsReady o z.copied) (same_Some e d there) is
  ready_at (x ∷ cs) (suc i) c e d o at is there = ready_at cs i c e d o at is there

  pub alike_itself : (r : TxActor V) → IsAlike r r
  alike_itself r = record {
    words = refl;
    place = refl;
    stage = refl;
    rv = refl;
    wv = refl;
    cause = refl;
    calls = refl;
    copies = all_kept r.copies.items;
  }

  -- ---- an actor that is alike
  pub alike_owns : (r u : TxActor V) (w : World V) (a : ℕ) → IsAlike r u → OwnsCopies r w a → OwnsCopies u w a
  alike_owns r u w a h is = record {
    stripes = is.stripes;
    own = λ k. kept_own w a k (copy_of r.copies.items k) (copy_of u.copies.items k) (kept_copy r.copies.items u.copies.items k h.copies)
        (is.own k);
    once = kept_once r.copies.items u.copies.items h.copies is.once;
  }

  pub alike_seat : (r u : TxActor V) → IsAlike r u → seat_of u ≡ seat_of r
  alike_seat r u h =
      let pieces : (k : ℕ) (q : Piece) → has_piece (copy_of u.copies.items k) q ≡ has_piece (copy_of r.copies.items k) q = λ k q.
      kept_has (copy_of r.copies.items k) (copy_of u.copies.items k) q (kept_copy r.copies.items u.copies.items k h.copies) in
      λ i. record {
        stage = stage_of (h.stage i);
        rv = h.rv i;
        wv = h.wv i;
        cause = h.cause i;
        calls = h.calls i;
        copied = λ k q. pieces k q i;
      }

  -- ---- what is ready
  may_write : (r u : TxActor V) (i f : ℕ) (op : Op V) (c : PrivateCopy V) (o : Outcome V) (ds : Entries) (n : ℕ) → IsAlike r u
      → MayPrepare r i f op → HasRoomFor u i o n (length ds) → answer_of c op ≡ Some o → fits r f c o ≡ true
      → ds ≡ with_next c f (writes_in c o) → MayWrite u.words ds
  may_write r u i f op c o ds n alike may room answer fit is =
      let declared : u.words.declared ≡ r.words.declared = ap (λ (y : machine.Actor). y.declared) alike.words in
      let entries : u.words.writes.entries ≡ r.words.writes.entries = ap (λ (y : machine.Actor). y.writes) alike.words in
      let word_calls : vec_len u.words.calls + (n + length ds) ≤ vec_capacity u.words.calls = room.word_calls in
      let none : r.words.declared ≡ true → ds ≡ [] = λ d.
      is ∙ ap (with_next c f) (writes_nothing _ o _
      (ap is_change (answered_op c op o answer) ∙ no_change r.words.declared (is_change op) may.may d)) in
      let small : (b : Bool) → r.words.declared ≡ b → length u.words.writes.entries + length (new_in u.words.writes.entries (locations ds))
      ≤ 4096 =
      λ b. elim b as (λ q. r.words.declared ≡ q →
      length u.words.writes.entries + length (new_in u.words.writes.entries (locations ds)) ≤ 4096) [
        | true ↦ λ d. subst (λ (es : Entries). length u.words.writes.entries + length (new_in u.words.writes.entries (locations es)) ≤ 4096)
            (sym (none d))
            (let len : length (new_in u.words.writes.entries (locations [])) ≡ 0 =
            ap (λ (ls : List ℕ). length ls) (nothing_new u.words.writes.entries) in
            omega (arith, room.few, len))
        | false ↦ λ d. (
            let both : worlds.fits r.words.writes.entries (shifted f (writes_in c o)) ≡ true =
            declared_or r.words.declared _ (worlds.fits r.words.writes.entries (shifted f (writes_in c o))) fit d in
            let within = up_to _ 4096 both in
            subst (λ (es : Entries). length es + length (new_in es (locations ds)) ≤ 4096) (sym entries)
            (subst (λ (ls : List ℕ). length r.words.writes.entries + length (new_in r.words.writes.entries ls) ≤ 4096)
            (sym (ap locations is ∙ next_locations c f (writes_in c o))) within))
      ] in (
        alike.place ∙ may.rests,
        (λ (lt : 0 < length ds). declared ∙ undeclared r.words.declared ds none lt),
        room.writes,
        omega (arith, word_calls),
        small r.words.declared refl,
      )

  accept_by : (r u : TxActor V) (i f : ℕ) (op : Op V) (c : CopyOfCollection V) (o : Outcome V) (call : running.CallWithOutcome V) (n : ℕ) → IsAlike r u
      → MayPrepare r i f op → HasRoomFor u i o n (length call.writes.items) → slice_get r.copies.items i ≡ Some c
      → answer_of c.copied op ≡ Some o → fits r f c.copied o ≡ true → call.writes.items ≡ with_next c.copied f (writes_in c.copied o)
      → call.outcome ≡ Some o → call.place ≡ i → call.asked.collection ≡ c.collection → call.asked.op ≡ op
      → call.told ≡ o.reply → CanAccept u call
  accept_by r u i f op c o call n alike may room at answer fit writes is place collection same told =
      let reply : o.reply ≡ reply_of (answered_of call) =
      sym (ap (λ q. reply_of (let p : Outcomes V = record { asked = asked_of call.asked; outcome = q } in p)) is) in
      let here : (d : CopyOfCollection V) → slice_get u.copies.items call.place ≡ Some d
      → (d.collection ≡ c.collection) × IsKept c.copied d.copied = λ d there. (
      let before = kept_at r.copies.items u.copies.items i d alike.copies (ap (slice_get u.copies.items) (sym place) ∙ there) in
      let e : before.0 ≡ c = same_Some before.0 c (sym before.1 ∙ at) in
      (before.2 ∙ ap (λ (z : CopyOfCollection V). z.collection) e, subst (λ (z : CopyOfCollection V). IsKept z.copied d.copied) e before.3)) in
      let held = may.held c at in
      record {
        writes = may_write r u i f op c.copied o call.writes.items n alike may room answer fit writes;
        calls = room.calls;
        place = subst (λ (j : ℕ). j < length u.copies.items) (sym place)
            (subst (λ (m : ℕ). i < m) (sym (kept_length r.copies.items u.copies.items alike.copies)) may.there);
        ready = λ d x there out. (
            let e : o ≡ x = same_Some o x (sym is ∙ out) in
            let kept_d = here d there in (
              subst (λ q. IsReady q d.copied) e (room.ready d (ap (slice_get u.copies.items) (sym place) ∙ there)),
              kept_holds c.copied d.copied x.op kept_d.1
                  ∙ (ap (holds_call c.copied) (ap (λ (q : Outcome V). q.op) (sym e) ∙ answered_op c.copied op o answer) ∙ held),
            ));
        kept = λ x out. ap (λ (q : Outcome V). q.reply) (same_Some x o (sym out ∙ is)) ∙ reply;
        told = told ∙ reply;
        own = λ d there. (
            let kept_d = here d there in (
              o,
              is,
              kept_d.0 ∙ sym collection,
              ap (answer_of d.copied) same ∙ (kept_answers c.copied d.copied op kept_d.1 ∙ answer),
            ));
      }

  pub prepared_by : (r u : TxActor V) (i f : ℕ) (op : Op V) (c : CopyOfCollection V) (o : Outcome V) (call : running.CallWithOutcome V) (n : ℕ) → IsAlike r u
      → MayPrepare r i f op → HasRoomFor u i o n (length call.writes.items) → slice_get r.copies.items i ≡ Some c
      → answer_of c.copied op ≡ Some o → fits r f c.copied o ≡ true → call.writes.items ≡ with_next c.copied f (writes_in c.copied o)
      → call.outcome ≡ Some o → call.place ≡ i → call.asked.collection ≡ c.collection → call.asked.op ≡ op
      → call.told ≡ o.reply → n ≡ length (reads_in c.copied o) → IsPrepared u call
  prepared_by r u i f op c o call n alike may room at answer fit writes is place collection same told count =
      let many : (d : CopyOfCollection V) (x : Outcome V) → slice_get u.copies.items call.place ≡ Some d → call.outcome ≡ Some x
      → length (reads_in d.copied x) ≡ n = λ d x there out. (
      let before = kept_at r.copies.items u.copies.items i d alike.copies (ap (slice_get u.copies.items) (sym place) ∙ there) in
      let e : before.0 ≡ c = same_Some before.0 c (sym before.1 ∙ at) in
      let made : x ≡ o = same_Some x o (sym out ∙ is) in
      ap (λ (q : Outcome V). length (reads_in d.copied q)) made
      ∙ (ap (λ (ls : List ℕ). length ls) (kept_reads before.0.copied d.copied o before.3)
      ∙ (ap (λ (z : CopyOfCollection V). length (reads_in z.copied o)) e ∙ sym count))) in
      let calls = room.word_calls in
      record {
        accept = accept_by r u i f op c o call n alike may room at answer fit writes is place collection same told;
        calls = λ d x there out. (let e = many d x there out in omega (arith, calls, e));
        reads = λ d x there out declared. (
            let e = many d x there out in
            let le = room.reads declared in
            omega (arith, e, le));
      }

  pub still_alike : (r u : TxActor V) → IsAlike r u → ReadsStill r.copies.items u.copies.items
  still_alike r u h w a k is =
      read_of_kept w a k (copy_of r.copies.items k) (copy_of u.copies.items k)
      (kept_copy r.copies.items u.copies.items k h.copies) is

  -- what there is of a collection is kept
  some_kept : (c : PrivateCopy V) (p : Option (PrivateCopy V)) → KeptOf (Some c) p → (d : PrivateCopy V) × (p ≡ Some d) × IsKept c d
  some_kept c None h = absurd h
  some_kept c (Some d) h = (d, refl, h)

  pub there_kept : (r u : TxActor V) (k : ℕ) (c : PrivateCopy V) → IsAlike r u → copy_of r.copies.items k ≡ Some c
      → (d : PrivateCopy V) × (copy_of u.copies.items k ≡ Some d) × IsKept c d
  there_kept r u k c h at =
      some_kept c (copy_of u.copies.items k)
      (subst (λ (o : Option (PrivateCopy V)). KeptOf o (copy_of u.copies.items k)) at (kept_copy r.copies.items u.copies.items k h.copies))

  -- the room for the reads of a call that is made ready
  pub reads_there : (r u : TxActor V) (i f : ℕ) (op : Op V) (c : CopyOfCollection V) (p : Prepared V) → slice_get r.copies.items i ≡ Some c
      → IsAlike r u
      → IsReadyCall r u i f op c p
      → (vec_len u.words.calls + (length p.left.items + length p.call.writes.items) ≤ vec_capacity u.words.calls)
      × (u.words.declared ≡ false → length p.left.items ≤ u.words.reads.room)
  reads_there r u i f op c p at alike ready =
      let o = ready.outcome in
      let d = at_place u.copies.items p.call.place ready.prepared.accept.place in
      let before = kept_at r.copies.items u.copies.items i d.0 alike.copies (ap (slice_get u.copies.items) (sym ready.at) ∙ d.1) in
      let e : before.0 ≡ c = same_Some before.0 c (sym before.1 ∙ at) in
      let same : length p.left.items ≡ length (reads_in d.0.copied o) =
      ap (λ (es : Entries). length es) ready.left
      ∙ (known_length c.copied f (reads_in c.copied o)
      ∙ (ap (λ (z : CopyOfCollection V). length (reads_in z.copied o)) (sym e)
      ∙ ap (λ (ls : List ℕ). length ls) (sym (kept_reads before.0.copied d.0.copied o before.3)))) in
      let calls = ready.prepared.calls d.0 o d.1 ready.is in (
        omega (arith, calls, same),
        λ plain. (let reads = ready.prepared.reads d.0 o d.1 ready.is plain in omega (arith, reads, same)),
      )
