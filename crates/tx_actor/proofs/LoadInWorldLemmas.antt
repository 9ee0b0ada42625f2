-- A load of a call's location is heard: the world's outcome is what the actor's own copy answers, since both are what the shadow answers;
-- its writes are those of that outcome, as each edition that is known is the shadow's (`writes_all`). Where a location was read with
-- another edition the call is never accepted, since each was read with the copied one by then (`never`).
use Rattle.std.proofs.Common.{◌≡◌, ℕ, true, ◌+◌, ◌<◌, List, [], ◌∷◌, Option, Some, inl, inr, refl, sym, ap, subst, ◌∙◌, arith}
use Rattle.std.specs.Prelude.{Contains}
use Rattle.std.proofs.lemmas.Option.{same_Some}
use Rattle.tx_sets.specs.Entries.{Entries, lookup}
use Rattle.tx_machine.specs.Actor.{Actor, Call}
use Rattle.tx_machine.specs.Notices as notice
use Rattle.tx_machine.specs.Opacity.{first_read}
use Rattle.tx_machine.specs.Requests as word
use Rattle.tx_machine.specs.Requests.{ask}
use Rattle.conflict.specs.declared.outcome.Outcome.{Outcome}
use Rattle.tx_machine.specs.Boosted.{Accept, Shadow}
use Rattle.tx_machine.specs.Content.{IsIn}
use Rattle.replay_log.specs.Base.{Shown}
use Rattle.replay_log.specs.Contents as contents
use Rattle.replay_log.specs.Contents.{Block, HaveStripes, block_of, content, first_of, shifted, size}
use Rattle.replay_log.specs.Guards.{Allows}
use Rattle.replay_log.specs.Worlds.{World, Seat, Loading, acted, actor_of, moves, opened, outcome_at, run, word_notice}
use Rattle.replay_log.proofs.ContentLemmas.{content_frame, in_shifted, positive_at, shifted_in}
use Rattle.step_core.specs.Shown as words
use Rattle.tx_actor.specs.declared.actor.CallWithOutcome.{CallWithOutcome}
use Rattle.tx_actor.specs.declared.actor.Stage as running
use Rattle.tx_actor.specs.declared.actor.Stage.TheVariants as stage
use Rattle.tx_actor.specs.declared.actor.TxActor.{TxActor}
use Rattle.actor_parts.specs.declared.copies.PrivateCopy.{PrivateCopy}
use Rattle.actor_parts.specs.declared.judged.Judged.TheVariants.{All}
use Rattle.actor_parts.specs.Accepts.{written}
use Rattle.tx_actor.specs.Answers.{MayAccept, MayAnswer}
use Rattle.actor_parts.specs.PrivateCopy.{HasEditions, IsCopied, answered_on, holds_call}
use Rattle.actor_parts.specs.Footprints.{known_edition, reads_in, writes_in}
use Rattle.actor_parts.specs.Judged.{judged, left_after}
use Rattle.actor_parts.specs.CopyInWorld.{IsOwnCopy, Knows}
use Rattle.actor_parts.specs.LoadInWorld.{AreRead, IsDoomed, LoadsIn}
use Rattle.tx_actor.specs.LoadInWorld.{IsCallOn, KeepsAt, KeepsCall, KeepsOne, MayHear, OwnsCall, OwnsCallAt}
use Rattle.tx_actor.specs.LoadStep.{MayJudge, MayLoad}
use Rattle.tx_actor.specs.Running.{answered_of, asked_of, outcome_in, stage_in, with_outcome}
use Rattle.actor_parts.specs.Writes.{with_next, written_as}
use Rattle.actor_parts.proofs.FootprintLemmas.{writes_within}
use Rattle.actor_parts.proofs.CopyInWorldLemmas.{head_in, held_outcome, held_read, held_written, known_at, same_writes, tail_in}
use Rattle.tx_actor.proofs.RunsLemmas.{seat_stage}
use Rattle.actor_parts.proofs.OutcomeLemmas.{answered_op}
use Rattle.actor_parts.proofs.LoadInWorldLemmas.{doomed_more, loads_reached, rests_in}

pub never : (cs ds : List Call) (es : Entries) → ((l e : ℕ) → first_read cs l ≡ Some e → first_read ds l ≡ Some e) → IsDoomed cs es
    → AreRead ds es → ⊥
never cs ds [] more doomed read = doomed
never cs ds (d ∷ es) more doomed read =
    elim doomed [
      | inl q ↦ q.2 (same_Some q.0 d.1 (sym (more d.0 q.0 q.1) ∙ read.0))
      | inr rest ↦ never cs ds es more rest read.1
    ]

module _ {V : Type 0} where
  -- the writes of the copied editions
  pub writes_all : (b : Block) (f : ℕ) (x : Shadow (Shown V) (contents.CallWithOutcome V)) (c : PrivateCopy V) (ls : List ℕ) (y : Actor)
      → HasEditions b f x c → ((i : ℕ) → Contains ls i → i < size b) → Knows c ls
      → written y x.editions (shifted f ls) ≡ written_as y (with_next c f ls)
  writes_all b f x c [] y has below knows = refl
  writes_all b f x c (l ∷ ls) y has below knows =
      let same : x.editions (f + l) ≡ known_edition c l = known_at b f x c l has (below l (head_in l ls)) (knows l (head_in l ls)) in
      ap (λ (v : ℕ). written (ask y y.place (word.AskWrite (f + l) (v + 1))) x.editions (shifted f ls)) same
      ∙ writes_all b f x c ls (ask y y.place (word.AskWrite (f + l) (known_edition c l + 1))) has
      (λ i q. below i (tail_in l i ls q)) (λ i q. knows i (tail_in l i ls q))

  -- what is written is read
  written_read : (n : ℕ) (bs : List Block) (p : contents.CallWithOutcome V) (f i : ℕ) (rs ws : List ℕ) → HaveStripes bs
      → (content n bs).reads p ≡ shifted f rs → (content n bs).writes p ≡ shifted f ws → Contains ws i → Contains rs i
  written_read n bs p f i rs ws stripes er ew h =
      let there : IsIn (f + i) ((content n bs).writes p) = subst (λ (ls : List ℕ). IsIn (f + i) ls) (sym ew) (shifted_in f i ws h) in
      let z = in_shifted f (f + i) rs
      (subst (λ (ls : List ℕ). IsIn (f + i) ls) er ((content_frame n bs stripes).read p (f + i) there)) in
      let e : f + i ≡ f + z.0 = z.1 in
      let same : z.0 ≡ i = omega (arith, e) in
      subst (λ (j : ℕ). Contains rs j) same z.2

  -- the call may be accepted on the actor's own copy
  module _ (w : World V) (a : ℕ) (b : Block) (c : PrivateCopy V) (call : CallWithOutcome V) (o : Outcome V) where
    abbrev k : ℕ
    k = call.asked.collection

    abbrev f : ℕ
    f = first_of w.words w.blocks k

    abbrev p : contents.CallWithOutcome V
    p = answered_on k call.asked.op o

    outcome_own : IsOwnCopy w a k b f c → IsCallOn f c call o → outcome_at w a (asked_of call.asked) ≡ answered_of call
    outcome_own own on =
        held_outcome w a k b c call.asked.op o own on.holds on.answer
        ∙ (λ i. record { asked = asked_of call.asked; outcome = sym on.outcome i })

    writes_own : IsOwnCopy w a k b f c → IsCallOn f c call o
        → written (actor_of w a) (w.boosted.shadows a).editions ((content w.words w.blocks).writes (answered_of call))
        ≡ written_as (actor_of w a) call.writes.items
    writes_own own on =
        let n = w.words in
        let bs = w.blocks in
        let pos = positive_at bs k b own.stripes own.block in
        let rs : (content n bs).reads p ≡ shifted f (reads_in c o) = held_read w a k b c call.asked.op o own on.holds on.answer in
        let ws : (content n bs).writes p ≡ shifted f (writes_in c o) = held_written w a k b c call.asked.op o own on.holds on.answer in
        let within : (i : ℕ) → Contains (writes_in c o) i → i < size b =
        subst (λ (ls : List ℕ). (i : ℕ) → Contains ls i → i < size b) (same_writes b _ _ _ c o own.copied.0.2) (writes_within b o pos) in
        let held : holds_call c o.op ≡ true = ap (holds_call c) (answered_op c call.asked.op o on.answer) ∙ on.holds in
        let knows : Knows c (writes_in c o) =
        λ i h. own.knows o held i (written_read n bs p f i (reads_in c o) (writes_in c o) own.stripes rs ws h) in
        let same : answered_of call ≡ p = λ i. record { asked = asked_of call.asked; outcome = on.outcome i } in
        let y = actor_of w a in
        let editions = (w.boosted.shadows a).editions in
        ap (λ (q : contents.CallWithOutcome V). written y editions ((content n bs).writes q)) same
        ∙ (ap (written y editions) ws
        ∙ (writes_all b f (w.boosted.shadows a) c (writes_in c o) y own.copied.1 within knows
        ∙ ap (written_as y) (sym on.writes)))

  -- it is so after the step of the words, which leaves the shadow
  own_after : (w : World V) (a k : ℕ) (b : Block) (f : ℕ) (c : PrivateCopy V) → let u = acted w (moves a ∷ []) in
      u.boosted.shadows a ≡ w.boosted.shadows a → IsOwnCopy w a k b f c → IsOwnCopy u a k b f c
  own_after w a k b f c e own = record {
    stripes = own.stripes;
    block = own.block;
    first = own.first;
    copied = subst (λ (q : Shadow (Shown V) (contents.CallWithOutcome V)). IsCopied b f k q c) (sym e) own.copied;
    knows = own.knows;
    pieces = own.pieces;
  }

  own_first : (w : World V) (a k : ℕ) (b : Block) (f : ℕ) (c : PrivateCopy V) → IsOwnCopy w a k b f c
      → IsOwnCopy w a k b (first_of w.words w.blocks k) c
  own_first w a k b f c own = subst (λ (g : ℕ). IsOwnCopy w a k b g c) (sym own.first) own

  call_first : (f g : ℕ) (c : PrivateCopy V) (call : CallWithOutcome V) (o : Outcome V) → g ≡ f → IsCallOn f c call o → IsCallOn g c call o
  call_first f g c call o e on = subst (λ (h : ℕ). IsCallOn h c call o) (sym e) on

  -- a call that may be accepted by the guard, and whose outcome is the world's, has its actor's outcome
  pub may_accept : (w : World V) (a : ℕ) (b : Block) (f : ℕ) (c : PrivateCopy V) (call : CallWithOutcome V) (o : Outcome V)
      → IsOwnCopy w a call.asked.collection b f c → IsCallOn f c call o
      → Allows (content w.words w.blocks) w.boosted (Accept a (asked_of call.asked)) → MayAccept w a call
  may_accept w a b f c call o own on guard =
      let here = own_first w a call.asked.collection b f c own in
      let on_here = call_first f (first_of w.words w.blocks call.asked.collection) c call o own.first on in record {
        guard = guard;
        outcome = outcome_own w a b c call o here on_here;
        writes = writes_own w a b c call o here on_here;
      }

  -- ---- the load is heard
  module _ (w : World V) (a : ℕ) (r : TxActor V) (call : CallWithOutcome V) (x : Option (Outcome V)) (d : ℕ × ℕ) (es : Entries)
      (l : LoadsIn w a (with_outcome call x) d es) (owns : OwnsCall w a call (d ∷ es)) where
    abbrev u : World V
    u = acted w (moves a ∷ [])

    accepted : (y : Actor) → actor_of u a ≡ y → judged y.reads es ≡ All → MayAccept u a call × (x ≡ call.outcome)
    accepted y is all =
        let g = l.accepts (ap (λ (q : Actor). judged q.reads es) is ∙ all) in
        elim owns.own [
          | inl own ↦ (
              let may = may_accept u a owns.block owns.first owns.copy call owns.answer
              (own_after w a call.asked.collection owns.block owns.first owns.copy l.shadow own) owns.call_on g.0 in
              (may, sym (ap (λ (q : contents.CallWithOutcome V). q.outcome) g.1) ∙ ap (λ (q : contents.CallWithOutcome V). q.outcome) may.outcome))
          | inr doomed ↦ absurd (never (actor_of w a).calls (actor_of u a).calls (d ∷ es) l.more doomed g.2)
        ]

    pub may_answer : actor_of u a ≡ words.actor_of r.words → MayAnswer u a r.words x call es
    may_answer is = record {
      accepts = accepted (words.actor_of r.words) is;
      reads = λ i next.
          let g = l.reads i (ap (λ (q : Actor). judged q.reads es) is ∙ next) in (
            sym (ap (λ (q : Actor). q.place) is) ∙ g.0,
            sym (ap (λ (q : Actor). lookup q.writes i) is) ∙ g.1,
            sym (ap (λ (q : Actor). lookup q.reads i) is) ∙ g.2,
          );
    }

  pub may_hear : MayHear V
  may_hear blocks clock values held events a r stripes runs owns = at r.stage refl owns
    where
      w : World V
      w = run (opened blocks clock values held) events

      u : World V
      u = acted w (moves a ∷ [])

      judge : (call : CallWithOutcome V) (left es : Entries) (n : notice.Notice) → OwnsCall w a call left → left ≡ es → word_notice w a ≡ n
          → (w.seats a).stage ≡ Loading (with_outcome call (outcome_in (w.seats a).stage)) left
          → MayJudge a u r (outcome_in (w.seats a).stage) call es n
      judge call left (d ∷ es) (notice.Number v) own e n st = λ same.
          let x = outcome_in (w.seats a).stage in
          let here : (w.seats a).stage ≡ Loading (with_outcome call x) (d ∷ es) = st ∙ ap (Loading (with_outcome call x)) e in
          let l = loads_reached blocks clock values held events a (with_outcome call x) d es stripes here
          (n ∙ ap notice.Number (sym same)) in
          may_answer w a r call x d es l (subst (OwnsCall w a call) e own) runs.1
      judge call left es n own e is st = tt

      at : (s : running.Stage V) → r.stage ≡ s → OwnsCallAt w a s → MayLoad a u r s (word_notice w a)
      at (stage.Loading call left) is own =
          judge call left.items left.items (word_notice w a) own refl refl
          (ap (λ (q : Seat V). q.stage) runs.0 ∙ (seat_stage (u.seats a) r ∙ ap (stage_in (w.seats a).stage) is))
      at s is own = tt

  -- ---- what is kept
  unfoldable pub owns_stands : (w u : World V) (a : ℕ) (call : CallWithOutcome V) (left fs : Entries) → u.words ≡ w.words → u.blocks ≡ w.blocks
      → u.boosted.shadows a ≡ w.boosted.shadows a
      → (IsDoomed (actor_of w a).calls left → IsDoomed (actor_of u a).calls fs) → OwnsCall w a call left → OwnsCall u a call fs
  owns_stands w u a call left fs words blocks shadow doomed own = record {
    block = own.block;
    first = own.first;
    copy = own.copy;
    answer = own.answer;
    call_on = own.call_on;
    own = elim own.own [
      | inl is ↦ inl (record {
        stripes = subst HaveStripes (sym blocks) is.stripes;
        block = ap (λ bs. block_of bs call.asked.collection) blocks ∙ is.block;
        first = (λ i. first_of (words i) (blocks i) call.asked.collection) ∙ is.first;
        copied = subst (λ (q : Shadow (Shown V) (contents.CallWithOutcome V)). IsCopied own.block own.first call.asked.collection q own.copy)
            (sym shadow) is.copied;
        knows = is.knows;
        pieces = is.pieces;
      })
      | inr h ↦ inr (doomed h)
    ];
  }

  pub keeps_call : KeepsCall V
  keeps_call blocks clock values held events a r stripes runs owns = at r.stage refl owns
    where
      w : World V
      w = run (opened blocks clock values held) events

      u : World V
      u = acted w (moves a ∷ [])

      after : (call : CallWithOutcome V) (d : ℕ × ℕ) (es : Entries) → OwnsCall w a call (d ∷ es)
          → LoadsIn w a (with_outcome call (outcome_in (w.seats a).stage)) d es → (v : World V) → v.words ≡ u.words → v.blocks ≡ u.blocks
          → v.boosted.shadows a ≡ u.boosted.shadows a → (actor_of v a).calls ≡ (actor_of u a).calls
          → OwnsCall v a call (left_after (actor_of u a).reads es)
      after call d es own l v words blocks_same shadow calls =
          owns_stands w v a call (d ∷ es) (left_after (actor_of u a).reads es) words blocks_same (shadow ∙ l.shadow)
          (λ h. subst (λ (cs : List Call). IsDoomed cs (left_after (actor_of u a).reads es)) (sym calls)
          (l.keeps (doomed_more (actor_of w a).calls (actor_of u a).calls (d ∷ es) l.more h))) own

      keep : (call : CallWithOutcome V) (left es : Entries) (n : notice.Notice) → OwnsCall w a call left → left ≡ es → word_notice w a ≡ n
          → (w.seats a).stage ≡ Loading (with_outcome call (outcome_in (w.seats a).stage)) left → KeepsOne u a call es n
      keep call left (d ∷ es) (notice.Number v) own e n st = λ same.
          let x = outcome_in (w.seats a).stage in
          let here : (w.seats a).stage ≡ Loading (with_outcome call x) (d ∷ es) = st ∙ ap (Loading (with_outcome call x)) e in
          after call d es (subst (OwnsCall w a call) e own)
          (loads_reached blocks clock values held events a (with_outcome call x) d es stripes here (n ∙ ap notice.Number (sym same)))
      keep call left (d ∷ es) notice.Quiet own e n st =
          let x = outcome_in (w.seats a).stage in
          let here : (w.seats a).stage ≡ Loading (with_outcome call x) (d ∷ es) = st ∙ ap (Loading (with_outcome call x)) e in
          let t = rests_in blocks clock values held events a (with_outcome call x) d es stripes here n in
          owns_stands w u a call (d ∷ es) (d ∷ es) refl refl t.0
          (λ h. subst (λ (cs : List Call). IsDoomed cs (d ∷ es)) (sym t.1) h) (subst (OwnsCall w a call) e own)
      keep call left es n own e is st = tt

      at : (s : running.Stage V) → r.stage ≡ s → OwnsCallAt w a s → KeepsAt u a s (word_notice w a)
      at (stage.Loading call left) is own =
          keep call left.items left.items (word_notice w a) own refl refl
          (ap (λ (q : Seat V). q.stage) runs.0 ∙ (seat_stage (u.seats a) r ∙ ap (stage_in (w.seats a).stage) is))
      at s is own = tt
