-- Whether a call that was copied for finds room. Putting its gate back leaves the sets, the bases and their editions; so where its copy is
-- found stale without a further step, the definition asks for room for the outcome that the call has of the bases, and else for that of its
-- transaction's copies. One that finds room is answered, judged further or aborted, and never refused.
use Rattle.std.proofs.Common.{◌≡◌, ℕ, Bool, true, false, cond, List, [], ◌∷◌, Option, Some, None, inl, inr, refl, sym, ◌∙◌, ap, subst}
use Rattle.std.proofs.Common.{eqb, eq-eqb, ne_eqb}
use Rattle.std.proofs.lemmas.Bool.{cases_eq, cond-true, cond-false}
use Rattle.tx_sets.specs.Entries.{Entries, lookup}
use Rattle.tx_machine.specs.Actor.{Actor}
use Rattle.tx_machine.specs.World.{World as Words}
use Rattle.seq_model.specs.declared.refusal.Refusal.TheVariants as refusal
use Rattle.seq_model.specs.declared.event.Event.TheVariants.{Step}
use Rattle.seq_model.specs.declared.event.Notice.TheVariants.{Refused}
use Rattle.tx_machine.specs.Boosted.{PutGate}
use Rattle.replay_log.specs.Base.{Shown}
use Rattle.replay_log.specs.Contents.{CollectionCall, CallWithOutcome, content}
use Rattle.replay_log.specs.Pieces.{piece_at, covers_at}
use Rattle.replay_log.specs.Worlds.{World, Seat, Stage, Copying, differs, is_stale, has_room, with_editions, acted, actor_of, loads}
use Rattle.replay_log.specs.Worlds.{answers}
use Rattle.replay_log.specs.Worlds.{Open, After, at_stage, seated, with_piece, outcome_now, sized_by, has_copied, step_at, happens}
use Rattle.replay_log.specs.WorldAnswers.{IsStale, IsTooLongUnless, copied_outcome}
use Rattle.replay_log.proofs.SetLemmas.{put_words}
use Rattle.replay_log.proofs.AnswerLemmas.{loads_no}
use Rattle.replay_log.proofs.EndingLemmas.{put_keeps}

-- ---- a copy that is found stale without a step
stale_found : (reads : Entries) (f : ℕ → ℕ) (ls : List ℕ) → IsStale reads f ls → is_stale reads (with_editions f ls) ≡ true
stale_found reads f [] h = absurd h
stale_found reads f (l ∷ ls) h =
    let rest = is_stale reads (with_editions f ls) in
    subst (λ (o : Option ℕ). differs (l, f l) rest o ≡ true) (sym h.1) (elim (cases_eq (f l) h.0) [
      | inl same ↦
          cond-true (eqb (f l) h.0) rest true (eq-eqb (f l) h.0 same)
          ∙ elim h.2 [ inl other ↦ absurd (other (sym same)) | inr more ↦ stale_found reads f ls more ]
      | inr other ↦ cond-false (eqb (f l) h.0) rest true (ne_eqb (f l) h.0 other)
    ])

fresh_first : (reads : Entries) (f : ℕ → ℕ) (l : ℕ) (ls : List ℕ) (o : Option ℕ) → lookup reads l ≡ o → (IsStale reads f (l ∷ ls) → ⊥)
    → ((IsStale reads f ls → ⊥) → is_stale reads (with_editions f ls) ≡ false)
    → differs (l, f l) (is_stale reads (with_editions f ls)) o ≡ false
fresh_first reads f l ls None e h rest = refl
fresh_first reads f l ls (Some v) e h rest =
    elim (cases_eq (f l) v) [
      | inl same ↦
          cond-true (eqb (f l) v) (is_stale reads (with_editions f ls)) true (eq-eqb (f l) v same) ∙ rest (λ more. h (v, e, inr more))
      | inr other ↦ absurd (h (v, e, inl (λ same. other (sym same))))
    ]

fresh_found : (reads : Entries) (f : ℕ → ℕ) (ls : List ℕ) → (IsStale reads f ls → ⊥) → is_stale reads (with_editions f ls) ≡ false
fresh_found reads f [] h = refl
fresh_found reads f (l ∷ ls) h = fresh_first reads f l ls (lookup reads l) refl h (fresh_found reads f ls)

module _ {V : Type 0} where
  answers_room : (u : World V) (a : ℕ) (before x : Seat V) (sized o : CallWithOutcome V) (editions : ℕ → ℕ)
      → let c = content u.words u.blocks in
      IsTooLongUnless a (has_room (actor_of u a) (c.reads sized) (c.writes sized)) (answers u a before x sized o editions).1
  answers_room u a before x sized o editions =
      let c = content u.words u.blocks in
      let es = with_editions editions (c.reads o) in
      let refused : After V = (seated u a (at_stage before Open), Refused a refusal.TooLong) in
      elim (has_room (actor_of u a) (c.reads sized) (c.writes sized)) as
      (λ b. IsTooLongUnless a b (cond {A = After V} b (loads u a x o es) refused).1) [
        | true ↦ loads_no es u a x o
        | false ↦ refl
      ]

  -- the gate of a call is put back
  abbrev put_back : World V → ℕ → CollectionCall V → World V
  put_back w a asked = acted w (PutGate a asked.collection (covers_at w.words w.blocks asked) ∷ [])

  -- the room that a step at this stage asks for is that of o
  room_of : (w : World V) (a : ℕ) (asked : CollectionCall V) (o : CallWithOutcome V) → (w.seats a).stage ≡ Copying asked
      → sized_by (put_back w a asked) a asked (copied_outcome w a asked) ≡ o
      → let c = content w.words w.blocks in
      IsTooLongUnless a (has_room (actor_of w a) (c.reads o) (c.writes o)) (happens w (Step a)).1
  room_of w a asked o at is =
      let c = content w.words w.blocks in
      let u = put_back w a asked in
      let x = w.seats a in
      let own = copied_outcome w a asked in
      let same : actor_of u a ≡ actor_of w a =
      ap (λ (s : Words). s.actors a) (put_words c w.boosted a asked.collection (covers_at w.words w.blocks asked)) in
      let room = answers_room u a x (with_piece x asked.collection (piece_at w.blocks asked)) (sized_by u a asked own) own
      u.boosted.editions in
      subst (λ (st : Stage V). IsTooLongUnless a (has_room (actor_of w a) (c.reads o) (c.writes o)) (step_at w a x st).1) (sym at)
      (subst (λ (y : Actor). IsTooLongUnless a (has_room y (c.reads o) (c.writes o)) (has_copied u a x asked).1) same
      (subst (λ (s : CallWithOutcome V). IsTooLongUnless a (has_room (actor_of u a) (c.reads s) (c.writes s)) (has_copied u a x asked).1)
      is room))

  -- what is found in the world in which the gate is put back
  put_finds : (w : World V) (a : ℕ) (asked : CollectionCall V) (b : Bool)
      → is_stale (actor_of w a).reads (with_editions w.boosted.editions ((content w.words w.blocks).reads (copied_outcome w a asked))) ≡ b
      → is_stale (actor_of (put_back w a asked) a).reads
      (with_editions (put_back w a asked).boosted.editions ((content w.words w.blocks).reads (copied_outcome w a asked)))
      ≡ b
  put_finds w a asked b e =
      let c = content w.words w.blocks in
      let which = covers_at w.words w.blocks asked in
      let u = put_back w a asked in
      let ls = c.reads (copied_outcome w a asked) in
      ap (λ (s : Words). is_stale (s.actors a).reads (with_editions u.boosted.editions ls))
      (put_words c w.boosted a asked.collection which)
      ∙ ap (λ (f : ℕ → ℕ). is_stale (actor_of w a).reads (with_editions f ls)) (put_keeps c w.boosted a asked.collection which).2 ∙ e

  pub room_copied : (w : World V) (a : ℕ) (asked : CollectionCall V) → (w.seats a).stage ≡ Copying asked
      → let c = content w.words w.blocks in
      let o = copied_outcome w a asked in
      (IsStale (actor_of w a).reads w.boosted.editions (c.reads o) → ⊥)
      → IsTooLongUnless a (has_room (actor_of w a) (c.reads o) (c.writes o)) (happens w (Step a)).1
  room_copied w a asked at fresh =
      let o = copied_outcome w a asked in
      room_of w a asked o at
      (cond-false _ (outcome_now (put_back w a asked) asked) o
      (put_finds w a asked false (fresh_found (actor_of w a).reads w.boosted.editions _ fresh)))

  pub room_stale : (w : World V) (a : ℕ) (asked : CollectionCall V) → (w.seats a).stage ≡ Copying asked
      → let c = content w.words w.blocks in
      let o = c.outcome w.boosted.parts asked in
      IsStale (actor_of w a).reads w.boosted.editions (c.reads (copied_outcome w a asked))
      → IsTooLongUnless a (has_room (actor_of w a) (c.reads o) (c.writes o)) (happens w (Step a)).1
  room_stale w a asked at stale =
      let c = content w.words w.blocks in
      let u = put_back w a asked in
      room_of w a asked (c.outcome w.boosted.parts asked) at
      (cond-true _ (outcome_now u asked) (copied_outcome w a asked)
      (put_finds w a asked true (stale_found (actor_of w a).reads w.boosted.editions _ stale))
      ∙ ap (λ (v : ℕ → Shown V). c.outcome v asked)
      (put_keeps c w.boosted a asked.collection (covers_at w.words w.blocks asked)).1)
