-- What a call results in once it is judged, in a world that keeps what events keep after it. Were the acceptance refused, that world would
-- have answered one call more than its shadow has outcomes; so the guard holds (`allowed`). Were the location that is read next written,
-- its word actor would be idle at a stage that loads (`unwritten`).
use Rattle.std.proofs.Common.{◌≡◌, ℕ, Bool, true, false, true≢false, cond, not, ◌&&◌, eqb, eqb-true, List, [], ◌∷◌, ◌++◌, Option, Some}
use Rattle.std.proofs.Common.{None, inl, inr, refl, sym, ap, subst, ◌∙◌}
use Rattle.std.proofs.lemmas.List.Elements.{filter-append}
use Rattle.tx_sets.specs.Entries.{Entries, lookup}
use Rattle.tx_machine.specs.Actor as machine
use Rattle.tx_machine.specs.Actor.{Actor, Call}
use Rattle.tx_machine.specs.Requests as requests
use Rattle.tx_machine.specs.Requests.{AskRead, ask}
use Rattle.tx_machine.specs.Opacity.{first_read}
use Rattle.tx_machine.proofs.Sets.{put-same}
use Rattle.seq_model.specs.declared.call.Call as model
use Rattle.seq_model.specs.declared.call.Reply.{Reply}
use Rattle.tx_machine.specs.Boosted.{Accept, Boosted, every, is_open, is_sound, may_write}
use Rattle.tx_machine.specs.Content.{IsIn}
use Rattle.replay_log.specs.Base.{Shown}
use Rattle.replay_log.specs.Contents.{CallWithOutcome, Block, content, is_plain}
use Rattle.replay_log.specs.Guards.{Allows}
use Rattle.replay_log.specs.Worlds.{World, Seat, Loading, acted, actor_of, at_stage, call_of, outcome_at, reply_of, with_call}
use Rattle.replay_log.specs.Worlds.{with_editions}
use Rattle.replay_log.proofs.MixedLemmas.{Told, is_on_word, is_word_op, on_held}
use Rattle.replay_log.proofs.SeatLemmas.{AtReading, Copy, IsLeft, Kept, Linked, StageOk}
use Rattle.actor_parts.specs.declared.judged.Judged.TheVariants.{All, Next}
use Rattle.actor_parts.specs.Judged.{comes_to, judged, left_after, left_one}
use Rattle.actor_parts.specs.LoadInWorld.{AreRead, IsDoomed}
use Rattle.actor_parts.proofs.CallingLemmas.{one_all}
use Rattle.replay_log.proofs.CallLemmas.{in_set_some}

-- the three of a guard that holds
parts : (p q r : Bool) → (p && (q && r)) ≡ true → (p ≡ true) × (q ≡ true) × (r ≡ true)
parts true true true e = (refl, refl, refl)
parts true true false e = absurd (true≢false (sym e))
parts true false r e = absurd (true≢false (sym e))
parts false q r e = absurd (true≢false (sym e))

-- what a guard that fails leaves
not_done : {X : Type 0} (s t : X) (b : Bool) → b ≡ false → cond b t s ≡ s
not_done s t true e = absurd (true≢false e)
not_done s t false e = refl

-- what was judged by the read set was read so first, where it is in collections
pub all_read : (n : ℕ) (bs : List Block) (y : Actor) (es : Entries) → Kept n bs y → ((l : ℕ) → IsLeft l es → is_plain n bs l ≡ false)
    → judged y.reads es ≡ All → AreRead y.calls es
all_read n bs y [] kept plain all = tt
all_read n bs y (d ∷ es) kept plain all =
    let one = one_all d (judged y.reads es) (lookup y.reads d.0) all in (
      in_set_some y.declared (first_read y.calls d.0) d.1 (sym (kept d.0 (plain d.0 (inl refl))) ∙ one.0),
      all_read n bs y es kept (λ l m. plain l (inr m)) one.1,
    )

-- one that was judged by the read set, or is left, is among those that are read once the rest is
passed_if : (cs : List Call) (d : ℕ × ℕ) (es rest : Entries) (found : Option ℕ) → (AreRead cs rest → AreRead cs es)
    → ((v : ℕ) → found ≡ Some v → first_read cs d.0 ≡ Some v) → AreRead cs (left_one d es rest found) → AreRead cs (d ∷ es)
passed_if cs d es rest None later was h = h
passed_if cs d es rest (Some v) later was h = by (eqb d.1 v) refl h
  where
    by : (b : Bool) → eqb d.1 v ≡ b → AreRead cs (cond b rest (d ∷ es)) → AreRead cs (d ∷ es)
    by true same g = (was v refl ∙ ap Some (sym (eqb-true d.1 v same)), later g)
    by false same g = g

-- once all that is left has been read, so have all
pub passed_read : (n : ℕ) (bs : List Block) (y : Actor) (cs : List Call) (es : Entries) → Kept n bs y
    → ((l : ℕ) → IsLeft l es → is_plain n bs l ≡ false) → ((l e : ℕ) → first_read y.calls l ≡ Some e → first_read cs l ≡ Some e)
    → AreRead cs (left_after y.reads es) → AreRead cs es
passed_read n bs y cs [] kept plain more h = h
passed_read n bs y cs (d ∷ es) kept plain more h =
    passed_if cs d es (left_after y.reads es) (lookup y.reads d.0)
    (passed_read n bs y cs es kept (λ l m. plain l (inr m)) more)
    (λ v is. more d.0 v (in_set_some y.declared (first_read y.calls d.0) v (sym (kept d.0 (plain d.0 (inl refl))) ∙ is))) h

-- a location that was read with this edition is not one that was read with another
pub not_off : (cs : List Call) (d : ℕ × ℕ) (es : Entries) → first_read cs d.0 ≡ Some d.1 → IsDoomed cs (d ∷ es) → IsDoomed cs es
not_off cs d es is h =
    elim h [
      | inl q ↦ let same : d.1 ≡ q.0 = let e : Some d.1 ≡ Some q.0 = sym is ∙ q.1 in cc in absurd (q.2 (sym same))
      | inr rest ↦ rest
    ]

doomed_if : (cs : List Call) (d : ℕ × ℕ) (es rest : Entries) (found : Option ℕ) → (IsDoomed cs es → IsDoomed cs rest)
    → ((v : ℕ) → found ≡ Some v → first_read cs d.0 ≡ Some v) → IsDoomed cs (d ∷ es) → IsDoomed cs (left_one d es rest found)
doomed_if cs d es rest None later was h = h
doomed_if cs d es rest (Some v) later was h = by (eqb d.1 v) refl
  where
    by : (b : Bool) → eqb d.1 v ≡ b → IsDoomed cs (cond b rest (d ∷ es))
    by true same = later (not_off cs d es (was v refl ∙ ap Some (sym (eqb-true d.1 v same))) h)
    by false same = h

-- one that was read with another edition is left to be judged
pub doomed_left : (n : ℕ) (bs : List Block) (y : Actor) (es : Entries) → Kept n bs y → ((l : ℕ) → IsLeft l es → is_plain n bs l ≡ false)
    → IsDoomed y.calls es → IsDoomed y.calls (left_after y.reads es)
doomed_left n bs y [] kept plain h = h
doomed_left n bs y (d ∷ es) kept plain h =
    doomed_if y.calls d es (left_after y.reads es) (lookup y.reads d.0)
    (doomed_left n bs y es kept (λ l m. plain l (inr m)))
    (λ v is. in_set_some y.declared (first_read y.calls d.0) v (sym (kept d.0 (plain d.0 (inl refl))) ∙ is)) h

-- locations with their editions are these locations
pub left_in : (editions : ℕ → ℕ) (ls : List ℕ) (l : ℕ) → IsLeft l (with_editions editions ls) → IsIn l ls
left_in editions [] l m = m
left_in editions (i ∷ ls) l m = elim m [ inl e ↦ inl e | inr rest ↦ inr (left_in editions ls l rest) ]

module _ {V : Type 0} where
  -- one call more than outcomes
  told_longer : (cs : List (model.Call V × Reply V)) (c : model.Call V × Reply V) (os : List (CallWithOutcome V)) → Told cs os
      → Told (cs ++ c ∷ []) os → ⊥
  told_longer [] c [] h more = more
  told_longer [] c (o ∷ os) h more = h
  told_longer (d ∷ cs) c [] h more = h
  told_longer (d ∷ cs) c (o ∷ os) h more = told_longer cs c os h.2 more.2

  -- a stage that loads is not that of an idle word actor
  not_open : (n : World V) (v : Seat V) (q : Actor) (z : Copy V) (o : CallWithOutcome V) (left : Entries)
      → StageOk n.words n.blocks v q z (Loading o left) q.place → q.place ≡ machine.Open → ⊥
  not_open n v q z o [] h e = h
  not_open n v q z o (f ∷ fs) h e = subst (AtReading f.0) e h.0

  module _ (u : World V) (a : ℕ) (x : Seat V) (o : CallWithOutcome V) (left : Entries) where
    -- ---- the acceptance
    module _ (k : Linked (comes_to u a x o left All).0) (kind : is_word_op o.asked.op ≡ false)
        (held : Told (on_held x.calls) (u.boosted.shadows a).outcomes) where
      abbrev accepted : World V
      accepted = acted u (Accept a o.asked ∷ [])

      abbrev told_one : Seat V
      told_one = with_call x (call_of o) (reply_of o)

      told_there : Told (on_held told_one.calls) (accepted.boosted.shadows a).outcomes
      told_there =
          let s = k.seats a in
          let at_open = subst (λ (q : Seat V). StageOk u.words u.blocks q (actor_of accepted a) (accepted.boosted.shadows a) q.stage
          (actor_of accepted a).place) (put-same u.seats a told_one) s.stage in
          at_open.1.tx.1.held

      refused : accepted.boosted ≡ u.boosted → ⊥
      refused none =
          let c : model.Call V × Reply V = (call_of o, reply_of o) in
          let more : on_held (x.calls ++ c ∷ []) ≡ on_held x.calls ++ c ∷ [] =
          filter-append (λ (q : model.Call V × Reply V). not (is_on_word q)) x.calls (c ∷ [])
          ∙ ap (λ (b : Bool). on_held x.calls ++ cond (not b) (c ∷ []) []) kind in
          told_longer (on_held x.calls) c (u.boosted.shadows a).outcomes held
          (subst (λ (cs : List (model.Call V × Reply V)). Told cs (u.boosted.shadows a).outcomes) more
          (subst (λ (q : Copy V). Told (on_held told_one.calls) q.outcomes)
          (ap (λ (s : Boosted (Shown V) (CallWithOutcome V)). s.shadows a) none) told_there))

      pub allowed : Allows (content u.words u.blocks) u.boosted (Accept a o.asked)
      allowed = by guard refl
        where
          guard : Bool
          guard =
              let c = content u.words u.blocks in
              let s = u.boosted in
              let p = outcome_at u a o.asked in
              is_open (s.words.actors a).place && (may_write (s.words.actors a).declared (c.writes p) && every (is_sound c s a) (c.reads p))

          by : (b : Bool) → guard ≡ b → Allows (content u.words u.blocks) u.boosted (Accept a o.asked)
          by true is = parts _ _ _ is
          by false is = absurd (refused (not_done u.boosted _ guard is))

    -- ---- the location that is read next
    pub unwritten : (l : ℕ) → Linked (comes_to u a x o left (Next l)).0 → (actor_of u a).place ≡ machine.Open
        → lookup (actor_of u a).writes l ≡ None
    unwritten l k place = at (lookup (actor_of u a).writes l) refl
      where
        y : Actor
        y = actor_of u a

        at : (found : Option ℕ) → lookup (actor_of u a).writes l ≡ found → lookup (actor_of u a).writes l ≡ None
        at None is = is
        at (Some v) is =
            let there = (comes_to u a x o left (Next l)).0 in
            let s = k.seats a in
            let here = subst (λ (q : Seat V). StageOk u.words u.blocks q (actor_of there a) (there.boosted.shadows a) q.stage
            (actor_of there a).place) (put-same u.seats a (at_stage x (Loading o left))) s.stage in
            let asked : actor_of there a ≡ requests.read y l (Some v) (lookup y.reads l) =
            put-same u.boosted.words.actors a _
            ∙ (ap (λ p. ask y p (AskRead l)) place ∙ ap (λ (q : Option ℕ). requests.read y l q (lookup y.reads l)) is) in
            absurd (not_open u (at_stage x (Loading o left)) (actor_of there a) (there.boosted.shadows a) o left here
            (ap (λ (q : Actor). q.place) asked))
