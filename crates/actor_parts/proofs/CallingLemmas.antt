-- A call of an idle actor, in each world that events have reached: what is known there of its transaction (`Live`) says that what was read
-- of a collection was read with the copied edition, and that the read set has it; so a call whose locations are all judged by the read set
-- may be accepted. A location that no read set has is in no write set, since an outcome reads what it writes.
use Rattle.std.proofs.Common.{◌≡◌, ◌⊎◌, ℕ, Bool, true, false, ◌&&◌, cond, eqb, eq-eqb, eqb-true, List, [], ◌∷◌, Option, Some, None, inl}
use Rattle.std.proofs.Common.{inr, refl, sym, ap, subst, ◌∙◌}
use Rattle.tx_sets.specs.Entries.{Entries, lookup}
use Rattle.tx_machine.specs.Actor as machine
use Rattle.tx_machine.specs.Opacity.{first_read}
use Rattle.tx_machine.proofs.Quiet.{lookup-none, none_if}
use Rattle.tx_machine.proofs.Invariant.{HasBegun, IsKept}
use Rattle.seq_model.specs.declared.held.Held.{Held}
use Rattle.seq_model.specs.declared.event.Event.{Event}
use Rattle.seq_model.proofs.LogicLemmas.{some-none}
use Rattle.conflict.specs.declared.outcome.Outcome.{Outcome}
use Rattle.tx_machine.specs.Content.{IsIn}
use Rattle.tx_machine.specs.Boosted.{Accept, changes, is_edition, is_open, is_sound}
use Rattle.replay_log.specs.Base.{Shown}
use Rattle.replay_log.specs.Contents.{CollectionCall, Block, HaveStripes, answer, blank, block_of}
use Rattle.replay_log.specs.Contents.{content, first_of, is_plain, seen, shifted}
use Rattle.replay_log.specs.Contents.{writes_in}
use Rattle.replay_log.specs.Guards.{Allows}
use Rattle.replay_log.specs.Worlds.{World, Stage, Open, actor_of, is_change, opened, outcome_at, run, with_editions}
use Rattle.replay_log.proofs.CallLemmas.{in_set_some, known_some, may_if, reads_ok}
use Rattle.replay_log.proofs.EventLemmas.{opened_linked, run_linked}
use Rattle.replay_log.proofs.ReadLemmas.{in_set}
use Rattle.replay_log.proofs.SeatLemmas.{Linked, Live, StageOk}
use Rattle.replay_log.proofs.StageLemmas.{every_read}
use Rattle.actor_parts.specs.declared.judged.Judged.{Judged}
use Rattle.actor_parts.specs.declared.judged.Judged.TheVariants.{All, Next, Stale}
use Rattle.actor_parts.specs.Judged.{judged, judged_one}
use Rattle.actor_parts.specs.Owns.{IsHeldAsk, MayCall, read_at}
use Rattle.actor_parts.proofs.OutcomeLemmas.{outcome_op, writes_nothing}

-- ---- what is judged
next_all : (l : ℕ) → Next l ≡ All → ⊥
next_all l e = cc

stale_all : (l b v : ℕ) → Stale l b v ≡ All → ⊥
stale_all l b v e = cc

all_next : (l : ℕ) → All ≡ Next l → ⊥
all_next l e = cc

stale_next : (l b v i : ℕ) → Stale l b v ≡ Next i → ⊥
stale_next l b v i e = cc

pub one_all : (d : ℕ × ℕ) (rest : Judged) (o : Option ℕ) → judged_one d rest o ≡ All → (o ≡ Some d.1) × (rest ≡ All)
one_all d rest None e = absurd (next_all d.0 e)
one_all d rest (Some v) e = by (eqb d.1 v) refl e
  where
    by : (b : Bool) → eqb d.1 v ≡ b → cond b rest (Stale d.0 d.1 v) ≡ All → (Some v ≡ Some d.1) × (rest ≡ All)
    by true same h = (ap (λ (n : ℕ). Some n) (sym (eqb-true d.1 v same)), h)
    by false same h = absurd (stale_all d.0 d.1 v h)

one_next : (d : ℕ × ℕ) (rest : Judged) (o : Option ℕ) (i : ℕ) → judged_one d rest o ≡ Next i → ((o ≡ None) × (d.0 ≡ i)) ⊎ (rest ≡ Next i)
one_next d rest None i e = inl (refl, (let same : d.0 ≡ i = cc in same))
one_next d rest (Some v) i e = by (eqb d.1 v) e
  where
    by : (b : Bool) → cond b rest (Stale d.0 d.1 v) ≡ Next i → ((Some v ≡ None) × (d.0 ≡ i)) ⊎ (rest ≡ Next i)
    by true h = inr h
    by false h = absurd (stale_next d.0 d.1 v i h)

judged_all : (reads : Entries) (editions : ℕ → ℕ) (ls : List ℕ) → judged reads (with_editions editions ls) ≡ All → (l : ℕ) → IsIn l ls
    → lookup reads l ≡ Some (editions l)
judged_all reads editions [] e l m = absurd m
judged_all reads editions (i ∷ ls) e l m =
    let one = one_all (i, editions i) (judged reads (with_editions editions ls)) (lookup reads i) e in
    elim m [
      | inl same ↦ subst (λ j. lookup reads j ≡ Some (editions j)) (sym same) one.0
      | inr there ↦ judged_all reads editions ls one.1 l there
    ]

-- the next one is one of them, and no set has it
judged_next : (reads : Entries) (editions : ℕ → ℕ) (ls : List ℕ) (l : ℕ) → judged reads (with_editions editions ls) ≡ Next l
    → IsIn l ls × (lookup reads l ≡ None)
judged_next reads editions [] l e = absurd (all_next l e)
judged_next reads editions (i ∷ ls) l e =
    elim (one_next (i, editions i) (judged reads (with_editions editions ls)) (lookup reads i) l e) [
      | inl here ↦ (inl (sym here.1), subst (λ j. lookup reads j ≡ None) here.1 here.0)
      | inr rest ↦ (let there = judged_next reads editions ls l rest in (inr there.0, there.1))
    ]

pub not_read : (reads es : Entries) (l : ℕ) → judged reads es ≡ Next l → lookup reads l ≡ None
not_read reads [] l e = absurd (all_next l e)
not_read reads (d ∷ es) l e =
    elim (one_next d (judged reads es) (lookup reads d.0) l e) [
      | inl here ↦ subst (λ j. lookup reads j ≡ None) here.1 here.0
      | inr rest ↦ not_read reads es l rest
    ]

module _ {V : Type 0} where
  writes_none : (b : Option Block) (f : ℕ) (v : ℕ → Shown V) (asked : CollectionCall V) (r : Outcome V) → answer b f v asked.op ≡ Some r
      → is_change asked.op ≡ false → writes_in b f (Some r) ≡ []
  writes_none None f v asked r e h = refl
  writes_none (Some b) f v asked r e h =
      ap (shifted f) (writes_nothing b.stripes r (blank b) (ap is_change (outcome_op (seen b f v) asked.op r e) ∙ h))

  module _ (w : World V) (a : ℕ) (k : Linked w) (place : (actor_of w a).place ≡ machine.Open)
      (live : Live w.words w.blocks (w.seats a) (actor_of w a) (w.boosted.shadows a)) (asked : CollectionCall V) where
    accepts : IsHeldAsk w a asked → judged (actor_of w a).reads (read_at w a asked) ≡ All
        → Allows (content w.words w.blocks) w.boosted (Accept a asked)
    accepts held all =
        let c = content w.words w.blocks in
        let s = w.boosted in
        let y = actor_of w a in
        let z = s.shadows a in
        let v = changes c z.outcomes z.parts in
        let o = outcome_at w a asked in
        let b = block_of w.blocks asked.collection in
        let f = first_of w.words w.blocks asked.collection in
        let r = known_some b f v asked.op held.known in
        let sound : (l : ℕ) → IsIn l (c.reads o) → is_sound c s a l ≡ true = λ l m. (
        let ok = reads_ok w.words w.blocks v asked r.0 l k.base.stripes r.1 m in
        let there = judged_all y.reads z.editions (c.reads o) all l m in
        let first = in_set_some y.declared (first_read y.calls l) (z.editions l) (sym (live.kept l ok.plain) ∙ there) in
        let q = live.sound l (z.editions l) ok.plain first in
        ap (λ t. t && is_edition (z.editions l) (first_read y.calls l)) q.0
        ∙ (ap (is_edition (z.editions l)) first ∙ eq-eqb (z.editions l) (z.editions l) refl)) in
        let none : is_change asked.op ≡ false → c.writes o ≡ [] =
        λ h. ap (writes_in b f) r.1 ∙ writes_none b f v asked r.0 r.1 h in (
          ap is_open place,
          may_if y.declared (is_change asked.op) (c.writes o) held.may none,
          every_read (is_sound c s a) (c.reads o) sound,
        )

    unwritten : (l : ℕ) → is_plain w.words w.blocks l ≡ false → lookup (actor_of w a).reads l ≡ None
        → lookup (actor_of w a).writes l ≡ None
    unwritten l plain none = none_if (lookup (actor_of w a).writes l) (λ v h. by v h (actor_of w a).declared refl)
      where
        by : (v : ℕ) → lookup (actor_of w a).writes l ≡ Some v → (b : Bool) → (actor_of w a).declared ≡ b → ⊥
        by v h true is =
            let y = actor_of w a in
            let ok = (k.base.inv.machine.actors a) in
            let sets = ok.kept (subst HasBegun (sym place) tt) in
            let none_kept = subst (λ b. IsKept b y.reads y.writes ok.saw.reads) is sets in
            lookup-none y.writes l v none_kept.1 h
        by v h false is =
            let y = actor_of w a in
            let wrote = (k.base.inv.shadows a).wrote l v plain h in
            let read = (k.base.inv.shadows a).sets l wrote.1 in
            some-none ((w.boosted.shadows a).editions l)
            (sym read.1 ∙ (sym (live.kept l plain ∙ ap (λ b. in_set b (first_read y.calls l)) is) ∙ none))

    next_unwritten : (l : ℕ) → IsHeldAsk w a asked → judged (actor_of w a).reads (read_at w a asked) ≡ Next l
        → lookup (actor_of w a).writes l ≡ None
    next_unwritten l held next =
        let c = content w.words w.blocks in
        let z = w.boosted.shadows a in
        let v = changes c z.outcomes z.parts in
        let r = known_some (block_of w.blocks asked.collection) (first_of w.words w.blocks asked.collection) v asked.op held.known in
        let there = judged_next (actor_of w a).reads z.editions (c.reads (outcome_at w a asked)) l next in
        let ok = reads_ok w.words w.blocks v asked r.0 l k.base.stripes r.1 there.0 in
        unwritten l ok.plain there.1

  may_call : (w : World V) (a : ℕ) → Linked w → (w.seats a).stage ≡ Open → MayCall w a
  may_call w a k rests =
      let ok = subst (λ (st : Stage V). StageOk w.words w.blocks (w.seats a) (actor_of w a) (w.boosted.shadows a) st (actor_of w a).place)
      rests (k.seats a).stage in
      record {
        place = ok.0;
        accepts = λ asked held all. accepts w a k ok.0 ok.1 asked held all;
        reads = λ asked l held next. next_unwritten w a k ok.0 ok.1 asked l held next;
      }

  pub calls_as_reached : (blocks : List Block) (clock : ℕ) (values : List ℕ) (held : List (Held V)) (events : List (Event V)) (a : ℕ)
      → HaveStripes blocks
      → let w = run (opened blocks clock values held) events in (w.seats a).stage ≡ Open → MayCall w a
  calls_as_reached blocks clock values held events a stripes rests =
      let o : World V = opened blocks clock values held in
      may_call (run o events) a (run_linked events o (opened_linked blocks clock values held stripes)) rests
