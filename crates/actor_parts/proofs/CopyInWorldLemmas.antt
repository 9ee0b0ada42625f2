-- A held call in a world: its outcome is the world's (`follows_answered`), what it reads and writes depends on the kind alone, and the
-- edition with which each location was copied is the shadow's; so it is judged as the world judges it.
use Rattle.std.proofs.Common.{◌≡◌, ℕ, suc, ◌+◌, ◌<◌, true, cond, List, [], ◌∷◌, Option, Some, length, refl, sym, ap, subst, arith, ◌∙◌}
use Rattle.std.specs.Prelude.{Contains, unwrap_or}
use Rattle.std.proofs.lemmas.Bool.{cond-true}
use Rattle.std.proofs.lemmas.Option.{get_or_from_slice_get}
use Rattle.seq_model.specs.declared.call.Op.{Op}
use Rattle.seq_model.specs.declared.refusal.Refusal.TheVariants as refusal
use Rattle.seq_model.specs.declared.event.Notice.TheVariants.{Refused}
use Rattle.conflict.specs.declared.change.Change.{Change}
use Rattle.conflict.specs.declared.outcome.Outcome.{Outcome}
use Rattle.tx_machine.specs.Boosted.{Shadow}
use Rattle.replay_log.specs.Base.{Shown, editions_of, reads_of, shown_of, writes_of}
use Rattle.replay_log.specs.Contents.{CallWithOutcome, Block, blank, content}
use Rattle.replay_log.specs.Contents.{first_of, reads_in as reads_at, writes_in as writes_at, shifted}
use Rattle.replay_log.specs.Contents.{size}
use Rattle.replay_log.proofs.ContentLemmas.{positive_at}
use Rattle.replay_log.specs.Pieces.{piece_at}
use Rattle.replay_log.specs.Worlds.{World, Seat, After, Open, actor_of, answers, at_stage, calls_on, has_room, loads, outcome_at, seated}
use Rattle.replay_log.specs.Worlds.{with_editions}
use Rattle.actor_laws.proofs.Bases.{writes_by}
use Rattle.actor_parts.specs.declared.copies.PrivateCopy.{PrivateCopy}
use Rattle.actor_parts.specs.declared.copies.PrivateCopy.TheVariants.{Keys, Whole}
use Rattle.actor_parts.specs.PrivateCopy.{HasEditions, IsOf, answer_of, answered_on, edition_at, holds_call}
use Rattle.actor_parts.specs.Footprints.{known_edition, reads_in, with_known, writes_in}
use Rattle.actor_parts.specs.Judged.{comes_to, judged, left_after}
use Rattle.actor_parts.specs.CopyInWorld.{AnswersHeld, IsOwnCopy, Knows, call_on}
use Rattle.actor_parts.proofs.PrivateCopyLemmas.{follows_answered}
use Rattle.actor_parts.proofs.JudgedLemmas.{is_judged}
use Rattle.actor_parts.proofs.OutcomeLemmas.{answered_op}
use Rattle.actor_parts.proofs.FootprintLemmas.{reads_by, reads_within}

pub head_in : (l : ℕ) (ls : List ℕ) → Contains (l ∷ ls) l
head_in l ls = (0, omega arith, refl)

pub tail_in : (l i : ℕ) (ls : List ℕ) → Contains ls i → Contains (l ∷ ls) i
tail_in l i ls c = (suc c.0, (let lt : c.0 < length ls = c.1 in omega arith), c.2)

module _ {V : Type 0} where
  pub same_reads : (b : Block) (s : Shown V) (cs : List (Change V)) (ls : List ℕ) (c : PrivateCopy V) (o : Outcome V) → IsOf b s cs ls c
      → reads_of b.stripes o (blank b) ≡ reads_in c o
  same_reads b s cs ls (Keys m es) o is =
      reads_by b.kind b.stripes o (shown_of m.blank) is.0 ∙ ap (λ n. reads_of n o (shown_of m.blank)) (sym is.1)
  same_reads b s cs ls (Whole t) o is =
      reads_by b.kind b.stripes o (shown_of t.base) is.0 ∙ ap (λ n. reads_of n o (shown_of t.base)) (sym is.1)

  pub same_writes : (b : Block) (s : Shown V) (cs : List (Change V)) (ls : List ℕ) (c : PrivateCopy V) (o : Outcome V) → IsOf b s cs ls c
      → writes_of b.stripes o (blank b) ≡ writes_in c o
  same_writes b s cs ls (Keys m es) o is =
      writes_by b.kind b.stripes o (shown_of m.blank) is.0 ∙ ap (λ n. writes_of n o (shown_of m.blank)) (sym is.1)
  same_writes b s cs ls (Whole t) o is =
      writes_by b.kind b.stripes o (shown_of t.base) is.0 ∙ ap (λ n. writes_of n o (shown_of t.base)) (sym is.1)

  known_as : (c : PrivateCopy V) (i e : ℕ) → edition_at c i ≡ Some e → known_edition c i ≡ e
  known_as (Keys m es) i e is = ap (λ (z : Option ℕ). unwrap_or z 0) is
  known_as (Whole t) i e is = get_or_from_slice_get (editions_of t.base) i e 0 is

  pub known_at : (b : Block) (f : ℕ) (x : Shadow (Shown V) (CallWithOutcome V)) (c : PrivateCopy V) (i : ℕ) → HasEditions b f x c
      → i < size b
      → (e : ℕ) × (edition_at c i ≡ Some e) → x.editions (f + i) ≡ known_edition c i
  known_at b f x c i has below known = (has i known.0 below known.1).1 ∙ sym (known_as c i known.0 known.1)

  pub known_all : (b : Block) (f : ℕ) (x : Shadow (Shown V) (CallWithOutcome V)) (c : PrivateCopy V) (ls : List ℕ) → HasEditions b f x c
      → ((i : ℕ) → Contains ls i → i < size b) → Knows c ls → with_editions x.editions (shifted f ls) ≡ with_known c f ls
  known_all b f x c [] has below knows = refl
  known_all b f x c (l ∷ ls) has below knows =
      let same : x.editions (f + l) ≡ known_edition c l = known_at b f x c l has (below l (head_in l ls)) (knows l (head_in l ls)) in
      let rest = known_all b f x c ls has (λ i q. below i (tail_in l i ls q)) (λ i q. knows i (tail_in l i ls q)) in
      λ j. (f + l, same j) ∷ rest j

  -- a call that is held
  module _ (w : World V) (a k : ℕ) (b : Block) (c : PrivateCopy V) (op : Op V) (o : Outcome V)
      (is : IsOwnCopy w a k b (first_of w.words w.blocks k) c) (holds : holds_call c op ≡ true) (answer : answer_of c op ≡ Some o) where
    abbrev f : ℕ
    f = first_of w.words w.blocks k

    pub held_outcome : outcome_at w a (call_on k op) ≡ answered_on k op o
    held_outcome = follows_answered w.words w.blocks k b (w.boosted.shadows a) c op o is.stripes is.block is.copied holds answer

    -- the locations that it reads, and those that it writes
    pub held_read : (content w.words w.blocks).reads (answered_on k op o) ≡ shifted f (reads_in c o)
    held_read = ap (λ q. reads_at q f (Some o)) is.block ∙ ap (shifted f) (same_reads b _ _ _ c o is.copied.0.2)

    pub held_written : (content w.words w.blocks).writes (answered_on k op o) ≡ shifted f (writes_in c o)
    held_written = ap (λ q. writes_at q f (Some o)) is.block ∙ ap (shifted f) (same_writes b _ _ _ c o is.copied.0.2)

    held_within : (i : ℕ) → Contains (reads_in c o) i → i < size b
    held_within =
        subst (λ (ls : List ℕ). (i : ℕ) → Contains ls i → i < size b) (same_reads b _ _ _ c o is.copied.0.2)
        (reads_within b o (positive_at w.blocks k b is.stripes is.block))

    held_knows : Knows c (reads_in c o)
    held_knows = is.knows o (ap (holds_call c) (answered_op c op o answer) ∙ holds)

    -- with which editions what it reads was copied
    pub held_known : (i : ℕ) → Contains (reads_in c o) i → (w.boosted.shadows a).editions (f + i) ≡ known_edition c i
    held_known i there = known_at b f (w.boosted.shadows a) c i is.copied.1 (held_within i there) (held_knows i there)

    pub held_editions : with_editions (w.boosted.shadows a).editions (shifted f (reads_in c o)) ≡ with_known c f (reads_in c o)
    held_editions = known_all b f (w.boosted.shadows a) c (reads_in c o) is.copied.1 held_within held_knows

  module _ (w : World V) (a : ℕ) (x : Seat V) (k : ℕ) (b : Block) (c : PrivateCopy V) (op : Op V) (o : Outcome V) where
    abbrev Answer : CallWithOutcome V → List ℕ → List ℕ → (es : List (ℕ × ℕ)) → After V
    Answer p rs ws es =
        cond (has_room (actor_of w a) rs ws) (loads w a x p es) (seated w a (at_stage x Open), Refused a refusal.TooLong)

    held_at : IsOwnCopy w a k b (first_of w.words w.blocks k) c → holds_call c op ≡ true → answer_of c op ≡ Some o
        → x.copied k (piece_at w.blocks (call_on k op)) ≡ true →
        let y = actor_of w a in
        let f = first_of w.words w.blocks k in
        let es = with_known c f (reads_in c o) in
        calls_on w a x (call_on k op)
        ≡ cond (has_room y (shifted f (reads_in c o)) (shifted f (writes_in c o)))
        (comes_to w a x (answered_on k op o) (left_after y.reads es) (judged y.reads es))
        (seated w a (at_stage x Open), Refused a refusal.TooLong)
    held_at is holds answer has =
        let f = first_of w.words w.blocks k in
        let y = actor_of w a in
        let p = answered_on k op o in
        let z = w.boosted.shadows a in
        let e : outcome_at w a (call_on k op) ≡ p = held_outcome w a k b c op o is holds answer in
        let rs : (content w.words w.blocks).reads p ≡ shifted f (reads_in c o) = held_read w a k b c op o is holds answer in
        let ws : (content w.words w.blocks).writes p ≡ shifted f (writes_in c o) = held_written w a k b c op o is holds answer in
        let es : with_editions z.editions (shifted f (reads_in c o)) ≡ with_known c f (reads_in c o) =
        held_editions w a k b c op o is holds answer in
        cond-true (x.copied k (piece_at w.blocks (call_on k op)))
        (answers w a x x (outcome_at w a (call_on k op)) (outcome_at w a (call_on k op)) z.editions) _ has
        ∙ ((λ i. answers w a x x (e i) (e i) z.editions)
        ∙ ((λ i. Answer p (rs i) (ws i) (with_editions z.editions (rs i)))
        ∙ ((λ i. Answer p (shifted f (reads_in c o)) (shifted f (writes_in c o)) (es i))
        ∙ ap (λ (u : After V). cond (has_room y (shifted f (reads_in c o)) (shifted f (writes_in c o))) u
        (seated w a (at_stage x Open), Refused a refusal.TooLong)) (is_judged w a x p (with_known c f (reads_in c o))))))

  pub answers_held : AnswersHeld V
  answers_held w a x k b f c op o is holds answer has =
      subst (λ (g : ℕ). IsOwnCopy w a k b g c → calls_on w a x (call_on k op)
      ≡ cond (has_room (actor_of w a) (shifted g (reads_in c o)) (shifted g (writes_in c o)))
      (comes_to w a x (answered_on k op o) (left_after (actor_of w a).reads (with_known c g (reads_in c o)))
      (judged (actor_of w a).reads (with_known c g (reads_in c o))))
      (seated w a (at_stage x Open), Refused a refusal.TooLong))
      is.first (λ (at : IsOwnCopy w a k b (first_of w.words w.blocks k) c). held_at w a x k b c op o at holds answer has) is
