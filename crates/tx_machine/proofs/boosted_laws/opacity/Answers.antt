-- The law of every schedule, from the invariant.
use Rattle.std.proofs.Common.{◌≡◌, ℕ, ◌+◌, List, subst, sym, ap, ◌∙◌, arith}
use Rattle.tx_machine.specs.World.{Memory, Record}
use Rattle.tx_machine.specs.Opacity.{IsLegal, AllEnded, memory_at, IsInOrder, IsRun, memory_after}
use Rattle.tx_machine.proofs.Saw.{first_read_good}
use Rattle.tx_machine.proofs.Schedules.{actor_saw, legal_of, words_at_rest}
use Rattle.tx_machine.proofs.Schedules as machine
use Rattle.tx_machine.specs.Content.{Content, Frame}
use Rattle.tx_machine.specs.Boosted.{Boosted, Action, act_all, opens}
use Rattle.tx_machine.specs.Serial.{edition_at, AreLegal, AreRun, AllAborted, view, views, words}
use Rattle.tx_machine.proofs.BoostedInvariant.{Inv}
use Rattle.tx_machine.proofs.BoostedSchedules.{edition_few, edition_read, all_keeps, all_ok, all_saw, all-opening, all_words_saw, opens_ok}
use Rattle.tx_machine.proofs.BoostedSchedules.{legal_parts, are_run, aborted_legal, at_rest}
use Rattle.tx_machine.proofs.BoostedQuiet.{saw_open}
use Rattle.tx_machine.proofs.Runs.{all_run}
use Rattle.tx_machine.proofs.boosted_laws.opacity.Goals as goal

module _ {X Op Out : Type 0} (c : Content X Op Out) (f : Frame c) (clock : ℕ) (memory : Memory) (parts : ℕ → X)
    (actions : List (Action Op)) where
  abbrev reached : Boosted X Out
  reached = act_all c actions (opens clock memory parts)

  reached_ok : Inv c reached
  reached_ok = all_ok c f actions (opens clock memory parts) (opens_ok c f clock memory parts)

  opened_parts : reached.opening ≡ parts
  opened_parts = (all-opening c f actions (opens clock memory parts) (opens_ok c f clock memory parts)).0

  opened_memory : reached.words.opening ≡ memory
  opened_memory = reached_ok.first ∙ (all-opening c f actions (opens clock memory parts) (opens_ok c f clock memory parts)).1

  in_order : IsInOrder (words reached.history)
  in_order = subst IsInOrder (sym reached_ok.same) reached_ok.machine.ordered

  serial : AreRun c parts reached.history × IsRun memory (words reached.history)
  serial = (
    subst (λ (z : ℕ → X). AreRun c z reached.history) opened_parts (are_run c f reached reached_ok),
    subst (IsRun memory) (sym reached_ok.same)
        (subst (λ (z : Memory). IsRun z reached.words.history) opened_memory (machine.serial reached.words reached_ok.machine)),
  )

pub returns-clause-in_order : goal.returns-clause-in_order
returns-clause-in_order g k c f clock memory parts actions = in_order c f clock memory parts actions

pub returns-clause-serial : goal.returns-clause-serial
returns-clause-serial g k c f clock memory parts actions = serial c f clock memory parts actions

pub returns-clause-left : goal.returns-clause-left
returns-clause-left g k c f clock memory parts actions none l =
    let s = reached c f clock memory parts actions in
    let v = reached_ok c f clock memory parts actions in (
      words_at_rest s.words v.machine none l
          ∙ ap (λ (m : Memory). memory_after m s.words.history l) (opened_memory c f clock memory parts actions)
          ∙ ap (λ (h : List Record). memory_after memory h l) (sym v.same),
      λ pl. sym (at_rest c f s v none l pl).0 ∙ ap (λ (z : ℕ → _). views c s.history z l) (opened_parts c f clock memory parts actions),
    )

pub returns-clause-saw : goal.returns-clause-saw
returns-clause-saw g k c f clock memory parts actions later a =
    let s = reached c f clock memory parts actions in
    let v = reached_ok c f clock memory parts actions in
    let t = act_all c later s in
    let w = all_ok c f later s v in (
      subst (λ (z : ℕ → _). AreLegal c (view c t.history (s.words.actors a).rv z) (s.shadows a).outcomes)
          ((all-opening c f later s v).0 ∙ opened_parts c f clock memory parts actions)
          (legal_parts c f t (s.words.actors a).rv (s.shadows a).outcomes w
          (all_saw c f later s (s.words.actors a).rv (s.shadows a).outcomes v (saw_open c s a v))),
      legal_of t.words (s.words.actors a).rv (s.words.actors a).calls
          (all_words_saw c f later s (s.words.actors a).rv (s.words.actors a).calls v (actor_saw s.words a v.machine)),
    )

pub returns-clause-aborted : goal.returns-clause-aborted
returns-clause-aborted g k c f clock memory parts actions =
    let s = reached c f clock memory parts actions in
    let v = reached_ok c f clock memory parts actions in (
      subst (λ (z : ℕ → _). AllAborted (λ e. AreLegal c (view c s.history e.word.rv z) e.outcomes) s.aborted)
          (opened_parts c f clock memory parts actions)
          (aborted_legal c f s s.aborted v v.aborted),
      subst (AllEnded (λ e. IsLegal (memory_at s.words e.rv) e.calls)) (sym v.ends) (machine.all_aborted s.words v.machine),
    )

pub returns-clause-editions : goal.returns-clause-editions
returns-clause-editions g k c f clock memory parts actions later a l e pl h =
    let s = reached c f clock memory parts actions in
    let v = reached_ok c f clock memory parts actions in
    let t = act_all c later s in
    let q = edition_read c f t (s.words.actors a).rv l e (all_ok c f later s v) pl
    ((all_keeps c f later s v).good (s.words.actors a).rv l e ((v.machine.actors a).reads l e h)) in
    let o = all-opening c f later s v in
    let p = all-opening c f actions (opens clock memory parts) (opens_ok c f clock memory parts) in (
      q.0 ∙ ap (λ (z : ℕ → ℕ). z l + edition_at c t.history (s.words.actors a).rv l) (o.1 ∙ p.1),
      λ same. q.1 same ∙ ap (λ (z : ℕ → _). view c t.history (s.words.actors a).rv z l) (o.0 ∙ p.0),
    )

pub returns-clause-first_reads : goal.returns-clause-first_reads
returns-clause-first_reads g k c f clock memory parts actions later a l e pl h =
    let s = reached c f clock memory parts actions in
    let v = reached_ok c f clock memory parts actions in
    let t = act_all c later s in
    let q = edition_read c f t (s.words.actors a).rv l e (all_ok c f later s v) pl
    ((all_keeps c f later s v).good (s.words.actors a).rv l e
    (first_read_good s.words (s.words.actors a).rv (s.words.actors a).calls l e (v.machine.actors a).saw h)) in
    let o = all-opening c f later s v in
    let p = all-opening c f actions (opens clock memory parts) (opens_ok c f clock memory parts) in (
      q.0 ∙ ap (λ (z : ℕ → ℕ). z l + edition_at c t.history (s.words.actors a).rv l) (o.1 ∙ p.1),
      λ same. q.1 same ∙ ap (λ (z : ℕ → _). view c t.history (s.words.actors a).rv z l) (o.0 ∙ p.0),
    )

pub returns-clause-accepted : goal.returns-clause-accepted
returns-clause-accepted g k c f clock memory parts actions a l r = ((reached_ok c f clock memory parts actions).shadows a).sets l r

pub returns-clause-bounded : goal.returns-clause-bounded
returns-clause-bounded g k c f clock memory parts actions l pl =
    let s = reached c f clock memory parts actions in
    let few = edition_few c f s l (reached_ok c f clock memory parts actions) pl in
    let same = ap (λ (z : Memory). z l)
    (sym (reached_ok c f clock memory parts actions).first ∙ opened_memory c f clock memory parts actions) in
    omega (arith, few, same)

pub returns-clause-worlds : goal.returns-clause-worlds
returns-clause-worlds g k c clock memory parts actions = all_run c actions (opens clock memory parts)

pub returns-clause-records : goal.returns-clause-records
returns-clause-records g k c f clock memory parts actions = (
  (reached_ok c f clock memory parts actions).same,
  (reached_ok c f clock memory parts actions).ends,
)
