use Rattle.std.proofs.Common.{◌≤◌, [], refl, subst, sym, ◌∙◌, arith}
use Rattle.step_core.specs.Shown.{actor_of}
use Rattle.replay_log.specs.Worlds.{Loading, Seat, Stage, at_stage}
use Rattle.tx_actor.specs.Answers.{CopiesAfter}
use Rattle.actor_parts.specs.Judged.{left_after}
use Rattle.tx_actor.specs.Running.{answered_of, outcome_in, seat_of, with_outcome}
use Rattle.tx_actor.proofs.AnswerLemmas.{by_judged, by_outcome, reads_by}
use Rattle.tx_actor.proofs.RoomLemmas.{goes_on_next}
use Rattle.step_core.specs.Sound.{owed}
use Rattle.step_core.specs.declared.actor.Place.{Place}
use Rattle.step_core.specs.declared.actor.Place.TheVariants as place
use Rattle.tx_actor.specs.declared.actor.Stage.TheVariants as stage
use Rattle.tx_actor.specs.declared.actor.ActorNotice.TheVariants.{Quiet}
use Rattle.tx_actor.specs.declared.actor.TxActor.{TxActor}
use Rattle.tx_actor.specs.CopiesByStage.{HasGone}
use Rattle.tx_actor.proofs.CopiesByStageLemmas.{asks_nothing}
use Rattle.tx_actor.proofs.actor.TxActor.continue_call.Goals as goal

pub returns-in-All-clause-does : goal.returns-in-All-clause-does
returns-in-All-clause-does g c a w x s may =
    let old = c.args.self.now in
    let left = left_after old.words.reads.entries c.args.left.items in
    let all = sym c.judge.ensures.judged ∙ c.in-All.is in
    let yes = may.accepts all in
    by_outcome c.accepts.new.self c.accepts.result a w (seat_of old) (answered_of c.args.call) (with_outcome c.args.call x) left _
    (λ i. with_outcome c.args.call (sym yes.1 i)) all (c.accepts.ensures.does a w s yes.0)

pub returns-in-Next-clause-does : goal.returns-in-Next-clause-does
returns-in-Next-clause-does g c a w x s may =
    let old = c.args.self.now in
    let call = c.args.call in
    let left = left_after old.words.reads.entries c.args.left.items in
    let o = with_outcome call x in
    let may_read = may.reads c.in-Next.location (sym c.judge.ensures.judged ∙ c.in-Next.is) in
    let seat : Stage g.row.V.Denot → Seat g.row.V.Denot =
    λ st. at_stage (seat_of old) (Loading (with_outcome call (outcome_in st)) c.judge.new.left.items) in
    reads_by a w (seat_of old) seat (actor_of old.words) _ o left c.in-Next.location _ _ tt (sym c.in-Next.is ∙ c.judge.ensures.judged) s
    may_read.0 may_read.1 may_read.2 refl (λ i. at_stage (seat_of old) (Loading o (c.judge.ensures.left i)))

pub returns-in-Stale-clause-does : goal.returns-in-Stale-clause-does
returns-in-Stale-clause-does g c a w x s may =
    let old = c.args.self.now in
    let left = left_after old.words.reads.entries c.args.left.items in
    by_judged c.abort_for.new.self c.abort_for.result a w (seat_of old) (with_outcome c.args.call x) left _ _
    (sym c.in-Stale.is ∙ c.judge.ensures.judged) (c.abort_for.ensures.does a w s)

pub returns-in-All-clause-copies : goal.returns-in-All-clause-copies
returns-in-All-clause-copies g c =
    subst (λ j. CopiesAfter j c.args.call c.args.self.now.copies.items c.accepts.new.self.copies.items)
    (sym c.in-All.is ∙ c.judge.ensures.judged) c.accepts.ensures.copies

pub returns-in-Next-clause-copies : goal.returns-in-Next-clause-copies
returns-in-Next-clause-copies g c =
    let cs = c.args.self.now.copies.items in
    subst (λ j. CopiesAfter j c.args.call cs cs) (sym c.in-Next.is ∙ c.judge.ensures.judged) refl

pub returns-in-Stale-clause-copies : goal.returns-in-Stale-clause-copies
returns-in-Stale-clause-copies g c =
    subst (λ j. CopiesAfter j c.args.call c.args.self.now.copies.items c.abort_for.new.self.copies.items)
    (sym c.in-Stale.is ∙ c.judge.ensures.judged) (λ i. (c.abort_for.ensures.copies i).items)

-- the bounds and the room
pub returns-in-All-clause-keeps : goal.returns-in-All-clause-keeps
returns-in-All-clause-keeps g c v can = c.accepts.ensures.keeps v can.call.writes

pub returns-in-Next-clause-keeps : goal.returns-in-Next-clause-keeps
returns-in-Next-clause-keeps g c v can =
    goes_on_next v c.args.self.now c.args.call c.args.left.items c.in-Next.location c.judge.new.left
    (sym c.judge.ensures.judged ∙ c.in-Next.is) c.judge.ensures.left c.requires.prepared can

pub returns-in-Stale-clause-keeps : goal.returns-in-Stale-clause-keeps
returns-in-Stale-clause-keeps g c v can = c.abort_for.ensures.keeps v

pub returns-in-All-clause-owed : goal.returns-in-All-clause-owed
returns-in-All-clause-owed g c = c.accepts.ensures.owed

pub returns-in-Next-clause-owed : goal.returns-in-Next-clause-owed
returns-in-Next-clause-owed g c = subst (λ (p : Place). 1 ≤ owed p) (sym c.requires.prepared.writes.0) (omega arith)

pub returns-in-Stale-clause-owed : goal.returns-in-Stale-clause-owed
returns-in-Stale-clause-owed g c = (c.abort_for.ensures.keeps (record { words = 0; blocks = [] })).owed

-- what is left of the copies
pub returns-in-All-clause-goes : goal.returns-in-All-clause-goes
returns-in-All-clause-goes g c =
    subst (λ j. HasGone j c.args.self.now c.accepts.new.self c.accepts.result c.args.call c.args.left.items)
    (sym c.in-All.is ∙ c.judge.ensures.judged)
    (record {
      stage = c.accepts.ensures.told.0;
      at = c.accepts.ensures.copies;
      own = c.requires.prepared.own;
      told = c.accepts.ensures.told.1;
    })

pub returns-in-Next-clause-goes : goal.returns-in-Next-clause-goes
returns-in-Next-clause-goes g c =
    let old = c.args.self.now in
    let u : TxActor g.row.V.Denot =
    record old { words = record old.words { place = place.Look c.in-Next.location }; stage = stage.Loading c.args.call c.judge.new.left } in
    subst (λ j. HasGone j old u Quiet c.args.call c.args.left.items) (sym c.in-Next.is ∙ c.judge.ensures.judged)
    (record {
      left = c.judge.new.left;
      stage = refl;
      items = c.judge.ensures.left;
      copies = refl;
      calls = refl;
      told = refl;
    })

pub returns-in-Stale-clause-goes : goal.returns-in-Stale-clause-goes
returns-in-Stale-clause-goes g c =
    subst (λ j. HasGone j c.args.self.now c.abort_for.new.self c.abort_for.result c.args.call c.args.left.items)
    (sym c.in-Stale.is ∙ c.judge.ensures.judged) (asks_nothing c.args.self.now c.abort_for.new.self c.abort_for.ensures.leaves)
