use Rattle.std.proofs.Common.{refl, sym, subst}
use Rattle.step_core.specs.Shown.{actor_of}
use Rattle.replay_log.specs.Worlds.{Loading, Seat, Stage, at_stage}
use Rattle.actor_parts.specs.Judged.{left_after}
use Rattle.tx_actor.specs.CopiesByStage.{HasGone}
use Rattle.tx_actor.specs.Running.{outcome_in, seat_of, with_outcome}
use Rattle.tx_actor.specs.Taking.{waiting}
use Rattle.tx_actor.specs.declared.actor.ActorNotice.TheVariants.{Quiet}
use Rattle.tx_actor.proofs.AnswerLemmas.{reads_by}
use Rattle.tx_actor.proofs.RoomLemmas.{goes_on_next}
use Rattle.tx_actor.proofs.actor.TxActor.continue_to.Goals as goal

pub returns-in-Some-clause-does : goal.returns-in-Some-clause-does
returns-in-Some-clause-does g c a w x s may =
    let old = c.args.self.now in
    let call = c.args.call in
    let left = c.args.left in
    let l = c.in-Some.location in
    let o = with_outcome call x in
    let reads = may.reads l c.in-Some.ensures.next in
    let seat : Stage g.row.V.Denot → Seat g.row.V.Denot =
    λ st. at_stage (seat_of old) (Loading (with_outcome call (outcome_in st)) left.items) in
    reads_by a w (seat_of old) seat (actor_of old.words) _ o (left_after old.words.reads.entries left.items) l _ _ tt
    (sym c.in-Some.ensures.next) s reads.0 reads.1 reads.2 refl (λ i. at_stage (seat_of old) (Loading o (sym c.in-Some.ensures.all i)))

pub returns-in-Some-clause-goes : goal.returns-in-Some-clause-goes
returns-in-Some-clause-goes g c =
    let old = c.args.self.now in
    let u = waiting old c.args.call c.args.left c.in-Some.location in
    subst (λ j. HasGone j old u Quiet c.args.call c.args.left.items) (sym c.in-Some.ensures.next)
    (record {
      left = c.args.left;
      stage = refl;
      items = sym c.in-Some.ensures.all;
      copies = refl;
      calls = refl;
      told = refl;
    })

pub returns-in-Some-clause-keeps : goal.returns-in-Some-clause-keeps
returns-in-Some-clause-keeps g c v can =
    goes_on_next v c.args.self.now c.args.call c.args.left.items c.in-Some.location c.args.left c.in-Some.ensures.next
    (sym c.in-Some.ensures.all) c.requires.prepared can

-- or it continues
pub returns-in-None-clause-does : goal.returns-in-None-clause-does
returns-in-None-clause-does g c = c.continue_call.ensures.does

pub returns-in-None-clause-goes : goal.returns-in-None-clause-goes
returns-in-None-clause-goes g c = c.continue_call.ensures.goes

pub returns-in-None-clause-keeps : goal.returns-in-None-clause-keeps
returns-in-None-clause-keeps g c = c.continue_call.ensures.keeps
