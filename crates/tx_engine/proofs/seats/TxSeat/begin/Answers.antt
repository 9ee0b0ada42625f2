use Rattle.std.proofs.Common.{◌∙◌, ap, arith, false}
use Rattle.seq_model.specs.declared.event.Answer.TheVariants as answer
use Rattle.tx_actor.specs.declared.actor.ActorNotice.TheVariants as told
use Rattle.shared_table.specs.Seated.{acts, opening_of}
use Rattle.tx_engine.proofs.AskLemmas.{asked_to_begin}
use Rattle.tx_engine.proofs.ReadyLemmas.{begun_ready}
use Rattle.tx_engine.proofs.RequestLemmas.{begun_since, told_on}
use Rattle.tx_engine.specs.declared.seats.TxSeat.{TxSeat}
use Rattle.tx_engine.proofs.seats.TxSeat.begin.Goals as goal

pub returns-clause-begun : goal.returns-clause-begun
returns-clause-begun g c =
    (begun_since false (opening_of c.args.table.now) c.args.self.now.seat c.abort.new.self.seat c.begin.new.seat c.begin.result
    c.abort.ensures.keeps c.begin.ensures.begun c.begin.ensures.refused).0

pub returns-clause-refused : goal.returns-clause-refused
returns-clause-refused g c =
    (begun_since false (opening_of c.args.table.now) c.args.self.now.seat c.abort.new.self.seat c.begin.new.seat c.begin.result
    c.abort.ensures.keeps c.begin.ensures.begun c.begin.ensures.refused).1

pub returns-clause-begins : goal.returns-clause-begins
returns-clause-begins g c = (let more = c.begin.ensures.begins in let same = c.abort.ensures.begins in omega (arith, more, same))

pub returns-clause-asks : goal.returns-clause-asks
returns-clause-asks g c =
    asked_to_begin false (opening_of c.args.table.now) c.args.self.now.seat c.abort.new.self.seat c.begin.new.seat c.abort.ensures.asks
    (λ rests. ap (λ k. k.seat) (c.abort.ensures.none rests)) c.begin.ensures.asks

pub returns-clause-aborted : goal.returns-clause-aborted
returns-clause-aborted g c opened =
    told_on (opening_of c.args.table.now) c.args.self.now.seat c.abort.new.self.seat c.begin.new.seat (told.Answered answer.Aborted)
    c.begin.ensures.keeps (c.abort.ensures.aborted opened)

pub returns-clause-ready : goal.returns-clause-ready
returns-clause-ready g c =
    begun_ready false c.args.table.now c.args.self.now c.abort.new.self _ c.begin.result c.requires.ready
    c.begin.ensures.drives c.begin.ensures.begun
    c.begin.ensures.refused

pub returns-clause-noted : goal.returns-clause-noted
returns-clause-noted g c opened = c.begin.ensures.same ∙ c.abort.ensures.noted opened

pub returns-clause-same : goal.returns-clause-same
returns-clause-same g c rests =
    c.begin.ensures.same ∙ ap (λ (k : TxSeat _). (acts (opening_of c.args.table.now) k.seat).aborted) (c.abort.ensures.none rests)
