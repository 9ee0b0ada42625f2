use Rattle.std.proofs.Common.{sym, ◌∙◌, arith}
use Rattle.std.proofs.lemmas.Bool.{false≢true}
use Rattle.seq_model.proofs.ReplayLemmas.{call_step, call_wrong}
use Rattle.seq_model.proofs.auditing.first_wrong.Goals as goal

pub returns-then-not-branch : goal.returns-then-not-branch
returns-then-not-branch g c =
    call_wrong c.args.calls.now c.loop-place.place c.args.state.now c.loop-place.state c.index-calls-place.result (omega arith)
    c.index-calls-place.is c.loop-place.invariant
    (λ e. false≢true (sym c.if-not-branch.true ∙ c.in_ok-replies.ensures.reply.1 e))

pub loop-place-preserved : goal.loop-place-preserved
loop-place-preserved g c =
    call_step c.args.calls.now c.loop-place.place c.args.state.now c.loop-place.state c.replies.new.state c.index-calls-place.result
    (omega arith) c.index-calls-place.is c.loop-place.invariant
    (c.in_ok-replies.ensures.reply.0 c.if-not-branch.false) (c.in_ok-replies.ensures.state c.if-not-branch.false)
