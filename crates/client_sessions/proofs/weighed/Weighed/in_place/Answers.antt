use Rattle.client_sessions.proofs.WeighedLemmas.{none_weighed, weighed_of}
use Rattle.client_sessions.proofs.weighed.Weighed.in_place.Goals as goal

pub returns-then-place-eq0 : goal.returns-then-place-eq0
returns-then-place-eq0 c = λ asks replies is. none_weighed asks replies

pub returns : goal.returns
returns c = λ asks replies is. weighed_of asks replies c.args.place.now c.if-place-eq0.false is
