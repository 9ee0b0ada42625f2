use Rattle.std.proofs.Common.{◌∙◌, ap}
use Rattle.std.specs.Option.{option_copied}
use Rattle.std.proofs.lemmas.Result.{err_from_is_err_and}
use Rattle.seq_model.specs.Programs.{after}
use Rattle.client_sessions.specs.Sessions as programs
use Rattle.client_sessions.proofs.WalkLemmas.{along}
use Rattle.client_sessions.proofs.walk.Walk.delete.Goals as goal

pub returns-in_err-who : goal.returns-in_err-who
returns-in_err-who c = let p = err_from_is_err_and c.from_residual.result c.from_residual.ensures.1 in
    rw (p.1, p.2) (c.in_err-who.ensures.comes (programs.delete_found c.args.customer))

pub returns-in-Some : goal.returns-in-Some
returns-in-Some c =
    along _ _ _ _ (c.in_ok-who.ensures.comes (programs.delete_found c.args.customer)
    ∙ ap (λ o. after (programs.delete_found c.args.customer (option_copied o)) c.get_customer.new.self) c.in-Some.is)
    c.delete_from.ensures

pub returns-in-None : goal.returns-in-None
returns-in-None c =
    c.in_ok-who.ensures.comes (programs.delete_found c.args.customer)
    ∙ ap (λ o. after (programs.delete_found c.args.customer (option_copied o)) c.get_customer.new.self) c.in-None.is
