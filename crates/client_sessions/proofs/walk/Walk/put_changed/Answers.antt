use Rattle.std.proofs.Common.{rules, ◌≡◌, ◌∙◌, ap, sym, true, List, []}
use Rattle.std.specs.Prelude.{if◌then◌else◌}
use Rattle.seq_model.specs.declared.call.Reply.{Reply}
use Rattle.seq_model.specs.Programs.{after}
use Rattle.client_sessions.specs.declared.entry.Entry.{Entry}
use Rattle.client_sessions.specs.Drafts.{drafted}
use Rattle.client_sessions.specs.Sessions as programs
use Rattle.client_sessions.proofs.WalkLemmas.{stops_along}
use Rattle.client_sessions.proofs.walk.Walk.put_changed.Goals as goal

pub returns : goal.returns
returns c =
    let d = c.args.draft.now in
    let put : c.is_put.result ≡ true = search rules in
    let none : c.args.self.now ≡ [] = c.passes.ensures.due (search rules) in
    λ next. stops_along _ _ _
    (ap (λ p. after p c.args.self.now)
    (c.is_put.ensures next ∙ ap (λ b. if b then programs.put_customer d.number (drafted d) next else next) put)
    ∙ ap (λ (l : List (Reply Entry)). after (programs.put_customer d.number (drafted d) next) l) none
    ∙ ap (λ w. programs.put_customer d.number w next) (sym (c.in_ok-shared.ensures ∙ c.in_ok-who.ensures)))
    (c.put_customer.ensures next)
