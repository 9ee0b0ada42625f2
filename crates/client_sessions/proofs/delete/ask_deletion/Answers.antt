use Rattle.std.proofs.Common.{◌≡◌, ◌∙◌, ap, List, Some, subst, sym}
use Rattle.std.specs.Prelude.{IfOk}
use Rattle.seq_model.specs.declared.call.Reply.{Reply}
use Rattle.seq_model.specs.Places.{IsPlaceIn}
use Rattle.seq_model.specs.Programs.{after, asked}
use Rattle.client_sessions.specs.declared.entry.Entry.{Entry}
use Rattle.client_sessions.specs.Noted.{HasGivenBack}
use Rattle.client_sessions.specs.Sessions as programs
use Rattle.client_sessions.specs.Sessions.{SessionProgram}
use Rattle.client_sessions.proofs.GivenBackLemmas.{customer_told}
use Rattle.client_sessions.proofs.WalkLemmas.{along}
use Rattle.client_sessions.proofs.delete.ask_deletion.Goals as goal

pub ask_found-requires-clause-place : goal.ask_found-requires-clause-place
ask_found-requires-clause-place c =
    subst (λ (rs : List (Reply Entry)). IsPlaceIn (λ told noted. HasGivenBack told noted.heard) rs c.args.place.now) c.in-Some.ensures.told
    c.requires

pub returns-in-Some-clause-ask : goal.returns-in-Some-clause-ask
returns-in-Some-clause-ask c =
    let who = c.in-Some.who.now in
    let rest = c.in-Some.rest.now in
    let is : after (programs.delete c.args.customer) c.args.replies.now ≡ after (programs.delete_found c.args.customer (Some who)) rest =
    ap (after (programs.delete c.args.customer)) c.in-Some.ensures.told ∙ customer_told c.args.customer who rest c.in-Some.ensures.within in
    subst (λ (p : SessionProgram). IfOk c.ask_found.result (λ ask. ask ≡ asked p)) (sym is) c.ask_found.ensures.ask

pub returns-in-Some-clause-place : goal.returns-in-Some-clause-place
returns-in-Some-clause-place c =
    subst (λ (rs : List (Reply Entry)). IsPlaceIn (λ told noted. HasGivenBack told noted.heard) rs c.ask_found.new.place)
    (sym c.in-Some.ensures.told) c.ask_found.ensures.place

pub returns-in-None-clause-ask : goal.returns-in-None-clause-ask
returns-in-None-clause-ask c =
    c.ask_of.ensures (after (programs.delete c.args.customer) c.args.replies.now)
    (along _ _ _ _ (ap (after (programs.delete c.args.customer)) (sym c.new-walk.ensures)) c.delete.ensures)
