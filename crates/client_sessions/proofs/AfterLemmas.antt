-- What is left of a program after some replies and then others is what is left, after the others, of what is left after the first. So of
-- the replies that a session has taken in one equation is enough, of what is left after them, whatever is replied later.
use Rattle.std.proofs.Common.{◌≡◌, ℕ, ◌+◌, ◌<◌, List, [], ◌∷◌, ◌++◌, length, take, drop, get_or, take-append-drop, refl, sym, ◌∙◌, ap}
use Rattle.std.proofs.lemmas.List.{take_more}
use Rattle.seq_model.specs.declared.call.Reply.{Reply}
use Rattle.seq_model.specs.Programs.{after, Asks, Answers, GivesUp}
use Rattle.client_sessions.specs.declared.entry.Entry.{Entry}
use Rattle.client_sessions.specs.Sessions.{SessionProgram}

pub after_none : (p : SessionProgram) → after p [] ≡ p
after_none (Asks call next) = refl
after_none (Answers a) = refl
after_none GivesUp = refl

pub after_both : (p : SessionProgram) (first then : List (Reply Entry)) → after p (first ++ then) ≡ after (after p first) then
after_both (Asks call next) [] then = refl
after_both (Asks call next) (reply ∷ first) then = after_both (next reply) first then
after_both (Answers a) first then = refl
after_both GivesUp first then = refl

module _ (p : SessionProgram) (replies : List (Reply Entry)) (i : ℕ) where
  pub after_taken : after p replies ≡ after (after p (take i replies)) (drop i replies)
  after_taken = ap (after p) (sym (take-append-drop i replies)) ∙ after_both p (take i replies) (drop i replies)

  pub after_one : (d : Reply Entry) → i < length replies
      → after p (take (i + 1) replies) ≡ after (after p (take i replies)) (get_or replies i d ∷ [])
  after_one d lt = ap (after p) (take_more replies i d lt) ∙ after_both p (take i replies) (get_or replies i d ∷ [])
