-- Legal calls that a program asked lead where its run leads. By induction on the calls: the first is the one that the program asks, and its
-- reply is that of the sequential call, so the run continues with what is left of the program at the state after the call.
use Rattle.std.proofs.Common.{◌≡◌, zero, suc, arith, Option, Some, None, refl, List, [], ◌∷◌, sym, ◌∙◌, ap}
use Rattle.std.specs.Prelude.{option_and_then, option_map}
use Rattle.std.specs.Option.{option_map_or}
use Rattle.std.proofs.lemmas.Option.{none-some, same_Some}
use Rattle.seq_model.specs.declared.call.Call.{Call}
use Rattle.seq_model.specs.declared.call.Reply.{Reply}
use Rattle.seq_model.specs.Contents.{Contents, call_of}
use Rattle.seq_model.specs.Runs.{reply_of, after_call, IsLegal, after_calls}
use Rattle.seq_model.specs.declared.job.Ask.TheVariants as ask
use Rattle.seq_model.specs.Programs.{after, replies_of, AreAsked, Program, Asks, Answers, GivesUp, run, Follows}

call_is : {V : Type 0} (call : Call V) (s : Contents V) (reply : Reply V) → reply_of call s ≡ Some reply
    → call_of call s ≡ Some (reply, after_call call s)
call_is {V} call s reply =
    elim (call_of call s) as (λ o. option_map (λ (r : Reply V × Contents V). r.0) o ≡ Some reply
    → o ≡ Some (reply, option_map_or (λ (r : Reply V × Contents V). r.1) o s)) [
      | None ↦ λ e. absurd (none-some reply e)
      | Some x ↦ λ e. (λ j. Some (same_Some x.0 reply e j, x.1))
    ]

pub followed_run : {V A : Type 0} (calls : List (Call V × Reply V)) (p q : Program V A) (s : Contents V) → Follows p calls q
    → IsLegal calls s → run p s ≡ run q (after_calls calls s)
followed_run [] p q s follows legal = ap (λ x. run x s) follows
followed_run (c ∷ cs) (Asks call next) q s follows legal =
    ap (λ x. run (Asks x next) s) (sym follows.0)
    ∙ ap (option_and_then (λ r. run (next r.0) r.1)) (call_is c.0 s c.1 legal.0)
    ∙ followed_run cs (next c.1) q (after_call c.0 s) follows.1 legal.1
followed_run (c ∷ cs) (Answers a) q s follows legal = absurd follows
followed_run (c ∷ cs) GivesUp q s follows legal = absurd follows

-- the calls of a program end with it: what is left after their replies is left after the calls
pub follows_after : {V A : Type 0} (calls : List (Call V × Reply V)) (p q : Program V A) → Follows p calls q
    → after p (replies_of calls) ≡ q
follows_after [] (Asks call next) q follows = follows
follows_after [] (Answers a) q follows = follows
follows_after [] GivesUp q follows = follows
follows_after (c ∷ cs) (Asks call next) q follows = follows_after cs (next c.1) q follows.1
follows_after (c ∷ cs) (Answers a) q follows = absurd follows
follows_after (c ∷ cs) GivesUp q follows = absurd follows

pub same_call : {V : Type 0} (c d : Call V) → ask.Call c ≡ ask.Call d → c ≡ d
same_call c d e = cc

pub done_call : {V : Type 0} (c : Call V) → ask.Done ≡ ask.Call c → ⊥
done_call c e = cc

pub give_up_call : {V : Type 0} (c : Call V) → ask.GiveUp ≡ ask.Call c → ⊥
give_up_call c e = cc

-- calls that were each asked after the replies before them are those that the program asks
pub asked_follow : {V A : Type 0} (calls : List (Call V × Reply V)) (p : Program V A) → AreAsked p calls
    → Follows p calls (after p (replies_of calls))
asked_follow [] (Asks call next) each = refl
asked_follow [] (Answers a) each = refl
asked_follow [] GivesUp each = refl
asked_follow (c ∷ cs) (Asks call next) each =
    (sym (same_call call c.0 (each zero c (omega arith))), asked_follow cs (next c.1) (λ i d lt. each (suc i) d (omega (arith, lt))))
asked_follow (c ∷ cs) (Answers a) each = absurd (done_call c.0 (each zero c (omega arith)))
asked_follow (c ∷ cs) GivesUp each = absurd (give_up_call c.0 (each zero c (omega arith)))
