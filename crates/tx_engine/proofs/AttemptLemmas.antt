-- The result of an attempt, by the results of its requests.
--
-- Each request keeps the receipts, and leaves the transaction open with the calls so far, or there is none; so the attempt's result is put
-- together at its end. A call past the limit of calls is refused as it is asked, so a job is answered no more calls than that.
use Rattle.std.proofs.Common.{◌≡◌, ℕ, ◌+◌, ◌<◌, ◌≤◌, Bool, true, false, List, [], ◌∷◌, ◌++◌, length, None, Ok, Err}
use Rattle.std.proofs.Common.{inl, inr, refl, sym, ap, ◌∙◌, subst, arith}
use Rattle.std.proofs.Math.Dec.{ltb}
use Rattle.std.proofs.lemmas.Bool.{ltb-false, ltb-true}
use Rattle.std.proofs.lemmas.List.{append_assoc, length-map}
use Rattle.seq_model.specs.declared.call.Call.{Call}
use Rattle.seq_model.specs.declared.call.Reply.{Reply}
use Rattle.seq_model.specs.declared.event.Answer.TheVariants as answer
use Rattle.seq_model.specs.declared.event.Event.TheVariants.{Ask as Asks}
use Rattle.seq_model.specs.declared.event.Notice.{Notice}
use Rattle.seq_model.specs.declared.event.Notice.TheVariants.{Answered, Quiet, Refused}
use Rattle.seq_model.specs.declared.event.Request.TheVariants as request
use Rattle.seq_model.specs.declared.limits.TheConstants.{CALL_LIMIT}
use Rattle.seq_model.specs.declared.record.Record.{Record}
use Rattle.seq_model.specs.declared.refusal.Refusal.{Refusal}
use Rattle.seq_model.specs.declared.refusal.Refusal.TheVariants.{Memory as OutOfMemory}
use Rattle.seq_model.specs.Runs.{is_writer}
use Rattle.replay_log.proofs.AskLemmas.{no_such, too_long}
use Rattle.replay_log.specs.Seats as worlds
use Rattle.replay_log.specs.Seats.{Ended, World}
use Rattle.replay_log.specs.WorldAnswers.{is_there}
use Rattle.replay_log.specs.Worlds.{happens}
use Rattle.seq_model.specs.declared.job.Ask.{Ask}
use Rattle.seq_model.specs.declared.job.Ask.TheVariants as ask
use Rattle.seq_model.specs.Programs.{replies_of}
use Rattle.tx_actor.specs.declared.actor.ActorNotice.TheVariants as told
use Rattle.shared_table.specs.declared.seat.Seat.{Seat}
use Rattle.shared_table.specs.Seated.{actor, acts, view}
use Rattle.actor_laws.specs.KnownStages.{Rests, Stands, known_stage_at}
use Rattle.tx_engine.proofs.CallLemmas.{stands_at}
pub use Rattle.tx_engine.proofs.RequestLemmas.{keeps_self}
use Rattle.tx_engine.proofs.RequestLemmas.{then_keeps, told_later, told_on}
use Rattle.tx_engine.specs.Ready.{standing}
use Rattle.tx_turns.specs.Begins.{begins_of}
use Rattle.tx_engine.specs.Requests.{CallsTo, CommitsTo, HasAborted, HasCommitted, HasSameAborted, IsAnswered, IsBegun, IsLastAborted}
use Rattle.tx_engine.specs.Requests.{IsOpen, KeepsReceipts, told_of}
use Rattle.tx_engine.proofs.GainLemmas.{aborts_still, gains, gains_broken, gains_for}
use Rattle.tx_engine.proofs.JobLemmas.{asked_more, none_asked, replies_more}
use Rattle.tx_engine.specs.Attempts.{Aborts, EndsAs, HasBegun, HasGivenUp, HasMade, IsAt, IsCallRefused, IsSoFar, IsStarved, IsUnmade}
use Rattle.tx_engine.specs.Attempts.{Reaches, ask_of}
use Rattle.tx_engine.specs.Jobs.{AreAskedBy}
use Rattle.tx_engine.specs.declared.attempts.End.{End}
use Rattle.tx_engine.specs.declared.attempts.End.TheVariants as ends

module _ {V : Type 0} where
  -- ---- a call that is answered was within the limit
  pub same_calls : (calls cs : List (Call V × Reply V)) → Stands calls ≡ Stands cs → calls ≡ cs
  same_calls calls cs e = cc

  module _ (o : World V) (s u : Seat V) (call : Call V) (reply : Reply V) (calls : List (Call V × Reply V))
      (stands : standing o s ≡ Stands calls) where
    abbrev w : World V
    w = acts o s

    abbrev a : ℕ
    a = actor s

    at_open : (w.seats a).stage ≡ worlds.Open
    at_open = stands_at (w.seats a).calls calls (w.seats a).stage stands

    calls_are : (w.seats a).calls ≡ calls
    calls_are = same_calls (w.seats a).calls calls (sym (ap (known_stage_at (w.seats a).calls) at_open) ∙ stands)

    -- what is answered at once past the limit
    refuses : CALL_LIMIT ≤ length (w.seats a).calls → (b : Bool) → is_there w a call.target call.op ≡ b
        → (cause : Refusal) × ((happens w (Asks a (request.Call call))).1 ≡ Refused a cause)
    refuses long true there = (_, ap (λ (r : World V × Notice V). r.1) (too_long w a call.target call.op at_open there long))
    refuses long false there = (_, ap (λ (r : World V × Notice V). r.1) (no_such w a call.target call.op at_open there))

    past_never : CALL_LIMIT ≤ length (w.seats a).calls → CallsTo o s call u (Ok reply) → ⊥
    past_never long C = by C.answered
      where
        no : (cause : Refusal) × ((happens w (Asks a (request.Call call))).1 ≡ Refused a cause)
        no = refuses long (is_there w a call.target call.op) refl

        by : IsAnswered o s (request.Call call) u (told_of (Ok reply)) → ⊥
        by (inl is) = (let e : Answered a (answer.Replied reply) ≡ Refused a no.0 = is ∙ no.1 in cc)
        by (inr (inl is)) = (let e : Quiet ≡ Refused a no.0 = is.0 ∙ no.1 in cc)
        by (inr (inr is)) = (let e = is.0 in cc)

    pub within_limit : CallsTo o s call u (Ok reply) → length calls < CALL_LIMIT
    within_limit C = by (ltb (length calls) CALL_LIMIT) refl
      where
        by : (b : Bool) → ltb (length calls) CALL_LIMIT ≡ b → length calls < CALL_LIMIT
        by true e = ltb-true (length calls) CALL_LIMIT e
        by false e =
            absurd (past_never (subst (λ (cs : List (Call V × Reply V)). CALL_LIMIT ≤ length cs) (sym calls_are)
            (ltb-false (length calls) CALL_LIMIT e)) C)

  -- ---- the one transaction that has begun
  abbrev pub has_begun : (o : World V) (s b m : Seat V) (number : ℕ) → IsBegun false o s b number → begins_of b ≡ begins_of s + 1
      → Aborts o s b [] → KeepsReceipts b m → begins_of m ≡ begins_of b → HasBegun o s m
  has_begun o s b m number begun asked aborts since begins = record {
    once = begins ∙ asked;
    first = b;
    number = number;
    begun = begun;
    asked = asked;
    since = since;
    aborts = aborts;
  }

  -- ---- one request more
  module _ (asks : List (Reply V) → Ask V → Type 0) (o : World V) where
    -- what is asked after the replies is asked after those to the calls
    asked_so_far : (s : Seat V) (replies : List (Reply V)) (next : Ask V) (k : IsSoFar asks o s replies) → asks replies next
        → asks (replies_of k.calls) next
    asked_so_far s replies next k h = subst (λ (rs : List (Reply V)). asks rs next) k.replies_are h

    at_now : (s : Seat V) (replies : List (Reply V)) (next : Ask V) (k : IsSoFar asks o s replies) → asks replies next
        → IsAt asks o (acts o s).aborted s s k.calls next
    at_now s replies next k h = record {
      keeps = keeps_self s;
      aborts = refl;
      stands = k.stands;
      each = k.each;
      asked = asked_so_far s replies next k h;
    }

    pub fresh_so_far : (s : Seat V) → standing o s ≡ Stands [] → IsSoFar asks o s []
    fresh_so_far s stands = record { calls = []; stands = stands; each = none_asked asks; replies_are = refl }

    pub reaches_now : (s : Seat V) (replies : List (Reply V)) (e : End) → IsSoFar asks o s replies → asks replies (ask_of asks o e)
        → Reaches asks o (acts o s).aborted s s e
    reaches_now s replies e k h = (k.calls, at_now s replies (ask_of asks o e) k h)

    pub call_refused : (s u : Seat V) (replies : List (Reply V)) (call : Call V) (cause : Refusal) → IsSoFar asks o s replies
        → asks replies (ask.Call call) → CallsTo o s call u (Err cause) → IsCallRefused asks o (acts o s).aborted s u cause
    call_refused s u replies call cause k h C = record {
      calls = k.calls;
      call = call;
      before = s;
      at = at_now s replies (ask.Call call) k h;
      refused = C;
    }

    -- an allocation fails, after these replies to the calls so far
    pub starved : (s m : Seat V) (replies : List (Reply V)) → KeepsReceipts s m → HasSameAborted o s m → IsSoFar asks o m replies
        → IsStarved asks o (acts o s).aborted s m OutOfMemory
    starved s m replies kept same k =
        record { memory = refl; keeps = kept; aborts = same; calls = k.calls; stands = k.stands; each = k.each }

    pub call_made : (s u : Seat V) (replies : List (Reply V)) (call : Call V) (reply : Reply V) → IsSoFar asks o s replies
        → asks replies (ask.Call call) → CallsTo o s call u (Ok reply) → IsSoFar asks o u (replies ++ reply ∷ [])
    call_made s u replies call reply k h C = record {
      calls = k.calls ++ (call, reply) ∷ [];
      stands = C.leaves k.calls k.stands;
      each = asked_more asks k.calls call reply k.each (asked_so_far s replies (ask.Call call) k h);
      replies_are = ap (λ (rs : List (Reply V)). rs ++ reply ∷ []) k.replies_are ∙ sym (replies_more asks k.calls call reply);
    }

    -- its transaction is open then
    pub call_adds_none : (s u : Seat V) (replies : List (Reply V)) (call : Call V) (reply : Reply V) → IsSoFar asks o s replies
        → CallsTo o s call u (Ok reply) → HasSameAborted o s u
    call_adds_none s u replies call reply k C = C.same (k.calls ++ (call, reply) ∷ [], C.leaves k.calls k.stands)

    pub call_within : (s u : Seat V) (replies : List (Reply V)) (call : Call V) (reply : Reply V) → IsSoFar asks o s replies
        → CallsTo o s call u (Ok reply) → length replies < CALL_LIMIT
    call_within s u replies call reply k C =
        let lt : length k.calls < CALL_LIMIT = within_limit o s u call reply k.calls k.stands C in
        let e : length replies ≡ length k.calls = ap length k.replies_are ∙ length-map k.calls (λ (c : Call V × Reply V). c.1) in
        omega (arith, lt, e)

    -- ---- from where the attempt began
    module _ (es fs : List (Ended V)) (s m u : Seat V) (kept : KeepsReceipts s m) (same : fs ≡ es) where
      at_before : (calls : List (Call V × Reply V)) (next : Ask V) → IsAt asks o fs m u calls next → IsAt asks o es s u calls next
      at_before calls next k = record {
        keeps = then_keeps s m u kept k.keeps;
        aborts = k.aborts ∙ same;
        stands = k.stands;
        each = k.each;
        asked = k.asked;
      }

      pub reaches_before : (e : End) → Reaches asks o fs m u e → Reaches asks o es s u e
      reaches_before e k = (k.0, at_before k.0 (ask_of asks o e) k.1)

    pub unmade_before : (es fs : List (Ended V)) (s m u : Seat V) → KeepsReceipts s m → fs ≡ es → (cause : Refusal)
        → IsUnmade asks o fs m u cause → IsUnmade asks o es s u cause
    unmade_before es fs s m u kept same cause (inl k) = inl record {
      calls = k.calls;
      call = k.call;
      before = k.before;
      at = at_before es fs s m k.before kept same k.calls (ask.Call k.call) k.at;
      refused = k.refused;
    }
    unmade_before es fs s m u kept same cause (inr k) = inr record {
      memory = k.memory;
      keeps = then_keeps s m u kept k.keeps;
      aborts = k.aborts ∙ same;
      calls = k.calls;
      stands = k.stands;
      each = k.each;
    }

    -- ---- its end
    -- the job has reached this end
    pub at_end : (es : List (Ended V)) (b m : Seat V) (e end : End) → e ≡ end → Reaches asks o es b m e → Reaches asks o es b m end
    at_end es b m e end is k = subst (λ (f : End). Reaches asks o es b m f) is k

    pub has_made : (s b m u : Seat V) (r : Record V) → KeepsReceipts s b → (begun : HasBegun o s m)
        → Reaches asks o (acts o begun.first).aborted b m ends.Done → CommitsTo o m u (Ok r)
        → (r.writes ≡ false → is_writer r.calls ≡ false) → (r.writes ≡ true → m.last < r.number)
        → (m.last ≤ r.number) × (u.last ≡ r.number) → HasMade asks o s u r
    has_made s b m u r kept begun done made reads above last =
        let es : List (Ended V) = (acts o begun.first).aborted in
        let k : IsAt asks o es s m done.0 ask.Done = at_before es es s b m kept refl done.0 ask.Done done.1 in
        let e : done.0 ≡ r.calls = same_calls done.0 r.calls (sym k.stands ∙ made.calls) in
        let C = made.committed in
        let same : m.last ≡ s.last = k.keeps.seat.2 in
        let low = last.0 in record {
          job = record {
            each = subst (λ (cs : List (Call V × Reply V)). AreAskedBy asks cs) e k.each;
            done = subst (λ (cs : List (Call V × Reply V)). asks (replies_of cs) ask.Done) e k.asked;
          };
          gains = C.receipts
              ∙ (λ i. k.keeps.receipts i ++ (k.keeps.seat.1 i, r) ∷ []);
          shares = C.shares ∙ k.keeps.shares;
          joined = C.joined ∙ k.keeps.joined;
          above = λ yes. (let lt = above yes in omega (arith, lt, same));
          last = (omega (arith, low, same), last.1);
          before = m;
          begun = begun;
          at = subst (λ (cs : List (Call V × Reply V)). IsAt asks o es s m cs ask.Done) e k;
          writes = made.writes;
          reads = reads;
          committed = C;
          aborts = aborts_still o s m u [] (aborts_still o s begun.first m [] begun.aborts k.aborts) made.same;
        }

    pub commit_refused : (s b m u : Seat V) (cause : Refusal) → KeepsReceipts s b → (begun : HasBegun o s m)
        → Reaches asks o (acts o begun.first).aborted b m ends.Done → CommitsTo o m u (Err cause) → EndsAs asks o s u (Err cause)
    commit_refused s b m u cause kept begun done C =
        let es : List (Ended V) = (acts o begun.first).aborted in
        let k : IsAt asks o es s m done.0 ask.Done = at_before es es s b m kept refl done.0 ask.Done done.1 in (
          then_keeps s m u k.keeps C.keeps,
          inr (inl record {
            calls = done.0;
            before = m;
            begun = begun;
            at = k;
            ended = C.ended (done.0, k.stands);
            kind = C.kinds;
            gains = gains_for o s begun.first m u done.0 cause begun.aborts k.aborts k.keeps.seat.1 k.stands
                (C.aborted (done.0, k.stands));
          }),
        )

    pub given_up : (s b m u : Seat V) → KeepsReceipts s b → (begun : HasBegun o s m)
        → Reaches asks o (acts o begun.first).aborted b m ends.GivenUp → KeepsReceipts m u
        → (IsOpen o m → HasAborted o m u) → (IsOpen o m → IsLastAborted o m u None) → HasGivenUp asks o s u
    given_up s b m u kept begun done ended aborted noted =
        let es : List (Ended V) = (acts o begun.first).aborted in
        let k : IsAt asks o es s m done.0 ask.GiveUp = at_before es es s b m kept refl done.0 ask.GiveUp done.1 in
        record {
          keeps = then_keeps s m u k.keeps ended;
          calls = done.0;
          before = m;
          begun = begun;
          at = k;
          aborted = aborted (done.0, k.stands);
          gains = gains o s begun.first m u done.0 None begun.aborts k.aborts k.keeps.seat.1 k.stands (noted (done.0, k.stands));
        }

    pub broken_off : (s b m u : Seat V) (cause : Refusal) → KeepsReceipts s b → KeepsReceipts b m → (begun : HasBegun o s m)
        → IsUnmade asks o (acts o begun.first).aborted b m cause → KeepsReceipts m u → (IsOpen o m → HasAborted o m u)
        → (IsOpen o m → IsLastAborted o m u None) → (standing o m ≡ Rests → u ≡ m) → EndsAs asks o s u (Err cause)
    broken_off s b m u cause kept keeps begun unmade ended aborted noted none =
        let es : List (Ended V) = (acts o begun.first).aborted in
        let whole : IsUnmade asks o es s m cause = unmade_before es es s b m kept refl cause unmade in (
          then_keeps s b u kept (then_keeps b m u keeps ended),
          inr (inr record {
            left = m;
            begun = begun;
            unmade = whole;
            keeps = ended;
            aborted = aborted;
            gains = gains_broken o asks s begun.first m u cause begun.aborts noted none whole;
          }),
        )

    -- ---- what was open before was aborted
    pub aborted_first : (s b u : Seat V) → KeepsReceipts b u → (IsOpen o s → HasAborted o s b) → IsOpen o s → HasAborted o s u
    aborted_first s b u kept was stood = told_on o s b u (told.Answered answer.Aborted) kept (was stood)

    pub aborted_and_made : (s b m u : Seat V) (r : Record V) → KeepsReceipts b m → HasCommitted o m u r → (IsOpen o s → HasAborted o s b)
        → IsOpen o s → HasAborted o s u
    aborted_and_made s b m u r kept made was stood =
        let d = made.told.1 in
        told_later o s m u (told.Answered answer.Aborted) (d.before ++ d.turn ∷ d.after)
        (d.turns ∙ append_assoc (view m).turns d.before (d.turn ∷ d.after)) (aborted_first s b m kept was stood)
