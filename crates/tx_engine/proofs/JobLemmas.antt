-- The calls of a job: none at first, and one more is asked after the replies so far. What it noted of the first replies holds among more.
use Rattle.std.proofs.Common.{◌≡◌, ◌⊎◌, ℕ, Bool, true, false, ◌+◌, ◌<◌, ◌≤◌, List, [], ◌∷◌}
use Rattle.std.proofs.Common.{◌++◌, length, take, get_or, refl, sym, ap, subst, inl, inr, arith, length-append}
use Rattle.std.proofs.Math.Dec.{ltb}
use Rattle.std.proofs.lemmas.Bool.{ltb-false, ltb-true}
use Rattle.std.proofs.lemmas.List.{get_or_append_left, get_or_push, take-append-le, take_at}
use Rattle.seq_model.specs.declared.call.Call.{Call}
use Rattle.seq_model.specs.declared.call.Reply.{Reply}
use Rattle.seq_model.specs.declared.job.Ask.{Ask}
use Rattle.seq_model.specs.declared.job.Ask.TheVariants as ask
use Rattle.seq_model.specs.declared.place.JobPlace.{JobPlace}
use Rattle.seq_model.specs.Places.{IsPlaceIn}
use Rattle.seq_model.specs.Programs.{replies_of}
use Rattle.tx_engine.specs.Jobs.{AreAskedBy}

below_or_at : (i n : ℕ) → i < n + 1 → (i < n) ⊎ (i ≡ n)
below_or_at i n lt = by (ltb i n) refl
  where
    by : (b : Bool) → ltb i n ≡ b → (i < n) ⊎ (i ≡ n)
    by true e = inl (ltb-true i n e)
    by false e = inr (let le = ltb-false i n e in omega (arith, lt, le))

module _ {V : Type 0} (asks : List (Reply V) → Ask V → Type 0) where
  pub none_asked : AreAskedBy asks []
  none_asked i d lt = absurd (omega (arith, lt))

  -- what was asked is asked after these replies, however it and they are written
  pub asked_here : (other replies : List (Reply V)) (was now : Ask V) → other ≡ replies → was ≡ now → asks other was → asks replies now
  asked_here other replies was now same is h =
      subst (λ (k : List (Reply V) × Ask V). asks k.0 k.1) (λ i. (same i, is i)) h

  -- a call among others is asked after the replies to as many as before, if it is the same and so are those before it
  asked_among : (cs ds : List (Call V × Reply V)) (c d : Call V × Reply V) → cs ≡ ds → c ≡ d → asks (replies_of cs) (ask.Call c.0)
      → asks (replies_of ds) (ask.Call d.0)
  asked_among cs ds c d same is = asked_here (replies_of cs) (replies_of ds) (ask.Call c.0) (ask.Call d.0)
      (ap (λ (es : List (Call V × Reply V)). replies_of es) same) (ap (λ (e : Call V × Reply V). ask.Call e.0) is)

  pub asked_more : (calls : List (Call V × Reply V)) (call : Call V) (reply : Reply V) → AreAskedBy asks calls
      → asks (replies_of calls) (ask.Call call) → AreAskedBy asks (calls ++ (call, reply) ∷ [])
  asked_more calls call reply each next i d lt = by (below_or_at i (length calls)
      (omega (arith, lt, length-append calls ((call, reply) ∷ []))))
    where
      by : (i < length calls) ⊎ (i ≡ length calls) → asks (replies_of (take i (calls ++ (call, reply) ∷ [])))
          (ask.Call (get_or (calls ++ (call, reply) ∷ []) i d).0)
      by (inl below) =
          asked_among (take i calls) _ (get_or calls i d) _ (sym (take-append-le i calls ((call, reply) ∷ []) (omega (arith, below))))
          (sym (get_or_append_left calls ((call, reply) ∷ []) d i below)) (each i d below)
      by (inr at) =
          asked_among calls _ (call, reply) _ (sym (take_at calls ((call, reply) ∷ []) i (sym at)))
          (sym (get_or_push calls (call, reply) d i (sym at))) next

  pub replies_more : (calls : List (Call V × Reply V)) (call : Call V) (reply : Reply V)
      → replies_of (calls ++ (call, reply) ∷ []) ≡ replies_of calls ++ reply ∷ []
  replies_more [] call reply = refl
  replies_more (c ∷ cs) call reply = ap (λ (rs : List (Reply V)). c.1 ∷ rs) (replies_more cs call reply)

-- a place among these replies is one among them and further ones
pub place_on : {V : Type 0} (stands : List (Reply V) → JobPlace → Type 0) (replies more : List (Reply V)) (place : JobPlace)
    → IsPlaceIn stands replies place → IsPlaceIn stands (replies ++ more) place
place_on {V} stands replies more place is = (within, by is.1)
  where
    within : place.heard ≤ length (replies ++ more)
    within = omega (arith, is.0, length-append replies more)

    by : (place.heard ≡ 0) ⊎ stands (take place.heard replies) place
        → (place.heard ≡ 0) ⊎ stands (take place.heard (replies ++ more)) place
    by (inl none) = inl none
    by (inr noted) = inr (subst (λ (told : List (Reply V)). stands told place) (sym (take-append-le place.heard replies more is.0)) noted)
