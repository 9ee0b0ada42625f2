-- Laws of what a script's lines make happen.
use Rattle.std.proofs.Common.{◌≡◌, ◌∙◌, refl, sym, ap, ap₂, subst, ℕ, zero, suc, ◌+◌, ◌<◌, Bool, true, false, List, [], ◌∷◌, ◌++◌, length}
use Rattle.std.proofs.Common.{inl, inr, ◌⊎◌, append_assoc, append-nil, arith}
use Rattle.std.specs.Prelude.{replicate}
use Rattle.std.proofs.lemmas.List.{replicate-append-replicate}
use Rattle.std.proofs.lemmas.Grind.{flat_map-append}
use Rattle.seq_model.specs.declared.event.Event.{Event}
use Rattle.seq_model.specs.declared.event.Event.TheVariants as event
use Rattle.seq_model.specs.declared.event.Notice.{Notice}
use Rattle.seq_model.specs.declared.event.Notice.TheVariants.{Quiet, Answered, Refused}
use Rattle.text_formats.specs.declared.script.EventLine.{EventLine}
use Rattle.text_formats.specs.declared.script.TheConstants.{STEP_LIMIT}
use Rattle.step_world.specs.declared.parts.Parts.{Parts}
use Rattle.step_world.specs.Feeds.{Feeds}
use Rattle.session_text.specs.declared.run.Transcript.{Transcript}
use Rattle.session_text.specs.Plays.{ArePlays, AreSteps, AreTurns, HasPlayed, IsDone, IsOne}
use Rattle.session_text.specs.Plays.{IsPlay, IsStepOf, Keeps, heard, kept_of, telling}
use Rattle.session_text.specs.Plays.{tells_nothing, waiting_after, waiting_then, waits}
use Rattle.session_text.proofs.LeadLemmas.{leads_none, leads_on, leads_one}

-- ---- events after events
after_append : (ws : List Bool) (xs ys : List (Event ℕ)) (ms ns : List (Notice ℕ)) → length ms ≡ length xs
    → waiting_after ws (xs ++ ys) (ms ++ ns) ≡ waiting_after (waiting_after ws xs ms) ys ns
after_append ws [] ys [] ns paired = refl
after_append ws [] ys (m ∷ ms) ns paired = cc
after_append ws (x ∷ xs) ys [] ns paired = cc
after_append ws (x ∷ xs) ys (m ∷ ms) ns paired = after_append (waiting_then ws x (tells_nothing m)) xs ys ms ns (omega arith)

kept_append : (keeps : Bool) (xs ys : List (Event ℕ)) → kept_of keeps (xs ++ ys) ≡ kept_of keeps xs ++ kept_of keeps ys
kept_append true xs ys = refl
kept_append false xs ys = refl

kept_none : (keeps : Bool) → kept_of keeps [] ≡ []
kept_none true = refl
kept_none false = refl

-- events of one kind, and after them events of another
pub played_on : {P Q R : List (Event ℕ) → List (Notice ℕ) → Type 0} {c d u : Parts ℕ} {before then after : Transcript}
    {ws vs us : List Bool}
    → ((xs ys : List (Event ℕ)) (ms ns : List (Notice ℕ)) → length ms ≡ length xs → length ns ≡ length ys → vs ≡ waiting_after ws xs ms
    → P xs ms → Q ys ns → R (xs ++ ys) (ms ++ ns))
    → HasPlayed (Keeps P ws vs) c before d then → HasPlayed (Keeps Q vs us) d then u after → HasPlayed (Keeps R ws us) c before u after
played_on {c = c} {d = d} {u = u} {before = before} {ws = ws} join first second =
    let xs = first.events in
    let ys = second.events in
    let ms = first.told in
    let ns = second.told in
    record {
      events = xs ++ ys;
      told = ms ++ ns;
      kind = (
        join xs ys ms ns first.leads.paired second.leads.paired first.kind.1 first.kind.0 second.kind.0,
        second.kind.1 ∙ ap (λ (z : List Bool). waiting_after z ys ns) first.kind.1 ∙ sym (after_append ws xs ys ms ns first.leads.paired),
      );
      leads = leads_on c d u xs ys ms ns first.leads second.leads;
      heard-of =
          second.heard-of ∙ ap (λ (z : List (Notice ℕ)). z ++ heard ns) first.heard-of
          ∙ append_assoc before.notices (heard ms) (heard ns)
          ∙ ap (λ (z : List (Notice ℕ)). before.notices ++ z) (sym (flat_map-append telling ms ns));
      kept =
          second.kept ∙ ap₂ (λ (z : List (Event ℕ)) (k : Bool). z ++ kept_of k ys) first.kept first.keeps
          ∙ append_assoc before.events (kept_of before.keeps xs) (kept_of before.keeps ys)
          ∙ ap (λ (z : List (Event ℕ)). before.events ++ z) (sym (kept_append before.keeps xs ys));
      keeps = second.keeps ∙ first.keeps;
    }

pub played_as : {P Q : List (Event ℕ) → List (Notice ℕ) → Type 0} {c d : Parts ℕ} {before after : Transcript}
    → ((xs : List (Event ℕ)) (ms : List (Notice ℕ)) → P xs ms → Q xs ms) → HasPlayed P c before d after → HasPlayed Q c before d after
played_as turn has = record {
  events = has.events;
  told = has.told;
  kind = turn has.events has.told has.kind;
  leads = has.leads;
  heard-of = has.heard-of;
  kept = has.kept;
  keeps = has.keeps;
}

pub kept_as : {P Q : List (Event ℕ) → List (Notice ℕ) → Type 0} {c d : Parts ℕ} {before after : Transcript} {ws vs : List Bool}
    → ((xs : List (Event ℕ)) (ms : List (Notice ℕ)) → vs ≡ waiting_after ws xs ms → P xs ms → Q xs ms)
    → HasPlayed (Keeps P ws vs) c before d after → HasPlayed (Keeps Q ws vs) c before d after
kept_as turn has = played_as (λ xs ms kept. (turn xs ms kept.1 kept.0, kept.1)) has

pub played_none : (P : List (Event ℕ) → List (Notice ℕ) → Type 0) (c : Parts ℕ) (before : Transcript) (ws : List Bool)
    → P [] [] → HasPlayed (Keeps P ws ws) c before c before
played_none P c before ws kind = record {
  events = [];
  told = [];
  kind = (kind, refl);
  leads = leads_none c;
  heard-of = sym (append-nil before.notices);
  kept = sym (ap (λ (z : List (Event ℕ)). before.events ++ z) (kept_none before.keeps) ∙ append-nil before.events);
  keeps = refl;
}

-- one event
pub played_one : (c d : Parts ℕ) (before after : Transcript) (e : Event ℕ) (notice : Notice ℕ) (quiet : Bool) (ws vs : List Bool)
    → Feeds c e d notice → after.notices ≡ before.notices ++ telling notice → after.events ≡ before.events ++ kept_of before.keeps (e ∷ [])
    → after.keeps ≡ before.keeps → quiet ≡ tells_nothing notice → vs ≡ waiting_then ws e quiet
    → HasPlayed (Keeps (IsOne e quiet) ws vs) c before d after
played_one c d before after e notice quiet ws vs feeds added kept keeps is_quiet waiting = record {
  events = e ∷ [];
  told = notice ∷ [];
  kind = ((notice, (refl, (refl, is_quiet))), waiting ∙ ap (waiting_then ws e) is_quiet);
  leads = leads_one c d e notice feeds;
  heard-of = added ∙ ap (λ (z : List (Notice ℕ)). before.notices ++ z) (sym (append-nil (telling notice)));
  kept = kept;
  keeps = keeps;
}

pub one_is : (e : Event ℕ) (quiet : Bool) (xs : List (Event ℕ)) (ms : List (Notice ℕ)) → IsOne e quiet xs ms → xs ≡ e ∷ []
one_is e quiet xs ms one = one.1.0

-- ---- steps
-- steps that answered nothing
abbrev pub AreQuietSteps : ℕ → ℕ → List (Event ℕ) → List (Notice ℕ) → Type 0
AreQuietSteps actor n es told = (es ≡ replicate n (event.Step actor)) × (told ≡ replicate n Quiet)

is_quiet : (notice : Notice ℕ) → true ≡ tells_nothing notice → notice ≡ Quiet
is_quiet Quiet e = refl
is_quiet (Answered a answer) e = cc
is_quiet (Refused a cause) e = cc

pub loud_notice : (notice : Notice ℕ) → (notice ≡ Quiet → ⊥) → (false ≡ tells_nothing notice) × (telling notice ≡ notice ∷ [])
loud_notice Quiet loud = absurd (loud refl)
loud_notice (Answered a answer) loud = (refl, refl)
loud_notice (Refused a cause) loud = (refl, refl)

-- a step more that answered nothing
pub quiet_on : (actor n : ℕ) (xs ys : List (Event ℕ)) (ms ns : List (Notice ℕ))
    → AreQuietSteps actor n xs ms → IsOne (event.Step actor) true ys ns → AreQuietSteps actor (n + 1) (xs ++ ys) (ms ++ ns)
quiet_on actor n xs ys ms ns quiet one = (
  ap₂ (λ (z y : List (Event ℕ)). z ++ y) quiet.0 one.1.0 ∙ replicate-append-replicate n 1 (event.Step actor),
  ap₂ (λ (z y : List (Notice ℕ)). z ++ y) quiet.1 (one.1.1.0 ∙ ap (λ z. z ∷ []) (is_quiet one.0 one.1.1.1))
      ∙ replicate-append-replicate n 1 Quiet,
)

steps_all : (actor n : ℕ) → AreSteps actor n (replicate n (event.Step actor)) (replicate n Quiet)
steps_all actor zero = tt
steps_all actor (suc n) = (refl, steps_all actor n)

steps_last : (actor n k : ℕ) (notice : Notice ℕ) → k < n → false ≡ tells_nothing notice
    → AreSteps actor n (replicate k (event.Step actor) ++ event.Step actor ∷ []) (replicate k Quiet ++ notice ∷ [])
steps_last actor zero k notice lt loud = absurd (omega arith)
steps_last actor (suc n) zero Quiet lt loud = cc
steps_last actor (suc n) zero (Answered a answer) lt loud = (refl, refl, refl)
steps_last actor (suc n) zero (Refused a cause) lt loud = (refl, refl, refl)
steps_last actor (suc n) (suc k) notice lt loud = (refl, steps_last actor n k notice (omega arith) loud)

-- all steps answered nothing
pub all_quiet : (actor n k : ℕ) (xs : List (Event ℕ)) (ms : List (Notice ℕ)) → k ≡ n → AreQuietSteps actor k xs ms → AreSteps actor n xs ms
all_quiet actor n k xs ms same quiet = rw (quiet.0, quiet.1, same) (steps_all actor n)

-- the last step answered something
pub loud_last : (actor n k : ℕ) (xs ys : List (Event ℕ)) (ms ns : List (Notice ℕ)) → k < n
    → AreQuietSteps actor k xs ms → IsOne (event.Step actor) false ys ns → AreSteps actor n (xs ++ ys) (ms ++ ns)
loud_last actor n k xs ys ms ns lt quiet one = rw (quiet.0, quiet.1, one.1.0, one.1.1.0) (steps_last actor n k one.0 lt one.1.1.1)

-- ---- lines
pub done_loud : (actor : ℕ) (ask : Event ℕ) (xs : List (Event ℕ)) (ms : List (Notice ℕ)) → IsOne ask false xs ms → IsDone actor ask xs ms
done_loud actor ask xs ms one = rw (one.1.0, one.1.1.0) (told one.0 one.1.1.1)
  where
    told : (notice : Notice ℕ) → false ≡ tells_nothing notice → IsDone actor ask (ask ∷ []) (notice ∷ [])
    told Quiet loud = cc
    told (Answered a answer) loud = (refl, refl, refl)
    told (Refused a cause) loud = (refl, refl, refl)

pub done_quiet : (actor : ℕ) (ask : Event ℕ) (xs ys : List (Event ℕ)) (ms ns : List (Notice ℕ))
    → IsOne ask true xs ms → AreSteps actor STEP_LIMIT ys ns → IsDone actor ask (xs ++ ys) (ms ++ ns)
done_quiet actor ask xs ys ms ns one steps =
    rw (one.1.0, one.1.1.0, is_quiet one.0 one.1.1.1) (refl, steps)

-- ---- turns
-- n turns of two actors, after which these two are the first and the second
abbrev pub AreTurnsTo : ℕ → ℕ → ℕ → List Bool → List (Event ℕ) → List (Notice ℕ) → ℕ → ℕ → Type 0
AreTurnsTo zero first second waiting [] [] then other = (then ≡ first) × (other ≡ second)
AreTurnsTo (suc n) first second waiting (e ∷ es) (notice ∷ told) then other =
    (IsStepOf waiting first e × AreTurnsTo n second first (waiting_then waiting e (tells_nothing notice)) es told then other)
    ⊎ ((waits waiting first ≡ false)
    × (IsStepOf waiting second e × AreTurnsTo n first second (waiting_then waiting e (tells_nothing notice)) es told then other))
AreTurnsTo n first second waiting es told then other = ⊥

pub turns_none : (first second : ℕ) (ws : List Bool) → AreTurnsTo 0 first second ws [] [] first second
turns_none first second ws = (refl, refl)

turns_join : (n k m a b c d p q : ℕ) (ws : List Bool) (xs ys : List (Event ℕ)) (ms ns : List (Notice ℕ)) → m ≡ n + k
    → AreTurnsTo n a b ws xs ms c d → AreTurnsTo k c d (waiting_after ws xs ms) ys ns p q → AreTurnsTo m a b ws (xs ++ ys) (ms ++ ns) p q
turns_join zero k m a b c d p q ws [] ys [] ns sum first second =
    let same : m ≡ k = omega arith in
    rw same (rw (first.0, first.1) at second)
turns_join zero k m a b c d p q ws [] ys (x ∷ ms) ns sum first second = absurd first
turns_join zero k m a b c d p q ws (x ∷ xs) ys ms ns sum first second = absurd first
turns_join (suc n) k m a b c d p q ws [] ys ms ns sum first second = absurd first
turns_join (suc n) k m a b c d p q ws (x ∷ xs) ys [] ns sum first second = absurd first
turns_join (suc n) k zero a b c d p q ws (x ∷ xs) ys (y ∷ ms) ns sum first second = absurd (omega arith)
turns_join (suc n) k (suc m) a b c d p q ws (x ∷ xs) ys (y ∷ ms) ns sum first second =
    let vs = waiting_then ws x (tells_nothing y) in
    let less : m ≡ n + k = omega arith in
    elim first [
      | inl own ↦ inl (own.0, turns_join n k m b a c d p q vs xs ys ms ns less own.1 second)
      | inr other ↦ inr (other.0, (other.1.0, turns_join n k m a b c d p q vs xs ys ms ns less other.1.1 second))
    ]

-- the turn of the first
pub turn_on : (n a b c d : ℕ) (quiet : Bool) (ws vs : List Bool) (xs ys : List (Event ℕ)) (ms ns : List (Notice ℕ))
    → vs ≡ waiting_after ws xs ms
    → waits vs c ≡ true → AreTurnsTo n a b ws xs ms c d → IsOne (event.Step c) quiet ys ns
    → AreTurnsTo (n + 1) a b ws (xs ++ ys) (ms ++ ns) d c
turn_on n a b c d quiet ws vs xs ys ms ns after waiting turns one =
    rw (one.1.0, one.1.1.0)
    (turns_join n 1 (n + 1) a b c d d c ws xs (event.Step c ∷ []) ms (one.0 ∷ []) refl turns
    (inl ((rw after at waiting, refl), (refl, refl))))

-- the first is passed over
pub turn_over : (n a b c d : ℕ) (quiet : Bool) (ws vs : List Bool) (xs ys : List (Event ℕ)) (ms ns : List (Notice ℕ))
    → vs ≡ waiting_after ws xs ms
    → waits vs c ≡ false → waits vs d ≡ true → AreTurnsTo n a b ws xs ms c d → IsOne (event.Step d) quiet ys ns
    → AreTurnsTo (n + 1) a b ws (xs ++ ys) (ms ++ ns) c d
turn_over n a b c d quiet ws vs xs ys ms ns after idle waiting turns one =
    rw (one.1.0, one.1.1.0)
    (turns_join n 1 (n + 1) a b c d c d ws xs (event.Step d ∷ []) ms (one.0 ∷ []) refl turns
    (inr (rw after at idle, ((rw after at waiting, refl), (refl, refl)))))

-- as many as there may be
all_turns : (n a b c d : ℕ) (ws : List Bool) (xs : List (Event ℕ)) (ms : List (Notice ℕ)) → AreTurnsTo n a b ws xs ms c d
    → AreTurns n a b ws xs ms
unfolding AreTurns
all_turns zero a b c d ws [] [] turns = tt
all_turns zero a b c d ws [] (m ∷ ms) turns = absurd turns
all_turns zero a b c d ws (x ∷ xs) ms turns = absurd turns
all_turns (suc n) a b c d ws [] ms turns = absurd turns
all_turns (suc n) a b c d ws (x ∷ xs) [] turns = absurd turns
all_turns (suc n) a b c d ws (x ∷ xs) (m ∷ ms) turns =
    let vs = waiting_then ws x (tells_nothing m) in
    elim turns [
      | inl own ↦ inl (own.0, all_turns n b a c d vs xs ms own.1)
      | inr other ↦ inr (other.0, (other.1.0, all_turns n a b c d vs xs ms other.1.1))
    ]

pub turns_all : (n k a b c d : ℕ) (ws : List Bool) (xs : List (Event ℕ)) (ms : List (Notice ℕ)) → k ≡ n → AreTurnsTo k a b ws xs ms c d
    → AreTurns n a b ws xs ms
turns_all n k a b c d ws xs ms same turns = subst (λ (m : ℕ). AreTurns m a b ws xs ms) same (all_turns k a b c d ws xs ms turns)

-- neither has an unanswered request any more
done_turns : (n k a b c d : ℕ) (ws : List Bool) (xs : List (Event ℕ)) (ms : List (Notice ℕ)) → k < n
    → waits (waiting_after ws xs ms) c ≡ false → waits (waiting_after ws xs ms) d ≡ false → AreTurnsTo k a b ws xs ms c d
    → AreTurns n a b ws xs ms
unfolding AreTurns
done_turns zero k a b c d ws xs ms lt first second turns = absurd (omega arith)
done_turns (suc n) zero a b c d ws [] [] lt first second turns = (rw turns.0 at first, rw turns.1 at second)
done_turns (suc n) zero a b c d ws [] (m ∷ ms) lt first second turns = absurd turns
done_turns (suc n) zero a b c d ws (x ∷ xs) ms lt first second turns = absurd turns
done_turns (suc n) (suc k) a b c d ws [] ms lt first second turns = absurd turns
done_turns (suc n) (suc k) a b c d ws (x ∷ xs) [] lt first second turns = absurd turns
done_turns (suc n) (suc k) a b c d ws (x ∷ xs) (m ∷ ms) lt first second turns =
    let vs = waiting_then ws x (tells_nothing m) in
    let less : k < n = omega arith in
    elim turns [
      | inl own ↦ inl (own.0, done_turns n k b a c d vs xs ms less first second own.1)
      | inr other ↦ inr (other.0, (other.1.0, done_turns n k a b c d vs xs ms less first second other.1.1))
    ]

pub turns_done : (n k a b c d : ℕ) (ws vs : List Bool) (xs : List (Event ℕ)) (ms : List (Notice ℕ)) → k < n → vs ≡ waiting_after ws xs ms
    → waits vs c ≡ false → waits vs d ≡ false → AreTurnsTo k a b ws xs ms c d → AreTurns n a b ws xs ms
turns_done n k a b c d ws vs xs ms lt after first second turns = done_turns n k a b c d ws xs ms lt (rw after at first)
    (rw after at second) turns

-- one more line
plays_on : (ws : List Bool) (lines : List EventLine) (line : EventLine) (xs ys : List (Event ℕ)) (ms ns : List (Notice ℕ))
    → length ns ≡ length ys
    → ArePlays ws lines xs ms → IsPlay (waiting_after ws xs ms) line ys ns → ArePlays ws (lines ++ line ∷ []) (xs ++ ys) (ms ++ ns)
plays_on ws [] line xs ys ms ns paired none play =
    let now : IsPlay ws line ys ns = rw none.0 at play in (
      ys,
      (
        [],
        (
          ns,
          (
            [],
            (
              record {
                events = ap (λ (z : List (Event ℕ)). z ++ ys) none.0 ∙ sym (append-nil ys);
                notices = ap (λ (z : List (Notice ℕ)). z ++ ns) none.1 ∙ sym (append-nil ns);
                paired = paired;
              },
              (now, (refl, refl)),
            ),
          ),
        ),
      ),
    )
plays_on ws (first ∷ lines) line xs ys ms ns paired has play =
    let es = has.0 in
    let fs = has.1.0 in
    let ks = has.1.1.0 in
    let ls = has.1.1.1.0 in
    let rest = has.1.1.1.1 in
    let later : IsPlay (waiting_after (waiting_after ws es ks) fs ls) line ys ns =
    rw (rest.0.events, rest.0.notices, after_append ws es fs ks ls rest.0.paired) at play in (
      es,
      (
        fs ++ ys,
        (
          ks,
          (
            ls ++ ns,
            (
              record {
                events = ap (λ (z : List (Event ℕ)). z ++ ys) rest.0.events ∙ append_assoc es fs ys;
                notices = ap (λ (z : List (Notice ℕ)). z ++ ns) rest.0.notices ∙ append_assoc ks ls ns;
                paired = rest.0.paired;
              },
              (rest.1.0, plays_on (waiting_after ws es ks) lines line fs ys ls ns paired rest.1.1 later),
            ),
          ),
        ),
      ),
    )

pub plays_after : (ws vs : List Bool) (lines : List EventLine) (line : EventLine) (xs ys : List (Event ℕ)) (ms ns : List (Notice ℕ))
    → length ns ≡ length ys
    → vs ≡ waiting_after ws xs ms → ArePlays ws lines xs ms → IsPlay vs line ys ns → ArePlays ws (lines ++ line ∷ []) (xs ++ ys) (ms ++ ns)
plays_after ws vs lines line xs ys ms ns paired after plays play = plays_on ws lines line xs ys ms ns paired plays (rw after at play)
