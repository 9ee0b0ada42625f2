-- All records are listed, each with what its own session answered.
-- Of each actor the sessions that are left begin with those of its records that are left; so the next one is that of its next record.
use Rattle.std.proofs.Common.{◌≡◌, ℕ, zero, suc, ◌+◌, ◌<◌, eqb, eq-eqb, ne_eqb, List, [], ◌∷◌, ◌++◌, length, drop}
use Rattle.std.proofs.Common.{inl, inr, refl, sym, ◌∙◌, ap, subst, arith, get_or}
use Rattle.std.specs.Prelude.{◌-◌, None, Option, Some, slice_get, slice_set}
use Rattle.std.proofs.lemmas.Bool.{cases_eq, cond-false, cond-true}
use Rattle.std.proofs.lemmas.Option.{slice_get-get_or, none-some, same_Some}
use Rattle.std.proofs.lemmas.List.{append_assoc, append-nil, get_or-set_other, get_or-set_same}
use Rattle.seq_model.specs.declared.record.Record.{Record}
use Rattle.seq_model.specs.Programs.{Answers, after, asked, replies_of}
use Rattle.seq_model.specs.declared.job.Ask.TheVariants as ask
use Rattle.seq_model.proofs.ProgramLemmas.{follows_after}
use Rattle.vac_model.specs.declared.action.Action.{Action}
use Rattle.vac_model.specs.declared.action.ActionReply.{ActionReply}
use Rattle.client_sessions.specs.declared.entry.Entry.{Entry}
use Rattle.client_sessions.specs.Runs.{Deal}
use Rattle.client_sessions.specs.Sessions.{SessionProgram, session}
use Rattle.vacation_core.specs.Serial.{actions_of}
use Rattle.vacation_core.specs.CommittedAnswers.{AreFirst, AreOwn, HaveFirst, IsToldOne, Told}
use Rattle.vacation_core.specs.CommittedAnswers.{sessions_found, sessions_in, sessions_of, told_all}
use Rattle.vacation_core.specs.CommittedAnswers.{told_by, told_of}
use Rattle.vacation_core.specs.declared.client.Client.{Client}

-- ---- lists

first_same : {X : Type 0} → (x y : X) (xs ys : List X) → x ∷ xs ≡ y ∷ ys → x ≡ y
first_same x y xs ys e = cc

rest_same : {X : Type 0} → (x y : X) (xs ys : List X) → x ∷ xs ≡ y ∷ ys → xs ≡ ys
rest_same x y xs ys e = cc

none_first : {X : Type 0} → (y : X) (ys : List X) → [] ≡ y ∷ ys → ⊥
none_first y ys e = cc

-- the entry at n, and what comes after it
pub drop_first : {X : Type 0} → (xs : List X) (n : ℕ) (y : X) (ys : List X) → drop n xs ≡ y ∷ ys
    → (slice_get xs n ≡ Some y) × (drop (suc n) xs ≡ ys)
drop_first [] zero y ys e = absurd (none_first y ys e)
drop_first [] (suc n) y ys e = absurd (none_first y ys e)
drop_first (x ∷ xs) zero y ys e = (ap Some (first_same x y xs ys e), rest_same x y xs ys e)
drop_first (x ∷ xs) (suc n) y ys e = drop_first xs n y ys e

-- ---- the actions of the records of an actor

acts_own : (d : Deal) (r : ℕ × Record Entry) (ds : List Deal) (rs : List (ℕ × Record Entry))
    → actions_of r.0 (d ∷ ds) (r ∷ rs) ≡ d.0 ∷ actions_of r.0 ds rs
acts_own d r ds rs = cond-true (eqb r.0 r.0) _ _ (eq-eqb r.0 r.0 refl)

acts_other : (a : ℕ) (d : Deal) (r : ℕ × Record Entry) (ds : List Deal) (rs : List (ℕ × Record Entry)) → (r.0 ≡ a → ⊥)
    → actions_of a (d ∷ ds) (r ∷ rs) ≡ actions_of a ds rs
acts_other a d r ds rs other = cond-false (eqb r.0 a) _ _ (ne_eqb r.0 a other)

-- ---- one record

-- the actor of the record is the client at place i, this one, and so many of its sessions are listed so far
pub record IsEntryAt (cs : List Client) (ns : List ℕ) (r : ℕ × Record Entry) (i : ℕ) (c : Client) (place : ℕ) : Type 0 where
  pub actor : r.0 ≡ suc i
  pub client : slice_get cs i ≡ Some c
  pub within : i < length ns
  pub told : place ≡ get_or ns i 0

module _ (cs : List Client) (ns : List ℕ) (d : Deal) (r : ℕ × Record Entry) (ds : List Deal) (rs : List (ℕ × Record Entry))
    (are : AreOwn cs ns (d ∷ ds) (r ∷ rs)) where
  -- the next session of its actor
  own_next : drop (told_of ns r.0) (sessions_in cs r.0) ≡ d.0 ∷ (actions_of r.0 ds rs ++ (are.own r.0).0)
  own_next = sym (are.own r.0).1 ∙ ap (λ xs. xs ++ (are.own r.0).0) (acts_own d r ds rs)

  next_left : (i : ℕ) (c : Client) (place : ℕ) → IsEntryAt cs ns r i c place
      → drop place (sessions_of c) ≡ d.0 ∷ (actions_of r.0 ds rs ++ (are.own r.0).0)
  next_left i c place at =
      (λ j. drop (at.told j) (sessions_found (sym at.client j)))
      ∙ (λ j. drop (told_of ns (sym at.actor j)) (sessions_in cs (sym at.actor j))) ∙ own_next

  next_is : (i : ℕ) (c : Client) (place : ℕ) (s : Action) → IsEntryAt cs ns r i c place → slice_get (sessions_of c) place ≡ Some s → s ≡ d.0
  next_is i c place s at found =
      same_Some s d.0 (sym found ∙ (drop_first (sessions_of c) place d.0 _ (next_left i c place at)).0)

  is_whole : after (session d.0) (replies_of r.1.calls) ≡ Answers d.1
  is_whole = follows_after r.1.calls (session d.0) (Answers d.1) are.sessions.0.whole

  -- and what is left then
  rest_are : (i n : ℕ) (ms : List ℕ) → r.0 ≡ suc i → get_or ms i 0 ≡ suc (get_or ns i 0) → ((j : ℕ) → (j ≡ i → ⊥)
      → get_or ms j 0 ≡ get_or ns j 0)
      → AreOwn cs ms ds rs
  rest_are i n ms at here there = record {
    sessions = are.sessions.1;
    own = λ a. elim (cases_eq r.0 a) [
      | inl is ↦
          subst (λ b. AreFirst (actions_of b ds rs) (drop (told_of ms b) (sessions_in cs b))) is (
            (are.own r.0).0,
            sym (drop_first (sessions_in cs r.0) (told_of ns r.0) d.0 _ own_next).1
                ∙ ap (λ k. drop k (sessions_in cs r.0)) (sym (own_told)),
          )
      | inr other ↦ (
        (are.own a).0,
        ap (λ xs. xs ++ (are.own a).0) (sym (acts_other a d r ds rs other)) ∙ (are.own a).1
            ∙ ap (λ k. drop k (sessions_in cs a)) (sym (other_told a other)),
      )
    ];
  }
    where
      own_told : told_of ms r.0 ≡ suc (told_of ns r.0)
      own_told = ap (told_of ms) at ∙ here ∙ ap suc (sym (ap (told_of ns) at))

      by : (a : ℕ) → (suc i ≡ a → ⊥) → told_of ms a ≡ told_of ns a
      by zero other = refl
      by (suc j) other = there j (λ e. other (sym (ap suc e)))

      other_told : (a : ℕ) → (r.0 ≡ a → ⊥) → told_of ms a ≡ told_of ns a
      other_told a other = by a (λ e. other (at ∙ e))

-- its actor is one of the clients
pub actor_in : (cs : List Client) (ns : List ℕ) (r : ℕ × Record Entry) → HaveFirst cs ns r → (0 < r.0) × (r.0 - 1 < length cs)
actor_in cs ns r h = by r.0 _ (own_next cs ns h.deal r h.deals h.records h.are)
  where
    none_in : (n : ℕ) (y : Action) (ys : List Action) → drop n [] ≡ y ∷ ys → ⊥
    none_in zero y ys e = none_first y ys e
    none_in (suc n) y ys e = none_first y ys e

    inside : (xs : List Client) (i : ℕ) (c : Client) → slice_get xs i ≡ Some c → i < length xs
    inside [] i c e = absurd (none-some c e)
    inside (x ∷ xs) zero c e = omega arith
    inside (x ∷ xs) (suc i) c e = (let lt = inside xs i c e in omega (arith, lt))

    found : (i n : ℕ) (o : Option Client) (ys : List Action) → slice_get cs i ≡ o → drop n (sessions_found o) ≡ h.deal.0 ∷ ys
        → i < length cs
    found i n None ys at e = absurd (none_in n h.deal.0 ys e)
    found i n (Some c) ys at e = inside cs i c at

    by : (a : ℕ) (ys : List Action) → drop (told_of ns a) (sessions_in cs a) ≡ h.deal.0 ∷ ys → (0 < a) × (a - 1 < length cs)
    by zero ys e = absurd (none_first h.deal.0 ys e)
    by (suc i) ys e = (omega arith, let lt = found i (told_of ns (suc i)) (slice_get cs i) ys refl e in omega (arith, lt))

-- a number that was found is the one that stands there
same_found : (ns : List ℕ) (i n : ℕ) → i < length ns → slice_get ns i ≡ Some n → n ≡ get_or ns i 0
same_found ns i n lt found = same_Some n (get_or ns i 0) (sym found ∙ slice_get-get_or ns i 0 lt)

-- which is at its place
pub is_at : (cs : List Client) (ns : List ℕ) (r : ℕ × Record Entry) (c : Client) (place : ℕ) → HaveFirst cs ns r → length ns ≡ length cs
    → (r.0 - 1 < length cs → slice_get cs (r.0 - 1) ≡ Some c) → (r.0 - 1 < length ns → slice_get ns (r.0 - 1) ≡ Some place)
    → IsEntryAt cs ns r (r.0 - 1) c place
is_at cs ns r c place h count client told =
    let there = actor_in cs ns r h in
    let some = there.0 in
    let lt = there.1 in
    let within : r.0 - 1 < length ns = omega (arith, lt, count) in
    record {
      actor = omega (arith, some);
      client = client lt;
      within = within;
      told = same_found ns (r.0 - 1) place within (told within);
    }

-- and has a session that is to be listed
pub session_in : (cs : List Client) (ns : List ℕ) (r : ℕ × Record Entry) (i : ℕ) (c : Client) (place : ℕ) → HaveFirst cs ns r
    → IsEntryAt cs ns r i c place → slice_get (sessions_of c) place ≡ None → ⊥
session_in cs ns r i c place h at none =
    let there = next_left cs ns h.deal r h.deals h.records h.are i c place at in
    none-some h.deal.0 (sym none ∙ (drop_first (sessions_of c) place h.deal.0 _ there).0)

answers_same : (x y : ActionReply) → ◌≡◌ {A = SessionProgram} (Answers x) (Answers y) → x ≡ y
answers_same x y e = cc

-- its session is done by its receipt
pub first_done : (cs : List Client) (ns : List ℕ) (r : ℕ × Record Entry) (i : ℕ) (c : Client) (place : ℕ) (s : Action) → HaveFirst cs ns r
    → IsEntryAt cs ns r i c place → slice_get (sessions_of c) place ≡ Some s → asked (after (session s) (replies_of r.1.calls)) ≡ ask.Done
first_done cs ns r i c place s h at found =
    let same = next_is cs ns h.deal r h.deals h.records h.are i c place s at found in
    ap (λ (a : Action). asked (after (session a) (replies_of r.1.calls))) same
    ∙ ap asked (is_whole cs ns h.deal r h.deals h.records h.are)

pub told_one : (cs : List Client) (ns : List ℕ) (r : ℕ × Record Entry) (i : ℕ) (c : Client) (place : ℕ) (s : Action) (reply : ActionReply)
    → IsEntryAt cs ns r i c place → slice_get (sessions_of c) place ≡ Some s → after (session s) (replies_of r.1.calls) ≡ Answers reply
    → IsToldOne cs ns (slice_set ns i (place + 1)) r (r.0, r.1.number, r.1.writes, reply)
told_one cs ns r i c place s reply at found answers = record {
  goes = λ d ds rs are.
      let same : s ≡ d.0 = next_is cs ns d r ds rs are i c place s at found in
      let told : reply ≡ d.1 =
      answers_same reply d.1
      (sym answers ∙ ap (λ (a : Action). after (session a) (replies_of r.1.calls)) same ∙ is_whole cs ns d r ds rs are) in
      let here : get_or (slice_set ns i (place + 1)) i 0 ≡ suc (get_or ns i 0) =
      get_or-set_same ns i (place + 1) 0 at.within ∙ next place ∙ ap suc at.told in (
        rest_are cs ns d r ds rs are i 0 (slice_set ns i (place + 1)) at.actor here
            (λ j apart. get_or-set_other ns i j (place + 1) 0 apart),
        ap (λ (x : ActionReply). (r.0, r.1.number, r.1.writes, x)) told,
      );
}
  where
    next : (n : ℕ) → n + 1 ≡ suc n
    next n = omega arith

-- ---- all records

-- so many are listed, and what is left of all
pub record IsTelling (cs : List Client) (all : List Told) (ns : List ℕ) (left : List (ℕ × Record Entry)) (whole : List Told) : Type 0 where
  pub deals : List Deal
  pub are : AreOwn cs ns deals left
  pub goes : all ++ told_all deals left ≡ whole

pub tells_first : (cs : List Client) (ns : List ℕ) (ds : List Deal) (rs : List (ℕ × Record Entry)) → AreOwn cs ns ds rs
    → IsTelling cs [] ns rs (told_all ds rs)
tells_first cs ns ds rs are = record { deals = ds; are = are; goes = refl }

pub tells_one : (cs : List Client) (all whole : List Told) (ns ms : List ℕ) (left later : List (ℕ × Record Entry)) (r : ℕ × Record Entry)
    (one : Told) → left ≡ r ∷ later → IsToldOne cs ns ms r one → IsTelling cs all ns left whole
    → IsTelling cs (all ++ one ∷ []) ms later whole
tells_one cs all whole ns ms left later r one is told t = by t.deals (subst (λ xs. AreOwn cs ns t.deals xs) is t.are)
    (ap (λ xs. all ++ told_all t.deals xs) (sym is) ∙ t.goes)
  where
    by : (ds : List Deal) → AreOwn cs ns ds (r ∷ later) → all ++ told_all ds (r ∷ later) ≡ whole
        → IsTelling cs (all ++ one ∷ []) ms later whole
    by [] are goes = absurd are.sessions
    by (d ∷ ds) are goes =
        let x = told.goes d ds later are in
        record {
          deals = ds;
          are = x.0;
          goes =
              ap (λ (y : Told). (all ++ y ∷ []) ++ told_all ds later) x.1 ∙ append_assoc all (told_by d r ∷ []) (told_all ds later) ∙ goes;
        }

pub tells_all : (cs : List Client) (all whole : List Told) (ns : List ℕ) (left : List (ℕ × Record Entry)) → length left ≡ 0
    → IsTelling cs all ns left whole → all ≡ whole
tells_all cs all whole ns [] none t = by t.deals t.goes
  where
    by : (ds : List Deal) → all ++ told_all ds [] ≡ whole → all ≡ whole
    by [] goes = sym (append-nil all) ∙ goes
    by (d ∷ ds) goes = sym (append-nil all) ∙ goes
tells_all cs all whole ns (r ∷ rs) none t = absurd (omega (arith, none))

-- the next record is one of these
pub has_first : (cs : List Client) (all whole : List Told) (ns : List ℕ) (left later : List (ℕ × Record Entry)) (r : ℕ × Record Entry)
    → left ≡ r ∷ later → IsTelling cs all ns left whole → HaveFirst cs ns r
has_first cs all whole ns left later r is t = by t.deals (subst (λ xs. AreOwn cs ns t.deals xs) is t.are)
  where
    by : (ds : List Deal) → AreOwn cs ns ds (r ∷ later) → HaveFirst cs ns r
    by [] are = absurd are.sessions
    by (d ∷ ds) are = record { deal = d; deals = ds; records = later; are = are }
