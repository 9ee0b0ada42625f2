-- A client that is alone takes one session after another.
-- Whoever else has committed has its actions among those of the events, and there are none: so all records are the client's own, in its own
-- order. An idle client is in no commit.
use Rattle.std.proofs.Common.{◌≡◌, ℕ, Bool, true, false, ◌&&◌, eqb, eq-eqb, ne_eqb, List, [], ◌∷◌, ◌++◌, inl, inr, refl, sym, ◌∙◌, ap}
use Rattle.std.specs.Prelude.{map}
use Rattle.std.proofs.lemmas.Bool.{cases_eq, cond-true, cond-false}
use Rattle.std.proofs.lemmas.List.{append_assoc, append-nil}
use Rattle.seq_model.specs.declared.event.Event.TheVariants.{Ask, Step, Starve}
use Rattle.seq_model.specs.declared.record.Record.{Record}
use Rattle.replay_log.specs.Worlds.{World, Seat, Stage, Releasing}
use Rattle.replay_log.specs.Worlds.{Storing, Homing, happens, half, half_in, is_half_done}
use Rattle.replay_log.specs.Worlds.{opened, run}
use Rattle.replay_log.specs.WorldProgress.{whose}
use Rattle.vac_model.specs.declared.action.Action.{Action}
use Rattle.client_sessions.specs.declared.entry.Entry.{Entry}
use Rattle.client_sessions.specs.Holding.{state_of}
use Rattle.client_sessions.specs.Runs.{AreSessions, Deal}
use Rattle.vacation_core.specs.Alone.{AloneIsInOrder, AreOf, AreRecordsOf}
use Rattle.vacation_core.specs.ClientWorlds.{Actions, AskAsSessions, MayHappen, Turn, begun, events_of}
use Rattle.actor_laws.specs.KnownStages.{KnownStage, Rests, Committed, known_stage_at}
use Rattle.vacation_core.specs.Serial.{IsSerialSessions, actions_of, begun_all, committed_in, committed_of}
use Rattle.vacation_core.proofs.ServeLemmas.{sessions_are_serial}

-- ---- turns after turns

pub run_on : (w : World Entry) (ts : List Turn) (t : Turn) → run w (events_of (ts ++ t ∷ [])) ≡ (happens (run w (events_of ts)) t.0).0
run_on w [] t = refl
run_on w (s ∷ ts) t = run_on (happens w s.0).0 ts t

pub begun_on : (actions : Actions) (w : World Entry) (ts : List Turn) (t : Turn)
    → begun_all actions w (ts ++ t ∷ []) ≡ begun (begun_all actions w ts) (run w (events_of ts)) t
begun_on actions w [] t = refl
begun_on actions w (s ∷ ts) t = begun_on (begun actions w s) (happens w s.0).0 ts t

pub asks_on : (actions : Actions) (w : World Entry) (ts : List Turn) (t : Turn) → AskAsSessions actions w ts
    → MayHappen (begun_all actions w ts) (run w (events_of ts)) t → AskAsSessions actions w (ts ++ t ∷ [])
asks_on actions w [] t asks may = (may, tt)
asks_on actions w (s ∷ ts) t asks may = (asks.0, asks_on (begun actions w s) (happens w s.0).0 ts t asks.1 may)

pub committed_on : (c : ℕ) (actions : Actions) (w : World Entry) (ts : List Turn) (t : Turn)
    → committed_of c actions w (ts ++ t ∷ [])
    ≡ committed_of c actions w ts ++ committed_in c (begun_all actions w ts) (run w (events_of ts)) t
committed_on c actions w [] t = append-nil (committed_in c actions w t)
committed_on c actions w (s ∷ ts) t =
    ap (λ xs. committed_in c actions w s ++ xs) (committed_on c (begun actions w s) (happens w s.0).0 ts t)
    ∙ sym (append_assoc (committed_in c actions w s) (committed_of c (begun actions w s) (happens w s.0).0 ts)
    (committed_in c (begun_all actions w (s ∷ ts)) (run w (events_of (s ∷ ts))) t))

pub own_on : (a : ℕ) (ts : List Turn) (t : Turn) → AreOf a ts → whose t.0 ≡ a → AreOf a (ts ++ t ∷ [])
own_on a [] t are is = (is, tt)
own_on a (s ∷ ts) t are is = (are.0, own_on a ts t are.1 is)

-- ---- nobody else has committed

pub none_in : (c : ℕ) (actions : Actions) (w : World Entry) (t : Turn) → (whose t.0 ≡ c → ⊥) → committed_in c actions w t ≡ []
none_in c actions w (Step a, action) other = cond-false (eqb a c) _ _ (ne_eqb a c other)
none_in c actions w (Ask a q, action) other = refl
none_in c actions w (Starve a, action) other = refl

none_of : (a c : ℕ) (actions : Actions) (w : World Entry) (ts : List Turn) → (a ≡ c → ⊥) → AreOf a ts → committed_of c actions w ts ≡ []
none_of a c actions w [] other are = refl
none_of a c actions w (t ∷ ts) other are =
    ap (λ xs. xs ++ committed_of c (begun actions w t) (happens w t.0).0 ts) (none_in c actions w t (λ e. other (sym are.0 ∙ e)))
    ∙ none_of a c (begun actions w t) (happens w t.0).0 ts other are.1

not_none : (x : Action) (xs : List Action) → x ∷ xs ≡ [] → ⊥
not_none x xs e = cc

-- the first record is the client's
first_of : (a : ℕ) (d : Deal) (r : ℕ × Record Entry) (ds : List Deal) (rs : List (ℕ × Record Entry))
    → ((c : ℕ) → (a ≡ c → ⊥) → actions_of c (d ∷ ds) (r ∷ rs) ≡ []) → r.0 ≡ a
first_of a d r ds rs none =
    elim (cases_eq r.0 a) [
      | inl is ↦ is
      | inr isnt ↦ absurd (not_none d.0 (actions_of r.0 ds rs)
          (sym (cond-true (eqb r.0 r.0) _ _ (eq-eqb r.0 r.0 refl)) ∙ none r.0 (λ e. isnt (sym e))))
    ]

skip_first : (a c : ℕ) (d : Deal) (r : ℕ × Record Entry) (ds : List Deal) (rs : List (ℕ × Record Entry)) → r.0 ≡ a → (a ≡ c → ⊥)
    → actions_of c (d ∷ ds) (r ∷ rs) ≡ [] → actions_of c ds rs ≡ []
skip_first a c d r ds rs is other none = sym (cond-false (eqb r.0 c) _ _ (ne_eqb r.0 c (λ e. other (sym is ∙ e)))) ∙ none

all_own : (a : ℕ) (ds : List Deal) (rs : List (ℕ × Record Entry)) → AreSessions ds rs → ((c : ℕ) → (a ≡ c → ⊥) → actions_of c ds rs ≡ [])
    → AreRecordsOf a rs × (actions_of a ds rs ≡ map (λ d. d.0) ds)
all_own a [] [] are none = (tt, refl)
all_own a [] (r ∷ rs) are none = absurd are
all_own a (d ∷ ds) [] are none = absurd are
all_own a (d ∷ ds) (r ∷ rs) are none =
    let is : r.0 ≡ a = first_of a d r ds rs none in
    let rest = all_own a ds rs are.1 (λ c other. skip_first a c d r ds rs is other (none c other)) in
    ((is, rest.0), cond-true (eqb r.0 a) _ _ (eq-eqb r.0 a is) ∙ ap (λ xs. d.0 ∷ xs) rest.1)

-- ---- an idle client is in no commit

rests_at : (x : Seat Entry) (st : Stage Entry) → known_stage_at x.calls st ≡ Rests → is_half_done st ≡ false
rests_at x (Storing ks) e = absurd (other e)
  where
    other : ◌≡◌ {A = KnownStage Entry} Committed Rests → ⊥
    other e = cc
rests_at x (Homing ks) e = absurd (other e)
  where
    other : ◌≡◌ {A = KnownStage Entry} Committed Rests → ⊥
    other e = cc
rests_at x Releasing e = absurd (other e)
  where
    other : ◌≡◌ {A = KnownStage Entry} Committed Rests → ⊥
    other e = cc
rests_at x st e = refl

no_half : (a : ℕ) (seats : ℕ → Seat Entry) (rs : List (ℕ × Record Entry)) → is_half_done (seats a).stage ≡ false → AreRecordsOf a rs
    → half_in seats rs ≡ []
no_half a seats [] rest are = refl
no_half a seats (r ∷ rs) rest are =
    let at_rest : is_half_done (seats r.0).stage ≡ false = ap (λ c. is_half_done (seats c).stage) are.0 ∙ rest in
    cond-false _ _ _ (ap (λ b. r.1.writes && (b && eqb r.1.number (seats r.0).wv)) at_rest ∙ never r.1.writes)
    ∙ no_half a seats rs rest are.1
  where
    never : (b : Bool) → (b && false) ≡ false
    never true = refl
    never false = refl

pub alone_is_in_order : AloneIsInOrder
alone_is_in_order blocks clock tables actions ts a allowed balanced stripes suit asks are rests =
    let opening = state_of tables in
    let first = opened blocks clock opening.words opening.held in
    let w = run first (events_of ts) in
    let serial : IsSerialSessions tables actions first ts =
    sessions_are_serial blocks clock tables actions ts allowed balanced stripes suit asks in
    let own : AreRecordsOf a w.records × (actions_of a serial.deals w.records ≡ map (λ d. d.0) serial.deals) =
    all_own a serial.deals w.records serial.sessions (λ c other. serial.own c ∙ none_of a c actions first ts other are) in
    let settled : half w ≡ [] = no_half a w.seats w.records (rests_at (w.seats a) (w.seats a).stage rests) own.0 in
    record {
      deals = serial.deals;
      actions = sym own.1 ∙ serial.own a;
      theirs = own.0;
      sessions = serial.sessions;
      replies = serial.done;
      settled = settled;
      left = serial.left settled;
      balanced = serial.balanced;
    }
