-- An event that is fed to the running world is a turn more in the play.
-- It leaves what all other clients keep. What its own client is answered says where its transaction continues.
use Rattle.std.proofs.Common.{◌≡◌, ℕ, ◌+◌, ◌<◌, ◌≤◌, true, false, true≢false, List, [], ◌∷◌, ◌++◌, length, inl, inr, refl, sym, ◌∙◌, ap}
use Rattle.std.proofs.Common.{subst, arith}
use Rattle.std.specs.Prelude.{if◌then◌else◌, Option, Some, None, slice_get, slice_set}
use Rattle.std.proofs.lemmas.Bool.{cases_eq}
use Rattle.std.proofs.lemmas.List.{append-nil}
use Rattle.tx_machine.proofs.Sets.{put-other}
use Rattle.seq_model.specs.declared.event.Event.{Event}
use Rattle.seq_model.specs.declared.event.Event.TheVariants as event
use Rattle.seq_model.specs.declared.event.Notice.{Notice}
use Rattle.seq_model.specs.declared.event.Request.TheVariants as request
use Rattle.seq_model.specs.declared.refusal.Refusal.{Refusal}
use Rattle.step_core.specs.Shown.{is_actor}
use Rattle.replay_log.specs.WorldProgress.{whose}
use Rattle.replay_log.specs.Worlds.{World, Seat, Stage, Idle, happens}
use Rattle.replay_log.proofs.AnswerLemmas.{starves}
use Rattle.replay_log.proofs.RequestLemmas.{happens_by}
use Rattle.vac_model.specs.declared.action.Action.{Action}
use Rattle.client_sessions.specs.declared.entry.Entry.{Entry}
use Rattle.step_world.specs.Feeds.{Feeds}
use Rattle.step_world.specs.Worlds.{WorldShown}
use Rattle.step_world.specs.Parts.{IsWorld}
use Rattle.step_world.specs.declared.opening.TheConstants.{ACTORS}
use Rattle.step_world.specs.declared.parts.Parts.{Parts}
use Rattle.vacation_core.specs.ClientWorlds.{Actions, Turn, at_idle, begun}
use Rattle.vacation_core.specs.Histories.{History, action_in, done_in, later, opening_of, world_in}
use Rattle.vacation_core.specs.Serial.{begun_all}
use Rattle.vacation_core.proofs.AloneLemmas.{none_in}
use Rattle.vacation_core.proofs.HistoryLemmas.{action_next, done_next, lawful_next, phase_next, steps_to, world_next}
use Rattle.actor_laws.specs.KnownStages.{KnownStage, known_stage}
use Rattle.seq_model.specs.declared.job.Ask.{Ask as Asked}
use Rattle.vacation_core.specs.Clients.{asks_next, has_open}
use Rattle.vacation_core.specs.Plays.{IsMoveOf, Play, moved, told, turned}
use Rattle.vacation_core.specs.Running.{AsksNext, HasPosition, Hears, HearsAt, IsClient, IsHearing, IsOn, IsPlay, KeepsAt, Others}
use Rattle.vacation_core.specs.declared.client.Client.{Client}
use Rattle.vacation_core.specs.declared.world.VacWorld.{VacWorld}
use Rattle.vacation_core.proofs.ClientAnswerLemmas.{starve_hears, step_hears}
use Rattle.vacation_core.proofs.PlayLemmas.{May, at_now}
use Rattle.std.proofs.lemmas.Bool.Decides.{nat_tests}
use Rattle.std.proofs.lemmas.Option.{same_Some, none-some}
pub use Rattle.step_world.proofs.WorldLemmas.{set_here, set_length, set_there}
use Rattle.step_core.proofs.Lists.{some_at}
use Rattle.vacation_core.proofs.ClientLemmas.{parts_of, told_of}

-- ---- places

pub actor_at : (i : ℕ) → i < ACTORS → is_actor (i + 1) ≡ true
actor_at i inside = by (i + 1) (omega arith) (omega arith)
  where
    by : (a : ℕ) → 1 ≤ a → a ≤ ACTORS → is_actor a ≡ true
    by a low high = grind (arith, nat_tests)

suc_apart : (i j : ℕ) → (j ≡ i → ⊥) → i + 1 ≡ j + 1 → ⊥
suc_apart i j apart e = apart (omega arith)

pub client_at : (i : ℕ) (v : VacWorld) → HasPosition i v → (c : Client) × (slice_get v.clients.items i ≡ Some c)
client_at i v place = some_at v.clients.items i (let lt = place.inside in let n = place.count in omega (arith, lt, n))

-- ---- a turn of the running world

-- an event of the actor of this number is one of the client at its place
pub fed_at : (c d : Parts Entry) (e : ℕ → Event Entry) (a b : ℕ) (m n : Notice Entry) → a ≡ b → m ≡ n → Feeds c (e a) d m
    → Feeds c (e b) d n
fed_at c d e a b m n actor notice f =
    subst (λ (k : ℕ). Feeds c (e k) d n) actor (subst (λ (x : Notice Entry). Feeds c (e a) d x) notice f)

-- ---- another client's turn

idle_other : (st : Stage Entry) (f g : Actions) (b : ℕ) → f b ≡ g b → at_idle st f g b ≡ g b
idle_other Idle f g b e = e
idle_other st f g b e = refl

begun_other : (actions : Actions) (w : World Entry) (e : Event Entry) (action : Action) (b : ℕ) → (b ≡ whose e → ⊥)
    → begun actions w (e, action) b ≡ actions b
begun_other actions w (event.Ask a request.Begin) action b other =
    idle_other (w.seats a).stage _ actions b (put-other actions a action b other)
begun_other actions w (event.Ask a request.BeginRead) action b other =
    idle_other (w.seats a).stage _ actions b (put-other actions a action b other)
begun_other actions w (event.Ask a q) action b other = refl
begun_other actions w (event.Step a) action b other = refl
begun_other actions w (event.Starve a) action b other = refl

pub action_other : (h : History) (e : Event Entry) (action : Action) (b : ℕ) → (b ≡ whose e → ⊥)
    → action_in b (later h ((e, action) ∷ [])) ≡ action_in b h
action_other h e action b other =
    action_next b h (e, action) ∙ begun_other (begun_all h.actions (opening_of h) h.turns) (world_in h) e action b other

pub done_other : (h : History) (e : Event Entry) (action : Action) (b : ℕ) → (b ≡ whose e → ⊥)
    → done_in b (later h ((e, action) ∷ [])) ≡ done_in b h
done_other h e action b other =
    done_next b h (e, action)
    ∙ ap (λ (xs : List Action). done_in b h ++ xs)
    (none_in b (begun_all h.actions (opening_of h) h.turns) (world_in h) (e, action) (λ is. other (sym is)))
    ∙ append-nil (done_in b h)

phase_other : (h : History) (e : Event Entry) (action : Action) (b : ℕ) → (b ≡ whose e → ⊥)
    → known_stage ((world_in (later h ((e, action) ∷ []))).seats b) ≡ known_stage ((world_in h).seats b)
phase_other h e action b other =
    phase_next b h (e, action) ∙ ap (λ (x : Seat Entry). known_stage x) ((happens_by (world_in h) e).seats b other)

pub client_other : (p : Play) (e : Event Entry) (action : Action) (b : ℕ) (c : Client) → (b ≡ whose e → ⊥) → IsClient c b p
    → IsClient c b (turned e action p)
client_other p e action b c other k =
    let q = turned e action p in
    record {
      at = k.at;
      stands = phase_other p.history e action b other ∙ k.stands;
      keeps =
          subst (λ (done : List Action). KeepsAt k.at c (action_in b q.history) (p.faults b) done)
          (sym (done_other p.history e action b other))
          (subst (λ (x : Action). KeepsAt k.at c x (p.faults b) (done_in b p.history)) (sym (action_other p.history e action b other))
          k.keeps);
    }

pub others_turned : (i : ℕ) (v u : VacWorld) (p : Play) (e : Event Entry) (action : Action) → whose e ≡ i + 1
    → u.clients.items ≡ v.clients.items → Others i v p → Others i u (turned e action p)
others_turned i v u p e action own same others j c apart got =
    client_other p e action (j + 1) c (λ is. suc_apart i j apart (sym own ∙ sym is))
    (others j c apart (ap (λ (cs : List Client). slice_get cs j) (sym same) ∙ got))

-- what a client keeps is not changed by what else is answered, and by another's fault
pub client_as : (p q : Play) (b : ℕ) (c : Client) → q.history ≡ p.history → q.faults b ≡ p.faults b → IsClient c b p → IsClient c b q
client_as p q b c same fault k =
    record {
      at = k.at;
      stands = ap (λ (h : History). known_stage ((world_in h).seats b)) same ∙ k.stands;
      keeps =
          subst (λ (h : History). KeepsAt k.at c (action_in b h) (q.faults b) (done_in b h)) (sym same)
          (subst (λ (o : Option Refusal). KeepsAt k.at c (action_in b p.history) o (done_in b p.history)) (sym fault) k.keeps);
    }

-- ---- a turn of the world

absent_turned : (p : Play) (e : Event Entry) (action : Action) → is_actor (whose e) ≡ true
    → ((a : ℕ) → is_actor a ≡ false → done_in a p.history ≡ []) → (a : ℕ) → is_actor a ≡ false → done_in a (turned e action p).history ≡ []
absent_turned p e action is absent a isnt =
    done_other p.history e action a (λ same. both a (whose e) same is isnt) ∙ absent a isnt
  where
    both : (a b : ℕ) → a ≡ b → is_actor b ≡ true → is_actor a ≡ false → ⊥
    both a b same is isnt = true≢false (sym is ∙ ap is_actor (sym same) ∙ isnt)

pub on_turned : (i : ℕ) (v u : VacWorld) (p : Play) (e : Event Entry) (action : Action) (n : Notice Entry) → i < ACTORS → whose e ≡ i + 1
    → May p e action → Feeds v.world.parts e u.world.parts n → u.clients.items ≡ v.clients.items → u.aborted ≡ v.aborted → IsOn v p
    → IsOn u (turned e action p)
on_turned i v u p e action n inside own may f clients aborted on =
    let is : is_actor (whose e) ≡ true = ap is_actor own ∙ actor_at i inside in
    record {
      lawful = lawful_next p.history (e, action) on.lawful may;
      goes_on = on.goes_on;
      parts =
          subst (IsWorld u.world.parts) (sym (world_next p.history (e, action)))
          (parts_of p.history e v.world.parts u.world.parts n is on.lawful on.parts f);
      count = ap length clients ∙ on.count;
      aborted = aborted ∙ on.aborted;
      absent = absent_turned p e action is on.absent;
    }

pub own_told : (i : ℕ) (v u : VacWorld) (p : Play) (e : Event Entry) (n : Notice Entry) → i < ACTORS → whose e ≡ i + 1
    → Feeds v.world.parts e u.world.parts n → IsOn v p → n ≡ told e p
own_told i v u p e n inside own f on =
    told_of p.history e v.world.parts u.world.parts n (ap is_actor own ∙ actor_at i inside) on.lawful on.parts f

-- ---- a client that changes

-- the running world has changed in the client at place i alone
pub on_set : (i : ℕ) (v u : VacWorld) (p : Play) (d : Client) → u.world ≡ v.world → u.aborted ≡ v.aborted
    → u.clients.items ≡ slice_set v.clients.items i d → IsOn v p → IsOn u p
on_set i v u p d world aborted clients on = record {
  lawful = on.lawful;
  goes_on = on.goes_on;
  parts = subst (λ (x : WorldShown Entry). IsWorld x.parts (world_in p.history)) (sym world) on.parts;
  count = ap length clients ∙ set_length v.clients.items i d ∙ on.count;
  aborted = aborted ∙ on.aborted;
  absent = on.absent;
}

pub others_set : (i : ℕ) (v u : VacWorld) (p : Play) (d : Client) → u.clients.items ≡ slice_set v.clients.items i d → Others i v p
    → Others i u p
others_set i v u p d clients others j c apart got =
    others j c apart (sym (set_there v.clients.items i j d apart) ∙ ap (λ (cs : List Client). slice_get cs j) (sym clients) ∙ got)

pub own_set : (i : ℕ) (v u : VacWorld) (c d : Client) (P : Client → Type 0) → slice_get v.clients.items i ≡ Some c
    → u.clients.items ≡ slice_set v.clients.items i d → P d → (x : Client) → slice_get u.clients.items i ≡ Some x → P x
own_set i v u c d P got clients holds x there =
    subst P
    (same_Some d x (sym (set_here v.clients.items i c d got) ∙ ap (λ (cs : List Client). slice_get cs i) (sym clients) ∙ there)) holds

-- all clients, of which one is at place i
pub all_of : (i : ℕ) (v : VacWorld) (p : Play) → Others i v p → ((c : Client) → slice_get v.clients.items i ≡ Some c → IsClient c (i + 1) p)
    → (j : ℕ) (c : Client) → slice_get v.clients.items j ≡ Some c → IsClient c (j + 1) p
all_of i v p others own j c got =
    elim (cases_eq j i) [
      | inl is ↦
          subst (λ k. IsClient c (k + 1) p) (sym is) (own c (subst (λ k. slice_get v.clients.items k ≡ Some c) is got))
      | inr isnt ↦ others j c isnt got
    ]

-- ---- what its own client is answered

step_hearing : (p : Play) (a : ℕ) (c : Client) (n : Notice Entry) → n ≡ told (event.Step a) p → has_open c ≡ true → IsClient c a p
    → IsHearing n c a (moved a (event.Step a) p)
step_hearing p a c n same some k =
    let h = p.history in
    let x = steps_to h a k.at (action_in a h) (done_in a h) n (at_now a p k.at k.stands) same in
    let q = moved a (event.Step a) p in
    record {
      to = x.to;
      stands = x.at.stands;
      hears =
          subst (λ (done : List Action). HearsAt n x.to c (action_in a q.history) (p.faults a) done) (sym x.at.has)
          (subst (λ (act : Action). HearsAt n x.to c act (p.faults a)
          (if x.commits then done_in a h ++ action_in a h ∷ [] else done_in a h))
          (sym x.at.does)
          (step_hears c (action_in a h) (p.faults a) k.at x.commits n x.to (done_in a h) some k.keeps x.moves));
    }

starve_hearing : (p : Play) (a : ℕ) (c : Client) (n : Notice Entry) → n ≡ told (event.Starve a) p → has_open c ≡ true → IsClient c a p
    → IsHearing n c a (moved a (event.Starve a) p)
starve_hearing p a c n same some k =
    let h = p.history in
    let w = world_in h in
    let x = w.seats a in
    let r = happens w (event.Starve a) in
    let q = moved a (event.Starve a) p in
    let t : Turn = (event.Starve a, action_in a h) in
    let does : action_in a q.history ≡ action_in a h = action_next a h t in
    let has : done_in a q.history ≡ done_in a h = done_next a h t ∙ append-nil (done_in a h) in
    let keeps : KeepsAt (known_stage x) c (action_in a h) (p.faults a) (done_in a h) =
    subst (λ (at : KnownStage Entry). KeepsAt at c (action_in a h) (p.faults a) (done_in a h)) (sym k.stands) k.keeps in
    let hears : HearsAt r.1 (known_stage (r.0.seats a)) c (action_in a h) (p.faults a) (done_in a h) =
    starve_hears c (action_in a h) (p.faults a) w a x.calls x.stage r (done_in a h) some refl keeps (starves w a) in
    record {
      to = known_stage (r.0.seats a);
      stands = phase_next a h t;
      hears =
          subst (λ (m : Notice Entry). HearsAt m (known_stage (r.0.seats a)) c (action_in a q.history) (p.faults a) (done_in a q.history))
          (sym same)
          (subst (λ (done : List Action). HearsAt r.1 (known_stage (r.0.seats a)) c (action_in a q.history) (p.faults a) done) (sym has)
          (subst (λ (act : Action). HearsAt r.1 (known_stage (r.0.seats a)) c act (p.faults a) (done_in a h)) (sym does) hears));
    }

pub move_own : (a : ℕ) (e : Event Entry) → IsMoveOf a e → whose e ≡ a
move_own a (event.Step b) m = m
move_own a (event.Starve b) m = m
move_own a e m = absurd m

move_may : (p : Play) (a : ℕ) (e : Event Entry) (action : Action) → IsMoveOf a e → May p e action
move_may p a (event.Step b) action m = tt
move_may p a (event.Starve b) action m = tt
move_may p a e action m = absurd m

move_hearing : (p : Play) (a : ℕ) (e : Event Entry) (c : Client) (n : Notice Entry) → IsMoveOf a e → n ≡ told e p → has_open c ≡ true
    → IsClient c a p → IsHearing n c a (moved a e p)
move_hearing p a (event.Step b) c n m same some k =
    subst (λ d. n ≡ told (event.Step d) p → IsHearing n c a (moved a (event.Step d) p)) (sym m)
    (λ at. step_hearing p a c n at some k) same
move_hearing p a (event.Starve b) c n m same some k =
    subst (λ d. n ≡ told (event.Starve d) p → IsHearing n c a (moved a (event.Starve d) p)) (sym m)
    (λ at. starve_hearing p a c n at some k) same
move_hearing p a e c n m same some k = absurd m

-- the client at place i gets the answer to a step, or to a failed allocation, of its session
pub hears_move : (i : ℕ) (e : Event Entry) (v u : VacWorld) (c : Client) (p : Play) (n : Notice Entry) → i < ACTORS → IsMoveOf (i + 1) e
    → slice_get v.clients.items i ≡ Some c → has_open c ≡ true → Feeds v.world.parts e u.world.parts n
    → u.clients.items ≡ v.clients.items → u.aborted ≡ v.aborted → IsPlay v p → Hears i n u (moved (i + 1) e p)
hears_move i e v u c p n inside m got some f clients aborted k =
    let a = i + 1 in
    let own = move_own a e m in
    let same : n ≡ told e p = own_told i v u p e n inside own f k.on in
    record {
      on = on_turned i v u p e (action_in a p.history) n inside own (move_may p a e (action_in a p.history) m) f clients aborted k.on;
      others = others_turned i v u p e (action_in a p.history) own clients (λ j d apart there. k.clients j d there);
      own = λ d there.
          let is : c ≡ d = same_Some c d (sym got ∙ ap (λ (cs : List Client). slice_get cs i) (sym clients) ∙ there) in
          move_hearing p a e d n m same (ap has_open (sym is) ∙ some)
          (k.clients i d (ap (λ (cs : List Client). slice_get cs i) (sym clients) ∙ there));
    }

-- a client that changes, and what an event leaves, keep their places
pub place_set : (i : ℕ) (v u : VacWorld) (d : Client) → u.clients.items ≡ slice_set v.clients.items i d → HasPosition i v → HasPosition i u
place_set i v u d clients place =
    record { inside = place.inside; count = ap length clients ∙ set_length v.clients.items i d ∙ place.count }

pub place_as : (i : ℕ) (v u : VacWorld) → u.clients.items ≡ v.clients.items → HasPosition i v → HasPosition i u
place_as i v u clients place = record { inside = place.inside; count = ap length clients ∙ place.count }

-- what the client at place i asks next
pub asks_at : (i : ℕ) (v : VacWorld) (d : Client) (next : Asked Entry) → slice_get v.clients.items i ≡ Some d → asks_next d ≡ next
    → AsksNext i v next
asks_at i v d next got is = λ c there. ap asks_next (same_Some c d (sym there ∙ got)) ∙ is

pub place_lt : (i : ℕ) (v : VacWorld) → HasPosition i v → i < length v.clients.items
place_lt i v place = let lt = place.inside in let n = place.count in omega (arith, lt, n)
