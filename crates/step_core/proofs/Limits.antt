-- A declared reader may read any number of locations.
use Rattle.std.proofs.Common.{◌≡◌, ℕ, Bool, true, false, Option, Some, None, [], ◌∷◌, length, refl, sym, ◌∙◌, subst, true≢false}
use Rattle.std.specs.Prelude.{nat_lt, not, ◌&&◌, if◌then◌else◌}
use Rattle.tx_sets.specs.Entries.{Entries, lookup}
use Rattle.tx_machine.specs.Actor as machine
use Rattle.tx_machine.specs.Requests.{Request, AskBegin, AskBeginRead, AskRead, AskWrite}
use Rattle.tx_machine.specs.World.{World, run, start}
use Rattle.tx_machine.proofs.Schedules.{reached}
use Rattle.tx_machine.proofs.Declared.{has_no_sets}
use Rattle.step_core.specs.Phases.{phase_of, undo_phase, allows, wrong_phase, if_new, location_refusal, refusal_at}
use Rattle.step_core.specs.Shown.{Shown, actor_in, is_actor, refusal_of, IsRefusal, Reached}
use Rattle.step_core.specs.declared.phase.Phase.{Phase}
use Rattle.step_core.specs.declared.phase.Phase.TheVariants.{Waiting, Locking, Busy}
use Rattle.step_core.specs.declared.answer.WordRefusal.{WordRefusal}
use Rattle.step_core.specs.declared.answer.WordRefusal.TheVariants.{TooLong, NoSuch}

-- whatever is refused so, it is not for a limit
abbrev NeverTooLong : Option WordRefusal → Type 0
NeverTooLong o = (r : WordRefusal) → IsRefusal o r → r ≡ TooLong → ⊥

wrong_never : (p : Phase) (q : Request) → NeverTooLong (Some (wrong_phase p q))
wrong_never Waiting q r h e = let b : ⊥ = cc in b
wrong_never Locking q r h e = let b : ⊥ = cc in b
wrong_never Busy q r h e = let b : ⊥ = cc in b
wrong_never p AskBegin r h e = let b : ⊥ = cc in b
wrong_never p AskBeginRead r h e = let b : ⊥ = cc in b
wrong_never p q r h e = let b : ⊥ = cc in b

none_never : NeverTooLong None
none_never r h e = let b : ⊥ = cc in b

such_never : NeverTooLong (Some NoSuch)
such_never r h e = let b : ⊥ = cc in b

no : {A : Type 0} → false ≡ true → A
no h = absurd (true≢false (sym h))

undo_no_read : {A : Type 0} → (h : Entries) (l : ℕ) → allows (undo_phase h) (AskRead l) ≡ true → A
undo_no_read [] l h = no h
undo_no_read (e ∷ es) l h = no h

-- who may read stands in the open
read_open : (x : machine.Actor) (p : machine.Place) (l : ℕ) → allows (phase_of x p) (AskRead l) ≡ true → p ≡ machine.Open
read_open x machine.Idle l h = no h
read_open x machine.Begin l h = no h
read_open x machine.Open l h = refl
read_open x (machine.Look i) l h = no h
read_open x (machine.Fetch i k) l h = no h
read_open x (machine.Again i k v) l h = no h
read_open x (machine.Lock ls) l h = no h
read_open x (machine.Take i k ls) l h = no h
read_open x (machine.Check []) l h = no h
read_open x (machine.Check (i ∷ ls)) l h = no h
read_open x machine.Broken l h = no h
read_open x machine.First l h = no h
read_open x (machine.Store []) l h = no h
read_open x (machine.Store (i ∷ ls)) l h = no h
read_open x machine.Release l h = no h
read_open x machine.Undo l h = undo_no_read x.held l h
read_open x machine.Leave l h = no h
read_open x machine.Close l h = no h

if_never : (b : Bool) (o e : Option WordRefusal) → (b ≡ true → NeverTooLong o) → NeverTooLong e → NeverTooLong (if b then o else e)
if_never true o e f g = f refl
if_never false o e f g = g

-- a set without an entry has room for one
room_in_none : (w r : Entries) (l : ℕ) → w ≡ [] → r ≡ [] → NeverTooLong (if_new (lookup w l) (lookup r l) r)
unfolding lookup
room_in_none w r l ew er = subst (λ (z : Entries). NeverTooLong (if_new (lookup z l) (lookup r l) r)) (sym ew)
    (subst (λ (z : Entries). NeverTooLong (if_new None (lookup z l) z)) (sym er) none_never)

write_never : (n l : ℕ) (declared : Bool) (o : Option WordRefusal) → declared ≡ true
    → NeverTooLong (if nat_lt l n && not declared then o else Some NoSuch)
write_never n l true o d = go (nat_lt l n)
  where
    go : (b : Bool) → NeverTooLong (if b && false then o else Some NoSuch)
    go true = such_never
    go false = such_never
write_never n l false o d = no d

place_never : (n : ℕ) (x : machine.Actor) (q : Request) → x.declared ≡ true → (x.place ≡ machine.Open → (x.reads ≡ []) × (x.writes ≡ []))
    → allows (phase_of x x.place) q ≡ true → NeverTooLong (location_refusal n x q)
place_never n x (AskRead l) d sets h =
    let none = sets (read_open x x.place l h) in
    if_never (nat_lt l n) (if_new (lookup x.writes l) (lookup x.reads l) x.reads) (Some NoSuch)
    (λ _. room_in_none x.writes x.reads l none.1 none.0) such_never
place_never n x (AskWrite l v) d sets h = write_never n l x.declared (if_new (lookup x.writes l) None x.writes) d
place_never n x q d sets h = none_never

never_too_long : (v : Shown) (a : ℕ) (q : Request) → Reached v → (actor_in v a).declared ≡ true → NeverTooLong (refusal_of v a q)
never_too_long v a q r d =
    let x = actor_in v a in
    let s : World = run r.events (start r.clock r.opening) in
    let none : x.place ≡ machine.Open → (x.reads ≡ []) × (x.writes ≡ []) =
    subst (λ (y : machine.Actor). y.declared ≡ true → y.place ≡ machine.Open → (y.reads ≡ []) × (y.writes ≡ [])) (r.shows.actors a)
    (has_no_sets s a (reached r.clock r.opening r.events)) d in
    if_never (is_actor a) (refusal_at (length v.values) x x.place q) (Some NoSuch)
    (λ _. if_never (allows (phase_of x x.place) q) (location_refusal (length v.values) x q) (Some (wrong_phase (phase_of x x.place) q))
    (place_never (length v.values) x q d none) (wrong_never (phase_of x x.place) q)) such_never

-- so a refusal of its actor's request is of something else
pub unlimited : (v : Shown) (a : ℕ) (q : Request) (named : Option WordRefusal) (refusal : WordRefusal) → Reached v → named
    ≡ refusal_of v a q → named ≡ Some refusal → (actor_in v a).declared ≡ true → refusal ≡ TooLong → ⊥
unlimited v a q named refusal r is some d = never_too_long v a q r d refusal
    (subst (λ (o : Option WordRefusal). IsRefusal o refusal) (sym some ∙ is) refl)
