-- What a request results in by the steps of its own actor, from where its transaction stood as it was asked.
use Rattle.std.specs.Prelude.{◌≡◌, ◌⊎◌, ℕ, List, [], ◌∷◌, ◌++◌, Option, Some, None}
use Rattle.seq_model.specs.declared.call.Call.{Call}
use Rattle.seq_model.specs.declared.call.Reply.{Reply}
use Rattle.seq_model.specs.declared.event.Answer.TheVariants as answer
use Rattle.seq_model.specs.declared.event.Event.{Event}
use Rattle.seq_model.specs.declared.event.Event.TheVariants.{Step}
use Rattle.seq_model.specs.declared.event.Notice.{Notice}
use Rattle.seq_model.specs.declared.event.Notice.TheVariants.{Quiet, Answered, Refused}
use Rattle.seq_model.specs.declared.held.Held.{Held}
use Rattle.seq_model.specs.declared.record.Record.{Record}
use Rattle.seq_model.specs.declared.refusal.Refusal.{Refusal}
use Rattle.replay_log.specs.Contents.{Block, HaveStripes}
use Rattle.replay_log.specs.Worlds.{Seat, happens, opened, run, why}
use Rattle.replay_log.specs.WorldTraces.{committed_by}
use Rattle.actor_laws.specs.KnownStages.{KnownStage, Rests, Begins, Stands, Calls, Commits, Committed, Ends, IsMistaken, known_stage}

module _ {V : Type 0} where
  -- the record that was made last
  abbrev pub latest : Option (Record V) → Option (Record V) → Option (Record V)
  latest (Some r) d = Some r
  latest None d = d

  -- there is a record, of these calls, with this number
  abbrev pub IsRecordOf : List (Call V × Reply V) → ℕ → Option (Record V) → Type 0
  IsRecordOf calls number None = ⊥
  IsRecordOf calls number (Some r) = (r.calls ≡ calls) × (r.number ≡ number)

  -- it is being aborted for some cause
  abbrev pub IsGivenUp : Seat V → Type 0
  IsGivenUp x = (known_stage x ≡ Ends) × ((cause : Refusal) × (x.cause ≡ Some cause))

  -- A request that was asked where the seat was s, in this phase, has led to the seat x and is under way; it has made the record d, if any.
  abbrev pub IsUnderWayFrom : Seat V → KnownStage V → Seat V → Option (Record V) → Type 0
  IsUnderWayFrom s Begins x d = (known_stage x ≡ Begins) × (d ≡ None)
  IsUnderWayFrom s (Calls calls call) x d = ((known_stage x ≡ Calls calls call) ⊎ IsGivenUp x) × (d ≡ None)
  IsUnderWayFrom s (Commits calls) x d =
      (((known_stage x ≡ Commits calls) ⊎ IsGivenUp x) × (d ≡ None)) ⊎ ((known_stage x ≡ Committed) × IsRecordOf calls x.wv d)
  IsUnderWayFrom s Ends x d = (known_stage x ≡ Ends) × (x.cause ≡ s.cause) × (d ≡ None)
  IsUnderWayFrom s before x d = ⊥

  abbrev pub IsUnderWay : Seat V → Seat V → Option (Record V) → Type 0
  IsUnderWay s x d = IsUnderWayFrom s (known_stage s) x d

  -- And so it has ended, at the seat x of actor a, where this is answered. A transaction has begun, or not; a call is answered and joins
  -- the calls before it, or was mistaken, or its transaction was aborted; a commit has made its record, or was aborted; a transaction that
  -- is being aborted answers why.
  abbrev pub EndsFrom : ℕ → Seat V → KnownStage V → Notice V → Seat V → Option (Record V) → Type 0
  EndsFrom a s Begins (Answered b (answer.Begun rv)) x d = (known_stage x ≡ Stands []) × (x.rv ≡ rv) × (d ≡ None)
  EndsFrom a s Begins (Refused b cause) x d = (known_stage x ≡ Rests) × (d ≡ None)
  EndsFrom a s (Calls calls call) (Answered b (answer.Replied r)) x d = (known_stage x ≡ Stands (calls ++ (call, r) ∷ [])) × (d ≡ None)
  EndsFrom a s (Calls calls call) (Refused b cause) x d =
      (((known_stage x ≡ Stands calls) × IsMistaken cause) ⊎ (known_stage x ≡ Rests)) × (d ≡ None)
  EndsFrom a s (Commits calls) (Answered b (answer.Committed n)) x d = (known_stage x ≡ Rests) × IsRecordOf calls n d
  EndsFrom a s (Commits calls) (Refused b cause) x d = (known_stage x ≡ Rests) × (d ≡ None)
  EndsFrom a s Ends n x d = (known_stage x ≡ Rests) × (n ≡ why a s.cause) × (d ≡ None)
  EndsFrom a s before n x d = ⊥

  -- by what is answered
  abbrev pub ComesTo : ℕ → Seat V → Notice V → Seat V → Option (Record V) → Type 0
  ComesTo a s Quiet x d = IsUnderWay s x d
  ComesTo a s n x d = EndsFrom a s (known_stage s) n x d

-- a request that is under way continues, or ends, by each own step in a world that events have reached
abbrev pub StepsComeTo : Type 0 → Type 0
StepsComeTo V = (blocks : List Block) (clock : ℕ) (values : List ℕ) (held : List (Held V)) (events : List (Event V)) (a : ℕ) (s : Seat V)
    (d : Option (Record V)) → HaveStripes blocks → let w = run (opened blocks clock values held) events in
    let x = w.seats a in
    let r = happens w (Step a) in
    IsUnderWay s x d → ComesTo a s r.1 (r.0.seats a) (latest (committed_by x x.stage) d)
