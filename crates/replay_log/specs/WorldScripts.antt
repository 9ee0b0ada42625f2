-- Scripts of a world, to be computed: lines that ask and step, what they answer, and what they leave. Replies are left out, since finite
-- maps don't compute.
use Rattle.std.specs.Prelude.{ℕ, zero, suc, Bool, List, [], ◌∷◌, ◌++◌, length, Option}
use Rattle.std.specs.FinMap.{empty}
use Rattle.seq_model.specs.declared.call.Op.{Op}
use Rattle.seq_model.specs.declared.held.Held.TheVariants.{Map, Queue}
use Rattle.seq_model.specs.declared.record.Record.{Record}
use Rattle.seq_model.specs.declared.refusal.Refusal.{Refusal}
use Rattle.seq_model.specs.declared.event.Event.TheVariants.{Ask, Step, Starve}
use Rattle.seq_model.specs.declared.event.Request.{Request}
use Rattle.seq_model.specs.declared.event.Request.TheVariants as request
use Rattle.seq_model.specs.declared.event.Answer.TheVariants as answer
use Rattle.seq_model.specs.declared.event.Notice.{Notice}
use Rattle.seq_model.specs.declared.event.Notice.TheVariants.{Quiet, Answered, Refused}
use Rattle.replay_log.specs.Parts.{MapKind, QueueKind}
use Rattle.replay_log.specs.Seats.{World, Ended}
use Rattle.replay_log.specs.Worlds.{happens, opened}
use Rattle.replay_log.specs.WorldTraces.{half, state}

-- a notice without the reply that it may have
pub data Told : Type 0 where
  Begun Committed : (a number : ℕ) → Told
  Replied Aborted : (a : ℕ) → Told
  IsRefused : (a : ℕ) → (cause : Refusal) → Told

abbrev pub hears : Notice ℕ → List Told
hears Quiet = []
hears (Answered a (answer.Begun rv)) = Begun a rv ∷ []
hears (Answered a (answer.Replied r)) = Replied a ∷ []
hears (Answered a (answer.Committed n)) = Committed a n ∷ []
hears (Answered a answer.Aborted) = Aborted a ∷ []
hears (Refused a cause) = IsRefused a cause ∷ []

-- One line of a script: a request alone; with steps until it is answered; so many steps, up to the first notice; a failed allocation.
pub data Line : Type 0 where
  Asks Does : (a : ℕ) → (q : Request ℕ) → Line
  Steps : (a n : ℕ) → Line
  Starves : (a : ℕ) → Line

-- what was answered, or else what comes next
abbrev pub or_next : List Told → World ℕ → (World ℕ → World ℕ × List Told) → World ℕ × List Told
or_next [] w next = next w
or_next ts w next = (w, ts)

-- up to n steps of a, up to the first notice
abbrev pub goes : ℕ → ℕ → World ℕ → World ℕ × List Told
goes a zero w = (w, [])
goes a (suc n) w = or_next (hears (happens w (Step a)).1) (happens w (Step a)).0 (goes a n)

abbrev pub one_line : Line → World ℕ → World ℕ × List Told
one_line (Asks a q) w = ((happens w (Ask a q)).0, hears (happens w (Ask a q)).1)
one_line (Does a q) w = or_next (hears (happens w (Ask a q)).1) (happens w (Ask a q)).0 (goes a 99)
one_line (Steps a n) w = goes a n w
one_line (Starves a) w = ((happens w (Starve a)).0, hears (happens w (Starve a)).1)

abbrev pub told : List Line → World ℕ → List Told
told [] w = []
told (l ∷ ls) w = (one_line l w).1 ++ told ls (one_line l w).0

abbrev pub world_after : List Line → World ℕ → World ℕ
world_after [] w = w
world_after (l ∷ ls) w = world_after ls (one_line l w).0

-- ---- lines, as they are read aloud
abbrev pub asking : ℕ → Op ℕ → Request ℕ
asking target op = request.Call (record { target = target; op = op })

abbrev pub begins : ℕ → Line
begins a = Does a request.Begin

abbrev pub begins_read : ℕ → Line
begins_read a = Does a request.BeginRead

abbrev pub calls : ℕ → (target : ℕ) → Op ℕ → Line
calls a target op = Does a (asking target op)

abbrev pub asks_call : ℕ → (target : ℕ) → Op ℕ → Line
asks_call a target op = Asks a (asking target op)

abbrev pub commits : ℕ → Line
commits a = Does a request.Commit

abbrev pub asks_commit : ℕ → Line
asks_commit a = Asks a request.Commit

abbrev pub goes_on : ℕ → Line
goes_on a = Steps a 99

-- ---- what a world shows, its collections and replies aside
pub record Kept : Type 0 where
  pub actor : ℕ
  pub number : ℕ
  pub writes : Bool
  pub calls : ℕ

pub record Lost : Type 0 where
  pub actor : ℕ
  pub rv : ℕ
  pub calls : ℕ
  pub cause : Option Refusal

pub record Left : Type 0 where
  pub told : List Told
  pub records : List Kept
  pub aborted : List Lost
  pub half : List ℕ
  pub words : List ℕ

abbrev pub kept : List (ℕ × Record ℕ) → List Kept
kept [] = []
kept (r ∷ rs) = record { actor = r.0; number = r.1.number; writes = r.1.writes; calls = length r.1.calls } ∷ kept rs

abbrev pub lost : List (Ended ℕ) → List Lost
lost [] = []
lost (e ∷ es) = record { actor = e.actor; rv = e.rv; calls = length e.calls; cause = e.cause } ∷ lost es

abbrev pub leaves : List Line → World ℕ → Left
leaves ls w =
    let u = world_after ls w in
    record { told = told ls w; records = kept u.records; aborted = lost u.aborted; half = half u; words = (state u).words }

-- ---- openings
abbrev pub a_map : World ℕ
a_map = opened (record { kind = MapKind; stripes = 1 } ∷ []) 0 [] (Map empty ∷ [])

abbrev pub two_stripes : World ℕ
two_stripes = opened (record { kind = MapKind; stripes = 2 } ∷ []) 0 [] (Map empty ∷ [])

abbrev pub two_maps : World ℕ
two_maps =
    opened (record { kind = MapKind; stripes = 1 } ∷ record { kind = MapKind; stripes = 1 } ∷ []) 0 [] (Map empty ∷ Map empty ∷ [])

abbrev pub two_words : World ℕ
two_words = opened [] 0 (1 ∷ 0 ∷ []) []

abbrev pub word_and_map : World ℕ
word_and_map = opened (record { kind = MapKind; stripes = 1 } ∷ []) 0 (0 ∷ []) (Map empty ∷ [])

-- a word, and a queue with these items
abbrev pub word_and_queue : (stripes : ℕ) → List ℕ → World ℕ
word_and_queue n items = opened (record { kind = QueueKind; stripes = n } ∷ []) 0 (0 ∷ []) (Queue 0 items ∷ [])
