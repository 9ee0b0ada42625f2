-- A running actor in a world: what it shows is its seat and its word actor, and what a step makes of it is said of every world that
-- shows it.
use Rattle.std.specs.Prelude.{◌≡◌, ℕ, true, None, List, [], ◌∷◌, if◌then◌else◌}
use Rattle.tx_sets.specs.Entries.{Entries, lookup, locations}
use Rattle.tx_machine.specs.Actor.{Actor, Open as AtRest, Look, Check, First, goes}
use Rattle.tx_machine.specs.Requests as word
use Rattle.tx_machine.specs.Requests.{ask}
use Rattle.seq_model.specs.declared.event.Notice.{Notice}
use Rattle.seq_model.specs.declared.event.Notice.TheVariants.{Quiet, Refused}
use Rattle.seq_model.specs.declared.refusal.Refusal.TheVariants as refusal
use Rattle.tx_machine.specs.Boosted.{PutGate, every, is_held}
use Rattle.replay_log.specs.Contents.{CollectionCall, content}
use Rattle.replay_log.specs.Worlds.{World, Seat, After, Leaving, Cancelling, Loading, is_leaving, at_stage, acted, asks, moves, actor_of}
use Rattle.replay_log.specs.Worlds.{word_notice, gives_up, recorded, stores, has_stored, has_room, with_editions, with_piece, outcome_at}
use Rattle.replay_log.specs.Worlds.{outcome_now, is_stale, has_copied, seated, Open}
use Rattle.replay_log.specs.Pieces.{piece_at, covers_at}
use Rattle.actor_parts.specs.Judged.{judged, left_after, comes_to}
use Rattle.actor_parts.specs.declared.judged.Judged.{Judged}
use Rattle.actor_parts.specs.declared.judged.Judged.TheVariants.{All, Next, Stale}
use Rattle.replay_log.specs.Contents.{CallWithOutcome}

-- the word actor after a cancel and an abort
abbrev pub cancelled : Actor → Actor
cancelled x = ask (ask x x.place word.AskCancel) (ask x x.place word.AskCancel).place word.AskAbort

module _ {V : Type 0} where
  -- actor a of the world w has the seat x and the word actor y
  abbrev pub Shows : ℕ → Seat V → Actor → World V → Type 0
  Shows a x y w = (w.seats a ≡ x) × (actor_of w a ≡ y)

  -- where it is x and y, it is p and q afterwards, and n is answered
  abbrev pub Follows : ℕ → (x : Seat V) → Actor → (p : Seat V) → Actor → Notice V → World V → After V → Type 0
  Follows a x y p q n w f = Shows a x y w → Shows a p q f.0 × (f.1 ≡ n)

  -- the stage of an aborted transaction, with locks or without, and no gate
  abbrev pub ending : Seat V → Actor → Seat V
  ending x y = at_stage x (if is_leaving y.place then Leaving else Cancelling)

-- The transaction is aborted: its locks go back, or it leaves.
abbrev pub GivesUp : Type 0 → Type 0
GivesUp V =
    (a : ℕ) (x z : Seat V) (y : Actor) (w : World V)
    → Follows a x y (ending z (cancelled y)) (cancelled y) Quiet w (gives_up w a z [])

-- The first value store is asked for where all is locked, checked and held: then the word actor stands at it, and the step is the world's.
abbrev pub AsksStores : Type 0 → Type 0
AsksStores V =
    (a : ℕ) (x : Seat V) (y : Actor) (w : World V) (ks : List ℕ) → y.place ≡ Check []
    → every (is_held (content w.words w.blocks) w.boosted a) (locations y.writes) ≡ true
    → Shows a x y w
    → Shows a x (goes y First) (acted w (asks a word.AskStore ∷ []))
    × (stores w a x ks
    ≡ has_stored (recorded (acted (acted w (asks a word.AskStore ∷ [])) (moves a ∷ [])) a x true x.wv) a x ks
    (word_notice (acted w (asks a word.AskStore ∷ [])) a))

-- The store of a call's gate: the world with what was copied. Its actor's seat and word actor stand, and so do the editions of the bases.
abbrev pub put_back : {V : Type 0} → ℕ → World V → CollectionCall V → World V
put_back a w asked = acted w (PutGate a asked.collection (covers_at w.words w.blocks asked) ∷ [])

-- What a call results in there: its locations are judged with the editions of the base, and the piece counts as copied; one whose locations
-- don't fit is TooLong, and the piece does not count. Where the copy is found stale without a step, the locations are those of the call on
-- the new copy.
abbrev pub CopiesForCall : Type 0 → Type 0
CopiesForCall V =
    (a : ℕ) (x : Seat V) (y : Actor) (w : World V) (asked : CollectionCall V) → Shows a x y w →
    let u = put_back a w asked in
    let c = content w.words w.blocks in
    let o = outcome_at u a asked in
    let es = with_editions w.boosted.editions (c.reads o) in
    let sized = (if is_stale y.reads es then outcome_now u asked else o) in
    Shows a x y u
    × (has_copied u a x asked
    ≡ (if has_room y (c.reads sized) (c.writes sized)
    then comes_to u a (with_piece x asked.collection (piece_at w.blocks asked)) o (left_after y.reads es) (judged y.reads es)
    else (seated u a (at_stage x Open), Refused a refusal.TooLong)))

-- the word actor once a call was judged, but for the writes of one that is accepted
abbrev pub actor_after : Judged → Actor → Actor
actor_after All y = y
actor_after (Next l) y = goes y (Look l)
actor_after (Stale l b v) y = cancelled y

-- a location that no set has is read next
abbrev pub ReadsNext : Type 0 → Type 0
ReadsNext V =
    (a : ℕ) (x : Seat V) (y : Actor) (w : World V) (o : CallWithOutcome V) (left : Entries) (l : ℕ)
    → y.place ≡ AtRest → lookup y.writes l ≡ None → lookup y.reads l ≡ None
    → Follows a x y (at_stage x (Loading o left)) (actor_after (Next l) y) Quiet w (comes_to w a x o left (Next l))
