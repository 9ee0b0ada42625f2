-- Calls in a world, on words and on collections: what their asks do, and the steps that follow.
use Rattle.std.specs.Prelude.{ℕ, ◌+◌, Bool, true, false, ◌&&◌, ◌||◌, not, nat_lt, nat_le, ◌==◌, if◌then◌else◌, List, [], ◌∷◌, ◌++◌, length}
use Rattle.std.specs.Prelude.{filter, Option, Some, None}
use Rattle.tx_sets.specs.Entries.{Entries, lookup}
use Rattle.tx_sets.specs.declared.access_set.TheConstants.{LOCATION_LIMIT}
use Rattle.tx_machine.specs.Actor.{Actor}
use Rattle.tx_machine.specs.Requests as word
use Rattle.tx_machine.specs.Notices as told
use Rattle.seq_model.specs.declared.call.Op.{Op}
use Rattle.seq_model.specs.declared.call.Op.TheVariants.{Read, Write, Put, Remove, Add, Take, Insert, TakeLeast, Enqueue, Dequeue}
use Rattle.seq_model.specs.declared.call.Call.{Call}
use Rattle.seq_model.specs.declared.call.Reply.{Reply}
use Rattle.seq_model.specs.declared.call.Reply.TheVariants as reply
use Rattle.seq_model.specs.declared.refusal.Refusal.TheVariants as refusal
use Rattle.seq_model.specs.declared.event.Answer.TheVariants as answer
use Rattle.seq_model.specs.declared.event.Notice.TheVariants.{Quiet, Answered, Refused}
use Rattle.seq_model.specs.declared.limits.TheConstants.{CALL_LIMIT}
use Rattle.conflict.specs.declared.outcome.Outcome.{Outcome}
use Rattle.tx_machine.specs.Boosted.{Accept, changes, is_none}
use Rattle.replay_log.specs.Base.{outcome_of}
use Rattle.replay_log.specs.Contents.{Block, CollectionCall, block_of, blank, content}
use Rattle.replay_log.specs.Contents as contents
use Rattle.replay_log.specs.Pieces.{Piece, is_piece, piece_at}
use Rattle.replay_log.specs.Seats.{Open, Reading, Trying, Loading, Seat, World, After, at_stage, because, seated, acted, asks, actor_of}
use Rattle.replay_log.specs.WorldEnds.{gives_up}

-- the tries on a gate, and those but for the first
abbrev pub gate_tries : ℕ
gate_tries = 64

abbrev pub more_tries : ℕ
more_tries = 63

-- locations with their editions
abbrev pub with_editions : (ℕ → ℕ) → List ℕ → Entries
with_editions f [] = []
with_editions f (l ∷ ls) = (l, f l) ∷ with_editions f ls

-- the locations that a set does not have, and whether they fit beside those that it has
abbrev pub new_in : Entries → List ℕ → List ℕ
new_in set ls = filter (λ l. is_none (lookup set l)) ls

abbrev pub fits : Entries → List ℕ → Bool
fits set ls = nat_le (length set + length (new_in set ls)) LOCATION_LIMIT

-- whether a copy is found stale without a step: of the locations before the first that the read set does not have, one was read with
-- another edition than the copied one
abbrev pub differs : ℕ × ℕ → (others : Bool) → Option ℕ → Bool
differs d others None = false
differs d others (Some v) = if d.1 == v then others else true

abbrev pub is_stale : (reads es : Entries) → Bool
is_stale reads [] = false
is_stale reads (d ∷ es) = differs d (is_stale reads es) (lookup reads d.0)

-- whether the locations that a call reads and writes fit the sets; a declared reader has no sets
abbrev pub has_room : Actor → List ℕ → List ℕ → Bool
has_room x rs ws = x.declared || (fits x.reads rs && fits x.writes ws)

module _ {V : Type 0} where
  abbrev pub with_call : Seat V → Call V → Reply V → Seat V
  with_call x call r = record x { stage = Open; calls = x.calls ++ (call, r) ∷ [] }

  abbrev pub replied : World V → ℕ → Seat V → Call V → Reply V → After V
  replied w a x call r = (seated w a (with_call x call r), Answered a (answer.Replied r))

  -- a word that a set has is read at once
  abbrev pub reads : World V → ℕ → Seat V → ℕ → told.Notice → After V
  reads w a x l (told.Number v) = replied (acted w (asks a (word.AskRead l) ∷ [])) a x (record { target = l; op = Read }) (reply.Number v)
  reads w a x l n = (seated (acted w (asks a (word.AskRead l) ∷ [])) a (at_stage x (Reading l)), Quiet)

  -- the outcome that a call has after the transaction's own ones
  abbrev pub outcome_at : World V → ℕ → CollectionCall V → contents.CallWithOutcome V
  outcome_at w a asked =
      let c = content w.words w.blocks in
      let shadow = w.boosted.shadows a in
      c.outcome (changes c shadow.outcomes shadow.parts) asked

  abbrev pub reply_of : contents.CallWithOutcome V → Reply V
  reply_of o = get_reply o.outcome
    where
      get_reply : Option (Outcome V) → Reply V
      get_reply (Some r) = r.reply
      get_reply None = reply.Nothing

  abbrev pub call_of : contents.CallWithOutcome V → Call V
  call_of o = record { target = o.asked.collection; op = o.asked.op }

  -- a location was read: its edition is the copied one, or the copy is stale
  abbrev pub is_fresh : World V → ℕ → Seat V → ℕ × ℕ → ℕ → After V → After V
  is_fresh w a x d v next = if d.1 == v then next else gives_up w a (because x (refusal.Stale d.0 d.1 v)) []

  -- one that the read set does not have is read first; a declared reader has no read set, and reads each
  abbrev pub judges : World V → ℕ → Seat V → contents.CallWithOutcome V → ℕ × ℕ → Entries → After V → Option ℕ → After V
  judges w a x o d es next None = (seated (acted w (asks a (word.AskRead d.0) ∷ [])) a (at_stage x (Loading o (d ∷ es))), Quiet)
  judges w a x o d es next (Some v) = is_fresh w a x d v next

  -- the locations that are still to be judged, rising, with the editions that were copied; with none left the call is accepted
  abbrev pub loads : World V → ℕ → Seat V → contents.CallWithOutcome V → Entries → After V
  loads w a x o [] = replied (acted w (Accept a o.asked ∷ [])) a x (call_of o) (reply_of o)
  loads w a x o (d ∷ es) = judges w a x o d es (loads w a x o es) (lookup (actor_of w a).reads d.0)

  -- a call whose locations don't fit the sets is TooLong, and the transaction, `before` now, is as before; they are those of `sized`
  abbrev pub answers : World V → ℕ → Seat V → Seat V → (sized o : contents.CallWithOutcome V) → (editions : ℕ → ℕ) → After V
  answers w a before x sized o editions =
      let c = content w.words w.blocks in
      if has_room (actor_of w a) (c.reads sized) (c.writes sized) then loads w a x o (with_editions editions (c.reads o))
      else (seated w a (at_stage before Open), Refused a refusal.TooLong)

  -- a call that touches what was not copied yet tries its gate
  abbrev pub calls_on : World V → ℕ → Seat V → CollectionCall V → After V
  calls_on w a x asked =
      let o = outcome_at w a asked in
      if x.copied asked.collection (piece_at w.blocks asked) then answers w a x x o o (w.boosted.shadows a).editions
      else (seated w a (at_stage x (Trying asked more_tries)), Quiet)

  abbrev pub is_missing : Option (Outcome V) → Bool
  is_missing None = true
  is_missing (Some o) = false

  abbrev pub is_known : Option Block → Op V → Bool
  is_known (Some b) op = not (is_missing (outcome_of op (blank b)))
  is_known None op = false

  -- what may change what it is asked of
  abbrev pub is_change : Op V → Bool
  is_change (Write v) = true
  is_change (Put k v) = true
  is_change (Remove k) = true
  is_change (Add x) = true
  is_change (Take x) = true
  is_change (Insert x) = true
  is_change TakeLeast = true
  is_change (Enqueue x) = true
  is_change Dequeue = true
  is_change op = false

  -- a declared reader changes nothing
  abbrev pub may_ask : Actor → Op V → Bool
  may_ask set op = not (set.declared && is_change op)

  -- What is not there, of another kind, or a change that a declared reader asks for, is NoSuch; then a call past the limit, or a word that
  -- finds no room in its set, is TooLong.
  abbrev pub if_allowed : World V → ℕ → Seat V → (known room : Bool) → After V → After V
  if_allowed w a x known room next =
      if known then (if nat_lt (length x.calls) CALL_LIMIT && room then next else (w, Refused a refusal.TooLong))
      else (w, Refused a refusal.NoSuch)

  abbrev pub ask_op : World V → ℕ → Seat V → ℕ → Op V → After V
  ask_op w a x t Read =
      let set = actor_of w a in
      if_allowed w a x (nat_lt t w.words) (set.declared || (not (is_none (lookup set.writes t)) || fits set.reads (t ∷ [])))
      (reads w a x t (told.reply set set.place (word.AskRead t)))
  ask_op w a x t (Write v) =
      if_allowed w a x (nat_lt t w.words && not (actor_of w a).declared) (fits (actor_of w a).writes (t ∷ []))
      (replied (acted w (asks a (word.AskWrite t v) ∷ [])) a x (record { target = t; op = Write v }) reply.Done)
  ask_op w a x t op =
      if_allowed w a x (is_known (block_of w.blocks t) op && may_ask (actor_of w a) op) true
      (calls_on w a x (record { collection = t; op = op }))

  abbrev pub has_read : World V → ℕ → Seat V → ℕ → told.Notice → After V
  has_read w a x l (told.Number v) = replied w a x (record { target = l; op = Read }) (reply.Number v)
  has_read w a x l (told.Moved i word) = gives_up w a (because x (refusal.Moved i word)) []
  has_read w a x l n = (w, Quiet)

  -- what a call touches has been copied
  abbrev pub with_piece : Seat V → ℕ → Piece → Seat V
  with_piece x k p = record x { copied = λ j q. if j == k && is_piece p q then true else x.copied j q }

  -- the outcome that a call has of what the bases show now
  abbrev pub outcome_now : World V → CollectionCall V → contents.CallWithOutcome V
  outcome_now w asked = (content w.words w.blocks).outcome w.boosted.parts asked

  -- The outcome whose locations are to fit the sets, once what the call touches has been copied. Where that copy is found stale without a
  -- step, it differs from what was copied of its location before, and the call has the outcome that it has of the new copy.
  abbrev pub sized_by : World V → ℕ → CollectionCall V → contents.CallWithOutcome V → contents.CallWithOutcome V
  sized_by w a asked o =
      let c = content w.words w.blocks in
      if is_stale (actor_of w a).reads (with_editions w.boosted.editions (c.reads o)) then outcome_now w asked else o

  abbrev pub has_copied : World V → ℕ → Seat V → CollectionCall V → After V
  has_copied w a x asked =
      let o = outcome_at w a asked in
      answers w a x (with_piece x asked.collection (piece_at w.blocks asked)) (sized_by w a asked o) o w.boosted.editions

  abbrev pub has_loaded : World V → ℕ → Seat V → contents.CallWithOutcome V → ℕ × ℕ → Entries → told.Notice → After V
  has_loaded w a x o d es (told.Number v) = is_fresh w a x d v (loads w a x o es)
  has_loaded w a x o d es (told.Moved i word) = gives_up w a (because x (refusal.Moved i word)) []
  has_loaded w a x o d es n = (w, Quiet)
