-- The texts that a script prints.
use Rattle.std.specs.Prelude.{ℕ, if◌then◌else◌, List, [], ◌∷◌, ◌++◌, length, codes, flat_map}
use Rattle.std.specs.Fmt.{decimal}
use Rattle.std.specs.FinMap as map
use Rattle.seq_model.specs.declared.call.Reply.{Reply}
use Rattle.seq_model.specs.declared.call.Reply.TheVariants.{Done, Full, Nothing, Value, Found, Number, Yes, No}
use Rattle.seq_model.specs.declared.event.Answer.{Answer}
use Rattle.seq_model.specs.declared.event.Answer.TheVariants.{Begun, Replied, Committed, Aborted}
use Rattle.seq_model.specs.declared.event.Notice.{Notice}
use Rattle.seq_model.specs.declared.event.Notice.TheVariants.{Quiet, Answered, Refused}
use Rattle.seq_model.specs.declared.held.Held.{Held}
use Rattle.seq_model.specs.declared.held.Held.TheVariants.{Map, Bag, Pq, Queue}
use Rattle.seq_model.specs.declared.record.Record.{Record}
use Rattle.seq_model.specs.Contents.{Contents}
use Rattle.seq_model.specs.Texts.{refusal_text}
use Rattle.step_world.specs.declared.trace.Trace.{Trace}
use Rattle.session_text.specs.declared.run.ScriptRun.{ScriptRun}

abbrev pub number_text : ℕ → List ℕ
number_text n = codes " " ++ decimal n

abbrev pub pair_text : ℕ × ℕ → List ℕ
pair_text p = codes " " ++ (decimal p.0 ++ (codes ":" ++ decimal p.1))

abbrev pub reply_text : Reply ℕ → List ℕ
reply_text Done = codes "done"
reply_text Full = codes "full"
reply_text Nothing = codes "none"
reply_text (Value n) = codes "some " ++ decimal n
reply_text (Found n) = codes "some " ++ decimal n
reply_text (Number n) = decimal n
reply_text Yes = codes "true"
reply_text No = codes "false"

abbrev pub answer_text : Answer ℕ → List ℕ
answer_text (Begun clock) = codes "begun " ++ decimal clock
answer_text (Replied reply) = reply_text reply
answer_text (Committed number) = codes "committed " ++ decimal number
answer_text Aborted = codes "aborted"

-- the line of a notice, where it answers something
abbrev pub notice_text : Notice ℕ → List ℕ
notice_text Quiet = []
notice_text (Answered actor answer) = decimal actor ++ (codes ": " ++ (answer_text answer ++ (10 ∷ [])))
notice_text (Refused actor refusal) = decimal actor ++ (codes ": " ++ (refusal_text refusal ++ (10 ∷ [])))

-- the line of a committed transaction, with its actor
abbrev pub record_text : ℕ × Record ℕ → List ℕ
record_text r =
    codes "record " ++ (decimal r.1.number ++ (codes " " ++ ((if r.1.writes then codes "write" else codes "read")
    ++ (codes " actor " ++ (decimal r.0 ++ (codes " calls " ++ (decimal (length r.1.calls) ++ (10 ∷ []))))))))

abbrev pub half_text : ℕ → List ℕ
half_text number = codes "half " ++ (decimal number ++ (10 ∷ []))

abbrev pub held_text : Held ℕ → List ℕ
held_text (Map m) = codes "map" ++ flat_map pair_text (map.entries m)
held_text (Bag m) = codes "bag" ++ flat_map pair_text (map.entries m)
held_text (Pq m) = codes "pq" ++ flat_map pair_text (map.entries m)
held_text (Queue head items) = codes "queue " ++ (decimal head ++ flat_map number_text items)

-- the line of words, where there are some
abbrev pub words_text : List ℕ → List ℕ
words_text [] = []
words_text (w ∷ ws) = codes "words" ++ (flat_map number_text (w ∷ ws) ++ (10 ∷ []))

abbrev pub state_text : Contents ℕ → List ℕ
state_text state = words_text state.words ++ flat_map (λ held. held_text held ++ (10 ∷ [])) state.held

-- the committed transactions, the half-done commits, and what words and collections hold
abbrev pub trace_text : Trace ℕ → List ℕ
trace_text trace = flat_map record_text trace.records ++ (flat_map half_text trace.half ++ state_text trace.state)

-- the lines of the notices, and then the trace's
abbrev pub run_text : ScriptRun → List ℕ
run_text run = flat_map notice_text run.notices ++ trace_text run.trace
