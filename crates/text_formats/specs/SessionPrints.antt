-- What is printed of sessions.
use Rattle.std.specs.Prelude.{ℕ, ◌+◌, List, [], ◌∷◌, ◌++◌, codes, flat_map, length, ◌==◌, if◌then◌else◌}
use Rattle.std.specs.Fmt.{decimal}
use Rattle.std.specs.FinMap as map
use Rattle.seq_model.specs.Texts.{refusal_text}
use Rattle.vac_model.specs.declared.action.ActionReply.{ActionReply}
use Rattle.vac_model.specs.declared.action.ActionReply.TheVariants.{Reserved, Deleted, Updated, Found, Bill, Absent}
use Rattle.vac_model.specs.declared.action.ChangeReply.{ChangeReply}
use Rattle.vac_model.specs.declared.action.ChangeReply.TheVariants.{Refused}
use Rattle.vac_model.specs.declared.action.ChangeReply.TheVariants as changed
use Rattle.vac_model.specs.declared.action.KindReply.{KindReply}
use Rattle.vac_model.specs.declared.action.KindReply.TheVariants.{Nothing, Already, Full, Booked, NoFree, Waits}
use Rattle.vac_model.specs.declared.each.Each.{Each}
use Rattle.vac_model.specs.declared.item.Booking.{Booking}
use Rattle.vac_model.specs.declared.item.Customer.{Customer}
use Rattle.vac_model.specs.declared.item.Item.{Item}
use Rattle.vac_model.specs.declared.item.Kind.{Kind}
use Rattle.vac_model.specs.declared.item.Kind.TheVariants.{Car, Flight, Room}
use Rattle.vac_model.specs.declared.item.Wait.{Wait}
use Rattle.vac_model.specs.Holdings.{Holdings, of_kind, queue}
use Rattle.seq_model.specs.declared.causes.LastAbort.{LastAbort}
use Rattle.seq_model.specs.declared.causes.LastAbort.TheVariants as last
use Rattle.text_formats.specs.declared.session_print.Line.{Line}
use Rattle.text_formats.specs.declared.session_print.Line.TheVariants as line
use Rattle.text_formats.specs.SessionLines.{kind_token}

abbrev pub number_text : ℕ → List ℕ
number_text n = codes " " ++ decimal n

-- ---- replies
abbrev pub part_text : KindReply → List ℕ
part_text Nothing = codes "nothing"
part_text (Booked id units price) = codes "booked " ++ (decimal id ++ (codes " " ++ (decimal units ++ (codes " " ++ decimal price))))
part_text (Already id) = codes "already " ++ decimal id
part_text (NoFree id) = codes "nofree " ++ decimal id
part_text (Waits id ticket) = codes "waits " ++ (decimal id ++ (codes " " ++ decimal ticket))
part_text (Full id) = codes "full " ++ decimal id

abbrev pub parts_text : Each KindReply → List ℕ
parts_text parts = part_text parts.car ++ (codes ", " ++ (part_text parts.flight ++ (codes ", " ++ part_text parts.room)))

abbrev pub changed_text : ChangeReply → List ℕ
changed_text changed.Done = codes "done"
changed_text Refused = codes "refused"

-- with a space between
abbrev pub changes_text : List ChangeReply → List ℕ
changes_text [] = []
changes_text (first ∷ changes) = changed_text first ++ flat_map (λ made. codes " " ++ changed_text made) changes

abbrev pub item_text : Item → List ℕ
item_text i = codes "total " ++
    (decimal i.total ++ (codes " used " ++ (decimal i.used ++ (codes " free " ++
    (decimal i.free ++ (codes " price " ++ decimal i.price))))))

abbrev pub reply_text : ActionReply → List ℕ
reply_text (Reserved parts) = parts_text parts
reply_text (Deleted bill served) = codes "bill " ++ (decimal bill ++ (codes " served " ++ decimal served))
reply_text (Updated changes) = changes_text changes
reply_text (Found item) = item_text item
reply_text (Bill sum) = codes "bill " ++ decimal sum
reply_text Absent = codes "absent"

-- ---- sessions

-- why a session has no receipt
abbrev pub missed_text : LastAbort → List ℕ
missed_text (last.Refused refusal) = codes "missed: " ++ refusal_text refusal
missed_text last.GivenUp = codes "missed: given up"
missed_text last.NotStarted = codes "missed: not started"

-- the number of its commit and its reply, or why it has none
abbrev pub outcome_text : Line → List ℕ
outcome_text (line.Done number reply) = decimal number ++ (codes ": " ++ reply_text reply)
outcome_text (line.Missed cause) = missed_text cause

-- the line of the session with this number
abbrev pub line_text : ℕ → Line → List ℕ
line_text n line = decimal n ++ (codes " " ++ (outcome_text line ++ (10 ∷ [])))

-- the lines of sessions, the first with this number
abbrev pub lines_text : ℕ → List Line → List ℕ
lines_text n [] = []
lines_text n (line ∷ lines) = line_text n line ++ lines_text (n + 1) lines

-- ---- tables
abbrev pub item_line : Kind → ℕ × Item → List ℕ
item_line k p = kind_token k ++ (codes " " ++ (decimal p.0 ++ (codes ": " ++ (item_text p.1 ++ (10 ∷ [])))))

abbrev pub items_text : Kind → Holdings → List ℕ
items_text k s = flat_map (item_line k) (map.entries (of_kind k s.items))

abbrev pub booking_text : Booking → List ℕ
booking_text b = codes " " ++
    (kind_token b.kind ++ (codes " " ++ (decimal b.id ++ (codes " " ++ (decimal b.units ++ (codes " " ++ decimal b.price))))))

abbrev pub wait_text : Wait → List ℕ
wait_text w = codes " wait " ++
    (kind_token w.kind ++ (codes " " ++ (decimal w.id ++ (codes " " ++ (decimal w.units ++ (codes " " ++ decimal w.ticket))))))

abbrev pub customer_line : ℕ × Customer → List ℕ
customer_line p = codes "customer " ++
    (decimal p.0 ++ (codes ":" ++ (flat_map booking_text p.1.bookings ++ (flat_map wait_text p.1.waits ++ (10 ∷ [])))))

-- the tickets of a queue, where there are some
abbrev pub tickets_line : Kind → List ℕ → List ℕ
tickets_line k tickets =
    if length tickets == 0 then [] else codes "waiting " ++ (kind_token k ++ (codes ":" ++ (flat_map number_text tickets ++ (10 ∷ []))))

abbrev pub queue_text : Kind → Holdings → List ℕ
queue_text k s = tickets_line k (queue k s).tickets

-- the items, the customers and the queues
abbrev pub tables_text : Holdings → List ℕ
tables_text s =
    items_text Car s ++ (items_text Flight s ++ (items_text Room s
    ++ (flat_map customer_line (map.entries s.customers)
    ++ (queue_text Car s ++ (queue_text Flight s ++ queue_text Room s)))))

-- the lines of the sessions, from 1, and then what the tables hold
abbrev pub printed : List Line → Holdings → List ℕ
printed lines tables = lines_text 1 lines ++ tables_text tables
