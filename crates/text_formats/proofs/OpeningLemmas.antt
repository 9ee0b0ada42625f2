-- What has been read of a session file opens with balanced tables, and each of its actions is allowed.
-- An item that is put into tables which have none there, all its units free, leaves them balanced; a session adds no item.
use Rattle.std.proofs.Common.{sym, ap, arith, ℕ, List, [], ◌∷◌}
use Rattle.std.specs.Prelude.{All}
use Rattle.std.proofs.lemmas.List.Elements.{All-append, All-cons, All-nil}
use Rattle.vac_model.specs.Actions.{IsAllowed}
use Rattle.vac_model.specs.Balanced.{IsBalanced, used_of}
use Rattle.vac_model.proofs.BalanceLemmas.{put_keeps}
use Rattle.text_formats.specs.declared.session_line.SessionLine.{SessionLine}
use Rattle.text_formats.specs.declared.session_line.SessionLine.TheVariants.{Have, Does}
use Rattle.text_formats.specs.declared.session_parser.Sessions.{Sessions}
use Rattle.text_formats.specs.SessionLines.{IsLine}
use Rattle.text_formats.specs.Sessions.{IsNextLine, MayStand, opening, with_line}

opening_on : (s : Sessions) (tokens : List (List ℕ)) (line : SessionLine) → IsLine tokens line → MayStand s line
    → IsBalanced (opening s.items) → IsBalanced (opening (with_line s line).items)
opening_on s tokens (Have kind id total price) is may balanced =
    put_keeps kind id (record { total = total; used = 0; free = total; price = price }) (opening s.items) balanced
    (omega arith, is.3, is.4) (ap used_of (sym may.1))
opening_on s tokens (Does action) is may balanced = balanced

pub stays_balanced : (s : Sessions) (bytes : List ℕ) (line : SessionLine) → IsNextLine s bytes line
    → IsBalanced (opening s.items) → IsBalanced (opening (with_line s line).items)
stays_balanced s bytes line next balanced = opening_on s _ line next.spelled next.in_order balanced

actions_on : (s : Sessions) (tokens : List (List ℕ)) (line : SessionLine) → IsLine tokens line
    → All IsAllowed s.actions → All IsAllowed (with_line s line).actions
actions_on s tokens (Have kind id total price) is allowed = allowed
actions_on s tokens (Does action) is allowed =
    All-append IsAllowed s.actions (action ∷ []) allowed (All-cons IsAllowed action [] is.1 (All-nil IsAllowed))

pub stay_allowed : (s : Sessions) (bytes : List ℕ) (line : SessionLine) → IsNextLine s bytes line
    → All IsAllowed s.actions → All IsAllowed (with_line s line).actions
stay_allowed s bytes line next allowed = actions_on s _ line next.spelled allowed
