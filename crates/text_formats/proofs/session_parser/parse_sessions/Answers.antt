use Rattle.std.proofs.Common.{rules, arith, refl, ◌≡◌, ◌+◌, zero, suc}
use Rattle.std.proofs.lemmas.List.Elements.{All-nil}
use Rattle.vac_model.specs.Actions.{IsAllowed}
use Rattle.vac_model.proofs.TestLemmas.{nothing_balanced}
use Rattle.text_formats.proofs.ReadingLemmas.{bad_behind, bad_here, bad_last, line_number, next_number, reads_back, reads_front, unread}
use Rattle.text_formats.specs.declared.session_line.SessionLine.{SessionLine}
use Rattle.text_formats.specs.declared.session_parser.Sessions.{Sessions}
use Rattle.text_formats.specs.Sessions.{IsBadLine, IsNext, IsNextLine, with_line}
use Rattle.text_formats.proofs.OpeningLemmas.{stays_balanced, stay_allowed}
use Rattle.text_formats.proofs.SessionLemmas.{next_line, next_only, no_next, read_whole}
use Rattle.text_formats.proofs.session_parser.parse_sessions.Goals as goal

pub loop-line-init : goal.loop-line-init
loop-line-init c =
    let new = c.new-sessions.ensures in
    record {
      front = λ whole h. rw new at h;
      back = λ whole h. rw new h;
      bad = λ n h. let e : 1 + n ≡ suc n = omega arith in rw e (rw new at h);
      few = omega arith;
      balanced = rw new nothing_balanced;
      allowed = rw new (All-nil IsAllowed);
    }

pub returns-in_default-2-clause-refused : goal.returns-in_default-2-clause-refused
returns-in_default-2-clause-refused c =
    let at = c.loop-line.sessions in
    let bytes = c.in-Some.line.now in
    let none : (line : SessionLine) (behind : Sessions) → IsNext at bytes line behind → ⊥ =
    no_next at bytes c.in_ok-line.field-0 (search rules) c.in_ok-line.ensures.only in
    line_number (IsBadLine c.args.text.now) c.loop-line.number
    (c.loop-line.invariant.bad zero
    (bad_here IsNext at bytes c.loop-line.rest.now c.in-Some.behind.now c.in-Some.ensures.some none))

pub returns-in_default-2-clause-only : goal.returns-in_default-2-clause-only
returns-in_default-2-clause-only c tables actions is =
    let at = c.loop-line.sessions in
    let bytes = c.in-Some.line.now in
    let none : (line : SessionLine) (behind : Sessions) → IsNext at bytes line behind → ⊥ =
    no_next at bytes c.in_ok-line.field-0 (search rules) c.in_ok-line.ensures.only in
    absurd (unread IsNext with_line at bytes c.loop-line.rest.now c.in-Some.behind.now c.in-Some.ensures.some none
    at is.0 (c.loop-line.invariant.back is.0 is.1))

pub loop-line-preserved : goal.loop-line-preserved
loop-line-preserved c =
    let at = c.loop-line.sessions in
    let bytes = c.in-Some.line.now in
    let left = c.loop-line.rest.now in
    let rest = c.in-Some.behind.now in
    let added = c.add.new.self in
    let line = c.in-Some-2.line in
    let read = c.in_ok-line.field-0 in
    let cut = c.in-Some.ensures.some in
    let is : added ≡ with_line at line = c.in_ok-add.ensures in
    let spelled : IsNextLine at bytes line = next_line at bytes read line (search rules) c.in_ok-line.ensures.found in
    let only : (l : SessionLine) (b : Sessions) → IsNext at bytes l b → (l ≡ line) × (b ≡ added) =
    next_only at bytes read line added (search rules) is c.in_ok-line.ensures.only in
    record {
      front = λ whole h. c.loop-line.invariant.front whole
          (reads_front IsNext with_line at bytes left rest cut line added (spelled, is) at added whole is h);
      back = λ whole h. reads_back IsNext with_line at bytes left rest cut line added only at added whole is
          (c.loop-line.invariant.back whole h);
      bad = λ n h. next_number (IsBadLine c.args.text.now) c.loop-line.number n
          (c.loop-line.invariant.bad (suc n) (bad_behind IsNext at bytes left rest cut line added (spelled, is) n h));
      few = omega (arith, c.loop-line.invariant.few, c.in-Some.ensures.shorter);
      balanced = rw is (stays_balanced at bytes line spelled c.loop-line.invariant.balanced);
      allowed = rw is (stay_allowed at bytes line spelled c.loop-line.invariant.allowed);
    }

pub returns-then-not-is_empty-clause-refused : goal.returns-then-not-is_empty-clause-refused
returns-then-not-is_empty-clause-refused c =
    line_number (IsBadLine c.args.text.now) c.loop-line.number
    (c.loop-line.invariant.bad zero (bad_last IsNext c.loop-line.sessions c.loop-line.rest.now c.in_default.ensures.none (search rules)))

pub returns-clause-sessions : goal.returns-clause-sessions
returns-clause-sessions c =
    let read = c.loop-line.sessions in
    let whole = read_whole c.loop-line.rest.now read c.in_default.ensures.none
    (search (rules, arith, c.is_empty.ensures, c.if-not-is_empty.false)) in
    (read, c.loop-line.invariant.front read whole, c.opening.ensures, c.into_vec.ensures)
