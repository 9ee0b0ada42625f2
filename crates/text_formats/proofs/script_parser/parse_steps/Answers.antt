use Rattle.std.proofs.Common.{rules, arith, ◌≡◌, zero, suc}
use Rattle.text_formats.specs.declared.script_line.ScriptLine.{ScriptLine}
use Rattle.text_formats.specs.declared.script_parser.Part.{Part}
use Rattle.text_formats.specs.Scripts.{IsBadLine, IsNext, with_line}
use Rattle.text_formats.proofs.ReadingLemmas.{
  bad_behind,
  bad_here,
  bad_last,
  line_number,
  next_number,
  next_of,
  only_one,
  reads_back,
  reads_front,
  unread,
}
use Rattle.text_formats.proofs.script_parser.parse_steps.Goals as goal

pub returns-in_default-2-clause-refused : goal.returns-in_default-2-clause-refused
returns-in_default-2-clause-refused c =
    let at = c.loop-line.part in
    let bytes = c.in-Some.line.now in
    let none : (line : ScriptLine) (behind : Part) → IsNext at bytes line behind → ⊥ =
    λ line behind next. search (rules, c.in_ok-line.ensures.only line behind next) in
    line_number (IsBadLine c.args.text.now) c.loop-line.number
    (c.loop-line.invariant.bad zero
    (bad_here IsNext at bytes c.loop-line.rest.now c.in-Some.behind.now c.in-Some.ensures.some none))

pub returns-in_default-2-clause-only : goal.returns-in_default-2-clause-only
returns-in_default-2-clause-only c whole is =
    let at = c.loop-line.part in
    let bytes = c.in-Some.line.now in
    let none : (line : ScriptLine) (behind : Part) → IsNext at bytes line behind → ⊥ =
    λ line behind next. search (rules, c.in_ok-line.ensures.only line behind next) in
    absurd (unread IsNext with_line at bytes c.loop-line.rest.now c.in-Some.behind.now c.in-Some.ensures.some none
    c.loop-line.script whole (c.loop-line.invariant.back whole is))

pub loop-line-preserved : goal.loop-line-preserved
loop-line-preserved c =
    let at = c.loop-line.part in
    let bytes = c.in-Some.line.now in
    let left = c.loop-line.rest.now in
    let rest = c.in-Some.behind.now in
    let script = c.loop-line.script in
    let added = c.add.new.self in
    let line = c.in-Some-2.line in
    let behind = c.in-Some-2.next in
    let read = c.in_ok-line.field-0 in
    let cut = c.in-Some.ensures.some in
    let next : IsNext at bytes line behind = next_of IsNext at bytes read line behind (search rules) c.in_ok-line.ensures.found in
    let only : (l : ScriptLine) (b : Part) → IsNext at bytes l b → (l ≡ line) × (b ≡ behind) =
    only_one IsNext at bytes read line behind (search rules) c.in_ok-line.ensures.only in
    record {
      front = λ whole h. c.loop-line.invariant.front whole
          (reads_front IsNext with_line at bytes left rest cut line behind next script added whole c.in_ok-add.ensures h);
      back = λ whole h. reads_back IsNext with_line at bytes left rest cut line behind only script added whole c.in_ok-add.ensures
          (c.loop-line.invariant.back whole h);
      bad = λ n h. next_number (IsBadLine c.args.text.now) c.loop-line.number n
          (c.loop-line.invariant.bad (suc n) (bad_behind IsNext at bytes left rest cut line behind next n h));
      few = omega (arith, c.loop-line.invariant.few, c.in-Some.ensures.shorter);
    }

pub returns-then-not-is_empty-clause-refused : goal.returns-then-not-is_empty-clause-refused
returns-then-not-is_empty-clause-refused c =
    line_number (IsBadLine c.args.text.now) c.loop-line.number
    (c.loop-line.invariant.bad zero (bad_last IsNext c.loop-line.part c.loop-line.rest.now c.in_default.ensures.none (search rules)))
