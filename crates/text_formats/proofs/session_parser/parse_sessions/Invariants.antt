use Rattle.std.proofs.Common.{ℕ, suc, length, ◌+◌, ◌≤◌}
use Rattle.std.specs.Prelude.{All}
use Rattle.vac_model.specs.Actions.{IsAllowed}
use Rattle.vac_model.specs.Balanced.{IsBalanced}
use Rattle.text_formats.specs.Cuts.{pieces}
use Rattle.text_formats.specs.Readings.{IsBad}
use Rattle.text_formats.specs.declared.session_parser.Sessions.{Sessions}
use Rattle.text_formats.specs.Sessions.{IsBadLine, IsNext, ReadsOn, nothing, opening}
use Rattle.text_formats.proofs.session_parser.parse_sessions.Given as goal

abbrev pub decreases-loop-line : goal.decreases-loop-line
decreases-loop-line l = length l.rest

abbrev pub invariant-loop-line : goal.invariant-loop-line
invariant-loop-line l = record {
  front : (whole : Sessions) → ReadsOn l.sessions (pieces l.rest) whole → ReadsOn nothing (pieces l.fn.text) whole;
  back : (whole : Sessions) → ReadsOn nothing (pieces l.fn.text) whole → ReadsOn l.sessions (pieces l.rest) whole;
  bad : (n : ℕ) → IsBad IsNext l.sessions (pieces l.rest) (suc n) → IsBadLine l.fn.text (l.number + n);
  few : l.number + length l.rest ≤ length l.fn.text + 1;
  balanced : IsBalanced (opening l.sessions.items);
  allowed : All IsAllowed l.sessions.actions;
}
