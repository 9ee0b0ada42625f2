use Rattle.std.proofs.Common.{rules, arith}
use Rattle.text_formats.specs.Tokens.{texts}
use Rattle.text_formats.proofs.ActionLemmas.{count_of, first_of, no_action}
use Rattle.text_formats.proofs.session_line.read_action.Goals as goal
use Rattle.text_formats.proofs.session_line.read_action.Goals.{in_default-via-then-tokens-lt1}
use Rattle.text_formats.proofs.session_line.read_action.Goals.{in_default-via-else-tokens-lt1+then-tokens-lt2+in_default}
use Rattle.text_formats.proofs.session_line.read_action.Goals.{in_default-via-else-tokens-lt1+else-tokens-lt2+then-tokens-lt3+in_default}
use Rattle.text_formats.proofs.session_line.read_action.Goals.{in_default-via-else-tokens-lt1+else-tokens-lt2+else-tokens-lt3+then-tokens-lt4+in_default}
use Rattle.text_formats.proofs.session_line.read_action.Goals.{}
use Rattle.text_formats.proofs.session_line.read_action.Goals.{}
use Rattle.text_formats.proofs.session_line.read_action.Goals.{}
use Rattle.text_formats.proofs.session_line.read_action.Goals.{}
use Rattle.text_formats.proofs.session_line.read_action.Goals.{}
use Rattle.text_formats.proofs.session_line.read_action.Goals.{}
use Rattle.text_formats.proofs.session_line.read_action.Goals.{in_default-via-else-tokens-lt1+else-tokens-lt2+else-tokens-lt3+else-tokens-lt4+in_default}
use Rattle.text_formats.proofs.session_line.read_action.Goals.{}
use Rattle.text_formats.proofs.session_line.read_action.Goals.{}
use Rattle.text_formats.proofs.session_line.read_action.Goals.{}
use Rattle.text_formats.proofs.session_line.read_action.Goals.{}
use Rattle.text_formats.proofs.session_line.read_action.Goals.{}
use Rattle.text_formats.proofs.session_line.read_action.Goals.{}

pub returns-in_default-clause-only : goal.returns-in_default-clause-only
returns-in_default-clause-only c action is =
    let ts = c.args.tokens.now in
    elim c.in_default.branch [
      | in_default-via-then-tokens-lt1 w ↦ absurd (no_action (texts ts)
          (λ customer rest e. search (rules, arith, count_of ts _ e, first_of ts _ _ e))
          (λ customer e. search (rules, arith, count_of ts _ e, first_of ts _ _ e))
          (λ rest e. search (rules, arith, count_of ts _ e, first_of ts _ _ e))
          (λ kind id e. search (rules, arith, count_of ts _ e, first_of ts _ _ e))
          (λ customer e. search (rules, arith, count_of ts _ e, first_of ts _ _ e))
          action is)
      | in_default-via-else-tokens-lt1+then-tokens-lt2+in_default w ↦ absurd (no_action (texts ts)
          (λ customer rest e. search (rules, arith, count_of ts _ e, first_of ts _ _ e))
          (λ customer e. search (rules, arith, count_of ts _ e, first_of ts _ _ e))
          (λ rest e. search (rules, arith, count_of ts _ e, first_of ts _ _ e))
          (λ kind id e. search (rules, arith, count_of ts _ e, first_of ts _ _ e))
          (λ customer e. search (rules, arith, count_of ts _ e, first_of ts _ _ e))
          action is)
      | in_default-via-else-tokens-lt1+else-tokens-lt2+then-tokens-lt3+in_default w ↦ absurd (no_action (texts ts)
          (λ customer rest e. search (rules, arith, count_of ts _ e, first_of ts _ _ e))
          (λ customer e. search (rules, arith, count_of ts _ e, first_of ts _ _ e))
          (λ rest e. search (rules, arith, count_of ts _ e, first_of ts _ _ e))
          (λ kind id e. search (rules, arith, count_of ts _ e, first_of ts _ _ e))
          (λ customer e. search (rules, arith, count_of ts _ e, first_of ts _ _ e))
          action is)
      | in_default-via-else-tokens-lt1+else-tokens-lt2+else-tokens-lt3+then-tokens-lt4+in_default w ↦ absurd (no_action (texts ts)
          (λ customer rest e. search (rules, arith, count_of ts _ e, first_of ts _ _ e))
          (λ customer e. search (rules, arith, count_of ts _ e, first_of ts _ _ e))
          (λ rest e. search (rules, arith, count_of ts _ e, first_of ts _ _ e))
          (λ kind id e. search (rules, arith, count_of ts _ e, first_of ts _ _ e))
          (λ customer e. search (rules, arith, count_of ts _ e, first_of ts _ _ e))
          action is)
      | in_default-via-else-tokens-lt1+else-tokens-lt2+else-tokens-lt3+else-tokens-lt4+in_default w ↦ absurd (no_action (texts ts)
          (λ customer rest e. search (rules, arith, count_of ts _ e, first_of ts _ _ e))
          (λ customer e. search (rules, arith, count_of ts _ e, first_of ts _ _ e))
          (λ rest e. search (rules, arith, count_of ts _ e, first_of ts _ _ e))
          (λ kind id e. search (rules, arith, count_of ts _ e, first_of ts _ _ e))
          (λ customer e. search (rules, arith, count_of ts _ e, first_of ts _ _ e))
          action is)
    ]
