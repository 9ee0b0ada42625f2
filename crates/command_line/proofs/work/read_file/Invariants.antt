use Rattle.std.proofs.Common.{◌≤◌, vec_len}
use Rattle.std.specs.Io.KnownBytes.{Consumes}
use Rattle.command_line.specs.declared.work.TheConstants.{FILE_LIMIT}
use Rattle.command_line.proofs.work.read_file.Given as goal

abbrev pub invariant-loop-taken : goal.invariant-loop-taken
invariant-loop-taken g l = record {
  grows : l._taken ≤ vec_len l.text;
  within : vec_len l.text ≤ FILE_LIMIT;
  consumed : Consumes (g.R.Read.remaining l.fn.reader) (g.R.Read.remaining l.reader) l.text.items;
}
