use Rattle.std.proofs.Common.{◌≡◌, true, take, string_bytes}
use Rattle.std.specs.List.{list_all}
use Rattle.service.specs.Output.{is_answer}
use Rattle.command.specs.Runs.{numbered_lines}
use Rattle.command.proofs.Numbering.{lines_from}
use Rattle.command.proofs.script_run.lines_of.Given as goal

abbrev pub invariant-loop-i : goal.invariant-loop-i
invariant-loop-i l = record {
  lines : lines_from (string_bytes l.text) l.i l.steps l.replies ≡ numbered_lines 1 l.steps l.replies;
  answers : list_all is_answer (take l.i l.replies) ≡ true;
}
