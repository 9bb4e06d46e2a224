use Rattle.std.proofs.Common.{◌≡◌, true, take, string_bytes}
use Rattle.std.specs.List.{flat_map, list_all}
use Rattle.replies.specs.Lines.{line_of}
use Rattle.service.specs.Output.{is_answer}
use Rattle.service.proofs.output.lines_of.Given as goal

abbrev pub invariant-loop-reply : goal.invariant-loop-reply
invariant-loop-reply l = record {
  lines : string_bytes l.text ≡ flat_map line_of (take l.reply-index l.replies);
  answers : list_all is_answer (take l.reply-index l.replies) ≡ true;
}
