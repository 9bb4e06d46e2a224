use Rattle.std.proofs.Common.{map, take}
use Rattle.log_line.specs.Files.{AreOfJob}
use Rattle.log_line.specs.Readers.{kept}
use Rattle.log_line.proofs.job_lines.job_of.Given as goal

-- the job lines so far say one job
abbrev pub invariant-loop-index : goal.invariant-loop-index
invariant-loop-index l = AreOfJob (map kept (take l.index l.jobs)) l.job
