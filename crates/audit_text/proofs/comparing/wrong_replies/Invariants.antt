use Rattle.std.proofs.Common.{take}
use Rattle.cluster.specs.continued.Jobs.{Continued}
use Rattle.log_run.specs.Starts.{Begins}
use Rattle.audit_text.proofs.Compared.{AreWrongRepliesTo}
use Rattle.audit_text.proofs.comparing.wrong_replies.Given as goal

-- the wrong replies to the calls so far
abbrev pub invariant-loop-index : goal.invariant-loop-index
invariant-loop-index l = (job : Continued) → Begins job l.fn.start → AreWrongRepliesTo job (take l.index l.entries) l.replies.items l.machines
