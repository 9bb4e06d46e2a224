use Rattle.std.proofs.Common.{map, take}
use Rattle.audit.specs.Shown.{turn_of}
use Rattle.audit.proofs.Replaying.{IsPlayedTo}
use Rattle.audit.proofs.auditing.replay.Given as goal

-- the points so far are a run
abbrev pub invariant-loop-point : goal.invariant-loop-point
invariant-loop-point l = IsPlayedTo l.fn.job (map turn_of (take l.point-index l.points)) l.cluster l.timeliness
