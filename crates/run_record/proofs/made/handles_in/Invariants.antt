use Rattle.std.proofs.Common.{◌≡◌, take}
use Rattle.run_record.proofs.made.handles_in.Given as goal

-- the handles so far
abbrev pub invariant-loop-member : goal.invariant-loop-member
invariant-loop-member l = l.handles.items ≡ take l.member-index l.known.keys
