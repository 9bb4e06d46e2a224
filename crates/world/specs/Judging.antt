-- The written rule over leases that a step hands in.
use Rattle.std.specs.Prelude.{◌≡◌, ℕ, List, [], ◌∷◌, Option, Some, None, Result, Ok, Err, if◌then◌else◌}
use Rattle.slice_ranges.specs.declared.error.RangesError.{RangesError}
use Rattle.slice_ranges.specs.Sets.{pairs_cover, or_else, refusal_of}
use Rattle.lease_rule.specs.declared.lease.Kind.{Kind}
use Rattle.lease_rule.specs.declared.lease.Kind.TheVariants.{Guard, Bridge}
use Rattle.lease_rule.specs.Leases.{SeenLease, same_kind}
use Rattle.lease_rule.specs.Rule.{SeenHolding, rule}
use Rattle.replies.specs.declared.written_lease.WrittenLease.{WrittenLease}
use Rattle.world.specs.declared.judge.Question.{Question}
use Rattle.machines.specs.declared.machine.Trouble.{Trouble}
use Rattle.machines.specs.Answers.{trouble_of}
use Rattle.world.specs.Troubles.{of_layer}
use Rattle.replies.specs.declared.reply.Refusal.{Refusal}
use Rattle.replies.specs.declared.reply.Refusal.TheVariants.{Ranges}
use Rattle.replies.specs.declared.reply.Reply.{Reply}
use Rattle.replies.specs.declared.reply.Reply.TheVariants.{Verdict, Refused}

-- why the first lease whose pairs make no set is refused
abbrev pub leases_refusal : List WrittenLease → Option RangesError
leases_refusal [] = None
leases_refusal (lease ∷ leases) = or_else (refusal_of lease.ranges) (leases_refusal leases)

-- a lease as it is seen from a slice key: it covers the members of its pairs
abbrev pub written_seen_from : ℕ → WrittenLease → SeenLease
written_seen_from key lease = record { generation = lease.generation; ends = lease.ends; covers = pairs_cover lease.ranges key }

-- the lease of a kind as it is seen from a slice key, where there was this one before
abbrev pub held_after : ℕ → Kind → Option SeenLease → List WrittenLease → Option SeenLease
held_after key kind before [] = before
held_after key kind before (lease ∷ leases) = held_after key kind (if same_kind kind lease.kind then Some (written_seen_from key lease) else before) leases

-- what the task holds as it is seen from a slice key; there is at most one lease of a kind
abbrev pub question_seen_from : Question → ℕ → SeenHolding
question_seen_from question key = record {
  up = question.up;
  last = question.last;
  guard = held_after key Guard None question.leases;
  bridge = held_after key Bridge None question.leases;
}

-- what a question about a slice key answers, with this refusal of its leases or none
abbrev pub answer_with : Question → ℕ → Option RangesError → Reply
answer_with question key None = Verdict (rule (question_seen_from question key) question.at)
answer_with question key (Some refusal) = Refused (Ranges refusal)

-- what a question about a slice key answers
abbrev pub judge_reply : Question → ℕ → Reply
judge_reply question key = answer_with question key (leases_refusal question.leases)

-- a question about a slice key was answered, or it was not for the first refusal of its leases, or since it ran out of memory where there is none
abbrev pub IsJudged : Question → ℕ → Result Reply (Trouble Refusal) → Type 0
IsJudged question key (Ok answer) = (answer ≡ judge_reply question key) × (leases_refusal question.leases ≡ None)
IsJudged question key (Err trouble) = trouble ≡ of_layer Ranges (trouble_of (leases_refusal question.leases))
