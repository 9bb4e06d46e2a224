-- What only scripts have: the draft, the terms that assigners keep, and loads.
use Rattle.std.specs.Prelude.{ℕ, ◌==◌, List, [], ◌∷◌, ◌++◌, map, Option, Some, None, if◌then◌else◌}
use Rattle.std.specs.List.{range_with_len}
use Rattle.slice_ranges.specs.Hash.{slice_key}
use Rattle.assignment.specs.Slices.{Slicing}
use Rattle.assignment.specs.Owners.{built}
use Rattle.grants.specs.declared.values.JobTerm.{JobTerm}
use Rattle.grants.specs.JobTerms.{last_number}
use Rattle.load_ledger.specs.declared.share.LoadRecord.{LoadRecord}
use Rattle.load_ledger.specs.Shares.{Share}
use Rattle.assigner.specs.Terms.{adopted_term}
use Rattle.world.specs.declared.step.Step.{Step}
use Rattle.world.specs.declared.step.Step.TheVariants as step
use Rattle.replies.specs.declared.reply.Reply.{Reply}
use Rattle.replies.specs.declared.reply.Reply.TheVariants as reply
use Rattle.world.specs.Pasts.{Past, is_accepted}

-- THE DRAFT

-- the draft: the assignment that the last accepted `assign` built
abbrev pub draft_after : Step → Option Slicing → Option Slicing
draft_after (step.Assign generation slices) before = Some (built generation slices)
draft_after _ before = before

abbrev pub draft_of : Past → Option Slicing
draft_of [] = None
draft_of (e ∷ past) = if is_accepted e.reply then draft_after e.step (draft_of past) else draft_of past

-- ASSIGNERS

-- the term that an assigner keeps: it is offered each that the table gives it, and drops it at a `restart`
abbrev pub term_told : ℕ → Reply → Option JobTerm → Option JobTerm
term_told assigner (reply.Term term) before = adopted_term assigner term before
term_told assigner (reply.Renewed term) before = adopted_term assigner term before
term_told assigner _ before = before

abbrev pub kept_with : ℕ → Step → Reply → Option JobTerm → Option JobTerm
kept_with assigner (step.Take by at) answer before = if by == assigner then term_told assigner answer before else before
kept_with assigner (step.Renew by at) answer before = if by == assigner then term_told assigner answer before else before
kept_with assigner (step.DropTerm by) answer before = if by == assigner then None else before
kept_with assigner _ answer before = before

abbrev pub kept_term : ℕ → Past → Option JobTerm
kept_term assigner [] = None
kept_term assigner (e ∷ past) = if is_accepted e.reply then kept_with assigner e.step e.reply (kept_term assigner past) else kept_term assigner past

-- the number that it passes to the table, 0 for none
abbrev pub kept_number : ℕ → Past → ℕ
kept_number assigner past = last_number (kept_term assigner past)

-- LOADS

-- what a task recorded since the last accepted `gather`, in order
abbrev pub recorded_with : ℕ → Step → List LoadRecord → List LoadRecord
recorded_with task (step.Load by key weight) before = if by == task then before ++ record { key = slice_key key; weight = weight } ∷ [] else before
recorded_with task step.Gather before = []
recorded_with task _ before = before

abbrev pub recorded_by : ℕ → Past → List LoadRecord
recorded_by task [] = []
recorded_by task (e ∷ past) = if is_accepted e.reply then recorded_with task e.step (recorded_by task past) else recorded_by task past

-- the share of a task, and those of the first tasks
abbrev pub share_of : Past → ℕ → Share
share_of past task = record { task = task; records = recorded_by task past }

abbrev pub shares_in : ℕ → Past → List Share
shares_in many past = map (share_of past) (range_with_len 1 many)

-- the shares that each accepted `gather` of so many tasks gathered, the last ones first
abbrev pub gathered_with : ℕ → Past → Step → List (List Share) → List (List Share)
gathered_with many past step.Gather before = shares_in many past ∷ before
gathered_with many past _ before = before

abbrev pub gathers_in : ℕ → Past → List (List Share)
gathers_in many [] = []
gathers_in many (e ∷ past) = if is_accepted e.reply then gathered_with many past e.step (gathers_in many past) else gathers_in many past
