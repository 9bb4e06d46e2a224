-- The words that the caller of a logged call is told.
use Rattle.std.specs.Prelude.{ℕ, Bool, true, false, ◌||◌, List, ◌++◌, codes, decimal}
use Rattle.std.specs.Str.{bytes_eq}
use Rattle.lease_rule.specs.declared.answer.Verdict.TheVariants.{Allow, Deny}
use Rattle.grants.specs.declared.table_call.TableCall.TheVariants as table_call
use Rattle.grants.specs.declared.slicelet_call.SliceletCall.TheVariants as task_call
use Rattle.grants.specs.declared.slicelet_call.SliceletReply.TheVariants as slicelet
use Rattle.clerk.specs.declared.call.ClerkCall.TheVariants as clerk_call
use Rattle.job_calls.specs.declared.call.ClusterCall.TheVariants as call
use Rattle.job_calls.specs.declared.reply.ClusterReply.{ClusterReply}
use Rattle.job_calls.specs.declared.reply.ClusterReply.TheVariants as machine
use Rattle.replies.specs.declared.reply.Reply.TheVariants as reply
use Rattle.replies.specs.declared.told.Named.{Named}
use Rattle.replies.specs.declared.told.NextNumbers.{NextNumbers}
use Rattle.replies.specs.Told.{told_as as reply_as}
use Rattle.replies.specs.Lines.{reply_text}
use Rattle.log_line.specs.declared.line.LoggedCall.{LoggedCall}
use Rattle.log_line.specs.declared.line.LoggedCall.TheVariants.{Whole, HearBare, LearnBare}
use Rattle.log_line.specs.declared.told.CallerReply.{CallerReply}
use Rattle.log_line.specs.declared.told.CallerReply.TheVariants.{Scripted, Opened, Restored, NotRestored, Sampled}
use Rattle.log_line.specs.declared.restored.RestoreFault.{RestoreFault}
use Rattle.log_line.specs.declared.restored.RestoreFault.TheVariants.{LessThanLog, FarAhead, NotAhead}

-- the life that a call names
abbrev pub life_in : LoggedCall → ℕ
life_in (Whole (call.Task task (task_call.Start life at))) = life
life_in (Whole (call.Task task (task_call.Resume life))) = life
life_in _ = 0

-- the number that a call names, of a grant or of a generation
abbrev pub number_in : LoggedCall → ℕ
number_in (Whole (call.Table (table_call.Propose term slicing at))) = slicing.generation
number_in (Whole (call.Task task (task_call.Hear grant at))) = grant.number
number_in (Whole (call.Clerk clerk (clerk_call.Learn slicing))) = slicing.generation
number_in (HearBare task grant at) = grant.number
number_in (LearnBare clerk generation) = generation
number_in _ = 0

-- a call renews a job term
abbrev pub renews : LoggedCall → Bool
renews (Whole (call.Table (table_call.JobRenew number at))) = true
renews _ = false

abbrev pub named : LoggedCall → Named
named c = record { life = life_in c; number = number_in c; renews = renews c }

-- a reply of the machines to a logged call as its caller is told it: a new process with the life that its call names, and else as scripts are
abbrev pub told_as : LoggedCall → NextNumbers → ClusterReply → CallerReply
told_as c next (machine.Task (slicelet.Resumed ended)) = Opened (life_in c)
told_as c next answer = Scripted (reply_as (named c) next answer)

-- the name of a fault
abbrev pub fault_word : RestoreFault → List ℕ
fault_word LessThanLog = codes "less-than-log"
fault_word FarAhead = codes "far-ahead"
fault_word NotAhead = codes "not-ahead"

-- the words of a reply
abbrev pub words_of : CallerReply → List ℕ
words_of (Scripted scripted) = reply_text scripted
words_of (Opened life) = codes "opened " ++ decimal life
words_of Sampled = codes "sampled"
words_of (Restored generation grace) = codes "restored generation " ++ (decimal generation ++ (codes " grace " ++ decimal grace))
words_of (NotRestored fault table) =
    codes "refused " ++ (fault_word fault ++ (codes " last " ++ (decimal table.last
    ++ (codes " granted " ++ (decimal table.granted ++ (codes " deadline " ++ decimal table.deadline))))))

-- the words of a reply for callers that number no notes and handles: these are told by what they say
abbrev pub plain_text : CallerReply → List ℕ
plain_text (Scripted (reply.Released number note)) = codes "released life " ++ decimal note.life ++ codes " number " ++ decimal note.number
plain_text (Scripted (reply.Holding number handle)) = codes "handle life " ++ decimal handle.life ++ codes " position " ++ decimal handle.position
plain_text told = words_of told

-- one word of a reply for callers that keep no more of it: whether a key may be served, that a call is refused, or that rows are lost
abbrev pub coarse_text : CallerReply → List ℕ
coarse_text (Scripted (reply.Verdict (Allow kind generation))) = codes "served"
coarse_text (Scripted (reply.Verdict (Deny why))) = codes "denied"
coarse_text (Scripted (reply.Refused why)) = codes "refused"
coarse_text (Scripted (reply.Lost rows)) = codes "lost"
coarse_text (NotRestored fault table) = codes "refused"
coarse_text told = plain_text told

-- the words are those of the reply, with the numbers of notes and handles or without, or its one word
abbrev pub is_worded : List ℕ → CallerReply → Bool
is_worded words told = bytes_eq words (words_of told) || (bytes_eq words (plain_text told) || bytes_eq words (coarse_text told))
