-- Calls of a log that are played one after another, and the tokens that they give.
use Rattle.std.proofs.Common.{◌≡◌, ℕ, ◌+◌, ◌<◌, List, [], ◌∷◌, ◌++◌, length, get_or, take, reverse, sym, ap, subst, ◌∙◌}
use Rattle.std.proofs.lemmas.List.{take_more, reverse-append}
use Rattle.cluster.specs.Pasts.{Past}
use Rattle.cluster.specs.continued.Jobs.{Continued, job_in}
use Rattle.log_line.specs.declared.entry.LogEntry.{LogEntry}
use Rattle.log_line.specs.declared.told.CallerReply.{CallerReply}
use Rattle.log_run.specs.declared.log_machines.LogMachines.{LogMachines}
use Rattle.log_run.specs.internals.Answers.{IsPlayed}
use Rattle.log_run.specs.internals.Machines.{HavePlayed}
use Rattle.log_writes.specs.declared.turns.Turn.{Turn}
use Rattle.log_writes.specs.Given.{AreGiven, given_with}

-- what is known once some calls were played
pub record IsGivenTo (job : Continued) (entries : List LogEntry) (machines : LogMachines) (turns : List Turn) : Type 0 where
  pub past : Past
  pub given : AreGiven job (reverse entries) past turns
  pub played : HavePlayed job past machines

module _ (entries : List LogEntry) (i : ℕ) (entry : LogEntry) (low : i < length entries) (here : entry ≡ get_or entries i entry) where
  one_more : reverse (take (i + 1) entries) ≡ entry ∷ reverse (take i entries)
  one_more =
      ap reverse (take_more entries i entry low ∙ ap (λ (e : LogEntry). take i entries ++ e ∷ []) (sym here))
      ∙ reverse-append (take i entries) (entry ∷ [])

  -- one line more
  pub given_more : (job : Continued) (machines next : LogMachines) (turns later : List Turn) (known : IsGivenTo job (take i entries) machines turns)
      → later ≡ turns ++ given_with (job_in job) known.past entry → (told : CallerReply) → IsPlayed job known.past entry.line.call told next
      → IsGivenTo job (take (i + 1) entries) next later
  given_more job machines next turns later known more told played = record {
    past = played.after;
    given = subst (λ (es : List LogEntry). AreGiven job es played.after later) (sym one_more)
        (known.past, told, turns, played.stands, more, known.given);
    played = played.played;
  }
