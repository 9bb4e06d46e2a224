-- Wrong replies to calls that are played one after another.
use Rattle.std.proofs.Common.{◌≡◌, ◌∙◌, ℕ, ◌+◌, ◌<◌, List, [], ◌∷◌, ◌++◌, length, get_or, take, reverse, ap, inl, inr, sym, subst, arith}
use Rattle.std.specs.Prelude.{Some, None}
use Rattle.std.proofs.lemmas.List.{length-reverse, length-take-le, reverse-append}
use Rattle.cluster.specs.continued.Jobs.{Continued}
use Rattle.cluster.specs.Pasts.{Past}
use Rattle.log_line.specs.declared.entry.LogEntry.{LogEntry}
use Rattle.log_line.specs.declared.told.CallerReply.{CallerReply}
use Rattle.log_run.specs.declared.log_machines.LogMachines.{LogMachines}
use Rattle.log_run.specs.internals.Answers.{IsAnswered}
use Rattle.log_run.specs.internals.Machines.{HavePlayed}
use Rattle.log_run.proofs.Replaying.{one_more}
use Rattle.audit_text.specs.declared.comparing.WrongReply.{WrongReply}
use Rattle.audit_text.specs.WrongReplies.{AreWrongReplies}

-- what is known once some calls were played
pub record AreWrongRepliesTo (job : Continued) (made : List LogEntry) (replies : List WrongReply) (machines : LogMachines) : Type 0 where
  pub past : Past
  pub are : AreWrongReplies job (reverse made) past (reverse replies)
  pub played : HavePlayed job past machines

-- a call whose caller should have been told this
abbrev pub wrong_at : ℕ → CallerReply → WrongReply
wrong_at index wanted = record { index = index; wanted = wanted }

module _ (entries : List LogEntry) (i : ℕ) (low : i < length entries) (entry : LogEntry) (here : entry ≡ get_or entries i entry) where
  before_are : length (reverse (take i entries)) ≡ i
  before_are = length-reverse (take i entries) ∙ length-take-le i entries (omega (arith, low))

  -- a call whose caller got the right reply
  pub right_more : (job : Continued) (replies : List WrongReply) (machines next : LogMachines) (known : AreWrongRepliesTo job (take i entries) replies machines)
      → IsAnswered job known.past entry.line None next → AreWrongRepliesTo job (take (i + 1) entries) replies next
  right_more job replies machines next known answered = record {
    past = answered.played.after;
    are = subst (λ (es : List LogEntry). AreWrongReplies job es answered.played.after (reverse replies)) (sym (one_more entries i entry low here))
        (known.past, answered.told, answered.played.stands, inl (answered.compared, known.are));
    played = answered.played.played;
  }

  -- a call whose caller got a wrong one
  pub wrong_more : (job : Continued) (replies : List WrongReply) (wanted : CallerReply) (machines next : LogMachines)
      (known : AreWrongRepliesTo job (take i entries) replies machines)
      → IsAnswered job known.past entry.line (Some wanted) next → AreWrongRepliesTo job (take (i + 1) entries) (replies ++ wrong_at i wanted ∷ []) next
  wrong_more job replies wanted machines next known answered =
      let same : reverse (replies ++ wrong_at i wanted ∷ []) ≡ wrong_at (length (reverse (take i entries))) answered.told ∷ reverse replies =
      reverse-append replies (wrong_at i wanted ∷ [])
      ∙ ap (λ (index : ℕ). wrong_at index wanted ∷ reverse replies) (sym before_are)
      ∙ ap (λ (told : CallerReply). wrong_at (length (reverse (take i entries))) told ∷ reverse replies) answered.compared.0 in
      record {
        past = answered.played.after;
        are = subst (λ (es : List LogEntry). AreWrongReplies job es answered.played.after (reverse (replies ++ wrong_at i wanted ∷ [])))
            (sym (one_more entries i entry low here))
            (known.past, answered.told, answered.played.stands, inr (reverse replies, same, answered.compared.1, known.are));
        played = answered.played.played;
      }
