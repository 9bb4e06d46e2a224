-- How the command ends, by what it read.
use Rattle.std.proofs.Common.{◌≡◌, ◌⊎◌, inl, inr, ℕ, List, [], Option, Some, None, Result, Ok, Err, IfErr, OnOk, refl, subst}
use Rattle.std.specs.Bool.{⊤}
use Rattle.std.specs.Io.KnownBytes.{Keeps, prepend_known}
use Rattle.std.specs.Io.Buffered.{reader_remaining, reader_buffer, reader_capacity, reader_inner}
use Rattle.std.specs.declared.io.buffered.BufReader.{BufReader}
use Rattle.clap.specs.Kinds.{IsAmong}
use Rattle.clap.specs.Walk.{Text}
use Rattle.clap.specs.declared.error.kind.ErrorKind.{ErrorKind}
use Rattle.clap.specs.declared.error.kind.ErrorKind.TheVariants as kind
use Rattle.program_io.proofs.Keeping.{keeps_itself}
use Rattle.command.specs.declared.arguments.Request.{Request}
use Rattle.command.specs.declared.arguments.ScriptText.{ScriptText}
use Rattle.command.specs.declared.arguments.Source.TheVariants as source
use Rattle.program_io.specs.Status.{status_after}
use Rattle.faults.specs.Faults.{AnswerError}
use Rattle.command.specs.Runs.{IsAnswered, IsFailed}
use Rattle.command.specs.Endings.{IsOfShow, IsPlayed, IsTold, EndsBy, Ends}
use Rattle.command.specs.Words.{word_faults}

pub played_of : (text : ScriptText) (full rest held holds : Option (List ℕ)) (answer : Result ⊤ AnswerError)
    → OnOk answer (IsAnswered text full rest held holds) → IfErr answer (IsFailed text full rest held holds) → IsPlayed text full rest held holds answer
played_of text full rest held holds (Ok done) answered failed = answered
played_of text full rest held holds (Err why) answered failed = failed

pub reads_input : (request : Request) (before after held holds : Option (List ℕ)) (answer : Result ⊤ AnswerError) (code : ℕ)
    → request.source ≡ source.Input → IsPlayed request.text before after held holds answer → code ≡ status_after answer → EndsBy request before after held holds code
reads_input request before after held holds answer code from played status = inl (record {
  full = before;
  rest = after;
  read = rw from (refl, refl);
  answer = answer;
  played = played;
  status = status;
})

prepends_nothing : (known : Option (List ℕ)) → prepend_known [] known ≡ known
prepends_nothing None = refl
prepends_nothing (Some bytes) = refl

-- what a new buffer in front of a reader has left
fresh_remaining : {T A : Type 0} (remaining : T → Option (List ℕ)) (reader : BufReader T A) (inner : T)
    → reader_inner reader ≡ inner → reader_buffer reader ≡ [] → reader_capacity reader ≡ 8192 → reader_remaining remaining reader ≡ remaining inner
fresh_remaining remaining reader inner same empty room = rw (room, empty, same) (prepends_nothing (remaining inner))

pub ends_buffered : (words : List Text) {T A : Type 0} (remaining : T → Option (List ℕ)) (reader : BufReader T A) (inner : T) (after held holds : Option (List ℕ)) (code : ℕ)
    → reader_inner reader ≡ inner → reader_buffer reader ≡ [] → reader_capacity reader ≡ 8192 → Ends words (reader_remaining remaining reader) after held holds code
    → (given : List Text) × (rest : Option (List ℕ)) × Ends given (remaining inner) rest held holds code
ends_buffered words remaining reader inner after held holds code same empty room ends =
    (words, after, subst (λ (before : Option (List ℕ)). Ends words before after held holds code) (fresh_remaining remaining reader inner same empty room) ends)

-- memory ran out before anything was done
pub without_memory : (words : List Text) (before held : Option (List ℕ)) (code : ℕ) → (IsOfShow words → ⊥) → code ≡ 3 → Ends words before before held held code
without_memory words before held code here failed = inr (
  here,
  inr (
    keeps_itself before,
    record {
      why = kind.OutOfMemory;
      reason = inl refl;
      told = record {
        help = λ is. absurd (elim is [ inl e ↦ cc | inr e ↦ cc ]);
        memory = λ is. (failed, keeps_itself held);
        refused = λ help version memory. absurd (memory refl);
      };
    },
  ),
)

-- an error is told
pub ends_told : (words : List Text) (before after held holds : Option (List ℕ)) (code : ℕ) (why : ErrorKind) → (IsOfShow words → ⊥) → Keeps before after
    → (why ≡ kind.OutOfMemory) ⊎ IsAmong why (word_faults words) → IsTold why held holds code → Ends words before after held holds code
ends_told words before after held holds code why here kept reason told = inr (here, inr (kept, record { why = why; reason = reason; told = told }))

-- there is no second word
no_word : IsOfShow [] → ⊥
no_word (inl is) = absurd (cc)
no_word (inr is) = absurd (cc)

-- before the words are known
pub ends_unread : (before held : Option (List ℕ)) (code : ℕ) → code ≡ 3 → (words : List Text) × (rest : Option (List ℕ)) × Ends words before rest held held code
ends_unread before held code failed = ([], before, without_memory [] before held code no_word failed)
