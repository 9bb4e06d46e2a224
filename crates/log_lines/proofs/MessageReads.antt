-- What is done with a message that was read.
use Rattle.std.proofs.Common.{◌≡◌, ℕ, List, Result, Err, refl, subst}
use Rattle.wire.specs.declared.fault.DecodeError.{DecodeError}
use Rattle.c_calls.specs.declared.answer.Answer.{Answer}
use Rattle.c_calls.specs.Outputs.{Output}
use Rattle.c_calls.specs.Reading.{OnRead, unread_answer}
use Rattle.log_lines.specs.declared.call_name.CallName.{CallName}
use Rattle.log_lines.specs.declared.message.Message.{Message}
use Rattle.log_lines.specs.declared.message.MessageKind.{MessageKind}
use Rattle.log_lines.specs.declared.message.MessageKind.TheVariants as kind
use Rattle.log_lines.specs.declared.numbers.LoggedNumbers.{LoggedNumbers}
use Rattle.log_lines.specs.Lines.{IsLineGiven, IsNamedLineGiven, is_done}
use Rattle.log_lines.specs.Messages.{IsMessageRead, message_kind}
use Rattle.log_lines.specs.Replies.{logged_in}

-- what is done with the message that was returned is done with the one that was read
pub then_done : (which : MessageKind) (job bytes : List ℕ) (given : Result Message DecodeError) (does : Result Message DecodeError → Type 0)
    → IsMessageRead which job bytes (λ read. given ≡ read) → does given → IsMessageRead which job bytes does
then_done kind.Nothing job bytes given does is done = subst does is done
then_done kind.Assignment job bytes given does is done = record { read = is.read; decoded = is.decoded; only = is.only; other = is.other; done = subst does is.done done }
then_done kind.Grant job bytes given does is done = record { read = is.read; decoded = is.decoded; only = is.only; other = is.other; done = subst does is.done done }
then_done kind.Note job bytes given does is done = record { read = is.read; decoded = is.decoded; only = is.only; other = is.other; done = subst does is.done done }
then_done kind.Kept job bytes given does is done = record { read = is.read; decoded = is.decoded; only = is.only; other = is.other; done = subst does is.done done }

-- no line is written where no message was read
pub none_read : (job : List ℕ) (name : CallName) (n : LoggedNumbers) (bytes : List ℕ) (was : Output ℕ) (answer : Answer) (why : DecodeError) (which : MessageKind) → which ≡ message_kind name (is_done n.code)
    → IsMessageRead which job bytes (λ read. Err why ≡ read) → answer ≡ unread_answer why → IsNamedLineGiven job name n bytes was was answer
none_read job name n bytes was answer why which is read e =
    let same = rw is at read in
    then_done (message_kind name (is_done n.code)) job bytes (Err why) (OnRead (was ≡ was) answer (λ message. IsLineGiven n (logged_in name n message) was was answer)) same (e, refl)
