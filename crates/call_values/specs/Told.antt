-- Replies that the callers of logged calls are told.
use Rattle.std.specs.Prelude.{ℕ, [], ◌∷◌, codes}
use Rattle.serde_json.specs.Data.{Data, string}
use Rattle.wire.specs.Objects.{number_data, object_data}
use Rattle.log_line.specs.declared.restored.KeptNumbers.{KeptNumbers}
use Rattle.log_line.specs.declared.restored.RestoreFault.{RestoreFault}
use Rattle.log_line.specs.declared.told.CallerReply.{CallerReply}
use Rattle.log_line.specs.declared.told.CallerReply.TheVariants.{NotRestored, Opened, Restored, Sampled, Scripted}
use Rattle.log_line.specs.Told.{fault_word}
use Rattle.reply_values.specs.Replies.{reply_data}
use Rattle.reply_values.specs.Values.{large_data, plain_data}

-- why a table is not restored, with the values that it keeps
abbrev pub not_restored_data : RestoreFault → KeptNumbers → Data
not_restored_data fault kept = object_data
    ((codes "deadline", large_data kept.deadline) ∷ (codes "granted", large_data kept.granted) ∷ (codes "last", large_data kept.last)
    ∷ (codes "refused", string (fault_word fault)) ∷ [])

-- a reply
abbrev pub told_data : CallerReply → Data
told_data (Scripted reply) = reply_data reply
told_data (Opened life) = object_data ((codes "life", number_data life) ∷ (codes "reply", string (codes "opened")) ∷ [])
told_data Sampled = plain_data (codes "sampled")
told_data (Restored generation grace) = object_data
    ((codes "generation", large_data generation) ∷ (codes "grace", large_data grace) ∷ (codes "reply", string (codes "restored")) ∷ [])
told_data (NotRestored fault kept) = not_restored_data fault kept
