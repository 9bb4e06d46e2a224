-- No value of what callers are told has a fraction, so that its text is the compact one.
use Rattle.std.proofs.Common.{◌≡◌, refl, false}
use Rattle.serde_json.specs.Written.{has_float}
use Rattle.log_line.specs.declared.told.CallerReply.{CallerReply}
use Rattle.log_line.specs.declared.told.CallerReply.TheVariants.{NotRestored, Opened, Restored, Sampled, Scripted}
use Rattle.reply_values.proofs.Whole.{reply_whole}
use Rattle.call_values.specs.Told.{told_data}

pub told_whole : (told : CallerReply) → has_float (told_data told) ≡ false
told_whole (Scripted r) = reply_whole r
told_whole (Opened life) = refl
told_whole Sampled = refl
told_whole (Restored generation grace) = refl
told_whole (NotRestored fault kept) = refl
