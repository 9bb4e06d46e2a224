-- How much was made of what a call delivers by its number.
use Rattle.std.specs.Prelude.{ℕ, length}
use Rattle.grants.specs.Assignments.{generation_of}
use Rattle.cluster.specs.Made.{notes_made, handles_made}
use Rattle.cluster.specs.Pasts.{Past, standing}
use Rattle.cluster.specs.continued.Jobs.{Continued}
use Rattle.reasons.specs.declared.made.Delivery.{Delivery}
use Rattle.reasons.specs.declared.made.Delivery.TheVariants.{Grant, Note, Handle, Published}

-- the greatest number that was made so far, 0 for none
abbrev pub greatest_made : Continued → Past → Delivery → ℕ
greatest_made job past Grant = (standing job.policy past).granted
greatest_made job past Note = length (notes_made past)
greatest_made job past Handle = length (handles_made past)
greatest_made job past Published = generation_of (standing job.policy past).committed
