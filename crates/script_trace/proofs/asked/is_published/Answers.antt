use Rattle.std.proofs.Common.{◌≡◌, ◌∙◌, refl, ap}
use Rattle.std.specs.Borrow.{Bor}
use Rattle.std.specs.Prelude.{Option, Some, None, is_some, option_map}
use Rattle.assignment.specs.Slices.{Slicing}
use Rattle.cluster.specs.continued.Jobs.{from_start}
use Rattle.script_trace.proofs.asked.is_published.Goals as goal

mapped : {A : Type 0} (o : Option (Bor A)) → is_some o ≡ is_some (option_map (λ x. x.now) o)
mapped None = refl
mapped (Some x) = refl

pub returns : goal.returns
returns c job calls leads =
    c.is_some.ensures ∙ mapped c.published.result ∙ ap (λ (o : Option Slicing). is_some o) (c.published.ensures (from_start job) calls leads)
