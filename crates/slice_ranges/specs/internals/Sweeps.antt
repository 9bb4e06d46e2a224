-- What one walk over the boundaries of two sets takes at each of them.
use Rattle.std.specs.Prelude.{Bool, not, ◌&&◌, ◌||◌}
use Rattle.slice_ranges.specs.declared.sweep.Operation.{Operation}
use Rattle.slice_ranges.specs.declared.sweep.Operation.TheVariants.{Both, Either, Without}

-- whether a key is taken, from whether it is in the first set and in the second
abbrev pub apply : Operation → Bool → Bool → Bool
apply Both first second = first && second
apply Either first second = first || second
apply Without first second = first && not second
