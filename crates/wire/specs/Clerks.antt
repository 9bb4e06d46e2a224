-- Clerks as JSON.
use Rattle.std.specs.Prelude.{Option, Result}
use Rattle.serde_json.specs.Data.{Data}
use Rattle.assignment.specs.Slices.{Slicing}
use Rattle.wire.specs.declared.fault.DecodeRefusal.{DecodeRefusal}
use Rattle.wire.specs.declared.numerals.Numerals.{Numerals}
use Rattle.wire.specs.Assignments.{assignment_data, assignment_of}
use Rattle.wire.specs.Kept.{or_null, unless_null}

-- a clerk is written as the assignment that it keeps, or as null
abbrev pub clerk_data : Numerals → Option Slicing → Data
clerk_data numerals kept = or_null (assignment_data numerals) kept

-- a clerk that keeps this assignment, or none where null is written
abbrev pub clerk_of : Numerals → Data → Result (Option Slicing) DecodeRefusal
clerk_of numerals d = unless_null (assignment_of numerals) d
