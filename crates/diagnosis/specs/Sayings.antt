-- What is said on standard error of an input that is not answered.
use Rattle.std.specs.Prelude.{◌++◌, ℕ, List, codes, Option}
use Rattle.std.specs.Io.KnownBytes.{Appends}
use Rattle.std.specs.List.{flat_map}
use Rattle.program_io.specs.declared.fault.Fault.TheVariants as fault
use Rattle.faults.specs.declared.script_fault.ScriptFault.{ScriptFault}
use Rattle.faults.specs.Faults.{AnswerError, fault_words}
use Rattle.faults.specs.Quoted.{escaped}

-- a line of the command
abbrev pub line : List ℕ → List ℕ
line words = codes "hourstable: " ++ (words ++ codes "\n")

-- a line about a file or an input, whose name has escapes
abbrev pub line_about : List ℕ → List ℕ → List ℕ
line_about name words = codes "hourstable: " ++ (escaped name ++ (codes ": " ++ (words ++ codes "\n")))

abbrev pub memory_line : List ℕ
memory_line = line (codes "out of memory")

abbrev pub write_line : List ℕ
write_line = line (codes "write fault")

-- a line for each fault that an input is refused for
abbrev pub fault_lines : List ℕ → List ScriptFault → List ℕ
fault_lines input faults = flat_map (λ f. line_about input (fault_words f)) faults

-- the lines for why an input is not answered
abbrev pub IsFaultSaid : List ℕ → (old new : Option (List ℕ)) → AnswerError → Type 0
IsFaultSaid input old new (fault.Input faults) = Appends old new (fault_lines input faults.items)
IsFaultSaid input old new fault.Read = Appends old new (line_about input (codes "read fault"))
IsFaultSaid input old new fault.Write = Appends old new write_line
IsFaultSaid input old new fault.Memory = Appends old new memory_line
