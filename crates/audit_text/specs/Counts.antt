-- What is written of how many calls were judged, and of those that a log may lack.
use Rattle.std.specs.Prelude.{ℕ, ◌==◌, List, [], ◌∷◌, ◌++◌, codes, decimal, if◌then◌else◌}
use Rattle.std.specs.List.{flat_map}
use Rattle.log_causes.specs.declared.callers.CountedCalls.{CountedCalls}

-- how many calls each actor took, if it took any
abbrev pub counted_text : List ℕ → CountedCalls → List ℕ
counted_text word counted = word ++ (decimal counted.number ++ (codes " " ++ decimal counted.calls))

unfoldable pub calls_line : ℕ → List CountedCalls → List CountedCalls → List ℕ
calls_line table tasks clerks =
    codes "calls table " ++ (decimal table ++ (flat_map (counted_text (codes ", task ")) tasks
    ++ (flat_map (counted_text (codes ", clerk ")) clerks ++ codes "\n")))

-- how many replies a log keeps one word of, if there are any
unfoldable pub coarse_line : ℕ → List ℕ
coarse_line count = if count == 0 then [] else codes "replies of one word " ++ (decimal count ++ codes "\n")

-- the tasks that took no call, though others name them, if there are any
abbrev pub numbers_text : List ℕ → List ℕ
numbers_text numbers = flat_map (λ n. codes " " ++ decimal n) numbers

unfoldable pub silent_line : List ℕ → List ℕ
silent_line [] = []
silent_line (task ∷ tasks) = codes "no calls of task" ++ (numbers_text (task ∷ tasks) ++ codes "\n")
