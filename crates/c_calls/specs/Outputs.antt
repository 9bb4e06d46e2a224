-- A list in the caller's buffer, whole or not at all.
use Rattle.std.specs.Prelude.{◌≡◌, ◌⊎◌, ◌<◌, ◌≤◌, ℕ, List, length, take, drop}
use Rattle.c_calls.specs.declared.answer.Answer.{Answer}
use Rattle.c_calls.specs.declared.answer.Answer.TheVariants.{Done, NoMemory, NoRoom}

-- the buffer begins with the list, and is what it was from there on; `needed` is the length of the list
pub record IsGiven {T : Type 0} (list was now : List T) (needed : ℕ) : Type 0 where
  pub fits : length list ≤ length was
  pub begins : take (length list) now ≡ list
  pub rest : drop (length list) now ≡ drop (length list) was
  pub size : needed ≡ length list

-- the buffer is shorter than the list, and is what it was
pub record IsTooLong {T : Type 0} (list was now : List T) (needed : ℕ) : Type 0 where
  pub long : length was < length list
  pub same : now ≡ was
  pub size : needed ≡ length list

-- the list is given, or there was no room for it
abbrev pub IsListGiven : {T : Type 0} → List T → List T → List T → ℕ → Answer → Type 0
IsListGiven list was now needed answer = ((answer ≡ Done) × IsGiven list was now needed) ⊎ ((answer ≡ NoRoom) × IsTooLong list was now needed)

-- a buffer of the caller, and the length that is written beside it
pub record Output (T : Type 0) : Type 0 where
  pub buffer : List T
  pub needed : ℕ

abbrev pub output : {T : Type 0} → List T → ℕ → Output T
output buffer needed = record { buffer = buffer; needed = needed }

-- the list is given, or there is no room for it
abbrev pub IsGivenWhole : {T : Type 0} → List T → Output T → Output T → Answer → Type 0
IsGivenWhole list was now answer = IsListGiven list was.buffer now.buffer now.needed answer

-- memory ran out, and nothing is written
abbrev pub IsOutOfMemory : {T : Type 0} → Output T → Output T → Answer → Type 0
IsOutOfMemory was now answer = (answer ≡ NoMemory) × (now ≡ was)

-- the list is given, or there is no room for it; or memory ran out
abbrev pub IsGivenUnlessMemory : {T : Type 0} → List T → Output T → Output T → Answer → Type 0
IsGivenUnlessMemory list was now answer = IsGivenWhole list was now answer ⊎ IsOutOfMemory was now answer

-- a list that is so is given, or there is no room for it
pub record IsOneGiven {T : Type 0} (is_so : List T → Type 0) (was now : Output T) (answer : Answer) : Type 0 where
  pub list : List T
  pub is : is_so list
  pub given : IsGivenWhole list was now answer

-- the same; or memory ran out
abbrev pub IsOneGivenUnlessMemory : {T : Type 0} → (List T → Type 0) → Output T → Output T → Answer → Type 0
IsOneGivenUnlessMemory is_so was now answer = IsOneGiven is_so was now answer ⊎ IsOutOfMemory was now answer
