-- Fencing tokens as bytes.
use Rattle.std.specs.Prelude.{◌≡◌, ℕ, true, false, Bool, Option, Result, Ok, Err}
use Rattle.slicelet.specs.Rules.{covers_key}
use Rattle.slicelet.specs.States.{SliceletState}
use Rattle.fence.specs.declared.token.Token.{Token}
use Rattle.fence.specs.declared.giving.NoToken.{NoToken}
use Rattle.fence.specs.declared.giving.NoToken.TheVariants.{ManyOwners, Denied}
use Rattle.fence.specs.Giving.{token_in}
use Rattle.fence.specs.Shelves.{accepts}
use Rattle.fence.specs.Tokens.{Fits, bytes_of}
use Rattle.c_calls.specs.declared.answer.Answer.{Answer}
use Rattle.c_calls.specs.declared.answer.Answer.TheVariants as answer
use Rattle.c_calls.specs.declared.tokens.TokenBytes.{TokenBytes}
use Rattle.c_calls.specs.Arguments.{InForm}

-- the token is written, or why there is none
abbrev pub IsTokenGiven : Result Token NoToken → TokenBytes → TokenBytes → Answer → Type 0
IsTokenGiven (Ok token) was now told = (told ≡ answer.Done) × (now.bytes ≡ bytes_of token)
IsTokenGiven (Err ManyOwners) was now told = (told ≡ answer.ManyOwners) × (now ≡ was)
IsTokenGiven (Err (Denied why)) was now told = (told ≡ answer.Denied why) × (now ≡ was)

-- that of a task for a slice key, if there is one, at a reading
abbrev pub IsToken : ℕ → ℕ → Option ℕ → SliceletState → ℕ → TokenBytes → TokenBytes → Answer → Type 0
IsToken most epoch key s at was now told = InForm key (now ≡ was) told (λ key. IsTokenGiven (token_in most (covers_key key) epoch s at) was now told)

-- a write with a token is accepted, which is then the greatest, or it is refused, and nothing changed
abbrev pub IsAccepted : Bool → TokenBytes → TokenBytes → TokenBytes → Answer → Type 0
IsAccepted true token was now told = (told ≡ answer.Done) × (now ≡ token)
IsAccepted false token was now told = (told ≡ answer.Fenced) × (now ≡ was)

-- where the bytes are those of tokens
abbrev pub IsOffered : TokenBytes → TokenBytes → TokenBytes → Answer → Type 0
IsOffered token was now told = (greatest offered : Token) → Fits greatest → Fits offered → was.bytes ≡ bytes_of greatest → token.bytes ≡ bytes_of offered
    → IsAccepted (accepts greatest offered) token was now told
