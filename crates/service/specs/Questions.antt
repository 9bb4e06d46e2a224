-- The questions about the written rule that a script asks.
use Rattle.std.specs.Prelude.{ℕ, ◌&&◌, Bool, nat_le, List, [], ◌∷◌, codes, count_by, Result, Ok}
use Rattle.serde_json.specs.Data.{Data}
use Rattle.lease_rule.specs.declared.lease.Kind.{Kind}
use Rattle.lease_rule.specs.declared.lease.Kind.TheVariants.{Guard, Bridge}
use Rattle.lease_rule.specs.Leases.{same_kind}
use Rattle.replies.specs.declared.written_lease.WrittenLease.{WrittenLease}
use Rattle.world.specs.declared.judge.Question.{Question}
use Rattle.program_io.specs.declared.fault.WrongForm.{WrongForm}
use Rattle.program_io.specs.Reading.{◌>>=◌, ◌>>◌, check}
use Rattle.program_io.specs.Members.{wrong, exactly, flag_at, number_at, list_at}
use Rattle.wire.specs.LeaseMembers.{kind_at}
use Rattle.replies.specs.Keys.{key_at}
use Rattle.replies.specs.WrittenLeases.{lease_of}

-- at most one of the leases is of this kind
abbrev pub has_one_at_most : Kind → List WrittenLease → Bool
has_one_at_most kind leases = nat_le (count_by (λ lease. same_kind kind lease.kind) leases) 1

-- a `judge` has what a task holds, a key and a reading
unfoldable pub question_of : Data → Result Question WrongForm
question_of d = do
  exactly (codes "do" ∷ codes "up" ∷ codes "last" ∷ codes "leases" ∷ codes "key" ∷ codes "at" ∷ []) d
  up ← flag_at (codes "up") d
  last ← number_at (codes "last") d
  leases ← list_at lease_of (codes "leases") d
  key ← key_at (codes "key") d
  at ← number_at (codes "at") d
  check (has_one_at_most Guard leases && has_one_at_most Bridge leases) wrong
  Ok (record { up = up; last = last; leases = leases; key = key; at = at })
