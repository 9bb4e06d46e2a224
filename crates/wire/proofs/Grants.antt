-- What is written of a grant is read as the grant.
use Rattle.std.proofs.Common.{◌≡◌, ◌^◌, ◌<◌, ◌≤◌, false, None, Ok, refl, arith}
use Rattle.serde_json.specs.Data.{Data, depth}
use Rattle.serde_json.specs.Written.{has_float, outline}
use Rattle.assignment.specs.declared.task.TheConstants.{TASKS}
use Rattle.slice_ranges.specs.Sets.{IsRanges}
use Rattle.grants.specs.declared.values.Grant.{Grant}
use Rattle.program_io.specs.Repeated.{first_repeated}
use Rattle.wire.specs.declared.numerals.Numerals.TheVariants.{Quoted}
use Rattle.wire.specs.Grants.{grant_data, grant_of}
use Rattle.wire.specs.Messages.{IsWritten}
use Rattle.wire.specs.Ranges.{pair_data, pairs_of}
use Rattle.wire.proofs.Digits.{digits_read}
use Rattle.wire.proofs.Lists.{items_once, items_shallow, items_whole}
use Rattle.wire.proofs.Notes.{kind_read}
use Rattle.wire.proofs.Numbers.{is_life, is_task}
use Rattle.wire.proofs.Pairs.{ranges_read}

pub grant_read : (grant : Grant) → grant.life < 2 ^ 32 → 1 ≤ grant.task → grant.task ≤ TASKS → IsRanges grant.lease.ranges
    → grant.number < 2 ^ 64 → grant.lease.generation < 2 ^ 64 → grant.lease.ends < 2 ^ 64 → grant.table_ends < 2 ^ 64 → grant_of Quoted (grant_data Quoted grant) ≡ Ok grant
unfolding grant_of
grant_read grant life low high ranges number generation ends until =
    rw (
      digits_read grant.number number,
      is_task grant.task TASKS low high,
      is_life grant.life life,
      kind_read grant.lease.kind,
      digits_read grant.lease.generation generation,
      digits_read grant.lease.ends ends,
      digits_read grant.table_ends until,
      ranges_read grant.lease.ranges ranges,
    ) refl

pub grant_whole : (grant : Grant) → has_float (grant_data Quoted grant) ≡ false
grant_whole grant = rw (items_whole (pair_data Quoted) (λ pair. refl) (pairs_of grant.lease.ranges)) refl

pub grant_shallow : (grant : Grant) → depth (grant_data Quoted grant) ≤ 3
grant_shallow grant = omega (arith, items_shallow (pair_data Quoted) 1 (λ pair. omega arith) (pairs_of grant.lease.ranges))

pub grant_once : (grant : Grant) → first_repeated (outline (grant_data Quoted grant)) ≡ None
grant_once grant = rw (items_once (pair_data Quoted) (λ pair. refl) (pairs_of grant.lease.ranges)) refl

pub grant_written : (grant : Grant) (d : Data) → d ≡ grant_data Quoted grant → grant_of Quoted (grant_data Quoted grant) ≡ Ok grant → IsWritten grant_data grant_of grant d
grant_written grant d is reads = record {
  is = is;
  reads = rw (is, reads) refl;
  whole = rw is (grant_whole grant);
  shallow = rw is (omega (arith, grant_shallow grant));
  once = rw (is, grant_once grant) refl;
}
