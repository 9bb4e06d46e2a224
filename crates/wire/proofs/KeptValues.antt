-- What is written of kept values is read as these.
use Rattle.std.proofs.Common.{◌≡◌, ◌^◌, ◌<◌, ◌≤◌, false, true, Option, Some, None, Ok, refl, arith}
use Rattle.serde_json.specs.Data.{Data, depth}
use Rattle.serde_json.specs.Written.{has_float, outline}
use Rattle.assignment.specs.Slices.{Slicing}
use Rattle.grants.specs.declared.kept.Kept.{Kept}
use Rattle.grants.specs.declared.values.JobTerm.{JobTerm}
use Rattle.grants.specs.Policies.{Terms, is_policy}
use Rattle.program_io.specs.Members.{two_numbers_of}
use Rattle.program_io.specs.Repeated.{first_repeated}
use Rattle.wire.specs.declared.numerals.Numerals.TheVariants.{Quoted}
use Rattle.wire.specs.Assignments.{assignment_data, assignment_of}
use Rattle.wire.specs.Kept.{job_term_data, job_term_of, kept_data, kept_of, or_null, policy_data, policy_of, unless_null}
use Rattle.wire.specs.Messages.{IsWritten}
use Rattle.wire.proofs.Assignments.{slices_once, slices_shallow, slices_whole}
use Rattle.wire.proofs.Digits.{digits_read}

policy_read : (t : Terms) → is_policy t ≡ true → policy_of (policy_data t) ≡ Ok t
unfolding policy_of two_numbers_of
policy_read t within = rw within refl

pub term_read : (term : JobTerm) → term.number < 2 ^ 64 → term.assigner < 2 ^ 64 → term.until < 2 ^ 64 → job_term_of Quoted (job_term_data Quoted term) ≡ Ok term
unfolding job_term_of
term_read term number assigner until = rw (digits_read term.number number, digits_read term.assigner assigner, digits_read term.until until) refl

pub some_term_read : (term : JobTerm) → term.number < 2 ^ 64 → term.assigner < 2 ^ 64 → term.until < 2 ^ 64 → unless_null (job_term_of Quoted) (or_null (job_term_data Quoted) (Some term)) ≡ Ok (Some term)
some_term_read term number assigner until = rw (term_read term number assigner until) refl

pub some_assignment_read : (a : Slicing) → assignment_of Quoted (assignment_data Quoted a) ≡ Ok a → unless_null (assignment_of Quoted) (or_null (assignment_data Quoted) (Some a)) ≡ Ok (Some a)
some_assignment_read a read = rw read refl

pub kept_read : (kept : Kept) → is_policy kept.policy ≡ true → unless_null (job_term_of Quoted) (or_null (job_term_data Quoted) kept.term) ≡ Ok kept.term
    → unless_null (assignment_of Quoted) (or_null (assignment_data Quoted) kept.committed) ≡ Ok kept.committed → unless_null (assignment_of Quoted) (or_null (assignment_data Quoted) kept.pending) ≡ Ok kept.pending
    → kept.last < 2 ^ 64 → kept.granted < 2 ^ 64 → kept.deadline < 2 ^ 64 → kept_of Quoted (kept_data Quoted kept) ≡ Ok kept
unfolding kept_of
kept_read kept policy term committed pending last granted deadline =
    rw (policy_read kept.policy policy, digits_read kept.last last, term, digits_read kept.granted granted, digits_read kept.deadline deadline, committed, pending) refl

pub assignment_whole : (o : Option Slicing) → has_float (or_null (assignment_data Quoted) o) ≡ false
assignment_whole None = refl
assignment_whole (Some a) = rw (slices_whole a.slices) refl

pub assignment_shallow : (o : Option Slicing) → depth (or_null (assignment_data Quoted) o) ≤ 4
assignment_shallow None = omega arith
assignment_shallow (Some a) = omega (arith, slices_shallow a.slices)

pub assignment_once : (o : Option Slicing) → first_repeated (outline (or_null (assignment_data Quoted) o)) ≡ None
assignment_once None = refl
assignment_once (Some a) = rw (slices_once a.slices) refl

term_whole : (o : Option JobTerm) → has_float (or_null (job_term_data Quoted) o) ≡ false
term_whole None = refl
term_whole (Some term) = refl

term_shallow : (o : Option JobTerm) → depth (or_null (job_term_data Quoted) o) ≤ 1
term_shallow None = omega arith
term_shallow (Some term) = omega arith

term_once : (o : Option JobTerm) → first_repeated (outline (or_null (job_term_data Quoted) o)) ≡ None
term_once None = refl
term_once (Some term) = refl

kept_whole : (kept : Kept) → has_float (kept_data Quoted kept) ≡ false
kept_whole kept = rw (assignment_whole kept.committed, assignment_whole kept.pending, term_whole kept.term) refl

kept_shallow : (kept : Kept) → depth (kept_data Quoted kept) ≤ 5
kept_shallow kept = omega (arith, assignment_shallow kept.committed, assignment_shallow kept.pending, term_shallow kept.term)

kept_once : (kept : Kept) → first_repeated (outline (kept_data Quoted kept)) ≡ None
kept_once kept = rw (assignment_once kept.committed, assignment_once kept.pending, term_once kept.term) refl

pub kept_written : (kept : Kept) (d : Data) → d ≡ kept_data Quoted kept → kept_of Quoted (kept_data Quoted kept) ≡ Ok kept → IsWritten kept_data kept_of kept d
kept_written kept d is reads = record {
  is = is;
  reads = rw (is, reads) refl;
  whole = rw (is, kept_whole kept) refl;
  shallow = rw is (omega (arith, kept_shallow kept));
  once = rw (is, kept_once kept) refl;
}
