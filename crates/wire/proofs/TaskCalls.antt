-- What is written of a call of a slicelet is read as the call.
use Rattle.std.proofs.Common.{◌≡◌, ℕ, ◌^◌, ◌<◌, ◌≤◌, false, None, Ok, refl, arith}
use Rattle.serde_json.specs.Data.{Data, depth}
use Rattle.serde_json.specs.Written.{has_float, outline}
use Rattle.lease_rule.specs.declared.lease.Kind.{Kind}
use Rattle.grants.specs.declared.values.Grant.{Grant}
use Rattle.grants.specs.declared.slicelet_call.SliceletCall.{SliceletCall}
use Rattle.grants.specs.declared.slicelet_call.SliceletCall.TheVariants.{Start, Hear, Release, Resume}
use Rattle.program_io.specs.Repeated.{first_repeated}
use Rattle.wire.specs.declared.numerals.Numerals.TheVariants.{Quoted}
use Rattle.wire.specs.Grants.{grant_data, grant_of}
use Rattle.wire.specs.Messages.{IsWritten}
use Rattle.wire.specs.TaskCalls.{task_call_data, task_call_of, start_of, hear_of, release_of, resume_of}
use Rattle.wire.proofs.Digits.{digits_read}
use Rattle.wire.proofs.Grants.{grant_once, grant_shallow, grant_whole}
use Rattle.wire.proofs.Notes.{kind_read}
use Rattle.wire.proofs.Numbers.{is_life}

pub start_read : (life at : ℕ) → life < 2 ^ 32 → at < 2 ^ 64 → task_call_of Quoted (task_call_data Quoted (Start life at)) ≡ Ok (Start life at)
unfolding task_call_of start_of
start_read life at below earlier = rw (is_life life below, digits_read at earlier) refl

pub hear_read : (grant : Grant) (at : ℕ) → at < 2 ^ 64 → grant_of Quoted (grant_data Quoted grant) ≡ Ok grant → task_call_of Quoted (task_call_data Quoted (Hear grant at)) ≡ Ok (Hear grant at)
unfolding task_call_of hear_of
hear_read grant at earlier read = rw (digits_read at earlier, read) refl

pub release_read : (kind : Kind) (at : ℕ) → at < 2 ^ 64 → task_call_of Quoted (task_call_data Quoted (Release kind at)) ≡ Ok (Release kind at)
unfolding task_call_of release_of
release_read kind at earlier = rw (kind_read kind, digits_read at earlier) refl

pub resume_read : (life : ℕ) → life < 2 ^ 32 → task_call_of Quoted (task_call_data Quoted (Resume life)) ≡ Ok (Resume life)
unfolding task_call_of resume_of
resume_read life below = rw (is_life life below) refl

task_call_whole : (call : SliceletCall) → has_float (task_call_data Quoted call) ≡ false
task_call_whole (Start life at) = refl
task_call_whole (Hear grant at) = rw (grant_whole grant) refl
task_call_whole (Release kind at) = refl
task_call_whole (Resume life) = refl

task_call_shallow : (call : SliceletCall) → depth (task_call_data Quoted call) ≤ 4
task_call_shallow (Start life at) = omega arith
task_call_shallow (Hear grant at) = omega (arith, grant_shallow grant)
task_call_shallow (Release kind at) = omega arith
task_call_shallow (Resume life) = omega arith

task_call_once : (call : SliceletCall) → first_repeated (outline (task_call_data Quoted call)) ≡ None
task_call_once (Start life at) = refl
task_call_once (Hear grant at) = rw (grant_once grant) refl
task_call_once (Release kind at) = refl
task_call_once (Resume life) = refl

pub task_call_written : (call : SliceletCall) (d : Data) → d ≡ task_call_data Quoted call → task_call_of Quoted (task_call_data Quoted call) ≡ Ok call → IsWritten task_call_data task_call_of call d
task_call_written call d is reads = record {
  is = is;
  reads = rw (is, reads) refl;
  whole = rw (is, task_call_whole call) refl;
  shallow = rw is (omega (arith, task_call_shallow call));
  once = rw (is, task_call_once call) refl;
}
