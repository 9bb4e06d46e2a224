use Rattle.std.proofs.Common.{◌≤◌, length, sym, take_all, arith}
use Rattle.std.proofs.lemmas.List.{length-take-le}
use Rattle.std.proofs.lemmas.Bool.Decides.{nat_tests}
use Rattle.faults.specs.declared.quoted.TheConstants.{MOST_TOLD}
use Rattle.faults.proofs.quoted.first_bytes.Goals as goal

pub slice_bounds-result-end : goal.slice_bounds-result-end
slice_bounds-result-end c =
    let many : 200 ≤ length c.args.bytes.now = grind (arith, nat_tests) in
    sym (length-take-le 200 c.args.bytes.now many)

pub returns-else-bytes-gt-MOST_TOLD : goal.returns-else-bytes-gt-MOST_TOLD
returns-else-bytes-gt-MOST_TOLD c =
    let few : length c.args.bytes.now ≤ MOST_TOLD = grind (arith, nat_tests) in
    sym (take_all MOST_TOLD c.args.bytes.now few)
