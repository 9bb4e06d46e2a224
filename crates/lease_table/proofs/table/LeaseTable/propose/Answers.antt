use Rattle.std.proofs.Common.{◌≡◌, ◌∙◌, ◌≤◌, true, ap, arith}
use Rattle.std.specs.Prelude.{Option, None, Result, Ok, Err, is_ok}
use Rattle.std.specs.Result.{result_err}
use Rattle.machines.proofs.Every.{all_weaker}
use Rattle.machines.specs.Refusals.{first_of}
use Rattle.grants.specs.declared.table_error.TableError.{TableError}
use Rattle.lease_table.specs.Tables.{Standing}
use Rattle.lease_table.specs.Steps.{propose_checks}
use Rattle.lease_table.specs.internals.Numbers.{newest_of}
use Rattle.lease_table.proofs.Acceptance.{proposed_newest}
use Rattle.lease_table.proofs.table.LeaseTable.propose.Goals as goal

-- a check that returns no error refuses nothing
unrefused : (r : Result (Unit {0}) TableError) (refusal : Option TableError) → true ≡ is_ok r → result_err r ≡ refusal → None ≡ refusal
unrefused (Ok x) refusal ok e = e
unrefused (Err f) refusal ok e = absurd (cc)

pub invariant_of-self : goal.invariant_of-self
invariant_of-self c =
    let now = c.self.inside in
    let before = c.args.self.now in
    let accepted : None ≡ first_of (propose_checks before c.args.number c.args.assignment.now c.args.at) =
    unrefused c.check_assignment.result _ c.in_ok-map_err.ensures.variant c.check_assignment.ensures.refusal in
    let newest : newest_of before.committed before.pending ≤ c.args.assignment.now.generation =
    proposed_newest before c.args.number c.args.assignment.now c.args.at accepted in
    let stays = c.self.view_is ∙ c.advance.ensures in
    let committed = ap (λ (s : Standing). s.committed) stays in
    let pending = ap (λ (s : Standing). s.pending) stays in
    let still : newest_of now.publication.committed now.publication.pending ≤ c.args.assignment.now.generation = rw (committed, pending) newest in
    record {
      reading = c.self.invariant.reading;
      term = c.self.invariant.term;
      grants = c.self.invariant.grants;
      rows = c.self.invariant.rows;
      generations = rw (c.propose.ensures, c.in_ok-next.ensures) (all_weaker (λ row. row.generation ≤ newest_of now.publication.committed now.publication.pending)
          (λ row. row.generation ≤ c.args.assignment.now.generation) now.rows (λ row l. omega arith) c.self.invariant.generations);
    }
