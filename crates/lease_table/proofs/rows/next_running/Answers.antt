use Rattle.std.proofs.Common.{◌≡◌, ◌≤◌, ℕ, suc, ◌+◌, length, subst, ap, arith}
use Rattle.grants.specs.declared.values.Row.{Row}
use Rattle.lease_table.specs.internals.RowOrder.{HaveEnded}
use Rattle.lease_table.proofs.RowOrder.{ended_next, ended_within, first_running_at, none_running}
use Rattle.lease_table.proofs.rows.next_running.Goals as goal

-- once the loop is over, all rows have ended
all_ended : (c : goal.After-loop-index) → HaveEnded (length c.args.rows.now) c.args.at c.args.rows.now
all_ended c =
    let within : c.loop-index.index ≤ length c.args.rows.now = ended_within c.loop-index.index c.args.at c.args.rows.now c.loop-index.invariant in
    let end : c.loop-index.index ≡ length c.args.rows.now = omega (arith, c.loop-index-test.false) in
    subst (λ (n : ℕ). HaveEnded n c.args.at c.args.rows.now) end c.loop-index.invariant

pub returns-then-at-rows-clause-first : goal.returns-then-at-rows-clause-first
returns-then-at-rows-clause-first c =
    first_running_at c.loop-index.index c.args.at c.args.rows.now c.index-rows-index.result c.loop-index.invariant (omega (arith, c.loop-index-test.true)) c.index-rows-index.is (omega (arith, ap (λ (r : Row). r.table_ends) c.index-rows-index.is, c.if-at-rows.true))

pub loop-index-preserved : goal.loop-index-preserved
loop-index-preserved c =
    let next : suc c.loop-index.index ≡ c.loop-index.index + 1 = omega arith in
    subst (λ (n : ℕ). HaveEnded n c.args.at c.args.rows.now) next
    (ended_next c.loop-index.index c.args.at c.args.rows.now c.index-rows-index.result c.loop-index.invariant (omega (arith, c.loop-index-test.true)) c.index-rows-index.is (omega (arith, ap (λ (r : Row). r.table_ends) c.index-rows-index.is, c.if-at-rows.false)))

pub returns-clause-first : goal.returns-clause-first
returns-clause-first c = none_running (length c.args.rows.now) c.args.at c.args.rows.now (all_ended c) (omega arith)

pub returns-clause-ended : goal.returns-clause-ended
returns-clause-ended c = all_ended c
