-- What tables and plans are held to, as numbers.
use Rattle.std.specs.Prelude.{Option, Some, None, if◌then◌else◌}
use Rattle.grants.specs.Policies.{Terms, is_policy, terms}
use Rattle.lease_table.specs.Tables.{Standing, opening}
use Rattle.weighted_move.specs.Policies.{PlanTerms, plan_terms}
use Rattle.c_calls.specs.declared.policy_numbers.PolicyNumbers.{PolicyNumbers}
use Rattle.c_calls.specs.declared.policy_numbers.PlanPolicyNumbers.{PlanPolicyNumbers}

-- the terms of a policy
abbrev pub terms_of : PolicyNumbers → Terms
terms_of n = terms n.low n.high n.skew n.guard n.bridge n.job n.numbers

-- the table of a policy before its first call, where the numbers are within their limits
abbrev pub table_of : PolicyNumbers → Option Standing
table_of n = if is_policy (terms_of n) then Some (opening (terms_of n)) else None

-- what a plan is held to
abbrev pub plan_terms_of : PlanPolicyNumbers → PlanTerms
plan_terms_of n = plan_terms n.low n.high n.churn n.cold n.hot n.most
