use Rattle.std.proofs.Common.{◌≡◌, true, [], rules, refl, sym, ap, ◌∙◌, subst}
use Rattle.grants.specs.Policies.{Terms, is_policy}
use Rattle.lease_table.specs.Tables.{opening}
use Rattle.cluster.specs.continued.Jobs.{Counts}
use Rattle.cluster.specs.continued.Clusters.{LeadsTo}
use Rattle.cluster.proofs.Keeping.{steady_start, steady_same}
use Rattle.cluster.proofs.cluster.Cluster.new.Goals as goal

pub returns : goal.returns
unfolding LeadsTo
returns c = record {
  run = tt;
  within = subst (λ (p : Terms). is_policy p ≡ true) c.policy-policy.ensures c.policy_law.ensures;
  same_job = refl;
  table = c.new.ensures ∙ ap opening c.policy-policy.ensures;
  tasks = c.in_ok-tasks_of.ensures;
  clerks = c.in_ok-clerks_of.ensures;
  grants = record { before = []; many = sym (ap (λ (n : Counts). n.grants) c.none.ensures); all = sym c.new-3.ensures.items };
  notes = record { before = []; many = sym (ap (λ (n : Counts). n.notes) c.none.ensures); all = search rules };
  handles = record { before = []; many = sym (ap (λ (n : Counts). n.handles) c.none.ensures); all = search rules };
  proposals = record { before = []; many = sym (ap (λ (n : Counts). n.proposals) c.none.ensures); all = sym c.new-8.ensures.items };
  earlier_notes = ap (λ (n : Counts). n.notes) c.none.ensures;
  earlier_handles = ap (λ (n : Counts). n.handles) c.none.ensures;
  known_notes = λ note. search rules;
  known_handles = λ handle. search rules;
  steady = steady_same _ [] _ (steady_start c.args.job) c.none.result c.none.ensures;
}
