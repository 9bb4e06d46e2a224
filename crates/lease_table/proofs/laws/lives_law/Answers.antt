use Rattle.lease_table.proofs.Lives.{one_run, in_run, always_taken}
use Rattle.lease_table.proofs.laws.lives_law.Goals as goal

pub returns-clause-run : goal.returns-clause-run
returns-clause-run c = λ policy life within h. one_run policy within life h

pub returns-clause-taken : goal.returns-clause-taken
returns-clause-taken c = λ policy life saved within h covers. always_taken policy within life saved h covers

pub returns-clause-replies : goal.returns-clause-replies
returns-clause-replies c = λ life run e h i. in_run life run e h i
