use Rattle.cluster.specs.continued.Jobs.{from_start}
use Rattle.std.proofs.Common.{List, ◌++◌, ◌∙◌, ap, subst}
use Rattle.lease_table.specs.Calls.{AnsweredTableCall}
use Rattle.lease_table.specs.Runs.{IsRun as IsTableRun}
use Rattle.lease_table.specs.Generations.{assignment_in}
use Rattle.cluster.specs.Pasts.{table_calls}
use Rattle.cluster.proofs.TableRuns.{table_run, table_calls_extend}
use Rattle.cluster.proofs.laws.known_generations_law.Goals as goal

pub returns : goal.returns
returns c = λ started later past generation run known.
    let job = from_start started in
    let longer = table_calls_extend later past in
    let whole = subst (IsTableRun job.policy) longer.1 (table_run job (later ++ past) run) in
    ap (λ (calls : List AnsweredTableCall). assignment_in generation calls) longer.1 ∙ c.assignments_law.ensures.stays job.policy longer.0 (table_calls past) generation whole known
