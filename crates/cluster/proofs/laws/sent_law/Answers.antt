use Rattle.cluster.specs.continued.Jobs.{from_start}
use Rattle.cluster.specs.Pasts.{task_calls}
use Rattle.cluster.proofs.TaskAcceptance.{accepted_calls}
use Rattle.cluster.proofs.TableReadings.{last_read}
use Rattle.cluster.proofs.Sending.{held_sent}
use Rattle.cluster.proofs.Noting.{made_note_sent, freed_note_sent}
use Rattle.cluster.proofs.laws.sent_law.Goals as goal

pub returns-clause-held : goal.returns-clause-held
returns-clause-held c = λ job past task kind grant run e. held_sent (from_start job) task past kind grant run e

pub returns-clause-own : goal.returns-clause-own
returns-clause-own c = λ job past task kind grant run e. ((c.held_law.ensures task (task_calls task past) (accepted_calls (from_start job) past task run)).own kind grant e).of_task

pub returns-clause-made : goal.returns-clause-made
returns-clause-made c = λ job past note run i. made_note_sent (from_start job) past note run i

pub returns-clause-freed : goal.returns-clause-freed
returns-clause-freed c = λ job past note at answer run i. freed_note_sent (from_start job) past note at answer run i

pub returns-clause-reading : goal.returns-clause-reading
returns-clause-reading c = λ past. last_read past
