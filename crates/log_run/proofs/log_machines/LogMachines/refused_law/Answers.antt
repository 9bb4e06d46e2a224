use Rattle.log_run.proofs.log_machines.LogMachines.refused_law.Goals as goal

pub returns-in-Some-clause-task : goal.returns-in-Some-clause-task
returns-in-Some-clause-task c = λ job past task call why recorded.
    rw c.in-Some.is (c.refused_law.ensures.task job past task call why (rw c.in-Some.is at recorded))

pub returns-in-Some-clause-clerk : goal.returns-in-Some-clause-clerk
returns-in-Some-clause-clerk c = λ job past clerk call why recorded.
    rw c.in-Some.is (c.refused_law.ensures.clerk job past clerk call why (rw c.in-Some.is at recorded))
