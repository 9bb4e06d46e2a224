use Rattle.command.proofs.log_audit.read_named.Goals as goal

pub returns-in_ok-end_file-in-Ok-clause-ok : goal.returns-in_ok-end_file-in-Ok-clause-ok
returns-in_ok-end_file-in-Ok-clause-ok g c = λ files reading.
    let read = c.in-Ok.ensures files reading in
    (read.0, read.1, c.in_ok-end_file-in-Ok.ensures files read.0 read.2)
