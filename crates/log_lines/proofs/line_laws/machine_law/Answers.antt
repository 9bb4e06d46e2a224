use Rattle.std.proofs.Common.{arith}
use Rattle.log_lines.proofs.ReadBack.{phase_read, rows_read, serve_read, hold_read, check_read, look_read}
use Rattle.log_lines.proofs.line_laws.machine_law.Goals as goal

pub returns-in-Phase : goal.returns-in-Phase
returns-in-Phase c = rw c.in-Phase.is (phase_read c.args.ticket c.args.words.now)

pub returns-in-Rows : goal.returns-in-Rows
returns-in-Rows c = rw c.in-Rows.is (rows_read c.args.ticket c.args.words.now)

pub returns-in-Serve : goal.returns-in-Serve
returns-in-Serve c =
    rw c.in-Serve.is (serve_read c.args.ticket c.in-Serve.task c.in-Serve.key c.in-Serve.at c.args.words.now (omega (arith, c.value-key.ensures.value, c.value-key.ensures.in_range)))

pub returns-in-Hold : goal.returns-in-Hold
returns-in-Hold c =
    rw c.in-Hold.is (hold_read c.args.ticket c.in-Hold.task c.in-Hold.key c.in-Hold.at c.args.words.now (omega (arith, c.value-key-in-Hold.ensures.value, c.value-key-in-Hold.ensures.in_range)))

pub returns-in-Check : goal.returns-in-Check
returns-in-Check c =
    rw c.in-Check.is (check_read c.args.ticket c.in-Check.task c.in-Check.handle c.in-Check.at c.args.words.now (omega arith) (omega (arith, c.number-task.ensures.value, c.number-task.ensures.low))
    (omega (arith, c.number-task.ensures.value, c.number-task.ensures.high)) (omega (arith, c.value-key-in-Check.ensures.value, c.value-key-in-Check.ensures.in_range)))

pub returns-in-Look : goal.returns-in-Look
returns-in-Look c =
    rw c.in-Look.is (look_read c.args.ticket c.in-Look.clerk c.in-Look.key c.args.words.now (omega (arith, c.value-key-in-Look.ensures.value, c.value-key-in-Look.ensures.in_range)))
