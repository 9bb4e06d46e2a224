use Rattle.std.proofs.Common.{rules, sym, ◌∙◌}
use Rattle.program_io.proofs.Skipping.{consumed, skips_none, skips_next, gives_next, gives_none}
use Rattle.program_io.proofs.line_reading.next_line.Goals as goal

pub blanks-init : goal.blanks-init
blanks-init g c = skips_none (g.R.Read.remaining c.args.reader.now)

pub returns-then-ends_search-clause-ok : goal.returns-then-ends_search-clause-ok
returns-then-ends_search-clause-ok g c =
    let line = c.in_ok-line.line in
    gives_next (g.R.Read.remaining c.args.reader.now) (g.R.Read.remaining c.blanks.reader) (g.R.Read.remaining c.read_line.new.reader) line.bytes.items line.is_long c.blanks.invariant c.in_ok-line.ensures.ok (sym c.ends_search.ensures ∙ c.if-ends_search.true)

pub blanks-preserved : goal.blanks-preserved
blanks-preserved g c =
    let line = c.in_ok-line.line in
    skips_next (g.R.Read.remaining c.args.reader.now) (g.R.Read.remaining c.blanks.reader) (g.R.Read.remaining c.read_line.new.reader) line.bytes.items line.is_long c.blanks.invariant c.in_ok-line.ensures.ok (sym c.ends_search.ensures ∙ c.if-ends_search.false)

pub returns-in_err-line-clause-err : goal.returns-in_err-line-clause-err
returns-in_err-line-clause-err g c =
    let gave = gives_none (g.R.Read.remaining c.args.reader.now) (g.R.Read.remaining c.blanks.reader) (g.R.Read.remaining c.read_line.new.reader) c.in_err-line.ensures.err.0 c.blanks.invariant c.in_err-line.ensures.err.1 in
    search rules

pub returns-clause-err : goal.returns-clause-err
returns-clause-err g c = consumed (g.R.Read.remaining c.args.reader.now) (g.R.Read.remaining c.blanks.reader) c.blanks.invariant.blanks c.blanks.invariant.reads
