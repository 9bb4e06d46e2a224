use Rattle.std.proofs.Common.{rules, ◌+◌, ◌<◌, length, subst, arith}
use Rattle.program_io.specs.declared.line.TheConstants.{MOST_LINE_BYTES}
use Rattle.program_io.specs.internals.Parts.{IsPart}
use Rattle.program_io.proofs.PartReading.{no_parts, one_more, let_go, whole_line, also_consumed, were_consumed}
use Rattle.program_io.proofs.line_reading.read_line.Goals.{then-len, else-len}
use Rattle.program_io.proofs.line_reading.read_line.Goals as goal

pub parts-init : goal.parts-init
parts-init g c = rw c.new-bytes.ensures.items (no_parts (g.R.Read.remaining c.args.reader.now))

pub returns-in_err-is_done-clause-err : goal.returns-in_err-is_done-clause-err
returns-in_err-is_done-clause-err g c =
    let more = also_consumed (g.R.Read.remaining c.args.reader.now) (g.R.Read.remaining c.parts.reader) (g.R.Read.remaining c.append_part.new.reader) c.parts.bytes.items c.parts.is_cut c.parts.invariant c.in_err-is_done.ensures.err in
    search rules

pub returns-then-is_done-clause-ok : goal.returns-then-is_done-clause-ok
returns-then-is_done-clause-ok g c =
    let a = g.R.Read.remaining c.args.reader.now in
    let b = g.R.Read.remaining c.parts.reader in
    let d = g.R.Read.remaining c.append_part.new.reader in
    let new = c.append_part.new.line.items in
    let last = subst (IsPart b d c.parts.bytes.items new) c.if-is_done.true c.in_ok-is_done.ensures.ok in
    rw (c.line_of.ensures.bytes, c.line_of.ensures.long) (whole_line a b d c.parts.bytes.items new c.parts.is_cut c.parts.invariant last)

pub parts-preserved : goal.parts-preserved
parts-preserved g c =
    let a = g.R.Read.remaining c.args.reader.now in
    let b = g.R.Read.remaining c.parts.reader in
    let d = g.R.Read.remaining c.append_part.new.reader in
    let new = c.append_part.new.line.items in
    let part = subst (IsPart b d c.parts.bytes.items new) c.if-is_done.false c.in_ok-is_done.ensures.ok in
    let more = one_more a b d c.parts.bytes.items new c.parts.is_cut c.parts.invariant part in
    elim c.if-len.branch [
      | then-len w ↦
          let many : MOST_LINE_BYTES + 1 < length new = grind arith in
          rw (w.is_cut-is, w.bytes-is, w.clear.ensures.items) (let_go a d new c.parts.is_cut more many)
      | else-len w ↦ rw (w.is_cut-is, w.bytes-is) more
    ]

pub returns-clause-err : goal.returns-clause-err
returns-clause-err g c = were_consumed (g.R.Read.remaining c.args.reader.now) (g.R.Read.remaining c.parts.reader) c.parts.bytes.items c.parts.is_cut c.parts.invariant
