use Rattle.std.proofs.Common.{[], subst}
use Rattle.std.specs.Io.BufRead.{FillKeeps}
use Rattle.program_io.proofs.PartReading.{kept_all, no_part, shown_part}
use Rattle.program_io.proofs.line_reading.append_part.Goals as goal

pub returns-then-eq-clause-ok : goal.returns-then-eq-clause-ok
returns-then-eq-clause-ok g c =
    no_part (g.R.Read.remaining c.args.reader.now) (g.R.Read.remaining c.fill_buf.follows.lender-at-none) c.args.line.now.items c.fill_buf.follows.holds-at-none.0

pub returns-else-eq-clause-err : goal.returns-else-eq-clause-err
returns-else-eq-clause-err g c =
    ([], kept_all (g.R.Read.remaining c.args.reader.now) (g.R.Read.remaining c.fill_buf.follows.lender-at-none) c.fill_buf.follows.holds-at-none.0)

pub returns-clause-ok : goal.returns-clause-ok
returns-clause-ok g c =
    let before = g.R.Read.remaining c.args.reader.now in
    let rested = c.fill_buf.follows.lender-at-none in
    let filled = subst (FillKeeps before (g.R.Read.remaining rested) (g.R.BufRead.consumable_len rested)) c.in-Ok.is c.fill_buf.follows.holds-at-none in
    let found = c.find_end-found in
    shown_part before (g.R.Read.remaining rested) (g.R.Read.remaining c.consume.new.self) (g.R.BufRead.consumable_len rested) c.args.line.now.items c.extend_from_slice.new.self.items
    c.in-Ok.available.now found.result.len found.result.is_done found.ensures.bound found.ensures.some found.ensures.stops found.ensures.goes_on found.ensures.ends
    c.in-Ok.ensures.front c.in-Ok.ensures.end filled.0 filled.1 c.consume.ensures.bytes c.in_ok-extend_from_slice.ensures.items
