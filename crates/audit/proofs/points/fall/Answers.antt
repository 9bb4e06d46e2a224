use Rattle.std.proofs.Common.{◌-◌, ◌<◌, arith, length, get_or}
use Rattle.std.proofs.lemmas.List.{get_or_default}
use Rattle.audit.specs.OneRun.{ticket_of}
use Rattle.audit.proofs.Rising.{falls_at, rises_more}
use Rattle.audit.proofs.points.fall.Goals as goal

pub returns-then-ticket-before : goal.returns-then-ticket-before
returns-then-ticket-before g c =
    let entries = c.args.entries.now in let i = c.loop-i.i in
    let x = get_or entries (i - 1) c.index-entries-i.result in let y = get_or entries i c.index-entries-i-in-loop-i.result in
    let one = c.loop-i.auto.i in let low = c.loop-i-test.true in let before : i - 1 < length entries = omega (arith, one, low) in
    let found = falls_at ticket_of entries i x y one low (get_or_default entries (i - 1) _ x before) (get_or_default entries i _ y low) c.if-ticket-before.true in
    record { place = found.0; inside = found.1; at = found.2; below = found.3 }

pub loop-i-preserved : goal.loop-i-preserved
loop-i-preserved g c =
    let entries = c.args.entries.now in let i = c.loop-i.i in
    let x = get_or entries (i - 1) c.index-entries-i.result in let y = get_or entries i c.index-entries-i-in-loop-i.result in
    let one = c.loop-i.auto.i in let low = c.loop-i-test.true in let before : i - 1 < length entries = omega (arith, one, low) in
    rises_more ticket_of entries i x y one low (get_or_default entries (i - 1) _ x before) (get_or_default entries i _ y low) c.loop-i.invariant c.if-ticket-before.false
