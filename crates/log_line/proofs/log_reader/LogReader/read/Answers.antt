use Rattle.std.proofs.Common.{rules, ◌≡◌, false}
use Rattle.std.specs.Prelude.{is_some}
use Rattle.log_line.proofs.LineTaking.{all_read_of_it, more_read}
use Rattle.log_line.proofs.log_reader.LogReader.read.Goals as goal

pub parts-smaller : goal.parts-smaller
parts-smaller g c = rw c.in-Some.is at c.in_ok-rest.ensures.shorter

pub parts-preserved : goal.parts-preserved
parts-preserved g c = λ files before known.
    let so_far = c.parts.invariant files before known in
    more_read files before c.args.piece.now so_far.0 _ so_far.1 _ _ c.in-Some.rest c.in-Some.is (c.in_ok-rest.ensures.read files _ so_far.2)

pub returns : goal.returns
returns g c = λ files before known.
    let so_far = c.parts.invariant files before known in
    let none : is_some c.in_ok-rest.field-0 ≡ false = search rules in
    all_read_of_it files before c.args.piece.now so_far.0 _ so_far.1 _ _ none (c.in_ok-rest.ensures.read files _ so_far.2)
