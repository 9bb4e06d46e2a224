use Rattle.store_writes.proofs.Shelving.{shelves_changed, shelves_unchanged}
use Rattle.store_writes.proofs.shelves.Shelves.take.Goals as goal

pub returns-in_ok-insert-clause-kept : goal.returns-in_ok-insert-clause-kept
returns-in_ok-insert-clause-kept c = λ before are.
    shelves_changed before c.args.write c.args.self.now record { by_key = c.insert.new.self } c.greater-greater.result are (c.greater-greater.ensures before are) c.if-is_none.ensures
    (λ key. c.in_ok-insert.ensures.updates.0 key)

pub returns-else-is_none-clause-kept : goal.returns-else-is_none-clause-kept
returns-else-is_none-clause-kept c = λ before are.
    shelves_unchanged before c.args.write c.args.self.now c.greater-greater.result are (c.greater-greater.ensures before are) c.if-is_none.ensures
