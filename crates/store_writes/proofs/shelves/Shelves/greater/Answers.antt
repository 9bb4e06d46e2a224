use Rattle.std.proofs.Common.{◌≡◌, refl, subst}
use Rattle.std.specs.Prelude.{Some, None, nat_eq}
use Rattle.std.specs.HashMap.{get}
use Rattle.store_writes.specs.internals.Firsts.{IsKept}
use Rattle.store_writes.proofs.Shelving.{none_greater, none_of_key}
use Rattle.store_writes.proofs.shelves.Shelves.greater.Goals as goal

pub returns-in_default : goal.returns-in_default
returns-in_default c = λ before are.
    let v = c.get.ensures.value in
    let w = c.copied.ensures in
    let n = c.in_default.is in
    let has : get nat_eq c.args.self.now.by_key c.args.write.key ≡ None = cc in
    none_of_key before c.args.write (subst (IsKept before c.args.write.key) has (are c.args.write.key))

pub returns-then-is_up_to : goal.returns-then-is_up_to
returns-then-is_up_to c = λ before are.
    let v = c.get.ensures.value in
    let w = c.copied.ensures in
    let n = c.in-Some.is in
    let has : get nat_eq c.args.self.now.by_key c.args.write.key ≡ Some c.in-Some.greatest = cc in
    let kept = subst (IsKept before c.args.write.key) has (are c.args.write.key) in
    none_greater before c.args.write c.in-Some.greatest kept (c.if-is_up_to.ensures.0 refl)
