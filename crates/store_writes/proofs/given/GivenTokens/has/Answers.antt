use Rattle.store_writes.proofs.Giving.{says_given}
use Rattle.store_writes.proofs.given.GivenTokens.has.Goals as goal

pub returns : goal.returns
returns c = λ events index are. says_given events index c.args.self.now c.args.token are c.contains.result c.contains.ensures
