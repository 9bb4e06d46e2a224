use Rattle.store_writes.proofs.Giving.{gives_one}
use Rattle.store_writes.proofs.given.GivenTokens.give.Goals as goal

pub returns : goal.returns
returns c = λ events index are here. gives_one events index c.args.token c.args.self.now _ are here (λ q. c.in_ok-insert.ensures.updates.0 q)
