use Rattle.std.proofs.Common.{◌<◌, inl}
use Rattle.machines.proofs.Every.{all_weaker}
use Rattle.fence.specs.Tokens.{IsUpTo}
use Rattle.fence.specs.Requests.{Request}
use Rattle.fence.proofs.Shelving.{accepted_up_to, up_to_accepted, accepted_rise, lower_refused, accepted_among, highest_accepted}
use Rattle.fence.proofs.laws.store_law.Goals as goal

pub returns-clause-test : goal.returns-clause-test
returns-clause-test c = λ greatest token. (accepted_up_to greatest token, up_to_accepted greatest token)

pub returns-clause-among : goal.returns-clause-among
returns-clause-among c = accepted_among

pub returns-clause-rising : goal.returns-clause-rising
returns-clause-rising c = accepted_rise

pub returns-clause-refused : goal.returns-clause-refused
returns-clause-refused c = lower_refused

pub returns-clause-highest : goal.returns-clause-highest
returns-clause-highest c = λ offered token all. highest_accepted token offered all

pub returns-clause-anew : goal.returns-clause-anew
returns-clause-anew c = λ offered token all.
    highest_accepted token offered (all_weaker (λ (w : Request). w.token.epoch < token.epoch) (λ (w : Request). IsUpTo w.token token) offered (λ w earlier. inl earlier) all)
