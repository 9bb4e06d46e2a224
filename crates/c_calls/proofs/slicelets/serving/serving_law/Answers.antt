use Rattle.std.proofs.Common.{◌∙◌, sym}
use Rattle.slicelet.specs.Rules.{covers_key}
use Rattle.c_calls.proofs.slicelets.serving.serving_law.Goals as goal

pub returns : goal.returns
returns c =
    let s = c.args.slicelet.now in
    let covers = covers_key c.args.key in
    let calls = c.standing_law.ensures.0 in
    let stands = c.standing_law.ensures.1 in
    let same = c.state_law.ensures.rule covers calls s c.args.at stands in
    let found = c.covering_lease_law.ensures.allowed covers calls c.args.at c.args.kind c.args.generation (sym same ∙ c.requires) in
    let held = c.state_law.ensures.held calls s c.args.kind stands in
    let own = (c.held_law.ensures s.task calls stands.accepted).own c.args.kind found.grant found.is_held in
    record { grant = found.grant; held = held ∙ found.is_held; of_kind = own.of_kind; of_generation = found.told }
