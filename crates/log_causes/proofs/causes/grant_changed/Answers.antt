use Rattle.std.proofs.Common.{◌≡◌, ◌∙◌, Some, ap, sym, subst}
use Rattle.cluster.specs.continued.Deliveries.{known_grant}
use Rattle.log_line.specs.declared.line.BareGrant.{BareGrant}
use Rattle.log_line.specs.Sent.{IsFirst, bare, sends_grant}
use Rattle.log_causes.proofs.Passing.{none_first}
use Rattle.log_causes.proofs.causes.grant_changed.Goals as goal

pub returns-in_default-2 : goal.returns-in_default-2
returns-in_default-2 c = λ job past leads changed is.
    let made : Some c.in-Some.sent.now ≡ known_grant job.forgotten past c.args.grant.now.number = c.in-Some.ensures job past leads in
    let same : is.granted ≡ c.in-Some.sent.now = (let other = is.made in cc) in
    let line : IsFirst (sends_grant c.bare-sent.result) c.args.before.now 0 changed.place =
    subst (λ (b : BareGrant). IsFirst (sends_grant b) c.args.before.now 0 changed.place) (ap bare same ∙ sym c.bare-sent.ensures) is.line in
    none_first (sends_grant c.bare-sent.result) c.args.before.now c.in_ok-place.field-0 c.in_ok-place.ensures c.in_default-2.is changed.place line
