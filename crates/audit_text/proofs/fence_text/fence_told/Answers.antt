use Rattle.std.proofs.Common.{◌≡◌, ◌∙◌, ℕ, Bool, true, false, not, List, [], Option, Some, None, refl, rules, string_bytes, sym}
use Rattle.std.specs.Prelude.{is_none, is_some}
use Rattle.cluster.specs.continued.Jobs.{Continued}
use Rattle.log_line.specs.declared.entry.LogEntry.{LogEntry}
use Rattle.log_line.specs.declared.entry.WriteEntry.{WriteEntry}
use Rattle.log_writes.specs.declared.fault.FenceFault.{FenceFault}
use Rattle.audit_text.specs.FenceReports.{IsToldIf, IsVerdictTold, are_judged}
use Rattle.audit_text.proofs.fence_text.fence_told.Goals as goal

is_no_fault : (fault : Option FenceFault) (fenced : Bool) → is_some fault ≡ not fenced → fenced ≡ is_none fault
is_no_fault None true is = refl
is_no_fault None false is = absurd (cc)
is_no_fault (Some it) true is = absurd (cc)
is_no_fault (Some it) false is = refl

module _ (job : Continued) (goes_on : Bool) (names : List (List ℕ)) (entries : List LogEntry) (writes : List WriteEntry) where
  nothing_told : (judged : Bool) (text : List ℕ) → judged ≡ false → text ≡ [] → IsToldIf judged job goes_on names entries writes true text
  nothing_told true text is none = absurd (cc)
  nothing_told false text is none = (refl, none)

  verdict_told : (judged fenced : Bool) (text : List ℕ) → judged ≡ true → IsVerdictTold job goes_on names entries writes fenced text
      → IsToldIf judged job goes_on names entries writes fenced text
  verdict_told true fenced text is told = told
  verdict_told false fenced text is told = absurd (cc)

pub returns-then-not-are_judged : goal.returns-then-not-are_judged
returns-then-not-are_judged c = λ job begins.
    let judged : c.are_judged.result ≡ false = search rules in
    let none : string_bytes c.new.result ≡ [] = search rules in
    nothing_told job _ _ _ c.args.writes.now (are_judged c.args.is_one c.args.writes.now) _ (sym c.are_judged.ensures ∙ judged) none

pub returns : goal.returns
returns c = λ job begins.
    let judged : c.are_judged.result ≡ true = search rules in
    let verdict = is_no_fault c.in_ok-fault.fault c.is_none.result c.is_none.ensures in
    verdict_told job _ _ _ c.args.writes.now (are_judged c.args.is_one c.args.writes.now) _ _ (sym c.are_judged.ensures ∙ judged)
    (record { fault = c.in_ok-fault.fault; judged = c.in_ok-fault.ensures job begins; verdict = verdict; text_is = c.in_ok-line.ensures })
