-- The lines that are written for the report of a live run.
use Rattle.std.specs.Prelude.{ℕ, true, false, List, ◌++◌, codes, decimal}
use Rattle.audit.specs.declared.finding.Why.{Why}
use Rattle.audit.specs.declared.finding.Why.TheVariants.{Double, Order, RefusedEntry, OtherReply}
use Rattle.audit.specs.declared.finding.Audit.{Audit}
use Rattle.audit.specs.declared.finding.Audit.TheVariants.{One, No}

-- the word for a fault that an audit found
abbrev pub why_word : Why → List ℕ
why_word Double = codes "double"
why_word Order = codes "order"
why_word RefusedEntry = codes "refused-entry"
why_word OtherReply = codes "other-reply"

-- what an audit found, and of one run whether its clocks were timely
abbrev pub audit_text : Audit → List ℕ
audit_text (One steps true) = codes "audit one\ntimely yes\n"
audit_text (One steps false) = codes "audit one\ntimely no\n"
audit_text (No ticket why) = codes "audit no " ++ (decimal ticket ++ (codes " " ++ (why_word why ++ codes "\n")))

-- how many keys were asked for, the generation that is committed, and what the audit found
abbrev pub live_text : ℕ → ℕ → Audit → List ℕ
live_text asked generation found =
    (codes "asked " ++ (decimal asked ++ codes "\n")) ++ ((codes "generation " ++ (decimal generation ++ codes "\n")) ++ audit_text found)
