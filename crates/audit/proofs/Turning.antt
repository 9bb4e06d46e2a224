-- Turns of several histories, and faults of turns in order.
use Rattle.std.proofs.Common.{◌≡◌, ℕ, ◌+◌, ◌<◌, ◌==◌, cond, List, [], ◌∷◌, ◌++◌, map, length, get_or, take, sym, ap, ◌∙◌, arith}
use Rattle.std.specs.Prelude.{Option, Some, None, Result, Ok, Err, IfOk}
use Rattle.std.specs.List.Sorted.{IsPermutation}
use Rattle.std.proofs.lemmas.List.{append_assoc, append-nil, take_more, length-take-le}
use Rattle.std.proofs.lemmas.List.Sorted.{sum_by-IsPermutation}
use Rattle.job_calls.specs.Jobs.{Job}
use Rattle.job_calls.specs.declared.call.ClusterCall.{ClusterCall}
use Rattle.job_calls.specs.declared.reply.ClusterReply.{ClusterReply}
use Rattle.audit.specs.declared.finding.Why.{Why}
use Rattle.audit.specs.declared.finding.Why.TheVariants.{Double, Order, RefusedEntry, OtherReply}
use Rattle.audit.specs.declared.finding.Audit.{Audit}
use Rattle.audit.specs.declared.finding.Audit.TheVariants.{One, No}
use Rattle.audit.proofs.Rising.{rises_map, at_most_once}
use Rattle.audit.specs.OneRun.{Turn, Entries, Evidence, all_turns, TicketsAreDistinct, HistoriesRise, Rises, entry_turn, turns_from, IsWrong, IsBreak, IsInOrder, IsFault, IsReplayed, IsAudit}

-- one history more
pub turns_more : {C : Type 0} (name : ℕ → C → ClusterCall) (number : ℕ) (hs : List (Entries C)) (h : Entries C)
    → turns_from name number (hs ++ h ∷ []) ≡ turns_from name number hs ++ map (entry_turn (name (number + length hs))) h
turns_more name number [] h =
    let here : number ≡ number + 0 = omega arith in
    append-nil (map (entry_turn (name number)) h) ∙ ap (λ (n : ℕ). map (entry_turn (name n)) h) here
turns_more name number (x ∷ hs) h =
    let here : number + 1 + length hs ≡ number + length (x ∷ hs) = omega arith in
    ap (λ (ts : List Turn). map (entry_turn (name number)) x ++ ts) (turns_more name (number + 1) hs h ∙ ap (λ (n : ℕ). turns_from name (number + 1) hs ++ map (entry_turn (name n)) h) here)
    ∙ sym (append_assoc (map (entry_turn (name number)) x) (turns_from name (number + 1) hs) (map (entry_turn (name (number + length (x ∷ hs)))) h))

-- one history more is added to a list
pub add_more : {C : Type 0} (name : ℕ → C → ClusterCall) (hs : List (Entries C)) (i : ℕ) (h d : Entries C) (before old new : List Turn) → i < length hs
    → h ≡ get_or hs i d
    → old ≡ before ++ turns_from name 1 (take i hs) → new ≡ old ++ map (entry_turn (name (i + 1))) h → new ≡ before ++ turns_from name 1 (take (i + 1) hs)
add_more name hs i h d before old new low is was made =
    let count : 1 + length (take i hs) ≡ i + 1 = (let l = length-take-le i hs (omega (arith, low)) in omega (arith, l)) in
    let more : turns_from name 1 (take (i + 1) hs) ≡ turns_from name 1 (take i hs) ++ map (entry_turn (name (i + 1))) h =
    ap (turns_from name 1) (take_more hs i d low ∙ ap (λ (x : Entries _). take i hs ++ x ∷ []) (sym is)) ∙ turns_more name 1 (take i hs) h
    ∙ ap (λ (n : ℕ). turns_from name 1 (take i hs) ++ map (entry_turn (name n)) h) count in
    made ∙ ap (λ (ts : List Turn). ts ++ map (entry_turn (name (i + 1))) h) was
    ∙ append_assoc before (turns_from name 1 (take i hs)) (map (entry_turn (name (i + 1))) h) ∙ ap (λ (ts : List Turn). before ++ ts) (sym more)

-- points with distinct tickets, of histories that rise, show turns in order
pub in_order : {X : Type 0} (f : X → Turn) (e : Evidence) (points : List X) → IsPermutation (all_turns e) (map f points) → Rises (λ p. (f p).ticket) points → HistoriesRise e → IsInOrder e (map f points)
in_order f e points each distinct rising = record { each = each; distinct = rises_map (λ (t : Turn). t.ticket) f points distinct; rising = rising }

-- no ticket stands twice where those of the points rise
pub tickets_distinct : {X : Type 0} (f : X → Turn) (e : Evidence) (points : List X) → IsPermutation (all_turns e) (map f points) → Rises (λ p. (f p).ticket) points
    → TicketsAreDistinct e
tickets_distinct f e points each rising ticket =
    let same = sum_by-IsPermutation (λ (t : Turn). cond (t.ticket == ticket) 1 0) (all_turns e) (map f points) each in
    let once = at_most_once (λ (t : Turn). t.ticket) ticket (map f points) (rises_map (λ (t : Turn). t.ticket) f points rising) in
    omega (arith, same, once)

-- no reply is wrong by a ticket alone
not_double : (reply : ClusterReply) (told : Option ClusterReply) → IsWrong Double reply told → ⊥
not_double reply None wrong = wrong
not_double reply (Some told) wrong = wrong

not_order : (reply : ClusterReply) (told : Option ClusterReply) → IsWrong Order reply told → ⊥
not_order reply None wrong = wrong
not_order reply (Some told) wrong = wrong

fault_from : (job : Job) (e : Evidence) (run : List Turn) (ticket : ℕ) (why : Why) → IsInOrder e run → IsBreak job run ticket why → IsFault job e ticket why
fault_from job e run ticket Double order here = absurd (not_double here.reply here.turn.told here.wrong)
fault_from job e run ticket Order order here = absurd (not_order here.reply here.turn.told here.wrong)
fault_from job e run ticket RefusedEntry order here = (run, order, here)
fault_from job e run ticket OtherReply order here = (run, order, here)

audit_from : (job : Job) (e : Evidence) (run : List Turn) (found : Audit) → IsInOrder e run → IsReplayed job run found → IsAudit job e found
audit_from job e run (One steps timely) order said = (run, order, said)
audit_from job e run (No ticket why) order said = fault_from job e run ticket why order said

-- what is said of turns in order is said of histories and records
pub audit_of : {E : Type 0} (job : Job) (e : Evidence) (run : List Turn) (found : Result Audit E) → IsInOrder e run → IfOk found (λ f. IsReplayed job run f)
    → IfOk found (λ f. IsAudit job e f)
audit_of job e run (Ok found) order said = audit_from job e run found order said
audit_of job e run (Err why) order said = said
