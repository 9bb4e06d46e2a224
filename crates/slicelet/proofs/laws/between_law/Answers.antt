use Rattle.std.proofs.Common.{◌≡◌, ◌∙◌, ℕ, ◌+◌, Bool, List, [], ◌∷◌, ◌++◌, length, sym, ap, subst, arith, length-append}
use Rattle.std.specs.Prelude.{IsTrue}
use Rattle.grants.specs.declared.values.Grant.{Grant}
use Rattle.key_handle.specs.declared.handle.KeyHandle.{KeyHandle}
use Rattle.grants.specs.declared.slicelet_call.SliceletCall.{SliceletCall}
use Rattle.slicelet.specs.Calls.{reading_of, this_process, life_of, count_of}
use Rattle.slicelet.specs.Rules.{is_permitted}
use Rattle.slicelet.specs.Accepted.{AreAccepted}
use Rattle.slicelet.specs.Continuity.{IsContinuous, next_reading}
use Rattle.slicelet.proofs.Between.{next_finds}
use Rattle.slicelet.proofs.Processes.{permitted_in_process, process_before, continuous_in_life}
use Rattle.slicelet.proofs.laws.between_law.Goals as goal

between : (task : ℕ) (covers : Grant → Bool) (later before h : List SliceletCall) (handle : KeyHandle) (at : ℕ) → AreAccepted task (later ++ (before ++ h))
    → handle.life ≡ life_of h → handle.position ≡ count_of h → IsContinuous covers (later ++ (before ++ h)) handle at
    → IsTrue (is_permitted covers (before ++ h) (next_reading later at))
between task covers [] before h handle at accepted lives e k = k.now
between task covers (c ∷ later) before h handle at accepted lives e k =
    let one = continuous_in_life task covers (c ∷ later) before h handle at accepted lives k in
    let there : this_process (before ++ h) ≡ before ++ this_process h = process_before before h one.calls_before in
    let whole : this_process ((c ∷ later) ++ (before ++ h)) ≡ c ∷ (later ++ (before ++ this_process h)) =
    process_before (c ∷ later) (before ++ h) one.later_calls ∙ ap (λ (calls : List SliceletCall). c ∷ (later ++ calls)) there in
    let total : length (before ++ this_process h) ≡ length before + length (this_process h) = length-append before (this_process h) in
    let found = next_finds covers handle.position _ k.kept c later (before ++ this_process h) [] whole (omega (arith, e, total)) in
    subst IsTrue (ap (λ (calls : List SliceletCall). is_permitted covers calls (next_reading later (reading_of c))) (sym there) ∙ permitted_in_process covers (before ++ h) (next_reading later (reading_of c))) found

pub returns : goal.returns
returns c = λ task covers later before h handle at accepted lives e k. between task covers later before h handle at accepted lives e k
