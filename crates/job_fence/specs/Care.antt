-- What a task sees to, so that none of its tokens falls.
use Rattle.std.specs.Prelude.{◌≡◌, ℕ, ◌≤◌, true, [], ◌∷◌, ⊤}
use Rattle.grants.specs.declared.table_call.TableCall.{TableCall}
use Rattle.grants.specs.declared.table_call.TableCall.TheVariants as asked
use Rattle.grants.specs.declared.slicelet_call.SliceletCall.{SliceletCall}
use Rattle.grants.specs.declared.slicelet_call.SliceletCall.TheVariants.{Release}
use Rattle.slicelet.specs.Calls.{life_of}
use Rattle.slicelet.specs.States.{SliceletState}
use Rattle.job_calls.specs.declared.call.ClusterCall.{ClusterCall}
use Rattle.job_calls.specs.declared.call.ClusterCall.TheVariants as call
use Rattle.cluster.specs.Pasts.{Past, is_accepted, task_calls, history}
use Rattle.fence.specs.Giving.{may_give_up}

-- the task gives up a bridge lease only while it holds a guard lease of its generation or a later one
abbrev pub IsCarefulTaskCall : SliceletState → SliceletCall → Type 0
IsCarefulTaskCall s (Release kind at) = may_give_up s kind ≡ true
IsCarefulTaskCall s _ = ⊤

-- a lease is granted to the task only for its current life, or for an earlier one
abbrev pub IsCarefulTableCall : ℕ → Past → TableCall → Type 0
IsCarefulTableCall task past (asked.Grant to life at) = to ≡ task → life ≤ life_of (task_calls task past)
IsCarefulTableCall task past _ = ⊤

abbrev pub IsCarefulCall : ℕ → Past → ClusterCall → Type 0
IsCarefulCall task past (call.Task by c) = by ≡ task → IsCarefulTaskCall (history task past) c
IsCarefulCall task past (call.Table c) = IsCarefulTableCall task past c
IsCarefulCall task past _ = ⊤

-- a task is careful in a run: each accepted call is
abbrev pub IsCareful : ℕ → Past → Type 0
IsCareful task [] = ⊤
IsCareful task (e ∷ past) = (is_accepted e.reply ≡ true → IsCarefulCall task past e.call) × IsCareful task past
