-- A run has one past, and each of its turns is an event of it.
use Rattle.std.proofs.Common.{◌≡◌, ℕ, Bool, true, false, List, [], ◌∷◌, ◌++◌, reverse, refl, sym, ◌∙◌, ap, subst}
use Rattle.std.specs.Prelude.{IsTrue, ◌↔◌, if◌then◌else◌}
use Rattle.std.specs.List.{AllZip}
use Rattle.std.proofs.lemmas.List.{reverse-append, append_assoc}
use Rattle.machines.specs.Numbers.{is_within}
use Rattle.slicelet.specs.Continuity.{is_strange}
use Rattle.job_calls.specs.Jobs.{Job}
use Rattle.job_calls.specs.declared.error.ClusterError.TheVariants as error
use Rattle.job_calls.specs.declared.call.ClusterCall.{ClusterCall}
use Rattle.job_calls.specs.declared.call.ClusterCall.TheVariants as call
use Rattle.job_calls.specs.declared.reply.ClusterReply.{ClusterReply}
use Rattle.job_calls.specs.declared.reply.ClusterReply.TheVariants as reply
use Rattle.cluster.specs.Pasts.{Event, event, Past, readings, history}
use Rattle.cluster.specs.Timing.{IsTimely}
use Rattle.cluster.specs.Deliveries.{is_given}
use Rattle.cluster.specs.Replies.{check_reply, reply_to}
use Rattle.cluster.specs.Runs.{IsOutcome, IsReply, IsRun}
use Rattle.cluster.specs.continued.Jobs.{from_start}
use Rattle.cluster.proofs.Ruling.{run_before}
use Rattle.cluster.proofs.LaterPoints.{timely_at_point}
use Rattle.audit.specs.OneRun.{Turn, Fits, IsEventOf, IsPastOf}
use Rattle.audit.specs.Points.{IsPoint}

-- ONE PAST

one_outcome : {C : Type 0} (a b : Bool) → IsTrue a ↔ C → IsTrue b ↔ C → a ≡ b
one_outcome true true p q = refl
one_outcome false false p q = refl
one_outcome true false p q = sym (q.1 (p.0 refl))
one_outcome false true p q = p.1 (q.0 refl)

module _ {C : Type 0} (a b : Bool) where
  one_check : (within given strange : Bool) → (within ≡ true → given ≡ true → strange ≡ false → IsTrue a ↔ C) → (within ≡ true → given ≡ true → strange ≡ false → IsTrue b ↔ C)
      → (if within then check_reply given strange a else reply.Refused error.NoActor) ≡ (if within then check_reply given strange b else reply.Refused error.NoActor)
  one_check false given strange p q = refl
  one_check true false strange p q = refl
  one_check true true true p q = refl
  one_check true true false p q = ap (check_reply true false) (one_outcome a b (p refl refl refl) (q refl refl refl))

one_reply : (job : Job) (past : Past) (c : ClusterCall) (a b : Bool) → IsOutcome job past c a → IsOutcome job past c b → reply_to job past c a ≡ reply_to job past c b
one_reply job past (call.Check task handle at) a b p q = one_check a b (is_within task job.tasks) (is_given past handle) (is_strange (history task past) handle) p q
one_reply job past (call.Table c) a b p q = refl
one_reply job past (call.Task task c) a b p q = refl
one_reply job past (call.Clerk clerk c) a b p q = refl
one_reply job past call.Phase a b p q = refl
one_reply job past call.Rows a b p q = refl
one_reply job past (call.Serve task key at) a b p q = refl
one_reply job past (call.Hold task key at) a b p q = refl
one_reply job past (call.Look clerk key) a b p q = refl

one_event : (job : Job) (past : Past) (turn : Turn) (e f : Event) → IsEventOf turn e → IsEventOf turn f → IsReply job past e → IsReply job past f → e ≡ f
one_event job past turn e f is also p q =
    let first : IsReply job past (event turn.call e.reply) = subst (λ (c : ClusterCall). IsReply job past (event c e.reply)) is.same_call p in
    let second : IsReply job past (event turn.call f.reply) = subst (λ (c : ClusterCall). IsReply job past (event c f.reply)) also.same_call q in
    ap (λ (c : ClusterCall). event c e.reply) (is.same_call ∙ sym also.same_call)
    ∙ ap (event f.call) (first.2 ∙ one_reply job past turn.call first.0 second.0 first.1 second.1 ∙ sym second.2)

pub one_past : (job : Job) (turns : List Turn) (past other : Past) → AllZip IsEventOf turns past → IsRun job past → AllZip IsEventOf turns other → IsRun job other → past ≡ other
one_past job [] [] [] told run also too = refl
one_past job [] [] (f ∷ other) told run also too = absurd also
one_past job [] (e ∷ past) other told run also too = absurd told
one_past job (t ∷ turns) [] other told run also too = absurd told
one_past job (t ∷ turns) (e ∷ past) [] told run also too = absurd also
one_past job (t ∷ turns) (e ∷ past) (f ∷ other) told run also too =
    let before = one_past job turns past other told.1 run.1 also.1 too.1 in
    ap (λ (x : Event). x ∷ past) (one_event job past t e f told.0 also.0 run.0 (subst (λ (p : Past). IsReply job p f) (sym before) too.0)) ∙ ap (λ (p : Past). f ∷ p) before

-- THE EVENT OF A TURN

record IsSplit (past : Past) (turn : Turn) (before : List Turn) : Type 0 where
  later : Past
  at : Event
  earlier : Past
  whole : past ≡ later ++ at ∷ earlier
  is : IsEventOf turn at
  told : AllZip IsEventOf before earlier

split : (later : List Turn) (turn : Turn) (before : List Turn) (past : Past) → AllZip IsEventOf (later ++ turn ∷ before) past → IsSplit past turn before
split [] turn before [] told = absurd told
split [] turn before (e ∷ past) told = record { later = []; at = e; earlier = past; whole = refl; is = told.0; told = told.1 }
split (t ∷ later) turn before [] told = absurd told
split (t ∷ later) turn before (e ∷ past) told =
    let rest = split later turn before past told.1 in
    record { later = e ∷ rest.later; at = rest.at; earlier = rest.earlier; whole = ap (λ (p : Past). e ∷ p) rest.whole; is = rest.is; told = rest.told }

turned : (before later : List Turn) (turn : Turn) → reverse (before ++ turn ∷ later) ≡ reverse later ++ turn ∷ reverse before
turned before later turn =
    reverse-append before (turn ∷ later) ∙ ap (λ (ts : List Turn). ts ++ reverse before) (reverse-append (turn ∷ []) later) ∙ append_assoc (reverse later) (turn ∷ []) (reverse before)

pub point_of : (job : Job) (before later : List Turn) (turn : Turn) (past : Past) → IsPastOf (before ++ turn ∷ later) past → IsRun job past
    → (earlier : Past) × (answer : ClusterReply) × IsPoint job past before turn earlier answer
point_of job before later turn past told run =
    let s = split (reverse later) turn (reverse before) past (subst (λ (ts : List Turn). AllZip IsEventOf ts past) (turned before later turn) told) in
    let whole : past ≡ s.later ++ event turn.call s.at.reply ∷ s.earlier = s.whole ∙ ap (λ (c : ClusterCall). s.later ++ event c s.at.reply ∷ s.earlier) s.is.same_call in (
      s.earlier,
      s.at.reply,
      record {
        later = s.later;
        whole = whole;
        told = s.told;
        fits = s.is.fits;
        answered = run_before (from_start job) s.later (event turn.call s.at.reply ∷ s.earlier) (subst (IsRun job) whole run);
        clocks = λ timely. timely_at_point job.policy.skew s.later (event turn.call s.at.reply ∷ s.earlier) (subst (λ (p : Past). IsTimely job.policy.skew (readings p)) whole timely);
      },
    )
