-- What was written for a run.
use Rattle.std.proofs.Common.{◌≡◌, ℕ, List, take, refl}
use Rattle.std.specs.Prelude.{Option}
use Rattle.std.specs.Io.KnownBytes.{Appends}
use Rattle.program_io.specs.declared.fault.Fault.TheVariants as fault
use Rattle.program_io.specs.Streams.{ReadsAll}
use Rattle.live_run.specs.LiveJobs.{LiveSizes}
use Rattle.live_run.specs.Reports.{IsReported}
use Rattle.live_run.specs.declared.report.LiveReport.{LiveReport}
use Rattle.live_text.specs.Inputs.{SaysJob, SaysRun, Answered, Failed}
use Rattle.live_text.specs.Lines.{live_text}

module _ (before after held holds : Option (List ℕ)) (bytes text : List ℕ) (job : LiveSizes) (report : LiveReport) (reads : ReadsAll before after bytes)
    (says : SaysJob bytes job) (reported : IsReported job report) (is : text ≡ live_text report.asked report.generation report.audit) where
  run : SaysRun report.audit bytes text
  run = record { job = job; says = says; report = report; reported = reported; audited = refl; is = is }

  pub answered : Appends held holds text → Answered before after held holds report.audit
  answered wrote = record { text = text; is = record { bytes = bytes; reads = reads; says = run }; wrote = wrote }

  pub fails_cut : (n : ℕ) × Appends held holds (take n text) → Failed before after held holds fault.Write
  fails_cut wrote = record { text = text; is = record { bytes = bytes; reads = reads; says = (report.audit, run) }; len = wrote.0; wrote = wrote.1 }
