-- What the JSON object of a live run says.
use Rattle.std.specs.Prelude.{[], ◌∷◌, codes, Result, Ok}
use Rattle.serde_json.specs.Data.{Data}
use Rattle.program_io.specs.declared.fault.WrongForm.{WrongForm}
use Rattle.program_io.specs.Reading.{◌>>=◌, ◌>>◌}
use Rattle.program_io.specs.Members.{exactly, number_in}
use Rattle.live_run.specs.LiveJobs.{LiveSizes, live_sizes}

-- four members and no other, each a number within its limits
unfoldable pub live_job_of : Data → Result LiveSizes WrongForm
live_job_of d = do
  exactly (codes "tasks" ∷ codes "workers" ∷ codes "rounds" ∷ codes "asks" ∷ []) d
  tasks ← number_in 1 6 (codes "tasks") d
  workers ← number_in 1 7 (codes "workers") d
  rounds ← number_in 1 16 (codes "rounds") d
  asks ← number_in 1 1000 (codes "asks") d
  Ok (live_sizes tasks workers rounds asks)
