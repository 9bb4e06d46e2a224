-- Job lines and the other lines, one after another.
use Rattle.std.proofs.Common.{◌≡◌, ℕ, zero, suc, ◌+◌, ◌<◌, ◌≤◌, Bool, true, false, inl, inr, List, [], ◌∷◌, ◌++◌, map, length, get_or, take, drop, refl, sym, ap, ◌∙◌, subst, arith, Ok, Err}
use Rattle.std.specs.Prelude.{Option, Some, None}
use Rattle.job_calls.specs.Jobs.{Job}
use Rattle.program_io.specs.declared.fault.Fault.TheVariants as fault
use Rattle.wire.specs.declared.fault.DecodeRefusal.{DecodeRefusal}
use Rattle.program_io.specs.Members.{wrong}
use Rattle.replies.specs.Jobs.{job_member}
use Rattle.faults.specs.Faults.{AnswerError}
use Rattle.faults.specs.JobLines.{SaysJob, IsNoJob}
use Rattle.log_line.specs.declared.entry.LinePosition.{LinePosition}
use Rattle.log_line.specs.declared.entry.WriteEntry.{WriteEntry}
use Rattle.log_line.specs.declared.lines.KeptLine.{KeptLine}
use Rattle.log_line.specs.declared.log.Log.{Log}
use Rattle.log_line.specs.declared.log.LogError.{LogError}
use Rattle.log_line.specs.declared.log.LogError.TheVariants as unread
use Rattle.log_line.specs.Files.{PlacedLine, AreOfJob, AreOtherJobs, AreParted, AreSaid, AreShort, HasNoJobMember, HaveOneJob, HasBadCall, IsBadJob, IsBadLine, IsJobLine, IsLog, IsUnread, begins_file, counted}
use Rattle.log_line.specs.internals.Reading.{IsJobMember, IsJobOf, IsNoJobFor, IsNoJobOf}
use Rattle.log_line.specs.Readers.{file_after, kept}
use Rattle.log_line.proofs.Saying.{one_more, whole_with}

-- the first line of a file is a job line where it has the member `job`
pub job_line_by : (before : Option ℕ) (line : PlacedLine) (is : Bool) → begins_file before line ≡ true → IsJobMember line.bytes is → IsJobLine before line is
job_line_by before line true begins has = (begins, has)
job_line_by before line false begins none = inr none

-- the file of the last of some lines
pub file_more : (before : Option ℕ) (lines : List PlacedLine) (line : PlacedLine) → file_after before (lines ++ line ∷ []) ≡ Some line.place.file
file_more before [] line = refl
file_more before (l ∷ lines) line = file_more (Some l.place.file) lines line

-- one line more, which is a job line
pub job_after : (before : Option ℕ) (lines jobs others : List PlacedLine) (line : PlacedLine) → AreParted before lines jobs others → IsJobLine (file_after before lines) line true
    → AreParted before (lines ++ line ∷ []) (jobs ++ line ∷ []) others
job_after before [] jobs others line parted is =
    inl ([], ap (λ (ls : List PlacedLine). ls ++ line ∷ []) parted.0, is, (refl, parted.1))
job_after before (l ∷ lines) jobs others line (inl parted) is =
    inl (parted.0 ++ line ∷ [], ap (λ (ls : List PlacedLine). ls ++ line ∷ []) parted.1, parted.2, job_after (Some l.place.file) lines parted.0 others line parted.3 is)
job_after before (l ∷ lines) jobs others line (inr parted) is =
    inr (parted.0, parted.1, parted.2, job_after (Some l.place.file) lines jobs parted.0 line parted.3 is)

-- one line more, which is another one
pub other_after : (before : Option ℕ) (lines jobs others : List PlacedLine) (line : PlacedLine) → AreParted before lines jobs others → IsJobLine (file_after before lines) line false
    → AreParted before (lines ++ line ∷ []) jobs (others ++ line ∷ [])
other_after before [] jobs others line parted is =
    inr ([], ap (λ (ls : List PlacedLine). ls ++ line ∷ []) parted.1, is, (parted.0, refl))
other_after before (l ∷ lines) jobs others line (inl parted) is =
    inl (parted.0, parted.1, parted.2, other_after (Some l.place.file) lines parted.0 others line parted.3 is)
other_after before (l ∷ lines) jobs others line (inr parted) is =
    inr (parted.0 ++ line ∷ [], ap (λ (ls : List PlacedLine). ls ++ line ∷ []) parted.1, parted.2, other_after (Some l.place.file) lines jobs parted.0 line parted.3 is)

-- one job line more, which says the same job
same_after : (lines : List PlacedLine) (line : PlacedLine) (job : Job) → AreOfJob lines job → SaysJob line.bytes job → AreOfJob (lines ++ line ∷ []) job
same_after [] line job same says = (says, tt)
same_after (l ∷ lines) line job same says = (same.0, same_after lines line job same.1 says)

pub one_job : (lines : List PlacedLine) (job : Job) → AreOfJob lines job → HaveOneJob lines
one_job [] job same = tt
one_job (line ∷ lines) job same = (job, same)

-- the first of some lines, of which there are some
taken_head : (lines : List KeptLine) (i : ℕ) (head e : KeptLine) → 1 ≤ i → i ≤ length lines → head ≡ get_or lines 0 e
    → map kept (take i lines) ≡ kept head ∷ map kept (drop 1 (take i lines))
taken_head lines zero head e some low is = absurd (omega (arith, some))
taken_head [] (suc i) head e some low is = absurd (omega (arith, low))
taken_head (line ∷ lines) (suc i) head e some low is = ap (λ (l : KeptLine). kept l ∷ map kept (take i lines)) (sym is)

module _ (lines : List KeptLine) (i : ℕ) (line d : KeptLine) (low : i < length lines) (here : line ≡ get_or lines i d) where
  -- a job line that says no job
  bad_job_here : (error : AnswerError) → HaveOneJob (map kept (take i lines)) → IsNoJob line.bytes.items error → IsBadJob (map kept lines) line.place error
  bad_job_here error same says = record {
    before = map kept (take i lines);
    line = kept line;
    later = map kept (drop (i + 1) lines);
    whole = whole_with lines i line d low here;
    same = same;
    at = refl;
    says = says;
  }

  pub no_job_here : (first : PlacedLine) (error : LogError) → HaveOneJob (map kept (take i lines)) → IsNoJobFor (kept line) error → IsNoJobOf (map kept lines) first error
  no_job_here first (unread.NoJob place faults) same says =
      inr (subst (λ (p : LinePosition). IsBadJob (map kept lines) p (fault.Input faults)) says.0 (bad_job_here (fault.Input faults) same says.1))
  no_job_here first unread.Empty same says = absurd says
  no_job_here first (unread.LongLine place) same says = absurd says
  no_job_here first (unread.OtherJob one second) same says = absurd says
  no_job_here first (unread.BadLine place why mend) same says = absurd says
  no_job_here first unread.Memory same says = tt

  -- one job line more, which says the same job
  pub same_more : (job : Job) → AreOfJob (map kept (take i lines)) job → SaysJob line.bytes.items job → AreOfJob (map kept (take (i + 1) lines)) job
  same_more job same says =
      subst (λ (ls : List PlacedLine). AreOfJob ls job) (sym (one_more lines i line d low here)) (same_after (map kept (take i lines)) (kept line) job same says)

  -- a job line that says another job than those before it
  pub other_job_here : (head e : KeptLine) (job other : Job) → 1 ≤ i → head ≡ get_or lines 0 e → AreOfJob (map kept (take i lines)) job → SaysJob line.bytes.items other
      → (other ≡ job → ⊥) → AreOtherJobs (map kept lines) head.place line.place
  other_job_here head e job other some is same says differs =
      let front = taken_head lines i head e some (omega (arith, low)) is in
      record {
        head = kept head;
        before = map kept (drop 1 (take i lines));
        line = kept line;
        later = map kept (drop (i + 1) lines);
        whole = subst (λ (ls : List PlacedLine). map kept lines ≡ ls ++ kept line ∷ map kept (drop (i + 1) lines)) front (whole_with lines i line d low here);
        job = job;
        same = subst (λ (ls : List PlacedLine). AreOfJob ls job) front same;
        at_head = refl;
        at = refl;
        other = other;
        says = says;
        differs = differs;
      }

-- A LOG

-- a line that says a job has the member `job`
says_member : (bytes : List ℕ) (job : Job) → SaysJob bytes job → HasNoJobMember bytes → ⊥
says_member bytes job says (inl none) =
    let is : Some says.value ≡ None = sym says.json.json.reads ∙ none says.json.json.utf8 in absurd (cc)
says_member bytes job says (inr (inl twice)) =
    let is : Some twice.0 ≡ None = sym twice.1.twice ∙ says.json.once in absurd (cc)
says_member bytes job says (inr (inr other)) =
    let same : Some says.value ≡ Some other.value = sym says.json.json.reads ∙ other.json.json.reads in
    let value : says.value ≡ other.value = cc in
    let is : Ok says.member ≡ Err wrong = sym says.has ∙ ap job_member value ∙ other.says in absurd (cc)

not_member : (first : PlacedLine) (job : Job) → IsJobLine None first false → SaysJob first.bytes job → ⊥
not_member first job (inl begins) says = absurd (cc)
not_member first job (inr none) says = says_member first.bytes job says none

-- where there are no job lines, the first line says no job
pub no_jobs : (first : PlacedLine) (lines others : List PlacedLine) (job : Job) → AreParted None (first ∷ lines) [] others → SaysJob first.bytes job → ⊥
no_jobs first lines others job (inl parted) says = let is = parted.1 in absurd (cc)
no_jobs first lines others job (inr parted) says = not_member first job parted.2 says

some_jobs : (jobs others : List PlacedLine) (first : PlacedLine) (later : List PlacedLine) (job : Job) → AreParted None (first ∷ later) jobs others → IsJobOf jobs first job
    → (jobs ≡ [] → ⊥) × AreOfJob jobs job
some_jobs [] others first later job parted says = absurd (no_jobs first later others job parted says)
some_jobs (head ∷ jobs) others first later job parted same = (λ none. absurd (cc), same)

-- lines that are short, of which these count: a first one and later ones, or job lines and others
module _ (lines jobs others : List PlacedLine) (first : PlacedLine) (later : List PlacedLine) (short : AreShort lines) (whole : counted lines ≡ first ∷ later)
    (parted : AreParted None (counted lines) jobs others) where
  pub jobs_said : (job : Job) → IsJobOf jobs first job → (jobs ≡ [] → ⊥) × AreOfJob jobs job
  jobs_said job is = some_jobs jobs others first later job (subst (λ (ls : List PlacedLine). AreParted None ls jobs others) whole parted) is

  -- a job, calls and writes are a log
  abbrev pub is_log : (log : Log) (writes : List WriteEntry) → IsJobOf jobs first log.job → AreSaid others log.entries.items writes log.torn.items → IsLog lines log
  is_log log writes is calls =
      let said = jobs_said log.job is in
      record { short = short; jobs = jobs; others = others; parted = parted; some = said.0; job = said.1; writes = writes; calls = calls }

  -- there is no job
  pub no_job_read : (error : LogError) → IsNoJobOf jobs first error → IsUnread lines error
  no_job_read (unread.NoJob place faults) (inl none) = (
    short,
    record {
      jobs = jobs;
      others = others;
      parted = parted;
      none = inl (none.0, record { first = first; later = later; whole = whole; at = none.1; says = none.2 });
    },
  )
  no_job_read (unread.NoJob place faults) (inr bad) = (short, record { jobs = jobs; others = others; parted = parted; none = inr bad })
  no_job_read (unread.OtherJob one second) differ = (short, record { jobs = jobs; others = others; parted = parted; differ = differ })
  no_job_read unread.Empty is = absurd is
  no_job_read (unread.LongLine place) is = absurd is
  no_job_read (unread.BadLine place why mend) is = absurd is
  no_job_read unread.Memory is = tt

  -- a line says no call
  pub no_call_read : (job : Job) (place : LinePosition) (why : DecodeRefusal) → IsJobOf jobs first job → IsBadLine others place why
      → AreShort lines × HasBadCall (counted lines) place why
  no_call_read job place why is bad =
      let said = jobs_said job is in
      (short, record { jobs = jobs; others = others; parted = parted; some = said.0; job = job; same = said.1; bad = bad })
