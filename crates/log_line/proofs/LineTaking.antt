-- Lines that a reader takes, one after another.
use Rattle.std.proofs.Common.{◌≡◌, ◌∙◌, ℕ, ◌+◌, Bool, true, false, List, [], ◌∷◌, ◌++◌, map, length, take, refl, sym, ap, subst, append_assoc, arith}
use Rattle.std.specs.Prelude.{Option, Some, None, is_none, is_some, option_map}
use Rattle.std.specs.List.{flat_map}
use Rattle.std.proofs.lemmas.Grind.{flat_map-append}
use Rattle.std.specs.Global.{Vec}
use Rattle.std.proofs.lemmas.List.{append-nil, length-append, map-append}
use denote.Ref.{Bor}
use Rattle.program_io.specs.Lines.{is_blank, is_long}
use Rattle.log_line.specs.declared.call_lines.BadLine.{BadLine}
use Rattle.log_line.specs.declared.call_lines.CallLines.{CallLines}
use Rattle.log_line.specs.declared.entry.LinePosition.{LinePosition}
use Rattle.log_line.specs.declared.job_lines.JobLines.{JobLines}
use Rattle.log_line.specs.declared.lines.KeptLine.{KeptLine}
use Rattle.log_line.specs.declared.log_reader.LogReader.{LogReader}
use Rattle.log_line.specs.declared.log_reader.TakenLines.{TakenLines}
use Rattle.log_line.specs.Files.{PlacedLine, AreParted, AreSaid, IsBadLine, IsJobLine, counted, line_with, lines_from, lines_in, numbered}
use Rattle.log_line.specs.Readers.{AreCallLines, AreCallsUpTo, AreJobLines, AreShortLines, AreTaken, AreTakenUpTo, IsFirst, IsReading, file_after, kept, others_with}
use Rattle.log_line.specs.internals.Parts.{AreFewer, EndsLine, IsFollowedBy, IsPartRead, IsUnended, line_read}
use Rattle.log_line.proofs.LineSplitting.{files_more, line_ends, line_stays, unended_more}
use Rattle.log_line.proofs.Parting.{file_more, job_after, other_after}
use Rattle.log_line.proofs.Saying.{bad_after, counts_none, counts_one, long_after, short_after}

-- JOB LINES

pub first_stays : (lines : List PlacedLine) (line : PlacedLine) (first : KeptLine) → IsFirst lines (Some first) → IsFirst (lines ++ line ∷ []) (Some first)
first_stays lines line first is = (is.0 ++ line ∷ [], ap (λ (ls : List PlacedLine). ls ++ line ∷ []) is.1)

pub first_stays_so : (lines : List PlacedLine) (line : PlacedLine) (first : Option KeptLine) → is_none first ≡ false → IsFirst lines first → IsFirst (lines ++ line ∷ []) first
first_stays_so lines line None some is = absurd (cc)
first_stays_so lines line (Some first) some is = first_stays lines line first is

pub job_kept : (lines others : List PlacedLine) (jobs : List KeptLine) (line : PlacedLine) (l : KeptLine) → AreParted None lines (map kept jobs) others
    → IsJobLine (file_after None lines) line true → kept l ≡ line → AreParted None (lines ++ line ∷ []) (map kept (jobs ++ l ∷ [])) others
job_kept lines others jobs line l parted is same =
    subst (λ (js : List PlacedLine). AreParted None (lines ++ line ∷ []) js others)
    (ap (λ (k : PlacedLine). map kept jobs ++ k ∷ []) (sym same) ∙ sym (map-append kept jobs (l ∷ [])))
    (job_after None lines (map kept jobs) others line parted is)

pub other_left : (lines others : List PlacedLine) (jobs : List KeptLine) (line : PlacedLine) → AreParted None lines (map kept jobs) others
    → IsJobLine (file_after None lines) line false → AreParted None (lines ++ line ∷ []) (map kept jobs) (others ++ line ∷ [])
other_left lines others jobs line parted is = other_after None lines (map kept jobs) others line parted is

pub counted_job : (lines others : List PlacedLine) (line : PlacedLine) (taken : JobLines) (is_job : Bool) → IsFirst (lines ++ line ∷ []) taken.first → taken.before ≡ Some line.place.file
    → AreParted None (lines ++ line ∷ []) (map kept taken.jobs.items) (others_with others line is_job) → AreJobLines (lines ++ line ∷ []) (others_with others line is_job) taken
counted_job lines others line taken is_job first before parted =
    record { first = first; before = before ∙ sym (file_more None lines line); parted = parted }

-- CALLS

pub no_bad : (bad : Option BadLine) → is_some bad ≡ false → bad ≡ None
no_bad None none = refl
no_bad (Some bad) none = absurd (cc)

pub calls_so_far : (lines : List PlacedLine) (taken : CallLines) (bad : Option BadLine) → taken.bad ≡ bad → bad ≡ None → AreCallLines lines taken
    → AreSaid lines taken.entries.items taken.writes.items taken.torn.items
calls_so_far lines taken (Some bad) is none are = absurd (cc)
calls_so_far lines taken None is none are = subst (AreCallsUpTo lines taken) is are

pub calls_are : (lines : List PlacedLine) (taken : CallLines) → taken.bad ≡ None → AreSaid lines taken.entries.items taken.writes.items taken.torn.items → AreCallLines lines taken
calls_are lines taken is said = subst (AreCallsUpTo lines taken) (sym is) said

pub bad_stays : (lines : List PlacedLine) (line : PlacedLine) (taken : CallLines) (bad : Option BadLine) → taken.bad ≡ bad → is_some bad ≡ true → AreCallLines lines taken
    → AreCallLines (lines ++ line ∷ []) taken
bad_stays lines line taken None is some are = absurd (cc)
bad_stays lines line taken (Some bad) is some are =
    subst (AreCallsUpTo (lines ++ line ∷ []) taken) (sym is) (bad_after lines line bad.place bad.why (subst (AreCallsUpTo lines taken) is are))

-- SHORT LINES AND LONG ONES

pub long_stays : (lines : List PlacedLine) (line : PlacedLine) (taken : TakenLines) (long : Option LinePosition) → taken.long ≡ long → is_some long ≡ true → AreTaken lines taken
    → AreTaken (lines ++ line ∷ []) taken
long_stays lines line taken None is some are = absurd (cc)
long_stays lines line taken (Some place) is some are =
    subst (AreTakenUpTo (lines ++ line ∷ []) taken) (sym is) (long_after lines line place (subst (AreTakenUpTo lines taken) is are))

pub short_lines : (lines : List PlacedLine) (taken : TakenLines) (long : Option LinePosition) → taken.long ≡ long → is_some long ≡ false → AreTaken lines taken → AreShortLines lines taken
short_lines lines taken (Some place) is none are = absurd (cc)
short_lines lines taken None is none are = subst (AreTakenUpTo lines taken) is are

pub none_long : (lines : List PlacedLine) (taken : TakenLines) (long : Option LinePosition) → taken.long ≡ long → is_some long ≡ false → AreShortLines lines taken → AreTaken lines taken
none_long lines taken (Some place) is none are = absurd (cc)
none_long lines taken None is none are = subst (AreTakenUpTo lines taken) (sym is) are

module _ (lines : List PlacedLine) (line : PlacedLine) (taken : TakenLines) (are : AreShortLines lines taken) (short : is_long line.bytes ≡ false) where
  pub blank_more : is_blank line.bytes ≡ true → AreShortLines (lines ++ line ∷ []) taken
  blank_more blank = record {
    short = short_after lines line are.short short;
    others = are.others;
    jobs = subst (λ (ls : List PlacedLine). AreJobLines ls are.others taken.jobs) (sym (counts_none lines line blank)) are.jobs;
    calls = are.calls;
  }

  -- a line more that counts, which is a job line or not
  pub one_counts : (after : TakenLines) (is_job : Bool) → is_blank line.bytes ≡ false → AreJobLines (counted lines ++ line ∷ []) (others_with are.others line is_job) after.jobs
      → AreCallLines (others_with are.others line is_job) after.calls → AreShortLines (lines ++ line ∷ []) after
  one_counts after is_job some jobs calls = record {
    short = short_after lines line are.short short;
    others = others_with are.others line is_job;
    jobs = subst (λ (ls : List PlacedLine). AreJobLines ls (others_with are.others line is_job) after.jobs) (sym (counts_one lines line some)) jobs;
    calls = calls;
  }

pub first_line : (lines : List PlacedLine) (first : Option KeptLine) (this : KeptLine) → first ≡ Some this → IsFirst lines first → (later : List PlacedLine) × (lines ≡ kept this ∷ later)
first_line lines None this is are = absurd (cc)
first_line lines (Some first) this is are = let same : first ≡ this = cc in subst (λ (f : KeptLine). IsFirst lines (Some f)) same are

pub bad_line : (lines : List PlacedLine) (taken : CallLines) (bad : BadLine) → taken.bad ≡ Some bad → AreCallLines lines taken → IsBadLine lines bad.place bad.why
bad_line lines taken bad is are = subst (AreCallsUpTo lines taken) is are

-- BYTES

pub no_bytes : (bytes : List ℕ) → length bytes ≡ 0 → bytes ≡ []
no_bytes [] is = refl
no_bytes (byte ∷ bytes) is = absurd (omega (arith, is))

nothing_before : (done part : List ℕ) → [] ≡ done ++ part → part ≡ []
nothing_before [] part is = sym is
nothing_before (b ∷ done) part is = absurd (cc)

module _ (files : List (List ℕ)) (before : List ℕ) (r : LogReader) (known : IsReading files before r) where
  -- more bytes of a line
  pub part_more : (s : LogReader) (more : List ℕ) → IsUnended more → s.file ≡ r.file → s.number ≡ r.number → s.taken ≡ r.taken → s.part.items ≡ r.part.items ++ more
      → IsReading files (before ++ more) s
  part_more s more unended file number taken part = record {
    count = file ∙ known.count;
    ended = known.ended;
    parts = ap (λ (bs : List ℕ). bs ++ more) known.parts ∙ append_assoc known.ended r.part.items more ∙ ap (λ (bs : List ℕ). known.ended ++ bs) (sym part);
    unended = rw part (unended_more r.part.items more known.unended unended);
    lines = known.lines;
    taken = rw taken known.taken;
    ahead = λ next.
        ap (λ (bs : List ℕ). lines_from 0 (files ++ bs ∷ [])) (append_assoc before more next) ∙ known.ahead (more ++ next)
        ∙ ap (λ (bs : List ℕ). known.lines ++ numbered r.file r.number (lines_in bs)) (sym (append_assoc r.part.items more next))
        ∙ rw (file, number, part) refl;
  }

  -- the end of a line
  pub line_more : (s : LogReader) → EndsLine r true s → IsReading files (before ++ 10 ∷ []) s
  line_more s is = record {
    count = is.file ∙ known.count;
    ended = before ++ 10 ∷ [];
    parts = sym (append-nil (before ++ 10 ∷ [])) ∙ ap (λ (bs : List ℕ). (before ++ 10 ∷ []) ++ bs) (sym is.part);
    unended = rw is.part tt;
    lines = known.lines ++ line_read r true ∷ [];
    taken = is.taken known.lines known.taken;
    ahead = λ next.
        ap (λ (bs : List ℕ). lines_from 0 (files ++ bs ∷ [])) (append_assoc before (10 ∷ []) next) ∙ known.ahead (10 ∷ next)
        ∙ ap (λ ls. known.lines ++ numbered r.file r.number ls) (line_ends r.part.items next known.unended)
        ∙ sym (append_assoc known.lines (line_read r true ∷ []) (numbered r.file (r.number + 1) (lines_in next)))
        ∙ rw (is.file, is.number, is.part) refl;
  }

  -- the end of a file, whose lines these are
  file_ends : (s : LogReader) (lines : List PlacedLine) → lines ≡ lines_from 0 (files ++ before ∷ []) → AreTaken lines s.taken → s.file ≡ r.file + 1 → s.number ≡ 1 → s.part.items ≡ []
      → IsReading (files ++ before ∷ []) [] s
  file_ends s lines whole taken file number part =
      let count : s.file ≡ length (files ++ before ∷ []) =
      (let l = length-append files (before ∷ []) in let c = known.count in omega (arith, l, c, file)) in
      record {
        count = count;
        ended = [];
        parts = sym part;
        unended = rw part tt;
        lines = lines;
        taken = taken;
        ahead = λ next.
            files_more 0 (files ++ before ∷ []) next
            ∙ ap (λ (n : ℕ). lines_from 0 (files ++ before ∷ []) ++ numbered n 1 (lines_in next)) (let same : 0 + length (files ++ before ∷ []) ≡ s.file = omega (arith, count) in same)
            ∙ ap (λ (ls : List PlacedLine). ls ++ numbered s.file 1 (lines_in next)) (sym whole)
            ∙ rw (number, part) refl;
      }

  pub file_ends_whole : (s : LogReader) → r.part.items ≡ [] → s.file ≡ r.file + 1 → s.number ≡ 1 → s.part.items ≡ r.part.items → s.taken ≡ r.taken
      → IsReading (files ++ before ∷ []) [] s
  file_ends_whole s none file number same taken =
      let part = same ∙ none in
      let all = known.ahead [] in
      file_ends s known.lines
      (sym (ap (λ (bs : List ℕ). lines_from 0 (files ++ bs ∷ [])) (sym (append-nil before)) ∙ rw none at all ∙ append-nil known.lines))
      (rw taken known.taken) file number part

  module _ (m s : LogReader) (is : EndsLine r false m) (file : s.file ≡ m.file + 1) (number : s.number ≡ 1) (part : s.part.items ≡ m.part.items) (taken : s.taken ≡ m.taken) where
    last_line : (part : List ℕ) → r.part.items ≡ part → (part ≡ [] → ⊥) → lines_in r.part.items ≡ line_with r.part.items false ∷ []
    last_line [] same some = absurd (some refl)
    last_line (byte ∷ bytes) same some = rw same (line_stays byte bytes (rw same at known.unended))

    pub file_ends_in : (r.part.items ≡ [] → ⊥) → IsReading (files ++ before ∷ []) [] s
    file_ends_in some =
        file_ends s (known.lines ++ line_read r false ∷ [])
        (sym (ap (λ (bs : List ℕ). lines_from 0 (files ++ bs ∷ [])) (sym (append-nil before)) ∙ known.ahead []
        ∙ ap (λ (bs : List ℕ). known.lines ++ numbered r.file r.number (lines_in bs)) (append-nil r.part.items)
        ∙ ap (λ ls. known.lines ++ numbered r.file r.number ls) (last_line r.part.items refl some)))
        (rw taken (is.taken known.lines known.taken)) (file ∙ ap (λ (n : ℕ). n + 1) is.file) number (part ∙ is.part)

-- what was read where all files have ended
pub all_read : (files : List (List ℕ)) (r : LogReader) (known : IsReading files [] r) → AreTaken (lines_from 0 files) r.taken
all_read files r known =
    let none : r.part.items ≡ [] = nothing_before known.ended r.part.items known.parts in
    let all = rw none at known.ahead [] in
    let same : known.lines ≡ lines_from 0 files =
    sym (append-nil known.lines) ∙ sym all ∙ files_more 0 files [] ∙ append-nil (lines_from 0 files) in
    subst (λ (ls : List PlacedLine). AreTaken ls r.taken) same known.taken

-- what was read up to the first end of a line, or to the end
pub line_read_to : (files : List (List ℕ)) (before bytes part : List ℕ) (rest : Option (Bor (List ℕ))) (s : LogReader) → is_some rest ≡ true → IsFollowedBy bytes part rest
    → IsReading files ((before ++ part) ++ 10 ∷ []) s → IsPartRead files before bytes rest s
line_read_to files before bytes part None s some whole known = absurd (cc)
line_read_to files before bytes part (Some rest) s some whole known =
    (part, whole, subst (λ (bs : List ℕ). IsReading files bs s) (append_assoc before part (10 ∷ [])) known)

pub all_of_it : (files : List (List ℕ)) (before bytes part : List ℕ) (rest : Option (Bor (List ℕ))) (s : LogReader) → is_some rest ≡ false → IsFollowedBy bytes part rest
    → IsReading files (before ++ part) s → IsPartRead files before bytes rest s
all_of_it files before bytes part None s none whole known = subst (λ (bs : List ℕ). IsReading files (before ++ bs) s) (sym whole) known
all_of_it files before bytes part (Some rest) s none whole known = absurd (cc)

pub fewer : (bytes part : List ℕ) (rest : Option (Bor (List ℕ))) → IsFollowedBy bytes part rest → AreFewer bytes rest
fewer bytes part None whole = tt
fewer bytes part (Some rest) whole =
    let sum = length-append part (10 ∷ rest.now) in
    let same : length bytes ≡ length (part ++ 10 ∷ rest.now) = ap length whole in
    omega (arith, sum, same)

-- a piece, of which a part was read, and then some more of it
module _ (files : List (List ℕ)) (before piece done bytes : List ℕ) (whole : piece ≡ done ++ bytes) (s : LogReader) where
  pub more_read : (left : Option (Bor (List ℕ))) (rest : Bor (List ℕ)) → left ≡ Some rest → IsPartRead files (before ++ done) bytes left s
      → (so_far : List ℕ) × (piece ≡ so_far ++ rest.now) × IsReading files (before ++ so_far) s
  more_read None rest is read = absurd (cc)
  more_read (Some other) rest is read =
      let same : other ≡ rest = cc in (
        done ++ (read.0 ++ 10 ∷ []),
        whole ∙ ap (λ (bs : List ℕ). done ++ bs) (read.1 ∙ ap (λ (r : Bor (List ℕ)). read.0 ++ 10 ∷ r.now) same ∙ sym (append_assoc read.0 (10 ∷ []) rest.now))
            ∙ sym (append_assoc done (read.0 ++ 10 ∷ []) rest.now),
        subst (λ (bs : List ℕ). IsReading files bs s) (append_assoc before done (read.0 ++ 10 ∷ [])) read.2,
      )

  pub all_read_of_it : (left : Option (Bor (List ℕ))) → is_some left ≡ false → IsPartRead files (before ++ done) bytes left s → IsReading files (before ++ piece) s
  all_read_of_it (Some rest) none read = absurd (cc)
  all_read_of_it None none read =
      subst (λ (bs : List ℕ). IsReading files bs s) (append_assoc before done bytes ∙ ap (λ (bs : List ℕ). before ++ bs) (sym whole)) read
