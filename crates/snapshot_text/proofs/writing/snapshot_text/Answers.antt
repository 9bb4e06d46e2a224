use Rattle.std.proofs.Common.{◌≡◌, rules, append_assoc, arith, subst, sym}
use Rattle.std.proofs.lemmas.Grind.{common_steps}
use Rattle.snapshot_text.specs.Lines.{AreReadBack}
use Rattle.snapshot_text.specs.Texts.{AreTasksReadBack, IsText, row_line, clerk_line, grant_line, assignment_line, note_line, handle_line, snapshot_text}
use Rattle.snapshot_text.proofs.Places.{AllReadBack, text_says}
use Rattle.snapshot_text.proofs.writing.snapshot_text.Goals as goal

pub returns-clause-reads : goal.returns-clause-reads
returns-clause-reads c =
    let job = c.args.job.now in
    let s = c.args.snapshot.now in
    let text : c.write_lines-6.new.text.items ≡ snapshot_text job s = first_of (search (rules, append_assoc), grind (arith, common_steps)) in
    let reads : AllReadBack job s = record {
      head = rw c.new.ensures at c.in_ok-write_line.ensures.reads;
      kept = c.in_ok-write_line-2.ensures.reads;
      rows = subst (AreReadBack job row_line) c.deref.ensures.value c.in_ok-write_lines.ensures.reads;
      tasks = subst (AreTasksReadBack job) c.deref-2.ensures.value c.in_ok-write_tasks.ensures.reads;
      clerks = subst (AreReadBack job clerk_line) c.deref-3.ensures.value c.in_ok-write_lines-2.ensures.reads;
      grants = subst (AreReadBack job grant_line) c.deref-4.ensures.value c.in_ok-write_lines-3.ensures.reads;
      assignments = subst (AreReadBack job assignment_line) c.deref-5.ensures.value c.in_ok-write_lines-4.ensures.reads;
      notes = subst (AreReadBack job note_line) c.deref-6.ensures.value c.in_ok-write_lines-5.ensures.reads;
      handles = subst (AreReadBack job handle_line) c.deref-7.ensures.value c.in_ok-write_lines-6.ensures.reads;
    } in
    subst (λ bytes. IsText job bytes s) (sym text) (text_says job s reads)
