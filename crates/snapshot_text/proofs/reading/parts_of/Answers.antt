use Rattle.std.proofs.Common.{refl, rules, subst}
use Rattle.std.proofs.lemmas.Result.{err_from_is_err_and}
use Rattle.snapshot_text.specs.declared.error.SnapshotError.TheVariants.{Long}
use Rattle.snapshot_text.specs.Lines.{IsNext, place}
use Rattle.snapshot_text.specs.Texts.{head_line, kept_line, row_line, clerk_line, grant_line, assignment_line, note_line, handle_line, IsLong, FromKept, FromRows, FromTasks, FromClerks, FromGrants, FromAssignments, FromNotes, FromHandles}
use Rattle.snapshot_text.proofs.Loops.{after_line, after_lines, after_tasks, no_lines, no_tasks}
use Rattle.snapshot_text.proofs.reading.parts_of.Goals as goal

pub returns-in_err-tasks-clause-err : goal.returns-in_err-tasks-clause-err
returns-in_err-tasks-clause-err c =
    let job = c.args.job.now in
    let text = c.args.text.now in
    let head = c.in_ok-head.head in
    let first : IsNext job head_line (place 0 text) head c.next_value.new.lines = subst (λ at. IsNext job head_line at head c.next_value.new.lines) c.new-lines.ensures c.in_ok-head.ensures.ok in
    let e = c.in_err-tasks.field-0.0 in
    let p = err_from_is_err_and c.from_residual-in_err-tasks.result c.from_residual-in_err-tasks.ensures.1 in
    rw (p.1, p.2)
    (after_line job head_line (FromKept job) (place 0 text) head c.next_value.new.lines e first
    (after_line job kept_line (λ _. FromRows job head) c.next_value.new.lines c.in_ok-kept.kept c.next_value-2.new.lines e c.in_ok-kept.ensures.ok
    (after_lines job row_line head.rows (FromTasks job head) c.next_value-2.new.lines c.in_ok-rows.rows.items c.next_values.new.lines e c.in_ok-rows.ensures.ok
    (no_tasks job head.tasks (FromClerks job head) c.next_values.new.lines e c.in_err-tasks.ensures.err))))

pub returns-in_err-clerks-clause-err : goal.returns-in_err-clerks-clause-err
returns-in_err-clerks-clause-err c =
    let job = c.args.job.now in
    let text = c.args.text.now in
    let head = c.in_ok-head.head in
    let first : IsNext job head_line (place 0 text) head c.next_value.new.lines = subst (λ at. IsNext job head_line at head c.next_value.new.lines) c.new-lines.ensures c.in_ok-head.ensures.ok in
    let e = c.in_err-clerks.field-0.0 in
    let p = err_from_is_err_and c.from_residual-in_err-clerks.result c.from_residual-in_err-clerks.ensures.1 in
    rw (p.1, p.2)
    (after_line job head_line (FromKept job) (place 0 text) head c.next_value.new.lines e first
    (after_line job kept_line (λ _. FromRows job head) c.next_value.new.lines c.in_ok-kept.kept c.next_value-2.new.lines e c.in_ok-kept.ensures.ok
    (after_lines job row_line head.rows (FromTasks job head) c.next_value-2.new.lines c.in_ok-rows.rows.items c.next_values.new.lines e c.in_ok-rows.ensures.ok
    (after_tasks job head.tasks (FromClerks job head) c.next_values.new.lines c.in_ok-tasks.tasks.items c.next_tasks.new.lines e c.in_ok-tasks.ensures.ok
    (no_lines job clerk_line head.clerks (FromGrants job head) c.next_tasks.new.lines e c.in_err-clerks.ensures.err)))))

pub returns-in_err-grants-clause-err : goal.returns-in_err-grants-clause-err
returns-in_err-grants-clause-err c =
    let job = c.args.job.now in
    let text = c.args.text.now in
    let head = c.in_ok-head.head in
    let first : IsNext job head_line (place 0 text) head c.next_value.new.lines = subst (λ at. IsNext job head_line at head c.next_value.new.lines) c.new-lines.ensures c.in_ok-head.ensures.ok in
    let e = c.in_err-grants.field-0.0 in
    let p = err_from_is_err_and c.from_residual-in_err-grants.result c.from_residual-in_err-grants.ensures.1 in
    rw (p.1, p.2)
    (after_line job head_line (FromKept job) (place 0 text) head c.next_value.new.lines e first
    (after_line job kept_line (λ _. FromRows job head) c.next_value.new.lines c.in_ok-kept.kept c.next_value-2.new.lines e c.in_ok-kept.ensures.ok
    (after_lines job row_line head.rows (FromTasks job head) c.next_value-2.new.lines c.in_ok-rows.rows.items c.next_values.new.lines e c.in_ok-rows.ensures.ok
    (after_tasks job head.tasks (FromClerks job head) c.next_values.new.lines c.in_ok-tasks.tasks.items c.next_tasks.new.lines e c.in_ok-tasks.ensures.ok
    (after_lines job clerk_line head.clerks (FromGrants job head) c.next_tasks.new.lines c.in_ok-clerks.clerks.items c.next_values-2.new.lines e c.in_ok-clerks.ensures.ok
    (no_lines job grant_line head.grants (FromAssignments job head) c.next_values-2.new.lines e c.in_err-grants.ensures.err))))))

pub returns-in_err-assignments-clause-err : goal.returns-in_err-assignments-clause-err
returns-in_err-assignments-clause-err c =
    let job = c.args.job.now in
    let text = c.args.text.now in
    let head = c.in_ok-head.head in
    let first : IsNext job head_line (place 0 text) head c.next_value.new.lines = subst (λ at. IsNext job head_line at head c.next_value.new.lines) c.new-lines.ensures c.in_ok-head.ensures.ok in
    let e = c.in_err-assignments.field-0.0 in
    let p = err_from_is_err_and c.from_residual-in_err-assignments.result c.from_residual-in_err-assignments.ensures.1 in
    rw (p.1, p.2)
    (after_line job head_line (FromKept job) (place 0 text) head c.next_value.new.lines e first
    (after_line job kept_line (λ _. FromRows job head) c.next_value.new.lines c.in_ok-kept.kept c.next_value-2.new.lines e c.in_ok-kept.ensures.ok
    (after_lines job row_line head.rows (FromTasks job head) c.next_value-2.new.lines c.in_ok-rows.rows.items c.next_values.new.lines e c.in_ok-rows.ensures.ok
    (after_tasks job head.tasks (FromClerks job head) c.next_values.new.lines c.in_ok-tasks.tasks.items c.next_tasks.new.lines e c.in_ok-tasks.ensures.ok
    (after_lines job clerk_line head.clerks (FromGrants job head) c.next_tasks.new.lines c.in_ok-clerks.clerks.items c.next_values-2.new.lines e c.in_ok-clerks.ensures.ok
    (after_lines job grant_line head.grants (FromAssignments job head) c.next_values-2.new.lines c.in_ok-grants.grants.items c.next_values-3.new.lines e c.in_ok-grants.ensures.ok
    (no_lines job assignment_line head.assignments (FromNotes job head) c.next_values-3.new.lines e c.in_err-assignments.ensures.err)))))))

pub returns-in_err-notes-clause-err : goal.returns-in_err-notes-clause-err
returns-in_err-notes-clause-err c =
    let job = c.args.job.now in
    let text = c.args.text.now in
    let head = c.in_ok-head.head in
    let first : IsNext job head_line (place 0 text) head c.next_value.new.lines = subst (λ at. IsNext job head_line at head c.next_value.new.lines) c.new-lines.ensures c.in_ok-head.ensures.ok in
    let e = c.in_err-notes.field-0.0 in
    let p = err_from_is_err_and c.from_residual-in_err-notes.result c.from_residual-in_err-notes.ensures.1 in
    rw (p.1, p.2)
    (after_line job head_line (FromKept job) (place 0 text) head c.next_value.new.lines e first
    (after_line job kept_line (λ _. FromRows job head) c.next_value.new.lines c.in_ok-kept.kept c.next_value-2.new.lines e c.in_ok-kept.ensures.ok
    (after_lines job row_line head.rows (FromTasks job head) c.next_value-2.new.lines c.in_ok-rows.rows.items c.next_values.new.lines e c.in_ok-rows.ensures.ok
    (after_tasks job head.tasks (FromClerks job head) c.next_values.new.lines c.in_ok-tasks.tasks.items c.next_tasks.new.lines e c.in_ok-tasks.ensures.ok
    (after_lines job clerk_line head.clerks (FromGrants job head) c.next_tasks.new.lines c.in_ok-clerks.clerks.items c.next_values-2.new.lines e c.in_ok-clerks.ensures.ok
    (after_lines job grant_line head.grants (FromAssignments job head) c.next_values-2.new.lines c.in_ok-grants.grants.items c.next_values-3.new.lines e c.in_ok-grants.ensures.ok
    (after_lines job assignment_line head.assignments (FromNotes job head) c.next_values-3.new.lines c.in_ok-assignments.assignments.items c.next_values-4.new.lines e c.in_ok-assignments.ensures.ok
    (no_lines job note_line head.notes (FromHandles job head) c.next_values-4.new.lines e c.in_err-notes.ensures.err))))))))

pub returns-in_err-handles-clause-err : goal.returns-in_err-handles-clause-err
returns-in_err-handles-clause-err c =
    let job = c.args.job.now in
    let text = c.args.text.now in
    let head = c.in_ok-head.head in
    let first : IsNext job head_line (place 0 text) head c.next_value.new.lines = subst (λ at. IsNext job head_line at head c.next_value.new.lines) c.new-lines.ensures c.in_ok-head.ensures.ok in
    let e = c.in_err-handles.field-0.0 in
    let p = err_from_is_err_and c.from_residual-in_err-handles.result c.from_residual-in_err-handles.ensures.1 in
    rw (p.1, p.2)
    (after_line job head_line (FromKept job) (place 0 text) head c.next_value.new.lines e first
    (after_line job kept_line (λ _. FromRows job head) c.next_value.new.lines c.in_ok-kept.kept c.next_value-2.new.lines e c.in_ok-kept.ensures.ok
    (after_lines job row_line head.rows (FromTasks job head) c.next_value-2.new.lines c.in_ok-rows.rows.items c.next_values.new.lines e c.in_ok-rows.ensures.ok
    (after_tasks job head.tasks (FromClerks job head) c.next_values.new.lines c.in_ok-tasks.tasks.items c.next_tasks.new.lines e c.in_ok-tasks.ensures.ok
    (after_lines job clerk_line head.clerks (FromGrants job head) c.next_tasks.new.lines c.in_ok-clerks.clerks.items c.next_values-2.new.lines e c.in_ok-clerks.ensures.ok
    (after_lines job grant_line head.grants (FromAssignments job head) c.next_values-2.new.lines c.in_ok-grants.grants.items c.next_values-3.new.lines e c.in_ok-grants.ensures.ok
    (after_lines job assignment_line head.assignments (FromNotes job head) c.next_values-3.new.lines c.in_ok-assignments.assignments.items c.next_values-4.new.lines e c.in_ok-assignments.ensures.ok
    (after_lines job note_line head.notes (FromHandles job head) c.next_values-4.new.lines c.in_ok-notes.notes.items c.next_values-5.new.lines e c.in_ok-notes.ensures.ok
    (no_lines job handle_line head.handles IsLong c.next_values-5.new.lines e c.in_err-handles.ensures.err)))))))))

pub returns-then-not-is_empty-clause-err : goal.returns-then-not-is_empty-clause-err
returns-then-not-is_empty-clause-err c =
    let job = c.args.job.now in
    let text = c.args.text.now in
    let head = c.in_ok-head.head in
    let first : IsNext job head_line (place 0 text) head c.next_value.new.lines = subst (λ at. IsNext job head_line at head c.next_value.new.lines) c.new-lines.ensures c.in_ok-head.ensures.ok in
    (after_line job head_line (FromKept job) (place 0 text) head c.next_value.new.lines Long first
    (after_line job kept_line (λ _. FromRows job head) c.next_value.new.lines c.in_ok-kept.kept c.next_value-2.new.lines Long c.in_ok-kept.ensures.ok
    (after_lines job row_line head.rows (FromTasks job head) c.next_value-2.new.lines c.in_ok-rows.rows.items c.next_values.new.lines Long c.in_ok-rows.ensures.ok
    (after_tasks job head.tasks (FromClerks job head) c.next_values.new.lines c.in_ok-tasks.tasks.items c.next_tasks.new.lines Long c.in_ok-tasks.ensures.ok
    (after_lines job clerk_line head.clerks (FromGrants job head) c.next_tasks.new.lines c.in_ok-clerks.clerks.items c.next_values-2.new.lines Long c.in_ok-clerks.ensures.ok
    (after_lines job grant_line head.grants (FromAssignments job head) c.next_values-2.new.lines c.in_ok-grants.grants.items c.next_values-3.new.lines Long c.in_ok-grants.ensures.ok
    (after_lines job assignment_line head.assignments (FromNotes job head) c.next_values-3.new.lines c.in_ok-assignments.assignments.items c.next_values-4.new.lines Long c.in_ok-assignments.ensures.ok
    (after_lines job note_line head.notes (FromHandles job head) c.next_values-4.new.lines c.in_ok-notes.notes.items c.next_values-5.new.lines Long c.in_ok-notes.ensures.ok
    (after_lines job handle_line head.handles IsLong c.next_values-5.new.lines c.in_ok-handles.handles.items c.next_values-6.new.lines Long c.in_ok-handles.ensures.ok
    (refl, search rules))))))))))
