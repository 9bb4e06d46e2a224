use Rattle.std.proofs.Common.{rules}
use Rattle.std.specs.Bool.{⊤}
use Rattle.std.proofs.lemmas.Map.Entries.{filter_from_retain_pairs}
use Rattle.serde_json.proofs.Views.{view-Object}
use Rattle.log_line.proofs.Extending.{is_left, members_left}
use Rattle.log_line.proofs.extensions.without_extensions.Goals as goal

pub returns-in-Object : goal.returns-in-Object
returns-in-Object c =
    let kept = filter_from_retain_pairs _ (λ f. ⊤) is_left (λ f k v b w f' i t. (search rules, search rules, tt)) _ _ _ tt c.retain.ensures.filtered in
    rw (view-Object c.retain.new.self, kept, members_left c.in-Object.members.entries, c.in-Object.is, view-Object c.in-Object.members)
