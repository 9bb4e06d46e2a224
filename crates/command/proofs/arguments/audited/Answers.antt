use Rattle.std.proofs.Common.{◌≡◌, ◌∙◌, [], Option, ap, codes, map, option_map, rules, unwrap_or}
use Rattle.clap.specs.Walk.{Text, all_of, rows_of}
use Rattle.std.specs.Option.{option_map_or}
use Rattle.clap.specs.Matches.{found_of, matched_of, raw_values}
use Rattle.command.specs.Words.{with_first}
use Rattle.command.proofs.Words.{all_given, first_is, flag_is, given_so}
use Rattle.command.proofs.arguments.audited.Goals as goal

pub returns : goal.returns
returns c =
    let found = found_of c.args.matches.now in
    let given_are : map (λ n. n.now) c.unwrap_or-given.result.now ≡ option_map_or raw_values (matched_of found (codes "LOG")) [] = search rules in
    let progress = c.get_flag-progress.ensures in
    let strict = c.get_flag-strict.ensures in
    let all = c.get_flag-all.ensures in (
      c.in_ok-names.ensures ∙ ap (with_first (option_map (λ n. n.now) c.get_str-from.result)) (given_are ∙ all_given found (codes "LOG"))
          ∙ ap (λ (f : Option Text). with_first f (unwrap_or (all_of (codes "LOG") (rows_of found)) [])) (first_is found (codes "from") _ c.get_str-from.ensures),
      flag_is found (codes "progress") c.get_flag-progress.result progress.none progress.value progress.other,
      flag_is found (codes "strict") c.get_flag-strict.result strict.none strict.value strict.other,
      flag_is found (codes "all") c.get_flag-all.result all.none all.value all.other,
      first_is found (codes "drift") _ c.get_str-drift.ensures,
      first_is found (codes "until") _ c.get_str-until.ensures,
      c.is_some.ensures ∙ given_so _ _ _ (first_is found (codes "from") _ c.get_str-from.ensures),
      c.is_some-2.ensures ∙ given_so _ _ _ (first_is found (codes "until") _ c.get_str-until.ensures),
    )
