use Rattle.std.proofs.Common.{◌≡◌, ◌∙◌, [], codes, map, rules, subst, sym}
use Rattle.std.proofs.lemmas.Result.{IfOk-weaker}
use Rattle.std.specs.Option.{option_map_or}
use Rattle.clap.specs.Matches.{found_of, matched_of, raw_values}
use Rattle.clap.specs.Walk.{rows_of}
use Rattle.command.specs.Words.{IsOfScript}
use Rattle.command.specs.declared.arguments.ScriptText.TheVariants as show
use Rattle.command.proofs.Words.{all_given, first_is, flag_is, of_logs, of_script}
use Rattle.command.proofs.arguments.trace_request.Goals as goal

pub returns-then-not-is_empty : goal.returns-then-not-is_empty
returns-then-not-is_empty c =
    let found = found_of c.args.matches.now in
    let given : map (λ n. n.now) c.unwrap_or-logs.result.now ≡ option_map_or raw_values (matched_of found (codes "logs")) [] = search rules in
    let named = given ∙ all_given found (codes "logs") in
    let flag = c.get_flag-no_calls.ensures in
    let is_flag = flag_is found (codes "no-calls") c.get_flag-no_calls.result flag.none flag.value flag.other in
    IfOk-weaker c.log_request.result _ _
    (λ asked is. (c.get_flag-no_calls.result, is_flag, show.Traced c.get_str-key.result, first_is found (codes "key") _ c.get_str-key.ensures, of_logs c.get_flag-no_calls.result (show.Traced c.get_str-key.result) (rows_of found) asked (λ n. n.now) c.unwrap_or-logs.result.now (sym c.is_empty.ensures ∙ c.if-not-is_empty.true) named is))
    c.log_request.ensures

pub returns : goal.returns
returns c =
    let found = found_of c.args.matches.now in
    let given : map (λ n. n.now) c.unwrap_or-logs.result.now ≡ option_map_or raw_values (matched_of found (codes "logs")) [] = search rules in
    let named = given ∙ all_given found (codes "logs") in
    let flag = c.get_flag-no_calls.ensures in
    let is_flag = flag_is found (codes "no-calls") c.get_flag-no_calls.result flag.none flag.value flag.other in (
      c.get_flag-no_calls.result,
      is_flag,
      show.Traced c.get_str-key.result,
      first_is found (codes "key") _ c.get_str-key.ensures,
      of_script c.get_flag-no_calls.result (show.Traced c.get_str-key.result) (rows_of found) _ (λ n. n.now) c.unwrap_or-logs.result.now (search rules) named
          (subst (λ o. IsOfScript o (show.Traced c.get_str-key.result) (rows_of found) c.script_request.result) c.log_option_given-log_option.ensures c.script_request.ensures),
    )
