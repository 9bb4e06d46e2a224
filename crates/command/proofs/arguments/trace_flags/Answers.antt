use Rattle.std.proofs.Common.{◌∙◌, codes, rules}
use Rattle.clap.specs.Matches.{found_of}
use Rattle.command.proofs.Words.{first_is, given_so}
use Rattle.command.proofs.arguments.trace_flags.Goals as goal

pub returns : goal.returns
returns c =
    let found = found_of c.args.matches.now in
    record {
      calls = search rules;
      drift = first_is found (codes "drift") _ c.get_str.ensures;
      key = first_is found (codes "key") _ c.get_str-2.ensures;
      slice_key = first_is found (codes "slice-key") _ c.get_str-3.ensures;
      from = c.is_some.ensures ∙ given_so _ _ _ (first_is found (codes "from") _ c.get_str-4.ensures);
    }
