-- What clap's matches say of the words.
use Rattle.std.proofs.Common.{◌≡◌, ◌∙◌, Bool, true, false, List, [], ◌∷◌, Option, Some, None, option_map, unwrap_or, length, map, ◌==◌, codes, refl, sym, ap, ap₂, arith, subst}
use Rattle.std.specs.Prelude.{Box, is_some}
use Rattle.std.specs.Box.{box_value}
use Rattle.std.specs.Option.{option_map_or, option_or}
use Rattle.clap.specs.Built.{AddsArg, AddsSubcommand}
use Rattle.clap.specs.Faults.{fault_of, is_simple_and_free}
use Rattle.clap.specs.Kinds.{HasKind}
use Rattle.clap.specs.declared.error.Error.{Error}
use Rattle.clap.specs.Matches.{first_value, matched_of, one_text, raw_values, subcommand_name_of}
use Rattle.clap.specs.Simple.{App, HasMatchesOf, Shape, app_of, is_simple, subcommand_of, subcommand_rows, with_rule, with_subcommand}
use Rattle.clap.specs.Walk.{Row, Rule, Text, all_of, first_of, rows_of}
use Rattle.clap.specs.declared.builder.arg.Arg.{Arg}
use Rattle.clap.specs.declared.builder.command.Command.{Command}
use Rattle.clap.specs.declared.parser.matches.ArgMatches.{ArgMatches}
use Rattle.clap.specs.declared.parser.matches.ArgMatches.TheViews.{out-ArgMatches, out-SubCommand}
use Rattle.clap.specs.declared.parser.matches.Found.{Found}
use Rattle.clap.specs.declared.parser.matches.MatchedArg.{MatchedArg}
use Rattle.clap.specs.declared.parser.matches.SubCommand.{SubCommand}
use Rattle.clap.proofs.WalkLemmas.{first_value-rows, one_text-rows, raw_values-rows}
use Rattle.command.specs.declared.arguments.Asked.{Asked}
use Rattle.command.specs.declared.arguments.ScriptText.{ScriptText}
use Rattle.command.specs.Words.{Asks, IsArgument, IsFlag, IsOfEither, IsOfLogs, IsOfScript, IsReadAs, WordsAsk, hourstable, leaf, log_option_given, logs_named, word_faults}

-- ---- an argument

pub flag_is : (f : Found) (name : Text) (is : Bool) → (one_text f name ≡ None → is ≡ false) → (one_text f name ≡ Some (codes "true") → is ≡ true)
    → (one_text f name ≡ Some (codes "false") → is ≡ false) → IsFlag name (rows_of f) is
flag_is f name is none given not_given = record {
  given = λ e. given (one_text-rows f name ∙ e);
  not_given = λ e. not_given (one_text-rows f name ∙ e);
  unknown = λ e. none (one_text-rows f name ∙ e);
}

pub first_is : (f : Found) (name : Text) (o : Option Text) → o ≡ first_value f name → o ≡ first_of name (rows_of f)
first_is f name o is = is ∙ first_value-rows f name

-- whether a text is given
pub given_so : {A : Type 0} (text : A → Text) (o : Option A) (given : Option Text) → option_map text o ≡ given → is_some o ≡ is_some given
given_so text None None is = refl
given_so text (Some a) (Some t) is = refl
given_so text None (Some t) is = absurd (cc)
given_so text (Some a) None is = absurd (cc)

by_match : (o : Option MatchedArg) → option_map_or raw_values o [] ≡ unwrap_or (option_map raw_values o) []
by_match None = refl
by_match (Some m) = refl

pub all_given : (f : Found) (name : Text) → option_map_or raw_values (matched_of f name) [] ≡ unwrap_or (all_of name (rows_of f)) []
all_given f name = by_match (matched_of f name) ∙ ap (λ (x : Option (List Text)). unwrap_or x []) (raw_values-rows f name)

-- ---- logs or a script

pub map_or : {N M : Type 0} (now : N → M) (a b : Option N) → option_map now (option_or a b) ≡ option_or (option_map now a) (option_map now b)
map_or now None b = refl
map_or now (Some x) b = refl

module _ (no_calls : Bool) (script : ScriptText) (rows : List Row) (asked : Asked) {N : Type 0} (now : N → Text) where
  pub of_logs : (logs : List N) → (length logs == 0) ≡ false → map now logs ≡ logs_named rows → IsOfLogs (map now logs) no_calls rows asked
      → IsOfEither (logs_named rows) no_calls script rows asked
  of_logs [] some same is = absurd (cc)
  of_logs (log ∷ logs) some same is = subst (λ names. IsOfEither names no_calls script rows asked) same is

  pub of_script : (logs : List N) → length logs ≡ 0 → map now logs ≡ logs_named rows → IsOfScript (log_option_given no_calls rows) script rows asked
      → IsOfEither (logs_named rows) no_calls script rows asked
  of_script [] none same is = subst (λ names. IsOfEither names no_calls script rows asked) same is
  of_script (log ∷ logs) none same is = absurd (omega (arith, none))

-- ---- the command

pub one_more : (old sub new : Command) (app : App) (shape : Shape) → IsReadAs app old → IsReadAs (leaf shape) sub → AddsSubcommand old sub new → IsReadAs (with_subcommand app shape) new
one_more old sub new app shape read leaf adds =
    (adds.shape leaf.1 ∙ ap₂ with_subcommand read.0 (ap (λ (a : App). a.top) leaf.0), adds.globals ∙ rw (read.1, leaf.1) refl)

pub one_argument : (old : Command) (a : Arg) (new : Command) (app : App) (rule : Rule) → IsReadAs app old → IsArgument rule a → AddsArg old a new → IsReadAs (with_rule app rule) new
one_argument old a new app rule read is adds = (adds.shape is.1 ∙ ap₂ with_rule read.0 is.0, adds.globals ∙ rw (read.1, is.1) refl)

pub hourstable_is_simple : is_simple hourstable ≡ true
hourstable_is_simple = refl

pub hourstable_is_free : is_simple_and_free hourstable ≡ true
hourstable_is_free = refl

module _ {Z : Type 0} where
  met : (s : Option (Box SubCommand Z)) (name : Text) (rows : List Row) → Some name ≡ option_map (λ b. (out-SubCommand (box_value b)).name.now) s
      → Some rows ≡ option_map (λ p. p.1) (subcommand_rows s) → subcommand_rows s ≡ Some (name, rows)
  met None name rows named given = absurd (cc)
  met (Some b) name rows named given = cc

module _ (command : Command) (m : ArgMatches) (read : IsReadAs hourstable command) where
  pub words_ask : (words : List Text) (name : Text) (rows : List Row) (asked : Asked) → HasMatchesOf (app_of command) words m
      → Some name ≡ subcommand_name_of m → Some rows ≡ option_map (λ p. p.1) (subcommand_rows (out-ArgMatches m).subcommand) → Asks name rows asked → WordsAsk words asked
  words_ask words name rows asked has named given asks =
      let whole = has (ap is_simple read.0 ∙ hourstable_is_simple) in
      record {
        name = name;
        rows = rows;
        given = ap (λ a. subcommand_of a words) (sym read.0) ∙ sym whole.1 ∙ met (out-ArgMatches m).subcommand name rows named given;
        asks = asks;
      }

  pub no_fault : (words : List Text) → (is_simple_and_free (app_of command) ≡ true → fault_of (app_of command) words ≡ []) → word_faults words ≡ []
  no_fault words none = ap (λ a. fault_of a words) (sym read.0) ∙ none (ap is_simple_and_free read.0 ∙ hourstable_is_free)

-- words that clap refuses have one of their faults
pub refused_words : (command : Command) (words : List Text) (e : Error) → IsReadAs hourstable command
    → (is_simple_and_free (app_of command) ≡ true → HasKind (fault_of (app_of command) words) e) → HasKind (word_faults words) e
refused_words command words e read has =
    subst (λ (a : App). HasKind (fault_of a words) e) read.0 (has (ap is_simple_and_free read.0 ∙ hourstable_is_free))
