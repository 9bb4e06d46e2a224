-- What the words of a command line ask for.
use Rattle.std.specs.Prelude.{◌≡◌, ◌≢◌, ◌⊎◌, Bool, true, false, not, List, [], ◌∷◌, ◌++◌, map, codes, Option, Some, None, is_some, MatchOption, option_map, unwrap_or, if◌then◌else◌}
use Rattle.std.specs.Option.{option_or}
use Rattle.clap.specs.Faults.{fault_of}
use Rattle.clap.specs.Kinds.{Kinds}
use Rattle.clap.specs.Lexer.{usize_max}
use Rattle.clap.specs.Simple.{App, Shape, app_of, new_rule, new_shape, subcommand_of, with_rule}
use Rattle.clap.specs.Walk.{Row, Rule, Text, all_of, first_of, one_of, rule_of}
use Rattle.clap.specs.declared.builder.arg.Arg.{Arg}
use Rattle.clap.specs.declared.builder.command.Command.{Command}
use Rattle.clap.specs.declared.builder.command.Command.TheViews.{out-Command}
use Rattle.clap.specs.declared.builder.action.ArgAction.TheVariants.{Append, Set, SetTrue}
use Rattle.command.specs.declared.arguments.Asked.{Asked}
use Rattle.command.specs.declared.arguments.Asked.TheVariants as asked
use Rattle.command.specs.declared.arguments.Misuse.TheVariants as misuse
use Rattle.command.specs.declared.arguments.ScriptText.{ScriptText}
use Rattle.command.specs.declared.arguments.ScriptText.TheVariants as show
use Rattle.command.specs.declared.arguments.Source.{Source}
use Rattle.command.specs.declared.arguments.Source.TheVariants as source
use Rattle.command.specs.declared.arguments.TraceFlags.{TraceFlags}

-- ---- the subcommands, with their options and arguments

-- an option with no value, as `--number`
abbrev pub flag : Text → Rule
flag name = record (new_rule name) { long = Some name; action = Some SetTrue }

-- an option with a value, as `--key KEY`
abbrev pub option : Text → Rule
option name = record (new_rule name) { long = Some name; action = Some Set; value_names = 1 }

-- FILE, which may be left out
abbrev pub file : Rule
file = record (new_rule (codes "FILE")) { action = Some Set }

-- LOG.., one or more
abbrev pub logs : Rule
logs = record (new_rule (codes "LOG")) {
  action = Some Append;
  range = Some (record { start_inclusive = 1; end_inclusive = usize_max });
  required = true;
}

-- a subcommand of this name
abbrev pub subcommand : Text → List Rule → Shape
subcommand name rules = record (new_shape name) { rules = rules }

abbrev pub run_words : Shape
run_words = subcommand (codes "run") (flag (codes "number") ∷ file ∷ [])

-- `audit` before the drift, the states and the logs
abbrev pub audit_flags : Shape
audit_flags = subcommand (codes "audit") (flag (codes "progress") ∷ flag (codes "strict") ∷ flag (codes "all") ∷ [])

abbrev pub audit_drift : Shape
audit_drift = subcommand (codes "audit") (flag (codes "progress") ∷ flag (codes "strict") ∷ flag (codes "all") ∷ option (codes "drift") ∷ [])

abbrev pub audit_from : Shape
audit_from = subcommand (codes "audit") (flag (codes "progress") ∷ flag (codes "strict") ∷ flag (codes "all") ∷ option (codes "drift")
    ∷ option (codes "from") ∷ [])

abbrev pub audit_until : Shape
audit_until = subcommand (codes "audit") (flag (codes "progress") ∷ flag (codes "strict") ∷ flag (codes "all") ∷ option (codes "drift")
    ∷ option (codes "from") ∷ option (codes "until") ∷ [])

abbrev pub audit_words : Shape
audit_words = subcommand (codes "audit") (flag (codes "progress") ∷ flag (codes "strict") ∷ flag (codes "all") ∷ option (codes "drift")
    ∷ option (codes "from") ∷ option (codes "until") ∷ logs ∷ [])

-- `--logs LOG..`, one or more, which may be left out
abbrev pub traced_logs : Rule
traced_logs = record (new_rule (codes "logs")) {
  long = Some (codes "logs");
  action = Some Append;
  range = Some (record { start_inclusive = 1; end_inclusive = usize_max });
  value_names = 1;
}

-- what says which logs are traced, and how
abbrev pub log_rules : List Rule
log_rules = traced_logs ∷ flag (codes "no-calls") ∷ option (codes "drift") ∷ option (codes "from") ∷ option (codes "slice-key") ∷ []

-- `trace`, first before the logs
abbrev pub trace_key : Shape
trace_key = subcommand (codes "trace") (option (codes "key") ∷ [])

abbrev pub trace_words : Shape
trace_words = subcommand (codes "trace") ((option (codes "key") ∷ log_rules) ++ file ∷ [])

-- the command: one of these subcommands must be named
abbrev pub hourstable : App
hourstable = record {
  top = record (new_shape (codes "hourstable")) { is_leaf = false; has_version = true; subcommand_required = true };
  subs = run_words ∷ audit_words ∷ trace_words ∷ [];
}

-- ---- what was given to a subcommand: a row for each option and argument

-- the flag of this name was given
pub record IsFlag (name : Text) (rows : List Row) (is : Bool) : Type 0 where
  pub given : one_of name rows ≡ Some (codes "true") → is ≡ true
  pub not_given : one_of name rows ≡ Some (codes "false") → is ≡ false
  pub unknown : one_of name rows ≡ None → is ≡ false

-- the input is FILE; without one, and for `-`, it is standard input
abbrev pub IsSource : Option Text → Source → Type 0
IsSource file source.Input = (file ≡ None) ⊎ (file ≡ Some (codes "-"))
IsSource file (source.File name) = (file ≡ Some name.now) × (name.now ≢ codes "-")

-- this is written about the script in FILE
abbrev pub IsRequest : ScriptText → List Row → Asked → Type 0
IsRequest text rows (asked.Play request) = (request.text ≡ text) × IsSource (first_of (codes "FILE") rows) request.source
IsRequest text rows _ = ⊥

-- `run [--number] [FILE]`
abbrev pub AsksRun : List Row → Asked → Type 0
AsksRun rows asked = (number : Bool) × IsFlag (codes "number") rows number
    × IsRequest (if number then show.Numbered else show.Lines) rows asked

-- the name of an option, where it was given
abbrev pub option_given : Text → List Row → Option Text
option_given name rows = option_map (λ value. name) (first_of name rows)

-- the name of a flag, where it was given
abbrev pub flag_given : Text → Bool → Option Text
flag_given name given = if given then Some name else None

-- the first that was given of the options that are for logs
abbrev pub log_option_given : Bool → List Row → Option Text
log_option_given no_calls rows =
    option_or (option_or (option_or (flag_given (codes "no-calls") no_calls) (option_given (codes "drift") rows)) (option_given (codes "from") rows))
    (option_given (codes "slice-key") rows)

-- nothing is done: this option is for logs
abbrev pub IsForLogs : Text → Asked → Type 0
IsForLogs option (asked.Misused (misuse.ForLogs given)) = given.now ≡ option
IsForLogs option _ = ⊥

-- a script, unless this option is given, which is for logs
abbrev pub IsOfScript : Option Text → ScriptText → List Row → Asked → Type 0
IsOfScript log_option text rows asked = MatchOption log_option (IsRequest text rows asked) (λ option. IsForLogs option asked)

-- names with one before them, if there is one
abbrev pub with_first : Option Text → List Text → List Text
with_first None names = names
with_first (Some name) names = name ∷ names

-- which trace of logs is wanted
pub record AreTraceFlags (no_calls : Bool) (rows : List Row) (flags : TraceFlags) : Type 0 where
  pub calls : flags.with_calls ≡ not no_calls
  pub drift : option_map (λ w. w.now) flags.drift ≡ first_of (codes "drift") rows
  pub key : option_map (λ w. w.now) flags.key ≡ first_of (codes "key") rows
  pub slice_key : option_map (λ w. w.now) flags.slice_key ≡ first_of (codes "slice-key") rows
  pub from : flags.goes_on ≡ is_some (first_of (codes "from") rows)

-- these logs are traced, after the state to go on from
abbrev pub IsLogTrace : List Text → Bool → List Row → Asked → Type 0
IsLogTrace logs no_calls rows (asked.Trace names flags) =
    (map (λ n. n.now) names.items ≡ with_first (first_of (codes "from") rows) logs) × AreTraceFlags no_calls rows flags
IsLogTrace _ _ _ _ = ⊥

-- nothing is done: this script is given beside logs
abbrev pub IsBeside : Text → Asked → Type 0
IsBeside file (asked.Misused (misuse.ScriptAndLogs given)) = given.now ≡ file
IsBeside _ _ = ⊥

-- logs, unless a script is given too
abbrev pub IsOfLogs : List Text → Bool → List Row → Asked → Type 0
IsOfLogs logs no_calls rows asked = MatchOption (first_of (codes "FILE") rows) (IsLogTrace logs no_calls rows asked) (λ file. IsBeside file asked)

-- logs where some are named, and else a script
abbrev pub IsOfEither : List Text → Bool → ScriptText → List Row → Asked → Type 0
IsOfEither [] no_calls script rows asked = IsOfScript (log_option_given no_calls rows) script rows asked
IsOfEither (log ∷ logs) no_calls script rows asked = IsOfLogs (log ∷ logs) no_calls rows asked

-- the logs that `--logs` names
abbrev pub logs_named : List Row → List Text
logs_named rows = unwrap_or (all_of (codes "logs") rows) []

-- a trace with the stretches for the key that `--key` names
abbrev pub IsTraced : List Row → ScriptText → Type 0
IsTraced rows (show.Traced key) = option_map (λ k. k.now) key ≡ first_of (codes "key") rows
IsTraced rows _ = ⊥

-- `trace [--key KEY] [FILE]`, or
-- `trace [--no-calls] [--drift EXTRA/PER/GRAIN] [--from STATE] [--key KEY | --slice-key NUMBER] --logs LOG..`
abbrev pub AsksTrace : List Row → Asked → Type 0
AsksTrace rows asked = (no_calls : Bool) × IsFlag (codes "no-calls") rows no_calls × (script : ScriptText) × IsTraced rows script
    × IsOfEither (logs_named rows) no_calls script rows asked

-- `audit [--progress] [--strict] [--all] [--drift EXTRA/PER/GRAIN] [--from STATE] [--until STATE] LOG..`: the state to go on from, and all the
-- logs, in their order
abbrev pub AsksAudit : List Row → Asked → Type 0
AsksAudit rows (asked.Audit names progress flags until) =
    (map (λ n. n.now) names.items ≡ with_first (first_of (codes "from") rows) (unwrap_or (all_of (codes "LOG") rows) []))
    × IsFlag (codes "progress") rows progress × IsFlag (codes "strict") rows flags.strict × IsFlag (codes "all") rows flags.all
    × (option_map (λ w. w.now) flags.drift ≡ first_of (codes "drift") rows) × (option_map (λ n. n.now) until ≡ first_of (codes "until") rows)
    × (flags.goes_on ≡ is_some (first_of (codes "from") rows)) × (flags.keeps ≡ is_some (first_of (codes "until") rows))
AsksAudit rows _ = ⊥

-- what is asked for by the subcommand of this name and what was given to it
pub record Asks (name : Text) (rows : List Row) (asked : Asked) : Type 0 where
  pub run : name ≡ codes "run" → AsksRun rows asked
  pub audit : name ≡ codes "audit" → AsksAudit rows asked
  pub trace : name ≡ codes "trace" → AsksTrace rows asked

-- these words ask for this; the first is the name of the program
pub record WordsAsk (words : List Text) (asked : Asked) : Type 0 where
  pub name : Text
  pub rows : List Row
  pub given : subcommand_of hourstable words ≡ Some (name, rows)
  pub asks : Asks name rows asked

-- why these words ask for nothing that the command does, or ask for help or the version
abbrev pub word_faults : List Text → Kinds
word_faults words = fault_of hourstable words

-- ---- what is built for clap

-- the argument is read by this rule
abbrev pub IsArgument : Rule → Arg → Type 0
IsArgument rule argument = (rule_of argument ≡ rule) × (argument.global ≡ false)

-- the command is read as this one
abbrev pub IsReadAs : App → Command → Type 0
IsReadAs app command = (app_of command ≡ app) × ((out-Command command).has_globals ≡ false)

-- a command with no subcommands
abbrev pub leaf : Shape → App
leaf shape = record { top = shape; subs = [] }

-- a command with these options and arguments more
abbrev pub with_rules : App → List Rule → App
with_rules app [] = app
with_rules app (rule ∷ rules) = with_rules (with_rule app rule) rules

-- the command before its subcommands are added
abbrev pub bare_hourstable : App
bare_hourstable = leaf (record (new_shape (codes "hourstable")) { has_version = true; subcommand_required = true })
