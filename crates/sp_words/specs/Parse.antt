-- The command line as clap reads it: a command, and options that take one value each, in any order.
use Rattle.std.specs.Prelude.{◌≡◌, List, [], Option, Some, codes, true}
use Rattle.clap.specs.Faults.{fault_of}
use Rattle.clap.specs.Simple.{App, matches_of, new_app, new_rule, with_rule, on_top}
use Rattle.clap.specs.Walk.{Rule, Text, first_of}
use Rattle.clap.specs.declared.builder.action.ArgAction.TheVariants.{Set}

-- ---- what clap is told

-- an option that takes one value, at most once
abbrev pub option_rule : Text → Rule
option_rule name = record (new_rule name) { long = Some name; action = Some Set }

-- the command, required, in first place
abbrev pub command_rule : Rule
command_rule = record (new_rule (codes "command")) { required = true; action = Some Set }

-- no help, no version, and no program's name before the words
abbrev pub bare : App → App
bare a = on_top (λ s. record s { no_binary_name = true; disable_help_flag = true; disable_version_flag = true }) a

-- the program with one more option
abbrev pub with_option : App → Text → App
with_option a name = with_rule a (option_rule name)

-- the program with a command and the options of paths and seeds
abbrev pub routes_app : App
routes_app = with_option (with_option (with_option (with_option (with_rule (bare (new_app (codes "spinesd"))) command_rule) (codes "from"))
    (codes "to")) (codes "paths")) (codes "seed")

-- the program with all that it takes
abbrev pub app : App
app = with_option (with_option (with_option (with_option routes_app (codes "turns")) (codes "port")) (codes "local")) (codes "request")

-- ---- what it gives

-- what the command and each option were given
pub record Texts : Type 0 where
  pub command : Option Text
  pub from : Option Text
  pub to : Option Text
  pub paths : Option Text
  pub seed : Option Text
  pub turns : Option Text
  pub port : Option Text
  pub local : Option Text
  pub request : Option Text

-- by a look-up of names
abbrev pub texts_by : (Text → Option Text) → Texts
texts_by of = record {
  command = of (codes "command");
  from = of (codes "from");
  to = of (codes "to");
  paths = of (codes "paths");
  seed = of (codes "seed");
  turns = of (codes "turns");
  port = of (codes "port");
  local = of (codes "local");
  request = of (codes "request");
}

-- clap's parse of these words has no fault, and gives these texts
pub record Gives (words : List Text) (texts : Texts) : Type 0 where
  pub parsed : fault_of app words ≡ []
  pub texts_are : texts ≡ texts_by (λ name. first_of name (matches_of app words))
