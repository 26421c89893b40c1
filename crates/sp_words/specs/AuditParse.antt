-- The auditor's command line as clap reads it: a command, two files in their places, and options that take one value each, in any order.
use Rattle.std.specs.Prelude.{◌≡◌, List, [], Option, Some, codes}
use Rattle.clap.specs.Faults.{fault_of}
use Rattle.clap.specs.Simple.{App, matches_of, new_app, new_rule, with_rule}
use Rattle.clap.specs.Walk.{Rule, Text, first_of}
use Rattle.clap.specs.declared.builder.action.ArgAction.TheVariants.{Set}
use Rattle.sp_words.specs.Parse.{bare, command_rule, with_option}

-- ---- what clap is told

-- a file, which stands in its place, and may be left out
abbrev pub file_rule : Text → Rule
file_rule name = record (new_rule name) { action = Some Set }

-- the program with one more file in its place
abbrev pub with_file : App → Text → App
with_file a name = with_rule a (file_rule name)

-- the program with a command and two files
abbrev pub files_app : App
files_app = with_file (with_file (with_rule (bare (new_app (codes "spinesd-audit"))) command_rule) (codes "first")) (codes "second")

-- the program with all that it takes
abbrev pub audit_app : App
audit_app = with_option (with_option files_app (codes "path")) (codes "from")

-- ---- what it gives

-- what the command, each file and each option were given
pub record AuditTexts : Type 0 where
  pub command : Option Text
  pub first : Option Text
  pub second : Option Text
  pub path : Option Text
  pub from : Option Text

-- by a look-up of names
abbrev pub audit_texts_by : (Text → Option Text) → AuditTexts
audit_texts_by of = record {
  command = of (codes "command");
  first = of (codes "first");
  second = of (codes "second");
  path = of (codes "path");
  from = of (codes "from");
}

-- clap's parse of these words has no fault, and gives these texts
pub record GivesAudit (words : List Text) (texts : AuditTexts) : Type 0 where
  pub parsed : fault_of audit_app words ≡ []
  pub texts_are : texts ≡ audit_texts_by (λ name. first_of name (matches_of audit_app words))
