-- The texts of what was given.
use Rattle.std.specs.Prelude.{Option, option_map}
use Rattle.std.specs.Borrow.{Bor}
use Rattle.clap.specs.Walk.{Text}
use Rattle.sp_words.specs.Parse.{Texts}
use Rattle.sp_words.specs.declared.given.Given.{Given}

abbrev pub text : Option (Bor Text) → Option Text
text o = option_map (λ t. t.now) o

-- the texts of what was given
abbrev pub texts_in : Given → Texts
texts_in g = record {
  command = text g.command;
  from = text g.from;
  to = text g.to;
  paths = text g.paths;
  seed = text g.seed;
  turns = text g.turns;
  port = text g.port;
  local = text g.local;
  request = text g.request;
}
