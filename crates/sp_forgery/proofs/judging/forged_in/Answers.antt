use Rattle.std.proofs.Common.{◌∙◌, sym}
use Rattle.sp_runs.specs.Scenarios.{setting_of}
use Rattle.sp_forgery.proofs.Finding.{fresh_is}
use Rattle.sp_forgery.proofs.judging.forged_in.Goals as goal

pub returns-in-Fresh : goal.returns-in-Fresh
returns-in-Fresh c = λ n u long same fresh more are.
    c.found.ensures
    ∙ fresh_is (setting_of c.args.known.now.scenario.now) c.args.known.now.events.now c.args.known.now.journal.now n u c.args.bytes.now
    c.args.known.now.signature_len
    c.args.items.now more long same (sym c.in-Fresh.is ∙ fresh) are
