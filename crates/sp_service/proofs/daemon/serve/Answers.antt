use Rattle.std.proofs.Common.{None}
use Rattle.sp_service.proofs.Beginnings.{kept_begun, served}
use Rattle.sp_service.proofs.daemon.serve.Goals as goal

pub serve-requires-clause-fresh : goal.serve-requires-clause-fresh
serve-requires-clause-fresh g c = let begun = c.in-Ok.ensures.begins None in begun.begins.fresh

pub serve-requires-clause-held : goal.serve-requires-clause-held
serve-requires-clause-held g c = let begun = c.in-Ok.ensures.begins None in begun.begins.held

pub returns-in-Ok-clause-ends : goal.returns-in-Ok-clause-ends
returns-in-Ok-clause-ends g c =
    served c.args.text.now c.args.is_cut c.args.turns _ _ _ c.in-Ok.daemon c.serve.result (c.in-Ok.ensures.begins (g.C.Clock.told c.args.clock.now))
    c.serve.ensures.ends

pub returns-in-Ok-clause-kept : goal.returns-in-Ok-clause-kept
returns-in-Ok-clause-kept g c =
    kept_begun c.args.text.now c.args.is_cut _ _ c.in-Ok.daemon _ _ _ (c.in-Ok.ensures.begins None) c.in-Ok.ensures.kept c.serve.ensures.kept

pub returns-in-Err-clause-ends : goal.returns-in-Err-clause-ends
returns-in-Err-clause-ends g c = c.in-Err.ensures.ended (g.C.Clock.told c.args.clock.now) c.args.turns
