use Rattle.sp_service_turns.proofs.OpenLemmas.{no_start, no_wire}
use Rattle.std.proofs.Common.{rules, ℕ, List, ◌∷◌, [], false, true, subst}
use Rattle.sp_outside.specs.Calls.{Opened, Tells}
use Rattle.sp_service_turns.specs.Told.{IsTold}
use Rattle.sp_service_turns.specs.declared.served.Served.TheVariants as served
use Rattle.sp_service_turns.proofs.opened.open.Goals as goal

pub returns-then-is_err-clause-failed : goal.returns-then-is_err-clause-failed
returns-then-is_err-clause-failed g c =
    let wire : Tells (g.W.Wire.told c.args.wire.now) (g.W.Wire.told c.open.new.self) (Opened c.args.ports.overlay c.args.ports.client false ∷ []) =
    search rules in
    λ clock. no_wire c.args.ports c.args.total c.tell.result _ _ clock _ _ _ wire c.tell.ensures.told

pub returns-in-Err-clause-failed : goal.returns-in-Err-clause-failed
returns-in-Err-clause-failed g c =
    let wire : Tells (g.W.Wire.told c.args.wire.now) (g.W.Wire.told c.open.new.self) (Opened c.args.ports.overlay c.args.ports.client true ∷ []) =
    search rules in
    let told = subst
    (λ (line : List ℕ). IsTold (served.Keys c.in-Err.refused) line c.tell-in-Err.result (g.K.Sink.contents c.args.sink.now)
    (g.K.Sink.contents c.tell-in-Err.new.sink))
    c.line_of.ensures c.tell-in-Err.ensures.told in
    λ clock. no_start c.args.ports c.args.total c.tell-in-Err.result c.in-Err.refused _ _ clock _ _ _ _ _ _ _ _ wire c.in-Err.ensures.refused
    c.in-Err.ensures.kept c.in-Err.ensures.cause told
