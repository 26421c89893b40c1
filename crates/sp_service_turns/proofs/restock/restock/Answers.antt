use Rattle.std.proofs.Common.{◌≡◌, false, refl, rules, true}
use Rattle.std.specs.Prelude.{OnOk}
use Rattle.sp_service_turns.specs.Indexes.{are_few}
use Rattle.sp_service_turns.specs.Keys.{Reserves}
use Rattle.sp_service_turns.specs.Outside.{KeptFile}
use Rattle.sp_service_turns.proofs.EarlyLemmas.{on_ok_by}
use Rattle.sp_service_turns.proofs.KeyLemmas.{due_here, early_restock, reserves, restocked_none, restocked_some}
use Rattle.sp_service_turns.proofs.restock.restock.Given as given
use Rattle.sp_service_turns.proofs.restock.restock.Goals as goal

-- the reserve that returned
the_reserve : (g : given.Over) (c : goal.After-note g) → Reserves c.args.keys.now c.in-Ok.upto
    (record { disk = g.P.Keeper.disk c.args.keeper.now; past = g.P.Keeper.past c.args.keeper.now; faults = g.P.Keeper.faults c.args.keeper.now })
    (record { disk = g.P.Keeper.disk c.reserve.new.keeper; past = g.P.Keeper.past c.reserve.new.keeper; faults = g.P.Keeper.faults c.reserve.new.keeper })
the_reserve g c =
    let few : are_few c.indexes-indexes.result ≡ true = cc in
    reserves c.indexes-indexes.result (g.N.Core.indexes c.args.node.now) c.args.keys.now c.reserve.new.self c.in-Ok.upto c.indexes-indexes.ensures.value
    c.requires.bound c.in-Ok.ensures.bound few
    c.in-Ok.ensures.state _ _ _ _ _ _ c.in-Ok.ensures.file c.in-Ok.ensures.kept c.in-Ok.ensures.sound c.in-Ok.ensures.cause

pub returns-then-not-are_few-clause-restocked : goal.returns-then-not-are_few-clause-restocked
returns-then-not-are_few-clause-restocked g c =
    let many : are_few c.indexes-indexes.result ≡ false = cc in
    restocked_none g.N.Core.steps g.N.Core.indexes c.args.node.now c.args.keys.now _ (g.K.Sink.contents c.args.sink.now) c.indexes-indexes.result
    c.indexes-indexes.ensures.value many

pub returns-in-Ok-clause-restocked : goal.returns-in-Ok-clause-restocked
returns-in-Ok-clause-restocked g c =
    let few : are_few c.indexes-indexes.result ≡ true = cc in
    on_ok_by c.note.result _ _
    (λ text. restocked_some c.indexes-indexes.result (g.N.Core.indexes c.args.node.now) c.args.keys.now c.reserve.new.self c.in-Ok.upto
    c.indexes-indexes.ensures.value c.requires.bound c.in-Ok.ensures.bound
    few c.in-Ok.ensures.state g.N.Core.steps g.N.Core.indexes c.args.node.now c.reserve-in-Ok.new.self _ _ _ _ refl c.indexes-indexes.ensures.ordered
    c.reserve-in-Ok.ensures.step
    c.reserve-in-Ok.ensures.reserved text (the_reserve g c))
    c.note.ensures.whole

pub returns-in-Ok-clause-early : goal.returns-in-Ok-clause-early
returns-in-Ok-clause-early g c =
    let few : are_few c.indexes-indexes.result ≡ true = cc in
    early_restock g.N.Core.steps g.N.Core.indexes c.args.node.now c.reserve-in-Ok.new.self c.args.keys.now c.in-Ok.upto _ _ _ _ c.note.result
    (due_here c.indexes-indexes.result (g.N.Core.indexes c.args.node.now) c.args.keys.now c.reserve.new.self c.in-Ok.upto c.indexes-indexes.ensures.value
    c.requires.bound c.in-Ok.ensures.bound few
    c.in-Ok.ensures.state)
    c.reserve-in-Ok.ensures.step (the_reserve g c) c.note.ensures.front
