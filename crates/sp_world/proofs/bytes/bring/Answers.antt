use Rattle.std.proofs.Common.{List, ap, sym, subst, ◌∙◌}
use Rattle.sp_rules.specs.Node.{NodeState}
use Rattle.sp_runs.specs.Worlds.{frame_in}
use Rattle.sp_world.specs.Scenes.{Scene, world_in}
use Rattle.sp_world.specs.Stands.{CanCraft}
use Rattle.sp_world.proofs.Coming.{craft_may, frame_is_long, said_good, status_may, version_may}
use Rattle.sp_world.proofs.Publishing.{document_may}
use Rattle.sp_world.proofs.bytes.bring.Goals as goal

-- src/bytes.rt:64:32
pub changed-requires-clause-long : goal.changed-requires-clause-long
changed-requires-clause-long c frame at =
    let k = c.args.known.now in
    let f = c.in-Flip in
    frame_is_long k.scenario.now k.events.now k.journal.now (world_in c.args.scene.now) c.args.event.now c.requires.comes.stands f.u f.v f.number frame
    (sym (ap (λ (s : Scene). frame_in s.directions f.u f.v f.number) c.scene-in-Flip.view_is) ∙ at)

-- src/bytes.rt:67:13
pub crafted-requires-clause-can : goal.crafted-requires-clause-can
crafted-requires-clause-can c =
    let k = c.args.known.now in
    let m = c.in-Craft in
    craft_may k.scenario.now k.events.now k.journal.now (world_in c.args.scene.now) c.args.event.now m.c m.v m.key m.object c.requires.comes m.is

-- src/bytes.rt:67:13
pub crafted-requires-clause-fields : goal.crafted-requires-clause-fields
crafted-requires-clause-fields c n at =
    let k = c.args.known.now in
    let m = c.in-Craft in
    said_good k.scenario.now k.events.now k.journal.now (world_in c.args.scene.now) c.args.event.now m.c m.v m.key m.object c.requires.comes m.is n at

-- src/bytes.rt:83:25
pub status-requires : goal.status-requires
status-requires c =
    let k = c.args.known.now in
    let r = c.in-CraftStatus in
    let nodes_are = c.as_slice-nodes.ensures.value ∙ ap (λ (s : Scene). s.nodes) c.scene-in-CraftStatus.view_is in
    record {
      can =
          subst (λ (ns : List NodeState). CanCraft k.scenario.now ns r.c r.v) (sym nodes_are)
          (status_may k.scenario.now k.events.now k.journal.now (world_in c.args.scene.now) c.args.event.now r.c r.v r.s r.d r.base r.have c.requires.comes
          r.is);
    }

pub document-requires-clause-can : goal.document-requires-clause-can
document-requires-clause-can c =
    let k = c.args.known.now in
    let m = c.in-CraftDocument in
    version_may k.scenario.now k.events.now k.journal.now (world_in c.args.scene.now) c.args.event.now m.c m.v m.key m.version m.weights c.requires.comes m.is

pub document-requires-clause-document : goal.document-requires-clause-document
document-requires-clause-document c =
    let k = c.args.known.now in
    let m = c.in-CraftDocument in
    document_may k.scenario.now k.events.now k.journal.now (world_in c.args.scene.now) c.args.event.now m.c m.v m.key m.version m.weights c.requires.comes m.is
