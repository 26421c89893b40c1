use Rattle.std.proofs.Common.{◌≡◌, ◌≤◌, ◌+◌, ℕ, List, length, Ok, ap, subst, sym, arith, ◌∙◌}
use Rattle.std.specs.Prelude.{IsTrue, is_some, unwrap_or}
use Rattle.std.proofs.lemmas.Bool.Decides.{nat_tests}
use Rattle.sp_adversary.specs.Crafters.{crafters_of}
use Rattle.sp_adversary.specs.Crafting.{CraftsDocument, HasLength}
use Rattle.sp_adversary.specs.declared.crafters.Crafted.{Crafted}
use Rattle.sp_adversary.specs.declared.crafters.Crafted.TheVariants as answers
use Rattle.sp_base.specs.declared.id.NodeId.{NodeId}
use Rattle.sp_frame.specs.declared.writing.TheConstants.{MAX_DOCUMENT_BYTES}
use Rattle.sp_hss.specs.KeyTree.{signature_len}
use Rattle.sp_rules.specs.Node.{NodeState}
use Rattle.sp_runs.specs.Worlds.{node_in}
use Rattle.sp_sign.specs.Heights.{param_of}
use Rattle.sp_world.specs.Scenes.{Scene}
use Rattle.sp_world.proofs.Crafting.{crafted_is_short, list_is_signed, list_is_written, needs_last, node_comes, signed_is_short, unsigned_is_short}
use Rattle.sp_world.proofs.crafts.document.Goals as goal

pub weights_of-weights-requires : goal.weights_of-weights-requires
weights_of-weights-requires c = λ none.
    let what = c.args.what in
    subst (λ (v : Scene). IsTrue (is_some v.published.weights)) (sym c.scene.view_is)
    (needs_last c.args.scenario.now c.args.scene.now.published what.key what.version what.weights.now c.requires.document none)

pub document-requires-clause-can : goal.document-requires-clause-can
document-requires-clause-can c =
    let s = c.args.scenario.now in
    let what = c.args.what in
    let last = c.args.scene.now.published in
    let list = c.weights_of-weights.result.now in
    let made : (own : List ℕ) → list ≡ unwrap_or what.weights.now (unwrap_or last.weights own) = λ own.
    c.weights_of-weights.ensures own
    ∙ ap (λ (v : Scene). unwrap_or c.args.what.weights.now (unwrap_or v.published.weights own)) c.scene.view_is in
    let his : what.key ≡ 0 = grind (arith, nat_tests, c.if-what-eq0.true) in
    list_is_signed s last what.key what.version what.weights.now c.requires.document list made his

pub document_frame-requires : goal.document_frame-requires
document_frame-requires c =
    let s = c.args.scenario.now in
    let what = c.args.what in
    let last = c.args.scene.now.published in
    let list = c.weights_of-weights.result.now in
    let made : (own : List ℕ) → list ≡ unwrap_or what.weights.now (unwrap_or last.weights own) = λ own.
    c.weights_of-weights.ensures own
    ∙ ap (λ (v : Scene). unwrap_or c.args.what.weights.now (unwrap_or v.published.weights own)) c.scene.view_is in
    signed_is_short s last what.key what.version what.weights.now c.requires.document list made c.as_slice.result.now
    (c.as_slice.ensures ∙ c.in_ok-document.ensures)

pub unsigned-requires-clause-can : goal.unsigned-requires-clause-can
unsigned-requires-clause-can c =
    let s = c.args.scenario.now in
    let what = c.args.what in
    let last = c.args.scene.now.published in
    let list = c.weights_of-weights.result.now in
    let made : (own : List ℕ) → list ≡ unwrap_or what.weights.now (unwrap_or last.weights own) = λ own.
    c.weights_of-weights.ensures own
    ∙ ap (λ (v : Scene). unwrap_or c.args.what.weights.now (unwrap_or v.published.weights own)) c.scene.view_is in
    list_is_written s last what.key what.version what.weights.now c.requires.document list made

pub craft_document-requires : goal.craft_document-requires
craft_document-requires c =
    let s = c.args.scenario.now in
    let what = c.args.what in
    let last = c.args.scene.now.published in
    let list = c.weights_of-weights.result.now in
    let made : (own : List ℕ) → list ≡ unwrap_or what.weights.now (unwrap_or last.weights own) = λ own.
    c.weights_of-weights.ensures own
    ∙ ap (λ (v : Scene). unwrap_or c.args.what.weights.now (unwrap_or v.published.weights own)) c.scene.view_is in
    unsigned_is_short s last what.key what.version what.weights.now c.requires.document list made c.as_slice-2.result.now
    (c.as_slice-2.ensures ∙ c.in_ok-unsigned.ensures)

pub document_frame-requires-in-Signed : goal.document_frame-requires-in-Signed
document_frame-requires-in-Signed c =
    let s = c.args.scenario.now in
    let what = c.args.what in
    let last = c.args.scene.now.published in
    let list = c.weights_of-weights.result.now in
    let made : (own : List ℕ) → list ≡ unwrap_or what.weights.now (unwrap_or last.weights own) = λ own.
    c.weights_of-weights.ensures own
    ∙ ap (λ (v : Scene). unwrap_or c.args.what.weights.now (unwrap_or v.published.weights own)) c.scene.view_is in
    let old = c.scene.inside.crafters in
    let unsigned = c.as_slice-2.result.now in
    let of : old ≡ crafters_of s old.keys = subst (λ (v : Scene). v.crafters ≡ crafters_of s v.crafters.keys) (sym c.scene.view_is) c.requires.crafters in
    let long = subst (λ (r : Crafted (List ℕ)). HasLength (length unsigned + signature_len (param_of old.height)) (Ok r)) c.in-Signed.is
    c.in_ok-document-2.ensures.long in
    subst (λ (bs : List ℕ). length bs ≤ MAX_DOCUMENT_BYTES) (sym c.as_slice-in-Signed.ensures)
    (crafted_is_short s last what.key what.version what.weights.now c.requires.document list made old unsigned c.in-Signed.document
    (c.as_slice-2.ensures ∙ c.in_ok-unsigned.ensures) of long)

pub returns-in-Signed-clause-comes : goal.returns-in-Signed-clause-comes
returns-in-Signed-clause-comes c =
    let s = c.args.scenario.now in
    let what = c.args.what in
    let last = c.args.scene.now.published in
    let list = c.weights_of-weights.result.now in
    let made : (own : List ℕ) → list ≡ unwrap_or what.weights.now (unwrap_or last.weights own) = λ own.
    c.weights_of-weights.ensures own
    ∙ ap (λ (v : Scene). unwrap_or c.args.what.weights.now (unwrap_or v.published.weights own)) c.scene.view_is in
    let old = c.args.scene.now in
    let unsigned = c.as_slice-2.result.now in
    let key : NodeId = record { 0 = what.key } in
    let other : 1 ≤ what.key = grind (arith, nat_tests, c.if-what-eq0.false) in
    let new = c.craft_document.new.self in
    let nodes_are : c.deref.result.now ≡ old.nodes = c.deref.ensures.value ∙ ap (λ (v : Scene). v.nodes) c.scene.view_is in
    let done = subst (λ (v : Scene). CraftsDocument v.crafters key unsigned (Ok (answers.Signed c.in-Signed.document)) new) c.scene.view_is
    (subst (λ (r : Crafted (List ℕ)). CraftsDocument c.scene.inside.crafters key unsigned (Ok r) new) c.in-Signed.is c.in_ok-document-2.ensures.crafted) in
    node_comes s old c.args.c c.args.v what.key what.version what.weights.now (λ none. omega (arith, none, other)) list unsigned c.as_slice-in-Signed.result.now
    new c.head_for-head.result c.key_for-tag_key.result c.in_ok-bytes-in-Signed.bytes c.requires.can c.requires.crafters made
    (c.as_slice-2.ensures ∙ c.in_ok-unsigned.ensures)
    (subst (λ (bs : List ℕ). CraftsDocument old.crafters key unsigned (Ok (answers.Signed bs)) new) (sym c.as_slice-in-Signed.ensures) done)
    (λ n at. c.head_for-head.ensures.head n (ap (λ (ns : List NodeState). node_in ns c.args.v) nodes_are ∙ at)) c.key_for-tag_key.ensures
    c.in_ok-bytes-in-Signed.ensures
