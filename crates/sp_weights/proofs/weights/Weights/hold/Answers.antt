use Rattle.std.proofs.Common.{◌≡◌, Some, set, sym}
use Rattle.sp_rules.specs.Weights.{row_in}
use Rattle.sp_weights.specs.Sound.{effective_by}
use Rattle.sp_weights.proofs.EffectLemmas.{row_in_is}
use Rattle.sp_weights.proofs.SoundLemmas.{sound_with}
use Rattle.sp_weights.proofs.weights.Weights.hold.Goals as goal

pub invariant_of-self : goal.invariant_of-self
invariant_of-self c =
    let inside = c.self.inside in
    let update = c.in-Weight.update in
    let rows = set inside.rows.items c.in-Some.row (Some c.args.kept) in
    let at : row_in inside.edges.items update.edge.0 update.origin.0 ≡ Some c.in-Some.row = sym (rw c.as_slice.ensures.value at c.in-Some.ensures.row) in
    let is : c.effective_by.result ≡ effective_by inside.least.items rows update.edge.0 =
    rw (c.as_slice-in-Some.ensures.value, c.as_slice-in-Some-2.ensures.value) at c.effective_by.ensures in
    let has = row_in_is inside.edges.items update.edge.0 update.origin.0 c.in-Some.row at in
    sound_with inside.edges.items inside.least.items inside.rows.items inside.active.items inside.in_effect.items
    update.edge.0 c.in-Some.row c.effective_by.result c.args.kept c.requires.range has is c.self.invariant
