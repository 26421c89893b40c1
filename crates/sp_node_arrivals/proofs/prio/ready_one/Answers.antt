use Rattle.std.proofs.Common.{◌≡◌, ◌∙◌, true, Some, ap, sym}
use Rattle.sp_frame.specs.Views.{as_object}
use Rattle.sp_msg.specs.declared.kept.Kept.{Kept}
use Rattle.sp_prio.specs.Parcel.{Parcel}
use Rattle.sp_rules.specs.Parts.{Parts}
use Rattle.sp_rules.specs.Prio.{places}
use Rattle.sp_node_arrivals.specs.Signed.{is_right}
use Rattle.sp_node_arrivals.proofs.prio.ready_one.Goals as goal

pub returns-clause-ready : goal.returns-clause-ready
returns-clause-ready c =
    let o = as_object c.args.object.now in
    let from = c.args.at.now.from in
    let inside = c.parts.inside in
    let right : true ≡ is_right c.args.at.now.fixed.now o = sym c.if-not-is_right.false ∙ c.is_right.ensures.right in
    record {
      parcel = c.in_ok-parcel_of.ensures
          ∙ ap (λ (k : Kept). let q : Parcel = record { kept = k; came = Some from; copies = places inside.prio k.body (Some from) } in q) c.in_ok-kept.ensures
          ∙ ap (λ (p : Parts). let q : Parcel = record { kept = o; came = Some from; copies = places p.prio o.body (Some from) } in q) c.parts.view_is;
      right = λ dated new. right;
    }
