use Rattle.std.proofs.Common.{[], ◌∷◌, Option, sym, subst, map}
use Rattle.sp_frame.specs.Views.{as_list, as_object}
use Rattle.sp_frame.specs.declared.object.ObjectRef.{ObjectRef}
use Rattle.std.specs.Prelude.{option_map}
use Rattle.sp_rules.specs.Handle.{handle_all}
use Rattle.sp_rules.specs.Pieces.{AckPiece}
use Rattle.sp_node_arrivals.specs.Done.{IsDone}
use Rattle.sp_node_arrivals.specs.Arrival.{as_arrival}
use Rattle.sp_node_format.specs.Format.{format_of}
use Rattle.sp_node_arrivals.proofs.ack.admit.Goals as goal

pub returns-in-Some-clause-done : goal.returns-in-Some-clause-done
returns-in-Some-clause-done c told =
    let arts = format_of c.args.at.now.fixed.now in
    let at = as_arrival c.args.at.now in
    subst (λ (o : Option ObjectRef).
    IsDone (handle_all arts at c.args.parts.now (map (AckPiece c.args.row.kind c.args.row.place.flow) (as_list (option_map as_object o))))
    c.admit_one.new.parts (c.admit_one.result ∷ []) told told) (sym c.in-Some.is) (c.admit_one.ensures.done told)
