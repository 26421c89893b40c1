use Rattle.std.proofs.Common.{◌≡◌, [], ◌∷◌, ◌++◌, All, length, arith, ap, subst, ◌∙◌}
use Rattle.std.proofs.lemmas.List.{length_push}
use Rattle.std.proofs.lemmas.List.Elements.{All-head, All-tail}
use Rattle.std.specs.Vec.Iter.{into_iter_items}
use Rattle.sp_msg.specs.declared.kept.Kept.{Kept}
use Rattle.sp_prio.specs.Spare.{Becomes}
use Rattle.sp_prio.proofs.SpareLemmas.{one_signed}
use Rattle.sp_prio.proofs.spare.Spare.signed_as.Goals as goal

pub copies-preserved : goal.copies-preserved
copies-preserved c =
    let kept = c.args.kept.now in
    let rest = into_iter_items c.next.new.self in
    let steps = c.in-Some.ensures.steps.0 in
    let each : All (Becomes kept) (c.in-Some.copy ∷ rest) = subst (All (Becomes kept)) steps c.copies.invariant.each in
    let body_is = (All-head (Becomes kept) c.in-Some.copy rest each).body_is in
    let made : c.signed.result ≡ kept = c.signed.ensures ∙ λ i. record { body = body_is i; signature = c.as_slice.ensures i } in
    let now : c.push_in_room.new.items.items ≡ c.copies.signed.items ++ kept ∷ [] =
    c.push_in_room.ensures.items ∙ ap (λ (k : Kept). c.copies.signed.items ++ k ∷ []) made in
    record {
      can = tt;
      finite = tt;
      each = All-tail (Becomes kept) c.in-Some.copy rest each;
      alike = one_signed kept c.copies.signed.items c.push_in_room.new.items.items c.copies.invariant.alike now;
      count = omega (arith, ap length now, length_push c.copies.signed.items kept, ap length steps, c.copies.invariant.count);
      roomy = omega (arith, c.copies.invariant.roomy, c.push_in_room.ensures.capacity);
    }
