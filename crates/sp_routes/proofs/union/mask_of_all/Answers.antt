use Rattle.std.proofs.Common.{◌∙◌, ◌||◌, Bool, Some, false, ap, arith}
use Rattle.std.proofs.lemmas.List.{get_or-replicate}
use Rattle.sp_msg.specs.Masks.{bits}
use Rattle.sp_routes.specs.Joined.{flag_place}
use Rattle.sp_routes.specs.declared.joined.TheConstants.{FLAGS}
use Rattle.sp_rules.specs.Masks.{is_used}
use Rattle.sp_routes.proofs.JoinedLemmas.{mask_is}
use Rattle.sp_routes.proofs.union.mask_of_all.Goals as goal

pub returns : goal.returns
returns c =
    let paths = c.args.paths.now in
    mask_is c.join_paths.new.flags c.args.edges.now paths (bits c.mask_of_joined.result) c.requires.ends
    (λ e has. c.join_paths.ensures.adds e has
    ∙ ap (λ (b : Bool). b || is_used paths (Some e)) (get_or-replicate FLAGS (flag_place e.low e.high) false false (omega (arith, has.0, has.1))))
    c.mask_of_joined.ensures
