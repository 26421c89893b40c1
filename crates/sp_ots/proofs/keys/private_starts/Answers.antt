use Rattle.std.proofs.Common.{rules, ◌≡◌, ◌+◌, ◌-◌, ◌*◌, length, map, min, take, ap, ◌∙◌, arith}
use Rattle.std.specs.List.{range_with_len}
use Rattle.std.proofs.lemmas.Slice.{overwrites}
use Rattle.sp_ots.specs.Lanes.{lanes}
use Rattle.sp_ots.specs.Keys.{private_start}
use Rattle.sp_ots.proofs.Places.{filled_all, group_filled}
use Rattle.sp_ots.proofs.keys.private_starts.Goals as goal

pub groups-preserved : goal.groups-preserved
groups-preserved c =
    let f = private_start c.args.id.now c.args.q c.args.seed.now in
    let n = length c.args.starts.now in
    let first = lanes * c.groups.g in
    let end = c.min-end.result in
    let whole : min n first ≡ first = omega arith in
    let last : min n (lanes * (c.groups.g + 1)) ≡ end = omega arith in
    let before : take first c.groups.starts ≡ map f (range_with_len 0 first) = rw whole at c.groups.invariant.made in
    let values = c.copy_from_slice.ensures.after ∙ ap (take (end - first)) c.starts_from-made.ensures in
    record {
      long = search (rules, overwrites);
      made = rw last (group_filled f c.groups.starts c.copy_from_slice.new.self first end lanes (omega arith) (omega arith) (omega arith) before values);
    }

pub returns : goal.returns
returns c =
    let f = private_start c.args.id.now c.args.q c.args.seed.now in
    let n = length c.args.starts.now in
    filled_all f c.groups.starts (min n (lanes * c.groups.g)) n c.groups.invariant.long (omega arith) (omega arith) c.groups.invariant.made
