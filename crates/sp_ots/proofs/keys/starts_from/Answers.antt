use Rattle.std.proofs.Common.{◌≡◌, ℕ, ◌+◌, [], ◌∷◌, ◌++◌, map, take, sym, ap, ◌∙◌, arith}
use Rattle.std.specs.List.{range_with_len}
use Rattle.std.proofs.lemmas.List.{length-set, map-append, take_all, take_more_set}
use Rattle.std.proofs.lemmas.List.FromFn.{map-range_with_len_more}
use Rattle.sha2.specs.Sha256.{sha256}
use Rattle.sp_ots.specs.Lanes.{lanes}
use Rattle.sp_ots.specs.Keys.{private_start}
use Rattle.sp_ots.proofs.keys.starts_from.Goals as goal

pub lanes-preserved : goal.lanes-preserved
unfolding private_start
lanes-preserved c =
    let f = private_start c.args.id.now c.args.q c.args.seed.now in
    let k = c.lanes.k in
    let laid = c.lanes.messages in
    let message = c.element_message.result in
    record {
      long = length-set laid k message ∙ c.lanes.invariant.long;
      made = ap (map sha256) (take_more_set laid k message (omega (arith, c.lanes.invariant.long))) ∙ map-append sha256 (take k laid) (message ∷ [])
          ∙ (λ i. c.lanes.invariant.made i ++ sha256 (c.element_message.ensures i) ∷ [])
          ∙ sym (map-range_with_len_more f c.args.first k (c.args.first + k) (omega arith));
    }

pub returns : goal.returns
returns c =
    let f = private_start c.args.id.now c.args.q c.args.seed.now in
    let all = take_all c.lanes.k c.lanes.messages (omega (arith, c.lanes.invariant.long)) in
    let end : c.lanes.k ≡ lanes = omega arith in
    c.digests.ensures ∙ ap (map sha256) (sym all) ∙ c.lanes.invariant.made ∙ ap (λ (k : ℕ). map f (range_with_len c.args.first k)) end
