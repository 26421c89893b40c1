use Rattle.std.proofs.Common.{refl}
use Rattle.sp_lms.proofs.Candidates.{form_within, valid_within}
use Rattle.sp_lms.proofs.both.verify_both.Goals as goal

pub returns-in_default-candidates : goal.returns-in_default-candidates
returns-in_default-candidates c =
    let first = c.args.first.now in
    let second = c.args.second.now in
    let one = c.in-Some-Some.one in
    let other = c.in-Some-Some.other in
    let a = c.in-Some-Some.ensures in
    let b = c.in-Some-Some.ensures' in (
      λ right. cc,
      λ valid. absurd (c.in_default-candidates.ensures.none.0 refl (
        form_within first.key.now.lms first.key.now.ots first.key.now.id first.key.now.root first.msg.now first.sig.now
            one.param one.id.now one.q one.msg.now one.sig.now
            (record { form_is = a.form; param_is = a.key.0; id_is = a.key.1; leaf_is = a.leaf; message_is = a.signature.0; part_is = a.signature.1 }) valid.0,
        form_within second.key.now.lms second.key.now.ots second.key.now.id second.key.now.root second.msg.now second.sig.now
            other.param other.id.now other.q other.msg.now other.sig.now
            (record { form_is = b.form; param_is = b.key.0; id_is = b.key.1; leaf_is = b.leaf; message_is = b.signature.0; part_is = b.signature.1 }) valid.1,
      )),
    )

pub returns-then-is_above : goal.returns-then-is_above
returns-then-is_above c =
    let first = c.args.first.now in
    let second = c.args.second.now in
    let one = c.in-Some-Some.one in
    let other = c.in-Some-Some.other in
    let a = c.in-Some-Some.ensures in
    let b = c.in-Some-Some.ensures' in
    let by_first = valid_within first.key.now.lms first.key.now.ots first.key.now.id first.key.now.root first.msg.now first.sig.now
    one.param one.id.now one.q one.msg.now one.sig.now c.in-Some.keys.0
    (record { form_is = a.form; param_is = a.key.0; id_is = a.key.1; leaf_is = a.leaf; message_is = a.signature.0; part_is = a.signature.1 })
    c.in-Some.ensures.first in
    let by_second = valid_within second.key.now.lms second.key.now.ots second.key.now.id second.key.now.root second.msg.now second.sig.now
    other.param other.id.now other.q other.msg.now other.sig.now c.in-Some.keys.1
    (record { form_is = b.form; param_is = b.key.0; id_is = b.key.1; leaf_is = b.leaf; message_is = b.signature.0; part_is = b.signature.1 })
    c.in-Some.ensures.second in (
      λ right. (by_first.0 (c.is_above.ensures.0 c.if-is_above.true), by_second.0 (c.is_above-then-is_above.ensures.0 right)),
      λ valid. c.is_above-then-is_above.ensures.1 (by_second.1 valid.1),
    )

pub returns-else-is_above : goal.returns-else-is_above
returns-else-is_above c =
    let first = c.args.first.now in
    let one = c.in-Some-Some.one in
    let a = c.in-Some-Some.ensures in
    let by_first = valid_within first.key.now.lms first.key.now.ots first.key.now.id first.key.now.root first.msg.now first.sig.now
    one.param one.id.now one.q one.msg.now one.sig.now c.in-Some.keys.0
    (record { form_is = a.form; param_is = a.key.0; id_is = a.key.1; leaf_is = a.leaf; message_is = a.signature.0; part_is = a.signature.1 })
    c.in-Some.ensures.first in (
      λ right. cc,
      λ valid. c.is_above.ensures.1 (by_first.1 valid.0),
    )
