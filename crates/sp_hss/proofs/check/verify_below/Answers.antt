use Rattle.std.proofs.Common.{◌≡◌, ◌+◌, ◌-◌, length, take, drop, refl, arith}
use Rattle.std.proofs.lemmas.List.{take_rest}
use Rattle.sp_lms.specs.Validity as tree
use Rattle.sp_hss.proofs.Cuts.{parts_stand, read_valid, put_together, signed_at}
use Rattle.sp_hss.proofs.check.verify_below.Goals as goal

pub returns-in_default : goal.returns-in_default
returns-in_default c =
    let none = c.in_default.ensures in
    (λ right. cc, λ signed. absurd (none.none refl signed.3.upper_valid.0 signed.3.upper_valid.1 signed.3.upper_valid.2))

pub returns-then-sig-place : goal.returns-then-sig-place
returns-then-sig-place c =
    let key = c.in-Some.upper in
    let read = c.in-Some.ensures.some in (
      λ right. cc,
      λ signed.
          let cut = parts_stand key.lms key.ots signed.0 signed.1 signed.2 c.args.upper_key.now c.args.msg.now c.args.sig.now read.types signed.3 in
          absurd (omega (arith, cut.long, c.sig_len-place.ensures)),
    )

pub returns-in_default-read : goal.returns-in_default-read
returns-in_default-read c =
    let key = c.in-Some.upper in
    let place = c.sig_len-place.result in
    let size : place + 56 - place ≡ 56 = omega arith in
    let none = c.in_default-read.ensures in (
      λ right. cc,
      λ signed.
          let at = signed_at key.lms key.ots signed.0 signed.1 signed.2 c.args.upper_key.now c.args.msg.now c.args.sig.now c.in-Some.ensures.some.types
          signed.3 in
          let valid : tree.IsValid (take (place + 56 - place) (drop place c.args.sig.now)) c.args.msg.now (drop (place + 56) c.args.sig.now) =
          rw (size, c.sig_len-place.ensures) at.lower_valid in
          absurd (none.none refl valid.0 valid.1 valid.2),
    )

pub returns : goal.returns
returns c =
    let upper = c.in-Some.upper in
    let lower = c.in-Some-read.lower in
    let msg = c.args.msg.now in
    let sig = c.args.sig.now in
    let place = c.sig_len-place.result in
    let size : place + 56 - place ≡ 56 = omega arith in
    let lower_key = take (place + 56 - place) (drop place sig) in
    let rest = take (length sig - (place + 56)) (drop (place + 56) sig) in
    let by_upper = read_valid upper c.args.upper_key.now lower_key (take place sig) c.in-Some.ensures.some in
    let by_lower = read_valid lower lower_key msg rest c.in-Some-read.ensures.some in (
      λ right.
          let both = c.verify_both.ensures.0 right in (
            take place sig,
            take 56 (drop place sig),
            drop (place + 56) sig,
            record {
              parts = put_together sig place;
              upper_valid = rw size at (by_upper.0 both.0);
              lower_valid = rw (size, take_rest sig (place + 56)) at (by_lower.0 both.1);
            },
          ),
      λ signed.
          let at = signed_at upper.lms upper.ots signed.0 signed.1 signed.2 c.args.upper_key.now msg sig c.in-Some.ensures.some.types signed.3 in
          c.verify_both.ensures.1 (
            by_upper.1 (rw (size, c.sig_len-place.ensures) at.upper_valid),
            by_lower.1 (rw (size, take_rest sig (place + 56), c.sig_len-place.ensures) at.lower_valid),
          ),
    )
